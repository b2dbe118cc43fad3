-- Facts at other places: the neighbours that go, and what follows, by what was opened.
use Rattle.std.{proofs.Common.{◌≡◌, ◌++◌, ℕ, List, [], filter, fold, append_assoc, sym, subst, ap, ◌∙◌}, specs.List.Sorted.IsStrictlySortedBy}
use Rattle.pim_types.{specs.{Keys.{iface_in, key_cmp}, declared.{fact.{Key.Key, NeighbourRow.NeighbourRow}, outcome.Emission.Emission}}}
use Rattle.pim_model.{specs.{Clearing.{clear, clear_all}, Firing.settled, Hellos.neighbour_due, Messages.Message, Registers.settle_registers, State.State, Tables.{Table, drop_at, drop_where, is_among, keys_in}, Upstream.{fact_keys, upstream}, Writing.write_all}}
use Rattle.law_states.{specs.Placing.without_neighbours}
use Rattle.pim_store.{specs.PimTables.{AreKeyed, pim_tables}}
use Rattle.pim_state.{specs.{Turns.Taking, declared.touched.Touched.Touched}}
use Rattle.pim_views.{specs.{Covers.IsWithin, Openings.opening_of, declared.opening.GroupOpening.GroupOpening}}
use Rattle.pim_register.{specs.Settling.registers_by, proofs.{Opened.registers_of_all, Keyed.registers_are_keyed, Within.registers_are_within}}
use Rattle.pim_asserts.{proofs.{Laws.all_go_by_opened, Facts.clearing_is_within}, specs.Opened.clear_by}
use Rattle.pim_upstream.{specs.Told.upstream_by, proofs.UpstreamLaws.upstream_of_all}
use Rattle.pim_settling.{specs.Settling.{cleared_by, followed_by, settled_by}}
use Rattle.pim_reloader.{proofs.Dropped.passing_dropped}

-- ---- neighbours go

abbrev with_neighbours : State → Table NeighbourRow → State
with_neighbours s t = record s { neighbours = t }

-- the rest of the state stays
pub one_gone : (a s n : State) (k : Key) → s ≡ with_neighbours a s.neighbours → n ≡ neighbour_due s k
    → n ≡ with_neighbours a n.neighbours
unfolding neighbour_due
one_gone a s n k but is =
    is ∙ ap (λ (x : State). with_neighbours x (drop_at s.neighbours k)) but
    ∙ ap (with_neighbours a) (sym (ap (λ (x : State). x.neighbours) is))

pub gone_there : (s n : State) (k : Key) → n ≡ neighbour_due s k → n.neighbours ≡ drop_at s.neighbours k
unfolding neighbour_due
gone_there s n k is = ap (λ (x : State). x.neighbours) is

pub parted_is : (s gone : State) (keys : List Key) (places : List ℕ) → gone ≡ with_neighbours s (fold drop_at s.neighbours keys)
    → keys ≡ keys_in (filter (λ e. is_among (iface_in e.0) places) s.neighbours)
    → IsStrictlySortedBy key_cmp (keys_in s.neighbours) → gone ≡ without_neighbours places s
unfolding without_neighbours drop_where
parted_is s gone keys places goes gathered rises =
    goes
    ∙ ap (λ (ks : List Key). with_neighbours s (fold drop_at s.neighbours ks)) gathered
    ∙ ap (with_neighbours s) (passing_dropped (λ e. is_among (iface_in e.0) places) s.neighbours rises)

-- ---- what follows, where all was opened, whatever the opening was

within_both : (o a b : State) → IsWithin o a → IsWithin a b → IsWithin o b
within_both o a b first second = record {
  groups = λ g there. first.groups g (second.groups g there);
  sources = λ g src there. first.sources g src (second.sources g src there);
}

module _ (a : State) (opening : List GroupOpening) (messages : List Message) (w : ℕ) where
  abbrev registered : State
  registered = registers_by opening a

  abbrev written : State × List Message → State × List Message → State × List Emission
  written after told = write_all told.0 (messages ++ after.1 ++ told.1)

  settled_so : (clears : State → State × List Message) (settles : State → State) (tells : State → State × List Message)
      → settles a ≡ registered → clears registered ≡ clear_by opening registered
      → tells (clear_by opening registered).0 ≡ upstream_by opening (clear_by opening registered).0 w
      → written (clears (settles a)) (tells (clears (settles a)).0) ≡ settled_by opening a messages w
  unfolding settled_by followed_by cleared_by
  settled_so clears settles tells first second third =
      ap (λ (s : State). written (clears s) (tells (clears s).0)) first
      ∙ ap (λ (after : State × List Message). written after (tells after.0)) second
      ∙ ap (λ (told : State × List Message). written (clear_by opening registered) told) third
      ∙ ap (λ (ms : List Message). write_all (upstream_by opening (clear_by opening registered).0 w).0 ms)
      (append_assoc messages (clear_by opening registered).1 (upstream_by opening (clear_by opening registered).0 w).1)

settled_whole : (o a : State) → AreKeyed (pim_tables a) → IsWithin o a → (messages : List Message) (w : ℕ)
    → settled o (a, messages) w ≡ settled_by (opening_of o Touched.All) a messages w
unfolding settled clear
settled_whole o a keyed within messages w =
    let opening : List GroupOpening = opening_of o Touched.All in
    let s : State = registers_by opening a in
    let here : IsWithin o s = within_both o a s within (registers_are_within opening a) in
    let left : AreKeyed (pim_tables s) = registers_are_keyed opening a keyed in
    settled_so a opening messages w (clear_all o) settle_registers (λ t. upstream o t w)
    (registers_of_all o a within keyed keyed.registers_rise)
    (all_go_by_opened o s here left left.asserts_rise left.sources_rise)
    (upstream_of_all o (clear_by opening s).0 w
    (within_both o s (clear_by opening s).0 here (clearing_is_within opening s)))

parted_within : (o : State) (places : List ℕ) → IsWithin o (without_neighbours places o)
unfolding without_neighbours fact_keys
parted_within o places = record { groups = λ g there. there; sources = λ g src there. there }

pub parted_follows : (o a : State) (places : List ℕ) (opening : List GroupOpening) (said : Taking) → AreKeyed (pim_tables a)
    → opening ≡ opening_of o Touched.All → a ≡ without_neighbours places o → said.messages ≡ []
    → settled_by opening a said.messages said.draw ≡ settled o (without_neighbours places o, []) said.draw
parted_follows o a places opening said keyed opens is none =
    (λ j. settled_by (opens j) (is j) (none j) said.draw)
    ∙ sym (settled_whole o (without_neighbours places o) (subst (λ (x : State). AreKeyed (pim_tables x)) is keyed)
    (parted_within o places) [] said.draw)
