-- What follows of a change follows of what was opened.
use Rattle.std.{proofs.{Common.{◌≡◌, ◌==◌, ◌&&◌, ◌++◌, ℕ, true, not, List, ap, append_assoc, inl, inr, is_some, sym, ◌∙◌}, lemmas.Bool.or_left}, specs.{Cmp.second_so, List.list_any}}
use Rattle.pim_types.{specs.{declared.{fact.Key.Key, outcome.Emission.Emission}, Keys.{iface_in, names_source}}}
use Rattle.pim_model.{specs.{Clearing.{clear, clear_all}, Firing.settled, Messages.Message, Registers.settle_registers, State.State, Upstream.upstream, Writing.write_all}}
use Rattle.law_settled.{proofs.ListLaws.all_more}
use Rattle.law_events.{specs.{Locality.{IsQuiet, own_settled, own_upstream, touched_clear, touched_registers, touching}, Moved.{HaveSources, MovesAlone}, Adjacent.AdjoinsAlone}, proofs.{Registers.{registers_agree, registers_of_touched}, Settling.settling_is_own, TouchedClearing.clear_of_touched, Touches.touching_is_closed, Moved.{moved_goes, moved_settles}, Taken.facts_stay, Goes.adjoins_goes, NeighbourSettles.adjoins_settles}}
use Rattle.pim_store.{specs.PimTables.{AreKeyed, is_source_key, pim_tables}}
use Rattle.pim_state.{specs.declared.touched.Touched.Touched}
use Rattle.pim_views.{specs.{Covers.{IsWithin, NewAreNamed}, Openings.{has_facts, opening_of}, declared.opening.GroupOpening.GroupOpening}}
use Rattle.pim_register.{specs.Settling.registers_by, proofs.{Opened.{registers_of_all, registers_of_keys}, Keyed.registers_are_keyed, Within.registers_are_within}}
use Rattle.pim_asserts.{proofs.{Laws.{all_go_by_opened, touched_go_by_opened}, Facts.clearing_is_within}, specs.Opened.clear_by}
use Rattle.pim_upstream.{specs.Told.upstream_by, proofs.UpstreamLaws.{upstream_of_all, upstream_of_keys}}
use Rattle.pim_fanout.{specs.Contains.Contains}
use Rattle.pim_settling.{specs.Settling.{cleared_by, followed_by, settled_by}}

-- ---- facts that only become fewer

within_both : (o a b : State) → IsWithin o a → IsWithin a b → IsWithin o b
within_both o a b first second = record {
  groups = λ g there. first.groups g (second.groups g there);
  sources = λ g src there. first.sources g src (second.sources g src there);
}

named_within : (keys : List Key) (o a b : State) → NewAreNamed keys o a → IsWithin a b → NewAreNamed keys o b
named_within keys o a b named within g src there = named g src (within.sources g src there)

-- ---- settling, told, written: each by what was opened

module _ (a : State) (opening : List GroupOpening) (messages : List Message) (w : ℕ) where
  abbrev registered : State
  registered = registers_by opening a

  abbrev written : State × List Message → State × List Message → State × List Emission
  written after told = write_all told.0 (messages ++ after.1 ++ told.1)

  settled_so : (clears : State → State × List Message) (settles : State → State) (tells : State → State × List Message)
      → settles a ≡ registered → clears registered ≡ clear_by opening registered
      → tells (clear_by opening registered).0 ≡ upstream_by opening (clear_by opening registered).0 w
      → written (clears (settles a)) (tells (clears (settles a)).0) ≡ settled_by opening a messages w
  unfolding settled_by followed_by cleared_by
  settled_so clears settles tells first second third =
      ap (λ (s : State). written (clears s) (tells (clears s).0)) first
      ∙ ap (λ (after : State × List Message). written after (tells after.0)) second
      ∙ ap (λ (told : State × List Message). written (clear_by opening registered) told) third
      ∙ ap (λ (ms : List Message). write_all (upstream_by opening (clear_by opening registered).0 w).0 ms)
      (append_assoc messages (clear_by opening registered).1 (upstream_by opening (clear_by opening registered).0 w).1)

-- ---- what routes and RP ranges move

source_there : (k : Key) → is_source_key k ≡ true → is_some k.source ≡ true
source_there k e = second_so ((iface_in k == 0) && not k.rpt) (is_some k.source) e

moved_named : (keys : List Key) (o a : State) → MovesAlone keys o a → NewAreNamed keys o a
moved_named keys o a moves g src there =
    or_left (has_facts o g src) (list_any (names_source g src) keys)
    (ap (λ (ks : List Key). list_any (names_source g src) ks) (sym (facts_stay keys o a moves)) ∙ there)

-- ---- what looks to another neighbour

adjoined_named : (keys : List Key) (o a : State) → AdjoinsAlone keys o a → NewAreNamed keys o a
adjoined_named keys o a adjoins g src there =
    or_left (has_facts o g src) (list_any (names_source g src) keys) (adjoins.facts (names_source g src) there)

module _ (o a : State) (quiet : IsQuiet o) (keyed : AreKeyed (pim_tables a)) where
  sources_have : HaveSources a.sources
  sources_have =
      all_more (λ e. is_source_key e.0) (λ e. is_some (e.0).source) (λ e. source_there e.0) a.sources keyed.sources

  registers_have : HaveSources a.registers
  registers_have =
      all_more (λ e. is_source_key e.0) (λ e. is_some (e.0).source) (λ e. source_there e.0) a.registers keyed.registers

  -- ---- all that follows

  module _ (messages : List Message) (w : ℕ) where
    by_keys : (keys : List Key) → NewAreNamed keys o a
        → settled o (a, messages) w ≡ own_settled keys o (a, messages) w
        → settled o (a, messages) w ≡ settled_by (opening_of o (Touched.Keys keys)) a messages w
    unfolding own_settled
    by_keys keys named own =
        let opening : List GroupOpening = opening_of o (Touched.Keys keys) in
        let s : State = registers_by opening a in
        let here : NewAreNamed keys o s = named_within keys o a s named (registers_are_within opening a) in
        let left : AreKeyed (pim_tables s) = registers_are_keyed opening a keyed in
        own
        ∙ settled_so a opening messages w (touched_clear (touching keys) o) (touched_registers (touching keys))
        (λ t. own_upstream keys o t w)
        (registers_of_keys keys o a named keyed keyed.registers_rise)
        (touched_go_by_opened keys o s here left left.asserts_rise left.sources_rise)
        (upstream_of_keys keys o (clear_by opening s).0 w
        (named_within keys o s (clear_by opening s).0 here (clearing_is_within opening s)))

    by_moves : (keys : List Key) → MovesAlone keys o a
        → settled o (a, messages) w ≡ settled_by (opening_of o (Touched.Keys keys)) a messages w
    by_moves keys moves =
        by_keys keys (moved_named keys o a moves)
        (moved_settles keys o a quiet moves sources_have registers_have messages w)

    pub settled_as_opened : (touched : Touched) → Contains touched o a
        → settled o (a, messages) w ≡ settled_by (opening_of o touched) a messages w
    unfolding settled clear
    settled_as_opened Touched.All (inl (inl within)) =
        let opening : List GroupOpening = opening_of o Touched.All in
        let s : State = registers_by opening a in
        let here : IsWithin o s = within_both o a s within (registers_are_within opening a) in
        let left : AreKeyed (pim_tables s) = registers_are_keyed opening a keyed in
        settled_so a opening messages w (clear_all o) settle_registers (λ t. upstream o t w)
        (registers_of_all o a within keyed keyed.registers_rise)
        (all_go_by_opened o s here left left.asserts_rise left.sources_rise)
        (upstream_of_all o (clear_by opening s).0 w
        (within_both o s (clear_by opening s).0 here (clearing_is_within opening s)))
    settled_as_opened Touched.All (inl (inr none)) = absurd none
    settled_as_opened Touched.All (inr (inl none)) = absurd none
    settled_as_opened Touched.All (inr (inr none)) = absurd none
    settled_as_opened (Touched.Keys keys) (inl (inl concerns)) =
        by_keys keys concerns.named (settling_is_own keys o quiet (a, messages) w concerns.agrees)
    settled_as_opened (Touched.Keys keys) (inl (inr moves)) = by_moves keys moves.0
    settled_as_opened (Touched.Keys keys) (inr (inr switches)) = by_moves keys switches
    settled_as_opened (Touched.Keys keys) (inr (inl adjoins)) =
        by_keys keys (adjoined_named keys o a adjoins) (adjoins_settles keys o a quiet adjoins messages w)

  -- ---- what clearing leaves, by what was opened

  cleared_by_keys : (keys : List Key) → NewAreNamed keys o a
      → clear o a ≡ touched_clear (touching keys) o (touched_registers (touching keys) a)
      → (clear o a).0 ≡ (cleared_by (opening_of o (Touched.Keys keys)) a).0
  unfolding cleared_by
  cleared_by_keys keys named own =
      let opening : List GroupOpening = opening_of o (Touched.Keys keys) in
      let s : State = registers_by opening a in
      let here : NewAreNamed keys o s = named_within keys o a s named (registers_are_within opening a) in
      let left : AreKeyed (pim_tables s) = registers_are_keyed opening a keyed in
      ap (λ (p : State × List Message). p.0) own
      ∙ ap (λ (t : State). (touched_clear (touching keys) o t).0)
      (registers_of_keys keys o a named keyed keyed.registers_rise)
      ∙ ap (λ (p : State × List Message). p.0)
      (touched_go_by_opened keys o s here left left.asserts_rise left.sources_rise)

  cleared_by_moves : (keys : List Key) → MovesAlone keys o a
      → (clear o a).0 ≡ (cleared_by (opening_of o (Touched.Keys keys)) a).0
  cleared_by_moves keys moves =
      cleared_by_keys keys (moved_named keys o a moves) (moved_goes keys o a quiet moves sources_have registers_have)

  pub cleared_as_opened : (touched : Touched) → Contains touched o a
      → (clear o a).0 ≡ (cleared_by (opening_of o touched) a).0
  unfolding clear cleared_by
  cleared_as_opened Touched.All (inl (inl within)) =
      let opening : List GroupOpening = opening_of o Touched.All in
      let s : State = registers_by opening a in
      let here : IsWithin o s = within_both o a s within (registers_are_within opening a) in
      let left : AreKeyed (pim_tables s) = registers_are_keyed opening a keyed in
      ap (λ (t : State). (clear_all o t).0) (registers_of_all o a within keyed keyed.registers_rise)
      ∙ ap (λ (p : State × List Message). p.0) (all_go_by_opened o s here left left.asserts_rise left.sources_rise)
  cleared_as_opened Touched.All (inl (inr none)) = absurd none
  cleared_as_opened Touched.All (inr (inl none)) = absurd none
  cleared_as_opened Touched.All (inr (inr none)) = absurd none
  cleared_as_opened (Touched.Keys keys) (inl (inl concerns)) =
      cleared_by_keys keys concerns.named
      (ap (clear_all o) (registers_of_touched (touching keys) (touching_is_closed keys) o quiet a concerns.agrees)
      ∙ clear_of_touched (touching keys) o (touching_is_closed keys) quiet (touched_registers (touching keys) a)
      (registers_agree (touching keys) (touching_is_closed keys) o a concerns.agrees))
  cleared_as_opened (Touched.Keys keys) (inl (inr moves)) = cleared_by_moves keys moves.0
  cleared_as_opened (Touched.Keys keys) (inr (inr switches)) = cleared_by_moves keys switches
  cleared_as_opened (Touched.Keys keys) (inr (inl adjoins)) =
      cleared_by_keys keys (adjoined_named keys o a adjoins) (adjoins_goes keys o a quiet adjoins)
