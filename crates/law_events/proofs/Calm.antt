-- What differs of the interfaces and the neighbours at the end of an event differs after its own change, and the source
-- facts are those that clearing leaves.
use Rattle.std.{proofs.Common.{◌≡◌, ◌==◌, ℕ, zero, suc, Bool, true, List, [], ◌∷◌, map, Option, refl, ◌∙◌, eq-eqb, arith}, specs.List.list_all}
use Rattle.pim_ip.{specs.declared.lan.LanDelay.LanDelay}
use Rattle.pim_types.{specs.declared.fact.{InterfaceRow.InterfaceRow, Key.Key, NeighbourRow.NeighbourRow}}
use Rattle.pim_model.{specs.{Clearing.{Cleared, clear}, declared.accepted.Accepted.Accepted, Firing.{fire_once, fired, settled}, Messages.Message, Reach.{keeps_neighbours, own_firing, passes, to_next}, Registers.settle_registers, Repeat.{after_next, and_then, until_none}, Rows.{same_both, same_interface, same_lan_delay, same_neighbour, same_rows}, State.{State, interfaces_of}, Step.{change, done}, Tables.Table, Timers.Ending, Upstream.{moved_join_timer, moved_override_timer, upstream}, Writing.{hellos_paid, write_all}}}
use Rattle.law_settled.{proofs.SettlingLaws.{kept_by_telling, kept_by_writing}}
use Rattle.law_events.{specs.Calm.is_calm, proofs.{Agreed.rows_equal, Reached.{Keeps, clearing_keeps, one_cleared}, Sights.{bool_itself, options_same}}}

-- ---- interfaces by what counts of their rows

abbrev pub generation_of : Key × InterfaceRow → Key × ℕ
generation_of e = (e.0, (e.1).generation)

abbrev pub generations : Table InterfaceRow → Table ℕ
generations t = map generation_of t

by_generations : (t u : Table InterfaceRow)
    → same_rows same_interface t u ≡ same_rows (λ m n. m == n) (generations t) (generations u)
unfolding same_rows
by_generations [] [] = refl
by_generations [] (y ∷ ys) = refl
by_generations (x ∷ xs) [] = refl
by_generations (x ∷ xs) (y ∷ ys) = grind (arith, by_generations xs ys)

-- the neighbours are the same, and the interfaces in what counts
pub record SameAround (s t : State) : Type 0 where
  pub generations_same : generations s.interfaces ≡ generations t.interfaces
  pub neighbours_same : s.neighbours ≡ t.neighbours

pub kept_alike : (o s t : State) → SameAround s t → keeps_neighbours o s ≡ keeps_neighbours o t
unfolding keeps_neighbours
kept_alike o s t same = grind (arith, by_generations)

lan_itself : (d : Option LanDelay) → same_both same_lan_delay d d ≡ true
lan_itself d = grind (arith, bool_itself, eq-eqb)

neighbour_itself : (r : NeighbourRow) → same_neighbour r r ≡ true
neighbour_itself r = grind (arith, bool_itself, lan_itself, options_same)

pub keeps_itself : (s : State) → keeps_neighbours s s ≡ true
unfolding keeps_neighbours
keeps_itself s = grind (arith, rows_equal, eq-eqb, neighbour_itself)

-- ---- after the own change

module _ (next : State → Option Cleared) (p : State → Bool) (c : State)
    (holds : (t : State) → Keeps c t → p t ≡ true) where
  turn_holds : (n : ℕ)
      → ((t : State) → Keeps c t → list_all p (until_none next to_next n t).1 ≡ true)
      → (t : State) (o : Option Cleared) → Keeps c t
      → list_all p (after_next next to_next (λ u. until_none next to_next n u) t o).1 ≡ true
  unfolding after_next and_then
  turn_holds n ih t o kept = grind (arith, one_cleared)

  all_hold : (n : ℕ) (t : State) → Keeps c t → list_all p (until_none next to_next n t).1 ≡ true
  unfolding until_none
  all_hold zero t kept = refl
  all_hold (suc n) t kept = turn_holds n (all_hold n) t (next t) kept

registers_keep : (c : State) → Keeps c (settle_registers c)
unfolding settle_registers
registers_keep c = grind arith

pub around_of : (c t : State) → Keeps c t → SameAround c t
around_of c t kept = grind arith

pub calm_of_change : (o c : State) → keeps_neighbours o c ≡ true → is_calm o c ≡ true
unfolding is_calm passes
calm_of_change o c kept = grind (arith, kept_alike, around_of, keeps_itself, registers_keep, all_hold)

-- ---- to the end

-- what neither telling nor writing changes
pub record SameFacts (s t : State) : Type 0 where
  pub around : SameAround s t
  pub sources_same : s.sources ≡ t.sources

pub through : (s t u : State) → SameFacts s t → SameFacts t u → SameFacts s u
through s t u f h = grind arith

as_it_is : (s : State) → SameFacts s s
as_it_is s = record { around = record { generations_same = refl; neighbours_same = refl }; sources_same = refl }

telling_keeps : (o a : State) (w : ℕ) → SameFacts a (upstream o a w).0
unfolding moved_join_timer moved_override_timer
telling_keeps o a w =
    kept_by_telling (λ n. Unit {0}) a w (λ d some. tt) (SameFacts a)
    (λ s k change fair f. record {
      around = record {
        generations_same = f.around.generations_same;
        neighbours_same = f.around.neighbours_same;
      };
      sources_same = f.sources_same;
    })
    (λ s k change fair f. record {
      around = record {
        generations_same = f.around.generations_same;
        neighbours_same = f.around.neighbours_same;
      };
      sources_same = f.sources_same;
    }) o (as_it_is a)

paid_generations : (i : ℕ) (t : Table InterfaceRow) → generations t ≡ generations (hellos_paid i t)
unfolding hellos_paid
paid_generations i [] = refl
paid_generations i (x ∷ xs) = grind (arith, paid_generations i xs)

writing_keeps : (s : State) (ms : List Message) → SameFacts s (write_all s ms).0
unfolding write_all
writing_keeps s ms = record {
  around = record {
    generations_same = kept_by_writing (λ t. generations s.interfaces ≡ generations t)
        (λ i t f. f ∙ paid_generations i t) (interfaces_of s) ms refl;
    neighbours_same = refl;
  };
  sources_same = refl;
}

pub settled_same : (o : State) (change : State × List Message) (w : ℕ)
    → SameFacts (clear o change.0).0 (settled o change w).0
unfolding settled
settled_same o change w =
    let after : State = (clear o change.0).0 in
    let told : State = (upstream o after w).0 in
    through after told (settled o change w).0 (telling_keeps o after w) (writing_keeps told _)

calm_by_end : (o : State) (change : State × List Message) (w : ℕ)
    → keeps_neighbours o (settled o change w).0 ≡ true → is_calm o change.0 ≡ true
calm_by_end o change w kept = grind (arith, settled_same, calm_of_change, kept_alike, around_of, clearing_keeps)

pub event_calm : (s : State) (w : ℕ) (a : Accepted)
    → keeps_neighbours s (done s w (change s w a)).state ≡ true → is_calm s (change s w a).state ≡ true
unfolding done
event_calm s w a = calm_by_end s ((change s w a).state, (change s w a).messages) w

pub event_facts : (s : State) (w : ℕ) (a : Accepted)
    → ((clear s (change s w a).state).0).sources ≡ ((done s w (change s w a)).state).sources
unfolding done
event_facts s w a = (settled_same s ((change s w a).state, (change s w a).messages) w).sources_same

pub firing_facts : (s : State) (w : ℕ) (e : Ending)
    → ((clear s (own_firing s e)).0).sources ≡ ((fire_once w s e).0).sources
unfolding fire_once own_firing
firing_facts s w e =
    (settled_same s (fired (record s { present = e.end }) e.timer.kind e.timer.key) w).sources_same
