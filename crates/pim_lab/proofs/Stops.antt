-- Stops on the way, one after the other.
use Rattle.std.{proofs.{Common.{◌≡◌, ◌∙◌, ◌++◌, ◌+◌, ◌-◌, ◌<◌, ◌≤◌, ℕ, suc, true, List, [], ◌∷◌, Some, None, ap, append-nil, append_assoc, arith, nat_le, refl, sym}, lemmas.Bool.Decides.nat_tests}}
use Rattle.pim_model.{specs.Judging.last_moment}
use Rattle.pim_anycast.{specs.declared.set.RpSet.RpSet}
use Rattle.pim_lab.{specs.Stops.{most_stops, next_stop, stops_from, stops_on}}

module _ (sets : List RpSet) (moment present n i : ℕ) (below : i < n) where
  left : n - i ≡ suc (n - (i + 1))
  left = omega (arith, below)

  one_stop : (next : ℕ) → next_stop sets moment present ≡ Some next
      → stops_from (n - i) sets moment present ≡ next ∷ stops_from (n - (i + 1)) sets moment next
  unfolding stops_from
  one_stop next is = ap (λ k. stops_from k sets moment present) left ∙ (rw is refl)

  no_stop : next_stop sets moment present ≡ None → stops_from (n - i) sets moment present ≡ []
  unfolding stops_from
  no_stop is = ap (λ k. stops_from k sets moment present) left ∙ (rw is refl)

  -- one more was found
  pub more_stops : (found new all : List ℕ) (next : ℕ) → next_stop sets moment present ≡ Some next → new ≡ found ++ next ∷ []
      → found ++ stops_from (n - i) sets moment present ≡ all → new ++ stops_from (n - (i + 1)) sets moment next ≡ all
  more_stops found new all next is put so =
      ap (λ (xs : List ℕ). xs ++ stops_from (n - (i + 1)) sets moment next) put
      ∙ append_assoc found (next ∷ []) (stops_from (n - (i + 1)) sets moment next)
      ∙ ap (λ (xs : List ℕ). found ++ xs) (sym (one_stop next is)) ∙ so

  -- no more is there
  pub last_stop : (found all : List ℕ) → next_stop sets moment present ≡ None
      → found ++ stops_from (n - i) sets moment present ≡ all → found ≡ all
  last_stop found all is so = sym (append-nil found) ∙ ap (λ (xs : List ℕ). found ++ xs) (sym (no_stop is)) ∙ so

-- as many as there may be were found
pub most_found : (sets : List RpSet) (moment present n i : ℕ) (found all : List ℕ) → n ≤ i
    → found ++ stops_from (n - i) sets moment present ≡ all → found ≡ all
unfolding stops_from
most_found sets moment present n i found all past so =
    let none : n - i ≡ 0 = omega (arith, past) in
    sym (append-nil found) ∙ ap (λ (k : ℕ). found ++ stops_from k sets moment present) (sym none) ∙ so

-- an event may have the timestamp
pub in_time : (sets : List RpSet) (present moment : ℕ) → moment ≤ last_moment
    → stops_on sets present moment ≡ stops_from most_stops sets moment present
unfolding stops_on
in_time sets present moment below =
    let may : nat_le moment last_moment ≡ true = grind (arith, nat_tests, below) in rw may refl
