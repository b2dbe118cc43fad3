-- Room for facts: keys need at most as many as they are, and where there is room for so many there is for fewer.
use Rattle.std.{proofs.{Common.{◌≡◌, ◌≤◌, ◌+◌, ℕ, Bool, true, false, not, List, [], ◌∷◌, ◌++◌, arith, length, length-append}, lemmas.Bool.Decides.nat_tests}, specs.Prelude.{fold, if◌then◌else◌}}
use Rattle.pim_types.{specs.declared.fact.Key.Key}
use Rattle.law_settled.{proofs.ListLaws.filter_shorter}
use Rattle.pim_model.{specs.{Downstream.is_named, Full.{distinct, needed, once_more, passes_limit}, State.State, Tables.{Table, has_row}}}

grown : (found : List Key) (k : Key) → length (once_more found k) ≤ length found + 1
unfolding once_more
grown found k = go (is_named found k)
  where
    go : (b : Bool) → length (if b then found else found ++ k ∷ []) ≤ length found + 1
    go true = omega arith
    go false = rw (length-append found (k ∷ [])) (omega arith)

all_grown : (ks found : List Key) → length (fold once_more found ks) ≤ length found + length ks
all_grown [] found = omega arith
all_grown (k ∷ ks) found = omega (arith, all_grown ks (once_more found k), grown found k)

pub needed_within : {R : Type 0} (t : Table R) (ks : List Key) → needed t ks ≤ length ks
unfolding needed distinct
needed_within t ks =
    omega (arith, filter_shorter (λ k. not (has_row t k)) (fold once_more [] ks), all_grown ks [])

pub room_for_fewer : (s : State) (few most : ℕ) → few ≤ most → passes_limit s most ≡ false → passes_limit s few ≡ false
unfolding passes_limit
room_for_fewer s few most below e = grind (arith, nat_tests)
