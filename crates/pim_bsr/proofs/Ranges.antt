-- The configured ranges alone, and lists of ranges that are the same.
use Rattle.std.{proofs.{Common.{◌≡◌, ℕ, ◌<◌, Bool, true, false, not, nat_le, nat_lt, ◌||◌, ◌==◌, List, [], ◌∷◌, filter, fold, length, Option, Some, None, min, take, refl, sym, ap, ◌∙◌, arith, append-nil, inl, inr}, lemmas.Bool.{cases_lt, Decides.nat_tests}}, specs.List.{list_all, list_any}}
use Rattle.pim_types.{specs.declared.config.RpRange.RpRange}
use Rattle.pim_bsr.{specs.{Joined.{earlier, first_end, is_due}, Laws.{StaticAlone, StaticFirst, ends_by}, Table.{Known, at_time, candidates_by, given_of, has_candidate, has_range, moves, moves_by, ranges_by, runs, same_candidate, same_candidates, same_range, same_ranges}, declared.{choice.Choice.Choice, learned.Learned.Learned}}, proofs.Lists.{all_first, all_left, and_both, and_first, and_second, first_few}}

-- none of the RPs runs
none_runs : (now : ℕ) (ls : List Learned) → list_all (ends_by now) ls ≡ true → filter (runs now) ls ≡ []
none_runs now [] over = refl
none_runs now (l ∷ ls) over =
    let ended : nat_lt now l.end ≡ false = grind (arith, nat_tests, and_first (ends_by now l) _ over) in
    rw ended (none_runs now ls (and_second (ends_by now l) _ over))

-- without RPs in force there are the configured ranges alone
pub alone : (choice : Choice) (static : List RpRange) (rps : List Learned) → rps ≡ []
    → (ranges_by choice static rps ≡ static) × (candidates_by choice rps ≡ [])
unfolding given_of
alone Choice.Range static rps none = (rw none (append-nil static), refl)
alone Choice.Group static rps none = (refl, rw none refl)

pub static_first : StaticFirst
static_first k none = alone k.choice k.static k.table.rps none

pub static_alone : StaticAlone
unfolding at_time
static_alone k now over = alone k.choice k.static (filter (runs now) k.table.rps) (none_runs now k.table.rps over)

-- ---- the same ranges

range_itself : (r : RpRange) → same_range r r ≡ true
range_itself r = grind (arith, nat_tests)

either : (a b : Bool) → b ≡ true → (a || b) ≡ true
either true b e = refl
either false b e = e

more_has : (x : RpRange) (xs ys : List RpRange) → list_all (has_range xs) ys ≡ true → list_all (has_range (x ∷ xs)) ys ≡ true
unfolding has_range
more_has x xs [] e = refl
more_has x xs (y ∷ ys) e =
    and_both (has_range (x ∷ xs) y) _ (either (same_range y x) (list_any (same_range y) xs) (and_first (has_range xs y) _ e))
    (more_has x xs ys (and_second (has_range xs y) _ e))

all_has : (xs : List RpRange) → list_all (has_range xs) xs ≡ true
unfolding has_range
all_has [] = refl
all_has (x ∷ xs) = and_both (has_range (x ∷ xs) x) _ (rw (range_itself x) refl) (more_has x xs xs (all_has xs))

pub same_itself : (xs : List RpRange) → same_ranges xs xs ≡ true
unfolding same_ranges
same_itself xs = and_both (length xs == length xs) _ (grind (arith, nat_tests)) (all_has xs)

-- ---- before the first end

abbrev first_of : Option ℕ → List Learned → Option ℕ
first_of first ls = fold (λ (first : Option ℕ) (l : Learned). Some (earlier l.end first)) first ls

-- the earlier of two is due where one is
not_due : (end moment : ℕ) (o : Option ℕ) → nat_le (earlier end o) moment ≡ false
    → (nat_lt moment end ≡ true) × (is_due o moment ≡ false)
not_due end moment None e = (grind (arith, nat_tests, e), refl)
not_due end moment (Some other) e =
    let ahead : moment < min end other = grind (arith, nat_tests, e) in
    let mine : moment < end = omega (arith, ahead) in
    let theirs : moment < other = omega (arith, ahead) in
    (grind (arith, nat_tests, mine), grind (arith, nat_tests, theirs))

none_due_from : (moment : ℕ) (ls : List Learned) (first : Option ℕ) → is_due (first_of first ls) moment ≡ false
    → (is_due first moment ≡ false) × (list_all (runs moment) ls ≡ true)
none_due_from moment [] first e = (e, refl)
none_due_from moment (l ∷ ls) first e =
    let later = none_due_from moment ls (Some (earlier l.end first)) e in
    let both = not_due l.end moment first later.0 in
    (both.1, and_both (nat_lt moment l.end) _ both.0 later.1)

-- where the first end isn't due none is
pub none_due : (moment : ℕ) (ls : List Learned) → is_due (first_end ls) moment ≡ false → list_all (runs moment) ls ≡ true
unfolding first_end
none_due moment ls e = (none_due_from moment ls None e).1

-- ---- the same candidates

candidate_itself : (l : Learned) → same_candidate l l ≡ true
candidate_itself l = grind (arith, nat_tests)

more_candidates : (l : Learned) (ls qs : List Learned) → list_all (has_candidate ls) qs ≡ true
    → list_all (has_candidate (l ∷ ls)) qs ≡ true
unfolding has_candidate
more_candidates l ls [] e = refl
more_candidates l ls (q ∷ qs) e =
    and_both (has_candidate (l ∷ ls) q) _ (either (same_candidate q l) (has_candidate ls q) (and_first (has_candidate ls q) _ e))
    (more_candidates l ls qs (and_second (has_candidate ls q) _ e))

all_candidates : (ls : List Learned) → list_all (has_candidate ls) ls ≡ true
unfolding has_candidate
all_candidates [] = refl
all_candidates (l ∷ ls) =
    and_both (has_candidate (l ∷ ls) l) _ (rw (candidate_itself l) refl) (more_candidates l ls ls (all_candidates ls))

candidates_themselves : (ls : List Learned) → same_candidates ls ls ≡ true
unfolding same_candidates
candidates_themselves ls = and_both (length ls == length ls) _ (grind (arith, nat_tests)) (all_candidates ls)

-- the same RPs in force move nothing
pub same_unmoved : (choice : Choice) (static : List RpRange) (rps : List Learned) → moves_by choice static rps rps ≡ false
same_unmoved Choice.Range static rps = ap not (same_itself (given_of static rps))
same_unmoved Choice.Group static rps = ap not (candidates_themselves rps)

-- where no end is due nothing moves
pub not_moved : (k : Known) (moment : ℕ) → is_due (first_end k.table.rps) moment ≡ false → moves k (at_time moment k) ≡ false
unfolding at_time
not_moved k moment e =
    ap (λ (ls : List Learned). moves_by k.choice k.static k.table.rps ls)
    (all_left (runs moment) k.table.rps (none_due moment k.table.rps e))
    ∙ same_unmoved k.choice k.static k.table.rps

-- of candidates some are lost where there is no room for all
pub lost_by_room : (room : ℕ) (rps : List Learned) → not (same_candidates rps (take room rps)) ≡ nat_lt room (length rps)
unfolding same_candidates
lost_by_room room rps = elim (cases_lt room (length rps)) [
  | inl less ↦
      let few = first_few room rps in
      let differ : (length rps == length (take room rps)) ≡ false = grind (arith, nat_tests, few, less) in
      let short : nat_lt room (length rps) ≡ true = grind (arith, nat_tests, less) in
      rw (differ, short) refl
  | inr more ↦
      let enough : nat_lt room (length rps) ≡ false = grind (arith, nat_tests, more) in
      rw enough (ap (λ (ls : List Learned). not (same_candidates rps ls)) (all_first room rps more) ∙ ap not (candidates_themselves rps))
]

-- the first members, counted by the shorter of two numbers
pub first_of_both : {X : Type 0} (n : ℕ) (xs : List X) → take (min (length xs) n) xs ≡ take n xs
first_of_both n xs = elim (cases_lt n (length xs)) [
  | inl less ↦ let is : min (length xs) n ≡ n = omega (arith, less) in ap (λ (m : ℕ). take m xs) is
  | inr more ↦
      let is : min (length xs) n ≡ length xs = omega (arith, more) in
      ap (λ (m : ℕ). take m xs) is ∙ all_first (length xs) xs (omega arith) ∙ sym (all_first n xs more)
]
