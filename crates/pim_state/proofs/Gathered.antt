-- The groups of several tables, gathered one after the other.
use Rattle.std.{proofs.{Common.{◌≡◌, ◌==◌, ◌||◌, ℕ, List, [], ◌∷◌, ◌++◌, Ok, Err, OnOk, Result, refl, ap, map, sym, ◌∙◌}, lemmas.List.Folds.list_any-append}, specs.{List.list_any, declared.alloc.AllocError.AllocError}}
use Rattle.pim_types.{specs.{Keys.group_in, declared.fact.Key.Key}}
use Rattle.pim_model.{specs.Tables.{ascending, insert_number, is_among}}
use Rattle.law_settled.{proofs.Numbers.{RisesFrom, any_ascending, members_tell, rises_ascending, same_numbers}}
use Rattle.pim_state.{specs.Groups.gathered}

pub gathered_both : (ms ns sorted : List ℕ) → gathered ns (gathered ms sorted) ≡ gathered (ms ++ ns) sorted
unfolding gathered
gathered_both [] ns sorted = refl
gathered_both (m ∷ ms) ns sorted = gathered_both ms ns (insert_number m sorted)

groups_of_both : (xs ys : List Key) → map group_in (xs ++ ys) ≡ map group_in xs ++ map group_in ys
groups_of_both [] ys = refl
groups_of_both (x ∷ xs) ys = ap (λ ns. group_in x ∷ ns) (groups_of_both xs ys)

-- what was gathered of some keys, and then of more
pub gathered_more : (xs ys : List Key) (before found later : List ℕ) → found ≡ gathered (map group_in xs) before
    → later ≡ gathered (map group_in ys) found → later ≡ gathered (map group_in (xs ++ ys)) before
gathered_more xs ys before found later e f =
    f ∙ ap (λ ns. gathered (map group_in ys) ns) e ∙ gathered_both (map group_in xs) (map group_in ys) before
    ∙ ap (λ ns. gathered ns before) (sym (groups_of_both xs ys))

pub gathered_last : (r : Result (Unit {0}) AllocError) (xs ys : List Key) (before found later : List ℕ)
    → found ≡ gathered (map group_in xs) before → OnOk r (later ≡ gathered (map group_in ys) found)
    → OnOk r (later ≡ gathered (map group_in (xs ++ ys)) before)
gathered_last (Ok done) xs ys before found later e f = gathered_more xs ys before found later e f
gathered_last (Err refused) xs ys before found later e f = tt

-- ---- numbers in order, put among numbers that rise

pub put_in_order : (ns sorted : List ℕ) → RisesFrom 0 sorted → gathered (ascending ns) sorted ≡ gathered ns sorted
unfolding gathered ascending is_among
put_in_order ns sorted rises =
    let same : sorted ≡ ascending sorted =
    same_numbers 0 0 sorted (ascending sorted) rises (rises_ascending sorted)
    (λ n. sym (any_ascending (λ m. m == n) sorted)) in
    ap (λ ms. gathered (ascending ns) ms) same ∙ gathered_both sorted (ascending ns) []
    ∙ members_tell (sorted ++ ascending ns) (sorted ++ ns) (λ n.
    any_ascending (λ m. m == n) (sorted ++ ascending ns) ∙ list_any-append (λ m. m == n) sorted (ascending ns)
    ∙ ap (λ b. list_any (λ m. m == n) sorted || b) (any_ascending (λ m. m == n) ns)
    ∙ sym (any_ascending (λ m. m == n) (sorted ++ ns) ∙ list_any-append (λ m. m == n) sorted ns))
    ∙ sym (gathered_both sorted ns []) ∙ sym (ap (λ ms. gathered ns ms) same)
