-- A fact that is there: its group is among the groups of all facts, and its source among those of the group.
use Rattle.std.{proofs.{Common.{◌≡◌, ◌==◌, ◌||◌, ℕ, Bool, true, false, List, [], ◌∷◌, Option, is_none, is_some, ◌∙◌, eq-eqb, eqb-true, arith}, lemmas.{Bool.{or_left, or_right}, List.Folds.list_any-append}}, specs.List.{AllByRecursion, flat_map, list_any}}
use Rattle.pim_ip.{specs.declared.addr.Addr.Addr}
use Rattle.pim_types.{specs.{declared.fact.Key.Key, Keys.{group_in, source_in}}}
use Rattle.pim_model.{specs.Upstream.{groups_of, sources_of}}
use Rattle.law_settled.{proofs.{ListLaws.{each_more, either}, Numbers.any_ascending, TableLaws.{any_in_filter, any_of_map}}}

-- what passes any test says that one of the list does
pub each_is_there : {X : Type 0} (xs : List X) → AllByRecursion (λ x. (p : X → Bool) → p x ≡ true → list_any p xs ≡ true) xs
each_is_there [] = tt
each_is_there (x ∷ xs) = grind (arith, each_is_there xs, or_left, each_more, or_right)

pub in_each : (p : Key → Bool) (f : ℕ → List Key) (g : ℕ) (gs : List ℕ) → list_any (λ m. m == g) gs ≡ true
    → list_any p (f g) ≡ true → list_any p (flat_map f gs) ≡ true
in_each p f g [] there e = cc
in_each p f g (h ∷ hs) there e =
    list_any-append p (f h) (flat_map f hs)
    ∙ either (h == g) (list_any (λ m. m == g) hs)
    (λ same. or_left (list_any p (f h)) (list_any p (flat_map f hs))
    ((λ j. list_any p (f (eqb-true h g same j))) ∙ e))
    (λ later. or_right (list_any p (f h)) (list_any p (flat_map f hs)) (in_each p f g hs later e)) there

-- there is such a key
abbrev pub IsThere : List Key → Key → Type 0
IsThere ks k = (p : Key → Bool) → p k ≡ true → list_any p ks ≡ true

pub group_there : (ks : List Key) (k : Key) → IsThere ks k → list_any (λ m. m == group_in k) (groups_of ks) ≡ true
unfolding groups_of
group_there ks k there = grind (arith, any_ascending, any_of_map, eq-eqb)

pub source_there : (ks : List Key) (k : Key) → IsThere ks k → is_some k.source ≡ true
    → list_any (λ m. m == source_in k) (sources_of (group_in k) ks) ≡ true
unfolding sources_of
source_there ks k there some = grind (arith, any_ascending, any_of_map, any_in_filter, eq-eqb)

pub unless_star : (n x y : Bool) → (n ≡ false → (x || y) ≡ true) → (n || x || y) ≡ true
unless_star n x y f = grind arith

pub some_source : (o : Option Addr) → is_none o ≡ false → is_some o ≡ true
some_source o e = grind arith

pub isnt_star : (o : Option Addr) → is_some o ≡ true → is_none o ≡ false
isnt_star o e = grind arith
