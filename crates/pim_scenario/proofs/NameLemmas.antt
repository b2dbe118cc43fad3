-- Routers have names of their own.
use Rattle.std.{proofs.{Common.{◌≡◌, ◌≢◌, ◌+◌, ◌<◌, ℕ, zero, suc, Bool, true, false, cond, List, [], ◌∷◌, ◌++◌, length, get_or, take, map, Option, Some, None, refl, sym, subst, ◌∙◌, arith}, lemmas.{Bool.false≢true, Slice.{Zip.AllZip-long, Eq.bytes_eq-Decides}, List.{get_or-map, get_or-take, length-map, Quantifiers.{position-Some, all_pairs_push}}, Iterator.Adapters.position_from-zero}}, specs.{List.{AllZip, position_from}, Option.is_some, Prelude.string_bytes, Str.bytes_eq}}
use Rattle.toml.{specs.{Data.Data, View.view, declared.value.Value.Value}}
use Rattle.pim_scenario.{specs.{Scenario.{AreRouters, IsRouter, IsTable, HaveOwnNames, place_of}, declared.scenario.RouterText.RouterText}, proofs.{MoveLemmas.one_name, ReadLemmas.zip_get}}

module _ {X : Type 0} (p : X → Bool) where
  none_step : (x : X) (xs : List X) (i : ℕ) (b : Bool) → p x ≡ b
      → (position_from p (i + 1) xs ≡ None → (k : ℕ) (d : X) → k < length xs → p (get_or xs k d) ≡ false)
      → cond b (Some i) (position_from p (i + 1) xs) ≡ None
      → (k : ℕ) (d : X) → k < length (x ∷ xs) → p (get_or (x ∷ xs) k d) ≡ false
  none_step x xs i true is next e k d below = cc
  none_step x xs i false is next e zero d below = is
  none_step x xs i false is next e (suc k) d below = next e k d (omega arith)

  -- where none passes, each fails
  none_at : (xs : List X) (i : ℕ) → position_from p i xs ≡ None
      → (k : ℕ) (d : X) → k < length xs → p (get_or xs k d) ≡ false
  none_at [] i e k d below = absurd (omega arith)
  none_at (x ∷ xs) i e k d below =
      none_step x xs i (p x) refl (λ f. none_at xs (i + 1) f) e k d below

-- a router whose name isn't there yet
pub names_more : (rs more : List RouterText) (r : RouterText) → more ≡ rs ++ r ∷ []
    → place_of rs (string_bytes r.name) ≡ None → HaveOwnNames rs → HaveOwnNames more
names_more rs more r put none own =
    let named : RouterText → Bool = λ x. bytes_eq (string_bytes x.name) (string_bytes r.name) in
    rw put (all_pairs_push (λ (a b : RouterText). string_bytes a.name ≢ string_bytes b.name) rs r own
    (λ k d below same.
    let other : named (get_or rs k d) ≡ false = none_at named rs 0 (sym (position_from-zero named rs) ∙ none) k d below in
    let one : named (get_or rs k d) ≡ true = (bytes_eq-Decides _ _).1 same in
    cc))

zip_view : (values : List Value) (ss : List RouterText) (k : ℕ) (v : Value) (r : RouterText) → k < length values
    → AllZip (IsTable IsRouter) (map view values) ss → IsTable IsRouter (view (get_or values k v)) (get_or ss k r)
zip_view values ss k v r below all =
    subst (λ (d : Data). IsTable IsRouter d (get_or ss k r)) (get_or-map view values k v (view v) below)
    (zip_get (IsTable IsRouter) (map view values) ss k (view v) r (rw (length-map values view) below) all)

at_place : (o : Option ℕ) → is_some o ≡ true → (k : ℕ) × (o ≡ Some k)
at_place None some = absurd (false≢true some)
at_place (Some k) some = (k, refl)

-- a router of a name that is there already
pub twice : (values : List Value) (rs ss : List RouterText) (i : ℕ) (v : Value) (r : RouterText)
    → i < length values → v ≡ get_or values i v → length rs ≡ i
    → AllZip (λ x y. IsTable IsRouter (view x) y) (take i values) rs → IsTable IsRouter (view v) r
    → is_some (place_of rs (string_bytes r.name)) ≡ true → AreRouters (map view values) ss → ⊥
twice values rs ss i v r below here long read one there is =
    let place = at_place (place_of rs (string_bytes r.name)) there in
    let k : ℕ = place.0 in
    let found = position-Some (λ (x : RouterText). bytes_eq (string_bytes x.name) (string_bytes r.name)) rs k r place.1 in
    let same : string_bytes (get_or rs k r).name ≡ string_bytes r.name = (bytes_eq-Decides _ _).0 found.1 in
    let Reads : Value → RouterText → Type 0 = λ x y. IsTable IsRouter (view x) y in
    let k_below : k < i = omega (arith, found.0) in
    let k_taken : k < length (take i values) = omega (arith, AllZip-long Reads (take i values) rs read, k_below) in
    let first : IsTable IsRouter (view (get_or values k v)) (get_or rs k r) =
    subst (λ (x : Value). IsTable IsRouter (view x) (get_or rs k r)) (get_or-take i values k v k_below)
    (zip_get Reads (take i values) rs k v r k_taken read) in
    let first_too : IsTable IsRouter (view (get_or values k v)) (get_or ss k r) =
    zip_view values ss k v r (omega (arith, k_below)) is.tables in
    let second : IsTable IsRouter (view v) (get_or ss i r) =
    subst (λ (x : Value). IsTable IsRouter (view x) (get_or ss i r)) (sym here) (zip_view values ss i v r below is.tables) in
    let ss_long : length ss ≡ length values =
    AllZip-long (IsTable IsRouter) (map view values) ss is.tables ∙ length-map values view in
    is.names k i r k_below (omega (arith, ss_long))
    (sym (one_name (view (get_or values k v)) (get_or rs k r) (get_or ss k r) first first_too) ∙ same
    ∙ one_name (view v) r (get_or ss i r) one second)
