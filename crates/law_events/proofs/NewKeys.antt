-- A row that is new stands under a key at which rows differ.
use Rattle.std.{proofs.{Common.{◌≡◌, ◌||◌, Bool, true, false, not, List, [], ◌∷◌, ◌++◌, Option, is_some, refl, sym, ap, ◌∙◌, arith}, lemmas.{Bool.{or_left, or_right}, List.Folds.list_any-append}}, specs.List.{filter, list_any}}
use Rattle.pim_types.{specs.{declared.fact.Key.Key, Keys.same_key}, proofs.Keys.{equal_keys, same_key_same}}
use Rattle.pim_model.{specs.{Rows.same_both, State.State, Tables.{Table, has_row, keys_in, row_at}}}
use Rattle.law_settled.{proofs.{ListLaws.any_more, TableLaws.any_in_filter}}
use Rattle.law_events.{specs.Differing.{differing, differing_in, read_keys, same_at}, proofs.Differing.{any_of_six, passing_named, row_named}}

-- one of the keys that pass
pub one_of : (p : Key → Bool) (goal : Bool) (ks : List Key)
    → ((k : Key) → p k ≡ true → list_any (same_key k) ks ≡ true → goal ≡ true) → list_any p ks ≡ true → goal ≡ true
one_of p goal [] f e = cc
one_of p goal (k ∷ ks) f e =
    go (p k) refl e
    (one_of p goal ks (λ q h there. f q h (or_right (same_key q k) (list_any (same_key q) ks) there)))
  where
    go : (b : Bool) → p k ≡ b → (b || list_any p ks) ≡ true → (list_any p ks ≡ true → goal ≡ true) → goal ≡ true
    go true is h ih = f k is (or_left (same_key k k) (list_any (same_key k) ks) (same_key_same k))
    go false is h ih = ih h

-- what passes of one passes of the list that it is among
pub passes_among : (p : Key → Bool) (k : Key) → p k ≡ true → (ks : List Key) → list_any (same_key k) ks ≡ true
    → list_any p ks ≡ true
passes_among p k is ks e = grind (arith, any_more, equal_keys)

pub lone : {R : Type 0} (same : R → R → Bool) (a b : Option R) → is_some a ≡ false → is_some b ≡ true → same_both same a b ≡ false
lone same a b e f = grind arith

module _ {R : Type 0} (same : R → R → Bool) (t u : Table R) (p : Key → Bool) where
  new_in : list_any p (keys_in u) ≡ true → (list_any p (keys_in t) || list_any p (differing_in same t u)) ≡ true
  unfolding differing_in has_row
  new_in e = one_of p _ (keys_in u) (λ k is there. go k is there (is_some (row_at t k)) refl) e
    where
      go : (k : Key) → p k ≡ true → list_any (same_key k) (keys_in u) ≡ true → (b : Bool) → is_some (row_at t k) ≡ b
          → (list_any p (keys_in t) || list_any p (filter (λ q. not (same_at same q t u)) (keys_in t ++ keys_in u)))
          ≡ true
      go k is there true was =
          or_left (list_any p (keys_in t)) _ (passes_among p k is (keys_in t) (row_named k t ∙ was))
      go k is there false was =
          or_right (list_any p (keys_in t)) _
          (passes_among p k is _
          (any_in_filter (λ q. not (same_at same q t u)) (same_key k) (keys_in t ++ keys_in u)
          ∙ (passing_named (λ q. not (same_at same q t u)) k
          (ap not (lone same (row_at t k) (row_at u k) was (sym (row_named k u) ∙ there))) (keys_in t ++ keys_in u)
          ∙ (list_any-append (same_key k) (keys_in t) (keys_in u)
          ∙ or_right (list_any (same_key k) (keys_in t)) (list_any (same_key k) (keys_in u)) there))))

-- of six there is one in the first of its two, or in the second
twelve : (a b c d e f a1 b1 c1 d1 e1 f1 a2 b2 c2 d2 e2 f2 : Bool)
    → (a ≡ true → (a1 || a2) ≡ true) → (b ≡ true → (b1 || b2) ≡ true) → (c ≡ true → (c1 || c2) ≡ true)
    → (d ≡ true → (d1 || d2) ≡ true) → (e ≡ true → (e1 || e2) ≡ true) → (f ≡ true → (f1 || f2) ≡ true)
    → (a || b || c || d || e || f) ≡ true
    → ((a1 || b1 || c1 || d1 || e1 || f1) || (a2 || b2 || c2 || d2 || e2 || f2)) ≡ true
twelve a b c d e f a1 b1 c1 d1 e1 f1 a2 b2 c2 d2 e2 f2 fa fb fc fd fe ff h = grind arith

pub new_keys_differ : (s t : State) (test : Key → Bool) → list_any test (read_keys t) ≡ true
    → (list_any test (read_keys s) || list_any test (differing s t)) ≡ true
unfolding read_keys differing
new_keys_differ s t test e = grind (arith, any_of_six, twelve, new_in)
