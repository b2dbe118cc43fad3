-- A list that a loop makes of another, element by element: what it has made and what is left to make are the whole.
use Rattle.std.{proofs.Common.{◌≡◌, Bool, true, false, List, [], ◌∷◌, ◌++◌, map, filter, refl, ap, sym, ◌∙◌, append_assoc, append-nil}, specs.Prelude.if◌then◌else◌}

-- what is still to be made of the elements that are left
module _ {X Y : Type 0} (rest : List X → List Y) where
  pub all_made : (made whole : List Y) (left : List X) → left ≡ [] → rest [] ≡ [] → made ++ rest left ≡ whole
      → made ≡ whole
  all_made made whole left is none all =
      sym (ap (λ (ys : List Y). made ++ ys) (ap rest is ∙ none) ∙ append-nil made) ∙ all

  module _ (first : X → List Y) (next : (x : X) (xs : List X) → rest (x ∷ xs) ≡ first x ++ rest xs) where
    pub one_more_made : (made more whole : List Y) (x : X) (left xs : List X) → left ≡ x ∷ xs → more ≡ made ++ first x
        → made ++ rest left ≡ whole → more ++ rest xs ≡ whole
    one_more_made made more whole x left xs is added all =
        ap (λ (ys : List Y). ys ++ rest xs) added ∙ append_assoc made (first x) (rest xs)
        ∙ ap (λ (ys : List Y). made ++ ys) (sym (ap rest is ∙ next x xs)) ∙ all

-- of one element: its value where the test lets it through, and else nothing
module _ {X Y : Type 0} (test : X → Bool) (value : X → Y) where
  abbrev pub value_of : X → List Y
  value_of x = if test x then value x ∷ [] else []

  first_by : (b : Bool) (x : X) (xs : List X) → test x ≡ b
      → map value (filter test (x ∷ xs)) ≡ (if b then value x ∷ [] else []) ++ map value (filter test xs)
  first_by true x xs is = rw is refl
  first_by false x xs is = rw is refl

  pub first_value : (x : X) (xs : List X)
      → map value (filter test (x ∷ xs)) ≡ value_of x ++ map value (filter test xs)
  first_value x xs = first_by (test x) x xs refl

  module _ (rest : List X → List Y) (next : (x : X) (xs : List X) → rest (x ∷ xs) ≡ value_of x ++ rest xs) where
    pub pushed : (made more whole : List Y) (x : X) (left xs : List X) → left ≡ x ∷ xs → test x ≡ true
        → more ≡ made ++ value x ∷ [] → made ++ rest left ≡ whole → more ++ rest xs ≡ whole
    pushed made more whole x left xs is through added all =
        let first : value x ∷ [] ≡ value_of x = rw through refl in
        one_more_made rest value_of next made more whole x left xs is
        (added ∙ ap (λ (ys : List Y). made ++ ys) first) all

    pub passed : (made whole : List Y) (x : X) (left xs : List X) → left ≡ x ∷ xs → test x ≡ false
        → made ++ rest left ≡ whole → made ++ rest xs ≡ whole
    passed made whole x left xs is out all =
        let first : [] ≡ value_of x = rw out refl in
        one_more_made rest value_of next made made whole x left xs is
        (sym (append-nil made) ∙ ap (λ (ys : List Y). made ++ ys) first) all
