-- Numbers that pass a test, gathered one after the other; and lists of which a part is left.
use Rattle.std.{proofs.{Common.{◌≡◌, ◌&&◌, ◌+◌, ◌<◌, ◌≤◌, ℕ, Option, Some, None, subst, zero, suc, map, Bool, true, false, not, cond, List, [], ◌∷◌, ◌++◌, filter, length, get_or, drop, append-nil, append_assoc, refl, sym, ap, ◌∙◌, arith, add-one}, lemmas.List.Elements.filter-append, Math.Seq.drop-cons}, specs.List.{cons_option, range_with_len, slice_get}}
use Rattle.pim_types.{specs.declared.config.InterfaceConfig.InterfaceConfig}
use Rattle.pim_model.{specs.Tables.is_among}
use Rattle.law_states.{specs.Placing.{Places, are_once, interfaces_at, kept_places, old_order}, proofs.{Apart.old_count, Ups.no_more_kept}}

-- ---- the numbers of a range

last : (n a j : ℕ) → a + n ≡ j → range_with_len a (suc n) ≡ range_with_len a n ++ j ∷ []
last zero a j e = let same : a ≡ j = omega (arith, e) in ap (λ (k : ℕ). k ∷ []) same
last (suc n) a j e = ap (λ (ns : List ℕ). a ∷ ns) (last n (a + 1) j (omega (arith, e)))

range_more : (n : ℕ) → range_with_len 0 (n + 1) ≡ range_with_len 0 n ++ n ∷ []
range_more n = let on : n + 1 ≡ suc n = omega arith in ap (range_with_len 0) on ∙ last n 0 n (omega arith)

map_more : {X : Type 0} (f : ℕ → X) (xs : List ℕ) (y : ℕ) → map f (xs ++ y ∷ []) ≡ map f xs ++ f y ∷ []
map_more f [] y = refl
map_more {X} f (x ∷ xs) y = ap (λ (zs : List X). f x ∷ zs) (map_more f xs y)

pub mapped_more : {X : Type 0} (f : ℕ → X) (n : ℕ) (out now : List X) → out ≡ map f (range_with_len 0 n)
    → now ≡ out ++ f n ∷ [] → now ≡ map f (range_with_len 0 (n + 1))
mapped_more {X} f n out now before pushed =
    pushed ∙ ap (λ (xs : List X). xs ++ f n ∷ []) before
    ∙ sym (ap (map f) (range_more n) ∙ map_more f (range_with_len 0 n) n)

module _ (test : ℕ → Bool) where
  abbrev passing : ℕ → List ℕ
  passing n = filter test (range_with_len 0 n)

  one_more : (n : ℕ) (b : Bool) → test n ≡ b → passing (n + 1) ≡ passing n ++ cond b (n ∷ []) []
  one_more n b e =
      ap (filter test) (range_more n) ∙ filter-append test (range_with_len 0 n) (n ∷ [])
      ∙ ap (λ (c : Bool). passing n ++ cond c (n ∷ []) []) e

  pub gathered : (start out now next : List ℕ) (n : ℕ) → out ≡ start ++ passing n → now ≡ out ++ n ∷ [] → next ≡ now
      → test n ≡ true → next ≡ start ++ passing (n + 1)
  gathered start out now next n before pushed is e =
      is ∙ (pushed ∙ (ap (λ (ns : List ℕ). ns ++ n ∷ []) before
      ∙ (append_assoc start (passing n) (n ∷ []) ∙ ap (λ (ns : List ℕ). start ++ ns) (sym (one_more n true e)))))

  pub passed_over : (start out next : List ℕ) (n : ℕ) → out ≡ start ++ passing n → next ≡ out → test n ≡ false
      → next ≡ start ++ passing (n + 1)
  passed_over start out next n before is e =
      is ∙ (before ∙ ap (λ (ns : List ℕ). start ++ ns) (sym (one_more n false e ∙ append-nil (passing n))))

pub once-drop : (xs : List ℕ) (n d : ℕ) → n < length xs
    → are_once (drop n xs) ≡ (not (is_among (get_or xs n d) (drop (n + 1) xs)) && are_once (drop (n + 1) xs))
once-drop xs n d within = rw (add-one, drop-cons xs n d within) refl

module _ (cs : List InterfaceConfig) (order : List ℕ) (i d : ℕ) (made now whole : List InterfaceConfig) (within : i < length order)
    (before : made ++ interfaces_at cs (drop i order) ≡ whole) where
  abbrev rest : List InterfaceConfig
  rest = interfaces_at cs (drop (i + 1) order)

  place-drop : interfaces_at cs (drop i order) ≡ cons_option (slice_get cs (get_or order i d)) rest
  place-drop = rw (add-one, drop-cons order i d within) refl

  pub one_there : (x : InterfaceConfig) → slice_get cs (get_or order i d) ≡ Some x → now ≡ made ++ x ∷ [] → now ++ rest ≡ whole
  one_there x got pushed =
      ap (λ (xs : List InterfaceConfig). xs ++ rest) pushed ∙ append_assoc made (x ∷ []) rest
      ∙ sym (ap (λ (xs : List InterfaceConfig). made ++ xs)
      (place-drop ∙ ap (λ (o : Option InterfaceConfig). cons_option o rest) got))
      ∙ before

  pub none_there : (o : Option InterfaceConfig) → o ≡ slice_get cs (get_or order i d)
      → ((x : InterfaceConfig) → o ≡ Some x → ⊥) → now ≡ made → now ++ rest ≡ whole
  none_there o got nothing same =
      ap (λ (xs : List InterfaceConfig). xs ++ rest) same
      ∙ sym (ap (λ (xs : List InterfaceConfig). made ++ xs)
      (place-drop ∙ ap (λ (p : Option InterfaceConfig). cons_option p rest) (sym got ∙ is_none o nothing)))
      ∙ before
    where
      is_none : (p : Option InterfaceConfig) → ((x : InterfaceConfig) → p ≡ Some x → ⊥) → p ≡ None
      is_none None f = refl
      is_none (Some x) f = absurd (f x refl)

-- ---- the orders of a map

pub few_old : (m : Places) (xs ys : List ℕ) → xs ≡ ys → ys ≡ old_order m → length m ≤ 120 → length xs ≤ 120
few_old m xs ys same is few =
    let count : length (old_order m) ≡ length m = old_count m in
    subst (λ (ns : List ℕ). length ns ≤ 120) (sym (same ∙ is)) (omega (arith, count, few))

pub few_kept : (m : Places) (xs : List ℕ) (n : ℕ) → n ≡ length xs → xs ≡ kept_places m → length m ≤ 120 → n ≤ 120
few_kept m xs n same is few =
    let all : length (kept_places m) ≤ length m = no_more_kept m in
    let count : n ≡ length (kept_places m) = same ∙ ap length is in omega (arith, all, count, few)
