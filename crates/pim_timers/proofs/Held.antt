-- The entries of a heap, whose order nobody knows but that none comes before the first.
use Rattle.std.{proofs.{Common.{◌≡◌, ℕ, ◌<◌, ◌+◌, ◌||◌, Bool, true, false, cond, List, [], ◌∷◌, length, Option, Some, None, is_some, IsPermutation, refl, sym, ap, subst, ◌∙◌, arith}, lemmas.{Bool.true≢false, List.Sorted.{list_any-IsPermutation, length_permutation, sum_by_popped, sum_by_pushed}}}, specs.{BinaryHeap.{IsHeap, IsUpperBound, PopsGreatest}, List.{count_by, list_any}, Ordering.is_lt, Prelude.{Err, IsOk, IfSome, IsSome, Ok, OnErr, OnOk, Result, slice_index_or}, declared.cmp.Reverse.Reverse}}
use Rattle.pim_timers.{specs.{Dues.{Due, IsFirst, same_due}, Heap.entry_cmp, Order.due_cmp}, proofs.{Armed.first_is_one, SameDues.{due_is, due_itself}, Ranks.due_order}}

abbrev pub Entry : Type 0
Entry = Reverse Due

abbrev pub among : List Entry → Due → Bool
among xs d = list_any (λ e. same_due d e.0) xs

abbrev one : Bool → ℕ
one b = cond b 1 0

-- ---- what is put in, and taken out

module _ (xs ys : List Entry) (e : Entry) where
  pub pushed : IsPermutation (e ∷ xs) ys → (d : Due) → among ys d ≡ (same_due d e.0 || among xs d)
  pushed p d = sym (list_any-IsPermutation (λ x. same_due d x.0) (e ∷ xs) ys p)

  pub popped : IsPermutation xs (e ∷ ys) → (d : Due) → among xs d ≡ (same_due d e.0 || among ys d)
  popped p d = list_any-IsPermutation (λ x. same_due d x.0) xs (e ∷ ys) p

  pub longer : IsPermutation (e ∷ xs) ys → length ys ≡ length xs + 1
  longer p = let same = length_permutation (e ∷ xs) ys p in omega (arith, same)

  pub shorter : IsPermutation xs (e ∷ ys) → length ys + 1 ≡ length xs
  shorter p = let same = length_permutation xs (e ∷ ys) p in omega (arith, same)

  module _ (p : Due → Bool) where
    abbrev passing : List Entry → ℕ
    passing = count_by (λ (x : Entry). p x.0)

    -- one that doesn't pass goes in, one that passes goes out
    pub pushed_aside : IsPermutation (e ∷ xs) ys → p e.0 ≡ false → passing ys ≡ passing xs
    pushed_aside perm out =
        let none : one (p e.0) ≡ 0 = ap one out in
        let all = sum_by_pushed (λ (x : Entry). one (p x.0)) e xs ys perm in
        omega (arith, none, all)

    pub popped_one : IsPermutation xs (e ∷ ys) → p e.0 ≡ true → passing ys < passing xs
    popped_one perm within =
        let some : one (p e.0) ≡ 1 = ap one within in
        let all = sum_by_popped (λ (x : Entry). one (p x.0)) e xs ys perm in
        omega (arith, some, all)

-- ---- the first

at_top : (x : Entry) (xs : List Entry) → 0 < length xs → x ≡ slice_index_or xs 0 x → among xs x.0 ≡ true
at_top x [] some is = absurd (omega (arith, some))
at_top x (y ∷ ys) some is =
    let same : x ≡ y = is in
    ap (λ (b : Bool). b || among ys x.0) (ap (λ (z : Entry). same_due x.0 z.0) (sym same) ∙ due_itself x.0)

none_less : (x : Entry) (xs : List Entry) → IsUpperBound entry_cmp x xs → (d : Due) → among xs d ≡ true
    → is_lt (due_cmp d x.0) ≡ false
none_less x [] bound d is = absurd (true≢false (sym is))
none_less x (y ∷ ys) bound d is = go (same_due d y.0) refl is (none_less x ys bound.1 d)
  where
    go : (b : Bool) → same_due d y.0 ≡ b → (b || among ys d) ≡ true
        → (among ys d ≡ true → is_lt (due_cmp d x.0) ≡ false) → is_lt (due_cmp d x.0) ≡ false
    go true same e rest =
        subst (λ (q : Due). is_lt (due_cmp q x.0) ≡ false) (sym (due_is d y.0 same))
        (ap is_lt (sym (due_order y.0 x.0)) ∙ bound.0)
    go false same e rest = rest e

pub some_first : (x : Entry) (xs : List Entry) → 0 < length xs → x ≡ slice_index_or xs 0 x → IsUpperBound entry_cmp x xs
    → IsFirst (among xs) (Some x.0)
some_first x xs some is bound = (at_top x xs some is, none_less x xs bound)

pub none_held : (xs : List Entry) → (0 < length xs → ⊥) → (d : Due) → among xs d ≡ false
none_held [] empty d = refl
none_held (x ∷ xs) empty d = absurd (empty (omega arith))

-- no entry is above the one that was taken out
pub upper : (xs ys : List Entry) (r : Option Entry) → IsHeap entry_cmp xs
    → IfSome r (λ x. PopsGreatest entry_cmp xs x ys) → IfSome r (λ x. IsUpperBound entry_cmp x xs)
upper xs ys None heap told = tt
upper xs ys (Some x) heap told = (told heap).1

-- what was taken out of a heap was its first
pub first_popped : (xs ys : List Entry) (first : Due) (r : Option Entry) → IsFirst (among xs) (Some first)
    → (0 < length xs → IsSome r) → IfSome r (λ x. x ≡ slice_index_or xs 0 x) → IfSome r (λ x. IsPermutation xs (x ∷ ys))
    → IfSome r (λ x. IsUpperBound entry_cmp x xs) → (x : Entry) × (x.0 ≡ first) × IsPermutation xs (x ∷ ys)
first_popped [] ys first r one some top perm bound = absurd (true≢false (sym one.0))
first_popped (y ∷ xs) ys first None one some top perm bound = absurd (true≢false (sym (some (omega arith))))
first_popped (y ∷ xs) ys first (Some x) one some top perm bound = (
  x,
  first_is_one (among (y ∷ xs)) x.0 first (some_first x (y ∷ xs) (omega arith) top bound) one,
  perm,
)

-- a call that can't fail
pub surely : {T E P : Type 0} (r : Result T E) → IsOk r → OnOk r P → P
surely (Ok x) ok then = then
surely (Err e) ok then = cc

-- by what a call gave
pub after_ok : {T E P R : Type 0} (r : Result T E) → OnOk r P → (P → R) → OnOk r R
after_ok (Ok x) told then = then told
after_ok (Err e) told then = tt

pub either_way : {T E P Q R : Type 0} (r : Result T E) → OnOk r P → OnErr r Q → (P → R) → (Q → R) → R
either_way (Ok x) told refused one other = one told
either_way (Err e) told refused one other = other refused

pub left_in : (a b c : Bool) → c ≡ (a || b) → a ≡ false → c ≡ true → b ≡ true
left_in true b c is other held = absurd (true≢false other)
left_in false b c is other held = sym is ∙ held

-- a call that fails for one thing alone
pub not_refused : {T E Q : Type 0} (r : Result T E) → OnErr r Q → (Q → ⊥) → IsOk r
not_refused (Ok x) refused never = refl
not_refused (Err e) refused never = absurd (never refused)

pub of_some : {X : Type 0} (x y : X) → Some x ≡ Some y → x ≡ y
of_some x y same = cc

pub not_some : {X : Type 0} (r : Option X) → is_some r ≡ false → r ≡ None
not_some None none = refl
not_some (Some x) none = cc
