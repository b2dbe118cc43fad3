-- More of the repetition: what every turn keeps, and that fuel which is enough either way makes no difference.
use Rattle.std.{proofs.Common.{◌≡◌, ℕ, zero, suc, List, [], ◌∷◌, fold, Option, Some, None, refl, sym, arith}}
use Rattle.pim_model.{specs.{Querier.each_in_turn, Repeat.{and_then, after_next, until_none}}}

-- what each change keeps all of them keep
pub kept_in_turn : {S A M : Type 0} (change : S → A → S × List M) (Kept : S → Type 0)
    → ((s : S) (a : A) → Kept s → Kept (change s a).0)
    → (xs : List A) (s : S) → Kept s → Kept (each_in_turn change s xs).0
unfolding each_in_turn
kept_in_turn change Kept keeps [] s k = k
kept_in_turn change Kept keeps (x ∷ xs) s k = kept_in_turn change Kept keeps xs (change s x).0 (keeps s x k)

-- what each step of a fold keeps the fold keeps
pub kept_by_fold : {S A : Type 0} (f : S → A → S) (Kept : S → Type 0) → ((s : S) (a : A) → Kept s → Kept (f s a))
    → (xs : List A) (s : S) → Kept s → Kept (fold f s xs)
kept_by_fold f Kept keeps [] s k = k
kept_by_fold f Kept keeps (x ∷ xs) s k = kept_by_fold f Kept keeps xs (f s x) (keeps s x k)

-- what every turn keeps is kept to the end
module _ {S D E : Type 0} (next : S → Option D) (once : S → D → S × List E) (Kept : S → Type 0)
    (keeps : (s : S) (d : D) → Kept s → next s ≡ Some d → Kept (once s d).0) where
  kept_by_turn : (later : S → S × List E) → ((t : S) → Kept t → Kept (later t).0)
      → (s : S) (o : Option D) → next s ≡ o → Kept s → Kept (after_next next once later s o).0
  unfolding after_next and_then
  kept_by_turn later ih s o e k = grind arith

  pub kept_to_the_end : (n : ℕ) (s : S) → Kept s → Kept (until_none next once n s).0
  unfolding until_none
  kept_to_the_end zero s k = k
  kept_to_the_end (suc n) s k = kept_by_turn (λ t. until_none next once n t) (kept_to_the_end n) s (next s) refl k

-- fuel that is enough either way makes no difference
module _ {S D E : Type 0} (next : S → Option D) (once : S → D → S × List E) where
  -- a turn in which nothing is next is the end
  pub none_then_none : (s : S) (o : Option D) (later : S → S × List E) → o ≡ None
      → after_next next once later s o ≡ (s, [])
  unfolding after_next
  none_then_none s o later e = grind arith

  both_turns : (n m : ℕ)
      → ((t : S) → next (until_none next once n t).0 ≡ None → next (until_none next once m t).0 ≡ None
      → until_none next once n t ≡ until_none next once m t)
      → (s : S) (o : Option D)
      → next (after_next next once (λ t. until_none next once n t) s o).0 ≡ None
      → next (after_next next once (λ t. until_none next once m t) s o).0 ≡ None
      → after_next next once (λ t. until_none next once n t) s o
      ≡ after_next next once (λ t. until_none next once m t) s o
  unfolding after_next and_then
  both_turns n m ih s o e f = grind arith

  pub same_where_both_end : (n m : ℕ) (s : S) → next (until_none next once n s).0 ≡ None
      → next (until_none next once m s).0 ≡ None
      → until_none next once n s ≡ until_none next once m s
  unfolding until_none
  same_where_both_end zero zero s e f = refl
  same_where_both_end zero (suc m) s e f = sym (none_then_none s (next s) (λ t. until_none next once m t) e)
  same_where_both_end (suc n) zero s e f = none_then_none s (next s) (λ t. until_none next once n t) f
  same_where_both_end (suc n) (suc m) s e f = both_turns n m (same_where_both_end n m) s (next s) e f

  -- the first turn, and then the rest with fuel of its own
  first_turn : (n m : ℕ) (s : S) (d : D) (o : Option D) → o ≡ Some d
      → next (after_next next once (λ t. until_none next once n t) s o).0 ≡ None
      → next (until_none next once m (once s d).0).0 ≡ None
      → after_next next once (λ t. until_none next once n t) s o
      ≡ and_then next once (λ t. until_none next once m t) (once s d)
  unfolding after_next and_then
  first_turn n m s d x o e f = grind (arith, same_where_both_end)

  -- where nothing is next nothing happens
  pub same_when_none : (n : ℕ) (s : S) → next s ≡ None → until_none next once n s ≡ (s, [])
  unfolding until_none
  same_when_none n s e = grind (arith, none_then_none)

  pub unrolls_with : (n m : ℕ) (s : S) (d : D) → next s ≡ Some d → next (until_none next once n s).0 ≡ None
      → next (until_none next once m (once s d).0).0 ≡ None
      → until_none next once n s ≡ and_then next once (λ t. until_none next once m t) (once s d)
  unfolding until_none
  unrolls_with zero m s d there e f = cc
  unrolls_with (suc n) m s d there e f = first_turn n m s d (next s) there e f
