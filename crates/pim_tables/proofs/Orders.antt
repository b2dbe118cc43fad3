-- The first of a list doesn't depend on the order in which the list is put together.
use Rattle.std.{proofs.{Common.{◌≡◌, ℕ, Bool, true, false, cond, ◌||◌, List, [], ◌∷◌, ◌++◌, length, length-append, nat_lt, Option, Some, None, refl, sym, ap, ◌∙◌, arith}, lemmas.{Bool.{true≢false, Decides.nat_tests}, List.Elements.filter-append}}, specs.{List.{AllByRecursion, filter, list_any}, Ordering.{is_lt, ordering_reverse}, declared.cmp.Ordering.{Ordering, TheVariants.{Less, Equal, Greater}}}}
use Rattle.pim_timers.{specs.Order.due_cmp, proofs.Total.{due_cmp_total, due_exact}}
use Rattle.pim_model.{specs.{Clearing.first_by, Timers.{Ending, ending_cmp, is_ending_first}}}
use Rattle.law_settled.{proofs.ListLaws.first_by_member}
use Rattle.pim_tables.{specs.Ends.due_of, proofs.Firsts.{FirstOf, NoneBefore, first_of}}

neither : (d e : Ending) → is_ending_first d e ≡ false → is_ending_first e d ≡ false → d ≡ e
unfolding ending_cmp due_cmp
neither d e first second = go (due_cmp (due_of d) (due_of e)) refl
  where
    go : (o : Ordering) → due_cmp (due_of d) (due_of e) ≡ o → d ≡ e
    go Less is = absurd (true≢false (sym (ap is_lt is) ∙ first))
    go Equal is = let same = due_exact (due_of d) (due_of e) is in
        λ i. record { end = (same i).0; timer = (same i).1 }
    go Greater is = absurd (true≢false
        (sym (ap is_lt (due_cmp_total.antisymm (due_of e) (due_of d) ∙ ap ordering_reverse is)) ∙ second))

none_passes : (d : Ending) (xs : List Ending) → NoneBefore d xs → list_any (λ x. is_ending_first x d) xs ≡ false
none_passes d [] none = refl
none_passes d (x ∷ xs) none = rw none.0 (none_passes d xs none.1)

abbrev Any : Ending → Type 0
Any d = Unit {0}

each_any : (xs : List Ending) → AllByRecursion Any xs
each_any [] = tt
each_any (x ∷ xs) = (tt, each_any xs)

module _ (xs ys : List Ending) (same : (p : Ending → Bool) → list_any p xs ≡ list_any p ys) where
  no_later : (d e : Ending) → NoneBefore d xs → first_by is_ending_first ys ≡ Some e → is_ending_first e d ≡ false
  no_later d e none is = go (is_ending_first e d) refl
    where
      go : (b : Bool) → is_ending_first e d ≡ b → b ≡ false
      go true before =
          sym (first_by_member is_ending_first (λ x. is_ending_first x d) ys e before is)
          ∙ sym (same (λ x. is_ending_first x d)) ∙ none_passes d xs none
      go false before = refl

  none_there : {P : Type 0} (e : Ending) → xs ≡ [] → first_by is_ending_first ys ≡ Some e → P
  none_there e none is =
      absurd (true≢false (sym (first_by_member is_ending_first (λ x. true) ys e refl is) ∙ sym (same (λ x. true))
      ∙ ap (λ zs. list_any (λ x. true) zs) none))

same_first : (xs ys : List Ending) → ((p : Ending → Bool) → list_any p xs ≡ list_any p ys)
    → first_by is_ending_first xs ≡ first_by is_ending_first ys
same_first xs ys same =
    go (first_by is_ending_first xs) (first_by is_ending_first ys) refl refl (first_of Any xs (each_any xs))
    (first_of Any ys (each_any ys))
  where
    back : (p : Ending → Bool) → list_any p ys ≡ list_any p xs
    back p = sym (same p)

    go : (o u : Option Ending) → first_by is_ending_first xs ≡ o → first_by is_ending_first ys ≡ u
        → FirstOf Any xs o → FirstOf Any ys u → o ≡ u
    go None None e f first second = refl
    go None (Some d) e f first second = none_there xs ys same d first f
    go (Some d) None e f first second = none_there ys xs back d second e
    go (Some c) (Some d) e f first second =
        ap Some (neither c d (no_later ys xs back d c second.1 e) (no_later xs ys same c d first.1 f))

abbrev pub counted : (Ending → Bool) → List Ending → ℕ
counted p xs = length (filter p xs)

any_counted : (p : Ending → Bool) (xs : List Ending) → list_any p xs ≡ nat_lt 0 (counted p xs)
any_counted p [] = refl
any_counted p (x ∷ xs) = go (p x) (any_counted p xs)
  where
    go : (b : Bool) → list_any p xs ≡ nat_lt 0 (counted p xs)
        → (b || list_any p xs) ≡ nat_lt 0 (length (cond b (x ∷ filter p xs) (filter p xs)))
    go true e = grind (arith, nat_tests)
    go false e = e

-- two lists in which as many pass, whatever the test
pub first_of_counted : (xs ys : List Ending) → ((p : Ending → Bool) → counted p xs ≡ counted p ys)
    → first_by is_ending_first xs ≡ first_by is_ending_first ys
first_of_counted xs ys same =
    same_first xs ys (λ p. any_counted p xs ∙ ap (λ n. nat_lt 0 n) (same p) ∙ sym (any_counted p ys))

-- the second ends of two tables, moved to the first
pub moved : (n p d gr sr a k r o j q g s y h : List Ending)
    → first_by is_ending_first (n ++ p ++ d ++ gr ++ sr ++ a ++ k ++ r ++ o ++ j ++ q ++ g ++ s ++ y ++ h)
    ≡ first_by is_ending_first (n ++ (p ++ d) ++ gr ++ sr ++ a ++ k ++ r ++ o ++ j ++ (q ++ y) ++ g ++ s ++ h)
moved n p d gr sr a k r o j q g s y h = first_of_counted _ _ (λ t. simp (filter-append, length-append) (omega arith))
