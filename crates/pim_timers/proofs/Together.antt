-- The dues of a queue, and the moments of the timers.
use Rattle.std.{proofs.{Common.{◌≡◌, ℕ, ◌==◌, ◌&&◌, ◌||◌, Bool, true, false, not, cond, Option, Some, None, refl, sym, ap, ◌∙◌, subst, arith}, lemmas.Bool.{true≢false, Decides.nat_tests}}, specs.{Ordering.{is_eq, nat_cmp, ordering_then}, Cmp.{tied_itself, nat_cmp_total}, declared.cmp.Ordering.{Ordering, TheVariants.{Less, Equal, Greater}}}}
use Rattle.pim_types.{specs.{declared.timer.Timer.Timer, Timers.timer_cmp}}
use Rattle.pim_timers.{specs.{Order.due_cmp, Ends.{same_timer, ends_at}, Next.IsNext, Schedule.Contents, Dues.{Due, same_due, IsFirst, AreTogether}}, proofs.Lookups.{get_inserted, get_removed, same_is, same_itself}}
use Rattle.std.specs.FinMap as map

differ_by : (a b : ℕ) (o p : Ordering) → nat_cmp a b ≡ o → (a == b) ≡ false → is_eq (ordering_then o p) ≡ false
differ_by a b Less p e f = refl
differ_by a b Equal p e f = let same : a ≡ b = map.nat_cmp-IsAntisymmetric a b e in absurd (grind (arith, nat_tests))
differ_by a b Greater p e f = refl

tied_by : (a b : ℕ) (p : Ordering) (t : Bool) → (a == b) ≡ t → is_eq (ordering_then (nat_cmp a b) p) ≡ (t && is_eq p)
tied_by a b p true e = let same : a ≡ b = grind (arith, nat_tests) in
    subst (λ (x : ℕ). is_eq (ordering_then (nat_cmp a x) p) ≡ is_eq p) same (rw (tied_itself nat_cmp_total a) refl)
tied_by a b p false e = differ_by a b (nat_cmp a b) p refl e

pub same_due_by : (m n : ℕ) (t u : Timer) → same_due (m, t) (n, u) ≡ ((m == n) && same_timer t u)
unfolding same_due due_cmp same_timer
same_due_by m n t u = tied_by m n (timer_cmp t u) (m == n) refl

own : (m n : ℕ) (t : Timer) → same_due (m, t) (n, t) ≡ (m == n)
own m n t = same_due_by m n t t ∙ ap (λ b. (m == n) && b) (same_itself t) ∙ ends (m == n)
  where
    ends : (b : Bool) → (b && true) ≡ b
    ends true = refl
    ends false = refl

pub other : (m n : ℕ) (t u : Timer) → same_timer t u ≡ false → same_due (m, t) (n, u) ≡ false
other m n t u apart = same_due_by m n t u ∙ ap (λ b. (m == n) && b) apart ∙ never (m == n)
  where
    never : (b : Bool) → (b && false) ≡ false
    never true = refl
    never false = refl

-- one timer, and all others
by_timer : (c : Contents) (h : Due → Bool) (x : Timer) → ((m : ℕ) → h (m, x) ≡ ends_at (map.get c x) m)
    → ((m : ℕ) (t : Timer) → same_timer t x ≡ false → h (m, t) ≡ ends_at (map.get c t) m) → AreTogether (map.get c) h
by_timer c h x one others m t = go (same_timer t x) refl
  where
    go : (b : Bool) → same_timer t x ≡ b → h (m, t) ≡ ends_at (map.get c t) m
    go true same = subst (λ (u : Timer). h (m, u) ≡ ends_at (map.get c u) m) (sym (same_is t x same)) (one m)
    go false apart = others m t apart

pub own_inserted : (c : Contents) (x : Timer) (n : ℕ) → map.get (map.insert c x n) x ≡ Some n
own_inserted c x n = get_inserted c x n x ∙ ap (λ b. cond b (Some n) (map.get c x)) (same_itself x)

pub other_inserted : (c : Contents) (x t : Timer) (n : ℕ) → same_timer t x ≡ false
    → map.get (map.insert c x n) t ≡ map.get c t
other_inserted c x t n apart = get_inserted c x n t ∙ ap (λ b. cond b (Some n) (map.get c t)) apart

pub own_removed : (c : Contents) (x : Timer) → map.get (map.remove c x) x ≡ None
own_removed c x = get_removed c x x ∙ ap (λ b. cond b None (map.get c x)) (same_itself x)

pub other_removed : (c : Contents) (x t : Timer) → same_timer t x ≡ false → map.get (map.remove c x) t ≡ map.get c t
other_removed c x t apart = get_removed c x t ∙ ap (λ b. cond b None (map.get c t)) apart

moved_bits : (a b : Bool) → (a ≡ true → b ≡ false) → (not b && (a || b)) ≡ a
moved_bits true b apart = rw (apart refl) refl
moved_bits false true apart = refl
moved_bits false false apart = refl

gone_bits : (a : Bool) → (not a && a) ≡ false
gone_bits true = refl
gone_bits false = refl

undone_bits : (a : Bool) → (not a && (a || false)) ≡ false
undone_bits true = refl
undone_bits false = refl

one_moment : (a : Bool) → (a || a) ≡ a
one_moment true = refl
one_moment false = refl

first_moment : (a : Bool) → (a || false) ≡ a
first_moment true = refl
first_moment false = refl

module _ (c : Contents) (h : Due → Bool) (are : AreTogether (map.get c) h) (x : Timer) where
  module _ (n : ℕ) (mid : Due → Bool) (put : (d : Due) → mid d ≡ (same_due d (n, x) || h d)) where
    own_put : (o : Option ℕ) → map.get c x ≡ o → (m : ℕ) → mid (m, x) ≡ ((m == n) || ends_at o m)
    own_put o is m = put (m, x) ∙ (λ i. own m n x i || (are m x ∙ ap (λ (w : Option ℕ). ends_at w m) is) i)

    other_put : (m : ℕ) (t : Timer) → same_timer t x ≡ false → mid (m, t) ≡ ends_at (map.get c t) m
    other_put m t apart = put (m, t) ∙ (λ i. other m n t x apart i || are m t i)

    -- a timer that wasn't set, or ended then already
    pub set_new : map.get c x ≡ None → AreTogether (map.get (map.insert c x n)) mid
    unfolding ends_at
    set_new is = by_timer (map.insert c x n) mid x
        (λ m. own_put None is m ∙ first_moment (m == n) ∙ ap (λ (o : Option ℕ). ends_at o m) (sym (own_inserted c x n)))
        (λ m t apart. other_put m t apart ∙ ap (λ (o : Option ℕ). ends_at o m) (sym (other_inserted c x t n apart)))

    pub set_same : map.get c x ≡ Some n → AreTogether (map.get (map.insert c x n)) mid
    unfolding ends_at
    set_same is = by_timer (map.insert c x n) mid x
        (λ m. own_put (Some n) is m ∙ one_moment (m == n)
        ∙ ap (λ (o : Option ℕ). ends_at o m) (sym (own_inserted c x n)))
        (λ m t apart. other_put m t apart ∙ ap (λ (o : Option ℕ). ends_at o m) (sym (other_inserted c x t n apart)))

    pub set_moved : (b : ℕ) (new : Due → Bool) → map.get c x ≡ Some b → (b == n) ≡ false
        → ((d : Due) → new d ≡ (not (same_due d (b, x)) && mid d)) → AreTogether (map.get (map.insert c x n)) new
    unfolding ends_at
    set_moved b new is moves taken = by_timer (map.insert c x n) new x
        (λ m. taken (m, x) ∙ (λ i. not (own m b x i) && own_put (Some b) is m i)
        ∙ moved_bits (m == n) (m == b) (λ e. apart_from m e)
        ∙ ap (λ (o : Option ℕ). ends_at o m) (sym (own_inserted c x n)))
        (λ m t apart. taken (m, t) ∙ (λ i. not (other m b t x apart i) && other_put m t apart i)
        ∙ ap (λ (o : Option ℕ). ends_at o m) (sym (other_inserted c x t n apart)))
      where
        apart_from : (m : ℕ) → (m == n) ≡ true → (m == b) ≡ false
        apart_from m e = grind (arith, nat_tests)

    -- memory was refused after all
    pub set_undone : (new : Due → Bool) → map.get c x ≡ None → ((d : Due) → new d ≡ (not (same_due d (n, x)) && mid d))
        → AreTogether (map.get c) new
    unfolding ends_at
    set_undone new is taken = by_timer c new x
        (λ m. taken (m, x) ∙ (λ i. not (own m n x i) && own_put None is m i) ∙ undone_bits (m == n)
        ∙ ap (λ (o : Option ℕ). ends_at o m) (sym is))
        (λ m t apart. taken (m, t) ∙ (λ i. not (other m n t x apart i) && other_put m t apart i))

  pub cancelled : (b : ℕ) (new : Due → Bool) → map.get c x ≡ Some b
      → ((d : Due) → new d ≡ (not (same_due d (b, x)) && h d)) → AreTogether (map.get (map.remove c x)) new
  unfolding ends_at
  cancelled b new is taken = by_timer (map.remove c x) new x
      (λ m. taken (m, x) ∙ (λ i. not (own m b x i) && (are m x ∙ ap (λ (w : Option ℕ). ends_at w m) is) i)
      ∙ gone_bits (m == b) ∙ ap (λ (o : Option ℕ). ends_at o m) (sym (own_removed c x)))
      (λ m t apart. taken (m, t) ∙ (λ i. not (other m b t x apart i) && are m t i)
      ∙ ap (λ (o : Option ℕ). ends_at o m) (sym (other_removed c x t apart)))

  pub not_set : map.get c x ≡ None → AreTogether (map.get (map.remove c x)) h
  unfolding ends_at
  not_set is = by_timer (map.remove c x) h x
      (λ m. are m x ∙ ap (λ (o : Option ℕ). ends_at o m) (is ∙ sym (own_removed c x)))
      (λ m t apart. are m t ∙ ap (λ (o : Option ℕ). ends_at o m) (sym (other_removed c x t apart)))

pub none_together : (c : Contents) (h : Due → Bool) → c ≡ map.empty → ((d : Due) → h d ≡ false) → AreTogether (map.get c) h
unfolding ends_at
none_together c h none empty m t = empty (m, t) ∙ sym (rw (none, map.get-empty {X = ℕ} timer_cmp t) refl)

-- ---- the first of the queue is the timer that is next

pub set_at : (o : Option ℕ) (m : ℕ) → ends_at o m ≡ true → o ≡ Some m
unfolding ends_at
set_at None m e = cc
set_at (Some n) m e = let same : n ≡ m = grind (arith, nat_tests) in ap (λ (k : ℕ). Some k) same

at_set : (o : Option ℕ) (m : ℕ) → o ≡ Some m → ends_at o m ≡ true
unfolding ends_at
at_set o m e = rw e (grind (arith, nat_tests))

unset : (o : Option ℕ) → ((m : ℕ) → ends_at o m ≡ false) → o ≡ None
unset None no_end = refl
unset (Some n) no_end = absurd (true≢false (sym (at_set (Some n) n refl) ∙ no_end n))

pub first_is_next : (f : Timer → Option ℕ) (h : Due → Bool) (r : Option Due) → AreTogether f h → IsFirst h r
    → IsNext f r
first_is_next f h None are empty = λ t. unset (f t) (λ m. sym (are m t) ∙ empty (m, t))
first_is_next f h (Some due) are first = record {
  is_set = set_at (f due.1) due.0 (sym (are due.0 due.1) ∙ first.0);
  none_before = λ t m is. first.1 (m, t) (are m t ∙ at_set (f t) m is);
}
