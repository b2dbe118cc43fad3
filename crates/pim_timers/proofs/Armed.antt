-- A queue in which an end may stand too early, beside what tells when timers end.
use Rattle.std.{proofs.{Common.{◌≡◌, ℕ, ◌≤◌, ◌==◌, ◌||◌, Bool, true, false, not, Option, Some, None, inl, inr, refl, sym, ap, subst, ◌∙◌, arith}, lemmas.Bool.{true≢false, cases_order, Decides.nat_tests}}, specs.{Cmp.tied_itself, List.list_any, Ordering.is_lt, Option.option_eq}}
use Rattle.pim_types.{specs.declared.timer.Timer.Timer}
use Rattle.pim_timers.{specs.{Armed.{AreArmed, Entries, Grows, IsArmed, IsReal, holds}, Dues.{Due, IsFirst, same_due}, Ends.ends_at, Next.IsNext, Order.due_cmp}, proofs.{SameDues.{due_is, due_itself, never_less}, Least.{neither_less, not_earlier}, Together.set_at, Total.due_cmp_total}}

-- one of the first alone
pub first_is_one : (h : Due → Bool) (a b : Due) → IsFirst h (Some a) → IsFirst h (Some b) → a ≡ b
first_is_one h a b one other = neither_less (due_cmp a b) a b refl (other.1 a one.0) (one.1 b other.0)

no_later_first : (e m : ℕ) (t : Timer) → e ≤ m → is_lt (due_cmp (m, t) (e, t)) ≡ false
no_later_first e m t below = elim (cases_order e m) [
  | inl same ↦ subst (λ (n : ℕ). is_lt (due_cmp (n, t) (e, t)) ≡ false) same (ap is_lt (tied_itself due_cmp_total (e, t)))
  | inr (inl before) ↦ not_earlier m e t t before
  | inr (inr after) ↦ absurd (omega (arith, below, after))
]

module _ (f : Timer → Option ℕ) (h : Due → Bool) where
  -- nothing is held
  pub none_armed : ((t : Timer) → f t ≡ None) → AreArmed f h
  none_armed none t m is = let no : None ≡ Some m = sym (none t) ∙ is in cc

  pub none_real : ((d : Due) → h d ≡ false) → IsReal f h
  none_real empty due first = absurd (true≢false (sym first.0 ∙ empty due))

  -- the first is the expiry of its timer
  pub real_one : (d : Due) → IsFirst h (Some d) → f d.1 ≡ Some d.0 → IsReal f h
  real_one d first end due one = subst (λ (q : Due). f q.1 ≡ Some q.0) (first_is_one h d due first one) end

  -- the first of what is settled is next
  pub first_is_next : (r : Option Due) → AreArmed f h → IsReal f h → IsFirst h r → IsNext f r
  first_is_next None armed real none = λ t. go t (f t) refl
    where
      go : (t : Timer) (o : Option ℕ) → f t ≡ o → f t ≡ None
      go t None is = is
      go t (Some m) is = let w = armed t m is in absurd (true≢false (sym w.2 ∙ none (w.0, t)))
  first_is_next (Some due) armed real first = record {
    is_set = real due first;
    none_before = λ t m is.
        let w = armed t m is in
        never_less (m, t) (w.0, t) due (no_later_first w.0 m t w.1) (first.1 (w.0, t) w.2);
  }

-- the ends of some timers changed, and those timers are armed: none but theirs were put in
module _ (own : Timer → Bool) (f g : Timer → Option ℕ) (h k : Due → Bool)
    (stay : (t : Timer) → own t ≡ false → g t ≡ f t) (grows : Grows h k) where
  pub armed_after : AreArmed f h → ((t : Timer) → own t ≡ true → IsArmed k t (g t)) → AreArmed g k
  armed_after armed armed_too t = go (own t) refl
    where
      go : (b : Bool) → own t ≡ b → IsArmed k t (g t)
      go true is = armed_too t is
      go false is = λ m end.
          let w = armed t m (sym (stay t is) ∙ end) in
          (w.0, w.1, grows (w.0, t) w.2)

  pub right_after : IsReal f h → ((d : Due) → own d.1 ≡ false → k d ≡ h d) → (due : Due) → IsFirst k (Some due)
      → own due.1 ≡ false → g due.1 ≡ Some due.0
  right_after real kept due first other =
      stay due.1 other
      ∙ real due (sym (kept due other) ∙ first.0, λ d is. first.1 d (grows d is))

pub no_end_armed : (h : Due → Bool) (t : Timer) (end : Option ℕ) → end ≡ None → IsArmed h t end
no_end_armed h t end none m is = let no : None ≡ Some m = sym none ∙ is in cc

-- one that is put in is
pub now_armed : (h : Due → Bool) (t : Timer) (end : Option ℕ) (n : ℕ) → end ≡ Some n → h (n, t) ≡ true → IsArmed h t end
now_armed h t end n ends held m is =
    let same : n ≡ m = cc in
    (n, omega (arith, same), held)

-- the entries stayed
pub same_held : (q r : Entries) → q.dues ≡ r.dues → (d : Due) → holds q d ≡ holds r d
unfolding holds
same_held q r same d = ap (λ ds. list_any (λ e. same_due d e.0) ds) same

-- a due that is put in
module _ (h k : Due → Bool) (due : Due) (put : (d : Due) → k d ≡ (same_due d due || h d)) where
  pub put_held : k due ≡ true
  put_held = put due ∙ ap (λ (b : Bool). b || h due) (due_itself due)

  pub put_grows : Grows h k
  put_grows d is = put d ∙ ap (λ (b : Bool). same_due d due || b) is ∙ always (same_due d due)
    where
      always : (b : Bool) → (b || true) ≡ true
      always true = refl
      always false = refl

  pub put_kept : (d : Due) → same_due d due ≡ false → k d ≡ h d
  put_kept d other = put d ∙ ap (λ (b : Bool). b || h d) other

-- the first went, and where its timer ends later one of that timer's entries is still held
pub moved_armed : (f : Timer → Option ℕ) (h k : Due → Bool) (first : Due) → AreArmed f h
    → ((d : Due) → same_due d first ≡ false → h d ≡ true → k d ≡ true)
    → ((m : ℕ) → f first.1 ≡ Some m → first.0 ≤ m → (e : ℕ) × (e ≤ m) × (k (e, first.1) ≡ true)) → AreArmed f k
moved_armed f h k first armed others moved t m is = go (same_due ((armed t m is).0, t) first) refl
  where
    w : (e : ℕ) × (e ≤ m) × (h (e, t) ≡ true)
    w = armed t m is

    go : (b : Bool) → same_due (w.0, t) first ≡ b → (e : ℕ) × (e ≤ m) × (k (e, t) ≡ true)
    go false other = (w.0, w.1, others (w.0, t) other w.2)
    go true one =
        let same : (w.0, t) ≡ first = due_is (w.0, t) first one in
        subst (λ (q : Due). (n : ℕ) → f q.1 ≡ Some n → q.0 ≤ n → (e : ℕ) × (e ≤ n) × (k (e, q.1) ≡ true)) (sym same) moved
        m is w.1

-- `==` of ends
pub end_is : (o : Option ℕ) (m : ℕ) → option_eq (λ x y. x == y) o (Some m) ≡ true → o ≡ Some m
end_is None m e = cc
end_is (Some n) m e = let same : n ≡ m = grind (arith, nat_tests) in ap (λ (x : ℕ). Some x) same

pub no_such_end : (o : Option ℕ) (m : ℕ) → option_eq (λ x y. x == y) o (Some m) ≡ false → not (ends_at o m) ≡ true
unfolding ends_at
no_such_end None m e = refl
no_such_end (Some n) m e = let other : (m == n) ≡ false = grind (arith, nat_tests) in ap not other

pub such_an_end : (o : Option ℕ) (m : ℕ) → o ≡ Some m → not (ends_at o m) ≡ false
unfolding ends_at
such_an_end o m e = rw e (grind (arith, nat_tests))

-- the first isn't of a timer that changed, so it is right
pub right_unless : (f : Timer → Option ℕ) (h : Due → Bool) (own : Timer → Bool) (first : Option Due) (is_own : Bool)
    → IsFirst h first → (is_own ≡ false → (d : Due) → first ≡ Some d → own d.1 ≡ false) → not is_own ≡ true
    → ((due : Due) → IsFirst h (Some due) → own due.1 ≡ false → f due.1 ≡ Some due.0) → IsReal f h
right_unless f h own None is_own none other right others = none_real f h none
right_unless f h own (Some d) false first other right others =
    real_one f h d first (others d first (other refl d refl))
right_unless f h own (Some d) true first other right others = absurd (true≢false (sym right))

-- ---- all are armed one after the other: those that are left are told by a part of the ends

abbrev pub Owes : (f left : Timer → Option ℕ) → (Due → Bool) → Type 0
Owes f left h =
    (t : Timer) (m : ℕ) → f t ≡ Some m → ends_at (left t) m ≡ false → (e : ℕ) × (e ≤ m) × (h (e, t) ≡ true)

at_end : (o : Option ℕ) (m : ℕ) → o ≡ Some m → ends_at o m ≡ true
unfolding ends_at
at_end o m e = rw e (grind (arith, nat_tests))

module _ (f : Timer → Option ℕ) where
  pub all_owed : (left : Timer → Option ℕ) (h : Due → Bool) → ((t : Timer) → left t ≡ f t) → Owes f left h
  all_owed left h all t m is other = absurd (true≢false (sym (at_end (left t) m (all t ∙ is)) ∙ other))

  pub none_owed : (left : Timer → Option ℕ) (h : Due → Bool) → ((t : Timer) → left t ≡ None) → Owes f left h → AreArmed f h
  unfolding ends_at
  none_owed left h none owes t m is = owes t m is (ap (λ (o : Option ℕ). ends_at o m) (none t))

  pub owed_less : (left less : Timer → Option ℕ) (own : Timer → Bool) (h k : Due → Bool)
      → ((t : Timer) → own t ≡ false → left t ≡ less t) → Grows h k → ((t : Timer) → own t ≡ true → IsArmed k t (left t))
      → Owes f left h → Owes f less k
  owed_less left less own h k others grows armed owes t m is gone = go (own t) refl
    where
      before : ends_at (left t) m ≡ false → (e : ℕ) × (e ≤ m) × (k (e, t) ≡ true)
      before other = let w = owes t m is other in (w.0, w.1, grows (w.0, t) w.2)

      now : own t ≡ true → (b : Bool) → ends_at (left t) m ≡ b → (e : ℕ) × (e ≤ m) × (k (e, t) ≡ true)
      now own true there = armed t own m (set_at (left t) m there)
      now own false other = before other

      go : (b : Bool) → own t ≡ b → (e : ℕ) × (e ≤ m) × (k (e, t) ≡ true)
      go true own = now own (ends_at (left t) m) refl
      go false other = before (ap (λ (o : Option ℕ). ends_at o m) (others t other) ∙ gone)
