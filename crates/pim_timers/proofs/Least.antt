-- What is known of the timer that is next.
use Rattle.std.{proofs.{Common.{None, Option, Some, ap, arith, false, inl, inr, refl, sym, true, ℕ, ◌<◌, ◌∙◌, ◌≡◌, ◌≤◌, nat_lt}, lemmas.Bool.{true≢false, cases_order, Decides.nat_tests}}, specs.{Ordering.{is_lt, ordering_reverse}, declared.cmp.Ordering.{Ordering, TheVariants.{Less, Equal, Greater}}}}
use Rattle.pim_types.{specs.declared.timer.Timer.Timer}
use Rattle.pim_timers.{specs.{Order.due_cmp, Next.{IsLeast, IsNext}}, proofs.Total.{due_cmp_total, due_exact}}

-- an earlier moment comes first
pub earlier : (m n : ℕ) (t u : Timer) → m < n → due_cmp (m, t) (n, u) ≡ Less
unfolding due_cmp
earlier m n t u less = let test : nat_lt m n ≡ true = grind (arith, nat_tests) in rw test

-- no timer that is set ends before the least
pub least_moment : (f : Timer → Option ℕ) (d : ℕ × Timer) (t : Timer) (m : ℕ) → IsLeast f d → f t ≡ Some m → d.0 ≤ m
least_moment f d t m least is = elim (cases_order m d.0) [
  | inl same ↦ omega arith
  | inr (inl before) ↦ absurd (true≢false (ap is_lt (sym (earlier m d.0 t d.1 before)) ∙ least.none_before t m is))
  | inr (inr after) ↦ omega arith
]

-- there is one least
pub neither_less : (o : Ordering) (a b : ℕ × Timer) → due_cmp a b ≡ o → is_lt (due_cmp a b) ≡ false
    → is_lt (due_cmp b a) ≡ false → a ≡ b
neither_less Less a b is first second = absurd (true≢false (ap is_lt (sym is) ∙ first))
neither_less Equal a b is first second = due_exact a b is
neither_less Greater a b is first second = absurd
    (true≢false (ap is_lt (sym (due_cmp_total.antisymm b a ∙ ap ordering_reverse is)) ∙ second))

pub least_is_one : (f : Timer → Option ℕ) (a b : ℕ × Timer) → IsLeast f a → IsLeast f b → a ≡ b
least_is_one f a b first second = neither_less (due_cmp a b) a b refl (second.none_before a.1 a.0 first.is_set)
    (first.none_before b.1 b.0 second.is_set)

-- one timer is next, or none is
pub next_is_one : (f : Timer → Option ℕ) (r s : Option (ℕ × Timer)) → IsNext f r → IsNext f s → r ≡ s
next_is_one f None None first second = refl
next_is_one f None (Some b) first second = let set = second.is_set in cc (first b.1)
next_is_one f (Some a) None first second = let set = first.is_set in cc (second a.1)
next_is_one f (Some a) (Some b) first second = ap Some (least_is_one f a b first second)

-- what ends later doesn't come first
pub not_earlier : (m n : ℕ) (t u : Timer) → n < m → is_lt (due_cmp (m, t) (n, u)) ≡ false
not_earlier m n t u after = ap is_lt (due_cmp_total.antisymm (m, t) (n, u)
    ∙ ap ordering_reverse (earlier n m u t after))
