-- Which dues are one; and what doesn't come before goes on from one due to the next.
use Rattle.std.{proofs.{Common.{◌≡◌, ◌==◌, ◌&&◌, Bool, true, false, Option, Some, None, refl, sym, ap, ◌∙◌, subst}, lemmas.Bool.true≢false}, specs.{Option.option_eq, Ordering.{is_eq, is_lt, ordering_reverse}, Cmp.{tied_itself, Equal-is}, declared.cmp.Ordering.{Ordering, TheVariants.{Less, Equal, Greater}}}}
use Rattle.pim_timers.{specs.{Order.due_cmp, Dues.{Due, same_due}}, proofs.{Ranks.timer_ties, Together.same_due_by, Total.{due_cmp_total, due_exact}}}
use Rattle.pim_types.specs.contracts.timer.TimerPartialEq.TheImpl as timer_eq

pub due_itself : (d : Due) → same_due d d ≡ true
unfolding same_due
due_itself d = ap is_eq (tied_itself due_cmp_total d)

pub due_is : (d e : Due) → same_due d e ≡ true → d ≡ e
unfolding same_due
due_is d e is = due_exact d e ((Equal-is (due_cmp d e)).0 is)

-- `==` of dues
abbrev pub equal_due : Due → Due → Bool
equal_due d e = (d.0 == e.0) && (timer_eq.ghosts).eq d.1 e.1

equal_is : (d e : Due) → equal_due d e ≡ same_due d e
equal_is d e = ap (λ b. (d.0 == e.0) && b) (timer_ties d.1 e.1) ∙ sym (same_due_by d.0 e.0 d.1 e.1)

pub is_just : (r : Option Due) (due : Due) → true ≡ option_eq equal_due r (Some due) → r ≡ Some due
is_just None due same = cc
is_just (Some d) due same = ap (λ (x : Due). Some x) (due_is d due (sym (equal_is d due) ∙ sym same))

less_is : (o : Ordering) → is_lt o ≡ true → o ≡ Less
less_is Less e = refl
less_is Equal e = cc
less_is Greater e = cc

-- what doesn't come before one that doesn't come before another doesn't come before that
pub never_less : (d e f : Due) → is_lt (due_cmp d e) ≡ false → is_lt (due_cmp e f) ≡ false → is_lt (due_cmp d f) ≡ false
never_less d e f first second = go (is_lt (due_cmp d f)) refl
  where
    by : (o : Ordering) → due_cmp e f ≡ o → is_lt o ≡ false → due_cmp d f ≡ Less → due_cmp d e ≡ Less
    by Less is not_less less = cc
    by Equal is not_less less = subst (λ (x : Due). due_cmp d x ≡ Less) (sym (due_exact e f is)) less
    by Greater is not_less less = due_cmp_total.trans d f e less (due_cmp_total.antisymm f e ∙ ap ordering_reverse is)

    go : (b : Bool) → is_lt (due_cmp d f) ≡ b → is_lt (due_cmp d f) ≡ false
    go false is = is
    go true is = absurd (true≢false (sym (ap is_lt (by (due_cmp e f) refl second (less_is _ is))) ∙ first))
