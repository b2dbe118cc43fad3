-- Timers that tie are equal, and what a map has after a change.
use Rattle.std.{proofs.Common.{◌≡◌, ℕ, true, cond, ap, Some, None, Result, Ok, Err, OnErr}, specs.{Ordering.is_eq, Cmp.{eq_by_cmp_equiv, tied_itself, Equal-is}}}
use Rattle.pim_types.{specs.{declared.timer.Timer.Timer, Timers.timer_cmp}, proofs.Timers.{timer_cmp_total, timer_exact}}
use Rattle.pim_timers.{specs.{Schedule.Contents, Ends.same_timer}}
use Rattle.std.specs.FinMap as map

pub same_itself : (t : Timer) → same_timer t t ≡ true
unfolding same_timer
same_itself t = ap is_eq (tied_itself timer_cmp_total t)

pub same_is : (t u : Timer) → same_timer t u ≡ true → t ≡ u
unfolding same_timer
same_is t u e = timer_exact t u ((Equal-is (timer_cmp t u)).0 e)

pub same_symm : (t u : Timer) → same_timer t u ≡ same_timer u t
unfolding same_timer
same_symm t u = (eq_by_cmp_equiv timer_cmp_total).symm t u

pub get_removed : (c : Contents) (t q : Timer) → map.get (map.remove c t) q ≡ cond (same_timer q t) None (map.get c q)
unfolding same_timer
get_removed c t q = map.get-remove timer_cmp_total c t q

pub get_inserted : (c : Contents) (t : Timer) (m : ℕ) (q : Timer)
    → map.get (map.insert c t m) q ≡ cond (same_timer q t) (Some m) (map.get c q)
unfolding same_timer
get_inserted c t m q = map.get-insert timer_cmp_total c t m q

pub on_err_always : {T E Q : Type 0} (r : Result T E) → Q → OnErr r Q
on_err_always (Ok x) q = tt
on_err_always (Err e) q = q
