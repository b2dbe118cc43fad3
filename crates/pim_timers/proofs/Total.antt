-- The order in which timers fall due is total, and tells any two apart.
use Rattle.std.{proofs.Common.ℕ, specs.{Ordering.nat_cmp, Cmp.{IsTotalOrder, nat_cmp_total, on_total, then_total}, FinMap.{IsAntisymmetric, nat_cmp-IsAntisymmetric}}}
use Rattle.pim_types.{specs.declared.timer.Timer.Timer, proofs.{Keys.both_tied, Timers.{timer_cmp_total, timer_exact}}}
use Rattle.pim_timers.{specs.Order.due_cmp}

pub due_cmp_total : IsTotalOrder due_cmp
unfolding due_cmp
due_cmp_total =
    then_total (on_total (λ (d : ℕ × Timer). d.0) nat_cmp_total) (on_total (λ (d : ℕ × Timer). d.1) timer_cmp_total)

pub due_exact : IsAntisymmetric due_cmp
unfolding due_cmp
due_exact a b e =
    let both = both_tied (nat_cmp a.0 b.0) _ e in
    let moment = nat_cmp-IsAntisymmetric a.0 b.0 both.0 in
    let timer = timer_exact a.1 b.1 both.1 in
    λ i. (moment i, timer i)
