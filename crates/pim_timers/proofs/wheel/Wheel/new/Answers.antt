use Rattle.std.{proofs.Common.{length, arith, ap, refl}}
use Rattle.pim_types.{specs.Timers.timer_cmp}
use Rattle.pim_timers.{specs.Armed.holds, proofs.Armed.{none_armed, none_real}}
use Rattle.std.specs.FinMap as map
use Rattle.pim_timers.proofs.wheel.Wheel.new.Goals as goal

pub invariant_of-result : goal.invariant_of-result
unfolding holds
invariant_of-result c = record {
  armed = none_armed _ (holds c.new.result) (λ t. rw c.new-2.ensures (map.get-empty timer_cmp t));
  real = none_real (map.get c.new-2.result) (holds c.new.result) (λ d. rw c.new.ensures refl);
  few = let none = ap (λ xs. length xs) c.new.ensures in omega (arith, none);
}
