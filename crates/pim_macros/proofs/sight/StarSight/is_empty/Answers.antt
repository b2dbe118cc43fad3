use Rattle.std.{proofs.Common.{arith, nat_lt}}
use Rattle.pim_model.{specs.{Sets.is_empty, State.iface_count}}
use Rattle.pim_ifset.{specs.Members.has}
use Rattle.pim_macros.{proofs.Emptiness.{is_empty_shown, limited_once}}
use Rattle.pim_macros.proofs.sight.StarSight.is_empty.Goals as goal

pub returns : goal.returns
unfolding is_empty
returns c s test sight shown =
    is_empty_shown c.is_empty.result c.intersection.result.tunnel test (has c.intersection.result) (iface_count s) sight.few
    (rw (c.intersection.ensures.tunnel, sight.bare) (grind arith))
    (λ i. rw (c.intersection.ensures.interfaces i, shown i, sight.configured i)
    (limited_once (nat_lt i 120) (test i) (nat_lt i (iface_count s))))
    c.is_empty.ensures
