use Rattle.std.{proofs.Common.◌∙◌}
use Rattle.pim_register.{proofs.Tunnelled.ranges_taken}
use Rattle.pim_register.proofs.tunnel.rps_replaced.Goals as goal

pub returns-clause-state : goal.returns-clause-state
returns-clause-state c =
    c.in_ok-join_all.ensures
    ∙ ranges_taken c.args.world.now c.take_ranges-before.new.self c.args.next.ranges c.deref.result.now
    c.take_ranges-before.ensures.new (c.deref.ensures.value ∙ c.in_ok-keys.ensures.keys)
