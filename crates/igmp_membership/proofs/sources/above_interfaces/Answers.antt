use Rattle.igmp_membership.{proofs.Found.above_all}
use Rattle.igmp_membership.proofs.sources.above_interfaces.Goals as goal

pub returns-in-Some-clause-above : goal.returns-in-Some-clause-above
returns-in-Some-clause-above g c =
    above_all c.args.facts c.next_back.new.self (c.in-Some.key.now, c.in-Some.field-0-1.now) _ c.in-Some.ensures.steps c.requires
    c.next_number.ensures.next
