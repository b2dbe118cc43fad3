use Rattle.std.{proofs.Common.◌∙◌}
use Rattle.igmp_membership.{proofs.Found.next_source}
use Rattle.igmp_membership.proofs.sources.gather.Goals as goal

pub loop-key-preserved : goal.loop-key-preserved
loop-key-preserved g c = λ n.
    next_source n c.loop-key.key-iterator c.next.new.self (c.in-Some.key.now, c.in-Some.field-0-1.now) c.in-Some-source.source _
    c.loop-key.found.entries _ c.in-Some.ensures.steps c.in-Some-source.is c.in_ok-insert.ensures.entries
    ∙ c.loop-key.invariant n
