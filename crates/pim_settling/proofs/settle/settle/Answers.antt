use Rattle.pim_settling.{proofs.SightStays.some_written}
use Rattle.pim_settling.proofs.settle.settle.Goals as goal

pub returns-clause-last : goal.returns-clause-last
returns-clause-last c =
    some_written c.follow.new.world _ _ c.follow.new.last c.in_ok-write.ensures.state c.in_ok-names.ensures.last
