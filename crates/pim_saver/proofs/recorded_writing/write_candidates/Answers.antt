use Rattle.pim_saver.{proofs.RecordedParts.two_fields}
use Rattle.pim_saver.proofs.recorded_writing.write_candidates.Goals as goal

pub returns-clause-ok : goal.returns-clause-ok
returns-clause-ok c =
    two_fields _ _ _ _ _ _ _ _ _ c.in_ok-push.ensures.items c.in_ok-write.ensures.ok c.in_ok-write_list.ensures.ok c.in_ok-write-2.ensures.ok
