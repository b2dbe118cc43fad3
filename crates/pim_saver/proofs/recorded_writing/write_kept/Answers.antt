use Rattle.pim_saver.{proofs.RecordedParts.three_fields}
use Rattle.pim_saver.proofs.recorded_writing.write_kept.Goals as goal

pub returns-clause-ok : goal.returns-clause-ok
returns-clause-ok c =
    three_fields _ _ _ _ _ _ _ _ _ _ _ c.in_ok-push.ensures.items c.in_ok-write.ensures.ok c.in_ok-write-2.ensures.ok c.in_ok-write-3.ensures.ok c.in_ok-write-4.ensures.ok
