use Rattle.pim_saver.{proofs.RecordedParts.four_fields}
use Rattle.pim_saver.proofs.recorded_writing.write_seen.Goals as goal

pub returns-clause-ok : goal.returns-clause-ok
returns-clause-ok c =
    four_fields _ _ _ _ _ _ _ _ _ _ _ _ _ c.in_ok-push.ensures.items c.in_ok-write.ensures.ok c.in_ok-write-2.ensures.ok c.in_ok-write-3.ensures.ok c.in_ok-write-4.ensures.ok c.in_ok-write-5.ensures.ok
