use Rattle.pim_session.{proofs.Saving.restored_behind}
use Rattle.pim_session.proofs.saved.restore.Goals as goal

pub returns-in-Ok-clause-restored : goal.returns-in-Ok-clause-restored
returns-in-Ok-clause-restored c =
    restored_behind c.args.bytes.now c.in-Ok.hosts.items c.in-Ok.rest.now c.in-Ok.ensures c.restore_with.result
    (rw c.deref.ensures.value at c.restore_with.ensures.restored)
