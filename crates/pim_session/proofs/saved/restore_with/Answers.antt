use Rattle.std.{proofs.Common.sym}
use Rattle.pim_session.{proofs.Saving.{front_by, tested_by}}
use Rattle.pim_session.proofs.saved.restore_with.Goals as goal

pub returns-then-not-are_held-clause-refused : goal.returns-then-not-are_held-clause-refused
returns-then-not-are_held-clause-refused c =
    tested_by c.args.hosts.now c.args.bytes.now c.in-Ok.router _ (rw c.in-Ok.is at c.in_ok-router.ensures.restored)
    (rw c.in-Ok.is at c.in_ok-router.ensures.tested)
    (rw c.of.ensures at (sym c.if-not-are_held.ensures))

pub returns-clause-restored : goal.returns-clause-restored
returns-clause-restored c = λ s is.
    let made = (rw c.in-Ok.is at c.in_ok-router.ensures.restored) s is in
    (made, front_by c.in-Ok.router s c.args.hosts.now c.in_ok-front.front made c.in_ok-front.ensures)

pub returns-clause-tested : goal.returns-clause-tested
returns-clause-tested c =
    tested_by c.args.hosts.now c.args.bytes.now c.in-Ok.router _ (rw c.in-Ok.is at c.in_ok-router.ensures.restored)
    (rw c.in-Ok.is at c.in_ok-router.ensures.tested)
    (rw c.of.ensures at (sym c.if-not-are_held.ensures))
