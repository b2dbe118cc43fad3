use Rattle.std.{proofs.Common.arith}
use Rattle.pim_saver.{specs.Views.state_view}
use Rattle.pim_worlds.{proofs.Read.{refused_read, resumable_read, test_read, world_read}}
use Rattle.pim_worlds.proofs.resumed.resume.Goals as goal

pub returns-in-Err-clause-refused : goal.returns-in-Err-clause-refused
returns-in-Err-clause-refused c =
    refused_read c.args.bytes.now (state_view c.in-Ok.state) (λ i. omega (arith, c.type_inv.bytes i)) c.in-Ok.ensures
    c.in-Err.refusal (rw c.in-Err.is at c.in_ok-world.ensures.refused)

pub returns-clause-world : goal.returns-clause-world
returns-clause-world c =
    world_read c.args.bytes.now (state_view c.in-Ok.state) (λ i. omega (arith, c.type_inv.bytes i)) c.in-Ok.ensures
    c.in-Ok-2.world (rw c.in-Ok-2.is at c.in_ok-world.ensures.made)

pub returns-clause-tested : goal.returns-clause-tested
returns-clause-tested c =
    test_read c.args.bytes.now (state_view c.in-Ok.state) (λ i. omega (arith, c.type_inv.bytes i)) c.in-Ok.ensures
    c.in-Ok-2.world (rw c.in-Ok-2.is at c.in_ok-world.ensures.made)

pub returns-clause-resumable : goal.returns-clause-resumable
returns-clause-resumable c =
    resumable_read c.args.bytes.now (state_view c.in-Ok.state) (λ i. omega (arith, c.type_inv.bytes i)) c.in-Ok.ensures
    c.in-Ok-2.world (rw c.in-Ok-2.is at c.in_ok-world.ensures.made)
