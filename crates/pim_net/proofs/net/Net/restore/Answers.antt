use Rattle.std.{proofs.Common.{◌≡◌, Some, Ok, subst}, specs.Prelude.{IfOk, IfSome, OnOk, None, if◌then◌else◌}}
use Rattle.pim_model.{specs.State.State}
use Rattle.pim_saved.{specs.Reading.reading}
use Rattle.pim_net.{specs.Showing.{Wired, with_state_at}, proofs.Restored.{net_put, works_on}}
use Rattle.pim_net.proofs.net.Net.restore.Goals as goal

pub invariant_of-self : goal.invariant_of-self
invariant_of-self g c = λ works.
    works_on c.self.inside.network c.restore.new.self c.args.router c.args.bytes.now c.restore.result
    (c.self.invariant works) c.restore.ensures.restored c.restore.ensures.same c.restore.ensures.fails

pub returns-else-self-clause-restored : goal.returns-else-self-clause-restored
returns-else-self-clause-restored g c =
    subst (λ (w : Wired _). IfOk c.restore.result (λ made. OnOk made ((s : State) × (reading c.args.bytes.now ≡ Ok s)
    × IfSome w.network (λ n. record {
      network = if c.self.inside.failed then None else c.restore.new.self;
      ports = c.self.inside.ports.items;
      wire = c.self.inside.wire;
    } ≡ record w { network = Some (with_state_at n c.args.router s) })))) c.self.view_is
    (net_put c.self.inside.ports.items c.self.inside.wire c.self.inside.failed c.if-self.false c.self.inside.network
    c.restore.new.self c.args.router c.args.bytes.now c.restore.result c.restore.ensures.restored)
