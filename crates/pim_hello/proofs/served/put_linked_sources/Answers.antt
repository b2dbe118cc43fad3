use Rattle.std.{proofs.Common.{sym, ◌∙◌}}
use Rattle.pim_hello.{proofs.OffLink.none_put}
use Rattle.pim_hello.proofs.served.put_linked_sources.Goals as goal

pub returns-then-not-has_source_on_subnet : goal.returns-then-not-has_source_on_subnet
returns-then-not-has_source_on_subnet c =
    none_put c.args.world.now c.args.iface.number c.args.keys.now.items (sym c.has_source_on_subnet.ensures ∙ c.if-not-has_source_on_subnet.true)
