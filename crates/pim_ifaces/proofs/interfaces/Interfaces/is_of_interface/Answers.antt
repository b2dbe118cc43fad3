use Rattle.std.{proofs.Common.{sym, ◌∙◌}}
use Rattle.pim_ifaces.{proofs.FoundLinks.{own_at, own_nowhere, seen}}
use Rattle.pim_ifaces.proofs.interfaces.Interfaces.is_of_interface.Goals as goal

pub returns-in-Some : goal.returns-in-Some
returns-in-Some c =
    c.has_address.ensures
    ∙ own_at c.args.self.now.configured.interfaces c.args.address.bits c.in-Some.number
    (seen _ c.args.self.now _ _ _ c.self.view_is c.in-Some.is c.around.ensures)

pub returns-in-None : goal.returns-in-None
returns-in-None c =
    sym (own_nowhere c.args.self.now.configured.interfaces c.args.address.bits
    (seen _ c.args.self.now _ _ _ c.self.view_is c.in-None.is c.around.ensures))
