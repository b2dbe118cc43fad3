use Rattle.std.{proofs.Common.{ap, sym, ◌∙◌}, specs.Prelude.option_map}
use Rattle.pim_types.{specs.declared.config.IfaceId.IfaceId}
use Rattle.pim_ifaces.{proofs.FoundLinks.{nowhere, one_down, one_up, seen}}
use Rattle.pim_ifaces.proofs.interfaces.Interfaces.link_to.Goals as goal

pub returns-in_err-number-clause-first : goal.returns-in_err-number-clause-first
returns-in_err-number-clause-first c =
    ap (option_map (λ (i : IfaceId). i.number)) c.from_residual.ensures
    ∙ sym (nowhere c.args.self.now.configured c.args.self.now.rows c.args.address.bits
    (seen _ c.args.self.now _ _ _ c.self.view_is c.in_err-number.was c.around.ensures))

pub returns-then-is_up-clause-first : goal.returns-then-is_up-clause-first
returns-then-is_up-clause-first c =
    sym (one_up c.args.self.now.configured c.args.self.now.rows c.args.address.bits c.in_ok-number.number
    (seen _ c.args.self.now _ _ _ c.self.view_is c.in_ok-number.was c.around.ensures)
    (sym c.is_up.ensures.up ∙ c.if-is_up.true) (c.is_up.ensures.configured c.if-is_up.true))

pub returns-else-is_up-clause-first : goal.returns-else-is_up-clause-first
returns-else-is_up-clause-first c =
    sym (one_down c.args.self.now.configured c.args.self.now.rows c.args.address.bits c.in_ok-number.number
    (seen _ c.args.self.now _ _ _ c.self.view_is c.in_ok-number.was c.around.ensures)
    (sym c.is_up.ensures.up ∙ c.if-is_up.false))
