use Rattle.std.{proofs.Common.{ap, option_map, sym, ◌∙◌}}
use Rattle.pim_ip.{specs.declared.addr.Addr.Addr}
use Rattle.pim_rerouted.{proofs.OtherRoutes.{moved_with_rp, unmoved_without_rp}}
use Rattle.pim_rerouted.proofs.rerouted.is_rp_moved.Goals as goal

pub returns-in-Some : goal.returns-in-Some
returns-in-Some c =
    c.is_moved.ensures
    ∙ moved_with_rp c.args.world.now c.args.next.now.table.now.routes c.args.group.bits c.in-Some.rp.bits
    (sym c.rp.ensures.value ∙ ap (option_map (λ (a : Addr). a.bits)) c.in-Some.is)

pub returns-in-None : goal.returns-in-None
returns-in-None c =
    unmoved_without_rp c.args.world.now c.args.next.now.table.now.routes c.args.group.bits
    (sym c.rp.ensures.value ∙ ap (option_map (λ (a : Addr). a.bits)) c.in-None.is)
