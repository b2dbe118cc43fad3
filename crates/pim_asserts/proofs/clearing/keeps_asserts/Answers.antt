use Rattle.std.{proofs.Common.{◌≡◌, None, Some, subst, sym}}
use Rattle.pim_ip.{specs.declared.addr.Addr.Addr}
use Rattle.pim_asserts.{specs.{Going.{first_below, goes_at}, Opened.clear_source}, proofs.Stays.part_stays}
use Rattle.pim_asserts.proofs.clearing.keeps_asserts.Goals as goal

pub returns-in_default : goal.returns-in_default
unfolding clear_source
returns-in_default c e =
    let s = c.args.world.now in
    let x = c.args.opened in
    let g = c.args.sight.now.star.group.bits in
    part_stays s g (Some x.source.bits) x.view.iface c.proof_keyed.ensures
    (subst (λ (a : Addr). first_below (goes_at x.view.iface g (Some a.bits) s) ≡ None) c.requires.source
    (sym c.in_default.ensures))
