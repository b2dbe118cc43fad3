use Rattle.std.{proofs.Common.{◌≡◌, List, [], subst, sym}}
use Rattle.pim_model.{specs.{Messages.Message, State.State}}
use Rattle.pim_asserts.{specs.{Passes.source_pass, declared.clearing.Pass.Pass}}
use Rattle.pim_asserts.proofs.clearing.stays.Goals as goal

pub returns-in-Asserts : goal.returns-in-Asserts
returns-in-Asserts c e =
    let s = c.args.world.now in
    let none : State × List Message = (s, []) in
    subst (λ (p : Pass). source_pass p c.args.sight.now.star.group.bits s c.args.opened ≡ none) (sym c.in-Asserts.is)
    (c.keeps_asserts.ensures e)

pub returns-in-Bits : goal.returns-in-Bits
returns-in-Bits c e =
    let s = c.args.world.now in
    let none : State × List Message = (s, []) in
    subst (λ (p : Pass). source_pass p c.args.sight.now.star.group.bits s c.args.opened ≡ none) (sym c.in-Bits.is)
    (c.keeps_bit.ensures e s c.requires.sight)
