use Rattle.std.{proofs.Common.{◌≡◌, List, [], map, subst}}
use Rattle.pim_model.{specs.{Messages.Message, Querier.each_in_turn, State.State}}
use Rattle.pim_views.{specs.{After.{opened_in, opening_in}, declared.after.SourceAfter.SourceAfter}}
use Rattle.pim_asserts.{specs.Opened.{clear_bit, clear_source}, proofs.Stays.{asserts_stay, bits_stay}}
use Rattle.pim_asserts.proofs.clearing.is_clear.Goals as goal

pub returns-clause-asserts : goal.returns-clause-asserts
returns-clause-asserts c e =
    let s = c.args.world.now in
    let x = c.args.after.now in
    let none : State × List Message = (s, []) in
    asserts_stay s (opening_in x) (c.is_clear_star.ensures c.if-not-is_clear_star.false)
    (subst (λ (xs : List SourceAfter). each_in_turn (clear_source x.star.group.bits) s (map opened_in xs) ≡ none)
    c.as_slice.ensures (c.are_clear_among.ensures.asserts e))

pub returns-clause-bits : goal.returns-clause-bits
returns-clause-bits c e =
    let s = c.args.world.now in
    let x = c.args.after.now in
    let none : State × List Message = (s, []) in
    bits_stay s (opening_in x)
    (subst (λ (xs : List SourceAfter). each_in_turn (clear_bit x.star.group.bits) s (map opened_in xs) ≡ none)
    c.as_slice.ensures (c.are_clear_among.ensures.bits e))
