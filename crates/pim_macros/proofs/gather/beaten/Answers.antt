use Rattle.std.{proofs.{Common.arith, lemmas.Grind.common_steps}}
use Rattle.pim_model.{specs.Sets.is_beaten}
use Rattle.pim_macros.{proofs.Asserted.{beaten_nowhere, beaten_where_asserted}}
use Rattle.pim_macros.proofs.gather.beaten.Goals as goal

pub returns-then-is_empty : goal.returns-then-is_empty
returns-then-is_empty c =
    beaten_nowhere c.args.world.now c.args.name.group.bits c.args.name.source.bits c.args.asserted c.new.result
    c.requires.asserted ((c.is_empty.ensures).0 c.if-is_empty.true).0 c.new.ensures.interfaces

pub returns : goal.returns
returns c =
    let s = c.args.world.now in
    let g = c.args.name.group.bits in
    let src = c.args.name.source.bits in
    c.interfaces_where.ensures (is_beaten s g src)
    (λ i b below k. let e = beaten_where_asserted s g src i _ (c.requires.asserted i) in grind (arith, common_steps))
