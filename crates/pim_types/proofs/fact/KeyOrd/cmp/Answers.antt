use Rattle.std.{proofs.Common.◌∙◌}
use Rattle.pim_types.{proofs.Packed.{by_lower, by_upper}}
use Rattle.pim_types.proofs.fact.KeyOrd.cmp.Goals as goal

pub returns-then-one-two : goal.returns-then-one-two
returns-then-one-two c =
    let one = c.upper-one.ensures in
    let two = c.upper-two.ensures in
    c.cmp.ensures ∙ by_upper c.args.self.now c.args.other.now _ _ one.in_range two.in_range one.number two.number c.if-one-two.true

pub returns : goal.returns
returns c =
    let one = c.upper-one.ensures in
    let two = c.upper-two.ensures in
    c.cmp-2.ensures
    ∙ by_lower c.args.self.now c.args.other.now _ _ _ _ one.in_range two.in_range one.number two.number c.if-one-two.false c.lower.ensures c.lower-2.ensures
