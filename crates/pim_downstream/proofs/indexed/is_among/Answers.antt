use Rattle.std.{proofs.Common.{arith, ◌∙◌}}
use Rattle.pim_types.{specs.Keys.{addr_cmp, key_cmp}}
use Rattle.pim_model.{specs.Downstream.is_named}
use Rattle.pim_downstream.proofs.indexed.is_among.Goals as goal

pub returns : goal.returns
unfolding key_cmp addr_cmp is_named
returns c = c.contains.ensures ∙ c.requires (omega (arith, c.if-keys-le-FEW.false)) c.args.key
