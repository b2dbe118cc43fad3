use Rattle.std.{proofs.Common.{arith, subst, sym}}
use Rattle.pim_types.{specs.declared.fact.NeighbourRow.NeighbourRow}
use Rattle.pim_model.{specs.Tables.Table}
use Rattle.pim_state.{specs.Shown.{Shows, is_dr_on}, proofs.Elected.elected_alone}
use Rattle.pim_state.proofs.world.World.without_facts.Goals as goal

pub invariant_of-result : goal.invariant_of-result
invariant_of-result c = (
  omega (arith),
  c.requires.least,
  c.requires.most,
  subst (λ (t : Table NeighbourRow). Shows c.below.result (is_dr_on c.args.interfaces.configured t))
      (sym c.new.ensures)
      (elected_alone c.args.interfaces.configured c.below.result c.below.ensures.interfaces),
  c.requires.interval,
  tt,
)
