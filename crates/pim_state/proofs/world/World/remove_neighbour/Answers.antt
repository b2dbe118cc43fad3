use Rattle.std.{proofs.Common.{ap, sym, ◌∙◌}}
use Rattle.pim_model.{specs.{Neighbours.is_dr_among, State.State, Tables.rows_on}}
use Rattle.pim_state.{specs.Shown.is_dr_on, proofs.Elected.elected_after_end}
use Rattle.pim_state.proofs.world.World.remove_neighbour.Goals as goal

pub invariant_of-self : goal.invariant_of-self
invariant_of-self c =
    let w = c.self.inside in
    let new = c.remove_at.new.self in
    let i = c.args.key.iface.number in (
      c.self.invariant.0,
      c.self.invariant.1,
      c.self.invariant.2,
      elected_after_end w.interfaces.configured w.dr c.with_member-self-inside.result w.neighbours new c.args.key
          c.is_dr-is_dr.result c.remove_at.ensures c.self.invariant.3
          (c.is_dr-is_dr.ensures
          ∙ (λ j. is_dr_among (c.own-own.ensures.priority j) (c.own-own.ensures.address j) (rows_on i new))
          ∙ ap (λ (s : State). is_dr_on s.configured new i) (sym c.self.view_is))
          c.with_member-self-inside.ensures,
      c.self.invariant.4,
      tt,
    )
