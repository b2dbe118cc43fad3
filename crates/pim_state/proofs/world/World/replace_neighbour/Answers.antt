use Rattle.std.{proofs.Common.{ap, sym, ◌∙◌}}
use Rattle.pim_model.{specs.{Neighbours.is_dr_among, State.State, Tables.rows_on}}
use Rattle.pim_state.{specs.Shown.is_dr_on, proofs.Elected.elected_after_hello}
use Rattle.pim_state.proofs.world.World.replace_neighbour.Goals as goal

pub invariant_of-self-2 : goal.invariant_of-self-2
invariant_of-self-2 c =
    let w = c.self.inside in
    let new = c.hello.new.self in
    let i = c.args.iface.number in (
      c.self.invariant.0,
      c.self.invariant.1,
      c.self.invariant.2,
      elected_after_hello w.interfaces.configured w.dr c.with_member-self-inside.result w.neighbours new i
          c.args.from.bits w.present c.args.hello.now c.is_dr-is_dr.result c.in_ok-hello.ensures.ok c.self.invariant.3
          (c.is_dr-is_dr.ensures
          ∙ (λ j. is_dr_among (c.own-own.ensures.priority j) (c.own-own.ensures.address j) (rows_on i new))
          ∙ ap (λ (s : State). is_dr_on s.configured new i) (sym c.self.view_is))
          c.with_member-self-inside.ensures,
      c.self.invariant.4,
      tt,
    )
