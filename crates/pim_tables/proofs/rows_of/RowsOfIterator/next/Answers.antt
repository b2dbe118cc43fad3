use Rattle.std.{proofs.Common.{ap, filter, subst, sym, ◌∙◌}}
use Rattle.pim_tables.{specs.RowsOf.{RiseFrom, is_of}, proofs.Walks.{is_over, risen}}
use Rattle.pim_tables.proofs.rows_of.RowsOfIterator.next.Goals as goal

pub invariant_of-self-then-not-is_of : goal.invariant_of-self-then-not-is_of
invariant_of-self-then-not-is_of g c =
    risen c.self.inside.iface.number c.self.inside.group (c.in_ok-key.key.now, c.in_ok-key.row.now) c.next.new.self
    (subst (RiseFrom c.self.inside.iface.number c.self.inside.group) c.in_ok-key.ensures.steps c.self.invariant)

pub returns-then-not-is_of-clause-steps : goal.returns-then-not-is_of-clause-steps
returns-then-not-is_of-clause-steps g c =
    let over =
    is_over c.self.inside.iface.number c.self.inside.group (c.in_ok-key.key.now, c.in_ok-key.row.now) c.next.new.self
    (subst (RiseFrom c.self.inside.iface.number c.self.inside.group) c.in_ok-key.ensures.steps c.self.invariant)
    (sym c.if-not-is_of.ensures) in (
      sym c.self.view_is
          ∙ ap (filter (λ e. is_of c.self.inside.iface.number c.self.inside.group e.0)) c.in_ok-key.ensures.steps
          ∙ over.0,
      over.1,
    )

pub invariant_of-self-2 : goal.invariant_of-self-2
invariant_of-self-2 g c =
    risen c.self.inside.iface.number c.self.inside.group (c.in_ok-key.key.now, c.in_ok-key.row.now) c.next.new.self
    (subst (RiseFrom c.self.inside.iface.number c.self.inside.group) c.in_ok-key.ensures.steps c.self.invariant)
