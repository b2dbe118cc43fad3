use Rattle.std.{proofs.Common.{◌∙◌, Some, ap, sym}, specs.Option.option_copied_mut}
use Rattle.pim_model.{specs.Tables.{keys_in, row_at}}
use Rattle.pim_types.{specs.Keys.{addr_cmp, key_cmp}}
use Rattle.pim_tables.{proofs.{facts.Facts.change.Goals.{in-Some, in_default}, Rows.{absent_is_unchanged, always, written_is_changed}}}
use Rattle.pim_tables.proofs.facts.Facts.change.Goals as goal

pub returns-clause-to : goal.returns-clause-to
unfolding keys_in key_cmp addr_cmp row_at
returns-clause-to g c = rw (← c.self.view_is) (elim c.match-get_mut.branch [
  | in-Some w ↦ rw w.self-inside-is ((c.get_mut.follows.holds c.args.row).0
      ∙ written_is_changed c.args.key (λ _. Some c.args.row) c.args.row c.self.inside.rows.entries c.self.invariant
      (always _ c.args.row))
  | in_default w ↦ rw w.self-inside-is (ap (λ m. m.entries) c.get_mut.follows.holds-at-none
      ∙ absent_is_unchanged c.args.key (λ _. Some c.args.row) c.self.inside.rows.entries
      (sym c.get_mut.ensures.value ∙ ap (λ r. option_copied_mut r) w.in_default.is))
])

pub returns-clause-by : goal.returns-clause-by
unfolding keys_in key_cmp addr_cmp row_at
returns-clause-by g c = λ change is. rw (← c.self.view_is) (elim c.match-get_mut.branch [
  | in-Some w ↦ rw w.self-inside-is ((c.get_mut.follows.holds c.args.row).0
      ∙ written_is_changed c.args.key change c.args.row c.self.inside.rows.entries c.self.invariant
      (rw (← c.self.view_is) at is))
  | in_default w ↦ rw w.self-inside-is (ap (λ m. m.entries) c.get_mut.follows.holds-at-none
      ∙ absent_is_unchanged c.args.key change c.self.inside.rows.entries
      (sym c.get_mut.ensures.value ∙ ap (λ r. option_copied_mut r) w.in_default.is))
])
