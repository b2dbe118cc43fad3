use Rattle.std.{proofs.Common.{◌∙◌, Some, ap, sym}, specs.Option.option_copied_mut}
use Rattle.pim_model.{specs.Tables.{keys_in, row_at}}
use Rattle.pim_types.{specs.Keys.{addr_cmp, key_cmp}}
use Rattle.pim_tables.{proofs.{facts.FactsWriteRows.replace.Goals.{in-None, in-Some}, Rows.{absent_is_unchanged, changed_to, written_is_changed}}}
use Rattle.pim_tables.proofs.facts.FactsWriteRows.replace.Goals as goal

pub returns-clause-changed : goal.returns-clause-changed
unfolding keys_in key_cmp addr_cmp row_at
returns-clause-changed g c = rw (← c.self.view_is) (elim c.match-get_mut.branch [
  | in-Some w ↦ rw w.self-inside-is ((c.get_mut.follows.holds w.after.result).0
      ∙ written_is_changed c.args.key (λ before. Some (g.C.Change.after c.args.change before)) w.after.result
      c.self.inside.rows.entries c.self.invariant
      (changed_to (row_at c.self.inside.rows.entries c.args.key) (g.C.Change.after c.args.change) w.in-Some.place.now
      w.after.result (sym c.get_mut.ensures.value ∙ ap (λ r. option_copied_mut r) w.in-Some.is) w.after.ensures))
  | in-None w ↦ rw w.self-inside-is (ap (λ m. m.entries) c.get_mut.follows.holds-at-none
      ∙ absent_is_unchanged c.args.key (λ before. Some (g.C.Change.after c.args.change before))
      c.self.inside.rows.entries (sym c.get_mut.ensures.value ∙ ap (λ r. option_copied_mut r) w.in-None.is))
])
