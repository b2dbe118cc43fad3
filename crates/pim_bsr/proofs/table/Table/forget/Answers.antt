use Rattle.std.{proofs.{Common.{List, ap, filter, rules, ◌∙◌}, lemmas.Fn.filter_same}}
use Rattle.pim_bsr.{specs.{Table.{Table, runs, waits}, declared.learned.{Learned.Learned, Part.Part}}}
use Rattle.pim_bsr.proofs.table.Table.forget.Goals as goal

pub returns : goal.returns
returns c = rw (← c.self.view_is)
    (ap (λ (rps : List Learned). let t : Table = record { rps = rps; parts = c.retain-2.new.self.items } in t)
    (filter_same _ (runs c.args.moment) _ (λ x b f' k. search rules) _ _ c.retain.ensures.filtered)
    ∙ ap (λ (parts : List Part). let t : Table = record { rps = filter (runs c.args.moment) c.self.inside.rps.items; parts = parts } in t)
    (filter_same _ (waits c.args.moment) _ (λ x b f' k. search rules) _ _ c.retain-2.ensures.filtered))
