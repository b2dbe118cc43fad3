use Rattle.std.{proofs.Common.{sym, ◌∙◌}}
use Rattle.slab.{specs.Slab.get}
use Rattle.pim_tables.{proofs.Standing.{changed_standing, found_at, none_changed, none_found, still_placed}}
use Rattle.pim_tables.proofs.placed.replace_placed.Goals as goal

pub returns-in-Some-clause-before : goal.returns-in-Some-clause-before
returns-in-Some-clause-before g c =
    c.change_at.ensures.before
    ∙ sym (found_at (get c.args.rows.now) c.args.places.now c.requires c.args.key c.in-Some.place
    (sym c.find.ensures ∙ c.in-Some.is))

pub returns-in-Some-clause-changed : goal.returns-in-Some-clause-changed
returns-in-Some-clause-changed g c =
    changed_standing (get c.args.rows.now) _ c.args.places.now c.requires c.args.key c.in-Some.place
    (sym c.find.ensures ∙ c.in-Some.is) (g.C.Change.after c.args.change) c.change_at.ensures.changed
    c.change_at.ensures.others

pub returns-in-Some-clause-placed : goal.returns-in-Some-clause-placed
returns-in-Some-clause-placed g c =
    still_placed (get c.args.rows.now) _ c.args.places.now c.requires c.args.key c.in-Some.place
    (sym c.find.ensures ∙ c.in-Some.is) (g.C.Change.after c.args.change) c.change_at.ensures.changed
    c.change_at.ensures.others

pub returns-in-None-clause-before : goal.returns-in-None-clause-before
returns-in-None-clause-before g c =
    sym (none_found (get c.args.rows.now) c.args.places.now c.requires c.args.key (sym c.find.ensures ∙ c.in-None.is))

pub returns-in-None-clause-changed : goal.returns-in-None-clause-changed
returns-in-None-clause-changed g c =
    none_changed (get c.args.rows.now) c.args.places.now c.requires c.args.key _ (sym c.find.ensures ∙ c.in-None.is)
