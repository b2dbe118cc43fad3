use Rattle.std.{proofs.Common.{ap, option_map, sym, ◌∙◌}}
use Rattle.slab.{specs.Slab.get}
use Rattle.pim_tables.{proofs.Standing.{found_at, left_standing, none_found, none_left_standing, placed_left, still_placed_left}}
use Rattle.pim_tables.proofs.placed.take_placed.Goals as goal

pub returns-in-Some-try_remove-clause-taken : goal.returns-in-Some-try_remove-clause-taken
returns-in-Some-try_remove-clause-taken g c =
    ap (λ o. option_map (λ x. x.1) o) (sym c.in-Some-try_remove.is ∙ c.try_remove.ensures.value)
    ∙ sym (found_at (get c.args.rows.now) c.args.places.now c.requires c.args.key c.in-Some.place
    (sym c.pull.ensures.taken ∙ c.in-Some.is))

pub returns-in-Some-try_remove-clause-left : goal.returns-in-Some-try_remove-clause-left
returns-in-Some-try_remove-clause-left g c =
    left_standing (get c.args.rows.now) c.args.places.now _ c.requires c.args.key c.pull.ensures.left _ c.in-Some.place
    (sym c.pull.ensures.taken ∙ c.in-Some.is) c.try_remove.ensures.updates.changed c.try_remove.ensures.updates.others
    c.proof_rising.ensures

pub returns-in-Some-try_remove-clause-placed : goal.returns-in-Some-try_remove-clause-placed
returns-in-Some-try_remove-clause-placed g c =
    placed_left (get c.args.rows.now) c.args.places.now _ c.requires c.args.key c.pull.ensures.left _ c.in-Some.place
    (sym c.pull.ensures.taken ∙ c.in-Some.is) c.try_remove.ensures.updates.changed c.try_remove.ensures.updates.others
    c.proof_rising.ensures

pub returns-in-None-try_remove-clause-taken : goal.returns-in-None-try_remove-clause-taken
returns-in-None-try_remove-clause-taken g c =
    ap (λ o. option_map (λ x. x.1) o) (sym c.in-None-try_remove.is ∙ c.try_remove.ensures.value)
    ∙ sym (found_at (get c.args.rows.now) c.args.places.now c.requires c.args.key c.in-Some.place
    (sym c.pull.ensures.taken ∙ c.in-Some.is))

pub returns-in-None-try_remove-clause-left : goal.returns-in-None-try_remove-clause-left
returns-in-None-try_remove-clause-left g c =
    left_standing (get c.args.rows.now) c.args.places.now _ c.requires c.args.key c.pull.ensures.left _ c.in-Some.place
    (sym c.pull.ensures.taken ∙ c.in-Some.is) c.try_remove.ensures.updates.changed c.try_remove.ensures.updates.others
    c.proof_rising.ensures

pub returns-in-None-try_remove-clause-placed : goal.returns-in-None-try_remove-clause-placed
returns-in-None-try_remove-clause-placed g c =
    placed_left (get c.args.rows.now) c.args.places.now _ c.requires c.args.key c.pull.ensures.left _ c.in-Some.place
    (sym c.pull.ensures.taken ∙ c.in-Some.is) c.try_remove.ensures.updates.changed c.try_remove.ensures.updates.others
    c.proof_rising.ensures

pub returns-in-None-clause-taken : goal.returns-in-None-clause-taken
returns-in-None-clause-taken g c =
    sym (none_found (get c.args.rows.now) c.args.places.now c.requires c.args.key
    (sym c.pull.ensures.taken ∙ c.in-None.is))

pub returns-in-None-clause-left : goal.returns-in-None-clause-left
returns-in-None-clause-left g c =
    none_left_standing (get c.args.rows.now) c.args.places.now _ c.requires c.args.key c.pull.ensures.left
    (sym c.pull.ensures.taken ∙ c.in-None.is)

pub returns-in-None-clause-placed : goal.returns-in-None-clause-placed
returns-in-None-clause-placed g c =
    still_placed_left (get c.args.rows.now) c.args.places.now _ c.requires c.args.key c.pull.ensures.left
    (sym c.pull.ensures.taken ∙ c.in-None.is)
