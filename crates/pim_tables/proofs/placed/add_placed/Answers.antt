use Rattle.std.{proofs.Common.{ap, sym, ◌∙◌}}
use Rattle.slab.{specs.Slab.get}
use Rattle.pim_tables.{proofs.Standing.{added_standing, placed_after}}
use Rattle.pim_tables.proofs.placed.add_placed.Goals as goal

pub returns-clause-ok : goal.returns-clause-ok
returns-clause-ok g c =
    added_standing (get c.args.rows.now) _ c.args.places.now _ c.requires.placed c.args.key c.args.row
    c.vacant_key-place.result c.requires.absent
    (sym (ap (λ s. get s c.vacant_key-place.result) c.reserve.ensures.rest_kept) ∙ c.vacant_key-place.ensures.vacant)
    (ap (get c.insert_reserved.new.self) (c.vacant_key-place.ensures.value ∙ sym c.insert_reserved.ensures.key)
    ∙ c.insert_reserved.ensures.updates.changed)
    (λ p differs. c.insert_reserved.ensures.updates.others p
    (λ same. differs (same ∙ c.insert_reserved.ensures.key ∙ sym c.vacant_key-place.ensures.value))
    ∙ ap (λ s. get s p) c.reserve.ensures.rest_kept)
    c.in_ok-put.ensures.ok c.proof_rising.ensures

pub returns-clause-placed : goal.returns-clause-placed
returns-clause-placed g c =
    placed_after (get c.args.rows.now) _ c.args.places.now _ c.requires.placed c.args.key c.args.row
    c.vacant_key-place.result c.requires.absent
    (sym (ap (λ s. get s c.vacant_key-place.result) c.reserve.ensures.rest_kept) ∙ c.vacant_key-place.ensures.vacant)
    (ap (get c.insert_reserved.new.self) (c.vacant_key-place.ensures.value ∙ sym c.insert_reserved.ensures.key)
    ∙ c.insert_reserved.ensures.updates.changed)
    (λ p differs. c.insert_reserved.ensures.updates.others p
    (λ same. differs (same ∙ c.insert_reserved.ensures.key ∙ sym c.vacant_key-place.ensures.value))
    ∙ ap (λ s. get s p) c.reserve.ensures.rest_kept)
    c.in_ok-put.ensures.ok c.proof_rising.ensures
