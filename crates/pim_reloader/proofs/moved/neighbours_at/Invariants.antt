use Rattle.std.{proofs.Common.filter}
use Rattle.pim_types.{specs.Keys.iface_in}
use Rattle.pim_model.{specs.Tables.{is_among, keys_in}}
use Rattle.law_settled.{proofs.FoundRows.Keeps}
use Rattle.pim_reloader.proofs.moved.neighbours_at.Given as goal

abbrev pub invariant-loop-key : goal.invariant-loop-key
invariant-loop-key l =
    Keeps (λ e. is_among (iface_in e.0) l.places)
    (keys_in (filter (λ e. is_among (iface_in e.0) l.places) l.fn.world.neighbours)) l.keys.items l.key-iterator
