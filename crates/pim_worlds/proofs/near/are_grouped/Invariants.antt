use Rattle.std.{proofs.Common.◌≡◌, specs.List.list_all}
use Rattle.pim_types.{specs.Keys.{group_in, iface_in, star_key}}
use Rattle.pim_model.{specs.Tables.has_row}
use Rattle.pim_worlds.proofs.near.are_grouped.Given as goal

abbrev pub invariant-loop-key : goal.invariant-loop-key
invariant-loop-key l =
    list_all (λ e. has_row l.world.group_records (star_key (iface_in e.0) (group_in e.0))) l.key-iterator
    ≡ list_all (λ e. has_row l.fn.world.group_records (star_key (iface_in e.0) (group_in e.0))) l.fn.rows
