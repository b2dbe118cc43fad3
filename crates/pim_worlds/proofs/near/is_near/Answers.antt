use Rattle.std.{proofs.Common.{◌∙◌, sym}}
use Rattle.law_states.{specs.{ReloadLaws.next_query_is_near, Ends.{asserts_are_near, hellos_are_near, registers_are_near}, Kinds.{neighbours_are_keyed, sources_are_grouped}, Own.won_are_own}, proofs.NearStates.near_so}
use Rattle.pim_worlds.proofs.near.is_near.Goals as goal

pub returns : goal.returns
unfolding next_query_is_near hellos_are_near registers_are_near asserts_are_near won_are_own neighbours_are_keyed
    sources_are_grouped
returns c =
    let queriers = rw (rw c.membership.ensures at c.querier_rows.ensures) at c.are_queriers_near.ensures in
    let hellos = rw (rw c.interfaces.ensures at c.rows.ensures.rows) at c.are_hellos_near.ensures in
    let registers = rw (rw c.store-store.ensures at c.register_rows.ensures) at c.are_registers_near.ensures in
    let asserts = rw (rw c.store-store.ensures at c.assert_rows.ensures.rows) at c.are_asserts_near.ensures in
    let won = rw (rw c.store-store.ensures at c.assert_rows-2.ensures.rows) at c.are_won_own.ensures in
    let neighbours = rw (rw c.neighbours.ensures at c.iter.ensures) at c.are_of_neighbours.ensures in
    let grouped = rw (rw c.membership-2.ensures at c.source_record_rows.ensures.rows) at c.are_grouped.ensures in
    sym (near_so c.args.world.now
    (sym queriers ∙ c.if-not-are_queriers_near.false) (
      sym hellos ∙ c.if-not-are_hellos_near.false,
      (
        sym registers ∙ c.if-not-are_registers_near.false,
        (
          sym asserts ∙ c.if-not-are_asserts_near.false,
          (
            sym won ∙ c.if-not-are_won_own.false,
            (sym neighbours ∙ c.if-not-are_of_neighbours.false, (sym grouped ∙ c.if-not-are_grouped.false, tt)),
          ),
        ),
      ),
    ))
