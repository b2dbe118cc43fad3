use Rattle.std.{proofs.Common.{◌+◌, ap, drop, fold, get_or, sym, ◌∙◌}}
use Rattle.pim_types.{specs.{declared.fact.NeighbourRow.NeighbourRow, Keys.star_key}}
use Rattle.pim_model.{specs.{State.State, Tables.{Table, drop_at}}}
use Rattle.pim_reloader.{proofs.{Dropped.{none_left_dropped, one_more_dropped}, Placed.{gone_there, one_gone}}}
use Rattle.pim_reloader.proofs.moved.remove_neighbours.Goals as goal

pub loop-key-preserved : goal.loop-key-preserved
loop-key-preserved c =
    let keys = c.args.keys.now in
    let i = c.loop-key.key-index in
    let key = get_or keys i (star_key 0 0) in
    record {
      neighbours = ap (λ (t : Table NeighbourRow). fold drop_at t (drop (i + 1) keys))
          (gone_there c.loop-key.world c.remove_neighbour.new.self key c.remove_neighbour.ensures)
          ∙ one_more_dropped keys i (star_key 0 0) c.loop-key.world.neighbours c.loop-key-test.true
          ∙ c.loop-key.invariant.neighbours;
      rest = one_gone c.args.world.now c.loop-key.world c.remove_neighbour.new.self key c.loop-key.invariant.rest
          c.remove_neighbour.ensures;
    }

pub returns : goal.returns
returns c =
    let neighbours = sym (none_left_dropped c.args.keys.now c.loop-key.key-index c.loop-key.world.neighbours c.loop-key-test.false)
    ∙ c.loop-key.invariant.neighbours in
    c.loop-key.invariant.rest
    ∙ ap (λ (t : Table NeighbourRow). let s : State = record c.args.world.now { neighbours = t } in s) neighbours
