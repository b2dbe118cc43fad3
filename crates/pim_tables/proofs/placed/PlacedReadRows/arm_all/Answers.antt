use Rattle.std.{proofs.Common.{ap, arith, length, ◌∙◌}}
use Rattle.pim_timers.{specs.Armed.holds}
use Rattle.pim_tables.{specs.Ends.most_ends, proofs.Steps.{most_more, none_left, row_owed_less, rows_owed}}
use Rattle.pim_tables.proofs.placed.PlacedReadRows.arm_all.Goals as goal

pub loop-key-init : goal.loop-key-init
loop-key-init g c =
    let is = c.into_iter-key-iterator.ensures.into_iter_gives ∙ c.iter-key-items.ensures in
    let same = ap (λ t. most_ends g.R.Ends.kinds.1 (length t)) is in
    record {
      owes = rows_owed g.R.Ends.kinds g.R.Ends.ends c.args.self.now c.into_iter-key-iterator.result (holds c.args.queue.now) is;
      room = omega (arith, same, c.requires);
      few = omega (arith, same);
    }

pub loop-key-preserved : goal.loop-key-preserved
loop-key-preserved g c =
    let more = most_more g.R.Ends.kinds.1 c.loop-key.key-iterator c.next.new.self (c.in-Some.key.now, c.in-Some.row.now)
    c.in-Some.ensures.steps in
    record {
      owes = row_owed_less g.R.Ends.kinds g.R.Ends.ends c.args.self.now c.loop-key.key-iterator c.next.new.self
          c.in-Some.key.now c.in-Some.row.now (holds c.loop-key.queue) (holds c.arm_row.new.queue) c.in-Some.ensures.steps
          c.arm_row.ensures.grows c.arm_row.ensures.armed c.loop-key.invariant.owes;
      room = omega (arith, more, c.loop-key.invariant.room, c.arm_row.ensures.room);
      few = omega (arith, more, c.loop-key.invariant.few, c.arm_row.ensures.few);
    }

pub arm_row-requires : goal.arm_row-requires
arm_row-requires g c =
    let more = most_more g.R.Ends.kinds.1 c.loop-key.key-iterator c.next.new.self (c.in-Some.key.now, c.in-Some.row.now)
    c.in-Some.ensures.steps in
    omega (arith, more, c.loop-key.invariant.room)

pub returns-clause-armed : goal.returns-clause-armed
returns-clause-armed g c =
    none_left g.R.Ends.kinds g.R.Ends.ends c.args.self.now c.loop-key.key-iterator (holds c.loop-key.queue)
    c.in-None.ensures.steps.0 c.loop-key.invariant.owes
