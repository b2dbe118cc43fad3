use Rattle.std.{proofs.Common.sym}
use Rattle.pim_model.{specs.Firing.{fire_row, fired}}
use Rattle.pim_querier.{proofs.Starting.nothing_said}
use Rattle.pim_querier.proofs.firing.general_query_fired.Goals as goal

pub returns-in-Some-clause-state : goal.returns-in-Some-clause-state
unfolding fired fire_row
returns-in-Some-clause-state c =
    rw (sym (rw c.membership.ensures at c.in-Some.ensures)) (rw c.startup_left.ensures at c.general_query_due.ensures.state)

pub returns-in-Some-clause-messages : goal.returns-in-Some-clause-messages
unfolding fired fire_row
returns-in-Some-clause-messages c =
    rw (sym (rw c.membership.ensures at c.in-Some.ensures)) (rw c.startup_left.ensures at c.general_query_due.ensures.messages)

pub returns-in-None-clause-state : goal.returns-in-None-clause-state
unfolding fired fire_row
returns-in-None-clause-state c = rw (sym (rw c.membership.ensures at c.in-None.ensures))

pub returns-in-None-clause-messages : goal.returns-in-None-clause-messages
unfolding fired fire_row
returns-in-None-clause-messages c = rw (sym (rw c.membership.ensures at c.in-None.ensures)) (sym (nothing_said c.args.turn.now))
