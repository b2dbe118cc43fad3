-- What changes none of the rows by which packets are asked for: what follows from a change, and most events and timers.
use Rattle.std.{proofs.Common.{◌≡◌, ℕ, List, refl, arith}}
use Rattle.pim_types.{specs.declared.fact.{AssertMetric.AssertMetric, AssertRow.AssertRow, DownstreamRow.DownstreamRow, GroupRecordRow.GroupRecordRow, Key.Key, RegisterState.RegisterState, SourceRecordRow.SourceRecordRow}}
use Rattle.pim_wire.{specs.{Values.JoinPrune, declared.{assert.Assert.Assert as AssertMessage, hello.Hello.Hello as HelloValue}}}
use Rattle.pim_model.{specs.{Asserts.{assert_as_loser, assert_as_winner, assert_at, assert_due, assert_forgotten, assert_in_no_info, assert_received, data_seen, loses, loses_first, wins, wins_again, with_spt_bit}, Firing.settled, Forwarding.{source_here, source_joined, spt_updated, watched}, Hellos.{hello_received, hello_triggered, neighbour_replaced, neighbour_restarted}, Messages.Message, Registers.{register_due, register_stop_seen, settle_register, with_keepalive}, Seen.{cancel_override_timer, lower_join_timer, lower_override_timer, raise_join_timer, seen}, State.State, Tables.Table}}
use Rattle.law_settled.{proofs.{SeenLaws.kept_by_seen, Unsettled.settling_leaves}}

-- the rows by which packets are asked for
pub record Rows : Type 0 where
  pub downstream : Table DownstreamRow
  pub groups : Table GroupRecordRow
  pub sources : Table SourceRecordRow

abbrev pub rows_of : State → Rows
rows_of s = record { downstream = s.downstream; groups = s.group_records; sources = s.source_records }

abbrev pub Same : State → State → Type 0
Same s t = rows_of t ≡ rows_of s

-- ---- what follows from a change

pub settled_same : (o : State) (change : State × List Message) (w : ℕ) → Same change.0 (settled o change w).0
settled_same o change w = grind (arith, settling_leaves)

-- ---- asserts

assert_at_same : (s : State) (k : Key) (theirs : AssertMetric) → Same s (assert_at s k theirs).0
unfolding assert_at assert_in_no_info assert_as_winner assert_as_loser wins wins_again loses loses_first with_spt_bit
    assert_forgotten
assert_at_same s k theirs = grind arith

pub assert_same : (s : State) (i from : ℕ) (a : AssertMessage) → Same s (assert_received s i from a).0
unfolding assert_received
assert_same s i from a = grind (arith, assert_at_same)

pub assert_due_same : (s : State) (k : Key) (r : AssertRow) → Same s (assert_due s k r).0
unfolding assert_due wins_again assert_forgotten
assert_due_same s k r = grind arith

-- ---- data and Registers

pub data_seen_same : (s : State) (k : Key) → Same s (data_seen s k).0
unfolding data_seen wins
data_seen_same s k = grind arith

module _ (s : State) (g src : ℕ) where
  pub here_same : (iif : ℕ) → Same s (source_here s g src iif)
  unfolding source_here settle_register with_keepalive
  here_same iif = grind arith

  pub joined_same : (iif : ℕ) → Same s (source_joined s g src iif)
  unfolding source_joined with_keepalive
  joined_same iif = grind arith

  pub spt_same : (iif : ℕ) → Same s (spt_updated s g src iif)
  unfolding spt_updated with_spt_bit
  spt_same iif = grind arith

  pub watched_same : Same s (watched s g src)
  unfolding watched with_keepalive
  watched_same = grind arith

pub register_stop_same : (s : State) (w g src : ℕ) → Same s (register_stop_seen s w g src)
unfolding register_stop_seen
register_stop_same s w g src = refl

pub register_due_same : (s : State) (k : Key) (state : RegisterState) → Same s (register_due s k state).0
unfolding register_due
register_due_same s k state = grind arith

-- ---- Hellos, and Join/Prunes between other routers

pub hello_same : (s : State) (i address : ℕ) (h : HelloValue) (w : ℕ) → Same s (hello_received s i address h w)
unfolding hello_received hello_triggered neighbour_replaced neighbour_restarted
hello_same s i address h w = grind arith

pub seen_same : (s : State) (w i : ℕ) (m : JoinPrune) → Same s (seen s w i m)
unfolding raise_join_timer lower_join_timer cancel_override_timer lower_override_timer
seen_same s w i m = kept_by_seen (Same s) s w i m (λ t k end f. f) (λ t k f. f) (λ t k f. f) (λ t k f. f) refl
