-- A Prune(S,G,rpt), and the Join that overrides it: at the upper router it waits, and a router below that wants the source
-- answers before that is over (RFC 7761, 4.5.3 and 4.5.7).
use Rattle.std.{specs.{List.Contains, Prelude.{Bool, List, None, Option, Some, [], false, length, max, nat_le, nat_lt, suc, true, zero, ℕ, ◌&&◌, ◌+◌, ◌-◌, ◌==◌, ◌≡◌, ◌≤◌, ◌⊎◌}}}
use Rattle.pim_types.{specs.{Keys.{rpt_key}, declared.{config.IfaceId.IfaceId, event.Event.Event, fact.{DownstreamRow.DownstreamRow, OverrideTimerRow.OverrideTimerRow}, outcome.Emission.Emission, path.Hop.Hop, timer.TimerKind.TimerKind, upstream.TreeState.TreeState}}}
use Rattle.pim_wire.{specs.{Values.JoinPrune, declared.join_prune.EntryKind.EntryKind}}
use Rattle.pim_model.{specs.{declared.accepted.Accepted.Accepted, Cause.done_as, Desires.{rpf_rpt, tree_state}, Downstream.{holdtime_end, is_named, joined_keys, pruned_keys}, Firing.{fire_instant, fire_once}, Messages.entry, Neighbours.{effective_override_interval, effective_propagation_delay, neighbour_count}, State.{State, my_address}, Step.step, Tables.row_at, Timers.{ending, next_due, timers}, Writing.on_link}}
use Rattle.law_settled.{specs.Ready.IsSettled}
use Rattle.law_streams.{specs.{Copies.happens, Joins.{JoinsStar, join_packet}}}

-- ---- at the upper router

-- a message to the router on an interface prunes the source off the group's tree
abbrev pub prunes_source : (i g src : ℕ) → JoinPrune → Bool
prunes_source i g src m = is_named (pruned_keys i m) (rpt_key i g src)

-- it has a Join(S,G,rpt) of the source
abbrev pub joins_source : State → (i g src : ℕ) → JoinPrune → Bool
joins_source s i g src m = is_named (joined_keys s i m) (rpt_key i g src)

-- J/P_Override_Interval(I) = Effective_Propagation_Delay(I) + Effective_Override_Interval(I), in ms; here: at least 1
abbrev pub override_wait : State → (i : ℕ) → ℕ
override_wait s i = max 1 (effective_propagation_delay s i + effective_override_interval s i)

-- A Prune(S,G,rpt) that a router with several neighbours there takes in state NoInfo waits for J/P_Override_Interval.
abbrev pub PruneWaits : Type 0
PruneWaits = (s : State) (e : Event) (i : IfaceId) (m : JoinPrune) (g src : ℕ)
    → done_as (happens s e) ≡ Some (Accepted.JoinPruneToMe i m) → prunes_source i.number g src m ≡ true
    → (m.holdtime == 0) ≡ false → nat_lt 1 (neighbour_count s i.number) ≡ true
    → row_at s.downstream (rpt_key i.number g src) ≡ None
    → row_at (step s e).state.downstream (rpt_key i.number g src)
    ≡ Some (record { expiry = holdtime_end s m.holdtime; pending = Some (s.present + override_wait s i.number) })

-- A Join(S,G,rpt) without a Prune of the source leaves state NoInfo, whatever the state was.
abbrev pub JoinOverrides : Type 0
JoinOverrides = (s : State) (e : Event) (i : IfaceId) (m : JoinPrune) (g src : ℕ)
    → done_as (happens s e) ≡ Some (Accepted.JoinPruneToMe i m) → joins_source s i.number g src m ≡ true
    → prunes_source i.number g src m ≡ false → row_at (step s e).state.downstream (rpt_key i.number g src) ≡ None

-- A Join(*,G) without a Prune of the source leaves state NoInfo, whatever the state was.
abbrev pub StarJoinOverrides : Type 0
StarJoinOverrides = (s : State) (e : Event) (i : IfaceId) (m : JoinPrune) (g src : ℕ)
    → done_as (happens s e) ≡ Some (Accepted.JoinPruneToMe i m) → JoinsStar s i.number g m
    → prunes_source i.number g src m ≡ false → row_at (step s e).state.downstream (rpt_key i.number g src) ≡ None

-- the row is in Prune-Pending until a timestamp
pub record WaitsIn (end : ℕ) (o : Option DownstreamRow) : Type 0 where
  pub row : DownstreamRow
  pub found : o ≡ Some row
  pub pending : row.pending ≡ Some end

-- there is no row, or it is in Prune-Pending until a timestamp
abbrev pub WaitsOrIsGone : (end : ℕ) → Option DownstreamRow → Type 0
WaitsOrIsGone end o = (o ≡ None) ⊎ WaitsIn end o

-- The events by which a Prune that waits until a timestamp may take effect: time that passes to it, and a message that both
-- joins the source by (S,G,rpt) and prunes it, which begins anew.
abbrev pub may_take_effect : (i g src end : ℕ) → State → Option Accepted → Bool
may_take_effect i g src end s (Some (Accepted.Advance moment)) = nat_le end moment
may_take_effect i g src end s (Some (Accepted.JoinPruneToMe j m)) =
    is_named (joined_keys s j.number m) (rpt_key i g src) && is_named (pruned_keys j.number m) (rpt_key i g src)
may_take_effect i g src end s o = false

-- Any other event leaves the state Prune-Pending until the same timestamp, or NoInfo.
abbrev pub PruneWaitsOn : Type 0
PruneWaitsOn = (s : State) (e : Event) (i g src end : ℕ) → IsSettled s → WaitsIn end (row_at s.downstream (rpt_key i g src))
    → may_take_effect i g src end s (done_as (happens s e)) ≡ false
    → WaitsOrIsGone end (row_at (step s e).state.downstream (rpt_key i g src))

-- a message to the router on the interface prunes the source
abbrev pub is_pruned_by : (i g src : ℕ) → Option Accepted → Bool
is_pruned_by i g src (Some (Accepted.JoinPruneToMe j m)) = is_named (pruned_keys j.number m) (rpt_key i g src)
is_pruned_by i g src o = false

-- Any event but such a message leaves NoInfo.
abbrev pub UnprunedStays : Type 0
UnprunedStays = (s : State) (e : Event) (i g src : ℕ) → IsSettled s → row_at s.downstream (rpt_key i g src) ≡ None
    → is_pruned_by i g src (done_as (happens s e)) ≡ false → row_at (step s e).state.downstream (rpt_key i g src) ≡ None

-- ---- at a lower router

-- a router wants the source down the group's tree: it is NotPruned, and RPF'(S,G,rpt) is a neighbour, whom it would tell from
-- an address
pub record WantsFrom (g src : ℕ) (hop : Hop) (from : ℕ) (s : State) : Type 0 where
  pub unpruned : tree_state s g src ≡ TreeState.NotPruned
  pub towards : rpf_rpt s g src ≡ Some hop
  pub own : my_address s hop.iface.number ≡ from

-- an override timer runs, and ends by a timestamp
pub record AnswersIn (end : ℕ) (o : Option OverrideTimerRow) : Type 0 where
  pub row : OverrideTimerRow
  pub found : o ≡ Some row
  pub by : row.end ≤ end

-- that of the source does
abbrev pub AnswersBy : (g src end : ℕ) → State → Type 0
AnswersBy g src end s = AnswersIn end (row_at s.override_timers (rpt_key 0 g src))

-- a Join(S,G,rpt) of another router to the same neighbour, for which the override timer is cancelled
abbrev pub sees_join : (g src : ℕ) → Hop → State → Option Accepted → Bool
sees_join g src hop s (Some (Accepted.JoinPruneSeen j m)) =
    ((j.number == hop.iface.number) && (m.upstream == hop.address.bits)) && joins_source s j.number g src m
sees_join g src hop s o = false

-- The override timer of who sees a Prune(S,G,rpt) to its upstream neighbour, and still wants the source, ends within
-- t_override, which is at most Effective_Override_Interval; here: at least 1 ms.
abbrev pub SeenPruneIsAnswered : Type 0
SeenPruneIsAnswered = (s : State) (e : Event) (m : JoinPrune) (g src from : ℕ) (hop : Hop)
    → done_as (happens s e) ≡ Some (Accepted.JoinPruneSeen hop.iface m) → (m.upstream == hop.address.bits) ≡ true
    → prunes_source hop.iface.number g src m ≡ true → WantsFrom g src hop from s → WantsFrom g src hop from (step s e).state
    → AnswersBy g src (s.present + max 1 (effective_override_interval s hop.iface.number)) (step s e).state

-- the Join(S,G,rpt) of an address to the neighbour
abbrev pub override_packet : (g src : ℕ) → Hop → (from : ℕ) → List ℕ
override_packet g src hop from = join_packet from hop.address.bits g (entry EntryKind.SourceRpt src) []

abbrev pub override_to : (g src : ℕ) → Hop → (from : ℕ) → Emission
override_to g src hop from = on_link hop.iface.number (override_packet g src hop from)

-- The end of the override timer sends it; s is the state in which it ends.
abbrev pub OverrideLeaves : Type 0
OverrideLeaves = (w : ℕ) (s : State) (g src from now : ℕ) (hop : Hop) → WantsFrom g src hop from s
    → Contains (fire_once w s (ending TimerKind.Override (rpt_key 0 g src) now)).1 (override_to g src hop from)

-- ---- while time goes on

module _ {S D E : Type 0} (next : S → Option D) (once : S → D → S × List E) (Each : S → D → Type 0) where
  abbrev pub AfterTurn : (S → Type 0) → S → Option D → Type 0
  AfterTurn later s None = Unit {0}
  AfterTurn later s (Some d) = Each s d × later (once s d).0

  -- what holds at each turn of a repetition
  abbrev pub AtEachTurn : ℕ → S → Type 0
  AtEachTurn zero s = Unit {0}
  AtEachTurn (suc n) s = AfterTurn (λ t. AtEachTurn n t) s (next s)

-- after each timer that ends on the way to a moment it holds
abbrev pub AllTheWay : (State → Type 0) → (w moment : ℕ) → State → Type 0
AllTheWay P w moment s =
    AtEachTurn (next_due moment) (fire_instant w)
    (λ t e. AtEachTurn (next_due e.end) (fire_once w) (λ u d. P (fire_once w u d).0) (length (timers t) + 1) t)
    (moment + 2 - s.present) s

-- it holds after an event, and, where that is time, after each timer that ends on the way
abbrev pub Throughout : (State → Type 0) → State → Event → Option Accepted → Type 0
Throughout P s e (Some (Accepted.Advance moment)) = AllTheWay P e.draw moment s × P (step s e).state
Throughout P s e o = P (step s e).state

-- Where it wants the source throughout an event, and sees no Join of another router, its override timer ends no later, or
-- it has sent its Join.
abbrev pub AnswerComes : Type 0
AnswerComes = (s : State) (e : Event) (g src from end : ℕ) (hop : Hop) → WantsFrom g src hop from s
    → Throughout (WantsFrom g src hop from) s e (done_as (happens s e)) → sees_join g src hop s (done_as (happens s e)) ≡ false
    → AnswersBy g src end s
    → AnswersBy g src end (step s e).state ⊎ Contains (step s e).emissions (override_to g src hop from)
