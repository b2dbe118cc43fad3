-- What an event replaced of routes and RP ranges, and of which sources the offer may differ by that: where nothing was
-- replaced, of those that are touched; else of those that have other routes by what was replaced.
use Rattle.std.{specs.Prelude.{Bool, Err, List, Ok, if◌then◌else◌, not, ℕ}}
use Rattle.pim_types.{specs.declared.{config.{Route.Route, RpTable.RpTable}, event.Event.Event}}
use Rattle.pim_model.{specs.{declared.accepted.Accepted.Accepted, Full.passes_limit, Judging.{Judged, judged}, State.State, Step.step, Tables.same_bool}}
use Rattle.law_events.{specs.Named.has_same_routes}
use Rattle.pim_state.{specs.declared.touched.Touched.Touched}
use Rattle.pim_fanout.{specs.Disturbed.is_disturbed}
use Rattle.pim_event.{specs.declared.replaced.Kept.Kept}
use Rattle.pim_rerouted.{specs.OtherRoutes.with_routes}

-- The routes or the RP ranges that an event replaced, or neither.
pub data Replaced : Type 0 where
  NoneReplaced : Replaced
  RoutesReplaced : List Route → Replaced
  RangesReplaced : RpTable → Replaced

-- What is kept of them in a table.
abbrev pub replaced_in : Kept → Replaced
replaced_in Kept.Nothing = NoneReplaced
replaced_in (Kept.Routes table) = RoutesReplaced table.routes
replaced_in (Kept.Ranges table) = RangesReplaced table.ranges

-- What an event disturbed: what it touched, and what it replaced.
pub record Disturbance : Type 0 where
  pub touched : Touched
  pub replaced : Replaced

-- ---- which sources

abbrev pub with_table : State → RpTable → State
with_table s ranges = record s { ranges = ranges }

-- In the present state a source is one of those of which the offer may differ. Where routes or RP ranges were replaced
-- these are the sources for which RP(G), the route to it or the route to S is another one by what was replaced.
unfoldable pub differs_by : Replaced → Touched → State → ℕ → ℕ → Bool
differs_by NoneReplaced touched t g src = is_disturbed touched g src
differs_by (RoutesReplaced routes) touched t g src = not (has_same_routes g src t (with_routes t routes))
differs_by (RangesReplaced ranges) touched t g src = not (has_same_routes g src t (with_table t ranges))

unfoldable pub may_differ : Disturbance → State → ℕ → ℕ → Bool
may_differ d t g src = differs_by d.replaced d.touched t g src

-- ---- an event

-- What was replaced after an accepted event, and what was before it.
abbrev pub replaced_after : State → Accepted → Replaced → Replaced
replaced_after s (Accepted.Routes routes) before = RoutesReplaced s.routes
replaced_after s (Accepted.Rps ranges) before = RangesReplaced s.ranges
replaced_after s a before = before

-- An event that is refused or ignored replaces nothing.
abbrev pub replaced_where : State → Judged → Replaced
replaced_where s (Err stop) = NoneReplaced
replaced_where s (Ok a) = replaced_after s a NoneReplaced

-- What an event replaces. Where it takes the room for one more fact, or makes such room, all sources are disturbed, and
-- nothing counts as replaced.
unfoldable pub event_replaced : State → Event → Replaced
event_replaced s e =
    if same_bool (passes_limit s 1) (passes_limit (step s e).state 1) then replaced_where s (judged s e.kind)
    else NoneReplaced
