-- How long a neighbour is known (RFC 7761, 4.3.2).
use Rattle.std.{specs.Prelude.{Bool, Option, Some, false, nat_le, nat_lt, ℕ, ◌&&◌, ◌*◌, ◌+◌, ◌==◌, ◌||◌, ◌≡◌}}
use Rattle.pim_types.{specs.{Keys.neighbour_key, declared.{event.Event.Event, fact.NeighbourRow.NeighbourRow}}}
use Rattle.pim_model.{specs.{declared.accepted.Accepted.Accepted, Cause.done_as, Hellos.hello_holdtime_of, State.State, Step.step, Tables.{later_end, row_at}}}
use Rattle.law_settled.{specs.Ready.IsSettled}
use Rattle.law_streams.{specs.Copies.happens}

-- the router knows the neighbour, whose holdtime ends at a timestamp at the earliest
pub record HoldsNeighbour (s : State) (i address end : ℕ) : Type 0 where
  pub row : NeighbourRow
  pub found : row_at s.neighbours (neighbour_key i address) ≡ Some row
  pub lasts : later_end row.end (Some end) ≡ row.end

-- The events that may remove it before: time that passes to it, the interface going down, and a Hello of this neighbour
-- whose holdtime is over sooner.
abbrev pub ends_neighbour : State → (i address end : ℕ) → Option Accepted → Bool
ends_neighbour s i address end (Some (Accepted.Advance moment)) = nat_le end moment
ends_neighbour s i address end (Some (Accepted.Down j)) = j.number == i
ends_neighbour s i address end (Some (Accepted.Hello j from h)) =
    ((j.number == i) && (from.bits == address))
    && ((hello_holdtime_of h == 0) || nat_lt (s.present + 1000 * hello_holdtime_of h) end)
ends_neighbour s i address end o = false

-- No other event removes a neighbour.
abbrev pub EventKeepsNeighbour : Type 0
EventKeepsNeighbour = (s : State) (e : Event) (i address end : ℕ) → IsSettled s → HoldsNeighbour s i address end
    → ends_neighbour s i address end (done_as (happens s e)) ≡ false → HoldsNeighbour (step s e).state i address end
