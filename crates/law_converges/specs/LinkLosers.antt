-- The loser of an assert stays one while its winner asserts (RFC 7761, 4.6.1, 4.6.2 and 4.11).
use Rattle.std.{specs.{Option.option_map_or, Prelude.{Bool, List, None, Option, Some, false, length, nat_le, not, slice_get, suc, true, zero, ℕ, ◌&&◌, ◌*◌, ◌+◌, ◌-◌, ◌<◌, ◌==◌, ◌||◌, ◌≡◌, ◌≤◌, ◌⊎◌, [], ◌∷◌}}}
use Rattle.pim_ip.{specs.Addr.addr}
use Rattle.pim_types.{specs.{Keys.{is_on, same_key, source_key, star_key}, declared.{event.Event.Event, fact.{AssertMetric.AssertMetric, AssertRow.AssertRow, Key.Key}}}}
use Rattle.pim_wire.{specs.declared.assert.Assert.Assert as AssertMessage}
use Rattle.pim_model.{specs.{declared.accepted.Accepted.Accepted, Asserts.{asserted_metric, theirs_of}, Cause.done_as, Clearing.{clearable_count, cleared, loser_must_go, to_clear}, Downstream.{is_named, joined_keys}, Firing.{fire_instant, fire_once, fired}, Hellos.{is_generation_changed, is_lost_to}, Network.{Deliver, Move, Network, Station, event_of, frame_at, moved, station_at}, Registers.settle_registers, Rows.same_metric, Sets.{is_better, is_winner}, State.{State, my_address}, Step.{change, step}, Tables.row_at, Timers.{Ending, next_due, timers}}}
use Rattle.law_settled.{specs.Ready.IsSettled}
use Rattle.law_streams.{specs.{Adjacent.Adjacent, Copies.happens, InTimeJoins.{Always, IsBy, IsReady, time_at}}}
use Rattle.law_converges.{specs.LinkAsserts.{CanGiveWay, IsSayable, assert_packet, gives_way, is_about, key_about, lost_to, said}}

-- ---- at the loser

-- the router has lost the assert to a metric, until a timestamp at least
pub record LosesUntil (s : State) (k : Key) (winner : AssertMetric) (end : ℕ) : Type 0 where
  pub until : ℕ
  pub found : row_at s.asserts k ≡ Some (lost_to winner until)
  pub lasts : end ≤ until

-- an Assert that a machine may read: that of (S,G) one of its source, that of (*,G) any with RPTbit set
abbrev pub reads_assert : Key → ℕ → AssertMessage → Bool
reads_assert k i a =
    (not (a.source.bits == 0) && same_key k (source_key i a.group.bits a.source.bits))
    || (a.rpt && same_key k (star_key i a.group.bits))

-- the winner says again with what it won, and the loser gives way to it for no less time
abbrev pub lengthens_loss : State → Key → AssertMetric → (end i from : ℕ) → AssertMessage → Bool
lengthens_loss s k winner end i from a =
    ((is_about a && same_key (key_about i a) k) && same_metric (theirs_of a from) winner)
    && (gives_way s k (lost_to winner end) (theirs_of a from) && nat_le end (s.present + 180000))

-- What may end the loss by the event's own change: the interface going down; a Hello of the winner with another generation
-- ID; a Join of the same to the router; an Assert of the winner, or a better one, that says anything else.
abbrev pub ends_loss : State → Key → AssertMetric → (end : ℕ) → Option Accepted → Bool
ends_loss s k winner end (Some (Accepted.Down j)) = is_on j.number k
ends_loss s k winner end (Some (Accepted.Hello j from h)) =
    is_lost_to j.number from.bits (k, lost_to winner end) && is_generation_changed s j.number from.bits h
ends_loss s k winner end (Some (Accepted.JoinPruneToMe j m)) = is_named (joined_keys s j.number m) k
ends_loss s k winner end (Some (Accepted.Assert j from a)) =
    (reads_assert k j.number a && (is_better (theirs_of a from.bits) winner || (from.bits == winner.address.bits)))
    && not (lengthens_loss s k winner end j.number from.bits a)
ends_loss s k winner end o = false

module _ {S D E : Type 0} (next : S → Option D) (once : S → D → S × List E) (test : S → D → Bool) where
  -- each step of a repetition passes a test
  unfoldable pub passes_throughout : ℕ → S → Bool
  passes_throughout zero s = true
  passes_throughout (suc n) s = option_map_or (λ d. test s d && passes_throughout n (once s d).0) (next s) true

-- The loser's assert needn't go while what must go after a change goes: the winner is a neighbour, the assert is tracked,
-- the router's own metric is no better, and the interface doesn't stop being the RPF interface. o is the opening.
unfoldable pub needs_no_clearing : Key → AssertMetric → State → State → Bool
needs_no_clearing k winner o s =
    let t : State = settle_registers s in
    passes_throughout (to_clear o) cleared (λ u c. not (loser_must_go o u k (lost_to winner 0))) (clearable_count t) t

-- so it is after the change of a timer that expires, and of all that expire by a timestamp
unfoldable pub survives_timer : Key → AssertMetric → State → Ending → Bool
survives_timer k winner s e = needs_no_clearing k winner s (fired (record s { present = e.end }) e.timer.kind e.timer.key).0

unfoldable pub survives_instant : Key → AssertMetric → (w : ℕ) → State → Ending → Bool
survives_instant k winner w s e = passes_throughout (next_due e.end) (fire_once w) (survives_timer k winner) (length (timers s) + 1) s

-- The loser's assert needn't go on the way of an event.
unfoldable pub survives : Key → AssertMetric → State → (w : ℕ) → Option Accepted → Bool
survives k winner s w None = true
survives k winner s w (Some (Accepted.Advance moment)) =
    passes_throughout (next_due moment) (fire_instant w) (survives_instant k winner w) (moment + 2 - s.present) s
survives k winner s w (Some a) = needs_no_clearing k winner s (change s w a).state

-- the event doesn't end the loss
pub record KeepsLoss (s : State) (k : Key) (winner : AssertMetric) (end : ℕ) (e : Event) : Type 0 where
  pub own : ends_loss s k winner end (done_as (happens s e)) ≡ false
  pub way : survives k winner s e.draw (done_as (happens s e)) ≡ true

-- No other event ends it before its time.
abbrev pub EventKeepsLoss : Type 0
EventKeepsLoss = (s : State) (e : Event) (k : Key) (winner : AssertMetric) (end : ℕ) → IsSettled s → LosesUntil s k winner end
    → ((step s e).state).present < end → KeepsLoss s k winner end e → LosesUntil (step s e).state k winner end

-- ---- two routers of a link

-- the machine of the winner, and that of the loser
abbrev pub winner_key : (g src : ℕ) → AssertMetric → Adjacent → Key
winner_key g src metric c = key_about c.iface (said g src metric)

abbrev pub loser_key : (g src : ℕ) → AssertMetric → Adjacent → Key
loser_key g src metric c = key_about c.down (said g src metric)

-- the winner's metric, as the loser stores it
abbrev pub winner_of : (g src : ℕ) → AssertMetric → Adjacent → AssertMetric
winner_of g src metric c = theirs_of (said g src metric) c.address

-- the first one is the winner, and asserts with a metric
pub record Wins (g src : ℕ) (metric : AssertMetric) (c : Adjacent) (n : Network) : Type 0 where
  pub station : Station
  pub there : station_at n c.lower ≡ Some station
  pub row : AssertRow
  pub found : row_at (station.state).asserts (winner_key g src metric c) ≡ Some row
  pub wins : is_winner (Some row) ≡ true
  pub sent : asserted_metric station.state (winner_key g src metric c) ≡ metric
  pub own : my_address station.state c.iface ≡ c.address
  pub linked : slice_get station.links c.iface ≡ Some c.link

-- the other one has lost to it
pub record HasLostTo (g src : ℕ) (metric : AssertMetric) (c : Adjacent) (n : Network) : Type 0 where
  pub station : Station
  pub there : station_at n c.upper ≡ Some station
  pub until : ℕ
  pub found : row_at (station.state).asserts (loser_key g src metric c) ≡ Some (lost_to (winner_of g src metric c) until)

-- the move delivers the frame of a number to the other one, no sooner than it was sent; it gives way, and its assert
-- needn't go
pub record AssertComes (g src : ℕ) (metric : AssertMetric) (started : ℕ → ℕ) (c : Adjacent) (number sent : ℕ) (n : Network)
    (m : Move) : Type 0 where
  pub draw : ℕ
  pub is : m ≡ Deliver c.upper c.down number draw
  pub station : Station
  pub there : station_at n c.upper ≡ Some station
  pub can : CanGiveWay g src metric c station
  pub stays : survives (loser_key g src metric c) (winner_of g src metric c) station.state draw
      (Some (Accepted.Assert (record { number = c.down }) (addr c.address) (said g src metric))) ≡ true
  pub after : sent ≤ time_at started c.upper station

-- the frame is delivered before the other one's time is past d after it was sent, if the moves go so far
abbrev pub AssertComesBy : (g src : ℕ) → AssertMetric → (d : ℕ) → (ℕ → ℕ) → Adjacent → (number sent : ℕ) → Network → List Move → Type 0
AssertComesBy g src metric d started c number sent n [] = Unit {0}
AssertComesBy g src metric d started c number sent n (m ∷ ms) =
    AssertComes g src metric started c number sent n m
    ⊎ (IsBy started c.upper (sent + d) (moved n m).1 × AssertComesBy g src metric d started c number sent (moved n m).1 ms)

pub record AssertInTime (g src : ℕ) (metric : AssertMetric) (d : ℕ) (started : ℕ → ℕ) (c : Adjacent) (n : Network) (m : Move)
    (ms : List Move) : Type 0 where
  -- the winner's Assert Timer is at most d late, by the time at either router
  pub timer : (st : Station) (row : AssertRow) → station_at n c.lower ≡ Some st
      → row_at (st.state).asserts (winner_key g src metric c) ≡ Some row
      → IsBy started c.lower (row.end + started c.lower + d) (moved n m).1
      × IsBy started c.upper (row.end + started c.lower + d) (moved n m).1
  -- each Assert that it sends comes to the other within d
  pub asserts : (e : Event) (st : Station) (number : ℕ) → event_of n m ≡ Some (c.lower, e)
      → station_at (moved n m).1 c.lower ≡ Some st → length n.frames < number
      → frame_at (moved n m).1 number ≡ Some (record { link = Some c.link; bytes = assert_packet c.address g src metric })
      → AssertComesBy g src metric d started c number (time_at started c.lower st) (moved n m).1 ms
  -- nothing ends the loss at the other one sooner
  pub keeps : (e : Event) (st : Station) (end : ℕ) → event_of n m ≡ Some (c.upper, e) → station_at n c.upper ≡ Some st
      → LosesUntil st.state (loser_key g src metric c) (winner_of g src metric c) end
      → KeepsLoss st.state (loser_key g src metric c) (winner_of g src metric c) end e

abbrev pub AssertsInTime : (g src : ℕ) → AssertMetric → (d : ℕ) → (ℕ → ℕ) → Adjacent → Network → List Move → Type 0
AssertsInTime g src metric d started c n [] = Unit {0}
AssertsInTime g src metric d started c n (m ∷ ms) =
    AssertInTime g src metric d started c n m ms × AssertsInTime g src metric d started c (moved n m).1 ms

-- ---- the laws

-- half of Assert_Override_Interval, which is what Assert_Time (180 s) is beyond the winner's time (177 s)
abbrev pub most_late_assert : ℕ
most_late_assert = 1500

pub record AssertsComeInTime (g src : ℕ) (metric : AssertMetric) (d : ℕ) (started : ℕ → ℕ) (c : Adjacent) (n : Network)
    (ms : List Move) : Type 0 where
  pub sayable : IsSayable c.address g src metric
  pub about : is_about (said g src metric) ≡ true
  pub ready : IsReady c.upper n
  pub wins : Always (Wins g src metric c) n ms
  pub in_time : AssertsInTime g src metric d started c n ms

-- to begin with, the winner's Assert Timer expires 2 d before a bound at the latest
pub record AssertsBy (g src : ℕ) (metric : AssertMetric) (d bound : ℕ) (started : ℕ → ℕ) (c : Adjacent) (n : Network) : Type 0 where
  pub station : Station
  pub there : station_at n c.lower ≡ Some station
  pub row : AssertRow
  pub found : row_at (station.state).asserts (winner_key g src metric c) ≡ Some row
  pub by : row.end + started c.lower + 2 * d ≤ bound

-- to begin with, the other one has lost to it until after a bound
pub record LosesBeyond (g src : ℕ) (metric : AssertMetric) (bound : ℕ) (started : ℕ → ℕ) (c : Adjacent) (n : Network) : Type 0 where
  pub station : Station
  pub there : station_at n c.upper ≡ Some station
  pub end : ℕ
  pub loses : LosesUntil station.state (loser_key g src metric c) (winner_of g src metric c) end
  pub lasts : bound < end + started c.upper

-- However many moves there are, who has lost until 2 d after the winner's next Assert stays the loser.
abbrev pub LoserStaysLoser : Type 0
LoserStaysLoser = (g src : ℕ) (metric : AssertMetric) (d bound : ℕ) (started : ℕ → ℕ) (c : Adjacent) (n : Network) (ms : List Move)
    → d < most_late_assert → AssertsComeInTime g src metric d started c n ms → AssertsBy g src metric d bound started c n
    → LosesBeyond g src metric bound started c n → Always (HasLostTo g src metric c) n ms

-- after each move the other one's time isn't past a bound yet, or it has lost
abbrev pub HasLostAfter : (g src : ℕ) → AssertMetric → (ℕ → ℕ) → Adjacent → (bound : ℕ) → Network → List Move → Type 0
HasLostAfter g src metric started c bound n [] = Unit {0}
HasLostAfter g src metric started c bound n (m ∷ ms) =
    (IsBy started c.upper bound (moved n m).1 ⊎ HasLostTo g src metric c (moved n m).1)
    × HasLostAfter g src metric started c bound (moved n m).1 ms

-- From 2 d after the winner's next Assert on the other one has lost to it, without end, whatever it was before.
abbrev pub LoserComesToStay : Type 0
LoserComesToStay = (g src : ℕ) (metric : AssertMetric) (d bound : ℕ) (started : ℕ → ℕ) (c : Adjacent) (n : Network) (ms : List Move)
    → d < most_late_assert → AssertsComeInTime g src metric d started c n ms → AssertsBy g src metric d bound started c n
    → HasLostAfter g src metric started c bound n ms
