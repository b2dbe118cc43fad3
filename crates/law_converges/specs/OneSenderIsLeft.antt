-- Two routers of a link that both send a source's packets there: by the next packet there that comes to one of them, or the next Assert of one
-- of them, that with the worse metric comes to send none (RFC 7761, 4.2, 4.6.1, 4.6.2, 4.6.3, 4.6.5 and 4.11).
use Rattle.std.{specs.{List.AllByRecursion, Option.option_map_or, Prelude.{Bool, List, Option, Some, [], false, length, not, slice_get, true, ℕ, ◌&&◌, ◌*◌, ◌+◌, ◌<◌, ◌==◌, ◌∷◌, ◌≡◌, ◌≤◌, ◌⊎◌}}}
use Rattle.pim_ip.{specs.Ipv4.Packet}
use Rattle.pim_types.{specs.declared.{event.Event.Event, fact.{AssertMetric.AssertMetric, AssertRow.AssertRow}}}
use Rattle.pim_model.{specs.{Asserts.{asserted_metric, could_assert_at, is_inferior}, Cause.done_as, Network.{Deliver, Move, Network, Station, event_of, frame_at, moved, station_at}, Sets.{is_better, is_winner}, State.my_address, Tables.row_at, declared.accepted.Accepted.Accepted}}
use Rattle.law_streams.{specs.{Adjacent.Adjacent, Copies.happens, InTimeJoins.{Always, IsBy, IsReady}, Served.renewed}}
use Rattle.law_converges.{specs.{Asserting.{IsDuplicate, key_by}, Carried.{Arrivals, EachMove, IsCarried, Traffic}, CarriedLinks.LoserKeeps, LinkAsserts.{IsSayable, assert_packet, is_about, said}, LinkDr.{IsOne, Member, between}, LinkLosers.{AssertsBy, HasLostAfter, Wins, most_late_assert, winner_key, winner_of}, OneSender.{IsOffTree, IsSilentAfter}, Past.HoldsPast, Settles.{Contest, HasOneSender}, TwoWinners.HearsAssert}}

-- ---- one router

-- The move brings the first one a packet that it sends on the link itself, where it could assert and has no assert: that of this group and source
-- (0.0.0.0, where it asserts for the group), with this metric.
pub record HearsDuplicate (g src : ℕ) (metric : AssertMetric) (c : Adjacent) (n : Network) (m : Move) : Type 0 where
  pub station : Station
  pub there : station_at n c.lower ≡ Some station
  pub event : Event
  pub is : event_of n m ≡ Some (c.lower, event)
  pub packet : Packet
  pub taken : done_as (happens station.state event) ≡ Some (Accepted.Data (record { number = c.iface }) packet)
  pub duplicate : IsDuplicate (renewed station.state packet.destination packet.source c.iface) packet.destination packet.source c.iface
  pub about : key_by (renewed station.state packet.destination packet.source c.iface) packet.destination packet.source c.iface
      ≡ winner_key g src metric c
  pub sent : asserted_metric (renewed station.state packet.destination packet.source c.iface) (winner_key g src metric c) ≡ metric
  pub own : my_address station.state c.iface ≡ c.address
  pub linked : slice_get station.links c.iface ≡ Some c.link

-- an Assert of the first one leaves on the link by the move
pub record AssertLeaves (g src : ℕ) (metric : AssertMetric) (c : Adjacent) (n : Network) (m : Move) : Type 0 where
  pub event : Event
  pub is : event_of n m ≡ Some (c.lower, event)
  pub number : ℕ
  pub later : length n.frames < number
  pub framed : frame_at (moved n m).1 number ≡ Some (record { link = Some c.link; bytes = assert_packet c.address g src metric })

-- by which it is the winner, and it stays it
pub record StaysWinner (g src : ℕ) (metric : AssertMetric) (c : Adjacent) (n : Network) (m : Move) : Type 0 where
  pub begins : AssertLeaves g src metric c n m → Wins g src metric c (moved n m).1
  pub stays : Wins g src metric c n → Wins g src metric c (moved n m).1

-- a router has no assert, or is the winner with what is no worse than a metric
abbrev pub stands_firm : AssertMetric → Option AssertRow → Bool
stands_firm theirs o = option_map_or (λ (r : AssertRow). is_winner (Some r) && not (is_better theirs r.winner)) o true

-- ---- two routers of a link

module _ (g src : ℕ) (metric other : AssertMetric) (link : ℕ) (x y : Member) where
  -- the first one hears the other's Assert, which is worse than its own, and could assert
  pub record CanAnswer (n : Network) : Type 0 where
    pub heard : HearsAssert g src other (between link y x) n
    pub could : could_assert_at (heard.station).state (winner_key g src metric (between link x y)) ≡ true
    pub firm : stands_firm (winner_of g src other (between link y x))
        (row_at ((heard.station).state).asserts (winner_key g src metric (between link x y))) ≡ true
    pub inferior : is_inferior (heard.station).state (winner_key g src metric (between link x y)) (winner_of g src other (between link y x)) ≡ true
    pub sent : asserted_metric (heard.station).state (winner_key g src metric (between link x y)) ≡ metric
    pub own : my_address (heard.station).state x.iface ≡ x.address

  -- so it is where a move brings it one
  abbrev pub Answers : Network → Move → Type 0
  Answers n m = (number draw : ℕ) → m ≡ Deliver x.router x.iface number draw
      → frame_at n number ≡ Some (record { link = Some link; bytes = assert_packet y.address g src other }) → CanAnswer n

  -- the other one is the winner until its next Assert, unless the first one asserts sooner, by a packet of the other
  abbrev pub HoldsOut : Network → List Move → Type 0
  HoldsOut n [] = Unit {0}
  HoldsOut n (m ∷ ms) =
      HearsDuplicate g src metric (between link x y) n m
      ⊎ (AssertLeaves g src other (between link y x) n m ⊎ (Wins g src other (between link y x) (moved n m).1 × HoldsOut (moved n m).1 ms))

  -- Which of both asserts next: that with the better metric, or the other one; by a packet that the first move brings, or as the winner, by its
  -- Assert Timer. The bound is d after the first one's Assert, and 2 d after the other one's; a timer may be d late.
  pub data Begins (d bound : ℕ) (started : ℕ → ℕ) (n : Network) (m : Move) (ms : List Move) : Type 0 where
    FirstHears : (at : ℕ) → HearsDuplicate g src metric (between link x y) n m → IsBy started x.router at (moved n m).1 → at + d ≤ bound
        → Begins d bound started n m ms
    OtherHears : (at : ℕ) → HearsDuplicate g src other (between link y x) n m → IsBy started y.router at (moved n m).1 → at + 2 * d ≤ bound
        → Begins d bound started n m ms
    FirstWins : Wins g src metric (between link x y) n → AssertsBy g src metric d bound started (between link x y) n → Begins d bound started n m ms
    OtherWins : (at : ℕ) → Wins g src other (between link y x) n → AssertsBy g src other d at started (between link y x) n → at + d ≤ bound
        → HoldsOut n (m ∷ ms) → Begins d bound started n m ms

-- What is sent on the link comes to all of its routers within d, in order, and no timer is more than `late` late, which is at most d. Whenever an
-- Assert of the second one comes to the first one, that can answer it; whenever one of the first one comes to the second one, that loses to it,
-- whatever it had before, and no event ends what it lost. From its first Assert on the first one is the winner.
pub record AreTwoSenders (g src : ℕ) (metric other : AssertMetric) (d late bound : ℕ) (started : ℕ → ℕ) (t : Traffic) (came : Arrivals)
    (link : ℕ) (members : List Member) (x y : Member) (first : ℕ) (n : Network) (m : Move) (ms : List Move) : Type 0 where
  pub few : d < most_late_assert
  pub carried : IsCarried d late started t came link members first n (m ∷ ms)
  pub lower : IsOne members x
  pub upper : IsOne members y
  pub apart : (x.router == y.router) ≡ false
  pub ready : IsReady y.router n
  pub sayable : IsSayable x.address g src metric
  pub about : is_about (said g src metric) ≡ true
  pub other_sayable : IsSayable y.address g src other
  pub other_about : is_about (said g src other) ≡ true
  pub wins : EachMove (StaysWinner g src metric (between link x y)) n (m ∷ ms)
  pub answers : EachMove (Answers g src metric other link x y) n (m ∷ ms)
  pub hears : EachMove (LoserKeeps g src metric (between link x y)) n (m ∷ ms)
  pub begins : Begins g src metric other link x y d bound started n m ms

-- ---- the laws

-- From the bound on the second one has lost to the first one, without end.
abbrev pub OtherComesToLose : Type 0
OtherComesToLose = (g src : ℕ) (metric other : AssertMetric) (d late bound : ℕ) (started : ℕ → ℕ) (t : Traffic) (came : Arrivals) (link : ℕ)
    (members : List Member) (x y : Member) (first : ℕ) (n : Network) (m : Move) (ms : List Move)
    → AreTwoSenders g src metric other d late bound started t came link members x y first n m ms
    → HasLostAfter g src metric started (between link x y) bound n (m ∷ ms)

-- So it sends none of the packets on the link, and at most one of both does.
abbrev pub OneSenderIsLeft : Type 0
OneSenderIsLeft = (g src : ℕ) (metric other : AssertMetric) (d late bound : ℕ) (started : ℕ → ℕ) (t : Traffic) (came : Arrivals) (link : ℕ)
    (members : List Member) (x y : Member) (first : ℕ) (n : Network) (m : Move) (ms : List Move)
    → AreTwoSenders g src metric other d late bound started t came link members x y first n m ms
    → Always (IsOffTree g src metric (between link x y)) n (m ∷ ms) → IsSilentAfter g src started (between link x y) bound n (m ∷ ms)

-- so it is with one of the others that would send what an assert is about
pub record IsSender (a : Contest) (d late bound : ℕ) (started : ℕ → ℕ) (t : Traffic) (came : Arrivals) (members : List Member) (first : ℕ)
    (n : Network) (m : Move) (ms : List Move) (y : Member) : Type 0 where
  pub other : AssertMetric
  pub senders : AreTwoSenders a.group a.source a.metric other d late bound started t came a.link members a.winner y first n m ms
  pub off : Always (IsOffTree a.group a.source a.metric (between a.link a.winner y)) n (m ∷ ms)

-- Of any number of routers of a link that with the best metric is the only one from the bound on, as in a network that has settled.
abbrev pub OneOfAllIsLeft : Type 0
OneOfAllIsLeft = (a : Contest) (d late bound : ℕ) (started : ℕ → ℕ) (t : Traffic) (came : Arrivals) (members : List Member) (first : ℕ)
    (n : Network) (m : Move) (ms : List Move) → AllByRecursion (IsSender a d late bound started t came members first n m ms) a.losers
    → HoldsPast started bound (λ k. HasOneSender k a) n (m ∷ ms)
