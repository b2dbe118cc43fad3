-- A group that a host asks for is known to each router of the link, while the host answers the querier (RFC 3376, 6.4 and
-- 8.4).
use Rattle.std.{specs.{List.list_any, Prelude.{Bool, List, Option, Some, [], false, length, nat_lt, not, true, ℕ, ◌&&◌, ◌*◌, ◌+◌, ◌<◌, ◌==◌, ◌||◌, ◌∷◌, ◌≡◌, ◌≤◌, ◌⊎◌}}}
use Rattle.pim_types.{specs.declared.{config.Settings.Settings, event.Event.Event, fact.QuerierRow.QuerierRow}}
use Rattle.igmp_wire.{specs.Values.Record}
use Rattle.pim_model.{specs.{declared.accepted.Accepted.Accepted, Cause.done_as, Network.{Move, Network, Station, event_of, frame_at, moved, station_at}, Querier.{group_end, group_membership_interval, querier_on}, Receivers.local_receiver_star, State.State}}
use Rattle.law_streams.{specs.{Adjacent.Adjacent, Copies.happens, InTimeJoins.{Always, IsBy, IsReady, time_at}}}
use Rattle.law_hosts.{specs.Members.{answers, leaves}}
use Rattle.law_converges.{specs.LinkQuerier.{Asks, KeepsLead, LeadsBy, interval_of, query_packet, role_end}}

-- ---- an answer

-- the move brings a router a report that asks for all sources of the group, and doesn't leave it, no sooner than the
-- querier asked
pub record AnswerComes (hold : ℕ) (started : ℕ → ℕ) (g : ℕ) (c : Adjacent) (sent : ℕ) (n : Network) (m : Move) : Type 0 where
  pub event : Event
  pub is : event_of n m ≡ Some (c.upper, event)
  pub station : Station
  pub there : station_at n c.upper ≡ Some station
  pub records : List Record
  pub taken : done_as (happens station.state event) ≡ Some (Accepted.Report (record { number = c.down }) records)
  pub asks : list_any (answers g) records ≡ true
  pub stays : list_any (leaves g) records ≡ false
  -- by the report it takes the group for asked at least so long
  pub lasts : hold ≤ group_membership_interval station.state c.down
  pub after : sent ≤ time_at started c.upper station

-- an answer comes before the router's time is past d after the querier asked, if the moves go so far
abbrev pub AnswerComesBy : (hold d : ℕ) → (ℕ → ℕ) → ℕ → Adjacent → (sent : ℕ) → Network → List Move → Type 0
AnswerComesBy hold d started g c sent n [] = Unit {0}
AnswerComesBy hold d started g c sent n (m ∷ ms) =
    AnswerComes hold started g c sent n m
    ⊎ (IsBy started c.upper (sent + d) (moved n m).1 × AnswerComesBy hold d started g c sent (moved n m).1 ms)

-- What may end the group's record of an interface before its group timer: the interface going down, a query of the group
-- with S clear, a report that leaves the group, and one that asks for it, by which the group timer expires sooner.
abbrev pub ends_record : State → (i g end : ℕ) → Option Accepted → Bool
ends_record s i g end (Some (Accepted.Down j)) = j.number == i
ends_record s i g end (Some (Accepted.Query j from q)) = (j.number == i) && ((q.group == g) && not q.suppress)
ends_record s i g end (Some (Accepted.Report j records)) =
    (j.number == i)
    && (list_any (leaves g) records
    || (list_any (answers g) records && nat_lt (s.present + group_membership_interval s i) end))
ends_record s i g end o = false

-- ---- what is asked of each move

pub record AnswerInTime (t : Settings) (hold d : ℕ) (started : ℕ → ℕ) (g : ℕ) (c : Adjacent) (n : Network) (m : Move) (ms : List Move) : Type 0 where
  -- the timer of the querier's row is at most d late, by the time at either router
  pub timer : (st : Station) (row : QuerierRow) → station_at n c.lower ≡ Some st → querier_on st.state c.iface ≡ Some row
      → IsBy started c.lower (role_end row.role + started c.lower + d) (moved n m).1
      × IsBy started c.upper (role_end row.role + started c.lower + d) (moved n m).1
  -- an answer to each general query that is sent comes to the router within d
  pub answers : (e : Event) (st : Station) (number : ℕ) → event_of n m ≡ Some (c.lower, e)
      → station_at (moved n m).1 c.lower ≡ Some st → length n.frames < number
      → frame_at (moved n m).1 number ≡ Some (record { link = Some c.link; bytes = query_packet c.address t })
      → AnswerComesBy hold d started g c (time_at started c.lower st) (moved n m).1 ms
  -- nothing ends the record at the router sooner
  pub keeps : (e : Event) (st : Station) (end : ℕ) → event_of n m ≡ Some (c.upper, e) → station_at n c.upper ≡ Some st
      → group_end st.state c.down g ≡ Some end → ends_record st.state c.down g end (done_as (happens st.state e)) ≡ false

abbrev pub AnswersInTime : Settings → (hold d : ℕ) → (ℕ → ℕ) → ℕ → Adjacent → Network → List Move → Type 0
AnswersInTime t hold d started g c n [] = Unit {0}
AnswersInTime t hold d started g c n (m ∷ ms) =
    AnswerInTime t hold d started g c n m ms × AnswersInTime t hold d started g c (moved n m).1 ms

-- ---- the law

-- the querier of a link, and a router there, which may be the same: a member of the group answers in time
pub record MemberAnswers (t : Settings) (hold d : ℕ) (started : ℕ → ℕ) (g : ℕ) (c : Adjacent) (n : Network) (ms : List Move) : Type 0 where
  pub often : interval_of t + 2 * d < hold
  pub querier_ready : IsReady c.lower n
  pub ready : IsReady c.upper n
  pub asks : Always (Asks t c) n ms
  pub leads : KeepsLead c n ms
  pub in_time : AnswersInTime t hold d started g c n ms

-- the group has receivers of all its sources on the link, as the router knows
pub record KnowsGroup (g : ℕ) (c : Adjacent) (n : Network) : Type 0 where
  pub station : Station
  pub there : station_at n c.upper ≡ Some station
  pub known : local_receiver_star station.state g c.down ≡ true

-- to begin with its group timer runs to a timestamp at least
pub record KnowsGroupTo (started : ℕ → ℕ) (g : ℕ) (c : Adjacent) (limit : ℕ) (n : Network) : Type 0 where
  pub station : Station
  pub there : station_at n c.upper ≡ Some station
  pub end : ℕ
  pub is : group_end station.state c.down g ≡ Some end
  pub lasts : limit < end + started c.upper

-- However many moves there are, a router that knows the group until 2 d after the querier's next general query knows it.
abbrev pub MemberStaysKnown : Type 0
MemberStaysKnown = (t : Settings) (hold d bound : ℕ) (started : ℕ → ℕ) (g : ℕ) (c : Adjacent) (n : Network) (ms : List Move)
    → MemberAnswers t hold d started g c n ms → LeadsBy t d bound started c n → KnowsGroupTo started g c bound n
    → Always (KnowsGroup g c) n ms

-- after each move the router's time isn't past a bound yet, or it knows the group
abbrev pub GroupKnownAfter : (ℕ → ℕ) → ℕ → Adjacent → (bound : ℕ) → Network → List Move → Type 0
GroupKnownAfter started g c bound n [] = Unit {0}
GroupKnownAfter started g c bound n (m ∷ ms) =
    (IsBy started c.upper bound (moved n m).1 ⊎ KnowsGroup g c (moved n m).1)
    × GroupKnownAfter started g c bound (moved n m).1 ms

-- From 2 d after the querier's next general query on the router knows the group without end, whether it knew it before or
-- not.
abbrev pub MemberComesToBeKnown : Type 0
MemberComesToBeKnown = (t : Settings) (hold d bound : ℕ) (started : ℕ → ℕ) (g : ℕ) (c : Adjacent) (n : Network) (ms : List Move)
    → MemberAnswers t hold d started g c n ms → LeadsBy t d bound started c n → GroupKnownAfter started g c bound n ms
