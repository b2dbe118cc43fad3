-- A network settles whose links carry what is sent on them, in order and soon: what is asked of deliveries is asked once for each
-- link.
use Rattle.std.{specs.{List.{AllByRecursion, flat_map}, Prelude.{List, Some, [], false, length, map, ℕ, ◌*◌, ◌+◌, ◌-◌, ◌<◌, ◌==◌, ◌∷◌, ◌≡◌, ◌≤◌, ◌⊎◌}}}
use Rattle.pim_types.{specs.declared.fact.{AssertMetric.AssertMetric, JoinTimerRow.JoinTimerRow}}
use Rattle.pim_model.{specs.{Network.{Move, Network, Station, station_at}, Tables.row_at}}
use Rattle.law_streams.{specs.{Adjacent.most_late_hello, InTimeJoins.{Always, IsJoin, IsUnlost, Join, Wants, join_key}}}
use Rattle.law_converges.{specs.{Carried.{Arrivals, EachMove, IsCarried, Traffic}, CarriedLinks.{Ask, HearsJoins, JoinKeeps, Meet, Yields, pair_of}, CarriedPrunes.{AreKnown, Wish, WishKeeps, wire_of}, JoinedWays.{AreTogether, IsDue, IsNear, a_hop}, LinkDr.{IsOne, Member, between}, LinkLosers.{AssertsBy, most_late_assert}, LinkMembers.AnswersInTime, LinkRptOrder.{Begins, IsOverridable}, OneSender.IsOffTree, Past.HoldsPast, RpfJoins.IsNextHop, Settles.{Contest, HasSettled, Joining, Layout, Link, Way, routers}}}

-- ---- what there is

-- a router of a link joins a group, or a source, over another one there
pub record JoinOver : Type 0 where
  pub join : Join
  pub group : ℕ
  pub lower : Member
  pub upper : Member

-- the assert of a group (source 0.0.0.0), or of a source: who wins it with which metric, and the others that would send
pub record Claim : Type 0 where
  pub group : ℕ
  pub source : ℕ
  pub metric : AssertMetric
  pub winner : Member
  pub losers : List Member

-- a link, and what its routers do there
pub record Lan : Type 0 where
  pub link : Link
  pub joins : List JoinOver
  pub claims : List Claim
  pub wishes : List Wish

-- a next hop on a link
pub record HopOn : Type 0 where
  pub lan : Lan
  pub lower : Member
  pub upper : Member

-- next hops from a router that wants a group, or a source
pub record WayOver : Type 0 where
  pub join : Join
  pub group : ℕ
  pub first : ℕ
  pub hops : List HopOn

pub record Plan : Type 0 where
  pub lans : List Lan
  pub ways : List WayOver

-- the link's number
abbrev pub number_of : Lan → ℕ
number_of a = (a.link).number

-- what that is in the words of NetworkSettles
abbrev pub joining_on : Lan → JoinOver → Joining
joining_on a j = record { join = j.join; group = j.group; pair = pair_of (number_of a) j.lower j.upper }

abbrev pub contest_on : Lan → Claim → Contest
contest_on a c = record {
  group = c.group;
  source = c.source;
  metric = c.metric;
  link = number_of a;
  winner = c.winner;
  losers = c.losers;
}

abbrev pub way_on : WayOver → Way
way_on w = record {
  join = w.join;
  group = w.group;
  first = w.first;
  hops = map (λ (h : HopOn). pair_of (number_of h.lan) h.lower h.upper) w.hops;
}

abbrev pub layout_of : (d late : ℕ) → (ℕ → ℕ) → Traffic → Plan → Layout
layout_of d late started t plan = record {
  links = map (λ (a : Lan). a.link) plan.lans;
  joinings = flat_map (λ (a : Lan). map (joining_on a) a.joins) plan.lans;
  ways = map way_on plan.ways;
  contests = flat_map (λ (a : Lan). map (contest_on a) a.claims) plan.lans;
  wires = flat_map (λ (a : Lan). map (wire_of d late started t (number_of a)) a.wishes) plan.lans;
}

-- ---- what is asked

-- two routers are of a link, and aren't the same
pub record AreOn (a : Lan) (x y : Member) : Type 0 where
  pub lower : IsOne (routers a.link) x
  pub upper : IsOne (routers a.link) y
  pub apart : (x.router == y.router) ≡ false

-- the router wants what it joins, hears and is heard, and its next Join is due 2 d before a bound at the latest
pub record JoinIsQuiet (d bound : ℕ) (started : ℕ → ℕ) (t : Traffic) (n : Network) (ms : List Move) (a : Lan) (j : JoinOver) : Type 0 where
  pub addresses : IsJoin j.join j.group
  pub on : AreOn a j.lower j.upper
  pub there : Always (IsNextHop j.join j.group (pair_of (number_of a) j.lower j.upper)) n ms
  pub keeps : EachMove (JoinKeeps j.join j.group t (pair_of (number_of a) j.lower j.upper)) n ms
  pub hears : EachMove (HearsJoins j.join j.group (pair_of (number_of a) j.lower j.upper)) n ms
  pub wants : Always (Wants j.join j.group (j.lower).router) n ms
  pub station : Station
  pub is : station_at n (j.lower).router ≡ Some station
  pub row : JoinTimerRow
  pub timer : row_at (station.state).join_timers (join_key j.join 0 j.group) ≡ Some row
  pub by : row.end + started (j.lower).router + 2 * d ≤ bound

-- one of the others gives way to the winner, whose next Assert is due 2 d before a bound at the latest; nothing but the assert
-- has that one send on the link
pub record LoserIsQuiet (d bound : ℕ) (started : ℕ → ℕ) (n : Network) (ms : List Move) (a : Lan) (c : Claim) (y : Member) : Type 0 where
  pub on : AreOn a c.winner y
  pub yields : Yields c.group c.source c.metric (between (number_of a) c.winner y) n ms
  pub by : AssertsBy c.group c.source c.metric d bound started (between (number_of a) c.winner y) n
  pub off : Always (IsOffTree c.group c.source c.metric (between (number_of a) c.winner y)) n ms

pub record ClaimIsQuiet (d bound : ℕ) (started : ℕ → ℕ) (n : Network) (ms : List Move) (a : Lan) (c : Claim) : Type 0 where
  pub few : d < most_late_assert
  pub losers : AllByRecursion (LoserIsQuiet d bound started n ms a c) c.losers

-- the router overrides each Prune of a source that it wants before that takes effect
pub record WishIsQuiet (d late : ℕ) (started : ℕ → ℕ) (t : Traffic) (n : Network) (ms : List Move) (a : Lan) (w : Wish) : Type 0 where
  pub addresses : IsOverridable (wire_of d late started t (number_of a) w)
  pub on : AreOn a w.lower w.upper
  pub soon : 2 * d + late < w.propagation
  pub some : 1 ≤ w.interval
  pub begins : Begins (wire_of d late started t (number_of a) w) n
  pub known : Always (AreKnown t (number_of a) w (wire_of d late started t (number_of a) w)) n ms
  pub keeps : EachMove (WishKeeps w (wire_of d late started t (number_of a) w)) n ms

-- what is sent on a link comes to all of its routers within d and in order, no timer is more than `late` late, and to begin
-- with nothing is under way there
pub record LanIsQuiet (d late bound : ℕ) (started : ℕ → ℕ) (t : Traffic) (came : Arrivals) (n : Network) (ms : List Move) (a : Lan) : Type 0 where
  pub carried : IsCarried d late started t came (number_of a) (routers a.link) (length n.frames) n ms
  pub single : (x y : Member) → IsOne (routers a.link) x → IsOne (routers a.link) y → x.router ≡ y.router → x ≡ y
  pub meet : Meet d bound started (number_of a) (routers a.link) n ms
  pub ask : Ask (a.link).settings (a.link).hold d bound started (number_of a) (a.link).first (a.link).others n ms
  pub answers : AllByRecursion (λ g. AllByRecursion (λ y. AnswersInTime (a.link).settings (a.link).hold d started g
      (between (number_of a) (a.link).first y) n ms) (routers a.link)) (a.link).groups
  pub joins : AllByRecursion (JoinIsQuiet d bound started t n ms a) a.joins
  pub claims : AllByRecursion (ClaimIsQuiet d bound started n ms a) a.claims
  pub wishes : AllByRecursion (WishIsQuiet d late started t n ms a) a.wishes

-- a link is one of these
abbrev pub IsOneLan : List Lan → Lan → Type 0
IsOneLan [] a = ⊥
IsOneLan (b ∷ bs) a = (b ≡ a) ⊎ IsOneLan bs a

pub record HopIsQuiet (x : Join) (g : ℕ) (t : Traffic) (lans : List Lan) (n : Network) (ms : List Move) (h : HopOn) : Type 0 where
  pub among : IsOneLan lans h.lan
  pub on : AreOn h.lan h.lower h.upper
  pub near : IsNear x g (h.lower).router n
  pub there : Always (IsNextHop x g (pair_of (number_of h.lan) h.lower h.upper)) n ms
  pub keeps : EachMove (JoinKeeps x g t (pair_of (number_of h.lan) h.lower h.upper)) n ms
  pub hears : EachMove (HearsJoins x g (pair_of (number_of h.lan) h.lower h.upper)) n ms
  pub unlost : Always (IsUnlost x g (pair_of (number_of h.lan) h.lower h.upper)) n ms

-- each next hop is the router of the next one
abbrev pub HopsAreQuiet : Join → (g : ℕ) → Traffic → List Lan → Network → List Move → ℕ → List HopOn → Type 0
HopsAreQuiet x g t lans n ms r [] = Unit {0}
HopsAreQuiet x g t lans n ms r (h ∷ hs) =
    ((h.lower).router ≡ r) × HopIsQuiet x g t lans n ms h × HopsAreQuiet x g t lans n ms (h.upper).router hs

-- the first router of a way wants what it joins, and the last next hop comes to hold that by the bound
pub record WayIsQuiet (d lag bound : ℕ) (started : ℕ → ℕ) (t : Traffic) (lans : List Lan) (n : Network) (ms : List Move) (w : WayOver)
    : Type 0 where
  pub addresses : IsJoin w.join w.group
  pub hops : HopsAreQuiet w.join w.group t lans n ms w.first w.hops
  pub wants : Always (Wants w.join w.group w.first) n ms
  pub begin : ℕ
  pub due : IsDue w.join w.group d begin started w.first n
  pub by : begin + (length w.hops - 1) * a_hop d lag ≤ bound

pub record IsQuietPlan (d late lag bound : ℕ) (started : ℕ → ℕ) (t : Traffic) (came : Arrivals) (plan : Plan) (n : Network) (ms : List Move)
    : Type 0 where
  pub few : d < most_late_hello
  pub together : Always (AreTogether lag started) n ms
  pub lans : AllByRecursion (LanIsQuiet d late bound started t came n ms) plan.lans
  pub ways : AllByRecursion (WayIsQuiet d lag bound started t plan.lans n ms) plan.ways

-- ---- the law

-- However many links, routers and moves there are, from the bound on the network has settled.
abbrev pub CarriedNetworkSettles : Type 0
CarriedNetworkSettles = (d late lag bound : ℕ) (started : ℕ → ℕ) (t : Traffic) (came : Arrivals) (plan : Plan) (n : Network) (ms : List Move)
    → IsQuietPlan d late lag bound started t came plan n ms → HoldsPast started bound (HasSettled (layout_of d late started t plan)) n ms
