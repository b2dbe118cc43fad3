-- A network settles: from a bound on, what the laws of links, of Joins, of ways, of asserts and of overridden Prunes say holds
-- of all of these at once.
use Rattle.std.{specs.{List.AllByRecursion, Prelude.{List, Some, length, ℕ, ◌*◌, ◌+◌, ◌-◌, ◌<◌, ◌∷◌, ◌≡◌, ◌≤◌}}}
use Rattle.pim_types.{specs.declared.{config.Settings.Settings, event.Event.Event, fact.AssertMetric.AssertMetric}}
use Rattle.pim_model.{specs.Network.{Move, Network, Station, station_at}}
use Rattle.law_streams.{specs.{Adjacent.{Adjacent, most_late_hello}, Copies.{AreOnceEach, copies_at}, InTimeJoins.{Always, IsHeld, IsJoin, Join, Pair, Wants}}}
use Rattle.law_converges.{specs.{JoinedWays.{AreHops, AreTogether, IsDue, a_hop}, LinkDr.{HasOneDr, IsOne, MeetInTime, Member, between}, LinkJoins.JoinsOver, LinkLosers.{AssertsBy, AssertsComeInTime, most_late_assert}, LinkMembers.{AnswersInTime, KnowsGroup}, LinkQuerier.{AskInTime, HasOneQuerier}, LinkRptOrder.{AreInOrder, Begins, IsOverridable, IsUnpruned, Wire}, OneSender.{IsOffTree, IsSilent}, Past.HoldsPast}}

-- ---- what there is

-- a link with its routers, of which the first has the lowest address
pub record Link : Type 0 where
  pub number : ℕ
  pub first : Member
  pub others : List Member
  -- the settings of the first router, by which it queries
  pub settings : Settings
  -- for how long at least each router there goes by a query of the first one, or by a report, in ms
  pub hold : ℕ
  -- the groups with a member there
  pub groups : List ℕ

abbrev pub routers : Link → List Member
routers l = l.first ∷ l.others

-- what a router joins over its next hop: a group, or a source of a group
pub record Joining : Type 0 where
  pub join : Join
  pub group : ℕ
  pub pair : Pair

-- a way of any length, of next hops from a router that wants a group, or a source, to its RP, or to it
pub record Way : Type 0 where
  pub join : Join
  pub group : ℕ
  pub first : ℕ
  pub hops : List Pair

-- the assert of a group (source 0.0.0.0), or of a source, on a link: who wins it with which metric, and the other routers that
-- would send there
pub record Contest : Type 0 where
  pub group : ℕ
  pub source : ℕ
  pub metric : AssertMetric
  pub link : ℕ
  pub winner : Member
  pub losers : List Member

-- what there is of each; a wire is a router that wants a source over another one, where a third one may prune it
pub record Layout : Type 0 where
  pub links : List Link
  pub joinings : List Joining
  pub ways : List Way
  pub contests : List Contest
  pub wires : List Wire

-- ---- what is asked

-- on a link Hellos, general queries and the members' answers come within d
pub record LinkIsQuiet (d bound : ℕ) (started : ℕ → ℕ) (n : Network) (ms : List Move) (l : Link) : Type 0 where
  pub greets : MeetInTime d bound started l.number (routers l) n ms
  pub asks : AskInTime l.settings l.hold d bound started l.number l.first l.others n ms
  pub answers : AllByRecursion (λ g. AllByRecursion (λ y.
      AnswersInTime l.settings l.hold d started g (between l.number l.first y) n ms) (routers l)) l.groups

-- the Joins come to the next hop within d
pub record JoiningIsQuiet (d bound : ℕ) (started : ℕ → ℕ) (n : Network) (ms : List Move) (j : Joining) : Type 0 where
  pub addresses : IsJoin j.join j.group
  pub comes : JoinsOver j.join j.group d bound started n ms j.pair

-- the Joins of a way come to each next hop within d, and the last one comes to hold what is joined by the bound
pub record WayIsQuiet (d lag bound : ℕ) (started : ℕ → ℕ) (n : Network) (ms : List Move) (w : Way) : Type 0 where
  pub addresses : IsJoin w.join w.group
  pub hops : AreHops w.join w.group d started n ms w.first w.hops
  pub wants : Always (Wants w.join w.group w.first) n ms
  pub begin : ℕ
  pub due : IsDue w.join w.group d begin started w.first n
  pub by : begin + (length w.hops - 1) * a_hop d lag ≤ bound

-- the winner's Asserts come to one of the others within d, and nothing but the assert has that one send on the link
pub record LoserIsQuiet (d bound : ℕ) (started : ℕ → ℕ) (n : Network) (ms : List Move) (a : Contest) (c : Adjacent) : Type 0 where
  pub comes : AssertsComeInTime a.group a.source a.metric d started c n ms
  pub by : AssertsBy a.group a.source a.metric d bound started c n
  pub off : Always (IsOffTree a.group a.source a.metric c) n ms

pub record ContestIsQuiet (d bound : ℕ) (started : ℕ → ℕ) (n : Network) (ms : List Move) (a : Contest) : Type 0 where
  pub few : d < most_late_assert
  pub losers : AllByRecursion (λ y. LoserIsQuiet d bound started n ms a (between a.link a.winner y)) a.losers

-- Prunes and Joins(S,G,rpt) come in order, and so soon that each Prune is overridden before it takes effect
pub record WireIsQuiet (n : Network) (ms : List Move) (x : Wire) : Type 0 where
  pub addresses : IsOverridable x
  pub soon : 2 * x.within + x.late < x.propagation
  pub some : 1 ≤ x.interval
  pub begins : Begins x n
  pub in_order : AreInOrder x (length n.frames) (length n.frames) n ms

-- so it is with each of them, with one d and one bound for all, and no router's time is further than a lag ahead of another's
pub record IsQuietNetwork (d lag bound : ℕ) (started : ℕ → ℕ) (layout : Layout) (n : Network) (ms : List Move) : Type 0 where
  pub few : d < most_late_hello
  pub together : Always (AreTogether lag started) n ms
  pub links : AllByRecursion (LinkIsQuiet d bound started n ms) layout.links
  pub joinings : AllByRecursion (JoiningIsQuiet d bound started n ms) layout.joinings
  pub ways : AllByRecursion (WayIsQuiet d lag bound started n ms) layout.ways
  pub contests : AllByRecursion (ContestIsQuiet d bound started n ms) layout.contests
  pub wires : AllByRecursion (WireIsQuiet n ms) layout.wires

-- ---- what holds

-- a link has one DR and one querier, and each router there knows each group with a member there
pub record LinkHasSettled (n : Network) (l : Link) : Type 0 where
  pub dr : HasOneDr (routers l) n
  pub querier : HasOneQuerier l.first l.others n
  pub known : AllByRecursion (λ g. AllByRecursion (λ y. KnowsGroup g (between l.number l.first y) n) (routers l)) l.groups

-- none of the others sends what the assert is about on the link, so that at most the winner does; and that sends at most one copy
-- on each of its interfaces for each packet that comes to it
pub record HasOneSender (n : Network) (a : Contest) : Type 0 where
  pub only : (y : Member) → IsOne a.losers y → IsSilent a.group a.source (between a.link a.winner y) n
  pub once : (e : Event) (st : Station) → station_at n (a.winner).router ≡ Some st → AreOnceEach st.state (copies_at st.state e)

-- so it is with each link; each next hop holds what is joined over it, along a whole way too; at most one router of a link
-- sends what an assert is about; and no Prune(S,G,rpt) that is overridden has taken effect
pub record HasSettled (layout : Layout) (n : Network) : Type 0 where
  pub links : AllByRecursion (LinkHasSettled n) layout.links
  pub joinings : AllByRecursion (λ j. IsHeld j.join j.group j.pair n) layout.joinings
  pub ways : AllByRecursion (λ w. AllByRecursion (λ c. IsHeld w.join w.group c n) w.hops) layout.ways
  pub contests : AllByRecursion (HasOneSender n) layout.contests
  pub wires : AllByRecursion (λ x. IsUnpruned x n) layout.wires

-- ---- the law

-- However many links, routers, groups, Joins, ways, asserts, wires and moves there are, from the bound on the network has
-- settled, whatever was before, and without end.
abbrev pub NetworkSettles : Type 0
NetworkSettles = (d lag bound : ℕ) (started : ℕ → ℕ) (layout : Layout) (n : Network) (ms : List Move)
    → IsQuietNetwork d lag bound started layout n ms → HoldsPast started bound (HasSettled layout) n ms
