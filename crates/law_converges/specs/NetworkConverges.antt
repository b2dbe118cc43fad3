-- A network converges: a known time after the last change, whatever was before, each link with a member of a group is brought each packet that
-- comes to the RP exactly once, and no link is brought one without a host that has asked for it, or a router on the source's link (RFC 7761,
-- 4.1.5, 4.2, 4.3, 4.5 and 4.6; RFC 3376, 4.1, 6.4 and 8).
use Rattle.std.{specs.{List.AllByRecursion, Prelude.{List, None, Some, [], false, length, ℕ, ◌*◌, ◌+◌, ◌≡◌, ◌≤◌}}}
use Rattle.pim_ip.{specs.Ipv4.is_link_local}
use Rattle.pim_model.{specs.Network.{Move, Network, Station, station_at}}
use Rattle.law_streams.{specs.InTimeJoins.Star}
use Rattle.law_converges.{specs.{AloneOnLink.AreMembers, AskedByMembers.{EachIsOnWay, IsOverBy, JoinsAreSent, JoinsLeadUp, Sources}, Carried.{Arrivals, EachMove, Traffic}, CarriedNetwork.{HopOn, IsQuietPlan, Lan, Plan, layout_of, number_of}, EachMember.{EachComesOver, IsReached, IsServed}, LeftLinks.EachMoveAfter, LinkDr.Member, Past.HoldsPast, RoutesToRp.{AllCanJoin, RoutesLead, Routing}, Settles.{HasSettled, routers}}}

-- ---- times, in ms

pub record Times : Type 0 where
  -- a frame is no longer under way, a timer fires no later, no router is further ahead of another, and none goes on by more at once
  pub d : ℕ
  pub late : ℕ
  pub lag : ℕ
  pub tick : ℕ
  -- who asks is heard for no longer
  pub life : ℕ
  -- by then the network has settled, members are served, and what was asked before is over
  pub bound : ℕ
  pub limit : ℕ
  pub over : ℕ

-- ---- what there is

-- a link with a member, the router that serves it, and its next hops to the RP, no more than its distance
pub record MemberWay : Type 0 where
  pub lan : Lan
  pub router : Member
  pub distance : ℕ
  pub hop : HopOn
  pub hops : List HopOn

-- how far a router is from the RP, and from the source, and how far one may be
pub record Distances : Type 0 where
  pub of : Sources → ℕ → ℕ
  pub from_rp : ℕ
  pub from_source : ℕ

-- ---- what is asked

-- All that is sent comes in time and in order, the routes lead to the RP, nothing keeps the packets from the members' ways, and Joins are of
-- those who are farther away.
pub record IsConverging (g src rp : ℕ) (x : Times) (started : ℕ → ℕ) (t : Traffic) (came : Arrivals) (plan : Plan) (routing : Routing)
    (ways : List MemberWay) (far : Distances) (n : Network) (ms : List Move) : Type 0 where
  pub goes_far : is_link_local g ≡ false
  pub quiet : IsQuietPlan x.d x.late x.lag x.bound started t came plan n ms
  pub members : AllByRecursion (λ (b : Lan). AreMembers (number_of b) (routers b.link) n) plan.lans
  pub lead : RoutesLead (Star rp) g plan.lans routing n ms
  pub over_rpf : EachComesOver rp g x.d x.bound started routing n ms
  pub joins : AllCanJoin (Star rp) g t routing n ms
  pub reached : AllByRecursion (λ w. IsReached g src x.d x.lag x.bound x.limit w.distance started plan routing n ms w.lan w.router w.hop w.hops) ways
  pub asked : (r : ℕ) (st : Station) → station_at n r ≡ Some st → IsOverBy g x.over started r st
  pub sent : EachMove (JoinsAreSent x.life x.d x.tick (length n.frames) started t) n ms
  pub up : EachMove (JoinsLeadUp g src far.of t) n ms
  pub near_rp : (r : ℕ) → far.of None r ≤ far.from_rp
  pub near_source : (r : ℕ) → far.of (Some src) r ≤ far.from_source

-- ---- what holds

-- the most Joins of a way
abbrev pub most_joins : Distances → ℕ
most_joins far = far.from_rp + far.from_source + 1

-- The network has settled; each of the members' links is served; and each packet of the source, on whatever link, is there because a way of
-- Joins leads to a host that has asked, or to a router with the source on a link of its own.
pub record HasConverged (g src rp : ℕ) (x : Times) (started : ℕ → ℕ) (t : Traffic) (plan : Plan) (ways : List MemberWay) (far : Distances)
    (n : Network) (ms : List Move) : Type 0 where
  pub settled : HoldsPast started x.bound (HasSettled (layout_of x.d x.late started t plan)) n ms
  pub served : AllByRecursion (λ w. IsServed g src rp x.d x.bound x.limit started t plan n ms w.lan w.router w.hop w.hops) ways
  pub wanted : EachMoveAfter (EachIsOnWay x.life (x.d + x.tick) g src (x.over + most_joins far * (x.life + (x.d + x.tick))) started
      (λ joins. joins ≤ most_joins far)) [] n ms

-- However many routers, links, members and moves there are.
abbrev pub NetworkConverges : Type 0
NetworkConverges = (g src rp : ℕ) (x : Times) (started : ℕ → ℕ) (t : Traffic) (came : Arrivals) (plan : Plan) (routing : Routing)
    (ways : List MemberWay) (far : Distances) (n : Network) (ms : List Move) → IsConverging g src rp x started t came plan routing ways far n ms
    → HasConverged g src rp x started t plan ways far n ms
