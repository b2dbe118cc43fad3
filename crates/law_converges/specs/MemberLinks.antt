-- A link with a member of a group, in a network that settles: one of its routers serves the hosts there, and so wants the group (RFC
-- 7761, 4.1.5 and 4.6).
use Rattle.std.{specs.Prelude.{List, [], false, ℕ, ◌∷◌, ◌≡◌, ◌⊎◌}}
use Rattle.pim_types.{specs.Keys.star_key}
use Rattle.pim_model.{specs.Network.{Move, Network}}
use Rattle.law_streams.{specs.InTimeJoins.{Star, Wants}}
use Rattle.law_converges.{specs.{Carried.{Arrivals, Traffic}, CarriedNetwork.{Claim, HopOn, IsOneLan, IsQuietPlan, Lan, Plan, number_of}, ComesOnce.Forwarder, LinkDr.{IsOne, Member, is_preferred}, Past.HoldsPast, Settles.routers, Unheard.HearsNoBetter}}

-- ---- who serves a link

-- a claim, or a group, is one of these
abbrev pub IsOneClaim : List Claim → Claim → Type 0
IsOneClaim [] c = ⊥
IsOneClaim (b ∷ bs) c = (b ≡ c) ⊎ IsOneClaim bs c

abbrev pub IsOneGroup : List ℕ → ℕ → Type 0
IsOneGroup [] g = ⊥
IsOneGroup (b ∷ bs) g = (b ≡ g) ⊎ IsOneGroup bs g

-- Which router of a link serves the hosts of a group there: the DR, to which no other is preferred, or the winner of the group's
-- assert on the link, which one of the others has lost.
pub data Serves (g : ℕ) (a : Lan) (x : Member) : Type 0 where
  AsDr : IsOne (routers a.link) x → ((y : Member) → IsOne (routers a.link) y → is_preferred y x ≡ false) → Serves g a x
  AsWinner : (c : Claim) (y : Member) → IsOneClaim a.claims c → c.group ≡ g → c.source ≡ 0 → c.winner ≡ x → IsOne c.losers y
      → Serves g a x

-- it serves a link of these, with a member of the group
pub record ServesMember (g : ℕ) (lans : List Lan) (a : Lan) (x : Member) : Type 0 where
  pub among : IsOneLan lans a
  pub member : IsOneGroup (a.link).groups g
  pub serves : Serves g a x

-- A router of a link loses no assert of the group there: it hears no better one, or it wins one that another router of the link has lost.
pub data Unbeaten (g bound : ℕ) (started : ℕ → ℕ) (n : Network) (ms : List Move) (a : Lan) (y : Member) : Type 0 where
  NoneBetter : HearsNoBetter (star_key y.iface g) bound started y.router n ms → Unbeaten g bound started n ms a y
  Winner : (c : Claim) (z : Member) → IsOneClaim a.claims c → c.group ≡ g → c.source ≡ 0 → c.winner ≡ y → IsOne c.losers z
      → Unbeaten g bound started n ms a y

-- In a network that settles the router that serves a link with a member wants the group, from the bound on.
abbrev pub MemberIsWanted : Type 0
MemberIsWanted = (g rp d late lag bound : ℕ) (started : ℕ → ℕ) (t : Traffic) (came : Arrivals) (plan : Plan) (n : Network) (ms : List Move)
    (a : Lan) (x : Member) → IsQuietPlan d late lag bound started t came plan n ms → ServesMember g plan.lans a x
    → Unbeaten g bound started n ms a x → HoldsPast started bound (Wants (Star rp) g x.router) n ms

-- it forwards the packets to the hosts
abbrev pub to_hosts : Lan → Member → HopOn → Forwarder
to_hosts a x h = record {
  self = h.lower;
  above = number_of h.lan;
  down = x.iface;
  below = number_of a;
}
