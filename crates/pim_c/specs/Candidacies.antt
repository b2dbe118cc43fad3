-- What a call does to the handle of a candidacy (RFC 5059), and to those of its listener and of a router, and answers.
use Rattle.std.specs.{List.list_all, Option.option_map_or, Prelude.{[], Bool, Err, List, None, Ok, Option, Result, Some, false, if◌then◌else◌, length, map, nat_le, option_and_then, option_map, true, ℕ, ◌&&◌, ◌≡◌, ◌⊎◌}}
use Rattle.pim_ip.{specs.{Addr.addr, Fault.fault_number, Ipv4.{is_multicast, is_unicast}, Prefixes.is_host_clear, Refusal.refusal_number, declared.{addr.Prefix.Prefix, fault.Fault.Fault}}}
use Rattle.pim_types.{specs.declared.{outcome.{Emission.Emission, Ignored.Ignored}}}
use Rattle.pim_model.{specs.State.State}
use Rattle.pim_bsr.{specs.Table.{Known, moves}}
use Rattle.pim_candidate.{specs.{Candidacy.{Candidacy, CandidacyHearing, Left, StandingRp, candidacy_end, election_of, left_for_good, most_advertised_ranges, new_candidacy}, declared.{advertising.Advertising.Advertising, candidacy.{CandidacyHeard.CandidacyHeard, StandsAsBsr.StandsAsBsr}, election.{Election.Election, Role.Role}, rp_set.Held.Held}}}
use Rattle.pim_router.{specs.Standing.Standing}
use Rattle.pim_session.{specs.{Session.ShownSession, Candidacies.{passed_at, stood_at, told_at}, Untaken.has_untaken}}
use Rattle.pim_c.{specs.{Bootstraps.why_number, Given.given_prefix, Returned.{ignored_number, never}, Written.Untouched, declared.{advertised.{AdvertisedRow.AdvertisedRow, CandidacyState.CandidacyState}, stands.{GivenCandidacy.GivenCandidacy, GivenPrefix.GivenPrefix}}}}

-- ---- as what a router stands

-- the priority is a byte, and the address is a host's
abbrev pub can_stand : ℕ → ℕ → Bool
can_stand address priority = is_unicast address && nat_le priority 255

-- what a candidate BSR is given is in its ranges
abbrev pub can_be_bsr : GivenCandidacy → Bool
can_be_bsr g =
    can_stand g.bsr g.bsr_priority && (nat_le g.hash_length 32 && (nat_le 1 g.limit && nat_le g.limit 255))

abbrev pub stands_as_bsr : GivenCandidacy → StandsAsBsr
stands_as_bsr g = record {
  bsr = record { address = addr g.bsr; priority = g.bsr_priority };
  hash_length = g.hash_length;
  limit = g.limit;
}

-- a candidate BSR, or none, if the values are in their ranges
abbrev pub as_bsr_of : GivenCandidacy → Option (Option StandsAsBsr)
as_bsr_of g = if g.is_bsr then (if can_be_bsr g then Some (Some (stands_as_bsr g)) else None) else Some None

-- a prefix of groups
abbrev pub is_groups : GivenPrefix → Bool
is_groups p =
    is_multicast p.prefix && (nat_le 4 p.length && (nat_le p.length 32 && is_host_clear (given_prefix p.prefix p.length)))

abbrev pub prefix_of : GivenPrefix → Prefix
prefix_of p = given_prefix p.prefix p.length

-- what a candidate RP is given is in its ranges
abbrev pub can_be_rp : GivenCandidacy → List GivenPrefix → Bool
can_be_rp g ranges =
    can_stand g.rp g.rp_priority && (nat_le 1 (length ranges) && (nat_le (length ranges) most_advertised_ranges && list_all is_groups ranges))

abbrev pub stands_as_rp : GivenCandidacy → List GivenPrefix → StandingRp
stands_as_rp g ranges = record { address = addr g.rp; priority = g.rp_priority; ranges = map prefix_of ranges }

-- a candidate RP, or none, if the values are in their ranges
abbrev pub as_rp_of : GivenCandidacy → List GivenPrefix → Option (Option StandingRp)
as_rp_of g ranges =
    if g.is_rp then (if can_be_rp g ranges then Some (Some (stands_as_rp g ranges)) else None) else Some None

-- ---- numbers

-- the number of what became of a packet
abbrev pub candidacy_heard_number : CandidacyHeard → ℕ
candidacy_heard_number CandidacyHeard.Other = ignored_number Ignored.OtherType
candidacy_heard_number (CandidacyHeard.Refused refusal) = refusal_number refusal
candidacy_heard_number (CandidacyHeard.Ignored why) = why_number why
candidacy_heard_number CandidacyHeard.NotElected = 115
candidacy_heard_number (CandidacyHeard.Taken moved) = 0
candidacy_heard_number CandidacyHeard.PassedOn = 0
candidacy_heard_number (CandidacyHeard.Answered moved) = 0
candidacy_heard_number CandidacyHeard.Advertised = 0

-- the router is to be given other RPs
abbrev pub moves_rps : CandidacyHeard → Bool
moves_rps CandidacyHeard.Other = false
moves_rps (CandidacyHeard.Refused refusal) = false
moves_rps (CandidacyHeard.Ignored why) = false
moves_rps CandidacyHeard.NotElected = false
moves_rps (CandidacyHeard.Taken moved) = moved
moves_rps CandidacyHeard.PassedOn = false
moves_rps (CandidacyHeard.Answered moved) = moved
moves_rps CandidacyHeard.Advertised = false

-- ---- calls

-- Values out of their ranges are refused; else a candidacy was made, or an allocation failed.
abbrev pub CandidacyMadeOf : Option Candidacy → Option (Option StandsAsBsr) → Option (Option StandingRp) → ℕ → ℕ → Option Candidacy → Type 0
CandidacyMadeOf old None as_rp moment answer left = Untouched 54 old answer left
CandidacyMadeOf old (Some as_bsr) None moment answer left = Untouched 54 old answer left
CandidacyMadeOf old (Some as_bsr) (Some as_rp) moment answer left =
    ((answer ≡ 0) × (left ≡ Some (new_candidacy as_bsr as_rp moment))) ⊎ Untouched 40 old answer left

-- So is a timestamp that no event has.
abbrev pub CandidacyMade : Bool → Option Candidacy → Option (Option StandsAsBsr) → Option (Option StandingRp) → ℕ → ℕ → Option Candidacy → Type 0
CandidacyMade true old as_bsr as_rp moment answer left = Untouched 21 old answer left
CandidacyMade false old as_bsr as_rp moment answer left = CandidacyMadeOf old as_bsr as_rp moment answer left

-- A candidacy, its listener and the router, each if it is there.
pub record Three : Type 0 where
  pub candidacy : Option Candidacy
  pub listener : Option Known
  pub router : Option ShownSession

-- What a call leads to: its answer, whether the router is to be given other RPs, and what is left.
pub record Led : Type 0 where
  pub answer : ℕ
  pub moved : Bool
  pub left : Left

abbrev pub led_by_hearing : CandidacyHearing → Led
led_by_hearing h = record { answer = candidacy_heard_number h.answer; moved = moves_rps h.answer; left = h.left }

abbrev pub led_by_passing : Known → Left → Led
led_by_passing k l = record { answer = 0; moved = moves k l.known; left = l }

-- The call answers a number, and nothing changed.
abbrev pub Unled : ℕ → Three → ℕ → Bool → Three → Type 0
Unled number old answer moved left =
    (answer ≡ number) × (moved ≡ false) × (left.candidacy ≡ old.candidacy) × (left.listener ≡ old.listener)
    × (left.router ≡ old.router)

abbrev pub LedAs : Led → ShownSession → ℕ → Bool → Three → Type 0
LedAs l s answer moved left =
    (answer ≡ l.answer) × (moved ≡ l.moved) × (left.candidacy ≡ Some l.left.candidacy)
    × (left.listener ≡ Some l.left.known) × (left.router ≡ Some (record s { sent = l.left.sent }))

-- While packets are untaken nothing is done; else it is, or an allocation failed.
abbrev pub LedUnless : Bool → Led → ShownSession → Three → ℕ → Bool → Three → Type 0
LedUnless true l s old answer moved left = Unled 55 old answer moved left
LedUnless false l s old answer moved left = LedAs l s answer moved left ⊎ Unled 40 old answer moved left

abbrev pub LedFrom : Option Standing → (State → Led) → ShownSession → Three → ℕ → Bool → Three → Type 0
LedFrom None leads s old answer moved left = Unled 41 old answer moved left
LedFrom (Some r) leads s old answer moved left = LedUnless (has_untaken s) (leads r.state) s old answer moved left

-- Without one of the three nothing is done: the candidacy is looked for first, and the router last.
abbrev pub LedWith : Option Candidacy → Option Known → Option ShownSession → (State → Candidacy → Known → Led) → Three → ℕ → Bool → Three → Type 0
LedWith None listener router leads old answer moved left = Unled 57 old answer moved left
LedWith (Some c) None router leads old answer moved left = Unled 56 old answer moved left
LedWith (Some c) (Some k) None leads old answer moved left = Unled 50 old answer moved left
LedWith (Some c) (Some k) (Some s) leads old answer moved left =
    LedFrom s.router.standing (λ state. leads state c k) s old answer moved left

-- A router that works, and whose packets are taken, is asked for its neighbours and routes, and nothing of it changes but
-- what is to be sent.
abbrev pub LedTo : (State → Candidacy → Known → Led) → Three → ℕ → Bool → Three → Type 0
LedTo leads old answer moved left = LedWith old.candidacy old.listener old.router leads old answer moved left

-- A packet was heard.
abbrev pub StoodBy : Three → ℕ → List ℕ → ℕ → ℕ → Bool → Three → Type 0
StoodBy old i bytes draw answer moved left =
    LedTo (λ state c k. led_by_hearing (stood_at state c k i bytes draw)) old answer moved left

-- Time passed, to a timestamp that an event has.
abbrev pub PassedStanding : Bool → Three → ℕ → ℕ → ℕ → Bool → Three → Type 0
PassedStanding true old moment draw answer moved left = Unled 21 old answer moved left
PassedStanding false old moment draw answer moved left =
    LedTo (λ state c k. led_by_passing k (passed_at state c k moment draw)) old answer moved left

-- ---- the RP goes

abbrev pub LeftUnless : Bool → List Emission → ShownSession → ℕ → Option ShownSession → Type 0
LeftUnless true sent s answer left = Untouched 55 (Some s) answer left
LeftUnless false sent s answer left =
    ((answer ≡ 0) × (left ≡ Some (record s { sent = sent }))) ⊎ Untouched 40 (Some s) answer left

abbrev pub LeftFrom : Option Standing → List Emission → ShownSession → ℕ → Option ShownSession → Type 0
LeftFrom None sent s answer left = Untouched 41 (Some s) answer left
LeftFrom (Some r) sent s answer left = LeftUnless (has_untaken s) sent s answer left

-- What says that the RP goes is to be sent.
abbrev pub LeftBy : Option Candidacy → Option Known → Option ShownSession → ℕ → Option ShownSession → Type 0
LeftBy None listener router answer left = Untouched 57 router answer left
LeftBy (Some c) None router answer left = Untouched 56 router answer left
LeftBy (Some c) (Some k) None answer left = Untouched 50 None answer left
LeftBy (Some c) (Some k) (Some s) answer left =
    LeftFrom s.router.standing (left_for_good c k) s answer left

-- ---- a packet to one of the router's addresses

abbrev pub told_number : Result CandidacyHeard Fault → ℕ
told_number (Ok heard) = candidacy_heard_number heard
told_number (Err fault) = fault_number fault

abbrev pub ToldFrom : Option Standing → Candidacy → List ℕ → ℕ → Option Candidacy → Type 0
ToldFrom None c bytes answer left = Untouched 41 (Some c) answer left
ToldFrom (Some r) c bytes answer left =
    ((answer ≡ candidacy_heard_number (told_at r.state c bytes).answer) × (left ≡ Some (told_at r.state c bytes).candidacy))
    ⊎ Untouched 40 (Some c) answer left

-- The packet was heard, or an allocation failed.
abbrev pub ToldBy : Option Candidacy → Option ShownSession → List ℕ → ℕ → Option Candidacy → Type 0
ToldBy None router bytes answer left = Untouched 57 None answer left
ToldBy (Some c) None bytes answer left = Untouched 50 (Some c) answer left
ToldBy (Some c) (Some s) bytes answer left = ToldFrom s.router.standing c bytes answer left

-- ---- what is known

-- when the first of a candidacy's timers expires
abbrev pub candidacy_end_in : Option Candidacy → Option ℕ
candidacy_end_in candidacy = option_and_then candidacy_end candidacy

abbrev pub role_number : Role → ℕ
role_number Role.Candidate = 1
role_number Role.Pending = 2
role_number Role.Elected = 3

abbrev pub role_of : Option Election → ℕ
role_of election = option_map_or (λ (e : Election). role_number e.role) election 0

abbrev pub election_end : Option Election → ℕ
election_end election = option_map_or (λ (e : Election). e.end) election never

-- the BSR that is told of the RP, and when it is told next
abbrev pub told_of : Advertising → ℕ
told_of a = option_map_or (λ bsr. bsr.bits) a.bsr 0

abbrev pub told_end : Advertising → ℕ
told_end a = option_map_or (λ bsr. a.end) a.bsr never

-- How a candidacy stands, as C reads it.
abbrev pub state_of : Candidacy → CandidacyState
state_of c = record {
  role = role_of (option_map election_of c.bsr);
  end = election_end (option_map election_of c.bsr);
  told = told_of c.advertising;
  told_end = told_end c.advertising;
}

abbrev pub held_in : Option Candidacy → List Held
held_in candidacy = option_map_or (λ (c : Candidacy). c.rp_set.held) candidacy []

-- An RP of a range that advertised itself, as C reads it.
abbrev pub advertised_row_of : Held → AdvertisedRow
advertised_row_of h = record {
  prefix = h.group.bits;
  length = h.length;
  rp = h.rp.address.bits;
  priority = h.rp.priority;
  holdtime = h.rp.holdtime;
  end = h.end;
}
