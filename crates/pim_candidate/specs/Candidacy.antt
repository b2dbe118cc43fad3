-- A router that stands as a BSR, as an RP, or as both (RFC 5059, sections 3.1 to 3.3), beside the front that hears Bootstraps:
-- what it does with packets, and as time passes. Times are in ms.
use Rattle.std.{specs.{Global.Vec, List.flat_map, Prelude.{ℕ, ◌+◌, ◌%◌, ◌^◌, ◌<◌, Bool, false, ◌&&◌, ◌==◌, min, nat_le, nat_lt, if◌then◌else◌, List, [], ◌∷◌, ◌++◌, fold, length, map, option_map, Option, Some, None, Result, Ok, Err}}}
use Rattle.pim_ip.{specs.{Addr.addr, Ipv4.{Packet, ipv4_reading, protocol_pim}, declared.{addr.{Addr.Addr, Prefix.Prefix}, refusal.Refusal.Refusal}}}
use Rattle.pim_types.{specs.declared.outcome.Emission.Emission}
use Rattle.pim_wire.{specs.Encoded.pim_type_of}
use Rattle.pim_model.{specs.Writing.pim_to}
use Rattle.pim_bootstrap.{specs.{Advertisements.{Advertisement, advertisement_reading, advertisement_text}, Bootstraps.{Bootstrap, bootstrap_text}, Fragments.fragments, declared.{advertisement.AdvertisedRange.AdvertisedRange, fragments.BootstrapHead.BootstrapHead}}}
use Rattle.pim_bsr.{specs.{Hearing.{Around, Hearing, heard_frame}, Laws.is_taken, Standing.{Arrival, arrival_in, arrival_passed, arrival_taken, own_sent, own_taken, why_arrival}, Table.{Known, at_time, moves}, declared.{heard.{Heard.Heard, Why.Why}, learned.Elected.Elected}}}
use Rattle.pim_candidate.{specs.{Advertising.{sent, silent, with_bsr}, Election.{begun, expired, hastened, heard, is_elected}, RpSet.{RpSet, advertised, empty, first_end, passed, said, same_rps}, declared.{advertising.Advertising.Advertising, candidacy.{CandidacyHeard.CandidacyHeard, StandingBsr.StandingBsr, StandsAsBsr.StandsAsBsr, StandsAsRp.StandsAsRp}, election.{Action.Action, Bsr.Bsr, Election.Election, Outcome.Outcome}}}}

-- ---- as what the router stands

-- a candidate RP, with its ranges
pub record StandingRp : Type 0 where
  pub address : Addr
  pub priority : ℕ
  pub ranges : List Prefix

-- The candidate BSR with its machine, what it holds of RPs, the candidate RP, and when that advertises itself.
pub record Candidacy : Type 0 where
  pub bsr : Option StandingBsr
  pub rp_set : RpSet
  pub rp : Option StandingRp
  pub advertising : Advertising

-- here: fragment tags count up from the timestamp at which the router began
abbrev pub stood : ℕ → StandsAsBsr → StandingBsr
stood now b = record { stands = b; election = begun b.bsr now; tag = now % 2 ^ 16 }

-- a candidate RP as it is set, and parts of a candidate BSR
abbrev pub rp_standing : StandsAsRp → StandingRp
rp_standing r = record { address = r.address; priority = r.priority; ranges = r.ranges.items }

abbrev pub stands_of : StandingBsr → StandsAsBsr
stands_of b = b.stands

abbrev pub election_of : StandingBsr → Election
election_of b = b.election

-- what there is to begin with
abbrev pub new_candidacy : Option StandsAsBsr → Option StandingRp → ℕ → Candidacy
new_candidacy b r now = record { bsr = option_map (stood now) b; rp_set = empty; rp = r; advertising = silent }

-- the candidate BSR after an event of its machine
abbrev pub with_election : Candidacy → StandingBsr → Election → Candidacy
with_election c b e = record c { bsr = Some (record b { election = e }) }

-- ---- the candidate RP advertises itself (3.2)

-- the address of the BSR that is elected
abbrev pub bsr_of : Option Elected → Option Addr
bsr_of None = None
bsr_of (Some e) = Some e.bsr

-- it follows which BSR is elected
abbrev pub following : Option StandingRp → Advertising → Option Elected → ℕ → ℕ → Advertising
following None a elected draw now = a
following (Some r) a elected draw now = with_bsr a (bsr_of elected) draw now

unfoldable pub followed : ℕ → ℕ → Known → Candidacy → Candidacy
followed draw now k c = record c { advertising = following c.rp c.advertising k.elected draw now }

-- a range that it advertises
abbrev pub advertised_range : Prefix → AdvertisedRange
advertised_range p = record { group = p.address; length = min p.length 32; bidir = false; zone = false }

-- here: the holdtime of an advertisement, in seconds
abbrev pub holdtime : ℕ
holdtime = 150

-- an advertisement with a holdtime in seconds
unfoldable pub advertisement_bytes : ℕ → StandingRp → List ℕ
advertisement_bytes seconds r =
    advertisement_text
    (record { priority = r.priority; holdtime = seconds; rp = r.address.bits; ranges = map advertised_range r.ranges })

-- here: so many ranges are said in a packet of 1,500 bytes
abbrev pub most_advertised_ranges : ℕ
most_advertised_ranges = 183

-- an RP of no range isn't advertised, nor one of more ranges than a packet holds
abbrev pub is_advertised : StandingRp → Bool
is_advertised r = nat_lt 0 (length r.ranges) && nat_le (length r.ranges) most_advertised_ranges

-- it is told to a BSR, in a packet from the RP's address
unfoldable pub told_to : ℕ → StandingRp → Addr → List Emission
told_to seconds r bsr =
    if is_advertised r then pim_to r.address.bits bsr.bits (advertisement_bytes seconds r) ∷ [] else []

-- ---- an elected BSR takes advertisements (3.3)

-- the machine after the RPs are others, or the same
abbrev pub hastened_if : Bool → Election → ℕ → Election
hastened_if same e now = if same then e else hastened e now

-- what is held of RPs is replaced at a timestamp
abbrev pub with_set : ℕ → Candidacy → StandingBsr → RpSet → Candidacy
with_set now c b set =
    record (with_election c b (hastened_if (same_rps c.rp_set.held set.held) b.election now)) { rp_set = set }

-- here: at most 255 RPs of ranges are held
abbrev pub most_held : StandingBsr → ℕ
most_held b = min b.stands.limit 255

-- an answer, and what is left
pub record Advertised : Type 0 where
  pub answer : CandidacyHeard
  pub candidacy : Candidacy

abbrev pub advertised_read : ℕ → Candidacy → StandingBsr → Result Advertisement Refusal → Advertised
advertised_read now c b (Ok a) = record {
  answer = CandidacyHeard.Advertised;
  candidacy = with_set now c b (advertised now (most_held b) c.rp_set a);
}
advertised_read now c b (Err refusal) = record { answer = CandidacyHeard.Refused refusal; candidacy = c }

-- an advertisement, by its bytes; only an elected BSR takes it
unfoldable pub advertised_to : ℕ → Candidacy → StandingBsr → List ℕ → Advertised
advertised_to now c b bytes =
    if is_elected b.election.role
    then advertised_read now c b (advertisement_reading bytes)
    else record { answer = CandidacyHeard.NotElected; candidacy = c }

-- a packet is PIM of the type of an advertisement (4), to the candidate BSR
abbrev pub is_advertisement : StandingBsr → Packet → Bool
is_advertisement b p =
    (p.protocol == protocol_pim) && (p.destination == b.stands.bsr.address.bits)
    && (nat_le 4 (length p.payload) && (pim_type_of p.payload == 8))

-- nothing of it
abbrev pub not_advertised : Candidacy → Advertised
not_advertised c = record { answer = CandidacyHeard.Other; candidacy = c }

unfoldable pub unicast_packet : ℕ → Candidacy → StandingBsr → Packet → Advertised
unicast_packet now c b p = if is_advertisement b p then advertised_to now c b p.payload else not_advertised c

abbrev pub unicast_reading : ℕ → Candidacy → StandingBsr → Result Packet Refusal → Advertised
unicast_reading now c b (Ok p) = unicast_packet now c b p
unicast_reading now c b (Err refusal) = not_advertised c

abbrev pub unicast_by : Option StandingBsr → ℕ → Candidacy → List ℕ → Advertised
unicast_by None now c bytes = not_advertised c
unicast_by (Some b) now c bytes = unicast_reading now c b (ipv4_reading bytes)

-- A packet to one of the router's addresses that the router ignores as not for it. It has tested the IPv4 header and PIM's
-- header with its checksum then.
unfoldable pub unicast_heard : Around → Candidacy → List ℕ → Advertised
unicast_heard s c bytes = unicast_by c.bsr s.present c bytes

-- ---- a Bootstrap is originated

-- the candidate under the next tag, with its machine
abbrev pub under_next_tag : StandingBsr → Election → StandingBsr
under_next_tag b e = record b { election = e; tag = (b.tag + 1) % 2 ^ 16 }

abbrev pub head_of : StandingBsr → BootstrapHead
head_of b = record {
  no_forward = false;
  tag = b.tag;
  hash_length = b.stands.hash_length;
  priority = b.stands.bsr.priority;
  bsr = b.stands.bsr.address;
}

-- the messages that say what is held
unfoldable pub own_messages : StandingBsr → RpSet → List (List ℕ)
own_messages b set = map bootstrap_text (fragments (head_of b) (said set))

-- The router's own front takes each of them.
unfoldable pub known_after : ℕ → Known → List (List ℕ) → Known
known_after now k messages = fold (own_taken now) k messages

-- what is left of an event: the candidacy, what is known, and what is sent
pub record Left : Type 0 where
  pub candidacy : Candidacy
  pub known : Known
  pub sent : List Emission

abbrev pub originating : Around → ℕ → Candidacy → StandingBsr → Known → Left
originating s now c b k = record {
  candidacy = record c { bsr = Some b };
  known = known_after now k (own_messages b c.rp_set);
  sent = flat_map (own_sent s) (own_messages b c.rp_set);
}

-- A Bootstrap leaves under the next tag, each fragment on each interface with neighbours.
unfoldable pub originates : Around → ℕ → Candidacy → StandingBsr → Election → Known → Left
originates s now c b e k = originating s now c (under_next_tag b e) k

-- ---- a packet on a link

-- the answer, and what is left
pub record CandidacyHearing : Type 0 where
  pub answer : CandidacyHeard
  pub left : Left

-- what the front answers
abbrev pub of_heard : Heard → CandidacyHeard
of_heard Heard.Other = CandidacyHeard.Other
of_heard (Heard.Refused refusal) = CandidacyHeard.Refused refusal
of_heard (Heard.Ignored why) = CandidacyHeard.Ignored why
of_heard (Heard.Taken moved) = CandidacyHeard.Taken moved

-- the front hears it, and the candidacy is left so
abbrev pub as_front : Candidacy → Hearing → CandidacyHearing
as_front c h = record { answer = of_heard h.answer; left = record { candidacy = c; known = h.known; sent = h.sent } }

-- nothing but the candidacy changes
abbrev pub answers : CandidacyHeard → Candidacy → Known → CandidacyHearing
answers answer c k = record { answer = answer; left = record { candidacy = c; known = k; sent = [] } }

-- The router yields. RPs are held at the BSR alone: it forgets them.
abbrev pub yields : Candidacy → StandingBsr → Candidacy
yields c b = record c { bsr = Some b; rp_set = empty }

-- a message that is to count: without room for what it says nothing changes, the machine neither
abbrev pub takes : Candidacy → StandingBsr → Hearing → CandidacyHearing
takes c b h = as_front (if is_taken h.answer then yields c b else c) h

-- a message of another BSR that isn't preferred goes on
abbrev pub passes : Around → Candidacy → Known → Arrival → CandidacyHearing
passes s c k a = record {
  answer = CandidacyHeard.PassedOn;
  left = record { candidacy = c; known = k; sent = arrival_passed s k a };
}

-- the router says at once that it is the BSR
abbrev pub answered : Known → Left → CandidacyHearing
answered k l = record { answer = CandidacyHeard.Answered (moves k l.known); left = l }

-- what the machine has the router do
abbrev pub done : Action → Election → Around → Candidacy → StandingBsr → Known → Arrival → CandidacyHearing
done Action.Nothing e s c b k a = answers (CandidacyHeard.Ignored Why.NotPreferred) (with_election c b e) k
done Action.Take e s c b k a = takes c (record b { election = e }) (arrival_taken s k a)
done Action.PassOn e s c b k a = passes s (with_election c b e) k a
done Action.Originate e s c b k a = answered k (originates s s.present c b e k)

-- the BSR of a message
abbrev pub sender_of : Bootstrap → Bsr
sender_of m = record { address = addr m.bsr; priority = m.priority }

abbrev pub done_as : Outcome → Around → Candidacy → StandingBsr → Known → Arrival → CandidacyHearing
done_as o s c b k a = done o.action o.left s c b k a

-- a message passes the checks of 3.1.3, or doesn't
abbrev pub weighed_if : Option Why → Around → Candidacy → StandingBsr → Known → Arrival → CandidacyHearing
weighed_if (Some why) s c b k a = answers (CandidacyHeard.Ignored why) c k
weighed_if None s c b k a = done_as (heard b.election (sender_of a.message) s.present) s c b k a

unfoldable pub weighed : Around → Candidacy → StandingBsr → Known → Arrival → CandidacyHearing
weighed s c b k a = weighed_if (why_arrival s k a) s c b k a

-- a Bootstrap that came, or another packet
abbrev pub arrived : Around → Candidacy → StandingBsr → Known → Result Arrival Heard → CandidacyHearing
arrived s c b k (Ok a) = weighed s c b k a
arrived s c b k (Err other) = answers (of_heard other) c k

-- without standing as a BSR the front alone hears it
abbrev pub heard_by : Option StandingBsr → Around → Candidacy → Known → ℕ → List ℕ → CandidacyHearing
heard_by None s c k i bytes = as_front c (heard_frame s k i bytes)
heard_by (Some b) s c k i bytes = arrived s c b k (arrival_in i bytes)

-- then the candidate RP follows which BSR is elected
abbrev pub and_follows : ℕ → ℕ → CandidacyHearing → CandidacyHearing
and_follows draw now h = record h { left = record h.left { candidacy = followed draw now h.left.known h.left.candidacy } }

-- A packet on a link that the router ignores for its type, as of `heard_frame` of the front.
unfoldable pub candidacy_heard : Around → Candidacy → Known → ℕ → List ℕ → ℕ → CandidacyHearing
candidacy_heard s c k i bytes draw = and_follows draw s.present (heard_by c.bsr s c k i bytes)

-- ---- time: one step of each timer that is due, in this order

-- the RPs of which the holdtime is over go
abbrev pub set_passed_by : Option StandingBsr → ℕ → Candidacy → Candidacy
set_passed_by None now c = c
set_passed_by (Some b) now c = with_set now c b (passed now c.rp_set)

unfoldable pub set_passed : ℕ → Candidacy → Candidacy
set_passed now c = set_passed_by c.bsr now c

-- nothing is sent
abbrev pub quiet : Candidacy → Known → Left
quiet c k = record { candidacy = c; known = k; sent = [] }

-- what the machine has the router do at the end of the Bootstrap Timer
abbrev pub expired_done : Action → Election → Around → ℕ → Candidacy → StandingBsr → Known → Left
expired_done Action.Nothing e s now c b k = quiet (with_election c b e) k
expired_done Action.Take e s now c b k = quiet (with_election c b e) k
expired_done Action.PassOn e s now c b k = quiet (with_election c b e) k
expired_done Action.Originate e s now c b k = originates s now c b e k

abbrev pub expired_as : Outcome → Around → ℕ → Candidacy → StandingBsr → Known → Left
expired_as o s now c b k = expired_done o.action o.left s now c b k

abbrev pub elected_by : Option StandingBsr → Around → ℕ → Candidacy → Known → Left
elected_by None s now c k = quiet c k
elected_by (Some b) s now c k =
    if nat_le b.election.end now then expired_as (expired b.election) s now c b k else quiet c k

unfoldable pub election_passed : Around → ℕ → Candidacy → Known → Left
election_passed s now c k = elected_by c.bsr s now c k

-- the BSR is the router itself
abbrev pub is_itself : Option StandingBsr → Addr → Bool
is_itself None bsr = false
is_itself (Some b) bsr = b.stands.bsr.address.bits == bsr.bits

-- an advertisement that the router gives itself, taken as one that comes
abbrev pub told_itself : Option StandingBsr → ℕ → Candidacy → List ℕ → Candidacy
told_itself None now c bytes = c
told_itself (Some b) now c bytes = (advertised_to now c b bytes).candidacy

-- what is left where the front takes no part: the candidacy, and what is sent
pub record Told : Type 0 where
  pub candidacy : Candidacy
  pub sent : List Emission

-- nothing is told
abbrev pub untold : Candidacy → Told
untold c = record { candidacy = c; sent = [] }

-- a BSR is told of the RP
unfoldable pub tells : ℕ → Candidacy → StandingRp → Addr → Told
tells now c r bsr =
    if is_itself c.bsr bsr
    then untold (if is_advertised r then told_itself c.bsr now c (advertisement_bytes holdtime r) else c)
    else record { candidacy = c; sent = told_to holdtime r bsr }

abbrev pub tells_by : Option StandingRp → ℕ → Candidacy → Addr → Told
tells_by None now c bsr = untold c
tells_by (Some r) now c bsr = tells now c r bsr

-- the timer begins anew
abbrev pub advertises_later : Advertising → Told → Told
advertises_later a t = record t { candidacy = record t.candidacy { advertising = a } }

-- the end of the C-RP Advertisement Timer
abbrev pub advertising_by : Option StandingRp → Option Addr → ℕ → ℕ → Candidacy → Told
advertising_by None bsr now draw c = untold c
advertising_by (Some r) None now draw c = untold c
advertising_by (Some r) (Some bsr) now draw c =
    if nat_le c.advertising.end now then advertises_later (sent c.advertising draw) (tells_by c.rp now c bsr) else untold c

unfoldable pub advertising_passed : ℕ → ℕ → Candidacy → Told
advertising_passed now draw c = advertising_by c.rp c.advertising.bsr now draw c

-- the candidate RP follows the BSR, after the machine
abbrev pub told_after : ℕ → ℕ → Left → Left
told_after now draw l =
    let t : Told = advertising_passed now draw (followed draw now l.known l.candidacy) in
    record { candidacy = t.candidacy; known = l.known; sent = l.sent ++ t.sent }

-- Time passed to a timestamp: that of the front, of what is held, of the machine, and of the candidate RP, with one step of each
-- timer that is due. Where one is due again, time passes to the timestamp again.
unfoldable pub time_passed : Around → Candidacy → Known → ℕ → ℕ → Left
time_passed s c k now draw = told_after now draw (election_passed s now (set_passed now c) (at_time now k))

-- ---- when the first of its timers ends

-- of two ends, if there are any, the earlier
abbrev pub sooner : Option ℕ → Option ℕ → Option ℕ
sooner None b = b
sooner (Some a) None = Some a
sooner (Some a) (Some b) = Some (min a b)

abbrev pub bsr_end : Option StandingBsr → RpSet → Option ℕ
bsr_end None set = None
bsr_end (Some b) set = sooner (Some b.election.end) (first_end set.held)

abbrev pub rp_end : Option StandingRp → Option Addr → ℕ → Option ℕ
rp_end None bsr end = None
rp_end (Some r) None end = None
rp_end (Some r) (Some bsr) end = Some end

unfoldable pub candidacy_end : Candidacy → Option ℕ
candidacy_end c = sooner (bsr_end c.bsr c.rp_set) (rp_end c.rp c.advertising.bsr c.advertising.end)

-- ---- the candidate RP goes

abbrev pub leaving : Option StandingBsr → Option StandingRp → Option Addr → List Emission
leaving b None bsr = []
leaving b (Some r) None = []
leaving b (Some r) (Some bsr) = if is_itself b bsr then [] else told_to 0 r bsr

-- The elected BSR is told so, by a holdtime of 0 (3.2); where the router is the BSR, it goes with it.
unfoldable pub left_for_good : Candidacy → Known → List Emission
left_for_good c k = leaving c.bsr c.rp (bsr_of k.elected)

-- ---- how it is written

-- the bytes fit into a packet
abbrev pub IsSendable : Vec ℕ → Type 0
IsSendable bytes = 20 + length bytes.items < 2 ^ 16
