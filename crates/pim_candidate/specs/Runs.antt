-- Worked runs.
use Rattle.std.{specs.Prelude.{◌≡◌, ◌==◌, ℕ, Bool, true, false, List, [], ◌∷◌, length, Option, None, Some, map, option_map}}
use Rattle.pim_ip.{specs.{Addr.addr}}
use Rattle.pim_bootstrap.{specs.{Advertisements.Advertisement, Fragments.RangeRps, declared.{bootstrap.CandidateRp.CandidateRp}}}
use Rattle.pim_bsr.{specs.{Hearing.Around, Table.{Known, new_known}, declared.learned.Elected.Elected}}
use Rattle.pim_candidate.{specs.{Advertising.{sent, silent, with_bsr}, Candidacy.{Candidacy, Left, candidacy_end, new_candidacy, time_passed}, Election.{begun, expired, heard, override_delay}, Network.{Pair, after_events, without_second}, RpSet.{RpSet, advertised, empty, passed, said}, declared.{advertising.Advertising.Advertising, candidacy.StandingBsr.StandingBsr, election.{Action.Action, Bsr.Bsr, Election.Election, Outcome.Outcome, Role.Role}, rp_set.Held.Held}}}

abbrev pub bsr : ℕ → ℕ → Bsr
bsr address priority = record { address = addr address; priority = priority }

-- ---- delays

-- By the RFC's formula: 5 s where no BSR was known; 23 s for 0.0.0.0 with priority 0 after one with priority 255; 5 + 2 log_2 4 +
-- 2 - 1.5 s for 192.0.0.1 after one whose priority is higher by 3; 5 + log_2 16 / 16 s after one of the same priority whose
-- address is higher by 15.
abbrev pub AsDelayed : Type 0
AsDelayed =
    (override_delay (bsr 0x0A00_0001 10) None ≡ 5000)
    × (override_delay (bsr 0 0) (Some (bsr 0x0A00_0001 255)) ≡ 23000)
    × (override_delay (bsr 0xC000_0001 10) (Some (bsr 0x0A00_0001 13)) ≡ 9500)
    × (override_delay (bsr 0x0A00_0001 10) (Some (bsr 0x0A00_0010 10)) ≡ 5250)

-- ---- one candidate

abbrev pub own : Bsr
own = bsr 0x0A00_0001 10

-- the state in few words: the role, the timer's end, before when nothing may be originated
abbrev pub state : Outcome → Role × ℕ × ℕ × Action
state o = (o.left.role, o.left.end, o.left.quiet, o.action)

abbrev pub elected : Election
elected = (expired (begun own 0)).left

-- it hears 10.0.0.9 with a higher priority at 26 s
abbrev pub yields : Election
yields = (heard elected (bsr 0x0A00_0009 11) 26000).left

-- It begins Pending, and is Elected after 5 s. It answers a BSR of less weight at once where it sent nothing for 10 s, else when
-- these are over. It yields to one of more weight for 130 s, also when that one's weight falls, but not below its own. To one
-- whose weight falls below that it yields no more, and passes its message on: it may become the BSR after a delay by the weight that it yielded to, but not
-- sooner than 10 s after its last message. Others of less weight it ignores. After 130 s it
-- may become the BSR again.
abbrev pub AsElected : Type 0
AsElected =
    ((begun own 0).end ≡ 5000)
    × (state (expired (begun own 0)) ≡ (Role.Elected, 65000, 15000, Action.Originate))
    × (state (expired elected) ≡ (Role.Elected, 125000, 75000, Action.Originate))
    × (state (heard elected (bsr 0x0A00_0009 9) 20000) ≡ (Role.Elected, 80000, 30000, Action.Originate))
    × (state (heard elected (bsr 0x0A00_0009 9) 14999) ≡ (Role.Elected, 15000, 15000, Action.Nothing))
    × (state (heard elected (bsr 0x0A00_0009 11) 26000) ≡ (Role.Candidate, 156000, 15000, Action.Take))
    × (state (heard elected (bsr 0x0A00_0009 10) 26000) ≡ (Role.Candidate, 156000, 15000, Action.Take))
    × (state (heard elected (bsr 0x0A00_0001 11) 26000) ≡ (Role.Elected, 65000, 15000, Action.Nothing))
    × (state (heard yields (bsr 0x0A00_0009 10) 30000) ≡ (Role.Candidate, 160000, 15000, Action.Take))
    × (state (heard yields (bsr 0x0A00_0009 5) 30000) ≡ (Role.Pending, 38922, 15000, Action.PassOn))
    × (state (heard (heard elected (bsr 0x0A00_0009 11) 5200).left (bsr 0x0A00_0009 5) 5500) ≡ (Role.Pending, 15000, 15000, Action.PassOn))
    × (state (heard yields (bsr 0x0A00_0008 11) 30000) ≡ (Role.Candidate, 156000, 15000, Action.Nothing))
    × (state (heard yields (bsr 0x0A00_000A 11) 30000) ≡ (Role.Candidate, 160000, 15000, Action.Take))
    × (state (heard (begun own 0) (bsr 0x0A00_0009 9) 3000) ≡ (Role.Pending, 5000, 0, Action.PassOn))
    × (state (heard (begun own 0) (bsr 0x0A00_0009 11) 3000) ≡ (Role.Candidate, 133000, 0, Action.Take))
    × ((expired yields).left.role ≡ Role.Pending)

-- ---- two candidates

-- 10.0.0.1 with priority 10 and 10.0.0.2 with priority 20 begin at once
abbrev pub pair : Pair
pair = record { first = begun own 0; second = begun (bsr 0x0A00_0002 20) 0; frames = [] }

abbrev pub roles : Pair → Role × Role
roles p = (p.first.role, p.second.role)

-- after so many events, with messages that arrive after 100 ms
abbrev pub later : ℕ → Pair
later n = after_events 100 n pair

-- the second one is silent after that
abbrev pub alone : Pair
alone = without_second 1000000 (later 12)

-- Both become BSRs after 5 s. When the messages of these arrive one is left, the one of more weight, and stays it. When nothing of
-- it is heard for 130 s the other one is Pending, and after BS_Rand_Override, of 5 + 2 log_2 11 + 2 - 0.078 s, it is the BSR.
abbrev pub AtMostOneBsr : Type 0
AtMostOneBsr =
    (roles (later 2) ≡ (Role.Elected, Role.Elected))
    × (roles (later 4) ≡ (Role.Candidate, Role.Elected))
    × (roles (later 12) ≡ (Role.Candidate, Role.Elected))
    × ((later 12).first.end ≡ 205100)
    × (roles (after_events 100 1 alone) ≡ (Role.Pending, Role.Elected))
    × ((after_events 100 1 alone).first.end ≡ 218772)
    × (roles (after_events 100 2 alone) ≡ (Role.Elected, Role.Elected))

-- ---- a candidate RP

-- Without a BSR nothing is sent. A new one is told three times after random delays, of the draws 1500, 3700 and 5, then each
-- minute; the same one, heard again, isn't told anew.
abbrev pub told : Advertising
told = with_bsr silent (Some (addr 0x0A00_0009)) 1500 1000

abbrev pub when : Advertising → ℕ × ℕ
when a = (a.left, a.end)

abbrev pub AsAdvertising : Type 0
AsAdvertising =
    (when told ≡ (3, 2500))
    × (when (with_bsr told (Some (addr 0x0A00_0009)) 7 2000) ≡ (3, 2500))
    × (when (sent told 3700) ≡ (2, 3199))
    × (when (sent (sent told 3700) 5) ≡ (1, 3204))
    × (when (sent (sent (sent told 3700) 5) 9) ≡ (0, 63204))
    × (when (sent (sent (sent (sent told 3700) 5) 9) 9) ≡ (0, 123204))
    × (when (with_bsr (sent told 3700) (Some (addr 0x0A00_0008)) 3000 2700) ≡ (3, 5700))
    × (with_bsr told None 7 2000 ≡ silent)

-- ---- what an elected BSR holds

-- an RP's advertisement of a range with a mask of 8 bits, for so many seconds
abbrev pub advertises : ℕ → ℕ → ℕ → Bool → Advertisement
advertises rp group holdtime bidir = record {
  priority = 192;
  holdtime = holdtime;
  rp = rp;
  ranges = record { group = addr group; length = 8; bidir = bidir; zone = false } ∷ [];
}

-- 10.0.0.5 and 10.0.0.6 advertise themselves for 239.0.0.0/8, the second one with host bits, which don't count
abbrev pub one : RpSet
one = advertised 1000 255 empty (advertises 0x0A00_0005 0xEF00_0000 100 false)

abbrev pub two : RpSet
two = advertised 2000 255 one (advertises 0x0A00_0006 0xEF01_0203 200 false)

-- the ranges that are said, with the RPs and their holdtimes
abbrev pub lines : RpSet → List (ℕ × ℕ × List (ℕ × ℕ))
lines s = map (λ (g : RangeRps). (g.prefix.address.bits, g.prefix.length, map (λ (c : CandidateRp). (c.address.bits, c.holdtime)) g.rps)) (said s)

-- Both are said, the holdtime of the first as 150 s; without the first when its 100 s are over; then the second says that it goes,
-- and the range is said without RPs for 130 s. One that is advertised again stays. A range for BIDIR isn't taken, nor is an RP
-- for which there is no room.
abbrev pub AsHeld : Type 0
AsHeld =
    (lines two ≡ (0xEF00_0000, 8, (0x0A00_0005, 150) ∷ (0x0A00_0006, 200) ∷ []) ∷ [])
    × (lines (passed 101000 two) ≡ (0xEF00_0000, 8, (0x0A00_0006, 200) ∷ []) ∷ [])
    × (lines (advertised 102000 255 (passed 101000 two) (advertises 0x0A00_0006 0xEF00_0000 0 false)) ≡ (0xEF00_0000, 8, []) ∷ [])
    × (lines (passed 231999 (advertised 102000 255 (passed 101000 two) (advertises 0x0A00_0006 0xEF00_0000 0 false)))
    ≡ (0xEF00_0000, 8, []) ∷ [])
    × (lines (passed 232000 (advertised 102000 255 (passed 101000 two) (advertises 0x0A00_0006 0xEF00_0000 0 false))) ≡ [])
    × (lines (passed 101000 (advertised 50000 255 two (advertises 0x0A00_0005 0xEF00_0000 100 false)))
    ≡ (0xEF00_0000, 8, (0x0A00_0006, 200) ∷ (0x0A00_0005, 150) ∷ []) ∷ [])
    × (lines (advertised 2000 255 one (advertises 0x0A00_0006 0xEF00_0000 200 true)) ≡ lines one)
    × (lines (advertised 2000 1 one (advertises 0x0A00_0006 0xEF00_0000 200 false)) ≡ lines one)

-- ---- a router that stands as nothing

abbrev pub nothing : Candidacy
nothing = new_candidacy None None 1000

-- None of its timers runs.
abbrev pub AsNothing : Type 0
AsNothing = (nothing.bsr ≡ None) × (nothing.rp ≡ None) × (candidacy_end nothing ≡ None)

-- ---- a router that stands as a BSR and as an RP

-- it has neighbours on both of its interfaces
abbrev pub around : Around
around = record {
  present = 0;
  own = λ a. a == 0x0A00_0001;
  neighbour = λ i a. true;
  hop = λ a. None;
  count = 2;
  linked = λ i. true;
  address = λ i. 0x0A00_0001;
}

-- 10.0.0.1 stands as a BSR, and as the RP of 239.0.0.0/8, from 0 on
abbrev pub both : Candidacy
both =
    new_candidacy (Some (record { bsr = own; hash_length = 30; limit = 255 }))
    (Some (record { address = addr 0x0A00_0001; priority = 192; ranges = record { address = addr 0xEF00_0000; length = 8 } ∷ [] })) 0

-- time passes to 5 s and to 5.5 s
abbrev pub says : Left
says = time_passed around both (new_known 255 [] 60000) 5000 500

abbrev pub tells_itself : Left
tells_itself = time_passed around says.candidacy says.known 5500 500

abbrev pub bsrs : Known → Option ℕ
bsrs k = option_map (λ (e : Elected). e.bsr.bits) k.elected

-- At 5 s it says on both interfaces that it is the BSR, and its own front takes that. Half a second later it tells itself of its RP
-- without a packet, and is to say it as soon as it may, at 15 s; it tells itself again before that.
abbrev pub AsStanding : Type 0
AsStanding =
    (candidacy_end both ≡ Some 5000)
    × (length says.sent ≡ 2)
    × (bsrs says.known ≡ Some 0x0A00_0001)
    × (candidacy_end says.candidacy ≡ Some 5500)
    × (tells_itself.sent ≡ [])
    × (map (λ (h : Held). h.rp.address.bits) tells_itself.candidacy.rp_set.held ≡ 0x0A00_0001 ∷ [])
    × (candidacy_end tells_itself.candidacy ≡ Some 6000)
    × (option_map (λ (b : StandingBsr). b.election.end) tells_itself.candidacy.bsr ≡ Some 15000)
