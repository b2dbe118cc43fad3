-- Worked runs, and values of the hash function that another program printed.
use Rattle.std.{specs.Prelude.{◌≡◌, ℕ, Option, ◌==◌, ◌&&◌, ◌||◌, false, true, List, [], ◌∷◌, None, Some, filter, map}}
use Rattle.pim_ip.{specs.{Addr.addr, declared.addr.Prefix.Prefix}}
use Rattle.pim_types.{specs.declared.{config.{RpCandidate.RpCandidate, RpRange.RpRange}, event.EventKind.EventKind}}
use Rattle.pim_model.specs.{Candidates.hash_value, Unicast.rp_among}
use Rattle.pim_bootstrap.{specs.{declared.bootstrap.CandidateRp.CandidateRp, Bootstraps.{Bootstrap, BootstrapRange}}}
use Rattle.pim_bsr.{specs.{Hearing.{Around, after_message, heard}, Joined.{event, loses, time_given}, Laws.{AllLeave, Happening, all_after, is_candidate_at, is_range_at}, Standing.with_own, Table.{Known, at_time, candidates, choosing, configured, given}, declared.{choice.Choice.Choice, heard.{Heard.Heard, Why.Why}, learned.Learned.Learned}}}

-- the values that FRR 8.4.4 prints (`show ip pim bsrp-info`) for 239.0.0.0/8 with a mask of 30 bits and the RPs 10.99.0.1,
-- 10.88.0.9 and 10.77.0.2
abbrev pub AsPrinted : Type 0
AsPrinted =
    (hash_value 30 0xEF00_0000 0x0A63_0001 ≡ 2067580945) × (hash_value 30 0xEF00_0000 0x0A58_0009 ≡ 240866473)
    × (hash_value 30 0xEF00_0000 0x0A4D_0002 ≡ 53588824)

-- these RPs, of one priority
abbrev pub candidate : ℕ → ℕ → CandidateRp
candidate address holdtime = record { address = addr address; holdtime = holdtime; priority = 5 }

-- 239.0.0.0/8, said with a host bit
abbrev pub wide : ℕ → List CandidateRp → BootstrapRange
wide count rps = record { group = 0xEF00_0001; length = 8; bidir = false; zone = false; rp_count = count; rps = rps }

abbrev pub message : ℕ → List BootstrapRange → Bootstrap
message tag ranges =
    record { no_forward = false; tag = tag; hash_length = 30; priority = 10; bsr = 0x0A00_0009; ranges = ranges }

-- the configured range 239.1.0.0/16 has the RP 10.0.0.99
abbrev pub own : RpRange
own = record { prefix = record { address = addr 0xEF01_0000; length = 16 }; rp = addr 0x0A00_0063 }

abbrev pub start : Known
start = record {
  static = own ∷ [];
  limit = 100;
  choice = Choice.Range;
  elected = None;
  heard = false;
  refresh_end = 60000;
  table = record { rps = []; parts = [] };
  last = [];
  last_end = 0;
}

-- two of the RPs come at 1 s, the third 5 ms later
abbrev pub one : Known
one = after_message 1000 start [] (message 7 (wide 3 (candidate 0x0A58_0009 150 ∷ candidate 0x0A4D_0002 150 ∷ []) ∷ []))

abbrev pub two : Known
two = after_message 1005 one [] (message 7 (wide 3 (candidate 0x0A63_0001 150 ∷ []) ∷ []))

-- then the one that is chosen is taken away
abbrev pub three : Known
three =
    after_message 2000 two []
    (message 8 (wide 3 (candidate 0x0A58_0009 150 ∷ candidate 0x0A4D_0002 150 ∷ candidate 0x0A63_0001 0 ∷ []) ∷ []))

-- the RPs that the router is given
abbrev pub rps : Known → List ℕ
rps k = map (λ (r : RpRange). r.rp.bits) (given k)

-- With one fragment there is the configured range alone, with the second the RP of the greatest value too, and without that
-- one the next. Past its holdtime, or by a message that says no RPs of the range, or where the range is configured, the
-- configured ranges are alone.
abbrev pub AsWorked : Type 0
AsWorked =
    (rps start ≡ 0x0A00_0063 ∷ []) × (rps one ≡ 0x0A00_0063 ∷ [])
    × (rps two ≡ 0x0A00_0063 ∷ 0x0A63_0001 ∷ [])
    × (rps three ≡ 0x0A00_0063 ∷ 0x0A58_0009 ∷ [])
    × (rps (at_time 151004 two) ≡ 0x0A00_0063 ∷ 0x0A63_0001 ∷ [])
    × (rps (at_time 151005 two) ≡ 0x0A00_0063 ∷ [])
    × (rps (after_message 2000 two [] (message 8 (wide 0 [] ∷ []))) ≡ 0x0A00_0063 ∷ [])
    × (rps (configured 100 (record { prefix = record { address = addr 0xEF00_0000; length = 8 }; rp = addr 0x0A00_0063 } ∷ []) two)
    ≡ 0x0A00_0063 ∷ [])

-- ---- messages that come in packets

-- A router at 2 s: 10.0.0.1, with the neighbours 10.0.0.2 and 10.0.0.3 on the first of two interfaces. The first of them is
-- the RPF neighbour of every BSR.
abbrev pub around : Around
around = record {
  present = 2000;
  own = λ a. a == 0x0A00_0001;
  neighbour = λ i a. (i == 0) && ((a == 0x0A00_0002) || (a == 0x0A00_0003));
  hop = λ a. Some (record { iface = record { number = 0 }; address = addr 0x0A00_0002 });
  count = 2;
  linked = λ i. i == 0;
  address = λ i. 0x0A00_0001;
}

-- what becomes of a message that comes on an interface from a source
abbrev pub answer : Known → ℕ → ℕ → Bootstrap → Heard
answer k i src m = (heard around k i src [] m).answer

-- all RPs of the range, and the same of another BSR
abbrev pub whole : Bootstrap
whole = message 7 (wide 2 (candidate 0x0A58_0009 150 ∷ candidate 0x0A4D_0002 150 ∷ []) ∷ [])

abbrev pub of_bsr : ℕ → ℕ → Bootstrap
of_bsr bsr priority = record whole { bsr = bsr; priority = priority }

-- A message counts from the RPF neighbour alone, and not from a stranger; where a BSR is elected, of that one or of one with
-- more weight, by its priority or at the same priority by its address. One with the No-Forward bit counts first of all
-- alone, from any neighbour; one for whose RPs there is no room doesn't count.
abbrev pub AsHeard : Type 0
AsHeard =
    (answer start 0 0x0A00_0002 whole ≡ Heard.Taken true)
    × (answer start 0 0x0A00_0003 whole ≡ Heard.Ignored Why.NotFromRpf)
    × (answer start 1 0x0A00_0002 whole ≡ Heard.Ignored Why.NoNeighbour)
    × (answer start 0 0x0A00_0002 (of_bsr 0x0A00_0001 10) ≡ Heard.Ignored Why.OwnBsr)
    × (answer two 0 0x0A00_0002 whole ≡ Heard.Taken true)
    × (answer two 0 0x0A00_0002 (of_bsr 0x0A00_0008 10) ≡ Heard.Ignored Why.NotPreferred)
    × (answer two 0 0x0A00_0002 (of_bsr 0x0A00_000A 10) ≡ Heard.Taken true)
    × (answer two 0 0x0A00_0002 (of_bsr 0x0A00_0008 11) ≡ Heard.Taken true)
    × (answer start 0 0x0A00_0003 (record whole { no_forward = true }) ≡ Heard.Taken true)
    × (answer two 0 0x0A00_0002 (record whole { no_forward = true }) ≡ Heard.Ignored Why.LateRefresh)
    × (answer (record start { limit = 1 }) 0 0x0A00_0002 whole ≡ Heard.Ignored Why.NoRoom)

-- Fragments of two BSRs aren't put together, though they have one tag: of each, one of two RPs came.
abbrev pub half : ℕ → ℕ → Bootstrap
half bsr rp = record whole { bsr = bsr; ranges = wide 2 (candidate rp 150 ∷ []) ∷ [] }

abbrev pub BsrsAreApart : Type 0
BsrsAreApart =
    (rps (after_message 1005 (after_message 1000 start [] (half 0x0A00_0009 0x0A58_0009)) [] (half 0x0A00_000A 0x0A4D_0002))
    ≡ 0x0A00_0063 ∷ [])
    × (rps (after_message 1005 (after_message 1000 start [] (half 0x0A00_0009 0x0A58_0009)) [] (half 0x0A00_0009 0x0A4D_0002))
    ≡ 0x0A00_0063 ∷ 0x0A58_0009 ∷ [])

-- A message of 238.0.0.0/8 with a hash mask of 0 bits gives it to 239.0.0.0/8 too, whose RP of the greatest value then is
-- another. A message without ranges doesn't.
abbrev pub unhashed : List BootstrapRange → Bootstrap
unhashed ranges = record (message 9 ranges) { hash_length = 0 }

abbrev pub narrow : BootstrapRange
narrow = record (wide 1 (candidate 0x0A4D_0002 10 ∷ [])) { group = 0xEE00_0000 }

abbrev pub MaskIsOfAll : Type 0
MaskIsOfAll =
    (rps (after_message 2000 two [] (unhashed (narrow ∷ []))) ≡ 0x0A00_0063 ∷ 0x0A58_0009 ∷ 0x0A4D_0002 ∷ [])
    × (rps (after_message 2000 two [] (unhashed [])) ≡ 0x0A00_0063 ∷ 0x0A63_0001 ∷ [])

-- ---- a range that is left

abbrev pub eight : Prefix
eight = record { address = addr 0xEF00_0000; length = 8 }

-- a message that counts, of 238.0.0.0/8; time passes; another configuration
abbrev pub others : List Happening
others =
    Happening.Message around 0 0x0A00_0002 [] (message 9 (narrow ∷ []))
    ∷ Happening.Time 20000 ∷ Happening.Ranges 50 [] ∷ []

-- All of them leave the range, which has its RP after them.
abbrev pub AsLeft : Type 0
AsLeft =
    AllLeave eight 151000 two others
    × (map (λ (r : RpRange). r.rp.bits) (filter (is_range_at eight) (given (all_after two others))) ≡ 0x0A63_0001 ∷ [])

-- ---- an RP for each group

-- the same, where an RP is chosen for each group
abbrev pub by_group : Known
by_group = choosing Choice.Group two

-- the RP of a group, for what the router is given
abbrev pub rp_of : Known → ℕ → Option ℕ
rp_of k g = rp_among (record { static_ranges = given k; candidates = candidates k }) g

abbrev pub offered : ℕ → RpCandidate
offered rp = record { prefix = eight; rp = addr rp; priority = 5; hash_length = 30 }

-- All RPs of the range are candidates, beside the configured range. By the values of the hash function 239.0.0.1 has 10.99.0.1
-- (2067580945, 240866473, 53588824), as the whole range has, and 239.0.0.4 has 10.77.0.2 (418197941, 343260749, 974265596);
-- 239.1.0.4 has the RP of the longer range, which is configured. With one fragment, and past the holdtime, there are none.
abbrev pub AsOffered : Type 0
AsOffered =
    (rps by_group ≡ 0x0A00_0063 ∷ [])
    × (candidates by_group ≡ offered 0x0A58_0009 ∷ offered 0x0A4D_0002 ∷ offered 0x0A63_0001 ∷ [])
    × (rp_of by_group 0xEF00_0001 ≡ Some 0x0A63_0001)
    × (rp_of by_group 0xEF00_0004 ≡ Some 0x0A4D_0002)
    × (rp_of two 0xEF00_0004 ≡ Some 0x0A63_0001)
    × (rp_of by_group 0xEF01_0004 ≡ Some 0x0A00_0063)
    × (candidates (choosing Choice.Group one) ≡ [])
    × (candidates (at_time 151004 by_group) ≡ candidates by_group)
    × (candidates (at_time 151005 by_group) ≡ [])

-- a message of all three, in another order, and with another priority of one that isn't chosen for the range
abbrev pub again : ℕ → Bootstrap
again priority =
    message 12
    (wide 3 (candidate 0x0A63_0001 150 ∷ (record (candidate 0x0A58_0009 150) { priority = priority }) ∷ candidate 0x0A4D_0002 150 ∷ [])
    ∷ [])

-- The router is given other candidates where one has another priority, or all another hash mask; for the whole range the RP
-- is the same. What is said again moves nothing.
abbrev pub AsMoved : Type 0
AsMoved =
    (answer by_group 0 0x0A00_0002 (again 5) ≡ Heard.Taken false)
    × (answer by_group 0 0x0A00_0002 (again 6) ≡ Heard.Taken true)
    × (answer two 0 0x0A00_0002 (again 6) ≡ Heard.Taken false)
    × (answer by_group 0 0x0A00_0002 (record (again 5) { hash_length = 29 }) ≡ Heard.Taken true)
    × (answer two 0 0x0A00_0002 (record (again 5) { hash_length = 29 }) ≡ Heard.Taken false)

-- When the RPs end the router is told so, as candidates or as the range that is left. Where there is room for two of three
-- RPs, the router is given other candidates; where there is room for all it isn't.
abbrev pub AsEnded : Type 0
AsEnded =
    (time_given 7 3 by_group 160000
    ≡ event 7 (EventKind.Advance 151005) ∷ event 7 (EventKind.RpCandidates []) ∷ event 7 (EventKind.Advance 160000) ∷ [])
    × (time_given 7 3 two 160000
    ≡ event 7 (EventKind.Advance 151005) ∷ event 7 (EventKind.Rps (own ∷ [])) ∷ event 7 (EventKind.Advance 160000) ∷ [])
    × (candidates (configured 2 [] by_group) ≡ offered 0x0A58_0009 ∷ offered 0x0A4D_0002 ∷ [])
    × (loses by_group (configured 2 [] by_group) ≡ true)
    × (loses by_group (configured 3 [] by_group) ≡ false)
    × (loses two (configured 2 [] two) ≡ false)

-- What leaves the range leaves its candidates.
abbrev pub AsOfferedLeft : Type 0
AsOfferedLeft =
    AllLeave eight 151000 by_group others
    × (filter (is_candidate_at eight) (candidates (all_after by_group others))
    ≡ offered 0x0A58_0009 ∷ offered 0x0A4D_0002 ∷ offered 0x0A63_0001 ∷ [])

-- ---- the router's own messages

-- what is known after the router itself said two RPs at 1 s, with room for so many
abbrev pub said_with : ℕ → Known
said_with limit =
    with_own 1000 (record start { limit = limit })
    (message 7 (wide 2 (candidate 0x0A58_0009 150 ∷ candidate 0x0A4D_0002 150 ∷ []) ∷ []))

abbrev pub addresses : Known → List ℕ
addresses k = map (λ (l : Learned). l.rp.bits) k.table.rps

-- It learns them, and is the elected BSR for 130 s. Without room for both it learns none, and is the BSR all the same.
abbrev pub AsOwn : Type 0
AsOwn =
    (addresses (said_with 2) ≡ 0x0A58_0009 ∷ 0x0A4D_0002 ∷ [])
    × (addresses (said_with 1) ≡ [])
    × ((said_with 2).elected ≡ Some (record { bsr = addr 0x0A00_0009; priority = 10; end = 131000 }))
    × ((said_with 1).elected ≡ Some (record { bsr = addr 0x0A00_0009; priority = 10; end = 131000 }))
    × ((said_with 1).heard ≡ true)
