-- Worked runs: messages byte by byte as the RFC draws them (RFC 5059, sections 4.1 and 4.2), with checksums summed by hand,
-- and a table in fragments.
use Rattle.std.{specs.{Prelude.{◌≡◌, ℕ, true, false, List, [], ◌∷◌, ◌++◌, drop, length, map, replicate, take, Ok, Err}}}
use Rattle.pim_ip.{specs.{Addr.addr, declared.{refusal.Refusal.Refusal}}}
use Rattle.pim_bootstrap.{specs.{declared.{advertisement.AdvertisedRange.AdvertisedRange, bootstrap.CandidateRp.CandidateRp, fragments.BootstrapHead.BootstrapHead}, Advertisements.{Advertisement, advertisement_reading, advertisement_text}, Bootstraps.{Bootstrap, BootstrapRange, bootstrap_text}, Fragments.{RangeRps, fragments}}}

-- ---- an advertisement

-- 10.0.0.1 with priority 192, for 150 s
abbrev pub advertised : List AdvertisedRange → Advertisement
advertised ranges = record { priority = 192; holdtime = 150; rp = 0x0A00_0001; ranges = ranges }

-- 239.0.0.0/8 for BIDIR, and 224.0.0.0/4
abbrev pub bidir_range : AdvertisedRange
bidir_range = record { group = addr 0xEF00_0000; length = 8; bidir = true; zone = false }

abbrev pub widest : AdvertisedRange
widest = record { group = addr 0xE000_0000; length = 4; bidir = false; zone = false }

abbrev pub advertisement_bytes : List ℕ
advertisement_bytes =
    (0x28 ∷ 0x00 ∷ 0x78 ∷ 0x9A ∷ []) ++ (0x02 ∷ 0xC0 ∷ 0x00 ∷ 0x96 ∷ [])
    ++ (0x01 ∷ 0x00 ∷ 0x0A ∷ 0x00 ∷ 0x00 ∷ 0x01 ∷ [])
    ++ (0x01 ∷ 0x00 ∷ 0x80 ∷ 0x08 ∷ 0xEF ∷ 0x00 ∷ 0x00 ∷ 0x00 ∷ [])
    ++ (0x01 ∷ 0x00 ∷ 0x00 ∷ 0x04 ∷ 0xE0 ∷ 0x00 ∷ 0x00 ∷ 0x00 ∷ [])

-- the same RP, without ranges
abbrev pub unranged_bytes : List ℕ
unranged_bytes =
    (0x28 ∷ 0x00 ∷ 0xCB ∷ 0xA8 ∷ []) ++ (0x00 ∷ 0xC0 ∷ 0x00 ∷ 0x96 ∷ []) ++ (0x01 ∷ 0x00 ∷ 0x0A ∷ 0x00 ∷ 0x00 ∷ 0x01 ∷ [])

-- Both are read, the second as one of all groups, and the first is written so. Cut before its last byte, with an RP that is
-- a group, a range that is none, or a mask of 3 bits it is refused.
abbrev pub AsAdvertised : Type 0
AsAdvertised =
    (advertisement_reading advertisement_bytes ≡ Ok (advertised (bidir_range ∷ widest ∷ [])))
    × (advertisement_text (advertised (bidir_range ∷ widest ∷ [])) ≡ advertisement_bytes)
    × (advertisement_reading unranged_bytes ≡ Ok (advertised (widest ∷ [])))
    × (advertisement_reading (take 29 advertisement_bytes) ≡ Err Refusal.Short)
    × (advertisement_reading (take 10 advertisement_bytes ++ 0xE0 ∷ drop 11 advertisement_bytes) ≡ Err Refusal.BadAddress)
    × (advertisement_reading (take 18 advertisement_bytes ++ 0x0A ∷ drop 19 advertisement_bytes) ≡ Err Refusal.NotMulticast)
    × (advertisement_reading (take 17 advertisement_bytes ++ 0x03 ∷ drop 18 advertisement_bytes) ≡ Err Refusal.BadLength)

-- ---- a Bootstrap

-- of 10.0.0.9 with priority 10, tag 7 and a hash mask of 30 bits
abbrev pub head : BootstrapHead
head = record { no_forward = false; tag = 7; hash_length = 30; priority = 10; bsr = addr 0x0A00_0009 }

-- for 150 s, with priority 5
abbrev pub rp : ℕ → CandidateRp
rp address = record { address = addr address; holdtime = 150; priority = 5 }

abbrev pub range : ℕ → ℕ → List CandidateRp → RangeRps
range address length rps = record { prefix = record { address = addr address; length = length }; rps = rps }

-- 239.0.0.0/8 has 10.88.0.9 and 10.77.0.2
abbrev pub two_rps : RangeRps
two_rps = range 0xEF00_0000 8 (rp 0x0A58_0009 ∷ rp 0x0A4D_0002 ∷ [])

abbrev pub bootstrap_bytes : List ℕ
bootstrap_bytes =
    (0x24 ∷ 0x00 ∷ 0x9E ∷ 0xFE ∷ []) ++ (0x00 ∷ 0x07 ∷ 0x1E ∷ 0x0A ∷ [])
    ++ (0x01 ∷ 0x00 ∷ 0x0A ∷ 0x00 ∷ 0x00 ∷ 0x09 ∷ [])
    ++ (0x01 ∷ 0x00 ∷ 0x00 ∷ 0x08 ∷ 0xEF ∷ 0x00 ∷ 0x00 ∷ 0x00 ∷ []) ++ (0x02 ∷ 0x02 ∷ 0x00 ∷ 0x00 ∷ [])
    ++ (0x01 ∷ 0x00 ∷ 0x0A ∷ 0x58 ∷ 0x00 ∷ 0x09 ∷ []) ++ (0x00 ∷ 0x96 ∷ 0x05 ∷ 0x00 ∷ [])
    ++ (0x01 ∷ 0x00 ∷ 0x0A ∷ 0x4D ∷ 0x00 ∷ 0x02 ∷ []) ++ (0x00 ∷ 0x96 ∷ 0x05 ∷ 0x00 ∷ [])

-- nothing to say
abbrev pub empty_bytes : List ℕ
empty_bytes =
    (0x24 ∷ 0x00 ∷ 0xB2 ∷ 0xE5 ∷ []) ++ (0x00 ∷ 0x07 ∷ 0x1E ∷ 0x0A ∷ []) ++ (0x01 ∷ 0x00 ∷ 0x0A ∷ 0x00 ∷ 0x00 ∷ 0x09 ∷ [])

-- how many RPs a range has, and how many of them in this fragment
abbrev pub counts : BootstrapRange → ℕ × ℕ
counts r = (r.rp_count, length r.rps)

abbrev pub counts_in : List Bootstrap → List (List (ℕ × ℕ))
counts_in ms = map (λ (m : Bootstrap). map counts m.ranges) ms

-- as many RPs
abbrev pub some : ℕ → List CandidateRp
some n = replicate n (rp 0x0A58_0009)

-- the fragments of a range of 150 RPs, one of another number, and one that is to go
abbrev pub three_ranges : ℕ → List (List (ℕ × ℕ))
three_ranges n =
    counts_in (fragments head (range 0xEF00_0000 8 (some 150) ∷ range 0xEE00_0000 8 (some n) ∷ range 0xED00_0000 8 [] ∷ []))

-- One range is one message, and nothing is one too. Of 150 RPs 143 are said in the first fragment and the others in the second:
-- with 134 RPs of the next range and none of the last it has 1,460 bytes. With 135 there the last range has no room, with 136
-- the next has none.
abbrev pub AsFragmented : Type 0
AsFragmented =
    (map bootstrap_text (fragments head (two_rps ∷ [])) ≡ bootstrap_bytes ∷ [])
    × (map bootstrap_text (fragments head []) ≡ empty_bytes ∷ [])
    × (three_ranges 134 ≡ ((150, 143) ∷ []) ∷ ((150, 7) ∷ (134, 134) ∷ (0, 0) ∷ []) ∷ [])
    × (three_ranges 135 ≡ ((150, 143) ∷ []) ∷ ((150, 7) ∷ (135, 135) ∷ []) ∷ ((0, 0) ∷ []) ∷ [])
    × (three_ranges 136 ≡ ((150, 143) ∷ []) ∷ ((150, 7) ∷ []) ∷ ((136, 136) ∷ (0, 0) ∷ []) ∷ [])
