-- How a BSR says RPs in Bootstraps (RFC 5059, sections 3.3 and 4.1.1): what one packet can't hold is said in fragments,
-- each a message of its own under one tag. The RPs of a range stand in one fragment, where one holds them.
use Rattle.std.{specs.{List.{All, flat_map}, Prelude.{◌≡◌, ℕ, ◌^◌, ◌<◌, ◌≤◌, Bool, IsTrue, false, nat_le, if◌then◌else◌, List, [], ◌∷◌, ◌++◌, drop, fold, length, map, take, Ok}}}
use Rattle.pim_ip.{specs.{declared.addr.Prefix.Prefix, Ipv4.{is_multicast, is_unicast}}}
use Rattle.pim_bootstrap.{specs.{Bootstraps.{Bootstrap, BootstrapRange, IsCandidate, bootstrap_reading, bootstrap_text}, declared.{bootstrap.CandidateRp.CandidateRp, fragments.BootstrapHead.BootstrapHead}}}

-- ---- what is to be said

-- a range of groups with all its RPs; one without RPs is to go
pub record RangeRps : Type 0 where
  pub prefix : Prefix
  pub rps : List CandidateRp

-- ---- ranges in fragments

-- the most RPs of a range in one fragment, which then has 1,456 bytes
abbrev pub most_together : ℕ
most_together = 143

-- a range with these of its RPs
abbrev pub piece_of : RangeRps → List CandidateRp → BootstrapRange
piece_of g rps = record {
  group = g.prefix.address.bits;
  length = g.prefix.length;
  bidir = false;
  zone = false;
  rp_count = length g.rps;
  rps = rps;
}

-- A range as it is said: with all its RPs, or in two parts, where one fragment doesn't hold them. It has at most 255.
unfoldable pub pieces_of : RangeRps → List BootstrapRange
pieces_of g =
    if nat_le (length g.rps) most_together
    then piece_of g g.rps ∷ []
    else piece_of g (take most_together g.rps) ∷ piece_of g (drop most_together g.rps) ∷ []

-- a fragment with these ranges
abbrev pub fragment_of : BootstrapHead → List BootstrapRange → Bootstrap
fragment_of h ranges = record {
  no_forward = h.no_forward;
  tag = h.tag;
  hash_length = h.hash_length;
  priority = h.priority;
  bsr = h.bsr.bits;
  ranges = ranges;
}

-- the most bytes of a message
abbrev pub most_bytes : ℕ
most_bytes = 1460

-- a fragment with these ranges has room for one more
unfoldable pub has_room : BootstrapHead → List BootstrapRange → BootstrapRange → Bool
has_room h ranges r = nat_le (length (bootstrap_text (fragment_of h (ranges ++ r ∷ [])))) most_bytes

-- the ranges of the fragments that are full, and of the one that is being filled
pub record Packing : Type 0 where
  pub full : List (List BootstrapRange)
  pub current : List BootstrapRange

-- A range goes into the fragment that is being filled, or where it has no room there begins the next one.
unfoldable pub with_piece : BootstrapHead → Packing → BootstrapRange → Packing
with_piece h p r =
    if has_room h p.current r
    then record { full = p.full; current = p.current ++ r ∷ [] }
    else record { full = p.full ++ p.current ∷ []; current = r ∷ [] }

abbrev pub nothing_packed : Packing
nothing_packed = record { full = []; current = [] }

-- ranges in fragments
unfoldable pub packing : BootstrapHead → List BootstrapRange → Packing
packing h rs = fold (with_piece h) nothing_packed rs

-- the ranges of each fragment; there is one at least, which may have none
abbrev pub packed : Packing → List (List BootstrapRange)
packed p = p.full ++ p.current ∷ []

-- the fragments that say ranges with their RPs
unfoldable pub fragments : BootstrapHead → List RangeRps → List Bootstrap
fragments h gs = map (fragment_of h) (packed (packing h (flat_map pieces_of gs)))

-- ---- laws

-- a head that a message can have
pub record IsHead (h : BootstrapHead) : Type 0 where
  pub tag : h.tag < 2 ^ 16
  pub mask : h.hash_length ≤ 32
  pub priority : h.priority < 2 ^ 8
  pub bsr : IsTrue (is_unicast h.bsr.bits)

-- the RPs of a range are counted in a byte
abbrev pub IsCounted : RangeRps → Type 0
IsCounted g = length g.rps < 2 ^ 8

-- a range that messages can say
pub record IsSayable (g : RangeRps) : Type 0 where
  pub group : IsTrue (is_multicast g.prefix.address.bits)
  pub shortest : 4 ≤ g.prefix.length
  pub longest : g.prefix.length ≤ 32
  pub counted : length g.rps < 2 ^ 8
  pub rps : All IsCandidate g.rps

-- the message has no more bytes than a packet holds
abbrev pub Fits : Bootstrap → Type 0
Fits m = length (bootstrap_text m) ≤ most_bytes

-- No fragment has more bytes than a packet holds.
abbrev pub FragmentsFit : Type 0
FragmentsFit = (h : BootstrapHead) (gs : List RangeRps) → All IsCounted gs → All Fits (fragments h gs)

-- the message reads back from its bytes
abbrev pub ReadsBack : Bootstrap → Type 0
ReadsBack m = bootstrap_reading (bootstrap_text m) ≡ Ok m

-- Each fragment reads back.
abbrev pub FragmentsRead : Type 0
FragmentsRead = (h : BootstrapHead) (gs : List RangeRps) → IsHead h → All IsSayable gs → All ReadsBack (fragments h gs)

-- The fragments have all ranges in their order, each once, and nothing else.
abbrev pub FragmentsHaveAll : Type 0
FragmentsHaveAll =
    (h : BootstrapHead) (gs : List RangeRps) → flat_map (λ m. m.ranges) (fragments h gs) ≡ flat_map pieces_of gs
