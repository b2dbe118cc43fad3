-- How fragments are written: one after the other, each without its checksum until it is full.
use Rattle.std.{specs.{Prelude.{ℕ, ◌+◌, ◌*◌, ◌^◌, ◌<◌, false, nat_le, if◌then◌else◌, List, [], ◌∷◌, ◌++◌, drop, fold, length, take}}}
use Rattle.byteorder.{specs.Endian.big_bytes}
use Rattle.pim_ip.{specs.Checksum.with_checksum}
use Rattle.pim_wire.{specs.Encoded.unicast_text}
use Rattle.pim_bootstrap.{specs.{Bootstraps.{BootstrapRange, range_text}, Fragments.{RangeRps, most_bytes, pieces_of}, declared.fragments.{BootstrapHead.BootstrapHead, GroupRange.GroupRange, Piece.Piece}}}

-- a range that is given, and RPs of one
abbrev pub range_rps : GroupRange → RangeRps
range_rps g = record { prefix = g.prefix; rps = g.rps.now }

abbrev pub piece_value : Piece → BootstrapRange
piece_value q = record {
  group = q.prefix.address.bits;
  length = q.prefix.length;
  bidir = false;
  zone = false;
  rp_count = q.rp_count;
  rps = q.rps.now;
}

-- the length of the mask and the number of RPs are written in a byte
pub record IsWritable (g : GroupRange) : Type 0 where
  pub mask : g.prefix.length < 2 ^ 8
  pub counted : length g.rps.now < 2 ^ 8

pub record IsWritablePiece (q : Piece) : Type 0 where
  pub mask : q.prefix.length < 2 ^ 8
  pub counted : length q.rps.now < 2 ^ 8

-- the bytes of a message before its ranges, with 0 for the checksum
abbrev pub head_text : BootstrapHead → List ℕ
head_text h =
    0x24 ∷ (if h.no_forward then 0x80 else 0) ∷ 0 ∷ 0 ∷ big_bytes 2 h.tag ++ (h.hash_length ∷ h.priority ∷ [])
    ++ unicast_text h.bsr.bits

-- a message whose checksum is put in
abbrev pub summed : List ℕ → List ℕ
summed bytes = with_checksum (take 2 bytes) (drop 4 bytes)

-- the length of a range's text
abbrev pub range_length : BootstrapRange → ℕ
range_length r = 12 + 10 * length r.rps

-- the messages that are full, and the one that is being filled
pub record Texts : Type 0 where
  pub full : List (List ℕ)
  pub current : List ℕ

-- the message that is being filled is full, and the next one begins
abbrev pub ended : BootstrapHead → Texts → Texts
ended h t = record { full = t.full ++ summed t.current ∷ []; current = head_text h }

-- a range is written behind the message that is being filled
abbrev pub extended : Texts → BootstrapRange → Texts
extended t r = record { full = t.full; current = t.current ++ range_text r }

-- a range is written where it has room
unfoldable pub with_text : BootstrapHead → Texts → BootstrapRange → Texts
with_text h t r =
    if nat_le (length t.current + range_length r) most_bytes then extended t r else extended (ended h t) r

-- the ranges of a range with its RPs are written
abbrev pub with_texts : BootstrapHead → Texts → RangeRps → Texts
with_texts h t g = fold (with_text h) t (pieces_of g)

-- before the first range
abbrev pub begun : BootstrapHead → Texts
begun h = record { full = []; current = head_text h }
