-- What a router learns of the fragments of a Bootstrap: what the BSR says by them (RFC 5059, section 4.1.1). A router takes a
-- message as `pim_bsr` defines it.
use Rattle.std.{specs.{List.{All, flat_map, list_any}, Prelude.{◌≡◌, ℕ, ◌+◌, ◌*◌, ◌&&◌, ◌==◌, Bool, true, false, not, List, [], ◌∷◌, ◌++◌, filter, fold, map}}}
use Rattle.pim_ip.{specs.declared.addr.Prefix.Prefix}
use Rattle.pim_model.{specs.Limits.same_prefix}
use Rattle.pim_bootstrap.{specs.{declared.{bootstrap.CandidateRp.CandidateRp, fragments.BootstrapHead.BootstrapHead}, Fragments.{IsCounted, RangeRps, fragments, piece_of, pieces_of}}}
use Rattle.pim_bsr.{specs.{Table.{Table, has_prefix, is_part_of, masks_after, range_prefix, with_message}, declared.learned.{Learned.Learned, Part.Part}}}

-- the prefix of a range as a router takes it
abbrev pub taken_prefix : RangeRps → Prefix
taken_prefix g = range_prefix (piece_of g [])

-- ---- what the BSR says is right in itself

-- no range is said twice
unfoldable pub are_apart : List RangeRps → Bool
are_apart [] = true
are_apart (g ∷ gs) =
    let later : Bool = are_apart gs in
    not (list_any (λ (f : RangeRps). same_prefix (taken_prefix g) (taken_prefix f)) gs) && later

-- no RP is said twice of a range
unfoldable pub rps_apart : List CandidateRp → Bool
rps_apart [] = true
rps_apart (c ∷ cs) =
    let later : Bool = rps_apart cs in
    not (list_any (λ (d : CandidateRp). c.address.bits == d.address.bits) cs) && later

abbrev pub HasApart : RangeRps → Type 0
HasApart g = rps_apart g.rps ≡ true

-- the RP waits for the rest of a message that the BSR sent under the tag
abbrev pub waits_under : BootstrapHead → Part → Bool
waits_under h q = (q.bsr.bits == h.bsr.bits) && (q.tag == h.tag)

-- ---- what a router learns

-- the RP's holdtime isn't over at once
abbrev pub lasts : CandidateRp → Bool
lasts c = not (c.holdtime == 0)

-- an RP of a range in force from a timestamp on
abbrev pub in_force : ℕ → BootstrapHead → Prefix → CandidateRp → Learned
in_force now h p c = record {
  prefix = p;
  hash_length = h.hash_length;
  rp = c.address;
  priority = c.priority;
  end = now + 1000 * c.holdtime;
}

-- the RPs of a range in force
abbrev pub all_in_force : ℕ → BootstrapHead → RangeRps → List Learned
all_in_force now h g = map (in_force now h (taken_prefix g)) (filter lasts g.rps)

-- the RP is of none of the ranges, and so is an RP that waits
abbrev pub is_other : List RangeRps → Learned → Bool
is_other gs l = not (list_any (λ (g : RangeRps). has_prefix (taken_prefix g) l) gs)

abbrev pub is_other_part : List RangeRps → Part → Bool
is_other_part gs q = not (list_any (λ (g : RangeRps). is_part_of (taken_prefix g) q) gs)

-- a table in which some ranges are as a BSR says them; those that it doesn't say are as they were
abbrev pub told : ℕ → BootstrapHead → List RangeRps → Table → Table
told now h gs t = record {
  rps = filter (is_other gs) t.rps ++ flat_map (all_in_force now h) gs;
  parts = filter (is_other_part gs) t.parts;
}

-- Any router that takes all fragments of what a BSR says has just what it says, and what it had of other ranges, whose hash masks
-- are those of the message. The tag is one under which nothing of that BSR waits.
abbrev pub FragmentsSaySame : Type 0
FragmentsSaySame =
    (now : ℕ) (h : BootstrapHead) (gs : List RangeRps) (t : Table)
    → All IsCounted gs → All HasApart gs → are_apart gs ≡ true → list_any (waits_under h) t.parts ≡ false
    → fold (with_message now) t (fragments h gs) ≡ told now h gs (masks_after h.hash_length (flat_map pieces_of gs) t)
