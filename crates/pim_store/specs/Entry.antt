-- The entry of a group, or of one of its sources, and the marks that it stands for. No public clause cites this module.
use Rattle.std.{specs.{Int.Bits.{bit_or, bit_xor}, Prelude.{Bool, Box, None, Option, Some, cond, false, is_some, nat_lt, not, true, ℕ, ◌&&◌, ◌==◌, ◌^◌, ◌||◌, ◌≡◌}, Box.box_value}}
use Rattle.pim_ifset.{specs.Members.Members}
use Rattle.pim_store.{specs.declared.{entry.Entry.TheInside.Inside, marks.{Mark.{Mark, TheVariants.{Joined, Branched, Pruned, Lost, Won, HasOverrideTimer, HasSource, HasRegister}}, Marks.Marks}, rare.Rare.Rare}}

-- ---- sets

abbrev pub empty_set : Members
empty_set = record { mask = 0; tunnel = false }

abbrev pub is_empty_set : Members → Bool
is_empty_set s = (s.mask == 0) && not s.tunnel

-- A set of interfaces with one added or removed.
unfoldable pub with_bit : ℕ → Bool → Members → Members
with_bit i true s = record { mask = bit_or s.mask (2 ^ i); tunnel = s.tunnel }
with_bit i false s = record { mask = bit_xor (bit_or s.mask (2 ^ i)) (2 ^ i); tunnel = s.tunnel }

-- A set of interfaces with one added or removed; no set has an interface from 120 on.
abbrev pub with_iface : ℕ → Bool → Members → Members
with_iface i is_in s = with_bit i (is_in && nat_lt i 120) s

-- ---- the sets that few have

abbrev pub no_rare : Rare
no_rare = record { branched = empty_set; pruned = empty_set; lost = empty_set; won = empty_set }

abbrev pub is_no_rare : Rare → Bool
is_no_rare r = is_empty_set r.branched && is_empty_set r.pruned && is_empty_set r.lost && is_empty_set r.won

-- The sets of an entry's block; all empty where it has none.
abbrev pub rare_of : {A : Type 0} → Option (Box Rare A) → Rare
rare_of None = no_rare
rare_of (Some block) = box_value block

abbrev pub rare_in : Marks → Rare
rare_in m = record { branched = m.branched; pruned = m.pruned; lost = m.lost; won = m.won }

abbrev pub without_rare : Mark → ℕ → Rare → Rare
without_rare Branched i r = record r { branched = with_iface i false r.branched }
without_rare Pruned i r = record r { pruned = with_iface i false r.pruned }
without_rare Lost i r = record r { lost = with_iface i false r.lost }
without_rare Won i r = record r { won = with_iface i false r.won }
without_rare _ i r = r

-- a block has some set that isn't empty
abbrev pub IsNeeded : {A : Type 0} → Option (Box Rare A) → Type 0
IsNeeded {A} block = (b : Box Rare A) → block ≡ Some b → is_no_rare (box_value b) ≡ false

-- ---- entries

abbrev pub marks_of : Inside → Marks
marks_of e = record {
  joined = e.joined;
  branched = (rare_of e.rare).branched;
  pruned = (rare_of e.rare).pruned;
  lost = (rare_of e.rare).lost;
  won = (rare_of e.rare).won;
  join_timer = e.join_timer;
  has_override_timer = e.has_override_timer;
  has_source = e.has_source;
  has_register = e.has_register;
}

-- ---- changes of marks

-- The marks with one set, or cleared, on an interface or for the whole router.
abbrev pub with_mark : Mark → ℕ → Bool → Marks → Marks
with_mark Joined i is_set m = record m { joined = with_iface i is_set m.joined }
with_mark Branched i is_set m = record m { branched = with_iface i is_set m.branched }
with_mark Pruned i is_set m = record m { pruned = with_iface i is_set m.pruned }
with_mark Lost i is_set m = record m { lost = with_iface i is_set m.lost }
with_mark Won i is_set m = record m { won = with_iface i is_set m.won }
with_mark HasOverrideTimer i is_set m = record m { has_override_timer = is_set }
with_mark HasSource i is_set m = record m { has_source = is_set }
with_mark HasRegister i is_set m = record m { has_register = is_set }

-- every entry has room for the mark
abbrev pub is_plain : Mark → Bool
is_plain Branched = false
is_plain Pruned = false
is_plain Lost = false
is_plain Won = false
is_plain _ = true

abbrev pub with_plain : Mark → ℕ → Bool → Marks → Marks
with_plain x i is_set m = cond (is_plain x) (with_mark x i is_set m) m

-- The marks without one, or without two.
abbrev pub without_either : Mark → Option Mark → ℕ → Marks → Marks
without_either first None i m = with_mark first i false m
without_either first (Some second) i m = with_mark second i false (with_mark first i false m)

-- no mark is set, no Join timer runs, and no set has the tunnel
abbrev pub are_none : Marks → Bool
are_none m =
    is_empty_set m.joined && is_no_rare (rare_in m)
    && not (is_some m.join_timer || m.has_override_timer || m.has_source || m.has_register)

-- The marks if any is set, else none.
abbrev pub kept : Marks → Option Marks
kept m = cond (are_none m) None (Some m)
