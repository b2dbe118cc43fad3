-- Which interfaces are listed for a group, or for a source: those with a record of it, and those where its timer runs.
-- No public clause cites this module.
use Rattle.std.{specs.{Bool.beq, List.AllByRecursion, Prelude.{Bool, None, Option, Some, cond, false, is_some, nat_lt, not, option_map, true, unwrap_or, ℕ, ◌&&◌, ◌≡◌}}}
use Rattle.pim_ip.{specs.declared.addr.Addr.Addr}
use Rattle.pim_ifset.{specs.Members.has}
use Rattle.pim_types.{specs.{declared.fact.Key.Key, Keys.{iface_in, key_of, same_key}}}
use Rattle.pim_model.{specs.Tables.{Table, row_at}}
use Rattle.pim_source_trie.{specs.Entries.address_bits}
use Rattle.igmp_membership.{specs.declared.listed.Listed.Listed}

-- Which of the two sets an interface is listed in: those with a record, or those where its timer runs.
pub data Side : Type 0 where
  There : Side
  Running : Side

abbrev pub in_side : Side → Listed → ℕ → Bool
in_side There l i = has l.there i
in_side Running l i = has l.running i

-- Whether an interface is in a set, by its record, if it has one, and by whether the record's timer runs.
abbrev pub told_of : Side → Option Bool → Bool
told_of There timer = is_some timer
told_of Running timer = unwrap_or timer false

-- the key of a record: of a group, where there is no source, or of a source of it
abbrev pub record_key : ℕ → Addr → Option Addr → Key
record_key i group source = key_of i group.bits (option_map address_bits source) false

-- Whether an interface is listed in an entry; no entry lists none.
abbrev pub in_entry : Side → Option Listed → ℕ → Bool
in_entry x None i = false
in_entry x (Some l) i = in_side x l i

abbrev pub listed : Table Listed → Side → ℕ → ℕ → Option ℕ → Bool
listed t x i g s = in_entry x (row_at t (key_of 0 g s false)) i

-- The interfaces are listed for a group, or for a source, and all other entries are unchanged.
abbrev pub ListsAt : (before after : Table Listed) → Key → Listed → Type 0
ListsAt before after k l =
    (x : Side) (i g : ℕ) (s : Option ℕ)
    → listed after x i g s ≡ cond (same_key (key_of 0 g s false) k) (in_side x l i) (listed before x i g s)

-- The listed interfaces changed as the record under a key did.
abbrev pub Lists : (before after : Table Listed) → Key → Option Bool → Type 0
Lists before after k timer =
    (x : Side) (i g : ℕ) (s : Option ℕ)
    → listed after x i g s ≡ cond (same_key (key_of i g s false) k) (told_of x timer) (listed before x i g s)

-- A key of an interface that a set can have, and not of (S,G,rpt).
abbrev pub is_record_key : Key → Bool
is_record_key k = nat_lt (iface_in k) 120 && not k.rpt

module _ {R : Type 0} (runs : R → Bool) where
  -- Whether the timer of the record under a key runs, if there is a record.
  abbrev pub timer_at : Table R → Key → Option Bool
  timer_at rows k = option_map runs (row_at rows k)

  -- The timer of one of two rows runs, and that of the other doesn't.
  abbrev pub is_listed_anew : (before row : R) → Bool
  is_listed_anew before row = not (beq (runs before) (runs row))

  -- The listed interfaces are those of the rows, and each row is under a key of its kind: of groups, or of their
  -- sources.
  pub record IsListed (of_sources : Bool) (marks : Table Listed) (rows : Table R) : Type 0 where
    pub told : (x : Side) (i g : ℕ) (s : Option ℕ)
        → listed marks x i g s ≡ told_of x (timer_at rows (key_of i g s false))
    pub fit : AllByRecursion (λ (e : Key × R). is_record_key e.0 ≡ true) rows
    pub kind : AllByRecursion (λ (e : Key × R). is_some (e.0).source ≡ of_sources) rows
