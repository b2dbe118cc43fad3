-- What the marks of a group, or of a source, mean for its facts. No public clause cites this module.
use Rattle.std.{specs.{Option.option_map_or, Prelude.{Bool, None, Option, Some, cond, false, is_some, nat_lt, not, option_map, true, ℕ, ◌&&◌, ◌==◌, ◌≡◌}}}
use Rattle.pim_ip.{specs.declared.addr.Addr.Addr}
use Rattle.pim_ifset.{specs.Members.has}
use Rattle.pim_types.{specs.{declared.fact.{JoinTimerRow.JoinTimerRow, Key.Key}, Keys.{iface_in, key_of, same_key}}}
use Rattle.pim_model.{specs.Tables.{Table, has_row, row_at, same_bool}}
use Rattle.pim_tables.{specs.RowsIn.rows_in}
use Rattle.pim_source_trie.{specs.Entries.entry_key}
use Rattle.pim_store.{specs.declared.marks.{Mark.{Mark, TheVariants.{Joined, Branched, Pruned, Lost, Won, HasOverrideTimer, HasSource, HasRegister}}, Marks.Marks}}

-- ---- the marks of one group or source

-- the mark is set, on an interface or for the whole router
abbrev pub seen : Mark → Marks → ℕ → Bool
seen Joined m i = has m.joined i
seen Branched m i = has m.branched i
seen Pruned m i = has m.pruned i
seen Lost m i = has m.lost i
seen Won m i = has m.won i
seen HasOverrideTimer m i = m.has_override_timer
seen HasSource m i = m.has_source
seen HasRegister m i = m.has_register

-- the set of the mark has the register tunnel
abbrev pub tunnel_in : Mark → Marks → Bool
tunnel_in Joined m = (m.joined).tunnel
tunnel_in Branched m = (m.branched).tunnel
tunnel_in Pruned m = (m.pruned).tunnel
tunnel_in Lost m = (m.lost).tunnel
tunnel_in Won m = (m.won).tunnel
tunnel_in _ m = false

-- A mark on an interface is the mark that is set there.
abbrev pub is_set_by : Mark → ℕ → Mark → ℕ → Bool
is_set_by Joined i Joined q = q == i
is_set_by Branched i Branched q = q == i
is_set_by Pruned i Pruned q = q == i
is_set_by Lost i Lost q = q == i
is_set_by Won i Won q = q == i
is_set_by HasOverrideTimer i HasOverrideTimer q = true
is_set_by HasSource i HasSource q = true
is_set_by HasRegister i HasRegister q = true
is_set_by _ i _ q = false

-- ---- the facts that marks are about

-- The interface of the fact that a mark is about; facts of the whole router have number 0.
abbrev pub iface_at : Mark → ℕ → ℕ
iface_at Joined i = i
iface_at Branched i = i
iface_at Pruned i = i
iface_at Lost i = i
iface_at Won i = i
iface_at _ i = 0

-- The mark is about facts of (S,G,rpt).
abbrev pub is_rpt : Mark → Bool
is_rpt Branched = true
is_rpt Pruned = true
is_rpt HasOverrideTimer = true
is_rpt _ = false

-- The key of the fact that the mark is about.
abbrev pub place : Mark → ℕ → ℕ → Option ℕ → Key
place x i g s = key_of (iface_at x i) g s (is_rpt x)

abbrev pub source_bits : Option Addr → Option ℕ
source_bits source = option_map (λ (a : Addr). a.bits) source

-- The fact under the key is of the kind and on the interface that the mark is about.
abbrev pub is_here : Mark → ℕ → ℕ → Bool
is_here Joined i n = i == n
is_here Branched i n = i == n
is_here Pruned i n = i == n
is_here Lost i n = i == n
is_here Won i n = i == n
is_here _ i n = n == 0

abbrev pub is_about : Mark → ℕ → Key → Bool
is_about x i k = is_here x i (iface_in k) && same_bool (is_rpt x) k.rpt

-- ---- the marks of all groups and sources

-- the key of a group or a source in the table of marks
abbrev pub mark_key : ℕ → Option ℕ → Key
mark_key g s = key_of 0 g s false

abbrev pub seen_in : Mark → ℕ → Option Marks → Bool
seen_in x i None = false
seen_in x i (Some m) = seen x m i

abbrev pub said : Table Marks → Mark → ℕ → ℕ → Option ℕ → Bool
said t x i g s = seen_in x i (row_at t (mark_key g s))

-- The Join timer that the entry has.
abbrev pub timer_in : Option Marks → Option JoinTimerRow
timer_in None = None
timer_in (Some m) = m.join_timer

-- all Join timers, by rising key
unfoldable pub timers_in : Table Marks → Table JoinTimerRow
timers_in marks = rows_in (λ (m : Marks). m.join_timer) marks

-- An entry under the key of a group or a source has some mark set, or a Join timer, and no set has the tunnel.
pub record IsEntry (k : Key) (m : Marks) : Type 0 where
  pub placed : k ≡ entry_key k.group k.source
  pub speaks : ((x : Mark) (i : ℕ) → seen x m i ≡ false) → m.join_timer ≡ None → ⊥
  pub bare : (x : Mark) → tunnel_in x m ≡ false

abbrev pub AreEntries : Table Marks → Type 0
AreEntries t = (k : Key) (m : Marks) → row_at t k ≡ Some m → IsEntry k m

-- The Join timer under the key is the given one, or none, and each other one is unchanged.
abbrev pub WritesTimer : (before after : Table Marks) → Key → Option JoinTimerRow → Type 0
WritesTimer before after k row =
    (q : Key) → timer_in (row_at after q) ≡ cond (same_key q k) row (timer_in (row_at before q))

-- A change leaves the marks of all entries as they are.
abbrev pub KeepsMarks : (before after : Table Marks) → Type 0
KeepsMarks before after = (x : Mark) (i g : ℕ) (s : Option ℕ) → said after x i g s ≡ said before x i g s

-- The marks of a group or a source are replaced, or its entry is removed where nothing is marked.
abbrev pub Writes : (before after : Table Marks) → Key → Marks → Type 0
Writes before after k m =
    (x : Mark) (i g : ℕ) (s : Option ℕ)
    → said after x i g s ≡ cond (same_key (mark_key g s) k) (seen x m i) (said before x i g s)

-- ---- what the rows of a table tell

-- The keys that rows of an interface have.
abbrev pub is_of_iface : Key → Bool
is_of_iface k = nat_lt (iface_in k) 120

abbrev pub is_plain_of_iface : Key → Bool
is_plain_of_iface k = is_of_iface k && not k.rpt

abbrev pub is_source_of_router : Key → Bool
is_source_of_router k = (iface_in k == 0) && not k.rpt && is_some k.source

abbrev pub is_rpt_of_router : Key → Bool
is_rpt_of_router k = (iface_in k == 0) && k.rpt && is_some k.source

module _ {R : Type 0} (tells : Mark → Bool) (says : Mark → R → Bool) where
  -- The row sets the mark; no row sets none.
  abbrev pub row_says : Mark → Option R → Bool
  row_says x row = option_map_or (says x) row false

  -- Two rows of a fact set the same marks.
  abbrev pub SaysAlike : R → R → Type 0
  SaysAlike row before = (x : Mark) → tells x ≡ true → says x row ≡ says x before

  -- The marks that the row under a key can set are as it says, and no other mark changed.
  abbrev pub SetsMarks : (before after : Table Marks) → Key → Option R → Type 0
  SetsMarks before after k row =
      (x : Mark) (i g : ℕ) (s : Option ℕ)
      → said after x i g s ≡ cond (tells x && same_key (place x i g s) k) (row_says x row) (said before x i g s)

  -- The marks are as the rows say, and each row is under a key of its kind.
  pub record IsTold (fits : Key → Bool) (marks : Table Marks) (rows : Table R) : Type 0 where
    pub told : (x : Mark) → tells x ≡ true → (i g : ℕ) (s : Option ℕ)
        → said marks x i g s ≡ row_says x (row_at rows (place x i g s))
    pub fit : (k : Key) → has_row rows k ≡ true → fits k ≡ true

-- Only marks that pass the test changed.
abbrev pub KeepsOtherMarks : (Mark → Bool) → (before after : Table Marks) → Type 0
KeepsOtherMarks tells before after =
    (x : Mark) → tells x ≡ false → (i g : ℕ) (s : Option ℕ) → said after x i g s ≡ said before x i g s
