-- Rows that differ between two states in more than when a timer expires that runs in both: exactly the keys that such
-- rows are under are touched.
use Rattle.std.{specs.{List.list_any, Prelude.{Bool, List, [], filter, false, map, not, true, ℕ, ◌&&◌, ◌++◌, ◌||◌, ◌≡◌}}}
use Rattle.pim_types.{specs.declared.fact.Key.Key}
use Rattle.pim_model.{specs.{Firing.settled, Messages.Message, Rows.{same_assert, same_both, same_downstream, same_group_record, same_register, same_rows, same_source, same_source_record}, State.State, Tables.{Table, keys_in, row_at}, Writing.write_all}}
use Rattle.law_settled.{specs.Ready.IsOrdered}
use Rattle.law_events.{specs.{Locality.{AgreesBut, IsQuiet, own_settled, touching}, Scopes.{only_priority, only_up, reads, whole_scope}}}

-- what all groups share is the same, as the macros see it
pub record IsShared (s t : State) : Type 0 where
  pub settings : s.settings ≡ t.settings
  pub configured : s.configured ≡ t.configured
  pub routes : s.routes ≡ t.routes
  pub ranges : s.ranges ≡ t.ranges
  pub interfaces : map only_up s.interfaces ≡ map only_up t.interfaces
  pub neighbours : map only_priority s.neighbours ≡ map only_priority t.neighbours

-- ---- which rows differ

-- The rows under a key are alike in both tables, or there is none in both.
abbrev pub same_at : {R : Type 0} → (R → R → Bool) → Key → Table R → Table R → Bool
same_at same k t u = same_both same (row_at t k) (row_at u k)

-- Under the key no row differs that macros read.
unfoldable pub is_same_at : State → State → Key → Bool
is_same_at s t k =
    same_at same_group_record k s.group_records t.group_records
    && same_at same_source_record k s.source_records t.source_records
    && same_at same_downstream k s.downstream t.downstream && same_at same_assert k s.asserts t.asserts
    && same_at same_source k s.sources t.sources && same_at same_register k s.registers t.registers

-- No row of any group differs, but for when timers expire.
unfoldable pub is_same_but_ends : State → State → Bool
is_same_but_ends s t =
    same_rows same_group_record s.group_records t.group_records
    && same_rows same_source_record s.source_records t.source_records
    && same_rows same_downstream s.downstream t.downstream && same_rows same_assert s.asserts t.asserts
    && same_rows same_source s.sources t.sources && same_rows same_register s.registers t.registers

-- The keys under which the rows of two tables differ.
unfoldable pub differing_in : {R : Type 0} → (R → R → Bool) → Table R → Table R → List Key
differing_in same t u = filter (λ k. not (same_at same k t u)) (keys_in t ++ keys_in u)

-- The keys under which a row differs.
unfoldable pub differing : State → State → List Key
differing s t =
    differing_in same_group_record s.group_records t.group_records
    ++ differing_in same_source_record s.source_records t.source_records
    ++ differing_in same_downstream s.downstream t.downstream ++ differing_in same_assert s.asserts t.asserts
    ++ differing_in same_source s.sources t.sources ++ differing_in same_register s.registers t.registers

-- ---- only keys under which a row differs are touched

-- Keys cover a change where they touch each key under which a row differs.
abbrev pub NamedKeysCover : Type 0
NamedKeysCover = (keys : List Key) (s t : State) → IsOrdered s → IsOrdered t → IsShared s t
    → ((k : Key) → is_same_at s t k ≡ false → touching keys k ≡ true) → AgreesBut (touching keys) s t

abbrev pub DifferingKeysCover : Type 0
DifferingKeysCover =
    (s t : State) → IsOrdered s → IsOrdered t → IsShared s t → AgreesBut (touching (differing s t)) s t

-- The macros of a key read the same in two states, with the records of groups in INCLUDE.
abbrev pub AgreesWhollyOn : Key → State → State → Type 0
AgreesWhollyOn k s t = whole_scope (reads k) s ≡ whole_scope (reads k) t

-- Where the states agree on a key, no row that it reads differs, so only keys at which a row differs are touched.
abbrev pub AgreedRowsAreSame : Type 0
AgreedRowsAreSame = (k q : Key) (s t : State) → AgreesWhollyOn k s t → reads k q ≡ true → is_same_at s t q ≡ true

abbrev pub DifferingIsLeast : Type 0
DifferingIsLeast = (s t : State) (k : Key) → AgreesWhollyOn k s t → touching (differing s t) k ≡ false

-- From a quiet state all that follows of a change follows of the keys at which rows differ.
abbrev pub ChangedKeysSettle : Type 0
ChangedKeysSettle =
    (o : State) → IsQuiet o → IsOrdered o → (change : State × List Message) (w : ℕ) → IsOrdered change.0
    → IsShared o change.0 → settled o change w ≡ own_settled (differing o change.0) o change w

-- ---- where none differs

abbrev pub SameButEndsTouchesNothing : Type 0
SameButEndsTouchesNothing =
    (s t : State) → IsShared s t → is_same_but_ends s t ≡ true → AgreesBut (touching []) s t

-- From a quiet state nothing follows of a change that touches nothing: only its own messages are written.
abbrev pub NothingFollows : Type 0
NothingFollows = (o : State) → IsQuiet o → (change : State × List Message) (w : ℕ)
    → AgreesBut (touching []) o change.0 → settled o change w ≡ write_all change.0 change.1

abbrev pub SameButEndsSettles : Type 0
SameButEndsSettles =
    (o : State) → IsQuiet o → (change : State × List Message) (w : ℕ) → IsShared o change.0
    → is_same_but_ends o change.0 ≡ true → settled o change w ≡ write_all change.0 change.1

-- ---- rows that are new

-- The keys of the rows that macros read.
unfoldable pub read_keys : State → List Key
read_keys s =
    keys_in s.group_records ++ keys_in s.source_records ++ keys_in s.downstream ++ keys_in s.asserts
    ++ keys_in s.sources ++ keys_in s.registers

-- The keys of new rows are among the keys under which rows differ, for any test of keys, such as that they name a
-- source.
abbrev pub NewKeysDiffer : Type 0
NewKeysDiffer = (s t : State) (test : Key → Bool) → list_any test (read_keys t) ≡ true
    → (list_any test (read_keys s) || list_any test (differing s t)) ≡ true
