-- Which marks the rows of each table set. No public clause cites this module.
use Rattle.std.{specs.Prelude.{Bool, None, Option, Some, false, is_none, true, ℕ, ◌==◌, ◌||◌}}
use Rattle.pim_types.{specs.declared.fact.{AssertRow.AssertRow, DownstreamRow.DownstreamRow}}
use Rattle.pim_model.{specs.Sets.{is_loser, is_winner}}
use Rattle.pim_store.{specs.{Said.is_set_by, declared.marks.Mark.{Mark, TheVariants.{Joined, Branched, Pruned, Lost, Won, HasOverrideTimer, HasSource, HasRegister}}}}

-- one of the two marks is the one that is set, and on the interface that it is set on
abbrev pub is_second : Option Mark → ℕ → Mark → ℕ → Bool
is_second None i x q = false
is_second (Some mark) i x q = is_set_by mark i x q

abbrev pub is_set_by_either : Mark × Option Mark → ℕ → Mark → ℕ → Bool
is_set_by_either marks i x q = is_set_by marks.0 i x q || is_second marks.1 i x q

-- Each table has a number; `table_of` is that of the table whose rows set a mark.
abbrev pub downstream_table : ℕ
downstream_table = 0

abbrev pub assert_table : ℕ
assert_table = 1

abbrev pub override_timer_table : ℕ
override_timer_table = 2

abbrev pub source_table : ℕ
source_table = 3

abbrev pub register_table : ℕ
register_table = 4

abbrev pub table_of : Mark → ℕ
table_of Joined = downstream_table
table_of Branched = downstream_table
table_of Pruned = downstream_table
table_of Lost = assert_table
table_of Won = assert_table
table_of HasOverrideTimer = override_timer_table
table_of HasSource = source_table
table_of HasRegister = register_table

abbrev pub is_told_by : ℕ → Mark → Bool
is_told_by table x = table_of x == table

abbrev pub downstream_says : Mark → DownstreamRow → Bool
downstream_says Pruned row = is_none row.pending
downstream_says _ row = true

abbrev pub assert_says : Mark → AssertRow → Bool
assert_says Lost row = is_loser (Some row)
assert_says Won row = is_winner (Some row)
assert_says _ row = false

-- A row sets the mark by its being there.
abbrev pub is_there : {R : Type 0} → Mark → R → Bool
is_there x row = true
