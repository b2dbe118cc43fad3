-- Where the rows of one table changed with their marks, the marks are again as the rows of all tables say.
use Rattle.std.{proofs.{Common.{◌≡◌, ◌==◌, ℕ, Bool, true, false, [], Option, Some, None, is_some, refl, sym, ap, ◌∙◌, arith}, lemmas.Bool.Decides.nat_tests}, specs.Option.option_map_or}
use Rattle.pim_types.{specs.declared.fact.{AssertRow.AssertRow, DownstreamRow.DownstreamRow, Key.Key, OverrideTimerRow.OverrideTimerRow, RegisterRow.RegisterRow, SourceRow.SourceRow}}
use Rattle.pim_model.{specs.{Sets.{is_loser, is_winner}, Tables.{Table, has_row, row_at}}}
use Rattle.pim_store.{specs.{PimTables.PimTables, Said.{IsTold, KeepsMarks, KeepsOtherMarks, is_of_iface, is_plain_of_iface, is_rpt_of_router, is_source_of_router, place, said, timers_in}, Stored.IsIndexed, Telling.{assert_says, assert_table, downstream_says, downstream_table, is_there, is_told_by, override_timer_table, register_table, source_table, table_of}, declared.marks.{Mark.Mark, Marks.Marks}}}

-- a mark is told by one table
numbers_apart : (a b n : ℕ) → (a == b) ≡ false → (n == a) ≡ true → (n == b) ≡ false
numbers_apart a b n differ same = grind (arith, nat_tests)

module _ {m m' : Table Marks} (changed : ℕ) (others : KeepsOtherMarks (is_told_by changed) m m') where
  still : {R : Type 0} (table : ℕ) {says : Mark → R → Bool} {fits : Key → Bool} {t : Table R}
      → (table == changed) ≡ false → IsTold (is_told_by table) says fits m t
      → IsTold (is_told_by table) says fits m' t
  still table differ is = record {
    told = λ x here i g s. others x (numbers_apart table changed (table_of x) differ here) i g s ∙ is.told x here i g s;
    fit = is.fit;
  }

as_before : {R : Type 0} {m m' : Table Marks} {tells : Mark → Bool} {says : Mark → R → Bool} {fits : Key → Bool} {t : Table R}
    → KeepsMarks m m' → IsTold tells says fits m t → IsTold tells says fits m' t
as_before same is = record {
  told = λ x tell i g s. same x i g s ∙ is.told x tell i g s;
  fit = is.fit;
}

module _ {m m' : Table Marks} {f : PimTables} (is : IsIndexed m f) where
  pub after_downstream : {t : Table DownstreamRow} → KeepsOtherMarks (is_told_by downstream_table) m m'
      → IsTold (is_told_by downstream_table) downstream_says is_of_iface m' t
      → IsIndexed m' (record f { downstream = t; join_timers = timers_in m' })
  after_downstream others told = record {
    downstream = told;
    asserts = still downstream_table others assert_table refl is.asserts;
    join_timers = refl;
    override_timers = still downstream_table others override_timer_table refl is.override_timers;
    sources = still downstream_table others source_table refl is.sources;
    registers = still downstream_table others register_table refl is.registers;
  }

  pub after_asserts : {t : Table AssertRow} → KeepsOtherMarks (is_told_by assert_table) m m'
      → IsTold (is_told_by assert_table) assert_says is_plain_of_iface m' t
      → IsIndexed m' (record f { asserts = t; join_timers = timers_in m' })
  after_asserts others told = record {
    downstream = still assert_table others downstream_table refl is.downstream;
    asserts = told;
    join_timers = refl;
    override_timers = still assert_table others override_timer_table refl is.override_timers;
    sources = still assert_table others source_table refl is.sources;
    registers = still assert_table others register_table refl is.registers;
  }

  pub after_join_timers : KeepsMarks m m' → IsIndexed m' (record f { join_timers = timers_in m' })
  after_join_timers same = record {
    downstream = as_before same is.downstream;
    asserts = as_before same is.asserts;
    join_timers = refl;
    override_timers = as_before same is.override_timers;
    sources = as_before same is.sources;
    registers = as_before same is.registers;
  }

  pub after_override_timers : {t : Table OverrideTimerRow} → KeepsOtherMarks (is_told_by override_timer_table) m m'
      → IsTold (is_told_by override_timer_table) is_there is_rpt_of_router m' t
      → IsIndexed m' (record f { override_timers = t; join_timers = timers_in m' })
  after_override_timers others told = record {
    downstream = still override_timer_table others downstream_table refl is.downstream;
    asserts = still override_timer_table others assert_table refl is.asserts;
    join_timers = refl;
    override_timers = told;
    sources = still override_timer_table others source_table refl is.sources;
    registers = still override_timer_table others register_table refl is.registers;
  }

  pub after_sources : {t : Table SourceRow} → KeepsOtherMarks (is_told_by source_table) m m'
      → IsTold (is_told_by source_table) is_there is_source_of_router m' t
      → IsIndexed m' (record f { sources = t; join_timers = timers_in m' })
  after_sources others told = record {
    downstream = still source_table others downstream_table refl is.downstream;
    asserts = still source_table others assert_table refl is.asserts;
    join_timers = refl;
    override_timers = still source_table others override_timer_table refl is.override_timers;
    sources = told;
    registers = still source_table others register_table refl is.registers;
  }

  pub after_registers : {t : Table RegisterRow} → KeepsOtherMarks (is_told_by register_table) m m'
      → IsTold (is_told_by register_table) is_there is_source_of_router m' t
      → IsIndexed m' (record f { registers = t; join_timers = timers_in m' })
  after_registers others told = record {
    downstream = still register_table others downstream_table refl is.downstream;
    asserts = still register_table others assert_table refl is.asserts;
    join_timers = refl;
    override_timers = still register_table others override_timer_table refl is.override_timers;
    sources = still register_table others source_table refl is.sources;
    registers = told;
  }

-- no rows, and no marks
pub none_told : {R : Type 0} {tells : Mark → Bool} {says : Mark → R → Bool} {fits : Key → Bool} {m : Table Marks}
    {t : Table R} → m ≡ [] → t ≡ [] → IsTold tells says fits m t
unfolding row_at has_row
none_told {R} {tells} {says} {fits} {m} {t} none empty = record {
  told = λ x here i g s.
      ap (λ (u : Table Marks). said u x i g s) none
      ∙ ap (λ (u : Table R). option_map_or (says x) (row_at u (place x i g s)) false) (sym empty);
  fit = λ k there. let no : is_some (row_at t k) ≡ false = ap (λ (u : Table R). is_some (row_at u k)) empty in cc;
}

-- ---- what a row says, read

pub row_there : {R : Type 0} (t : Table R) (k : Key) → option_map_or (λ (r : R). true) (row_at t k) false ≡ has_row t k
unfolding has_row
row_there {R} t k = go (row_at t k)
  where
    go : (o : Option R) → option_map_or (λ (r : R). true) o false ≡ is_some o
    go None = refl
    go (Some r) = refl

pub row_lost : (o : Option AssertRow) → option_map_or (λ (r : AssertRow). is_loser (Some r)) o false ≡ is_loser o
row_lost None = refl
row_lost (Some r) = refl

pub row_won : (o : Option AssertRow) → option_map_or (λ (r : AssertRow). is_winner (Some r)) o false ≡ is_winner o
row_won None = refl
row_won (Some r) = refl
