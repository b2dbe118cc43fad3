-- What is cleared first stays cleared to the end. So where the end has all asserts and SPTbits that may go, nothing
-- went.
use Rattle.std.{proofs.{Common.{◌≡◌, ℕ, Bool, true, false, not, ◌&&◌, ◌⊎◌, List, [], Option, Some, None, option_map, ⊎_elim, refl, sym, ap, subst, ◌∙◌, arith}, lemmas.Bool.false_from_ne_true}, specs.{Cmp.{first_so, second_so}, List.{AllByRecursion, find, list_any}, Option.{option_map_or, option_or}}}
use Rattle.pim_types.{specs.{declared.fact.{AssertRow.AssertRow, Key.Key, RegisterRow.RegisterRow, SourceRow.SourceRow}, Keys.same_key}, proofs.Keys.{equal_keys, same_key_same}}
use Rattle.pim_model.{specs.{Asserts.{assert_forgotten, without_spt_bit}, Clearing.{ClearAssert, ClearSptBit, Cleared, assert_must_go, assert_to_clear, clear, clear_all, clearable_count, cleared, spt_must_go, spt_to_clear, to_clear}, Firing.settled, Messages.Message, Registers.settle_registers, Repeat.and_then, State.State, Tables.{Table, change_row, changed_entry, has_row, row_at}}}
use Rattle.law_settled.{proofs.{ClearingLaws.{clear_unrolls, is_set_at}, ListLaws.{any_among_all, each_passing, find_member, first_of_all}, RowLaws.has_row_without, TableLaws.{any_of_changed, any_of_filter_map, none_passes, row_is_there}, TurnLaws.{kept_to_the_end, same_when_none}, Unsettled.cleared_in_the_end}}

-- SPTbit of the row at a key
abbrev pub spt_at : Table SourceRow → Key → Bool
spt_at t k = option_map_or (λ (r : SourceRow). r.spt) (row_at t k) false

-- ---- what clearing, telling upstream and writing keep

-- the tables that macros of a source write
pub record Kept : Type 0 where
  pub asserts : Table AssertRow
  pub sources : Table SourceRow
  pub registers : Table RegisterRow

abbrev pub kept_of : State → Kept
kept_of s = record { asserts = s.asserts; sources = s.sources; registers = s.registers }

module _ (o : State) (w : ℕ) where
  -- the end has the tables that clearing leaves
  pub end_keeps : (change : State × List Message)
      → kept_of (settled o change w).0 ≡ kept_of (clear_all o (settle_registers change.0)).0
  unfolding clear
  end_keeps change = grind (arith, cleared_in_the_end)

-- ---- what is gone stays gone

module _ (o : State) (k : Key) where
  abbrev NoAssert : State → Type 0
  NoAssert s = has_row s.asserts k ≡ false

  abbrev NoSpt : State → Type 0
  NoSpt s = list_any (is_set_at k) s.sources ≡ false

  none_more : (b : Bool) → b ≡ false → (c : Bool) → (c ≡ true → b ≡ true) → c ≡ false
  none_more b e c f = grind arith

  no_set : (q : Key) (s : State) → NoSpt s → NoSpt (without_spt_bit s q)
  unfolding without_spt_bit
  no_set q s none = grind (arith, none_more, is_set_at, any_of_changed)

  keeps_no_assert : (s : State) (c : Cleared) → NoAssert s → NoAssert (cleared s c).0
  unfolding cleared assert_forgotten without_spt_bit
  keeps_no_assert s c none = grind (arith, has_row_without)

  keeps_no_spt : (s : State) (c : Cleared) → NoSpt s → NoSpt (cleared s c).0
  unfolding cleared assert_forgotten
  keeps_no_spt s c none = grind (arith, no_set)

  assert_stays_gone : (s : State) → NoAssert s → NoAssert (clear_all o s).0
  unfolding clear_all
  assert_stays_gone s none =
      kept_to_the_end (to_clear o) cleared NoAssert (λ t c f e. keeps_no_assert t c f) (clearable_count s) s none

  spt_stays_gone : (s : State) → NoSpt s → NoSpt (clear_all o s).0
  unfolding clear_all
  spt_stays_gone s none =
      kept_to_the_end (to_clear o) cleared NoSpt (λ t c f e. keeps_no_spt t c f) (clearable_count s) s none

  -- cleared at once, it is gone
  itself_gone : (s : State) (r : AssertRow) → NoAssert (cleared s (ClearAssert k r)).0
  unfolding cleared assert_forgotten
  itself_gone s r = has_row_without k k s.asserts ∙ ap (λ b. not b && has_row s.asserts k) (same_key_same k)

  spt_itself_gone : (s : State) → NoSpt (cleared s (ClearSptBit k)).0
  unfolding cleared without_spt_bit change_row changed_entry
  spt_itself_gone s = grind (arith, any_of_filter_map, is_set_at, false_from_ne_true, none_passes)

-- ---- where the end has all that may go, nothing went

module _ (o t : State) (asserts : Table AssertRow) (sources : Table SourceRow)
    (asserts_there : AllByRecursion (λ (e : Key × AssertRow). (has_row asserts e.0 ≡ true) ⊎ (assert_must_go o t e ≡ false))
    t.asserts)
    (spts_there : AllByRecursion (λ (e : Key × SourceRow). (e.1).spt ≡ true → (spt_at sources e.0 ≡ true)
    ⊎ (spt_must_go t e ≡ false)) t.sources)
    (same_asserts : (clear_all o t).0.asserts ≡ asserts) (same_sources : (clear_all o t).0.sources ≡ sources) where
  -- an assert that goes isn't there at the end
  assert_went : (e : Key × AssertRow) → to_clear o t ≡ Some (ClearAssert e.0 e.1)
      → (has_row asserts e.0 ≡ true) ⊎ (assert_must_go o t e ≡ false) → assert_must_go o t e ≡ true → ⊥
  unfolding and_then
  assert_went e is why must =
      let gone : has_row (clear_all o t).0.asserts e.0 ≡ false =
      ap (λ (u : State × List Message). has_row (u.0).asserts e.0) (clear_unrolls o t (ClearAssert e.0 e.1) is)
      ∙ assert_stays_gone o e.0 (cleared t (ClearAssert e.0 e.1)).0 (itself_gone o e.0 t e.1) in
      ⊎_elim
      (λ (here : has_row asserts e.0 ≡ true).
      let both : true ≡ false = sym here ∙ ap (λ (u : Table AssertRow). has_row u e.0) (sym same_asserts) ∙ gone in cc)
      (λ (stays : assert_must_go o t e ≡ false). let both : true ≡ false = sym must ∙ stays in cc) why

  set_there : (k : Key) → spt_at sources k ≡ true → list_any (is_set_at k) sources ≡ true
  set_there k e = grind (arith, is_set_at, row_is_there, same_key_same)

  spt_went : (e : Key × SourceRow) → to_clear o t ≡ Some (ClearSptBit e.0)
      → ((e.1).spt ≡ true → (spt_at sources e.0 ≡ true) ⊎ (spt_must_go t e ≡ false)) → spt_must_go t e ≡ true → ⊥
  unfolding and_then
  spt_went e is why must =
      let gone : list_any (is_set_at e.0) (clear_all o t).0.sources ≡ false =
      ap (λ (u : State × List Message). list_any (is_set_at e.0) (u.0).sources) (clear_unrolls o t (ClearSptBit e.0) is)
      ∙ spt_stays_gone o e.0 (cleared t (ClearSptBit e.0)).0 (spt_itself_gone o e.0 t) in
      ⊎_elim
      (λ (here : spt_at sources e.0 ≡ true).
      let both : true ≡ false =
      sym (set_there e.0 here) ∙ ap (λ (u : Table SourceRow). list_any (is_set_at e.0) u) (sym same_sources) ∙ gone in cc)
      (λ (stays : spt_must_go t e ≡ false). let both : true ≡ false = sym must ∙ stays in cc)
      (why (first_so (e.1).spt _ must))

  no_assert_goes : assert_to_clear o t ≡ None
  unfolding to_clear assert_to_clear
  no_assert_goes = grind (arith, first_of_all, each_passing, assert_went)

  no_spt_goes : spt_to_clear t ≡ None
  unfolding to_clear spt_to_clear
  no_spt_goes = go (find (spt_must_go t) t.sources) refl
    where
      go : (p : Option (Key × SourceRow)) → find (spt_must_go t) t.sources ≡ p
          → option_map (λ e. ClearSptBit e.0) (find (spt_must_go t) t.sources) ≡ None
      go None e = ap (option_map (λ e. ClearSptBit e.0)) e
      go (Some d) e =
          let is : to_clear o t ≡ Some (ClearSptBit d.0) =
          λ j. option_or (no_assert_goes j) (option_map (λ e. ClearSptBit e.0) (e j)) in
          absurd
          (any_among_all _ (λ x. spt_must_go t x && same_key d.0 x.0)
          (λ x f g. spt_went x
          (subst (λ (k : Key). to_clear o t ≡ Some (ClearSptBit k))
          (equal_keys d.0 x.0 (second_so (spt_must_go t x) (same_key d.0 x.0) g)) is)
          f (first_so (spt_must_go t x) (same_key d.0 x.0) g))
          t.sources spts_there
          (find_member (spt_must_go t) (λ x. same_key d.0 x.0) t.sources d (same_key_same d.0) e))

  pub nothing_went : clear_all o t ≡ (t, [])
  unfolding clear_all to_clear
  nothing_went = grind (arith, same_when_none, no_assert_goes, no_spt_goes)
