-- All that is cleared is touched, and the state goes on agreeing beside.
use Rattle.std.{proofs.Common.{◌≡◌, ◌&&◌, Bool, true, false, not, Some, sym, ap, ◌∙◌, arith}, specs.{Cmp.second_so, List.{filter, find, list_any}}}
use Rattle.pim_types.{specs.declared.fact.Key.Key}
use Rattle.pim_model.{specs.{Asserts.{assert_forgotten, without_spt_bit}, Clearing.{Cleared, ClearAssert, ClearSptBit, clear_all, clearable_count, cleared, first_by, to_clear}, State.State, Tables.Table}}
use Rattle.law_settled.{proofs.{ListLaws.{any_more, any_of_filter, find_member, first_by_member}, TableLaws.{any_in_filter, none_passes}, RowChanges.{changed_elsewhere, dropped_elsewhere}}}
use Rattle.law_events.{specs.{Locality.{AgreesBut, IsClosed, IsQuiet, of_touched, touched_assert, touched_clear, touched_spt, touched_to_clear}, Scopes.{reads, scope}}, proofs.{Clearing.to_clear_of_touched, Turns.same_repetition}}

abbrev key_cleared : Cleared → Key
key_cleared (ClearAssert k r) = k
key_cleared (ClearSptBit k) = k

-- a key that isn't touched doesn't read the rows of one that is
pub unread : (touches : Key → Bool) → IsClosed touches → (k q : Key) → touches k ≡ true → touches q ≡ false
    → reads q k ≡ false
unread touches closed k q e f = grind arith

by_case : (b : Bool) → (b ≡ false → ⊥) → b ≡ true
by_case b never = grind arith

never_both : (b : Bool) → (b && not b) ≡ true → ⊥
never_both b e = grind arith

-- ---- what is chosen among touched rows is touched

module _ {R : Type 0} (touches : Key → Bool) where
  abbrev untouched : Key × R → Bool
  untouched e = not (touches e.0)

  none_untouched : (t : Table R) → list_any untouched (filter (of_touched touches) t) ≡ true → ⊥
  none_untouched t e = grind (arith, none_passes, never_both, any_in_filter)

  first_is_touched : (is_first : Key × R → Key × R → Bool) (p : Key × R → Bool) (t : Table R) (d : Key × R)
      → first_by is_first (filter p (filter (of_touched touches) t)) ≡ Some d → touches d.0 ≡ true
  first_is_touched is_first p t d e =
      by_case (touches d.0)
      (λ f. none_untouched t
      (any_of_filter p untouched (filter (of_touched touches) t)
      (first_by_member is_first untouched (filter p (filter (of_touched touches) t)) d (ap not f) e)))

  found_is_touched : (p : Key × R → Bool) (t : Table R) (d : Key × R)
      → find p (filter (of_touched touches) t) ≡ Some d → touches d.0 ≡ true
  found_is_touched p t d e =
      by_case (touches d.0)
      (λ f. none_untouched t
      (any_more (λ x. p x && untouched x) untouched (λ x g. second_so (p x) (untouched x) g)
      (filter (of_touched touches) t)
      (find_member p untouched (filter (of_touched touches) t) d (ap not f) e)))

module _ (touches : Key → Bool) (o : State) where
  assert_is_touched : (s : State) (c : Cleared) → touched_assert touches o s ≡ Some c
      → touches (key_cleared c) ≡ true
  unfolding touched_assert
  assert_is_touched s c e = grind (arith, first_is_touched)

  spt_is_touched : (s : State) (c : Cleared) → touched_spt touches s ≡ Some c
      → touches (key_cleared c) ≡ true
  unfolding touched_spt
  spt_is_touched s c e = grind (arith, found_is_touched)

  pub chosen_is_touched : (s : State) (c : Cleared) → touched_to_clear touches o s ≡ Some c
      → touches (key_cleared c) ≡ true
  unfolding touched_to_clear
  chosen_is_touched s c e = grind (arith, spt_is_touched, assert_is_touched)

  -- ---- what goes on agreeing

  pub cleared_agrees : IsClosed touches → (s : State) (c : Cleared) → touches (key_cleared c) ≡ true
      → AgreesBut touches o s
      → AgreesBut touches o (cleared s c).0
  unfolding cleared assert_forgotten without_spt_bit scope
  cleared_agrees closed s c is agree q e = grind (arith, dropped_elsewhere, unread, changed_elsewhere)

  module _ (closed : IsClosed touches) (quiet : IsQuiet o) where
    keeps : (s : State) (c : Cleared) → AgreesBut touches o s → to_clear o s ≡ Some c
        → AgreesBut touches o (cleared s c).0
    keeps s c agree e =
        cleared_agrees closed s c (chosen_is_touched s c (sym (to_clear_of_touched touches o quiet s agree) ∙ e)) agree

    pub clear_of_touched : (s : State) → AgreesBut touches o s → clear_all o s ≡ touched_clear touches o s
    unfolding clear_all touched_clear
    clear_of_touched s agree =
        same_repetition (to_clear o) (touched_to_clear touches o) cleared (AgreesBut touches o)
        (to_clear_of_touched touches o quiet) keeps (clearable_count s) s agree

pub clearing_is_local : (touches : Key → Bool) → IsClosed touches → (o : State) → IsQuiet o → (s : State)
    → AgreesBut touches o s → clear_all o s ≡ touched_clear touches o s
clearing_is_local touches closed o quiet s agree = clear_of_touched touches o closed quiet s agree
