-- All that follows of new routes or new RP ranges follows of what they move, of which there are facts.
use Rattle.std.{proofs.Common.{◌≡◌, ◌||◌, ℕ, Bool, true, false, not, cond, List, [], ◌∷◌, ◌++◌, filter, fold, Some, is_some, refl, sym, ap, subst, arith}, specs.List.{AllByRecursion, list_all, list_any}}
use Rattle.pim_types.{specs.{declared.fact.{Key.Key, RegisterRow.RegisterRow, RegisterState.RegisterState}, Keys.{group_in, names_source, source_in, source_key}}}
use Rattle.pim_model.{specs.{Asserts.{assert_forgotten, without_spt, without_spt_bit}, Clearing.{ClearAssert, ClearSptBit, Cleared, assert_must_go, assert_to_clear, clear, clear_all, clearable_count, cleared, spt_must_go, spt_to_clear, to_clear}, Firing.settled, Messages.Message, Registers.{could_register, settle_registers, settled_register}, State.State, Tables.{Table, change_row, changed_entry, drop_at, drop_where, has_row, keys_in, put}, Upstream.{fact_keys, upstream}}}
use Rattle.law_settled.{proofs.{ListLaws.{any_among_all, each_append, each_both, each_filter, each_filter_map, each_map, each_more, each_of_list, list_of_each}, RowLaws.{changed_key, each_put}, TurnLaws.kept_to_the_end}}
use Rattle.law_events.{specs.{Locality.{IsQuiet, is_register_settled, own_settled, own_upstream, touched_assert, touched_clear, touched_registers, touched_spt, touched_to_clear, touching}, Moved.{HaveSources, IsRerouted, MovesAlone}, Named.{has_same_routes, is_source_named, is_rerouted}}, proofs.{Clearing.{found_narrowed, narrowed}, Turns.same_repetition, MovedTold.moved_told, Rerouted.{Beside, Stays, after_registers, all_idle, around_rerouted, asserts_beside, beside_after, desired_same, goes_beside, idle, is_idle, rerouted_beside, rerouted_unnamed, source_sees, spts_beside, star_sees, turn}, FactsThere.isnt_star, Taken.{AreTaken, Taken, both, fact_stays, facts_taken, first, keys_of_rows, moved_is_touched, new_facts_taken, rerouted_is_touched, rows_of_keys, second, source_stays}, Told.settles_as, Unreached.Around}}

wider : (a b x : Bool) → (a ≡ true → b ≡ true) → (a || x) ≡ true → (b || x) ≡ true
wider a b x more e = grind arith

module _ (keys : List Key) (o c : State) (quiet : IsQuiet o) (moves : MovesAlone keys o c)
    (sourced : HaveSources c.sources) (registered : HaveSources c.registers) where
  abbrev is : IsRerouted o c
  is = moves.rerouted

  abbrev around : Around o c
  around = around_rerouted o c is

  abbrev start : Beside o c around c
  start = rerouted_beside o c is

  abbrev touched : Key → Bool
  touched = touching keys

  abbrev KeyTaken : Key → Type 0
  KeyTaken = Taken keys o c

  abbrev SourceTaken : Key → Type 0
  SourceTaken k = KeyTaken k × (is_some k.source ≡ true)

  with_sources : {R : Type 0} → (t : Table R) → AllByRecursion (λ e. KeyTaken e.0) t → HaveSources t
      → AllByRecursion (λ e. SourceTaken e.0) t
  with_sources t taken have =
      each_both (λ e. KeyTaken e.0) (λ e. is_some (e.0).source ≡ true) (λ e. SourceTaken e.0) (λ e f g. (f, g)) t taken
      (each_of_list (λ e. is_some (e.0).source) t have)

  assert_keys : AreTaken keys o c (keys_in c.asserts)
  unfolding fact_keys
  assert_keys = grind (arith, second, first, new_facts_taken)

  source_keys : AreTaken keys o c (keys_in c.sources)
  unfolding fact_keys
  source_keys = second keys o c _ _ (first keys o c _ _ (new_facts_taken keys o c moves))

  register_keys : AreTaken keys o c (keys_in c.registers)
  unfolding fact_keys
  register_keys = second keys o c _ _ (new_facts_taken keys o c moves)

  sources_taken : AllByRecursion (λ e. SourceTaken e.0) c.sources
  sources_taken = with_sources c.sources (rows_of_keys keys o c c.sources source_keys) sourced

  registers_taken : AllByRecursion (λ e. SourceTaken e.0) c.registers
  registers_taken = with_sources c.registers (rows_of_keys keys o c c.registers register_keys) registered

  -- ---- registers

  abbrev settled_list : List Key
  settled_list = keys_in c.sources ++ keys_in c.registers

  abbrev all_settled : Table RegisterRow → List Key → Table RegisterRow
  all_settled u ks = fold (λ t k. settled_register c k t) u ks

  abbrev may_settle : Key → Bool
  may_settle = is_idle o c around start quiet

  keys_sourced : {R : Type 0} → (t : Table R) → AllByRecursion (λ e. SourceTaken e.0) t
      → AllByRecursion SourceTaken (keys_in t)
  unfolding keys_in
  keys_sourced t each = each_map (λ e. SourceTaken e.0) SourceTaken (λ e. e.0) (λ e f. f) t each

  each_settled : AllByRecursion (λ k. SourceTaken k × (may_settle k ≡ true)) settled_list
  each_settled =
      each_both SourceTaken (λ k. may_settle k ≡ true) (λ k. SourceTaken k × (may_settle k ≡ true)) (λ k f g. (f, g))
      settled_list
      (each_append SourceTaken (keys_in c.sources) (keys_in c.registers) (keys_sourced c.sources sources_taken)
      (keys_sourced c.registers registers_taken))
      (each_of_list may_settle settled_list (all_idle o c around start quiet))

  untouched_idle : (k : Key) (u : Table RegisterRow) → SourceTaken k → may_settle k ≡ true → touched k ≡ false
      → Stays o c around start quiet u → settled_register c k u ≡ u
  untouched_idle k u taken may out stays =
      let calm : has_same_routes (group_in k) (source_in k) o c ≡ true =
      source_stays keys o c k taken.0 (isnt_star k.source taken.1) out in
      idle o c around start quiet k u stays calm (settled_so (has_same_routes (group_in k) (source_in k) o c) calm may)
    where
      settled_so : (b : Bool) → b ≡ true → (not b || is_register_settled o k) ≡ true → is_register_settled o k ≡ true
      settled_so true e f = f
      settled_so false e f = cc

  fold_step : (k : Key) (ks : List Key) (u : Table RegisterRow) (b : Bool) → touched k ≡ b → SourceTaken k
      → may_settle k ≡ true → Stays o c around start quiet u
      → ((v : Table RegisterRow) → Stays o c around start quiet v → all_settled v ks ≡ all_settled v (filter touched ks))
      → all_settled (settled_register c k u) ks ≡ all_settled u (cond b (k ∷ filter touched ks) (filter touched ks))
  fold_step k ks u true e taken may stays ih =
      ih (settled_register c k u) (turn o c around start quiet k u (is_rerouted o c k) refl may stays)
  fold_step k ks u false e taken may stays ih = grind (arith, untouched_idle)

  settled_of_touched : (ks : List Key) (u : Table RegisterRow)
      → AllByRecursion (λ k. SourceTaken k × (may_settle k ≡ true)) ks → Stays o c around start quiet u
      → all_settled u ks ≡ all_settled u (filter touched ks)
  settled_of_touched [] u each stays = refl
  settled_of_touched (k ∷ ks) u each stays =
      fold_step k ks u (touched k) refl (each.0).0 (each.0).1 stays (λ v f. settled_of_touched ks v each.1 f)

  registers_of_touched : settle_registers c ≡ touched_registers touched c
  unfolding settle_registers touched_registers
  registers_of_touched = grind (arith, settled_of_touched, each_settled)

  -- where they are settled their keys are taken
  one_taken : (k : Key) (u : Table RegisterRow) (b d : Bool) (row : RegisterRow) → KeyTaken k
      → AllByRecursion (λ e. KeyTaken e.0) u
      → AllByRecursion (λ e. KeyTaken e.0) (cond b (cond d u (put u k row)) (drop_at u k))
  unfolding drop_at drop_where
  one_taken k u b d row new each = grind (arith, each_put, each_filter)

  settled_taken : (ks : List Key) (u : Table RegisterRow) → AllByRecursion KeyTaken ks
      → AllByRecursion (λ e. KeyTaken e.0) u → AllByRecursion (λ e. KeyTaken e.0) (all_settled u ks)
  unfolding settled_register
  settled_taken [] u new each = each
  settled_taken (k ∷ ks) u new each =
      settled_taken ks (settled_register c k u) new.1
      (one_taken k u (could_register c (group_in k) (source_in k)) (has_row u k) (record { state = RegisterState.Join })
      new.0 each)

  -- ---- what goes

  -- of the states on the way
  record OnTheWay (t : State) : Type 0 where
    beside : Beside o c around t
    only : t ≡ record c { asserts = t.asserts; sources = t.sources; registers = t.registers }
    asserts : AllByRecursion (λ e. KeyTaken e.0) t.asserts
    sources : AllByRecursion (λ e. SourceTaken e.0) t.sources
    registers : AllByRecursion (λ e. KeyTaken e.0) t.registers

  begun : OnTheWay (settle_registers c)
  unfolding settle_registers
  begun = record {
    beside = after_registers o c around start quiet;
    only = refl;
    asserts = rows_of_keys keys o c c.asserts assert_keys;
    sources = sources_taken;
    registers = settled_taken settled_list c.registers
        ((both keys o c (keys_in c.sources) (keys_in c.registers) source_keys register_keys).each)
        (rows_of_keys keys o c c.registers register_keys);
  }

  module _ (t : State) (way : OnTheWay t) where
    asserts_narrow : list_all (λ e. touched e.0 || not (assert_must_go o t e)) t.asserts ≡ true
    asserts_narrow = grind (arith, list_of_each, each_both, wider, moved_is_touched, each_of_list, asserts_beside)

    spts_narrow : list_all (λ e. touched e.0 || not (spt_must_go t e)) t.sources ≡ true
    spts_narrow = grind (arith, list_of_each, each_both, wider, rerouted_is_touched, each_of_list, spts_beside)

    next_is_touched : to_clear o t ≡ touched_to_clear touched o t
    unfolding to_clear touched_to_clear assert_to_clear spt_to_clear touched_assert touched_spt
    next_is_touched = grind (arith, narrowed, asserts_narrow, found_narrowed, spts_narrow)

    one_gone : (d : Cleared) → Beside o c around (cleared t d).0 → OnTheWay (cleared t d).0
    unfolding cleared assert_forgotten without_spt_bit drop_at drop_where change_row
    one_gone (ClearAssert k r) beside = grind (arith, each_filter)
    one_gone (ClearSptBit k) beside = record {
      beside = beside;
      only = ap (λ (u : State). record u { sources = change_row without_spt k t.sources }) way.only;
      asserts = way.asserts;
      sources = each_filter_map (λ e. SourceTaken e.0) (λ e. SourceTaken e.0) (changed_entry without_spt k)
          (λ x y f taken. subst SourceTaken (sym (changed_key without_spt k x y f)) taken) t.sources way.sources;
      registers = way.registers;
    }

    goes_on : (d : Cleared) → to_clear o t ≡ Some d → OnTheWay (cleared t d).0
    goes_on d e =
        one_gone d (beside_after o c around t way.beside quiet d (goes_beside o c around t way.beside quiet d e))

  goes_of_touched : (t : State) → OnTheWay t → clear_all o t ≡ touched_clear touched o t
  unfolding clear_all touched_clear
  goes_of_touched t way =
      same_repetition (to_clear o) (touched_to_clear touched o) cleared OnTheWay next_is_touched
      (λ u d way e. goes_on u way d e) (clearable_count t) t way

  end_is_on_the_way : OnTheWay (clear o c).0
  unfolding clear clear_all
  end_is_on_the_way =
      kept_to_the_end (to_clear o) cleared OnTheWay (λ t d way e. goes_on t way d e)
      (clearable_count (settle_registers c)) (settle_registers c) begun

  pub moved_goes : clear o c ≡ touched_clear touched o (touched_registers touched c)
  unfolding clear
  moved_goes = grind (arith, goes_of_touched, begun, registers_of_touched)

  -- ---- what is told

  abbrev end : State
  end = (clear o c).0

  end_facts : AreTaken keys o c (fact_keys end)
  unfolding fact_keys
  end_facts =
      let way : OnTheWay end = end_is_on_the_way in
      let facts : AreTaken keys o c (fact_keys c) = new_facts_taken keys o c moves in
      subst (λ (t : State). AreTaken keys o c (fact_keys t)) (sym way.only)
      (both keys o c _ _ (both keys o c _ _ (both keys o c _ _ (both keys o c _ _ (both keys o c _ _
      (first keys o c _ _ (first keys o c _ _ (first keys o c _ _ (first keys o c _ _ (first keys o c _ _ facts)))))
      (keys_of_rows keys o c end.asserts way.asserts))
      (second keys o c _ _ (first keys o c _ _ (first keys o c _ _ (first keys o c _ _ facts)))))
      (second keys o c _ _ (first keys o c _ _ (first keys o c _ _ facts))))
      (keys_of_rows keys o c end.sources
      (each_more (λ e. SourceTaken e.0) (λ e. KeyTaken e.0) (λ e f. f.0) end.sources way.sources)))
      (keys_of_rows keys o c end.registers way.registers))

  told_at_end : (w : ℕ) → upstream o end w ≡ own_upstream keys o end w
  told_at_end w =
      let beside : Beside o c around end = end_is_on_the_way.beside in
      moved_told keys o c end w (star_sees o c around end beside) (source_sees o c around end beside)
      (desired_same o c around end beside)
      (both keys o c (fact_keys o) (fact_keys end) (facts_taken keys o c moves) end_facts)

  pub moved_settles : (messages : List Message) (w : ℕ)
      → settled o (c, messages) w ≡ own_settled keys o (c, messages) w
  moved_settles messages w = settles_as keys o c messages w moved_goes (told_at_end w)

-- ---- who is named

pub moved_names : (keys : List Key) (o c : State) → IsQuiet o → MovesAlone keys o c → (g src : ℕ)
    → list_any (names_source g src) (fact_keys o) ≡ true → touching keys (source_key 0 g src) ≡ false
    → is_source_named g src o (clear o c).0 ≡ false
moved_names keys o c quiet moves g src there out =
    rerouted_unnamed o c (around_rerouted o c moves.rerouted) (rerouted_beside o c moves.rerouted) quiet g src
    (any_among_all (Taken keys o c) (names_source g src) (λ k is names. fact_stays keys o c g src k is names out)
    (fact_keys o) (facts_taken keys o c moves).each there)
