-- A packet of a source without a fact that its row hands to the core changes the state: it makes the fact, or an
-- assert.
use Rattle.std.{proofs.{Common.{◌≡◌, ◌⊎◌, inl, ℕ, Bool, true, false, not, ◌&&◌, ◌||◌, cond, List, [], ◌∷◌, Option, Some, None, option_and_then, option_map, is_some, refl, sym, ap, ◌∙◌, arith}, lemmas.Bool.{or_left, or_parts}}, specs.{Cmp.{first_so, second_so}, List.{AllByRecursion, cons_option}, Option.option_map_or, Ordering.is_eq}}
use Rattle.pim_types.{specs.{declared.fact.{AssertRow.AssertRow, Key.Key, SourceRow.SourceRow}, Keys.{key_cmp, source_key, star_key}}, proofs.Keys.same_key_same}
use Rattle.pim_model.{specs.{AssertMacros.could_assert_star, Asserts.{assert_forgotten, could_assert_at, data_seen, wins, with_spt_bit, without_spt, without_spt_bit}, Cache.{answers, is_contested, keeps_alive, sets_spt}, Clearing.{Cleared, assert_must_go, clear_all, clearable_count, cleared, spt_must_go, to_clear}, Desires.{is_inherited_empty, join_desired}, Forwarding.{Forwarded, forwarded, has_local_receivers, is_spt_reached, list_chosen, source_here, source_joined, spt_updated, stray, watched}, Messages.Message, Registers.{could_register, is_spt_wanted, settle_register, settle_registers, with_keepalive}, Sets.{inherited_olist_rpt, is_kept_alive, spt_bit}, State.State, Step.{change, done, step, taken, taken_unless_full}, Tables.{Table, change_row, changed_entry, has_row, row_at, same_bool, same_option}, Unicast.{is_connected, is_rpf_interface, is_rpf_interface_rp, route, rpf_interface}}}
use Rattle.law_settled.{proofs.{ListLaws.{each_more, each_of_list, list_of_each}, RowLaws.{each_put, has_row_put, row_put}, TurnLaws.kept_to_the_end, UnchangedLaws.full_or_taken}}
use Rattle.law_events.{specs.{Locality.is_register_settled, Rest.IsAtRest}, proofs.{FirstCleared.{Kept, end_keeps, kept_of, nothing_went, spt_at}, KeptAlive.{now_kept, row_passes, with_its_row}, NothingFollows.registers_stay, Puts.{found_where_sorted, rows_are_there}, SptSets.{could_as_before, now_set, still_desired}, Wins.{star_stays, winner}, PlainSteps.reached_on_link}}
use Rattle.law_plane.{specs.{Offload.{handling_unknown, is_to_core, offload}, OffloadLaws.UnknownWithoutEffectIsForPlane}, proofs.{Decides.is_the_cores, UnknownSources.{forwarded_by, here, joined, no_spt_bit}}}
use Rattle.law_events.proofs.Wins

-- ---- a timer that runs goes on through clearing

abbrev runs : Option SourceRow → Bool
runs o = option_map_or (λ (r : SourceRow). is_some r.keepalive) o false

module _ (q k : Key) where
  runs_step : (x : Key × SourceRow) (xs ys : Table SourceRow) (b c d : Bool) → is_some (x.1).keepalive ≡ d
      → is_eq (key_cmp k x.0) ≡ b
      → (runs (row_at xs k) ≡ true → runs (row_at ys k) ≡ true) → runs (cond b (Some x.1) (row_at xs k)) ≡ true
      → runs (row_at (cons_option (cond c (option_map (λ row. (x.0, row)) (cond d (Some (record x.1 { spt = false })) None))
      (Some x)) ys) k) ≡ true
  unfolding row_at
  runs_step x xs ys b c d e f ih is = grind arith

  still_runs : (t : Table SourceRow) → runs (row_at t k) ≡ true → runs (row_at (change_row without_spt q t) k) ≡ true
  unfolding row_at change_row changed_entry
  still_runs [] is = let no : ⊥ = cc in absurd no
  still_runs (x ∷ xs) is = grind (arith, still_runs xs, runs_step)

module _ (o s : State) (g src : ℕ) where
  goes_on : (t : State) (c : Cleared) → is_kept_alive t g src ≡ true → is_kept_alive (cleared t c).0 g src ≡ true
  unfolding cleared assert_forgotten without_spt_bit is_kept_alive
  goes_on t c f = grind (arith, still_runs)

  runs_on : is_kept_alive s g src ≡ true → is_kept_alive (clear_all o (settle_registers s)).0 g src ≡ true
  unfolding clear_all settle_registers is_kept_alive
  runs_on is =
      kept_to_the_end (to_clear o) cleared (λ t. is_kept_alive t g src ≡ true) (λ t c f e. goes_on t c f)
      (clearable_count (settle_registers s)) (settle_registers s) is

-- ---- it goes on through the steps of a packet

module _ (g src i : ℕ) (t : State) (is : is_kept_alive t g src ≡ true) where
  joined_runs : is_kept_alive (source_joined t g src i) g src ≡ true
  unfolding source_joined
  joined_runs = grind (arith, now_kept)

  set_runs : is_kept_alive (with_spt_bit t g src) g src ≡ true
  unfolding with_spt_bit is_kept_alive
  set_runs = grind (arith, row_put)

  updated_runs : is_kept_alive (spt_updated t g src i) g src ≡ true
  unfolding spt_updated
  updated_runs = grind (arith, set_runs)

  wins_runs : (k : Key) → is_kept_alive (wins t k).0 g src ≡ true
  unfolding wins is_kept_alive
  wins_runs k = is

  watched_runs : is_kept_alive (watched t g src) g src ≡ true
  unfolding watched
  watched_runs = grind (arith, now_kept)

  stray_runs : is_kept_alive (stray t g src i).state g src ≡ true
  unfolding stray data_seen
  stray_runs = grind (arith, wins_runs)

  one_of_three : (a b : Bool) (x y z : Forwarded) → is_kept_alive x.state g src ≡ true → is_kept_alive y.state g src ≡ true
      → is_kept_alive z.state g src ≡ true → is_kept_alive (cond a x (cond b y z)).state g src ≡ true
  one_of_three a b x y z f h k = grind arith

  chosen_runs : is_kept_alive (list_chosen t g src i).state g src ≡ true
  unfolding list_chosen
  chosen_runs = grind (arith, one_of_three, watched_runs, stray_runs)

module _ (s : State) (g src i : ℕ) (rests : IsAtRest s) (none : has_row s.sources (source_key 0 g src) ≡ false) where
  abbrev key : Key
  key = source_key 0 g src

  abbrev gone : State
  gone = (forwarded s g src i).state

  -- the state is left as it was
  abbrev LeavesAll : Type 0
  LeavesAll = kept_of (clear_all s (settle_registers gone)).0 ≡ kept_of s

  not_alive : is_kept_alive s g src ≡ false
  unfolding is_kept_alive has_row
  not_alive = grind arith

  -- ---- who is shown alive

  alive_at_end : is_kept_alive gone g src ≡ true → LeavesAll → ⊥
  unfolding is_kept_alive
  alive_at_end is leaves = grind (arith, runs_on, not_alive)

  abbrev from_here : State → State
  from_here t = (list_chosen (spt_updated (source_joined t g src i) g src i) g src i).state

  gone_from : gone ≡ from_here (source_here s g src i)
  unfolding forwarded
  gone_from = refl

  abbrev from_joined : State → State
  from_joined t = (list_chosen (spt_updated t g src i) g src i).state

  from_joined_runs : (t : State) → is_kept_alive t g src ≡ true → is_kept_alive (from_joined t) g src ≡ true
  from_joined_runs t is = chosen_runs g src i (spt_updated t g src i) (updated_runs g src i t is)

  settled_runs : is_kept_alive (settle_register (with_keepalive s g src) key) g src ≡ true
  unfolding settle_register is_kept_alive
  settled_runs = now_kept g src s

  keeps_runs : (c t d f : Bool) → is_connected s src ≡ c → is_rpf_interface s src i ≡ t → join_desired s g src ≡ d
      → not (is_inherited_empty s g src) ≡ f → (t && (c || (d && f))) ≡ true → is_kept_alive gone g src ≡ true
  unfolding source_here source_joined
  keeps_runs c t d f ec et ed ef is = grind (arith, gone_from, from_joined_runs, joined_runs, settled_runs, now_kept)

  alive_changes : keeps_alive (answers s g src) i ≡ true → LeavesAll → ⊥
  unfolding answers
  alive_changes is = grind (arith, alive_at_end, keeps_runs)

  asserts_in : AllByRecursion (λ (e : Key × AssertRow). has_row s.asserts e.0 ≡ true) s.asserts
  asserts_in = rows_are_there s.asserts rests.settled.ordered.asserts

  spts_in : AllByRecursion (λ (e : Key × SourceRow). (e.1).spt ≡ true → spt_at s.sources e.0 ≡ true) s.sources
  spts_in = grind (arith, each_more, found_where_sorted)

  could_not : could_register s g src ≡ false
  unfolding could_register
  could_not = grind (arith, not_alive)

  its_register : is_register_settled s key ≡ true
  its_register = go (has_row s.registers key) refl
    where
      go : (b : Bool) → has_row s.registers key ≡ b → is_register_settled s key ≡ true
      go true there =
          with_its_row key s.registers there (λ r f.
          row_passes (λ e. is_register_settled s e.0) key r s.registers rests.quiet.registers_settled f)
      go false there = λ j. same_bool (could_not j) (there j)

  module _ (no_keep : keeps_alive (answers s g src) i ≡ false) where
    gone_by : gone ≡ from_joined s
    gone_by = gone_from ∙ (ap from_here (here s g src i none no_keep) ∙ ap from_joined (joined s g src i none no_keep))

    -- ---- SPTbit is set

    abbrev set : State
    set = with_spt_bit s g src

    abbrev set_row : SourceRow
    set_row = record { keepalive = option_and_then (λ (r : SourceRow). r.keepalive) (row_at s.sources key); spt = true }

    module _ (sets : sets_spt (answers s g src) i ≡ true) where
      reached : is_spt_reached s g src i ≡ true
      unfolding answers
      reached = sym (reached_on_link g src s i) ∙ first_so _ _ sets

      on_link : is_rpf_interface s src i ≡ true
      unfolding is_spt_reached
      on_link = first_so _ _ (first_so _ _ reached)

      desired : join_desired s g src ≡ true
      unfolding is_spt_reached
      desired = second_so (is_rpf_interface s src i) _ (first_so _ _ reached)

      set_on_link : is_rpf_interface set src i ≡ true
      unfolding with_spt_bit rpf_interface route
      set_on_link = on_link

      gone_set : gone ≡ set
      unfolding spt_updated list_chosen
      gone_set = grind (arith, gone_by, reached, set_on_link, now_set)

      set_registers : settle_registers set ≡ set
      unfolding with_spt_bit
      set_registers =
          registers_stay s set (could_as_before g src s) refl
          (list_of_each (λ e. is_register_settled s e.0) set.sources
          (each_put key set_row (λ e. is_register_settled s e.0 ≡ true) its_register s.sources
          (each_of_list (λ e. is_register_settled s e.0) s.sources rests.quiet.sources_settled)))
          rests.quiet.registers_settled

      set_asserts : AllByRecursion (λ (e : Key × AssertRow). (has_row s.asserts e.0 ≡ true)
          ⊎ (assert_must_go s set e ≡ false)) set.asserts
      unfolding with_spt_bit
      set_asserts = each_more (λ (e : Key × AssertRow). has_row s.asserts e.0 ≡ true) _ (λ e f. inl f) s.asserts asserts_in

      set_sources : AllByRecursion (λ (e : Key × SourceRow). (e.1).spt ≡ true
          → (spt_at s.sources e.0 ≡ true) ⊎ (spt_must_go set e ≡ false)) set.sources
      unfolding with_spt_bit
      set_sources = grind (arith, each_put, still_desired, desired, each_more, spts_in)

      set_changes : LeavesAll → ⊥
      unfolding spt_bit
      set_changes leaves =
          let ended : kept_of (clear_all s set).0 ≡ kept_of s =
          ap (λ (t : State). kept_of (clear_all s t).0) (sym (ap settle_registers gone_set ∙ set_registers)) ∙ leaves in
          let went : clear_all s set ≡ (set, []) =
          nothing_went s set s.asserts s.sources set_asserts set_sources (ap (λ (x : Kept). x.asserts) ended)
          (ap (λ (x : Kept). x.sources) ended) in
          let same : set.sources ≡ s.sources =
          ap (λ (u : State × List Message). (u.0).sources) (sym went) ∙ ap (λ (x : Kept). x.sources) ended in
          let both : true ≡ false =
          sym (now_set g src s) ∙ (ap (λ (u : Table SourceRow). spt_at u key) same ∙ no_spt_bit s g src i none) in
          cc

    module _ (unset : sets_spt (answers s g src) i ≡ false) where
      gone_chosen : gone ≡ (list_chosen s g src i).state
      gone_chosen = ap (λ (f : Forwarded). f.state) (forwarded_by s g src i none no_keep unset)

      off_tree : (t p : Bool) → p ≡ false → (t && p) ≡ false
      off_tree t p e = grind arith

      abbrev shared : Bool
      shared = is_rpf_interface_rp s g i && not (spt_bit s g src)

      off : (is_rpf_interface s src i && spt_bit s g src) ≡ false
      off = off_tree (is_rpf_interface s src i) (spt_bit s g src) (no_spt_bit s g src i none)

      -- ---- it is watched

      watched_changes : shared ≡ true → (has_local_receivers s g src && is_spt_wanted s) ≡ true → LeavesAll → ⊥
      unfolding list_chosen watched
      watched_changes on wanted = grind (arith, alive_at_end, gone_chosen, off, now_kept)

      -- ---- an assert

      abbrev star : Key
      star = star_key i g

      abbrev won : State
      won = (wins s star).0

      module _ (away : shared ≡ false) (contested : is_contested s g src i ≡ true) where
        by_star : (inherited_olist_rpt s g src i && could_assert_star s g i && not (has_row s.asserts star)) ≡ true
        unfolding is_contested
        by_star = grind (arith, no_spt_bit)

        listed : inherited_olist_rpt s g src i ≡ true
        listed = first_so _ _ (first_so _ _ by_star)

        could : could_assert_star s g i ≡ true
        could = second_so (inherited_olist_rpt s g src i) _ (first_so _ _ by_star)

        absent : has_row s.asserts star ≡ false
        absent = grind (arith, by_star)

        gone_won : gone ≡ won
        unfolding list_chosen stray data_seen
        gone_won = gone_chosen ∙ rw (off, away, no_spt_bit s g src i none, listed, could, absent) refl

        won_registers : settle_registers won ≡ won
        unfolding wins
        won_registers =
            registers_stay s won (Wins.could_as_before s star) refl rests.quiet.sources_settled rests.quiet.registers_settled

        may_stay : could_assert_at won star ≡ true
        may_stay = star_stays s g src i could

        won_asserts : AllByRecursion (λ (e : Key × AssertRow). (has_row s.asserts e.0 ≡ true)
            ⊎ (assert_must_go s won e ≡ false)) won.asserts
        unfolding wins assert_must_go
        won_asserts = grind (arith, each_put, winner, may_stay, each_more, asserts_in)

        won_sources : AllByRecursion (λ (e : Key × SourceRow). (e.1).spt ≡ true
            → (spt_at s.sources e.0 ≡ true) ⊎ (spt_must_go won e ≡ false)) won.sources
        unfolding wins
        won_sources = each_more _ _ (λ e f h. inl (f h)) s.sources spts_in

        won_there : has_row won.asserts star ≡ true
        unfolding wins
        won_there = grind (arith, has_row_put, winner, or_left, same_key_same)

        assert_changes : LeavesAll → ⊥
        assert_changes leaves =
            let ended : kept_of (clear_all s won).0 ≡ kept_of s =
            ap (λ (t : State). kept_of (clear_all s t).0) (sym (ap settle_registers gone_won ∙ won_registers)) ∙ leaves in
            let went : clear_all s won ≡ (won, []) =
            nothing_went s won s.asserts s.sources won_asserts won_sources (ap (λ (x : Kept). x.asserts) ended)
            (ap (λ (x : Kept). x.sources) ended) in
            let same : won.asserts ≡ s.asserts =
            ap (λ (u : State × List Message). (u.0).asserts) (sym went) ∙ ap (λ (x : Kept). x.asserts) ended in
            let both : true ≡ false =
            sym won_there ∙ (ap (λ (u : Table AssertRow). has_row u star) same ∙ absent) in
            cc

  -- ---- all of it

  abbrev row_is_alive : Bool
  row_is_alive = (offload (answers s g src)).alive i

  none_alive : (t h k w p q : Bool) → keeps_alive (answers s g src) i ≡ k → sets_spt (answers s g src) i ≡ q
      → is_rpf_interface_rp s g i ≡ h → spt_bit s g src ≡ p → (has_local_receivers s g src && is_spt_wanted s) ≡ w
      → LeavesAll → (k || (h && not p && w)) ≡ false
  none_alive t h k w p q ek eq eh ep ew leaves = grind (arith, alive_changes, set_changes, watched_changes)

  alive_none : LeavesAll → row_is_alive ≡ false
  unfolding offload answers
  alive_none leaves = grind (arith, none_alive)

  opens_keeps : (t c d m r : Bool) → (t && (c || d)) ≡ false → (t && c && m && r) ≡ false
  opens_keeps t c d m r e = grind arith

  none_to_core : (o b h p n c : Bool) → o ≡ false → sets_spt (answers s g src) i ≡ b → is_rpf_interface_rp s g i ≡ h
      → spt_bit s g src ≡ p → is_contested s g src i ≡ c → keeps_alive (answers s g src) i ≡ false → LeavesAll
      → (o || b || cond h (p && n) c) ≡ false
  none_to_core o b h p n c eo eb eh ep ec ek leaves = grind (arith, set_changes, no_spt_bit, assert_changes)

  -- without SPTbit the incoming interface is that of the shared tree
  on_shared_tree : (p : Bool) → p ≡ false → (a b : Option ℕ) → same_option (cond p a b) (Some i) ≡ same_option b (Some i)
  on_shared_tree p e a b = grind arith

  core_none : LeavesAll → (offload (answers s g src)).to_core i ≡ false
  unfolding offload answers
  core_none leaves = grind (arith, or_parts, alive_none, on_shared_tree, no_spt_bit, none_to_core, opens_keeps)

  pub isnt_the_cores : LeavesAll → is_to_core (handling_unknown (offload (answers s g src)) i) ≡ false
  unfolding handling_unknown
  isnt_the_cores leaves = grind (arith, alive_none, is_the_cores, core_none)

pub unknown_without_effect_is_for_plane : UnknownWithoutEffectIsForPlane
unfolding step taken_unless_full taken change done
unknown_without_effect_is_for_plane s e i p rests heard none room stays =
    grind (arith, full_or_taken, isnt_the_cores, end_keeps, kept_of)
