-- A plain event is one that the answers decide: each packet that they don't decide leaves something else behind.
use Rattle.std.{proofs.{Common.{◌≡◌, ◌⊎◌, inl, inr, ℕ, Bool, true, false, not, ◌&&◌, cond, List, [], Option, Some, option_and_then, refl, sym, ap, subst, ◌∙◌, arith}, lemmas.Bool.or_left}, specs.{Cmp.{first_so, second_so}, List.{AllByRecursion, list_all}, Option.option_map_or}}
use Rattle.pim_types.{specs.{declared.fact.{AssertRow.AssertRow, Key.Key, SourceRow.SourceRow}, Keys.{source_key, star_key}}, proofs.Keys.{equal_keys, same_key_same}}
use Rattle.pim_model.{specs.{Asserts.{assert_forgotten, could_assert_at, wins, with_spt_bit, without_spt_bit}, Cache.{answers, is_contested, opens_tunnel, sets_spt}, Clearing.{ClearAssert, ClearSptBit, Cleared, assert_must_go, clear_all, clearable_count, cleared, spt_must_go, to_clear}, Desires.join_desired, Forwarding.{Forwarded, forwarded, is_spt_reached, list_chosen, spt_updated, when}, Messages.Message, Registers.{could_register, settle_registers, with_keepalive}, Sets.spt_bit, State.State, Tables.{Table, has_row, put, row_at}, Unicast.{is_rpf_interface, is_rpf_interface_rp, route, rpf_interface}}}
use Rattle.law_settled.{proofs.{ListLaws.{each_more, each_of_list, list_of_each}, RowLaws.{each_put, has_row_put, row_put, row_put_away}, TurnLaws.kept_to_the_end}}
use Rattle.law_events.{specs.{Locality.is_register_settled, Rest.IsAtRest}, proofs.{SameMacros.rpf_at_same, FirstCleared.{Kept, kept_of, nothing_went, spt_at}, Forwards.{closed, keeps, on_neither, reaches_is, two_steps}, KeptAlive.{its_key, kept_row}, NothingFollows.{asserts_now, could_assert_now, could_at, its_register, registers_now, registers_stay, sources_pass}, Opened.opened, PlainSteps.{at, desired_at, opens, reached_at, sees_at, stray_key}, Puts.{found_where_sorted, rows_are_there}, SptSets.{could_as_before, now_set, still_desired}, Wins.{source_stays, star_stays, winner}}}
use Rattle.law_events.proofs.Wins

-- ---- clearing leaves registers alone

registers_cleared : (o s : State) → (clear_all o s).0.registers ≡ s.registers
unfolding clear_all cleared assert_forgotten without_spt_bit
registers_cleared o s =
    kept_to_the_end (to_clear o) cleared (λ t. t.registers ≡ s.registers) (λ t c f e. keeps t c f) (clearable_count s) s refl
  where
    keeps : (t : State) (c : Cleared) → t.registers ≡ s.registers → (cleared t c).0.registers ≡ s.registers
    keeps t (ClearAssert k r) f = f
    keeps t (ClearSptBit k) f = f

module _ (g src i : ℕ) (s : State) (rests : IsAtRest s) (there : has_row s.sources (its_key g src s) ≡ true)
    (fact : SourceRow) (known : row_at s.sources (source_key 0 g src) ≡ Some fact) (end : Option ℕ) where
  abbrev key : Key
  key = source_key 0 g src

  -- the sources at the end
  abbrev ended : SourceRow
  ended = record fact { keepalive = end }

  abbrev sources : Table SourceRow
  sources = put s.sources key ended

  -- what is left behind, where nothing but the expiry of the timer differs
  abbrev IsPlainEnd : State → Type 0
  IsPlainEnd t =
      kept_of (clear_all s (settle_registers t)).0
      ≡ record { asserts = s.asserts; sources = sources; registers = s.registers }

  spt_is : spt_bit s g src ≡ fact.spt
  unfolding spt_bit
  spt_is = ap (λ (o : Option SourceRow). option_map_or (λ (r : SourceRow). r.spt) o false) known

  -- SPTbits are as they were
  spt_as_was : (k : Key) → spt_at sources k ≡ spt_at s.sources k
  unfolding spt_bit
  spt_as_was k = grind (arith, spt_at, equal_keys, row_put, spt_is, row_put_away, same_key_same)

  set_in_both : AllByRecursion (λ (e : Key × SourceRow). (e.1).spt ≡ true → spt_at sources e.0 ≡ true) s.sources
  set_in_both = grind (arith, each_more, spt_as_was, found_where_sorted)

  asserts_in : AllByRecursion (λ (e : Key × AssertRow). has_row s.asserts e.0 ≡ true) s.asserts
  asserts_in = rows_are_there s.asserts rests.settled.ordered.asserts

  -- ---- the tunnel

  pub opens_no_tunnel : IsPlainEnd (forwarded s g src i).state → opens_tunnel (answers s g src) i ≡ false
  unfolding answers
  opens_no_tunnel ends = grind (arith, opened, registers_cleared)

  module _ (shut : opens_tunnel (answers s g src) i ≡ false) where
    abbrev its_keeps : Bool
    its_keeps = keeps g src i s rests there

    -- the state before SPTbit is set, or an assert is made
    abbrev before : State
    before = at g src s rests there its_keeps

    abbrev its_closed : (its_keeps && opens g src s rests there) ≡ false
    its_closed = closed g src i s rests there shut

    could_before : (h x : ℕ) → could_register s h x ≡ could_register before h x
    could_before h x = could_at g src s rests there its_keeps its_closed h x

    sources_settled : list_all (λ e. is_register_settled s e.0) before.sources ≡ true
    sources_settled =
        sources_pass g src s rests there its_keeps its_closed (λ e. is_register_settled s e.0)
        rests.quiet.sources_settled (its_register g src s rests there its_keeps its_closed) its_keeps

    -- what holds of each source, and of the new entry, holds of each that is there before
    each_before : (P : Key × SourceRow → Type 0) → AllByRecursion P s.sources → P (key, kept_row g src s) → (c : Bool)
        → AllByRecursion P (at g src s rests there c).sources
    unfolding with_keepalive
    each_before P each new c = grind (arith, each_put, kept_row)

    -- ---- SPTbit

    abbrev set : State
    set = with_spt_bit before g src

    abbrev set_row : SourceRow
    set_row = record { keepalive = option_and_then (λ (r : SourceRow). r.keepalive) (row_at before.sources key); spt = true }

    set_stays : settle_registers set ≡ set
    unfolding with_spt_bit
    set_stays =
        registers_stay s set (λ h x. could_before h x ∙ could_as_before g src before h x)
        (registers_now g src s rests there its_keeps its_closed its_keeps)
        (list_of_each (λ e. is_register_settled s e.0) set.sources
        (each_put key set_row _ (its_register g src s rests there its_keeps its_closed) before.sources
        (each_of_list (λ e. is_register_settled s e.0) before.sources sources_settled)))
        rests.quiet.registers_settled

    module _ (reached : is_spt_reached s g src i ≡ true) (clear : spt_bit s g src ≡ false) where
      on_link : is_rpf_interface s src i ≡ true
      unfolding is_spt_reached
      on_link = first_so _ _ (first_so _ _ reached)

      desired_there : join_desired s g src ≡ true
      unfolding is_spt_reached
      desired_there = second_so (is_rpf_interface s src i) _ (first_so _ _ reached)

      set_desired : join_desired set g src ≡ true
      set_desired = grind (arith, still_desired, desired_at, desired_there)

      set_on_link : is_rpf_interface set src i ≡ true
      unfolding with_spt_bit rpf_interface route
      set_on_link = sym (rpf_at_same g src s before (sees_at g src s rests there its_keeps g src) i) ∙ on_link

      sets : (forwarded s g src i).state ≡ set
      unfolding forwarded spt_updated list_chosen
      sets =
          ap (λ (t : State). (list_chosen (when (is_spt_reached t g src i) (λ u. with_spt_bit u g src) t) g src i).state)
          (two_steps g src i s rests there shut)
          ∙ ap (λ (b : Bool). (list_chosen (when b (λ u. with_spt_bit u g src) before) g src i).state)
          (sym (reached_at g src s rests there i its_keeps) ∙ reached)
          ∙ rw (set_on_link, now_set g src before) refl

      set_or_desired : AllByRecursion (λ (e : Key × SourceRow). (e.1).spt ≡ true
          → (spt_at sources e.0 ≡ true) ⊎ (spt_must_go set e ≡ false)) set.sources
      unfolding with_spt_bit
      set_or_desired =
          each_put key set_row _ (itself set_row) before.sources
          (each_before _ (each_more _ _ (λ e f h. inl (f h)) s.sources set_in_both) (itself (kept_row g src s)) its_keeps)
        where
          last : (b : Bool) → (b && not true) ≡ false
          last true = refl
          last false = refl

          itself : (r : SourceRow) → r.spt ≡ true → (spt_at sources key ≡ true) ⊎ (spt_must_go set (key, r) ≡ false)
          itself r h = inr (ap (λ d. r.spt && not d) set_desired ∙ last r.spt)

      set_asserts : s.asserts ≡ set.asserts
      unfolding with_spt_bit
      set_asserts = asserts_now g src s rests there its_keeps its_closed its_keeps

      asserts_stand : AllByRecursion (λ (e : Key × AssertRow). (has_row s.asserts e.0 ≡ true)
          ⊎ (assert_must_go s set e ≡ false)) set.asserts
      asserts_stand = grind (arith, set_asserts, each_more, asserts_in)

      sets_it : IsPlainEnd (forwarded s g src i).state → ⊥
      unfolding spt_bit
      sets_it ends =
          let ended : kept_of (clear_all s set).0
          ≡ record { asserts = s.asserts; sources = sources; registers = s.registers } =
          ap (λ (t : State). kept_of (clear_all s t).0) (sym (ap settle_registers sets ∙ set_stays)) ∙ ends in
          let went : clear_all s set ≡ (set, []) =
          nothing_went s set s.asserts sources asserts_stand set_or_desired (ap (λ (x : Kept). x.asserts) ended)
          (ap (λ (x : Kept). x.sources) ended) in
          let same : set.sources ≡ sources =
          ap (λ (u : State × List Message). (u.0).sources) (sym went) ∙ ap (λ (x : Kept). x.sources) ended in
          let both : true ≡ false =
          sym (now_set g src before) ∙ ap (λ (u : Table SourceRow). spt_at u key) same ∙ spt_as_was key ∙ clear in
          cc

    pub sets_no_spt : IsPlainEnd (forwarded s g src i).state → sets_spt (answers s g src) i ≡ false
    sets_no_spt ends = grind (arith, reaches_is, sets_it)

    -- ---- an assert

    module _ (unset : sets_spt (answers s g src) i ≡ false) (off : (is_rpf_interface s src i && spt_bit s g src) ≡ false)
        (stray : (is_rpf_interface_rp s g i && not (spt_bit s g src)) ≡ false)
        (contested : is_contested s g src i ≡ true) where
      abbrev its_assert : Key
      its_assert = stray_key g src s rests there i its_keeps

      abbrev won : State
      won = (wins before its_assert).0

      wins_it : (forwarded s g src i).state ≡ won
      wins_it = ap (λ (f : Forwarded). f.state) (on_neither g src i s rests there shut unset off stray) ∙ rw contested refl

      won_registers : settle_registers won ≡ won
      unfolding wins
      won_registers =
          registers_stay s won (λ h x. could_before h x ∙ Wins.could_as_before before its_assert h x)
          (registers_now g src s rests there its_keeps its_closed its_keeps) sources_settled rests.quiet.registers_settled

      -- the assert wasn't there before
      none_there : has_row s.asserts its_assert ≡ false
      unfolding is_contested
      none_there = grind arith

      could_win : could_assert_at s its_assert ≡ true
      unfolding is_contested
      could_win = grind arith

      may_stay : could_assert_at won its_assert ≡ true
      may_stay =
          go (spt_bit s g src)
          (sym (could_assert_now g src s rests there its_keeps its_closed its_assert) ∙ could_win)
        where
          go : (b : Bool) → could_assert_at before (cond b (source_key i g src) (star_key i g)) ≡ true
              → could_assert_at (wins before (cond b (source_key i g src) (star_key i g))).0
              (cond b (source_key i g src) (star_key i g)) ≡ true
          go true e = source_stays before g src i e
          go false e = star_stays before g src i e

      won_stand : AllByRecursion (λ (e : Key × AssertRow). (has_row s.asserts e.0 ≡ true)
          ⊎ (assert_must_go s won e ≡ false)) won.asserts
      unfolding wins assert_must_go
      won_stand =
          each_put its_assert (winner before its_assert) _ (inr (ap not may_stay)) before.asserts
          (subst (λ (u : Table AssertRow). AllByRecursion (λ (e : Key × AssertRow). (has_row s.asserts e.0 ≡ true)
          ⊎ (assert_must_go s won e ≡ false)) u) (asserts_now g src s rests there its_keeps its_closed its_keeps)
          (each_more (λ (e : Key × AssertRow). has_row s.asserts e.0 ≡ true) _ (λ e f. inl f) s.asserts asserts_in))

      won_sources : AllByRecursion (λ (e : Key × SourceRow). (e.1).spt ≡ true
          → (spt_at sources e.0 ≡ true) ⊎ (spt_must_go won e ≡ false)) won.sources
      unfolding wins spt_bit
      won_sources =
          each_before _ (each_more _ _ (λ e f h. inl (f h)) s.sources set_in_both) (λ h. inl (spt_as_was key ∙ h)) its_keeps

      won_there : has_row won.asserts its_assert ≡ true
      unfolding wins
      won_there = grind (arith, has_row_put, winner, or_left, same_key_same)

      makes_it : IsPlainEnd (forwarded s g src i).state → ⊥
      makes_it ends =
          let ended : kept_of (clear_all s won).0
          ≡ record { asserts = s.asserts; sources = sources; registers = s.registers } =
          ap (λ (t : State). kept_of (clear_all s t).0) (sym (ap settle_registers wins_it ∙ won_registers)) ∙ ends in
          let went : clear_all s won ≡ (won, []) =
          nothing_went s won s.asserts sources won_stand won_sources (ap (λ (x : Kept). x.asserts) ended)
          (ap (λ (x : Kept). x.sources) ended) in
          let same : won.asserts ≡ s.asserts =
          ap (λ (u : State × List Message). (u.0).asserts) (sym went) ∙ ap (λ (x : Kept). x.asserts) ended in
          let both : true ≡ false =
          sym won_there ∙ ap (λ (u : Table AssertRow). has_row u its_assert) same ∙ none_there in
          cc

    pub makes_no_assert : sets_spt (answers s g src) i ≡ false
        → (is_rpf_interface s src i && spt_bit s g src) ≡ false
        → (is_rpf_interface_rp s g i && not (spt_bit s g src)) ≡ false
        → IsPlainEnd (forwarded s g src i).state → is_contested s g src i ≡ false
    makes_no_assert unset off stray ends = grind (arith, makes_it)
