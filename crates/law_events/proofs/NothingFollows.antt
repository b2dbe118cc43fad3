-- Of the keepalive timer of a source with a fact nothing follows: no register changes, nothing must go, nothing is sent
-- upstream.
use Rattle.std.{proofs.{Common.{◌≡◌, ℕ, Bool, true, false, not, ◌&&◌, ◌||◌, ◌++◌, cond, List, [], ◌∷◌, fold, Some, None, option_map, refl, ap, subst, ◌∙◌, arith}, lemmas.List.Folds.list_all-append}, specs.{Cmp.{first_so, second_so}, List.{filter, find, list_all}, Option.option_or}}
use Rattle.pim_ip.{specs.Addr.addr}
use Rattle.pim_types.{specs.{declared.{fact.{AssertRow.AssertRow, Key.Key, RegisterRow.RegisterRow, RegisterState.RegisterState, SourceRow.SourceRow}, path.Path.Path, upstream.SourceView.SourceView}, Keys.{group_in, iface_in, rpt_key, same_key, source_in, source_key}}, proofs.Keys.equal_keys}
use Rattle.pim_model.{specs.{Asserts.{could_assert_at, is_tracking_at, my_metric_at}, Clearing.{assert_must_go, assert_to_clear, clear, clear_all, first_by, is_rpf_at, spt_must_go, spt_to_clear, to_clear}, Desires.join_desired, Firing.settled, Messages.Message, Querier.each_in_turn, Registers.{could_register, settle_registers, settled_register, with_keepalive}, Sets.{is_better, is_winner, spt_bit}, State.State, Tables.{Table, drop_at, has_row, keys_in, put, same_bool}, Upstream.{group_upstream, rpt_told, source_told, source_upstream, source_view, star_view, upstream, with_join_timer, with_override_timer}, Writing.{all_written, write_all}}}
use Rattle.law_settled.{proofs.{ListLaws.{all_more, each_of_list, list_of_each}, RowLaws.each_put, TurnLaws.same_when_none}}
use Rattle.law_events.{specs.{Locality.is_register_settled, Rest.IsAtRest, Sees.SeesSource}, proofs.{Registers.{all_keys, nothing_dropped}, SameMacros.{could_assert_same, could_assert_star_same, could_register_same, is_tracking_same, is_tracking_star_same, join_desired_star_same, my_metric_same, my_metric_star_same, rpf_at_same, rpf_rp_at_same, rpf_rpt_same, rpf_source_same, rpf_star_same, tree_state_same}, UntoldKeys.{no_source_upstream, nothing_of_star}, KeptAlive.{its_key, kept, kept_as_it_was, kept_row, register_is_settled, row_passes, with_its_row}, PlainSteps.{at, desired_at, may_kept, opens, sees_at, was_could}}}

-- ---- lists

pub none_left : {X : Type 0} (p : X → Bool) (xs : List X) → list_all (λ x. not (p x)) xs ≡ true → filter p xs ≡ []
none_left p [] e = refl
none_left p (x ∷ xs) e =
    go (p x) (first_so (not (p x)) (list_all (λ y. not (p y)) xs) e)
    (none_left p xs (second_so (not (p x)) (list_all (λ y. not (p y)) xs) e))
  where
    go : (b : Bool) → not b ≡ true → filter p xs ≡ [] → cond b (x ∷ filter p xs) (filter p xs) ≡ []
    go true f ih = cc
    go false f ih = ih

pub none_there : {X : Type 0} (p : X → Bool) (xs : List X) → list_all (λ x. not (p x)) xs ≡ true → find p xs ≡ None
none_there p [] e = refl
none_there p (x ∷ xs) e =
    go (p x) (first_so (not (p x)) (list_all (λ y. not (p y)) xs) e)
    (none_there p xs (second_so (not (p x)) (list_all (λ y. not (p y)) xs) e))
  where
    go : (b : Bool) → not b ≡ true → find p xs ≡ None → cond b (Some x) (find p xs) ≡ None
    go true f ih = cc
    go false f ih = ih

-- turns that do nothing
pub idle_turns : {S A M : Type 0} (change : S → A → S × List M) (s : S)
    → ((x : A) → change s x ≡ (let p : S × List M = (s, []) in p)) → (xs : List A)
    → each_in_turn change s xs ≡ (let p : S × List M = (s, []) in p)
unfolding each_in_turn
idle_turns change s idle [] = refl
idle_turns {S} {A} {M} change s idle (x ∷ xs) =
    ap (λ (first : S × List M).
    let p : S × List M = ((each_in_turn change first.0 xs).0, first.1 ++ (each_in_turn change first.0 xs).1) in p) (idle x)
    ∙ idle_turns change s idle xs

-- registers that are settled
module _ (s : State) where
  settled_step : (k : Key) (t : Table RegisterRow) (c r : Bool) (row : RegisterRow) → has_row t k ≡ r
      → same_bool c r ≡ true → cond c (cond r t (put t k row)) (drop_at t k) ≡ t
  settled_step k t c r row e f = grind (arith, nothing_dropped)

  settled_stays : (ks : List Key) → list_all (is_register_settled s) ks ≡ true
      → fold (λ t k. settled_register s k t) s.registers ks ≡ s.registers
  unfolding settled_register
  settled_stays [] e = refl
  settled_stays (k ∷ ks) e =
      ap (λ (t : Table RegisterRow). fold (λ t k. settled_register s k t) t ks)
      (settled_step k s.registers (could_register s (group_in k) (source_in k)) (has_row s.registers k)
      (record { state = RegisterState.Join }) refl (first_so (is_register_settled s k) (list_all (is_register_settled s) ks) e))
      ∙ settled_stays ks (second_so (is_register_settled s k) (list_all (is_register_settled s) ks) e)

-- where what could be registered is as it was, and so are the registers, they stay
module _ (s t : State) (could : (h x : ℕ) → could_register s h x ≡ could_register t h x) (same : s.registers ≡ t.registers)
  where
    settled_now : (k : Key) → is_register_settled s k ≡ is_register_settled t k
    settled_now k = λ j. same_bool (could (group_in k) (source_in k) j) (has_row (same j) k)

    abbrev settled_in : {R : Type 0} → Table R → Bool
    settled_in u = list_all (λ e. is_register_settled s e.0) u

    all_now : {R : Type 0} (u : Table R) → settled_in u ≡ true → list_all (is_register_settled t) (keys_in u) ≡ true
    all_now u e = grind (arith, all_keys, all_more, settled_now)

    pub registers_stay : settled_in t.sources ≡ true → settled_in s.registers ≡ true → settle_registers t ≡ t
    unfolding settle_registers
    registers_stay sources registers = grind (arith, settled_stays, list_all-append, all_now)

module _ (g src : ℕ) (s : State) (rests : IsAtRest s) (there : has_row s.sources (its_key g src s) ≡ true) where
  module _ (b : Bool) (closed : (b && opens g src s rests there) ≡ false) where
    abbrev now : State
    now = at g src s rests there b

    sees : (h x : ℕ) → SeesSource h x s now
    sees h x = sees_at g src s rests there b h x

    desired : (h x : ℕ) → join_desired s h x ≡ join_desired now h x
    desired h x = desired_at g src s rests there b h x

    -- ---- registers

    could_now : (b : Bool) → (b && opens g src s rests there) ≡ false
        → could_register s g src ≡ could_register (at g src s rests there b) g src
    could_now b e = grind (arith, register_is_settled, was_could, may_kept)

    could_other : (c : Bool) (h x : ℕ) → same_key (source_key 0 g src) (source_key 0 h x) ≡ false
        → could_register s h x ≡ could_register (at g src s rests there c) h x
    could_other c h x e = grind (arith, could_register_same, kept, sees_at, kept_as_it_was)

    pub could_at : (h x : ℕ) → could_register s h x ≡ could_register now h x
    could_at h x = go (same_key (source_key 0 g src) (source_key 0 h x)) refl
      where
        go : (c : Bool) → same_key (source_key 0 g src) (source_key 0 h x) ≡ c
            → could_register s h x ≡ could_register now h x
        go true e =
            let same : source_key 0 g src ≡ source_key 0 h x = equal_keys (source_key 0 g src) (source_key 0 h x) e in
            subst (λ (k : Key). could_register s (group_in k) (source_in k) ≡ could_register now (group_in k) (source_in k))
            same (could_now b closed)
        go false e = could_other b h x e

    pub registers_now : (c : Bool) → s.registers ≡ (at g src s rests there c).registers
    unfolding with_keepalive
    registers_now c = grind arith

    -- what holds of the entries and of the new one holds of those that are now
    pub sources_pass : (p : Key × SourceRow → Bool) → list_all p s.sources ≡ true
        → p (source_key 0 g src, kept_row g src s) ≡ true → (c : Bool)
        → list_all p (at g src s rests there c).sources ≡ true
    unfolding with_keepalive
    sources_pass p all new c = grind (arith, list_of_each, kept_row, each_put, each_of_list)

    pub its_register : is_register_settled s (source_key 0 g src) ≡ true
    its_register =
        with_its_row (source_key 0 g src) s.sources there (λ r f.
        row_passes (λ e. is_register_settled s e.0) (source_key 0 g src) r s.sources rests.quiet.sources_settled f)

    pub no_register_changes : settle_registers now ≡ now
    no_register_changes =
        registers_stay s now could_at (registers_now b)
        (sources_pass (λ e. is_register_settled s e.0) rests.quiet.sources_settled its_register b)
        rests.quiet.registers_settled

    -- ---- what must go

    pub could_assert_now : (k : Key) → could_assert_at s k ≡ could_assert_at now k
    could_assert_now k = grind (arith, could_assert_star_same, sees, could_assert_same)

    tracking_now : (k : Key) → is_tracking_at s k ≡ is_tracking_at now k
    tracking_now k = grind (arith, is_tracking_star_same, sees, is_tracking_same, desired)

    metric_now : (k : Key) → my_metric_at s k ≡ my_metric_at now k
    metric_now k = grind (arith, my_metric_star_same, sees, my_metric_same)

    rpf_now : (k : Key) → is_rpf_at s k ≡ is_rpf_at now k
    rpf_now k = grind (arith, rpf_rp_at_same, sees, rpf_at_same)

    pub must_go_now : (e : Key × AssertRow) → assert_must_go s s e ≡ assert_must_go s now e
    unfolding assert_must_go
    must_go_now e = λ j.
        cond (is_winner (Some e.1)) (not (could_assert_now e.0 j))
        (not (((sees 0 0).star).neighbour j (iface_in e.0) (e.1).winner.address.bits)
        || not (tracking_now e.0 j)
        || is_better (metric_now e.0 j) (e.1).winner
        || (is_rpf_at s e.0 && not (rpf_now e.0 j)))

    pub asserts_now : (c : Bool) → s.asserts ≡ (at g src s rests there c).asserts
    unfolding with_keepalive
    asserts_now c = grind arith

    no_assert_goes : assert_to_clear s now ≡ None
    unfolding assert_to_clear first_by
    no_assert_goes = grind (arith, none_left, all_more, must_go_now, asserts_now)

    its_spt : not (spt_must_go s (source_key 0 g src, kept_row g src s)) ≡ true
    unfolding spt_bit
    its_spt = grind (arith, with_its_row, row_passes)

    no_spt_goes : spt_to_clear now ≡ None
    unfolding spt_to_clear
    no_spt_goes = grind (arith, none_there, all_more, desired, sources_pass, its_spt)

    nothing_goes : to_clear s now ≡ None
    unfolding to_clear
    nothing_goes = λ j. option_or (no_assert_goes j) (no_spt_goes j)

    pub no_clearing : clear s now ≡ (now, [])
    unfolding clear clear_all
    no_clearing = grind (arith, no_register_changes, same_when_none, nothing_goes)

    -- ---- what is sent upstream

    star_as_before : (h : ℕ) → star_view s h ≡ star_view now h
    unfolding star_view
    star_as_before h = λ j. record {
      is_desired = join_desired_star_same h s now (sees h 0).star j;
      rp = option_map addr ((sees h 0).star.rp j);
      iface = option_map (λ (p : Path). p.iface) ((sees h 0).star.rp_path j);
      next_hop = (sees h 0).star.rp_nbr j;
      upstream = rpf_star_same h s now (sees h 0).star j;
    }

    source_as_before : (h x : ℕ) → source_view s h x ≡ source_view now h x
    unfolding source_view
    source_as_before h x = grind (arith, desired, sees, rpf_source_same, rpf_star_same, rpf_rpt_same, tree_state_same)

    module _ (w : ℕ) where
      abbrev told_from : ℕ → ℕ → SourceView → State × List Message
      told_from h x old = (
        with_override_timer (with_join_timer now (source_key 0 h x) (source_told now w h x old (source_view now h x)).timer)
            (rpt_key 0 h x) (rpt_told now w h x old (source_view now h x)).timer,
        (source_told now w h x old (source_view now h x)).messages ++ (rpt_told now w h x old (source_view now h x)).messages,
      )

      idle_source : (h x : ℕ) → source_upstream s now w h now x ≡ (now, [])
      unfolding source_upstream
      idle_source h x = ap (told_from h x) (source_as_before h x) ∙ no_source_upstream h now now w x refl now

      idle_group : (keys : List Key) (h : ℕ) → group_upstream s now w keys now h ≡ (now, [])
      unfolding group_upstream with_join_timer
      idle_group keys h = grind (arith, star_as_before, nothing_of_star, idle_turns, idle_source)

      nothing_told_upstream : upstream s now w ≡ (now, [])
      unfolding upstream
      nothing_told_upstream = grind (arith, idle_turns, idle_group)

      pub nothing_follows : settled s (now, []) w ≡ (now, [])
      unfolding settled write_all all_written each_in_turn
      nothing_follows = grind (arith, no_clearing, nothing_told_upstream)
