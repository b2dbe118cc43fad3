-- A packet step by step: each state on the way is the opening, with the keepalive timer set or not, until the register
-- tunnel opens, SPTbit is set or an assert is made.
use Rattle.std.{proofs.Common.{◌≡◌, ℕ, Bool, true, false, not, ◌&&◌, ◌||◌, cond, List, [], refl, sym, ap, ◌∙◌, arith}, specs.Option.option_map_or}
use Rattle.pim_types.{specs.{declared.fact.{Key.Key, RegisterRow.RegisterRow}, Keys.{source_key, star_key}}}
use Rattle.pim_model.{specs.{AssertMacros.{could_assert, could_assert_star}, Asserts.{data_seen, wins, with_spt_bit}, Cache.{is_contested, may_register}, Desires.{is_inherited_empty, join_desired}, Forwarding.{Forwarded, has_local_receivers, is_spt_reached, list_chosen, no_interface, source_here, source_joined, spt_updated, stray, watched, when}, Messages.Message, Neighbours.is_dr, Registers.{could_register, has_other_rp, is_spt_wanted, settle_register, settled_register, with_keepalive}, Sets.{Set, inherited_olist, inherited_olist_rpt, spt_bit, tunnel}, State.State, Tables.{drop_at, has_row, put}, Unicast.{is_connected, is_rpf_interface, is_rpf_interface_rp, route, rp_of, rpf_interface}}}
use Rattle.law_events.{specs.{Rest.IsAtRest, Sees.SeesSource}, proofs.{Registers.nothing_dropped, SameMacros.{could_assert_same, could_assert_star_same, inherited_olist_rpt_same, inherited_olist_same, is_inherited_empty_same, rpf_at_same, rpf_rp_at_same}, SameSights.source_at, KeptAlive.{desired_kept, found, its_key, kept, kept_row, now_kept, register_is_settled, sees_kept}, Puts.{put_same, put_twice}, SameAnswers.{reached_same, watches_same}}}

-- on the source's link it is one of the answers
pub reached_on_link : (g src : ℕ) (s : State) (i : ℕ)
    → (is_rpf_interface s src i && option_map_or (is_spt_reached s g src) (rpf_interface s src) false) ≡ is_spt_reached s g src i
unfolding is_spt_reached
reached_on_link g src s i = grind arith

module _ (g src : ℕ) (s : State) (rests : IsAtRest s) (there : has_row s.sources (its_key g src s) ≡ true) where
  abbrev pub key : Key
  key = source_key 0 g src

  -- the opening, with the timer set or not
  abbrev pub at : Bool → State
  at b = cond b (kept g src s) s

  pub sees_at : (b : Bool) (h x : ℕ) → SeesSource h x s (at b)
  sees_at true h x = sees_kept g src s h x
  sees_at false h x = source_at s s.present s.sources h x refl

  pub desired_at : (b : Bool) (h x : ℕ) → join_desired s h x ≡ join_desired (at b) h x
  desired_at b h x = grind (arith, desired_kept)

  spt_kept : spt_bit (kept g src s) g src ≡ spt_bit s g src
  spt_kept = sym ((sees_kept g src s g src).spt)

  kept_again : with_keepalive (kept g src s) g src ≡ kept g src s
  unfolding with_keepalive
  kept_again = grind (arith, kept_row, spt_kept, put_twice)

  pub when_at : (b c : Bool) → when c (λ t. with_keepalive t g src) (at b) ≡ at (b || c)
  when_at b c = grind (arith, kept_again)

  -- ---- the first step

  pub may_kept : could_register (kept g src s) g src ≡ may_register s g src
  unfolding could_register may_register with_keepalive route rp_of has_other_rp is_dr
  may_kept = grind (arith, kept, now_kept)

  pub was_could : could_register s g src ≡ true → may_register s g src ≡ true
  unfolding could_register may_register
  was_could = grind arith

  abbrev pub opens : Bool
  opens = may_register s g src && not (has_row s.registers key)

  same_registers : (m r : Bool) → may_register s g src ≡ m → has_row s.registers key ≡ r → (m && not r) ≡ false
      → (row : RegisterRow)
      → cond m (cond r s.registers (put s.registers key row)) (drop_at s.registers key) ≡ s.registers
  same_registers m r e f h row = grind (arith, was_could, register_is_settled, nothing_dropped)

  pub register_stays : opens ≡ false → settle_register (kept g src s) key ≡ kept g src s
  unfolding settle_register settled_register with_keepalive
  register_stays h = grind (arith, kept, may_kept, same_registers)

  pub here_at : (i : ℕ) (b : Bool) → (is_connected s src && is_rpf_interface s src i) ≡ b → (b && opens) ≡ false
      → source_here s g src i ≡ at b
  unfolding source_here
  here_at i b e h = grind (arith, register_stays)

  -- ---- the second step

  abbrev pub joins_here : ℕ → Bool
  joins_here i = is_rpf_interface s src i && join_desired s g src && not (is_inherited_empty s g src)

  joins_at : (i : ℕ) (b : Bool)
      → joins_here i
      ≡ (is_rpf_interface (at b) src i && join_desired (at b) g src && not (is_inherited_empty (at b) g src))
  joins_at i b = grind (arith, rpf_at_same, sees_at, desired_at, is_inherited_empty_same)

  pub joined_at : (i : ℕ) (b : Bool) → source_joined (at b) g src i ≡ at (b || joins_here i)
  unfolding source_joined
  joined_at i b = grind (arith, joins_at, when_at)

  pub first_two : (i : ℕ) (b : Bool) → (is_connected s src && is_rpf_interface s src i) ≡ b → (b && opens) ≡ false
      → source_joined (source_here s g src i) g src i ≡ at (b || joins_here i)
  first_two i b e h = ap (λ t. source_joined t g src i) (here_at i b e h) ∙ joined_at i b

  -- ---- the third step

  spt_there : spt_bit s g src ≡ true → with_spt_bit s g src ≡ s
  unfolding with_spt_bit spt_bit
  spt_there = grind (arith, put_same)

  spt_there_kept : spt_bit s g src ≡ true → with_spt_bit (kept g src s) g src ≡ kept g src s
  unfolding with_spt_bit with_keepalive
  spt_there_kept e = grind (arith, kept_row, found, put_twice)

  spt_stays : (b : Bool) → spt_bit s g src ≡ true → with_spt_bit (at b) g src ≡ at b
  spt_stays b e = grind (arith, spt_there_kept, spt_there)

  module _ (i : ℕ) (b : Bool) where
    abbrev now : State
    now = at b

    abbrev sees : SeesSource g src s now
    sees = sees_at b g src

    pub reached_at : is_spt_reached s g src i ≡ is_spt_reached now g src i
    reached_at = λ j. reached_same g src s now sees (desired_at b g src) j i

    pub updated_at : (is_spt_reached s g src i && not (spt_bit s g src)) ≡ false → spt_updated now g src i ≡ now
    unfolding spt_updated
    updated_at h = grind (arith, reached_at, spt_stays)

    -- ---- the list

    abbrev pub watches : Bool
    watches = has_local_receivers s g src && is_spt_wanted s

    watched_at : watched now g src ≡ at (b || watches)
    unfolding watched
    watched_at = grind (arith, watches_same, when_at)

    abbrev pub Listed : Bool → Bool → Forwarded
    Listed tree shared =
        cond tree (record { state = now; messages = []; list = inherited_olist s g src; to_tunnel = tunnel s g src })
        (cond shared
        (record { state = at (b || watches); messages = []; list = inherited_olist_rpt s g src; to_tunnel = false })
        (stray now g src i))

    pub listed_at : list_chosen now g src i
        ≡ Listed (is_rpf_interface s src i && spt_bit s g src) (is_rpf_interface_rp s g i && not (spt_bit s g src))
    unfolding list_chosen
    listed_at = λ j.
        cond (sym (rpf_at_same g src s now sees i) j && sym sees.spt j)
        (record {
          state = now;
          messages = [];
          list = sym (inherited_olist_same g src s now sees) j;
          to_tunnel = sym sees.to_rp j;
        })
        (cond (sym (rpf_rp_at_same g s now sees.star i) j && not (sym sees.spt j))
        (record {
          state = watched_at j;
          messages = [];
          list = sym (inherited_olist_rpt_same g src s now sees) j;
          to_tunnel = false;
        })
        (stray now g src i))

    -- ---- a stray packet

    pub same_asserts : (k : Key) → has_row s.asserts k ≡ has_row now.asserts k
    unfolding with_keepalive
    same_asserts k = go b
      where
        go : (c : Bool) → has_row s.asserts k ≡ has_row (at c).asserts k
        go true = refl
        go false = refl

    -- the assert that it may make
    abbrev pub stray_key : Key
    stray_key = cond (spt_bit s g src) (source_key i g src) (star_key i g)

    abbrev as_forwarded : State × List Message → Forwarded
    as_forwarded u = record { state = u.0; messages = u.1; list = no_interface; to_tunnel = false }

    pub stray_at : stray now g src i
        ≡ as_forwarded (cond (is_contested s g src i) (wins now stray_key) (now, []))
    unfolding stray is_contested data_seen
    stray_at =
        (λ j. shape (sym sees.spt j) (sym (inherited_olist_same g src s now sees) j)
        (sym (inherited_olist_rpt_same g src s now sees) j))
        ∙ ap as_forwarded (go (spt_bit s g src))
      where
        seen : Bool → State × List Message
        seen spt = data_seen now (cond spt (source_key i g src) (star_key i g))

        shape : Bool → Set → Set → Forwarded
        shape spt tree shared = as_forwarded (cond (cond spt tree shared i) (seen spt) (now, []))

        both : (c d h : Bool) (u : State × List Message)
            → cond c (cond (d && h) u (now, [])) (now, []) ≡ cond (c && d && h) u (now, [])
        both true d h u = refl
        both false d h u = refl

        go : (spt : Bool) → cond (cond spt (inherited_olist s g src) (inherited_olist_rpt s g src) i) (seen spt) (now, [])
            ≡ cond (cond spt
            (inherited_olist s g src i && could_assert s g src i && not (has_row s.asserts (source_key i g src)))
            (inherited_olist_rpt s g src i && could_assert_star s g i && not (has_row s.asserts (star_key i g))))
            (wins now (cond spt (source_key i g src) (star_key i g))) (now, [])
        go true =
            (λ j. cond (inherited_olist s g src i) (cond (sym (could_assert_same g src s now sees i) j
            && not (sym (same_asserts (source_key i g src)) j)) (wins now (source_key i g src)) (now, [])) (now, []))
            ∙ both (inherited_olist s g src i) (could_assert s g src i) (not (has_row s.asserts (source_key i g src))) _
        go false =
            (λ j. cond (inherited_olist_rpt s g src i) (cond (sym (could_assert_star_same g s now sees.star i) j
            && not (sym (same_asserts (star_key i g)) j)) (wins now (star_key i g)) (now, [])) (now, []))
            ∙ both (inherited_olist_rpt s g src i) (could_assert_star s g i) (not (has_row s.asserts (star_key i g))) _
