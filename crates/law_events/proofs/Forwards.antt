-- How a packet is forwarded that neither opens the register tunnel nor sets SPTbit: on its tree, on the shared tree, or
-- on neither.
use Rattle.std.{proofs.Common.{◌≡◌, ℕ, Bool, true, false, not, ◌&&◌, ◌||◌, cond, List, [], is_some, refl, sym, ap, ◌∙◌, arith}, specs.Option.option_map_or}
use Rattle.pim_types.{specs.{declared.fact.SourceRow.SourceRow, Keys.source_key}}
use Rattle.pim_model.{specs.{Asserts.wins, Cache.{Answers, answers, away_from, is_contested, may_register, opens_tunnel, sets_spt}, Desires.{is_inherited_empty, join_desired}, Forwarding.{Forwarded, forwarded, has_local_receivers, is_spt_reached, list_chosen, no_interface, source_here, source_joined, spt_updated}, Messages.Message, Registers.{could_register, is_spt_wanted}, Sets.{Set, inherited_olist, inherited_olist_rpt, is_kept_alive, spt_bit, tunnel}, State.State, Tables.has_row, Unicast.{is_connected, is_rpf_interface, is_rpf_interface_rp}}}
use Rattle.law_events.{specs.Rest.IsAtRest, proofs.{KeptAlive.{its_key, register_is_settled, row_passes, with_its_row}, PlainSteps.{at, first_two, listed_at, opens, reached_on_link, stray_at, stray_key, updated_at}}}

module _ (s : State) (g src : ℕ) where
  -- who may register is the source's DR
  may_is_connected : may_register s g src ≡ true → is_connected s src ≡ true
  unfolding may_register is_connected
  may_is_connected e = grind arith

module _ (g src i : ℕ) (s : State) (rests : IsAtRest s) (there : has_row s.sources (its_key g src s) ≡ true) where
  abbrev asked : Answers
  asked = answers s g src

  abbrev state_at : Bool → State
  state_at b = at g src s rests there b

  abbrev on_tree : Bool
  on_tree = is_rpf_interface s src i

  abbrev pub keeps : Bool
  keeps = on_tree && (is_connected s src || (join_desired s g src && not (is_inherited_empty s g src)))

  abbrev pub watches : Bool
  watches = has_local_receivers s g src && is_spt_wanted s

  -- ---- while the tunnel doesn't open

  module _ (shut : opens_tunnel asked i ≡ false) where
    -- who is kept alive here has its register settled
    pub closed : (keeps && opens g src s rests there) ≡ false
    unfolding answers
    closed = grind (arith, may_is_connected)

    pub two_steps : source_joined (source_here s g src i) g src i ≡ state_at keeps
    unfolding answers
    two_steps =
        first_two g src s rests there i (is_connected s src && on_tree) refl
        (turned on_tree (is_connected s src) (may_register s g src) (has_row s.registers (source_key 0 g src)) shut)
        ∙ ap state_at (here_is on_tree (is_connected s src) (join_desired s g src) (not (is_inherited_empty s g src)))
      where
        turned : (t c m r : Bool) → ((t && c && m) && not r) ≡ false → ((c && t) && (m && not r)) ≡ false
        turned true true m r e = e
        turned true false m r e = refl
        turned false true m r e = refl
        turned false false m r e = refl

        here_is : (t c d f : Bool) → ((c && t) || (t && d && f)) ≡ (t && (c || (d && f)))
        here_is true true d f = refl
        here_is true false d f = refl
        here_is false true d f = refl
        here_is false false d f = refl

  -- where it sets SPTbit
  pub reaches_is : sets_spt asked i ≡ (is_spt_reached s g src i && not (spt_bit s g src))
  unfolding answers
  reaches_is = ap (λ c. c && not (spt_bit s g src)) (reached_on_link g src s i)

  -- ---- while the tunnel doesn't open, nor the bit is set

  module _ (shut : opens_tunnel asked i ≡ false) (unset : sets_spt asked i ≡ false) where
    three_steps : spt_updated (source_joined (source_here s g src i) g src i) g src i ≡ state_at keeps
    three_steps = grind (arith, two_steps, updated_at, reaches_is)

    abbrev pub made : State × List Message → Set → Bool → Forwarded
    made after list to_tunnel =
        record { state = after.0; messages = after.1; list = away_from i list; to_tunnel = to_tunnel }

    away : Forwarded → Forwarded
    away f = record f { list = away_from i f.list }

    forwarded_by : forwarded s g src i ≡ away (list_chosen (state_at keeps) g src i)
    unfolding forwarded away
    forwarded_by = ap (λ t. away (list_chosen t g src i)) three_steps

    pub on_its_tree : (on_tree && spt_bit s g src) ≡ true
        → forwarded s g src i ≡ made (state_at keeps, []) (inherited_olist s g src) (tunnel s g src)
    unfolding away
    on_its_tree e = forwarded_by ∙ ap away (listed_at g src s rests there i keeps ∙ rw e refl)

    module _ (off : (on_tree && spt_bit s g src) ≡ false) where
      pub on_shared_tree : (is_rpf_interface_rp s g i && not (spt_bit s g src)) ≡ true
          → forwarded s g src i ≡ made (state_at (keeps || watches), []) (inherited_olist_rpt s g src) false
      unfolding away
      on_shared_tree e = forwarded_by ∙ ap away (listed_at g src s rests there i keeps ∙ rw (off, e) refl)

      pub on_neither : (is_rpf_interface_rp s g i && not (spt_bit s g src)) ≡ false
          → forwarded s g src i
          ≡ made (cond (is_contested s g src i) (wins (state_at keeps) (stray_key g src s rests there i keeps))
          (state_at keeps, [])) no_interface false
      unfolding away
      on_neither e = grind (arith, stray_key, listed_at, stray_at, forwarded_by, away)

    -- without SPTbit the timer runs
    runs : spt_bit s g src ≡ false → is_kept_alive s g src ≡ true
    unfolding spt_bit is_kept_alive
    runs e =
        with_its_row (source_key 0 g src) s.sources there (λ r f.
        let tidy : (is_some r.keepalive || r.spt) ≡ true =
        row_passes (λ e. is_some (e.1).keepalive || (e.1).spt) (source_key 0 g src) r s.sources rests.settled.tidy.sources f in
        let clear : r.spt ≡ false = sym (ap (λ o. option_map_or (λ (r : SourceRow). r.spt) o false) f) ∙ e in
        ap (λ o. option_map_or (λ (r : SourceRow). is_some r.keepalive) o false) f ∙ go (is_some r.keepalive) r.spt tidy clear)
      where
        go : (a b : Bool) → (a || b) ≡ true → b ≡ false → a ≡ true
        go true b e f = refl
        go false b e f = cc

    -- where the keepalive timer runs the register is settled anyway
    pub settled_anyway : spt_bit s g src ≡ false → opens g src s rests there ≡ false
    unfolding could_register may_register
    settled_anyway e = grind (arith, runs, register_is_settled)
