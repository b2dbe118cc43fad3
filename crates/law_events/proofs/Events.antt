-- An Assert and the expiry of a timer touch their keys.
use Rattle.std.{proofs.{Common.{◌≡◌, ℕ, Bool, false, cond, List, [], ◌∷◌, Option, refl, arith, rules}, lemmas.Bool.{or_left, or_right}}, specs.Option.option_map_or}
use Rattle.law_settled.{proofs.{ListLaws.by_cond, RowChanges.{changed_elsewhere, dropped_elsewhere, put_elsewhere}}}
use Rattle.pim_types.{specs.{declared.{fact.{AssertMetric.AssertMetric, AssertRow.AssertRow, Key.Key, RegisterState.RegisterState}, timer.TimerKind.TimerKind}, Keys.{group_in, source_in, source_key}}}
use Rattle.pim_wire.{specs.declared.assert.Assert.Assert as AssertMessage}
use Rattle.pim_model.{specs.{Asserts.{assert_as_loser, assert_as_winner, assert_at, assert_due, assert_forgotten, assert_in_no_info, assert_received, loses, loses_first, wins, wins_again, with_spt_bit}, Downstream.{downstream_expired, prune_pending_due}, Firing.{fire_row, fired, keepalive_due}, Messages.Message, Registers.register_due, State.State, Tables.row_at, Upstream.{join_timer_due, override_timer_due}, Full.asserted_keys}}
use Rattle.law_events.{specs.{Locality.{AgreesBut, touching}, Scopes.{reads, scope}}, proofs.{Asserts.reads_itself, Touches.{agrees_same, agrees_then, touches_itself, unread_of, widened, asserts_agree, downstream_agrees, registers_agree, sources_agree}}}

module _ (touches : Key → Bool) (s : State) where
  pub agrees_if : (b : Bool) (t u : State × List Message) → AgreesBut touches s t.0 → AgreesBut touches s u.0
      → AgreesBut touches s (cond b t u).0
  agrees_if b t u f g = by_cond (λ (p : State × List Message). AgreesBut touches s p.0) b t u f g

-- ---- the assert machine of a key

module _ (k : Key) where
  abbrev Only : State → State → Type 0
  Only s t = AgreesBut (touching (k ∷ [])) s t

  elsewhere : (q : Key) → touching (k ∷ []) q ≡ false → reads q k ≡ false
  elsewhere q e = unread_of (k ∷ []) k q (touches_itself k) e

  pub wins_only : (s : State) → Only s (wins s k).0
  unfolding wins
  wins_only s = asserts_agree (touching (k ∷ [])) s _ (λ q e. put_elsewhere (reads q) k (elsewhere q e) s.asserts _)

  wins_again_only : (s : State) (r : AssertRow) → Only s (wins_again s k r).0
  unfolding wins_again
  wins_again_only s r = search (rules, asserts_agree, changed_elsewhere, elsewhere)

  loses_only : (s : State) (theirs : AssertMetric) → Only s (loses s k theirs)
  unfolding loses
  loses_only s theirs = search (rules, asserts_agree, put_elsewhere, elsewhere)

  forgotten_only : (s : State) → Only s (assert_forgotten s k)
  unfolding assert_forgotten
  forgotten_only s = search (rules, asserts_agree, dropped_elsewhere, elsewhere)

  -- who reads the source of a key reads the key
  source_unread : (q : Key) → touching (k ∷ []) q ≡ false → reads q (source_key 0 (group_in k) (source_in k)) ≡ false
  unfolding reads
  source_unread q e = elsewhere q e

  spt_bit_only : (s : State) → Only s (with_spt_bit s (group_in k) (source_in k))
  unfolding with_spt_bit
  spt_bit_only s = search (rules, sources_agree, put_elsewhere, source_unread)

  -- the machine sees an Assert
  loses_first_only : (s : State) (theirs : AssertMetric) → Only s (loses_first s k theirs)
  unfolding loses_first
  loses_first_only s theirs =
      by_cond (AgreesBut (touching (k ∷ [])) s) _ (with_spt_bit (loses s k theirs) (group_in k) (source_in k))
      (loses s k theirs)
      (agrees_then (touching (k ∷ [])) s (loses s k theirs) _ (loses_only s theirs) (spt_bit_only (loses s k theirs)))
      (loses_only s theirs)

  no_info_only : (s : State) (theirs : AssertMetric) → Only s (assert_in_no_info s k theirs).0
  unfolding assert_in_no_info
  no_info_only s theirs = grind (arith, agrees_if, wins_only, loses_first_only, agrees_same)

  winner_only : (s : State) (r : AssertRow) (theirs : AssertMetric) → Only s (assert_as_winner s k r theirs).0
  unfolding assert_as_winner
  winner_only s r theirs = grind (arith, agrees_if, loses_only, wins_again_only, agrees_same)

  loser_only : (s : State) (r : AssertRow) (theirs : AssertMetric) → Only s (assert_as_loser s k r theirs)
  unfolding assert_as_loser
  loser_only s r theirs = grind (arith, by_cond, loses_only, forgotten_only, agrees_same)

  machine_only : (s : State) (theirs : AssertMetric) → Only s (assert_at s k theirs).0
  unfolding assert_at
  machine_only s theirs = grind (arith, no_info_only, agrees_if, winner_only, loser_only)

-- ---- events

pub assert_touches : (s : State) (i from : ℕ) (a : AssertMessage)
    → AgreesBut (touching (asserted_keys i a)) s (assert_received s i from a).0
unfolding assert_received asserted_keys touching
assert_touches s i from a =
    grind (arith, or_left, reads_itself, or_right, agrees_same, widened, machine_only, agrees_then)

pub assert_due_touches : (s : State) (k : Key) (r : AssertRow) → AgreesBut (touching (k ∷ [])) s (assert_due s k r).0
unfolding assert_due
assert_due_touches s k r = grind (arith, agrees_if, wins_again_only, forgotten_only)

-- ---- the ends of a key's timers

pub row_fires_but : {R : Type 0} (touches : Key → Bool) (s : State) (o : Option R) (fire : R → State × List Message)
    → ((r : R) → AgreesBut touches s (fire r).0) → AgreesBut touches s (option_map_or fire o (s, [])).0
row_fires_but touches s o fire f = grind arith

module _ (s : State) (k : Key) where
  abbrev Here : State → Type 0
  Here t = AgreesBut (touching (k ∷ [])) s t

  pub prune_pending_touches : Here (fired s TimerKind.PrunePending k).0
  unfolding fired fire_row prune_pending_due
  prune_pending_touches =
      search (rules, row_fires_but, agrees_if, downstream_agrees, changed_elsewhere, elsewhere, dropped_elsewhere)

  pub expiry_touches : Here (fired s TimerKind.DownstreamExpiry k).0
  unfolding fired downstream_expired
  expiry_touches = search (rules, downstream_agrees, dropped_elsewhere, elsewhere)

  pub assert_end_touches : Here (fired s TimerKind.Assert k).0
  unfolding fired fire_row
  assert_end_touches = grind (arith, row_fires_but, assert_due_touches)

  pub keepalive_touches : Here (fired s TimerKind.Keepalive k).0
  unfolding fired fire_row keepalive_due
  keepalive_touches = search (rules, row_fires_but, sources_agree, changed_elsewhere, elsewhere)

  register_end_touches : (state : RegisterState) → Here (register_due s k state).0
  unfolding register_due
  register_end_touches (RegisterState.Prune end) = search (rules, registers_agree, changed_elsewhere, elsewhere)
  register_end_touches RegisterState.Join = search (rules, registers_agree, changed_elsewhere, elsewhere)
  register_end_touches (RegisterState.JoinPending end) = search (rules, registers_agree, changed_elsewhere, elsewhere)

  pub register_touches : Here (fired s TimerKind.Register k).0
  unfolding fired fire_row
  register_touches = row_fires_but (touching (k ∷ [])) s (row_at s.registers k) _ (λ r. register_end_touches r.state)

  -- upstream timers touch nothing
  pub join_timer_touches_none : AgreesBut (touching []) s (fired s TimerKind.Join k).0
  unfolding fired join_timer_due scope
  join_timer_touches_none h e = refl

  pub override_timer_touches_none : AgreesBut (touching []) s (fired s TimerKind.Override k).0
  unfolding fired override_timer_due scope
  override_timer_touches_none h e = refl
