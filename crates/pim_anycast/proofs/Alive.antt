-- A source that is known stays known until its keepalive timer expires, and a Register makes it known.
use Rattle.std.{proofs.{Common.{◌≡◌, ◌∙◌, ℕ, ◌+◌, ◌-◌, ◌≤◌, ◌&&◌, ◌||◌, ◌⊎◌, nat_le, nat_lt, Bool, true, false, cond, not, List, [], ◌∷◌, length, Option, Some, None, option_map, option_and_then, Ok, inl, inr, refl, sym, ap, subst, arith}, lemmas.{Bool.Decides.nat_tests, Grind.common_steps}}, specs.{List.cons_option, Option.option_map_or}}
use Rattle.pim_ip.{specs.{Ipv4.Packet, declared.refusal.Refusal.Refusal}}
use Rattle.pim_types.{specs.{Keys.{same_key, source_key}, declared.{event.{Event.Event, EventKind.EventKind}, fact.{AssertMetric.AssertMetric, AssertRow.AssertRow, DownstreamRow.DownstreamRow, Key.Key, RegisterState.RegisterState, SourceRow.SourceRow}, timer.TimerKind.TimerKind}}, proofs.Keys.equal_keys}
use Rattle.pim_wire.{specs.{RegisterParts.{is_null, registered_group, registered_source}, Values.{Encapsulated, Null, Register}, declared.assert.Assert.Assert as AssertMessage}}
use Rattle.pim_model.{specs.{declared.accepted.Accepted.Accepted, Asserts.{assert_as_loser, assert_as_winner, assert_at, assert_due, assert_forgotten, assert_in_no_info, assert_received, loses, loses_first, wins, wins_again, with_spt_bit, without_spt, without_spt_bit}, Cause.done_as, Downstream.{downstream_expired, prune_pending_due}, Firing.{fire_all, fire_instant, fire_once, fire_row, fired, keepalive_due, settled}, Forwarding.{Forwarded, forwarded, list_chosen, no_interface, register_at_rp, register_received, register_stop_to, source_here, source_joined, spt_updated, stray, watched, when}, Full.is_full, Hellos.{hello_due, neighbour_due}, Judging.{advance_judged, judged, last_moment, refuse_if, ◌>>◌}, Messages.Message, Querier.{general_query_due, group_record_due, group_repeat_due, other_querier_gone, querying_on, source_record_due, source_repeat_due, sources_sent}, Records.{with_members, with_repeats_of_rows}, Registers.{is_spt_wanted, keepalive_period, register_due, settle_register, settle_registers, with_keepalive}, Sets.{inherited_olist, inherited_olist_rpt, spt_bit, tunnel}, State.State, Step.{advanced, change, concluded, decapsulated, done, step, taken, taken_unless_full}, Tables.{Table, change_row, changed_entry, put, row_at, same_option}, Timers.{Ending, next_due, timers}, Unicast.{is_rp, is_rpf_interface, is_rpf_interface_rp}, Upstream.{join_timer_due, override_timer_due}}}
use Rattle.law_settled.{specs.Ready.{IsLawful, IsSettled, IsTimeless}, proofs.{Ends.{Ends, shows}, LawfulFiring.one_firing_is_lawful, ListLaws.by_cond, RowLaws.{row_change_away, row_put, row_put_away}, SettledStates.settled_is_lawful, SettlingLaws.kept_by_clearing, Steps.{after_event, step_stays_ahead}, TimerLaws.{IsNext, is_next}, TurnLaws.kept_to_the_end, Unsettled.{Unsettled, Untold, cleared_in_the_end, settling_leaves}}}
use Rattle.law_streams.{specs.Copies.happens, proofs.{Changes.{same_sources, stray_sources}, Lasts.only_row, Leaves.taken_is_done, Made.step_taken, Taken.apart_keys}}
use Rattle.pim_anycast.{specs.Members.{KnownStays, KnowsUntil, RegisterIsKnown, knows_until, lasts_until}}

-- ---- an Assert writes no row but by SPTbit

module _ (P : Table SourceRow → Type 0) (sets : (u : State) (g src : ℕ) → P u.sources → P (with_spt_bit u g src).sources) where
  assert_keeps : (s : State) (k : Key) (theirs : AssertMetric) → P s.sources → P (assert_at s k theirs).0.sources
  unfolding assert_at assert_in_no_info assert_as_winner assert_as_loser wins wins_again loses loses_first assert_forgotten
  assert_keeps s k theirs f = grind (arith, sets)

  received_keeps : (s : State) (i from : ℕ) (a : AssertMessage) → P s.sources → P (assert_received s i from a).0.sources
  unfolding assert_received
  received_keeps s i from a f = grind (arith, by_cond, assert_keeps)

-- ---- a row that is written

module _ (t : ℕ) (q : Key) where
  abbrev On : State → Type 0
  On s = lasts_until t (row_at s.sources q) ≡ true

  by_rows : (x y : Table SourceRow) → y ≡ x → lasts_until t (row_at x q) ≡ true → lasts_until t (row_at y q) ≡ true
  by_rows x y same f = ap (λ (z : Table SourceRow). lasts_until t (row_at z q)) same ∙ f

  put_on : (k : Key) (r : SourceRow) (x : Table SourceRow) → (same_key q k ≡ true → lasts_until t (Some r) ≡ true)
      → lasts_until t (row_at x q) ≡ true → lasts_until t (row_at (put x k r) q) ≡ true
  put_on k r x new f = go (same_key q k) refl
    where
      go : (b : Bool) → same_key q k ≡ b → lasts_until t (row_at (put x k r) q) ≡ true
      go true same =
          ap (λ (z : Key). lasts_until t (row_at (put x k r) z)) (equal_keys q k same)
          ∙ (ap (lasts_until t) (row_put k r x) ∙ new same)
      go false off = ap (lasts_until t) (row_put_away k q (apart_keys k q off) r x) ∙ f

  -- the row's own keepalive timer is kept
  same_timer : (o : Option SourceRow) → lasts_until t o ≡ true
      → lasts_until t (Some (record { keepalive = option_and_then (λ (r : SourceRow). r.keepalive) o; spt = true })) ≡ true
  same_timer None f = cc f
  same_timer (Some r) f = f

  bit_on : (s : State) (g src : ℕ) → On s → On (with_spt_bit s g src)
  unfolding with_spt_bit
  bit_on s g src f =
      put_on (source_key 0 g src) _ s.sources
      (λ same. same_timer (row_at s.sources (source_key 0 g src))
      (ap (λ (z : Key). lasts_until t (row_at s.sources z)) (sym (equal_keys q (source_key 0 g src) same)) ∙ f)) f

  -- the timestamp isn't further ahead than a keepalive timer that is set
  abbrev Lasting : State → Type 0
  Lasting s = On s × (t ≤ s.present + keepalive_period)

  keepalive_on : (s : State) (g src : ℕ) → Lasting s → Lasting (with_keepalive s g src)
  unfolding with_keepalive
  keepalive_on s g src f =
      let within : nat_le t (s.present + keepalive_period) ≡ true = grind (arith, nat_tests, f.1) in
      (put_on (source_key 0 g src) _ s.sources (λ same. within) f.0, f.1)

  when_on : (b : Bool) (s : State) (g src : ℕ) → Lasting s → Lasting (when b (λ u. with_keepalive u g src) s)
  when_on true s g src f = keepalive_on s g src f
  when_on false s g src f = f

  bit_when : (b : Bool) (s : State) (g src : ℕ) → Lasting s → Lasting (when b (λ u. with_spt_bit u g src) s)
  unfolding with_spt_bit
  bit_when true s g src f = (bit_on s g src f.0, f.1)
  bit_when false s g src f = f

  -- ---- data, and Registers

  module _ (g src iif : ℕ) where
    here_on : (s : State) → Lasting s → Lasting (source_here s g src iif)
    unfolding source_here settle_register
    here_on s f = by_cond Lasting _ _ _ (keepalive_on s g src f) f

    joined_on : (s : State) → Lasting s → Lasting (source_joined s g src iif)
    unfolding source_joined
    joined_on s f = when_on _ s g src f

    updated_on : (s : State) → Lasting s → Lasting (spt_updated s g src iif)
    unfolding spt_updated
    updated_on s f = bit_when _ s g src f

    watched_on : (s : State) → Lasting s → Lasting (watched s g src)
    unfolding watched
    watched_on s f = when_on _ s g src f

    chosen_on : (s : State) → Lasting s → On (list_chosen s g src iif).state
    unfolding list_chosen
    chosen_on s f =
        go (is_rpf_interface s src iif && spt_bit s g src) (is_rpf_interface_rp s g iif && not (spt_bit s g src))
      where
        go : (b c : Bool)
            → On (cond b (let x : Forwarded = record { state = s; messages = []; list = inherited_olist s g src; to_tunnel = tunnel s g src } in x)
            (cond c (let x : Forwarded = record { state = watched s g src; messages = []; list = inherited_olist_rpt s g src; to_tunnel = false } in x)
            (stray s g src iif))).state
        go true c = f.0
        go false true = (watched_on s f).0
        go false false = by_rows s.sources (stray s g src iif).state.sources (stray_sources q g src iif s) f.0

    data_on : (s : State) → Lasting s → On (forwarded s g src iif).state
    unfolding forwarded
    data_on s f = chosen_on _ (updated_on _ (joined_on _ (here_on s f)))

  register_on : (s : State) (p : Packet) (g src : ℕ) (none : Bool) → Lasting s → On (register_received s p g src none).state
  unfolding register_received register_at_rp
  register_on s p g src none f = by_cond (λ (x : Forwarded). On x.state) _ _ _ (when_on _ s g src f).0 f.0

  -- ---- an Assert

  received_on : (s : State) (i from : ℕ) (a : AssertMessage) → On s → On (assert_received s i from a).0
  received_on s i from a f = received_keeps (λ (x : Table SourceRow). lasts_until t (row_at x q) ≡ true) bit_on s i from a f

  -- ---- any change

  changed_on : (s : State) (w : ℕ) (a : Accepted) → Lasting s → On (change s w a).state
  unfolding change
  changed_on s w (Accepted.Advance moment) f = f.0
  changed_on s w (Accepted.Up i) f = by_rows s.sources _ (same_sources s w (Accepted.Up i) tt) f.0
  changed_on s w (Accepted.Down i) f = by_rows s.sources _ (same_sources s w (Accepted.Down i) tt) f.0
  changed_on s w (Accepted.Routes routes) f = f.0
  changed_on s w (Accepted.Rps ranges) f = by_rows s.sources _ (same_sources s w (Accepted.Rps ranges) tt) f.0
  changed_on s w (Accepted.Hello i from h) f = by_rows s.sources _ (same_sources s w (Accepted.Hello i from h) tt) f.0
  changed_on s w (Accepted.JoinPruneToMe i m) f = by_rows s.sources _ (same_sources s w (Accepted.JoinPruneToMe i m) tt) f.0
  changed_on s w (Accepted.JoinPruneSeen i m) f = by_rows s.sources _ (same_sources s w (Accepted.JoinPruneSeen i m) tt) f.0
  changed_on s w (Accepted.Assert i from a) f = received_on s i.number from.bits a f.0
  changed_on s w (Accepted.Query i from m) f = by_rows s.sources _ (same_sources s w (Accepted.Query i from m) tt) f.0
  changed_on s w (Accepted.Report i records) f = by_rows s.sources _ (same_sources s w (Accepted.Report i records) tt) f.0
  changed_on s w (Accepted.Data i p) f = data_on p.destination p.source i.number s f
  changed_on s w (Accepted.Register p (Encapsulated inner)) f = register_on s p inner.destination inner.source false f
  changed_on s w (Accepted.Register p (Null source group)) f = register_on s p group source true f
  changed_on s w (Accepted.RegisterStop from r) f = by_rows s.sources _ (same_sources s w (Accepted.RegisterStop from r) tt) f.0

  -- ---- what follows of a change

  unset_entry : (r : SourceRow) (o : Option ℕ) → r.keepalive ≡ o → option_map_or (nat_le t) o false ≡ true
      → without_spt r ≡ Some (record r { spt = false })
  unset_entry r None is f = cc f
  unset_entry r (Some end) is f = rw is refl

  unset_row : (x : Table SourceRow) → lasts_until t (row_at x q) ≡ true → lasts_until t (row_at (change_row without_spt q x) q) ≡ true
  unfolding row_at change_row changed_entry
  unset_row [] f = f
  unset_row (e ∷ x) f = go (same_key q e.0) refl (unset_row x) f
    where
      go : (b : Bool) → same_key q e.0 ≡ b
          → (lasts_until t (row_at x q) ≡ true → lasts_until t (row_at (change_row without_spt q x) q) ≡ true)
          → lasts_until t (cond b (Some e.1) (row_at x q)) ≡ true
          → lasts_until t (row_at (cons_option (cond b (option_map (λ (r : SourceRow). let p : Key × SourceRow = (e.0, r) in p) (without_spt e.1)) (Some e)) (change_row without_spt q x)) q) ≡ true
      go true same later f = rw (unset_entry e.1 (e.1).keepalive refl f, same) f
      go false off later f = rw off (later f)

  unset_on : (s : State) (k : Key) → On s → On (without_spt_bit s k)
  unfolding without_spt_bit
  unset_on s k f = go (same_key q k) refl
    where
      go : (b : Bool) → same_key q k ≡ b → lasts_until t (row_at (change_row without_spt k s.sources) q) ≡ true
      go true same =
          subst (λ (z : Key). lasts_until t (row_at (change_row without_spt z s.sources) q) ≡ true) (equal_keys q k same)
          (unset_row s.sources f)
      go false off = ap (lasts_until t) (row_change_away k q (apart_keys k q off) without_spt s.sources) ∙ f

  settled_on : (o : State) (c : State × List Message) (w : ℕ) → On c.0 → On (settled o c w).0
  unfolding settle_registers assert_forgotten
  settled_on o c w f =
      ap (λ (u : Untold). lasts_until t (row_at u.sources q)) (cleared_in_the_end o c w)
      ∙ kept_by_clearing On (λ s k h. h) unset_on o c.0 f

  done_on : (s : State) (w : ℕ) (a : Accepted) → Lasting s → On (done s w (change s w a)).state
  unfolding done
  done_on s w a f = settled_on s ((change s w a).state, (change s w a).messages) w (changed_on s w a f)

  -- ---- time that passes, not so far

  module _ (m : ℕ) (before : nat_le t m ≡ false) where
    record Kept (s : State) : Type 0 where
      there : On s
      lawful : IsLawful s

    not_yet : (end : Option ℕ) (n : ℕ) → n ≤ m → option_map_or (nat_le t) end false ≡ true
        → same_option end (Some n) ≡ true → ⊥
    not_yet None n low runs same = cc runs
    not_yet (Some e) n low runs same =
        let is : e ≡ n = grind (arith, common_steps, same) in absurd (grind (arith, nat_tests, runs, before))

    none_here : (s : State) (k : Key) (n : ℕ) → n ≤ m → Kept s → shows TimerKind.Keepalive (Ends k n) s ≡ true
        → same_key q k ≡ true → ⊥
    none_here s k n low f shown same =
        let here : shows TimerKind.Keepalive (Ends q n) s ≡ true =
        subst (λ (z : Key). shows TimerKind.Keepalive (Ends z n) s ≡ true) (sym (equal_keys q k same)) shown in
        go (row_at s.sources q) refl f.there here
      where
        go : (o : Option SourceRow) → row_at s.sources q ≡ o → lasts_until t o ≡ true
            → shows TimerKind.Keepalive (Ends q n) s ≡ true → ⊥
        go None is runs here = cc runs
        go (Some r) is runs here =
            not_yet r.keepalive n low runs
            (only_row q (λ e. same_option (e.1).keepalive (Some n)) r s.sources ((f.lawful).ordered).sources is here
            (λ x row at passes. subst (λ (y : SourceRow). same_option y.keepalive (Some n) ≡ true) row passes))

    elsewhere : (s : State) (k : Key) (n : ℕ) → n ≤ m → Kept s → shows TimerKind.Keepalive (Ends k n) s ≡ true
        → same_key q k ≡ false
    elsewhere s k n low f shown = go (same_key q k) refl
      where
        go : (b : Bool) → same_key q k ≡ b → b ≡ false
        go true same = absurd (none_here s k n low f shown same)
        go false off = refl

    row_fires : {R : Type 0} (s : State) (o : Option R) (fire : R → State × List Message) → On s
        → ((r : R) → On (fire r).0) → On (option_map_or fire o (s, [])).0
    row_fires s o fire f h = grind arith

    assert_sources : (s : State) (k : Key) (r : AssertRow) → (assert_due s k r).0.sources ≡ s.sources
    unfolding assert_due wins_again assert_forgotten
    assert_sources s k r = grind arith

    register_sources : (s : State) (k : Key) (r : RegisterState) → (register_due s k r).0.sources ≡ s.sources
    unfolding register_due
    register_sources s k r = grind arith

    pending_sources : (s : State) (k : Key) (r : DownstreamRow) → (prune_pending_due s k r).0.sources ≡ s.sources
    unfolding prune_pending_due
    pending_sources s k r = grind arith

    keepalive_fires : (s : State) (k : Key) (r : SourceRow) → same_key q k ≡ false → On s → On (keepalive_due s k r)
    unfolding keepalive_due
    keepalive_fires s k r off f = ap (lasts_until t) (row_change_away k q (apart_keys k q off) _ s.sources) ∙ f

    fired_on : (s : State) (kind : TimerKind) (k : Key) → (kind ≡ TimerKind.Keepalive → same_key q k ≡ false) → On s
        → On (fired s kind k).0
    unfolding fired fire_row downstream_expired neighbour_due override_timer_due join_timer_due
        other_querier_gone querying_on group_repeat_due source_repeat_due sources_sent general_query_due hello_due
        group_record_due source_record_due with_members with_repeats_of_rows
    fired_on s TimerKind.Keepalive k a f = row_fires s (row_at s.sources k) _ f (λ r. keepalive_fires s k r (a refl) f)
    fired_on s TimerKind.Assert k a f = row_fires s (row_at s.asserts k) _ f (λ r. by_rows s.sources _ (assert_sources s k r) f)
    fired_on s TimerKind.Register k a f = row_fires s (row_at s.registers k) _ f (λ r. by_rows s.sources _ (register_sources s k r.state) f)
    fired_on s TimerKind.PrunePending k a f = row_fires s (row_at s.downstream k) _ f (λ r. by_rows s.sources _ (pending_sources s k r) f)
    fired_on s TimerKind.GroupRepeat k a f = row_fires s (row_at s.group_repeats k) _ f (λ r. f)
    fired_on s TimerKind.GeneralQuery k a f = row_fires s (row_at s.queriers k) _ f (λ r. f)
    fired_on s TimerKind.Hello k a f = row_fires s (row_at s.interfaces k) _ f (λ r. f)
    fired_on s TimerKind.DownstreamExpiry k a f = f
    fired_on s TimerKind.GroupRecord k a f = grind arith
    fired_on s TimerKind.SourceRecord k a f = grind arith
    fired_on s TimerKind.Neighbour k a f = f
    fired_on s TimerKind.Override k a f = f
    fired_on s TimerKind.Join k a f = f
    fired_on s TimerKind.OtherQuerier k a f = f
    fired_on s TimerKind.SourceRepeat k a f = f

    module _ (w : ℕ) where
      once_keeps : (s : State) (d : Ending) → Kept s → d.end ≤ m → shows d.timer.kind (Ends d.timer.key d.end) s ≡ true
          → Kept (fire_once w s d).0
      unfolding fire_once
      once_keeps s d f low shown =
          let k : Key = d.timer.key in
          let opened : State = record s { present = d.end } in
          let fires : On (fired opened d.timer.kind k).0 =
          fired_on opened d.timer.kind k
          (λ is. elsewhere s k d.end low f (subst (λ (kind : TimerKind). shows kind (Ends k d.end) s ≡ true) is shown)) f.there in
          record {
            there = settled_on s (fired opened d.timer.kind k) w fires;
            lawful = one_firing_is_lawful w s d f.lawful;
          }

      instant_keeps : (s : State) (e : Ending) → Kept s → e.end ≤ m → Kept (fire_instant w s e).0
      unfolding fire_instant
      instant_keeps s e f low =
          kept_to_the_end (next_due e.end) (fire_once w) Kept
          (λ u d h there.
          let next : IsNext e.end u d = is_next e.end u d there in
          let due : d.end ≤ e.end = next.due in once_keeps u d h (omega (arith, due, low)) next.shown)
          (length (timers s) + 1) s f

      time_keeps : (s : State) → Kept s → On (advanced s w m).state
      unfolding advanced fire_all
      time_keeps s f =
          (kept_to_the_end (next_due m) (fire_instant w) Kept
          (λ u d h there. instant_keeps u d h (is_next m u d there).due) (m + 2 - s.present) s f).there

-- ---- time goes on

module _ (s : State) (w : ℕ) where
  advanced_on : (moment : ℕ) (back far : Bool) → nat_lt moment s.present ≡ back
      → s.present ≤ (concluded s (taken_unless_full s w)
      (refuse_if back Refusal.MomentBack >> refuse_if far Refusal.MomentFar >> Ok (Accepted.Advance moment))).state.present
  unfolding taken_unless_full taken advanced is_full
  advanced_on moment true far is = omega arith
  advanced_on moment false true is = omega arith
  advanced_on moment false false is = grind (arith, nat_tests, is)

time_passes : (s : State) (e : Event) (moment : ℕ) → e.kind ≡ EventKind.Advance moment → s.present ≤ (step s e).state.present
unfolding judged advance_judged step
time_passes s e moment is =
    subst (λ (kind : EventKind). s.present ≤ (concluded s (taken_unless_full s e.draw) (judged s kind)).state.present) (sym is)
    (advanced_on s e.draw moment (nat_lt moment s.present) (nat_lt last_moment moment) refl)

time_stays : (s : State) (e : Event) (kind : EventKind) → e.kind ≡ kind → IsTimeless kind → IsSettled s
    → s.present ≤ (step s e).state.present
time_stays s e kind is none rest =
    let same = (step_stays_ahead s e (subst IsTimeless (sym is) none) rest).present in omega (arith, same)

pub time_goes_on : (s : State) (e : Event) → IsSettled s → s.present ≤ (step s e).state.present
time_goes_on s e rest = go e.kind refl
  where
    go : (kind : EventKind) → e.kind ≡ kind → s.present ≤ (step s e).state.present
    go (EventKind.Advance moment) is = time_passes s e moment is
    go (EventKind.Frame i bytes) is = time_stays s e _ is tt rest
    go (EventKind.Unicast bytes) is = time_stays s e _ is tt rest
    go (EventKind.Up i) is = time_stays s e _ is tt rest
    go (EventKind.Down i) is = time_stays s e _ is tt rest
    go (EventKind.Routes routes) is = time_stays s e _ is tt rest
    go (EventKind.Rps rps) is = time_stays s e _ is tt rest
    go (EventKind.RpCandidates candidates) is = time_stays s e _ is tt rest

-- ---- the laws

module _ (s : State) (e : Event) (end g src : ℕ) (rest : IsSettled s) (f : KnowsUntil end s g src) where
  abbrev q : Key
  q = source_key 0 g src

  abbrev Known : State → Type 0
  Known u = (knows_until end u g src ≡ true) ⊎ (end ≤ u.present)

  over : (moment : ℕ) → knows_until end s g src ≡ true → (b : Bool) → nat_le end moment ≡ b
      → Known (advanced s e.draw moment).state
  unfolding advanced
  over moment on true past = inr (grind (arith, nat_tests, past))
  over moment on false before =
      inl (time_keeps end q moment before e.draw s (record { there = on; lawful = settled_is_lawful s rest }))

  known_then : Known s → Known (step s e).state
  known_then (inl on) =
      after_event Known s e (inl on) (λ moment. over moment on (nat_le end moment) refl)
      (λ a here. inl (done_on end q s e.draw a (on, f.near)))
  known_then (inr late) = let forth = time_goes_on s e rest in inr (omega (arith, late, forth))

  still_near : end ≤ (step s e).state.present + keepalive_period
  still_near = let near = f.near in let forth = time_goes_on s e rest in omega (arith, near, forth)

pub known_stays : KnownStays
known_stays s e end g src rest f = record { near = still_near s e end g src rest f; known = known_then s e end g src rest f f.known }

module _ (s : State) (p : Packet) (g src : ℕ) (none : Bool) where
  abbrev register : State
  register = (register_received s p g src none).state

  set_now : lasts_until (s.present + keepalive_period) (row_at (with_keepalive s g src).sources (source_key 0 g src)) ≡ true
  unfolding with_keepalive
  set_now =
      let same : nat_le (s.present + keepalive_period) (s.present + keepalive_period) ≡ true = grind (arith, nat_tests) in
      ap (lasts_until (s.present + keepalive_period)) (row_put (source_key 0 g src) _ s.sources) ∙ same

  received_is : is_rp s g p.destination ≡ true → register_received s p g src none ≡ register_at_rp s p g src none
  unfolding register_received
  received_is rp =
      ap (λ (b : Bool). cond b (register_at_rp s p g src none)
      (record { state = s; messages = register_stop_to p g src; list = no_interface; to_tunnel = false })) rp

  state_is : is_spt_wanted s ≡ true → (register_at_rp s p g src none).state ≡ with_keepalive s g src
  unfolding register_at_rp
  state_is wanted =
      ap (λ (b : Bool). when (spt_bit s g src || b) (λ t. with_keepalive t g src) s) wanted ∙ go (spt_bit s g src)
    where
      go : (b : Bool) → when (b || true) (λ t. with_keepalive t g src) s ≡ with_keepalive s g src
      go true = refl
      go false = refl

  known_now : is_rp s g p.destination ≡ true → is_spt_wanted s ≡ true
      → lasts_until (s.present + keepalive_period) (row_at (register).sources (source_key 0 g src)) ≡ true
  known_now rp wanted =
      ap (λ (x : Forwarded). lasts_until (s.present + keepalive_period) (row_at x.state.sources (source_key 0 g src))) (received_is rp)
      ∙ (ap (λ (x : State). lasts_until (s.present + keepalive_period) (row_at x.sources (source_key 0 g src))) (state_is wanted) ∙ set_now)

  same_present : (register).present ≡ s.present
  unfolding register_received register_at_rp with_keepalive
  same_present = grind arith

module _ (s : State) (e : Event) (p : Packet) (r : Register) (came : done_as (happens s e) ≡ Some (Accepted.Register p r))
    (rp : is_rp s (registered_group r) p.destination ≡ true) (wanted : is_spt_wanted s ≡ true) where
  abbrev a : Accepted
  a = Accepted.Register p r

  abbrev g : ℕ
  g = registered_group r

  abbrev src : ℕ
  src = registered_source r

  abbrev c : State × List Message
  c = ((change s e.draw a).state, (change s e.draw a).messages)

  is_so : (step s e).state ≡ (settled s c e.draw).0
  unfolding done
  is_so = ap (λ x. x.state) (step_taken s e a came ∙ taken_is_done s e.draw a refl)

  decapsulated_is : (o : Register) (f : Forwarded) → (decapsulated o f).state ≡ f.state
  decapsulated_is (Encapsulated inner) f = refl
  decapsulated_is (Null source group) f = refl

  change_is : (change s e.draw a).state ≡ (register_received s p g src (is_null r)).state
  unfolding change
  change_is = decapsulated_is r (register_received s p g src (is_null r))

  known_after : knows_until (s.present + keepalive_period) (step s e).state g src ≡ true
  known_after =
      ap (λ (x : State). knows_until (s.present + keepalive_period) x g src) is_so
      ∙ settled_on (s.present + keepalive_period) (source_key 0 g src) s c e.draw
      (ap (λ (x : State). knows_until (s.present + keepalive_period) x g src) change_is
      ∙ known_now s p g src (is_null r) rp wanted)

  present_after : (step s e).state.present ≡ s.present
  present_after =
      ap (λ (x : State). x.present) is_so
      ∙ (ap (λ (u : Unsettled). u.present) (settling_leaves s c e.draw)
      ∙ (ap (λ (x : State). x.present) change_is ∙ same_present s p g src (is_null r)))

pub register_is_known : RegisterIsKnown
register_is_known s e p r came rp wanted =
    let same = present_after s e p r came rp wanted in
    record { near = omega (arith, same); known = inl (known_after s e p r came rp wanted) }
