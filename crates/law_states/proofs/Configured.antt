-- Each interface that is up is configured, after any events and reloads.
use Rattle.std.{proofs.Common.{◌≡◌, ◌∙◌, ◌+◌, ℕ, ◌<◌, ◌≤◌, nat_lt, min, not, cond, Bool, true, false, List, length, Ok, Some, refl, sym, ap, subst, lt-ltb, arith}, specs.Cmp.second_so}
use Rattle.pim_types.{specs.{Keys.{iface_in, iface_key, is_on, same_key}, declared.{event.Event.Event, fact.{InterfaceRow.InterfaceRow, Key.Key, RegisterState.RegisterState}, timer.TimerKind.TimerKind}}, proofs.Keys.equal_keys}
use Rattle.pim_wire.{specs.{Values.{Encapsulated, Null}, declared.hello.Hello.Hello as HelloValue}}
use Rattle.pim_model.{specs.{declared.accepted.Accepted.Accepted, Downstream.{downstream_expired, prune_pending_due}, Asserts.assert_due, Firing.{fire_row, fired, keepalive_due, settled}, Forwarding.source_here, Hellos.{hello_due, hello_period, hello_received, hello_triggered, hellos_triggered, neighbour_due, neighbour_replaced, neighbour_restarted}, Judging.judged, Messages.Message, Querier.{general_query_due, group_record_due, group_repeat_due, other_querier_gone, querier_up, querying, querying_on, source_record_due, source_repeat_due, sources_sent}, Records.{with_members, with_repeats_of_rows}, Registers.{register_due, register_stop_seen, settle_register, with_keepalive}, State.{Addressing, State, iface_count}, Step.{change, iface_down, iface_up, rps_replaced, step}, Tables.{Table, change_row, drop_where, has_row, put, row_at}, Upstream.{join_timer_due, override_timer_due}}}
use Rattle.law_settled.{proofs.{ListLaws.either, RowLaws.{has_row_dropped, has_row_map, has_row_put, has_row_replaced}}}
use Rattle.law_streams.{proofs.{Lasting.{Beside, Lasting, Whole, assert_lasting, assert_whole, data_whole, pending_lasting, query_lasting, register_whole, report_lasting, seen_beside, to_me_whole}, LiesUnder.row_fires, Placed.{IsIn, IsPlaced, kind_is_placed}, Settings.step_configured, Walks.{event_walks, time_walks}}}
use Rattle.law_plane.{specs.Keeping.{keep, kept_until}, proofs.Keeps.keep_by}
use Rattle.law_states.{specs.ReloadLaws.AreConfigured, proofs.Removed.settled_up}

module _ (n : ℕ) where
  -- only the first n interfaces have a row
  abbrev LowIn : Table InterfaceRow → Type 0
  LowIn t = (i : ℕ) → has_row t (iface_key i) ≡ true → nat_lt i n ≡ true

  abbrev Low : State → Type 0
  Low s = LowIn s.interfaces

  put_low : (t : Table InterfaceRow) (i : ℕ) (r : InterfaceRow) → i < n → LowIn t → LowIn (put t (iface_key i) r)
  put_low t i r less f = λ j up.
      either (same_key (iface_key j) (iface_key i)) (has_row t (iface_key j))
      (λ same. ap (λ (q : Key). nat_lt (iface_in q) n) (equal_keys (iface_key j) (iface_key i) same) ∙ lt-ltb i n less)
      (λ there. f j there) (sym (has_row_put (iface_key j) (iface_key i) r t) ∙ up)

  dropped_low : (test : Key → Bool) (t : Table InterfaceRow) → LowIn t → LowIn (drop_where test t)
  dropped_low test t f = λ j up.
      f j (second_so (not (test (iface_key j))) (has_row t (iface_key j)) (sym (has_row_dropped (iface_key j) test t) ∙ up))

  triggered_low : (i end : ℕ) (t : Table InterfaceRow) → LowIn t → LowIn (hellos_triggered i end t)
  unfolding hellos_triggered
  triggered_low i end t f = λ j up.
      f j (sym (has_row_map (iface_key j)
      (λ (e : Key × InterfaceRow). cond (is_on i e.0) (let p : Key × InterfaceRow = (e.0, record e.1 { hello_end = min (e.1).hello_end end; is_hello_owed = true }) in p) e)
      (λ e. same_under e (is_on i e.0)) t) ∙ up)
    where
      same_under : (e : Key × InterfaceRow) (b : Bool)
          → (cond b (let p : Key × InterfaceRow = (e.0, record e.1 { hello_end = min (e.1).hello_end end; is_hello_owed = true }) in p) e).0 ≡ e.0
      same_under e true = refl
      same_under e false = refl

  changed_low : (r : InterfaceRow) (k : Key) (s : State) → Low s
      → Low (record s { interfaces = change_row (λ (old : InterfaceRow). Some r) k s.interfaces })
  changed_low r k s f = λ j up. f j (sym (has_row_replaced (iface_key j) r k s.interfaces) ∙ up)

  follows : (o : State) (c : State × List Message) (w : ℕ) → Low c.0 → Low (settled o c w).0
  follows o c w f = λ j up. f j (sym (settled_up o c w j) ∙ up)

  -- ---- a timer that expires

  register_low : (s : State) (k : Key) (state : RegisterState) → Low s → Low (register_due s k state).0
  unfolding register_due
  register_low s k (RegisterState.Prune end) f = f
  register_low s k RegisterState.Join f = f
  register_low s k (RegisterState.JoinPending end) f = f

  fires : (s : State) (kind : TimerKind) (k : Key) → Low s → Low (fired s kind k).0
  unfolding fired fire_row downstream_expired neighbour_due keepalive_due override_timer_due join_timer_due
      other_querier_gone querying_on general_query_due hello_due group_repeat_due source_repeat_due sources_sent
      group_record_due source_record_due with_members with_repeats_of_rows
  fires s TimerKind.PrunePending k f =
      row_fires Low s (prune_pending_due s k) (row_at s.downstream k) f
      (λ r. subst (λ (u : Lasting). LowIn (u.still).interfaces) (sym (pending_lasting s k r)) f)
  fires s TimerKind.Assert k f =
      row_fires Low s (assert_due s k) (row_at s.asserts k) f
      (λ r. subst (λ (u : Lasting). LowIn (u.still).interfaces) (sym (assert_lasting s k r)) f)
  fires s TimerKind.Register k f = row_fires Low s _ (row_at s.registers k) f (λ r. register_low s k r.state f)
  fires s TimerKind.Hello k f =
      row_fires Low s (hello_due s k) (row_at s.interfaces k) f
      (λ r. changed_low (record r { hello_end = s.present + hello_period }) k s f)
  fires s TimerKind.Keepalive k f = row_fires Low s _ (row_at s.sources k) f (λ r. f)
  fires s TimerKind.GroupRepeat k f = row_fires Low s _ (row_at s.group_repeats k) f (λ r. f)
  fires s TimerKind.GeneralQuery k f = row_fires Low s _ (row_at s.queriers k) f (λ r. f)
  fires s TimerKind.Neighbour k f = f
  fires s TimerKind.DownstreamExpiry k f = f
  fires s TimerKind.GroupRecord k f = f
  fires s TimerKind.SourceRecord k f = f
  fires s TimerKind.Override k f = f
  fires s TimerKind.Join k f = f
  fires s TimerKind.OtherQuerier k f = f
  fires s TimerKind.SourceRepeat k f = f

  -- ---- each event's own change

  hello_low : (s : State) (i address : ℕ) (h : HelloValue) (w : ℕ) → Low s → Low (hello_received s i address h w)
  unfolding hello_received hello_triggered neighbour_replaced neighbour_restarted
  hello_low s i address h w f = grind (arith, triggered_low)

  here_low : (s : State) (g src iif : ℕ) → Low s → Low (source_here s g src iif)
  unfolding source_here settle_register with_keepalive
  here_low s g src iif f = grind arith

  abbrev OfLasting : Lasting → Type 0
  OfLasting u = LowIn (u.still).interfaces

  abbrev OfWhole : Whole → Type 0
  OfWhole u = OfLasting u.lasting

  abbrev OfBeside : Beside → Type 0
  OfBeside u = LowIn (u.still).interfaces

  changes : (s : State) (w : ℕ) (a : Accepted) → IsIn n a → Low s → Low (change s w a).state
  unfolding change iface_up querier_up querying rps_replaced register_stop_seen iface_down
  changes s w (Accepted.Advance moment) here f = f
  changes s w (Accepted.Up i) here f = put_low s.interfaces i.number _ here f
  changes s w (Accepted.Down i) here f = dropped_low (is_on i.number) s.interfaces f
  changes s w (Accepted.Routes routes) here f = f
  changes s w (Accepted.Rps ranges) here f = f
  changes s w (Accepted.Hello i from h) here f = hello_low s i.number from.bits h w f
  changes s w (Accepted.JoinPruneToMe i m) here f = subst OfWhole (sym (to_me_whole s i.number m)) f
  changes s w (Accepted.JoinPruneSeen i m) here f = subst OfBeside (sym (seen_beside s w i.number m)) f
  changes s w (Accepted.Assert i from a) here f = subst OfWhole (sym (assert_whole s i.number from.bits a)) f
  changes s w (Accepted.Query i from q) here f = subst OfLasting (sym (query_lasting s i.number from.bits q)) f
  changes s w (Accepted.Report i records) here f = subst OfLasting (sym (report_lasting s i.number records)) f
  changes s w (Accepted.Data i p) here f =
      subst OfWhole (sym (data_whole s p.destination p.source i.number))
      (here_low s p.destination p.source i.number f)
  changes s w (Accepted.Register p (Encapsulated inner)) here f =
      subst OfWhole (sym (register_whole s p inner.destination inner.source false)) f
  changes s w (Accepted.Register p (Null source group)) here f =
      subst OfWhole (sym (register_whole s p group source true)) f
  changes s w (Accepted.RegisterStop from r) here f = f

  in_time : (a : ℕ) → a ≤ a
  in_time a = omega arith

  step_low : (s : State) (e : Event) → iface_count s ≤ n → Low s → Low (step s e).state
  step_low s e among f =
      event_walks Low (λ o t. Low t) s e f
      (λ moment le. time_walks Low (λ o t. Low t) moment (λ t m le g. g)
      (λ t m kind k le g. fires (record t { present = m }) kind k g) (λ o c w g h. follows o c w h) s e.draw moment
      (in_time moment) f)
      (λ a is. changes s e.draw a (placed a is) f) (λ o c w g h. follows o c w h)
    where
      placed : (a : Accepted) → judged s e.kind ≡ Ok a → IsIn n a
      placed a is = (subst (IsPlaced n) is (kind_is_placed s n among e.kind)).accepts

pub step_configures : (s : State) (e : Event) → AreConfigured s → AreConfigured (step s e).state
step_configures s e f = λ i up.
    ap (λ (cs : Addressing). nat_lt i (length cs.interfaces)) (sym (step_configured s e).configured)
    ∙ step_low (iface_count s) s e (in_time 0 (iface_count s)) f i up

pub keep_configures : (s : State) (g src m : ℕ) → AreConfigured s → AreConfigured (keep s g src m)
unfolding kept_until
keep_configures s g src m f = keep_by s g src m AreConfigured f (λ end e sooner. f)
