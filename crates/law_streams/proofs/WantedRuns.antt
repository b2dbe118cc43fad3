-- After any events each Join timer runs for what is wanted, and so Join timers are no more than what makes it wanted.
use Rattle.std.{proofs.Common.{◌≡◌, ℕ, ◌≤◌, not, ◌||◌, Bool, true, false, cond, List, Option, Some, sym, subst, arith}}
use Rattle.pim_types.{specs.declared.{config.Config.Config, event.Event.Event, fact.{JoinTimerRow.JoinTimerRow, Key.Key}, timer.TimerKind.TimerKind}}
use Rattle.pim_wire.{specs.{Values.{Encapsulated, JoinPrune, Null}, declared.hello.Hello.Hello as HelloValue}}
use Rattle.pim_model.{specs.{declared.accepted.Accepted.Accepted, Downstream.downstream_expired, Firing.{fire_row, fired, keepalive_due}, Forwarding.source_here, Hellos.{hello_due, hello_received, hello_triggered, is_generation_changed, neighbour_due, neighbour_replaced, neighbour_restarted}, Neighbours.is_neighbour, Querier.{general_query_due, group_record_due, group_repeat_due, other_querier_gone, querier_up, querying, querying_on, source_record_due, source_repeat_due, sources_sent}, Records.{with_members, with_repeats_of_rows}, Registers.{register_due, register_stop_seen, settle_register, with_keepalive}, Seen.{cancel_override_timer, lower_join_timer, lower_override_timer, lowered_row, raise_join_timer, raised_row, seen}, State.{State, opening}, Step.{change, iface_down, iface_up, rps_replaced, state_after, step}, Tables.{Table, row_at, set_row}, Upstream.{join_timer_due, override_timer_due}}}
use Rattle.law_settled.{proofs.{ListLaws.{by_cond, each_map}, StepLaws.kept_by_run, TableLaws.row_of_each, SeenLaws.kept_by_seen}}
use Rattle.law_events.{proofs.OwnKeys.present_touches_none}
use Rattle.law_streams.{proofs.{Keyed.{Under, under_at, under_changed, under_put}, Lasting.{Lasting, Whole, assert_lasting, assert_whole, data_whole, pending_lasting, query_lasting, register_whole, report_lasting, to_me_whole}, LiesUnder.row_fires, Walks.{event_walks, time_walks}, Wanted.{Wanted, settled_wanted, still_wanted}}}

-- ---- what moves the ends of Join timers, or drops them, keeps what is said of their keys

here_joins : (s : State) (g src iif : ℕ) → (source_here s g src iif).join_timers ≡ s.join_timers
unfolding source_here settle_register with_keepalive
here_joins s g src iif = grind arith

module _ (P : Key → Type 0) where
  abbrev Joins : State → Type 0
  Joins s = Under P s.join_timers

  fired_joins : (s : State) (kind : TimerKind) (k : Key) → Joins s → Joins (fired s kind k).0
  unfolding fired fire_row downstream_expired neighbour_due keepalive_due override_timer_due join_timer_due
      other_querier_gone querying_on general_query_due hello_due register_due group_repeat_due source_repeat_due sources_sent
      group_record_due source_record_due with_members with_repeats_of_rows
  fired_joins s kind k f = grind (arith, row_fires, pending_lasting, assert_lasting, under_changed)

  -- a row that is set where one is
  set_joins : (o : Option JoinTimerRow) (k : Key) (t : Table JoinTimerRow) → ((r : JoinTimerRow) → o ≡ Some r → P k) → Under P t
      → Under P (set_row t k o)
  unfolding set_row
  set_joins o k t h f = grind (arith, under_at, under_put)

  raised_from : (k : Key) (end : ℕ) (o : Option JoinTimerRow) → ((r : JoinTimerRow) → o ≡ Some r → P k) → (r : JoinTimerRow)
      → raised_row end o ≡ Some r → P k
  raised_from k end o h r e = grind arith

  lowered_from : (k : Key) (end : ℕ) (o : Option JoinTimerRow) → ((r : JoinTimerRow) → o ≡ Some r → P k) → (r : JoinTimerRow)
      → lowered_row end o ≡ Some r → P k
  lowered_from k end o h r e = grind arith

  raised : (s : State) (k : Key) (end : ℕ) → Joins s → Joins (raise_join_timer s k end)
  unfolding raise_join_timer
  raised s k end f =
      set_joins (raised_row end (row_at s.join_timers k)) k s.join_timers
      (raised_from k end (row_at s.join_timers k) (λ r e. row_of_each (λ x. P x.0) k r s.join_timers f e)) f

  lowered : (s : State) (k : Key) (end : ℕ) → Joins s → Joins (lower_join_timer s k end)
  unfolding lower_join_timer
  lowered s k end f = grind (arith, set_joins, lowered_from, row_of_each)

  seen_joins : (s : State) (w i : ℕ) (m : JoinPrune) → Joins s → Joins (seen s w i m)
  unfolding cancel_override_timer lower_override_timer
  seen_joins s w i m f =
      kept_by_seen Joins s w i m (λ t k end g. raised t k end g) (λ t k g. lowered t k _ g) (λ t k g. g) (λ t k g. g) f

  hello_joins : (s : State) (i address : ℕ) (h : HelloValue) (w : ℕ) → Joins s → Joins (hello_received s i address h w)
  unfolding hello_received hello_triggered neighbour_replaced neighbour_restarted
  hello_joins s i address h w f =
      let changed : Bool = is_generation_changed s i address h in
      restarted changed _ (triggered (changed || not (is_neighbour s i address)))
    where
      triggered : (b : Bool) → Joins (let t : State = cond b (hello_triggered s i w) s in neighbour_replaced t i address h)
      triggered true = f
      triggered false = f

      restarted : (b : Bool) (t : State) → Joins t → Joins (cond b (neighbour_restarted s i address w t) t)
      restarted true t g =
          each_map (λ e. P e.0) (λ e. P e.0) _ (λ e x. by_cond (λ (p : Key × JoinTimerRow). P p.0) _ _ e x x) t.join_timers g
      restarted false t g = g

  change_joins : (s : State) (w : ℕ) (a : Accepted) → Joins s → Joins (change s w a).state
  unfolding change iface_up querier_up querying rps_replaced register_stop_seen iface_down
  change_joins s w (Accepted.Hello i from h) f = hello_joins s i.number from.bits h w f
  change_joins s w (Accepted.JoinPruneToMe i m) f = subst (λ (u : Whole). Under P (u.lasting).join_timers) (sym (to_me_whole s i.number m)) f
  change_joins s w (Accepted.JoinPruneSeen i m) f = seen_joins s w i.number m f
  change_joins s w (Accepted.Assert i from a) f = subst (λ (u : Whole). Under P (u.lasting).join_timers) (sym (assert_whole s i.number from.bits a)) f
  change_joins s w (Accepted.Query i from q) f = subst (λ (u : Lasting). Under P u.join_timers) (sym (query_lasting s i.number from.bits q)) f
  change_joins s w (Accepted.Report i records) f = subst (λ (u : Lasting). Under P u.join_timers) (sym (report_lasting s i.number records)) f
  change_joins s w (Accepted.Data i p) f =
      subst (λ (u : Whole). Under P (u.lasting).join_timers) (sym (data_whole s p.destination p.source i.number))
      (subst (Under P) (sym (here_joins s p.destination p.source i.number)) f)
  change_joins s w (Accepted.Register p (Encapsulated inner)) f =
      subst (λ (u : Whole). Under P (u.lasting).join_timers) (sym (register_whole s p inner.destination inner.source false)) f
  change_joins s w (Accepted.Register p (Null source group)) f =
      subst (λ (u : Whole). Under P (u.lasting).join_timers) (sym (register_whole s p group source true)) f
  change_joins s w (Accepted.Advance moment) f = f
  change_joins s w (Accepted.Up i) f = f
  change_joins s w (Accepted.Down i) f = f
  change_joins s w (Accepted.Routes routes) f = f
  change_joins s w (Accepted.Rps ranges) f = f
  change_joins s w (Accepted.RegisterStop from r) f = f

-- ---- every event

abbrev pub JoinsAreWanted : State → Type 0
JoinsAreWanted s = Under (Wanted s) s.join_timers

no_later : (m : ℕ) → m ≤ m
no_later m = omega arith

step_wanted : (s : State) (e : Event) → JoinsAreWanted s → JoinsAreWanted (step s e).state
step_wanted s e f =
    event_walks JoinsAreWanted (λ o t. Under (Wanted o) t.join_timers) s e f
    (λ moment le. time_walks JoinsAreWanted (λ o t. Under (Wanted o) t.join_timers) moment
    (λ t m le g. still_wanted t (record t { present = m }) (present_touches_none t m) t.join_timers g)
    (λ t m kind k le g. fired_joins (Wanted t) (record t { present = m }) kind k g) (λ o c w g h. settled_wanted o c w h) s e.draw moment
    (no_later moment) f)
    (λ a is. change_joins (Wanted s) s e.draw a f) (λ o c w g h. settled_wanted o c w h)

opening_wanted : (c : Config) → JoinsAreWanted (opening c)
unfolding opening
opening_wanted c = tt

pub run_wanted : (c : Config) (events : List Event) → JoinsAreWanted (state_after (opening c) events)
run_wanted c events = kept_by_run JoinsAreWanted step_wanted (opening c) events (opening_wanted c)
