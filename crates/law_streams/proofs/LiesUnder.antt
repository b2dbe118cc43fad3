-- The facts that don't count lie under others: after each event, and after each firing.
use Rattle.std.{proofs.Common.{◌≡◌, ◌∙◌, ℕ, ◌<◌, true, false, List, [], length, Option, Ok, refl, sym, ap, subst, lt-ltb, arith, ◌≤◌}, specs.{Cmp.{first_so, Derive.both_true}, Option.option_map_or}}
use Rattle.pim_types.{specs.{Keys.{iface_in, iface_key, is_on, source_key}, declared.{config.Config.Config, event.Event.Event, fact.{AssertRow.AssertRow, DownstreamRow.DownstreamRow, GroupRepeatRow.GroupRepeatRow, InterfaceRow.InterfaceRow, Key.Key, QuerierRow.QuerierRow, RegisterRow.RegisterRow, RegisterState.RegisterState}, timer.TimerKind.TimerKind}}, proofs.Keys.{equal_keys, same_key_same}}
use Rattle.pim_wire.{specs.{Values.{Encapsulated, Null}, declared.hello.Hello.Hello as HelloValue}}
use Rattle.pim_model.{specs.{declared.accepted.Accepted.Accepted, Asserts.{assert_due, assert_forgotten, wins_again}, Downstream.{downstream_expired, prune_pending_due}, Firing.{fire_row, fired, keepalive_due, settled}, Forwarding.source_here, Hellos.{hello_due, hello_received, hello_triggered, hellos_triggered, neighbour_due, neighbour_replaced, neighbour_restarted}, Judging.judged, Limits.config_test, Messages.Message, Querier.{general_query_due, group_repeat_due, other_querier_gone, querier_up, querying, querying_on, source_repeat_due, sources_sent, group_record_due, source_record_due}, Records.{with_members, with_repeats_of_rows}, Registers.{register_due, register_stop_seen, registers_after_rps, settle_register, with_keepalive}, State.{Addressing, State, iface_count, opening}, Step.{change, iface_down, iface_up, rps_replaced, state_after, step}, Tables.{Table, has_row}, Upstream.{join_timer_due, override_timer_due}}}
use Rattle.law_settled.{proofs.{ListLaws.{any_more, by_cond, each_both, each_map, each_more, each_of_all, each_of_list, list_of_each}, RowLaws.has_row_any, StepLaws.kept_by_run, Steps.{opening_is_settled, step_is_settled}}, specs.{Laws.is_querier_entry, Ready.IsSettled}}
use Rattle.law_streams.{specs.Uncounted.{EachLiesUnder, LiesUnder, is_of_interface}, proofs.{Keyed.{Kept, Under, fired_kept, settled_kept, under_changed, under_put, under_where}, KeyedChanges.{Names, change_kept}, Lasting.{Beside, Lasting, Unhailed, Whole, assert_whole, data_whole, hello_unhailed, query_lasting, register_whole, report_lasting, seen_beside, settled_asking, to_me_whole}, Placed.{IsIn, IsPlaced, kind_is_placed}, Registered.{OfIface, Own, Rests, is_kept, register_own, settled_rests}, Repeats.{Asking, Fits, FitsIn, asking, group_repeated, sources_repeated}, RepeatsKept.{down_fits, group_due_fits, query_fits, report_fits, source_due_fits}, Settings.step_configured, Walks.{event_walks, time_walks}}}

abbrev pub Any : Key → Type 0
Any k = Unit {0}

-- ---- the ends of rows

-- what a row's end leaves alone, but of IGMP, interfaces and registers
record Left : Type 0 where
  asking : Asking
  interfaces : Table InterfaceRow
  registers : Table RegisterRow

abbrev left : State → Left
left s = record { asking = asking s; interfaces = s.interfaces; registers = s.registers }

pending_left : (s : State) (k : Key) (r : DownstreamRow) → left (prune_pending_due s k r).0 ≡ left s
unfolding prune_pending_due
pending_left s k r = grind arith

assert_left : (s : State) (k : Key) (r : AssertRow) → left (assert_due s k r).0 ≡ left s
unfolding assert_due wins_again assert_forgotten
assert_left s k r = grind arith

-- a row that fires, or none
pub row_fires : {R : Type 0} (P : State → Type 0) (s : State) (fire : R → State × List Message) (o : Option R) → P s
    → ((r : R) → P (fire r).0) → P (option_map_or fire o (s, [])).0
row_fires P s fire o f g = grind arith

fired_fits : (s : State) (kind : TimerKind) (k : Key) → Fits s → Fits (fired s kind k).0
unfolding fired fire_row downstream_expired neighbour_due keepalive_due override_timer_due join_timer_due
    other_querier_gone querying_on general_query_due hello_due register_due
fired_fits s kind k f =
    grind (arith, row_fires, asking, pending_left, group_due_fits, source_due_fits, assert_left, group_repeated, sources_repeated)

-- the keys of interfaces and of registers
record RowsIn (n : ℕ) (interfaces : Table InterfaceRow) (registers : Table RegisterRow) : Type 0 where
  of_iface : Under (OfIface n) interfaces
  own : Under Own registers

module _ (n : ℕ) where
  abbrev HasRows : State → Type 0
  HasRows s = RowsIn n s.interfaces s.registers

  fired_rows : (s : State) (kind : TimerKind) (k : Key) → HasRows s → HasRows (fired s kind k).0
  unfolding fired fire_row downstream_expired neighbour_due keepalive_due override_timer_due join_timer_due
      other_querier_gone querying_on general_query_due hello_due register_due group_repeat_due source_repeat_due sources_sent
      group_record_due source_record_due with_members with_repeats_of_rows
  fired_rows s kind k f = grind (arith, row_fires, pending_left, assert_left, under_changed)

-- ---- each event's own change

here_asking : (s : State) (g src iif : ℕ) → asking (source_here s g src iif) ≡ asking s
unfolding source_here settle_register with_keepalive
here_asking s g src iif = grind arith

change_fits : (s : State) (w : ℕ) (a : Accepted) → Fits s → Fits (change s w a).state
unfolding change iface_up querier_up querying rps_replaced register_stop_seen
change_fits s w (Accepted.Advance moment) f = f
change_fits s w (Accepted.Up i) f = f
change_fits s w (Accepted.Down i) f = down_fits s i.number f
change_fits s w (Accepted.Routes routes) f = f
change_fits s w (Accepted.Rps ranges) f = f
change_fits s w (Accepted.Hello i from h) f =
    subst (λ (u : Unhailed). FitsIn u.asking) (sym (hello_unhailed s i.number from.bits h w)) f
change_fits s w (Accepted.JoinPruneToMe i m) f = subst (λ (u : Whole). FitsIn u.asking) (sym (to_me_whole s i.number m)) f
change_fits s w (Accepted.JoinPruneSeen i m) f = subst (λ (u : Beside). FitsIn u.asking) (sym (seen_beside s w i.number m)) f
change_fits s w (Accepted.Assert i from a) f =
    subst (λ (u : Whole). FitsIn u.asking) (sym (assert_whole s i.number from.bits a)) f
change_fits s w (Accepted.Query i from q) f = query_fits s i.number from.bits q f
change_fits s w (Accepted.Report i records) f = report_fits s i.number records f
change_fits s w (Accepted.Data i p) f =
    subst (λ (u : Whole). FitsIn u.asking) (sym (data_whole s p.destination p.source i.number))
    (subst FitsIn (sym (here_asking s p.destination p.source i.number)) f)
change_fits s w (Accepted.Register p (Encapsulated inner)) f =
    subst (λ (u : Whole). FitsIn u.asking) (sym (register_whole s p inner.destination inner.source false)) f
change_fits s w (Accepted.Register p (Null source group)) f =
    subst (λ (u : Whole). FitsIn u.asking) (sym (register_whole s p group source true)) f
change_fits s w (Accepted.RegisterStop from r) f = f

module _ (n : ℕ) where
  triggered_rows : (i end : ℕ) (t : Table InterfaceRow) → Under (OfIface n) t → Under (OfIface n) (hellos_triggered i end t)
  unfolding hellos_triggered
  triggered_rows i end t f =
      each_map (λ e. OfIface n e.0) (λ e. OfIface n e.0) _
      (λ e h. by_cond (λ (p : Key × InterfaceRow). OfIface n p.0) (is_on i e.0) _ e h h) t f

  hello_rows : (s : State) (i address : ℕ) (h : HelloValue) (w : ℕ) → HasRows n s → HasRows n (hello_received s i address h w)
  unfolding hello_received hello_triggered neighbour_replaced neighbour_restarted
  hello_rows s i address h w f = grind (arith, triggered_rows)

  here_rows : (s : State) (g src iif : ℕ) → HasRows n s → HasRows n (source_here s g src iif)
  unfolding source_here settle_register with_keepalive
  here_rows s g src iif f = grind (arith, by_cond, register_own, same_key_same)

  abbrev RowsOf : Whole → Type 0
  RowsOf u = RowsIn n ((u.lasting).still).interfaces ((u.lasting).still).registers

  change_rows : (s : State) (w : ℕ) (a : Accepted) → IsIn n a → HasRows n s → HasRows n (change s w a).state
  unfolding change iface_up querier_up querying rps_replaced register_stop_seen registers_after_rps iface_down
  change_rows s w (Accepted.Advance moment) here f = f
  change_rows s w (Accepted.Up i) here f = record {
    of_iface = under_put (OfIface n) s.interfaces (iface_key i.number) _
        (both_true (same_key_same (iface_key i.number)) (lt-ltb i.number n here)) f.of_iface;
    own = f.own;
  }
  change_rows s w (Accepted.Down i) here f =
      record { of_iface = under_where (OfIface n) (is_on i.number) s.interfaces f.of_iface; own = f.own }
  change_rows s w (Accepted.Routes routes) here f = f
  change_rows s w (Accepted.Rps ranges) here f = record {
    of_iface = f.of_iface;
    own = each_map (λ e. Own e.0) (λ e. Own e.0) _
        (λ e h. by_cond (λ (p : Key × RegisterRow). Own p.0) _ e (e.0, record { state = RegisterState.Join }) h h) s.registers f.own;
  }
  change_rows s w (Accepted.Hello i from h) here f = hello_rows s i.number from.bits h w f
  change_rows s w (Accepted.JoinPruneToMe i m) here f = subst RowsOf (sym (to_me_whole s i.number m)) f
  change_rows s w (Accepted.JoinPruneSeen i m) here f =
      subst (λ (u : Beside). RowsIn n (u.still).interfaces (u.still).registers) (sym (seen_beside s w i.number m)) f
  change_rows s w (Accepted.Assert i from a) here f = subst RowsOf (sym (assert_whole s i.number from.bits a)) f
  change_rows s w (Accepted.Query i from q) here f =
      subst (λ (u : Lasting). RowsIn n (u.still).interfaces (u.still).registers) (sym (query_lasting s i.number from.bits q)) f
  change_rows s w (Accepted.Report i records) here f =
      subst (λ (u : Lasting). RowsIn n (u.still).interfaces (u.still).registers) (sym (report_lasting s i.number records)) f
  change_rows s w (Accepted.Data i p) here f =
      subst RowsOf (sym (data_whole s p.destination p.source i.number))
      (here_rows s p.destination p.source i.number f)
  change_rows s w (Accepted.Register p (Encapsulated inner)) here f =
      subst RowsOf (sym (register_whole s p inner.destination inner.source false)) f
  change_rows s w (Accepted.Register p (Null source group)) here f = subst RowsOf (sym (register_whole s p group source true)) f
  change_rows s w (Accepted.RegisterStop from r) here f = record {
    of_iface = f.of_iface;
    own = each_map (λ e. Own e.0) (λ e. Own e.0) _ (λ e h. by_cond (λ (p : Key × RegisterRow). Own p.0) _ _ e h h) s.registers f.own;
  }

  spread : (g src : ℕ) → Own (source_key 0 g src) → (i : ℕ) → i < n → Any (source_key i g src)
  spread g src own i lt = tt

  names_own : (s : State) (a : Accepted) → IsIn n a → Names Any Own n spread s a
  names_own s a here = grind (arith, each_of_all, same_key_same)

  -- ---- all together

  record Mid (s : State) : Type 0 where
    fits : Fits s
    rows : HasRows n s
    keyed : Kept Any Own s

  pub record Between (s : State) : Type 0 where
    pub fits : Fits s
    pub rests : Rests n s.registers s.sources s.interfaces
    pub keyed : Kept Any Own s

  rows_between : (s : State) → Between s → HasRows n s
  rows_between s f = record { of_iface = f.rests.of_iface; own = f.rests.own }

  moves : (s : State) (m : ℕ) → Between s → Between (record s { present = m })
  moves s m f = record { fits = f.fits; rests = f.rests; keyed = f.keyed }

  fires : (s : State) (kind : TimerKind) (k : Key) → Between s → Mid (fired s kind k).0
  fires s kind k f = record {
    fits = fired_fits s kind k f.fits;
    rows = fired_rows n s kind k (rows_between s f);
    keyed = fired_kept Any Own s kind k f.keyed;
  }

  follows : (o : State) (c : State × List Message) (w : ℕ) → Mid c.0 → Between (settled o c w).0
  follows o c w f = record {
    fits = subst FitsIn (sym (settled_asking o c w)) f.fits;
    rests = settled_rests n o c w f.keyed.sources f.rows.own f.rows.of_iface;
    keyed = settled_kept Any Own o c w f.keyed;
  }

  changes : (s : State) → IsSettled s → (w : ℕ) (a : Accepted) → IsIn n a → Between s → Mid (change s w a).state
  changes s settled w a here f = record {
    fits = change_fits s w a f.fits;
    rows = change_rows s w a here (rows_between s f);
    keyed = change_kept Any Own n spread s settled w a (names_own s a here) f.keyed;
  }

  -- ---- what is kept from event to event

  pub record Holds (s : State) : Type 0 where
    pub settled : IsSettled s
    pub links : iface_count s ≡ n
    pub between : Between s

  in_time : (m : ℕ) → m ≤ m
  in_time m = omega arith

  holds_on : (s : State) (e : Event) → Holds s → Holds (step s e).state
  holds_on s e f = record {
    settled = step_is_settled s e f.settled;
    links = ap (λ (cs : Addressing). length cs.interfaces) (sym (step_configured s e).configured) ∙ f.links;
    between = event_walks Between (λ o t. Mid t) s e f.between
        (λ moment le. time_walks Between (λ o t. Mid t) moment (λ t m le g. moves t m g)
        (λ t m kind k le g. fires (record t { present = m }) kind k (moves t m g)) (λ o c w g h. follows o c w h) s e.draw moment
        (in_time moment) f.between)
        (λ a is. changes s f.settled e.draw a (placed a is) f.between) (λ o c w g h. follows o c w h);
  }
    where
      placed : (a : Accepted) → judged s e.kind ≡ Ok a → IsIn n a
      placed a is =
          (subst (IsPlaced n) is (subst (λ (m : ℕ). IsPlaced m (judged s e.kind)) f.links (kind_is_placed s (iface_count s) (omega arith) e.kind))).accepts

opening_holds : (c : Config) → IsSettled (opening c) → Holds (length c.interfaces) (opening c)
unfolding opening
opening_holds c settled = record {
  settled = settled;
  links = refl;
  between = record {
    fits = record { groups = tt; sendings = tt; sources = tt };
    rests = record { own = tt; kept = tt; of_iface = tt };
    keyed = record { asserts = tt; downstream = tt; groups = tt; sources = tt };
  };
}

pub run_holds : (c : Config) (events : List Event) → config_test c ≡ Ok tt → Holds (length c.interfaces) (state_after (opening c) events)
run_holds c events e =
    kept_by_run (Holds (length c.interfaces)) (holds_on (length c.interfaces)) (opening c) events (opening_holds c (opening_is_settled c e))

-- ---- as it is said

kept_there : (s : State) (k : Key) → Own k → is_kept s.sources k ≡ true → has_row s.sources k ≡ true
kept_there s k own e = grind (arith, equal_keys, has_row_any, any_more)

pub lies_under : (n : ℕ) (s : State) → Holds n s → LiesUnder s
lies_under n s f = record {
  interfaces = list_of_each (λ (e : Key × InterfaceRow). is_of_interface s e.0) s.interfaces
      (subst (λ (m : ℕ). Under (OfIface m) s.interfaces) (sym f.links) f.between.rests.of_iface);
  queriers = list_of_each (λ (e : Key × QuerierRow). has_row s.interfaces e.0) s.queriers
      (each_both _ _ _
      (λ e form up. subst (λ (k : Key). has_row s.interfaces k ≡ true) (equal_keys (iface_key (iface_in e.0)) e.0 (first_so _ _ form)) up) s.queriers
      (each_of_list is_querier_entry s.queriers f.settled.ahead.firable.queriers)
      (each_of_list (λ (e : Key × QuerierRow). has_row s.interfaces (iface_key (iface_in e.0))) s.queriers f.settled.tidy.queriers));
  group_repeats = list_of_each (λ (e : Key × GroupRepeatRow). has_row s.group_records e.0) s.group_repeats f.between.fits.groups;
  sendings = list_of_each _ s.sendings f.between.fits.sendings;
  source_repeats = list_of_each _ s.source_repeats (each_more _ _ (λ e h. h.left) s.source_repeats f.between.fits.sources);
  registers = list_of_each (λ (e : Key × RegisterRow). has_row s.sources e.0) s.registers
      (each_both (λ e. Own e.0) (λ e. is_kept s.sources e.0 ≡ true) (λ e. has_row s.sources e.0 ≡ true) (λ e own kept. kept_there s e.0 own kept)
      s.registers f.between.rests.own f.between.rests.kept);
}

pub each_lies_under : EachLiesUnder
each_lies_under c events e = lies_under (length c.interfaces) (state_after (opening c) events) (run_holds c events e)
