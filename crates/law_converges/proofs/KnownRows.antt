-- What holds of each neighbour's row, event after event, where it holds of what a Hello leaves.
use Rattle.std.{proofs.Common.{◌≡◌, ◌∙◌, ℕ, not, Bool, true, false, List, [], Option, Some, None, Ok, refl, sym, ap, subst, arith}, specs.{List.{list_all}, Option.option_map_or}}
use Rattle.pim_types.{specs.{Keys.{is_on, neighbour_key, same_key}, declared.{event.Event.Event, fact.{Key.Key, NeighbourRow.NeighbourRow}, timer.TimerKind.TimerKind}}}
use Rattle.pim_wire.{specs.{Values.{Encapsulated, Null}, declared.hello.Hello.Hello as HelloValue}}
use Rattle.pim_model.{specs.{declared.accepted.Accepted.Accepted, Asserts.assert_received, Cause.{done_as, if_done}, Downstream.{downstream_expired, to_me}, Firing.{fire_row, fired, keepalive_due, settled}, Forwarding.{forwarded, source_here}, Hellos.{hello_due, hello_received, neighbour_due, neighbours_replaced, row_of_hello}, Judging.{Judged, judged}, Messages.Message, Querier.{general_query_due, group_record_due, group_repeat_due, other_querier_gone, querier_up, query_seen, querying, querying_on, report_seen, source_record_due, source_repeat_due, sources_sent}, Records.{with_members, with_repeats_of_rows}, Registers.{register_due, register_stop_seen, settle_register, with_keepalive}, Seen.seen, State.State, Step.{advanced, change, concluded, done, iface_down, iface_up, rps_replaced, step, taken, taken_unless_full}, Tables.{Table, drop_at, drop_where, set_row}, Upstream.{join_timer_due, override_timer_due}}}
use Rattle.law_settled.{proofs.{ListLaws.{all_of_filter, each_of_list, list_of_each}, RowLaws.each_put, UnchangedLaws.{full_or_taken, taken_done}, Unsettled.{Unsettled, settling_leaves}}}
use Rattle.law_streams.{specs.Copies.happens, proofs.{EndSoon.no_later, Lasting.{Beside, Lasting, Whole, assert_lasting, assert_whole, data_whole, lasting, pending_lasting, query_lasting, register_whole, report_lasting, seen_beside, still, to_me_whole, whole}, Neighbours.hello_rows, Walks.time_walks}}

module _ (known : Key × NeighbourRow → Bool) where
  abbrev pub Each : State → Type 0
  Each s = list_all known s.neighbours ≡ true

  by_rows : (s t : State) → t.neighbours ≡ s.neighbours → Each s → Each t
  by_rows s t same f = ap (list_all known) same ∙ f

  -- ---- a Hello

  -- what holds of the row that a Hello leaves
  abbrev pub is_fresh : State → Option Accepted → Bool
  is_fresh s (Some (Accepted.Hello j from h)) =
      option_map_or (λ (r : NeighbourRow). known (neighbour_key j.number from.bits, r)) (row_of_hello s.present h) true
  is_fresh s o = true

  set_each : (o : Option NeighbourRow) (k : Key) (t : Table NeighbourRow) → option_map_or (λ (r : NeighbourRow). known (k, r)) o true ≡ true
      → list_all known t ≡ true → list_all known (set_row t k o) ≡ true
  unfolding set_row drop_at drop_where
  set_each None k t new f = all_of_filter (λ (e : Key × NeighbourRow). not (same_key k e.0)) known t f
  set_each (Some r) k t new f =
      list_of_each known _ (each_put k r (λ (e : Key × NeighbourRow). known e ≡ true) new t (each_of_list known t f))

  hello_each : (s : State) (j from : ℕ) (h : HelloValue) (w : ℕ)
      → option_map_or (λ (r : NeighbourRow). known (neighbour_key j from, r)) (row_of_hello s.present h) true ≡ true
      → Each s → Each (hello_received s j from h w)
  unfolding neighbours_replaced
  hello_each s j from h w new f =
      ap (list_all known) (hello_rows 0 0 0 s j from h w)
      ∙ set_each (row_of_hello s.present h) (neighbour_key j from) s.neighbours new f

  -- ---- each event's own change

  down_each : (s : State) (j : ℕ) → Each s → Each (iface_down s j)
  unfolding iface_down drop_where
  down_each s j f = all_of_filter (λ (e : Key × NeighbourRow). not (is_on j e.0)) known s.neighbours f

  here_rows : (s : State) (g src iif : ℕ) → (source_here s g src iif).neighbours ≡ s.neighbours
  unfolding source_here settle_register with_keepalive
  here_rows s g src iif = grind arith

  change_each : (s : State) (w : ℕ) (a : Accepted) → Each s → is_fresh s (Some a) ≡ true → Each (change s w a).state
  unfolding change iface_up querier_up querying rps_replaced register_stop_seen
  change_each s w (Accepted.Advance moment) f new = f
  change_each s w (Accepted.Up j) f new = f
  change_each s w (Accepted.Down j) f new = down_each s j.number f
  change_each s w (Accepted.Routes routes) f new = f
  change_each s w (Accepted.Rps ranges) f new = f
  change_each s w (Accepted.Hello j from h) f new = hello_each s j.number from.bits h w new f
  change_each s w (Accepted.JoinPruneToMe j m) f new = by_rows s (to_me s j.number m) (ap (λ (u : Whole). ((u.lasting).still).neighbours) (to_me_whole s j.number m)) f
  change_each s w (Accepted.JoinPruneSeen j m) f new = by_rows s (seen s w j.number m) (ap (λ (u : Beside). (u.still).neighbours) (seen_beside s w j.number m)) f
  change_each s w (Accepted.Assert j from a) f new = by_rows s (assert_received s j.number from.bits a).0 (ap (λ (u : Whole). ((u.lasting).still).neighbours) (assert_whole s j.number from.bits a)) f
  change_each s w (Accepted.Query j from q) f new = by_rows s (query_seen s j.number from.bits q) (ap (λ (u : Lasting). (u.still).neighbours) (query_lasting s j.number from.bits q)) f
  change_each s w (Accepted.Report j records) f new = by_rows s (report_seen s j.number records).0 (ap (λ (u : Lasting). (u.still).neighbours) (report_lasting s j.number records)) f
  change_each s w (Accepted.Data j p) f new =
      by_rows s (forwarded s p.destination p.source j.number).state (ap (λ (u : Whole). ((u.lasting).still).neighbours) (data_whole s p.destination p.source j.number)
      ∙ here_rows s p.destination p.source j.number) f
  change_each s w (Accepted.Register p (Encapsulated inner)) f new = grind (arith, by_rows, whole, lasting, still, register_whole)
  change_each s w (Accepted.Register p (Null source group)) f new = grind (arith, by_rows, whole, lasting, still, register_whole)
  change_each s w (Accepted.RegisterStop from r) f new = f

  -- ---- a timer

  row_fires : {R : Type 0} (P : State → Type 0) (s : State) (o : Option R) (fire : R → State × List Message) → P s
      → ((r : R) → P (fire r).0) → P (option_map_or fire o (s, [])).0
  row_fires P s o fire f h = grind arith

  register_same : (s : State) (k : Key) (r : _) → (register_due s k r).0.neighbours ≡ s.neighbours
  unfolding register_due
  register_same s k r = grind arith

  abbrev is_neighbours : TimerKind → Bool
  is_neighbours TimerKind.Neighbour = true
  is_neighbours _ = false

  others_same : (s : State) (kind : TimerKind) (k : Key) → is_neighbours kind ≡ false → (fired s kind k).0.neighbours ≡ s.neighbours
  unfolding fired fire_row downstream_expired keepalive_due override_timer_due join_timer_due
      other_querier_gone querying_on group_repeat_due source_repeat_due sources_sent general_query_due hello_due
      group_record_due source_record_due with_members with_repeats_of_rows
  others_same s kind k e = grind (arith, row_fires, pending_lasting, assert_lasting, register_same)

  due_each : (s : State) (k : Key) → Each s → Each (fired s TimerKind.Neighbour k).0
  unfolding fired neighbour_due drop_at drop_where
  due_each s k f = all_of_filter (λ (e : Key × NeighbourRow). not (same_key k e.0)) known s.neighbours f

  neighbour_is : (kind : TimerKind) → is_neighbours kind ≡ true → kind ≡ TimerKind.Neighbour
  neighbour_is kind e = grind arith

  fired_each : (s : State) (kind : TimerKind) (k : Key) → Each s → Each (fired s kind k).0
  fired_each s kind k f = go (is_neighbours kind) refl
    where
      go : (b : Bool) → is_neighbours kind ≡ b → Each (fired s kind k).0
      go true e = subst (λ (q : TimerKind). Each (fired s q k).0) (sym (neighbour_is kind e)) (due_each s k f)
      go false e = by_rows s (fired s kind k).0 (others_same s kind k e) f

  settled_rows : (o : State) (c : State × List Message) (w : ℕ) → (settled o c w).0.neighbours ≡ c.0.neighbours
  settled_rows o c w = ap (λ (u : Unsettled). u.neighbours) (settling_leaves o c w)

  -- ---- any event

  module _ (s : State) (f : Each s) where
    time_each : (w m : ℕ) → Each (advanced s w m).state
    time_each w m =
        time_walks Each (λ o t. Each t) m (λ t x le g. g) (λ t x kind k le g. fired_each (record t { present = x }) kind k g)
        (λ o c x g h. by_rows c.0 (settled o c x).0 (settled_rows o c x) h) s w m (no_later m) f

    done_each : (w : ℕ) (a : Accepted) → is_fresh s (Some a) ≡ true → Each (done s w (change s w a)).state
    unfolding done
    done_each w a new =
        by_rows (change s w a).state (settled s ((change s w a).state, (change s w a).messages) w).0 (settled_rows s ((change s w a).state, (change s w a).messages) w) (change_each s w a f new)

    taken_each : (w : ℕ) (a : Accepted) → is_fresh s (Some a) ≡ true → Each (taken s w a).state
    unfolding taken
    taken_each w (Accepted.Advance moment) new = time_each w moment
    taken_each w a new = done_each w a new

    full_each : (w : ℕ) (a : Accepted) (b : Bool) → is_fresh s (if_done (full_or_taken s w a b).answer (Ok a)) ≡ true
        → Each (full_or_taken s w a b).state
    full_each w a b new = grind (arith, taken_each, taken_done)

    concluded_each : (w : ℕ) (j : Judged) → is_fresh s (if_done (concluded s (taken_unless_full s w) j).answer j) ≡ true
        → Each (concluded s (taken_unless_full s w) j).state
    unfolding taken_unless_full
    concluded_each w j new = grind (arith, full_each)

  -- what holds of each row goes on to hold of each, where it holds of what a Hello leaves
  pub event_each : (s : State) (e : Event) → Each s → is_fresh s (done_as (happens s e)) ≡ true → Each (step s e).state
  unfolding step done_as
  event_each s e f new = concluded_each s f e.draw (judged s e.kind) new
