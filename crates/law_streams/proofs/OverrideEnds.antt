-- Override timers end soon: where no neighbour announces more, each ends within the longest override interval.
use Rattle.std.{proofs.{Common.{◌≡◌, ℕ, zero, suc, ◌+◌, ◌≤◌, not, max, min, Bool, true, false, cond, List, [], ◌∷◌, fold, Option, Some, None, refl, sym, subst, arith}, lemmas.Nat.mod_below}, specs.{List.{AllByRecursion, slice_get}, Option.option_map_or}}
use Rattle.pim_ip.{specs.declared.lan.LanDelay.LanDelay}
use Rattle.pim_types.{specs.{Keys.{is_on, rpt_key, same_key, source_key}, declared.{config.{IfaceId.IfaceId, InterfaceConfig.InterfaceConfig}, fact.{Key.Key, NeighbourRow.NeighbourRow, OverrideTimerRow.OverrideTimerRow}, timer.TimerKind.TimerKind, upstream.{SourceView.SourceView, TreeState.TreeState}}}}
use Rattle.pim_wire.{specs.{Values.{Encapsulated, JoinPrune, Null}, declared.hello.Hello.Hello as HelloValue}}
use Rattle.pim_model.{specs.{declared.accepted.Accepted.Accepted, Asserts.{assert_forgotten, without_spt_bit}, Clearing.clear, Downstream.downstream_expired, Firing.{fire_row, fired, keepalive_due, settled}, Forwarding.source_here, Hellos.{hello_due, hello_received, hello_triggered, neighbour_due, neighbour_replaced, neighbour_restarted, neighbours_replaced}, Messages.Message, Neighbours.{effective_delay, greatest_delay, override_interval_among, t_override, t_override_among}, Querier.{general_query_due, group_record_due, group_repeat_due, other_querier_gone, querier_up, querying, querying_on, source_record_due, source_repeat_due, sources_sent}, Records.{with_members, with_repeats_of_rows}, Registers.{register_due, register_stop_seen, settle_register, settle_registers, with_keepalive}, Seen.{cancel_override_timer, lower_join_timer, lower_override_timer, override_end, raise_join_timer, seen}, State.{Addressing, State}, Step.{change, iface_down, iface_up, rps_replaced}, Tables.{Table, delay_in, drop_at, drop_where, row_at, rows_on, set_row}, Upstream.{TimerChange, Told, becomes_star, group_upstream, join_timer_due, moved_join_timer, moved_override_timer, override_on, override_timer_due, rpt_told, rpt_told_from, source_told, source_upstream, source_view, upstream, with_join_timer, with_override_timer}, Writing.write_all}}
use Rattle.law_settled.{proofs.{ListLaws.{by_cond, each_filter}, RowLaws.each_put, SettlingLaws.{IsFair, kept_by_clearing, moved_override_row}, TableLaws.row_of_each, TurnLaws.kept_in_turn, SeenLaws.kept_by_seen, Unsettled.{Unsettled, clearing_leaves, settling_leaves}}}
use Rattle.law_streams.{specs.Uncounted.longest_override, proofs.{LiesUnder.row_fires, Lasting.{Beside, Lasting, Whole, assert_lasting, assert_whole, data_whole, pending_lasting, query_lasting, register_whole, report_lasting, seen_beside, to_me_whole}}}

-- ---- how long an override takes at most

-- an announcement of no more
abbrev pub IsShort : Option LanDelay → Type 0
IsShort None = Unit {0}
IsShort (Some d) = d.override_interval ≤ longest_override

abbrev pub AreShort : Table NeighbourRow → Type 0
AreShort t = AllByRecursion (λ e. IsShort (e.1).lan_delay) t

abbrev pub AreConfiguredShort : List InterfaceConfig → Type 0
AreConfiguredShort cs = AllByRecursion (λ c. c.override_interval ≤ longest_override) cs

one_short : (mine : ℕ) (o : Option LanDelay) → mine ≤ longest_override → IsShort o
    → max mine (option_map_or (λ (d : LanDelay). d.override_interval) o 0) ≤ longest_override
one_short mine o le f = grind arith

most_short : (rows : Table NeighbourRow) (mine : ℕ) → mine ≤ longest_override → AreShort rows
    → fold (λ most (e : Key × NeighbourRow). max most (option_map_or (λ (d : LanDelay). d.override_interval) (e.1).lan_delay 0)) mine rows
    ≤ longest_override
most_short [] mine le f = le
most_short (e ∷ es) mine le f = most_short es _ (one_short mine (e.1).lan_delay le f.0) f.1

effective_short : (mine : ℕ) (rows : Table NeighbourRow) → mine ≤ longest_override → AreShort rows → override_interval_among mine rows ≤ longest_override
unfolding override_interval_among effective_delay greatest_delay
effective_short mine rows le f = by_cond (λ (n : ℕ). n ≤ longest_override) _ _ 2500 (most_short rows mine le f) (omega arith)

drawn_short : (v w : ℕ) → v ≤ longest_override → delay_in 1 (max 1 v) w ≤ longest_override
unfolding delay_in
drawn_short v w le = grind (arith, mod_below)

value_short : (cs : List InterfaceConfig) (i : ℕ) → AreConfiguredShort cs
    → option_map_or (λ (c : InterfaceConfig). c.override_interval) (slice_get cs i) 0 ≤ longest_override
value_short [] i f = omega arith
value_short (c ∷ cs) zero f = f.0
value_short (c ∷ cs) (suc i) f = value_short cs i f.1

-- no more is announced, or configured
pub record IsBrief (configured : Addressing) (neighbours : Table NeighbourRow) : Type 0 where
  pub mine : AreConfiguredShort configured.interfaces
  pub theirs : AreShort neighbours

abbrev pub Brief : State → Type 0
Brief s = IsBrief s.configured s.neighbours

pub override_short : (s : State) (i w : ℕ) → Brief s → t_override s i w ≤ longest_override
unfolding t_override t_override_among rows_on
override_short s i w f = grind (arith, drawn_short, effective_short, value_short, each_filter)

-- an event that announces no more
abbrev pub IsBriefly : Accepted → Type 0
IsBriefly (Accepted.Hello i from h) = IsShort h.lan_delay
IsBriefly a = Unit {0}

-- ---- the ends by then

module _ (last : ℕ) where
  abbrev IsBy : ℕ → Type 0
  IsBy end = end ≤ last + longest_override

  abbrev EndBy : Table OverrideTimerRow → Type 0
  EndBy t = AllByRecursion (λ e. IsBy (e.1).end) t

  pub record Soon (present : ℕ) (configured : Addressing) (neighbours : Table NeighbourRow) (timers : Table OverrideTimerRow) : Type 0 where
    pub now : present ≤ last
    pub brief : IsBrief configured neighbours
    pub ends : EndBy timers

  abbrev pub IsSoon : State → Type 0
  IsSoon s = Soon s.present s.configured s.neighbours s.override_timers

  by_then : (p d : ℕ) → p ≤ last → d ≤ longest_override → IsBy (p + d)
  by_then p d x y = omega (arith, x, y)

  set_ends : (o : Option OverrideTimerRow) (k : Key) (t : Table OverrideTimerRow) → ((r : OverrideTimerRow) → o ≡ Some r → IsBy r.end)
      → EndBy t → EndBy (set_row t k o)
  unfolding set_row drop_at drop_where
  set_ends o k t h f = grind (arith, each_filter, each_put)

  dropped_ends : (k : Key) (t : Table OverrideTimerRow) → EndBy t → EndBy (drop_at t k)
  unfolding drop_at drop_where
  dropped_ends k t f = each_filter (λ e. IsBy (e.1).end) (λ e. not (same_key k e.0)) t f

  -- ---- what is sent upstream

  override_by : (a : State) (w : ℕ) (iface : Option IfaceId) → a.present ≤ last → Brief a → IsBy (override_on a w iface)
  override_by a w iface now brief = grind (arith, by_then, override_short)

  module _ (a : State) (w : ℕ) (now : a.present ≤ last) (brief : Brief a) where
    record TellsBy (t : Told) : Type 0 where
      fair : IsFair IsBy t.timer

    told_by : (g src : ℕ) (old new : SourceView) (was is : TreeState) → TellsBy (rpt_told_from a w g src old new was is)
    unfolding rpt_told_from
    told_by g src old new TreeState.NotPruned TreeState.Pruned = record { fair = tt }
    told_by g src old new TreeState.Pruned TreeState.NotPruned = record { fair = tt }
    told_by g src old new TreeState.NotPruned TreeState.NotPruned =
        by_cond TellsBy (becomes_star old new) _ _ (record { fair = override_by a w _ now brief }) (record { fair = tt })
    told_by g src old new TreeState.NotPruned TreeState.NotJoined = record { fair = tt }
    told_by g src old new TreeState.Pruned TreeState.Pruned = record { fair = tt }
    told_by g src old new TreeState.Pruned TreeState.NotJoined = record { fair = tt }
    told_by g src old new TreeState.NotJoined is = record { fair = tt }

    moved_by : (s : State) (k : Key) (change : TimerChange) → IsFair IsBy change → EndBy s.override_timers
        → EndBy (moved_override_timer s k change).override_timers
    unfolding moved_override_timer
    moved_by s k change fair f = grind (arith, fair, set_ends, row_of_each, moved_override_row)

    with_by : (s : State) (k : Key) (change : TimerChange) → IsFair IsBy change → EndBy s.override_timers
        → EndBy (with_override_timer s k change).override_timers
    unfolding with_override_timer
    with_by s k change fair f = grind (arith, fair, moved_by)

    join_by : (s : State) (k : Key) (change : TimerChange) → EndBy s.override_timers → EndBy (with_join_timer s k change).override_timers
    unfolding with_join_timer moved_join_timer
    join_by s k change f = grind arith

    source_by : (o : State) (g : ℕ) (s : State) (src : ℕ) → EndBy s.override_timers → EndBy (source_upstream o a w g s src).0.override_timers
    unfolding source_upstream rpt_told
    source_by o g s src f =
        with_by _ (rpt_key 0 g src) _ (told_by g src (source_view o g src) (source_view a g src) _ _).fair
        (join_by s (source_key 0 g src) (source_told a w g src (source_view o g src) (source_view a g src)).timer f)

    group_by : (o : State) (keys : List Key) (s : State) (g : ℕ) → EndBy s.override_timers → EndBy (group_upstream o a w keys s g).0.override_timers
    unfolding group_upstream
    group_by o keys s g f =
        kept_in_turn (source_upstream o a w g) (λ t. EndBy t.override_timers) (λ t src h. source_by o g t src h) _ _ (join_by s _ _ f)

    upstream_by : (o : State) → EndBy a.override_timers → EndBy (upstream o a w).0.override_timers
    unfolding upstream
    upstream_by o f =
        kept_in_turn (group_upstream o a w _) (λ t. EndBy t.override_timers) (λ t g h. group_by o _ t g h) _ a f

  -- ---- a Join/Prune between other routers

  lower_by : (row : Option OverrideTimerRow) (end : ℕ) → ((r : OverrideTimerRow) → row ≡ Some r → IsBy r.end) → IsBy end
      → IsBy (option_map_or (λ (r : OverrideTimerRow). min r.end end) row end)
  lower_by row end h le = grind arith

  seen_by : (s : State) (w i : ℕ) (m : JoinPrune) → s.present ≤ last → Brief s → EndBy s.override_timers → EndBy (seen s w i m).override_timers
  unfolding raise_join_timer lower_join_timer cancel_override_timer lower_override_timer
  seen_by s w i m now brief f =
      kept_by_seen (λ t. EndBy t.override_timers) s w i m (λ t k end g. g) (λ t k g. g)
      (λ t k g. dropped_ends k t.override_timers g)
      (λ t k g. each_put k _ (λ e. IsBy (e.1).end)
      (lower_by (row_at t.override_timers k) (override_end s i w) (λ r e. row_of_each (λ x. IsBy (x.1).end) k r t.override_timers g e)
      (by_then s.present (t_override s i w) now (override_short s i w brief))) t.override_timers g) f

  -- ---- all that follows

  clear_by : (o s : State) → (clear o s).0.override_timers ≡ s.override_timers
  unfolding settle_registers assert_forgotten without_spt_bit
  clear_by o s = kept_by_clearing (λ t. t.override_timers ≡ s.override_timers) (λ t k f. f) (λ t k f. f) o s refl

  settled_by : (o : State) (c : State × List Message) (w : ℕ) → IsSoon c.0 → EndBy (settled o c w).0.override_timers
  unfolding settled write_all
  settled_by o c w f =
      let after : State = (clear o c.0).0 in
      upstream_by after w (subst (λ (u : Unsettled). u.present ≤ last) (sym (clearing_leaves o c.0)) f.now)
      (subst (λ (u : Unsettled). IsBrief u.configured u.neighbours) (sym (clearing_leaves o c.0)) f.brief) o
      (subst EndBy (sym (clear_by o c.0)) f.ends)

  pub soon_follows : (o : State) (c : State × List Message) (w : ℕ) → IsSoon c.0 → IsSoon (settled o c w).0
  soon_follows o c w f = grind (arith, settling_leaves, settled_by)

  -- ---- the ends of rows

  abbrev SoonIn : Lasting → Type 0
  SoonIn l = Soon (l.still).present (l.still).configured (l.still).neighbours l.override_timers

  pub soon_fires : (s : State) (kind : TimerKind) (k : Key) → IsSoon s → IsSoon (fired s kind k).0
  unfolding fired fire_row downstream_expired neighbour_due keepalive_due override_timer_due join_timer_due
      other_querier_gone querying_on general_query_due hello_due register_due group_repeat_due source_repeat_due sources_sent
      group_record_due source_record_due with_members with_repeats_of_rows drop_at drop_where
  soon_fires s kind k f = grind (arith, each_filter, row_fires, pending_lasting, assert_lasting, dropped_ends)

  -- ---- each event's own change

  soon_here : (s : State) (g src iif : ℕ) → IsSoon s → IsSoon (source_here s g src iif)
  unfolding source_here settle_register with_keepalive
  soon_here s g src iif f = by_cond IsSoon _ (settle_register (with_keepalive s g src) (source_key 0 g src)) s f f

  set_short : (o : Option NeighbourRow) (k : Key) (t : Table NeighbourRow) → ((r : NeighbourRow) → o ≡ Some r → IsShort r.lan_delay)
      → AreShort t → AreShort (set_row t k o)
  unfolding set_row drop_at drop_where
  set_short o k t h f = grind (arith, each_filter, each_put)

  said_short : (b : Bool) (row r : NeighbourRow) → IsShort row.lan_delay → cond b None (Some row) ≡ Some r → IsShort r.lan_delay
  said_short b row r f e = grind arith

  replaced_short : (present i address : ℕ) (h : HelloValue) (t : Table NeighbourRow) → IsShort h.lan_delay → AreShort t
      → AreShort (neighbours_replaced present i address h t)
  unfolding neighbours_replaced
  replaced_short present i address h t said f = grind (arith, set_short, said_short)

  soon_hello : (s : State) (i address : ℕ) (h : HelloValue) (w : ℕ) → IsShort h.lan_delay → IsSoon s → IsSoon (hello_received s i address h w)
  unfolding hello_received hello_triggered neighbour_replaced neighbour_restarted
  soon_hello s i address h w said f = grind (arith, replaced_short)

  abbrev SoonOf : Whole → Type 0
  SoonOf u = SoonIn u.lasting

  pub soon_changes : (s : State) (w : ℕ) (a : Accepted) → IsBriefly a → IsSoon s → IsSoon (change s w a).state
  unfolding change iface_up querier_up querying rps_replaced register_stop_seen iface_down drop_where
  soon_changes s w (Accepted.Advance moment) said f = f
  soon_changes s w (Accepted.Up i) said f = f
  soon_changes s w (Accepted.Down i) said f = record {
    now = f.now;
    brief = record { mine = f.brief.mine; theirs = each_filter (λ e. IsShort (e.1).lan_delay) (λ e. not (is_on i.number e.0)) s.neighbours f.brief.theirs };
    ends = f.ends;
  }
  soon_changes s w (Accepted.Routes routes) said f = f
  soon_changes s w (Accepted.Rps ranges) said f = f
  soon_changes s w (Accepted.Hello i from h) said f = soon_hello s i.number from.bits h w said f
  soon_changes s w (Accepted.JoinPruneToMe i m) said f = subst SoonOf (sym (to_me_whole s i.number m)) f
  soon_changes s w (Accepted.JoinPruneSeen i m) said f = record {
    now = subst (λ (u : Beside). (u.still).present ≤ last) (sym (seen_beside s w i.number m)) f.now;
    brief = subst (λ (u : Beside). IsBrief (u.still).configured (u.still).neighbours) (sym (seen_beside s w i.number m)) f.brief;
    ends = seen_by s w i.number m f.now f.brief f.ends;
  }
  soon_changes s w (Accepted.Assert i from a) said f = subst SoonOf (sym (assert_whole s i.number from.bits a)) f
  soon_changes s w (Accepted.Query i from q) said f = subst SoonIn (sym (query_lasting s i.number from.bits q)) f
  soon_changes s w (Accepted.Report i records) said f = subst SoonIn (sym (report_lasting s i.number records)) f
  soon_changes s w (Accepted.Data i p) said f =
      subst SoonOf (sym (data_whole s p.destination p.source i.number)) (soon_here s p.destination p.source i.number f)
  soon_changes s w (Accepted.Register p (Encapsulated inner)) said f =
      subst SoonOf (sym (register_whole s p inner.destination inner.source false)) f
  soon_changes s w (Accepted.Register p (Null source group)) said f = subst SoonOf (sym (register_whole s p group source true)) f
  soon_changes s w (Accepted.RegisterStop from r) said f = f

  pub soon_moves : (s : State) (m : ℕ) → m ≤ last → IsSoon s → IsSoon (record s { present = m })
  soon_moves s m le f = record { now = le; brief = f.brief; ends = f.ends }
