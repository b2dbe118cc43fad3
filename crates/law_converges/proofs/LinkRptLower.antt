-- A router that wants a source down the group's tree: its override timer, and its Join(S,G,rpt).
use Rattle.std.{proofs.{Common.{◌≡◌, ◌∙◌, ℕ, ◌+◌, ◌-◌, ◌≤◌, ◌==◌, ◌&&◌, ◌||◌, max, min, not, suc, zero, Bool, true, false, cond, List, [], ◌∷◌, ◌++◌, filter, fold, map, length, ◌⊎◌, inl, inr, Option, Some, None, option_map, refl, sym, ap, subst, arith, eq-eqb, eqb-true}, lemmas.{Bool.{both_ways, false_from_ne_true}, Nat.mod_below, List.Elements.{Contains-append_left, Contains-append_right}}}, specs.{List.{Contains, list_any}, Option.option_map_or}}
use Rattle.pim_ip.{specs.Ipv4.{all_pim_routers, pim_packet_text}}
use Rattle.pim_types.{specs.{Keys.{group_in, rpt_key, same_key, source_in, source_key, star_key}, declared.{event.Event.Event, fact.{Key.Key, OverrideTimerRow.OverrideTimerRow}, outcome.Emission.Emission, path.Hop.Hop, timer.TimerKind.TimerKind, upstream.{SourceView.SourceView, TreeState.TreeState}}}, proofs.Keys.{equal_keys, same_key_same}}
use Rattle.pim_wire.{specs.{JoinPrunes.join_prune_text, Values.{Encapsulated, JoinPrune, Null}, declared.join_prune.EntryKind.EntryKind}}
use Rattle.pim_model.{specs.{declared.accepted.Accepted.Accepted, Asserts.{assert_forgotten, without_spt_bit}, Cause.done_as, Clearing.clear, Desires.{rpf_rpt, rpf_source, rpf_star, tree_state}, Downstream.{Named, accepted_joins, accepted_prunes, downstream_expired, is_named, joined_keys, key_by, named_key, pruned_keys}, Firing.{fire_all, fire_instant, fire_once, fire_row, fired, keepalive_due, settled}, Forwarding.source_here, Hellos.{hello_due, neighbour_due}, Messages.{Message, entry}, Neighbours.{effective_override_interval, t_override, t_override_among}, Querier.{general_query_due, group_record_due, group_repeat_due, other_querier_gone, querier_up, querying, querying_on, source_record_due, source_repeat_due, sources_sent}, Records.{with_members, with_repeats_of_rows}, Registers.{register_due, register_stop_seen, settle_register, settle_registers, with_keepalive}, Repeat.{after_next, and_then, until_none}, Seen.{cancel_override_timer, is_star_entry, is_unpruned_towards, join_seen, lower_join_timer, lower_override_timer, lower_source_timer, lower_star_timer, lower_tree_timer, override_end, prune_seen, raise_join_timer, seen, suppressed_end, sources_joined_towards}, State.{State, interfaces_of, address_among}, Step.{Answered, advanced, change, done, iface_down, iface_up, rps_replaced, step, taken}, Tables.{Table, delay_in, drop_at, hop_at, put, row_at, same_hop, set_row}, Timers.{Ending, ending, next_due, timers}, Upstream.{TimerChange, Keep, Cancel, SetTo, LowerTo, Told, becomes_star, changed_end, group_upstream, join_prune_to, join_rpt_to, join_timer_due, moved_join_timer, moved_override_timer, nothing_told, override_timer_due, rpt_told, rpt_told_from, source_upstream, source_view, upstream, with_join_timer, with_override_timer}, Writing.{on_link, write_all}}}
use Rattle.law_settled.{proofs.{ListLaws.{by_cond, either}, RowLaws.{row_drop_away, row_put, row_put_away}, SettlingLaws.kept_by_clearing, TurnLaws.{kept_by_fold, kept_in_turn}, Unsettled.{Unsettled, clearing_leaves}}}
use Rattle.law_events.{specs.Scopes.{reads, scope}, proofs.{Asserts.place_read, JoinPrunes.set_here, SourceMacros.rpf_rpt_local}}
use Rattle.law_streams.{specs.{Copies.happens, Joins.{is_time, join_packet}}, proofs.{Lasting.{Lasting, Whole, assert_lasting, assert_whole, data_whole, hello_unhailed, Unhailed, pending_lasting, query_lasting, register_whole, report_lasting, to_me_whole}, Leaves.{all_there, taken_is_done, told_configured}, LiesUnder.row_fires, Made.step_taken, Sources.same_source_view, Taken.apart_keys, Tests.neither}}
use Rattle.law_converges.{specs.LinkRpt.{AllTheWay, AnswerComes, AnswersBy, AnswersIn, AtEachTurn, AfterTurn, OverrideLeaves, SeenPruneIsAnswered, Throughout, WantsFrom, joins_source, override_to, prunes_source, sees_join}, proofs.LinkRptWaits.not_done}

module _ (g src x : ℕ) where
  abbrev k : Key
  k = rpt_key 0 g src

  abbrev In : Option OverrideTimerRow → Type 0
  In o = AnswersIn x o

  abbrev By : State → Type 0
  By s = AnswersBy g src x s

  by_table : (s t : State) → t.override_timers ≡ s.override_timers → By s → By t
  by_table s t e f = subst (λ (rows : Table OverrideTimerRow). In (row_at rows k)) (sym e) f

  -- ---- a row that is set

  set_away : (q : Key) → same_key k q ≡ false → (t : Table OverrideTimerRow) (o : Option OverrideTimerRow)
      → row_at (set_row t q o) k ≡ row_at t k
  unfolding set_row
  set_away q off t o = grind (arith, row_drop_away, apart_keys, row_put_away)

  set_in : (q : Key) (t : Table OverrideTimerRow) (o : Option OverrideTimerRow) → (same_key k q ≡ true → In o) → In (row_at t k)
      → In (row_at (set_row t q o) k)
  set_in q t o new f = go (same_key k q) refl
    where
      go : (b : Bool) → same_key k q ≡ b → In (row_at (set_row t q o) k)
      go true same =
          subst (λ (y : Key). In (row_at (set_row t q o) y)) (sym (equal_keys k q same)) (subst In (sym (set_here q t o)) (new same))
      go false off = subst In (sym (set_away q off t o)) f

  dropped_in : (q : Key) (t : Table OverrideTimerRow) → same_key k q ≡ false → In (row_at t k) → In (row_at (drop_at t q) k)
  dropped_in q t off f = grind (arith, row_drop_away, apart_keys)

  -- ---- what is sent upstream

  -- a change that leaves a timer, or has it end sooner
  abbrev IsLow : TimerChange → Type 0
  IsLow Keep = Unit {0}
  IsLow (LowerTo e) = Unit {0}
  IsLow change = ⊥

  record TellsLow (t : Told) : Type 0 where
    low : IsLow t.timer

  lower_of : (a e : ℕ) → a ≤ x → min a e ≤ x
  lower_of a e le = grind arith

  lowered : (o : Option OverrideTimerRow) (e : ℕ) → In o
      → In (option_map (λ (n : ℕ). let r : OverrideTimerRow = record { end = n } in r) (changed_end (LowerTo e) (option_map (λ (r : OverrideTimerRow). r.end) o)))
  lowered o e f = rw f.found (record { row = record { end = min (f.row).end e }; found = refl; by = lower_of (f.row).end e f.by })

  moved_in : (s : State) (q : Key) (change : TimerChange) → (same_key k q ≡ true → IsLow change) → By s
      → By (with_override_timer s q change)
  unfolding with_override_timer moved_override_timer
  moved_in s q Keep low f = f
  moved_in s q (LowerTo e) low f =
      set_in q s.override_timers _
      (λ same. lowered (row_at s.override_timers q) e (subst (λ (y : Key). In (row_at s.override_timers y)) (equal_keys k q same) f)) f
  moved_in s q Cancel low f = set_in q s.override_timers _ (λ same. absurd (low same)) f
  moved_in s q (SetTo e) low f = set_in q s.override_timers _ (λ same. absurd (low same)) f

  join_leaves : (s : State) (q : Key) (change : TimerChange) → By s → By (with_join_timer s q change)
  unfolding with_join_timer moved_join_timer
  join_leaves s q change f = grind arith

  module _ (o a : State) (w : ℕ) (was : tree_state o g src ≡ TreeState.NotPruned) (is : tree_state a g src ≡ TreeState.NotPruned) where
    told_low : (old new : SourceView) → old.tree ≡ TreeState.NotPruned → new.tree ≡ TreeState.NotPruned → TellsLow (rpt_told a w g src old new)
    unfolding rpt_told rpt_told_from
    told_low old new e f =
        subst (λ (y : TreeState). TellsLow (rpt_told_from a w g src old new y new.tree)) (sym e)
        (subst (λ (y : TreeState). TellsLow (rpt_told_from a w g src old new TreeState.NotPruned y)) (sym f) both)
      where
        lowers : (end : ℕ) → TellsLow (record { timer = LowerTo end; messages = [] })
        lowers end = record { low = tt }

        keeps : TellsLow nothing_told
        keeps = record { low = tt }

        both : TellsLow (rpt_told_from a w g src old new TreeState.NotPruned TreeState.NotPruned)
        both = by_cond TellsLow (becomes_star old new) _ _ (lowers _) keeps

    told_here : (n y : ℕ) → same_key k (rpt_key 0 n y) ≡ true
        → IsLow (rpt_told a w n y (source_view o n y) (source_view a n y)).timer
    unfolding source_view
    told_here n y same =
        let is_key : rpt_key 0 g src ≡ rpt_key 0 n y = equal_keys k (rpt_key 0 n y) same in
        subst (λ (v : ℕ). IsLow (rpt_told a w v y (source_view o v y) (source_view a v y)).timer) (ap group_in is_key)
        (subst (λ (v : ℕ). IsLow (rpt_told a w g v (source_view o g v) (source_view a g v)).timer) (ap source_in is_key)
        (told_low (source_view o g src) (source_view a g src) was is).low)

    source_in_turn : (n : ℕ) (s : State) (y : ℕ) → By s → By (source_upstream o a w n s y).0
    unfolding source_upstream
    source_in_turn n s y f = moved_in _ (rpt_key 0 n y) _ (told_here n y) (join_leaves s _ _ f)

    group_in_turn : (keys : List Key) (s : State) (n : ℕ) → By s → By (group_upstream o a w keys s n).0
    unfolding group_upstream
    group_in_turn keys s n f = kept_in_turn (source_upstream o a w n) By (source_in_turn n) _ _ (join_leaves s _ _ f)

    upstream_in : By a → By (upstream o a w).0
    unfolding upstream
    upstream_in f = kept_in_turn (group_upstream o a w _) By (group_in_turn _) _ a f

  clear_leaves : (o s : State) → (clear o s).0.override_timers ≡ s.override_timers
  unfolding settle_registers assert_forgotten without_spt_bit
  clear_leaves o s = kept_by_clearing (λ t. t.override_timers ≡ s.override_timers) (λ t q f. f) (λ t q f. f) o s refl

  settled_in : (o : State) (c : State × List Message) (w : ℕ) → tree_state o g src ≡ TreeState.NotPruned
      → tree_state (settled o c w).0 g src ≡ TreeState.NotPruned → By c.0 → By (settled o c w).0
  unfolding settled write_all source_view
  settled_in o c w was is f =
      upstream_in o (clear o c.0).0 w was (ap (λ (v : SourceView). v.tree) (same_source_view g src o c w) ∙ is)
      (by_table c.0 (clear o c.0).0 (clear_leaves o c.0) f)

  -- ---- a timer ends

  abbrev is_override : TimerKind → Bool
  is_override TimerKind.Override = true
  is_override kind = false

  fired_in : (s : State) (kind : TimerKind) (q : Key) → (is_override kind && same_key k q) ≡ false → By s → By (fired s kind q).0
  unfolding fired fire_row downstream_expired neighbour_due keepalive_due override_timer_due join_timer_due
      other_querier_gone querying_on general_query_due hello_due register_due group_repeat_due source_repeat_due sources_sent
      group_record_due source_record_due with_members with_repeats_of_rows
  fired_in s kind q off f = grind (arith, row_fires, pending_lasting, assert_lasting, dropped_in)

  -- ---- a change of its own

  -- a timer that is lowered where it runs
  low_of : (o : Option OverrideTimerRow) (e : ℕ) → In o → In (Some (record { end = option_map_or (λ (r : OverrideTimerRow). min r.end e) o e }))
  low_of o e f = rw f.found (record { row = record { end = min (f.row).end e }; found = refl; by = lower_of (f.row).end e f.by })

  -- a timer that is lowered to before then, whether it runs or not
  low_to : (o : Option OverrideTimerRow) (e : ℕ) → e ≤ x → In (Some (record { end = option_map_or (λ (r : OverrideTimerRow). min r.end e) o e }))
  low_to o e le = record { row = record { end = option_map_or (λ (r : OverrideTimerRow). min r.end e) o e }; found = refl; by = go o }
    where
      lower : (a : ℕ) → min a e ≤ x
      lower a = grind arith

      go : (o : Option OverrideTimerRow) → option_map_or (λ (r : OverrideTimerRow). min r.end e) o e ≤ x
      go None = le
      go (Some r) = lower r.end

  put_in : (q : Key) (r : OverrideTimerRow) (t : Table OverrideTimerRow) → (same_key k q ≡ true → In (Some r)) → In (row_at t k)
      → In (row_at (put t q r) k)
  unfolding set_row
  put_in q r t new f = set_in q t (Some r) new f

  lowers_in : (s : State) (q : Key) (e : ℕ) → By s → By (lower_override_timer s q e)
  unfolding lower_override_timer
  lowers_in s q e f =
      put_in q _ s.override_timers
      (λ same. low_of (row_at s.override_timers q) e (subst (λ (y : Key). In (row_at s.override_timers y)) (equal_keys k q same) f)) f

  prune_in : (s : State) (w : ℕ) (hop : Hop) (t : State) (n : Named) → By t → By (prune_seen s w hop t n)
  unfolding prune_seen lower_join_timer
  prune_in s w hop t n f = go (n.1).kind (n.1).address.bits
    where
      source : (m y : ℕ) (u : State) → By u → By (lower_source_timer s w hop m y u)
      source m y u h = by_cond By _ _ u h h

      star : (m : ℕ) (u : State) → By u → By (lower_star_timer s w hop m u)
      star m u h = by_cond By _ _ u h h

      tree : (m y : ℕ) (u : State) → By u → By (lower_tree_timer s w hop m y u)
      tree m y u h = by_cond By _ _ u (lowers_in u (rpt_key 0 m y) (override_end s hop.iface.number w) h) h

      go : (kind : EntryKind) (y : ℕ) → By (elim kind [
        | EntryKind.Star ↦
            fold (λ u z. lower_source_timer s w hop n.0 z u) (lower_star_timer s w hop n.0 t) (sources_joined_towards s hop n.0)
        | EntryKind.Source ↦ lower_tree_timer s w hop n.0 y (lower_source_timer s w hop n.0 y t)
        | EntryKind.SourceRpt ↦ lower_tree_timer s w hop n.0 y (lower_source_timer s w hop n.0 y t)
      ])
      go EntryKind.Star y =
          kept_by_fold (λ u z. lower_source_timer s w hop n.0 z u) By (λ u z h. source n.0 z u h) (sources_joined_towards s hop n.0) _
          (star n.0 t f)
      go EntryKind.Source y = tree n.0 y _ (source n.0 y t f)
      go EntryKind.SourceRpt y = tree n.0 y _ (source n.0 y t f)

  -- an entry that names the source on interface 0 names it on each
  on_iface : (i m a : ℕ) (kind : EntryKind) → same_key k (key_by 0 m a kind) ≡ true → rpt_key i g src ≡ key_by i m a kind
  on_iface i m a EntryKind.Star same = ap (λ (y : Key). record y { iface = record { number = i } }) (equal_keys k (key_by 0 m a EntryKind.Star) same)
  on_iface i m a EntryKind.Source same = ap (λ (y : Key). record y { iface = record { number = i } }) (equal_keys k (key_by 0 m a EntryKind.Source) same)
  on_iface i m a EntryKind.SourceRpt same = ap (λ (y : Key). record y { iface = record { number = i } }) (equal_keys k (key_by 0 m a EntryKind.SourceRpt) same)

  apart_entry : (i : ℕ) (n : Named) → same_key (rpt_key i g src) (named_key i n) ≡ false → same_key k (named_key 0 n) ≡ false
  apart_entry i n off = grind (arith, false_from_ne_true, both_ways, on_iface, same_key_same)

  module _ (s : State) (w h : ℕ) (hop : Hop) where
    abbrev towards : Bool
    towards = same_hop (rpf_rpt s g src) (Some hop)

    -- no Join to another neighbour is for it
    untouched : towards ≡ false → is_unpruned_towards s hop g src ≡ false
    unfolding is_unpruned_towards
    untouched off = go (tree_state s g src)
      where
        go : (y : TreeState) → (elim y [ TreeState.NotPruned ↦ towards | TreeState.Pruned ↦ false | TreeState.NotJoined ↦ false ]) ≡ false
        go TreeState.NotPruned = off
        go TreeState.Pruned = refl
        go TreeState.NotJoined = refl

    cancel_in : (t : State) (m a : ℕ) → (same_key k (rpt_key 0 m a) ≡ true → is_unpruned_towards s hop m a ≡ false) → By t
        → By (cond (is_unpruned_towards s hop m a) (cancel_override_timer t (rpt_key 0 m a)) t)
    unfolding cancel_override_timer
    cancel_in t m a off f = go (same_key k (rpt_key 0 m a)) refl
      where
        go : (b : Bool) → same_key k (rpt_key 0 m a) ≡ b
            → By (cond (is_unpruned_towards s hop m a) (record t { override_timers = drop_at t.override_timers (rpt_key 0 m a) }) t)
        go true same = rw (off same) f
        go false apart = by_cond By _ _ t (dropped_in (rpt_key 0 m a) t.override_timers apart f) f

    named_here : (m a : ℕ) → towards ≡ false → same_key k (rpt_key 0 m a) ≡ true → is_unpruned_towards s hop m a ≡ false
    named_here m a off same =
        let is_key : rpt_key 0 g src ≡ rpt_key 0 m a = equal_keys k (rpt_key 0 m a) same in
        subst (λ (y : ℕ). is_unpruned_towards s hop y a ≡ false) (ap group_in is_key)
        (subst (λ (y : ℕ). is_unpruned_towards s hop g y ≡ false) (ap source_in is_key) (untouched off))

    join_in : (t : State) (n : Named) → (towards && same_key k (named_key 0 n)) ≡ false → By t → By (join_seen s h w hop t n)
    unfolding join_seen raise_join_timer
    join_in t n off f = go (n.1).kind off
      where
        which : (b : Bool) → towards ≡ b → (m a : ℕ) → (b && same_key k (rpt_key 0 m a)) ≡ false → same_key k (rpt_key 0 m a) ≡ true
            → is_unpruned_towards s hop m a ≡ false
        which true is m a e same = absurd (both_ways (same_key k (rpt_key 0 m a)) e same)
        which false is m a e same = named_here m a is same

        go : (kind : EntryKind) → (towards && same_key k (key_by 0 n.0 (n.1).address.bits kind)) ≡ false → By (elim kind [
          | EntryKind.Star ↦ cond (same_hop (rpf_star s n.0) (Some hop)) (raise_join_timer t (star_key 0 n.0) (suppressed_end s hop.iface.number w h)) t
          | EntryKind.Source ↦ cond (same_hop (rpf_source s n.0 (n.1).address.bits) (Some hop)) (raise_join_timer t (source_key 0 n.0 (n.1).address.bits) (suppressed_end s hop.iface.number w h)) t
          | EntryKind.SourceRpt ↦ cond (is_unpruned_towards s hop n.0 (n.1).address.bits) (cancel_override_timer t (rpt_key 0 n.0 (n.1).address.bits)) t
        ])
        go EntryKind.Star e = by_cond By _ _ t f f
        go EntryKind.Source e = by_cond By _ _ t f f
        go EntryKind.SourceRpt e = cancel_in t n.0 (n.1).address.bits (which towards refl n.0 (n.1).address.bits e) f

    joins_in : (p : Named → Bool) (ns : List Named) (t : State) → (towards && list_any (λ n. same_key k (named_key 0 n)) ns) ≡ false
        → By t → By (fold (join_seen s h w hop) t (filter p ns))
    joins_in p [] t off f = f
    joins_in p (n ∷ ns) t off f = go (p n) (join_in t n (first off) f) (λ u. joins_in p ns u (second off))
      where
        first : (towards && (same_key k (named_key 0 n) || list_any (λ y. same_key k (named_key 0 y)) ns)) ≡ false
            → (towards && same_key k (named_key 0 n)) ≡ false
        first e = grind arith

        second : (towards && (same_key k (named_key 0 n) || list_any (λ y. same_key k (named_key 0 y)) ns)) ≡ false
            → (towards && list_any (λ y. same_key k (named_key 0 y)) ns) ≡ false
        second e = grind arith

        go : (c : Bool) → By (join_seen s h w hop t n) → ((u : State) → By u → By (fold (join_seen s h w hop) u (filter p ns)))
            → By (fold (join_seen s h w hop) t (cond c (n ∷ filter p ns) (filter p ns)))
        go true one later = later (join_seen s h w hop t n) one
        go false one later = later t f

  -- none that is named on its interface is named on interface 0
  none_named : (i : ℕ) (ns : List Named) → is_named (map (named_key i) ns) (rpt_key i g src) ≡ false
      → list_any (λ n. same_key k (named_key 0 n)) ns ≡ false
  unfolding is_named
  none_named i [] e = refl
  none_named i (n ∷ ns) e =
      let two = neither (same_key (rpt_key i g src) (named_key i n)) _ e in
      rw (apart_entry i n two.first) (none_named i ns two.second)

  -- a Join/Prune to another router, that doesn't join the source at its own upstream neighbour
  seen_in : (s : State) (w i : ℕ) (m : JoinPrune)
      → (same_hop (rpf_rpt s g src) (Some (hop_at i m.upstream)) && joins_source s i g src m) ≡ false → By s → By (seen s w i m)
  unfolding seen joined_keys
  seen_in s w i m off f =
      kept_by_fold (prune_seen s w (hop_at i m.upstream)) By (prune_in s w (hop_at i m.upstream)) (accepted_prunes m) _
      (joins_in s w m.holdtime (hop_at i m.upstream) (λ n. not (is_star_entry n)) (accepted_joins s m) _ none
      (joins_in s w m.holdtime (hop_at i m.upstream) is_star_entry (accepted_joins s m) s none f))
    where
      and_false : (a b c : Bool) → (a && b) ≡ false → (b ≡ false → c ≡ false) → (a && c) ≡ false
      and_false a b c e h = grind arith

      none : (same_hop (rpf_rpt s g src) (Some (hop_at i m.upstream)) && list_any (λ n. same_key k (named_key 0 n)) (accepted_joins s m)) ≡ false
      none =
          and_false (same_hop (rpf_rpt s g src) (Some (hop_at i m.upstream)))
          (is_named (map (named_key i) (accepted_joins s m)) (rpt_key i g src))
          (list_any (λ n. same_key k (named_key 0 n)) (accepted_joins s m)) off (none_named i (accepted_joins s m))

-- ---- a Prune that is seen

drawn_low : (v w : ℕ) → delay_in 1 (max 1 v) w ≤ max 1 v
unfolding delay_in
drawn_low v w = grind (arith, mod_below)

override_low : (s : State) (i w : ℕ) → t_override s i w ≤ max 1 (effective_override_interval s i)
unfolding t_override t_override_among effective_override_interval
override_low s i w = drawn_low _ w

module _ (g src : ℕ) (hop : Hop) (s : State) (w : ℕ) (unpruned : is_unpruned_towards s hop g src ≡ true) where
  abbrev bound : ℕ
  bound = s.present + max 1 (effective_override_interval s hop.iface.number)

  ends_low : override_end s hop.iface.number w ≤ bound
  ends_low = plus (override_low s hop.iface.number w)
    where
      plus : t_override s hop.iface.number w ≤ max 1 (effective_override_interval s hop.iface.number)
          → s.present + t_override s hop.iface.number w ≤ s.present + max 1 (effective_override_interval s hop.iface.number)
      plus e = omega (arith, e)

  lowered_to : (t : State) → AnswersBy g src bound (lower_override_timer t (rpt_key 0 g src) (override_end s hop.iface.number w))
  unfolding lower_override_timer set_row
  lowered_to t =
      subst (AnswersIn bound) (sym (row_put (rpt_key 0 g src) _ t.override_timers))
      (low_to g src bound (row_at t.override_timers (rpt_key 0 g src)) (override_end s hop.iface.number w) ends_low)

  tree_lowered : (t : State) → AnswersBy g src bound (lower_tree_timer s w hop g src t)
  tree_lowered t = rw unpruned (lowered_to t)

  here_lowered : (t : State) (n : Named) (i : ℕ) → same_key (rpt_key i g src) (named_key i n) ≡ true
      → AnswersBy g src bound (prune_seen s w hop t n)
  unfolding prune_seen
  here_lowered t n i same = go (n.1).kind (n.1).address.bits (equal_keys (rpt_key i g src) (named_key i n) same)
    where
      differ : false ≡ true → ⊥
      differ e = cc e

      go : (kind : EntryKind) (y : ℕ) → rpt_key i g src ≡ key_by i n.0 y kind → AnswersBy g src bound (elim kind [
        | EntryKind.Star ↦
            fold (λ u z. lower_source_timer s w hop n.0 z u) (lower_star_timer s w hop n.0 t) (sources_joined_towards s hop n.0)
        | EntryKind.Source ↦ lower_tree_timer s w hop n.0 y (lower_source_timer s w hop n.0 y t)
        | EntryKind.SourceRpt ↦ lower_tree_timer s w hop n.0 y (lower_source_timer s w hop n.0 y t)
      ])
      go EntryKind.Star y is = absurd (differ (ap (λ (q : Key). q.rpt) (sym is)))
      go EntryKind.Source y is = absurd (differ (ap (λ (q : Key). q.rpt) (sym is)))
      go EntryKind.SourceRpt y is =
          subst (λ (m : ℕ). AnswersBy g src bound (lower_tree_timer s w hop m y (lower_source_timer s w hop m y t))) (ap group_in is)
          (subst (λ (z : ℕ). AnswersBy g src bound (lower_tree_timer s w hop g z (lower_source_timer s w hop g z t))) (ap source_in is)
          (tree_lowered (lower_source_timer s w hop g src t)))

  all_lowered : (i : ℕ) (ns : List Named) (t : State) → is_named (map (named_key i) ns) (rpt_key i g src) ≡ true
      → AnswersBy g src bound (fold (prune_seen s w hop) t ns)
  unfolding is_named
  all_lowered i [] t e = cc e
  all_lowered i (n ∷ ns) t e =
      either (same_key (rpt_key i g src) (named_key i n)) (is_named (map (named_key i) ns) (rpt_key i g src))
      (λ same. kept_by_fold (prune_seen s w hop) (AnswersBy g src bound) (prune_in g src bound s w hop) ns _ (here_lowered t n i same))
      (λ later. all_lowered i ns (prune_seen s w hop t n) later) e

  seen_lowers : (m : JoinPrune) → hop_at hop.iface.number m.upstream ≡ hop → prunes_source hop.iface.number g src m ≡ true
      → AnswersBy g src bound (seen s w hop.iface.number m)
  unfolding seen pruned_keys
  seen_lowers m is named =
      subst (λ (h : Hop). AnswersBy g src bound (fold (prune_seen s w h) (after h) (accepted_prunes m))) (sym is)
      (all_lowered hop.iface.number (accepted_prunes m) (after hop) named)
    where
      after : Hop → State
      after h =
          fold (join_seen s m.holdtime w h) (fold (join_seen s m.holdtime w h) s (filter is_star_entry (accepted_joins s m)))
          (filter (λ n. not (is_star_entry n)) (accepted_joins s m))

-- ---- what leaves

module _ (g src from : ℕ) (hop : Hop) where
  abbrev its_key : Key
  its_key = rpt_key 0 g src

  abbrev Wants : State → Type 0
  Wants s = WantsFrom g src hop from s

  abbrev sees : Key → Bool
  sees = reads (source_key 0 g src)

  same_rpf : (s : State) (now : ℕ) → rpf_rpt (record s { present = now }) g src ≡ rpf_rpt s g src
  unfolding scope
  same_rpf s now =
      sym (rpf_rpt_local sees (record s { present = now }) g src (place_read (source_key 0 g src)))
      ∙ rpf_rpt_local sees s g src (place_read (source_key 0 g src))

  abbrev override : Message
  override = Message.JoinPrune hop.iface.number hop.address.bits g (entry EntryKind.SourceRpt src ∷ []) []

  module _ (w now : ℕ) (s : State) (f : Wants s) where
    abbrev opened : State
    opened = record s { present = now }

    abbrev due : State × List Message
    due = override_timer_due opened its_key

    says : (due).1 ≡ override ∷ []
    unfolding override_timer_due join_prune_to
    says = ap (λ (h : Option Hop). join_rpt_to h g src) (same_rpf s now ∙ f.towards)

    same_configured : ((upstream s (clear s (due).0).0 w).0).configured ≡ s.configured
    unfolding override_timer_due
    same_configured =
        told_configured s due w ∙ ap (λ (u : Unsettled). u.configured) (clearing_leaves s (due).0)

    it_leaves : Contains (settled s due w).1
        (on_link hop.iface.number (pim_packet_text 1 (address_among s.configured hop.iface.number) all_pim_routers
        (join_prune_text hop.address.bits g (entry EntryKind.SourceRpt src ∷ []) [])))
    unfolding settled write_all
    it_leaves =
        all_there s.configured hop.iface.number hop.address.bits g (entry EntryKind.SourceRpt src ∷ []) []
        ((due).1 ++ (clear s (due).0).1 ++ (upstream s (clear s (due).0).0 w).1)
        (interfaces_of (upstream s (clear s (due).0).0 w).0) same_configured
        (subst (λ (ms : List Message). Contains (ms ++ (clear s (due).0).1 ++ (upstream s (clear s (due).0).0 w).1) override) (sym says)
        (0, omega arith, refl))

    leaves_now : Contains (fire_once w s (ending TimerKind.Override its_key now)).1 (override_to g src hop from)
    unfolding fire_once fired join_packet
    leaves_now =
        subst (λ (a : ℕ). Contains (settled s due w).1 (on_link hop.iface.number (pim_packet_text 1 a all_pim_routers
        (join_prune_text hop.address.bits g (entry EntryKind.SourceRpt src ∷ []) [])))) f.own it_leaves

  -- ---- while time goes on

  module _ (x : ℕ) where
    abbrev Sent : List Emission → Type 0
    Sent es = Contains es (override_to g src hop from)

    pub record Good (s : State) : Type 0 where
      pub wants : Wants s
      pub answers : AnswersBy g src x s

    abbrev Either : State × List Emission → Type 0
    Either p = Good p.0 ⊎ Sent p.1

    module _ (w : ℕ) where
      is_due : (b : TimerKind) → is_override g src x b ≡ true → b ≡ TimerKind.Override
      is_due b e = grind arith

      once : (s : State) (d : Ending) → Good s → Wants (fire_once w s d).0 → Either (fire_once w s d)
      unfolding fire_once
      once s d f then = go (is_override g src x d.timer.kind && same_key its_key d.timer.key) refl
        where
          now : (a b : Bool) → is_override g src x d.timer.kind ≡ a → same_key its_key d.timer.key ≡ b → (a && b) ≡ true → Sent (fire_once w s d).1
          now true true kind same e =
              subst (λ (q : TimerKind). Sent (fire_once w s (ending q d.timer.key d.end)).1) (sym (is_due d.timer.kind kind))
              (subst (λ (q : Key). Sent (fire_once w s (ending TimerKind.Override q d.end)).1) (equal_keys its_key d.timer.key same)
              (leaves_now w d.end s f.wants))
          now true false kind same e = cc e
          now false b kind same e = cc e

          go : (b : Bool) → (is_override g src x d.timer.kind && same_key its_key d.timer.key) ≡ b → Either (fire_once w s d)
          go true e = inr (now (is_override g src x d.timer.kind) (same_key its_key d.timer.key) refl refl e)
          go false e =
              inl (record {
                wants = then;
                answers = settled_in g src x s (fired (record s { present = d.end }) d.timer.kind d.timer.key) w f.wants.unpruned then.unpruned
                    (fired_in g src x (record s { present = d.end }) d.timer.kind d.timer.key e f.answers);
              })

      each_then : {D : Type 0} (next : State → Option D) (one : State → D → State × List Emission) (Each : State → D → Type 0)
          → ((s : State) (d : D) → Good s → Each s d → Either (one s d)) → (later : State → State × List Emission) (All : State → Type 0)
          → ((t : State) → Good t → All t → Either (later t)) → (s : State) (o : Option D) → Good s
          → AfterTurn next one Each All s o → Either (after_next next one later s o)
      unfolding after_next and_then
      each_then next one Each turn later All rest s None f all = inl f
      each_then next one Each turn later All rest s (Some d) f all = go (turn s d f all.0)
        where
          more : Either (later (one s d).0) → Good (later (one s d).0).0 ⊎ Sent ((one s d).1 ++ (later (one s d).0).1)
          more (inl g) = inl g
          more (inr has) = inr (Contains-append_right (one s d).1 _ _ has)

          go : Either (one s d) → Good (later (one s d).0).0 ⊎ Sent ((one s d).1 ++ (later (one s d).0).1)
          go (inl g) = more (rest (one s d).0 g all.1)
          go (inr has) = inr (Contains-append_left (one s d).1 _ _ has)

      each : {D : Type 0} (next : State → Option D) (one : State → D → State × List Emission) (Each : State → D → Type 0)
          → ((s : State) (d : D) → Good s → Each s d → Either (one s d)) → (n : ℕ) (s : State) → Good s → AtEachTurn next one Each n s
          → Either (until_none next one n s)
      unfolding until_none
      each next one Each turn zero s f all = inl f
      each next one Each turn (suc n) s f all = each_then next one Each turn (λ t. until_none next one n t) (λ t. AtEachTurn next one Each n t) (each next one Each turn n) s (next s) f all

      instant : (s : State) (e : Ending) → Good s
          → AtEachTurn (next_due e.end) (fire_once w) (λ u d. Wants (fire_once w u d).0) (length (timers s) + 1) s → Either (fire_instant w s e)
      unfolding fire_instant
      instant s e f all =
          each (next_due e.end) (fire_once w) (λ u d. Wants (fire_once w u d).0) once (length (timers s) + 1) s f all

      in_time : (moment : ℕ) (s : State) → Good s → AllTheWay Wants w moment s
          → AnswersBy g src x (advanced s w moment).state ⊎ Sent (advanced s w moment).emissions
      unfolding advanced fire_all
      in_time moment s f all =
          go (each (next_due moment) (fire_instant w)
          (λ t e. AtEachTurn (next_due e.end) (fire_once w) (λ u d. Wants (fire_once w u d).0) (length (timers t) + 1) t)
          instant (moment + 2 - s.present) s f all)
        where
          go : Either (fire_all w moment s) → AnswersBy g src x (record (fire_all w moment s).0 { present = moment }) ⊎ Sent (fire_all w moment s).1
          go (inl g) = inl g.answers
          go (inr has) = inr has

    -- ---- any event

    abbrev NowOrSent : State → List Emission → Type 0
    NowOrSent t es = AnswersBy g src x t ⊎ Sent es

    module _ (s : State) (w : ℕ) (f : Wants s) where
      eq_swapped : (a b : ℕ) → (a == b) ≡ (b == a)
      eq_swapped a b = grind (arith, both_ways, eq-eqb, eqb-true)

      both_swapped : (a b c d : ℕ) → ((a == b) && (c == d)) ≡ ((b == a) && (d == c))
      both_swapped a b c d = grind (arith, eq_swapped)

      hop_test : (i up : ℕ) → same_hop (rpf_rpt s g src) (Some (hop_at i up)) ≡ ((i == hop.iface.number) && (up == hop.address.bits))
      hop_test i up =
          ap (λ (h : Option Hop). same_hop h (Some (hop_at i up))) f.towards
          ∙ both_swapped hop.iface.number i hop.address.bits up

      from_here : (i n y : ℕ) → (source_here s n y i).override_timers ≡ s.override_timers
      unfolding source_here settle_register with_keepalive
      from_here i n y = grind arith

      by_same : (a : Accepted) → (change s w a).state.override_timers ≡ s.override_timers → AnswersBy g src x s
          → AnswersBy g src x (change s w a).state
      by_same a e h = by_table g src x s (change s w a).state e h

      change_in : (a : Accepted) → sees_join g src hop s (Some a) ≡ false → AnswersBy g src x s → AnswersBy g src x (change s w a).state
      unfolding change iface_up querier_up querying rps_replaced register_stop_seen iface_down
      change_in (Accepted.Advance moment) off h = h
      change_in (Accepted.Up i) off h = h
      change_in (Accepted.Down i) off h = h
      change_in (Accepted.Routes routes) off h = h
      change_in (Accepted.Rps ranges) off h = h
      change_in (Accepted.Hello i from h') off h =
          by_same (Accepted.Hello i from h') (ap (λ (u : Unhailed). u.override_timers) (hello_unhailed s i.number from.bits h' w)) h
      change_in (Accepted.JoinPruneToMe i m) off h =
          by_same (Accepted.JoinPruneToMe i m) (ap (λ (u : Whole). u.lasting.override_timers) (to_me_whole s i.number m)) h
      change_in (Accepted.JoinPruneSeen i m) off h =
          seen_in g src x s w i.number m (ap (λ (b : Bool). b && joins_source s i.number g src m) (hop_test i.number m.upstream) ∙ off) h
      change_in (Accepted.Assert i from a) off h =
          by_same (Accepted.Assert i from a) (ap (λ (u : Whole). u.lasting.override_timers) (assert_whole s i.number from.bits a)) h
      change_in (Accepted.Query i from q) off h =
          by_same (Accepted.Query i from q) (ap (λ (u : Lasting). u.override_timers) (query_lasting s i.number from.bits q)) h
      change_in (Accepted.Report i records) off h =
          by_same (Accepted.Report i records) (ap (λ (u : Lasting). u.override_timers) (report_lasting s i.number records)) h
      change_in (Accepted.Data i p) off h =
          by_same (Accepted.Data i p)
          (ap (λ (u : Whole). u.lasting.override_timers) (data_whole s p.destination p.source i.number)
          ∙ from_here i.number p.destination p.source) h
      change_in (Accepted.Register p (Encapsulated inner)) off h =
          by_same (Accepted.Register p (Encapsulated inner)) (ap (λ (u : Whole). u.lasting.override_timers) (register_whole s p inner.destination inner.source false)) h
      change_in (Accepted.Register p (Null source group)) off h =
          by_same (Accepted.Register p (Null source group)) (ap (λ (u : Whole). u.lasting.override_timers) (register_whole s p group source true)) h
      change_in (Accepted.RegisterStop from r) off h = h

      done_in : (a : Accepted) → Wants (done s w (change s w a)).state → sees_join g src hop s (Some a) ≡ false
          → AnswersBy g src x s → AnswersBy g src x (done s w (change s w a)).state
      unfolding done
      done_in a then off h =
          settled_in g src x s ((change s w a).state, (change s w a).messages) w f.unpruned then.unpruned (change_in a off h)

    done_so : (s : State) (e : Event) (a : Accepted) → done_as (happens s e) ≡ Some a → is_time a ≡ false → Wants s → Wants (step s e).state
        → sees_join g src hop s (Some a) ≡ false → AnswersBy g src x s → AnswersBy g src x (step s e).state
    done_so s e a is timeless f then off h =
        let same : (step s e).state ≡ (done s e.draw (change s e.draw a)).state =
        ap (λ (y : Answered). y.state) (step_taken s e a is ∙ taken_is_done s e.draw a timeless) in
        subst (AnswersBy g src x) (sym same) (done_in s e.draw f a (subst Wants same then) off h)

    event_in : (s : State) (e : Event) (o : Option Accepted) → done_as (happens s e) ≡ o → Wants s → Throughout Wants s e o
        → sees_join g src hop s o ≡ false → AnswersBy g src x s → NowOrSent (step s e).state (step s e).emissions
    unfolding taken
    event_in s e None is f all off h = inl (subst (AnswersBy g src x) (sym (not_done s e is)) h)
    event_in s e (Some (Accepted.Advance moment)) is f all off h =
        subst (λ (y : Answered). NowOrSent y.state y.emissions) (sym (step_taken s e (Accepted.Advance moment) is))
        (in_time e.draw moment s (record { wants = f; answers = h }) all.0)
    event_in s e (Some a) is f all off h = inl (done_so s e a is refl f all off h)

pub answer_comes : AnswerComes
answer_comes s e g src from end hop f all off h =
    event_in g src from hop end s e (done_as (happens s e)) refl f all off h

pub override_leaves : OverrideLeaves
override_leaves w s g src from now hop f = leaves_now g src from hop w now s f

-- ---- a Prune that is seen is answered

module _ (s : State) (e : Event) (m : JoinPrune) (g src from : ℕ) (hop : Hop)
    (is : done_as (happens s e) ≡ Some (Accepted.JoinPruneSeen hop.iface m)) (to : (m.upstream == hop.address.bits) ≡ true)
    (named : prunes_source hop.iface.number g src m ≡ true) (f : WantsFrom g src hop from s) where
  unpruned_towards : is_unpruned_towards s hop g src ≡ true
  unfolding is_unpruned_towards
  unpruned_towards = go (tree_state s g src) (same_hop (rpf_rpt s g src) (Some hop)) f.unpruned towards_it
    where
      towards_it : same_hop (rpf_rpt s g src) (Some hop) ≡ true
      towards_it =
          ap (λ (h : Option Hop). same_hop h (Some hop)) f.towards
          ∙ rw (eq-eqb hop.iface.number hop.iface.number refl, eq-eqb hop.address.bits hop.address.bits refl) refl

      go : (y : TreeState) (b : Bool) → y ≡ TreeState.NotPruned → b ≡ true
          → (elim y [ TreeState.NotPruned ↦ b | TreeState.Pruned ↦ false | TreeState.NotJoined ↦ false ]) ≡ true
      go TreeState.NotPruned b e h = h
      go TreeState.Pruned b e h = cc e
      go TreeState.NotJoined b e h = cc e

  same_hop_at : hop_at hop.iface.number m.upstream ≡ hop
  same_hop_at = ap (hop_at hop.iface.number) (eqb-true m.upstream hop.address.bits to)

  abbrev after : State
  after = seen s e.draw hop.iface.number m

  abbrev limit : ℕ
  limit = s.present + max 1 (effective_override_interval s hop.iface.number)

  same_end : (step s e).state ≡ (settled s (after, []) e.draw).0
  unfolding done change
  same_end =
      ap (λ (y : Answered). y.state)
      (step_taken s e (Accepted.JoinPruneSeen hop.iface m) is ∙ taken_is_done s e.draw (Accepted.JoinPruneSeen hop.iface m) refl)

  answered : WantsFrom g src hop from (step s e).state → AnswersBy g src limit (step s e).state
  answered then =
      subst (AnswersBy g src limit) (sym same_end)
      (settled_in g src limit s (after, []) e.draw f.unpruned (ap (λ (t : State). tree_state t g src) (sym same_end) ∙ then.unpruned)
      (seen_lowers g src hop s e.draw unpruned_towards m same_hop_at named))

pub seen_prune_is_answered : SeenPruneIsAnswered
seen_prune_is_answered s e m g src from hop is to named f then = answered s e m g src from hop is to named f then
