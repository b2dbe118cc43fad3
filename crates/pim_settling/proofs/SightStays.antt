-- A sight stays true where messages upstream are made and packets are written: no macro reads what these change.
use Rattle.std.{proofs.Common.{◌≡◌, ℕ, Bool, false, ◌&&◌, nat_lt, List, [], Option, None, Some, option_map, option_and_then, IfSome, refl, ap, subst, sym, ◌∙◌}, specs.Option.option_map_or}
use Rattle.pim_types.{specs.{declared.{fact.{AssertRow.AssertRow, InterfaceRow.InterfaceRow, JoinTimerRow.JoinTimerRow, Key.Key, OverrideTimerRow.OverrideTimerRow}, path.Path.Path, upstream.SourceView.SourceView}, Keys.{rpt_key, source_key, star_key}}}
use Rattle.law_settled.{proofs.{ListLaws.by_cond, TurnLaws.kept_in_turn}}
use Rattle.law_events.{specs.{Locality.touching, Scopes.{reads, scope}}, proofs.{QuietStates.frame_packets, SharedMacros.route_local}}
use Rattle.pim_model.{specs.{Desires.winner_hop, Messages.Message, Neighbours.{is_dr, nbr}, Receivers.{is_exclude, local_receiver_exclude, local_receiver_include}, Registers.is_dr_of_path, Sets.{assert_source, assert_star, is_beaten, is_better, is_kept_alive, joins, joins_star, prunes, route_metric, spt_bit, spt_metric, tunnel}, State.{State, is_own, my_address}, Tables.Table, Unicast.{route, rp_of, rp_route, rpf_interface, rpf_interface_rp}, Upstream.{Cancel, Keep, LowerTo, SetTo, TimerChange, moved_join_timer, moved_override_timer, rpt_told, source_told, source_view, with_join_timer, with_override_timer}, Writing.write_all}}
use Rattle.pim_macros.{specs.{Sights.{IsSourceSight, ShowsSource, ShowsStar}, declared.sight.{SourceSight.SourceSight, StarSight.StarSight}}}
use Rattle.pim_views.{specs.declared.opening.{GroupOpening.GroupOpening, SourceOpening.SourceOpening}}
use Rattle.pim_upstream.{specs.Told.{group_step, source_moved, source_step, star_changed, upstream_by}}

-- the state with these timers and interface rows
abbrev beside : State → Table JoinTimerRow → Table OverrideTimerRow → Table InterfaceRow → State
beside s joins overrides interfaces =
    record s { join_timers = joins; override_timers = overrides; interfaces = interfaces }

abbrev iface_of : Option Path → Option ℕ
iface_of path = option_map (λ (p : Path). p.iface.number) path

module _ (s : State) (ts : Table JoinTimerRow) (us : Table OverrideTimerRow) (is : Table InterfaceRow)
    (same : (a : ℕ) → route (beside s ts us is) a ≡ route s a) (g : ℕ) where
  path_there : (a : ℕ) → route s a ≡ route (beside s ts us is) a
  path_there a = sym (same a)

  tree_path : rp_route s g ≡ rp_route (beside s ts us is) g
  unfolding rp_route rp_of
  tree_path = λ j. option_and_then (λ a. path_there a j) (rp_of s g)

  star_beside : (star : StarSight) → ShowsStar s g star → ShowsStar (beside s ts us is) g star
  unfolding rp_of nbr rpf_interface_rp joins_star is_exclude is_dr
  star_beside star h = record {
    rp = h.rp;
    rp_path = h.rp_path ∙ tree_path;
    next_hop = h.next_hop ∙ ap (nbr s) tree_path;
    winner = h.winner ∙ ap (λ (p : Option Path). winner_hop (iface_of p) (assert_star s g)) tree_path;
    joined = h.joined;
    lost = h.lost;
    won = h.won;
    receivers = h.receivers;
    dr = h.dr;
    configured = h.configured;
    bare = h.bare;
    few = h.few;
    is_own_rp = h.is_own_rp;
    short = h.short;
  }

  beaten_there : (src i : ℕ) → is_beaten s g src i ≡ is_beaten (beside s ts us is) g src i
  unfolding is_beaten spt_metric
  beaten_there src i = λ j.
      option_map_or
      (λ (r : AssertRow). is_better r.winner (route_metric false (my_address s i) (is_own s src) (path_there src j)))
      (assert_source s g src i) false

  source_beside : (src : ℕ) (sight : SourceSight) → ShowsSource s g src sight → ShowsSource (beside s ts us is) g src sight
  unfolding nbr rpf_interface rpf_interface_rp joins prunes local_receiver_include local_receiver_exclude is_dr spt_bit is_kept_alive tunnel
  source_beside src sight h = record {
    star = star_beside sight.star h.star;
    path = h.path ∙ path_there src;
    next_hop = h.next_hop ∙ ap (nbr s) (path_there src);
    winner = h.winner ∙ ap (λ (p : Option Path). winner_hop (iface_of p) (assert_source s g src)) (path_there src);
    tree_winner = h.tree_winner ∙ ap (λ (p : Option Path). winner_hop (iface_of p) (assert_source s g src)) tree_path;
    joined = h.joined;
    pruned = h.pruned;
    lost = h.lost;
    won = h.won;
    beaten = λ i. h.beaten i ∙ ap (λ (b : Bool). nat_lt i 120 && b) (beaten_there src i);
    included = h.included;
    excluded = h.excluded;
    spt = h.spt;
    is_kept_alive = h.is_kept_alive;
    tunnel = h.tunnel;
    is_own = h.is_own;
    is_dr = h.is_dr ∙ ap (λ (p : Option Path). option_map_or (is_dr_of_path s) p false) (path_there src);
    is_spt_wanted = h.is_spt_wanted;
    short = h.short;
  }

-- A packet is written with the same interfaces up.
written_route : (s : State) (messages : List Message) (a : ℕ) → route (write_all s messages).0 a ≡ route s a
unfolding scope touching
written_route s messages a =
    let any : Key = source_key 0 0 0 in
    sym (route_local (reads any) (write_all s messages).0 a)
    ∙ (ap (λ (u : State). route u a) (sym (frame_packets s messages any refl)) ∙ route_local (reads any) s a)

module _ (g src : ℕ) (sight : SourceSight) where
  abbrev Shown : State → Type 0
  Shown s = ShowsSource s g src sight

  -- ---- messages upstream

  join_moved : (s : State) (k : Key) (change : TimerChange) → Shown s → Shown (moved_join_timer s k change)
  unfolding moved_join_timer route
  join_moved s k change h = source_beside s _ s.override_timers s.interfaces (λ a. refl) g src sight h

  override_moved : (s : State) (k : Key) (change : TimerChange) → Shown s → Shown (moved_override_timer s k change)
  unfolding moved_override_timer route
  override_moved s k change h = source_beside s s.join_timers _ s.interfaces (λ a. refl) g src sight h

  join_kept : (s : State) (k : Key) (change : TimerChange) → Shown s → Shown (with_join_timer s k change)
  unfolding with_join_timer
  join_kept s k Keep h = h
  join_kept s k Cancel h = join_moved s k Cancel h
  join_kept s k (SetTo e) h = join_moved s k (SetTo e) h
  join_kept s k (LowerTo e) h = join_moved s k (LowerTo e) h

  override_kept : (s : State) (k : Key) (change : TimerChange) → Shown s → Shown (with_override_timer s k change)
  unfolding with_override_timer
  override_kept s k Keep h = h
  override_kept s k Cancel h = override_moved s k Cancel h
  override_kept s k (SetTo e) h = override_moved s k (SetTo e) h
  override_kept s k (LowerTo e) h = override_moved s k (LowerTo e) h

  module _ (a : State) (w : ℕ) where
    source_kept : (n : ℕ) (s : State) (x : SourceOpening) → Shown s → Shown (source_step a w n s x).0
    unfolding source_step source_moved
    source_kept n s x h =
        let of : ℕ = x.source.bits in
        let new : SourceView = source_view a n of in
        by_cond (λ (p : State × List Message). Shown p.0) _ _ (s, [])
        (override_kept _ (rpt_key 0 n of) (rpt_told a w n of x.view new).timer
        (join_kept s (source_key 0 n of) (source_told a w n of x.view new).timer h)) h

    group_kept : (s : State) (x : GroupOpening) → Shown s → Shown (group_step a w s x).0
    unfolding group_step
    group_kept s x h =
        kept_in_turn (source_step a w x.group.bits) Shown (source_kept x.group.bits) x.sources _
        (join_kept s (star_key 0 x.group.bits) (star_changed a w x.group.bits x.star).timer h)

    pub told_sight : (opening : List GroupOpening) → Shown a → Shown (upstream_by opening a w).0
    unfolding upstream_by
    told_sight opening h = kept_in_turn (group_step a w) Shown group_kept opening a h

  -- ---- packets

  pub written_sight : (s : State) (messages : List Message) → Shown s → Shown (write_all s messages).0
  unfolding write_all
  written_sight s messages h =
      source_beside s s.join_timers s.override_timers _ (written_route s messages) g src sight h

pub some_written : (s t : State) (messages : List Message) (sight : Option SourceSight)
    → t ≡ (write_all s messages).0 → IfSome sight (IsSourceSight s) → IfSome sight (IsSourceSight t)
some_written s t messages None is h = tt
some_written s t messages (Some x) is h =
    subst (λ (u : State). IsSourceSight u x) (sym is) (written_sight x.star.group.bits x.source.bits x s messages h)
