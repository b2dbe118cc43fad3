-- What a router wants at any moment of an event has a cause at the time at which the event came.
use Rattle.std.{proofs.{Common.{Bool, List, None, Option, Some, [], ap, arith, cond, false, inl, inr, is_some, length, nat_lt, not, option_map, refl, subst, suc, sym, true, zero, ℕ, ◌&&◌, ◌<◌, ◌||◌, ◌∙◌, ◌∷◌, ◌≡◌}, lemmas.Bool.{not-true, or_left, or_right}}, specs.{Cmp.{first_so, second_so}, List.list_any, Option.{option_and_then, option_map_or}, Prelude.slice_get}}
use Rattle.pim_ip.{specs.Prefixes.contains}
use Rattle.pim_types.{specs.{Keys.{source_key, star_key}, declared.{config.{InterfaceConfig.InterfaceConfig, Route.Route}, fact.{DownstreamRow.DownstreamRow, GroupRecordRow.GroupRecordRow, Key.Key, RegisterRow.RegisterRow, SourceRecordRow.SourceRecordRow}, path.Path.Path}}}
use Rattle.pim_wire.{specs.declared.join_prune.EntryKind.EntryKind}
use Rattle.pim_model.{specs.{Cause.{Past, has_cause}, Desires.{is_immediate_empty, is_inherited_empty, join_desired, join_desired_star}, Limits.is_in_subnet, Receivers.{is_exclude, is_exclude_among, local_receiver_include, local_receiver_include_among}, Registers.{could_register, is_dr_of_path}, Sets.{Set, immediate_olist, immediate_olist_star, inherited_olist, inherited_olist_rpt, is_empty, is_register_join, joins, joins_star, pim_include, pim_include_star, tunnel}, State.{Addressing, State, iface_count, ifaces}, Tables.{below, has_row, row_at}, Unicast.{is_on_link_among, link_among, link_path, path_if_up, route, route_among, route_path, routed_among, subnet}}}
use Rattle.law_settled.{proofs.{FineStates.{Good, IsFine, Runs}, FineTables.good_row, ListLaws.{any_among_all, each_of_all, either, find_member}, Parts.{Downstreams, GroupRecords, SourceRecords}, Unsettled.{Untold, untold}}}
use Rattle.law_streams.{proofs.{CausesAsks.{GroupAsked, IsAsked, JoinAsked, KeyAsked, SourceAsked, UpTo}, Flows.{is_timed, is_timed_row, is_wanted}, Links.all_below, Past.CausedBy, Same.{rows_of}}}
use Rattle.law_converges.{specs.JoinsAsked.{IsAskedAs, IsGroupAsked}}

-- ---- of rows that are asked for, and expire later than a time

at_time : (never : Type 0) (P : ℕ → Type 0) (p : ℕ) (end : Option ℕ) → UpTo never P end → Runs (nat_lt p) end → (end ≡ None → never → P p)
    → P p
at_time never P p end f runs none = grind arith

module _ (past : Past) (p : ℕ) (up : ℕ → Bool) (t : State) (f : IsAsked (CausedBy past) t)
    (fine : IsFine p (nat_lt p) up (record t { present = p })) where
  join_found : (k : Key) → k.rpt ≡ false → (o : Option DownstreamRow) → row_at t.downstream k ≡ o → is_some o ≡ true
      → KeyAsked (CausedBy past) k p
  join_found k e None there some = cc
  join_found k e (Some r) there some =
      at_time _ (KeyAsked (CausedBy past) k) p r.expiry (good_row (JoinAsked (CausedBy past)) t.downstream k r f.joins there e)
      (good_row (Good (nat_lt p) up Downstreams) t.downstream k r (fine.tables Downstreams) there).0 (λ is all. all p)

  group_found : (i g src : ℕ) (o : Option GroupRecordRow) → row_at t.group_records (star_key i g) ≡ o → is_timed_row o ≡ true
      → CausedBy past i g src p
  group_found i g src None there on = cc
  group_found i g src (Some r) there on =
      at_time _ (λ now. (src : ℕ) → CausedBy past i g src now) p r.end
      (good_row (GroupAsked (CausedBy past)) t.group_records (star_key i g) r f.groups there)
      (good_row (Good (nat_lt p) up GroupRecords) t.group_records (star_key i g) r (fine.tables GroupRecords) there).1
      (λ is any. let off : true ≡ false = sym on ∙ ap (λ (o : Option ℕ). is_some o) is in cc) src

  source_found : (i g src : ℕ) → is_timed t.group_records i g ≡ false → (o : Option SourceRecordRow)
      → row_at t.source_records (source_key i g src) ≡ o → is_some o ≡ true → CausedBy past i g src p
  source_found i g src off None there some = cc
  source_found i g src off (Some r) there some =
      at_time _ (CausedBy past i g src) p r.end
      (good_row (SourceAsked (CausedBy past) t.group_records) t.source_records (source_key i g src) r f.sources there)
      (good_row (Good (nat_lt p) up SourceRecords) t.source_records (source_key i g src) r (fine.tables SourceRecords) there).1
      (λ is timed. let both : false ≡ true = sym off ∙ timed in cc)

  pub cause_of : (g src i : ℕ) → is_wanted (rows_of t) g src i ≡ true → has_cause past p i g src ≡ true
  unfolding has_row
  cause_of g src i e =
      either _ _
      (λ first. either _ (is_timed t.group_records i g)
      (λ joined. either (has_row t.downstream (star_key i g)) (has_row t.downstream (source_key i g src))
      (λ star. join_found (star_key i g) refl _ refl star src) (join_found (source_key i g src) refl _ refl) joined)
      (group_found i g src _ refl) first)
      (λ last. source_found i g src (not-true _ (first_so _ _ last)) _ refl (second_so _ _ last)) e

-- ---- who is on a list is wanted

module _ (t : State) (g i : ℕ) where
  in_star : immediate_olist_star t g i ≡ true → (src : ℕ) → is_wanted (rows_of t) g src i ≡ true
  unfolding immediate_olist_star pim_include_star joins_star is_exclude is_exclude_among
  in_star e src = grind (arith, e)

  in_rpt : (src : ℕ) → inherited_olist_rpt t g src i ≡ true → is_wanted (rows_of t) g src i ≡ true
  unfolding inherited_olist_rpt pim_include_star joins_star is_exclude is_exclude_among
  in_rpt src e = grind (arith, e)

  in_immediate : (src : ℕ) → immediate_olist t g src i ≡ true → is_wanted (rows_of t) g src i ≡ true
  unfolding immediate_olist pim_include joins local_receiver_include local_receiver_include_among is_exclude_among has_row
  in_immediate src e = grind (arith, e)

  in_inherited : (src : ℕ) → inherited_olist t g src i ≡ true → is_wanted (rows_of t) g src i ≡ true
  unfolding inherited_olist pim_include joins local_receiver_include local_receiver_include_among is_exclude_among has_row
  in_inherited src e = grind (arith, e, in_rpt)

-- ---- a source whose register tunnel is joined is on a link of the router

any_at : (q : InterfaceConfig → Bool) (cs : List InterfaceConfig) (i : ℕ) → option_map_or q (slice_get cs i) false ≡ true
    → list_any q cs ≡ true
any_at q [] i e = cc e
any_at q (c ∷ cs) zero e = or_left (q c) (list_any q cs) e
any_at q (c ∷ cs) (suc i) e = or_right (q c) (list_any q cs) (any_at q cs i e)

module _ (t : State) (src : ℕ) where
  abbrev over_link : Option ℕ
  over_link = link_among t.configured t.interfaces src

  on_a_link : (o : Option ℕ) → over_link ≡ o → is_some o ≡ true → is_in_subnet (t.configured).interfaces src ≡ true
  unfolding link_among is_on_link_among
  on_a_link None is e = cc e
  on_a_link (Some i) is e =
      any_among_all (λ j. Unit {0}) (λ j. is_on_link_among t.configured t.interfaces src j && true)
      (λ j u on. any_at (λ c. contains (subnet c) src) (t.configured).interfaces j (second_so _ _ (first_so _ _ on)))
      (below (length (t.configured).interfaces)) (each_of_all (λ j. Unit {0}) (λ j. tt) (below (length (t.configured).interfaces)))
      (find_member (is_on_link_among t.configured t.interfaces src) (λ j. true) (below (length (t.configured).interfaces)) i refl is)

  configured_route : (o : Option Route)
      → option_map_or (λ (p : Path). p.is_connected) (option_and_then (λ r. path_if_up t.interfaces (route_path r)) o) false ≡ false
  configured_route o = grind arith

  over : (own : Bool) (o : Option ℕ) (other : Option Path) → option_map_or (λ (p : Path). p.is_connected) other false ≡ false
      → option_map_or (is_dr_of_path t) (cond own None (option_map_or (λ i. Some (link_path src i)) o other)) false ≡ true → is_some o ≡ true
  over own o other off e = grind (arith, off, e)

  pub registered_near : (g : ℕ) → could_register t g src ≡ true → is_in_subnet (t.configured).interfaces src ≡ true
  unfolding could_register route route_among routed_among
  registered_near g e =
      on_a_link over_link refl (over _ over_link _ (configured_route _) (first_so _ _ (first_so _ _ e)))

-- ---- what JoinDesired asks for

-- What is known of the tables that messages leave as they are: who is wanted has a cause, and a source whose register tunnel is joined is on a
-- link of the router.
pub record IsKnown (past : Past) (s : State) (u : Untold) : Type 0 where
  pub configured : (u.unsettled).configured ≡ s.configured
  pub causes : (g src i : ℕ)
      → is_wanted (record {
        downstream = (u.unsettled).downstream;
        groups = (u.unsettled).group_records;
        sources = (u.unsettled).source_records;
      }) g src i ≡ true
      → has_cause past s.present i g src ≡ true
  pub own : (g src : ℕ) → is_register_join (option_map (λ (r : RegisterRow). r.state) (row_at u.registers (source_key 0 g src))) ≡ true
      → is_in_subnet (s.configured).interfaces src ≡ true

some_interface : {C : Type 0} (t : State) (set : Set) → ((i : ℕ) → i < iface_count t → set i ≡ true → C) → is_empty t set ≡ false → C
unfolding is_empty
some_interface t set done e =
    any_among_all (λ i. i < iface_count t) set done (ifaces t) (all_below (iface_count t)) (grind (arith, e))

module _ (past : Past) (s t : State) (known : IsKnown past s (untold t)) where
  here : (i : ℕ) → i < iface_count t → i < iface_count s
  here i below = subst (λ (c : Addressing). i < length c.interfaces) known.configured below

  pub star_asked : (g : ℕ) → join_desired_star t g ≡ true → IsGroupAsked past s g
  unfolding join_desired_star
  star_asked g e =
      some_interface t (immediate_olist_star t g)
      (λ i below on. record { iface = i; configured = here i below; cause = λ src. known.causes g src i (in_star t g i on src) })
      (not-true _ e)

  abbrev Known : ℕ → ℕ → Type 0
  Known g src = IsAskedAs past s g EntryKind.Source src

  on_list : (g src : ℕ) (set : Set) → ((i : ℕ) → set i ≡ true → is_wanted (rows_of t) g src i ≡ true) → is_empty t set ≡ false
      → Known g src
  on_list g src set wanted some =
      some_interface t set
      (λ i below on. inl (record { iface = i; configured = here i below; cause = known.causes g src i (wanted i on) })) some

  by_tunnel : (g src : ℕ) → tunnel t g src ≡ true → Known g src
  unfolding tunnel
  by_tunnel g src e = inr (known.own g src e)

  by_lists : (C : Type 0) (immediate inherited joined kept : Bool) → (immediate ≡ false → C) → (inherited ≡ false → C) → (joined ≡ true → C)
      → (not (immediate && not joined) || (kept && not (inherited && not joined))) ≡ true → C
  by_lists C immediate inherited joined kept f g h e = grind (arith, e)

  pub source_asked : (g src : ℕ) → join_desired t g src ≡ true → IsAskedAs past s g EntryKind.Source src
  unfolding join_desired is_immediate_empty is_inherited_empty
  source_asked g src e =
      by_lists (Known g src) (is_empty t (immediate_olist t g src)) (is_empty t (inherited_olist t g src)) (tunnel t g src) _
      (on_list g src (immediate_olist t g src) (λ i. in_immediate t g i src))
      (on_list g src (inherited_olist t g src) (λ i. in_inherited t g i src)) (by_tunnel g src) e
