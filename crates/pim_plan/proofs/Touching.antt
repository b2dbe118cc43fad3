-- Which machines a change concerns, and of which groups and sources it makes facts.
use Rattle.std.{proofs.{Common.{◌≡◌, ◌<◌, ℕ, Bool, true, false, List, [], ◌∷◌, ◌&&◌, ◌||◌, ◌++◌, ◌==◌, filter, map, not, Option, Some, None, inl, inr, refl, ap, eqb-true, subst, sym, ◌∙◌}, lemmas.{Bool.or_left, List.Folds.list_any-append}}, specs.{Cmp.{first_so, second_so}, List.list_any, Option.option_map_or, Prelude.{fold, if◌then◌else◌}}}
use Rattle.pim_types.{specs.{declared.{fact.{Key.Key, NeighbourRow.NeighbourRow}, config.IfaceId.IfaceId}, Keys.{is_of_group, is_star, names_source, neighbour_key, star_key, source_key}}}
use Rattle.pim_wire.{specs.{RegisterParts.{is_null, registered_group, registered_source}, declared.{hello.Hello.Hello as HelloValue, assert.Assert.Assert as AssertMessage, register.RegisterStop.RegisterStop as RegisterStopValue}, Values.{Encapsulated, JoinPrune, Null, Register}}}
use Rattle.pim_ip.{specs.{declared.addr.Addr.Addr, Ipv4.Packet}}
use Rattle.pim_model.{specs.{Forwarding.register_received, declared.accepted.Accepted.Accepted, Downstream.{asserts_after_joins, is_named, joined_keys, keys_taken, pruned_keys, row_after, to_me, touched_keys}, Full.{reported_groups, reported_sources}, Hellos.{hello_holdtime_of, hello_received, is_generation_changed}, Querier.{is_skipped, querier_up, querying}, Seen.seen, Sets.{is_loser, is_kept_alive}, State.{State, iface_count}, Step.{change, decapsulated, iface_up}, Tables.{keys_in, row_at, same_option, set_row}, Upstream.fact_keys, Registers.register_stop_seen}}
use Rattle.law_settled.{proofs.{FewerFacts.{IsFewer, down_fewer, no_other, rows_left}, ListLaws.{either, each_of_list}}, specs.{Ready.{IsOrdered, Rises, IsSettled}, Laws.is_under_source}}
use Rattle.law_events.{specs.{Events.touched_by_event, JoinPrunes.{moved_among, moved_keys}, Locality.{AgreesBut, touching}, Touches.packet_keys, Scopes.reads, Rest.IsAtRest, Adjacent.{AdjoinsAlone, keys_of_hello}}, proofs.{EventLaws.change_touches, JoinPrunes.{join_prune_touches_moved, new_rows_moved}, RefreshedNeighbours.hello_again_touches_none, SilentEvents.seen_touches_none, Touches.widened, Hellos.{hello_adjoins, hello_leaves_facts}}}
use Rattle.pim_fanout.{specs.Contains.Contains}
use Rattle.pim_state.{specs.declared.touched.Touched.Touched}
use Rattle.pim_views.{specs.{Covers.{Concerns, IsWithin, NewAreNamed}, Openings.has_facts}}
use Rattle.pim_neighbours.{specs.Refreshed.is_refreshed}
use Rattle.pim_rerouted.{specs.Few.few_or_all}
use Rattle.pim_plan.{specs.{Tunnels.keys_of_stop, Repeats.{is_assert_known, is_direct, keys_of_packet, moved_asserts, moves_at_most_the_keepalive_end}}, proofs.{IgmpFacts.{query_leaves_facts, report_names_facts, star_names_none}, MovedReports.{report_touches_moved, reported_known}, Sourced.keyed_sourced, Stopped.stop_agrees, Tunnelled.{routes_leave_facts, rps_leave_facts, stop_leaves_facts}, Direct.direct_touches, Packets.{packet_named, register_named, source_named}, Repeats.{assert_concerned, moved_concerned, packet_concerned, register_concerned, so_false}, Growing.{Grows, facts_grow, stays}, Heard.seen_named}}
use Rattle.igmp_wire.{specs.Values.{Query as QueryValue, Record}}
use Rattle.pim_querier.{specs.Reports.{all_keep_modes, moved_sources}}
use Rattle.pim_store.{specs.PimTables.{AreKeyed, pim_tables}}

-- ---- a Join/Prune

module _ (p : Key → Bool) (s : State) (ordered : IsOrdered s) (i holdtime : ℕ) (joined pruned : List Key) where
  abbrev some_moved : Bool
  some_moved = list_any p (moved_among s i holdtime joined pruned)

  rows_grow : Grows p some_moved (keys_in s.downstream)
      (keys_in (fold (λ t k. set_row t k (row_after s i holdtime joined pruned k)) s.downstream
      (touched_keys s i joined pruned)))
  unfolding keys_taken
  rows_grow e = new_rows_moved s ordered i holdtime joined pruned p e

  keys_grow : Grows p some_moved (fact_keys s) (fact_keys (keys_taken s i holdtime joined pruned))
  unfolding keys_taken asserts_after_joins
  keys_grow =
      facts_grow p some_moved s _ _ s.join_timers s.override_timers s.sources rows_grow
      (λ e. or_left (list_any p (keys_in s.asserts)) some_moved
      (rows_left (λ e. not (is_loser (Some e.1) && is_named joined e.0)) s.asserts p e))
      (stays p some_moved (keys_in s.join_timers))
      (stays p some_moved (keys_in s.override_timers))
      (stays p some_moved (keys_in s.sources))

taken_named : (s : State) → IsOrdered s → (i : ℕ) (m : JoinPrune) → NewAreNamed (moved_keys s i m) s (to_me s i m)
unfolding to_me
taken_named s ordered i m g src there =
    keys_grow (names_source g src) s ordered i m.holdtime (joined_keys s i m) (pruned_keys i m) there

-- ---- changes after which there are no other facts

pub within_so : (s t : State) → IsFewer s t → IsWithin s t
within_so s t less = record {
  groups = λ g e. less.passed (is_of_group g) e;
  sources = λ g src e. less.passed (names_source g src) e;
}

up_leaves_facts : (s : State) (w i : ℕ) → IsFewer s (iface_up s w i).0
unfolding iface_up querier_up querying fact_keys
up_leaves_facts s w i = no_other s (iface_up s w i).0 refl

-- ---- Hellos

same_priority : (m n : Option ℕ) → same_option m n ≡ true → n ≡ m
same_priority None None e = refl
same_priority None (Some n) e = cc
same_priority (Some m) None e = cc
same_priority (Some m) (Some n) e = ap Some (sym (eqb-true m n e))

module _ (s : State) (i a : ℕ) (h : HelloValue) where
  tests : Option NeighbourRow → Bool
  tests row =
      option_map_or (λ (r : NeighbourRow). same_option r.priority h.priority) row false
      && not (hello_holdtime_of h == 0)
      && not (is_generation_changed s i a h)

  refreshed_row : (w : ℕ) → Rises s.neighbours → (row : Option NeighbourRow)
      → row_at s.neighbours (neighbour_key i a) ≡ row → tests row ≡ true
      → AgreesBut (touching []) s (hello_received s i a h w)
  unfolding tests
  refreshed_row w rises None at e = cc
  refreshed_row w rises (Some old) at e =
      let first = first_so _ (not (is_generation_changed s i a h)) e in
      hello_again_touches_none s i a h w old rises at
      (same_priority old.priority h.priority (first_so _ (not (hello_holdtime_of h == 0)) first))
      (so_false (hello_holdtime_of h == 0) (second_so _ (not (hello_holdtime_of h == 0)) first))
      (so_false (is_generation_changed s i a h) (second_so _ (not (is_generation_changed s i a h)) e))

  refreshed_touches_none : (w : ℕ) → Rises s.neighbours → is_refreshed s.neighbours i a h ≡ true
      → AgreesBut (touching []) s (hello_received s i a h w)
  unfolding is_refreshed is_generation_changed tests
  refreshed_touches_none w rises e =
      refreshed_row w rises (row_at s.neighbours (neighbour_key i a)) refl e

-- all may be touched where the keys are many
pub few_contain : (keys : List Key) (s c : State) → AdjoinsAlone keys s c → IsWithin s c → (many : Bool)
    → Contains (if many then Touched.All else Touched.Keys keys) s c
few_contain keys s c adjoins within true = inl (inl within)
few_contain keys s c adjoins within false = inr (inl adjoins)

-- what touches some keys touches them and more
touching_more : (keys more : List Key) (s t : State) → AgreesBut (touching keys) s t
    → AgreesBut (touching (keys ++ more)) s t
unfolding touching
touching_more keys more s t agrees k un = agrees k (go (list_any (reads k) keys) refl)
  where
    go : (b : Bool) → list_any (reads k) keys ≡ b → list_any (reads k) keys ≡ false
    go true is =
        let no : true ≡ false =
        sym (list_any-append (reads k) keys more ∙ or_left (list_any (reads k) keys) (list_any (reads k) more) is) ∙ un in cc
    go false is = is

received_named : (s : State) (packet : Packet) (r : Register)
    → NewAreNamed (source_key 0 (registered_group r) (registered_source r) ∷ []) s
    (decapsulated r (register_received s packet (registered_group r) (registered_source r) (is_null r))).state
received_named s packet (Encapsulated inner) = register_named s packet inner.destination inner.source false
received_named s packet (Null source group) = register_named s packet group source true

-- ---- what a report names

stars_in : (g src i : ℕ) (rs : List Record) → list_any (names_source g src) (map (λ (r : Record). star_key i r.group) rs) ≡ false
stars_in g src i [] = refl
stars_in g src i (r ∷ rs) = rw (star_names_none g src i r.group) (stars_in g src i rs)

stars_none : (g src i : ℕ) (records : List Record) → list_any (names_source g src) (reported_groups i records) ≡ false
unfolding reported_groups
stars_none g src i records = stars_in g src i (filter (λ r. not (is_skipped r)) records)

of_second : (p : Key → Bool) (xs ys : List Key) → list_any p xs ≡ false → list_any p (xs ++ ys) ≡ true
    → list_any p ys ≡ true
of_second p xs ys none some =
    sym (ap (λ (b : Bool). b || list_any p ys) none) ∙ sym (list_any-append p xs ys) ∙ some

-- ---- what was accepted

module _ (s : State) where
  pub named_keys : (i : IfaceId) (m : JoinPrune) (holdtime : ℕ) (joined pruned keys : List Key)
      → holdtime ≡ m.holdtime → joined ≡ joined_keys s i.number m → pruned ≡ pruned_keys i.number m
      → keys ≡ moved_among s i.number holdtime joined pruned → keys ≡ moved_keys s i.number m
  named_keys i m holdtime joined pruned keys lasts joins prunes all =
      all ∙ (λ j. moved_among s i.number (lasts j) (joins j) (prunes j))

  pub named_covered : (i : IfaceId) (m : JoinPrune) (holdtime : ℕ) (joined pruned keys : List Key) → IsOrdered s
      → holdtime ≡ m.holdtime → joined ≡ joined_keys s i.number m → pruned ≡ pruned_keys i.number m
      → keys ≡ moved_among s i.number holdtime joined pruned
      → (w : ℕ) → Concerns keys s (change s w (Accepted.JoinPruneToMe i m)).state
  unfolding change
  named_covered i m holdtime joined pruned keys ordered lasts joins prunes all w =
      subst (λ ks. Concerns ks s (change s w (Accepted.JoinPruneToMe i m)).state)
      (sym (named_keys i m holdtime joined pruned keys lasts joins prunes all))
      (record {
        agrees = join_prune_touches_moved s ordered i.number m;
        named = taken_named s ordered i.number m;
      })

  pub refreshed_covered : (i : IfaceId) (from : Addr) (h : HelloValue) (none : List Key) (refreshed : Bool) → Rises s.neighbours → refreshed ≡ is_refreshed s.neighbours i.number from.bits h
      → refreshed ≡ true → none ≡ [] → (w : ℕ) → Concerns none s (change s w (Accepted.Hello i from h)).state
  unfolding change
  refreshed_covered i from h none refreshed rises tested e empty w =
      let s' : State = hello_received s i.number from.bits h w in
      subst (λ ks. Concerns ks s s') (sym empty)
      (record {
        agrees = refreshed_touches_none s i.number from.bits h w rises (sym tested ∙ e);
        named = λ g src there. or_left (has_facts s g src) false
            ((hello_leaves_facts s i.number from.bits w h).passed (names_source g src) there);
      })

  pub hello_moves : (i : IfaceId) (from : Addr) (h : HelloValue) → AreKeyed (pim_tables s) → (w : ℕ)
      → Contains (few_or_all (keys_of_hello s i.number from.bits h)) s (change s w (Accepted.Hello i from h)).state
  unfolding change
  hello_moves i from h keyed w =
      few_contain (keys_of_hello s i.number from.bits h) s (hello_received s i.number from.bits h w)
      (hello_adjoins s i.number from.bits w h (keyed_sourced s keyed)) (within_so s _ (hello_leaves_facts s i.number from.bits w h)) _

  pub seen_covered : (i : IfaceId) (m : JoinPrune) (pruned keys : List Key) → pruned ≡ pruned_keys i.number m
      → keys ≡ filter (λ k. not (is_star k)) pruned
      → (w : ℕ) → Concerns keys s (change s w (Accepted.JoinPruneSeen i m)).state
  unfolding change
  seen_covered i m pruned keys prunes those w =
      let sources : List Key = filter (λ k. not (is_star k)) (pruned_keys i.number m) in
      let are : keys ≡ sources = those ∙ ap (λ ks. filter (λ k. not (is_star k)) ks) prunes in
      subst (λ ks. Concerns ks s (seen s w i.number m)) (sym are)
      (record {
        agrees = widened [] sources s (seen s w i.number m) refl (seen_touches_none s w i.number m);
        named = seen_named s w i.number m;
      })

  pub assert_covered : IsAtRest s → (i : IfaceId) (from : Addr) (x : AssertMessage) (keys : List Key)
      → keys ≡ moved_asserts s i.number from.bits x
      → (w : ℕ) → Concerns keys s (change s w (Accepted.Assert i from x)).state
  unfolding change
  assert_covered rest i from x keys those w =
      subst (λ ks. Concerns ks s (change s w (Accepted.Assert i from x)).state) (sym those)
      (moved_concerned s rest i.number from.bits x)

  pub stop_covered : (from : Addr) (r : RegisterStopValue) (keys : List Key)
      → keys ≡ keys_of_stop s r.group.bits r.source.bits → (w : ℕ) → Concerns keys s (change s w (Accepted.RegisterStop from r)).state
  unfolding change
  stop_covered from r keys those w =
      let s' : State = register_stop_seen s w r.group.bits r.source.bits in
      subst (λ ks. Concerns ks s s') (sym those)
      (record {
        agrees = stop_agrees s w from r;
        named = λ g src there. or_left (has_facts s g src)
            (list_any (names_source g src) (keys_of_stop s r.group.bits r.source.bits))
            ((stop_leaves_facts s w r.group.bits r.source.bits).passed (names_source g src) there);
      })

  pub queried_covered : (i : IfaceId) (from : Addr) (q : QueryValue) (keys : List Key) → keys ≡ []
      → (w : ℕ) → Concerns keys s (change s w (Accepted.Query i from q)).state
  unfolding touched_by_event change
  queried_covered i from q keys none w =
      subst (λ ks. Concerns ks s (change s w (Accepted.Query i from q)).state) (sym none)
      (record {
        agrees = change_touches s w (Accepted.Query i from q) [] refl;
        named = λ g src there. or_left (has_facts s g src) (list_any (names_source g src) [])
            ((query_leaves_facts i.number s from.bits q).passed (names_source g src) there);
      })

  pub reported_covered : (i : IfaceId) (records : List Record) (keys : List Key)
      → IsSettled s → keys ≡ reported_groups i.number records ++ reported_sources i.number records
      → (w : ℕ) → Concerns keys s (change s w (Accepted.Report i records)).state
  unfolding touched_by_event change
  reported_covered i records keys settled all w =
      let groups : List Key = reported_groups i.number records in
      let sources : List Key = reported_sources i.number records in
      subst (λ ks. Concerns ks s (change s w (Accepted.Report i records)).state) (sym all)
      (record {
        agrees = touching_more groups sources s _ (change_touches s w (Accepted.Report i records) groups refl);
        named = report_names_facts s i.number records
            (each_of_list is_under_source s.source_records settled.ahead.firable.source_records);
      })

  pub moved_covered : (i : IfaceId) (records : List Record) (keys : List Key) → IsSettled s
      → all_keep_modes s i.number records ≡ true → keys ≡ moved_sources s i.number records
      → (w : ℕ) → Concerns keys s (change s w (Accepted.Report i records)).state
  unfolding change
  moved_covered i records keys settled keep those w =
      let under = each_of_list is_under_source s.source_records settled.ahead.firable.source_records in
      let moved : List Key = moved_sources s i.number records in
      subst (λ ks. Concerns ks s (change s w (Accepted.Report i records)).state) (sym those)
      (record {
        agrees = report_touches_moved s i.number records
            (record { groups = settled.ordered.group_records; sources = settled.ordered.source_records; under = under }) keep;
        named = λ g src there.
            either (has_facts s g src)
            (list_any (names_source g src) (reported_groups i.number records ++ reported_sources i.number records))
            (or_left (has_facts s g src) (list_any (names_source g src) moved))
            (λ named. reported_known s i.number records (names_source g src)
            (of_second (names_source g src) (reported_groups i.number records) (reported_sources i.number records)
            (stars_none g src i.number records) named))
            (report_names_facts s i.number records under g src there);
      })

  packet_keys_cover : (i : IfaceId) (packet : Packet) (w : ℕ)
      → Concerns (packet_keys s packet.destination packet.source i.number) s (change s w (Accepted.Data i packet)).state
  unfolding touched_by_event change
  packet_keys_cover i packet w =
      record {
        agrees = change_touches s w (Accepted.Data i packet)
            (packet_keys s packet.destination packet.source i.number) refl;
        named = packet_named s packet.destination packet.source i.number;
      }

  direct_covered : (i : IfaceId) (packet : Packet) → i.number < iface_count s
      → is_direct s packet.destination packet.source i.number ≡ true → (w : ℕ)
      → Concerns (source_key 0 packet.destination packet.source ∷ []) s (change s w (Accepted.Data i packet)).state
  unfolding change
  direct_covered i packet below direct w =
      record {
        agrees = direct_touches packet.destination packet.source i.number s below direct;
        named = source_named s packet.destination packet.source i.number;
      }

  pub packet_covered : IsAtRest s → (i : IfaceId) (packet : Packet) (keys : List Key) → i.number < iface_count s
      → keys ≡ keys_of_packet s packet.destination packet.source i.number
      → (w : ℕ) → Concerns keys s (change s w (Accepted.Data i packet)).state
  unfolding change
  packet_covered rest i packet keys below those w =
      subst (λ ks. Concerns ks s (change s w (Accepted.Data i packet)).state) (sym those)
      (go (moves_at_most_the_keepalive_end s packet.destination packet.source i.number) refl)
    where
      go : (b : Bool) → moves_at_most_the_keepalive_end s packet.destination packet.source i.number ≡ b
          → Concerns (if b then []
          else (if is_direct s packet.destination packet.source i.number
          then source_key 0 packet.destination packet.source ∷ []
          else packet_keys s packet.destination packet.source i.number)) s (change s w (Accepted.Data i packet)).state
      go true moves = packet_concerned s rest packet.destination packet.source i.number moves
      go false moves = by_tree (is_direct s packet.destination packet.source i.number) refl
        where
          by_tree : (b : Bool) → is_direct s packet.destination packet.source i.number ≡ b
              → Concerns (if b then source_key 0 packet.destination packet.source ∷ []
              else packet_keys s packet.destination packet.source i.number) s (change s w (Accepted.Data i packet)).state
          by_tree true direct = direct_covered i packet below direct w
          by_tree false apart = packet_keys_cover i packet w

  pub register_covered : (packet : Packet) (r : Register) (keys : List Key)
      → keys ≡ source_key 0 (registered_group r) (registered_source r) ∷ []
      → (w : ℕ) → Concerns keys s (change s w (Accepted.Register packet r)).state
  unfolding touched_by_event change
  register_covered packet r keys those w =
      let named : List Key = source_key 0 (registered_group r) (registered_source r) ∷ [] in
      subst (λ ks. Concerns ks s (change s w (Accepted.Register packet r)).state) (sym those)
      (record {
        agrees = change_touches s w (Accepted.Register packet r) named refl;
        named = received_named s packet r;
      })

  -- ---- what is heard again

  pub register_known : IsAtRest s → (packet : Packet) (r : Register) (keys : List Key)
      → is_kept_alive s (registered_group r) (registered_source r) ≡ true → keys ≡ []
      → (w : ℕ) → Concerns keys s (change s w (Accepted.Register packet r)).state
  unfolding change
  register_known rest packet r keys kept none w =
      subst (λ ks. Concerns ks s (change s w (Accepted.Register packet r)).state) (sym none) (go r kept)
    where
      go : (r : Register) → is_kept_alive s (registered_group r) (registered_source r) ≡ true
          → Concerns [] s (change s w (Accepted.Register packet r)).state
      go (Encapsulated inner) kept = register_concerned s rest inner.destination inner.source packet false kept
      go (Null source group) kept = register_concerned s rest group source packet true kept

  pub assert_known : IsAtRest s → (i : IfaceId) (from : Addr) (x : AssertMessage) (keys : List Key)
      → is_assert_known s i.number from.bits x ≡ true → keys ≡ []
      → (w : ℕ) → Concerns keys s (change s w (Accepted.Assert i from x)).state
  unfolding change
  assert_known rest i from x keys known none w =
      subst (λ ks. Concerns ks s (change s w (Accepted.Assert i from x)).state) (sym none)
      (assert_concerned s rest i.number from.bits x known)

-- all may be touched by it, and it makes no facts
abbrev pub MakesNone : Accepted → Type 0
MakesNone (Accepted.Advance moment) = Unit {0}
MakesNone (Accepted.Up i) = Unit {0}
MakesNone (Accepted.Down i) = Unit {0}
MakesNone (Accepted.Hello i from h) = Unit {0}
MakesNone (Accepted.Routes routes) = Unit {0}
MakesNone (Accepted.Rps ranges) = Unit {0}
MakesNone _ = ⊥

pub facts_covered : (s : State) (w : ℕ) (a : Accepted) → MakesNone a → IsWithin s (change s w a).state
unfolding change
facts_covered s w (Accepted.Advance moment) none = within_so s s (no_other s s refl)
facts_covered s w (Accepted.Up i) none = within_so s _ (up_leaves_facts s w i.number)
facts_covered s w (Accepted.Down i) none = within_so s _ (down_fewer s i.number)
facts_covered s w (Accepted.Hello i from h) none = within_so s _ (hello_leaves_facts s i.number from.bits w h)
facts_covered s w (Accepted.Routes routes) none = within_so s _ (routes_leave_facts s routes)
facts_covered s w (Accepted.Rps ranges) none = within_so s _ (rps_leave_facts s ranges)
facts_covered s w (Accepted.JoinPruneToMe i m) none = absurd none
facts_covered s w (Accepted.JoinPruneSeen i m) none = absurd none
facts_covered s w (Accepted.Assert i from x) none = absurd none
facts_covered s w (Accepted.Query i from q) none = absurd none
facts_covered s w (Accepted.Report i records) none = absurd none
facts_covered s w (Accepted.Data i packet) none = absurd none
facts_covered s w (Accepted.Register packet r) none = absurd none
facts_covered s w (Accepted.RegisterStop from r) none = absurd none
