-- Events that repeat what is known: each needs no room, nothing follows of it, and no source is named.
use Rattle.std.{specs.{Option.option_map_or, Prelude.{if◌then◌else◌, is_some}}, proofs.{Common.{◌≡◌, ◌≤◌, ◌<◌, ◌+◌, ℕ, Bool, List, [], Err, IfOk, IsOkUnless, None, Ok, OnOk, Option, Result, Some, append-nil, ap, arith, inl, length, not, refl, subst, sym, true, false, ◌∙◌}, Math.Bool.and-false}}
use Rattle.pim_ip.{specs.{Ipv4.Packet, declared.{addr.Addr.Addr, fault.Fault.Fault}}}
use Rattle.pim_types.{specs.{Keys.source_key, declared.{config.IfaceId.IfaceId, fact.{Key.Key, SourceRow.SourceRow}, outcome.{Emission.Emission, Outcome.Outcome, Verdict.Verdict}}}}
use Rattle.igmp_wire.{specs.Values.Record}
use Rattle.pim_wire.{specs.{RegisterParts.{registered_group, registered_source}, Values.{JoinPrune, Register}, declared.hello.Hello.Hello as HelloValue}}
use Rattle.pim_model.{specs.{Cache.cached, declared.accepted.Accepted.Accepted, Downstream.{is_named, joined_keys, keys_taken, pruned_keys, to_me}, Firing.settled, Full.{distinct, is_full, join_prune_is_full, needed, once_more, passes_limit, source_is_full}, Hellos.neighbour_replaced, Messages.Message, Querier.{each_in_turn, group_membership_interval}, Sets.is_kept_alive, State.{InterfaceTable, State, iface_count, interfaces_of}, Step.{Answered, Change, change, changed, done, outcome_of, taken, taken_unless_full, with_messages}, Tables.{has_row, row_at}, Unicast.is_rp, Writing.{all_written, write_all}}}
use Rattle.law_events.{specs.{Events.own_change, JoinPrunes.moved_keys, Kept.{is_listed, refreshed}, Named.named_of, Rest.IsAtRest}, proofs.JoinPrunes.join_prune_again}
use Rattle.pim_mfc.{specs.Laws.ShowsRows}
use Rattle.pim_neighbours.{specs.Refreshed.is_refreshed}
use Rattle.pim_store.{specs.PimTables.{AreKeyed, pim_tables}}
use Rattle.pim_state.{specs.declared.touched.Touched.Touched}
use Rattle.pim_views.{specs.declared.opening.GroupOpening.GroupOpening}
use Rattle.pim_downstream.{specs.{Naming.are_on, declared.named.Named.Named}, proofs.OnInterface.joined_on}
use Rattle.pim_fanout.{specs.{Contains.Contains, Disturbed.joined, Refreshing.Refreshes}}
use Rattle.pim_settling.{specs.Settling.{AreNames, settled_by}, proofs.Settling.settled_as_opened}
use Rattle.pim_plan.{specs.{Naming.IsConfigured, Planning.{Fits, IsAgain, IsPlanned, IsRefreshing, IsRenewing, touched_of}, Rejoining.repeats, Renewing.{all_renew, groups_renewed}, declared.{act.Act.Act, plan.{Plan.Plan, Planning.Planning}}}, proofs.{Rejoined.{needs_none, touches_none}, Renewed.{renewed_keeps_modes, renewed_moves_none, renewed_report}, Touching.{moved_covered, named_covered, refreshed_covered, register_known}}}
use Rattle.pim_event.{specs.{Caching.CacheFollows, Disturbing.{disturbed_of}, Replacing.{Replaced as ReplacedValue, replaced_after}, Staying.{disturbed_by, moves_all, moves_dr}, Stepping.TurnsUnlessFull, declared.parts.Core.Core}, proofs.{Disturbing.{disturbed_after, disturbed_in_room, joined_last}, Lasting.{refreshed_fits, refreshed_keeps_dr, refreshed_received}, Listing.{listed_after, once_alone}, Quietly.{named_quietly, none_opened, nothing_follows}, Rows.{named_with_room, rows_after}, Staying.{few_of, stays_after}, Taking.{answered, taken_is_done, with_room}}}

refreshes_none : (s : State) (rows : _) → Refreshes [] s rows rows
unfolding refreshed is_listed
refreshes_none s rows c shows = shows

-- ---- an event that touches nothing

module _ (o : Core) (rest : IsAtRest o.world) (w : ℕ) (a : Accepted) (timeless : (m : ℕ) → ¬ (a ≡ Accepted.Advance m))
    (none : Touched.Keys [] ≡ touched_of o.world a) (calm : moves_all o.world a ≡ false)
    (covers : (v : ℕ) → Contains (Touched.Keys []) o.world (change o.world v a).state) (t : State) where
  are_names : AreNames o.world (change o.world w a).state (Touched.Keys []) []
  are_names = named_quietly o.world (change o.world w a).state (Touched.Keys []) [] refl (covers w) refl

  disturbs_none : o.cache.disturbed ≡ joined o.cache.disturbed (disturbed_by o.world a (Touched.Keys []))
  disturbs_none =
      sym (joined_last o.cache.disturbed)
      ∙ ap (λ (b : Bool). joined o.cache.disturbed (if b then Touched.All else Touched.Keys [])) (sym calm)

  -- the cache stays as it is
  pub disturbs : o.cache.disturbed ≡ joined o.cache.disturbed (disturbed_of o.world w a)
  disturbs =
      disturbed_after o.world w a timeless (Touched.Keys []) o.cache.disturbed o.cache.disturbed none disturbs_none

  pub follows : t ≡ (taken o.world w a).state → (lent : InterfaceTable) → lent ≡ interfaces_of o.world
      → length lent.configured.interfaces ≤ 120 → ShowsRows o.cache.mfc.rows (cached o.world)
      → CacheFollows o.world t (named_of o.world w a) o.cache o.cache
  follows state lent lends few shown = record {
    shown = rows_after o.world w a timeless (Touched.Keys []) [] are_names t o.cache.mfc.rows o.cache.mfc.rows lent
        rest.quiet lends few state (refreshes_none t o.cache.mfc.rows) shown;
    few = omega arith;
    listed = listed_after o.world w a timeless (Touched.Keys []) [] are_names rest.quiet o.cache.changed o.cache.changed
        (sym (append-nil o.cache.changed));
    stays = λ before stays.
        stays_after before o.world t w a timeless (Touched.Keys []) (covers w) rest.quiet lent lends few state
        o.cache.disturbed o.cache.disturbed disturbs_none stays;
  }

  -- where only the state changes
  pub silently_taken : change o.world w a ≡ changed t → AreKeyed (pim_tables t)
      → taken o.world w a ≡ answered (t, []) [] []
  unfolding done write_all all_written each_in_turn
  silently_taken silent keyed =
      let within : Contains (Touched.Keys []) o.world t =
      subst (λ (c : Change). Contains (Touched.Keys []) o.world c.state) silent (covers w) in
      taken_is_done o.world w a timeless
      ∙ ap (λ (c : Change). done o.world w c) silent
      ∙ ap (λ (sent : State × List Emission). answered sent [] [])
      (settled_as_opened o.world t rest.quiet keyed [] w (Touched.Keys []) within
      ∙ ap (λ (vs : List GroupOpening). settled_by vs t [] w) (sym (none_opened o.world))
      ∙ sym (nothing_follows t [] w))

  -- what is left of the core, where there is room
  pub turns_quietly : is_full o.world a ≡ false → t ≡ (taken o.world w a).state
      → (lent : InterfaceTable) → lent ≡ interfaces_of o.world → length lent.configured.interfaces ≤ 120
      → ShowsRows o.cache.mfc.rows (cached o.world) → o.cache.changed ≡ [] → (outcome : Outcome)
      → outcome ≡ outcome_of (taken o.world w a) → (r : ReplacedValue) → r ≡ replaced_after o.world a o.replaced
      → TurnsUnlessFull o w a (Ok outcome) (record o { world = t; replaced = r })
  turns_quietly room state lent lends few shown unlisted outcome told r stays =
      let same : taken o.world w a ≡ taken_unless_full o.world w a = sym (with_room o.world w a room) in
      record {
        outcome = told ∙ ap (λ (x : Answered). outcome_of x) same;
        state = state ∙ ap (λ (x : Answered). x.state) same;
        cache = subst (λ (ks : List Key). CacheFollows o.world t ks o.cache o.cache) (named_with_room o.world w a room)
            (follows state lent lends few shown);
        disturbed = disturbs ∙ ap (joined o.cache.disturbed) (disturbed_in_room o.world w a room);
        once = once_alone o.cache.changed unlisted;
        replaced = stays;
        fault = tt;
      }

  -- and where nothing is sent
  pub turns_silently : is_full o.world a ≡ false → taken o.world w a ≡ answered (t, []) [] []
      → (lent : InterfaceTable) → lent ≡ interfaces_of o.world → length lent.configured.interfaces ≤ 120
      → ShowsRows o.cache.mfc.rows (cached o.world) → o.cache.changed ≡ [] → (outcome : Outcome)
      → outcome ≡ record { answer = Ok Verdict.Done; emissions = []; copies = 0 }
      → o.replaced ≡ replaced_after o.world a o.replaced
      → TurnsUnlessFull o w a (Ok outcome) (record o { world = t })
  turns_silently room is_taken lent lends few shown unlisted outcome silent stays =
      turns_quietly room (ap (λ (x : Answered). x.state) (sym is_taken)) lent lends few shown unlisted outcome
      (silent ∙ ap (λ (x : Answered). outcome_of x) (sym is_taken)) o.replaced stays

-- ---- a Join/Prune that repeats what is known

module _ (s : State) (rest : IsAtRest s) (w : ℕ) (i : IfaceId) (m : JoinPrune)
    (again : repeats s m.holdtime (joined_keys s i.number m) (pruned_keys i.number m) ≡ true) where
  abbrev a : Accepted
  a = Accepted.JoinPruneToMe i m

  timeless : (n : ℕ) → ¬ (a ≡ Accepted.Advance n)
  timeless n is = cc is

  none_moved : moved_keys s i.number m ≡ []
  none_moved = touches_none s i.number m.holdtime (joined_keys s i.number m) (pruned_keys i.number m) again

  touches : Touched.Keys [] ≡ touched_of s a
  unfolding touched_of
  touches = ap Touched.Keys (sym none_moved)

  calm : moves_all s a ≡ false
  unfolding moves_dr
  calm = refl

  has_room : is_full s a ≡ false
  unfolding is_full join_prune_is_full
  has_room = needs_none s i.number m.holdtime (joined_keys s i.number m) (pruned_keys i.number m) again

  covers : (v : ℕ) → Contains (Touched.Keys []) s (change s v a).state
  covers v =
      inl (inl (named_covered s i m m.holdtime (joined_keys s i.number m) (pruned_keys i.number m) []
      rest.settled.ordered refl refl refl (sym none_moved) v))

  nothing_more : settled s (own_change s w a) w ≡ (to_me s i.number m, [])
  unfolding write_all all_written each_in_turn
  nothing_more = join_prune_again s rest.quiet rest.settled.ordered i m w none_moved

  is_taken : taken s w a ≡ answered (to_me s i.number m, []) [] []
  unfolding taken done change
  is_taken = ap (λ (sent : State × List Emission). answered sent [] []) nothing_more

-- ---- what is known where it is planned so

pub planned_again : (s : State) (a : Accepted) (i : IfaceId) (holdtime : ℕ) (named : Named) (planning : Planning)
    → planning ≡ Planning.Again i holdtime named → IsPlanned s a planning → IsAgain s a i holdtime named
planned_again s a i holdtime named planning is planned = subst (λ (p : Planning). IsPlanned s a p) is planned

pub planned_refreshed : (s : State) (a : Accepted) (i : IfaceId) (from : Addr) (h : HelloValue) (planning : Planning)
    → planning ≡ Planning.Refreshed i from h → IsPlanned s a planning → IsRefreshing s a i from h
planned_refreshed s a i from h planning is planned = subst (λ (p : Planning). IsPlanned s a p) is planned

pub planned_renewed : (s : State) (a : Accepted) (i : IfaceId) (records : List Record) (planning : Planning)
    → planning ≡ Planning.Renewed i records → IsPlanned s a planning → IsRenewing s a i records
planned_renewed s a i records planning is planned = subst (λ (p : Planning). IsPlanned s a p) is planned

pub report_below : (s : State) (a : Accepted) (i : IfaceId) (records : List Record) → IsRenewing s a i records
    → (lent : InterfaceTable) → lent ≡ interfaces_of s → length lent.configured.interfaces ≤ 120
    → IsConfigured s a → i.number < 120
report_below s a i records is lent lends few configured =
    let known : i.number < iface_count s = subst (λ (x : Accepted). IsConfigured s x) is.event configured in
    let most : length s.configured.interfaces ≤ 120 = few_of s lent lends few in
    omega (arith, known, most)

module _ (s : State) (a : Accepted) (i : IfaceId) (holdtime : ℕ) (named : Named) (is : IsAgain s a i holdtime named) where
  pub iface_below : (lent : InterfaceTable) → lent ≡ interfaces_of s → length lent.configured.interfaces ≤ 120
      → IsConfigured s a → i.number < 120
  iface_below lent lends few configured =
      let known : i.number < iface_count s = subst (λ (x : Accepted). IsConfigured s x) is.event configured in
      let most : length s.configured.interfaces ≤ 120 = few_of s lent lends few in
      omega (arith, known, most)

  pub keys_on : are_on i.number named.joined.items ≡ true
  keys_on = subst (λ (ks : List Key). are_on i.number ks ≡ true) (sym is.keys.joins) (joined_on i.number s is.message)

pub turns_again : (o : Core) (w : ℕ) (a : Accepted) (i : IfaceId) (holdtime : ℕ) (named : Named) (t : State)
    (outcome : Outcome) (lent : InterfaceTable) → IsAtRest o.world → ShowsRows o.cache.mfc.rows (cached o.world)
    → o.cache.changed ≡ [] → IsAgain o.world a i holdtime named
    → t ≡ keys_taken o.world i.number holdtime named.joined.items named.pruned.items
    → outcome ≡ record { answer = Ok Verdict.Done; emissions = []; copies = 0 }
    → lent ≡ interfaces_of o.world → length lent.configured.interfaces ≤ 120
    → TurnsUnlessFull o w a (Ok outcome) (record o { world = t })
unfolding to_me
turns_again o w a i holdtime named t outcome lent rest shown unlisted is takes silent lends few =
    let s : State = o.world in
    let m : JoinPrune = is.message in
    let b : Accepted = Accepted.JoinPruneToMe i m in
    let again : repeats s m.holdtime (joined_keys s i.number m) (pruned_keys i.number m) ≡ true =
    sym (λ j. repeats s (is.lasts j) (is.keys.joins j) (is.keys.prunes j)) ∙ is.again in
    let to : t ≡ to_me s i.number m = takes ∙ (λ j. keys_taken s i.number (is.lasts j) (is.keys.joins j) (is.keys.prunes j)) in
    subst (λ (x : Accepted). TurnsUnlessFull o w x (Ok outcome) (record o { world = t })) (sym is.event)
    (turns_silently o rest w b (timeless s rest w i m again) (touches s rest w i m again) (calm s rest w i m again)
    (covers s rest w i m again) t (has_room s rest w i m again)
    (is_taken s rest w i m again ∙ ap (λ (x : State). answered (x, []) [] []) (sym to)) lent lends few shown unlisted
    outcome silent refl)

-- ---- a Hello that repeats what is known of its neighbour

module _ (s : State) (rest : IsAtRest s) (i : IfaceId) (from : Addr) (h : HelloValue)
    (again : is_refreshed s.neighbours i.number from.bits h ≡ true) where
  abbrev heard : Accepted
  heard = Accepted.Hello i from h

  hello_timeless : (n : ℕ) → ¬ (heard ≡ Accepted.Advance n)
  hello_timeless n is = cc is

  hello_touches : Touched.Keys [] ≡ touched_of s heard
  unfolding touched_of
  hello_touches = rw again refl

  hello_calm : moves_all s heard ≡ false
  unfolding moves_dr
  hello_calm = ap not (refreshed_keeps_dr s i.number from.bits h rest.settled.ordered.neighbours again)

  hello_room : is_full s heard ≡ false
  unfolding is_full
  hello_room = refreshed_fits s i.number from.bits h again

  hello_covers : (v : ℕ) → Contains (Touched.Keys []) s (change s v heard).state
  hello_covers v =
      inl (inl (refreshed_covered s i from h [] true rest.settled.ordered.neighbours (sym again) refl refl v))

  hello_silent : (w : ℕ) → change s w heard ≡ changed (neighbour_replaced s i.number from.bits h)
  unfolding change
  hello_silent w = ap (λ (x : State). changed x) (refreshed_received s i.number from.bits h w again)

pub turns_refreshed : (o : Core) (w : ℕ) (a : Accepted) (i : IfaceId) (from : Addr) (h : HelloValue) (t : State)
    (outcome : Outcome) (lent : InterfaceTable) → IsAtRest o.world → ShowsRows o.cache.mfc.rows (cached o.world)
    → o.cache.changed ≡ [] → IsRefreshing o.world a i from h → t ≡ neighbour_replaced o.world i.number from.bits h
    → AreKeyed (pim_tables t) → outcome ≡ record { answer = Ok Verdict.Done; emissions = []; copies = 0 }
    → lent ≡ interfaces_of o.world → length lent.configured.interfaces ≤ 120
    → TurnsUnlessFull o w a (Ok outcome) (record o { world = t })
turns_refreshed o w a i from h t outcome lent rest shown unlisted is to keyed silent lends few =
    let s : State = o.world in
    let b : Accepted = Accepted.Hello i from h in
    let again = is.refreshes in
    let left : change s w b ≡ changed t = hello_silent s rest i from h again w ∙ ap (λ (x : State). changed x) (sym to) in
    subst (λ (x : Accepted). TurnsUnlessFull o w x (Ok outcome) (record o { world = t })) (sym is.event)
    (turns_silently o rest w b (hello_timeless s rest i from h again) (hello_touches s rest i from h again)
    (hello_calm s rest i from h again) (hello_covers s rest i from h again) t (hello_room s rest i from h again)
    (silently_taken o rest w b (hello_timeless s rest i from h again) (hello_touches s rest i from h again)
    (hello_calm s rest i from h again) (hello_covers s rest i from h again) t left keyed)
    lent lends few shown unlisted outcome silent refl)

-- ---- a report that renews its groups

module _ (s : State) (rest : IsAtRest s) (i : IfaceId) (records : List Record)
    (again : all_renew s i.number records ≡ true) where
  abbrev reported : Accepted
  reported = Accepted.Report i records

  report_timeless : (n : ℕ) → ¬ (reported ≡ Accepted.Advance n)
  report_timeless n is = cc is

  report_touches : Touched.Keys [] ≡ touched_of s reported
  unfolding touched_of
  report_touches =
      rw (renewed_keeps_modes s i.number records again) (ap Touched.Keys (sym (renewed_moves_none s i.number records again)))

  report_calm : moves_all s reported ≡ false
  unfolding moves_dr
  report_calm = refl

  report_covers : (v : ℕ) → Contains (Touched.Keys []) s (change s v reported).state
  report_covers v =
      inl (inl (moved_covered s i records [] rest.settled (renewed_keeps_modes s i.number records again)
      (sym (renewed_moves_none s i.number records again)) v))

  report_silent : (w : ℕ) → change s w reported
      ≡ changed (groups_renewed i.number (s.present + group_membership_interval s i.number) s records)
  unfolding change
  report_silent w =
      ap (λ (sent : State × List Message). with_messages sent) (renewed_report s i.number records again)

pub turns_renewed : (o : Core) (w : ℕ) (a : Accepted) (i : IfaceId) (records : List Record) (t : State)
    (outcome : Outcome) (lent : InterfaceTable) → IsAtRest o.world → ShowsRows o.cache.mfc.rows (cached o.world)
    → o.cache.changed ≡ [] → IsRenewing o.world a i records
    → t ≡ groups_renewed i.number (o.world.present + group_membership_interval o.world i.number) o.world records
    → AreKeyed (pim_tables t) → outcome ≡ record { answer = Ok Verdict.Done; emissions = []; copies = 0 }
    → lent ≡ interfaces_of o.world → length lent.configured.interfaces ≤ 120
    → TurnsUnlessFull o w a (Ok outcome) (record o { world = t })
turns_renewed o w a i records t outcome lent rest shown unlisted is to keyed silent lends few =
    let s : State = o.world in
    let b : Accepted = Accepted.Report i records in
    let again = is.renews in
    let room : is_full s b ≡ false = subst (λ (x : Accepted). is_full s x ≡ false) is.event is.room in
    let left : change s w b ≡ changed t = report_silent s rest i records again w ∙ ap (λ (x : State). changed x) (sym to) in
    subst (λ (x : Accepted). TurnsUnlessFull o w x (Ok outcome) (record o { world = t })) (sym is.event)
    (turns_silently o rest w b (report_timeless s rest i records again) (report_touches s rest i records again)
    (report_calm s rest i records again) (report_covers s rest i records again) t room
    (silently_taken o rest w b (report_timeless s rest i records again) (report_touches s rest i records again)
    (report_calm s rest i records again) (report_covers s rest i records again) t left keyed)
    lent lends few shown unlisted outcome silent refl)

-- ---- a Register of a source that is kept alive

kept_there : (row : Option SourceRow) → option_map_or (λ (r : SourceRow). is_some r.keepalive) row false ≡ true
    → is_some row ≡ true
kept_there None kept = kept
kept_there (Some r) kept = refl

module _ (s : State) (rest : IsAtRest s) (p : Packet) (r : Register)
    (kept : is_kept_alive s (registered_group r) (registered_source r) ≡ true) where
  abbrev registering : Accepted
  registering = Accepted.Register p r

  register_timeless : (n : ℕ) → ¬ (registering ≡ Accepted.Advance n)
  register_timeless n is = cc is

  register_touches : Touched.Keys [] ≡ touched_of s registering
  unfolding touched_of
  register_touches = rw kept refl

  register_calm : moves_all s registering ≡ false
  unfolding moves_dr
  register_calm = refl

  register_room : is_full s registering ≡ false
  unfolding is_full source_is_full passes_limit needed distinct once_more is_named is_kept_alive has_row
  register_room =
      rw (kept_there (row_at s.sources (source_key 0 (registered_group r) (registered_source r))) kept)
      (and-false (is_rp s (registered_group r) p.destination))

  register_covers : (v : ℕ) → Contains (Touched.Keys []) s (change s v registering).state
  register_covers v = inl (inl (register_known s rest p r [] kept refl v))

  -- it touches nothing
  pub register_fits : (let plan : Plan = record { touched = Touched.Keys []; act = Act.Register p r } in Fits s registering plan)
  register_fits = record {
    event = refl;
    read = tt;
    room = register_room;
    touches = register_touches;
    covers = register_covers;
  }

pub turns_register : (o : Core) (w : ℕ) (p : Packet) (r : Register) (t : State) (result : Result Outcome Fault)
    (replaced : ReplacedValue) (lent : InterfaceTable) → IsAtRest o.world → ShowsRows o.cache.mfc.rows (cached o.world)
    → o.cache.changed ≡ [] → is_kept_alive o.world (registered_group r) (registered_source r) ≡ true
    → IfOk result (λ outcome. outcome ≡ outcome_of (taken o.world w (Accepted.Register p r)))
    → OnOk result (t ≡ (taken o.world w (Accepted.Register p r)).state)
    → OnOk result (replaced ≡ replaced_after o.world (Accepted.Register p r) o.replaced)
    → IsOkUnless result Fault.Memory → lent ≡ interfaces_of o.world → length lent.configured.interfaces ≤ 120
    → TurnsUnlessFull o w (Accepted.Register p r) result (record o { world = t; replaced = replaced })
turns_register o w p r t (Ok outcome) replaced lent rest shown unlisted kept told to stays fault lends few =
    let s : State = o.world in
    turns_quietly o rest w (Accepted.Register p r) (register_timeless s rest p r kept) (register_touches s rest p r kept)
    (register_calm s rest p r kept) (register_covers s rest p r kept) t (register_room s rest p r kept) to lent lends few
    shown unlisted outcome told replaced stays
turns_register o w p r t (Err f) replaced lent rest shown unlisted kept told to stays fault lends few = record {
  outcome = tt;
  state = tt;
  cache = tt;
  disturbed = tt;
  once = tt;
  replaced = tt;
  fault = fault;
}
