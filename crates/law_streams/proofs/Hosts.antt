-- A host's report is an event by which a group comes to be wanted.
use Rattle.std.{proofs.Common.{◌≡◌, ◌∙◌, ℕ, ◌+◌, ◌<◌, ◌≤◌, ◌&&◌, ◌||◌, inr, Bool, true, false, List, [], ◌∷◌, filter, filter_map, length, Option, Some, None, Result, Ok, Err, refl, sym, ap, subst, arith, eq-eqb}}
use Rattle.pim_ip.{specs.{Ipv4.is_source_specific, declared.refusal.Refusal.Refusal}}
use Rattle.pim_types.{specs.{declared.{outcome.{Stop.Stop, Verdict.Verdict}, event.Event.Event, fact.SourceRecordRow.SourceRecordRow}, Keys.{source_key, star_key}}}
use Rattle.igmp_wire.{specs.{Values.Record, declared.report.RecordType.RecordType}}
use Rattle.pim_model.{specs.{declared.accepted.Accepted.Accepted, Asserts.{assert_forgotten, without_spt_bit}, Cause.{done_as, if_done}, Downstream.is_named, Clearing.clear, Desires.{join_desired_star, rpf_star}, Firing.settled, Full.{distinct, needed, once_more, passes_limit, reported_groups, reported_sources}, Judging.{Judged, judged}, Messages.Message, Neighbours.{is_dr, nbr}, Receivers.{is_exclude, is_exclude_among, local_receiver_exclude, local_receiver_exclude_among}, Registers.settle_registers, Step.{change, done, step}, Unicast.{route, rp_of, rp_route}, Upstream.is_pruned_with_star, Querier.{each_in_turn, group_membership_interval, is_excluding, query_asked, query_sources, record_seen, report_seen}, Records.{AskSources, Asked, Absent, GroupRecord, apply_record, from_exclude, from_include, in_both, is_at_group, member_of, named_not_excluded, record_with, sources_of_both, with_members, with_record, with_repeats_of_rows}, Sets.{Set, assert_source, assert_star, immediate_olist_star, inherited_olist_rpt, is_loser, lost_assert_rpt, lost_assert_star, pim_exclude, pim_include_star, serves_star, spt_bit}, State.{Addressing, State, iface_count, is_own_among, is_up}, Tables.{Table, drop_where, has_row, is_among, put, row_at}}}
use Rattle.law_settled.{proofs.{RowLaws.{has_row_dropped, row_put}, SettlingLaws.kept_by_clearing}}
use Rattle.law_events.{specs.Scopes.reads, proofs.{SharedMacros.is_dr_local, UntoldKeys.same_by_scope, JoinPrunes.none_there}}
use Rattle.law_streams.{specs.{Bounded.{needed_by, needed_of}, Copies.happens, Served.IsMember, Flows.PassesOn, Joins.ComesToWantStar, HostsServed.{Asks, CanServeHost, HostAsks, IsRequest, became}, Ways.{IsNew, Place, state_of, up_iface}}, proofs.{Same.{Rows, settled_same}, Bounded.adds_what_is_needed, Fewer.{le_both, no_less}, Made.step_taken, Leaves.{rest_agrees, taken_is_done, untouched}, Passes.{fewer_asserts, general_group, none_pruned, room_left, same_next, same_rp, same_up, to_the_next}, Serves.{has_room, on_the_tree}, Taken.{source_unlost, star_unlost, still_configured, still_unset, wanted_star}}}

none_left : (p : ℕ → Bool) → ((n : ℕ) → p n ≡ false) → (xs : List ℕ) → filter p xs ≡ []
none_left p f [] = refl
none_left p f (x ∷ xs) = rw (f x) (none_left p f xs)

last_false : (b : Bool) → (b && false) ≡ false
last_false b = grind arith

-- ---- one record of EXCLUDE of no source

module _ (full : ℕ) (r : GroupRecord) (all : List ℕ) where
  abbrev nobody : Set
  nobody src = is_among src []

  abbrev everyone : GroupRecord
  everyone = record { timer = Some full; members = [] }

  all_gone : (xs : List ℕ) → filter_map (λ src. member_of src Absent) xs ≡ []
  all_gone [] = refl
  all_gone (x ∷ xs) = all_gone xs

  -- what it leaves, and what it requests
  record Leaves (p : GroupRecord × List Asked) : Type 0 where
    record_left : p.0 ≡ everyone
    asks_none : (i g : ℕ) (s : State) → (each_in_turn (query_asked i g) s p.1).0 ≡ s

  none_asked : (i g : ℕ) (s : State) (sources : List ℕ) → sources ≡ []
      → (each_in_turn (query_asked i g) s (AskSources sources ∷ [])).0 ≡ s
  unfolding each_in_turn query_asked query_sources
  none_asked i g s sources e = rw e refl

  from_in : (type : RecordType) → is_excluding type ≡ true → Leaves (from_include full r type nobody all)
  unfolding from_include record_with is_among each_in_turn
  from_in RecordType.IsExclude e = record {
    record_left = λ j. record { timer = Some full; members = all_gone all j };
    asks_none = λ i g s. refl;
  }
  from_in RecordType.ToExclude e = record {
    record_left = λ j. record { timer = Some full; members = all_gone all j };
    asks_none = λ i g s. none_asked i g s _ (none_left (in_both r nobody) (λ n. last_false _) all);
  }
  from_in RecordType.IsInclude e = cc
  from_in RecordType.Allow e = cc
  from_in RecordType.Block e = cc
  from_in RecordType.ToInclude e = cc

  from_out : (end : ℕ) (type : RecordType) → is_excluding type ≡ true → Leaves (from_exclude full end r type nobody all)
  unfolding from_exclude record_with is_among each_in_turn
  from_out end RecordType.IsExclude e = record {
    record_left = λ j. record { timer = Some full; members = all_gone all j };
    asks_none = λ i g s. refl;
  }
  from_out end RecordType.ToExclude e = record {
    record_left = λ j. record { timer = Some full; members = all_gone all j };
    asks_none = λ i g s. none_asked i g s _ (none_left (named_not_excluded r nobody) (λ n. refl) all);
  }
  from_out end RecordType.IsInclude e = cc
  from_out end RecordType.Allow e = cc
  from_out end RecordType.Block e = cc
  from_out end RecordType.ToInclude e = cc

applied : (full : ℕ) (r : GroupRecord) (type : RecordType) → is_excluding type ≡ true
    → Leaves full r (sources_of_both r []) (apply_record full r type [])
unfolding apply_record
applied full r type e = go r.timer refl
  where
    go : (o : Option ℕ) → r.timer ≡ o → Leaves full r (sources_of_both r []) (elim o [
      | None ↦ from_include full r type (λ src. is_among src []) (sources_of_both r [])
      | Some end ↦ from_exclude full end r type (λ src. is_among src []) (sources_of_both r [])
    ])
    go None f = from_in full r (sources_of_both r []) type e
    go (Some end) f = from_out full r (sources_of_both r []) end type e

-- ---- the report

module _ (s : State) (i g : ℕ) (type : RecordType) (excluding : is_excluding type ≡ true)
    (general : is_source_specific g ≡ false) where
  abbrev request : Record
  request = record { type = type; group = g; sources = [] }

  abbrev full : ℕ
  full = s.present + group_membership_interval s i

  abbrev pub asked : State
  asked = with_record s i g (record { timer = Some full; members = [] })

  seen_so : (record_seen i s request).0 ≡ asked
  unfolding record_seen
  seen_so = grind (arith, applied)

  pub report_leaves : (report_seen s i (request ∷ [])).0 ≡ asked
  unfolding report_seen each_in_turn
  report_leaves = rw general seen_so

-- ---- the lists with a host's interface

module _ (t : State) (g i : ℕ) (wants : is_exclude t g i ≡ true) (dr : is_dr t i ≡ true)
    (unlost : is_loser (assert_star t g i) ≡ false) where
  star_kept : lost_assert_star t g i ≡ false
  unfolding lost_assert_star
  star_kept = rw unlost (last_false _)

  included : pim_include_star t g i ≡ true
  unfolding pim_include_star serves_star
  included = rw (star_kept, dr, wants) refl

  last_passes : (b : Bool) → ((b || true) && true) ≡ true
  last_passes b = grind arith

  pub host_listed : immediate_olist_star t g i ≡ true
  unfolding immediate_olist_star
  host_listed = rw (included, star_kept) (last_passes _)

  module _ (src : ℕ) (wanted : local_receiver_exclude t g src i ≡ false)
      (unlost_source : is_loser (assert_source t g src i) ≡ false) where
    rpt_kept : lost_assert_rpt t g src i ≡ false
    unfolding lost_assert_rpt
    rpt_kept = rw unlost_source (last_false _)

    not_excluded : pim_exclude t g src i ≡ false
    unfolding pim_exclude
    not_excluded = rw wanted (last_false _)

    pub host_on_list : inherited_olist_rpt t g src i ≡ true
    unfolding inherited_olist_rpt
    host_on_list = rw (included, not_excluded, star_kept, rpt_kept) (last_passes _)

-- ---- the event

none_done : (answer : Result Verdict Refusal) (stop : Stop) → if_done answer (Err stop) ≡ None
none_done answer stop = grind arith

same_accepted : (answer : Result Verdict Refusal) (a b : Accepted) → if_done answer (Ok a) ≡ Some b → (let j : Judged = Ok a in j) ≡ Ok b
same_accepted answer a b e = grind arith

module _ (g rp link : ℕ) (p : Place) (e : Event) (type : RecordType) (excluding : is_excluding type ≡ true)
    (is : done_as (happens (state_of p) e) ≡ Some (Accepted.Report (record { number = p.down }) (record { type = type; group = g; sources = [] } ∷ []))) where
  abbrev s : State
  s = state_of p

  abbrev i : ℕ
  i = p.down

  abbrev records : List Record
  records = record { type = type; group = g; sources = [] } ∷ []

  abbrev report : Accepted
  report = Accepted.Report (record { number = p.down }) records

  abbrev c : State × List Message
  c = ((report_seen s i records).0, (report_seen s i records).1)

  abbrev t : State
  t = (settled s c e.draw).0

  is_settled : (step s e).state ≡ t
  unfolding done change
  is_settled = ap (λ a. a.state) (step_taken s e report is ∙ taken_is_done s e.draw report refl)

  module _ (src : ℕ) (can : CanServeHost g rp src link p) where
    abbrev new : IsNew s g
    new = (can.can_go_on).new

    on_asked : (P : State → Type 0) → P (asked s i g type excluding (general_group s g rp can.rp_known)) → P c.0
    on_asked P f = subst P (sym (report_leaves s i g type excluding (general_group s g rp can.rp_known))) f

    abbrev full_end : ℕ
    full_end = s.present + group_membership_interval s i

    groups_are : t.group_records ≡ put s.group_records (star_key i g) (record { end = Some full_end })
    unfolding with_record with_members with_repeats_of_rows
    groups_are =
        ap (λ (r : Rows). r.groups) (settled_same s c e.draw)
        ∙ on_asked (λ x. x.group_records ≡ put s.group_records (star_key i g) (record { end = Some full_end })) refl

    members_are : t.source_records ≡ drop_where (is_at_group i g) s.source_records
    unfolding with_record with_members with_repeats_of_rows
    members_are =
        ap (λ (r : Rows). r.sources) (settled_same s c e.draw)
        ∙ on_asked (λ x. x.source_records ≡ drop_where (is_at_group i g) s.source_records) refl

    wants : is_exclude t g i ≡ true
    unfolding is_exclude is_exclude_among
    wants = grind (arith, groups_are, row_put)

    no_member : (other : ℕ) → row_at t.source_records (source_key i g other) ≡ None
    unfolding has_row
    no_member other =
        none_there (row_at t.source_records (source_key i g other))
        (ap (λ (rows : Table SourceRecordRow). has_row rows (source_key i g other)) members_are
        ∙ (has_row_dropped (source_key i g other) (is_at_group i g) s.source_records
        ∙ rw (eq-eqb i i refl, eq-eqb g g refl) refl))

    all_wanted : (other : ℕ) → local_receiver_exclude t g other i ≡ false
    unfolding local_receiver_exclude local_receiver_exclude_among
    all_wanted other = rw (no_member other) (last_false _)

    unlost : (j : ℕ) → is_loser (assert_star t g j) ≡ false
    unfolding with_record with_members with_repeats_of_rows
    unlost j = star_unlost s c e.draw g j (on_asked (λ x. is_loser (assert_star x g j) ≡ false) (new.unlost j))

    unlost_source : (other j : ℕ) → is_loser (assert_source t g other j) ≡ false
    unfolding with_record with_members with_repeats_of_rows
    unlost_source other j =
        source_unlost s c e.draw g other j
        (on_asked (λ x. is_loser (assert_source x g other j) ≡ false) (new.unlost_source other j))

    unset : (other : ℕ) → spt_bit t g other ≡ false
    unfolding with_record with_members with_repeats_of_rows
    unset other =
        still_unset s c e.draw g other
        (on_asked (λ x. has_row x.sources (source_key 0 g other) ≡ false) (new.sourceless other))

    configured : t.configured ≡ s.configured
    unfolding with_record with_members with_repeats_of_rows
    configured = still_configured s c e.draw ∙ on_asked (λ x. x.configured ≡ s.configured) refl

    knows_rp : rp_of t g ≡ Some rp
    unfolding rp_of with_record with_members with_repeats_of_rows
    knows_rp = same_rp s c e.draw g rp (on_asked (λ x. rp_of x g ≡ Some rp) can.rp_known)

    next : nbr t (rp_route t g) ≡ Some p.next
    unfolding nbr rp_route route rp_of with_record with_members with_repeats_of_rows
    next = same_next s c e.draw g p.next (on_asked (λ x. nbr x (rp_route x g) ≡ Some p.next) (can.can_go_on).next)

    upstream_is : rpf_star t g ≡ Some p.next
    upstream_is = to_the_next t g p.next unlost next

    still_dr : is_dr t i ≡ true
    unfolding is_dr with_record with_members with_repeats_of_rows settle_registers assert_forgotten without_spt_bit
    still_dr =
        sym (same_by_scope (star_key 0 g) (λ x. is_dr x i) (λ x. is_dr_local (reads (star_key 0 g)) x i) (clear s c.0).0 t
        (rest_agrees s c e.draw (star_key 0 g) (untouched s c e.draw (star_key 0 g))))
        ∙ kept_by_clearing (λ x. is_dr x i ≡ true) (λ x k f. f) (λ x k f. f) s c.0
        (on_asked (λ x. is_dr x i ≡ true) can.is_dr)

    within : (j : ℕ) → j < iface_count s → j < iface_count t
    within j low = subst (λ (cs : Addressing). j < length cs.interfaces) (sym configured) low

    wanted : join_desired_star t g ≡ true
    wanted = wanted_star t g i (within i can.down_configured) (host_listed t g i wants still_dr (unlost i))

    none : (other : ℕ) → is_pruned_with_star t g other ≡ false
    none other =
        none_pruned t g other i p.next (within i can.down_configured)
        (host_on_list t g i wants still_dr (unlost i) other (all_wanted other) (unlost_source other i)) (unset other)
        upstream_is (unlost_source other)

    comes : ComesToWantStar s t g rp p.next
    comes = record { unwanted = new.unwanted; wanted = wanted; rp_known = knows_rp; upstream = upstream_is }

    up_still : (j : ℕ) → is_up t j ≡ is_up s j
    unfolding with_record with_members with_repeats_of_rows
    up_still j = same_up s c e.draw j ∙ on_asked (λ x. is_up x j ≡ is_up s j) refl

    few : length t.asserts ≤ length s.asserts
    unfolding with_record with_members with_repeats_of_rows
    few =
        le_both _ _ _ (fewer_asserts s c e.draw)
        (on_asked (λ x. length x.asserts ≤ length s.asserts) (no_less _))

    -- what was done was judged to be the report
    judged_so : (j : Judged) → judged s e.kind ≡ j → j ≡ Ok report
    unfolding done_as
    judged_so j e2 = grind (arith, none_done, same_accepted)

    few_needed : (j : Judged) → judged s e.kind ≡ j → needed_of s j ≤ 1
    unfolding needed_by reported_groups reported_sources needed distinct once_more is_named
    few_needed j e2 = grind (arith, judged_so, general_group)

    room : passes_limit t 1 ≡ false
    room = grind (arith, room_left, is_settled, adds_what_is_needed, few, few_needed)

    member : IsMember t g src i
    member = grind (arith, configured, within, wants, wanted, all_wanted, still_dr, unlost, unlost_source)

    passes : PassesOn g src link (became p t)
    passes = record {
      configured = within (up_iface p) (can.can_carry).configured;
      is_up = up_still (up_iface p) ∙ (can.can_carry).is_up;
      foreign = ap (λ (cs : Addressing). is_own_among cs src) configured ∙ (can.can_carry).foreign;
      on_tree = on_the_tree t g p.next next;
      unset = unset src;
      room = has_room t g src room;
      wanted = inr member;
      down_linked = can.down_linked;
      up_linked = (can.can_go_on).linked;
      on = (can.can_carry).on;
    }

    pub asks : Asks g rp src link p e
    asks = grind (arith, comes, next, is_settled, none, passes)

    pub is_member : IsMember (step s e).state g src i
    is_member = subst (λ (x : State). IsMember x g src i) (sym is_settled) member

-- such a report makes the host a member that is served on its link
pub report_makes_member : (g rp src link : ℕ) (p : Place) (e : Event) (rs : List Record) → IsRequest g rs
    → done_as (happens (state_of p) e) ≡ Some (Accepted.Report (record { number = p.down }) rs)
    → CanServeHost g rp src link p → IsMember (step (state_of p) e).state g src p.down
report_makes_member g rp src link p e rs f is can =
    is_member g rp link p e f.record_type f.excluding
    (subst (λ (xs : List Record). done_as (happens (state_of p) e) ≡ Some (Accepted.Report (record { number = p.down }) xs)) f.is is)
    src can

pub host_asks : HostAsks
host_asks g rp src link p e rs f is can = grind (arith, asks)
