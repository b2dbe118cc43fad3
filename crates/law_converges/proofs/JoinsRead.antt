-- What a router takes for a Join, or for a report, was read so of its frame; so its groups and sources have addresses as they must be.
use Rattle.std.{proofs.{Common.{Bool, Err, List, None, Ok, Option, Result, Some, [], arith, cond, eq-eqb, eqb-true, false, inl, inr, is_none, length, map, nat_le, nat_lt, not, refl, subst, suc, sym, true, zero, ℕ, ◌&&◌, ◌*◌, ◌+◌, ◌==◌, ◌||◌, ◌∙◌, ◌∷◌, ◌≡◌, ◌⊎◌}, lemmas.{Bool.{or_left, or_right}}}, specs.{Cmp.{Derive.both_true, first_so, second_so}, List.{AllByRecursion, filter, flat_map, list_any}, Option.option_map_or}}
use Rattle.pim_ip.{specs.{Ipv4.{Packet, all_pim_routers, frame_limit, ipv4_reading, is_link_local, is_multicast, is_unicast, protocol_igmp, protocol_pim}, Checksum.sum16, Tests.{expect, ◌>>◌}, declared.refusal.Refusal.Refusal}}
use Rattle.pim_types.{specs.{Keys.{key_of, same_key, source_key, star_key}, declared.{config.IfaceId.IfaceId, event.{Event.Event, EventKind.EventKind}, outcome.{Ignored.Ignored, Stop.Stop, Verdict.Verdict}}}, proofs.Keys.equal_keys}
use Rattle.pim_wire.{specs.{Asserts.{assert_of, assert_test}, Encoded.{address_at, field_test, flags_at, group_test, mask_length_at, pim_type_of, pim_version_of, source_test, unicast_test}, JoinPrunes.{after_group, entries_at, entry_at, entry_of, group_at, group_count_of, groups_at, groups_test, join_count_at, join_prune_of, join_prune_test, kind_of, prune_count_at, sources_test}, Hellos.{hello_of, hello_test}, Messages.{body_reading, is_checksum_right, is_register, pim_reading}, Registers.{register_of, register_stop_of, register_stop_test, register_test}, Values.{Encapsulated, Group, JoinPrune, Null, Register}, declared.{join_prune.{Entry.Entry, EntryKind.EntryKind}, view.PimView.PimView}}}
use Rattle.igmp_wire.{specs.{Messages.{igmp_reading, is_old_type, query_type, report_type, type_of}, Queries.{addresses_at, query_of, query_test}, Reports.{after_record, record_at, record_count_of, record_group_at, record_of_known_type, record_type_at, records_at, records_test, report_of, report_test, source_count_at}, Values.Record, declared.{report.RecordType.RecordType, view.IgmpView.IgmpView}}}
use Rattle.pim_model.{specs.{declared.accepted.Accepted.Accepted, Cause.{Happened, Passed, Past, asks_for, done_as, has_cause, if_done, is_down_of, is_including, is_join_for, is_record_for, is_report_for, number_before}, Downstream.{Named, accepted_joins, is_accepted, is_kind, is_named, is_used, joined_keys, joins_in, key_by, named_key}, Judging.{Judged, advance_judged, candidates_judged, data_judged, down_judged, frame_judged, hello_judged, assert_judged, igmp_judged, igmp_message_judged, ignore_if, join_prune_judged, judged, of_read, packet_judged, pim_judged, pim_message_judged, pim_to_me_judged, refuse_if, register_judged, register_stop_judged, routes_judged, rps_judged, unicast_judged, unicast_packet_judged, up_judged, ◌>>◌ as ◌>>>◌}, Neighbours.is_neighbour, Querier.{group_membership_interval, is_excluding, is_skipped}, State.{State, iface_count, is_own, is_up, my_address}, Step.step, Tables.is_among}}
use Rattle.law_settled.{proofs.{Judgements.IsJudged, ListLaws.{any_among_all, any_more, any_of_filter, by_cond, each_append, each_both, each_map, each_passes, either}, TableLaws.any_of_map}}
use Rattle.law_converges.{specs.AskedByMembers.Sources}

-- ---- addresses

-- a group's and a host's address
abbrev IsEntryFit : Named → Type 0
IsEntryFit n = (is_multicast n.0 ≡ true) × (is_unicast (n.1).address.bits ≡ true)

abbrev IsHost : ℕ → Type 0
IsHost a = is_unicast a ≡ true

abbrev IsRecordFit : Record → Type 0
IsRecordFit r = (is_multicast r.group ≡ true) × AllByRecursion IsHost r.sources

-- what asks has such addresses
abbrev pub IsFit : Accepted → Type 0
IsFit (Accepted.JoinPruneToMe i m) = AllByRecursion IsEntryFit (joins_in m)
IsFit (Accepted.Report i records) = AllByRecursion IsRecordFit records
IsFit a = Unit {0}

one_entry : (address : ℕ) (o : Option EntryKind) → is_unicast address ≡ true
    → AllByRecursion (λ (e : Entry). IsHost e.address.bits) (entry_of address o)
one_entry address None e = tt
one_entry address (Some kind) e = (e, tt)

entries_fit : (b : List ℕ) (p n : ℕ) → AllByRecursion (λ (e : Entry). IsHost e.address.bits) (entries_at b p n)
unfolding entries_at entry_at
entries_fit b p zero = tt
entries_fit b p (suc n) =
    each_append (λ (e : Entry). IsHost e.address.bits) _ _
    (go ((mask_length_at b p == 32) && is_unicast (address_at b p)) refl) (entries_fit b (p + 8) n)
  where
    go : (c : Bool) → ((mask_length_at b p == 32) && is_unicast (address_at b p)) ≡ c
        → AllByRecursion (λ (e : Entry). IsHost e.address.bits) (cond c (entry_of (address_at b p) (kind_of (flags_at b p))) [])
    go true e = one_entry (address_at b p) _ (second_so (mask_length_at b p == 32) _ e)
    go false e = tt

both_pass : (a b : Result (Unit {0}) Refusal) → (a >> b) ≡ Ok tt → (a ≡ Ok tt) × (b ≡ Ok tt)
both_pass a b e = grind arith

expected : (b : Bool) (refusal : Refusal) → expect b refusal ≡ Ok tt → b ≡ true
expected b refusal e = grind arith

abbrev IsGroupFit : Group → Type 0
IsGroupFit g = (is_multicast g.group ≡ true) × AllByRecursion (λ (e : Entry). IsHost e.address.bits) g.joins

one_group : (b : List ℕ) (p : ℕ) → is_multicast (address_at b p) ≡ true → AllByRecursion IsGroupFit (group_at b p)
unfolding group_at
one_group b p e = go (mask_length_at b p == 32)
  where
    go : (c : Bool) → AllByRecursion IsGroupFit (elim c [
      | true ↦ record {
        group = address_at b p;
        joins = entries_at b (p + 12) (join_count_at b p);
        prunes = entries_at b (p + 12 + 8 * join_count_at b p) (prune_count_at b p);
      } ∷ []
      | false ↦ []
    ])
    go true = ((e, entries_fit b (p + 12) (join_count_at b p)), tt)
    go false = tt

groups_fit : (b : List ℕ) (p n : ℕ) → groups_test b p n ≡ Ok tt → AllByRecursion IsGroupFit (groups_at b p n)
unfolding groups_test groups_at group_test
groups_fit b p zero e = tt
groups_fit b p (suc n) e =
    let first = both_pass (group_test b p) _ e in
    let later = both_pass (sources_test b (p + 12) (join_count_at b p + prune_count_at b p)) _ (both_pass (field_test b (p + 8) 4) _ first.1).1 in
    each_append IsGroupFit _ _ (one_group b p (expected _ _ (both_pass (source_test b p) _ first.0).1))
    (groups_fit b (after_group b p) n later.1)

joins_fit : (gs : List Group) → AllByRecursion IsGroupFit gs
    → AllByRecursion IsEntryFit (flat_map (λ (g : Group). map (λ e. (g.group, e)) g.joins) gs)
joins_fit [] f = tt
joins_fit (g ∷ gs) f =
    each_append IsEntryFit _ _
    (each_map (λ (e : Entry). IsHost e.address.bits) IsEntryFit (λ e. (g.group, e)) (λ e host. ((f.0).0, host)) g.joins (f.0).1)
    (joins_fit gs f.1)

-- ---- what was read

pub record IsReadJoin (kind : EventKind) (m : JoinPrune) : Type 0 where
  pub iface : IfaceId
  pub bytes : List ℕ
  pub is : kind ≡ EventKind.Frame iface bytes
  pub short : nat_lt frame_limit (length bytes) ≡ false
  pub packet : Packet
  pub reads : ipv4_reading bytes ≡ Ok packet
  pub protocol : (packet.protocol == protocol_pim) ≡ true
  pub to_routers : (packet.destination == all_pim_routers) ≡ true
  pub says : pim_reading packet.payload ≡ Ok (PimView.JoinPrune m)

pub record IsReadReport (records : List Record) : Type 0 where
  pub payload : List ℕ
  pub says : igmp_reading payload ≡ Ok (IgmpView.Report records)

abbrev pub Shows : EventKind → Accepted → Type 0
Shows kind (Accepted.JoinPruneToMe i m) = IsReadJoin kind m
Shows kind (Accepted.Report i records) = IsReadReport records
Shows kind (Accepted.Data i p) = is_link_local p.destination ≡ false
Shows kind (Accepted.Register p (Encapsulated inner)) = is_link_local inner.destination ≡ false
Shows kind a = Unit {0}

module _ (kind : EventKind) where
  abbrev Judges : Judged → Type 0
  Judges j = IsJudged (Shows kind) j

  accepted : (a : Accepted) → Shows kind a → Judges (Ok a)
  accepted a passes = record { accepts = passes }

  stops : (stop : Stop) → Judges (Err stop)
  stops stop = record { accepts = tt }

  if_refused : (b : Bool) (refusal : Refusal) (next : Judged) → (b ≡ false → Judges next) → Judges (refuse_if b refusal >>> next)
  if_refused b refusal next f = grind (arith, stops)

  if_ignored : (b : Bool) (reason : Ignored) (next : Judged) → Judges next → Judges (ignore_if b reason >>> next)
  if_ignored b reason next f = grind (arith, stops)

  if_far : (b : Bool) (reason : Ignored) (next : Judged) → (b ≡ false → Judges next) → Judges (ignore_if b reason >>> next)
  if_far b reason next f = grind (arith, stops)

  if_read : {A : Type 0} (r : Result A Refusal) (next : A → Judged) → ((a : A) → r ≡ Ok a → Judges (next a)) → Judges (of_read r next)
  if_read r next f = grind (arith, stops)

  module _ (s : State) (i : IfaceId) (bytes : List ℕ) (is : kind ≡ EventKind.Frame i bytes) (short : nat_lt frame_limit (length bytes) ≡ false)
      (p : Packet) (reads : ipv4_reading bytes ≡ Ok p) where
    joins : (p.protocol == protocol_pim) ≡ true → (p.destination == all_pim_routers) ≡ true → (m : JoinPrune)
        → pim_reading p.payload ≡ Ok (PimView.JoinPrune m) → Judges (join_prune_judged s i p.source m)
    unfolding join_prune_judged
    joins pim to m says =
        if_ignored (not (is_neighbour s i.number p.source)) Ignored.NoNeighbour
        (Ok (cond (m.upstream == my_address s i.number) (Accepted.JoinPruneToMe i m) (Accepted.JoinPruneSeen i m)))
        (by_cond (λ (a : Accepted). Judges (Ok a)) (m.upstream == my_address s i.number) (Accepted.JoinPruneToMe i m) (Accepted.JoinPruneSeen i m)
        (accepted (Accepted.JoinPruneToMe i m) (record {
          iface = i;
          bytes = bytes;
          is = is;
          short = short;
          packet = p;
          reads = reads;
          protocol = pim;
          to_routers = to;
          says = says;
        })) (accepted (Accepted.JoinPruneSeen i m) tt))

    of_pim : (p.protocol == protocol_pim) ≡ true → (p.destination == all_pim_routers) ≡ true → (m : PimView)
        → pim_reading p.payload ≡ Ok m → Judges (pim_judged s i p.source m)
    unfolding pim_judged hello_judged assert_judged
    of_pim pim to (PimView.JoinPrune m) says = joins pim to m says
    of_pim pim to m says = grind (arith, if_ignored, accepted, stops)

    reports : (records : List Record) → igmp_reading p.payload ≡ Ok (IgmpView.Report records) → Shows kind (Accepted.Report i records)
    reports records says = record { payload = p.payload; says = says }

    of_igmp : (m : IgmpView) → igmp_reading p.payload ≡ Ok m → Judges (igmp_judged s i p m)
    unfolding igmp_judged
    of_igmp (IgmpView.Query q) says = grind (arith, if_ignored, accepted)
    of_igmp (IgmpView.Report records) says = grind (arith, if_ignored, accepted, reports)

    its_data : Judges (data_judged s i p)
    unfolding data_judged
    its_data =
        if_ignored (is_own s p.source) Ignored.Own _ (if_ignored (not (is_multicast p.destination)) Ignored.NotForMe _
        (if_far (is_link_local p.destination) Ignored.LinkLocal (Ok (Accepted.Data i p)) (λ far. accepted (Accepted.Data i p) far)))

    its_igmp : Judges (igmp_message_judged s i p)
    unfolding igmp_message_judged
    its_igmp = if_read (igmp_reading p.payload) (igmp_judged s i p) of_igmp

    its_pim : (p.protocol == protocol_pim) ≡ true → (p.destination == all_pim_routers) ≡ true → Judges (pim_message_judged s i p)
    unfolding pim_message_judged
    its_pim pim to =
        if_read (pim_reading p.payload) (λ m. ignore_if (is_own s p.source) Ignored.Own >>> pim_judged s i p.source m)
        (λ m says. if_ignored (is_own s p.source) Ignored.Own (pim_judged s i p.source m) (of_pim pim to m says))

    of_packet : Judges (packet_judged s i p)
    unfolding packet_judged
    of_packet = go (p.protocol == protocol_pim) (p.destination == all_pim_routers) (p.protocol == protocol_igmp) refl refl
      where
        unpim : (c : Bool) → Judges (cond c (igmp_message_judged s i p) (data_judged s i p))
        unpim true = its_igmp
        unpim false = its_data

        go : (a b c : Bool) → (p.protocol == protocol_pim) ≡ a → (p.destination == all_pim_routers) ≡ b
            → Judges (cond (a && b) (pim_message_judged s i p) (cond c (igmp_message_judged s i p) (data_judged s i p)))
        go true true c pim to = its_pim pim to
        go true false c pim to = unpim c
        go false b c pim to = unpim c

  its_frame : (s : State) (i : IfaceId) (bytes : List ℕ) → kind ≡ EventKind.Frame i bytes → Judges (frame_judged s i bytes)
  unfolding frame_judged
  its_frame s i bytes is =
      if_refused (nat_le (iface_count s) i.number) Refusal.NoInterface _ (λ e. if_refused (not (is_up s i.number)) Refusal.InterfaceDown _
      (λ e. if_refused (nat_lt frame_limit (length bytes)) Refusal.BadLength (of_read (ipv4_reading bytes) (packet_judged s i))
      (λ short. if_read (ipv4_reading bytes) (packet_judged s i) (λ p reads. of_packet s i bytes is short p reads))))

  registers : (p : Packet) (r : Register) → Judges (register_judged p r)
  unfolding register_judged
  registers p (Encapsulated inner) =
      if_far (is_link_local inner.destination) Ignored.LinkLocal (Ok (Accepted.Register p (Encapsulated inner)))
      (λ far. accepted (Accepted.Register p (Encapsulated inner)) far)
  registers p (Null source group) = grind (arith, if_ignored, accepted)

  to_me : (s : State) (p : Packet) (m : PimView) → Judges (pim_to_me_judged s p m)
  unfolding pim_to_me_judged register_stop_judged
  to_me s p m = grind (arith, if_ignored, accepted, stops, registers)

  by_unicast : (s : State) (p : Packet) → Judges (unicast_packet_judged s p)
  unfolding unicast_packet_judged
  by_unicast s p = grind (arith, by_cond, if_read, if_ignored, to_me, stops)

  shows : (s : State) (k : EventKind) → kind ≡ k → Judges (judged s k)
  unfolding judged advance_judged unicast_judged up_judged down_judged routes_judged rps_judged candidates_judged
  shows s (EventKind.Frame i bytes) is = its_frame s i bytes is
  shows s k is = grind (arith, if_refused, if_read, by_unicast, if_ignored, accepted)

judged_as : (answer : Result Verdict Refusal) (j : Judged) (a : Accepted) → if_done answer j ≡ Some a → j ≡ Ok a
judged_as answer j a e = grind arith

pub was_shown : (s : State) (e : Event) (a : Accepted) → done_as (record { before = s; event = e }) ≡ Some a → Shows e.kind a
unfolding done_as
was_shown s e a was = (subst (Judges e.kind) (judged_as (step s e).answer (judged s e.kind) a was) (shows e.kind s e.kind refl)).accepts

-- ---- so what asks has addresses as they must be

-- the reading of a Join/Prune
pub record IsJoinText (b : List ℕ) (m : JoinPrune) : Type 0 where
  pub type : (pim_type_of b == 3) ≡ true
  pub tested : join_prune_test b ≡ Ok tt
  pub is : join_prune_of b ≡ m

body_says : (b : List ℕ) (m : JoinPrune) (type : ℕ) → body_reading type b ≡ Ok (PimView.JoinPrune m)
    → ((type == 3) ≡ true) × ((join_prune_test b ≡ Ok tt) × (join_prune_of b ≡ m))
unfolding body_reading
body_says b m type e =
    go (type == 0) (type == 1) (type == 2) (type == 3) (type == 5) e
  where
    go : (h r s j a : Bool)
        → (cond h (hello_test b >> Ok (PimView.Hello (hello_of b)))
        (cond r (register_test b >> Ok (PimView.Register (register_of b)))
        (cond s (register_stop_test b >> Ok (PimView.RegisterStop (register_stop_of b)))
        (cond j (join_prune_test b >> Ok (PimView.JoinPrune (join_prune_of b)))
        (cond a (assert_test b >> Ok (PimView.Assert (assert_of b))) (Ok PimView.Other)))))) ≡ Ok (PimView.JoinPrune m)
        → (j ≡ true) × ((join_prune_test b ≡ Ok tt) × (join_prune_of b ≡ m))
    go h r s j a e = grind (arith, e)

pub says_so : (b : List ℕ) (m : JoinPrune) → pim_reading b ≡ Ok (PimView.JoinPrune m) → IsJoinText b m
unfolding pim_reading
says_so b m e =
    let body = body_says b m (pim_type_of b) (passed (nat_le 4 (length b)) (pim_version_of b == 2) (not (is_register b) || nat_le 8 (length b)) (is_checksum_right b)
    (body_reading (pim_type_of b) b) e) in
    record { type = body.0; tested = (body.1).0; is = (body.1).1 }
  where
    passed : (a b c d : Bool) (next : Result PimView Refusal)
        → (expect a Refusal.Short >> expect b Refusal.BadVersion >> expect c Refusal.Short >> expect d Refusal.BadChecksum >> next)
        ≡ Ok (PimView.JoinPrune m) → next ≡ Ok (PimView.JoinPrune m)
    passed a b c d next e = grind (arith, e)

joins_are_fit : (b : List ℕ) (m : JoinPrune) → pim_reading b ≡ Ok (PimView.JoinPrune m) → AllByRecursion IsEntryFit (joins_in m)
unfolding join_prune_test join_prune_of
joins_are_fit b m e =
    let text : IsJoinText b m = says_so b m e in
    let tested = both_pass (field_test b 10 4) _ (both_pass (unicast_test b 4) _ text.tested).1 in
    subst (λ (x : JoinPrune). AllByRecursion IsEntryFit (joins_in x)) text.is
    (joins_fit (groups_at b 14 (group_count_of b)) (groups_fit b 14 (group_count_of b) tested.1))

one_record : (group : ℕ) (sources : List ℕ) (o : Option RecordType) → (is_none o || is_multicast group) ≡ true
    → AllByRecursion IsRecordFit (record_of_known_type group (filter is_unicast sources) o)
one_record group sources None e = tt
one_record group sources (Some type) e = ((e, each_passes is_unicast sources), tt)

records_fit : (b : List ℕ) (p n : ℕ) → records_test b p n ≡ Ok tt → AllByRecursion IsRecordFit (records_at b p n)
unfolding records_test records_at record_at
records_fit b p zero e = tt
records_fit b p (suc n) e =
    let whole = both_pass (expect (nat_le (p + 8) (length b)) Refusal.Short) _ e in
    let group = both_pass (expect (is_none (record_type_at b p) || is_multicast (record_group_at b p)) Refusal.NotMulticast) _ whole.1 in
    let later = both_pass (expect (nat_le (after_record b p) (length b)) Refusal.Short) _ group.1 in
    each_append IsRecordFit _ _
    (by_cond (AllByRecursion IsRecordFit) (is_link_local (record_group_at b p)) [] _ tt
    (one_record (record_group_at b p) (addresses_at b (p + 8) (source_count_at b p)) (record_type_at b p) (expected _ _ group.0)))
    (records_fit b (after_record b p) n later.1)

report_so : (b : List ℕ) (records : List Record) → igmp_reading b ≡ Ok (IgmpView.Report records)
    → (report_test b ≡ Ok tt) × (report_of b ≡ records)
unfolding igmp_reading
report_so b records e =
    passed (nat_le 8 (length b)) (sum16 b == 0) (not (is_old_type (type_of b))) ((type_of b == query_type) || (type_of b == report_type))
    (type_of b == query_type) e
  where
    passed : (x y z u v : Bool)
        → (expect x Refusal.Short >> expect y Refusal.BadChecksum >> expect z Refusal.OldVersion >> expect u Refusal.UnknownType
        >> cond v (query_test b >> Ok (IgmpView.Query (query_of b))) (report_test b >> Ok (IgmpView.Report (report_of b))))
        ≡ Ok (IgmpView.Report records) → (report_test b ≡ Ok tt) × (report_of b ≡ records)
    passed x y z u v e = grind (arith, e)

records_are_fit : (b : List ℕ) (records : List Record) → igmp_reading b ≡ Ok (IgmpView.Report records) → AllByRecursion IsRecordFit records
unfolding report_test report_of
records_are_fit b records e =
    let text = report_so b records e in
    subst (AllByRecursion IsRecordFit) text.1 (records_fit b 8 (record_count_of b) text.0)

fit_so : (kind : EventKind) (a : Accepted) → Shows kind a → IsFit a
fit_so kind (Accepted.JoinPruneToMe i m) f = joins_are_fit (f.packet).payload m f.says
fit_so kind (Accepted.Report i records) f = records_are_fit f.payload records f.says
fit_so kind a f = tt

-- ---- which entry names a key

-- a Join(*,G), or a Join(S,G)
abbrev pub is_join_of : Sources → Entry → Bool
is_join_of None e = is_kind e.kind EntryKind.Star
is_join_of (Some src) e = is_kind e.kind EntryKind.Source && (e.address.bits == src)

abbrev pub names_it : ℕ → Sources → Named → Bool
names_it g x n = (n.0 == g) && is_join_of x n.1

by_key : (i g g2 a : ℕ) (kind : EntryKind) (x : Sources) → key_of i g x false ≡ key_by i g2 a kind
    → ((g2 == g) && is_join_of x (record { kind = kind; address = record { bits = a } })) ≡ true
by_key i g g2 a kind x e = grind (arith, eq-eqb, e)

named_so : (i g : ℕ) (x : Sources) (n : Named) → same_key (key_of i g x false) (named_key i n) ≡ true → names_it g x n ≡ true
named_so i g x n e = by_key i g n.0 (n.1).address.bits (n.1).kind x (equal_keys (key_of i g x false) (named_key i n) e)

pub names_of : (s : State) (i g : ℕ) (x : Sources) (m : JoinPrune) → is_named (joined_keys s i m) (key_of i g x false) ≡ true
    → list_any (names_it g x) (joins_in m) ≡ true
unfolding is_named joined_keys accepted_joins
names_of s i g x m e =
    any_of_filter (λ (n : Named). is_used n && is_accepted s n) (names_it g x) (joins_in m)
    (any_more (λ (n : Named). same_key (key_of i g x false) (named_key i n)) (names_it g x) (named_so i g x)
    (filter (λ (n : Named). is_used n && is_accepted s n) (joins_in m))
    (sym (any_of_map (same_key (key_of i g x false)) (named_key i) (filter (λ (n : Named). is_used n && is_accepted s n) (joins_in m))) ∙ e))

-- ---- what asks

fit_group : (g : ℕ) (x : Sources) (ns : List Named) → AllByRecursion IsEntryFit ns → list_any (names_it g x) ns ≡ true
    → is_multicast g ≡ true
fit_group g x ns fit e =
    any_among_all IsEntryFit (names_it g x) (λ n f named. subst (λ (k : ℕ). is_multicast k ≡ true)
    (eqb-true n.0 g (first_so (n.0 == g) _ named)) f.0) ns fit e

fit_source : (g src : ℕ) (ns : List Named) → AllByRecursion IsEntryFit ns → list_any (names_it g (Some src)) ns ≡ true
    → is_unicast src ≡ true
fit_source g src ns fit e =
    any_among_all IsEntryFit (names_it g (Some src)) (λ n f named. subst (λ (k : ℕ). is_unicast k ≡ true)
    (eqb-true (n.1).address.bits src (second_so (is_kind (n.1).kind EntryKind.Source) _ (second_so (n.0 == g) _ named))) f.1) ns fit e

among_hosts : (a : ℕ) (all : List ℕ) → AllByRecursion IsHost all → is_among a all ≡ true → is_unicast a ≡ true
unfolding is_among
among_hosts a all f e =
    any_among_all IsHost (λ m. m == a) (λ m host same. subst (λ (k : ℕ). is_unicast k ≡ true) (eqb-true m a same) host) all f e

-- what one of these passes
all_among : {X : Type 0} (xs ys : List X) → ((q : X → Bool) → list_any q ys ≡ true → list_any q xs ≡ true)
    → AllByRecursion (λ (y : X). (q : X → Bool) → q y ≡ true → list_any q xs ≡ true) ys
all_among xs [] f = tt
all_among xs (y ∷ ys) f = (λ q e. f q (or_left _ _ e), all_among xs ys (λ q e. f q (or_right _ _ e)))

-- of a group that may be, and of a host, or for all sources
abbrev pub IsAskedWell : (g src : ℕ) → (ℕ → Type 0) → Type 0
IsAskedWell g src P = (is_multicast g ≡ true) × ((is_unicast src ≡ true) ⊎ ((a : ℕ) → P a))

three : (a b c : Bool) → (a && b && c) ≡ true → (a ≡ true) × ((b ≡ true) × (c ≡ true))
three a b c e = grind (arith, e)

record_well : (g src : ℕ) (records : List Record) → AllByRecursion IsRecordFit records → list_any (is_record_for g src) records ≡ true
    → IsAskedWell g src (λ a. list_any (is_record_for g a) records ≡ true)
unfolding is_record_for
record_well g src records fit e =
    any_among_all (λ (r : Record). IsRecordFit r × ((q : Record → Bool) → q r ≡ true → list_any q records ≡ true)) (is_record_for g src)
    (λ r f named. one r f.0 f.1 named) records
    (each_both IsRecordFit _ _ (λ r f h. (f, h)) records fit (all_among records records (λ q e. e))) e
  where
    one : (r : Record) → IsRecordFit r → ((q : Record → Bool) → q r ≡ true → list_any q records ≡ true) → is_record_for g src r ≡ true
        → IsAskedWell g src (λ a. list_any (is_record_for g a) records ≡ true)
    one r fit among named =
        let all_three = three (not (is_skipped r)) (r.group == g) (is_excluding r.type || (is_including r.type && is_among src r.sources)) named in (
          subst (λ (k : ℕ). is_multicast k ≡ true) (eqb-true r.group g (all_three.1).0) fit.0,
          either (is_excluding r.type) (is_including r.type && is_among src r.sources)
              (λ all. inr (λ a. among (is_record_for g a) (rw (all_three.0, (all_three.1).0, all) refl)))
              (λ one. inl (among_hosts src r.sources fit.1 (second_so (is_including r.type) _ one))) (all_three.1).1,
        )

asks_fit : (s : State) (now i g src : ℕ) (a : Accepted) → IsFit a → asks_for now i g src s (Some a) ≡ true
    → IsAskedWell g src (λ b. asks_for now i g b s (Some a) ≡ true)
unfolding asks_for is_join_for is_report_for
asks_fit s now i g src (Accepted.JoinPruneToMe j m) fit e =
    let here = first_so (j.number == i) _ e in
    let both = second_so (j.number == i) _ e in
    let lasts = second_so (is_named (joined_keys s i m) (star_key i g) || is_named (joined_keys s i m) (source_key i g src)) _ both in
    either (is_named (joined_keys s i m) (star_key i g)) (is_named (joined_keys s i m) (source_key i g src))
    (λ star. (fit_group g None (joins_in m) fit (names_of s i g None m star), inr (λ b. rw (here, star, lasts) refl)))
    (λ one. (
      fit_group g (Some src) (joins_in m) fit (names_of s i g (Some src) m one),
      inl (fit_source g src (joins_in m) fit (names_of s i g (Some src) m one)),
    )) (first_so _ _ both)
asks_fit s now i g src (Accepted.Report j records) fit e =
    let here = first_so (j.number == i) _ e in
    let both = second_so (j.number == i) _ e in
    let lasts = second_so (list_any (is_record_for g src) records) _ both in
    let well = record_well g src records fit (first_so (list_any (is_record_for g src) records) _ both) in
    (well.0, go (here, lasts) well.1)
  where
    go : ((j.number == i) ≡ true) × (nat_lt now (s.present + group_membership_interval s i) ≡ true)
        → (is_unicast src ≡ true) ⊎ ((b : ℕ) → list_any (is_record_for g b) records ≡ true)
        → (is_unicast src ≡ true) ⊎ ((b : ℕ) → asks_for now i g b s (Some (Accepted.Report j records)) ≡ true)
    go f (inl host) = inl host
    go f (inr all) = inr (λ b. rw (f.0, all b, f.1) refl)
asks_fit s now i g src a fit e = cc e

pub asks_well : (h : Happened) (now i g src : ℕ) → asks_for now i g src h.before (done_as h) ≡ true
    → IsAskedWell g src (λ b. asks_for now i g b h.before (done_as h) ≡ true)
unfolding asks_for
asks_well h now i g src e = go (done_as h) refl e
  where
    go : (o : Option Accepted) → done_as h ≡ o → asks_for now i g src h.before o ≡ true
        → IsAskedWell g src (λ b. asks_for now i g b h.before (done_as h) ≡ true)
    go None was e = cc e
    go (Some a) was e =
        subst (λ (o : Option Accepted). IsAskedWell g src (λ b. asks_for now i g b h.before o ≡ true)) (sym was)
        (asks_fit h.before now i g src a (fit_so (h.event).kind a (was_shown h.before h.event a was)) e)

pub caused_well : (past : Past) (now i g src : ℕ) → has_cause past now i g src ≡ true → IsAskedWell g src (λ b. has_cause past now i g b ≡ true)
unfolding has_cause
caused_well [] now i g src e = cc e
caused_well (Passed.Happening h ∷ past) now i g src e =
    either (asks_for now i g src h.before (done_as h)) (not (is_down_of i (done_as h)) && has_cause past now i g src)
    (λ asks. here (asks_well h now i g src asks))
    (λ both. there (first_so _ _ both) (caused_well past now i g src (second_so _ _ both))) e
  where
    here : IsAskedWell g src (λ b. asks_for now i g b h.before (done_as h) ≡ true)
        → IsAskedWell g src (λ b. has_cause (Passed.Happening h ∷ past) now i g b ≡ true)
    here (group, inl host) = (group, inl host)
    here (group, inr all) = (group, inr (λ b. or_left _ _ (all b)))

    there : not (is_down_of i (done_as h)) ≡ true → IsAskedWell g src (λ b. has_cause past now i g b ≡ true)
        → IsAskedWell g src (λ b. has_cause (Passed.Happening h ∷ past) now i g b ≡ true)
    there up (group, inl host) = (group, inl host)
    there up (group, inr all) =
        (group, inr (λ b. or_right (asks_for now i g b h.before (done_as h)) _ (both_true up (all b))))
caused_well (Passed.Renumbered m ∷ past) now i g src e = go (λ old. caused_well past now old g src) (number_before 0 m i) e
  where
    go : ((old : ℕ) → has_cause past now old g src ≡ true → IsAskedWell g src (λ b. has_cause past now old g b ≡ true))
        → (o : Option ℕ) → option_map_or (λ old. has_cause past now old g src) o false ≡ true
        → IsAskedWell g src (λ b. option_map_or (λ old. has_cause past now old g b) o false ≡ true)
    go later None e = cc e
    go later (Some old) e = later old e

-- a source that a Join names is a host's address
pub named_is_host : (s : State) (e : Event) (i : IfaceId) (m : JoinPrune) (j g src : ℕ)
    → done_as (record { before = s; event = e }) ≡ Some (Accepted.JoinPruneToMe i m)
    → is_named (joined_keys s j m) (source_key j g src) ≡ true → is_unicast src ≡ true
named_is_host s e i m j g src was named =
    fit_source g src (joins_in m) (fit_so e.kind (Accepted.JoinPruneToMe i m) (was_shown s e (Accepted.JoinPruneToMe i m) was))
    (names_of s j g (Some src) m named)
