-- What a router is given for an SA is a Register of its source.
use Rattle.std.{proofs.Common.{◌≡◌, ◌∙◌, ◌&&◌, ◌==◌, ℕ, ◌+◌, ◌≤◌, nat_le, not, Bool, true, false, cond, List, length, Option, Some, None, Result, Ok, Err, refl, sym, ap, subst, arith, eqb-true}, specs.Option.option_map_or}
use Rattle.pim_ip.specs.{Ipv4.{Packet, frame_limit, ipv4_reading, is_link_local, is_multicast, is_unicast, packet_limit}, declared.refusal.Refusal.Refusal}
use Rattle.pim_types.specs.declared.{config.RpTable.RpTable, event.{Event.Event, EventKind.EventKind}, outcome.{Ignored.Ignored, Stop.Stop}, path.Path.Path}
use Rattle.pim_wire.{specs.{RegisterParts.{registered_group, registered_source}, Registers.{null_register_text, register_text}, Values.{Encapsulated, Null, Register}}, proofs.Laws.{null_register_reads, register_reads}}
use Rattle.pim_model.specs.{declared.accepted.Accepted.Accepted, Forwarding.register_received, Full.{is_full, source_is_full}, Judging.{Judged, ignore_if, judged, pim_to_me_judged, register_judged, unicast_judged, unicast_packet_judged, ◌>>◌}, Registers.{is_dr_of_path, keepalive_period}, Sets.is_kept_alive, State.{Addressing, State, is_own}, Step.step, Unicast.{is_rp, route}}
use Rattle.law_streams.proofs.Passes.{done_if}
use Rattle.pim_anycast.{specs.{Announced.is_local, Members.{IsRegisterOf, KnowsUntil}, Passed.{counted_text, packet_passed, passed, passed_by, register_in, register_of}, Sets.{is_other, set_for, to_others}, declared.{front.Passed.Passed, set.RpSet.RpSet}}, proofs.{Alive.register_is_known, NullLength.null_long, Taken.text_reads}}
use Rattle.pim_msdp.{specs.{Actives.{active_message, active_text, active_time_to_live, given_active, is_connected, is_from_to, is_packet_of}, Laws.{ActiveIsKnown, ActiveIsTaken, AreAddresses, CanLearnActive, IsTakenAs, LinkLocalIsIgnored, NoneSentBack, OtherAddressIsIgnored, OtherRpChangesNothing, SetsLeaveActives, active_packet}, Own.{is_of_dr, is_own_source, registered}}, proofs.Lengths.{message_short, packet_short}}

-- ---- the message

module _ (peer rp g src : ℕ) (bytes : List ℕ) (f : AreAddresses peer rp g src) where
  null_so : IsRegisterOf (null_register_text src g) g src
  null_so =
      let long = null_long src g in
      record {
        register = Null src g;
        reads = null_register_reads src g f.source_host f.multicast;
        group = refl;
        source = refl;
        fits = omega (arith, long);
      }

  record IsOf : Type 0 where
    packet : Packet
    reads : ipv4_reading bytes ≡ Ok packet
    source : packet.source ≡ src
    group : packet.destination ≡ g

  of_reading : (r : Result Packet Refusal) → ipv4_reading bytes ≡ r → is_from_to g src r ≡ true → IsOf
  of_reading (Err refusal) is e = cc e
  of_reading (Ok p) is e = go (p.source == src) (p.destination == g) refl refl e
    where
      go : (b c : Bool) → (p.source == src) ≡ b → (p.destination == g) ≡ c → (b && c) ≡ true → IsOf
      go true true at to e = record { packet = p; reads = is; source = eqb-true p.source src at; group = eqb-true p.destination g to }
      go true false at to e = cc e
      go false c at to e = cc e

  of_test : (b : Bool) → (b && is_from_to g src (ipv4_reading bytes)) ≡ true → is_from_to g src (ipv4_reading bytes) ≡ true
  of_test true e = e
  of_test false e = cc e

  is_of : is_packet_of g src bytes ≡ true → IsOf
  unfolding is_packet_of
  is_of e = of_reading (ipv4_reading bytes) refl (of_test (nat_le (length bytes) frame_limit) e)

  short_so : (message : List ℕ) → active_message g src bytes ≡ message → 20 + length message ≤ packet_limit
  short_so message is =
      let short : length message ≤ 1508 = subst (λ (m : List ℕ). length m ≤ 1508) is (message_short g src bytes) in omega (arith, short)

  data_so : is_packet_of g src bytes ≡ true → active_message g src bytes ≡ register_text bytes → IsRegisterOf (register_text bytes) g src
  data_so e is =
      let it : IsOf = is_of e in
      let host : is_unicast it.packet.source ≡ true = ap is_unicast it.source ∙ f.source_host in
      let multicast : is_multicast it.packet.destination ≡ true = ap is_multicast it.group ∙ f.multicast in
      record {
        register = Encapsulated it.packet;
        reads = register_reads bytes it.packet it.reads (packet_short g src bytes e) host multicast;
        group = it.group;
        source = it.source;
        fits = short_so (register_text bytes) is;
      }

  pub message_so : IsRegisterOf (active_message g src bytes) g src
  unfolding active_message
  message_so = go (is_packet_of g src bytes) refl
    where
      go : (b : Bool) → is_packet_of g src bytes ≡ b → IsRegisterOf (cond b (register_text bytes) (null_register_text src g)) g src
      go true is = data_so is (rw is refl)
      go false is = null_so

  -- ---- how it is judged

  abbrev text : List ℕ
  text = active_text peer rp g src bytes

  abbrev came : Packet
  came = active_packet peer rp g src bytes

  abbrev r : Register
  r = message_so.register

  pub reads_so : ipv4_reading text ≡ Ok came
  unfolding active_text
  reads_so = text_reads active_time_to_live peer rp (active_message g src bytes) f.peer_host f.rp_fits message_so.fits

  judged_so : (t : State) → unicast_judged t text ≡ (ignore_if (not (is_own t rp)) Ignored.NotForMe >> register_judged came r)
  unfolding unicast_judged unicast_packet_judged pim_to_me_judged
  judged_so t = rw (reads_so, message_so.reads) refl

  own_judged : (t : State) → is_own t rp ≡ true → unicast_judged t text ≡ register_judged came r
  own_judged t own = judged_so t ∙ ap (λ (b : Bool). let j : Judged = ignore_if (not b) Ignored.NotForMe >> register_judged came r in j) own

  pub taken_so : (t : State) → is_own t rp ≡ true → IsTakenAs t peer rp g src bytes
  taken_so t own = record { register = r; group = message_so.group; source = message_so.source; judged = own_judged t own }

  pub other_so : (t : State) → is_own t rp ≡ false → unicast_judged t text ≡ Err (Stop.Ignore Ignored.NotForMe)
  other_so t own = judged_so t ∙ ap (λ (b : Bool). let j : Judged = ignore_if (not b) Ignored.NotForMe >> register_judged came r in j) own

  by_link : (b : Bool) → b ≡ is_link_local (registered_group r)
      → register_judged came r ≡ (let j : Judged = ignore_if b Ignored.LinkLocal >> Ok (Accepted.Register came r) in j)
  unfolding register_judged
  by_link b is = rw is refl

  same_link : is_link_local g ≡ is_link_local (registered_group r)
  same_link = ap is_link_local (sym message_so.group)

  pub link_local_so : (t : State) → is_own t rp ≡ true → is_link_local g ≡ true
      → unicast_judged t text ≡ Err (Stop.Ignore Ignored.LinkLocal)
  link_local_so t own link = own_judged t own ∙ by_link true (sym link ∙ same_link)

  -- ---- the RP knows the source

  module _ (t : State) (draw : ℕ) (c : CanLearnActive t rp g src) where
    abbrev e : Event
    e = record { draw = draw; kind = EventKind.Unicast text }

    abbrev a : Accepted
    a = Accepted.Register came r

    judged_is : judged t (e).kind ≡ Ok a
    unfolding judged
    judged_is = own_judged t c.own ∙ by_link false (sym c.forwarded ∙ same_link)

    has_room : is_full t a ≡ false
    unfolding is_full
    has_room =
        let room : source_is_full t (registered_group r) (registered_source r) ≡ false = rw (message_so.group, message_so.source) c.room in
        both (is_rp t (registered_group r) rp) _ room
      where
        both : (b c : Bool) → c ≡ false → (b && c) ≡ false
        both true c e = e
        both false c e = refl

    for_it : is_rp t (registered_group r) rp ≡ true
    for_it = ap (λ (h : ℕ). is_rp t h rp) message_so.group ∙ c.for_it

    known : KnowsUntil (t.present + keepalive_period) (step t e).state (registered_group r) (registered_source r)
    known = register_is_known t e came r (done_if t e a judged_is has_room) for_it c.wanted

    pub known_so : KnowsUntil (t.present + keepalive_period) (step t e).state g src
    known_so =
        subst (λ (h : ℕ). KnowsUntil (t.present + keepalive_period) (step t e).state h src) message_so.group
        (subst (λ (x : ℕ). KnowsUntil (t.present + keepalive_period) (step t e).state (registered_group r) x) message_so.source known)

  -- ---- sets of RPs

  brings : register_in came ≡ Some r
  unfolding register_in
  brings = ap register_of message_so.reads

  by_set : (set : RpSet) → (rp == set.own.bits) ≡ false → passed_by set came ≡ Passed.AsItCame
  unfolding passed_by
  by_set set other = go (rp == set.shared.bits) (not (is_other set peer)) other
    where
      go : (b c : Bool) → (rp == set.own.bits) ≡ false
          → cond (b && (c && false)) (Passed.Copied (to_others set 0 (active_message g src bytes)))
          (cond ((rp == set.own.bits) && is_other set peer) (Passed.Counted (counted_text set came)) Passed.AsItCame)
          ≡ Passed.AsItCame
      go true true other = rw other refl
      go true false other = rw other refl
      go false c other = rw other refl

  module _ (sets : List RpSet) (ranges : RpTable)
      (apart : (set : RpSet) → set_for sets ranges g ≡ Some set → (rp == set.own.bits) ≡ false) where
    by_sets : (o : Option RpSet) → set_for sets ranges g ≡ o → option_map_or (λ set. passed_by set came) o Passed.AsItCame ≡ Passed.AsItCame
    by_sets None is = refl
    by_sets (Some set) is = by_set set (apart set is)

    pub left_so : passed sets ranges text ≡ Passed.AsItCame
    unfolding passed packet_passed
    left_so = rw (reads_so, brings, message_so.group) (by_sets (set_for sets ranges g) refl)

  -- ---- it is none's own

  pub unregistered : (sets : List RpSet) (configured : Addressing) (ranges : RpTable) → registered sets configured ranges text ≡ None
  unfolding registered is_of_dr
  unregistered sets configured ranges = rw (reads_so, brings) refl

by_path : (u : State) (o : Option Path) (here : Bool) → option_map_or (λ (p : Path). p.is_connected) o false ≡ false
    → (option_map_or (is_dr_of_path u) o false && here) ≡ false
by_path u None here e = refl
by_path u (Some p) here e = rw e refl

both_false : (b c : Bool) → b ≡ false → (b && c) ≡ false
both_false true c e = cc e
both_false false c e = refl

not_own : (u : State) (g src : ℕ) → option_map_or (λ (p : Path). p.is_connected) (route u src) false ≡ false → is_own_source u g src ≡ false
unfolding is_own_source is_local
not_own u g src e = both_false _ _ (by_path u (route u src) (is_kept_alive u g src) e)

pub none_sent_back : NoneSentBack
unfolding given_active is_connected
none_sent_back t u peer rp g src bytes text f given same = go (option_map_or (λ (p : Path). p.is_connected) (route t src) false) refl given
  where
    go : (b : Bool) → option_map_or (λ (p : Path). p.is_connected) (route t src) false ≡ b
        → cond b None (Some (active_text peer rp g src bytes)) ≡ Some text
        → (is_own_source u g src ≡ false)
        × ((sets : List RpSet) (configured : Addressing) (ranges : RpTable) → registered sets configured ranges text ≡ None)
    go true is given = cc given
    go false is given =
        let it : active_text peer rp g src bytes ≡ text = cc in (
          not_own u g src (ap (λ (o : Option Path). option_map_or (λ (p : Path). p.is_connected) o false) same ∙ is),
          subst (λ (x : List ℕ). (sets : List RpSet) (configured : Addressing) (ranges : RpTable) → registered sets configured ranges x ≡ None) it
              (unregistered peer rp g src bytes f),
        )

-- ---- the laws

pub active_is_taken : ActiveIsTaken
active_is_taken t peer rp g src bytes f own = taken_so peer rp g src bytes f t own

pub sets_leave_actives : SetsLeaveActives
sets_leave_actives sets ranges peer rp g src bytes f apart = left_so peer rp g src bytes f sets ranges apart

pub active_is_known : ActiveIsKnown
active_is_known t peer rp g src draw bytes f c = known_so peer rp g src bytes f t draw c

pub other_address_is_ignored : OtherAddressIsIgnored
other_address_is_ignored t peer rp g src bytes f own = other_so peer rp g src bytes f t own

pub link_local_is_ignored : LinkLocalIsIgnored
link_local_is_ignored t peer rp g src bytes f own link = link_local_so peer rp g src bytes f t own link

pub other_rp_changes_nothing : OtherRpChangesNothing
unfolding register_received
other_rp_changes_nothing t peer rp g src bytes null other = rw other refl
