-- What the front gives of an event: of what isn't IGMP, and of time, what came. And time that passes, as the router takes
-- it.
use Rattle.std.{proofs.{Common.{◌≡◌, ◌≢◌, ◌≤◌, ◌∙◌, ℕ, ◌==◌, not, nat_lt, Bool, true, false, cond, List, [], get_or, Option, Some, None, Ok, Result, refl, sym, ap, subst, arith, eq-eqb}}, specs.{Option.option_map_or}}
use Rattle.pim_ip.{specs.{Ipv4.{Packet, header_text, igmp_packet_text, packet_of, protocol_igmp}, Checksum.with_checksum, declared.refusal.Refusal.Refusal}}
use Rattle.pim_types.{specs.declared.{config.IfaceId.IfaceId, event.{Event.Event, EventKind.EventKind}, outcome.{Outcome.Outcome, Verdict.Verdict}}}
use Rattle.pim_model.{specs.{declared.accepted.Accepted.Accepted, Full.is_full, Judging.{Judged, advance_judged, judged, last_moment, refuse_if, ◌>>◌}, State.State, Step.{advanced, concluded, step, taken, taken_unless_full}}}
use Rattle.law_settled.{proofs.ReadPackets.packet_is}
use Rattle.law_plane.{specs.{Offload.{Handling, is_to_core}, OffloadLaws.IsData, Split.{Split, nothing_sent, passes_quietly, with_notice}, ToldLaws.PlaneRows}, proofs.Times.not_lt}
use Rattle.law_states.{specs.{Documented.{judged_for_core, kind_for_core}, Guests.{guest_handled, guest_judgement, guest_kind}, Kept.{Way, kept_core, kept_plane, kept_time}}, proofs.Frames.{ByFrame, by_frame}}
use Rattle.igmp_older.{specs.{Joined.{FrontedRouter, bytes_given, event_given, joined_step, kind_given, known_after, known_if, noted_if, older_of, present_end, rows_of}, Naming.groups_named, Presence.{Present, doubted, hosts_on, looked}, Translation.{Translation, packet_given, translation}}, proofs.Passing.{no_group_of_another, other_protocol}}

-- ---- packets of data

abbrev pub is_igmp : List ℕ → Bool
is_igmp bytes = get_or bytes 9 0 == protocol_igmp

abbrev pub bytes_in : EventKind → List ℕ
bytes_in (EventKind.Frame i bytes) = bytes
bytes_in kind = []

data_so : (s : State) (i : IfaceId) (bytes : List ℕ) (p : Packet) → IsData s i bytes p → is_igmp bytes ≡ false
unfolding packet_of
data_so s i bytes p is = subst (λ (q : Packet). (q.protocol == protocol_igmp) ≡ false) (packet_is bytes p is.read) is.not_igmp

-- a frame that brings data is not of IGMP
pub data_frame : (s : State) (i j : IfaceId) (bytes : List ℕ) (p : Packet) → judged s (EventKind.Frame i bytes) ≡ Ok (Accepted.Data j p)
    → is_igmp bytes ≡ false
data_frame s i j bytes p is =
    let came : ByFrame s (EventKind.Frame i bytes) j p = by_frame s (EventKind.Frame i bytes) j p is in
    subst (λ (b : List ℕ). is_igmp b ≡ false) (sym (ap bytes_in came.kind_is)) (data_so s j came.bytes p came.data_is)

given_is_igmp : (t : Translation) → is_igmp (packet_given t) ≡ true
unfolding packet_given igmp_packet_text header_text with_checksum
given_is_igmp t = refl

module _ (b : FrontedRouter) (i : IfaceId) (bytes : List ℕ) (other : is_igmp bytes ≡ false) where
  not_two : get_or bytes 9 0 ≢ 2
  not_two e = let no : is_igmp bytes ≡ true = eq-eqb (get_or bytes 9 0) protocol_igmp e in cc

  untranslated : translation (rows_of b) b.state.present i.number (hosts_on b.present i.number) bytes ≡ None
  untranslated = other_protocol (rows_of b) b.state.present i.number (hosts_on b.present i.number) bytes not_two

  pub data_given : kind_given b (EventKind.Frame i bytes) ≡ EventKind.Frame i bytes
  unfolding kind_given bytes_given
  data_given = ap (λ (o : Option Translation). EventKind.Frame i (option_map_or packet_given o bytes)) untranslated

  its_groups : (p : Present) → doubted i.number (groups_named bytes) p ≡ p
  unfolding doubted
  its_groups p = ap (λ (groups : List ℕ). doubted i.number groups p) (no_group_of_another bytes not_two)

  known_done : (after : State) → known_after b after (EventKind.Frame i bytes) ≡ b.present
  unfolding known_after bytes_given
  known_done after =
      ap (λ (o : Option Translation). noted_if b.present i.number (present_end b.state i.number) (option_map_or packet_given o bytes) (older_of o))
      untranslated
      ∙ its_groups b.present

  pub data_known : (after : State) (answer : Result Verdict Refusal) → known_if b after (EventKind.Frame i bytes) answer ≡ b.present
  unfolding known_if
  data_known after answer = grind (arith, known_done)

-- ---- whose it is

module _ (x : Split) (guests : PlaneRows) where
  igmp_so : (i : IfaceId) (bytes : List ℕ) → is_igmp bytes ≡ true → (j : Judged) → judged x.core (EventKind.Frame i bytes) ≡ j
      → judged_for_core x guests j ≡ true
  igmp_so i bytes igmp (Ok (Accepted.Data k p)) is = let no : is_igmp bytes ≡ false = data_frame x.core i k bytes p is in absurd cc
  igmp_so i bytes igmp j is = refl

  -- what the front gives of an event for the router is for the router
  pub given_for_core : (b : FrontedRouter) (kind : EventKind) → kind_for_core x guests kind ≡ true → kind_for_core x guests (kind_given b kind) ≡ true
  unfolding kind_given bytes_given
  given_for_core b (EventKind.Frame i bytes) f =
      go (translation (rows_of b) b.state.present i.number (hosts_on b.present i.number) bytes)
    where
      go : (o : Option Translation) → kind_for_core x guests (EventKind.Frame i (option_map_or packet_given o bytes)) ≡ true
      go None = f
      go (Some t) = igmp_so i (packet_given t) (given_is_igmp t) (judged x.core (EventKind.Frame i (packet_given t))) refl
  given_for_core b (EventKind.Advance m) f = f
  given_for_core b (EventKind.Unicast bytes) f = f
  given_for_core b (EventKind.Up i) f = f
  given_for_core b (EventKind.Down i) f = f
  given_for_core b (EventKind.Routes routes) f = f
  given_for_core b (EventKind.Rps rps) f = f
  given_for_core b (EventKind.RpCandidates candidates) f = f

  -- what the plane takes itself leaves the core
  module _ (w : Way) (e : Event) where
    plane_core : (p : Packet) (h : Handling) → is_to_core h ≡ false → (kept_plane w x e p h).0.core ≡ x.core
    unfolding with_notice
    plane_core p (Handling.Forward alive list) f = refl
    plane_core p Handling.Drop f = refl
    plane_core p Handling.ToCore f = cc

    judged_core : (j : Judged) → judged_for_core x guests j ≡ false → (guest_judgement w x guests e j).0.core ≡ x.core
    judged_core (Ok (Accepted.Data i p)) f = plane_core p (guest_handled x guests i p) f
    judged_core j f = cc

    time_core : (m : ℕ) (b : Bool) → not b ≡ false
        → (cond b (let u : Split × Outcome = (record x { now = m }, nothing_sent) in u) (kept_core w x e)).0.core ≡ x.core
    time_core m true f = refl
    time_core m false f = cc

    pub kind_core : (kind : EventKind) → kind_for_core x guests kind ≡ false → (guest_kind w x guests e kind).0.core ≡ x.core
    unfolding kept_time
    kind_core (EventKind.Advance m) f = time_core m (passes_quietly x m) f
    kind_core kind f = judged_core (judged x.core kind) f

  -- it is a packet of data, or time
  pub record IsFrame (kind : EventKind) : Type 0 where
    pub iface : IfaceId
    pub bytes : List ℕ
    pub is : kind ≡ EventKind.Frame iface bytes
    pub other : is_igmp bytes ≡ false

  pub judged_frame : (kind : EventKind) (j : Judged) → judged x.core kind ≡ j → judged_for_core x guests j ≡ false → IsFrame kind
  judged_frame kind (Ok (Accepted.Data i p)) is f =
      let came : ByFrame x.core kind i p = by_frame x.core kind i p is in
      record { iface = i; bytes = came.bytes; is = came.kind_is; other = data_so x.core i came.bytes p came.data_is }
  judged_frame kind j is f = absurd cc

-- ---- time

abbrev pub time : ℕ → ℕ → Event
time w m = record { draw = w; kind = EventKind.Advance m }

module _ (s : State) (w m : ℕ) (on : s.present ≤ m) (early : m ≤ last_moment) where
  accepted : (b c : Bool) → b ≡ false → c ≡ false
      → (refuse_if b Refusal.MomentBack >> refuse_if c Refusal.MomentFar >> Ok (Accepted.Advance m)) ≡ Ok (Accepted.Advance m)
  accepted b c e f = grind arith

  judged_so : judged s (EventKind.Advance m) ≡ Ok (Accepted.Advance m)
  unfolding judged advance_judged
  judged_so = accepted (nat_lt m s.present) (nat_lt last_moment m) (not_lt s.present m on) (not_lt m last_moment early)

  pub time_steps : step s (time w m) ≡ advanced s w m
  unfolding step taken_unless_full is_full taken
  time_steps = ap (λ (j : Judged). concluded s (taken_unless_full s w) j) judged_so

pub time_known : (b : FrontedRouter) (w m : ℕ) → (step b.state (time w m)).answer ≡ Ok Verdict.Done
    → (joined_step b (time w m)).1.present ≡ looked (step b.state (time w m)).state.group_records m b.present
unfolding joined_step event_given kind_given known_if known_after
time_known b w m done = ap (λ (a : Result Verdict Refusal). known_if b (step b.state (time w m)).state (EventKind.Advance m) a) done
