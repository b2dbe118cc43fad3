-- What the plane does of a packet by a row is what a step does, and what is plain it doesn't hand to the core.
use Rattle.std.{proofs.{Common.{◌≡◌, ◌+◌, ℕ, Bool, true, false, cond, List, [], ◌∷◌, map, length, Ok, Option, Some, None, nat_lt, is_some, refl, sym, ap, subst, ◌∙◌, arith}, lemmas.List.Elements.All-from_recursion}, specs.List.{All, filter}}
use Rattle.pim_ip.{specs.Ipv4.{Packet, copy_text}}
use Rattle.pim_types.{specs.declared.{config.IfaceId.IfaceId, event.Event.Event, fact.SourceRow.SourceRow, outcome.{Emission.Emission, Verdict.Verdict}}}
use Rattle.pim_model.{specs.{Cache.{Answers, Plain, answers, cached}, Forwarding.no_interface, Judging.{data_judged, frame_judged, judged, packet_judged}, Plain.{IsCopy, IsPlainEvent, fact_key}, Registers.keepalive_period, Sets.{Set, members}, State.{State, ifaces}, Step.{Answered, step}, Tables.{has_row, row_at}, Writing.{copies_of, on_link}}}
use Rattle.law_events.{specs.{Rest.IsAtRest, Decided.{IsDecided, decided_by_answers, kept_if, plainly_taken}}, proofs.{KeptAlive.{found, kept_row}, PlainEvents.{decided_is_plain, plain_is_decided}, PlainPackets.plain_is_stepped, Puts.put_same}}
use Rattle.law_plane.{specs.{Offload.{Handling, decision, dropped, handled, handling, handling_of, is_to_core, offload, taken_by_plane, told}, OffloadLaws.{BringsData, CopiesShowWhere, DataIsHeard, IsSilent, PlainIsPlane, PlaneIsPlain, PlaneIsStepped, SpentPacketTells}}, proofs.Decides.{row_decides, row_decides_any}}

-- ---- which rows there are

module _ (s : State) (i : IfaceId) (p : Packet) where
  abbrev its_answers : Answers
  its_answers = answers s p.destination p.source

  -- of a source with a fact, or without one
  handled_where : (b : Bool) → has_row s.sources (fact_key p) ≡ b
      → handling_of s i p ≡ cond b (handling (offload its_answers) i.number) Handling.ToCore
  unfolding cached
  handled_where b e = grind arith

  decided_where : (b : Bool) (how : Plain) → has_row s.sources (fact_key p) ≡ b → decision (handling_of s i p) ≡ Some how
      → (b ≡ true) × (decided_by_answers s i p ≡ Some how)
  decided_where true how f e =
      (refl, row_decides_any its_answers i.number p.time_to_live how (ap decision (sym (handled_where true f)) ∙ e))
  decided_where false how f e =
      let none : None ≡ Some how = ap decision (sym (handled_where false f)) ∙ e in
      let no : ⊥ = cc in
      absurd no

  module _ (e : Event) (heard : BringsData s e i p) where
    pub is_decided : (how : Plain) → decision (handling_of s i p) ≡ Some how → IsDecided s e p how
    is_decided how f = grind (arith, decided_where)

-- ---- what a step does

no_members : (ns : List ℕ) → filter no_interface ns ≡ []
no_members [] = refl
no_members (n ∷ ns) = no_members ns

pub none_leave : (s : State) (p : Packet) → copies_of s p no_interface ≡ []
unfolding copies_of members
none_leave s p = grind (arith, no_members)

pub plainly_dropped : (s : State) (p : Packet) → plainly_taken s p (record { keeps = false; list = no_interface }) ≡ dropped s
unfolding plainly_taken
plainly_dropped s p = grind (arith, none_leave)

module _ (s : State) (e : Event) (i : IfaceId) (p : Packet) (rests : IsAtRest s) (heard : BringsData s e i p) where
  pub stepped_as : (h : Handling) (a : Answered) → handling_of s i p ≡ h → taken_by_plane s p h ≡ Some a → step s e ≡ a
  stepped_as (Handling.Forward alive list) a f is =
      let how : Plain = record { keeps = alive; list = list } in
      let same : plainly_taken s p how ≡ a = cc in
      plain_is_stepped s e p how rests (is_decided s i p e heard how (ap decision f)) ∙ same
  stepped_as Handling.Drop a f is =
      let how : Plain = record { keeps = false; list = no_interface } in
      let same : dropped s ≡ a = cc in
      plain_is_stepped s e p how rests (is_decided s i p e heard how (ap decision f)) ∙ (plainly_dropped s p ∙ same)
  stepped_as Handling.ToCore a f is = let none : ⊥ = cc in absurd none

  plain_as : (h : Handling) → handling_of s i p ≡ h → is_to_core h ≡ false → IsPlainEvent s e
  plain_as (Handling.Forward alive list) f is =
      let how : Plain = record { keeps = alive; list = list } in
      decided_is_plain s e p how rests (is_decided s i p e heard how (ap decision f))
  plain_as Handling.Drop f is =
      let how : Plain = record { keeps = false; list = no_interface } in
      decided_is_plain s e p how rests (is_decided s i p e heard how (ap decision f))
  plain_as Handling.ToCore f is = let none : ⊥ = cc in absurd none

pub plane_is_stepped : PlaneIsStepped
plane_is_stepped s e i p a rests heard is = stepped_as s e i p rests heard (handling_of s i p) a refl is

pub plane_is_plain : PlaneIsPlain
plane_is_plain s e i p rests heard is = plain_as s e i p rests heard (handling_of s i p) refl is

-- ---- a packet whose TTL has run out

module _ (s : State) (e f : Event) (i : IfaceId) (p q : Packet) (rests : IsAtRest s) (heard : BringsData s e i p)
    (heard_too : BringsData s f i q) (group : q.destination ≡ p.destination) (source : q.source ≡ p.source)
    (spent : nat_lt 1 q.time_to_live ≡ false) where
  none_left_of : (list : Set) → copies_of s q list ≡ []
  unfolding copies_of
  none_left_of list = rw spent refl

  same_handling : handling_of s i q ≡ handling_of s i p
  same_handling = λ j. handled (told s (group j) (source j)) i.number

  tells : (how : Plain) → decision (handling_of s i p) ≡ Some how → step s f ≡ dropped (step s e).state
  unfolding plainly_taken
  tells how is =
      plain_is_stepped s f q how rests (is_decided s i q f heard_too how (ap decision same_handling ∙ is))
      ∙ (λ j. record {
        answer = Ok Verdict.Done;
        emissions = none_left_of how.list j;
        copies = length (none_left_of how.list j);
        state = kept_if how.keeps s (group j) (source j);
      })
      ∙ ap (λ (a : Answered). dropped a.state) (sym (plain_is_stepped s e p how rests (is_decided s i p e heard how is)))

  tells_as : (h : Handling) → handling_of s i p ≡ h → is_to_core h ≡ false → step s f ≡ dropped (step s e).state
  tells_as (Handling.Forward alive list) h is = tells (record { keeps = alive; list = list }) (ap decision h)
  tells_as Handling.Drop h is = tells (record { keeps = false; list = no_interface }) (ap decision h)
  tells_as Handling.ToCore h is = let none : ⊥ = cc in absurd none

pub spent_packet_tells : SpentPacketTells
spent_packet_tells s e f i p q rests heard heard_too group source spent is = grind (arith, tells_as)

decided_by_plane : (h : Handling) → is_some (decision h) ≡ true → is_to_core h ≡ false
decided_by_plane h e = grind arith

pub plain_is_plane : PlainIsPlane
unfolding has_row
plain_is_plane s e rests is long =
    let there : has_row s.sources (fact_key is.packet) ≡ true = ap (λ (o : Option SourceRow). is_some o) is.known in
    decided_by_plane (handling_of s is.iif is.packet)
    (ap (λ (h : Handling). is_some (decision h)) (handled_where s is.iif is.packet true there)
    ∙ (ap (λ (o : Option Plain). is_some o)
    (row_decides (its_answers s is.iif is.packet) (is.iif).number (is.packet).time_to_live long)
    ∙ plain_is_decided s e rests is))

-- ---- where copies leave

abbrev link_of : Emission → ℕ
link_of (Emission.Link i packet) = i.number
link_of (Emission.Unicast to packet) = 0

links_of : (text : List ℕ) (ns : List ℕ) → map link_of (map (λ i. on_link i text) ns) ≡ ns
links_of text [] = refl
links_of text (n ∷ ns) = ap (λ (ms : List ℕ). n ∷ ms) (links_of text ns)

pub copies_show_where : CopiesShowWhere
unfolding copies_of
copies_show_where s p a b long same =
    let maps : map (λ i. on_link i (copy_text p)) (members s a) ≡ map (λ i. on_link i (copy_text p)) (members s b) =
    (λ j. cond (sym long j) (map (λ i. on_link i (copy_text p)) (members s a)) []) ∙ same
    ∙ (λ j. cond (long j) (map (λ i. on_link i (copy_text p)) (members s b)) []) in
    sym (links_of (copy_text p) (members s a)) ∙ (ap (λ (es : List Emission). map link_of es) maps ∙ links_of (copy_text p) (members s b))

-- ---- what changes nothing

module _ (s : State) (e : Event) (i : IfaceId) (p : Packet) (fact : SourceRow) (rests : IsAtRest s) (heard : BringsData s e i p)
    (long : nat_lt 1 p.time_to_live ≡ true) (known : row_at s.sources (fact_key p) ≡ Some fact)
    (stale : fact.keepalive ≡ Some (s.present + keepalive_period) → ⊥) (same : step s e ≡ dropped s) where
  is_plain : IsPlainEvent s e
  is_plain = record {
    iif = i;
    packet = p;
    heard = heard;
    done = ap (λ (a : Answered). a.answer) same;
    fact = fact;
    known = known;
    end = fact.keepalive;
    rest = ap (λ (a : Answered). a.state) same
        ∙ (λ j. record s { sources = sym (put_same (fact_key p) fact s.sources rests.settled.ordered.sources known) j });
    copies = subst (λ (es : List Emission). All (IsCopy p) es) (sym (ap (λ (a : Answered). a.emissions) same))
        (All-from_recursion (IsCopy p) [] tt);
  }

  unkept : (alive : Bool) → kept_if alive s p.destination p.source ≡ s → alive ≡ false
  unkept alive f = grind (arith, kept_row, found)

  silent_as : (h : Handling) → handling_of s i p ≡ h → is_to_core h ≡ false → IsSilent s h
  unfolding plainly_taken members
  silent_as (Handling.Forward alive list) f is =
      let taken : plainly_taken s p (record { keeps = alive; list = list }) ≡ dropped s =
      sym (stepped_as s e i p rests heard (Handling.Forward alive list) _ f refl) ∙ same in (
        unkept alive (ap (λ (a : Answered). a.state) taken),
        copies_show_where s p list no_interface long (ap (λ (a : Answered). a.emissions) taken ∙ sym (none_leave s p))
            ∙ no_members (ifaces s),
      )
  silent_as Handling.Drop f is = tt
  silent_as Handling.ToCore f is = let none : ⊥ = cc in absurd none

  pub unchanged_is_silent : IsSilent s (handling_of s i p)
  unfolding is_plain
  unchanged_is_silent = silent_as (handling_of s i p) refl (plain_is_plane s e rests is_plain long)

-- ---- what a data packet is

pub data_is_heard : DataIsHeard
unfolding judged frame_judged packet_judged data_judged
data_is_heard s e i bytes p frame is = grind arith
