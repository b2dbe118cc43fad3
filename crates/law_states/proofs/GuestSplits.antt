-- What a plane holds of sources without a fact decides of each packet what the core would offer.
use Rattle.std.{proofs.{Common.{◌≡◌, ◌≤◌, ℕ, Bool, true, false, not, ◌||◌, cond, List, [], ◌∷◌, length, Option, Some, None, nat_lt, option_and_then, refl, sym, subst, ◌∙◌, arith}, lemmas.Bool.Decides.nat_tests}}
use Rattle.pim_ip.{specs.Ipv4.Packet}
use Rattle.pim_types.{specs.{declared.{config.IfaceId.IfaceId, event.Event.Event, outcome.Outcome.Outcome}, Keys.source_key}}
use Rattle.pim_model.{specs.{Cache.answers, Forwarding.no_interface, Full.{counted, is_full, passes_limit, source_is_full}, Judging.Judged, Limits.most_ifaces, Sets.{Set, members}, State.{State, opening}, Step.{ran, run, state_after, step}, Tables.has_row, Writing.copies_of}}
use Rattle.law_events.{specs.{Rest.IsAtRest, Kept.SameDecision}, proofs.{Rest.opening_is_at_rest, RowsOfRuns.few_opening, CacheSameRows.answers_itself}}
use Rattle.law_plane.{specs.{Late.is_the_cores, Offered.{Offered, offered, unknown_row}, Offload.{Handling, Row, decision, handling, handling_unknown, is_to_core, offload, unknown_of}, Split.{Split, by_core, by_plane, handled_at, handled_by, nothing_sent, sent, split_step, time_goes, whole, with_notice}, Staying.OffersAlike, ToldLaws.{PlaneRows, no_plane_rows}}, proofs.{Ends.{Ends, no_ends, still_there}, OfferedRows.unknown_row_decides, Passes.{Passed, ended_by}, Planes.none_leave, Splits.{Follows, opening_is_early, step_goes, whole_follows, filters_same, as_many}, Staying.offer_stays, ToldRows.{opening_is_told, same_through, same_itself}}}
use Rattle.law_states.{specs.{Guests.{AreHeld, DeniesRightly, HoldsOf, Plane, SplitRouterByOffersIsSound, Turn, as_guest, asked, events_of, guest_handled, guest_judgement, guest_kind, guest_of, guest_ran, guest_step, without}, Kept.{Way, kept_judgement, kept_plane, kept_step, kept_up}}, proofs.{KeptSplits.{same_up, split_near, step_same}, KeptUp.kept_follows, NearEnds.{EndsNear, opening_near}}}

-- ---- what is held is what is offered

pub offers_through : (a b c : Option Offered) → OffersAlike a b → OffersAlike b c → OffersAlike a c
offers_through None None c x y = y
offers_through None (Some b) c x y = absurd x
offers_through (Some a) None c x y = absurd x
offers_through (Some a) (Some b) None x y = absurd y
offers_through (Some a) (Some b) (Some c) x y = (
  x.0 ∙ y.0,
  λ i low. same_through (decision (handling a.row i)) (decision (handling b.row i)) (decision (handling c.row i)) (x.1 i low) (y.1 i low),
)

pub held_through : (held : Option Row) (a b : Option Offered) → HoldsOf held a → OffersAlike a b → HoldsOf held b
held_through held a b x y = grind (arith, offers_through)

held_anew : (s : State) (g src : ℕ) → HoldsOf (guest_of s g src) (offered s g src)
unfolding guest_of
held_anew s g src = go (offered s g src)
  where
    by : (known : Bool) (row : Row) → HoldsOf (cond known None (Some row)) (Some (record { is_known = known; row = row }))
    by true row = tt
    by false row = (refl, λ i low. same_itself (decision (handling row i)))

    go : (o : Option Offered)
        → HoldsOf (option_and_then (λ (o : Offered). cond o.is_known None (Some o.row)) o) o
    go None = tt
    go (Some o) = by o.is_known o.row

pub asked_held : (asks : ℕ → ℕ → Bool) (s : State) (guests : PlaneRows) → AreHeld guests s → AreHeld (asked asks s guests) s
asked_held asks s guests held g src = grind (arith, held_anew)

-- ---- while notes are owed, the core offers what the router does

-- of a state that differs from the core in timers' ends and the present
module _ (core : State) (quiet : IsAtRest core) (ends : Ends) (m : ℕ) (r : State) (is : Passed core quiet ends m r) where
  fact_same : (g src : ℕ) → has_row core.sources (source_key 0 g src) ≡ has_row r.sources (source_key 0 g src)
  fact_same g src = grind (arith, still_there)

  room_same : passes_limit core 1 ≡ passes_limit r 1
  unfolding passes_limit counted
  room_same = grind (arith, as_many)

  pub passed_offers : (g src : ℕ) → OffersAlike (offered core g src) (offered r g src)
  passed_offers g src = grind (arith, offer_stays, fact_same, answers_itself, room_same)

  pub offers_passed : (g src : ℕ) → OffersAlike (offered r g src) (offered core g src)
  offers_passed g src = grind (arith, offer_stays, fact_same, answers_itself, room_same)

module _ (x : Split) (r : State) (f : Follows x r) where
  pub core_offers : (g src : ℕ) → OffersAlike (offered x.core g src) (offered r g src)
  core_offers = passed_offers x.core f.quiet (ended_by no_ends x.owed) x.now r f.is

  pub router_offers : (g src : ℕ) → OffersAlike (offered r g src) (offered x.core g src)
  router_offers = offers_passed x.core f.quiet (ended_by no_ends x.owed) x.now r f.is

-- ---- a packet

module _ (w : Way) (x : Split) (few : length (x.core).configured.interfaces ≤ most_ifaces) where
  module _ (e : Event) (p : Packet) where
    alike_sent : (a b : Set) → ((n : ℕ) → nat_lt n most_ifaces ≡ true → a n ≡ b n) → sent x.core p a ≡ sent x.core p b
    unfolding copies_of members
    alike_sent a b same = grind (arith, filters_same, nat_tests)

    nothing_is : sent x.core p no_interface ≡ nothing_sent
    nothing_is = grind (arith, none_leave)

    silent : (a : Bool) → a ≡ false → with_notice x e p a ≡ x
    unfolding with_notice
    silent a e = grind arith

    pub decide_same : (h k : Handling) → SameDecision (decision h) (decision k) → kept_plane w x e p h ≡ kept_plane w x e p k
    decide_same h k same = grind (arith, alike_sent, silent, nothing_is)

  module _ (guests : PlaneRows) (held : AreHeld guests x.core) where
    module _ (i : IfaceId) (p : Packet) (low : nat_lt i.number most_ifaces ≡ true) where
      abbrev its_row : Row
      its_row = offload (answers x.core p.destination p.source)

      guest_decides : (row : Row) (known full : Bool)
          → OffersAlike (as_guest row)
          (cond known (Some (record { is_known = true; row = its_row }))
          (cond full None (Some (record { is_known = false; row = unknown_row its_row }))))
          → SameDecision (decision (handling row i.number))
          (decision (cond (known || full) Handling.ToCore (handling_unknown its_row i.number)))
      guest_decides row known full alike = grind (arith, unknown_row_decides)

      by_guest : (o : Option Row) → HoldsOf o (offered x.core p.destination p.source)
          → SameDecision (decision (handled_at o (unknown_of x.core i p) i.number)) (decision (unknown_of x.core i p))
      unfolding offered unknown_of is_full
      by_guest None h = same_itself (decision (unknown_of x.core i p))
      by_guest (Some row) h =
          guest_decides row (has_row (x.core).sources (source_key 0 p.destination p.source))
          (source_is_full x.core p.destination p.source) h

      by_row : (o : Option Row)
          → SameDecision (decision (handled_at o (handled_at (guests p.destination p.source) (unknown_of x.core i p) i.number) i.number))
          (decision (handled_at o (unknown_of x.core i p) i.number))
      by_row None = by_guest (guests p.destination p.source) (held p.destination p.source)
      by_row (Some row) = same_itself (decision (handling row i.number))

    pub handled_same : (i : IfaceId) (p : Packet) → SameDecision (decision (guest_handled x guests i p)) (decision (handled_by x i p))
    unfolding guest_handled handled_by
    handled_same i p = go (nat_lt i.number most_ifaces) refl
      where
        go : (b : Bool) → nat_lt i.number most_ifaces ≡ b
            → SameDecision (decision (cond b (handled_at (x.rows p.destination p.source)
            (handled_at (guests p.destination p.source) (unknown_of x.core i p) i.number) i.number) Handling.ToCore))
            (decision (cond b (handled_at (x.rows p.destination p.source) (unknown_of x.core i p) i.number) Handling.ToCore))
        go true low = by_row i p low (x.rows p.destination p.source)
        go false low = tt

    guests_judge : (e : Event) (j : Judged) → guest_judgement w x guests e j ≡ kept_judgement w x e j
    guests_judge e j = grind (arith, decide_same, handled_same)

    pub guests_same : (e : Event) → guest_kind w x guests e e.kind ≡ kept_step w x e
    unfolding kept_step
    guests_same e = grind (arith, guests_judge)

-- ---- the core stays where the event isn't its own

module _ (x : Split) (e : Event) where
  notice_core : (p : Packet) (alive : Bool) → (with_notice x e p alive).core ≡ x.core
  unfolding with_notice
  notice_core p alive = refl

  plane_core : (p : Packet) (h : Handling) → is_to_core h ≡ false → ((by_plane x e p h).0).core ≡ x.core
  plane_core p h not = grind (arith, notice_core)

  time_core : (m : ℕ) (b : Bool) → not b ≡ false → ((cond b (record x { now = m }, nothing_sent) (by_core x e)).0).core ≡ x.core
  time_core m b out = grind arith

  pub core_stays : is_the_cores x e ≡ false → ((split_step x e).0).core ≡ x.core
  unfolding split_step time_goes is_the_cores
  core_stays = grind (arith, plane_core, time_core)

-- ---- events

-- what is held goes on: of the core's own events by what is denied to differ, and the others change no offer
held_on : (x : Split) (r : State) (t : Turn) (guests : PlaneRows) → Follows x r
    → Follows (split_step x t.event).0 (step r t.event).state
    → (is_the_cores x t.event ≡ true → (g src : ℕ) → t.differs g src ≡ false
    → OffersAlike (offered r g src) (offered (step r t.event).state g src))
    → AreHeld guests x.core → AreHeld (without t.differs guests) ((split_step x t.event).0).core
held_on x r t guests f after denies held g src = go (t.differs g src) refl
  where
    y : Split
    y = (split_step x t.event).0

    stays : t.differs g src ≡ false → (b : Bool) → is_the_cores x t.event ≡ b
        → OffersAlike (offered x.core g src) (offered y.core g src)
    stays same true is =
        offers_through (offered x.core g src) (offered r g src) (offered y.core g src) (core_offers x r f g src)
        (offers_through (offered r g src) (offered (step r t.event).state g src) (offered y.core g src) (denies is g src same)
        (router_offers y (step r t.event).state after g src))
    stays same false is =
        subst (λ (s : State). OffersAlike (offered x.core g src) (offered s g src)) (sym (core_stays x t.event is))
        (offers_through (offered x.core g src) (offered r g src) (offered x.core g src) (core_offers x r f g src)
        (router_offers x r f g src))

    go : (b : Bool) → t.differs g src ≡ b → HoldsOf (cond b None (guests g src)) (offered y.core g src)
    go true same = tt
    go false same =
        held_through (guests g src) (offered x.core g src) (offered y.core g src) (held g src)
        (stays same (is_the_cores x t.event) refl)

abbrev pub GoesOn : Way → Plane → List Turn → State → Type 0
GoesOn w y ts r =
    ((guest_ran w y ts).0 ≡ run r (events_of ts))
    × (kept_up w ((guest_ran w y ts).1).split ≡ state_after r (events_of ts))

turns_go : (w : Way) (ts : List Turn) (y : Plane) (r : State) → Follows y.split r → EndsNear (y.split).core
    → AreHeld y.guests (y.split).core → DeniesRightly y.split r ts → GoesOn w y ts r
unfolding guest_ran guest_step run state_after ran
turns_go w [] y r f near held denies = (refl, kept_follows y.split r w f near)
turns_go w (t ∷ ts) y r f near held denies =
    let x : Split = y.split in
    let guests : PlaneRows = asked t.asks x.core y.guests in
    let now_held : AreHeld guests x.core = asked_held t.asks x.core y.guests held in
    let same : guest_kind w x guests t.event (t.event).kind ≡ split_step x t.event =
    guests_same w x f.few guests now_held t.event ∙ step_same w x t.event (same_up w x r f near) in
    let goes : _ = step_goes x r f t.event in
    let next : Plane = record { split = (split_step x t.event).0; guests = without t.differs guests } in
    let later : GoesOn w next ts (step r t.event).state =
    turns_go w ts next (step r t.event).state goes.0 (split_near x t.event near)
    (held_on x r t guests f goes.0 denies.0 now_held) denies.1 in (
      (λ j.
          let u : Split × Outcome = same j in
          let z : Plane = record { split = u.0; guests = without t.differs guests } in
          u.1 ∷ (guest_ran w z ts).0)
          ∙ (λ j. goes.1 j ∷ later.0 j),
      (λ j.
          let u : Split × Outcome = same j in
          let z : Plane = record { split = u.0; guests = without t.differs guests } in
          kept_up w ((guest_ran w z ts).1).split)
          ∙ later.1,
    )

pub none_held : (s : State) → AreHeld no_plane_rows s
none_held s g src = tt

pub split_router_by_offers_is_sound : SplitRouterByOffersIsSound
split_router_by_offers_is_sound c turns w e denies =
    let x : Split = whole (opening c) no_plane_rows in
    let f : Follows x (opening c) =
    whole_follows (opening c) no_plane_rows (opening_is_at_rest c e) (opening_is_early c) (few_opening c e) (opening_is_told c) in
    turns_go w turns (record { split = x; guests = no_plane_rows }) (opening c) f (opening_near c) (none_held (opening c)) denies
