-- A plane behind a front, and a front and a router alone, go on alike.
use Rattle.std.{proofs.{Common.{◌≡◌, ◌≤◌, ◌∙◌, ℕ, ◌&&◌, nat_le, not, Bool, true, false, cond, List, [], ◌∷◌, ◌+◌, nat_lt, Ok, refl, sym, ap, subst, arith}, lemmas.{Bool.Decides.nat_tests, List.Sorted.IsPermutation-refl}}, specs.List.list_all}
use Rattle.pim_types.{specs.declared.{config.Config.Config, event.{Event.Event, EventKind.EventKind}, fact.GroupRecordRow.GroupRecordRow, outcome.{Outcome.Outcome}}}
use Rattle.pim_model.{specs.{Judging.{judged, last_moment}, Limits.config_test, Registers.keepalive_period, State.{State, opening}, Step.{Answered, advanced, outcome_of, ran, state_after, step}, Tables.Table}}
use Rattle.law_settled.{specs.{Laws.ends_after, Ready.IsTimeless}, proofs.Steps.step_stays_ahead}
use Rattle.law_events.{proofs.{Rest.opening_is_at_rest, RowsOfRuns.few_opening}}
use Rattle.law_plane.{specs.{Split.{Notice, Split, advance_to, passes_quietly}, SplitLaws.NamesEachOnce, ToldLaws.{PlaneRows, no_plane_rows}}, proofs.{Ends.{ends_later, no_ends}, Passes.{Passed, ended_by}, Splits.{Follows, opening_is_early, whole_follows}, Times.passes, ToldRows.opening_is_told}}
use Rattle.law_states.{specs.{Documented.{Act, AreRight, Doing, IsRight, IsTelling, act, acted, event_of, events_in, given, goes_at_once, is_for_core, kind_for_core, known_then, plain_act}, Guests.{AreHeld, Plane, guest_kind}, Kept.{Way, kept_up, told_notes}}, proofs.{AtOnce.advance_at_once, DocumentedPlanes.{Went, rise_so, heard_is, tells_goes, tells_held, tells_near, went}, GuestSplits.{asked_held, none_held}, KeptOrders.{each_so_far, told_so_far}, KeptUp.{ToldBy, kept_follows}, NearEnds.{EndsNear, opening_near, step_near}}}
use Rattle.igmp_older.{specs.{Joined.{FrontedRouter, event_given, joined_step, joined_with, kind_given, known_after, known_if}, Laws.{nobody_known}, Presence.{Present, looked}, declared.setting.OlderHosts.OlderHosts}}
use Rattle.law_hosts.{specs.Behind.{front_and_router, after_notes, after_catching_up, Fronted, PlainActsBehindAreRight, fronted_at_opening, plain_behind, PlaneBehindFrontIsSound, TellingAgainOnlyLooks, act_given, again_ran, again_step, before_event, fronted, fronted_after, fronted_told, is_the_routers, known_now, with_event}, proofs.{Told.{quietly_looked, told_at_last, told_state}, Given.{IsFrame, data_given, data_known, given_for_core, judged_frame, kind_core, time, time_known, time_steps}, Looks.{looked_once, same_lasts, time_lasts}}}

self : (n : ℕ) → n ≤ n
self n = omega arith

pub telling_again_only_looks : TellingAgainOnlyLooks
unfolding joined_step event_given kind_given known_if known_after
telling_again_only_looks b rests early =
    ap (λ (a : Answered). joined_with b (EventKind.Advance b.state.present) a)
    (passes b.state 0 b.state.present (self b.state.present) early rests.settled.ahead.ends)

-- What is known at the present time was looked at already.
looked_at : (s : State) (p : Present) → known_now s (known_now s p) ≡ known_now s p
looked_at s p = looked_once s.present s.present (self s.present) s.group_records s.group_records (same_lasts s.present s.group_records) p

-- A plane behind a front, and a front and a router alone, as they go on.
record Along (f : Fronted) (b : FrontedRouter) : Type 0 where
  follows : Follows f.plane.split b.state
  near : EndsNear f.plane.split.core
  router_near : EndsNear b.state
  apart : NamesEachOnce f.plane.split.owed
  held : AreHeld f.plane.guests f.plane.split.core
  known : known_now b.state f.present ≡ known_now b.state b.present

module _ (f : Fronted) (b : FrontedRouter) (along : Along f b) where
  abbrev x : Split
  x = f.plane.split

  abbrev r : State
  r = b.state

  present_is : r.present ≡ x.now
  present_is = ap (λ (t : State). t.present) (along.follows.is).same

  records_are : r.group_records ≡ x.core.group_records
  records_are = ap (λ (t : State). t.group_records) (along.follows.is).same

  r_early : r.present ≤ last_moment
  r_early = subst (λ (n : ℕ). n ≤ last_moment) (sym present_is) along.follows.early

  -- the front alone once it was told the present time again
  abbrev again : FrontedRouter
  again = record { present = known_now r b.present; state = r }

  -- ---- notes that are reported

  module _ (notes : List Notice) (w : Way) (telling : IsTelling x notes w) where
    abbrev told : State
    told = told_notes w x.core notes

    abbrev told_both : FrontedRouter
    told_both = after_notes w (front_and_router f) notes

    told_is : ToldBy x.core along.follows.quiet x.now w along.follows.early along.follows.ahead along.near.ends (ended_by no_ends notes) x.now told
    told_is = told_so_far x r w notes along.follows along.near telling.all telling.once telling.rises

    abbrev up : State
    up = state_after told (advance_to x.now ∷ [])

    up_is : up ≡ r
    up_is = heard_is x r along.follows along.near along.apart notes w telling

    told_ahead : ends_after x.now told ≡ true
    told_ahead =
        subst (λ (u : State). ends_after x.now u ≡ true) (sym (told_is.is).same)
        (ends_later x.now (ended_by no_ends notes) told_is.late x.core told_is.at along.follows.ahead)

    told_since : told.present ≤ x.now
    told_since = subst (λ (u : State). u.present ≤ x.now) (sym (told_is.is).same) told_is.within

    told_steps : (v m : ℕ) → x.now ≤ m → m ≤ last_moment → step told_both.state (time v m) ≡ step r (time v m)
    told_steps v m on early =
        ap (λ (s : State). step s (time v m)) (told_state w notes (front_and_router f))
        ∙ sym (advance_at_once told v x.now m (told_is.is).rests told_since on early told_ahead)
        ∙ ap (λ (s : State). step s (time v m)) up_is

    -- what is known at the present time
    at_present : (p : Present) → looked x.core.group_records x.now p ≡ known_now r p
    at_present p =
        ap (λ (groups : Table GroupRecordRow). looked groups x.now p) (sym records_are)
        ∙ ap (λ (n : ℕ). looked r.group_records n p) (sym present_is)

    told_known : known_now r told_both.present ≡ known_now r b.present
    told_known =
        sym (at_present told_both.present)
        ∙ told_at_last x.core along.follows.quiet x.now w along.follows.early along.follows.ahead along.near.ends notes no_ends (front_and_router f)
        (each_so_far x r w notes along.follows along.near telling.all telling.once telling.rises)
        ∙ at_present f.present
        ∙ along.known

    told_here : Passed x.core along.follows.quiet (ended_by no_ends notes) told_is.at told_both.state
    told_here = subst (λ (s : State). Passed x.core along.follows.quiet (ended_by no_ends notes) told_is.at s) (sym (told_state w notes (front_and_router f))) told_is.is

    -- and the present time
    caught_up_state : (after_catching_up f notes w).state ≡ r
    unfolding joined_step event_given kind_given state_after ran
    caught_up_state = ap (λ (s : State). (step s (advance_to x.now)).state) (told_state w notes (front_and_router f)) ∙ up_is

    caught_up_is : after_catching_up f notes w ≡ again
    caught_up_is = λ j. record {
      present = (quietly_looked x.core along.follows.quiet x.now w along.follows.early along.follows.ahead along.near.ends
          (ended_by no_ends notes) told_both x.now told_is.at told_here told_is.within told_is.late (self x.now)
          ∙ at_present told_both.present
          ∙ told_known) j;
      state = caught_up_state j;
    }

  module _ (d : Act) where
    abbrev e : Event
    e = event_of d

    abbrev new : Event
    new = event_given again e

    abbrev then : State
    then = (step r new).state

    abbrev its_guests : PlaneRows
    its_guests = known_then f.plane d

    its_held : AreHeld its_guests x.core
    its_held = asked_held (d.turn).asks x.core f.plane.guests along.held

    abbrev AreAlike : Plane × Outcome → Present → Outcome × FrontedRouter → Type 0
    AreAlike gone known t = (gone.1 ≡ t.0) × Along (record { plane = gone.0; present = known }) t.1

    -- ---- the plane and its router

    module _ (event : Event) (right : is_for_core x its_guests event ≡ true → IsRight x (with_event d event)) where
      abbrev left_of : Bool → Split × Outcome
      left_of own = cond own (given x (with_event d event)) (guest_kind d.way x its_guests event event.kind)

      it_went : Went r (with_event d event) its_guests (left_of (is_for_core x its_guests event))
      it_went =
          went x r along.follows along.near along.router_near along.apart (with_event d event) its_guests its_held
          (is_for_core x its_guests event) refl right

      goes_alike : event ≡ new → (known : Present) → known_now then known ≡ known_now then (joined_step again e).1.present
          → AreAlike (act f.plane (with_event d event)) known (joined_step again e)
      unfolding act joined_step
      goes_alike same known alike = (
        (it_went.goes).1 ∙ ap (λ (v : Event). outcome_of (step r v)) same,
        record {
          follows = subst (λ (v : Event). Follows (left_of (is_for_core x its_guests event)).0 (step r v).state) same (it_went.goes).0;
          near = it_went.near;
          router_near = step_near r new along.router_near;
          apart = it_went.apart;
          held = it_went.held;
          known = alike;
        },
      )

      -- what the plane takes itself leaves the group records
      records_stay : is_for_core x its_guests event ≡ false → (step r event).state.group_records ≡ r.group_records
      unfolding is_for_core
      records_stay out =
          ap (λ (t : State). t.group_records) (((it_went.goes).0).is).same
          ∙ ap (λ (own : Bool). (left_of own).0.core.group_records) out
          ∙ ap (λ (t : State). t.group_records) (kind_core x its_guests d.way event event.kind out)
          ∙ sym records_are

    -- ---- time

    module _ (m : ℕ) (is : e.kind ≡ EventKind.Advance m) (on : x.now ≤ m) (early : m ≤ last_moment) where
      abbrev timed : Event
      timed = time e.draw m

      same_event : timed ≡ e
      same_event = λ j. record { draw = e.draw; kind = sym is j }

      time_given : (c : FrontedRouter) → event_given c e ≡ e
      unfolding event_given kind_given
      time_given c = ap (λ (v : Event). event_given c v) (sym same_event) ∙ same_event

      from_r : r.present ≤ m
      from_r = subst (λ (n : ℕ). n ≤ m) (sym present_is) on

      abbrev passed : State
      passed = (advanced r e.draw m).state

      stepped : step r e ≡ advanced r e.draw m
      stepped = ap (λ (v : Event). step r v) (sym same_event) ∙ time_steps r e.draw m from_r early

      then_is : then ≡ passed
      then_is = ap (λ (v : Event). (step r v).state) (time_given again) ∙ ap (λ (a : Answered). a.state) stepped

      -- looked at before, or not
      looked_later : (p : Present) → looked passed.group_records m (known_now r p) ≡ looked passed.group_records m p
      looked_later p =
          looked_once r.present m from_r r.group_records passed.group_records
          (time_lasts r ((along.follows.is).rests).settled e.draw m) p

      alike_later : (p : Present) → known_now r p ≡ known_now r b.present
          → looked passed.group_records m p ≡ looked passed.group_records m (known_now r b.present)
      alike_later p alike = sym (looked_later p) ∙ ap (λ (q : Present). looked passed.group_records m q) alike

      -- what is known of it by a front before such a state
      known_by : (c : FrontedRouter) → step c.state e ≡ advanced r e.draw m → (joined_step c e).1.present ≡ looked passed.group_records m c.present
      unfolding advanced
      known_by c same =
          let at : step c.state timed ≡ advanced r e.draw m = ap (λ (v : Event). step c.state v) same_event ∙ same in
          ap (λ (v : Event). (joined_step c v).1.present) (sym same_event)
          ∙ time_known c e.draw m (ap (λ (a : Answered). a.answer) at)
          ∙ ap (λ (a : Answered). looked a.state.group_records m c.present) at

      known_again : (joined_step again e).1.present ≡ looked passed.group_records m (known_now r b.present)
      known_again = known_by again stepped

      -- time that passes quietly
      quietly_alike : known_now then f.present ≡ known_now then (joined_step again e).1.present
      unfolding advanced
      quietly_alike =
          ap (λ (s : State). known_now s f.present) then_is
          ∙ alike_later f.present along.known
          ∙ sym (looked_at passed (known_now r b.present))
          ∙ ap (λ (p : Present). known_now passed p) (sym known_again)
          ∙ ap (λ (s : State). known_now s (joined_step again e).1.present) (sym then_is)

      -- time that is given at once
      at_once_alike : (c : FrontedRouter) → known_now r c.present ≡ known_now r b.present → step c.state e ≡ step r e
          → known_now then (joined_step c e).1.present ≡ known_now then (joined_step again e).1.present
      at_once_alike c known same =
          ap (λ (p : Present). known_now then p) (known_by c (same ∙ stepped) ∙ alike_later c.present known ∙ sym known_again)

    -- ---- the plane takes it

    abbrev RightOf : Act → Type 0
    RightOf a = is_for_core x (known_then f.plane a) (event_of a) ≡ true → IsRight x a

    at_most : (m n : ℕ) → nat_le m n ≡ true → m ≤ n
    at_most m n h = grind (arith, nat_tests, h)

    -- a packet of data
    module _ (frame : IsFrame x its_guests e.kind) (right : RightOf d) (out : is_for_core x its_guests e ≡ false) where
      as_came : new ≡ e
      unfolding event_given
      as_came = λ j. record {
        draw = e.draw;
        kind = (ap (λ (kind : EventKind). kind_given again kind) frame.is
            ∙ data_given again frame.iface frame.bytes frame.other
            ∙ sym frame.is) j;
      }

      known_as_before : (joined_step again e).1.present ≡ again.present
      unfolding joined_step
      known_as_before =
          ap (λ (kind : EventKind). known_if again then kind (step r new).answer) frame.is
          ∙ data_known again frame.iface frame.bytes frame.other then (step r new).answer

      then_present : then.present ≡ r.present
      then_present =
          ap (λ (v : Event). (step r v).state.present) as_came
          ∙ (step_stays_ahead r e (subst IsTimeless (sym frame.is) tt) ((along.follows.is).rests).settled).present

      then_records : then.group_records ≡ r.group_records
      then_records = ap (λ (v : Event). (step r v).state.group_records) as_came ∙ records_stay e right out

      known_then_now : (p : Present) → known_now then p ≡ known_now r p
      known_then_now p =
          ap (λ (groups : Table GroupRecordRow). looked groups then.present p) then_records
          ∙ ap (λ (n : ℕ). looked r.group_records n p) then_present

      frame_taken : AreAlike (act f.plane d) f.present (joined_step again e)
      frame_taken =
          goes_alike e right (sym as_came) f.present
          (known_then_now f.present
          ∙ along.known
          ∙ sym (looked_at r b.present)
          ∙ sym (known_then_now again.present)
          ∙ ap (λ (p : Present). known_now then p) (sym known_as_before))

    module _ (right : RightOf d) where
      quietly_taken : (m : ℕ) → e.kind ≡ EventKind.Advance m → (on early ahead fresh : Bool) → nat_le x.now m ≡ on
          → nat_le m last_moment ≡ early → not (on && early && ahead && fresh) ≡ false
          → AreAlike (act f.plane d) f.present (joined_step again e)
      quietly_taken m is true true ahead fresh on early out =
          let since : x.now ≤ m = at_most x.now m on in
          let until : m ≤ last_moment = at_most m last_moment early in
          goes_alike e right (sym (time_given m is since until again)) f.present (quietly_alike m is since until)
      quietly_taken m is true false ahead fresh on early out = absurd cc
      quietly_taken m is false b ahead fresh on early out = absurd cc

      kind_taken : (kind : EventKind) → e.kind ≡ kind → is_for_core x its_guests e ≡ false → kind_for_core x its_guests kind ≡ false
          → AreAlike (act f.plane d) f.present (joined_step again e)
      unfolding passes_quietly
      kind_taken (EventKind.Advance m) is out quiet =
          quietly_taken m is (nat_le x.now m) (nat_le m last_moment) (ends_after m x.core)
          (list_all (λ (n : Notice). nat_lt m (n.moment + keepalive_period)) x.owed) refl refl quiet
      kind_taken kind is out plane =
          frame_taken (subst (IsFrame x its_guests) (sym is) (judged_frame x its_guests kind (judged x.core kind) refl plane)) right out

      taken : is_for_core x its_guests e ≡ false → AreAlike (act f.plane d) f.present (joined_step again e)
      unfolding is_for_core
      taken out = kind_taken e.kind refl out out

    -- ---- the router's own

    abbrev found : Bool → FrontedRouter
    found once = cond once (after_notes d.way (front_and_router f) d.told) (after_catching_up f d.told d.way)

    abbrev found_event : Bool → Event
    found_event once = event_given (found once) e

    module _ (own : is_for_core x its_guests e ≡ true) where
      given_own : (c : FrontedRouter) → is_for_core x its_guests (event_given c e) ≡ true
      unfolding is_for_core event_given
      given_own c = given_for_core x its_guests c e.kind own

      abbrev RightFound : Bool → Type 0
      RightFound once = is_for_core x its_guests (found_event once) ≡ true → IsRight x (with_event d (found_event once))

      abbrev FoundAlike : Bool → Type 0
      FoundAlike once =
          AreAlike (act f.plane (with_event d (found_event once))) (joined_step (found once) e).1.present (joined_step again e)

      its_telling : (once : Bool) → RightFound once → IsTelling x d.told d.way
      its_telling once right = (right (given_own (found once))).telling

      at_once : RightFound true → (m : ℕ) → e.kind ≡ EventKind.Advance m → (on early : Bool) → nat_le x.now m ≡ on
          → nat_le m last_moment ≡ early → (on && early) ≡ true → FoundAlike true
      at_once right m is true true on early h =
          let since : x.now ≤ m = at_most x.now m on in
          let until : m ≤ last_moment = at_most m last_moment early in
          let same : timed m is since until ≡ e = same_event m is since until in
          let telling : IsTelling x d.told d.way = its_telling true right in
          let steps : step (found true).state e ≡ step r e =
          ap (λ (v : Event). step (found true).state v) (sym same) ∙ told_steps d.told d.way telling e.draw m since until
          ∙ ap (λ (v : Event). step r v) same in
          goes_alike (found_event true) right (time_given m is since until (found true) ∙ sym (time_given m is since until again))
          (joined_step (found true) e).1.present (at_once_alike m is since until (found true) (told_known d.told d.way telling) steps)
      at_once right m is true false on early h = absurd cc
      at_once right m is false b on early h = absurd cc

      once_by_kind : RightFound true → (kind : EventKind) → e.kind ≡ kind → (chosen : Bool) → goes_at_once x chosen kind ≡ true → FoundAlike true
      once_by_kind right (EventKind.Advance m) is true h = at_once right m is (nat_le x.now m) (nat_le m last_moment) refl refl h
      once_by_kind right (EventKind.Advance m) is false h = absurd cc
      once_by_kind right kind is chosen h = absurd cc

      by_found : (once : Bool) → goes_at_once x d.at_once e.kind ≡ once → RightFound once → FoundAlike once
      by_found true is right = once_by_kind right e.kind refl d.at_once is
      by_found false is right =
          let same : found false ≡ again = caught_up_is d.told d.way (its_telling false right) in
          goes_alike (found_event false) right (ap (λ (c : FrontedRouter). event_given c e) same) (joined_step (found false) e).1.present
          (ap (λ (c : FrontedRouter). known_now then (joined_step c e).1.present) same)

      given_alike : RightOf (with_event d (event_given (before_event f d) e))
          → AreAlike (act f.plane (with_event d (event_given (before_event f d) e))) (joined_step (before_event f d) e).1.present (joined_step again e)
      unfolding before_event
      given_alike right = by_found (goes_at_once x d.at_once e.kind) refl right

    -- ---- either

    abbrev given_if : Bool → Act
    given_if own = cond own (with_event d (event_given (before_event f d) e)) d

    either : (own : Bool) → is_the_routers f d ≡ own → RightOf (given_if own)
        → AreAlike (act f.plane (given_if own)) (cond own (joined_step (before_event f d) e).1.present f.present) (joined_step again e)
    either true is right = given_alike is right
    either false is right = taken right is

    told_again : again_step b e ≡ joined_step again e
    unfolding again_step
    told_again =
        ap (λ (t : Outcome × FrontedRouter). joined_step t.1 e)
        (telling_again_only_looks b (along.follows.is).rests r_early)

    act_alike : RightOf (act_given f d)
        → ((act f.plane (act_given f d)).1 ≡ (again_step b e).0) × Along (fronted_after f d) (again_step b e).1
    unfolding act_given fronted_after
    act_alike right =
        subst (AreAlike (act f.plane (act_given f d)) (fronted_after f d).present) (sym told_again)
        (either (is_the_routers f d) refl right)

  -- ---- notes told between events

  module _ (notes : List Notice) (w : Way) (telling : IsTelling x notes w) where
    notes_along : Along (fronted_told f notes w) b
    unfolding fronted_told
    notes_along = record {
      follows = tells_goes x r along.follows along.near along.apart notes w telling;
      near = tells_near x r along.follows along.near along.apart notes w telling along.router_near;
      router_near = along.router_near;
      apart = tt;
      held = tells_held x r along.follows along.near along.apart notes w telling f.plane.guests along.held;
      known = ap (λ (c : FrontedRouter). known_now r c.present) (caught_up_is notes w telling) ∙ looked_at r b.present;
    }

-- ---- all that a plane does

goes_on : (w : Way) (ds : List Doing) (f : Fronted) (b : FrontedRouter) → Along f b → AreRight f.plane (fronted f ds).0
    → (let ran : List Outcome × Plane = acted f.plane (fronted f ds).0 in
    let alone : List Outcome × FrontedRouter = again_ran b (events_in ds) in
    (ran.0 ≡ alone.0) × (kept_up w (ran.1).split ≡ alone.1.state)
    × (known_now alone.1.state (fronted f ds).1 ≡ known_now alone.1.state alone.1.present))
unfolding fronted acted again_ran fronted_after fronted_told
goes_on w [] f b along right = (refl, kept_follows f.plane.split b.state w along.follows along.near, along.known)
goes_on w (Doing.Takes d ∷ ds) f b along right =
    let first : _ = act_alike f b along d right.0 in
    let later : _ = goes_on w ds (fronted_after f d) (again_step b (event_of d)).1 first.1 right.1 in
    ((λ j. first.0 j ∷ later.0 j), later.1, later.2)
goes_on w (Doing.Tells notes v ∷ ds) f b along right =
    goes_on w ds (fronted_told f notes v) b (notes_along f b along notes v right.0) right.1

along_first : (c : Config) (limit : ℕ) (hosts : List OlderHosts) → config_test c ≡ Ok tt
    → Along (fronted_at_opening c limit hosts) (nobody_known limit hosts (opening c))
along_first c limit hosts e = record {
  follows =
      whole_follows (opening c) no_plane_rows (opening_is_at_rest c e) (opening_is_early c) (few_opening c e) (opening_is_told c);
  near = opening_near c;
  router_near = opening_near c;
  apart = tt;
  held = none_held (opening c);
  known = refl;
}

pub plane_behind_front_is_sound : PlaneBehindFrontIsSound
plane_behind_front_is_sound c limit hosts acts w e right =
    goes_on w acts (fronted_at_opening c limit hosts) (nobody_known limit hosts (opening c)) (along_first c limit hosts e) right

-- ---- any events may come to one

plain_right : (f : Fronted) (b : FrontedRouter) → Along f b → (e : Event) → IsRight f.plane.split (act_given f (plain_act f.plane e))
unfolding act_given
plain_right f b along e = by_whose (is_the_routers f (plain_act f.plane e))
  where
    plain_with : (new : Event) → IsRight f.plane.split (with_event (plain_act f.plane e) new)
    plain_with new = record {
      telling = record {
        all = IsPermutation-refl f.plane.split.owed;
        once = along.apart;
        rises =
            rise_so f.plane.split.core f.plane.split.now f.plane.split.core.present f.plane.split.core.present f.plane.split.owed
            (self f.plane.split.core.present) along.follows.rises;
      };
      denied = λ g src no. absurd cc;
    }

    by_whose : (own : Bool) → IsRight f.plane.split
        (cond own (with_event (plain_act f.plane e) (event_given (before_event f (plain_act f.plane e)) e)) (plain_act f.plane e))
    by_whose true = plain_with (event_given (before_event f (plain_act f.plane e)) e)
    by_whose false = plain_with e

plain_go : (es : List Event) (f : Fronted) (b : FrontedRouter) → Along f b → AreRight f.plane (fronted f (plain_behind f es)).0
unfolding plain_behind fronted fronted_after
plain_go [] f b along = tt
plain_go (e ∷ es) f b along =
    let d : Act = plain_act f.plane e in
    let right : IsRight f.plane.split (act_given f d) = plain_right f b along e in
    ((λ own. right), plain_go es (fronted_after f d) (again_step b e).1 (act_alike f b along d (λ own. right)).1)

same_events : (es : List Event) (f : Fronted) → events_in (plain_behind f es) ≡ es
unfolding plain_behind
same_events [] f = refl
same_events (e ∷ es) f = ap (λ (more : List Event). e ∷ more) (same_events es (fronted_after f (plain_act f.plane e)))

pub plain_acts_behind_are_right : PlainActsBehindAreRight
plain_acts_behind_are_right c limit hosts events e =
    let f : Fronted = fronted_at_opening c limit hosts in
    (plain_go events f (nobody_known limit hosts (opening c)) (along_first c limit hosts e), same_events events f)
