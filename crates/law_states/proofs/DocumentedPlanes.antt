-- A plane as it is documented sends what a router alone sends.
use Rattle.std.{proofs.{Common.{◌≡◌, ◌≤◌, ℕ, Bool, true, false, ◌&&◌, cond, List, [], ◌∷◌, length, Option, nat_le, option_map, refl, sym, ap, subst, ◌∙◌, arith}, lemmas.{Bool.Decides.nat_tests, List.Sorted.{IsPermutation-refl, IsPermutation-sym}}}}
use Rattle.pim_ip.{specs.Ipv4.Packet}
use Rattle.pim_types.{specs.declared.{event.{Event.Event, EventKind.EventKind}, outcome.Outcome.Outcome}}
use Rattle.pim_model.{specs.{Cache.{Answers, cached}, Judging.{Judged, last_moment}, Limits.most_ifaces, State.{State, opening}, Step.{outcome_of, ran, run, state_after, step}}}
use Rattle.law_settled.{specs.Laws.ends_after, proofs.ListLaws.by_cond}
use Rattle.law_events.{specs.{Named.event_named, Kept.SameDecision}, proofs.{Rest.{opening_is_at_rest, step_is_at_rest}, RowsOfRuns.few_opening, RowsOfSteps.step_stays_configured}}
use Rattle.law_plane.{specs.{Late.{is_the_cores, judged_the_cores, kind_is_the_cores}, Offered.offered, Offload.{Handling, decision, is_to_core, offload}, Split.{Notice, Split, advance_to, by_core, by_judgement, by_kind, by_plane, nothing_sent, split_step, time_goes, whole, with_notice}, SplitLaws.NamesEachOnce, Staying.OffersAlike, ToldLaws.{AreTold, DecideAlike, PlaneRows, no_plane_rows, told_anew}}, proofs.{Ends.{Ends, ends_later, no_ends}, Owing.noted_apart, Passes.{Passed, RisesTo, ended_by}, Splits.{Follows, Goes, at_first, opening_is_early, step_goes, step_stays_early, whole_follows}, ToldRows.{opening_is_told, step_keeps_told}}}
use Rattle.law_states.{specs.{Documented.{Act, AreRight, Doing, DocumentedPlaneIsSound, IsRight, IsTelling, PlainActsAreRight, act, acted, before, event_of, events_in, given, goes_at_once, is_for_core, judged_for_core, kind_for_core, known_then, plain_act, plain_acts, up_to_date}, Guests.{AreHeld, Plane, guest_kind, without}, Kept.{SeenRise, Way, is_kept, kept_up, told_notes}}, proofs.{AtOnce.advance_at_once, GuestSplits.{asked_held, core_offers, core_stays, guests_same, handled_same, held_through, none_held, offers_through, passed_offers, router_offers}, KeptOrders.{follows_in_order, told_so_far}, KeptSplits.{same_up, split_near, step_same}, KeptUp.{ToldBy, kept_follows}, NearEnds.{EndsNear, opening_near, step_near}}}

-- ---- at most one note a source

module _ (x : Split) (e : Event) (apart : NamesEachOnce x.owed) where
  notice_apart : (p : Packet) (alive : Bool) → NamesEachOnce (with_notice x e p alive).owed
  unfolding with_notice
  notice_apart p alive = grind (arith, noted_apart)

  core_apart : NamesEachOnce ((by_core x e).0).owed
  unfolding by_core
  core_apart = tt

  plane_apart : (p : Packet) (h : Handling) → NamesEachOnce ((by_plane x e p h).0).owed
  plane_apart p h = grind (arith, notice_apart, core_apart)

  judged_apart : (j : Judged) → NamesEachOnce ((by_judgement x e j).0).owed
  judged_apart j = grind (arith, plane_apart, core_apart)

  time_apart : (m : ℕ) (b : Bool) → NamesEachOnce ((cond b (record x { now = m }, nothing_sent) (by_core x e)).0).owed
  time_apart m b = grind (arith, core_apart)

  kind_apart : (kind : EventKind) → NamesEachOnce ((by_kind x e kind).0).owed
  unfolding time_goes
  kind_apart kind = grind (arith, time_apart, judged_apart)

  step_apart : NamesEachOnce ((split_step x e).0).owed
  unfolding split_step
  step_apart = kind_apart e.kind

-- ---- an event of the core's

module _ (x : Split) (r : State) (f : Follows x r) (e : Event) where
  abbrev gone : State → Split × Outcome
  gone b = (whole (step b e).state (told_anew (event_named b e) (step b e).state x.rows), outcome_of (step b e))

  abbrev GoesTo : Split × Outcome → Type 0
  GoesTo u = Goes r e u × ((u.0).core ≡ (step r e).state)

  -- from a state that differs from the core in timers' ends and the present
  goes_from : (ends : Ends) (m : ℕ) (b : State) → Passed x.core f.quiet ends m b → m ≤ x.now → step b e ≡ step r e
      → GoesTo (gone b)
  goes_from ends m b is within same =
      grind (arith, whole_follows, step_is_at_rest, step_stays_early, step_stays_configured, step_keeps_told)

module _ (x : Split) (r : State) (f : Follows x r) (near : EndsNear x.core) (apart : NamesEachOnce x.owed) (d : Act)
    (right : IsRight x d) where
  abbrev e : Event
  e = event_of d

  abbrev told : State
  told = told_notes d.way x.core d.told

  abbrev up : State
  up = state_after told (advance_to x.now ∷ [])

  up_is : up ≡ r
  up_is =
      follows_in_order x r d.way d.told f near apart right.telling.all (IsPermutation-sym x.owed d.told right.telling.all) right.telling.once right.telling.rises

  told_is : ToldBy x.core f.quiet x.now d.way f.early f.ahead near.ends (ended_by no_ends d.told) x.now told
  told_is = told_so_far x r d.way d.told f near right.telling.all right.telling.once right.telling.rises

  abbrev To : Split × Outcome → Type 0
  To u = GoesTo x r f e u

  abbrev from_there : State → Split × Outcome
  from_there b = gone x r f e b

  by_present : To (from_there up)
  by_present =
      subst (λ (b : State). To (from_there b)) (sym up_is)
      (goes_from x r f e (ended_by no_ends x.owed) x.now r f.is (omega arith) refl)

  at_once_same : (m : ℕ) → e.kind ≡ EventKind.Advance m → x.now ≤ m → m ≤ last_moment → step told e ≡ step r e
  at_once_same m kind on early = grind (arith, advance_at_once, told_is, ends_later, ended_by, no_ends, up_is)

  by_choice : (m : ℕ) → e.kind ≡ EventKind.Advance m → (a b c : Bool) → nat_le x.now m ≡ b → nat_le m last_moment ≡ c
      → To (from_there (cond (a && b && c) told up))
  by_choice m kind true true true on early =
      goes_from x r f e (ended_by no_ends d.told) told_is.at told told_is.is told_is.within
      (at_once_same m kind (at_most x.now m on) (at_most m last_moment early))
    where
      at_most : (a b : ℕ) → nat_le a b ≡ true → a ≤ b
      at_most a b h = grind (arith, nat_tests, h)
  by_choice m kind true true false on early = by_present
  by_choice m kind true false c on early = by_present
  by_choice m kind false b c on early = by_present

  by_kind_so : (kind : EventKind) → e.kind ≡ kind → To (from_there (cond (goes_at_once x d.at_once kind) told up))
  by_kind_so (EventKind.Advance m) h = by_choice m h d.at_once (nat_le x.now m) (nat_le m last_moment) refl refl
  by_kind_so kind h = by_present

  given_goes : To (given x d)
  unfolding given before
  given_goes = by_kind_so e.kind refl

  -- whichever of both the event meets
  before_is : (P : State → Type 0) → P told → P up → P (before x d)
  unfolding before
  before_is P there then = by_cond P (goes_at_once x d.at_once e.kind) told up there then

  before_offers : (g src : ℕ) → OffersAlike (offered x.core g src) (offered (before x d) g src)
  before_offers g src =
      before_is (λ b. OffersAlike (offered x.core g src) (offered b g src))
      (passed_offers x.core f.quiet (ended_by no_ends d.told) told_is.at told told_is.is g src)
      (subst (λ (b : State). OffersAlike (offered x.core g src) (offered b g src)) (sym up_is) (core_offers x r f g src))

  pub before_rows : (g src : ℕ) → cached (before x d) g src ≡ cached x.core g src
  before_rows g src =
      before_is (λ b. cached b g src ≡ cached x.core g src) ((told_is.is).rows g src)
      (subst (λ (b : State). cached b g src ≡ cached x.core g src) (sym up_is) ((f.is).rows g src))

  pub before_few : length (before x d).configured.interfaces ≤ most_ifaces
  before_few =
      before_is (λ b. length b.configured.interfaces ≤ most_ifaces)
      (subst (λ (b : State). length b.configured.interfaces ≤ most_ifaces) (sym (told_is.is).same) f.few)
      (subst (λ (b : State). length b.configured.interfaces ≤ most_ifaces) (sym up_is)
      (subst (λ (b : State). length b.configured.interfaces ≤ most_ifaces) (sym (f.is).same) f.few))

  given_core : ((given x d).0).core ≡ (step (before x d) e).state
  unfolding given
  given_core = refl

  given_apart : NamesEachOnce ((given x d).0).owed
  unfolding given
  given_apart = tt

-- ---- whose an event is

abbrev pub any_way : Way
any_way = record { keeps = λ n. true; draw = 0 }

pub to_core_same : (h k : Handling) → SameDecision (decision h) (decision k) → is_to_core h ≡ is_to_core k
to_core_same h k same = grind arith

module _ (x : Split) (few : length (x.core).configured.interfaces ≤ most_ifaces) (guests : PlaneRows) (held : AreHeld guests x.core) where
  judged_same : (j : Judged) → judged_for_core x guests j ≡ judged_the_cores x j
  judged_same j = grind (arith, to_core_same, handled_same)

  kind_same : (kind : EventKind) → kind_for_core x guests kind ≡ kind_is_the_cores x kind
  kind_same kind = grind (arith, judged_same)

  whose_same : (e : Event) → is_for_core x guests e ≡ is_the_cores x e
  unfolding is_for_core is_the_cores
  whose_same e = kind_same e.kind

-- ---- events

-- what an event leaves
pub record Went (r : State) (d : Act) (guests : PlaneRows) (u : Split × Outcome) : Type 0 where
  pub goes : Goes r (event_of d) u
  pub near : EndsNear (u.0).core
  pub apart : NamesEachOnce (u.0).owed
  pub held : AreHeld (without (d.turn).differs guests) (u.0).core

module _ (x : Split) (r : State) (f : Follows x r) (near : EndsNear x.core) (router_near : EndsNear r)
    (apart : NamesEachOnce x.owed) (d : Act) (guests : PlaneRows) (held : AreHeld guests x.core) where
  abbrev pub event : Event
  event = event_of d

  abbrev pub differs : ℕ → ℕ → Bool
  differs = (d.turn).differs

  if_not : (s : State) → ((g src : ℕ) → differs g src ≡ false → OffersAlike (offered x.core g src) (offered s g src))
      → AreHeld (without differs guests) s
  if_not s alike g src = grind (arith, held_through)

  pub the_cores : IsRight x d → Went r d guests (given x d)
  the_cores right =
      let to : GoesTo x r f event (given x d) = given_goes x r f near apart d right in
      record {
        goes = to.0;
        near = subst EndsNear (sym to.1) (step_near r event router_near);
        apart = given_apart x r f near apart d right;
        held = subst (λ (s : State). AreHeld (without differs guests) s) (sym (given_core x r f near apart d right))
            (if_not (step (before x d) event).state
            (λ g src same. offers_through (offered x.core g src) (offered (before x d) g src)
            (offered (step (before x d) event).state g src) (before_offers x r f near apart d right g src) (right.denied g src same)));
      }

  the_planes : is_the_cores x event ≡ false → Went r d guests (split_step x event)
  the_planes out = record {
    goes = step_goes x r f event;
    near = split_near x event near;
    apart = step_apart x event apart;
    held = subst (λ (s : State). AreHeld (without differs guests) s) (sym (core_stays x event out))
        (if_not x.core
        (λ g src same. offers_through (offered x.core g src) (offered r g src) (offered x.core g src) (core_offers x r f g src)
        (router_offers x r f g src)));
  }

  pub went : (b : Bool) → is_for_core x guests event ≡ b → (is_for_core x guests event ≡ true → IsRight x d)
      → Went r d guests (cond b (given x d) (guest_kind d.way x guests event event.kind))
  went true is right = the_cores (right is)
  went false is right =
      subst (λ (u : Split × Outcome). Went r d guests u)
      (sym (guests_same d.way x f.few guests held event ∙ step_same d.way x event (same_up d.way x r f near)))
      (the_planes (sym (whose_same x f.few guests held event) ∙ is))

-- ---- notes told at any time

module _ (x : Split) (r : State) (f : Follows x r) (near : EndsNear x.core) (apart : NamesEachOnce x.owed) (told : List Notice)
    (w : Way) (is : IsTelling x told w) where
  abbrev pub heard : State
  heard = state_after (told_notes w x.core told) (advance_to x.now ∷ [])

  pub heard_is : heard ≡ r
  heard_is = follows_in_order x r w told f near apart is.all (IsPermutation-sym x.owed told is.all) is.once is.rises

  abbrev pub at : State → Split
  at s = record x { core = s; owed = [] }

  present_is : r.present ≡ x.now
  present_is = ap (λ (t : State). t.present) (f.is).same

  at_router : Follows (at r) r
  unfolding ended_by
  at_router = record {
    quiet = (f.is).rests;
    is = subst (λ (m : ℕ). Passed r (f.is).rests no_ends m r) present_is (at_first r (f.is).rests);
    owed = tt;
    rises = subst (λ (m : ℕ). r.present ≤ m) present_is (omega arith);
    ahead = subst (λ (m : ℕ). ends_after m r ≡ true) present_is ((f.is).rests).settled.ahead.ends;
    fresh = refl;
    early = f.early;
    told = told_r;
    few = subst (λ (t : State). length t.configured.interfaces ≤ most_ifaces) (sym (f.is).same) f.few;
  }
    where
      told_r : AreTold x.rows r
      told_r g src =
          subst (λ (o : Option Answers). DecideAlike (x.rows g src) (option_map offload o)) (sym ((f.is).rows g src)) (f.told g src)

  pub tells_goes : Follows (at heard) r
  tells_goes = subst (λ (s : State). Follows (at s) r) (sym heard_is) at_router

  pub tells_near : EndsNear r → EndsNear heard
  tells_near h = subst EndsNear (sym heard_is) h

  pub tells_held : (guests : PlaneRows) → AreHeld guests x.core → AreHeld guests heard
  tells_held guests held =
      subst (λ (s : State). AreHeld guests s) (sym heard_is)
      (λ g src. held_through (guests g src) (offered x.core g src) (offered r g src) (held g src) (core_offers x r f g src))

acts_go : (w : Way) (ds : List Doing) (y : Plane) (r : State) → Follows y.split r → EndsNear (y.split).core → EndsNear r
    → NamesEachOnce (y.split).owed → AreHeld y.guests (y.split).core → AreRight y ds
    → ((acted y ds).0 ≡ run r (events_in ds)) × (kept_up w ((acted y ds).1).split ≡ state_after r (events_in ds))
unfolding acted act run state_after ran
acts_go w [] y r f near router_near apart held right = (refl, kept_follows y.split r w f near)
acts_go w (Doing.Takes d ∷ ds) y r f near router_near apart held right =
    let x : Split = y.split in
    let e : Event = event_of d in
    let guests : PlaneRows = known_then y d in
    let now_held : AreHeld guests x.core = asked_held (d.turn).asks x.core y.guests held in
    let u : Split × Outcome = cond (is_for_core x guests e) (given x d) (guest_kind d.way x guests e e.kind) in
    let after : Went r d guests u =
    went x r f near router_near apart d guests now_held (is_for_core x guests e) refl right.0 in
    let next : Plane = record { split = u.0; guests = without (d.turn).differs guests } in
    let later : _ =
    acts_go w ds next (step r e).state (after.goes).0 after.near (step_near r e router_near) after.apart after.held right.1 in
    ((λ j. (after.goes).1 j ∷ later.0 j), later.1)
acts_go w (Doing.Tells told v ∷ ds) y r f near router_near apart held right =
    acts_go w ds (up_to_date y told v) r (tells_goes y.split r f near apart told v right.0)
    (tells_near y.split r f near apart told v right.0 router_near) router_near tt
    (tells_held y.split r f near apart told v right.0 y.guests held) right.1

pub documented_plane_is_sound : DocumentedPlaneIsSound
documented_plane_is_sound c acts w e right =
    let x : Split = whole (opening c) no_plane_rows in
    let f : Follows x (opening c) =
    whole_follows (opening c) no_plane_rows (opening_is_at_rest c e) (opening_is_early c) (few_opening c e) (opening_is_told c) in
    acts_go w acts (record { split = x; guests = no_plane_rows }) (opening c) f (opening_near c) (opening_near c) tt
    (none_held (opening c)) right

-- ---- any events may come to one

pub rise_so : (core : State) (now m last : ℕ) (ns : List Notice) → m ≤ last → RisesTo last now ns → SeenRise any_way core m ns
rise_so core now m last [] le rises = tt
rise_so core now m last (n ∷ ns) le rises =
    let here : m ≤ n.moment = omega (arith, le, rises.0) in
    ((λ out. here), rise_so core now (cond (is_kept any_way core n) m n.moment) n.moment ns (chosen (is_kept any_way core n) m n.moment here) rises.1)
  where
    chosen : (b : Bool) (m k : ℕ) → m ≤ k → cond b m k ≤ k
    chosen true m k le = le
    chosen false m k le = omega arith

right_so : (y : Plane) (r : State) (e : Event) → Follows y.split r → NamesEachOnce (y.split).owed → IsRight y.split (plain_act y e)
right_so y r e f apart = grind (arith, IsPermutation-refl, rise_so)

plain_go : (es : List Event) (y : Plane) (r : State) → Follows y.split r → EndsNear (y.split).core → EndsNear r
    → NamesEachOnce (y.split).owed → AreHeld y.guests (y.split).core → AreRight y (plain_acts y es)
unfolding plain_acts act
plain_go [] y r f near router_near apart held = tt
plain_go (e ∷ es) y r f near router_near apart held =
    let x : Split = y.split in
    let d : Act = plain_act y e in
    let guests : PlaneRows = known_then y d in
    let now_held : AreHeld guests x.core = asked_held (d.turn).asks x.core y.guests held in
    let u : Split × Outcome = cond (is_for_core x guests e) (given x d) (guest_kind d.way x guests e e.kind) in
    let right : IsRight x d = right_so y r e f apart in
    let after : Went r d guests u =
    went x r f near router_near apart d guests now_held (is_for_core x guests e) refl (λ is. right) in
    let next : Plane = record { split = u.0; guests = without (d.turn).differs guests } in (
      (λ is. right),
      plain_go es next (step r e).state (after.goes).0 after.near (step_near r e router_near) after.apart after.held,
    )

same_events : (es : List Event) (y : Plane) → events_in (plain_acts y es) ≡ es
unfolding plain_acts
same_events [] y = refl
same_events (e ∷ es) y = ap (λ (more : List Event). e ∷ more) (same_events es (act y (plain_act y e)).0)

pub plain_acts_are_right : PlainActsAreRight
plain_acts_are_right c events e =
    let x : Split = whole (opening c) no_plane_rows in
    let f : Follows x (opening c) =
    whole_follows (opening c) no_plane_rows (opening_is_at_rest c e) (opening_is_early c) (few_opening c e) (opening_is_told c) in
    let y : Plane = record { split = x; guests = no_plane_rows } in (
      plain_go events y (opening c) f (opening_near c) (opening_near c) tt (none_held (opening c)),
      same_events events y,
    )
