-- Which sources an event disturbs: after what was accepted, over firings in turn, and at the last of some events.
use Rattle.std.{specs.Prelude.if◌then◌else◌, proofs.{Common.{◌≡◌, ◌≤◌, ◌<◌, ◌+◌, ℕ, Bool, true, false, not, ◌&&◌, is_some, List, [], ◌∷◌, ◌++◌, Some, Ok, Err, length, take, take_all, get_or, append_assoc, append-nil, add-one, refl, ap, subst, sym, ◌∙◌}, Math.Seq.take-suc}}
use Rattle.pim_ip.{specs.Ipv4.Packet}
use Rattle.pim_types.{specs.declared.{config.IfaceId.IfaceId, event.Event.Event, fact.Key.Key, outcome.Stop.Stop}}
use Rattle.pim_model.{specs.{Cache.Plain, declared.accepted.Accepted.Accepted, Firing.{fire_instant, fire_once}, Full.{is_full, passes_limit}, Judging.{Judged, judged}, Plain.fact_key, State.State, Step.{concluded, ran, state_after, step, taken_unless_full}, Tables.{has_row, same_bool}, Timers.{Ending, next_due}}}
use Rattle.law_settled.{specs.Laws.{IsFirable, IsReady, ends_from}}
use Rattle.law_events.{specs.Decided.decided_by_answers}
use Rattle.pim_state.{specs.declared.touched.Touched.Touched}
use Rattle.pim_fanout.{specs.Disturbed.joined}
use Rattle.pim_event.{specs.{Disturbing.{IsLastDisturbed, disturbed_of, disturbed_with_room, ended_all, ended_instant, event_disturbed, event_touched, goes_by_answers, joined_all, disturbed_at, where_disturbed}, Ends.disturbed_by_end, Replacing.Disturbance, Staying.disturbed_by}, proofs.Firings.{all_ended, instant_ended}}
use Rattle.pim_plan.{specs.Planning.touched_of}

-- ---- what changes touch together

joined_in_turn : (t u v : Touched) → joined (joined t u) v ≡ joined t (joined u v)
unfolding joined
joined_in_turn Touched.All u v = refl
joined_in_turn (Touched.Keys a) Touched.All v = refl
joined_in_turn (Touched.Keys a) (Touched.Keys b) Touched.All = refl
joined_in_turn (Touched.Keys a) (Touched.Keys b) (Touched.Keys c) = ap (λ (ks : List Key). Touched.Keys ks) (append_assoc a b c)

pub joined_last : (t : Touched) → joined t (Touched.Keys []) ≡ t
unfolding joined
joined_last Touched.All = refl
joined_last (Touched.Keys keys) = ap (λ (ks : List Key). Touched.Keys ks) (append-nil keys)

joined_first : (t : Touched) → joined (Touched.Keys []) t ≡ t
unfolding joined
joined_first Touched.All = refl
joined_first (Touched.Keys keys) = refl

joined_lists : (ts us : List Touched) → joined_all (ts ++ us) ≡ joined (joined_all ts) (joined_all us)
unfolding joined_all
joined_lists [] us = sym (joined_first (joined_all us))
joined_lists (t ∷ ts) us =
    ap (joined t) (joined_lists ts us) ∙ sym (joined_in_turn t (joined_all ts) (joined_all us))

joined_one : (t : Touched) → joined_all (t ∷ []) ≡ t
unfolding joined_all
joined_one t = joined_last t

-- what was touched so far, with what is still to be
module _ (first : Touched) (whole : List Touched) where
  abbrev pub Disturbs : Touched → List Touched → Type 0
  Disturbs now left = joined now (joined_all left) ≡ joined first (joined_all whole)

  further : (now more : Touched) (here rest : List Touched) → more ≡ joined now (joined_all here)
      → Disturbs now (here ++ rest) → Disturbs more rest
  further now more here rest is within =
      ap (λ (t : Touched). joined t (joined_all rest)) is
      ∙ (joined_in_turn now (joined_all here) (joined_all rest)
      ∙ (ap (joined now) (sym (joined_lists here rest)) ∙ within))

  none_left : (now : Touched) → Disturbs now [] → now ≡ joined first (joined_all whole)
  unfolding joined_all
  none_left now within = sym (joined_last now) ∙ within

-- ---- how far a loop over firings has come

module _ (w : ℕ) (o : State) (e : Ending) (first : Touched) where
  abbrev pub InstantDisturbs : State → Touched → Type 0
  InstantDisturbs s now = Disturbs first (ended_instant disturbed_at w o e).1 now (ended_instant disturbed_at w s e).1

  pub instant_disturbs_none : InstantDisturbs o first
  instant_disturbs_none = refl

  pub firing_disturbs : (s : State) (now : Touched) (d : Ending) → IsFirable s → ends_from e.end s ≡ true
      → next_due e.end s ≡ Some d → (t : State) (more : Touched) → t ≡ (fire_once w s d).0
      → more ≡ joined now (disturbed_by_end s d.timer.kind d.timer.key) → InstantDisturbs s now → InstantDisturbs t more
  firing_disturbs s now d firable from there t more is touches within =
      subst (λ (u : State). InstantDisturbs u more) (sym is)
      (further first (ended_instant disturbed_at w o e).1 now more (disturbed_at s d)
      (ended_instant disturbed_at w (fire_once w s d).0 e).1
      (touches ∙ ap (joined now) (sym (joined_one (disturbed_by_end s d.timer.kind d.timer.key))))
      (subst (λ (ts : List Touched). Disturbs first (ended_instant disturbed_at w o e).1 now ts)
      (instant_ended disturbed_at w s e d firable from there) within))

  pub instant_disturbed : (s : State) (now : Touched) → (ended_instant disturbed_at w s e).1 ≡ [] → InstantDisturbs s now
      → now ≡ joined first (joined_all (ended_instant disturbed_at w o e).1)
  instant_disturbed s now none within =
      none_left first (ended_instant disturbed_at w o e).1 now
      (subst (λ (ts : List Touched). Disturbs first (ended_instant disturbed_at w o e).1 now ts) none within)

module _ (w m : ℕ) (o : State) (first : Touched) where
  abbrev pub AllDisturbs : State → Touched → Type 0
  AllDisturbs s now = Disturbs first (ended_all disturbed_at w m o).1 now (ended_all disturbed_at w m s).1

  pub all_disturbs_none : AllDisturbs o first
  all_disturbs_none = refl

  pub instant_disturbs : (s : State) (now : Touched) (e : Ending) → IsReady s.present s → next_due m s ≡ Some e
      → (t : State) (more : Touched) → t ≡ (fire_instant w s e).0
      → more ≡ joined now (joined_all (ended_instant disturbed_at w s e).1) → AllDisturbs s now → AllDisturbs t more
  instant_disturbs s now e ready there t more is touches within =
      subst (λ (u : State). AllDisturbs u more) (sym is)
      (further first (ended_all disturbed_at w m o).1 now more (ended_instant disturbed_at w s e).1
      (ended_all disturbed_at w m (fire_instant w s e).0).1 touches
      (subst (λ (ts : List Touched). Disturbs first (ended_all disturbed_at w m o).1 now ts)
      (all_ended disturbed_at w m s e ready there) within))

  pub all_disturbed : (s : State) (now : Touched) → (ended_all disturbed_at w m s).1 ≡ [] → AllDisturbs s now
      → now ≡ joined first (joined_all (ended_all disturbed_at w m o).1)
  all_disturbed s now none within =
      none_left first (ended_all disturbed_at w m o).1 now
      (subst (λ (ts : List Touched). Disturbs first (ended_all disturbed_at w m o).1 now ts) none within)

-- ---- what was accepted

module _ (s : State) (w : ℕ) where
  disturbed_timeless : (a : Accepted) → ((m : ℕ) → ¬ (a ≡ Accepted.Advance m)) → disturbed_of s w a ≡ disturbed_by s a (touched_of s a)
  unfolding disturbed_of
  disturbed_timeless (Accepted.Up i) timeless = refl
  disturbed_timeless (Accepted.Down i) timeless = refl
  disturbed_timeless (Accepted.Hello i from h) timeless = refl
  disturbed_timeless (Accepted.JoinPruneToMe i m) timeless = refl
  disturbed_timeless (Accepted.Advance moment) timeless = absurd (timeless moment refl)
  disturbed_timeless a timeless = refl

module _ (s : State) (w : ℕ) (a : Accepted) where
  pub disturbed_after : ((m : ℕ) → ¬ (a ≡ Accepted.Advance m)) → (touched before after : Touched)
      → touched ≡ touched_of s a → after ≡ joined before (disturbed_by s a touched) → after ≡ joined before (disturbed_of s w a)
  disturbed_after timeless touched before after touches is =
      is ∙ ap (joined before) (ap (disturbed_by s a) touches ∙ sym (disturbed_timeless s w a timeless))

  pub disturbed_in_time : (m : ℕ) → a ≡ Accepted.Advance m
      → joined_all (ended_all disturbed_at w m s).1 ≡ where_disturbed s (disturbed_of s w) (Ok a)
  unfolding is_full disturbed_of
  disturbed_in_time m is = rw is refl

  pub disturbed_in_room : is_full s a ≡ false → disturbed_of s w a ≡ where_disturbed s (disturbed_of s w) (Ok a)
  disturbed_in_room room = rw room refl

  pub undisturbed_when_full : (before : Touched) → is_full s a ≡ true
      → before ≡ joined before (where_disturbed s (disturbed_of s w) (Ok a))
  undisturbed_when_full before full = rw full (sym (joined_last before))

-- ---- an event

chosen : (b : Bool) (x y : Touched) → b ≡ false → (if b then x else y) ≡ y
chosen true x y e = let none : ⊥ = cc in absurd none
chosen false x y e = refl

turned : (b : Bool) (x y : Touched) → (if not b then x else y) ≡ (if b then y else x)
turned true x y = refl
turned false x y = refl

same_itself : (b : Bool) → same_bool b b ≡ true
same_itself true = refl
same_itself false = refl

pub room_alike : (was is differs : Bool) → differs ≡ not (same_bool was is) → differs ≡ false → was ≡ is
room_alike true true differs exact e = refl
room_alike true false differs exact e = let none : ⊥ = cc in absurd none
room_alike false true differs exact e = let none : ⊥ = cc in absurd none
room_alike false false differs exact e = refl

-- in a turn of its own
pub turn_disturbs : (s t : State) (e : Event) (a : Accepted) (w : ℕ) (before now after : Touched) (was is differs : Bool)
    → judged s e.kind ≡ Ok a → w ≡ e.draw → before ≡ Touched.Keys []
    → now ≡ joined before (where_disturbed s (disturbed_of s w) (Ok a)) → t ≡ (taken_unless_full s w a).state
    → was ≡ passes_limit s 1 → is ≡ passes_limit t 1 → differs ≡ not (same_bool was is)
    → after ≡ (if differs then Touched.All else now) → goes_by_answers s (judged s e.kind) ≡ false
    → after ≡ event_touched s e
unfolding event_touched disturbed_with_room step
turn_disturbs s t e a w before now after was is differs heard draws none joins state was_so is_so exact chooses other =
    let told : now ≡ where_disturbed s (disturbed_of s e.draw) (judged s e.kind) =
    joins
    ∙ (ap (λ (b : Touched). joined b (where_disturbed s (disturbed_of s w) (Ok a))) none
    ∙ (joined_first (where_disturbed s (disturbed_of s w) (Ok a))
    ∙ (ap (λ (v : ℕ). where_disturbed s (disturbed_of s v) (Ok a)) draws
    ∙ ap (λ (j : Judged). where_disturbed s (disturbed_of s e.draw) j) (sym heard)))) in
    let after_it : t ≡ (step s e).state =
    state
    ∙ (ap (λ (v : ℕ). (taken_unless_full s v a).state) draws
    ∙ ap (λ (j : Judged). (concluded s (taken_unless_full s e.draw) j).state) (sym heard)) in
    let room : same_bool was is ≡ same_bool (passes_limit s 1) (passes_limit (step s e).state 1) =
    ap (λ (b : Bool). same_bool b is) was_so
    ∙ ap (λ (b : Bool). same_bool (passes_limit s 1) b) (is_so ∙ ap (λ (u : State). passes_limit u 1) after_it) in
    chooses
    ∙ (ap (λ (b : Bool). if b then Touched.All else now) exact
    ∙ (turned (same_bool was is) Touched.All now
    ∙ (ap (λ (b : Bool). if b then now else Touched.All) room
    ∙ (ap (λ (x : Touched). if same_bool (passes_limit s 1) (passes_limit (step s e).state 1) then x else Touched.All) told
    ∙ sym (chosen (goes_by_answers s (judged s e.kind)) (Touched.Keys []) (disturbed_with_room s e) other)))))

-- one that is refused or ignored disturbs none
stopped_by : (s : State) (e : Event) (stop : Stop) (j : Judged) → j ≡ Err stop
    → (if goes_by_answers s j then Touched.Keys []
    else (if same_bool (passes_limit s 1) (passes_limit (concluded s (taken_unless_full s e.draw) j).state 1)
    then where_disturbed s (disturbed_of s e.draw) j else Touched.All)) ≡ Touched.Keys []
stopped_by s e (Stop.Refuse refusal) j is = rw (is, same_itself (passes_limit s 1)) refl
stopped_by s e (Stop.Ignore reason) j is = rw (is, same_itself (passes_limit s 1)) refl

pub stopped_disturbs_none : (s : State) (e : Event) (stop : Stop) (disturbed : Touched) → judged s e.kind ≡ Err stop
    → disturbed ≡ Touched.Keys [] → disturbed ≡ event_touched s e
unfolding event_touched disturbed_with_room step
stopped_disturbs_none s e stop disturbed heard none = none ∙ sym (stopped_by s e stop (judged s e.kind) heard)

-- so does a packet that the answers of its source decide
by_answers : (s : State) (i : IfaceId) (p : Packet) (how : Plain) (j : Judged) → j ≡ Ok (Accepted.Data i p)
    → has_row s.sources (fact_key p) ≡ true → decided_by_answers s i p ≡ Some how → goes_by_answers s j ≡ true
by_answers s i p how j heard known answered = rw (heard, known, answered) refl

pub plain_disturbs_none : (s : State) (e : Event) (i : IfaceId) (p : Packet) (how : Plain) (disturbed : Touched)
    → judged s e.kind ≡ Ok (Accepted.Data i p) → has_row s.sources (fact_key p) ≡ true
    → decided_by_answers s i p ≡ Some how → disturbed ≡ Touched.Keys [] → disturbed ≡ event_touched s e
unfolding event_touched
plain_disturbs_none s e i p how disturbed heard known answered none =
    none
    ∙ sym (ap (λ (b : Bool). if b then Touched.Keys [] else disturbed_with_room s e)
    (by_answers s i p how (judged s e.kind) heard known answered))

-- one that they don't decide goes in its turn, and so does all else
both_or_not : (known decided : Bool) → (known ≡ true → decided ≡ true → ⊥) → (known && decided) ≡ false
both_or_not true true not_so = absurd (not_so refl refl)
both_or_not true false not_so = refl
both_or_not false decided not_so = refl

pub data_in_turn : (s : State) (e : Event) (i : IfaceId) (p : Packet) → judged s e.kind ≡ Ok (Accepted.Data i p)
    → (has_row s.sources (fact_key p) ≡ true → is_some (decided_by_answers s i p) ≡ true → ⊥)
    → goes_by_answers s (judged s e.kind) ≡ false
data_in_turn s e i p heard not_so =
    ap (goes_by_answers s) heard
    ∙ both_or_not (has_row s.sources (fact_key p)) (is_some (decided_by_answers s i p)) not_so

no_data : (s : State) (a : Accepted) → ((i : IfaceId) (p : Packet) → ¬ (a ≡ Accepted.Data i p)) → goes_by_answers s (Ok a) ≡ false
no_data s (Accepted.Data i p) other = absurd (other i p refl)
no_data s (Accepted.Up i) other = refl
no_data s (Accepted.Down i) other = refl
no_data s (Accepted.Hello i from h) other = refl
no_data s (Accepted.JoinPruneToMe i m) other = refl
no_data s (Accepted.Advance moment) other = refl
no_data s a other = refl

pub other_in_turn : (s : State) (e : Event) (a : Accepted) → judged s e.kind ≡ Ok a
    → ((i : IfaceId) (p : Packet) → ¬ (a ≡ Accepted.Data i p)) → goes_by_answers s (judged s e.kind) ≡ false
other_in_turn s e a heard other = ap (goes_by_answers s) heard ∙ no_data s a other

-- ---- the last of some events

last_disturbed : (s : State) (es : List Event) (e : Event) (disturbed : Disturbance)
    → disturbed ≡ event_disturbed (state_after s es) e → IsLastDisturbed s (es ++ e ∷ []) disturbed
unfolding state_after ran
last_disturbed s [] e disturbed is = is
last_disturbed s (x ∷ []) e disturbed is = is
last_disturbed s (x ∷ y ∷ es) e disturbed is = last_disturbed (step s x).state (y ∷ es) e disturbed is

module _ (start : State) (events : List Event) where
  pub disturbs_next : (i : ℕ) (s : State) (e : Event) (disturbed : Disturbance) → i < length events → e ≡ get_or events i e
      → s ≡ state_after start (take i events) → disturbed ≡ event_disturbed s e
      → IsLastDisturbed start (take (i + 1) events) disturbed
  disturbs_next i s e disturbed lt is state disturbs =
      let next : take (i + 1) events ≡ take i events ++ e ∷ [] =
      ap (λ (k : ℕ). take k events) (add-one i) ∙ take-suc events i e lt
      ∙ ap (λ (x : Event). take i events ++ x ∷ []) (sym is) in
      subst (λ (es : List Event). IsLastDisturbed start es disturbed) (sym next)
      (last_disturbed start (take i events) e disturbed
      (subst (λ (x : State). disturbed ≡ event_disturbed x e) state disturbs))

  pub disturbs_all : (i : ℕ) (disturbed : Disturbance) → length events ≤ i → IsLastDisturbed start (take i events) disturbed
      → IsLastDisturbed start events disturbed
  disturbs_all i disturbed le disturbs =
      subst (λ (es : List Event). IsLastDisturbed start es disturbed) (take_all i events le) disturbs
