-- The rows of sources that aren't named stay, at any event.
use Rattle.std.{proofs.{Common.{◌≡◌, ◌+◌, ◌-◌, ◌≤◌, ℕ, zero, suc, Bool, true, false, cond, List, [], ◌∷◌, ◌++◌, length, Ok, Err, Option, Some, None, nat_lt, option_map, refl, sym, ap, subst, arith}, lemmas.{Bool.or_parts, List.Folds.list_any-append}}}
use Rattle.pim_types.{specs.declared.{config.Config.Config, event.Event.Event, fact.Key.Key, outcome.Emission.Emission}}
use Rattle.pim_model.{specs.{Cache.{Answers, Plain, cached, plain}, declared.accepted.Accepted.Accepted, Firing.fire_once, Full.is_full, Judging.{Judged, judged}, Limits.most_ifaces, Reach.{own_firing, told_all, told_instant, told_once, where_accepted}, Repeat.{after_next, and_then, until_none}, State.{Addressing, State, opening}, Step.{done, ran, state_after, step}, Timers.{Ending, next_due, timers}}}
use Rattle.law_events.{specs.{Named.{event_named, named_by, named_of}, Kept.{Cache, Held, SameAnswers, SameDecision, SameRow, cache_after, cache_concluded, cache_taken, cache_unless_full, held_all, held_instant, held_once, is_listed, refreshed}}, proofs.{Advance.same_end, Configured.{change_configured, firing_configured}, Settled.{settled_configured, settled_keeps}, Decides.decide_same, RowsOfSteps.{opening_is_cached, step_keeps_cache, step_stays_configured}, CacheSameRows.{kept_is_same, row_itself}, RowsOfRuns.few_opening}}
use Rattle.law_plane.{specs.{Offload.{Handling, decision, handled, handling, handling_unknown, offload, told}, ToldLaws.{AreTold, DecideAlike, FiringAnswersStay, MoreMayBeTold, PlaneRows, RouterKeepsTold, StepKeepsTold, TimeAnswersStay, UnnamedAnswersStay, UnnamedRowStays, no_plane_rows, told_anew, told_at_end}}, proofs.{Decides.row_decides, Times.answers_later}}

-- ---- alike

pub same_itself : (o : Option Plain) → SameDecision o o
same_itself o = grind arith

pub same_through : (a b c : Option Plain) → SameDecision a b → SameDecision b c → SameDecision a c
same_through a b c x y = grind arith

pub alike_offload : (a b : Answers) → SameAnswers a b → DecideAlike (Some (offload a)) (Some (offload b))
alike_offload a b same i low =
    subst (λ (o : Option Plain). SameDecision o (decision (handling (offload b) i))) (sym (row_decides a i 2 refl))
    (subst (λ (o : Option Plain). SameDecision (plain a i 2) o) (sym (row_decides b i 2 refl)) (decide_same a b same i 2 low))

rows_alike : (a b : Option Answers) → SameRow a b → DecideAlike (option_map offload a) (option_map offload b)
rows_alike a b same i low = grind (arith, alike_offload)

-- ---- a source that isn't listed keeps its row

abbrev state_of : Held → State
state_of k = k.state

module _ (g src : ℕ) where
  abbrev IsOut : List Key → Type 0
  IsOut names = is_listed names g src ≡ false

  out_of : (s : State) (c : Cache) (names : List Key) → IsOut names → refreshed names s c g src ≡ c g src
  unfolding refreshed
  out_of s c names out = ap (λ (b : Bool). cond b (cached s g src) (c g src)) out

  out_parts : (xs ys : List Key) → IsOut (xs ++ ys) → IsOut xs × IsOut ys
  unfolding is_listed
  out_parts xs ys out = grind (arith, or_parts, list_any-append)

  -- what goes on beside a state, one after another
  module _ {D : Type 0} (next : State → Option D) (f : Held → D → Held × List Emission) (h : State → D → State × List Key)
      (same : (k : Held) (d : D) → state_of (f k d).0 ≡ (h (state_of k) d).0)
      (once : (k : Held) (d : D) → IsOut (h (state_of k) d).1 → ((f k d).0).cache g src ≡ k.cache g src) where
    abbrev its_next : Held → Option D
    its_next k = next (state_of k)

    stays_turn : (n : ℕ)
        → ((k : Held) → IsOut (until_none next h n (state_of k)).1
        → ((until_none its_next f n k).0).cache g src ≡ k.cache g src)
        → (k : Held) (o : Option D) → IsOut (after_next next h (λ t. until_none next h n t) (state_of k) o).1
        → ((after_next its_next f (λ t. until_none its_next f n t) k o).0).cache g src ≡ k.cache g src
    unfolding after_next and_then
    stays_turn n ih k o out = grind (arith, out_parts)

    stays : (n : ℕ) (k : Held) → IsOut (until_none next h n (state_of k)).1
        → ((until_none its_next f n k).0).cache g src ≡ k.cache g src
    unfolding until_none
    stays zero k out = refl
    stays (suc n) k out = stays_turn n (stays n) k (next (state_of k)) out

  module _ (w : ℕ) where
    once_same : (k : Held) (d : Ending) → state_of (held_once w k d).0 ≡ (told_once named_by w (state_of k) d).0
    unfolding held_once told_once
    once_same k d = refl

    once_out : (k : Held) (d : Ending) → IsOut (told_once named_by w (state_of k) d).1
        → ((held_once w k d).0).cache g src ≡ k.cache g src
    unfolding held_once told_once
    once_out k d out = out_of _ k.cache _ out

    instant_same : (k : Held) (d : Ending) → state_of (held_instant w k d).0 ≡ (told_instant named_by w (state_of k) d).0
    unfolding held_instant told_instant
    instant_same k d =
        same_end state_of (next_due d.end) (held_once w) (told_once named_by w) once_same (length (timers k.state) + 1) k

    instant_out : (k : Held) (d : Ending) → IsOut (told_instant named_by w (state_of k) d).1
        → ((held_instant w k d).0).cache g src ≡ k.cache g src
    unfolding held_instant told_instant
    instant_out k d out =
        stays (next_due d.end) (held_once w) (told_once named_by w) once_same once_out (length (timers k.state) + 1) k out

    all_out : (moment : ℕ) (k : Held) → IsOut (told_all named_by w moment (state_of k)).1
        → ((held_all w moment k).0).cache g src ≡ k.cache g src
    unfolding held_all told_all
    all_out moment k out =
        stays (next_due moment) (held_instant w) (told_instant named_by w) instant_same instant_out
        (moment + 2 - (k.state).present) k out

  module _ (s : State) (w : ℕ) (c : Cache) where
    taken_out : (a : Accepted) → IsOut (named_of s w a) → cache_taken s w a c g src ≡ c g src
    unfolding cache_taken named_of
    taken_out (Accepted.Advance moment) out = all_out w moment (record { state = s; cache = c }) out
    taken_out a out = out_of _ c _ out

    room_out : (a : Accepted) (b : Bool) → IsOut (cond b [] (named_of s w a))
        → cache_unless_full b c (cache_taken s w a c) g src ≡ c g src
    room_out a true out = refl
    room_out a false out = taken_out a out

    judged_out : (j : Judged) → IsOut (where_accepted s (named_of s w) j)
        → cache_concluded c (λ a. cache_unless_full (is_full s a) c (cache_taken s w a c)) j g src ≡ c g src
    judged_out (Err stop) out = refl
    judged_out (Ok a) out = room_out a (is_full s a) out

  event_out : (s : State) (e : Event) (c : Cache) → IsOut (event_named s e) → cache_after s e c g src ≡ c g src
  unfolding cache_after event_named
  event_out s e c out = judged_out s e.draw c (judged s e.kind) out

-- ---- rows of a plane

pub unnamed_row_stays : UnnamedRowStays
unnamed_row_stays s e few g src out =
    let kept : SameRow (cache_after s e (cached s) g src) (cached (step s e).state g src) =
    step_keeps_cache s e (cached s) few (λ h x. row_itself (cached s h x)) g src in
    rows_alike (cached s g src) (cached (step s e).state g src)
    (subst (λ (o : Option Answers). SameRow o (cached (step s e).state g src)) (event_out g src s e (cached s) out) kept)

module _ (s : State) (e : Event) (rows : PlaneRows) (names : List Key) (few : length s.configured.interfaces ≤ most_ifaces)
    (told_before : AreTold rows s)
    (all_named : (g src : ℕ) → is_listed names g src ≡ false → is_listed (event_named s e) g src ≡ false) (g src : ℕ) where
  one_row : (b : Bool) → is_listed names g src ≡ b
      → DecideAlike (cond b (told (step s e).state g src) (rows g src)) (told (step s e).state g src)
  one_row true out i low = same_itself (decision (handled (told (step s e).state g src) i))
  one_row false out i low =
      same_through (decision (handled (rows g src) i)) (decision (handled (told s g src) i))
      (decision (handled (told (step s e).state g src) i)) (told_before g src i low)
      (unnamed_row_stays s e few g src (all_named g src out) i low)

pub more_may_be_told : MoreMayBeTold
unfolding told_anew
more_may_be_told s e rows names few before all_named g src = grind (arith, one_row)

pub step_keeps_told : StepKeepsTold
step_keeps_told s e rows few before = more_may_be_told s e rows (event_named s e) few before (λ g src out. out)

run_keeps_told : (s : State) (events : List Event) (rows : PlaneRows) → length s.configured.interfaces ≤ most_ifaces → AreTold rows s
    → AreTold (told_at_end s events rows) (state_after s events)
unfolding state_after ran told_at_end
run_keeps_told s [] rows few before = before
run_keeps_told s (e ∷ es) rows few before =
    run_keeps_told (step s e).state es (told_anew (event_named s e) (step s e).state rows)
    (subst (λ (cs : Addressing). length cs.interfaces ≤ most_ifaces) (step_stays_configured s e) few)
    (step_keeps_told s e rows few before)

pub opening_is_told : (c : Config) → AreTold no_plane_rows (opening c)
opening_is_told c g src = rows_alike None (cached (opening c) g src) (opening_is_cached c g src)

pub router_keeps_told : RouterKeepsTold
router_keeps_told c events e = run_keeps_told (opening c) events no_plane_rows (few_opening c e) (opening_is_told c)

-- ---- answers of any source

pub unnamed_answers_stay : UnnamedAnswersStay
unfolding done
unnamed_answers_stay s w a few g src unnamed =
    grind (arith, kept_is_same, settled_configured, change_configured, settled_keeps)

pub firing_answers_stay : FiringAnswersStay
unfolding fire_once own_firing
firing_answers_stay s w e few g src unnamed =
    grind (arith, kept_is_same, settled_configured, firing_configured, settled_keeps)

pub time_answers_stay : TimeAnswersStay
time_answers_stay s m g src = sym (answers_later s m g src)

-- ---- a source without a fact

module _ (a b : Answers) (i : ℕ) (same : SameAnswers a b) (low : nat_lt i most_ifaces ≡ true) where
  alive_alike : (offload a).alive i ≡ (offload b).alive i
  unfolding offload
  alive_alike = grind arith

  by_alive : (c : Bool)
      → SameDecision (decision (cond c Handling.ToCore (handling (offload a) i)))
      (decision (cond c Handling.ToCore (handling (offload b) i)))
  by_alive c = grind (arith, alike_offload)

  pub unknown_stays : SameDecision (decision (handling_unknown (offload a) i)) (decision (handling_unknown (offload b) i))
  unfolding handling_unknown
  unknown_stays = grind (arith, alive_alike, by_alive)
