-- The rows that differ after the own change of an event, or of the expiry of a timer, are all that it touches.
use Rattle.std.{proofs.{Common.{◌≡◌, ◌==◌, ◌+◌, ◌&&◌, ◌||◌, ℕ, suc, Bool, true, false, List, [], ◌∷◌, Ok, Some, refl, sym, ap, ◌∙◌, subst, arith}, lemmas.Bool.Decides.nat_tests}, specs.List.list_any}
use Rattle.pim_types.{specs.{declared.{event.EventKind.EventKind, fact.Key.Key}, Keys.{group_in, star_key}}}
use Rattle.pim_model.{specs.{declared.accepted.Accepted.Accepted, Firing.{fire_once, fired, settled}, Judging.judged, Messages.Message, State.{State, is_up}, Step.change, Timers.Ending, Writing.write_all}}
use Rattle.law_settled.{specs.Ready.{IsLawful, IsOrdered, IsSettled, IsTimeless}, proofs.{Changes.change_fine, FineStates.Anyhow, Firing.{any, any_late, at_moment, fired_fine}, Judgements.{IsHere, IsJudged, kind_is_judged}, LawfulFiring.lawful_is_sound, LawfulStates.its_order, SettledStates.settled_is_lawful}}
use Rattle.law_events.{specs.{Differing.{IsShared, differing, is_same_but_ends}, Events.{own_change, touched_by_event}, Locality.{AgreesBut, AgreesOn, IsQuiet, own_settled, touching}, OwnEnds.IsTaken, Rest.IsAtRest, Scopes.{reads, scope}, Touches.{isnt_neighbour, touched_by}}, proofs.{Differing.{differing_keys_cover, nothing_follows, same_but_ends_touches_nothing}, EventLaws.change_touches, OwnKeys.present_touches_none, Settling.settling_is_own, SilentEvents.timer_touches, Touches.{agrees_then, widened}}}

-- ---- where two states agree on a key they share what all groups share

shared_of : (k : Key) (s t : State) → AgreesOn k s t → IsShared s t
unfolding scope
shared_of k s t agree = grind arith

-- a group that none of the keys is of
fresh : List Key → ℕ
fresh [] = 0
fresh (k ∷ ks) = suc (group_in k + fresh ks)

fresh_step : (a b : Bool) → a ≡ false → b ≡ false → (a || b) ≡ false
fresh_step a b e f = cc

none_of_fresh : (ks : List Key) (m : ℕ) → list_any (λ k. group_in k == (fresh ks + m)) ks ≡ false
unfolding fresh
none_of_fresh [] m = refl
none_of_fresh (k ∷ ks) m =
    let apart : (group_in k == (suc (group_in k + fresh ks) + m)) ≡ false = grind (arith, nat_tests) in
    let moved : fresh ks + (suc (group_in k) + m) ≡ suc (group_in k + fresh ks) + m = grind (arith, nat_tests) in
    fresh_step _ _ apart
    (ap (λ n. list_any (λ q. group_in q == n) ks) (sym moved) ∙ none_of_fresh ks (suc (group_in k) + m))

fewer_pass : (p q : Key → Bool) → ((k : Key) → q k ≡ false → p k ≡ false) → (ks : List Key) → list_any q ks ≡ false
    → list_any p ks ≡ false
fewer_pass p q fewer [] e = refl
fewer_pass p q fewer (k ∷ ks) e = grind (arith, fewer_pass p q fewer ks, fresh_step)

fresh_untouched : (keys : List Key) → touching keys (star_key 0 (fresh keys)) ≡ false
unfolding touching reads
fresh_untouched keys =
    fewer_pass _ (λ k. group_in k == fresh keys) (λ k e. go (group_in k == fresh keys) _ e) keys
    (ap (λ n. list_any (λ k. group_in k == n) keys) (grind (arith, nat_tests)) ∙ none_of_fresh keys 0)
  where
    go : (b c : Bool) → b ≡ false → (b && c) ≡ false
    go true c e = cc
    go false c e = refl

shared_but : (keys : List Key) (s t : State) → AgreesBut (touching keys) s t → IsShared s t
shared_but keys s t agree =
    shared_of (star_key 0 (fresh keys)) s t (agree (star_key 0 (fresh keys)) (fresh_untouched keys))

-- ---- events

judged_here : (s : State) → IsSettled s → (kind : EventKind) (a : Accepted) → IsTimeless kind → judged s kind ≡ Ok a
    → (w : ℕ) → IsOrdered (change s w a).state
judged_here s f kind a none e w =
    let here : IsJudged (IsHere (is_up s)) (Ok a) = subst (IsJudged (IsHere (is_up s))) e (kind_is_judged s kind none) in
    let after : Anyhow s.present any (change s w a).state =
    change_fine s.present any (is_up s) (any_late s.present) s (lawful_is_sound s (settled_is_lawful s f)) w a
    here.accepts in
    its_order s.present any after.ups (change s w a).state after.fine

pub event_touches_differing : (s : State) → IsSettled s → (kind : EventKind) (a : Accepted) (keys : List Key)
    → IsTaken s kind a keys → (w : ℕ)
    → AgreesBut (touching (differing s (change s w a).state)) s (change s w a).state
event_touches_differing s f kind a keys is w =
    differing_keys_cover s (change s w a).state f.ordered (judged_here s f kind a is.timeless is.accepted w)
    (shared_but keys s (change s w a).state (change_touches s w a keys is.named))

pub event_follows_of_differing : (s : State) → IsAtRest s → (kind : EventKind) (a : Accepted) (keys : List Key)
    → IsTaken s kind a keys → (w : ℕ)
    → settled s (own_change s w a) w ≡ own_settled (differing s (change s w a).state) s (own_change s w a) w
event_follows_of_differing s f kind a keys is w = grind (arith, settling_is_own, event_touches_differing)

pub event_of_ends : (s : State) → IsQuiet s → (a : Accepted) (keys : List Key) → touched_by_event s a ≡ Some keys
    → (w : ℕ) → is_same_but_ends s (change s w a).state ≡ true
    → settled s (own_change s w a) w ≡ write_all (change s w a).state (change s w a).messages
event_of_ends s quiet a keys named w same =
    nothing_follows s quiet (own_change s w a) w
    (same_but_ends_touches_nothing s (change s w a).state
    (shared_but keys s (change s w a).state (change_touches s w a keys named)) same)

-- ---- timers

pub firing_follows_of_differing : (s : State) → IsLawful s → IsQuiet s → (w : ℕ) (e : Ending)
    → isnt_neighbour e.timer.kind ≡ true
    → fire_once w s e
    ≡ own_settled (differing s (fired (record s { present = e.end }) e.timer.kind e.timer.key).0) s
    (fired (record s { present = e.end }) e.timer.kind e.timer.key) w
unfolding fire_once
firing_follows_of_differing s f quiet w e none =
    let opened : State = record s { present = e.end } in
    let own : State × List Message = fired opened e.timer.kind e.timer.key in
    let keys : List Key = touched_by e.timer.kind e.timer.key in
    settling_is_own (differing s own.0) s quiet own w
    (differing_keys_cover s own.0 f.ordered
    (its_order e.end any (is_up s) own.0
    (fired_fine e.end any (is_up s) (any_late e.end) opened e.timer.kind e.timer.key
    (at_moment s.present e.end any (is_up s) s (lawful_is_sound s f))))
    (shared_but keys s own.0
    (agrees_then (touching keys) s opened own.0
    (widened [] keys s opened refl (present_touches_none s e.end)) (timer_touches opened e.timer.key e.timer.kind none))))
