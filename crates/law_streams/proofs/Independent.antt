-- What is sent for one group touches no other.
use Rattle.std.{proofs.{Common.{◌≡◌, ◌∙◌, ◌==◌, ◌&&◌, ◌||◌, ℕ, Bool, true, false, List, [], ◌∷◌, Some, refl, sym, subst, arith}, lemmas.Bool.{true≢false, Decides.nat_tests}}, specs.{Cmp.{first_so, second_so}, List.list_all}}
use Rattle.pim_types.{specs.{declared.{fact.Key.Key, timer.TimerKind.TimerKind}, Keys.{group_in, is_of_group, source_in, source_key}}}
use Rattle.pim_model.{specs.{declared.accepted.Accepted.Accepted, Reach.own_firing, State.State, Step.{Answered, change, done, taken}}}
use Rattle.law_events.{specs.{Events.touched_by_event, Locality.touching, Scopes.reads, Touches.touched_by, Keeps.KeepsAnswers}, proofs.{EventLaws.change_touches, Settled.{event_keeps, firing_keeps}, Touched.{firing_agrees, touched_names}}}
use Rattle.law_streams.{specs.Independent.{OtherGroupsKeep, OtherGroupsOutlast}, proofs.Made.step_taken}

module _ (h src g : ℕ) (other : (h == g) ≡ false) where
  unread_one : (k : Key) (b : Bool) → (group_in k == g) ≡ true
      → ((group_in k == h) && b) ≡ false
  unread_one k b is = grind (arith, true≢false, nat_tests)

  -- no key of the group is read by a source of another one
  unread : (keys : List Key) → list_all (is_of_group g) keys ≡ true → touching keys (source_key 0 h src) ≡ false
  unfolding touching reads
  unread [] all = refl
  unread (k ∷ keys) all =
      rw (unread_one k ((source_in k == 0) || (source_in k == src)) (first_so (is_of_group g k) (list_all (is_of_group g) keys) all))
      (unread keys (second_so (is_of_group g k) (list_all (is_of_group g) keys) all))

-- an event that touches keys of its own is settled at once
pub taken_at_once : (s : State) (w : ℕ) (a : Accepted) (keys : List Key) → touched_by_event s a ≡ Some keys
    → taken s w a ≡ done s w (change s w a)
unfolding taken touched_by_event
taken_at_once s w a keys e = grind arith

pub other_groups_keep : OtherGroupsKeep
other_groups_keep s e g quiet few names h src other =
    let a : Accepted = names.accepted in
    subst (λ (t : Answered). KeepsAnswers h src s t.state)
    (sym (step_taken s e a names.done ∙ taken_at_once s e.draw a names.keys names.touched))
    (event_keeps s e.draw a few h src
    (touched_names names.keys s (change s e.draw a).state quiet (change_touches s e.draw a names.keys names.touched) h src
    (unread h src g other names.keys names.alone)))

-- ---- timers

touched_alike : (kind : TimerKind) (k : Key) → (group_in k == group_in k) ≡ true
    → list_all (is_of_group (group_in k)) (touched_by kind k) ≡ true
touched_alike kind k e = grind arith

pub other_groups_outlast : OtherGroupsOutlast
other_groups_outlast s w e quiet few is h src other =
    let keys : List Key = touched_by e.timer.kind e.timer.key in
    firing_keeps s w e few h src
    (touched_names keys s (own_firing s e) quiet (firing_agrees s e is) h src
    (unread h src (group_in e.timer.key) other keys
    (touched_alike e.timer.kind e.timer.key (grind (arith, nat_tests)))))
