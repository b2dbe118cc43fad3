-- What is sent upstream where one source alone was opened.
use Rattle.std.{proofs.Common.{◌≡◌, ℕ, List, [], ◌∷◌, ◌++◌, ap, append-nil, map, refl}}
use Rattle.pim_types.{specs.{Keys.star_key, declared.upstream.StarView.StarView}}
use Rattle.pim_model.{specs.{Messages.Message, Querier.each_in_turn, State.State, Upstream.{Told, with_join_timer}}}
use Rattle.pim_views.{specs.{declared.{opening.{GroupOpening.GroupOpening, SourceOpening.SourceOpening}, after.{GroupAfter.GroupAfter, SourceAfter.SourceAfter}}, After.{opened_in, opening_in, openings_in}}}
use Rattle.pim_upstream.{specs.Told.{group_step, source_step, star_changed, upstream_by}}

-- first the group, then the source; the timers move in s
abbrev pub both : State → ℕ → ℕ → StarView → SourceOpening → State → State × List Message
both a w g old x s =
    let star : Told = star_changed a w g old in
    let later : State × List Message = source_step a w g (with_join_timer s (star_key 0 g) star.timer) x in
    (later.0, star.messages ++ later.1)

pub told_alone : (a : State) (w : ℕ) (x : GroupOpening) (o : SourceOpening) → x.sources ≡ o ∷ []
    → upstream_by (x ∷ []) a w ≡ both a w x.group.bits x.star o a
unfolding upstream_by group_step each_in_turn
told_alone a w x o alone =
    let star : Told = star_changed a w x.group.bits x.star in
    let step : State × List Message =
    source_step a w x.group.bits (with_join_timer a (star_key 0 x.group.bits) star.timer) o in
    rw alone
    (ap (λ (ms : List Message). let p : State × List Message = (step.0, ms) in p)
    (λ j. append-nil (star.messages ++ append-nil step.1 j) j))

-- sources one after the other, by what was opened of them
pub each_opened : (step : State → SourceOpening → State × List Message) (xs : List SourceAfter) (s : State)
    → each_in_turn (λ (t : State) (x : SourceAfter). step t x.opened) s xs ≡ each_in_turn step s (map opened_in xs)
unfolding each_in_turn
each_opened step [] s = refl
each_opened step (x ∷ xs) s =
    let first : State × List Message = step s x.opened in
    ap (λ (p : State × List Message). let both : State × List Message = (p.0, first.1 ++ p.1) in both)
    (each_opened step xs first.0)

-- groups one after the other, by what was opened of them
pub each_group : (step : State → GroupOpening → State × List Message) (xs : List GroupAfter) (s : State)
    → each_in_turn (λ (t : State) (x : GroupAfter). step t (opening_in x)) s xs ≡ each_in_turn step s (openings_in xs)
unfolding each_in_turn
each_group step [] s = refl
each_group step (x ∷ xs) s =
    let first : State × List Message = step s (opening_in x) in
    ap (λ (p : State × List Message). let both : State × List Message = (p.0, first.1 ++ p.1) in both)
    (each_group step xs first.0)
