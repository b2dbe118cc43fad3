-- What an Advance names, firing by firing, and how far a loop over timers has come with what its rows cost.
use Rattle.std.{proofs.Common.{◌≡◌, ◌≤◌, ◌<◌, ◌+◌, ◌-◌, ◌*◌, ℕ, true, List, [], ◌++◌, length, Option, Some, None, refl, ap, subst, sym, ◌∙◌, arith, length-append}}
use Rattle.pim_types.{specs.declared.{outcome.Emission.Emission, fact.Key.Key}}
use Rattle.pim_model.{specs.{Firing.{fire_all, fire_instant, fire_once}, Reach.{own_firing, told_all, told_instant, told_once}, Repeat.and_then, State.State, Timers.{Ending, next_due, timers}}}
use Rattle.law_settled.{specs.Laws.{IsAhead, IsFirable, IsReady, ends_from}, proofs.{FiringLaws.{firing_goes_on, firing_is_complete, instant_goes_on, instant_is_complete}, TimerLaws.{IsNext, from_shown, is_next}, TurnLaws.{same_when_none, unrolls_with}, ShownEnds.shown_is_later}}
use Rattle.law_events.{specs.Named.named_by, proofs.Advance.same_end}
use Rattle.pim_event.{specs.Disturbing.{ended_all, ended_instant, ended_once}}

abbrev as_it_is : State → State
as_it_is s = s

-- where all that ends is ahead nothing is due
none_ahead : (m : ℕ) (s : State) → IsAhead m s → next_due m s ≡ None
none_ahead m s ahead = go (next_due m s) refl
  where
    go : (o : Option Ending) → next_due m s ≡ o → o ≡ None
    go None e = refl
    go (Some d) e =
        let next : IsNext m s d = is_next m s d e in
        let later : m < d.end = shown_is_later m s ahead.ends d.timer.kind d.timer.key d.end next.shown in
        let due : d.end ≤ m = next.due in
        absurd (omega arith)

-- ---- an instant, and all that is due by a timestamp, end with nothing due

module _ (w : ℕ) (s : State) (e d : Ending) (firable : IsFirable s) (from : ends_from e.end s ≡ true)
    (there : next_due e.end s ≡ Some d) where
  its_moment : d.end ≡ e.end
  its_moment =
      let next : IsNext e.end s d = is_next e.end s d there in
      let due : d.end ≤ e.end = next.due in
      let after : e.end ≤ d.end = from_shown e.end s from d.timer.kind d.timer.key d.end next.shown in
      omega arith

  instant_ends : next_due e.end (fire_instant w s e).0 ≡ None
  unfolding fire_instant
  instant_ends =
      none_ahead e.end (fire_instant w s e).0
      (subst (λ (m : ℕ). IsAhead m (fire_instant w s (record d { end = m })).0) its_moment
      (instant_is_complete w e.end s d firable there))

  goes_on_to : (fire_instant w s e).0 ≡ (fire_instant w (fire_once w s d).0 e).0
  unfolding and_then
  goes_on_to = ap (λ (p : State × List Emission). p.0) (instant_goes_on w s e d firable from there)

  later_ends : next_due e.end (fire_instant w (fire_once w s d).0 e).0 ≡ None
  later_ends = ap (next_due e.end) (sym goes_on_to) ∙ instant_ends

module _ (w m : ℕ) (s : State) (e : Ending) (ready : IsReady s.present s) (there : next_due m s ≡ Some e) where
  all_ends : next_due m (fire_all w m s).0 ≡ None
  all_ends = firing_is_complete w m s ready

  all_later_ends : next_due m (fire_all w m (fire_instant w s e).0).0 ≡ None
  unfolding and_then
  all_later_ends =
      ap (next_due m) (sym (ap (λ (p : State × List Emission). p.0) (firing_goes_on w m s e ready there))) ∙ all_ends

-- ---- what is listed for firings goes on as they do

module _ {X : Type 0} (told : State → Ending → List X) (w : ℕ) where
  instant_fires : (s : State) (e : Ending) → (ended_instant told w s e).0 ≡ (fire_instant w s e).0
  unfolding ended_instant ended_once fire_instant
  instant_fires s e =
      same_end as_it_is (next_due e.end) (ended_once told w) (fire_once w) (λ t d. refl) (length (timers s) + 1) s

  all_fires : (m : ℕ) (s : State) → (ended_all told w m s).0 ≡ (fire_all w m s).0
  unfolding ended_all fire_all
  all_fires m s =
      same_end as_it_is (next_due m) (ended_instant told w) (fire_instant w) instant_fires (m + 2 - s.present) s

  pub instant_ended : (s : State) (e d : Ending) → IsFirable s → ends_from e.end s ≡ true → next_due e.end s ≡ Some d
      → (ended_instant told w s e).1 ≡ told s d ++ (ended_instant told w (fire_once w s d).0 e).1
  unfolding ended_instant ended_once and_then
  instant_ended s e d firable from there =
      ap (λ (p : State × List X). p.1)
      (unrolls_with (next_due e.end) (ended_once told w) (length (timers s) + 1)
      (length (timers (fire_once w s d).0) + 1) s d there
      (ap (next_due e.end) (instant_fires s e) ∙ instant_ends w s e d firable from there)
      (ap (next_due e.end) (instant_fires (fire_once w s d).0 e) ∙ later_ends w s e d firable from there))

  pub instant_ended_silently : (s : State) (e : Ending) → next_due e.end s ≡ None → (ended_instant told w s e).1 ≡ []
  unfolding ended_instant
  instant_ended_silently s e none =
      ap (λ (p : State × List X). p.1)
      (same_when_none (next_due e.end) (ended_once told w) (length (timers s) + 1) s none)

  pub all_ended : (m : ℕ) (s : State) (e : Ending) → IsReady s.present s → next_due m s ≡ Some e
      → (ended_all told w m s).1 ≡ (ended_instant told w s e).1 ++ (ended_all told w m (fire_instant w s e).0).1
  unfolding ended_all and_then
  all_ended m s e ready there =
      ap (λ (p : State × List X). p.1)
      (unrolls_with (next_due m) (ended_instant told w) (m + 2 - s.present)
      (m + 2 - ((ended_instant told w s e).0).present) s e there
      (ap (next_due m) (all_fires m s) ∙ all_ends w m s e ready there)
      (ap (next_due m) (all_fires m (ended_instant told w s e).0
      ∙ ap (λ (t : State). (fire_all w m t).0) (instant_fires s e)) ∙ all_later_ends w m s e ready there))
      ∙ ap (λ (t : State). (ended_instant told w s e).1 ++ (ended_all told w m t).1) (instant_fires s e)

  pub all_ended_silently : (m : ℕ) (s : State) → next_due m s ≡ None → (ended_all told w m s).1 ≡ []
  unfolding ended_all
  all_ended_silently m s none =
      ap (λ (p : State × List X). p.1)
      (same_when_none (next_due m) (ended_instant told w) (m + 2 - s.present) s none)

-- also what is told of their openings and their own changes
module _ {X : Type 0} (told : State → State → List X) (w : ℕ) where
  abbrev by_end : State → Ending → List X
  by_end s d = told s (own_firing s d)

  pub instant_told : (s : State) (e d : Ending) → IsFirable s → ends_from e.end s ≡ true → next_due e.end s ≡ Some d
      → (told_instant told w s e).1 ≡ told s (own_firing s d) ++ (told_instant told w (fire_once w s d).0 e).1
  unfolding told_instant told_once ended_instant ended_once
  instant_told s e d firable from there = instant_ended by_end w s e d firable from there

  pub instant_silent : (s : State) (e : Ending) → next_due e.end s ≡ None → (told_instant told w s e).1 ≡ []
  unfolding told_instant told_once ended_instant ended_once
  instant_silent s e none = instant_ended_silently by_end w s e none

  pub all_told : (m : ℕ) (s : State) (e : Ending) → IsReady s.present s → next_due m s ≡ Some e
      → (told_all told w m s).1 ≡ (told_instant told w s e).1 ++ (told_all told w m (fire_instant w s e).0).1
  unfolding told_all told_instant told_once ended_all ended_instant ended_once
  all_told m s e ready there = all_ended by_end w m s e ready there

  pub all_silent : (m : ℕ) (s : State) → next_due m s ≡ None → (told_all told w m s).1 ≡ []
  unfolding told_all told_instant told_once ended_all ended_instant ended_once
  all_silent m s none = all_ended_silently by_end w m s none

-- ---- how far a loop has come: what was touched so far, with two for each source that is still to be named

module _ (w : ℕ) (o : State) (e : Ending) (first : ℕ) where
  abbrev pub InstantCosts : State → ℕ → Type 0
  InstantCosts s cost =
      cost + 2 * length (told_instant named_by w s e).1 ≤ first + 2 * length (told_instant named_by w o e).1

  pub instant_costs_none : InstantCosts o first
  instant_costs_none = omega arith

  pub firing_costs : (s : State) (cost : ℕ) (d : Ending) → IsFirable s → ends_from e.end s ≡ true
      → next_due e.end s ≡ Some d → (t : State) (more : ℕ) → t ≡ (fire_once w s d).0
      → more ≤ cost + 2 * length (named_by s (own_firing s d)) → InstantCosts s cost → InstantCosts t more
  firing_costs s cost d firable from there t more is costs within =
      subst (λ (u : State). more + 2 * length (told_instant named_by w u e).1
      ≤ first + 2 * length (told_instant named_by w o e).1) (sym is)
      (let here : length (told_instant named_by w s e).1
      ≡ length (named_by s (own_firing s d)) + length (told_instant named_by w (fire_once w s d).0 e).1 =
      ap (λ (ks : List Key). length ks) (instant_told named_by w s e d firable from there)
      ∙ length-append (named_by s (own_firing s d)) (told_instant named_by w (fire_once w s d).0 e).1 in
      omega (arith, here, costs, within))

  pub instant_cost : (s : State) (cost : ℕ) → next_due e.end s ≡ None → InstantCosts s cost
      → cost ≤ first + 2 * length (told_instant named_by w o e).1
  instant_cost s cost none within = omega (arith, within)

module _ (w m : ℕ) (o : State) (first : ℕ) where
  abbrev pub AllCosts : State → ℕ → Type 0
  AllCosts s cost =
      cost + 2 * length (told_all named_by w m s).1 ≤ first + 2 * length (told_all named_by w m o).1

  pub all_costs_none : AllCosts o first
  all_costs_none = omega arith

  pub instant_costs : (s : State) (cost : ℕ) (e : Ending) → IsReady s.present s → next_due m s ≡ Some e
      → (t : State) (more : ℕ) → t ≡ (fire_instant w s e).0
      → more ≤ cost + 2 * length (told_instant named_by w s e).1 → AllCosts s cost → AllCosts t more
  instant_costs s cost e ready there t more is costs within =
      subst (λ (u : State). more + 2 * length (told_all named_by w m u).1
      ≤ first + 2 * length (told_all named_by w m o).1) (sym is)
      (let here : length (told_all named_by w m s).1
      ≡ length (told_instant named_by w s e).1 + length (told_all named_by w m (fire_instant w s e).0).1 =
      ap (λ (ks : List Key). length ks) (all_told named_by w m s e ready there)
      ∙ length-append (told_instant named_by w s e).1 (told_all named_by w m (fire_instant w s e).0).1 in
      omega (arith, here, costs, within))

  pub all_cost : (s : State) (cost : ℕ) → AllCosts s cost → cost ≤ first + 2 * length (told_all named_by w m o).1
  all_cost s cost within = omega (arith, within)
