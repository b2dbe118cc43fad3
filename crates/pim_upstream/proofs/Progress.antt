-- Where a loop over changes stands: what was told so far, and what is left to tell.
use Rattle.std.{proofs.{Common.{◌≡◌, ◌<◌, ◌≤◌, ◌+◌, ℕ, List, [], ◌∷◌, ap, sym, subst, ◌∙◌, drop, get_or, length}, lemmas.List.{drop_more, drop_all}}}
use Rattle.pim_model.{specs.{Messages.Message, Querier.each_in_turn, State.State}}
use Rattle.pim_state.{proofs.Said.{said_both, said_nothing}, specs.Turns.{Taking, saying}}

-- each step is told by the draw
module _ {A : Type 0} (step : ℕ → State → A → State × List Message) (before : Taking) where
  abbrev in_turn : State → List A → State × List Message
  in_turn s xs = each_in_turn (step before.draw) s xs

  -- the states are as the changes so far left them, and those at the beginning
  pub record Stands (left whole : List A) (t : Taking) (now opened : State → State) : Type 0 where
    pub state : (s : State) → (in_turn (now s) left).0 ≡ (in_turn (opened s) whole).0
    pub taking : (s : State) → saying t (in_turn (now s) left).1 ≡ saying before (in_turn (opened s) whole).1
    pub draw : t.draw ≡ before.draw

  module _ (whole : List A) (opened : State → State) (t v : Taking) (now then : State → State) where
    next : (x : A) (left : List A) → State → ((s : State) → then s ≡ (step t.draw (now s) x).0)
        → ((s : State) → v ≡ saying t (step t.draw (now s) x).1)
        → Stands (x ∷ left) whole t now opened → Stands left whole v then opened
    unfolding each_in_turn
    next x left some moved says at =
        let told : State → State × List Message = λ s. step before.draw (now s) x in
        let by_draw : (s : State) → step t.draw (now s) x ≡ told s = λ s. ap (λ d. step d (now s) x) at.draw in
        let after : (s : State) → then s ≡ (told s).0 =
        λ s. moved s ∙ ap (λ (p : State × List Message). p.0) (by_draw s) in
        let said : (s : State) → v ≡ saying t (told s).1 =
        λ s. says s ∙ ap (λ (p : State × List Message). saying t p.1) (by_draw s) in
        record {
          state = λ s. ap (λ (u : State). (in_turn u left).0) (after s) ∙ at.state s;
          taking = λ s.
              ap (λ (u : State). saying v (in_turn u left).1) (after s)
              ∙ ap (λ (z : Taking). saying z (in_turn (told s).0 left).1) (said s)
              ∙ said_both t (told s).1 (in_turn (told s).0 left).1
              ∙ at.taking s;
          draw = ap (λ (z : Taking). z.draw) (said some) ∙ at.draw;
        }

    -- one more was told
    pub stands_next : (xs : List A) (i : ℕ) (x other : A) → i < length xs → x ≡ get_or xs i other → State
        → ((s : State) → then s ≡ (step t.draw (now s) x).0) → ((s : State) → v ≡ saying t (step t.draw (now s) x).1)
        → Stands (drop i xs) whole t now opened → Stands (drop (i + 1) xs) whole v then opened
    stands_next xs i x other below is some moved says at =
        next x (drop (i + 1) xs) some moved says
        (subst (λ (left : List A). Stands left whole t now opened)
        (drop_more xs i other below ∙ ap (λ (y : A). y ∷ drop (i + 1) xs) (sym is)) at)

  -- all were told
  module _ (whole : List A) (opened : State → State) (t : Taking) (now : State → State) where
    ends : Stands [] whole t now opened
        → ((s : State) → now s ≡ (in_turn (opened s) whole).0)
        × ((s : State) → t ≡ saying before (in_turn (opened s) whole).1)
    unfolding each_in_turn
    ends at = (at.state, λ s. sym (said_nothing t) ∙ at.taking s)

    pub stands_last : (xs : List A) (i : ℕ) → length xs ≤ i → Stands (drop i xs) whole t now opened
        → ((s : State) → now s ≡ (in_turn (opened s) whole).0)
        × ((s : State) → t ≡ saying before (in_turn (opened s) whole).1)
    stands_last xs i all at =
        ends (subst (λ (left : List A). Stands left whole t now opened) (drop_all i xs all) at)
