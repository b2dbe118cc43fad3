-- Changes that are made one after the other, with the messages of all.
use Rattle.std.{proofs.Common.{◌≡◌, Bool, true, false, List, [], ◌∷◌, refl, sym, ap, ◌∙◌}, specs.{List.filter, Prelude.if◌then◌else◌}}
use Rattle.pim_state.{specs.Turns.{Taking, saying}}
use Rattle.pim_model.{specs.{Messages.Message, Querier.each_in_turn, State.State}}
use Rattle.pim_querier.{proofs.Starting.{nothing_said, said_twice}}

-- the first of a list, where it passes a test, and where it doesn't
module _ {A : Type 0} (test : A → Bool) (a : A) (left rest : List A) (is : left ≡ a ∷ rest) where
  kept : (b : Bool) → b ≡ true → (if b then a ∷ filter test rest else filter test rest) ≡ a ∷ filter test rest
  kept true e = refl
  kept false e = cc

  passed : (b : Bool) → b ≡ false → (if b then a ∷ filter test rest else filter test rest) ≡ filter test rest
  passed true e = cc
  passed false e = refl

  pub first_taken : test a ≡ true → filter test left ≡ a ∷ filter test rest
  first_taken hit = ap (filter test) is ∙ kept (test a) hit

  pub first_passed : test a ≡ false → filter test left ≡ filter test rest
  first_passed miss = ap (filter test) is ∙ passed (test a) miss

module _ {A : Type 0} (change : State → A → State × List Message) where
  -- of all that is to be done from the beginning, what is left is still to come
  pub record Comes (s : State) (t : Taking) (whole : List A) (w : State) (u : Taking) (left : List A) : Type 0 where
    pub state : (each_in_turn change w left).0 ≡ (each_in_turn change s whole).0
    pub said : saying u (each_in_turn change w left).1 ≡ saying t (each_in_turn change s whole).1

  module _ (s : State) (t : Taking) (whole : List A) (w : State) (u : Taking) where
    one_done : (a : A) (later : List A) (w' : State) (u' : Taking) → w' ≡ (change w a).0 → u' ≡ saying u (change w a).1
        → Comes s t whole w u (a ∷ later) → Comes s t whole w' u' later
    unfolding each_in_turn
    one_done a later w' u' is said comes = record {
      state = ap (λ (x : State). (each_in_turn change x later).0) is ∙ comes.state;
      said =
          ap (λ (x : State). saying u' (each_in_turn change x later).1) is
          ∙ ap (λ (x : Taking). saying x (each_in_turn change (change w a).0 later).1) said
          ∙ said_twice u (change w a).1 (each_in_turn change (change w a).0 later).1
          ∙ comes.said;
    }

    pub all_done : (left : List A) → left ≡ [] → Comes s t whole w u left
        → (w ≡ (each_in_turn change s whole).0) × (u ≡ saying t (each_in_turn change s whole).1)
    unfolding each_in_turn
    all_done [] none comes = (comes.state, sym (nothing_said u) ∙ comes.said)
    all_done (a ∷ later) none comes = cc

    module _ (test : A → Bool) (a : A) (left rest : List A) (is : left ≡ a ∷ rest) where
      pub one_taken : test a ≡ true → (w' : State) (u' : Taking) → w' ≡ (change w a).0
          → u' ≡ saying u (change w a).1 → Comes s t whole w u (filter test left) → Comes s t whole w' u' (filter test rest)
      one_taken hit w' u' state said comes =
          one_done a (filter test rest) w' u' state said
          (rw (first_taken test a left rest is hit) at comes)

      pub one_passed : test a ≡ false → Comes s t whole w u (filter test left) → Comes s t whole w u (filter test rest)
      one_passed miss comes = rw (first_passed test a left rest is miss) at comes
