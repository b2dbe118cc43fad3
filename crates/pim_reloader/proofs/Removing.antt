-- Interfaces that go down one after the other.
use Rattle.std.{proofs.Common.{◌≡◌, ℕ, suc, ◌+◌, ◌-◌, ◌<◌, ◌≤◌, List, [], ◌∷◌, ◌++◌, map, refl, sym, ap, ◌∙◌, arith, append_assoc, append-nil}, specs.List.range_with_len}
use Rattle.pim_types.{specs.declared.{event.Event.Event, outcome.Emission.Emission}}
use Rattle.law_events.{specs.Rest.IsAtRest}
use Rattle.pim_model.{specs.{State.State, Step.{ran, run, state_after, step}}}
use Rattle.law_states.{specs.Reloading.{down_event, sent_by}}

-- from a number on
abbrev pub downs : ℕ → ℕ → ℕ → List Event
downs draw number count = map (down_event draw) (range_with_len number (count - number))

-- what was sent, with what is left, is all of it
pub record Removes (o : State) (draw first count number : ℕ) (s : State) (sent : List Emission) : Type 0 where
  pub state_is : state_after s (downs draw number count) ≡ state_after o (downs draw first count)
  pub sent_is : sent ++ sent_by (run s (downs draw number count)) ≡ sent_by (run o (downs draw first count))
  pub rest : IsAtRest s

pub removes_begin : (o : State) (draw first count : ℕ) (sent : List Emission) → sent ≡ [] → IsAtRest o
    → Removes o draw first count first o sent
removes_begin o draw first count sent none rest = record {
  state_is = refl;
  sent_is = ap (λ (es : List Emission). es ++ sent_by (run o (downs draw first count))) none;
  rest = rest;
}

one_more : (number count : ℕ) → number < count → count - number ≡ suc (count - (number + 1))
one_more number count less = omega (arith, less)

module _ (o : State) (draw first count number : ℕ) (s n : State) (sent more all : List Emission) (less : number < count) where
  here : downs draw number count ≡ down_event draw number ∷ downs draw (number + 1) count
  here = ap (λ (k : ℕ). map (down_event draw) (range_with_len number k)) (one_more number count less)

  pub removes_next : n ≡ (step s (down_event draw number)).state → more ≡ (step s (down_event draw number)).emissions
      → all ≡ sent ++ more → IsAtRest n → Removes o draw first count number s sent
      → Removes o draw first count (number + 1) n all
  unfolding run state_after ran sent_by
  removes_next is says pushed rest before = record {
    state_is =
        ap (λ (x : State). state_after x (downs draw (number + 1) count)) is
        ∙ (sym (ap (λ (es : List Event). state_after s es) here) ∙ before.state_is);
    sent_is =
        (λ j. pushed j ++ sent_by (run (is j) (downs draw (number + 1) count)))
        ∙ ((λ j. (sent ++ says j) ++ sent_by (run (step s (down_event draw number)).state (downs draw (number + 1) count)))
        ∙ (append_assoc sent (step s (down_event draw number)).emissions
        (sent_by (run (step s (down_event draw number)).state (downs draw (number + 1) count)))
        ∙ (sym (ap (λ (es : List Event). sent ++ sent_by (run s es)) here) ∙ before.sent_is)));
    rest = rest;
  }

none_left : (number count : ℕ) → count ≤ number → count - number ≡ 0
none_left number count past = omega (arith, past)

pub removes_end : (o : State) (draw first count number : ℕ) (s : State) (sent : List Emission) → count ≤ number
    → Removes o draw first count number s sent
    → (s ≡ state_after o (downs draw first count)) × (sent ≡ sent_by (run o (downs draw first count)))
unfolding run state_after ran sent_by
removes_end o draw first count number s sent past before =
    let none : downs draw number count ≡ [] =
    ap (λ (k : ℕ). map (down_event draw) (range_with_len number k)) (none_left number count past) in (
      sym (ap (λ (es : List Event). state_after s es) none) ∙ before.state_is,
      sym (append-nil sent) ∙ (sym (ap (λ (es : List Event). sent ++ sent_by (run s es)) none) ∙ before.sent_is),
    )
