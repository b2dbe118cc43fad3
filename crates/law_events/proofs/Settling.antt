-- What follows of a change of touched keys follows of those alone.
use Rattle.std.{proofs.Common.{◌≡◌, ℕ, Bool, List, ◌++◌, ap, ◌∙◌, arith}}
use Rattle.law_events.{specs.Locality.{AgreesBut, IsClosed, IsQuiet, touched_clear, touched_registers, touched_settled, touched_to_clear, own_settled, own_upstream, touched_upstream, touching}, proofs.{Touches.touching_is_closed, OwnKeys.upstream_is_own, TouchedClearing.{chosen_is_touched, clear_of_touched, cleared_agrees}, Registers.{registers_agree, registers_of_touched}, TouchedUpstream.upstream_of_touched}}
use Rattle.pim_types.{specs.declared.fact.Key.Key}
use Rattle.pim_model.{specs.{Clearing.{clear, clearable_count, cleared}, Firing.settled, Messages.Message, State.State, Upstream.upstream, Writing.write_all}}
use Rattle.law_settled.{proofs.TurnLaws.kept_to_the_end}

module _ (touches : Key → Bool) (closed : IsClosed touches) (o : State) where
  pub clear_agrees : (s : State) → AgreesBut touches o s → AgreesBut touches o (touched_clear touches o s).0
  unfolding touched_clear
  clear_agrees s agree =
      kept_to_the_end (touched_to_clear touches o) cleared (AgreesBut touches o)
      (λ t c kept e. cleared_agrees touches o closed t c (chosen_is_touched touches o t c e) kept) (clearable_count s) s
      agree

  module _ (quiet : IsQuiet o) where
    pub cleared_of_touched : (s : State) → AgreesBut touches o s
        → clear o s ≡ touched_clear touches o (touched_registers touches s)
    unfolding clear
    cleared_of_touched s agree = grind (arith, registers_of_touched, clear_of_touched, registers_agree)

    -- with what is sent upstream after clearing
    settled_by : (change : State × List Message) (w : ℕ) → AgreesBut touches o change.0
        → (told : State → State × List Message)
        → ((s : State) → AgreesBut touches o s → upstream o s w ≡ told s)
        → settled o change w
        ≡ (let after : State × List Message = touched_clear touches o (touched_registers touches change.0) in
        write_all (told after.0).0 (change.1 ++ after.1 ++ (told after.0).1))
    unfolding settled
    settled_by change w agree told same =
        ap (λ (after : State × List Message). write_all (upstream o after.0 w).0
        (change.1 ++ after.1 ++ (upstream o after.0 w).1))
        (cleared_of_touched change.0 agree)
        ∙ ap (λ (told : State × List Message).
        write_all told.0 (change.1 ++ (touched_clear touches o (touched_registers touches change.0)).1 ++ told.1))
        (same (touched_clear touches o (touched_registers touches change.0)).0
        (clear_agrees (touched_registers touches change.0) (registers_agree touches closed o change.0 agree)))

pub settling_is_local : (touches : Key → Bool) → IsClosed touches → (o : State) → IsQuiet o
    → (change : State × List Message) (w : ℕ) → AgreesBut touches o change.0
    → settled o change w ≡ touched_settled touches o change w
unfolding touched_settled
settling_is_local touches closed o quiet change w agree =
    settled_by touches closed o quiet change w agree (λ s. touched_upstream touches o s w)
    (λ s f. upstream_of_touched touches closed o s w f)

pub settling_is_own : (keys : List Key) (o : State) → IsQuiet o → (change : State × List Message) (w : ℕ)
    → AgreesBut (touching keys) o change.0 → settled o change w ≡ own_settled keys o change w
unfolding own_settled
settling_is_own keys o quiet change w agree =
    settled_by (touching keys) (touching_is_closed keys) o quiet change w agree (λ s. own_upstream keys o s w)
    (λ s f. upstream_is_own keys o s w f)
