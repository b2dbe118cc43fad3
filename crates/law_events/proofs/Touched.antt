-- What is named of an event, or of a firing, is touched by it.
use Rattle.std.{proofs.Common.{◌≡◌, ℕ, Bool, true, false, List, Some, [], refl, sym, ap, ◌∙◌, arith}}
use Rattle.pim_types.{specs.{declared.fact.Key.Key, Keys.{group_in, source_in, source_key}}}
use Rattle.pim_model.{specs.{Clearing.clear, declared.accepted.Accepted.Accepted, Firing.fired, Messages.Message, Reach.own_firing, State.State, Step.change, Timers.Ending}}
use Rattle.law_events.{specs.{Events.touched_by_event, Locality.{AgreesBut, IsClosed, IsQuiet, touched_registers, touching}, Scopes.{reads, scope}, Touches.{isnt_neighbour, touched_by}, Named.{is_source_named, named_by, named_where}}, proofs.{EventLaws.change_touches, OwnKeys.present_touches_none, Registers.registers_agree, Settling.{clear_agrees, cleared_of_touched}, SilentEvents.timer_touches, Touches.{agrees_then, touching_is_closed, widened}, Agreed.agreed_is_unnamed, Asked.asked_alone}}

module _ (touches : Key → Bool) (closed : IsClosed touches) (o : State) where
  pub end_agrees : IsQuiet o → (s : State) → AgreesBut touches o s → AgreesBut touches o (clear o s).0
  end_agrees quiet s agree k out =
      clear_agrees touches closed o (touched_registers touches s) (registers_agree touches closed o s agree) k out
      ∙ ap (λ (after : State × List Message). scope (reads k) after.0)
      (sym (cleared_of_touched touches closed o quiet s agree))

pub touched_names : (keys : List Key) (o changed : State) → IsQuiet o → AgreesBut (touching keys) o changed
    → (g src : ℕ) → touching keys (source_key 0 g src) ≡ false → is_source_named g src o (clear o changed).0 ≡ false
touched_names keys o changed quiet agree g src out =
    agreed_is_unnamed g src o (clear o changed).0
    (end_agrees (touching keys) (touching_is_closed keys) o quiet changed agree (source_key 0 g src) out)

pub touched_alone : (keys : List Key) (o changed : State) → IsQuiet o → AgreesBut (touching keys) o changed
    → named_by o changed ≡ named_where (touching keys) o changed
unfolding touching reads
touched_alone keys o changed quiet agree =
    asked_alone o changed (touching keys)
    (λ k out. touched_names keys o changed quiet agree (group_in k) (source_in k) out)

pub event_alone : (s : State) → IsQuiet s → (w : ℕ) (a : Accepted) (keys : List Key)
    → touched_by_event s a ≡ Some keys → named_by s (change s w a).state ≡ named_where (touching keys) s (change s w a).state
event_alone s quiet w a keys e = touched_alone keys s (change s w a).state quiet (change_touches s w a keys e)

-- the own change of the expiry of a timer, its moment with it
pub firing_agrees : (s : State) (e : Ending) → isnt_neighbour e.timer.kind ≡ true
    → AgreesBut (touching (touched_by e.timer.kind e.timer.key)) s (own_firing s e)
unfolding own_firing
firing_agrees s e is =
    let keys : List Key = touched_by e.timer.kind e.timer.key in
    let opened : State = record s { present = e.end } in
    agrees_then (touching keys) s opened (fired opened e.timer.kind e.timer.key).0
    (widened [] keys s opened refl (present_touches_none s e.end))
    (timer_touches opened e.timer.key e.timer.kind is)

pub firing_alone : (s : State) → IsQuiet s → (e : Ending) → isnt_neighbour e.timer.kind ≡ true
    → named_by s (own_firing s e) ≡ named_where (touching (touched_by e.timer.kind e.timer.key)) s (own_firing s e)
firing_alone s quiet e is = grind (arith, touched_alone, firing_agrees)
