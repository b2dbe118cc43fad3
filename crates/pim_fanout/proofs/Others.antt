-- A source with a fact that isn't named keeps what the macros answer, to the end of an event and of the expiry of a
-- timer.
use Rattle.std.{proofs.Common.{◌≡◌, ◌≤◌, ◌||◌, ℕ, true, false, length}}
use Rattle.pim_types.{specs.{declared.fact.SourceRow.SourceRow, Keys.source_key}}
use Rattle.pim_model.{specs.{Clearing.clear, declared.accepted.Accepted.Accepted, Firing.fire_once, Limits.most_ifaces, Reach.own_firing, State.State, Step.{change, done}, Tables.{Table, has_row}, Timers.Ending}}
use Rattle.law_events.{specs.{Locality.IsQuiet, Keeps.KeepsAnswers, Kept.is_listed}, proofs.{Calm.{event_facts, firing_facts}, Settled.{event_keeps, firing_keeps}}}
use Rattle.pim_state.{specs.declared.touched.Touched.Touched}
use Rattle.pim_fanout.{specs.{Contains.Contains, Named.named_among}, proofs.Listed.unlisted_is_unnamed}

-- whether the source has a fact in the first state or in a table
abbrev HasOne : ℕ → ℕ → State → Table SourceRow → Type 0
HasOne g src o t = (has_row o.sources (source_key 0 g src) || has_row t (source_key 0 g src)) ≡ true

pub unnamed_sources_keep_their_answers : (s : State) → IsQuiet s → length s.configured.interfaces ≤ most_ifaces → (w : ℕ) (a : Accepted)
    → (touched : Touched) → Contains touched s (change s w a).state → (g src : ℕ) → HasOne g src s (done s w (change s w a)).state.sources
    → is_listed (named_among s (clear s (change s w a).state).0 touched) g src ≡ false
    → KeepsAnswers g src s (done s w (change s w a)).state
unnamed_sources_keep_their_answers s quiet few w a touched covers g src known e =
    event_keeps s w a few g src
    (unlisted_is_unnamed s (change s w a).state quiet touched covers g src (rw (event_facts s w a) known) e)

pub expiry_keeps_unnamed_sources : (s : State) → IsQuiet s → length s.configured.interfaces ≤ most_ifaces → (w : ℕ) (e : Ending)
    → (touched : Touched) → Contains touched s (own_firing s e) → (g src : ℕ)
    → HasOne g src s (fire_once w s e).0.sources
    → is_listed (named_among s (clear s (own_firing s e)).0 touched) g src ≡ false
    → KeepsAnswers g src s (fire_once w s e).0
expiry_keeps_unnamed_sources s quiet few w e touched covers g src known unlisted =
    firing_keeps s w e few g src
    (unlisted_is_unnamed s (own_firing s e) quiet touched covers g src (rw (firing_facts s w e) known) unlisted)
