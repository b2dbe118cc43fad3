-- The rows are kept firing by firing, and at any event.
use Rattle.std.{proofs.Common.{◌≡◌, ℕ, ◌+◌, ◌-◌, Bool, length, ◌≤◌, refl, ◌∙◌, arith}}
use Rattle.pim_types.{specs.declared.{config.Config.Config, event.Event.Event, outcome.Stop.Stop}}
use Rattle.pim_model.{specs.{Cache.cached, declared.accepted.Accepted.Accepted, Firing.{fire_all, fire_instant, fire_once}, Full.is_full, Judging.{Judged, judged}, Limits.most_ifaces, State.{State, opening}, Step.{advanced, concluded, step, stopped, taken, taken_unless_full}, Tables.{has_row, row_at}, Timers.{Ending, next_due, timers}}}
use Rattle.law_settled.{proofs.{TurnLaws.kept_to_the_end, UnchangedLaws.full_or_taken}}
use Rattle.law_events.{specs.{Named.named_of, Kept.{Cache, Held, IsCached, cache_after, cache_concluded, cache_taken, cache_unless_full, held_all, held_instant, held_once, no_rows}}, proofs.{Advance.{same_end, same_told}, Settled.{event_configured, fire_configured}, RowsOfEvents.{event_keeps_cache, firing_keeps_cache, present_keeps_cache}}}

-- ---- the same states

abbrev state_of : Held → State
state_of h = h.state

module _ (w : ℕ) where
  once_fires : (h : Held) (e : Ending) → state_of (held_once w h e).0 ≡ (fire_once w (state_of h) e).0
  unfolding held_once
  once_fires h e = refl

  instant_fires : (h : Held) (e : Ending) → state_of (held_instant w h e).0 ≡ (fire_instant w (state_of h) e).0
  unfolding held_instant fire_instant
  instant_fires h e =
      same_end state_of (next_due e.end) (held_once w) (fire_once w) once_fires (length (timers h.state) + 1) h

  pub held_fires : (moment : ℕ) (h : Held) → ((held_all w moment h).0).state ≡ (fire_all w moment h.state).0
  unfolding held_all fire_all
  held_fires moment h =
      same_end state_of (next_due moment) (held_instant w) (fire_instant w) instant_fires
      (moment + 2 - (h.state).present) h

  once_emits : (h : Held) (e : Ending) → (held_once w h e).1 ≡ (fire_once w (state_of h) e).1
  unfolding held_once
  once_emits h e = refl

  instant_emits : (h : Held) (e : Ending) → (held_instant w h e).1 ≡ (fire_instant w (state_of h) e).1
  unfolding held_instant fire_instant
  instant_emits h e =
      same_told state_of (next_due e.end) (held_once w) (fire_once w) once_fires once_emits (length (timers h.state) + 1) h

  pub held_emits : (moment : ℕ) (h : Held) → (held_all w moment h).1 ≡ (fire_all w moment h.state).1
  unfolding held_all fire_all
  held_emits moment h =
      same_told state_of (next_due moment) (held_instant w) (fire_instant w) instant_fires instant_emits
      (moment + 2 - (h.state).present) h

  -- ---- the rows, firing by firing

  abbrev pub IsHeld : Held → Type 0
  IsHeld h = (length (h.state).configured.interfaces ≤ most_ifaces) × IsCached h.cache h.state

  once_keeps : (h : Held) (e : Ending) → IsHeld h → IsHeld (held_once w h e).0
  unfolding held_once
  once_keeps h e f = grind (arith, fire_configured, firing_keeps_cache)

  instant_keeps : (h : Held) (e : Ending) → IsHeld h → IsHeld (held_instant w h e).0
  unfolding held_instant
  instant_keeps h e f =
      kept_to_the_end (λ (k : Held). next_due e.end k.state) (held_once w) IsHeld (λ k d g there. once_keeps k d g)
      (length (timers h.state) + 1) h f

  pub all_keep : (moment : ℕ) (h : Held) → IsHeld h → IsHeld (held_all w moment h).0
  unfolding held_all
  all_keep moment h f =
      kept_to_the_end (λ (k : Held). next_due moment k.state) (held_instant w) IsHeld (λ k d g there. instant_keeps k d g)
      (moment + 2 - (h.state).present) h f

-- ---- any event

advance_keeps : (s : State) (w moment : ℕ) (c : Cache) → length s.configured.interfaces ≤ most_ifaces → IsCached c s
    → IsCached (cache_taken s w (Accepted.Advance moment) c) (taken s w (Accepted.Advance moment)).state
unfolding cache_taken taken advanced
advance_keeps s w moment c few held = grind (arith, all_keep, held_fires, present_keeps_cache)

pub taken_keeps_cache : (s : State) (w : ℕ) (a : Accepted) (c : Cache) → length s.configured.interfaces ≤ most_ifaces → IsCached c s
    → IsCached (cache_taken s w a c) (taken s w a).state
unfolding cache_taken taken named_of
taken_keeps_cache s w a c few held = grind (arith, advance_keeps, event_keeps_cache)

stopped_stays : (P : State → Type 0) (s : State) (stop : Stop) → P s → P (stopped s stop).state
stopped_stays P s stop f = grind arith

module _ (s : State) (w : ℕ) (c : Cache) (few : length s.configured.interfaces ≤ most_ifaces) (held : IsCached c s) where
  unless_full : (a : Accepted) (b : Bool)
      → IsCached (cache_unless_full b c (cache_taken s w a c)) (full_or_taken s w a b).state
  unless_full a b = grind (arith, taken_keeps_cache)

  concluded_keeps : (j : Judged)
      → IsCached (cache_concluded c (λ a. cache_unless_full (is_full s a) c (cache_taken s w a c)) j)
      (concluded s (taken_unless_full s w) j).state
  unfolding taken_unless_full
  concluded_keeps j = grind (arith, stopped_stays, unless_full)

pub step_keeps_cache : (s : State) (e : Event) (c : Cache) → length s.configured.interfaces ≤ most_ifaces → IsCached c s
    → IsCached (cache_after s e c) (step s e).state
unfolding cache_after step
step_keeps_cache s e c few held = concluded_keeps s e.draw c few held (judged s e.kind)

-- ---- what is configured

abbrev Stays : State → State → Type 0
Stays s t = s.configured ≡ t.configured

module _ (s : State) (w : ℕ) where
  instant_stays : (t : State) (e : Ending) → Stays s t → Stays s (fire_instant w t e).0
  unfolding fire_instant
  instant_stays t e f =
      kept_to_the_end (next_due e.end) (fire_once w) (Stays s) (λ u d g there. g ∙ (fire_configured u w d).configured)
      (length (timers t) + 1) t f

  advanced_stays : (moment : ℕ) → Stays s (advanced s w moment).state
  unfolding advanced fire_all
  advanced_stays moment =
      kept_to_the_end (next_due moment) (fire_instant w) (Stays s) (λ u d g there. instant_stays u d g)
      (moment + 2 - s.present) s refl

  taken_stays : (a : Accepted) → Stays s (taken s w a).state
  unfolding taken
  taken_stays a = grind (arith, advanced_stays, event_configured)

  stays_unless_full : (a : Accepted) (b : Bool) → Stays s (full_or_taken s w a b).state
  stays_unless_full a b = grind (arith, taken_stays)

  concluded_stays : (j : Judged) → Stays s (concluded s (taken_unless_full s w) j).state
  unfolding taken_unless_full
  concluded_stays j = grind (arith, stopped_stays, stays_unless_full)

pub step_stays_configured : (s : State) (e : Event) → Stays s (step s e).state
unfolding step
step_stays_configured s e = concluded_stays s e.draw (judged s e.kind)

-- ---- the opening

pub opening_is_cached : (c : Config) → IsCached no_rows (opening c)
unfolding opening cached has_row row_at
opening_is_cached c g src = tt
