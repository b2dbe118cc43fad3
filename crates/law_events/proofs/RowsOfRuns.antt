-- The rows are kept at any events, of a router from its opening on.
use Rattle.std.{proofs.Common.{◌≡◌, Bool, true, List, [], ◌∷◌, Ok, Option, is_some, length, ◌≤◌, refl, ap, subst, ◌∙◌, arith}}
use Rattle.pim_ip.{specs.Ipv4.Packet}
use Rattle.pim_types.{specs.declared.{config.Config.Config, event.Event.Event}}
use Rattle.pim_model.{specs.{Cache.Plain, declared.accepted.Accepted.Accepted, Full.is_full, Judging.Judged, Limits.{config_test, most_ifaces}, Plain.IsPlainEvent, State.{Addressing, State, opening}, Step.{ran, state_after, step, taken}, Tables.has_row}}
use Rattle.law_settled.{proofs.Accepted.few_interfaces}
use Rattle.law_events.{specs.{Rest.IsAtRest, Named.named_of, Decided.{IsDecided, decided_by_answers}, Kept.{Cache, IsCached, cache_after, cache_at_end, cache_concluded, cache_taken, cache_unless_full, is_listed, no_rows, refreshed}}, proofs.{PlainEvents.plain_is_decided, PlainNames.plain_names_none, PlainPackets.known_is_not_full, RowsOfSteps.{opening_is_cached, step_keeps_cache, step_stays_configured}}}

pub run_keeps_cache : (s : State) (events : List Event) (c : Cache) → length s.configured.interfaces ≤ most_ifaces → IsCached c s
    → IsCached (cache_at_end s events c) (state_after s events)
unfolding state_after ran cache_at_end
run_keeps_cache s [] c few held = held
run_keeps_cache s (e ∷ es) c few held =
    run_keeps_cache (step s e).state es (cache_after s e c)
    (subst (λ (cs : Addressing). length cs.interfaces ≤ most_ifaces) (step_stays_configured s e) few)
    (step_keeps_cache s e c few held)

-- ---- the opening

pub few_opening : (c : Config) → config_test c ≡ Ok tt → length (opening c).configured.interfaces ≤ most_ifaces
unfolding opening
few_opening c e = few_interfaces c e

pub router_keeps_cache : (c : Config) (events : List Event) → config_test c ≡ Ok tt
    → IsCached (cache_at_end (opening c) events no_rows) (state_after (opening c) events)
router_keeps_cache c events e = grind (arith, run_keeps_cache, few_opening, opening_is_cached)

-- ---- plain packets

module _ (s : State) (e : Event) (p : Packet) (how : Plain) (rests : IsAtRest s) (is : IsDecided s e p how) (c : Cache) where
  pub plain_leaves_rows : cache_after s e c ≡ c
  unfolding cache_after cache_taken refreshed is_listed
  plain_leaves_rows =
      ap (λ (j : Judged). cache_concluded c (λ a. cache_unless_full (is_full s a) c (cache_taken s e.draw a c)) j) is.heard
      ∙ (ap (λ (b : Bool). cache_unless_full b c (cache_taken s e.draw (Accepted.Data is.iif p) c)) (known_is_not_full s is.iif p is.known)
      ∙ ap (λ names. refreshed names (taken s e.draw (Accepted.Data is.iif p)).state c)
      (plain_names_none s e.draw is.iif p how rests is.known is.answered))

module _ (s : State) (e : Event) (rests : IsAtRest s) (is : IsPlainEvent s e) where
  plain_event : (o : Option Plain) → decided_by_answers s is.iif is.packet ≡ o → is_some o ≡ true
      → named_of s e.draw (Accepted.Data is.iif is.packet) ≡ []
  unfolding has_row
  plain_event o f h = grind (arith, plain_names_none)

  pub plain_event_names_none : named_of s e.draw (Accepted.Data is.iif is.packet) ≡ []
  plain_event_names_none = plain_event (decided_by_answers s is.iif is.packet) refl (plain_is_decided s e rests is)
