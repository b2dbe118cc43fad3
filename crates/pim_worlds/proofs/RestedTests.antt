-- The tests of a saved state decide whether a router goes on from it.
use Rattle.std.{proofs.Common.{◌≡◌, ◌&&◌, ◌∙◌, Bool, true, false, Ok, Err, ap, refl, sym, length}, specs.{List.list_all, Prelude.{Result, [], if◌then◌else◌, is_ok, ◌∷◌}}}
use Rattle.pim_ip.{specs.{Tests.{expect, ◌>>◌}, declared.refusal.Refusal.Refusal}}
use Rattle.pim_ifaces.{specs.Interfaces.{interfaces_test, is_up_key}}
use Rattle.law_events.{specs.Locality.IsQuiet}
use Rattle.pim_model.{specs.{Limits.{are_candidates, are_own_addresses, are_routes, are_rps, config_test}, State.State}}
use Rattle.law_settled.{specs.Ready.IsOrdered}
use Rattle.pim_worlds.{specs.{Rows.can_hold, Settled.is_settled, Resuming.{IsResumable, ResumableIsDecided, SavedIsResumed, are_settings_accepted, is_quiet, read_test, resume_test}, declared.refusal.RestoreRefusal.RestoreRefusal}, proofs.SettledTests.settled_is_decided}
use Rattle.law_states.{specs.{Reload.config_of, Resting.all_pass, NearStates.is_near}}
use Rattle.pim_saved.{proofs.SpelledStates.text_is_read}
use Rattle.pim_state.{proofs.Accepted.{all_accepted, in_two_parts}, specs.Configurations.settings_test}

halves : (a b : Bool) → (a && b) ≡ true → (a ≡ true) × (b ≡ true)
halves true b e = (refl, e)
halves false b e = cc

first : (a b : Result (Unit {0}) Refusal) → (a >> b) ≡ Ok tt → a ≡ Ok tt
first (Ok done) b e = refl
first (Err refusal) b e = cc

is_done : (r : Result (Unit {0}) Refusal) → is_ok r ≡ true → r ≡ Ok tt
is_done (Ok done) e = refl
is_done (Err refusal) e = cc

-- ---- quiet

four : (a b c d : Bool) → all_pass (a ∷ b ∷ c ∷ d ∷ []) ≡ true → (a ≡ true) × ((b ≡ true) × ((c ≡ true) × (d ≡ true)))
four true true true true e = (refl, (refl, (refl, refl)))
four true true true false e = cc
four true true false d e = cc
four true false c d e = cc
four false b c d e = cc

pub all_four : (a b c d : Bool) → a ≡ true → b ≡ true → c ≡ true → d ≡ true → all_pass (a ∷ b ∷ c ∷ d ∷ []) ≡ true
all_four true true true true f g h i = refl
all_four true true true false f g h i = cc
all_four true true false d f g h i = cc
all_four true false c d f g h i = cc
all_four false b c d f g h i = cc

quiet_is : (s : State) → is_quiet s ≡ true → IsQuiet s
quiet_is s e =
    let p = four _ _ _ _ e in
    record { clear = record { asserts = p.0; sources = p.1.0 }; sources_settled = p.1.1.0; registers_settled = p.1.1.1 }

quiet_so : (s : State) → IsQuiet s → is_quiet s ≡ true
quiet_so s h = all_four _ _ _ _ h.clear.asserts h.clear.sources h.sources_settled h.registers_settled

-- ---- accepted

module _ (s : State) where
  abbrev up : Bool
  up = list_all (λ e. is_up_key (length s.configured.interfaces) e.0) s.interfaces

  accepted_is : can_hold s ≡ true → are_settings_accepted s ≡ true → config_test (config_of s) ≡ Ok tt
  unfolding config_of
  accepted_is held settings =
      let split = halves ((is_ok (interfaces_test s.configured.interfaces) && are_own_addresses s.configured) && up) _ held in
      let tables = split.1 in
      let addresses = (halves (is_ok (interfaces_test s.configured.interfaces)) _ (halves _ up split.0).0).1 in
      let mrib = halves (are_routes s.configured s.routes) _ (halves _ _ tables).0 in
      let ranges = halves (are_rps s.ranges.static_ranges) (are_candidates s.ranges.candidates) mrib.1 in
      all_accepted (config_of s) (is_done (settings_test (config_of s)) settings) mrib.0 ranges.0 addresses

  settings_so : config_test (config_of s) ≡ Ok tt → are_settings_accepted s ≡ true
  unfolding config_of
  settings_so accepted =
      ap is_ok (first (settings_test (config_of s))
      (expect (are_routes s.configured s.routes) Refusal.ConfiguredRoutes
      >> expect (are_rps s.ranges.static_ranges) Refusal.ConfiguredRps
      >> expect (are_own_addresses s.configured) Refusal.OwnAddresses) (sym (in_two_parts (config_of s)) ∙ accepted))

-- ---- all tests

abbrev outcome : (a b c d e : Bool) → Result (Unit {0}) RestoreRefusal
outcome a b c d e =
    if a && b
    then (if c then (if d then (if e then Ok tt else Err RestoreRefusal.NotNear) else Err RestoreRefusal.NotQuiet)
    else Err RestoreRefusal.NotSettled)
    else Err RestoreRefusal.NotHeld

passed : (a b c d e : Bool) → outcome a b c d e ≡ Ok tt
    → (a ≡ true) × ((b ≡ true) × ((c ≡ true) × ((d ≡ true) × (e ≡ true))))
passed true true true true true h = (refl, (refl, (refl, (refl, refl))))
passed true true true true false h = cc
passed true true true false e h = cc
passed true true false d e h = cc
passed true false c d e h = cc
passed false b c d e h = cc

resumable_is : (s : State) → IsOrdered s → resume_test s ≡ Ok tt → IsResumable s
unfolding resume_test
resumable_is s ordered e =
    let p = passed (can_hold s) (are_settings_accepted s) (is_settled s) (is_quiet s) (is_near s) e in
    record {
      held = p.0;
      accepted = accepted_is s p.0 p.1.0;
      rest = record { quiet = quiet_is s p.1.1.1.0; settled = (settled_is_decided s ordered).0 p.1.1.0 };
      near = p.1.1.1.1;
    }

resumable_so : (s : State) → IsResumable s → resume_test s ≡ Ok tt
unfolding resume_test
resumable_so s h =
    rw (
      h.held,
      settings_so s h.accepted,
      (settled_is_decided s h.rest.settled.ordered).1 h.rest.settled,
      quiet_so s h.rest.quiet,
      h.near,
    ) refl

pub resumable_is_decided : ResumableIsDecided
resumable_is_decided s ordered = (resumable_is s ordered, resumable_so s)

pub saved_is_resumed : SavedIsResumed
saved_is_resumed s fits h = ap read_test (text_is_read s fits) ∙ resumable_so s h
