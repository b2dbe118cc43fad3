-- A configuration that differs from the present one in nothing but its settings moves no fact but what queriers go by.
use Rattle.std.{proofs.Common.{◌≡◌, ◌++◌, ℕ, List, [], refl, sym, ◌∙◌}}
use Rattle.pim_types.{specs.declared.{config.Settings.Settings, outcome.{Emission.Emission, Outcome.Outcome}}}
use Rattle.pim_model.{specs.{State.State, Step.ran, Unicast.with_ranges}}
use Rattle.law_events.{specs.Rest.IsAtRest}
use Rattle.law_states.{specs.{Reload.config_of, ReloadLaws.with_settings, Reloading.{goodbyes, queriers_under, reload, removals, replaced, sent_by}}, proofs.{Goodbyes.none_say, ReloadedSettings.{none_moved, none_removed}}}

abbrev pub with : State → Settings → State
with s t = record s { settings = t; queriers = queriers_under s t }

-- nothing is removed, and no goodbye leaves
whole : (s : State) (t : Settings) (w : ℕ) → replaced s (with_settings s t) w ≡ reload s (with_settings s t) w
unfolding reload removals ran sent_by
whole s t w =
    sym ((λ j. (let gone : List Outcome × State = ran s (none_removed s w j) in
    let after : State × List Emission = replaced gone.1 (with_settings s t) w in
    (after.0, sent_by gone.0 ++ (goodbyes gone.1 s.configured ++ after.1))))
    ∙ (λ j. (let after : State × List Emission = replaced s (with_settings s t) w in
    (after.0, none_say s s.configured (λ i up. refl) j ++ after.1))))

pub settled_alone : (s next : State) (w : ℕ) → IsAtRest s → s.configured ≡ next.configured → s.routes ≡ next.routes
    → s.ranges.static_ranges ≡ next.ranges.static_ranges → replaced s (config_of next) w ≡ (with s next.settings, [])
unfolding config_of
settled_alone s next w rest configured routes ranges =
    (λ j. replaced s (config_of (record next { configured = sym configured j; routes = sym routes j; ranges = with_ranges next.ranges (sym ranges j) })) w)
    ∙ (whole s next.settings w ∙ none_moved s next.settings w rest)

-- the settings of the next one, and then the queriers under them
pub put_alone : (s next a b : State) → s.configured ≡ next.configured → s.routes ≡ next.routes
    → a ≡ record s { settings = next.settings; configured = next.configured; routes = next.routes }
    → b ≡ record a { queriers = queriers_under a a.settings } → b ≡ with s next.settings
unfolding queriers_under
put_alone s next a b configured routes is asks =
    asks
    ∙ ((λ j. let x : State = is j in record x { queriers = queriers_under x x.settings })
    ∙ (λ j. record s {
      settings = next.settings;
      configured = sym configured j;
      routes = sym routes j;
      queriers = queriers_under s next.settings;
    }))
