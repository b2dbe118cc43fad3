-- When each keepalive timer that runs expires: no later than 210 s after the present time.
use Rattle.std.{specs.{List.list_all, Option.option_map_or, Prelude.{Bool, List, Ok, nat_le, true, ℕ, ◌+◌, ◌≡◌}}}
use Rattle.pim_types.{specs.declared.{config.Config.Config, event.Event.Event, fact.{Key.Key, SourceRow.SourceRow}}}
use Rattle.pim_model.{specs.{Limits.config_test, Registers.keepalive_period, State.{State, opening}, Step.state_after}}

unfoldable pub is_near : State → Bool
is_near s =
    list_all
    (λ (e : Key × SourceRow). option_map_or (λ (end : ℕ). nat_le end (s.present + keepalive_period)) (e.1).keepalive true)
    s.sources

-- Each keepalive timer of a router expires at most 210 s after the present time, from the opening on.
abbrev pub EachKeepaliveIsNear : Type 0
EachKeepaliveIsNear = (c : Config) (events : List Event) → config_test c ≡ Ok tt
    → is_near (state_after (opening c) events) ≡ true
