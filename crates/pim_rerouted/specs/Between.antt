-- Lists of routes that route alike.
use Rattle.std.{specs.Prelude.{List, None, Option, ℕ, ◌≡◌}}
use Rattle.pim_ip.{specs.Prefixes.longest_match}
use Rattle.pim_types.{specs.declared.config.Route.Route}
use Rattle.pim_model.{specs.State.State}
use Rattle.pim_rerouted.{specs.declared.changed.NextRoutes.NextRoutes}

-- the route with the longest prefix that contains the address
abbrev pub longest : List Route → ℕ → Option Route
longest routes address = longest_match (λ (r : Route). r.prefix) routes address

-- An address that two lists route alike two others do too.
abbrev pub Carries : (within others first second : List Route) → Type 0
Carries within others first second =
    (address : ℕ) → longest within address ≡ longest others address → longest first address ≡ longest second address

-- Neither list has a route to the address.
abbrev pub LeavesBoth : (before after : List Route) → ℕ → Type 0
LeavesBoth before after address = (longest before address ≡ None) × (longest after address ≡ None)

-- What a table of routes has in the place of those of a state.
abbrev pub Follows : State → NextRoutes → Type 0
Follows s next = Carries next.before.now next.after.now s.routes next.table.now.routes
