-- What new routes or RP ranges touch.
use Rattle.std.{specs.Prelude.{Bool, List, not, ℕ}}
use Rattle.pim_types.{specs.declared.config.Route.Route}
use Rattle.pim_model.{specs.{Rows.{same_both, same_path}, State.State, Tables.same_option, Unicast.{route, rp_of}}}

abbrev pub with_routes : State → List Route → State
with_routes s routes = record s { routes = routes }

-- The route to the address differs between the two states, or RP(G) does.
abbrev pub has_other_route : State → State → ℕ → Bool
has_other_route o c address = not (same_both same_path (route o address) (route c address))

abbrev pub group_has_other_rp : State → State → ℕ → Bool
group_has_other_rp o c g = not (same_option (rp_of o g) (rp_of c g))
