-- Whether a world can have the rows of a state.
use Rattle.std.{specs.{List.list_all, Prelude.{Bool, is_ok, length, ◌&&◌}}}
use Rattle.pim_ifaces.{specs.Interfaces.{interfaces_test, is_up_key}}
use Rattle.pim_model.{specs.{Limits.{are_candidates, are_own_addresses, are_routes, are_rps}, State.State}}
use Rattle.pim_state.{specs.{Lending.membership_tables, PartsOf.are_held}}
use Rattle.igmp_membership.specs.MembershipTables as membership
use Rattle.pim_store.specs.PimTables as store

-- the keys of each table rise, component by component
pub record StateRises (s : State) : Type 0 where
  pub interfaces : store.Rises s.interfaces
  pub neighbours : store.Rises s.neighbours
  pub records : membership.AllRise (membership_tables s)
  pub trees : store.AllRise (store.pim_tables s)

-- what is configured is accepted, but for the limit, delays and some intervals, so are the candidates, and each row stands
-- under a key of its kind
abbrev pub can_hold : State → Bool
can_hold s =
    ((is_ok (interfaces_test s.configured.interfaces) && are_own_addresses s.configured)
    && list_all (λ e. is_up_key (length s.configured.interfaces) e.0) s.interfaces)
    && ((are_routes s.configured s.routes && (are_rps s.ranges.static_ranges && are_candidates s.ranges.candidates))
    && (membership.are_of_kind (membership_tables s)
    && (store.are_of_kind (store.pim_tables s) && are_held s.settings s.present)))
