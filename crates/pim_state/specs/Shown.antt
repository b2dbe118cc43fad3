-- Sets of interfaces that show a test.
use Rattle.std.specs.Prelude.{nat_lt, ℕ, ◌&&◌, ◌≡◌}
use Rattle.pim_ifset.{specs.Members.{Members, has}}
use Rattle.pim_types.{specs.declared.fact.NeighbourRow.NeighbourRow}
use Rattle.pim_model.{specs.{Neighbours.is_dr_among, Sets.Set, State.{Addressing, address_among, value_among}, Tables.{Table, rows_on}}}

-- Of the interfaces below 120, exactly those that pass the test are in the set.
abbrev pub Shows : Members → Set → Type 0
Shows set test = (i : ℕ) → has set i ≡ (nat_lt i 120 && test i)

-- the router is the DR of the interface
abbrev pub is_dr_on : Addressing → Table NeighbourRow → Set
is_dr_on configured neighbours i =
    is_dr_among (value_among (λ c. c.priority) configured i) (address_among configured i) (rows_on i neighbours)
