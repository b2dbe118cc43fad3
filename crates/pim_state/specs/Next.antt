-- The timer that a world keeps as the one that expires first.
use Rattle.std.{specs.{Option.IfSome, Prelude.{Option, Some, option_map, ℕ, ◌++◌, ◌≡◌}}}
use Rattle.pim_types.{specs.declared.{fact.{InterfaceRow.InterfaceRow, NeighbourRow.NeighbourRow}, timer.{Timer.Timer, TimerKind.TimerKind}}}
use Rattle.igmp_membership.{specs.MembershipTables.{MembershipTables, membership_endings}}
use Rattle.pim_model.{specs.{Clearing.first_by, Tables.Table, Timers.{endings, is_ending_first}}}
use Rattle.pim_store.{specs.PimTables.{PimTables, stored_endings}}
use Rattle.pim_tables.{specs.Ends.due_of}

-- which timer of the tables expires first, and when
abbrev pub next_among : Table InterfaceRow → Table NeighbourRow → MembershipTables → PimTables → Option (ℕ × Timer)
next_among interfaces neighbours membership store =
    option_map due_of (first_by is_ending_first (endings TimerKind.Neighbour (λ (r : NeighbourRow). r.end) neighbours
    ++ stored_endings store ++ membership_endings membership
    ++ endings TimerKind.Hello (λ (r : InterfaceRow). Some r.hello_end) interfaces))

-- A timer that is kept is the one that expires first.
abbrev pub IsNext : (kept next : Option (ℕ × Timer)) → Type 0
IsNext kept next = IfSome kept (λ due. next ≡ Some due)
