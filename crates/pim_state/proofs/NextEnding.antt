-- The first end of all tables, by the first of each component's.
use Rattle.std.{proofs.{Common.{◌≡◌, ℕ, List, ◌++◌, None, Option, Some, ap, arith, length-append, option_map, subst, sym, ◌∙◌}, lemmas.List.Elements.filter-append}}
use Rattle.pim_types.{specs.declared.{fact.{AssertRow.AssertRow, DownstreamRow.DownstreamRow, GroupRecordRow.GroupRecordRow, GroupRepeatRow.GroupRepeatRow, InterfaceRow.InterfaceRow, JoinTimerRow.JoinTimerRow, NeighbourRow.NeighbourRow, OverrideTimerRow.OverrideTimerRow, QuerierRow.QuerierRow, RegisterRow.RegisterRow, SourceRecordRow.SourceRecordRow, SourceRepeatRow.SourceRepeatRow, SourceRow.SourceRow}, timer.{Timer.Timer, TimerKind.TimerKind}}}
use Rattle.pim_model.{specs.{Clearing.first_by, State.State, Timers.{Ending, endings, is_ending_first, next_ending, next_query, other_querier_end, register_end, timers}}}
use Rattle.igmp_membership.{specs.MembershipTables.membership_endings}
use Rattle.pim_store.{specs.PimTables.{pim_tables, stored_endings}}
use Rattle.pim_tables.{specs.Ends.due_of, proofs.Orders.first_of_counted}
use Rattle.pim_state.{specs.{Lending.membership_tables, Next.{IsNext, next_among}}}

regrouped : (n p d gr sr a k r o j q g s y h : List Ending)
    → first_by is_ending_first (n ++ (p ++ d ++ a ++ k ++ r ++ o ++ j) ++ (gr ++ sr ++ (q ++ y) ++ g ++ s) ++ h)
    ≡ first_by is_ending_first (n ++ p ++ d ++ gr ++ sr ++ a ++ k ++ r ++ o ++ j ++ q ++ g ++ s ++ y ++ h)
regrouped n p d gr sr a k r o j q g s y h =
    first_of_counted _ _ (λ t. simp (filter-append, length-append) (omega arith))

pub next_of_parts : (s : State)
    → first_by is_ending_first (endings TimerKind.Neighbour (λ (r : NeighbourRow). r.end) s.neighbours
    ++ stored_endings (pim_tables s) ++ membership_endings (membership_tables s)
    ++ endings TimerKind.Hello (λ (r : InterfaceRow). Some r.hello_end) s.interfaces) ≡ next_ending s
unfolding next_ending timers stored_endings membership_endings
next_of_parts s = regrouped
    (endings TimerKind.Neighbour (λ (r : NeighbourRow). r.end) s.neighbours)
    (endings TimerKind.PrunePending (λ (r : DownstreamRow). r.pending) s.downstream)
    (endings TimerKind.DownstreamExpiry (λ (r : DownstreamRow). r.expiry) s.downstream)
    (endings TimerKind.GroupRecord (λ (r : GroupRecordRow). r.end) s.group_records)
    (endings TimerKind.SourceRecord (λ (r : SourceRecordRow). r.end) s.source_records)
    (endings TimerKind.Assert (λ (r : AssertRow). Some r.end) s.asserts)
    (endings TimerKind.Keepalive (λ (r : SourceRow). r.keepalive) s.sources)
    (endings TimerKind.Register (λ (r : RegisterRow). register_end r.state) s.registers)
    (endings TimerKind.Override (λ (r : OverrideTimerRow). Some r.end) s.override_timers)
    (endings TimerKind.Join (λ (r : JoinTimerRow). Some r.end) s.join_timers)
    (endings TimerKind.OtherQuerier (λ (r : QuerierRow). other_querier_end r.role) s.queriers)
    (endings TimerKind.GroupRepeat (λ (r : GroupRepeatRow). Some r.next) s.group_repeats)
    (endings TimerKind.SourceRepeat (λ (r : SourceRepeatRow). Some r.next) s.source_repeats)
    (endings TimerKind.GeneralQuery (λ (r : QuerierRow). next_query r.role) s.queriers)
    (endings TimerKind.Hello (λ (r : InterfaceRow). Some r.hello_end) s.interfaces)

-- what is looked for in the tables of a state
next_in : (s : State) → next_among s.interfaces s.neighbours (membership_tables s) (pim_tables s)
    ≡ option_map due_of (next_ending s)
next_in s = ap (option_map due_of) (next_of_parts s)

pub kept_is_next : (s : State) (kept : Option (ℕ × Timer)) (due : ℕ × Timer) → kept ≡ Some due
    → IsNext kept (next_among s.interfaces s.neighbours (membership_tables s) (pim_tables s))
    → Some due ≡ option_map due_of (next_ending s)
kept_is_next s kept due is next =
    sym (subst (λ k. IsNext k (next_among s.interfaces s.neighbours (membership_tables s) (pim_tables s))) is next) ∙ next_in s

next_given : (kept next : Option (ℕ × Timer)) → kept ≡ next → IsNext kept next
next_given None next e = tt
next_given (Some due) next e = sym e

pub next_is_kept : (s : State) (kept : Option (ℕ × Timer)) → kept ≡ option_map due_of (next_ending s)
    → IsNext kept (next_among s.interfaces s.neighbours (membership_tables s) (pim_tables s))
next_is_kept s kept e = next_given kept _ (e ∙ sym (next_in s))
