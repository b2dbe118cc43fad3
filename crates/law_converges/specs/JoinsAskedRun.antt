-- A host's report asks a router for a group, and so it joins it; its Join asks the next router, and so this joins it. Computed by the kernel.
use Rattle.std.{specs.Prelude.{List, Some, [], slice_get, ℕ, ◌∷◌, ◌≡◌}}
use Rattle.pim_types.{specs.declared.event.Event.Event}
use Rattle.pim_wire.{specs.declared.join_prune.EntryKind.EntryKind}
use Rattle.pim_model.{specs.{Cause.{happened, past_after}, Messages.entry, State.{State, opening}, Step.{state_after, step}, Writing.on_link}}
use Rattle.pim_runs.{specs.{ServedChain.{asked_group, first, first_meets, report, root, second, second_meets}, Words.{address, frame}}}
use Rattle.law_streams.{specs.Joins.join_packet}
use Rattle.law_converges.{specs.JoinsAsked.IsGroupAsked}

-- the first router of the chain, and the second one, which each know their next hop
abbrev pub first_router : State
first_router = state_after (opening first) first_meets

abbrev pub second_router : State
second_router = state_after (opening second) second_meets

-- a Join(*,G) to a next hop
abbrev pub join : ℕ → ℕ → List ℕ
join from to = join_packet from to asked_group (entry EntryKind.Star root) []

-- The Join leaves after the Hello that is owed, and the group is asked for on the host's interface.
abbrev pub ReportIsJoined : Type 0
ReportIsJoined =
    (slice_get (step first_router report).emissions 1 ≡ Some (on_link 1 (join (address 10 0 1 1) (address 10 0 1 2))))
    × IsGroupAsked (happened first_router report ∷ past_after [] (opening first) first_meets) first_router asked_group

-- the Join that comes
abbrev pub asks : Event
asks = frame 0 (join (address 10 0 1 1) (address 10 0 1 2))

abbrev pub JoinIsPassedOn : Type 0
JoinIsPassedOn =
    (slice_get (step second_router asks).emissions 1 ≡ Some (on_link 1 (join (address 10 0 2 1) root)))
    × IsGroupAsked (happened second_router asks ∷ past_after [] (opening second) second_meets) second_router asked_group
