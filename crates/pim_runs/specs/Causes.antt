-- Worked causes: what is the cause of a copy, and until when.
use Rattle.std.{specs.Prelude.{Bool, List, [], false, true, ℕ, ◌++◌, ◌≡◌, ◌∷◌}}
use Rattle.pim_types.{specs.declared.event.Event.Event}
use Rattle.pim_model.{specs.{Cause.{Past, copies_in, has_cause, past_after}, Judging.last_moment, State.opening, Step.run}}
use Rattle.pim_runs.{specs.{Base.{after, base, group, host, opening_events, source}, Packets.{allow_source, copy_on_1, copy_on_2, hello_of_10_0_0_9, join_source, join_source_for_1_s, join_source_forever, join_source_up, join_star, join_star_beside, join_star_of_other_rp, packet, prune_star, to_exclude}, Words.{advance, done_with_copies, down, frame, up}}}

-- the base router's events and further ones, the latest first
abbrev pub past_of : List Event → Past
past_of events = past_after [] (opening base) (opening_events ++ events)

-- After further events a source has a cause on an interface, at a timestamp.
abbrev pub is_caused : List Event → ℕ → ℕ → ℕ → Bool
is_caused events now i src = has_cause (past_of events) now i group src

-- the source is joined on 1 for a second
abbrev pub joined_for_1_s : List Event
joined_for_1_s = frame 1 join_source_for_1_s ∷ advance 999 ∷ []

-- The Join is the cause of a copy in its last millisecond; were it a millisecond older, it wouldn't be. It is a cause
-- for no other source, and on no other interface.
abbrev pub JoinIsTheCause : Type 0
JoinIsTheCause =
    (run (after joined_for_1_s) (frame 0 packet ∷ []) ≡ done_with_copies 1 (copy_on_1 ∷ []) ∷ [])
    × (is_caused joined_for_1_s 999 1 source ≡ true)
    × (is_caused joined_for_1_s 1000 1 source ≡ false)
    × (is_caused joined_for_1_s 999 1 host ≡ false)
    × (is_caused joined_for_1_s 999 2 source ≡ false)

-- an ALLOW of the source on 2
abbrev pub allowed : List Event
allowed = frame 2 allow_source ∷ advance 259999 ∷ []

-- A report is a cause for 260 s: an ALLOW for its source, a TO_EX for any.
abbrev pub ReportIsTheCause : Type 0
ReportIsTheCause =
    (run (after allowed) (frame 0 packet ∷ []) ≡ done_with_copies 1 (copy_on_2 ∷ []) ∷ [])
    × (is_caused allowed 259999 2 source ≡ true)
    × (is_caused allowed 260000 2 source ≡ false)
    × (is_caused allowed 259999 2 host ≡ false)
    × (is_caused (frame 2 to_exclude ∷ []) 259999 2 host ≡ true)
    × (is_caused (frame 2 to_exclude ∷ []) 260000 2 host ≡ false)

-- A Join(*,G) is a cause for any source where it names the RP, a Join with holdtime 65535 for ever; a Prune is none,
-- and neither is a Join to another router.
abbrev pub OtherJoinsAsk : Type 0
OtherJoinsAsk =
    (is_caused (frame 1 join_star ∷ []) 0 1 host ≡ true)
    × (is_caused (frame 1 join_star_of_other_rp ∷ []) 0 1 host ≡ false)
    × (is_caused (frame 1 join_source_forever ∷ []) last_moment 1 source ≡ true)
    × (is_caused (frame 1 prune_star ∷ []) 0 1 host ≡ false)
    × (is_caused (frame 0 hello_of_10_0_0_9 ∷ frame 0 join_star_beside ∷ []) 0 0 host ≡ false)

-- Causes on an interface are gone when it goes down, also where it goes up again.
abbrev pub DownEndsTheCause : Type 0
DownEndsTheCause =
    (is_caused (frame 1 join_source ∷ down 1 ∷ up 7 1 ∷ []) 0 1 source ≡ false)
    × (is_caused (frame 1 join_source ∷ down 2 ∷ []) 0 1 source ≡ true)

-- The copies of an outcome stand behind its messages.
abbrev pub CopiesStandLast : Type 0
CopiesStandLast =
    (copies_in (done_with_copies 1 (join_source_up ∷ copy_on_2 ∷ [])) ≡ copy_on_2 ∷ [])
    × (copies_in (done_with_copies 0 (join_source_up ∷ [])) ≡ [])
