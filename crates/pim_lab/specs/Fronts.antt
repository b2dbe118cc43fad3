-- Routers behind their fronts for older hosts.
use Rattle.std.{specs.Prelude.{◌≡◌, ℕ, List, Option, Some, option_map, Result, Ok}}
use Rattle.pim_ip.{specs.declared.refusal.Refusal.Refusal}
use Rattle.pim_types.{specs.declared.{event.EventKind.EventKind, fact.GroupRecordRow.GroupRecordRow, outcome.Verdict.Verdict}}
use Rattle.pim_model.{specs.{State.State, Tables.Table}}
use Rattle.pim_net.{specs.Showing.Standing}
use Rattle.igmp_older.{specs.{Joined.{FrontedRouter, known_if, noted_answered, older_in}, Presence.{Present, left, looked}}}
use Rattle.pim_bsr.{specs.Hearing.{Around, around_if}}
use Rattle.pim_lab.{specs.declared.front.Mark.Mark}

-- the router hasn't failed, and this is its state
abbrev pub Stands : Option Standing → State → Type 0
Stands standing s = option_map (λ (r : Standing). r.state) standing ≡ Some s

-- what a router answers, if it hasn't failed
abbrev pub around_in : Option Standing → Around
around_in o = around_if (λ (r : Standing). r.state) o

-- a router's state behind what is known of older hosts
abbrev pub behind : Present → State → FrontedRouter
behind p s = record { present = p; state = s }

abbrev pub marked_done : Present → Table GroupRecordRow → Mark → Present
marked_done p groups (Mark.Note i given end) = p
marked_done p groups (Mark.Forget moment) = looked groups moment p
marked_done p groups (Mark.Leave i) = left i.number p
marked_done p groups Mark.Stay = p

abbrev pub marked_if : Present → Table GroupRecordRow → Mark → Result Verdict Refusal → Present
marked_if p groups mark (Ok Verdict.Done) = marked_done p groups mark
marked_if p groups mark _ = p

-- What is known after an answer, by the group records that the router then has, where a packet that was given is of
-- these bytes.
unfoldable pub marked : Present → Table GroupRecordRow → Mark → List ℕ → Result Verdict Refusal → Present
marked p groups (Mark.Note i given end) packet answer = noted_answered p i.number end packet (older_in given) answer
marked p groups (Mark.Forget moment) packet answer = marked_if p groups (Mark.Forget moment) answer
marked p groups (Mark.Leave i) packet answer = marked_if p groups (Mark.Leave i) answer
marked p groups Mark.Stay packet answer = p

-- A mark says how the rows of older hosts become what is known after an event of this kind, whatever the router
-- answers.
abbrev pub IsMarkOf : FrontedRouter → EventKind → Mark → List ℕ → Type 0
IsMarkOf b kind mark packet =
    (after : State) (answer : Result Verdict Refusal)
    → marked b.present after.group_records mark packet answer ≡ known_if b after kind answer
