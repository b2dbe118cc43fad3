-- Worked runs of the querier's values, and of group membership on interface 2.
use Rattle.std.{specs.Prelude.{List, None, Some, map, true, ℕ, [], ◌≡◌, ◌∷◌, ◌++◌}}
use Rattle.pim_ip.{specs.Addr.addr}
use Rattle.pim_types.{specs.{declared.event.Event.Event, Keys.{source_key, star_key}}}
use Rattle.pim_rows.{specs.{declared.table.{Row.Row, Table.Table}, Printed.rows}}
use Rattle.pim_model.{specs.{Querier.group_membership_interval, State.State, Step.{run, state_after}}}
use Rattle.pim_runs.{specs.{Base.{after, group, host}, Packets.{query_of_robustness_3, source_query_on_2, to_exclude_two}, Words.{address, advance, frame, queries_on}}}

-- 10.0.0.1 queries on 0 from the lower address, with robustness 3 and interval 60 s: a membership lasts 190 s.
abbrev pub MembershipLastsAsAdopted : Type 0
MembershipLastsAsAdopted = group_membership_interval (after (frame 0 query_of_robustness_3 ∷ [])) 0 ≡ 190000

-- rows of the group on 2: EXCLUDE until an end, a source until an end, an excluded source
abbrev pub excluding_until : ℕ → Row
excluding_until end = Row.Group (record { number = 2 }) (addr group) true (Some end)

abbrev pub source_until : ℕ → ℕ → Row
source_until end src = Row.Source (record { number = 2 }) (addr group) (addr src) (Some end)

abbrev pub excluded : ℕ → Row
excluded src = Row.Source (record { number = 2 }) (addr group) (addr src) None

-- at 60000 the group is EXCLUDE({10.0.2.3}, {10.0.2.4}) on 2, its timer ends as given, that of 10.0.2.3 at 90000
abbrev pub excluding_at_60000 : ℕ → State
excluding_at_60000 end = record (after (advance 60000 ∷ [])) {
  group_records = (star_key 2 group, record { end = Some end }) ∷ [];
  source_records =
      (source_key 2 group (address 10 0 2 3), record { end = Some 90000 })
      ∷ (source_key 2 group (address 10 0 2 4), record { end = None }) ∷ [];
}

-- the rows of groups and sources after events
abbrev pub records_after : State → List Event → List Row
records_after s events =
    let last : State = state_after s events in
    rows last Table.Groups ++ rows last Table.Sources

-- At 60000 the group is EXCLUDE({10.0.2.3}, {10.0.2.4}), and TO_EX({10.0.2.4, 10.0.2.5}) comes: 10.0.2.3 goes, and
-- 10.0.2.5 gets the group timer's end. Where that is later than 2 s ahead, it is lowered to 2 s and queried twice.
abbrev pub NewSourceGetsTheGroupTimer : Type 0
NewSourceGetsTheGroupTimer =
    (map (queries_on 2) (run (excluding_at_60000 100000) (frame 2 to_exclude_two ∷ advance 60999 ∷ advance 61000 ∷ advance 61999 ∷ []))
    ≡ (source_query_on_2 ∷ []) ∷ [] ∷ (source_query_on_2 ∷ []) ∷ [] ∷ [])
    × (records_after (excluding_at_60000 100000) (frame 2 to_exclude_two ∷ [])
    ≡ excluding_until 320000 ∷ excluded (address 10 0 2 4) ∷ source_until 62000 host ∷ [])

-- Where the group timer expires at most 2 s ahead, a new source's timer isn't lowered, and no query leaves.
abbrev pub NewSourceThatEndsSoonIsNotAskedFor : Type 0
NewSourceThatEndsSoonIsNotAskedFor =
    (map (queries_on 2) (run (excluding_at_60000 61500) (frame 2 to_exclude_two ∷ advance 61499 ∷ []))
    ≡ [] ∷ [] ∷ [])
    × (records_after (excluding_at_60000 61500) (frame 2 to_exclude_two ∷ [])
    ≡ excluding_until 320000 ∷ excluded (address 10 0 2 4) ∷ source_until 61500 host ∷ [])
