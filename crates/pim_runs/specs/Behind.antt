-- A host of IGMPv2 behind the front of a router whose plane forwards packets to it.
use Rattle.std.{specs.Prelude.{List, [], length, ℕ, ◌++◌, ◌∷◌, ◌≡◌}}
use Rattle.pim_types.{specs.{Keys.star_key, declared.event.Event.Event}}
use Rattle.igmp_older.{specs.{Presence.Present, declared.setting.OlderHosts.OlderHosts}}
use Rattle.law_states.{specs.Documented.{AreRight, Doing, acted, plane_at_opening}}
use Rattle.law_hosts.{specs.Behind.{Fronted, fronted, fronted_at_opening, plain_behind}}
use Rattle.pim_runs.{specs.{ServedChain.{asked_group, hello_from, sent_packet}, Switch.switching, Words.{address, advance, frame, up}, OlderHeld.report_two}}

abbrev pub reported : Event
reported = frame 0 report_two

-- the host reports, and two packets of its group come; the second one is the plane's
abbrev pub forwarded : List Event
forwarded =
    up 7 0 ∷ up 7 1 ∷ up 7 2 ∷ frame 1 (hello_from (address 10 0 1 2)) ∷ frame 2 (hello_from (address 10 0 4 2)) ∷ reported
    ∷ frame 1 sent_packet ∷ frame 1 sent_packet ∷ []

-- time passes quietly, and the host reports again, which is an event of the router's own
abbrev pub reported_again : List Event
reported_again = forwarded ++ (advance 2000 ∷ reported ∷ [])

abbrev pub with_front : Fronted
with_front = fronted_at_opening switching 100 (OlderHosts.All ∷ [])

-- what the plane does, as its router is given it, and what is known then
abbrev pub behind : List Event → List Doing × Present
behind events = fronted with_front (plain_behind with_front events)

-- how many notes the plane owes
abbrev pub owed_after : List Event → ℕ
owed_after events = length ((acted (plane_at_opening switching) (behind events).0).1.split.owed)

-- a note is owed, and told before the next event of the router's own; the front knows of the host from the router's
-- present time on, and the plane keeps its duties
pub record HostBehindPlane : Type 0 where
  pub owes : owed_after forwarded ≡ 1
  pub tells : owed_after reported_again ≡ 0
  pub knows
      : (behind reported_again).1.rows
      ≡ (star_key 0 asked_group, record { one_end = 0; two_end = 262000; look = 262000 }) ∷ []
  pub right : AreRight (plane_at_opening switching) (behind reported_again).0
