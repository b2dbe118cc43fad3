-- The nearer of the two routers, over which another joined, hears a packet of the group on that link, or a worse Assert, and asserts. Computed by
-- the kernel.
use Rattle.std.{specs.Prelude.{Some, [], true, ◌++◌, ◌∷◌, ◌≡◌}}
use Rattle.pim_ip.{specs.Addr.addr}
use Rattle.pim_types.{specs.{Keys.star_key, declared.{event.Event.Event, fact.AssertRole.AssertRole}}}
use Rattle.pim_model.{specs.{Sets.metric_of, State.State, Step.step, Tables.row_at}}
use Rattle.pim_runs.{specs.{Base.{base, group, opening_events, source}, Packets.{hello_of_10_0_1_3, packet}, ServedChain.station, Words.{address, frame}}}
use Rattle.law_streams.{specs.Served.renewed}
use Rattle.law_converges.{specs.{Asserting.{Asserts, IsChallenged, IsDuplicate}, LinkAsserts.said, LinkAssertsRun.{better, claim, joins_over}}}

abbrev pub joined : State
joined = (station (10 ∷ 1 ∷ 12 ∷ []) base (opening_events ++ frame 1 hello_of_10_0_1_3 ∷ frame 1 (joins_over (address 10 0 1 1)) ∷ [])).state

-- a packet comes on the link to which it sends the group's packets
abbrev pub comes : Event
comes = frame 1 packet

abbrev pub PacketIsDuplicate : Type 0
PacketIsDuplicate = IsDuplicate (renewed joined group source 1) group source 1

-- or a worse Assert of another router
abbrev pub claims : Event
claims = frame 1 (claim (address 10 0 1 2) 21)

abbrev pub ClaimIsWorse : Type 0
ClaimIsWorse = IsChallenged (record { number = 1 }) (addr (address 10 0 1 2)) (said group 0 (metric_of true 110 21 (address 10 0 1 2))) joined claims

-- By either it asserts, and by the packet it is the winner from then on.
abbrev pub NearerAsserts : Type 0
NearerAsserts =
    Asserts (star_key 1 group) 1 group 0 joined (renewed joined group source 1) comes
    × Asserts (star_key 1 group) 1 group 0 joined joined claims
    × (row_at ((step joined comes).state).asserts (star_key 1 group) ≡ Some (record { role = AssertRole.Winner; winner = better; end = 177000 }))
