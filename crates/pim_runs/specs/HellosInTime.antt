-- Two routers of the chain, of which the first sends its Hellos in time, and one is the DR of their link.
use Rattle.std.{specs.Prelude.{List, [], ◌∷◌}}
use Rattle.pim_types.{specs.declared.event.Event.Event}
use Rattle.pim_model.{specs.Network.{At, Deliver, Move, Network}}
use Rattle.pim_runs.{specs.{InTime.{late, started}, Words.{address, advance, frame, up}, ServedChain.{first, hello_from, second, station}}}
use Rattle.law_streams.{specs.{Adjacent.{Adjacent, HellosInTime, IsKnown}, InTimeJoins.Always, OneDr.{HasDr, KnowEachOther, Seat}}}

abbrev pub adjacent : Adjacent
adjacent = record { lower = 0; iface = 1; link = 1; upper = 1; down = 0; address = address 10 0 1 1 }

abbrev pub first_met : List Event
first_met = up 7 1 ∷ frame 1 (hello_from (address 10 0 1 2)) ∷ []

abbrev pub second_met : List Event
second_met = up 7 0 ∷ frame 0 (hello_from (address 10 0 1 1)) ∷ []

abbrev pub met : Network
met = record {
  stations = station (3 ∷ 1 ∷ []) first first_met ∷ station (1 ∷ 2 ∷ []) second second_met ∷ [];
  frames = [];
}

-- the Hello timers expire, and the first router's Hello is delivered
abbrev pub greets : List Move
greets = At 0 (advance 100) ∷ At 1 (advance 100) ∷ Deliver 1 0 1 7 ∷ []

abbrev pub HellosAreInTime : Type 0
HellosAreInTime = HellosInTime late started adjacent met greets

abbrev pub NeighbourStays : Type 0
NeighbourStays = Always (IsKnown adjacent) met greets

-- each knows the other alone, so that one of them is the DR of the link
abbrev pub seats : List Seat
seats =
    record { state = (station (3 ∷ 1 ∷ []) first first_met).state; iface = 1 }
    ∷ record { state = (station (1 ∷ 2 ∷ []) second second_met).state; iface = 0 } ∷ []

abbrev pub OneIsDr : Type 0
OneIsDr =
    KnowEachOther (station (3 ∷ 1 ∷ []) first first_met).state 1 (station (1 ∷ 2 ∷ []) second second_met).state 0
    × HasDr seats
