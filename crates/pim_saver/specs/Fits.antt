-- Whether what a record says fits the widths in which it is written.
use Rattle.std.{specs.Prelude.{List, length, ℕ, ◌<◌, ◌^◌}}
use Rattle.pim_types.{specs.declared.event.EventKind.EventKind}
use Rattle.pim_saved.{specs.Fits.{FitsAddress, FitsCandidate, FitsInterface, FitsList, FitsMoment, FitsRange, FitsRoute, FitsSettings, FitsWord}}
use Rattle.pim_anycast.{specs.declared.set.RpSet.RpSet}
use Rattle.pim_saver.{specs.{Records.{Call, Guard, Happened, Hosts, Kept, Placed, Record, Reloaded, Seen, Sets, Version}, declared.answered.Answered.Answered}}

abbrev pub FitsBytes : List ℕ → Type 0
FitsBytes bytes = length bytes < 2 ^ 64

abbrev pub FitsEvent : ℕ → EventKind → Type 0
FitsEvent draw (EventKind.Advance moment) = FitsWord draw × FitsMoment moment
FitsEvent draw (EventKind.Frame iface bytes) = FitsWord draw × (FitsWord iface.number × FitsBytes bytes)
FitsEvent draw (EventKind.Unicast bytes) = FitsWord draw × FitsBytes bytes
FitsEvent draw (EventKind.Up iface) = FitsWord draw × FitsWord iface.number
FitsEvent draw (EventKind.Down iface) = FitsWord draw × FitsWord iface.number
FitsEvent draw (EventKind.Routes routes) = FitsWord draw × FitsList FitsRoute routes
FitsEvent draw (EventKind.Rps ranges) = FitsWord draw × FitsList FitsRange ranges
FitsEvent draw (EventKind.RpCandidates candidates) = FitsWord draw × FitsList FitsCandidate candidates

unfoldable pub FitsRpSet : RpSet → Type 0
FitsRpSet set = FitsAddress set.shared × (FitsAddress set.own × FitsList FitsAddress set.others)

abbrev pub FitsCall : Call → Type 0
FitsCall (Happened event) = FitsEvent event.draw event.kind
FitsCall (Reloaded draw settings interfaces addresses routes ranges) =
    FitsWord draw × (FitsSettings settings × (FitsList FitsInterface interfaces × (FitsList FitsAddress addresses
    × (FitsList FitsRoute routes × FitsList FitsRange ranges))))
FitsCall (Placed draw settings interfaces addresses routes ranges places) =
    FitsWord draw × (FitsSettings settings × (FitsList FitsInterface interfaces × (FitsList FitsAddress addresses
    × (FitsList FitsRoute routes × (FitsList FitsRange ranges × FitsList FitsWord places)))))
FitsCall (Seen draw iface source group) =
    FitsWord draw × (FitsWord iface.number × (FitsAddress source × FitsAddress group))
FitsCall (Kept source group moment) = FitsAddress source × (FitsAddress group × FitsMoment moment)
FitsCall (Hosts iface hosts) = FitsWord iface.number × FitsWord hosts
FitsCall (Version iface version) = FitsWord iface.number × FitsWord version
FitsCall (Guard is_on) = FitsWord is_on
FitsCall (Sets sets) = FitsList FitsRpSet sets

abbrev pub FitsAnswered : Answered → Type 0
FitsAnswered a = FitsWord a.answer × FitsWord a.sum

abbrev pub FitsRecord : Record → Type 0
FitsRecord r = FitsCall r.call × FitsAnswered r.answered
