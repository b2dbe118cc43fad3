-- The event that a borrowed event stands for.
use Rattle.pim_types.{specs.declared.event.EventKind.EventKind}
use Rattle.pim_intake.{specs.declared.lent.LentKind.LentKind}

-- a lent event's kind as that of an event
unfoldable pub event_kind : LentKind → EventKind
event_kind (LentKind.Advance moment) = EventKind.Advance moment
event_kind (LentKind.Frame iface bytes) = EventKind.Frame iface bytes
event_kind (LentKind.Unicast bytes) = EventKind.Unicast bytes
event_kind (LentKind.Up iface) = EventKind.Up iface
event_kind (LentKind.Down iface) = EventKind.Down iface
event_kind (LentKind.Routes routes) = EventKind.Routes routes
event_kind (LentKind.Rps rps) = EventKind.Rps rps
event_kind (LentKind.RpCandidates candidates) = EventKind.RpCandidates candidates
