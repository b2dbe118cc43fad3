-- A running router under another configuration: interfaces that are removed go down, then the configuration is replaced,
-- and what follows of that is done. Sections are those of RFC 7761.
use Rattle.std.{specs.{List.{flat_map, range_with_len}, Prelude.{Bool, List, Option, Some, [], false, filter, length, map, min, not, slice_get, ℕ, ◌&&◌, ◌*◌, ◌++◌, ◌+◌, ◌-◌, ◌==◌, ◌∷◌}}}
use Rattle.pim_types.{specs.{Keys.iface_in, declared.{config.{Config.Config, InterfaceConfig.InterfaceConfig, Settings.Settings}, fact.{AssertRow.AssertRow, Key.Key, QuerierRole.QuerierRole, QuerierRow.QuerierRow}, event.{Event.Event, EventKind.EventKind}, outcome.{Emission.Emission, Outcome.Outcome}}}}
use Rattle.pim_wire.{specs.{Encoded.pim_text, Hellos.{holdtime_option, option_text}}}
use Rattle.pim_model.{specs.{Firing.settled, Messages.Message, Sets.is_winner, State.{Addressing, State, address_among, addressing_of, iface_config, iface_count, interfaces_of, is_up, settings_of}, Step.{ran, rps_replaced}, Tables.{Table, below}, Unicast.with_ranges, Writing.pim_on_link}}

-- ---- what is removed

-- Interface I goes down, in an event with this draw.
abbrev pub down_event : ℕ → ℕ → Event
down_event w i = record { draw = w; kind = EventKind.Down (record { number = i }) }

-- The events by which the interfaces go down that the other configuration doesn't have. Interfaces are numbered in the
-- order of the configuration, so these are the last ones. One that is down already stays as it is.
unfoldable pub removals : State → Config → ℕ → List Event
removals s c w = map (down_event w) (range_with_len (length c.interfaces) (iface_count s - length c.interfaces))

-- ---- queriers

-- The row of a querier under other settings. Where the router is the querier, its robustness and query interval come into
-- force (RFC 3376, sections 8.1 and 8.2), and the next general query leaves within the new query interval, so that each
-- report is asked for again before it is over. Where another router is, its values stay.
abbrev pub row_under : ℕ → Settings → QuerierRow → QuerierRole → QuerierRow
row_under present t q (QuerierRole.Querier next left) = record {
  role = QuerierRole.Querier (min next (present + 1000 * t.query_interval)) (min left t.robustness);
  robustness = t.robustness;
  query_interval = t.query_interval;
}
row_under present t q (QuerierRole.NonQuerier end) = q

unfoldable pub queriers_under : State → Settings → Table QuerierRow
queriers_under s t = map (λ (e : Key × QuerierRow). (e.0, row_under s.present t e.1 (e.1).role)) s.queriers

-- ---- asserts

-- The interface has another address by the other configuration.
abbrev pub is_readdressed : State → Addressing → ℕ → Bool
is_readdressed s configured i = not (address_among s.configured i == address_among configured i)

-- An assert that the router won on such an interface. Its metric names the address of before.
unfoldable pub is_won_before : State → Addressing → Key × AssertRow → Bool
is_won_before s configured e = is_winner (Some e.1) && is_readdressed s configured (iface_in e.0)

-- It is forgotten, as where an interface goes down: the next packet that comes there, or the next Assert, makes another one
-- from the new address (4.6.1, 4.6.2). Nothing is sent for it: the others forget it at the goodbye.
unfoldable pub asserts_under : State → Addressing → Table AssertRow
asserts_under s configured = filter (λ e. not (is_won_before s configured e)) s.asserts

-- ---- what is replaced

-- All facts under another configuration; the candidates stay. Where RP(G) is another one, the registers of G change as RP
-- changed (4.4.1).
-- here: facts stay, whatever the new limit; where they are more, an event that needs new ones is refused
unfoldable pub under : State → Config → State
under s c =
    rps_replaced
    (record s {
      settings = settings_of c;
      configured = addressing_of c;
      routes = c.routes;
      queriers = queriers_under s (settings_of c);
      asserts = asserts_under s (addressing_of c);
    })
    (with_ranges s.ranges c.rps)

-- ---- goodbyes

-- A Hello that holds for no time, with no other option.
abbrev pub goodbye_text : List ℕ
goodbye_text = pim_text 0 (option_text holdtime_option (0 ∷ 0 ∷ []))

-- it leaves on an interface from the address that this one has in the state
unfoldable pub goodbye : State → ℕ → Emission
goodbye s i = pim_on_link (interfaces_of s) i goodbye_text

-- The interface is up, and has another address by the other configuration.
unfoldable pub leaves_address : State → Addressing → ℕ → Bool
leaves_address s configured i = is_up s i && is_readdressed s configured i

-- "Before an interface goes down or changes primary IP address, a Hello message with a zero HoldTime should be sent
-- immediately (with the old IP address if the IP address changed)" (4.3.1): the others forget the neighbour of that
-- address, and what they lost to it.
-- here: not where the interface is removed
unfoldable pub goodbyes : State → Addressing → List Emission
goodbyes s configured = map (goodbye s) (filter (leaves_address s configured) (below (length configured.interfaces)))

-- ---- Hellos

-- A Hello of an interface says the same by both configurations: from the same address the same priority and delays.
unfoldable pub says_same : InterfaceConfig → InterfaceConfig → Bool
says_same a b =
    (a.address.bits == b.address.bits) && (a.priority == b.priority)
    && (a.propagation_delay == b.propagation_delay) && (a.override_interval == b.override_interval)

-- An interface is in both configurations, and its Hello says something else by the second.
abbrev pub says_other : Option InterfaceConfig → Option InterfaceConfig → Bool
says_other (Some a) (Some b) = not (says_same a b)
says_other _ _ = false

-- The interface is up, and its Hello says something else when these are the configured interfaces.
unfoldable pub tells_anew : State → Addressing → ℕ → Bool
tells_anew s configured i = is_up s i && says_other (iface_config s i) (slice_get configured.interfaces i)

-- "After an interface has changed its IP address, it MUST send a Hello message with its new IP address" (4.3.1): the
-- Hello leaves at once. "The Hello Timer should not be reset except when it expires" (4.3.1): it isn't.
-- here: the same for another priority or delay, so that the neighbours elect the DR (4.3.2) and take the delays (4.3.3)
-- by what the router goes by
unfoldable pub hellos_anew : State → Addressing → List Message
hellos_anew s configured = map Message.Hello (filter (tells_anew s configured) (below (length configured.interfaces)))

-- ---- a whole reload

-- The state after the configuration is replaced, with what follows of that, and what that sends.
unfoldable pub replaced : State → Config → ℕ → State × List Emission
replaced s c w = settled s (under s c, hellos_anew s (addressing_of c)) w

-- what outcomes sent, in their order
unfoldable pub sent_by : List Outcome → List Emission
sent_by outcomes = flat_map (λ (o : Outcome). o.emissions) outcomes

-- The state after a reload with another configuration, and what leaves by it: what follows of the removals, goodbyes from
-- the addresses of before, and what follows of the new configuration. The draw is that of each event and of what follows.
unfoldable pub reload : State → Config → ℕ → State × List Emission
reload s c w =
    let gone : List Outcome × State = ran s (removals s c w) in
    let after : State × List Emission = replaced gone.1 c w in
    (after.0, sent_by gone.0 ++ (goodbyes gone.1 (addressing_of c) ++ after.1))
