-- What a document has to say for a scenario to be read from it.
use Rattle.std.{specs.{Prelude.{◌≡◌, ◌≢◌, ◌≤◌, ◌++◌, ◌⊎◌, ℕ, Bool, true, false, String, List, [], ◌∷◌, codes, length, Option, Some, None, option_and_then, option_map, if◌then◌else◌, nat_le, string_bytes, position, ◌==◌, ◌&&◌}, List.{All, AllPairs, AllZip, fold}, Option.is_some, Str.bytes_eq}}
use Rattle.toml.{specs.{Parse.parse_document, Data.{Data, Members, as_str, as_table}}}
use Rattle.pim_ip.{specs.declared.addr.Addr.Addr}
use Rattle.pim_types.{specs.declared.{config.{Config.Config, InterfaceConfig.InterfaceConfig, Route.Route, RpCandidate.RpCandidate, RpRange.RpRange, SptSwitch.{SptSwitch, TheVariants.{Always, Never}}}, event.EventKind.EventKind}}
use Rattle.igmp_older.{specs.declared.setting.{OlderHosts.OlderHosts, QueryVersion.QueryVersion}}
use Rattle.pim_anycast.{specs.declared.set.RpSet.RpSet}
use Rattle.pim_bsr.{specs.declared.choice.Choice.Choice}
use Rattle.pim_scenario.{specs.{declared.scenario.{ConfigText.ConfigText, FrontText.FrontText, Link.Link, RouterText.RouterText, ScenarioMove.{ScenarioMove, TheVariants.{Event, Deliver, Carry, Reload, Restart, Settle}}, Scenario.Scenario}, Fields.{has_only, table_at, text_at, optional_text, number_at, number_or, flag_or, moment_at, list_at, list_or_empty}, Texts.{IsNumberText, IsAddressText, IsPrefixText, hex_of}, Standing.IsStanding, Words.AreWords}}
use Rattle.pim_types.specs.declared.event.EventKind.TheVariants as event

-- ---- own addresses, routes and RP ranges

-- the value is a text, which writes the address
abbrev pub WritesAddress : Data → Addr → Type 0
WritesAddress d a = (text : List ℕ) × (as_str d ≡ Some text) × IsAddressText text a

-- the text is the number of an interface, or `none`
abbrev pub IsPlaceText : List ℕ → Option ℕ → Type 0
IsPlaceText text None = text ≡ codes "none"
IsPlaceText text (Some n) = IsNumberText text n

-- the value is a text, which writes where an interface goes
abbrev pub WritesPlace : Data → Option ℕ → Type 0
WritesPlace d p = (text : List ℕ) × (as_str d ≡ Some text) × IsPlaceText text p

-- `prefix nexthop iface preference metric`
pub record IsRouteOf (prefix next_hop iface preference metric : List ℕ) (r : Route) : Type 0 where
  pub prefix_text : IsPrefixText prefix r.prefix
  pub next_hop_text : IsAddressText next_hop r.next_hop
  pub iface_text : IsNumberText iface r.iface.number
  pub preference_text : IsNumberText preference r.preference
  pub metric_text : IsNumberText metric r.metric

-- The five words of a route: prefix, next hop, interface, preference, metric.
abbrev pub AreRouteWords : List (List ℕ) → Route → Type 0
AreRouteWords (prefix ∷ next_hop ∷ iface ∷ preference ∷ metric ∷ []) r =
    IsRouteOf prefix next_hop iface preference metric r
AreRouteWords _ r = ⊥

-- `prefix rp`
abbrev pub AreRpWords : List (List ℕ) → RpRange → Type 0
AreRpWords (prefix ∷ rp ∷ []) r = IsPrefixText prefix r.prefix × IsAddressText rp r.rp
AreRpWords _ r = ⊥

-- `prefix rp priority mask`
pub record IsCandidateOf (prefix rp priority mask : List ℕ) (c : RpCandidate) : Type 0 where
  pub prefix_text : IsPrefixText prefix c.prefix
  pub rp_text : IsAddressText rp c.rp
  pub priority_text : IsNumberText priority c.priority
  pub mask_text : IsNumberText mask c.hash_length

-- The four words of a candidate RP: prefix, RP, priority, length of the hash mask.
abbrev pub AreCandidateWords : List (List ℕ) → RpCandidate → Type 0
AreCandidateWords (prefix ∷ rp ∷ priority ∷ mask ∷ []) c = IsCandidateOf prefix rp priority mask c
AreCandidateWords _ c = ⊥

-- `shared own other ..`, with any number of others
abbrev pub AreSetWords : List (List ℕ) → RpSet → Type 0
AreSetWords (shared ∷ own ∷ others) s =
    IsAddressText shared s.shared × IsAddressText own s.own × AllZip IsAddressText others s.others
AreSetWords _ s = ⊥

-- the value is a text, and its words are read so
pub record IsText {X : Type 0} (Say : List (List ℕ) → X → Type 0) (d : Data) (x : X) : Type 0 where
  pub text : List ℕ
  pub words : List (List ℕ)
  pub is_text : as_str d ≡ Some text
  pub are_words : AreWords text words
  pub say : Say words x

-- the value is a table, and is read so
abbrev pub IsTable : {X : Type 0} → (Members → X → Type 0) → Data → X → Type 0
IsTable Says d x = (ms : Members) × (as_table d ≡ Some ms) × Says ms x

-- a list was read value by value
abbrev pub AreRead : {X : Type 0} → (Data → X → Type 0) → Option (List Data) → List X → Type 0
AreRead Says values xs = (ds : List Data) × (values ≡ Some ds) × AllZip Says ds xs

-- ---- routers

abbrev pub interface_keys : List (List ℕ)
interface_keys = codes "link" ∷ codes "address" ∷ codes "priority" ∷ codes "propagation" ∷ codes "override" ∷ []

-- A table `iface` is an interface of a configuration.
pub record IsInterface (ms : Members) (i : InterfaceConfig) : Type 0 where
  pub keys : has_only interface_keys ms ≡ true
  pub subnet_text : List ℕ
  pub subnet_at : text_at (codes "address") ms ≡ Some subnet_text
  pub subnet : IsPrefixText subnet_text (record { address = i.address; length = i.length })
  pub priority : number_or 1 (codes "priority") ms ≡ Some i.priority
  pub propagation_delay : number_or 500 (codes "propagation") ms ≡ Some i.propagation_delay
  pub override_interval : number_or 2500 (codes "override") ms ≡ Some i.override_interval

-- A table `iface` names the link of its interface.
abbrev pub IsLink : Members → Link → Type 0
IsLink ms l = text_at (codes "link") ms ≡ Some (string_bytes l.name)

abbrev pub spt_switch_named : Option (List ℕ) → Option SptSwitch
spt_switch_named None = Some Always
spt_switch_named (Some name) =
    if bytes_eq name (codes "always") then Some Always
    else (if bytes_eq name (codes "never") then Some Never else None)

abbrev pub spt_switch_at : Members → Option SptSwitch
spt_switch_at ms = option_and_then spt_switch_named (optional_text (codes "spt") ms)

-- A table `router` is a configuration.
pub record IsConfig (ms : Members) (c : Config) : Type 0 where
  pub limit : number_or 65536 (codes "limit") ms ≡ Some c.limit
  pub spt : spt_switch_at ms ≡ Some c.spt
  pub robustness : number_or 2 (codes "rv") ms ≡ Some c.robustness
  pub query_interval : number_or 125 (codes "qi") ms ≡ Some c.query_interval
  pub query_response_interval : number_or 100 (codes "qri") ms ≡ Some c.query_response_interval
  pub last_member_query_interval : number_or 10 (codes "lmqi") ms ≡ Some c.last_member_query_interval
  pub addresses : AreRead WritesAddress (list_or_empty (codes "addresses") ms) c.addresses
  pub routes : AreRead (IsText AreRouteWords) (list_or_empty (codes "routes") ms) c.routes
  pub rps : AreRead (IsText AreRpWords) (list_or_empty (codes "rps") ms) c.rps

abbrev pub older_hosts_named : Option (List ℕ) → Option OlderHosts
older_hosts_named None = Some OlderHosts.Nobody
older_hosts_named (Some name) =
    if bytes_eq name (codes "none") then Some OlderHosts.Nobody
    else (if bytes_eq name (codes "v2") then Some OlderHosts.VersionTwo
    else (if bytes_eq name (codes "all") then Some OlderHosts.All else None))

abbrev pub older_hosts_at : Members → Option OlderHosts
older_hosts_at ms = option_and_then older_hosts_named (optional_text (codes "older_hosts") ms)

abbrev pub query_version_numbered : ℕ → Option QueryVersion
query_version_numbered n =
    if n == 2 then Some QueryVersion.Two else (if n == 3 then Some QueryVersion.Three else None)

abbrev pub query_version_at : Members → Option QueryVersion
query_version_at ms = option_and_then query_version_numbered (number_or 3 (codes "query_version") ms)

abbrev pub guard_named : Option (List ℕ) → Option Bool
guard_named None = Some false
guard_named (Some name) =
    if bytes_eq name (codes "off") then Some false
    else (if bytes_eq name (codes "on") then Some true else None)

abbrev pub guard_at : Members → Option Bool
guard_at ms = option_and_then guard_named (optional_text (codes "guard") ms)

-- a limit on the RPs that are kept
abbrev pub rp_limit_numbered : ℕ → Option ℕ
rp_limit_numbered n = if nat_le 1 n && nat_le n 256 then Some n else None

abbrev pub rp_limit_at : Members → Option ℕ
rp_limit_at ms = option_and_then rp_limit_numbered (number_or 256 (codes "rp_limit") ms)

-- whether Bootstraps are heard
abbrev pub bsr_at : Members → Option Bool
bsr_at ms = flag_or false (codes "bsr") ms

abbrev pub choice_named : Option (List ℕ) → Option Choice
choice_named None = Some Choice.Range
choice_named (Some name) =
    if bytes_eq name (codes "range") then Some Choice.Range
    else (if bytes_eq name (codes "group") then Some Choice.Group else None)

-- what a learned RP is chosen for
abbrev pub choice_at : Members → Option Choice
choice_at ms = option_and_then choice_named (optional_text (codes "choice") ms)

-- what stands before a router
abbrev pub front_at : Members → Option FrontText
front_at ms =
    option_and_then (λ hosts.
    option_and_then (λ version.
    option_and_then (λ guard.
    option_and_then (λ bsr.
    option_and_then (λ limit.
    option_map (λ choice. record {
      older_hosts = hosts;
      query_version = version;
      guard = guard;
      bsr = bsr;
      rp_limit = limit;
      choice = choice;
    })
    (choice_at ms)) (rp_limit_at ms)) (bsr_at ms)) (guard_at ms)) (query_version_at ms)) (older_hosts_at ms)

abbrev pub router_keys : List (List ℕ)
router_keys =
    codes "name" ∷ codes "iface" ∷ codes "limit" ∷ codes "spt" ∷ codes "rv" ∷ codes "qi" ∷ codes "qri"
    ∷ codes "lmqi" ∷ codes "older_hosts" ∷ codes "query_version" ∷ codes "guard"
    ∷ codes "anycast" ∷ codes "bsr" ∷ codes "rp_limit" ∷ codes "choice" ∷ codes "candidate_bsr" ∷ codes "candidate_rp"
    ∷ codes "addresses" ∷ codes "routes" ∷ codes "rps" ∷ []

-- A table `router` is a router with its name, its links and its configuration.
pub record IsRouter (ms : Members) (r : RouterText) : Type 0 where
  pub keys : has_only router_keys ms ≡ true
  pub name : text_at (codes "name") ms ≡ Some (string_bytes r.name)
  pub interfaces : AreRead (IsTable IsInterface) (list_at (codes "iface") ms) r.config.interfaces
  pub links : AreRead (IsTable IsLink) (list_at (codes "iface") ms) r.links
  pub config : IsConfig ms r.config
  pub front : front_at ms ≡ Some r.front
  pub sets : AreRead (IsText AreSetWords) (list_or_empty (codes "anycast") ms) r.sets
  pub standing : IsStanding ms r.standing

-- ---- another configuration of a router

-- a router's keys but its name
abbrev pub config_keys : List (List ℕ)
config_keys =
    codes "iface" ∷ codes "limit" ∷ codes "spt" ∷ codes "rv" ∷ codes "qi" ∷ codes "qri" ∷ codes "lmqi"
    ∷ codes "older_hosts" ∷ codes "query_version" ∷ codes "guard" ∷ codes "anycast" ∷ codes "bsr"
    ∷ codes "rp_limit" ∷ codes "choice" ∷ codes "candidate_bsr" ∷ codes "candidate_rp" ∷ codes "addresses"
    ∷ codes "routes" ∷ codes "rps" ∷ []

abbrev pub NamesLink : {Z : Type 0} → Members → String Z → Type 0
NamesLink ms name = text_at (codes "link") ms ≡ Some (string_bytes name)

-- A table `config` is another configuration of a router, with its links.
pub record IsConfigText (ms : Members) (c : ConfigText) : Type 0 where
  pub keys : has_only config_keys ms ≡ true
  pub interfaces : AreRead (IsTable IsInterface) (list_at (codes "iface") ms) c.config.interfaces
  pub links : AreRead (IsTable NamesLink) (list_at (codes "iface") ms) c.links
  pub config : IsConfig ms c.config
  pub front : front_at ms ≡ Some c.front
  pub sets : AreRead (IsText AreSetWords) (list_or_empty (codes "anycast") ms) c.sets
  pub standing : IsStanding ms c.standing

-- ---- the routers of a scenario

-- the place of a name
abbrev pub place_in : List (List ℕ) → List ℕ → Option ℕ
place_in names name = position (λ n. bytes_eq n name) names

-- the names, and this one at the end where it is new
abbrev pub with_name : List (List ℕ) → List ℕ → List (List ℕ)
with_name names name = if is_some (place_in names name) then names else names ++ name ∷ []

-- the names, and those of the links that are new, in their order
abbrev pub names_after : List (List ℕ) → List Link → List (List ℕ)
names_after names links = fold (λ ns l. with_name ns (string_bytes l.name)) names links

-- the names of all links, each once, in the order in which they are first named
abbrev pub link_names : List RouterText → List (List ℕ)
link_names routers = fold (λ ns r. names_after ns r.links) [] routers

-- the link goes by the place of its name
abbrev pub IsNumbered : List (List ℕ) → Link → Type 0
IsNumbered names l = place_in names (string_bytes l.name) ≡ Some l.number

abbrev pub HasNumbered : List (List ℕ) → RouterText → Type 0
HasNumbered names r = All (IsNumbered names) r.links

-- the links go by the places of their names among all
abbrev pub HaveNumberedLinks : List RouterText → Type 0
HaveNumberedLinks routers = All (HasNumbered (link_names routers)) routers

-- no two routers have one name
abbrev pub HaveOwnNames : List RouterText → Type 0
HaveOwnNames routers = AllPairs (λ a b. string_bytes a.name ≢ string_bytes b.name) routers

-- the values are at most 64 routers, each with a name of its own, and the links of all are numbered
pub record AreRouters (ds : List Data) (routers : List RouterText) : Type 0 where
  pub tables : AllZip (IsTable IsRouter) ds routers
  pub count : length routers ≤ 64
  pub names : HaveOwnNames routers
  pub links : HaveNumberedLinks routers

-- ---- moves

-- the place of the router of that name
abbrev pub place_of : List RouterText → List ℕ → Option ℕ
place_of routers name = position (λ r. bytes_eq (string_bytes r.name) name) routers

-- the keys of a move, by what it says of the router
abbrev pub iface_keys : List (List ℕ)
iface_keys = codes "do" ∷ codes "router" ∷ codes "draw" ∷ codes "iface" ∷ []

abbrev pub advance_keys : List (List ℕ)
advance_keys = codes "do" ∷ codes "router" ∷ codes "draw" ∷ codes "moment" ∷ []

abbrev pub list_keys : List (List ℕ)
list_keys = codes "do" ∷ codes "router" ∷ codes "draw" ∷ codes "list" ∷ []

abbrev pub frame_keys : List (List ℕ)
frame_keys = codes "do" ∷ codes "router" ∷ codes "draw" ∷ codes "iface" ∷ codes "hex" ∷ []

abbrev pub unicast_keys : List (List ℕ)
unicast_keys = codes "do" ∷ codes "router" ∷ codes "draw" ∷ codes "hex" ∷ []

abbrev pub deliver_keys : List (List ℕ)
deliver_keys = codes "do" ∷ codes "router" ∷ codes "draw" ∷ codes "iface" ∷ codes "frame" ∷ []

abbrev pub carry_keys : List (List ℕ)
carry_keys = codes "do" ∷ codes "router" ∷ codes "draw" ∷ codes "frame" ∷ []

-- a settle is of no router
abbrev pub settle_keys : List (List ℕ)
settle_keys = codes "do" ∷ codes "draw" ∷ []

abbrev pub restart_keys : List (List ℕ)
restart_keys = codes "do" ∷ codes "router" ∷ []

abbrev pub reload_keys : List (List ℕ)
reload_keys = codes "do" ∷ codes "router" ∷ codes "draw" ∷ codes "config" ∷ codes "places" ∷ []

abbrev pub bytes_at : Members → Option (List ℕ)
bytes_at ms = option_and_then hex_of (text_at (codes "hex") ms)

-- A table `move` is an event by which time passes.
abbrev pub IsAdvance : Members → EventKind → Type 0
IsAdvance ms (event.Advance moment) =
    (has_only advance_keys ms ≡ true) × (moment_at (codes "moment") ms ≡ Some moment)
IsAdvance ms _ = ⊥

-- A table `move` is an event by which an interface goes up.
abbrev pub IsUp : Members → EventKind → Type 0
IsUp ms (event.Up iface) =
    (has_only iface_keys ms ≡ true) × (number_at (codes "iface") ms ≡ Some iface.number)
IsUp ms _ = ⊥

-- A table `move` is an event by which an interface goes down.
abbrev pub IsDown : Members → EventKind → Type 0
IsDown ms (event.Down iface) =
    (has_only iface_keys ms ≡ true) × (number_at (codes "iface") ms ≡ Some iface.number)
IsDown ms _ = ⊥

-- A table `move` is an event that brings new routes.
abbrev pub IsRoutes : Members → EventKind → Type 0
IsRoutes ms (event.Routes routes) =
    (has_only list_keys ms ≡ true) × AreRead (IsText AreRouteWords) (list_at (codes "list") ms) routes
IsRoutes ms _ = ⊥

-- A table `move` is an event that brings new RP ranges.
abbrev pub IsRps : Members → EventKind → Type 0
IsRps ms (event.Rps rps) =
    (has_only list_keys ms ≡ true) × AreRead (IsText AreRpWords) (list_at (codes "list") ms) rps
IsRps ms _ = ⊥

-- A table `move` is an event that brings new candidate RPs.
abbrev pub IsCandidates : Members → EventKind → Type 0
IsCandidates ms (event.RpCandidates candidates) =
    (has_only list_keys ms ≡ true) × AreRead (IsText AreCandidateWords) (list_at (codes "list") ms) candidates
IsCandidates ms _ = ⊥

-- A table `move` is a packet that comes on an interface.
abbrev pub IsFrame : Members → EventKind → Type 0
IsFrame ms (event.Frame iface bytes) =
    (has_only frame_keys ms ≡ true) × (number_at (codes "iface") ms ≡ Some iface.number) × (bytes_at ms ≡ Some bytes)
IsFrame ms _ = ⊥

-- A table `move` is a packet that comes to an address of the router.
abbrev pub IsUnicast : Members → EventKind → Type 0
IsUnicast ms (event.Unicast bytes) = (has_only unicast_keys ms ≡ true) × (bytes_at ms ≡ Some bytes)
IsUnicast ms _ = ⊥

-- the move is of that name, and says so
abbrev pub IsNamed : {X : Type 0} → List ℕ → (Members → X → Type 0) → Members → X → Type 0
IsNamed name Says ms x = (text_at (codes "do") ms ≡ Some name) × Says ms x

-- what happens to the router, by the name at `do`
abbrev pub IsKind : Members → EventKind → Type 0
IsKind ms kind =
    IsNamed (codes "advance") IsAdvance ms kind
    ⊎ (IsNamed (codes "up") IsUp ms kind
    ⊎ (IsNamed (codes "down") IsDown ms kind
    ⊎ (IsNamed (codes "routes") IsRoutes ms kind
    ⊎ (IsNamed (codes "rps") IsRps ms kind
    ⊎ (IsNamed (codes "candidates") IsCandidates ms kind
    ⊎ (IsNamed (codes "frame") IsFrame ms kind
    ⊎ IsNamed (codes "unicast") IsUnicast ms kind))))))

-- the place of the router that the move names
abbrev pub router_at : List RouterText → Members → Option ℕ
router_at routers ms = option_and_then (place_of routers) (text_at (codes "router") ms)

abbrev pub draw_at : Members → Option ℕ
draw_at ms = number_or 0 (codes "draw") ms

-- A table `move` is an event at a router.
abbrev pub IsEvent : List RouterText → Members → ScenarioMove → Type 0
IsEvent routers ms (Event router e) =
    (router_at routers ms ≡ Some router) × (draw_at ms ≡ Some e.draw) × IsKind ms e.kind
IsEvent routers ms _ = ⊥

-- A table `move` delivers a frame to an interface of a router.
abbrev pub IsDeliver : List RouterText → Members → ScenarioMove → Type 0
IsDeliver routers ms (Deliver router iface frame draw) =
    (has_only deliver_keys ms ≡ true) × (router_at routers ms ≡ Some router)
    × (number_at (codes "iface") ms ≡ Some iface.number) × (number_at (codes "frame") ms ≡ Some frame)
    × (draw_at ms ≡ Some draw)
IsDeliver routers ms _ = ⊥

-- A table `move` delivers a unicast packet to a router.
abbrev pub IsCarry : List RouterText → Members → ScenarioMove → Type 0
IsCarry routers ms (Carry router frame draw) =
    (has_only carry_keys ms ≡ true) × (router_at routers ms ≡ Some router)
    × (number_at (codes "frame") ms ≡ Some frame) × (draw_at ms ≡ Some draw)
IsCarry routers ms _ = ⊥

-- A table `move` delivers all that waits.
abbrev pub IsSettle : Members → ScenarioMove → Type 0
IsSettle ms (Settle draw) = (has_only settle_keys ms ≡ true) × (draw_at ms ≡ Some draw)
IsSettle ms _ = ⊥

-- A table `move` restarts a router from its saved state.
abbrev pub IsRestart : List RouterText → Members → ScenarioMove → Type 0
IsRestart routers ms (Restart router) = (has_only restart_keys ms ≡ true) × (router_at routers ms ≡ Some router)
IsRestart routers ms _ = ⊥

-- the table at `config` says the configuration
abbrev pub IsConfigAt : Members → ConfigText → Type 0
IsConfigAt ms c = (inner : Members) × (table_at (codes "config") ms ≡ Some inner) × IsConfigText inner c

-- A table `move` puts a router under another configuration, by a map of places where it has one.
abbrev pub IsReload : List RouterText → Members → ScenarioMove → Type 0
IsReload routers ms (Reload router draw next places) =
    (has_only reload_keys ms ≡ true) × (router_at routers ms ≡ Some router) × (draw_at ms ≡ Some draw)
    × IsConfigAt ms next × AreRead WritesPlace (list_or_empty (codes "places") ms) places
IsReload routers ms _ = ⊥

-- what the scenario asks for, by the name at `do`
abbrev pub IsMove : List RouterText → Members → ScenarioMove → Type 0
IsMove routers ms m =
    IsNamed (codes "deliver") (IsDeliver routers) ms m
    ⊎ (IsNamed (codes "carry") (IsCarry routers) ms m
    ⊎ (IsNamed (codes "settle") IsSettle ms m
    ⊎ (IsNamed (codes "restart") (IsRestart routers) ms m
    ⊎ (IsNamed (codes "reload") (IsReload routers) ms m
    ⊎ IsEvent routers ms m))))

-- ---- the scenario

-- A TOML document is a scenario: its routers, and then its moves.
pub record IsScenario (ms : Members) (s : Scenario) : Type 0 where
  pub keys : has_only (codes "router" ∷ codes "move" ∷ []) ms ≡ true
  pub routers : (ds : List Data) × (list_or_empty (codes "router") ms ≡ Some ds) × AreRouters ds s.routers
  pub moves : AreRead (IsTable (IsMove s.routers)) (list_or_empty (codes "move") ms) s.moves

-- the text is a document that says what the scenario is
abbrev pub IsReadFrom : List ℕ → Scenario → Type 0
IsReadFrom text s = (ms : Members) × (parse_document text ≡ Some ms) × IsScenario ms s
