-- A packet that came on a link, beside what the front asks of the router (RFC 5059, section 3.1.3): whether it is a
-- Bootstrap that counts, what is known after it, and what is sent on.
use Rattle.std.{specs.{Cmp.Lexicographic.pointwise, Option.option_map_or, Prelude.{ℕ, Bool, true, false, ◌+◌, ◌==◌, ◌&&◌, nat_le, nat_lt, not, if◌then◌else◌, List, [], ◌∷◌, filter, length, map, option_and_then, Option, Some, None, Result, Ok, Err}}}
use Rattle.pim_ip.{specs.{Addr.addr, Ipv4.{Packet, all_pim_routers, ipv4_reading, pim_packet_text, protocol_pim}, declared.refusal.Refusal.Refusal}}
use Rattle.pim_types.{specs.declared.{outcome.Emission.Emission, path.Hop.Hop}}
use Rattle.pim_wire.{specs.Encoded.pim_type_of}
use Rattle.pim_model.{specs.{Neighbours.{is_neighbour, nbr, neighbour_count}, State.{State, iface_count, is_own, my_address}, Tables.below, Unicast.route, Writing.on_link}}
use Rattle.pim_bootstrap.{specs.Bootstraps.{Bootstrap, BootstrapRange, bootstrap_reading}}
use Rattle.pim_bsr.{specs.{Table.{Known, bs_timeout, kept_count, may_elect, moves, room, with_message}, declared.heard.{Heard.Heard, Why.Why}}}

-- What the front asks of the router: the present timestamp in ms; whether an address is the router's; whether there is a
-- neighbour with an address on an interface; RPF_neighbor of an address; how many interfaces are configured; whether there
-- are neighbours on one, and the router's address there.
pub record Around : Type 0 where
  pub present : ℕ
  pub own : ℕ → Bool
  pub neighbour : ℕ → ℕ → Bool
  pub hop : ℕ → Option Hop
  pub count : ℕ
  pub linked : ℕ → Bool
  pub address : ℕ → ℕ

-- RPF_neighbor of an address, by the router's routes and neighbours
unfoldable pub rpf_hop : State → ℕ → Option Hop
rpf_hop s address = nbr s (route s address)

-- what a router in a state answers
abbrev pub around_of : State → Around
around_of s = record {
  present = s.present;
  own = is_own s;
  neighbour = is_neighbour s;
  hop = rpf_hop s;
  count = iface_count s;
  linked = λ i. not (neighbour_count s i == 0);
  address = my_address s;
}

-- what a router answers that may have failed, by its state
abbrev pub around_if : {R : Type 0} → (R → State) → Option R → Around
around_if f o = record {
  present = option_map_or (λ r. (f r).present) o 0;
  own = λ a. option_map_or (λ r. is_own (f r) a) o false;
  neighbour = λ i a. option_map_or (λ r. is_neighbour (f r) i a) o false;
  hop = λ a. option_and_then (λ r. rpf_hop (f r) a) o;
  count = option_map_or (λ r. iface_count (f r)) o 0;
  linked = λ i. option_map_or (λ r. not (neighbour_count (f r) i == 0)) o false;
  address = λ i. option_map_or (λ r. my_address (f r) i) o 0;
}

-- ---- whether a message counts

-- the message came from the neighbour, over the interface
abbrev pub is_hop : Option Hop → ℕ → ℕ → Bool
is_hop None i src = false
is_hop (Some h) i src = (h.iface.number == i) && (h.address.bits == src)

-- the message came from the RPF neighbour of its BSR
abbrev pub is_from_rpf : Around → ℕ → ℕ → Bootstrap → Bool
is_from_rpf s i src m = is_hop (s.hop m.bsr) i src

-- The first range of the message is an admin scope zone (Z). Such messages aren't taken.
abbrev pub is_scoped : List BootstrapRange → Bool
is_scoped [] = false
is_scoped (r ∷ rs) = r.zone

-- a message with the No-Forward bit is for a router that has just started (3.5.1)
abbrev pub may_refresh : Around → Known → Bool
may_refresh s k = not k.heard && nat_le s.present k.refresh_end

-- how long the same bytes are a repetition, in ms
abbrev pub repeat_time : ℕ
repeat_time = 1000

-- What is known after a message that counts, with its bytes.
unfoldable pub after_message : ℕ → Known → List ℕ → Bootstrap → Known
after_message now k bytes m = record k {
  heard = true;
  elected = Some (record { bsr = addr m.bsr; priority = m.priority; end = now + bs_timeout });
  table = with_message now k.table m;
  last = bytes;
  last_end = now + repeat_time;
}

-- there is room for what a message says
abbrev pub has_room : Around → Known → Bootstrap → Bool
has_room s k m = nat_le (kept_count (with_message s.present k.table m)) (room k)

-- why a message isn't acceptable by its sender, by the first test that fails (3.1.3); else as a later test says
unfoldable pub why_checked : Around → Known → ℕ → ℕ → Bootstrap → Option Why → Option Why
why_checked s k i src m later =
    if s.own m.bsr then Some Why.OwnBsr
    else (if not (s.neighbour i src) then Some Why.NoNeighbour
    else (if is_scoped m.ranges then Some Why.Scoped
    else (if m.no_forward && not (may_refresh s k) then Some Why.LateRefresh
    else (if not m.no_forward && not (is_from_rpf s i src m) then Some Why.NotFromRpf
    else later))))

-- its BSR isn't preferred to the elected one (3.1.4)
abbrev pub why_weight : Known → Bootstrap → Option Why
why_weight k m = if not (may_elect k.elected m) then Some Why.NotPreferred else None

-- why a message isn't acceptable by its sender and its BSR
unfoldable pub why_sender : Around → Known → ℕ → ℕ → Bootstrap → Option Why
why_sender s k i src m = why_checked s k i src m (why_weight k m)

-- a further test: whether there is room
abbrev pub room_or : Bool → Option Why → Option Why
room_or room (Some why) = Some why
room_or true None = None
room_or false None = Some Why.NoRoom

-- why a message doesn't count; the room for what it says is tested last
unfoldable pub why_not : Around → Known → ℕ → ℕ → Bootstrap → Option Why
why_not s k i src m = room_or (has_room s k m) (why_sender s k i src m)

-- ---- what is sent on

-- two lists of bytes are the same
abbrev pub same_bytes : List ℕ → List ℕ → Bool
same_bytes xs ys = pointwise (λ (x y : ℕ). x == y) xs ys

-- the message that was accepted last had the same bytes, not long ago
abbrev pub is_repeated : Around → Known → List ℕ → Bool
is_repeated s k bytes = nat_lt s.present k.last_end && same_bytes bytes k.last

-- A message is sent on where there are neighbours (3.4), also on the interface that it came on: there a repetition isn't,
-- since each router of a link sends it.
unfoldable pub is_sent_on : Around → Known → ℕ → List ℕ → ℕ → Bool
is_sent_on s k i bytes j = s.linked j && not ((j == i) && is_repeated s k bytes)

-- the interfaces on which a message is sent on; none with the No-Forward bit
unfoldable pub sent_on : Around → Known → ℕ → List ℕ → Bootstrap → List ℕ
sent_on s k i bytes m = if m.no_forward then [] else filter (is_sent_on s k i bytes) (below s.count)

-- the message as it came, from the router's address on an interface
abbrev pub passed_on : Around → List ℕ → ℕ → Emission
passed_on s bytes j = on_link j (pim_packet_text 1 (s.address j) all_pim_routers bytes)

-- ---- what a packet leads to

-- the answer, what is known, and what is sent on
pub record Hearing : Type 0 where
  pub answer : Heard
  pub known : Known
  pub sent : List Emission

-- nothing changes
abbrev pub unheard : Known → Heard → Hearing
unheard k answer = record { answer = answer; known = k; sent = [] }

-- a message that counts: the answer says whether the router is to be given other RPs
abbrev pub taken : Around → Known → ℕ → List ℕ → Bootstrap → Hearing
taken s k i bytes m =
    let after : Known = after_message s.present k bytes m in
    record {
      answer = Heard.Taken (moves k after);
      known = after;
      sent = map (passed_on s bytes) (sent_on s k i bytes m);
    }

-- an answer for which memory is taken: the message counts, or there is no room for what it says
abbrev pub takes_memory : Heard → Bool
takes_memory Heard.Other = false
takes_memory (Heard.Refused refusal) = false
takes_memory (Heard.Ignored Why.NoRoom) = true
takes_memory (Heard.Ignored _) = false
takes_memory (Heard.Taken moved) = true

-- the router is to be given other RPs
abbrev pub is_moved : Heard → Bool
is_moved (Heard.Taken moved) = moved
is_moved Heard.Other = false
is_moved (Heard.Refused refusal) = false
is_moved (Heard.Ignored why) = false

-- a message that was read, by why it doesn't count
abbrev pub heard_if : Around → Known → ℕ → List ℕ → Bootstrap → Option Why → Hearing
heard_if s k i bytes m None = taken s k i bytes m
heard_if s k i bytes m (Some why) = unheard k (Heard.Ignored why)

-- a message with its bytes
unfoldable pub heard : Around → Known → ℕ → ℕ → List ℕ → Bootstrap → Hearing
heard s k i src bytes m = heard_if s k i bytes m (why_not s k i src m)

-- a message, if it can be read
abbrev pub heard_read : Around → Known → ℕ → ℕ → List ℕ → Result Bootstrap Refusal → Hearing
heard_read s k i src bytes (Ok m) = heard s k i src bytes m
heard_read s k i src bytes (Err refusal) = unheard k (Heard.Refused refusal)

-- a packet is PIM of the type of a Bootstrap (4), to ALL-PIM-ROUTERS
abbrev pub is_bootstrap : Packet → Bool
is_bootstrap p =
    (p.protocol == protocol_pim) && (p.destination == all_pim_routers)
    && (nat_le 4 (length p.payload) && (pim_type_of p.payload == 4))

-- a packet that was read
unfoldable pub heard_packet : Around → Known → ℕ → Packet → Hearing
heard_packet s k i p =
    if is_bootstrap p then heard_read s k i p.source p.payload (bootstrap_reading p.payload) else unheard k Heard.Other

-- the packet in the bytes, if it can be read
abbrev pub heard_reading : Around → Known → ℕ → Result Packet Refusal → Hearing
heard_reading s k i (Ok p) = heard_packet s k i p
heard_reading s k i (Err refusal) = unheard k Heard.Other

-- A packet on a link that the router ignores for its type. The router has tested the interface, the length, the IPv4
-- header and PIM's header with its checksum then.
unfoldable pub heard_frame : Around → Known → ℕ → List ℕ → Hearing
heard_frame s k i bytes = heard_reading s k i (ipv4_reading bytes)
