-- Queries of version 2.
use Rattle.std.proofs.{Common.{◌≡◌, ◌∙◌, ℕ, ◌+◌, ◌-◌, ◌<◌, ◌≤◌, ◌^◌, Bool, true, false, cond, ◌&&◌, ◌||◌, ◌==◌, nat_le, nat_lt, List, [], ◌∷◌, ◌++◌, length, get_or, Option, Some, None, option_map, Result, Ok, Err, refl, ap, sym, subst, arith, lit≤, lit<, eqb-true, All}, lemmas.{Bool.Decides.nat_tests, List.{append-nil, length-append}}}
use Rattle.byteorder.{specs.{Endian.{big_bytes, big_from}, Numbers.big_number-reads_back}}
use Rattle.pim_ip.{specs.{Addr.addr, Checksum.{sum16, with_checksum}, Ipv4.{Packet, frame_limit, header_text, igmp_packet_text, ipv4_reading, is_multicast, is_source, packet_of, protocol_igmp, router_alert}, View.{ReadsAs, written_packet}, declared.refusal.Refusal.Refusal}, proofs.{ChecksumLemmas.sum16-with_checksum, ViewLemmas.written_reads}}
use Rattle.igmp_wire.{specs.{Codes.code_value, Messages.igmp_reading, Queries.query_text, Values.Query, declared.view.IgmpView.IgmpView}, proofs.RoundTrip.query_reads}
use Rattle.pim_types.{specs.{Keys.iface_key, declared.{config.IfaceId.IfaceId, fact.QuerierRow.QuerierRow}}}
use Rattle.pim_model.specs.{Judging.{frame_judged, igmp_judged, igmp_message_judged, packet_judged}, Querier.{is_lower_querier, lower_group, lower_queried, query_end, querier_elected, querier_on, query_seen}, State.{State, iface_count, is_own, is_up}, declared.accepted.Accepted.Accepted}
use Rattle.law_settled.{proofs.{RowLaws.row_put, ReadPackets.{packet_is, passed}}}
use Rattle.igmp_older.specs.{Routers.{OlderQueried, older_query_reading, older_query_text, packet_queried, queried, query_as_three, query_packet, reading_queried}, declared.router.OlderQuery.OlderQuery}

pub length-as_three : (q : OlderQuery) → length (query_text (query_as_three q)) ≡ 12
unfolding query_text with_checksum
length-as_three q = refl

pub length-older : (max_response group : ℕ) → length (older_query_text max_response group) ≡ 8
unfolding older_query_text with_checksum
length-older max_response group = refl

pub ruleset query_lengths = (length-as_three, length-older)

-- ---- what is given is taken

-- it comes from a router, and asks for all groups or for one
pub record IsQueried (t : OlderQueried) : Type 0 where
  pub source : is_source protocol_igmp t.source ≡ true
  pub destination : is_multicast t.destination ≡ true
  pub group : ((t.query.group.bits == 0) || is_multicast t.query.group.bits) ≡ true

asks : (b : List ℕ) (q : OlderQuery) → older_query_reading b ≡ Some q → ((q.group.bits == 0) || is_multicast q.group.bits) ≡ true
unfolding older_query_reading
asks b q e = go (length b == 8) (sum16 b == 0) (get_or b 0 0 == 0x11) ((big_from 4 4 b == 0) || is_multicast (big_from 4 4 b)) refl e
  where
    go : (w x y z : Bool) → ((big_from 4 4 b == 0) || is_multicast (big_from 4 4 b)) ≡ z
        → cond (w && (x && (y && z))) (Some (let a : OlderQuery = record { max_response = get_or b 1 0; group = addr (big_from 4 4 b) } in a)) None ≡ Some q
        → ((q.group.bits == 0) || is_multicast q.group.bits) ≡ true
    go true true true true is e =
        let told : (let a : OlderQuery = record { max_response = get_or b 1 0; group = addr (big_from 4 4 b) } in a) ≡ q = cc in
        subst (λ (a : OlderQuery). ((a.group.bits == 0) || is_multicast a.group.bits) ≡ true) told is
    go true true true false is e = cc
    go true true false z is e = cc
    go true false y z is e = cc
    go false x y z is e = cc

packet_is_queried : (b : List ℕ) (p : Packet) (t : OlderQueried) → ipv4_reading b ≡ Ok p → packet_queried p ≡ Some t → IsQueried t
unfolding packet_queried packet_of
packet_is_queried b p t read e =
    let is : p ≡ packet_of b = packet_is b p read in
    let lawful : is_source p.protocol p.source ≡ true =
    subst (λ (q : Packet). is_source q.protocol q.source ≡ true) (sym is) (passed b p read).source in
    go (p.protocol == protocol_igmp) (is_multicast p.destination) (older_query_reading p.payload) refl refl refl lawful e
  where
    go : (igmp group : Bool) (o : Option OlderQuery) → (p.protocol == protocol_igmp) ≡ igmp → is_multicast p.destination ≡ group
        → older_query_reading p.payload ≡ o → is_source p.protocol p.source ≡ true
        → cond (igmp && group) (option_map (λ q. let x : OlderQueried = record { source = p.source; destination = p.destination; query = q } in x) o) None ≡ Some t
        → IsQueried t
    go true true (Some q) same group asked lawful e =
        let protocol : p.protocol ≡ protocol_igmp = eqb-true p.protocol protocol_igmp same in
        let told : (let x : OlderQueried = record { source = p.source; destination = p.destination; query = q } in x) ≡ t = cc in
        subst IsQueried told
        (record { source = subst (λ (n : ℕ). is_source n p.source ≡ true) protocol lawful; destination = group; group = asks p.payload q asked })
    go true true None same group asked lawful e = cc
    go true false o same group asked lawful e = cc
    go false group o same is asked lawful e = cc

is_queried : (b : List ℕ) (t : OlderQueried) → queried b ≡ Some t → IsQueried t
unfolding queried
is_queried b t e = go (nat_le (length b) frame_limit) (ipv4_reading b) refl e
  where
    go : (w : Bool) (r : Result Packet Refusal) → ipv4_reading b ≡ r → cond w (reading_queried r) None ≡ Some t → IsQueried t
    go true (Ok p) read e = packet_is_queried b p t read e
    go true (Err refusal) read e = cc
    go false r read e = cc

abbrev queried_packet : OlderQueried → Packet
queried_packet t = written_packet router_alert 1 protocol_igmp t.source t.destination (query_text (query_as_three t.query))

length-query_packet : (t : OlderQueried) → length (query_packet t) ≡ 36
unfolding query_packet igmp_packet_text header_text with_checksum query_text
length-query_packet t = refl

group_fits : (group : ℕ) → is_multicast group ≡ true → group < 2 ^ 32
group_fits group e = grind (arith, nat_tests, e)

query_packet_reads : (t : OlderQueried) → IsQueried t → ipv4_reading (query_packet t) ≡ Ok (queried_packet t)
unfolding query_packet igmp_packet_text
query_packet_reads t is =
    let message : List ℕ = query_text (query_as_three t.query) in
    let text : List ℕ = header_text router_alert 1 protocol_igmp t.source t.destination (length message) ++ message in
    let reads : ReadsAs text (queried_packet t) =
    written_reads router_alert 1 protocol_igmp t.source t.destination message refl (lit≤ tt) (group_fits t.destination is.destination) is.source in
    ap ipv4_reading (sym (append-nil text)) ∙ reads.reading [] (omega (arith, length-append text [], length-query_packet t))

no_sources : All (λ (source : ℕ). source < 2 ^ 32) []
no_sources k d h = absurd (omega arith)

query_message_reads : (t : OlderQueried) → IsQueried t
    → igmp_reading (query_text (query_as_three t.query)) ≡ Ok (IgmpView.Query (query_as_three t.query))
query_message_reads t is = query_reads (query_as_three t.query) (lit< tt) (lit< tt) no_sources is.group

pub query_is_taken : (b : List ℕ) (t : OlderQueried) (s : State) (i : IfaceId) → queried b ≡ Some t
    → nat_le (iface_count s) i.number ≡ false → is_up s i.number ≡ true → is_own s t.source ≡ false
    → frame_judged s i (query_packet t) ≡ Ok (Accepted.Query i (addr t.source) (query_as_three t.query))
unfolding frame_judged packet_judged igmp_message_judged igmp_judged
query_is_taken b t s i e known up foreign =
    let is : IsQueried t = is_queried b t e in
    let short : nat_lt frame_limit (length (query_packet t)) ≡ false = grind (arith, nat_tests, length-query_packet t) in
    rw (known, up, short, query_packet_reads t is, query_message_reads t is, foreign, is.destination) refl

-- ---- the configured values stay

lowered_same : (s : State) (i : ℕ) (q : OlderQuery) → (lower_queried s i (query_as_three q)).queriers ≡ s.queriers
unfolding lower_queried lower_group
lowered_same s i q = go (q.group.bits == 0)
  where
    go : (b : Bool) → (cond b s (lower_group s i q.group.bits (query_end s i))).queriers ≡ s.queriers
    go true = refl
    go false = refl

pub configured_values_stay : (s : State) (i from : ℕ) (q : OlderQuery) → is_lower_querier s i from ≡ true
    → option_map (λ (row : QuerierRow). let v : ℕ × ℕ = (row.robustness, row.query_interval) in v) (querier_on (query_seen s i from (query_as_three q)) i)
    ≡ Some (s.settings.robustness, s.settings.query_interval)
unfolding query_seen querier_elected code_value
configured_values_stay s i from q lower = rw (lower, lowered_same (querier_elected s i 0 0) i q, row_put (iface_key i)) refl

-- ---- what is cut is read

fits : (group : ℕ) → ((group == 0) || is_multicast group) ≡ true → group < 2 ^ 32
fits group e = grind (arith, nat_tests, e)

module _ (m g : ℕ) where
  abbrev text : List ℕ
  text = with_checksum (0x11 ∷ m ∷ []) (big_bytes 4 g)

  text_length : length text ≡ 8
  unfolding with_checksum
  text_length = refl

  text_type : get_or text 0 0 ≡ 0x11
  unfolding with_checksum
  text_type = refl

  text_response : get_or text 1 0 ≡ m
  unfolding with_checksum
  text_response = refl

  text_group : g < 2 ^ 32 → big_from 4 4 text ≡ g
  unfolding with_checksum
  text_group h = big_number-reads_back 4 g [] h

pub cut_is_read : (max_response group : ℕ) → ((group == 0) || is_multicast group) ≡ true
    → older_query_reading (older_query_text max_response group) ≡ Some (record { max_response = max_response; group = addr group })
unfolding older_query_reading older_query_text
cut_is_read max_response group e =
    read (text max_response group) (sum16-with_checksum 1 (0x11 ∷ max_response ∷ []) (big_bytes 4 group) refl)
    (text_group max_response group (fits group e)) (text_length max_response group) (text_type max_response group) (text_response max_response group)
  where
    read : (b : List ℕ) → sum16 b ≡ 0 → big_from 4 4 b ≡ group → length b ≡ 8 → get_or b 0 0 ≡ 0x11 → get_or b 1 0 ≡ max_response
        → cond ((length b == 8) && ((sum16 b == 0) && ((get_or b 0 0 == 0x11) && ((big_from 4 4 b == 0) || is_multicast (big_from 4 4 b)))))
        (Some (let a : OlderQuery = record { max_response = get_or b 1 0; group = addr (big_from 4 4 b) } in a)) None
        ≡ Some (record { max_response = max_response; group = addr group })
    read b sum asked long type response = rw (long, sum, type, asked, response, e) refl
