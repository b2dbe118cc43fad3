-- How long the messages are.
use Rattle.std.{proofs.{Common.{◌≡◌, ◌≤◌, ℕ, ◌+◌, ◌-◌, ◌*◌, Bool, if◌then◌else◌, List, [], ◌∷◌, ◌++◌, drop, length, take, refl, arith}, lemmas.List.{length-append, length-drop, length-map, length-take}}, specs.{List.flat_map, Int.bytes_high_first}}
use Rattle.pim_ip.{specs.{Checksum.with_checksum, Ipv4.{Packet, copy_text, packet_limit}, declared.addr.Addr.Addr}, proofs.WritingLemmas.length-with_checksum}
use Rattle.pim_wire.{specs.{declared.join_prune.Entry.Entry, Asserts.assert_text, Encoded.{group_text, pim_text, unicast_text}, Hellos.hello_text, JoinPrunes.{entry_text, join_prune_holdtime, join_prune_text}, Registers.{dummy_text, null_register_text, register_stop_text, register_text}}}
use Rattle.igmp_wire.{specs.{declared.write.QueryHeader.QueryHeader, Queries.query_text, Written.{bits_of, query_with}}}

pub length-pim_text : (type : ℕ) (body : List ℕ) → length (pim_text type body) ≡ 4 + length body
unfolding pim_text
length-pim_text type body = omega (arith, length-with_checksum ((0x20 + type) ∷ 0 ∷ []) body)

pub length-hello_text : (propagation_delay override_interval priority generation : ℕ)
    → length (hello_text propagation_delay override_interval priority generation) ≡ 34
unfolding hello_text
length-hello_text propagation_delay override_interval priority generation = length-pim_text 0 _

pub length-assert_text : (group source : ℕ) (rpt : Bool) (preference metric : ℕ)
    → length (assert_text group source rpt preference metric) ≡ 26
unfolding assert_text
length-assert_text group source rpt preference metric = length-pim_text 5 _

pub length-register_stop_text : (group source : ℕ) → length (register_stop_text group source) ≡ 18
unfolding register_stop_text
length-register_stop_text group source = length-pim_text 2 _

pub length-null_register_text : (source group : ℕ) → length (null_register_text source group) ≡ 28
unfolding null_register_text dummy_text
length-null_register_text source group =
    omega (
      arith,
      length-append (with_checksum (0x21 ∷ 0 ∷ []) (0x40 ∷ 0 ∷ 0 ∷ 0 ∷ []))
          (dummy_text source group),
      length-with_checksum (0x21 ∷ 0 ∷ []) (0x40 ∷ 0 ∷ 0 ∷ 0 ∷ []),
      length-with_checksum
          (0x45 ∷ 0 ∷ 0 ∷ 20 ∷ 0 ∷ 0 ∷ 0 ∷ 0 ∷ 1 ∷ 103 ∷ []) (bytes_high_first 4 source ++ bytes_high_first 4 group),
    )

-- each entry has 8 bytes, each address 4
length-entries : (entries : List Entry) → length (flat_map entry_text entries) ≡ 8 * length entries
length-entries [] = refl
length-entries (e ∷ es) = omega (arith, length-append (entry_text e) (flat_map entry_text es), length-entries es)

length-addresses : (ns : List ℕ) → length (flat_map (bytes_high_first 4) ns) ≡ 4 * length ns
length-addresses [] = refl
length-addresses (n ∷ ns) =
    omega (arith, length-append (bytes_high_first 4 n) (flat_map (bytes_high_first 4) ns), length-addresses ns)

pub length-join_prune_text : (upstream group : ℕ) (joins prunes : List Entry)
    → length (join_prune_text upstream group joins prunes) ≡ 26 + 8 * (length joins + length prunes)
unfolding join_prune_text
length-join_prune_text upstream group joins prunes =
    let front : List ℕ = unicast_text upstream ++ 0 ∷ 1 ∷ bytes_high_first 2 join_prune_holdtime
    ++ group_text group ++ bytes_high_first 2 (length joins) ++ bytes_high_first 2 (length prunes) in
    let joined : List ℕ = flat_map entry_text joins in
    let pruned : List ℕ = flat_map entry_text prunes in
    omega (
      arith,
      length-pim_text 3 (front ++ joined ++ pruned),
      length-append
          (front ++ joined) pruned,
      length-append front joined,
      length-entries joins,
      length-entries prunes,
    )

pub length-query_text : (header : QueryHeader) (sources : List Addr)
    → length (query_text (query_with header sources)) ≡ 12 + 4 * length sources
unfolding query_text
length-query_text header sources =
    let addresses : List ℕ = bits_of sources in
    let body : List ℕ = bytes_high_first 4 header.group.bits
    ++ ((if header.suppress then 8 else 0) + header.robustness) ∷ header.interval_code ∷ bytes_high_first 2
    (length addresses)
    ++ flat_map (bytes_high_first 4) addresses in
    omega (
      arith,
      length-with_checksum (0x11 ∷ header.max_response_code ∷ []) body,
      length-addresses
          (bits_of sources),
      length-map sources (λ (a : Addr). a.bits),
    )

pub ruleset text_lengths = (
  length-hello_text,
  length-assert_text,
  length-register_stop_text,
  length-null_register_text,
  length-join_prune_text,
  length-query_text,
)

-- a copy has at most 12 bytes more than the packet, whatever its header, and the Register round it 8 more
pub length_register_of_copy : (p : Packet) → length p.header + length p.payload ≤ packet_limit
    → 20 + length (register_text (copy_text p)) ≤ 1568
unfolding register_text copy_text
length_register_of_copy p fits =
    let front : List ℕ = take 8 p.header ++ (p.time_to_live - 1) ∷ p.protocol ∷ [] in
    let header : List ℕ = with_checksum front (drop 12 p.header) in
    omega (
      arith,
      fits,
      length-append (with_checksum (0x21 ∷ 0 ∷ []) (0 ∷ 0 ∷ 0 ∷ 0 ∷ [])) (header ++ p.payload),
      length-with_checksum (0x21 ∷ 0 ∷ []) (0 ∷ 0 ∷ 0 ∷ 0 ∷ []),
      length-append header p.payload,
      length-with_checksum front (drop 12 p.header),
      length-append (take 8 p.header) ((p.time_to_live - 1) ∷ p.protocol ∷ []),
      length-take 8 p.header,
      length-drop 12 p.header,
    )
