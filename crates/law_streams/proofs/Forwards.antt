-- A router that passes a packet on.
use Rattle.std.{proofs.{Common.{◌≡◌, ◌∙◌, ℕ, ◌-◌, ◌<◌, ◌≤◌, ◌==◌, nat_lt, ◌&&◌, ◌⊎◌, inl, inr, Bool, true, false, List, [], ◌++◌, length, Option, Some, Ok, sym, ap, subst, arith, append-nil, length-append}, lemmas.{Bool.Decides.nat_tests, List.{length-drop, length-take-le, Elements.{Contains-append_left, Contains-append_right}}}}, specs.{List.Contains, Option.option_map_or}}
use Rattle.pim_ip.{specs.{Ipv4.{Packet, all_pim_routers, copy_text, frame_limit, header_length_of, ipv4_reading, is_link_local, is_multicast, packet_limit, protocol_igmp, total_length_of}, View.copied}, proofs.WritingLemmas.length-with_checksum}
use Rattle.pim_types.{specs.{declared.{config.IfaceId.IfaceId, event.{Event.Event, EventKind.EventKind}, fact.{Key.Key, SourceRow.SourceRow}, outcome.Emission.Emission}, Keys.source_key}}
use Rattle.pim_model.{specs.{declared.accepted.Accepted.Accepted, Asserts.with_spt_bit, Cause.done_as, Forwarding.{is_spt_reached, source_here, source_joined, spt_updated, when}, Full.{is_full, source_is_full}, Judging.{data_judged, frame_judged, judged, packet_judged}, Registers.{settle_register, with_keepalive}, Sets.spt_bit, State.{State, iface_count, is_own, is_up}, Step.step, Unicast.{is_connected, is_rpf_interface, is_rpf_interface_rp, route, rp_of, rp_route, rpf_interface, rpf_interface_rp}, Writing.on_link}}
use Rattle.law_settled.{proofs.{ListLaws.by_cond, RowLaws.row_put, ReadPackets.{Passed, passed}}}
use Rattle.law_streams.{specs.{Copies.{copies_at, happens}, Data.SendsOnly, Served.{IsMember, IsServed, OnATree, renewed}}, proofs.{Copies.only_copies_are_data, Read.{copies_read_lower, read_is}, ServedData.{member_is_served, served_here}, Passes.done_if, ReadBack.within_range}}

-- ---- its bytes

module _ (b : List ℕ) (p : Packet) (reads : ipv4_reading b ≡ Ok p) where
  f : Passed b
  f = passed b p reads

  header_long : length p.header ≡ header_length_of b
  header_long = grind (arith, f, read_is, length-take-le)

  payload_long : length p.payload ≡ total_length_of b - header_length_of b
  payload_long = grind (arith, f, length-drop, read_is, length-take-le)

  -- a copy is no longer than the bytes that were read
  pub copy_fits : length (copy_text p) ≤ length b
  unfolding copy_text
  copy_fits =
      grind (arith, length-append, length-with_checksum, f, header_long, payload_long, length-take-le, length-drop)

  pub copy_reads_lower : ipv4_reading (copy_text p) ≡ Ok (copied p)
  copy_reads_lower =
      let a : length (copy_text p) ≤ length b = copy_fits in
      let n : length b ≤ packet_limit = ((f).measured).within_limit in
      ap ipv4_reading (sym (append-nil (copy_text p)))
      ∙ (copies_read_lower b p reads).reading []
      (subst (λ (xs : List ℕ). length xs ≤ packet_limit) (sym (append-nil (copy_text p))) (omega (arith, a, n)))

-- ---- it is data

isnt_pim : (g : ℕ) → is_link_local g ≡ false → (g == all_pim_routers) ≡ false
isnt_pim g far = grind (arith, nat_tests, far)

module _ (s : State) (i draw : ℕ) (b : List ℕ) (p : Packet) (reads : ipv4_reading b ≡ Ok p) where
  abbrev event : Event
  event = record { draw = draw; kind = EventKind.Frame (record { number = i }) b }

  abbrev at : IfaceId
  at = record { number = i }

  module _ (configured : i < iface_count s) (up : is_up s i ≡ true) (fits : length b ≤ frame_limit)
      (isnt_igmp : (p.protocol == protocol_igmp) ≡ false) (group : is_multicast p.destination ≡ true)
      (far : is_link_local p.destination ≡ false) (foreign : is_own s p.source ≡ false) where
    no_control : (c : Bool) → (c && false) ≡ false
    no_control c = grind arith

    short_enough : nat_lt frame_limit (length b) ≡ false
    short_enough = grind (arith, nat_tests, fits)

    is_data : judged s event.kind ≡ Ok (Accepted.Data at p)
    unfolding judged frame_judged packet_judged data_judged
    is_data = grind (arith, within_range, short_enough, isnt_pim, no_control)

    pub data_done : source_is_full s p.destination p.source ≡ false → done_as (happens s event) ≡ Some (Accepted.Data at p)
    unfolding is_full
    data_done room = done_if s event (Accepted.Data at p) is_data room

-- ---- its tree

module _ (s : State) (g src iif : ℕ) (on : is_rpf_interface_rp s g iif ≡ true) (unset : spt_bit s g src ≡ false) where
  keepalive_spt : (t : State) → spt_bit (with_keepalive t g src) g src ≡ spt_bit t g src
  unfolding spt_bit with_keepalive
  keepalive_spt t = ap (λ (o : Option SourceRow). option_map_or (λ (r : SourceRow). r.spt) o false) (row_put (source_key 0 g src) _ t.sources)

  -- what the packet renews before SPTbit
  record IsAlike (t : State) : Type 0 where
    spt : spt_bit t g src ≡ false
    way : is_rpf_interface_rp t g iif ≡ true

  kept_alive : (t : State) → IsAlike t → IsAlike (with_keepalive t g src)
  unfolding with_keepalive rpf_interface_rp rp_route rp_of route
  kept_alive t f = record { spt = keepalive_spt t ∙ f.spt; way = f.way }

  settled_alike : (t : State) (k : Key) → IsAlike t → IsAlike (settle_register t k)
  unfolding settle_register spt_bit rpf_interface_rp rp_route rp_of route
  settled_alike t k f = record { spt = f.spt; way = f.way }

  here_alike : IsAlike (source_here s g src iif)
  unfolding source_here
  here_alike =
      by_cond IsAlike (is_connected s src && is_rpf_interface s src iif) _ s
      (settled_alike (with_keepalive s g src) (source_key 0 g src) (kept_alive s (record { spt = unset; way = on })))
      (record { spt = unset; way = on })

  abbrev met : State
  met = source_joined (source_here s g src iif) g src iif

  when_alike : (b : Bool) (t : State) → IsAlike t → IsAlike (when b (λ u. with_keepalive u g src) t)
  when_alike true t f = kept_alive t f
  when_alike false t f = f

  met_alike : IsAlike met
  unfolding source_joined
  met_alike = when_alike _ (source_here s g src iif) here_alike

  is_set : (t : State) → spt_bit (with_spt_bit t g src) g src ≡ true
  unfolding spt_bit with_spt_bit
  is_set t = ap (λ (o : Option SourceRow). option_map_or (λ (r : SourceRow). r.spt) o false) (row_put (source_key 0 g src) _ t.sources)

  same_interface : (t : State) → is_rpf_interface t src iif ≡ true → is_rpf_interface (with_spt_bit t g src) src iif ≡ true
  unfolding with_spt_bit rpf_interface route
  same_interface t e = e

  pub on_a_tree : OnATree (renewed s g src iif) g src iif
  unfolding renewed spt_updated is_spt_reached
  on_a_tree = grind (arith, same_interface, is_set, met_alike)

-- ---- it goes on

pub from_copies : (s : State) (e : Event) (x : Emission) → Contains (copies_at s e) x → Contains (step s e).emissions x
from_copies s e x c =
    let f : SendsOnly s e = only_copies_are_data s e in
    subst (λ (es : List Emission). Contains es x) (sym f.emissions)
    (Contains-append_left (f.messages ++ copies_at s e) f.registered x (Contains-append_right f.messages (copies_at s e) x c))

pub passes_on : (s : State) (i draw j : ℕ) (b : List ℕ) (p : Packet)
    → done_as (happens s (record { draw = draw; kind = EventKind.Frame (record { number = i }) b })) ≡ Some (Accepted.Data (record { number = i }) p)
    → 1 < p.time_to_live → is_rpf_interface_rp s p.destination i ≡ true → spt_bit s p.destination p.source ≡ false
    → IsServed s p.destination p.source j ⊎ IsMember s p.destination p.source j → (j == i) ≡ false
    → Contains (step s (record { draw = draw; kind = EventKind.Frame (record { number = i }) b })).emissions (on_link j (copy_text p))
passes_on s i draw j b p done lives on unset wanted off = from_copies s e (on_link j (copy_text p)) (go wanted)
  where
    e : Event
    e = record { draw = draw; kind = EventKind.Frame (record { number = i }) b }

    go : IsServed s p.destination p.source j ⊎ IsMember s p.destination p.source j → Contains (copies_at s e) (on_link j (copy_text p))
    go (inl f) =
        served_here s e (record { number = i }) p j (record { done = done; lives = lives })
        (on_a_tree s p.destination p.source i on unset) f off
    go (inr f) =
        member_is_served s e (record { number = i }) p j (record { done = done; lives = lives })
        (on_a_tree s p.destination p.source i on unset) f off
