-- A packet comes to the tree.
use Rattle.std.{proofs.{Common.{◌≡◌, ◌∙◌, ℕ, ◌<◌, Bool, true, false, cond, [], ◌++◌, map, Some, is_some, refl, sym, ap, subst, arith, lt-ltb}, lemmas.List.Elements.{Contains-append_left, Contains-append_right}}, specs.List.Contains}
use Rattle.pim_ip.{specs.{Ipv4.{Packet, copy_text}, View.copied}}
use Rattle.pim_types.{specs.declared.event.Event.Event}
use Rattle.pim_wire.{specs.Values.Encapsulated}
use Rattle.pim_model.{specs.{declared.accepted.Accepted.Accepted, Cause.done_as, Downstream.{accepted_prunes, is_named, pruned_keys}, Firing.settled, Forwarding.{Forwarded, register_at_rp, register_received}, Network.{At, moved}, Sets.{inherited_olist_rpt, members, spt_bit}, State.{State, iface_count}, Step.{Change, change, done, step}, Tables.has_row, Unicast.is_rp, Writing.{copies_of, on_link}}}
use Rattle.law_streams.{specs.{Copies.happens, Served.IsServed, Roots.{ArrivesFor, InRegister, OnTree, RootSends}}, proofs.{Links.{contains_mapped, contains_passing, is_below}, Made.{register_configured, step_taken}, ServedData.served_here, Deliveries.{IsStepped, is_moved}, Forwards.{copy_fits, copy_reads_lower, from_copies}, Leaves.taken_is_done, Passes.on_group_list}}

-- ---- in a Register

module _ (s : State) (e : Event) (outer p : Packet) (j : ℕ) (is : done_as (happens s e) ≡ Some (Accepted.Register outer (Encapsulated p)))
    (rp : is_rp s p.destination outer.destination ≡ true) (unset : spt_bit s p.destination p.source ≡ false)
    (within : j < iface_count s) (listed : inherited_olist_rpt s p.destination p.source j ≡ true) (lives : 1 < p.time_to_live) where
  abbrev f : Forwarded
  f = register_received s outer p.destination p.source false

  list_is : f.list j ≡ true
  unfolding register_received register_at_rp
  list_is = rw (rp, unset) listed

  is_member : Contains (members f.state f.list) j
  unfolding members
  is_member = grind (arith, contains_passing, is_below, register_configured, list_is)

  is_copy : Contains (copies_of f.state p f.list) (on_link j (copy_text p))
  unfolding copies_of
  is_copy =
      subst (λ (b : Bool). Contains (cond b (map (λ i. on_link i (copy_text p)) (members f.state f.list)) []) (on_link j (copy_text p)))
      (sym (lt-ltb 1 p.time_to_live lives))
      (contains_mapped (λ i. on_link i (copy_text p)) (members f.state f.list) j is_member)

  pub leaves_register : Contains (step s e).emissions (on_link j (copy_text p))
  unfolding done change
  leaves_register =
      let c : Change = change s e.draw (Accepted.Register outer (Encapsulated p)) in
      subst (λ a. Contains a.emissions (on_link j (copy_text p)))
      (sym (step_taken s e (Accepted.Register outer (Encapsulated p)) is
      ∙ taken_is_done s e.draw (Accepted.Register outer (Encapsulated p)) refl))
      (Contains-append_left ((settled s (c.state, c.messages) e.draw).1 ++ c.copies) c.registered _
      (Contains-append_right (settled s (c.state, c.messages) e.draw).1 c.copies _ is_copy))

-- ---- either way

pub leaves_root : (s : State) (e : Event) (p : Packet) (j : ℕ) → 1 < p.time_to_live → IsServed s p.destination p.source j
    → ArrivesFor s e p j → Contains (step s e).emissions (on_link j (copy_text p))
leaves_root s e p j lives f (OnTree i is on off) =
    from_copies s e (on_link j (copy_text p)) (served_here s e i p j (record { done = is; lives = lives }) on f off)
leaves_root s e p j lives f (InRegister outer is rp unset) =
    leaves_register s e outer p j is rp unset f.configured
    (on_group_list s p.destination p.source j f.joined f.unpruned f.group f.source) lives

pub root_sends : RootSends
unfolding has_row is_named pruned_keys accepted_prunes
root_sends n g rp src link lives payload p e h within unlost linked some b =
    let did : IsStepped n p.router (record p.station { state = h.state }) e (moved n (At p.router e)).1 =
    is_moved n p.router (record p.station { state = h.state }) e h.stands in
    let served : IsServed h.state g src p.down =
    record {
      configured = within;
      joined = ap is_some ((h.takes).holds).found;
      unpruned = (h.takes).unpruned src refl;
      group = (h.takes).unlost;
      source = unlost;
    } in
    let long = b.time_to_live in
    record {
      bytes = copy_text b.packet;
      packet = copied b.packet;
      on_link = (did.sent p.down link (copy_text b.packet) linked
          (leaves_root h.state e b.packet p.down (omega (arith, some, long))
          (subst (λ (d : ℕ). IsServed h.state d (b.packet).source p.down) (sym b.group)
          (subst (λ (a : ℕ). IsServed h.state g a p.down) (sym b.source) served)) b.comes)).on;
      reads = copy_reads_lower b.bytes b.packet b.reads;
      fits = let a = copy_fits b.bytes b.packet b.reads in let c = b.fits in omega (arith, a, c);
      group = b.group;
      source = b.source;
      is_data = b.is_data;
      same = b.same;
      time_to_live = omega (arith, long);
    }
