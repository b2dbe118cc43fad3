-- A packet that is delivered to a router and leaves it, and one that comes so down a way of routers.
use Rattle.std.{proofs.Common.{◌≡◌, ◌∙◌, ℕ, ◌+◌, ◌-◌, ◌<◌, ◌≤◌, true, false, List, [], ◌∷◌, ◌++◌, length, Some, refl, sym, ap, subst, arith, length-append}, specs.List.{Contains, slice_get}}
use Rattle.pim_ip.{specs.{Ipv4.{copy_text, is_link_local, is_multicast}, View.copied}}
use Rattle.pim_types.{specs.declared.event.{Event.Event, EventKind.EventKind}}
use Rattle.pim_model.{specs.{declared.accepted.Accepted.Accepted, Cause.done_as, Full.source_is_full, Network.{Deliver, Move, Network, frame_at, moved, network_ran, station_at}, State.{State, iface_count, is_own, is_up}, Step.step, Writing.on_link}}
use Rattle.law_streams.{specs.{Copies.happens, Flows.{IsCarried, IsFlowed, top_link}, Ways.{AreApart, IsDelivery, Place, StandIn, state_of, up_iface}}, proofs.{Deliveries.{IsNewOn, IsStepped, is_delivered}, Forwards.{copy_fits, copy_reads_lower, data_done}}}
use Rattle.law_settled.{proofs.ListLaws.each_append}

-- one move more
pub ran_more : (n : Network) (ms : List Move) (m : Move)
    → (network_ran n (ms ++ m ∷ [])).1 ≡ (moved (network_ran n ms).1 m).1
unfolding network_ran
ran_more n [] m = refl
ran_more n (x ∷ ms) m = ran_more (moved n x).1 ms m

module _ (g src : ℕ) (payload : List ℕ) where
  -- the delivery of a frame to the router, after which the packet is on the link
  pub record IsPassedOn (n : Network) (link lives : ℕ) (p : Place) : Type 0 where
    pub number : ℕ
    pub event : Event
    pub did : IsStepped n p.router p.station event (moved n (Deliver p.router (up_iface p) number p.draw)).1
    pub carried :
        IsCarried (moved n (Deliver p.router (up_iface p) number p.draw)).1 g src link payload lives
    pub later : length n.frames < (carried.on_link).number

  -- at one router
  module _ (n : Network) (link lives : ℕ) (p : Place) (at : station_at n p.router ≡ Some p.station)
      (c : IsCarried n g src p.next_link payload (lives + 1)) where
    abbrev s : State
    s = state_of p

    abbrev pub delivery : Event
    delivery = record { draw = p.draw; kind = EventKind.Frame (record { number = up_iface p }) c.bytes }

    -- what holds of the group and the source holds of the packet's
    pub of_packet : (P : ℕ → ℕ → Type 0) → P g src → P (c.packet).destination (c.packet).source
    of_packet P x =
        subst (λ (d : ℕ). P d (c.packet).source) (sym c.group) (subst (λ (a : ℕ). P g a) (sym c.source) x)

    pub is_judged : is_multicast g ≡ true → is_link_local g ≡ false → up_iface p < iface_count s
        → is_up s (up_iface p) ≡ true → is_own s src ≡ false → source_is_full s g src ≡ false
        → done_as (happens s delivery) ≡ Some (Accepted.Data (record { number = up_iface p }) c.packet)
    is_judged group far configured up foreign room =
        data_done s (up_iface p) p.draw c.bytes c.packet c.reads configured up c.fits c.is_data
        (of_packet (λ d a. is_multicast d ≡ true) group) (of_packet (λ d a. is_link_local d ≡ false) far)
        (of_packet (λ d a. is_own s a ≡ false) foreign) (of_packet (λ d a. source_is_full s d a ≡ false) room)

    pub lives_on : 0 < lives → 1 < (c.packet).time_to_live
    lives_on some = let e = c.time_to_live in omega (arith, some, e)

    abbrev pub move : Move
    move = Deliver p.router (up_iface p) (c.on_link).number p.draw

    pub did_so : slice_get (p.station).links (up_iface p) ≡ Some p.next_link
        → IsStepped n p.router p.station delivery (moved n move).1
    did_so up_linked =
        is_delivered n p.router p.station (up_iface p) (c.on_link).number p.draw p.next_link c.bytes at up_linked
        (c.on_link).is

    module _ (up_linked : slice_get (p.station).links (up_iface p) ≡ Some p.next_link)
        (down_linked : slice_get (p.station).links p.down ≡ Some link)
        (leaves : Contains (step s delivery).emissions (on_link p.down (copy_text c.packet))) where
      goes : IsNewOn n (moved n move).1 link (copy_text c.packet)
      goes = (did_so up_linked).sent p.down link (copy_text c.packet) down_linked leaves

      lower : c.packet.time_to_live - 1 ≡ lives
      lower = let e = c.time_to_live in omega (arith, e)

      pub carried_on : IsCarried (moved n move).1 g src link payload lives
      carried_on = record {
        bytes = copy_text c.packet;
        packet = copied c.packet;
        on_link = (goes).on;
        reads = copy_reads_lower c.bytes c.packet c.reads;
        fits = let a = copy_fits c.bytes c.packet c.reads in let b = c.fits in omega (arith, a, b);
        group = c.group;
        source = c.source;
        is_data = c.is_data;
        same = c.same;
        time_to_live = lower;
      }

      carried_later : length n.frames < ((carried_on).on_link).number
      unfolding carried_on goes
      carried_later = (goes).later

      pub is_passed_on : IsPassedOn n link lives p
      is_passed_on = record {
        number = (c.on_link).number;
        event = delivery;
        did = did_so up_linked;
        carried = carried_on;
        later = carried_later;
      }

  -- down a way, each router of which passes the packet on
  module _ (IsWay : ℕ → List Place → Type 0)
      (above : (link : ℕ) (p : Place) (ps : List Place) → IsWay link (p ∷ ps) → IsWay p.next_link ps)
      (passes : (n : Network) (link lives : ℕ) (p : Place) (ps : List Place) → 0 < lives → IsWay link (p ∷ ps)
      → station_at n p.router ≡ Some p.station → IsCarried n g src p.next_link payload (lives + 1)
      → IsPassedOn n link lives p) where
    pub flow : (link lives : ℕ) (ps : List Place) (n : Network) → 0 < lives → IsWay link ps → StandIn n ps → AreApart ps
        → IsCarried n g src (top_link link ps) payload (lives + length ps)
        → IsFlowed n g src link payload lives ps
    unfolding network_ran
    flow link lives [] n some way stand apart c = record {
      moves = [];
      deliveries = tt;
      one_each = refl;
      arrived = subst (λ (l : ℕ). IsCarried n g src link payload l) (omega arith) c;
      new = tt;
      grows = omega arith;
      others = λ r off. refl;
    }
    flow link lives (p ∷ ps) n some way stand apart c =
        let rest : IsFlowed n g src p.next_link payload (lives + 1) ps =
        flow p.next_link (lives + 1) ps n (omega arith) (above link p ps way) stand.1 apart.1
        (subst (λ (l : ℕ). IsCarried n g src (top_link p.next_link ps) payload l) (omega arith) c) in
        let m : Network = (network_ran n rest.moves).1 in
        let on : IsPassedOn m link lives p =
        passes m link lives p ps some way (rest.others p.router apart.0 ∙ stand.0) rest.arrived in
        let last : Move = Deliver p.router (up_iface p) on.number p.draw in
        let is : (network_ran n (rest.moves ++ last ∷ [])).1 ≡ (moved m last).1 = ran_more n rest.moves last in
        let c1 : IsCarried (moved m last).1 g src link payload lives = on.carried in
        record {
          moves = rest.moves ++ last ∷ [];
          deliveries = each_append IsDelivery rest.moves (last ∷ []) rest.deliveries (tt, tt);
          one_each =
              let long = length-append rest.moves (last ∷ []) in
              let same = rest.one_each in omega (arith, long, same);
          arrived = record {
            bytes = c1.bytes;
            packet = c1.packet;
            on_link = record {
              number = (c1.on_link).number;
              is = ap (λ (x : Network). frame_at x (c1.on_link).number) is ∙ (c1.on_link).is;
            };
            reads = c1.reads;
            fits = c1.fits;
            group = c1.group;
            source = c1.source;
            is_data = c1.is_data;
            same = c1.same;
            time_to_live = c1.time_to_live;
          };
          new =
              let before = rest.grows in
              let later = on.later in omega (arith, before, later);
          grows =
              let before = rest.grows in
              let now = on.did.grows in
              subst (λ (x : Network). length n.frames ≤ length x.frames) (sym is) (omega (arith, before, now));
          others = λ r off.
              ap (λ (x : Network). station_at x r) is ∙ (on.did.beside r off.0 ∙ rest.others r off.1);
        }
