-- Nothing of a source is on the last link of a way but what comes down the way.
use Rattle.std.{proofs.{Common.{Bool, List, None, Ok, Option, Some, [], ap, arith, cond, eqb-true, false, inl, inr, is_some, length, map, nat_lt, refl, subst, suc, sym, true, zero, ℕ, ◌&&◌, ◌++◌, ◌<◌, ◌==◌, ◌∙◌, ◌∷◌, ◌≡◌, ◌≤◌, ◌⊎◌}, lemmas.{Bool.Decides.nat_tests, List.Elements.recursion_from_All}}, specs.{List.{AllByRecursion, Contains}, Prelude.{option_and_then, slice_get}}}
use Rattle.pim_ip.{specs.{Ipv4.{Packet, copy_text, ipv4_reading, is_link_local, protocol_igmp}, View.copied}}
use Rattle.pim_types.{specs.declared.{event.{Event.Event, EventKind.EventKind}, outcome.Emission.Emission}}
use Rattle.pim_model.{specs.{Cause.{done_as, packet_in}, Network.{Deliver, Move, Network, Sent, Station, event_of, frame_at, frame_event, is_on_frame_link, moved, moved_at, network_ran, sent_by, station_at, stepped}, Step.step, Tables.same_option, Writing.on_link}}
use Rattle.law_streams.{proofs.{Brought.packet_comes_from_event, Climbing.frames_stay, Copies.each_emission_is_of_a_kind, Forwards.copy_reads_lower, Pairs.{frame_stays, same_station}, Shared.{Got, got_below, none_behind}}, specs.{Brought.{BringsPacket, InRegister, OnLink}, Copies.{copies_at, happens}, Data.IsOfAKind, InTimeJoins.Always}}
use Rattle.law_converges.{proofs.{LinkDr.always_more, LinkRptOrder.there_is, OneCopy.{Behind, behind, isnt_message, isnt_register}, Past.{from_then_on, past_then}, TakesOver.moved_so}, specs.{Carried.EachMove, ComesOnce.{AllCameDown, AreAlone, AreAlonePast, AreForwarding, CameDown, ComesOf, Forwarder, Forwards, FrameComesOfOne, IsAlone, IsCopied, IsFromAbove, IsOfSource, IsPassedOn, NothingElseComes, Root, SomeMove, TakesFromAbove}, Past.{ArePast, HoldsPast, HoldsPastOn}}}

contradicts : true ≡ false → ⊥
contradicts e = cc e

-- ---- a frame that a move brings

-- a router's event makes its bytes a copy on the link
pub record IsPut (link number : ℕ) (bytes : List ℕ) (n : Network) (m : Move) : Type 0 where
  pub router : ℕ
  pub event : Event
  pub is : event_of n m ≡ Some (router, event)
  pub station : Station
  pub at : station_at n router ≡ Some station
  pub iface : ℕ
  pub linked : slice_get station.links iface ≡ Some link
  pub copied : Contains (copies_at station.state event) (on_link iface bytes)
  pub packet : Packet
  pub brought : packet_in (done_as (happens station.state event)) ≡ Some packet
  pub text : bytes ≡ copy_text packet

pub record GotOne (P : Emission → Type 0) (links : List ℕ) (f : Sent) : Type 0 where
  pub emission : Emission
  pub has : P emission
  pub sent : sent_by links emission ≡ f

pub got_one : (P : Emission → Type 0) (links : List ℕ) (f : Sent) (xs : List Emission) (i : ℕ) → AllByRecursion P xs
    → slice_get (map (sent_by links) xs) i ≡ Some f → GotOne P links f
got_one P links f [] i all e = cc e
got_one P links f (x ∷ xs) zero all e = record { emission = x; has = all.0; sent = same e }
  where
    same : (let o : Option Sent = Some (sent_by links x) in o) ≡ Some f → sent_by links x ≡ f
    same e = cc e
got_one P links f (x ∷ xs) (suc i) all e = got_one P links f xs i all.1 e

-- a new frame is one of what a router's event sends
pub record IsSentIn (number : ℕ) (f : Sent) (n : Network) (m : Move) : Type 0 where
  pub router : ℕ
  pub event : Event
  pub is : event_of n m ≡ Some (router, event)
  pub station : Station
  pub at : station_at n router ≡ Some station
  pub place : ℕ
  pub got : slice_get (map (sent_by station.links) (step station.state event).emissions) place ≡ Some f

module _ (number : ℕ) (f : Sent) (n : Network) (m : Move) (new : length n.frames < number) (got : frame_at (moved n m).1 number ≡ Some f) where
  module _ (q : ℕ) (e : Event) (st : Station) (is : event_of n m ≡ Some (q, e)) (at : station_at n q ≡ Some st) where
    sent_there : (k : ℕ) → frame_at (moved n m).1 (suc k) ≡ Some f
        → slice_get (n.frames ++ map (sent_by st.links) (step st.state e).emissions) k ≡ Some f
    unfolding frame_at stepped
    sent_there k h = ap (λ (x : Network). slice_get x.frames k) (sym (moved_so n m q e st is at)) ∙ h

    sent_as : (k : ℕ) → number ≡ suc k → IsSentIn number f n m
    sent_as k same =
        let b : Behind n.frames (map (sent_by st.links) (step st.state e).emissions) k f =
        behind n.frames (map (sent_by st.links) (step st.state e).emissions) k f (omega (arith, new, same))
        (sent_there k (subst (λ (j : ℕ). frame_at (moved n m).1 j ≡ Some f) same got)) in
        record { router = q; event = e; is = is; station = st; at = at; place = b.place; got = b.got }

  unchanged : (moved n m).1 ≡ n → IsSentIn number f n m
  unchanged same = absurd (none_behind n number f new (subst (λ (x : Network). frame_at x number ≡ Some f) same got))

  nobody : event_of n m ≡ None → (moved n m).1 ≡ n
  unfolding moved
  nobody is = rw is refl

  no_router : (q : ℕ) (e : Event) → event_of n m ≡ Some (q, e) → station_at n q ≡ None → (moved n m).1 ≡ n
  unfolding moved moved_at
  no_router q e is none = rw is (rw none refl)

  pub sent_in : IsSentIn number f n m
  sent_in = go (event_of n m) refl
    where
      some_number : (k : ℕ) → number ≡ k → length n.frames < k → ((j : ℕ) → number ≡ suc j → IsSentIn number f n m) → IsSentIn number f n m
      some_number zero same lt h = absurd (omega (arith, lt))
      some_number (suc j) same lt h = h j same

      by_station : (q : ℕ) (e : Event) → event_of n m ≡ Some (q, e) → (o : Option Station) → station_at n q ≡ o → IsSentIn number f n m
      by_station q e is None none = unchanged (no_router q e is none)
      by_station q e is (Some st) at = some_number number refl new (sent_as q e st is at)

      go : (o : Option (ℕ × Event)) → event_of n m ≡ o → IsSentIn number f n m
      go None is = unchanged (nobody is)
      go (Some (q, e)) is = by_station q e is (station_at n q) refl

module _ (g src link number : ℕ) (bytes : List ℕ) (far : is_link_local g ≡ false) (its : IsOfSource g src bytes) where
  abbrev f : Sent
  f = record { link = Some link; bytes = bytes }

  goes_far : is_link_local (its.packet).destination ≡ false
  goes_far = ap is_link_local its.group ∙ far

  module _ (n : Network) (m : Move) (new : length n.frames < number) (got : frame_at (moved n m).1 number ≡ Some f) where
    by_kind : (w : IsSentIn number f n m) (x : Emission) → sent_by (w.station).links x ≡ f → IsOfAKind (w.station).state w.event x
        → IsPut link number bytes n m
    by_kind w x sent (inl message) =
        absurd (isnt_message its.packet bytes its.reads its.is_data goes_far (w.station).links link x message sent)
    by_kind w x sent (inr (inr register)) =
        absurd (isnt_register its.packet bytes its.reads its.is_data goes_far (w.station).links link register.from register.rp _
        (ap (sent_by (w.station).links) (sym register.is) ∙ sent))
    by_kind w x sent (inr (inl (among, low))) =
        let there : sent_by (w.station).links (on_link low.link (copy_text low.packet)) ≡ f =
        ap (sent_by (w.station).links) (sym low.is) ∙ sent in
        let text : copy_text low.packet ≡ bytes = ap (λ (s : Sent). s.bytes) there in
        record {
          router = w.router;
          event = w.event;
          is = w.is;
          station = w.station;
          at = w.at;
          iface = low.link;
          linked = ap (λ (s : Sent). s.link) there;
          copied = subst (λ (b : List ℕ). Contains (copies_at (w.station).state w.event) (on_link low.link b)) text
              (subst (Contains (copies_at (w.station).state w.event)) low.is among);
          packet = low.packet;
          brought = low.brought;
          text = sym text;
        }

    pub put : IsPut link number bytes n m
    put =
        let w : IsSentIn number f n m = sent_in number f n m new got in
        let one : GotOne (IsOfAKind (w.station).state w.event) (w.station).links f =
        got_one (IsOfAKind (w.station).state w.event) (w.station).links f (step (w.station).state w.event).emissions w.place
        (recursion_from_All (IsOfAKind (w.station).state w.event) (step (w.station).state w.event).emissions
        (each_emission_is_of_a_kind (w.station).state w.event)) w.got in
        by_kind w one.emission one.sent one.has

framed_so : (n : Network) (k : ℕ) (f : Sent) → slice_get n.frames k ≡ Some f → frame_at n (suc k) ≡ Some f
unfolding frame_at
framed_so n k f e = e

-- ---- at one of the moves

pub lt_so : (a b : ℕ) → nat_lt a b ≡ true → a < b
lt_so a b e = grind (arith, nat_tests, e)

pub le_so : (a b : ℕ) → nat_lt a b ≡ false → b ≤ a
le_so a b e = grind (arith, nat_tests, e)

module _ (number : ℕ) (f : Sent) (P : Network → Type 0) (Q R : Network → Move → Type 0)
    (does : (n : Network) (m : Move) → P n → Q n m → length n.frames < number → frame_at (moved n m).1 number ≡ Some f → R n m) where
  -- a frame that is there by the moves was brought by one of them
  some_move : (ms : List Move) (n : Network) → Always P n ms → EachMove Q n ms → length n.frames < number
      → frame_at (network_ran n ms).1 number ≡ Some f → SomeMove R n ms
  unfolding network_ran
  some_move [] n p q new got = absurd (none_behind n number f new got)
  some_move (m ∷ ms) n p q new got = go (λ later. some_move ms (moved n m).1 p.1 q.1 later got) (nat_lt (length ((moved n m).1).frames) number) refl
    where
      there : (k : ℕ) → number ≡ k → k ≤ length ((moved n m).1).frames → frame_at (moved n m).1 k ≡ Some f
      there zero same le = absurd (omega (arith, new, same))
      there (suc k) same le = by_got (got_below ((moved n m).1).frames k (omega (arith, le)))
        where
          by_got : Got ((moved n m).1).frames k → frame_at (moved n m).1 (suc k) ≡ Some f
          by_got g =
              framed g.frame (in_place g.is)
              (subst (λ (j : ℕ). frame_at (network_ran (moved n m).1 ms).1 j ≡ Some f) same got)
            where
              in_place : slice_get ((moved n m).1).frames k ≡ Some g.frame → frame_at (moved n m).1 (suc k) ≡ Some g.frame
              in_place e = framed_so (moved n m).1 k g.frame e

              framed : (x : Sent) → frame_at (moved n m).1 (suc k) ≡ Some x → frame_at (network_ran (moved n m).1 ms).1 (suc k) ≡ Some f
                  → frame_at (moved n m).1 (suc k) ≡ Some f
              framed x e h = e ∙ (sym (frames_stay (moved n m).1 ms (suc k) x e) ∙ h)

      go : (length ((moved n m).1).frames < number → SomeMove R (moved n m).1 ms) → (b : Bool) → nat_lt (length ((moved n m).1).frames) number ≡ b
          → SomeMove R n (m ∷ ms)
      go rest true lt = inr (rest (lt_so _ _ lt))
      go rest false le =
          inl (does n m p.0 q.0 new (there number refl (le_so _ _ le)))

-- ---- a frame is new once

module _ (f : Forwarder) (k : ℕ) where
  -- one that is there isn't made any more
  never_new : (b : ℕ) (x : Sent) (ms : List Move) (n : Network) → frame_at n k ≡ Some x → SomeMove (IsPassedOn f b k) n ms → ⊥
  never_new b x [] n there s = absurd s
  never_new b x (m ∷ ms) n there (inl p) = below (there_is n k x there) (p.copied).later
    where
      below : {i j : ℕ} → i ≤ j → j < i → ⊥
      below le lt = omega (arith, le, lt)
  never_new b x (m ∷ ms) n there (inr s) = never_new b x ms (moved n m).1 (frame_stays n m k x there) s

  of_one_move : (a b : ℕ) (m : Move) (n : Network) → IsPassedOn f a k n m → IsPassedOn f b k n m → a ≡ b
  of_one_move a b m n x y = same (sym x.is ∙ y.is)
    where
      same : Deliver (f.self).router (f.self).iface a x.draw ≡ Deliver (f.self).router (f.self).iface b y.draw → a ≡ b
      same e = cc e

  one_source : (a b : ℕ) (ms : List Move) (n : Network) → SomeMove (IsPassedOn f a k) n ms → SomeMove (IsPassedOn f b k) n ms → a ≡ b
  one_source a b [] n x y = absurd x
  one_source a b (m ∷ ms) n (inl x) (inl y) = of_one_move a b m n x y
  one_source a b (m ∷ ms) n (inl x) (inr y) = absurd (never_new b _ ms (moved n m).1 (x.copied).framed y)
  one_source a b (m ∷ ms) n (inr x) (inl y) = absurd (never_new a _ ms (moved n m).1 (y.copied).framed x)
  one_source a b (m ∷ ms) n (inr x) (inr y) = one_source a b ms (moved n m).1 x y

pub frame_comes_of_one : FrameComesOfOne
frame_comes_of_one [] a b k n ms x y = x ∙ sym y
frame_comes_of_one (f ∷ fs) a b k n ms (i, x, s) (j, y, u) =
    frame_comes_of_one fs a b i n ms x (subst (λ (z : ℕ). ComesOf fs b z n ms) (sym (one_source f k i j ms n s u)) y)

-- ---- one router of a way

-- the frame that a delivery brings is on the interface's link
record Delivered (n : Network) (i k draw above : ℕ) (e : Event) : Type 0 where
  frame : Sent
  is : frame_at n k ≡ Some frame
  on : frame.link ≡ Some above
  event : frame_event i draw frame ≡ e

abbrev at_router : ℕ → Event → Option (ℕ × Event)
at_router q e = Some (q, e)

same_link : (above : ℕ) (o l : Option ℕ) → l ≡ Some above → (is_some o && same_option l o) ≡ true → o ≡ Some above
same_link above None l is e = cc e
same_link above (Some k) l is e = sym (ap (λ (z : ℕ). Some z) (eqb-true above k (subst (λ (x : Option ℕ). same_option x (Some k) ≡ true) is e)))

delivered_so : (n : Network) (q i k draw above : ℕ) (e : Event) (st : Station) → station_at n q ≡ Some st → slice_get st.links i ≡ Some above
    → event_of n (Deliver q i k draw) ≡ Some (q, e) → Delivered n i k draw above e
unfolding event_of
delivered_so n q i k draw above e st at linked is = go (station_at n q) at (frame_at n k) refl is
  where
    the_event : (x : Event) → at_router q x ≡ Some (q, e) → x ≡ e
    the_event x h = let same : (q, x) ≡ (q, e) = cc h in ap (λ (p : ℕ × Event). p.1) same

    its_links : (y : Station) → (let o : Option Station = Some y in o) ≡ Some st → slice_get y.links i ≡ Some above
    its_links y h = let same : y ≡ st = cc h in ap (λ (z : Station). slice_get z.links i) same ∙ linked

    on_it : (y : Station) (f : Sent) (b : Bool) → is_on_frame_link y i f ≡ b → slice_get y.links i ≡ Some above → frame_at n k ≡ Some f
        → cond b (at_router q (frame_event i draw f)) None ≡ Some (q, e) → Delivered n i k draw above e
    on_it y f true on there has h = record { frame = f; is = has; on = same_link above f.link (slice_get y.links i) there on; event = the_event (frame_event i draw f) h }
    on_it y f false on there has h = cc h

    go : (s : Option Station) → s ≡ Some st → (o : Option Sent) → frame_at n k ≡ o
        → option_and_then (λ (y : Station). option_and_then (λ (f : Sent).
        cond (is_on_frame_link y i f) (at_router q (frame_event i draw f)) None) o) s ≡ Some (q, e) → Delivered n i k draw above e
    go None same o has h = cc same
    go (Some y) same None has h = cc h
    go (Some y) same (Some f) has h = on_it y f (is_on_frame_link y i f) refl (its_links y same) has h

-- a frame's bytes are what was brought
brought_of : (e : Event) (p : Packet) (i draw : ℕ) (f : Sent) → frame_event i draw f ≡ e → BringsPacket e p → ipv4_reading f.bytes ≡ Ok p
brought_of e p i draw f same (OnLink at bytes kind reads) =
    ap ipv4_reading (its (ap (λ (x : Event). x.kind) same ∙ kind)) ∙ reads
  where
    its : (frame_event i draw f).kind ≡ EventKind.Frame at bytes → f.bytes ≡ bytes
    its h = cc h
brought_of e p i draw f same (InRegister bytes outer kind reads inside) = absurd (never (ap (λ (x : Event). x.kind) same ∙ kind))
  where
    never : (frame_event i draw f).kind ≡ EventKind.Unicast bytes → ⊥
    never h = cc h

same_packet : (bytes : List ℕ) (p q : Packet) → ipv4_reading bytes ≡ Ok p → ipv4_reading bytes ≡ Ok q → p ≡ q
same_packet bytes p q e h = grind (arith, e, h)

-- what a copy is of the source its packet is
before_copy : (g src : ℕ) (bytes old : List ℕ) (p : Packet) → IsOfSource g src bytes → bytes ≡ copy_text p → ipv4_reading old ≡ Ok p → IsOfSource g src old
before_copy g src bytes old p its text reads =
    let same : its.packet ≡ copied p =
    same_packet bytes its.packet (copied p) its.reads (ap ipv4_reading text ∙ copy_reads_lower old p reads) in
    record {
      packet = p;
      reads = reads;
      is_data = ap (λ (x : Packet). x.protocol == protocol_igmp) (sym same) ∙ its.is_data;
      group = ap (λ (x : Packet). x.destination) (sym same) ∙ its.group;
      source = ap (λ (x : Packet). x.source) (sym same) ∙ its.source;
    }

module _ (g src : ℕ) (far : is_link_local g ≡ false) where
  -- a frame that the router made of one on the link above
  record IsMade (f : Forwarder) (number : ℕ) (n : Network) (m : Move) : Type 0 where
    frame : ℕ
    passed : IsPassedOn f frame number n m
    old : List ℕ
    there : frame_at n frame ≡ Some (record { link = Some f.above; bytes = old })
    its : IsOfSource g src old

  module _ (link number : ℕ) (bytes : List ℕ) (its : IsOfSource g src bytes) where
    abbrev its_frame : Sent
    its_frame = record { link = Some link; bytes = bytes }

    -- it is the one router that may send there
    by_it : (r : ℕ) (n : Network) (m : Move) (p : IsPut link number bytes n m) → IsAlone g src r link n m → p.router ≡ r
    by_it r n m p alone = alone p.router p.iface p.event p.station bytes p.is p.at p.linked its p.copied

    at_root : (r : ℕ) (n : Network) (m : Move) → IsAlone g src r link n m → length n.frames < number → frame_at (moved n m).1 number ≡ Some its_frame
        → IsCopied r link number n m
    at_root r n m alone new got =
        let p : IsPut link number bytes n m = put g src link number bytes far its n m new got in
        let same : p.router ≡ r = by_it r n m p alone in
        record {
          event = p.event;
          is = p.is ∙ ap (λ (q : ℕ). at_router q p.event) same;
          station = p.station;
          at = ap (station_at n) (sym same) ∙ p.at;
          packet = p.packet;
          brought = p.brought;
          later = new;
          framed = got ∙ ap (λ (b : List ℕ). framed b) p.text;
        }
      where
        framed : List ℕ → Option Sent
        framed b = Some (record { link = Some link; bytes = b })

    module _ (f : Forwarder) (below : f.below ≡ link) (n : Network) (m : Move) (fw : Forwards g src f n) (alone : IsAlone g src (f.self).router link n m)
        (from : TakesFromAbove g src n m f) (new : length n.frames < number) (got : frame_at (moved n m).1 number ≡ Some its_frame) where
      abbrev r : ℕ
      r = (f.self).router

      copy : IsCopied r link number n m
      copy = at_root r n m alone new got

      p : IsPut link number bytes n m
      p = put g src link number bytes far its n m new got

      same : (p).router ≡ r
      same = by_it r n m (p) alone

      here : station_at n r ≡ Some (p).station
      here = ap (station_at n) (sym (same)) ∙ (p).at

      its_event : event_of n m ≡ Some (r, (p).event)
      its_event = (p).is ∙ ap (λ (q : ℕ). at_router q (p).event) (same)

      on_down : (p).iface ≡ f.down
      on_down =
          (fw.below).single (p).iface
          (subst (λ (z : Station). slice_get z.links (p).iface ≡ Some f.below) (sym (same_station fw.there (here))) ((p).linked ∙ ap (λ (l : ℕ). Some l) (sym below)))

      above : IsFromAbove f m
      above =
          from (p).event (p).station bytes (its_event) (here) its
          (subst (λ (j : ℕ). Contains (copies_at ((p).station).state (p).event) (on_link j bytes)) (on_down) (p).copied)

      came : Delivered n (f.self).iface (above).frame (above).draw f.above (p).event
      came =
          delivered_so n r (f.self).iface (above).frame (above).draw f.above (p).event (p).station (here)
          (subst (λ (z : Station). slice_get z.links (f.self).iface ≡ Some f.above) (same_station fw.there (here)) fw.above)
          (ap (event_of n) (sym (above).is) ∙ its_event)

      made : IsMade f number n m
      made = record {
        frame = (above).frame;
        passed = record {
          draw = (above).draw;
          is = (above).is;
          copied = subst (λ (l : ℕ). IsCopied r l number n m) (sym below) (copy);
        };
        old = ((came).frame).bytes;
        there = (came).is ∙ framed (came).frame (came).on;
        its = before_copy g src bytes ((came).frame).bytes (p).packet its (p).text
            (brought_of (p).event (p).packet (f.self).iface (above).draw (came).frame (came).event
            (packet_comes_from_event ((p).station).state (p).event (p).packet (p).brought));
      }
        where
          framed : (x : Sent) → x.link ≡ Some f.above → (let o : Option Sent = Some x in o) ≡ Some (record { link = Some f.above; bytes = x.bytes })
          framed x on = λ i. Some (record { link = on i; bytes = x.bytes })

  -- ---- over all moves

  record IsMadeBy (f : Forwarder) (number : ℕ) (n : Network) (ms : List Move) : Type 0 where
    frame : ℕ
    passed : SomeMove (IsPassedOn f frame number) n ms
    old : List ℕ
    there : frame_at (network_ran n ms).1 frame ≡ Some (record { link = Some f.above; bytes = old })
    its : IsOfSource g src old

  made_by : (f : Forwarder) (number : ℕ) (ms : List Move) (n : Network) → SomeMove (IsMade f number) n ms → IsMadeBy f number n ms
  unfolding network_ran
  made_by f number [] n s = absurd s
  made_by f number (m ∷ ms) n (inl made) = record {
    frame = made.frame;
    passed = inl made.passed;
    old = made.old;
    there = frames_stay n (m ∷ ms) made.frame _ made.there;
    its = made.its;
  }
  made_by f number (m ∷ ms) n (inr s) =
      let later : IsMadeBy f number (moved n m).1 ms = made_by f number ms (moved n m).1 s in
      record { frame = later.frame; passed = inr later.passed; old = later.old; there = later.there; its = later.its }

  each_move_more : (P Q : Network → Move → Type 0) → ((n : Network) (m : Move) → P n m → Q n m) → (ms : List Move) (n : Network)
      → EachMove P n ms → EachMove Q n ms
  each_move_more P Q so [] n f = tt
  each_move_more P Q so (m ∷ ms) n f = (so n m f.0, each_move_more P Q so ms (moved n m).1 f.1)

  -- what each move does for the last router
  abbrev Alone : (f : Forwarder) (link : ℕ) → Network → Move → Type 0
  Alone f link n m = IsAlone g src (f.self).router link n m × TakesFromAbove g src n m f

  abbrev AllAlone : Root → (link : ℕ) → List Forwarder → Network → Move → Type 0
  AllAlone root link fs n m = AreAlone g src root link fs n m × AllByRecursion (TakesFromAbove g src n m) fs

  module _ (root : Root) where
    all_came : (fs : List Forwarder) (link : ℕ) (ms : List Move) (n : Network) → Always (AreForwarding g src root link fs) n ms
        → EachMove (AllAlone root link fs) n ms → AllCameDown g src root link fs n ms
    all_came [] link ms n way alone number bytes new got its =
        some_move number (its_frame link number bytes its) (λ n. root.below ≡ link) (λ n m. IsAlone g src root.router link n m)
        (IsCopied root.router root.below number)
        (λ n m p q lt at. subst (λ (l : ℕ). IsCopied root.router l number n m) (sym p) (at_root link number bytes its root.router n m q lt at))
        ms n (always_more (AreForwarding g src root link []) (λ n. root.below ≡ link) (λ n a. a.0) ms n way)
        (each_move_more (AllAlone root link []) (λ n m. IsAlone g src root.router link n m) (λ n m x. x.0) ms n alone) new got
    all_came (f ∷ fs) link ms n way alone number bytes new got its =
        let last : IsMadeBy f number n ms =
        made_by f number ms n
        (some_move number (its_frame link number bytes its) (λ n. (f.below ≡ link) × Forwards g src f n) (Alone f link) (IsMade f number)
        (λ n m p q lt at. made link number bytes its f p.0 n m p.1 q.0 q.1 lt at) ms n
        (always_more (AreForwarding g src root link (f ∷ fs)) (λ n. (f.below ≡ link) × Forwards g src f n) (λ n a. (a.0, a.1)) ms n way)
        (each_move_more (AllAlone root link (f ∷ fs)) (Alone f link) (λ n m x. ((x.0).0, (x.1).0)) ms n alone) new got) in (
          last.frame,
          last.passed,
          or_before last.frame (length n.frames) (λ lt. all_came fs f.above ms n
              (always_more (AreForwarding g src root link (f ∷ fs)) (AreForwarding g src root f.above fs) (λ n a. a.3) ms n way)
              (each_move_more (AllAlone root link (f ∷ fs)) (AllAlone root f.above fs) (λ n m x. ((x.0).1, (x.1).1)) ms n alone)
              last.frame last.old lt last.there last.its),
        )
      where
        or_before : (k first : ℕ) → (first < k → CameDown root fs k n ms) → (k ≤ first) ⊎ CameDown root fs k n ms
        or_before k first h = go (nat_lt first k) refl
          where
            go : (b : Bool) → nat_lt first k ≡ b → (k ≤ first) ⊎ CameDown root fs k n ms
            go true lt = inr (h (lt_so first k lt))
            go false le = inl (le_so first k le)

-- past the bound each move is
each_past : (started : ℕ → ℕ) (bound : ℕ) (P : Network → Move → Type 0) (ms : List Move) (n : Network) → ArePast started bound n
    → EachMove (λ n m. ArePast started bound n → P n m) n ms → EachMove P n ms
each_past started bound P [] n past f = tt
each_past started bound P (m ∷ ms) n past f =
    (f.0 past, each_past started bound P ms (moved n m).1 (past_then started bound n m past) f.1)

pub nothing_else_comes : NothingElseComes
nothing_else_comes g src bound started root link fs n ms far = go ms n
  where
    go : (ms : List Move) (n : Network) → HoldsPast started bound (AreForwarding g src root link fs) n ms
        → EachMove (AreAlonePast g src started bound root link fs) n ms → HoldsPastOn started bound (AllCameDown g src root link fs) n ms
    go [] n way alone = tt
    go (m ∷ ms) n way alone = (
      λ past. all_came g src far root fs link ms (moved n m).1
          (from_then_on started bound (AreForwarding g src root link fs) ms (moved n m).1 past (way.0 past) way.1)
          (each_past started bound (AllAlone g src far root link fs) ms (moved n m).1 past alone.1),
      go ms (moved n m).1 way.1 alone.1,
    )
