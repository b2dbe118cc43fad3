-- Down a way of any length: what each router of it takes, and makes of it, once.
use Rattle.std.{proofs.Common.{List, None, Ok, Option, Some, [], ap, arith, cond, eq-eqb, false, inl, inr, length, refl, subst, suc, sym, true, ℕ, ◌*◌, ◌+◌, ◌<◌, ◌==◌, ◌∙◌, ◌∷◌, ◌≡◌, ◌≤◌, ◌⊎◌}, specs.{List.AllByRecursion, Prelude.option_and_then}}
use Rattle.pim_ip.{specs.{Ipv4.{Packet, copy_text, frame_limit, ipv4_reading, is_link_local, is_multicast, protocol_igmp}, View.copied}}
use Rattle.pim_types.{specs.declared.event.{Event.Event, EventKind.EventKind}}
use Rattle.pim_model.{specs.{Cause.{done_as, packet_in}, Full.source_is_full, Network.{Deliver, Move, Network, Sent, Station, event_of, frame_at, frame_event, is_on_frame_link, moved, network_ran, station_at}, State.{State, is_own}, Step.{Answered, change, done, step}, Writing.on_link, declared.accepted.Accepted.Accepted}}
use Rattle.law_settled.{proofs.{ListLaws.each_more, Unsettled.{Unsettled, settling_leaves}}}
use Rattle.law_streams.{proofs.{Climbing.frames_stay, Deliveries.{IsNewOn, IsStepped, is_delivered, is_stepped}, EndSoon.change_present, Forwards.{copy_fits, copy_reads_lower, data_done, from_copies}, Leaves.taken_is_done, Made.step_taken, Pairs.{frame_stays, same_station}}, specs.{Copies.happens, InTimeJoins.{Always, IsBy, time_at}, Roots.{ArrivesFor, InRegister, IsBrought, OnTree}}}
use Rattle.law_converges.{proofs.{Carried.{Brought, brings, came_here, comes, soon_first}, LinkDr.always_more, LinkJoins.first_of, LinkRptOrder.{frames_grow, there_is}, OneCopy.one_copy, Past.from_then_on, SourceStreams.{passes_it, root_sends, takes_on}, TakesOver.moved_so}, specs.{Carried.{Arrivals, Carries, ComesInTurn, EachMove, IsFor, IsSentBy, Traffic, arrived}, ComesOnce.{AreForwarding, AreServedOnce, ComesOf, ComesOnce, EachPacketComesOnce, Forwarder, Forwards, HasOneOn, HearsAll, IsCopied, IsOfTree, IsPassedOn, PassesOn, Root, SendsDown, SendsOn, SomeMove, sender_of}, LinkDr.{IsOne, Member}, Past.{ArePast, HoldsPast, HoldsPastOn}}}

-- ---- a data packet takes no time

data_present : (s : State) (e : Event) (i : ℕ) (p : Packet) → done_as (happens s e) ≡ Some (Accepted.Data (record { number = i }) p)
    → ((step s e).state).present ≡ s.present
unfolding change done
data_present s e i p was =
    ap (λ (a : Answered). (a.state).present)
    (step_taken s e (Accepted.Data (record { number = i }) p) was ∙ taken_is_done s e.draw (Accepted.Data (record { number = i }) p) refl)
    ∙ (ap (λ (u : Unsettled). u.present)
    (settling_leaves s
    ((change s e.draw (Accepted.Data (record { number = i }) p)).state, (change s e.draw (Accepted.Data (record { number = i }) p)).messages) e.draw)
    ∙ change_present s e.draw (Accepted.Data (record { number = i }) p))

-- ---- what a frame holds

record IsPacket (g src : ℕ) (payload : List ℕ) (lives : ℕ) (bytes : List ℕ) : Type 0 where
  packet : Packet
  reads : ipv4_reading bytes ≡ Ok packet
  fits : length bytes ≤ frame_limit
  group : packet.destination ≡ g
  source : packet.source ≡ src
  is_data : (packet.protocol == protocol_igmp) ≡ false
  same : packet.payload ≡ payload
  time_to_live : packet.time_to_live ≡ lives

-- a copy of it
module _ (g src : ℕ) (payload : List ℕ) (lives : ℕ) (bytes : List ℕ) (c : IsPacket g src payload (lives + 1) bytes) where
  is_copy : IsPacket g src payload lives (copy_text c.packet)
  is_copy = record {
    packet = copied c.packet;
    reads = copy_reads_lower bytes c.packet c.reads;
    fits = let a = copy_fits bytes c.packet c.reads in let b = c.fits in omega (arith, a, b);
    group = c.group;
    source = c.source;
    is_data = c.is_data;
    same = c.same;
    time_to_live = let e = c.time_to_live in omega (arith, e);
  }

-- what is said of the group and the source is said of the packet's
module _ (g src : ℕ) (p : Packet) (group : p.destination ≡ g) (source : p.source ≡ src) where
  of_packet : (P : ℕ → ℕ → Type 0) → P g src → P p.destination p.source
  of_packet P x = subst (λ (d : ℕ). P d p.source) (sym group) (subst (λ (a : ℕ). P g a) (sym source) x)

-- ---- a delivery at a router of a way

module _ (g src : ℕ) (is_group : is_multicast g ≡ true) (far : is_link_local g ≡ false) (payload : List ℕ) where
  module _ (f : Forwarder) (n : Network) (fw : Forwards g src f n) (lives : ℕ) (bytes : List ℕ) (c : IsPacket g src payload (lives + 1) bytes)
      (k draw : ℕ) (framed : frame_at n k ≡ Some (record { link = Some f.above; bytes = bytes })) where
    abbrev r : ℕ
    r = (f.self).router

    abbrev up : ℕ
    up = (f.self).iface

    abbrev st : Station
    st = fw.station

    abbrev m : Move
    m = Deliver r up k draw

    abbrev event : Event
    event = record { draw = draw; kind = EventKind.Frame (record { number = up }) bytes }

    its_event : event_of n m ≡ Some (r, event)
    unfolding event_of
    its_event = rw (fw.there, framed, fw.above, eq-eqb f.above f.above refl) refl

    its_passes : PassesOn (st).state (c.packet).destination (c.packet).source up f.down
    its_passes = of_packet g src c.packet c.group c.source (λ d a. PassesOn (st).state d a up f.down) fw.passes

    is_done : done_as (happens (st).state event) ≡ Some (Accepted.Data (record { number = up }) c.packet)
    is_done =
        let in_there = takes_on (st).state g src up f.down fw.passes in
        data_done (st).state up draw bytes c.packet c.reads in_there.configured in_there.is_up c.fits c.is_data
        (of_packet g src c.packet c.group c.source (λ d a. is_multicast d ≡ true) is_group)
        (of_packet g src c.packet c.group c.source (λ d a. is_link_local d ≡ false) far)
        (of_packet g src c.packet c.group c.source (λ d a. is_own (st).state a ≡ false) in_there.foreign)
        (of_packet g src c.packet c.group c.source (λ d a. source_is_full (st).state d a ≡ false) in_there.room)

    its_far : is_link_local (c.packet).destination ≡ false
    its_far = of_packet g src c.packet c.group c.source (λ d a. is_link_local d ≡ false) far

    its_step : IsStepped n r st event (moved n m).1
    its_step = is_delivered n r st up k draw f.above bytes fw.there fw.above framed

    leaves : 0 < lives → IsNewOn n (moved n m).1 f.below (copy_text c.packet)
    leaves some =
        (its_step).sent f.down f.below (copy_text c.packet) (fw.below).linked
        (from_copies (st).state event (on_link f.down (copy_text c.packet))
        (passes_it (st).state event c.packet up f.down its_passes
        (record { done = is_done; lives = (let e = c.time_to_live in omega (arith, some, e)) })))

    its_copy : (number : ℕ) → length n.frames < number
        → frame_at (moved n m).1 number ≡ Some (record { link = Some f.below; bytes = copy_text c.packet }) → IsCopied r f.below number n m
    its_copy number later got = record {
      event = event;
      is = its_event;
      station = st;
      at = fw.there;
      packet = c.packet;
      brought = ap packet_in is_done;
      later = later;
      framed = got;
    }

    one_here : (a b : ℕ) → IsCopied r f.below a n m → IsCopied r f.below b n m → a ≡ b
    one_here =
        one_copy n m r event st its_event fw.there f.below f.down fw.below c.packet bytes c.reads c.is_data its_far (ap packet_in is_done)

-- ---- what goes on move by move

last_of : (P : Network → Type 0) (ms : List Move) (n : Network) → Always P n ms → P (network_ran n ms).1
unfolding network_ran
last_of P [] n f = f
last_of P (m ∷ ms) n f = last_of P ms (moved n m).1 f.1

lt_le : (a b : ℕ) → a < b → a ≤ b
lt_le a b lt = omega (arith, lt)

le_le : (a b c : ℕ) → a ≤ b → b ≤ c → a ≤ c
le_le a b c e g = omega (arith, e, g)

le_lt : (a b c : ℕ) → a ≤ b → b < c → a < c
le_lt a b c e g = omega (arith, e, g)

lt_lt : (a b : ℕ) → a < b → b ≤ a → ⊥
lt_lt a b e g = omega (arith, e, g)

same_le : (a b c : ℕ) → a ≡ b → b ≤ c → a ≤ c
same_le a b c e g = omega (arith, e, g)

module _ (d : ℕ) (started : ℕ → ℕ) (t : Traffic) (link : ℕ) (members : List Member) (y : Member) (among : IsOne members y) where
  module _ (came : Arrivals) (n : Network) (m : Move) (ms : List Move) (f : Carries d started t link members came n (m ∷ ms))
      (behind : came y.router y.iface ≤ length n.frames) where
    -- what came by the move was there before it
    came_before : arrived came m y.router y.iface ≤ length n.frames
    came_before = go (brings came y m)
      where
        go : Brought y m ⊎ (arrived came m y.router y.iface ≡ came y.router y.iface) → arrived came m y.router y.iface ≤ length n.frames
        go (inr left) = same_le _ _ _ left behind
        go (inl b) =
            let turn : ComesInTurn started t link y came b.number n = f.1 y b.number b.draw among b.is in
            same_le _ b.number _
            (subst (λ (k : Move). arrived came k y.router y.iface ≡ b.number) (sym b.is) (came_here came y b.number b.draw))
            (there_is n b.number (turn.its).frame (turn.its).is)

    behind_then : arrived came m y.router y.iface ≤ length ((moved n m).1).frames
    behind_then = le_le _ _ _ came_before (frames_grow n m)

  -- what has come doesn't come again
  module _ (f : Forwarder) (its : f.self ≡ y) (k copy : ℕ) where
    abbrev Again : Network → List Move → Type 0
    Again n ms = SomeMove (IsPassedOn f k copy) n ms

    by_it : (m : Move) (draw : ℕ) → m ≡ Deliver (f.self).router (f.self).iface k draw → m ≡ Deliver y.router y.iface k draw
    by_it m draw is = is ∙ ap (λ (x : Member). Deliver x.router x.iface k draw) its

    none_again : (ms : List Move) (n : Network) (came : Arrivals) → Carries d started t link members came n ms → k ≤ came y.router y.iface
        → Again n ms → ⊥
    none_again [] n came c le s = absurd s
    none_again (m ∷ ms) n came c le (inl p) =
        lt_lt _ _ (c.1 y k p.draw among (by_it m p.draw p.is)).later le
    none_again (m ∷ ms) n came c le (inr s) = none_again ms (moved n m).1 (arrived came m) c.2 (go (brings came y m)) s
      where
        go : Brought y m ⊎ (arrived came m y.router y.iface ≡ came y.router y.iface) → k ≤ arrived came m y.router y.iface
        go (inr left) = subst (λ (z : ℕ). k ≤ z) (sym left) le
        go (inl b) =
            subst (λ (z : ℕ). k ≤ z)
            (sym (subst (λ (x : Move). arrived came x y.router y.iface ≡ b.number) (sym b.is) (came_here came y b.number b.draw)))
            (lt_le k b.number (le_lt k _ _ le (c.1 y b.number b.draw among b.is).later))

-- a frame that a move delivers is there
record There (n : Network) (k : ℕ) : Type 0 where
  frame : Sent
  is : frame_at n k ≡ Some frame

abbrev at_router : ℕ → Event → Option (ℕ × Event)
at_router q e = Some (q, e)

delivered_there : (n : Network) (q i k draw z : ℕ) (e : Event) → event_of n (Deliver q i k draw) ≡ Some (z, e) → There n k
unfolding event_of
delivered_there n q i k draw z e is = go (station_at n q) (frame_at n k) refl is
  where
    go : (s : Option Station) (o : Option Sent) → frame_at n k ≡ o
        → option_and_then (λ (y : Station). option_and_then (λ (f : Sent).
        cond (is_on_frame_link y i f) (at_router q (frame_event i draw f)) None) o) s ≡ Some (z, e) → There n k
    go None o at h = cc h
    go (Some y) None at h = cc h
    go (Some y) (Some f) at h = record { frame = f; is = at }

framed_before : (ms : List Move) (n : Network) (k : ℕ) (f : Sent) → There n k → frame_at (network_ran n ms).1 k ≡ Some f → frame_at n k ≡ Some f
framed_before ms n k f there got = there.is ∙ (sym (frames_stay n ms k there.frame there.is) ∙ got)

-- ---- at most one copy of each frame

module _ (g src d : ℕ) (started : ℕ → ℕ) (t : Traffic) (is_group : is_multicast g ≡ true) (far : is_link_local g ≡ false) (payload : List ℕ) where
  module _ (f : Forwarder) (members : List Member) (among : IsOne members f.self) (lives k : ℕ) (bytes : List ℕ)
      (c : IsPacket g src payload (lives + 1) bytes) (a b : ℕ) where
    one_passed : (ms : List Move) (n : Network) (came : Arrivals) → Carries d started t f.above members came n ms → Always (Forwards g src f) n ms
        → frame_at (network_ran n ms).1 k ≡ Some (record { link = Some f.above; bytes = bytes })
        → SomeMove (IsPassedOn f k a) n ms → SomeMove (IsPassedOn f k b) n ms → a ≡ b
    unfolding network_ran
    one_passed [] n came carried fs got x y = absurd x
    one_passed (m ∷ ms) n came carried fs got (inl x) (inl y) =
        one_here g src is_group far payload f n fs.0 lives bytes c k x.draw
        (framed_before (m ∷ ms) n k _
        (delivered_there n (f.self).router (f.self).iface k x.draw (f.self).router (x.copied).event
        (ap (event_of n) (sym x.is) ∙ (x.copied).is)) got)
        a b (as_delivered x.copied) (as_delivered y.copied)
      where
        as_delivered : {j : ℕ} → IsCopied (f.self).router f.below j n m → IsCopied (f.self).router f.below j n (Deliver (f.self).router (f.self).iface k x.draw)
        as_delivered {j} z = subst (λ (x : Move). IsCopied (f.self).router f.below j n x) x.is z
    one_passed (m ∷ ms) n came carried fs got (inl x) (inr y) =
        absurd (none_again d started t f.above members f.self among f refl k b ms (moved n m).1 (arrived came m) carried.2
        (subst (λ (x : Move). k ≤ arrived came x (f.self).router (f.self).iface) (sym x.is)
        (subst (λ (z : ℕ). k ≤ z) (sym (came_here came f.self k x.draw)) (le_self k))) y)
      where
        le_self : (i : ℕ) → i ≤ i
        le_self i = omega arith
    one_passed (m ∷ ms) n came carried fs got (inr x) (inl y) =
        absurd (none_again d started t f.above members f.self among f refl k a ms (moved n m).1 (arrived came m) carried.2
        (subst (λ (x : Move). k ≤ arrived came x (f.self).router (f.self).iface) (sym y.is)
        (subst (λ (z : ℕ). k ≤ z) (sym (came_here came f.self k y.draw)) (le_self k))) x)
      where
        le_self : (i : ℕ) → i ≤ i
        le_self i = omega arith
    one_passed (m ∷ ms) n came carried fs got (inr x) (inr y) =
        one_passed ms (moved n m).1 (arrived came m) carried.2 fs.1 got x y

-- ---- the routers of a way after a move

module _ (g src d : ℕ) (started : ℕ → ℕ) (t : Traffic) (root : Root) where
  hears_then : (came : Arrivals) (n : Network) (m : Move) (ms : List Move) (f : Forwarder) → HearsAll d started t came n (m ∷ ms) f
      → HearsAll d started t (arrived came m) (moved n m).1 ms f
  hears_then came n m ms f w = record {
    members = w.members;
    among = w.among;
    carries = (w.carries).2;
    behind = behind_then d started t f.above w.members f.self w.among came n m ms w.carries w.behind;
  }

  all_hear_then : (came : Arrivals) (n : Network) (m : Move) (ms : List Move) (fs : List Forwarder)
      → AllByRecursion (HearsAll d started t came n (m ∷ ms)) fs
      → AllByRecursion (HearsAll d started t (arrived came m) (moved n m).1 ms) fs
  all_hear_then came n m ms fs all =
      each_more (HearsAll d started t came n (m ∷ ms)) (HearsAll d started t (arrived came m) (moved n m).1 ms) (hears_then came n m ms) fs all

  -- ---- from the move that brings a packet to the root

  module _ (is_group : is_multicast g ≡ true) (far : is_link_local g ≡ false) (payload : List ℕ) (link : ℕ) (fs : List Forwarder) (n : Network)
      (m : Move) (ms : List Move) (e : Event) (st after : Station) (ev : event_of n m ≡ Some (root.router, e))
      (at : station_at n root.router ≡ Some st) (then : station_at (moved n m).1 root.router ≡ Some after) where
    abbrev begin : ℕ
    begin = time_at started root.router after

    abbrev end : Network
    end = (network_ran n (m ∷ ms)).1

    -- what goes on with the moves
    record GoesOn (came : Arrivals) (x : Network) (xs : List Move) : Type 0 where
      sent : EachMove (IsSentBy started t) x xs
      hear : AllByRecursion (HearsAll d started t came x xs) fs
      way : Always (AreForwarding g src root link fs) x xs
      ends : (network_ran x xs).1 ≡ end
      within : (f : Forwarder) (k copy : ℕ) → SomeMove (IsPassedOn f k copy) x xs → SomeMove (IsPassedOn f k copy) n (m ∷ ms)

    goes_on : (came : Arrivals) (x : Network) (y : Move) (ys : List Move) → GoesOn came x (y ∷ ys) → GoesOn (arrived came y) (moved x y).1 ys
    unfolding network_ran
    goes_on came x y ys o = record {
      sent = (o.sent).1;
      hear = all_hear_then came x y ys fs o.hear;
      way = (o.way).1;
      ends = o.ends;
      within = λ f k copy s. o.within f k copy (inr s);
    }

    -- the frame of a router, after the move by which it left
    record Reached (frame : ℕ) (below : ℕ) (gs : List Forwarder) (lives : ℕ) : Type 0 where
      number : ℕ
      came : Arrivals
      net : Network
      move : Move
      rest : List Move
      goes : GoesOn came net (move ∷ rest)
      comes : ComesOf gs frame number n (m ∷ ms)
      bytes : List ℕ
      packet : IsPacket g src payload lives bytes
      later : length net.frames < number
      framed : frame_at (moved net move).1 number ≡ Some (record { link = Some below; bytes = bytes })
      soon : t.sent number ≤ begin + length gs * d
      from : t.by number ≡ sender_of root gs

    module _ (limit : ArePast started (begin + length fs * d) end) (frame : ℕ) where
      -- one router more
      module _ (f : Forwarder) (gs : List Forwarder) (lives : ℕ) (few : begin + length gs * d + d ≤ begin + length fs * d) (some : 0 < lives)
          (is_of : (came : Arrivals) (x : Network) (xs : List Move) → GoesOn came x xs → HearsAll d started t came x xs f)
          (does : (came : Arrivals) (x : Network) (xs : List Move) → GoesOn came x xs → Always (Forwards g src f) x xs) (apart : (sender_of root gs == (f.self).router) ≡ false) (u : Reached frame f.above gs (lives + 1)) where
        abbrev q : ℕ
        q = (f.self).router

        record OneMore : Type 0 where
          came : Arrivals
          net : Network
          move : Move
          rest : List Move
          draw : ℕ
          goes : GoesOn came net (move ∷ rest)
          is : move ≡ Deliver q (f.self).iface u.number draw
          framed : frame_at net u.number ≡ Some (record { link = Some f.above; bytes = u.bytes })
          by : IsBy started q (t.sent u.number + d) net

        -- what goes on, and the frame, whatever came
        record Waits (x : Network) (xs : List Move) : Type 0 where
          came : Arrivals
          goes : GoesOn came x xs
          framed : frame_at x u.number ≡ Some (record { link = Some f.above; bytes = u.bytes })

        waits_on : (x : Network) (y : Move) (ys : List Move) → Waits x (y ∷ ys) → Waits (moved x y).1 ys
        waits_on x y ys w = record {
          came = arrived w.came y;
          goes = goes_on w.came x y ys w.goes;
          framed = frame_stays x y u.number _ w.framed;
        }

        abbrev Comes : Network → List Move → Type 0
        Comes x xs = IsBy started q (t.sent u.number + d) x → (network_ran x xs).1 ≡ end → OneMore

        first : HearsAll d started t u.came u.net (u.move ∷ u.rest) f
        first = is_of u.came u.net (u.move ∷ u.rest) u.goes

        at_end : Forwards g src f end
        at_end =
            subst (Forwards g src f) (u.goes).ends (last_of (Forwards g src f) (u.move ∷ u.rest) u.net (does u.came u.net (u.move ∷ u.rest) u.goes))

        never : (x : Network) → Comes x []
        unfolding network_ran
        never x by ends =
            absurd (lt_lt _ _ (limit q (at_end).station (at_end).there)
            (le_le _ _ _ (by (at_end).station (ap (λ (y : Network). station_at y q) ends ∙ (at_end).there)) short))
          where
            bounded : (a b c e : ℕ) → a ≤ b → b + d ≤ c → a + d ≤ c
            bounded a b c e h i = omega (arith, h, i)

            short : t.sent u.number + d ≤ begin + length fs * d
            short = bounded (t.sent u.number) (begin + length gs * d) (begin + length fs * d) 0 u.soon few

        passes_later : (x : Network) (y : Move) (ys : List Move) → IsBy started q (t.sent u.number + d) (moved x y).1 → Comes (moved x y).1 ys
            → Comes x (y ∷ ys)
        unfolding network_ran
        passes_later x y ys by c before ends = c by ends

        passes_here : (x : Network) (y : Move) (ys : List Move) (draw : ℕ) → Waits x (y ∷ ys) → y ≡ Deliver q (f.self).iface u.number draw
            → IsFor t f.above q x u.number → ((z : Station) → station_at x q ≡ Some z → t.sent u.number ≤ time_at started q z) → Comes x (y ∷ ys)
        passes_here x y ys draw w is its since by ends = record {
          came = w.came;
          net = x;
          move = y;
          rest = ys;
          draw = draw;
          goes = w.goes;
          is = is;
          framed = w.framed;
          by = by;
        }

        not_yet : arrived u.came u.move q (f.self).iface < u.number
        not_yet =
            le_lt _ (length (u.net).frames) _
            (came_before d started t f.above (first).members f.self (first).among u.came u.net u.move u.rest (first).carries (first).behind) u.later

        its_frame : IsFor t f.above q (moved u.net u.move).1 u.number
        its_frame = record {
          frame = record { link = Some f.above; bytes = u.bytes };
          is = u.framed;
          on = refl;
          other = subst (λ (z : ℕ). (z == q) ≡ false) (sym u.from) apart;
        }

        one_more : OneMore
        unfolding network_ran
        one_more =
            comes d started t f.above (first).members f.self (first).among u.number Waits Comes waits_on never passes_here passes_later u.rest
            (moved u.net u.move).1 (arrived u.came u.move) ((first).carries).2 not_yet its_frame
            (record { came = arrived u.came u.move; goes = goes_on u.came u.net u.move u.rest u.goes; framed = u.framed })
            (soon_first d started t f.above (first).members (arrived u.came u.move) (moved u.net u.move).1 u.rest ((first).carries).2 f.self f.self
            u.number (first).among (first).among not_yet its_frame)
            (u.goes).ends

        passed : OneMore → Reached frame f.below (f ∷ gs) lives
        passed o = record {
          number = (new.on).number;
          came = o.came;
          net = o.net;
          move = o.move;
          rest = o.rest;
          goes = o.goes;
          comes = (
            u.number,
            u.comes,
            (o.goes).within f u.number (new.on).number (inl (record {
              draw = o.draw;
              is = o.is;
              copied = subst (λ (y : Move). IsCopied q f.below (new.on).number o.net y) (sym o.is)
                  (its_copy g src is_group far payload f o.net fw lives u.bytes u.packet u.number o.draw o.framed (new.on).number new.later (new.on).is);
            })),
          );
          bytes = copy_text (u.packet).packet;
          packet = is_copy g src payload lives u.bytes u.packet;
          later = new.later;
          framed = there;
          soon = in_time (t.sent (new.on).number) (time_at started q here) (t.sent u.number + d) (told).0
              (subst (λ (z : ℕ). z + started q ≤ t.sent u.number + d) (sym same) (o.by fw.station fw.there)) u.soon refl;
          from = (told).1;
        }
          where
            fw : Forwards g src f o.net
            fw = first_of (Forwards g src f) o.net (o.move ∷ o.rest) (does o.came o.net (o.move ∷ o.rest) o.goes)

            new : IsNewOn o.net (moved o.net (Deliver q (f.self).iface u.number o.draw)).1 f.below (copy_text (u.packet).packet)
            new = leaves g src is_group far payload f o.net fw lives u.bytes u.packet u.number o.draw o.framed some

            there : frame_at (moved o.net o.move).1 (new.on).number ≡ Some (record { link = Some f.below; bytes = copy_text (u.packet).packet })
            there = ap (λ (y : Move). frame_at (moved o.net y).1 (new.on).number) o.is ∙ (new.on).is

            its : Event
            its = event g src is_group far payload f o.net fw lives u.bytes u.packet u.number o.draw o.framed

            here : Station
            here = record fw.station { state = (step (fw.station).state its).state }

            same : ((step (fw.station).state its).state).present ≡ ((fw.station).state).present
            same =
                data_present (fw.station).state its (f.self).iface (u.packet).packet
                (is_done g src is_group far payload f o.net fw lives u.bytes u.packet u.number o.draw o.framed)

            told : (t.sent (new.on).number ≡ time_at started q here) × (t.by (new.on).number ≡ q)
            told =
                ((o.goes).sent).0 q its here (new.on).number
                (ap (event_of o.net) o.is ∙ its_event g src is_group far payload f o.net fw lives u.bytes u.packet u.number o.draw o.framed)
                (ap (λ (y : Move). station_at (moved o.net y).1 q) o.is
                ∙ (its_step g src is_group far payload f o.net fw lives u.bytes u.packet u.number o.draw o.framed).here)
                new.later (there_is (moved o.net o.move).1 (new.on).number _ there)

            in_time : (a b c : ℕ) → a ≡ b → b ≤ c → t.sent u.number ≤ begin + length gs * d → c ≡ t.sent u.number + d → a ≤ begin + length (f ∷ gs) * d
            in_time a b c h i j k = omega (arith, h, i, j, k)

      -- router by router, from the root down
      module _ (came0 : Arrivals) (goes0 : GoesOn came0 n (m ∷ ms)) (top : ℕ) (start : Reached frame root.below [] top) where
        record Way (below : ℕ) (gs : List Forwarder) : Type 0 where
          hear : (came : Arrivals) (x : Network) (xs : List Move) → GoesOn came x xs → AllByRecursion (HearsAll d started t came x xs) gs
          way : (x : Network) → AreForwarding g src root link fs x → AreForwarding g src root below gs x

        above_of : (below : ℕ) (f : Forwarder) (gs : List Forwarder) → Way below (f ∷ gs) → Way f.above gs
        above_of below f gs w = record { hear = λ came x xs o. (w.hear came x xs o).1; way = λ x a. (w.way x a).3 }

        at_first : AreForwarding g src root link fs n
        at_first = (goes0.way).0

        reach : (gs : List Forwarder) (below lives : ℕ) → Way below gs → lives + length gs ≡ top → length gs ≤ length fs → 0 < lives
            → Reached frame below gs lives
        reach [] below lives w sum few some =
            subst (λ (l : ℕ). Reached frame l [] lives) (w.way n (at_first)).0
            (subst (λ (l : ℕ). Reached frame root.below [] l) (whole lives top sum) start)
          where
            whole : (a b : ℕ) → a + 0 ≡ b → b ≡ a
            whole a b e = omega (arith, e)
        reach (f ∷ gs) below lives w sum few some =
            let u : Reached frame f.above gs (lives + 1) =
            reach gs f.above (lives + 1) (above_of below f gs w) (one_less lives (length gs) top sum) (fewer (length gs) (length fs) few) (omega arith) in
            let is_of : (came : Arrivals) (x : Network) (xs : List Move) → GoesOn came x xs → HearsAll d started t came x xs f =
            (λ came x xs o. (w.hear came x xs o).0) in
            let does : (came : Arrivals) (x : Network) (xs : List Move) → GoesOn came x xs → Always (Forwards g src f) x xs =
            (λ came x xs o. always_more (AreForwarding g src root link fs) (Forwards g src f) (λ x a. (w.way x a).1) xs x o.way) in
            subst (λ (l : ℕ). Reached frame l (f ∷ gs) lives) (w.way n (at_first)).0
            (passed f gs lives (in_all (length gs) (length fs) few) some is_of does (w.way n (at_first)).2 u
            (one_more f gs lives (in_all (length gs) (length fs) few) some is_of does (w.way n (at_first)).2 u))
          where
            one_less : (a b c : ℕ) → a + suc b ≡ c → a + 1 + b ≡ c
            one_less a b c e = omega (arith, e)

            fewer : (a b : ℕ) → suc a ≤ b → a ≤ b
            fewer a b e = omega (arith, e)

            in_all : (a b : ℕ) → suc a ≤ b → begin + a * d + d ≤ begin + b * d
            in_all a b e = grind (arith, e)

        -- the frame at the end
        at_last : (gs : List Forwarder) (below lives : ℕ) (u : Reached frame below gs lives)
            → frame_at end u.number ≡ Some (record { link = Some below; bytes = u.bytes })
        unfolding network_ran
        at_last gs below lives u =
            ap (λ (x : Network). frame_at x u.number) (sym (u.goes).ends) ∙ frames_stay (moved u.net u.move).1 u.rest u.number _ u.framed

        -- nothing else comes of it
        only_one : (gs : List Forwarder) (below lives : ℕ) → Way below gs → lives + length gs ≡ top → length gs ≤ length fs → 0 < lives
            → (a b : ℕ) → ComesOf gs frame a n (m ∷ ms) → ComesOf gs frame b n (m ∷ ms) → a ≡ b
        only_one [] below lives w sum few some a b x y = sym x ∙ y
        only_one (f ∷ gs) below lives w sum few some a b (k, first, x) (l, second, y) =
            let same : (j : ℕ) → ComesOf gs frame j n (m ∷ ms) → j ≡ u.number =
            λ j z. only_one gs f.above (lives + 1) above (one_less lives (length gs) top sum) (fewer (length gs) (length fs) few) (omega arith) j
            u.number z u.comes in
            let h : HearsAll d started t came0 n (m ∷ ms) f = (w.hear came0 n (m ∷ ms) goes0).0 in
            one_passed g src d started t is_group far payload f h.members h.among lives u.number u.bytes u.packet a b (m ∷ ms) n came0 h.carries
            (always_more (AreForwarding g src root link fs) (Forwards g src f) (λ x z. (w.way x z).1) (m ∷ ms) n goes0.way) (at_last gs f.above (lives + 1) u)
            (subst (λ (j : ℕ). SomeMove (IsPassedOn f j a) n (m ∷ ms)) (same k first) x)
            (subst (λ (j : ℕ). SomeMove (IsPassedOn f j b) n (m ∷ ms)) (same l second) y)
          where
            one_less : (a b c : ℕ) → a + suc b ≡ c → a + 1 + b ≡ c
            one_less a b c e = omega (arith, e)

            fewer : (a b : ℕ) → suc a ≤ b → a ≤ b
            fewer a b e = omega (arith, e)

            above : Way f.above gs
            above = above_of below f gs w

            u : Reached frame f.above gs (lives + 1)
            u = reach gs f.above (lives + 1) above (one_less lives (length gs) top sum) (fewer (length gs) (length fs) few) (omega arith)

-- ---- the packet at the root

arrives : (s : State) (e : Event) (p : Packet) (j : ℕ) → ArrivesFor s e p j → packet_in (done_as (happens s e)) ≡ Some p
arrives s e p j (OnTree i is on off) = ap packet_in is
arrives s e p j (InRegister outer is rp unset) = ap packet_in is

module _ (g src d : ℕ) (started : ℕ → ℕ) (t : Traffic) (root : Root) (is_group : is_multicast g ≡ true) (far : is_link_local g ≡ false) (link : ℕ)
    (fs : List Forwarder) (came : Arrivals) (n : Network) (m : Move) (ms : List Move) (sent : EachMove (IsSentBy started t) n (m ∷ ms))
    (hear : AllByRecursion (HearsAll d started t came n (m ∷ ms)) fs) (way : Always (AreForwarding g src root link fs) n (m ∷ ms)) where
  root_of : (fs : List Forwarder) (link : ℕ) (x : Network) → AreForwarding g src root link fs x → SendsDown g src root x
  root_of [] link x a = a.1
  root_of (f ∷ fs) link x a = root_of fs f.above x a.3

  sends : SendsDown g src root n
  sends = root_of fs link n way.0

  module _ (e : Event) (before after : Station) (payload : List ℕ) (lives : ℕ) (ev : event_of n m ≡ Some (root.router, e))
      (at : station_at n root.router ≡ Some before) (then : station_at (moved n m).1 root.router ≡ Some after) (some : 0 < lives)
      (b : IsBrought before.state e g src root.down payload (lives + length fs)) (of : IsOfTree root.tree before.state e b.packet root.down b.comes)
      (limit : ArePast started (time_at started root.router after + length fs * d) (network_ran (moved n m).1 ms).1) where
    abbrev top : ℕ
    top = lives + length fs

    same : (sends).station ≡ before
    same = same_station (sends).there at

    one_on : HasOneOn root.down root.below before
    one_on = subst (HasOneOn root.down root.below) same (sends).below

    stepped_so : IsStepped n root.router before e (moved n m).1
    stepped_so =
        subst (λ (x : Network). IsStepped n root.router before e x) (sym (moved_so n m root.router e before ev at))
        (is_stepped n root.router before e at)

    root_copy : IsNewOn n (moved n m).1 root.below (copy_text b.packet)
    root_copy =
        (stepped_so).sent root.down root.below (copy_text b.packet) (one_on).linked
        (root_sends root.tree before.state e b.packet root.down (let long = b.time_to_live in omega (arith, some, long))
        (of_packet g src b.packet b.group b.source (λ x a. SendsOn root.tree before.state x a root.down)
        (subst (λ (z : Station). SendsOn root.tree z.state g src root.down) same (sends).sends)) b.comes of)

    abbrev frame : ℕ
    frame = ((root_copy).on).number

    is_sent : IsCopied root.router root.below frame n m
    is_sent = record {
      event = e;
      is = ev;
      station = before;
      at = at;
      packet = b.packet;
      brought = arrives before.state e b.packet root.down b.comes;
      later = (root_copy).later;
      framed = ((root_copy).on).is;
    }

    goes_first : GoesOn g src d started t root is_group far payload link fs n m ms e before after ev at then came n (m ∷ ms)
    goes_first = record { sent = sent; hear = hear; way = way; ends = refl; within = λ f k copy s. s }

    its_packet : IsPacket g src payload (top + 1) b.bytes
    its_packet = record {
      packet = b.packet;
      reads = b.reads;
      fits = b.fits;
      group = b.group;
      source = b.source;
      is_data = b.is_data;
      same = b.same;
      time_to_live = b.time_to_live;
    }

    told : (t.sent frame ≡ time_at started root.router after) × (t.by frame ≡ root.router)
    told = sent.0 root.router e after frame ev then (root_copy).later (there_is (moved n m).1 frame _ ((root_copy).on).is)

    start : Reached g src d started t root is_group far payload link fs n m ms e before after ev at then frame root.below [] top
    unfolding its_packet
    start = record {
      number = frame;
      came = came;
      net = n;
      move = m;
      rest = ms;
      goes = goes_first;
      comes = refl;
      bytes = copy_text b.packet;
      packet = is_copy g src payload top b.bytes its_packet;
      later = (root_copy).later;
      framed = ((root_copy).on).is;
      soon = by_now (t.sent frame) (time_at started root.router after) (told).0;
      from = (told).1;
    }
      where
        by_now : (a b : ℕ) → a ≡ b → a ≤ b + 0 * d
        by_now a b e = grind (arith, e)

    abbrev Last : Type 0
    Last = Reached g src d started t root is_group far payload link fs n m ms e before after ev at then frame link fs lives

    le_self : (a : ℕ) → a ≤ a
    le_self a = omega arith

    last : Last
    unfolding network_ran
    last =
        reach g src d started t root is_group far payload link fs n m ms e before after ev at then limit frame came goes_first top start fs link lives
        (record { hear = λ came x xs o. o.hear; way = λ x a. a }) refl (le_self (length fs)) some

    is_once : ComesOnce g src link payload lives (time_at started root.router after + length fs * d) t root fs n m ms
    unfolding network_ran
    is_once = record {
      number = (last).number;
      comes = record { frame = frame; sent = is_sent; comes = (last).comes };
      only = λ k c.
          only_one g src d started t root is_group far payload link fs n m ms e before after ev at then limit frame came goes_first top start fs link
          lives (record { hear = λ came x xs o. o.hear; way = λ x a. a }) refl (le_self (length fs)) some k (last).number
          (subst (λ (j : ℕ). ComesOf fs j k n (m ∷ ms))
          (one_copy n m root.router e before ev at root.below root.down one_on b.packet b.bytes b.reads b.is_data
          (of_packet g src b.packet b.group b.source (λ x a. is_link_local x ≡ false) far)
          (arrives before.state e b.packet root.down b.comes) c.frame frame c.sent is_sent) c.comes)
          (last).comes;
      carried = record {
        bytes = (last).bytes;
        packet = ((last).packet).packet;
        on_link = record {
          number = (last).number;
          is = at_last g src d started t root is_group far payload link fs n m ms e before after ev at then limit frame came goes_first top start fs link
              lives last;
        };
        reads = ((last).packet).reads;
        fits = ((last).packet).fits;
        group = ((last).packet).group;
        source = ((last).packet).source;
        is_data = ((last).packet).is_data;
        same = ((last).packet).same;
        time_to_live = ((last).packet).time_to_live;
      };
      its = refl;
      soon = (last).soon;
    }

pub each_packet_comes_once : EachPacketComesOnce
each_packet_comes_once g src d bound started t came root link fs n ms is_group far = go ms n came
  where
    each : (ms : List Move) (n : Network) (came : Arrivals) → EachMove (IsSentBy started t) n ms → AllByRecursion (HearsAll d started t came n ms) fs
        → Always (AreForwarding g src root link fs) n ms → AreServedOnce g src d started t root link fs n ms
    each [] n came sent hear way = tt
    each (m ∷ ms) n came sent hear way = (
      record {
        served = λ e before after payload lives ev at then some b of limit.
            is_once g src d started t root is_group far link fs came n m ms sent hear way e before after payload lives ev at then some b of limit;
      },
      each ms (moved n m).1 (arrived came m) sent.1 (all_hear_then g src d started t root came n m ms fs hear) way.1,
    )

    go : (ms : List Move) (n : Network) (came : Arrivals) → EachMove (IsSentBy started t) n ms → AllByRecursion (HearsAll d started t came n ms) fs
        → HoldsPast started bound (AreForwarding g src root link fs) n ms
        → HoldsPastOn started bound (AreServedOnce g src d started t root link fs) n ms
    go [] n came sent hear way = tt
    go (m ∷ ms) n came sent hear way = (
      λ past. each ms (moved n m).1 (arrived came m) sent.1 (all_hear_then g src d started t root came n m ms fs hear)
          (from_then_on started bound (AreForwarding g src root link fs) ms (moved n m).1 past (way.0 past) way.1),
      go ms (moved n m).1 (arrived came m) sent.1 (all_hear_then g src d started t root came n m ms fs hear) way.1,
    )
