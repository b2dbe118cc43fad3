-- Whoever asserts next, the first one's Assert comes to the second one soon, and from then on that has lost.
use Rattle.std.{proofs.{Common.{Bool, List, None, Option, Some, [], ap, arith, eq-eqb, eqb-true, false, inl, inr, is_some, length, nat_le, refl, slice_get, subst, sym, true, ℕ, ◌*◌, ◌+◌, ◌<◌, ◌==◌, ◌∙◌, ◌∷◌, ◌≡◌, ◌≤◌, ◌⊎◌}, lemmas.Bool.Decides.nat_tests}, specs.{Cmp.{first_so, second_so}, List.Contains}}
use Rattle.pim_ip.{specs.Addr.addr}
use Rattle.pim_types.{specs.{Keys.{group_in, source_in}, declared.{config.IfaceId.IfaceId, event.{Event.Event, EventKind.EventKind}, fact.{AssertMetric.AssertMetric, AssertRow.AssertRow, Key.Key}}}}
use Rattle.pim_model.{specs.{Asserts.{asserted_metric, assert_received, wins_again, with_spt_bit}, Cause.done_as, Forwarding.{source_here, source_joined, spt_updated}, Network.{Deliver, Move, Network, Sent, Station, event_of, frame_at, moved, station_at}, Registers.{settle_register, with_keepalive}, Sets.{is_better, is_winner}, State.{State, my_address}, Step.{Answered, change, done, step}, Tables.{has_row, row_at}, Writing.on_link, declared.accepted.Accepted.Accepted}}
use Rattle.law_settled.{proofs.{ListLaws.each_more, Unsettled.{Unsettled, settling_leaves}}}
use Rattle.law_streams.{proofs.{Deliveries.{IsNewOn, IsStepped, is_delivered, is_stepped}, EndSoon.change_present, Leaves.taken_is_done, Made.step_taken, Pairs.{Steps, frame_stays, one_router, ready_then, same_station}, Passes.done_if, Shared.present_later}, specs.{Adjacent.Adjacent, Copies.happens, InTimeJoins.{Always, IsBy, IsReady, time_at}, Served.renewed}}
use Rattle.law_converges.{proofs.{Asserting.{duplicate_is_answered, inferior_is_answered}, Carried.{Brought, IsCarriedOn, brings, carried_on, not_yet, soon_first, waits}, CarriedLinks.asserts_in_time, LinkAsserts.{again, assert_is_read, its_group as group_about, its_source as source_about, settled_row, winner_answers_assert}, LinkLosers.{HoldsTo, held_then, loser_comes_to_stay, stays_held}, LinkRptOrder.there_is, OneSender.{after_so as silent_after}, Prompt.assert_end, Settles.{one_sender_past, silent_past}, TakesOver.moved_so, Tested.{delivered_event, le_so, off_so}, WinnerClock.{AssertLasts, change_is, each_event_assert}}, specs.{Asserting.{Asserts, key_by, won_by}, Carried.{AreSoon, Arrivals, EachMove, IsCarried, IsFor, Traffic, arrived}, CarriedLinks.LoserKeeps, LinkAsserts.{IsSayable, assert_packet, is_about, said}, LinkDr.{IsOne, Member, between}, LinkLosers.{AssertComes, AssertComesBy, AssertsComeInTime, AssertsInTime, HasLostAfter, HasLostTo, Wins, most_late_assert, winner_key, winner_of}, OneSenderIsLeft.{Answers, AssertLeaves, Begins, CanAnswer, FirstHears, FirstWins, HearsDuplicate, HoldsOut, IsSender, OneOfAllIsLeft, OneSenderIsLeft, OtherComesToLose, OtherHears, OtherWins, StaysWinner, stands_firm}, OneSender.IsSilent, Past.HoldsPast}}

contradicts : {b : Bool} → b ≡ false → b ≡ true → ⊥
contradicts e f = cc (sym e ∙ f)

-- ---- a packet's facts are renewed in no time

here_present : (s : State) (g src iif : ℕ) → (source_here s g src iif).present ≡ s.present
unfolding source_here settle_register with_keepalive
here_present s g src iif = grind arith

joined_present : (s : State) (g src iif : ℕ) → (source_joined s g src iif).present ≡ s.present
unfolding source_joined with_keepalive
joined_present s g src iif = grind arith

updated_present : (s : State) (g src iif : ℕ) → (spt_updated s g src iif).present ≡ s.present
unfolding spt_updated with_spt_bit
updated_present s g src iif = grind arith

renewed_present : (s : State) (g src iif : ℕ) → (renewed s g src iif).present ≡ s.present
unfolding renewed
renewed_present s g src iif =
    updated_present (source_joined (source_here s g src iif) g src iif) g src iif
    ∙ (joined_present (source_here s g src iif) g src iif ∙ here_present s g src iif)

-- ---- an Assert leaves

module _ (g src : ℕ) (metric : AssertMetric) (c : Adjacent) where
  abbrev its : Key
  its = winner_key g src metric c

  -- and the timer of who is its winner ends 177 s later at most
  record Speaks (n : Network) (m : Move) : Type 0 where
    leaves : AssertLeaves g src metric c n m
    station : Station
    there : station_at (moved n m).1 c.lower ≡ Some station
    ends : (q : AssertRow) → row_at (station.state).asserts its ≡ Some q → q.end ≤ (station.state).present + 177000

  -- who asserts in an event does so on the link
  module _ (n : Network) (m : Move) (st : Station) (e : Event) (at : station_at n c.lower ≡ Some st) (is : event_of n m ≡ Some (c.lower, e))
      (linked : slice_get st.links c.iface ≡ Some c.link)
      (sent : Contains (step st.state e).emissions (on_link c.iface (assert_packet c.address g src metric)))
      (r : AssertRow) (row : (row_at ((step st.state e).state).asserts its ≡ None) ⊎ (row_at ((step st.state e).state).asserts its ≡ Some r))
      (low : r.end ≤ (st.state).present + 177000) where
    stepped_so : IsStepped n c.lower st e (moved n m).1
    stepped_so = subst (λ (y : Network). IsStepped n c.lower st e y) (sym (moved_so n m c.lower e st is at)) (is_stepped n c.lower st e at)

    new : IsNewOn n (moved n m).1 c.link (assert_packet c.address g src metric)
    new = (stepped_so).sent c.iface c.link (assert_packet c.address g src metric) linked sent

    further : (a p q : ℕ) → a ≤ p + 177000 → p ≤ q → a ≤ q + 177000
    further a p q e f = omega (arith, e, f)

    ends_so : (q : AssertRow) → row_at ((step st.state e).state).asserts its ≡ Some q → q.end ≤ ((step st.state e).state).present + 177000
    ends_so q found = go row
      where
        none_found : (let o : Option AssertRow = None in o) ≡ Some q → ⊥
        none_found e = cc e

        same_row : Some r ≡ Some q → r ≡ q
        same_row e = cc e

        go : (row_at ((step st.state e).state).asserts its ≡ None) ⊎ (row_at ((step st.state e).state).asserts its ≡ Some r)
            → q.end ≤ ((step st.state e).state).present + 177000
        go (inl none) = absurd (none_found (sym none ∙ found))
        go (inr is) =
            subst (λ (z : AssertRow). z.end ≤ ((step st.state e).state).present + 177000) (same_row (sym is ∙ found))
            (further r.end (st.state).present ((step st.state e).state).present low (present_later st.state e))

    leaves_so : Speaks n m
    leaves_so = record {
      leaves = record { event = e; is = is; number = ((new).on).number; later = (new).later; framed = ((new).on).is };
      station = record st { state = (step st.state e).state };
      there = (stepped_so).here;
      ends = ends_so;
    }

  same_end : (a : ℕ) → a ≤ a
  same_end a = omega arith

  -- ---- by a packet

  module _ (n : Network) (m : Move) (f : HearsDuplicate g src metric c n m) where
    abbrev old : State
    old = (f.station).state

    abbrev seen : State
    seen = renewed old (f.packet).destination (f.packet).source c.iface

    abbrev chosen : Key
    chosen = key_by seen (f.packet).destination (f.packet).source c.iface

    its_group : group_in chosen ≡ (f.packet).destination
    its_group = grind arith

    of_group : (f.packet).destination ≡ g
    of_group = sym its_group ∙ (ap group_in f.about ∙ group_about c.iface (said g src metric))

    of_source : source_in chosen ≡ src
    of_source = ap source_in f.about ∙ source_about c.iface (said g src metric)

    asserts : Asserts its c.iface g src old seen f.event
    asserts =
        subst (λ (k : Key). Asserts k c.iface g src old seen f.event) f.about
        (subst (λ (h : ℕ). Asserts chosen c.iface h src old seen f.event) of_group
        (subst (λ (x : ℕ). Asserts chosen c.iface (f.packet).destination x old seen f.event) of_source
        (duplicate_is_answered old f.event (record { number = c.iface }) f.packet f.taken f.duplicate)))

    speaks_by_packet : Speaks n m
    speaks_by_packet =
        leaves_so n m f.station f.event f.there f.is f.linked
        (subst (λ (a : ℕ). Contains (step old f.event).emissions (on_link c.iface (assert_packet a g src metric))) f.own
        (subst (λ (x : AssertMetric). Contains (step old f.event).emissions (on_link c.iface (assert_packet (my_address old c.iface) g src x))) f.sent
        (asserts).sends)) (won_by seen its) (asserts).wins
        (subst (λ (x : ℕ). x + 177000 ≤ old.present + 177000) (sym (renewed_present old (f.packet).destination (f.packet).source c.iface))
        (same_end (old.present + 177000)))

-- ---- by another's Assert

module _ (g src : ℕ) (metric other : AssertMetric) (link : ℕ) (x y : Member) (sayable : IsSayable y.address g src other)
    (about : is_about (said g src other) ≡ true) (n : Network) (number draw : ℕ)
    (framed : frame_at n number ≡ Some (record { link = Some link; bytes = assert_packet y.address g src other }))
    (f : CanAnswer g src metric other link x y n) where
  abbrev c : Adjacent
  c = between link x y

  abbrev st : Station
  st = (f.heard).station

  abbrev s : State
  s = st.state

  abbrev k : Key
  k = winner_key g src metric c

  abbrev theirs : AssertMetric
  theirs = winner_of g src other (between link y x)

  abbrev at_iface : IfaceId
  at_iface = record { number = x.iface }

  abbrev e : Event
  e = record { draw = draw; kind = EventKind.Frame at_iface (assert_packet y.address g src other) }

  abbrev hears : Accepted
  hears = Accepted.Assert at_iface (addr y.address) (said g src other)

  abbrev m : Move
  m = Deliver x.router x.iface number draw

  is_heard : done_as (happens s e) ≡ Some hears
  is_heard = done_if s e hears (assert_is_read y.address g src other sayable s x.iface (f.heard).hears) (f.heard).room

  is_taken : IsStepped n x.router st e (moved n m).1
  is_taken = is_delivered n x.router st x.iface number draw link (assert_packet y.address g src other) (f.heard).there (f.heard).linked framed

  its_event : event_of n m ≡ Some (x.router, e)
  its_event = delivered_event n x.router x.iface number draw link (assert_packet y.address g src other) st (f.heard).there (f.heard).linked framed

  is_done : step s e ≡ done s draw (change s draw hears)
  is_done = step_taken s e hears is_heard ∙ taken_is_done s draw hears refl

  same_time : ((step s e).state).present ≡ s.present
  unfolding done
  same_time =
      ap (λ (a : Answered). (a.state).present) is_done
      ∙ (ap (λ (u : Unsettled). u.present) (settling_leaves s ((change s draw hears).state, (change s draw hears).messages) draw)
      ∙ change_present s draw hears)

  speaks_so : (r : AssertRow) → r.end ≡ s.present + 177000
      → (row_at ((step s e).state).asserts k ≡ None) ⊎ (row_at ((step s e).state).asserts k ≡ Some r)
      → Contains (step s e).emissions (on_link x.iface (assert_packet (my_address s x.iface) g src (asserted_metric s k))) → Speaks g src metric c n m
  speaks_so r end row sent =
      leaves_so g src metric c n m st e (f.heard).there its_event (f.heard).linked
      (subst (λ (a : ℕ). Contains (step s e).emissions (on_link x.iface (assert_packet a g src metric))) f.own
      (subst (λ (z : AssertMetric). Contains (step s e).emissions (on_link x.iface (assert_packet (my_address s x.iface) g src z))) f.sent sent))
      r row (low r.end (s.present + 177000) end)
    where
      low : (a b : ℕ) → a ≡ b → a ≤ b
      low a b e = omega (arith, e)

  -- without an assert
  as_none : row_at s.asserts k ≡ None → Speaks g src metric c n m
  as_none none =
      let a : Asserts k x.iface g src s s e =
      inferior_is_answered s e at_iface (addr y.address) (said g src other)
      (record { taken = is_heard; about = about; none = none; could = f.could; inferior = f.inferior }) in
      speaks_so (won_by s k) refl a.wins a.sends

  -- as the winner
  as_winner : (r : AssertRow) → row_at s.asserts k ≡ Some r → is_winner (Some r) ≡ true → is_better theirs r.winner ≡ false
      → Speaks g src metric c n m
  unfolding done change wins_again has_row
  as_winner r found wins worse =
      speaks_so (record r { end = s.present + 177000 }) refl
      (subst (λ (a : Answered). (row_at (a.state).asserts k ≡ None) ⊎ (row_at (a.state).asserts k ≡ Some (record r { end = s.present + 177000 })))
      (sym is_done)
      (settled_row k (record r { end = s.present + 177000 }) s (assert_received s x.iface y.address (said g src other)) draw
      (inr (ap (λ (t : State). row_at t.asserts k) (again s x.iface y.address (said g src other) r about found wins worse f.inferior)
      ∙ change_is k (record r { end = s.present + 177000 }) s.asserts (ap is_some found)))))
      (winner_answers_assert k r at_iface (addr y.address) (said g src other) s e
      (record { taken = is_heard; about = about; key = refl; row = found }) wins worse f.inferior)

  speaks_by_assert : Speaks g src metric c n m
  speaks_by_assert = go (row_at s.asserts k) refl f.firm
    where
      go : (o : Option AssertRow) → row_at s.asserts k ≡ o → stands_firm theirs o ≡ true → Speaks g src metric c n m
      go None none firm = as_none none
      go (Some r) found firm = as_winner r found (first_so (is_winner (Some r)) _ firm) (off_so _ (second_so (is_winner (Some r)) _ firm))

  -- in no time
  by_then : (started : ℕ → ℕ) (moment : ℕ) → IsBy started x.router moment n → IsBy started x.router moment (moved n m).1
  by_then started moment by z at =
      subst (λ (v : Station). time_at started x.router v ≤ moment) (same_station (is_taken).here at)
      (subst (λ (p : ℕ). p + started x.router ≤ moment) (sym same_time) (by st (f.heard).there))

-- ---- the time at a router

by_or_past : (started : ℕ → ℕ) (r moment : ℕ) (n : Network) → IsBy started r moment n ⊎ (IsBy started r moment n → ⊥)
by_or_past started r moment n = at (station_at n r) refl
  where
    at : (o : Option Station) → station_at n r ≡ o → IsBy started r moment n ⊎ (IsBy started r moment n → ⊥)
    at None none = inl (λ st is. cc (sym none ∙ is))
    at (Some st) is = go (nat_le (time_at started r st) moment) refl
      where
        above : (a : ℕ) → nat_le a moment ≡ false → a ≤ moment → ⊥
        above a e le = let no : true ≡ false = grind (arith, nat_tests, e, le) in cc no

        go : (b : Bool) → nat_le (time_at started r st) moment ≡ b → IsBy started r moment n ⊎ (IsBy started r moment n → ⊥)
        go true e = inl (λ z there. subst (λ (v : Station). time_at started r v ≤ moment) (same_station is there) (le_so _ _ e))
        go false e = inr (λ by. above (time_at started r st) e (by st is))

earlier : (started : ℕ → ℕ) (r moment : ℕ) (n : Network) (m : Move) → IsBy started r moment (moved n m).1 → IsBy started r moment n
earlier started r moment n m by st at = go (one_router n m r st at)
  where
    before : (a b s : ℕ) → a ≤ b → b + s ≤ moment → a + s ≤ moment
    before a b s e f = omega (arith, e, f)

    go : (station_at (moved n m).1 r ≡ Some st) ⊎ Steps n m r st → time_at started r st ≤ moment
    go (inl same) = by st same
    go (inr w) =
        before (st.state).present ((step st.state w.event).state).present (started r) (present_later st.state w.event)
        (by (record st { state = (step st.state w.event).state }) (w.stepped).here)

by_later : (started : ℕ → ℕ) (r a b : ℕ) (n : Network) → a ≤ b → IsBy started r a n → IsBy started r b n
by_later started r a b n le by st at = further (time_at started r st) (by st at)
  where
    further : (p : ℕ) → p ≤ a → p ≤ b
    further p e = omega (arith, e, le)

-- ---- two routers

module _ (g src : ℕ) (metric other : AssertMetric) (d late bound : ℕ) (started : ℕ → ℕ) (t : Traffic) (link : ℕ) (members : List Member)
    (x y : Member) (first : ℕ) (few : d < most_late_assert) (timely : late ≤ d) (lower : IsOne members x) (upper : IsOne members y)
    (apart : (x.router == y.router) ≡ false) (sayable : IsSayable x.address g src metric) (about : is_about (said g src metric) ≡ true)
    (other_sayable : IsSayable y.address g src other) (other_about : is_about (said g src other) ≡ true) where
  abbrev xy : Adjacent
  xy = between link x y

  abbrev yx : Adjacent
  yx = between link y x

  -- what goes on with the moves
  record Going (came : Arrivals) (n : Network) (ms : List Move) : Type 0 where
    carried : IsCarried d late started t came link members first n ms
    ready : IsReady y.router n
    wins : EachMove (StaysWinner g src metric xy) n ms
    answers : EachMove (Answers g src metric other link x y) n ms
    hears : EachMove (LoserKeeps g src metric xy) n ms

  abbrev Lost : Network → List Move → Type 0
  Lost n ms = HasLostAfter g src metric started xy bound n ms

  abbrev InTime : Network → List Move → Type 0
  InTime n ms = AssertsInTime g src metric d started xy n ms

  module _ (came : Arrivals) (n : Network) (m : Move) (ms : List Move) (f : Going came n (m ∷ ms)) where
    on : IsCarriedOn d late started t came link members first n m ms
    on = carried_on d late started t link members first came n m ms f.carried

    going : Going (arrived came m) (moved n m).1 ms
    going = record {
      carried = (on).rest;
      ready = ready_then y.router n m f.ready;
      wins = (f.wins).1;
      answers = (f.answers).1;
      hears = (f.hears).1;
    }

    abbrev then_soon : AreSoon d started t link members (arrived came m) (moved n m).1
    then_soon = soon_first d started t link members (arrived came m) (moved n m).1 ms ((on).rest).carries

    -- who sent a frame of the move, and when
    sent_at : (z : Member) (e : Event) (st : Station) (number : ℕ) (f : Sent) → event_of n m ≡ Some (z.router, e)
        → station_at (moved n m).1 z.router ≡ Some st → length n.frames < number
        → frame_at (moved n m).1 number ≡ Some f → (t.sent number ≡ time_at started z.router st) × (t.by number ≡ z.router)
    sent_at z e st number f ev at later framed = (on).sent z.router e st number ev at later (there_is (moved n m).1 number f framed)

  in_time_of : (came : Arrivals) (n : Network) (ms : List Move) → Going came n ms → InTime n ms
  in_time_of came n ms f = asserts_in_time d late started t link members first x y upper apart g src metric ms n came f.carried f.hears

  always_wins : (ms : List Move) (n : Network) → EachMove (StaysWinner g src metric xy) n ms → Wins g src metric xy n
      → Always (Wins g src metric xy) n ms
  always_wins [] n f w = w
  always_wins (m ∷ ms) n f w = (w, always_wins ms (moved n m).1 f.1 ((f.0).stays w))

  comes_then : (came : Arrivals) (n : Network) (ms : List Move) → Going came n ms → Wins g src metric xy n
      → AssertsComeInTime g src metric d started xy n ms
  comes_then came n ms f w = record {
    sayable = sayable;
    about = about;
    ready = f.ready;
    wins = always_wins ms n f.wins w;
    in_time = in_time_of came n ms f;
  }

  -- ---- from an Assert of the first one on

  module _ (number q : ℕ) (low : q + d ≤ bound) where
    abbrev limit : ℕ
    limit = q + 177000 + 2 * d

    abbrev Later : Network → List Move → Type 0
    Later n ms = HasLostAfter g src metric started xy limit n ms

    abbrev Holds : Network → Type 0
    Holds n = HoldsTo g src metric d started xy few (q + 180000) n

    before_end : limit < q + 180000
    before_end = short few
      where
        short : d < most_late_assert → q + 177000 + 2 * d < q + 180000
        short e = omega (arith, e)

    has_lost : (n : Network) → Holds n → HasLostTo g src metric xy n
    has_lost n h = record { station = h.station; there = h.there; until = (h.loses).until; found = (h.loses).found }

    -- past the limit it has lost by its next ones
    past_on : (ms : List Move) (n : Network) → (IsBy started y.router limit n → ⊥) → Later n ms → Lost n ms
    past_on [] n past f = tt
    past_on (m ∷ ms) n past f = go f.0 (past_on ms (moved n m).1 (λ by. past (earlier started y.router limit n m by)) f.1)
      where
        go : IsBy started y.router limit (moved n m).1 ⊎ HasLostTo g src metric xy (moved n m).1 → Lost (moved n m).1 ms → Lost n (m ∷ ms)
        go (inl by) rest = absurd (past (earlier started y.router limit n m by))
        go (inr lost) rest = (inr lost, rest)

    -- until then by this one
    holds_on : (ms : List Move) (n : Network) → IsReady y.router n → Holds n → Later n ms → InTime n ms → Lost n ms
    holds_on [] n ready h f in_time = tt
    holds_on (m ∷ ms) n ready h f in_time =
        go (by_or_past started y.router limit (moved n m).1)
        (λ then. holds_on ms (moved n m).1 (ready_then y.router n m ready) then f.1 in_time.1)
      where
        past : (IsBy started y.router limit (moved n m).1 → ⊥)
            → IsBy started y.router limit (moved n m).1 ⊎ HasLostTo g src metric xy (moved n m).1 → Lost n (m ∷ ms)
        past off (inl by) = absurd (off by)
        past off (inr lost) = (inr lost, past_on ms (moved n m).1 off f.1)

        go : IsBy started y.router limit (moved n m).1 ⊎ (IsBy started y.router limit (moved n m).1 → ⊥)
            → (Holds (moved n m).1 → Lost (moved n m).1 ms) → Lost n (m ∷ ms)
        go (inl by) next =
            let then : Holds (moved n m).1 = stays_held g src metric d started xy few n m ms ready in_time.0 (q + 180000) limit before_end by h in
            (inr (has_lost (moved n m).1 then), next then)
        go (inr off) next = past off f.0

    comes_in : (ms : List Move) (n : Network)
        → frame_at n number ≡ Some (record { link = Some link; bytes = assert_packet x.address g src metric }) → IsReady y.router n
        → AssertComesBy g src metric d started xy number q n ms → Later n ms → InTime n ms → Lost n ms
    comes_in [] n framed ready comes f in_time = tt
    comes_in (m ∷ ms) n framed ready comes f in_time =
        go comes (λ rest. comes_in ms (moved n m).1 (frame_stays n m number _ framed) (ready_then y.router n m ready) rest f.1 in_time.1)
      where
        go : AssertComes g src metric started xy number q n m
            ⊎ (IsBy started y.router (q + d) (moved n m).1 × AssertComesBy g src metric d started xy number q (moved n m).1 ms)
            → (AssertComesBy g src metric d started xy number q (moved n m).1 ms → Lost (moved n m).1 ms) → Lost n (m ∷ ms)
        go (inl it) next =
            let then : Holds (moved n m).1 = held_then g src metric d started xy few sayable about number q n m framed ready it in
            (inr (has_lost (moved n m).1 then), holds_on ms (moved n m).1 (ready_then y.router n m ready) then f.1 in_time.1)
        go (inr (by, rest)) next = (inl (by_later started y.router (q + d) bound (moved n m).1 low by), next rest)

  then_lost : (came : Arrivals) (n : Network) (m : Move) (ms : List Move) (at : ℕ) → Going came n (m ∷ ms) → Speaks g src metric xy n m
      → IsBy started x.router at (moved n m).1 → at + d ≤ bound → Lost n (m ∷ ms)
  then_lost came n m ms at f s by le = (
    inl (by_later started y.router (q + d) bound (moved n m).1 low
        (subst (λ (p : ℕ). IsBy started y.router (p + d) (moved n m).1) (told).0
        (then_soon came n m ms f y y number upper upper
        (not_yet d late started t link members first came n m ms (on came n m ms f) y upper number (s.leaves).later)
        (record { frame = frame; is = (s.leaves).framed; on = refl; other = away })))),
    comes_in number q low ms (moved n m).1 (s.leaves).framed (ready_then y.router n m f.ready)
        (((in_time_of came n (m ∷ ms) f).0).asserts (s.leaves).event s.station number (s.leaves).is s.there (s.leaves).later (s.leaves).framed)
        (loser_comes_to_stay g src metric d (q + 177000 + 2 * d) started xy (moved n m).1 ms few
        (comes_then (arrived came m) (moved n m).1 ms (going came n m ms f) won)
        (record { station = won.station; there = won.there; row = won.row; found = won.found; by = due }))
        (in_time_of (arrived came m) (moved n m).1 ms (going came n m ms f)),
  )
    where
      number : ℕ
      number = (s.leaves).number

      q : ℕ
      q = time_at started x.router s.station

      frame : Sent
      frame = record { link = Some link; bytes = assert_packet x.address g src metric }

      low : q + d ≤ bound
      low = so q (by s.station s.there)
        where
          so : (p : ℕ) → p ≤ at → p + d ≤ bound
          so p e = omega (arith, e, le)

      told : (t.sent number ≡ q) × (t.by number ≡ x.router)
      told = sent_at came n m ms f x (s.leaves).event s.station number _ (s.leaves).is s.there (s.leaves).later (s.leaves).framed

      away : (t.by number == y.router) ≡ false
      away = subst (λ (r : ℕ). (r == y.router) ≡ false) (sym (told).1) apart

      won : Wins g src metric xy (moved n m).1
      won = ((f.wins).0).begins s.leaves

      due : (won.row).end + started x.router + 2 * d ≤ q + 177000 + 2 * d
      due = so (won.row).end ((s.station).state).present (started x.router)
          (s.ends won.row (subst (λ (z : Station). row_at (z.state).asserts (winner_key g src metric xy) ≡ Some won.row)
          (same_station won.there s.there) won.found))
        where
          so : (a p r : ℕ) → a ≤ p + 177000 → a + r + 2 * d ≤ p + r + 177000 + 2 * d
          so a p r e = omega (arith, e)

  -- ---- from an Assert of the other one on

  module _ (number at : ℕ) (le : at + 2 * d ≤ bound) (sent : t.sent number ≤ at) (away : (t.by number == x.router) ≡ false) where
    abbrev claim : Sent
    claim = record { link = Some link; bytes = assert_packet y.address g src other }

    for_it : (n : Network) → frame_at n number ≡ Some claim → IsFor t link x.router n number
    for_it n framed = record { frame = claim; is = framed; on = refl; other = away }

    up_to_at : (r : ℕ) (n : Network) → IsBy started r (t.sent number + d) n → IsBy started r (at + d) n
    up_to_at r n by = by_later started r (t.sent number + d) (at + d) n (so (t.sent number) sent) by
      where
        so : (a : ℕ) → a ≤ at → a + d ≤ at + d
        so a e = omega (arith, e)

    arrives : (ms : List Move) (n : Network) (came : Arrivals) → Going came n ms → came x.router x.iface < number → frame_at n number ≡ Some claim
        → Lost n ms
    arrives [] n came f lt framed = tt
    arrives (m ∷ ms) n came f lt framed =
        go (brings came x m) (λ lt'. arrives ms (moved n m).1 (arrived came m) (going came n m ms f) lt' (frame_stays n m number claim framed))
      where
        Rest : Type 0
        Rest = arrived came m x.router x.iface < number → Lost (moved n m).1 ms

        within : at + d + d ≤ bound
        within = so at le
          where
            so : (a : ℕ) → a + 2 * d ≤ bound → a + d + d ≤ bound
            so a e = omega (arith, e)

        near : at + d ≤ bound
        near = so at le
          where
            so : (a : ℕ) → a + 2 * d ≤ bound → a + d ≤ bound
            so a e = omega (arith, e)

        -- it hasn't come yet
        later : Rest → arrived came m x.router x.iface < number → Lost n (m ∷ ms)
        later rest lt' = (
          inl (by_later started y.router (at + d) bound (moved n m).1 near (up_to_at y.router (moved n m).1
              (then_soon came n m ms f x y number lower upper lt' (for_it (moved n m).1 (frame_stays n m number claim framed))))),
          rest lt',
        )

        -- it comes, and is answered
        answered : (draw : ℕ) → m ≡ Deliver x.router x.iface number draw → Lost n (m ∷ ms)
        answered draw is =
            let can : CanAnswer g src metric other link x y n = (f.answers).0 number draw is framed in
            then_lost came n m ms (at + d) f
            (subst (λ (k : Move). Speaks g src metric xy n k) (sym is)
            (speaks_by_assert g src metric other link x y other_sayable other_about n number draw framed can))
            (subst (λ (k : Move). IsBy started x.router (at + d) (moved n k).1) (sym is)
            (by_then g src metric other link x y other_sayable other_about n number draw framed can started (at + d)
            (up_to_at x.router n
            (soon_first d started t link members came n (m ∷ ms) (f.carried).carries x x number lower lower lt (for_it n framed)))))
            within

        go : Brought x m ⊎ (arrived came m x.router x.iface ≡ came x.router x.iface) → Rest → Lost n (m ∷ ms)
        go (inr left) rest = later rest (same (arrived came m x.router x.iface) (came x.router x.iface) left lt)
          where
            same : (a b : ℕ) → a ≡ b → b < number → a < number
            same a b e h = omega (arith, e, h)
        go (inl b) rest = by (b.number == number) refl
          where
            it_is : (u v : Brought x m) → u.number ≡ v.number
            it_is u v = same (sym u.is ∙ v.is)
              where
                same : Deliver x.router x.iface u.number u.draw ≡ Deliver x.router x.iface v.number v.draw → u.number ≡ v.number
                same e = cc e

            by : (e : Bool) → (b.number == number) ≡ e → Lost n (m ∷ ms)
            by true is = answered b.draw (b.is ∙ ap (λ (k : ℕ). Deliver x.router x.iface k b.draw) (eqb-true b.number number is))
            by false off =
                later rest (waits d started t link members x lower number came n m ms (f.carried).carries lt (for_it n framed) (inl b)
                (λ u same. contradicts off (eq-eqb b.number number (it_is b u ∙ same))))

  apart_back : (y.router == x.router) ≡ false
  apart_back = go (y.router == x.router) refl
    where
      go : (b : Bool) → (y.router == x.router) ≡ b → b ≡ false
      go false is = refl
      go true is = absurd (contradicts apart (eq-eqb x.router y.router (sym (eqb-true y.router x.router is))))

  then_answered : (came : Arrivals) (n : Network) (m : Move) (ms : List Move) (at : ℕ) → Going came n (m ∷ ms) → AssertLeaves g src other yx n m
      → IsBy started y.router at (moved n m).1 → (st : Station) → station_at (moved n m).1 y.router ≡ Some st → at + 2 * d ≤ bound → Lost n (m ∷ ms)
  then_answered came n m ms at f l by st there le = (
    inl (by_later started y.router at bound (moved n m).1 (up at le) by),
    arrives l.number at le (subst (λ (p : ℕ). p ≤ at) (sym (told).0) (by st there))
        (subst (λ (r : ℕ). (r == x.router) ≡ false) (sym (told).1) apart_back) ms (moved n m).1 (arrived came m) (going came n m ms f)
        (not_yet d late started t link members first came n m ms (on came n m ms f) x lower l.number l.later) l.framed,
  )
    where
      up : (a : ℕ) → a + 2 * d ≤ bound → a ≤ bound
      up a e = omega (arith, e)

      told : (t.sent l.number ≡ time_at started y.router st) × (t.by l.number ≡ y.router)
      told = sent_at came n m ms f y l.event st l.number _ l.is there l.later l.framed

  -- ---- while the other one is the winner

  module _ (at : ℕ) (within : at + d ≤ bound) where
    abbrev Winner : Network → Type 0
    Winner n = Wins g src other yx n

    module _ (came : Arrivals) (n : Network) (m : Move) (ms : List Move) (f : Going came n (m ∷ ms)) (w : Winner n)
        (due : (w.row).end + started y.router + 2 * d ≤ at)
        (more : (v : Winner (moved n m).1) → (v.row).end + started y.router + 2 * d ≤ at → HoldsOut g src metric other link x y (moved n m).1 ms
        → Lost (moved n m).1 ms) where
      abbrev end : ℕ
      end = (w.row).end + started y.router + late

      in_time : (q : ℕ) → IsBy started q end (moved n m).1
      in_time q =
          assert_end (λ (z : ℕ). IsBy started q (z + started y.router + late) (moved n m).1) ((w.station).state)
          ((on came n m ms f).prompt y.router q w.station w.there) (winner_key g src other yx) w.row w.found

      twice : end + 2 * d ≤ bound
      twice = so (w.row).end (started y.router) due
        where
          so : (a r : ℕ) → a + r + 2 * d ≤ at → a + r + late + 2 * d ≤ bound
          so a r e = omega (arith, e, within, timely)

      once : end + d ≤ bound
      once = so end twice
        where
          so : (a : ℕ) → a + 2 * d ≤ bound → a + d ≤ bound
          so a e = omega (arith, e)

      abbrev winning : Station
      winning = w.station

      fell : (v : Winner (moved n m).1) → (v.row).end ≤ (w.row).end → HoldsOut g src metric other link x y (moved n m).1 ms → Lost n (m ∷ ms)
      fell v low rest = (
        inl (by_later started y.router end bound (moved n m).1 (so end once) (in_time y.router)),
        more v (sooner (v.row).end (w.row).end (started y.router) low due) rest,
      )
        where
          so : (a : ℕ) → a + d ≤ bound → a ≤ bound
          so a e = omega (arith, e)

          sooner : (a b r : ℕ) → a ≤ b → b + r + 2 * d ≤ at → a + r + 2 * d ≤ at
          sooner a b r e h = omega (arith, e, h)

      told : AssertLeaves g src other yx n m → (z : Station) → station_at (moved n m).1 y.router ≡ Some z → Lost n (m ∷ ms)
      told l z there = then_answered came n m ms end f l (in_time y.router) z there twice

      found_then : (v : Winner (moved n m).1) (z : Station) → station_at (moved n m).1 y.router ≡ Some z
          → row_at (z.state).asserts (winner_key g src other yx) ≡ Some v.row
      found_then v z there =
          subst (λ (u : Station). row_at (u.state).asserts (winner_key g src other yx) ≡ Some v.row) (same_station v.there there) v.found

      by_event : Steps n m y.router winning → (v : Winner (moved n m).1) → HoldsOut g src metric other link x y (moved n m).1 ms → Lost n (m ∷ ms)
      by_event e v rest = go (each_event_assert y.iface g src other winning.state e.event w.row w.found w.wins w.sent)
        where
          z : Station
          z = record winning { state = (step winning.state e.event).state }

          go : AssertLasts y.iface g src other winning.state e.event w.row w.found w.wins w.sent (step winning.state e.event) → Lost n (m ∷ ms)
          go (inl (inl ends)) = fell v (ends v.row (found_then v z (e.stepped).here)) rest
          go (inl (inr (sends, ends))) =
              let new : IsNewOn n (moved n m).1 link (assert_packet y.address g src other) =
              subst (λ (a : ℕ). IsNewOn n (moved n m).1 link (assert_packet a g src other)) w.own
              ((e.stepped).sent y.iface link _ w.linked sends.is_sent) in
              told (record { event = e.event; is = e.is; number = (new.on).number; later = new.later; framed = (new.on).is }) z (e.stepped).here
          go (inr off) = absurd (contradicts off (ap is_winner (found_then v z (e.stepped).here) ∙ v.wins))

      same_row : (a b : AssertRow) → Some a ≡ Some b → b.end ≤ a.end
      same_row a b e = subst (λ (z : AssertRow). z.end ≤ a.end) (is e) (equal a.end)
        where
          is : Some a ≡ Some b → a ≡ b
          is e = cc e

          equal : (p : ℕ) → p ≤ p
          equal p = omega arith

      by_move : (v : Winner (moved n m).1) → HoldsOut g src metric other link x y (moved n m).1 ms → Lost n (m ∷ ms)
      by_move v rest = go (one_router n m y.router winning w.there)
        where
          go : (station_at (moved n m).1 y.router ≡ Some winning) ⊎ Steps n m y.router winning → Lost n (m ∷ ms)
          go (inl same) = fell v (same_row w.row v.row (sym w.found ∙ found_then v winning same)) rest
          go (inr e) = by_event e v rest

      leaves : AssertLeaves g src other yx n m → Lost n (m ∷ ms)
      leaves l = go (one_router n m y.router winning w.there)
        where
          go : (station_at (moved n m).1 y.router ≡ Some winning) ⊎ Steps n m y.router winning → Lost n (m ∷ ms)
          go (inl same) = told l winning same
          go (inr e) = told l (record winning { state = (step winning.state e.event).state }) (e.stepped).here

      each : HoldsOut g src metric other link x y n (m ∷ ms) → Lost n (m ∷ ms)
      each (inl h) = then_lost came n m ms end f (speaks_by_packet g src metric xy n m h) (in_time x.router) once
      each (inr (inl l)) = leaves l
      each (inr (inr (v, rest))) = by_move v rest

    holds : (ms : List Move) (n : Network) (came : Arrivals) → Going came n ms → (w : Winner n) → (w.row).end + started y.router + 2 * d ≤ at
        → HoldsOut g src metric other link x y n ms → Lost n ms
    holds [] n came f w due h = tt
    holds (m ∷ ms) n came f w due h =
        each came n m ms f w due (λ v low rest. holds ms (moved n m).1 (arrived came m) (going came n m ms f) v low rest) h

  -- ---- whichever asserts next

  begins_so : (came : Arrivals) (n : Network) (m : Move) (ms : List Move) → Going came n (m ∷ ms)
      → Begins g src metric other link x y d bound started n m ms → Lost n (m ∷ ms)
  begins_so came n m ms f (FirstHears at h by le) = then_lost came n m ms at f (speaks_by_packet g src metric xy n m h) by le
  begins_so came n m ms f (OtherHears at h by le) =
      let s : Speaks g src other yx n m = speaks_by_packet g src other yx n m h in
      then_answered came n m ms at f s.leaves by s.station s.there le
  begins_so came n m ms f (FirstWins w due) =
      loser_comes_to_stay g src metric d bound started xy n (m ∷ ms) few (comes_then came n (m ∷ ms) f w) due
  begins_so came n m ms f (OtherWins at w due le h) =
      holds at le (m ∷ ms) n came f w (subst (λ (r : AssertRow). r.end + started y.router + 2 * d ≤ at) same due.by) h
    where
      same_row : (a b : AssertRow) → Some a ≡ Some b → a ≡ b
      same_row a b e = cc e

      same : due.row ≡ w.row
      same =
          same_row due.row w.row (sym due.found
          ∙ subst (λ (z : Station). row_at (z.state).asserts (winner_key g src other yx) ≡ Some w.row) (same_station w.there due.there) w.found)

pub other_comes_to_lose : OtherComesToLose
other_comes_to_lose g src metric other d late bound started t came link members x y first n m ms f =
    begins_so g src metric other d late bound started t link members x y first f.few (f.carried).timely f.lower f.upper f.apart f.sayable f.about
    f.other_sayable f.other_about came n m ms
    (record { carried = f.carried; ready = f.ready; wins = f.wins; answers = f.answers; hears = f.hears }) f.begins

pub one_sender_is_left : OneSenderIsLeft
one_sender_is_left g src metric other d late bound started t came link members x y first n m ms f off =
    silent_after g src metric (between link x y) started bound (m ∷ ms) n
    (other_comes_to_lose g src metric other d late bound started t came link members x y first n m ms f) off

pub one_of_all_is_left : OneOfAllIsLeft
one_of_all_is_left a d late bound started t came members first n m ms f =
    one_sender_past started bound a (m ∷ ms) n (each_more (IsSender a d late bound started t came members first n m ms) _ one a.losers f)
  where
    one : (y : Member) → IsSender a d late bound started t came members first n m ms y
        → HoldsPast started bound (IsSilent a.group a.source (between a.link a.winner y)) n (m ∷ ms)
    one y h =
        silent_past started bound a.group a.source a.link a.metric a.winner y (m ∷ ms) n h.off
        (one_sender_is_left a.group a.source a.metric h.other d late bound started t came a.link members a.winner y first n m ms h.senders h.off)
