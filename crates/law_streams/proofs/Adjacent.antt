-- A router whose Hellos come in time stays a neighbour: by Refresh, the Hello timer and the neighbour's row.
use Rattle.std.{proofs.{Common.{◌≡◌, ◌∙◌, ℕ, ◌+◌, ◌*◌, ◌<◌, ◌≤◌, nat_le, true, false, List, [], ◌∷◌, ◌⊎◌, inl, inr, Option, Some, None, Ok, is_some, refl, sym, ap, subst, arith}, lemmas.Bool.{Decides.nat_tests}}}
use Rattle.pim_ip.{specs.Addr.addr}
use Rattle.pim_types.{specs.{Keys.{iface_key}, declared.{config.IfaceId.IfaceId, event.{Event.Event, EventKind.EventKind}, fact.InterfaceRow.InterfaceRow}}}
use Rattle.pim_wire.{specs.Hellos.hello_holdtime}
use Rattle.pim_model.{specs.{declared.accepted.Accepted.Accepted, Cause.done_as, Full.{hello_is_full, is_full}, Judging.judged, Network.{Move, Network, Station, frame_at, moved, station_at}, State.{Addressing, State, address_among, is_up}, Step.step, Tables.{has_row, row_at}}}
use Rattle.law_events.{specs.Rest.IsAtRest}
use Rattle.law_streams.{specs.{Copies.happens, Adjacent.{Adjacent, HelloInTime, HellosInTime, IsKnown, IsKnownFirst, IsKnownAfter, KnowsTo, NeighboursComeToBeKnown, NeighboursStay, Sends, HelloComes, HelloComesBy, begins_or_ends, shortens}, Hellos.{IsReadable, Listens, hello_of, hello_value}, InTimeJoins.{Always, IsBy, IsReady, time_at}, Neighbours.{HoldsNeighbour, ends_neighbour}}, proofs.{Settings.step_configured, Deliveries.{IsNewOn, IsStepped, is_delivered}, Passes.done_if, HelloRead.{hello_is_read, hello_is_taken, hello_keeps_time}, HelloTimer.{HelloBy, SendsHello, each_event_hello, is_late, moves_iface}, Neighbours.event_keeps_neighbour, Pairs.{Steps, frame_stays, one_router, ready_then, same_station}, Refresh.{Ever, EverAfter, comes_to_hold, Held, Keeps, Sent as SentBy, Soon, Turned, Turns, all_moves}, Upper.moves_on}}

moves_same : (i : ℕ) (o : Option Accepted) → begins_or_ends i o ≡ false → moves_iface i o ≡ false
moves_same i None e = refl
moves_same i (Some (Accepted.Up j)) e = e
moves_same i (Some (Accepted.Down j)) e = e
moves_same i (Some a) e = grind arith

-- the row's end is by a timestamp
by_end : (i : ℕ) (s : State) (row : InterfaceRow) → row_at s.interfaces (iface_key i) ≡ Some row → HelloBy i row.hello_end s
by_end i s row is = grind (arith, is_late, nat_tests)

ends_no_later : (i x : ℕ) (s : State) (row : InterfaceRow) → HelloBy i x s → row_at s.interfaces (iface_key i) ≡ Some row → row.hello_end ≤ x
ends_no_later i x s row by is = grind (arith, is_late, nat_tests)

record HasRow (i : ℕ) (s : State) : Type 0 where
  row : InterfaceRow
  is : row_at s.interfaces (iface_key i) ≡ Some row

row_there : (i : ℕ) (s : State) → is_up s i ≡ true → HasRow i s
unfolding has_row
row_there i s up = go (row_at s.interfaces (iface_key i)) refl up
  where
    go : (o : Option InterfaceRow) → row_at s.interfaces (iface_key i) ≡ o → is_some o ≡ true → HasRow i s
    go None is e = cc e
    go (Some r) is e = record { row = r; is = is }

-- what isn't time to the end, a Down or a shorter Hello
isnt_end : (s : State) (e : Event) (i address end : ℕ) → ((step s e).state).present < end
    → begins_or_ends i (done_as (happens s e)) ≡ false → shortens s i address end (done_as (happens s e)) ≡ false
    → (o : Option Accepted) → done_as (happens s e) ≡ o → ends_neighbour s i address end o ≡ false
isnt_end s e i address end early stays long None is = refl
isnt_end s e i address end early stays long (Some (Accepted.Advance m)) is =
    before end m (subst (λ (n : ℕ). n < end) (moves_on s e m is) early)
  where
    before : (a b : ℕ) → b < a → nat_le a b ≡ false
    before a b lt = grind (arith, nat_tests, lt)
isnt_end s e i address end early stays long (Some (Accepted.Down j)) is = ap (begins_or_ends i) (sym is) ∙ stays
isnt_end s e i address end early stays long (Some (Accepted.Hello j from h)) is = ap (shortens s i address end) (sym is) ∙ long
isnt_end s e i address end early stays long (Some a) is = grind arith

module _ (d : ℕ) (started : ℕ → ℕ) (c : Adjacent) (few : d < 37500) where
  abbrev next : Network → Move → Network
  next n m = (moved n m).1

  abbrev By : ℕ → Network → Type 0
  By y n = IsBy started c.upper y n

  abbrev Timer : ℕ → Network → Type 0
  Timer x n = (st : Station) (row : InterfaceRow) → station_at n c.lower ≡ Some st
      → row_at (st.state).interfaces (iface_key c.iface) ≡ Some row → row.hello_end + started c.lower ≤ x

  abbrev Holds : ℕ → Network → Type 0
  Holds l n = KnowsTo started c l n

  -- nothing is asked of a neighbour's row at a move
  abbrev Outlasts : ℕ → Network → Move → Type 0
  Outlasts l n m = Unit {0}

  module _ (cs : Addressing) (generation number sent : ℕ) (own : address_among cs c.iface ≡ c.address) (readable : IsReadable cs c.iface) where
    abbrev framed_at : Network → Type 0
    framed_at n = frame_at n number ≡ Some (record { link = Some c.link; bytes = hello_of cs c.iface generation })

    module _ (n : Network) (m : Move) (framed : frame_at n number ≡ Some (record { link = Some c.link; bytes = hello_of cs c.iface generation }))
        (t : HelloComes started c number sent n m) where
      abbrev hearer : State
      hearer = (t.station).state

      abbrev at : IfaceId
      at = record { number = c.down }

      abbrev e : Event
      e = record { draw = t.draw; kind = EventKind.Frame at (hello_of cs c.iface generation) }

      abbrev heard : Accepted
      heard = Accepted.Hello at (addr (address_among cs c.iface)) (hello_value cs c.iface generation)

      steps : IsStepped n c.upper t.station e (moved n m).1
      steps =
          subst (λ (k : Move). IsStepped n c.upper t.station e (moved n k).1) (sym t.is)
          (is_delivered n c.upper t.station c.down number t.draw c.link (hello_of cs c.iface generation) t.there t.linked framed)

      judged_so : judged hearer e.kind ≡ Ok heard
      judged_so =
          hello_is_read hearer c.down c.iface generation cs (subst (λ (a : ℕ). Listens hearer c.down a) (sym own) t.listens) readable

      roomy : is_full hearer heard ≡ false
      unfolding is_full
      roomy = subst (λ (a : ℕ). hello_is_full hearer c.down a hello_holdtime ≡ false) (sym own) t.room

      is_done : done_as (happens hearer e) ≡ Some heard
      is_done = done_if hearer e heard judged_so roomy

      held_then : HoldsNeighbour (step hearer e).state c.down c.address (hearer.present + 105000)
      held_then =
          subst (λ (a : ℕ). HoldsNeighbour (step hearer e).state c.down a (hearer.present + 105000)) own
          (hello_is_taken hearer e at (addr (address_among cs c.iface)) (hello_value cs c.iface generation) is_done refl)

      present_then : ((step hearer e).state).present ≡ hearer.present
      present_then = hello_keeps_time hearer e at (addr (address_among cs c.iface)) (hello_value cs c.iface generation) is_done

      more : (a b q : ℕ) → a ≤ b + q → a + 105000 ≤ b + 105000 + q
      more a b q e = omega (arith, e)

      within : (a b : ℕ) → a ≡ b → a < b + 105000
      within a b e = omega (arith, e)

      known_then : KnowsTo started c (sent + 105000) (next n m)
      known_then = record {
        station = record t.station { state = (step hearer e).state };
        there = (steps).here;
        end = hearer.present + 105000;
        later = within ((step hearer e).state).present hearer.present present_then;
        holds = held_then;
        lasts = more sent hearer.present (started c.upper) t.after;
      }

    comes_so : (ms : List Move) (n : Network) → framed_at n → HelloComesBy d started c number sent n ms
        → Soon next 105000 d By Timer Holds Outlasts sent n ms
    comes_so [] n framed f = tt
    comes_so (m ∷ ms) n framed f = go f (comes_so ms (next n m) (frame_stays n m number _ framed))
      where
        go : (HelloComes started c number sent n m
            ⊎ (IsBy started c.upper (sent + d) (next n m) × HelloComesBy d started c number sent (next n m) ms))
            → (HelloComesBy d started c number sent (next n m) ms → Soon next 105000 d By Timer Holds Outlasts sent (next n m) ms)
            → Soon next 105000 d By Timer Holds Outlasts sent n (m ∷ ms)
        go (inl t) later = inl (known_then n m framed t, λ l lt. tt)
        go (inr (by, soon)) later = inr (by, later soon)

  -- ---- the sender

  module _ (n : Network) (m : Move) (ms : List Move) (here : Sends c n) (in_time : HelloInTime d started c n m ms) (x : ℕ) (timer_by : Timer x n) where
    abbrev st : Station
    st = here.station

    abbrev s : State
    s = (here.station).state

    abbrev after : Network
    after = (moved n m).1

    its : HasRow c.iface s
    its = row_there c.iface s here.up

    abbrev row : InterfaceRow
    row = (its).row

    late : IsBy started c.lower (row.hello_end + started c.lower + d) (moved n m).1
        × IsBy started c.upper (row.hello_end + started c.lower + d) (moved n m).1
    late = in_time.timer st row here.there (its).is

    low : row.hello_end + started c.lower ≤ x
    low = timer_by st row here.there (its).is

    further : (t a : ℕ) → t ≤ a + d → a ≤ x → t ≤ x + d
    further t a e f = omega (arith, e, f)

    by_x : By (x + d) after
    by_x = λ y at. further (time_at started c.upper y) (row.hello_end + started c.lower) (late.1 y at) low

    abbrev Out : Type 0
    Out = SentBy next 105000 d By Timer Holds Outlasts x after ms

    timer_at : (t : Station) (b : ℕ) → station_at after c.lower ≡ Some t → HelloBy c.iface b t.state → (z : ℕ) → b + started c.lower ≤ z → Timer z after
    timer_at t b at by z le = λ y r is found.
        let same : y ≡ t = same_station is at in
        let less : r.hello_end ≤ b = ends_no_later c.iface b t.state r by
        (subst (λ (v : Station). row_at (v.state).interfaces (iface_key c.iface) ≡ Some r) same found) in
        trans r.hello_end b (started c.lower) z less le
      where
        trans : (r b q z : ℕ) → r ≤ b → b + q ≤ z → r + q ≤ z
        trans r b q z e f = omega (arith, e, f)

    module _ (w : Steps n m c.lower st) where
      abbrev t : Station
      t = record st { state = (step s w.event).state }

      own_then : address_among ((step s w.event).state).configured c.iface ≡ c.address
      own_then = ap (λ (cs : Addressing). address_among cs c.iface) (sym (step_configured s w.event).configured) ∙ here.own

      readable_then : IsReadable ((step s w.event).state).configured c.iface
      readable_then =
          subst (λ (cs : Addressing). IsReadable cs c.iface) (step_configured s w.event).configured here.readable

      told : (generation : ℕ) → (new : IsNewOn n after c.link (hello_of ((step s w.event).state).configured c.iface generation))
          → HelloComesBy d started c (new.on).number (time_at started c.lower t) after ms
      told generation new =
          in_time.hellos w.event t (new.on).number generation w.is (w.stepped).here new.later (new.on).is

      by_own : (generation : ℕ) → IsNewOn n after c.link (hello_of ((step s w.event).state).configured c.iface generation)
          → HelloBy c.iface (((step s w.event).state).present + 30000) (step s w.event).state → Out
      by_own generation new by =
          let sent : ℕ = time_at started c.lower t in
          let soon : sent ≤ row.hello_end + started c.lower + d = late.0 t (w.stepped).here in
          record {
            at = sent;
            rest = 30000;
            low = further sent (row.hello_end + started c.lower) soon low;
            few = short few;
            comes = inr (comes_so (t.state).configured generation (new.on).number sent own_then readable_then ms after
                (new.on).is (told generation new));
            timer = timer_at t ((t.state).present + 30000) (w.stepped).here by (sent + 30000) (swap (t.state).present (started c.lower));
          }
        where
          short : d < 37500 → 30000 + 2 * d < 105000
          short e = omega (arith, e)

          swap : (p q : ℕ) → p + 30000 + q ≤ p + q + 30000
          swap p q = omega arith

      by_lasts : (same : ((step s w.event).state).configured ≡ s.configured)
          → (HelloBy c.iface row.hello_end (step s w.event).state
          ⊎ (SendsHello s.configured c.iface (step s w.event).emissions × HelloBy c.iface (((step s w.event).state).present + 30000) (step s w.event).state))
          → Timer x after ⊎ Out
      by_lasts same (inl by) = inl (timer_at t row.hello_end (w.stepped).here by x low)
      by_lasts same (inr (sends, by)) =
          inr (by_own sends.generation
          (subst (λ (cs : _). IsNewOn n after c.link (hello_of cs c.iface sends.generation)) (sym same)
          ((w.stepped).sent c.iface c.link _ here.linked sends.is_sent)) by)

      by_event : Timer x after ⊎ Out
      by_event =
          by_lasts (sym (step_configured s w.event).configured)
          (each_event_hello c.iface s w.event here.up row.hello_end (by_end c.iface s row (its).is)
          (moves_same c.iface (done_as (happens s w.event)) (in_time.sender_stays w.event st w.is here.there)))

    turned : Turned next 105000 d By Timer Holds Outlasts x after ms
    turned = record { by = by_x; turn = go (one_router n m c.lower st here.there) }
      where
        go : (station_at after c.lower ≡ Some st) ⊎ Steps n m c.lower st → Timer x after ⊎ Out
        go (inl same) = inl (timer_at st row.hello_end same (by_end c.iface s row (its).is) x low)
        go (inr w) = by_event w

  turns : (ms : List Move) (n : Network) → Always (Sends c) n ms → HellosInTime d started c n ms → Turns next 105000 d By Timer Holds Outlasts n ms
  turns [] n here in_time = tt
  turns (m ∷ ms) n here in_time = (
    λ x by. turned n m ms here.0 in_time.0 x by,
    turns ms (moved n m).1 here.1 in_time.1,
  )

  -- ---- the receiver

  module _ (n : Network) (m : Move) (ms : List Move) (ready : IsReady c.upper n) (in_time : HelloInTime d started c n m ms)
      (l y : ℕ) (lt : y < l) (by : By y (moved n m).1) (held : Holds l n) where
    abbrev above : Station
    above = held.station

    abbrev u : State
    u = (held.station).state

    rests_above : IsAtRest u
    rests_above = subst (λ (z : Station). IsAtRest z.state) (same_station ready.there held.there) ready.at_rest

    early : (z : Station) → station_at (moved n m).1 c.upper ≡ Some z → (z.state).present < held.end
    early z at = less (z.state).present held.end (started c.upper) (by z at) held.lasts
      where
        less : (a b q : ℕ) → a + q ≤ y → l ≤ b + q → a < b
        less a b q e f = omega (arith, e, f, lt)

    stays_known : Holds l (moved n m).1
    stays_known = go (one_router n m c.upper above held.there)
      where
        go : (station_at (moved n m).1 c.upper ≡ Some above) ⊎ Steps n m c.upper above → Holds l (moved n m).1
        go (inl same) = record { station = above; there = same; end = held.end; later = held.later; holds = held.holds; lasts = held.lasts }
        go (inr w) =
            let z : Station = record above { state = (step u w.event).state } in
            let at : station_at (moved n m).1 c.upper ≡ Some z = (w.stepped).here in
            record {
              station = z;
              there = at;
              end = held.end;
              later = early z at;
              holds = event_keeps_neighbour u w.event c.down c.address held.end (rests_above).settled held.holds
                  (isnt_end u w.event c.down c.address held.end (early z at) (in_time.receiver_stays w.event above w.is held.there)
                  (in_time.lengthens w.event above held.end w.is held.there held.holds) (done_as (happens u w.event)) refl);
              lasts = held.lasts;
            }

  keeps : (ms : List Move) (n : Network) → IsReady c.upper n → HellosInTime d started c n ms → Keeps next 105000 d By Timer Holds Outlasts n ms
  keeps [] n ready in_time = tt
  keeps (m ∷ ms) n ready in_time = (
    λ l y lt by. (tt, stays_known n m ms ready in_time.0 l y lt by),
    keeps ms (moved n m).1 (ready_then c.upper n m ready) in_time.1,
  )

  is_known : (n : Network) → Held next 105000 d By Timer Holds Outlasts n → IsKnown c n
  unfolding has_row
  is_known n f = record {
    station = (f.holds).station;
    there = (f.holds).there;
    known = ap is_some ((f.holds).holds).found;
  }

  all_known : (ms : List Move) (n : Network) → Ever next 105000 d By Timer Holds Outlasts n ms → Always (IsKnown c) n ms
  all_known [] n f = is_known n f
  all_known (m ∷ ms) n f = (is_known n (f.0).held, all_known ms (moved n m).1 f.1)

  first_timer : (n : Network) (f : IsKnownFirst d started c n) → Timer ((f.row).hello_end + started c.lower) n
  first_timer n f = λ y r is found.
      let same : y ≡ f.sender = same_station is f.sender_is in
      let less : r.hello_end ≤ (f.row).hello_end =
      ends_no_later c.iface (f.row).hello_end (f.sender).state r (by_end c.iface (f.sender).state f.row f.row_is)
      (subst (λ (v : Station). row_at (v.state).interfaces (iface_key c.iface) ≡ Some r) same found) in
      plus r.hello_end (f.row).hello_end (started c.lower) less
    where
      plus : (a b q : ℕ) → a ≤ b → a + q ≤ b + q
      plus a b q e = omega (arith, e)

  known_always : (n : Network) (ms : List Move) → IsReady c.upper n → Always (Sends c) n ms → IsKnownFirst d started c n
      → HellosInTime d started c n ms → Always (IsKnown c) n ms
  known_always n ms ready here f in_time =
      all_known ms n
      (all_moves next 105000 d By Timer Holds Outlasts ms n f.limit f.knows []
      (record { end = (f.row).hello_end + started c.lower; timer = first_timer n f; soon = f.lasts })
      (turns ms n here in_time) (keeps ms n ready in_time))

  up_to : (bound : ℕ) (n : Network) (a : ℕ) → a ≤ bound → By a n → By bound n
  up_to bound n a le by = λ y at. trans (time_at started c.upper y) (by y at)
    where
      trans : (z : ℕ) → z ≤ a → z ≤ bound
      trans z early = omega (arith, early, le)

  after_so : (bound : ℕ) (ms : List Move) (n : Network) → EverAfter next 105000 d By Timer Holds Outlasts bound n ms → IsKnownAfter started c bound n ms
  after_so bound [] n f = tt
  after_so bound (m ∷ ms) n f = (go f.0, after_so bound ms (next n m) f.1)
    where
      go : (By bound (next n m) ⊎ Held next 105000 d By Timer Holds Outlasts (next n m)) → IsBy started c.upper bound (next n m) ⊎ IsKnown c (next n m)
      go (inl by) = inl by
      go (inr h) = inr (is_known (next n m) h)

  same_to : (a : ℕ) → a ≤ a
  same_to a = omega arith

  timer_of : (n : Network) (st : Station) (row : InterfaceRow) → station_at n c.lower ≡ Some st
      → row_at (st.state).interfaces (iface_key c.iface) ≡ Some row → Timer (row.hello_end + started c.lower) n
  timer_of n st row there is = λ y r at found.
      let same : y ≡ st = same_station at there in
      let less : r.hello_end ≤ row.hello_end =
      ends_no_later c.iface row.hello_end st.state r (by_end c.iface st.state row is)
      (subst (λ (v : Station). row_at (v.state).interfaces (iface_key c.iface) ≡ Some r) same found) in
      plus r.hello_end row.hello_end (started c.lower) less
    where
      plus : (a b q : ℕ) → a ≤ b → a + q ≤ b + q
      plus a b q e = omega (arith, e)

  known_after : (n : Network) (ms : List Move) (st : Station) (row : InterfaceRow) → IsReady c.upper n → Always (Sends c) n ms
      → HellosInTime d started c n ms → station_at n c.lower ≡ Some st → row_at (st.state).interfaces (iface_key c.iface) ≡ Some row
      → IsKnownAfter started c (row.hello_end + started c.lower + 2 * d) n ms
  known_after n ms st row ready here in_time at is =
      after_so (row.hello_end + started c.lower + 2 * d) ms n
      (comes_to_hold next 105000 d By Timer Holds Outlasts (row.hello_end + started c.lower + 2 * d) (up_to (row.hello_end + started c.lower + 2 * d)) ms n
      (row.hello_end + started c.lower) (same_to (row.hello_end + started c.lower + 2 * d)) (timer_of n st row at is)
      (turns ms n here in_time) (keeps ms n ready in_time))

pub neighbours_come_to_be_known : NeighboursComeToBeKnown
neighbours_come_to_be_known d started c n ms st row few ready here in_time at is =
    known_after d started c few n ms st row ready here in_time at is

pub neighbours_stay : NeighboursStay
neighbours_stay d started c n ms few ready here f in_time = known_always d started c few n ms ready here f in_time
