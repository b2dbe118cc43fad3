-- Of the routers of a link exactly that of the lowest address is the querier: by Refresh, its row's timer and the rows of
-- the others.
use Rattle.std.{proofs.{Common.{◌≡◌, ◌∙◌, ℕ, ◌+◌, ◌*◌, ◌<◌, ◌≤◌, nat_le, nat_lt, true, false, List, [], ◌∷◌, ◌⊎◌, inl, inr, Option, Some, None, refl, sym, ap, subst, arith}, lemmas.Bool.Decides.nat_tests}, specs.Option.option_map_or}
use Rattle.pim_ip.{specs.{Addr.addr, Ipv4.is_unicast}}
use Rattle.pim_types.{specs.{Keys.iface_key, declared.{config.{IfaceId.IfaceId, Settings.Settings}, event.{Event.Event, EventKind.EventKind}, fact.{Key.Key, QuerierRole.QuerierRole, QuerierRow.QuerierRow}, timer.TimerKind.TimerKind}}}
use Rattle.pim_model.{specs.{declared.accepted.Accepted.Accepted, Cause.done_as, Network.{Move, Network, Station, event_of, frame_at, moved, station_at}, Querier.{is_querier, is_querier_role, querier_on}, State.{State}, Step.step, Timers.other_querier_end}}
use Rattle.law_settled.{specs.Ready.IsSettled, proofs.{FineStates.Runs, Parts.{end_of, is_sound, part_of}, ShownEnds.{rows_run, shown_is_later}, TableLaws.row_of_each}}
use Rattle.law_streams.{specs.{Adjacent.{Adjacent, begins_or_ends}, Copies.happens, InTimeJoins.{Always, IsBy, IsReady, time_at}}, proofs.{Deliveries.{IsStepped, is_delivered}, Pairs.{Steps, frame_stays, one_router, ready_then, same_station}, Refresh.{EverAfter, Held, Keeps, Soon, comes_to_hold}, Upper.moves_on}}
use Rattle.law_converges.{specs.{LinkDr.{AllPast, IsOne, Member, between}, LinkQuerier.{Asks, ExactlyOneQuerier, HasOneQuerier, HoldsBack, IsQuerierOf, KeepsLead, LeadsBy, OneQuerierAfter, QueriesInTime, QueryComes, QueryComesBy, QueryInTime, cuts, ends_holding, general_of, interval_of, is_own, present_for, query_packet, role_end, takes_lead}}, proofs.{QuerierClock.{AreTimely, RowBy, Timely, first_timer, own_of, turns, up_to}, Queries.{QueriesBy, SendsQuery, each_event_query}, QueryRead.{query_holds_back, query_is_done}, Roles.event_holds_back}}

-- what isn't time to the end, Up, Down or a query that cuts it
isnt_end : (s : State) (e : Event) (i end : ℕ) → ((step s e).state).present < end
    → begins_or_ends i (done_as (happens s e)) ≡ false → cuts s i end (done_as (happens s e)) ≡ false
    → (o : Option Accepted) → done_as (happens s e) ≡ o → ends_holding s i end o ≡ false
isnt_end s e i end early stays long None is = refl
isnt_end s e i end early stays long (Some (Accepted.Advance m)) is =
    before end m (subst (λ (n : ℕ). n < end) (moves_on s e m is) early)
  where
    before : (a b : ℕ) → b < a → nat_le a b ≡ false
    before a b lt = grind (arith, nat_tests, lt)
isnt_end s e i end early stays long (Some (Accepted.Up j)) is = ap (begins_or_ends i) (sym is) ∙ stays
isnt_end s e i end early stays long (Some (Accepted.Down j)) is = ap (begins_or_ends i) (sym is) ∙ stays
isnt_end s e i end early stays long (Some (Accepted.Query j from q)) is = ap (cuts s i end) (sym is) ∙ long
isnt_end s e i end early stays long (Some a) is = grind arith

-- ---- one router and another of the link

module _ (t : Settings) (hold d : ℕ) (started : ℕ → ℕ) (c : Adjacent) (few : interval_of t + 2 * d < hold) (robust : t.robustness < 8) where
  -- the other one is held back until a time at least
  pub record HoldsTo (l : ℕ) (n : Network) : Type 0 where
    pub station : Station
    pub there : station_at n c.upper ≡ Some station
    pub end : ℕ
    pub holds : HoldsBack station.state c.down end
    pub lasts : l ≤ end + started c.upper

  abbrev next : Network → Move → Network
  next n m = (moved n m).1

  abbrev By : ℕ → Network → Type 0
  By y n = IsBy started c.upper y n

  abbrev Timer : ℕ → Network → Type 0
  Timer x n = (st : Station) → station_at n c.lower ≡ Some st → RowBy t started c x st.state

  abbrev Outlasts : ℕ → Network → Move → Type 0
  Outlasts l n m = Unit {0}

  module _ (host : is_unicast c.address ≡ true) (number sent : ℕ) where
    abbrev framed_at : Network → Type 0
    framed_at n = frame_at n number ≡ Some (record { link = Some c.link; bytes = query_packet c.address t })

    module _ (n : Network) (m : Move) (framed : frame_at n number ≡ Some (record { link = Some c.link; bytes = query_packet c.address t }))
        (f : QueryComes t hold started c number sent n m) where
      abbrev hearer : State
      hearer = (f.station).state

      abbrev at : IfaceId
      at = record { number = c.down }

      abbrev e : Event
      e = record { draw = f.draw; kind = EventKind.Frame at (query_packet c.address t) }

      steps : IsStepped n c.upper f.station e (moved n m).1
      steps =
          subst (λ (k : Move). IsStepped n c.upper f.station e (moved n k).1) (sym f.is)
          (is_delivered n c.upper f.station c.down number f.draw c.link (query_packet c.address t) f.there f.linked framed)

      is_done : done_as (happens hearer e) ≡ Some (Accepted.Query at (addr c.address) (general_of t))
      is_done = query_is_done c.address t robust host hearer c.down f.draw f.listens

      more : (a b p h q : ℕ) → a ≤ b + q → h ≤ p → a + h ≤ b + p + q
      more a b p h q e f = omega (arith, e, f)

      held_then : HoldsTo (sent + hold) (next n m)
      held_then = record {
        station = record f.station { state = (step hearer e).state };
        there = (steps).here;
        end = hearer.present + present_for hearer.settings (general_of t);
        holds = query_holds_back hearer e at (addr c.address) (general_of t) is_done f.lower;
        lasts = more sent hearer.present (present_for hearer.settings (general_of t)) hold (started c.upper) f.after f.lasts;
      }

    comes_so : (ms : List Move) (n : Network) → framed_at n → QueryComesBy t hold d started c number sent n ms
        → Soon next hold d By Timer HoldsTo Outlasts sent n ms
    comes_so [] n framed f = tt
    comes_so (m ∷ ms) n framed f = go f (comes_so ms (next n m) (frame_stays n m number _ framed))
      where
        go : (QueryComes t hold started c number sent n m
            ⊎ (IsBy started c.upper (sent + d) (next n m) × QueryComesBy t hold d started c number sent (next n m) ms))
            → (QueryComesBy t hold d started c number sent (next n m) ms → Soon next hold d By Timer HoldsTo Outlasts sent (next n m) ms)
            → Soon next hold d By Timer HoldsTo Outlasts sent n (m ∷ ms)
        go (inl f) later = inl (held_then n m framed f, λ l lt. tt)
        go (inr (by, soon)) later = inr (by, later soon)

  -- what the clock asks
  timely : (n : Network) (m : Move) (ms : List Move) → is_unicast c.address ≡ true → QueryInTime t hold d started c n m ms
      → Timely t hold d started c few HoldsTo n m ms
  timely n m ms host f = record {
    timer = f.timer;
    comes = λ e st number ev at later got. comes_so host number (time_at started c.lower st) ms (moved n m).1 got (f.queries e st number ev at later got);
  }

  all_timely : (ms : List Move) (n : Network) → Always (Asks t c) n ms → QueriesInTime t hold d started c n ms
      → AreTimely t hold d started c few HoldsTo n ms
  all_timely [] n here f = tt
  all_timely (m ∷ ms) n here f = (timely n m ms (here.0).from_host f.0, all_timely ms (moved n m).1 here.1 f.1)

  -- ---- who is held back

  module _ (n : Network) (m : Move) (ms : List Move) (ready : IsReady c.upper n) (in_time : QueryInTime t hold d started c n m ms)
      (l y : ℕ) (lt : y < l) (by : By y (moved n m).1) (held : HoldsTo l n) where
    abbrev above : Station
    above = held.station

    abbrev v : State
    v = (held.station).state

    rests_above : IsSettled v
    rests_above = subst (λ (z : Station). IsSettled z.state) (same_station ready.there held.there) (ready.at_rest).settled

    early : (z : Station) → station_at (moved n m).1 c.upper ≡ Some z → (z.state).present < held.end
    early z at = less (z.state).present held.end (started c.upper) (by z at) held.lasts
      where
        less : (a b q : ℕ) → a + q ≤ y → l ≤ b + q → a < b
        less a b q e f = omega (arith, e, f, lt)

    stays_held : HoldsTo l (moved n m).1
    stays_held = go (one_router n m c.upper above held.there)
      where
        go : (station_at (moved n m).1 c.upper ≡ Some above) ⊎ Steps n m c.upper above → HoldsTo l (moved n m).1
        go (inl same) = record { station = above; there = same; end = held.end; holds = held.holds; lasts = held.lasts }
        go (inr w) =
            let z : Station = record above { state = (step v w.event).state } in
            let at : station_at (moved n m).1 c.upper ≡ Some z = (w.stepped).here in
            record {
              station = z;
              there = at;
              end = held.end;
              holds = event_holds_back v w.event c.down held.end rests_above held.holds
                  (isnt_end v w.event c.down held.end (early z at) (in_time.follows w.event above w.is held.there)
                  (in_time.lengthens w.event above held.end w.is held.there held.holds) (done_as (happens v w.event)) refl);
              lasts = held.lasts;
            }

  keeps : (ms : List Move) (n : Network) → IsReady c.upper n → QueriesInTime t hold d started c n ms
      → Keeps next hold d By Timer HoldsTo Outlasts n ms
  keeps [] n ready in_time = tt
  keeps (m ∷ ms) n ready in_time = (
    λ l y lt by. (tt, stays_held n m ms ready in_time.0 l y lt by),
    keeps ms (moved n m).1 (ready_then c.upper n m ready) in_time.1,
  )

  -- from the bound on the other one is held back
  held_after : (n : Network) (ms : List Move) (bound : ℕ) → LeadsBy t d bound started c n → Always (Asks t c) n ms → IsReady c.lower n
      → IsReady c.upper n → KeepsLead c n ms → QueriesInTime t hold d started c n ms
      → EverAfter next hold d By Timer HoldsTo Outlasts bound n ms
  held_after n ms bound f here ready above lead in_time =
      comes_to_hold next hold d By Timer HoldsTo Outlasts bound (up_to t hold d started c few HoldsTo bound) ms n (role_end (f.row).role + started c.lower) f.by
      (first_timer t hold d started c few HoldsTo n bound f) (turns t hold d started c few HoldsTo ms n here ready lead (all_timely ms n here in_time)) (keeps ms n above in_time)

-- ---- the first one

module _ (t : Settings) (started : ℕ → ℕ) (c : Adjacent) (x : ℕ) where
  -- who it says is the querier, if another, is gone by a time
  record Claims (n : Network) : Type 0 where
    station : Station
    there : station_at n c.lower ≡ Some station
    row : QuerierRow
    found : querier_on station.state c.iface ≡ Some row
    own : is_own t row.role row ≡ true
    gone : (until : ℕ) → row.role ≡ QuerierRole.NonQuerier until → until + started c.lower ≤ x

  not_other : (next left until : ℕ) → QuerierRole.Querier next left ≡ QuerierRole.NonQuerier until → ⊥
  not_other next left until e = cc e

  claims_on : (n : Network) (m : Move) → Asks t c n → IsReady c.lower n
      → ((e : Event) (st : Station) → event_of n m ≡ Some (c.lower, e) → station_at n c.lower ≡ Some st
      → takes_lead st.state c.iface (done_as (happens st.state e)) ≡ false)
      → Claims n → Claims (moved n m).1
  claims_on n m here ready lead f = go (one_router n m c.lower f.station f.there)
    where
      s : State
      s = (f.station).state

      rest : IsSettled s
      rest = subst (λ (z : Station). IsSettled z.state) (same_station ready.there f.there) (ready.at_rest).settled

      settings : s.settings ≡ t
      settings = subst (λ (z : Station). (z.state).settings ≡ t) (same_station here.there f.there) here.settings

      go : (station_at (moved n m).1 c.lower ≡ Some f.station) ⊎ Steps n m c.lower f.station → Claims (moved n m).1
      go (inl same) = record { station = f.station; there = same; row = f.row; found = f.found; own = f.own; gone = f.gone }
      go (inr w) = by_lasts (each_event_query c.iface t s w.event f.row f.found f.own settings rest (lead w.event f.station w.is f.there))
        where
          by_lasts : (querier_on (step s w.event).state c.iface ≡ Some f.row)
              ⊎ (SendsQuery s.configured t c.iface (step s w.event).emissions
              × QueriesBy t c.iface (((step s w.event).state).present + interval_of t) (step s w.event).state)
              → Claims (moved n m).1
          by_lasts (inl same) = record {
            station = record f.station { state = (step s w.event).state };
            there = (w.stepped).here;
            row = f.row;
            found = same;
            own = f.own;
            gone = f.gone;
          }
          by_lasts (inr (sends, g)) = record {
            station = record f.station { state = (step s w.event).state };
            there = (w.stepped).here;
            row = g.row;
            found = g.found;
            own = own_of t c.iface (((step s w.event).state).present + interval_of t) (step s w.event).state g;
            gone = λ until is. absurd (not_other g.next g.left until (sym g.role ∙ is));
          }

  -- past that time it is the querier
  is_the_querier : (n : Network) (bound : ℕ) → x ≤ bound → IsReady c.lower n → (f : Claims n)
      → bound < time_at started c.lower f.station → is_querier (f.station).state c.iface ≡ true
  unfolding is_querier
  is_the_querier n bound low ready f past = ap (λ (o : Option QuerierRow). option_map_or (λ (q : QuerierRow). is_querier_role q.role) o false) f.found ∙ go (f.row).role refl
    where
      s : State
      s = (f.station).state

      rest : IsSettled s
      rest = subst (λ (z : Station). IsSettled z.state) (same_station ready.there f.there) (ready.at_rest).settled

      runs : Runs (nat_lt s.present) (other_querier_end (f.row).role)
      runs =
          row_of_each (λ (e : Key × QuerierRow). Runs (nat_lt s.present) (other_querier_end (e.1).role)) (iface_key c.iface) f.row s.queriers
          (rows_run (end_of TimerKind.OtherQuerier) (is_sound (part_of TimerKind.OtherQuerier)) s.present s.queriers
          (λ k n e. shown_is_later s.present s (rest.ahead).ends TimerKind.OtherQuerier k n e)) f.found

      over : (until p q b : ℕ) → nat_lt p until ≡ true → until + q ≤ x → x ≤ b → b < p + q → ⊥
      over until p q b e f g h = absurd_lt until p q b (is_lt p until e) f g h
        where
          is_lt : (a b : ℕ) → nat_lt a b ≡ true → a < b
          is_lt a b e = grind (arith, nat_tests, e)

          absurd_lt : (until p q b : ℕ) → p < until → until + q ≤ x → x ≤ b → b < p + q → ⊥
          absurd_lt until p q b e f g h = omega (arith, e, f, g, h)

      go : (role : QuerierRole) → (f.row).role ≡ role → is_querier_role (f.row).role ≡ true
      go (QuerierRole.Querier next left) is = ap is_querier_role is
      go (QuerierRole.NonQuerier until) is =
          absurd (over until s.present (started c.lower) bound (subst (λ (r : QuerierRole). Runs (nat_lt s.present) (other_querier_end r)) is runs)
          (f.gone until is) low past)

-- ---- all of them

always_more : (P Q : Network → Type 0) → ((n : Network) → P n → Q n) → (ms : List Move) (n : Network) → Always P n ms → Always Q n ms
always_more P Q more [] n f = more n f
always_more P Q more (m ∷ ms) n f = (more n f.0, always_more P Q more ms (moved n m).1 f.1)

pub asks_of : (t : Settings) (link : ℕ) (x y : Member) (n : Network) → Asks t (between link x x) n → Asks t (between link x y) n
asks_of t link x y n f = record {
  station = f.station;
  there = f.there;
  settings = f.settings;
  row = f.row;
  found = f.found;
  linked = f.linked;
  own = f.own;
  from_host = f.from_host;
}

pub keeps_of : (link : ℕ) (x y : Member) (ms : List Move) (n : Network) → KeepsLead (between link x x) n ms → KeepsLead (between link x y) n ms
keeps_of link x y [] n f = tt
keeps_of link x y (m ∷ ms) n f = (f.0, keeps_of link x y ms (moved n m).1 f.1)

module _ (t : Settings) (hold d bound : ℕ) (started : ℕ → ℕ) (link : ℕ) (x : Member) (others : List Member)
    (few : interval_of t + 2 * d < hold) (robust : t.robustness < 8) where
  abbrev itself : Adjacent
  itself = between link x x

  not_querier : (s : State) (i end : ℕ) → HoldsBack s i end → is_querier s i ≡ false
  unfolding is_querier
  not_querier s i end f =
      ap (λ (o : Option QuerierRow). option_map_or (λ (q : QuerierRow). is_querier_role q.role) o false) f.found ∙ ap is_querier_role f.role

  too_late : (a b : ℕ) → a ≤ b → b < a → ⊥
  too_late a b e f = omega (arith, e, f)

  abbrev After : Member → Network → List Move → Type 0
  After y n ms =
      EverAfter (λ n m. (moved n m).1) hold d (λ z n. IsBy started y.router z n)
      (λ z n. (st : Station) → station_at n x.router ≡ Some st → RowBy t started (between link x y) z st.state)
      (HoldsTo t hold d started (between link x y) few robust) (λ l n m. Unit {0}) bound n ms

  walk : (first : ℕ) → first ≤ bound → (ms : List Move) (n : Network) → Claims t started itself first n → IsReady x.router n
      → ((y : Member) → IsOne others y → IsReady y.router n) → Always (Asks t itself) n ms → KeepsLead itself n ms
      → ((y : Member) → IsOne others y → After y n ms) → OneQuerierAfter started x others bound n ms
  walk first low [] n claims ready others_ready asks lead held = tt
  walk first low (m ∷ ms) n claims ready others_ready asks lead held =
      (now, walk first low ms (moved n m).1 claims_then ready_now others_then asks.1 lead.1 (λ y a. (held y a).1))
    where
      claims_then : Claims t started itself first (moved n m).1
      claims_then = claims_on t started itself first n m asks.0 ready lead.0 claims

      ready_now : IsReady x.router (moved n m).1
      ready_now = ready_then x.router n m ready

      others_then : (y : Member) → IsOne others y → IsReady y.router (moved n m).1
      others_then y a = ready_then y.router n m (others_ready y a)

      now : AllPast started (x ∷ others) bound (moved n m).1 → HasOneQuerier x others (moved n m).1
      now past = record {
        elected = record {
          station = (claims_then).station;
          there = (claims_then).there;
          is = is_the_querier t started itself first (moved n m).1 bound low ready_now claims_then
              (past x (claims_then).station (inl refl) (claims_then).there);
        };
        only = λ y a. other y a (held y a).0;
      }
        where
          other : (y : Member) (a : IsOne others y)
              → (IsBy started y.router bound (moved n m).1
              ⊎ Held (λ n m. (moved n m).1) hold d (λ z n. IsBy started y.router z n)
              (λ z n. (st : Station) → station_at n x.router ≡ Some st → RowBy t started (between link x y) z st.state)
              (HoldsTo t hold d started (between link x y) few robust) (λ l n m. Unit {0}) (moved n m).1)
              → IsQuerierOf y false (moved n m).1
          other y a (inl by) =
              absurd (too_late _ bound (by (others_then y a).station (others_then y a).there)
              (past y (others_then y a).station (inr a) (others_then y a).there))
          other y a (inr h) = record {
            station = (h.holds).station;
            there = (h.holds).there;
            is = not_querier ((h.holds).station).state y.iface (h.holds).end (h.holds).holds;
          }

pub leads_of : (t : Settings) (d bound : ℕ) (started : ℕ → ℕ) (link : ℕ) (x y : Member) (n : Network)
    → LeadsBy t d bound started (between link x x) n → LeadsBy t d bound started (between link x y) n
leads_of t d bound started link x y n f =
    record { station = f.station; there = f.there; row = f.row; found = f.found; own = f.own; by = f.by }

pub exactly_one_querier : ExactlyOneQuerier
exactly_one_querier t hold d bound started link x others n ms f =
    walk t hold d bound started link x others f.often f.robust (role_end ((f.leads).row).role + started x.router)
    (sooner (role_end ((f.leads).row).role + started x.router) d bound (f.leads).by) ms n
    (record {
      station = (f.leads).station;
      there = (f.leads).there;
      row = (f.leads).row;
      found = (f.leads).found;
      own = (f.leads).own;
      gone = λ until is. same_end until ((f.leads).row).role (started x.router) is;
    })
    f.first_ready f.ready f.asks f.keeps
    (λ y a. held_after t hold d started (between link x y) f.often f.robust n ms bound (leads_of t d bound started link x y n f.leads)
    (always_more (Asks t (between link x x)) (Asks t (between link x y)) (asks_of t link x y) ms n f.asks) f.first_ready (f.ready y a)
    (keeps_of link x y ms n f.keeps) (f.in_time y a))
  where
    sooner : (a d b : ℕ) → a + 2 * d ≤ b → a ≤ b
    sooner a d b e = omega (arith, e)

    same_end : (until : ℕ) (role : QuerierRole) (q : ℕ) → role ≡ QuerierRole.NonQuerier until → until + q ≤ role_end role + q
    same_end until role q is = le until (role_end role) q (sym (ap role_end is))
      where
        le : (a b q : ℕ) → a ≡ b → a + q ≤ b + q
        le a b q e = omega (arith, e)
