-- Where a link carries what is sent on it, what each law of it asks comes in time.
use Rattle.std.{proofs.{Common.{◌≡◌, ◌∙◌, ℕ, ◌+◌, ◌≤◌, ◌==◌, Bool, true, false, List, [], ◌∷◌, inl, inr, Some, refl, sym, ap, arith, eqb-true, eq-eqb}}}
use Rattle.pim_types.{specs.{Keys.iface_key, declared.{config.Settings.Settings, fact.{AssertMetric.AssertMetric, AssertRow.AssertRow, InterfaceRow.InterfaceRow, QuerierRow.QuerierRow}}}}
use Rattle.pim_model.{specs.{Network.{Move, Network, Station, moved, station_at}, Querier.querier_on, Tables.row_at}}
use Rattle.law_streams.{specs.{Adjacent.{Adjacent, HelloComesBy, HellosInTime}, Hellos.hello_of, InTimeJoins.{IsBy, IsReady, time_at}}}
use Rattle.law_converges.{specs.{Carried.{Arrivals, EachMove, IsCarried, Traffic, arrived}, CarriedLinks.{Ask, GivesWay, HearsHello, HearsQuery, HelloKeeps, LoserKeeps, Meet, QueryKeeps, Yields}, LinkAsserts.assert_packet, LinkDr.{IsOne, MeetInTime, Member, between}, LinkLosers.{AssertComesBy, AssertsComeInTime, AssertsInTime, winner_key}, LinkQuerier.{AskInTime, QueriesInTime, QueryComesBy, query_packet, role_end}}, proofs.{Carried.{IsCarriedOn, carried_on, sent_comes}, Prompt.{assert_end, hello_end, querier_end}}}

-- who has another address is another router, where each has one interface there
apart_so : (members : List Member) → ((x y : Member) → IsOne members x → IsOne members y → x.router ≡ y.router → x ≡ y)
    → (x y : Member) → IsOne members x → IsOne members y → (x.address == y.address) ≡ false → (x.router == y.router) ≡ false
apart_so members single x y a b off = go (x.router == y.router) refl
  where
    contradicts : (c : Bool) → c ≡ false → c ≡ true → ⊥
    contradicts c e f = cc (sym e ∙ f)

    go : (c : Bool) → (x.router == y.router) ≡ c → c ≡ false
    go false is = refl
    go true is =
        absurd (contradicts (x.address == y.address) off
        (eq-eqb x.address y.address (ap (λ (z : Member). z.address) (single x y a b (eqb-true x.router y.router is)))))

module _ (d late : ℕ) (started : ℕ → ℕ) (t : Traffic) (link : ℕ) (members : List Member) (first : ℕ) where
  -- a timer that is at most so late is at most d late
  pub in_time : late ≤ d → (q end : ℕ) (n : Network) → IsBy started q (end + late) n → IsBy started q (end + d) n
  in_time le q end n by st at = further (time_at started q st) (by st at)
    where
      further : (a : ℕ) → a ≤ end + late → a ≤ end + d
      further a e = omega (arith, le, e)

  module _ (x y : Member) (among : IsOne members y) (apart : (x.router == y.router) ≡ false) where
    abbrev c : Adjacent
    c = between link x y

    pub hellos_in_time : (ms : List Move) (n : Network) (came : Arrivals) → IsCarried d late started t came link members first n ms
        → EachMove (HelloKeeps c) n ms → HellosInTime d started c n ms
    hellos_in_time [] n came f keeps = tt
    hellos_in_time (m ∷ ms) n came f keeps = (
      record {
        timer = λ st row at is. (timely x.router st row at is, timely y.router st row at is);
        hellos = λ e st number generation ev at new got.
            sent_comes d late started t link members first came n m ms on y among number new x apart e st
            (hello_of (st.state).configured x.iface generation) ev at got (EachMove (HelloKeeps c)) (λ sent n ms. HelloComesBy d started c number sent n ms) (λ n m ms q. q.1) (λ n. tt)
            (λ n m ms draw q is framed after. inl (let h : HearsHello c n = (q.0).hears number draw is in record {
              draw = draw;
              is = is;
              station = h.station;
              there = h.there;
              linked = h.linked;
              listens = h.listens;
              room = h.room;
              after = after h.station h.there;
            })) (λ n m ms by rest. inr (by, rest)) keeps.1;
        sender_stays = (keeps.0).sender_stays;
        receiver_stays = (keeps.0).receiver_stays;
        lengthens = (keeps.0).lengthens;
      },
      hellos_in_time ms (moved n m).1 (arrived came m) on.rest keeps.1,
    )
      where
        on : IsCarriedOn d late started t came link members first n m ms
        on = carried_on d late started t link members first came n m ms f

        timely : (q : ℕ) (st : Station) (row : InterfaceRow) → station_at n x.router ≡ Some st
            → row_at (st.state).interfaces (iface_key x.iface) ≡ Some row
            → IsBy started q (row.hello_end + started x.router + d) (moved n m).1
        timely q st row at is =
            in_time f.timely q (row.hello_end + started x.router) (moved n m).1
            (hello_end (λ (end : ℕ). IsBy started q (end + started x.router + late) (moved n m).1) st.state (on.prompt x.router q st at)
            (iface_key x.iface) row is)

    queries_in_time : (s : Settings) (hold : ℕ) (ms : List Move) (n : Network) (came : Arrivals)
        → IsCarried d late started t came link members first n ms → EachMove (QueryKeeps s hold c) n ms → QueriesInTime s hold d started c n ms
    queries_in_time s hold [] n came f keeps = tt
    queries_in_time s hold (m ∷ ms) n came f keeps = (
      record {
        timer = λ st row at is. (timely x.router st row at is, timely y.router st row at is);
        queries = λ e st number ev at new got.
            sent_comes d late started t link members first came n m ms on y among number new x apart e st (query_packet x.address s) ev at got
            (EachMove (QueryKeeps s hold c)) (λ sent n ms. QueryComesBy s hold d started c number sent n ms) (λ n m ms q. q.1) (λ n. tt)
            (λ n m ms draw q is framed after. inl (let h : HearsQuery s hold c n = (q.0).hears number draw is in record {
              draw = draw;
              is = is;
              station = h.station;
              there = h.there;
              linked = h.linked;
              listens = h.listens;
              lower = h.lower;
              lasts = h.lasts;
              after = after h.station h.there;
            })) (λ n m ms by rest. inr (by, rest)) keeps.1;
        follows = (keeps.0).follows;
        lengthens = (keeps.0).lengthens;
      },
      queries_in_time s hold ms (moved n m).1 (arrived came m) on.rest keeps.1,
    )
      where
        on : IsCarriedOn d late started t came link members first n m ms
        on = carried_on d late started t link members first came n m ms f

        timely : (q : ℕ) (st : Station) (row : QuerierRow) → station_at n x.router ≡ Some st → querier_on st.state x.iface ≡ Some row
            → IsBy started q (role_end row.role + started x.router + d) (moved n m).1
        timely q st row at is =
            in_time f.timely q (role_end row.role + started x.router) (moved n m).1
            (querier_end (λ (end : ℕ). IsBy started q (end + started x.router + late) (moved n m).1) st.state (on.prompt x.router q st at)
            x.iface row is)

    pub asserts_in_time : (g src : ℕ) (metric : AssertMetric) (ms : List Move) (n : Network) (came : Arrivals)
        → IsCarried d late started t came link members first n ms → EachMove (LoserKeeps g src metric c) n ms
        → AssertsInTime g src metric d started c n ms
    asserts_in_time g src metric [] n came f keeps = tt
    asserts_in_time g src metric (m ∷ ms) n came f keeps = (
      record {
        timer = λ st row at is. (timely x.router st row at is, timely y.router st row at is);
        asserts = λ e st number ev at new got.
            sent_comes d late started t link members first came n m ms on y among number new x apart e st (assert_packet x.address g src metric)
            ev at got (EachMove (LoserKeeps g src metric c)) (λ sent n ms. AssertComesBy g src metric d started c number sent n ms)
            (λ n m ms q. q.1) (λ n. tt)
            (λ n m ms draw q is framed after. inl (let h : GivesWay g src metric c draw n = (q.0).gives number draw is framed in record {
              draw = draw;
              is = is;
              station = h.station;
              there = h.there;
              can = h.can;
              stays = h.stays;
              after = after h.station h.there;
            })) (λ n m ms by rest. inr (by, rest)) keeps.1;
        keeps = (keeps.0).keeps;
      },
      asserts_in_time g src metric ms (moved n m).1 (arrived came m) on.rest keeps.1,
    )
      where
        on : IsCarriedOn d late started t came link members first n m ms
        on = carried_on d late started t link members first came n m ms f

        timely : (q : ℕ) (st : Station) (row : AssertRow) → station_at n x.router ≡ Some st
            → row_at (st.state).asserts (winner_key g src metric c) ≡ Some row
            → IsBy started q (row.end + started x.router + d) (moved n m).1
        timely q st row at is =
            in_time f.timely q (row.end + started x.router) (moved n m).1
            (assert_end (λ (end : ℕ). IsBy started q (end + started x.router + late) (moved n m).1) st.state (on.prompt x.router q st at)
            (winner_key g src metric c) row is)

  -- ---- the laws' premises

  module _ (came : Arrivals) (n : Network) (ms : List Move) (f : IsCarried d late started t came link members first n ms)
      (single : (x y : Member) → IsOne members x → IsOne members y → x.router ≡ y.router → x ≡ y) where
    pub meet_so : (bound : ℕ) → Meet d bound started link members n ms → MeetInTime d bound started link members n ms
    meet_so bound g = record {
      apart = g.apart;
      ready = g.ready;
      stand = g.stand;
      greet = g.greet;
      in_time = λ x y a b off. (let far : (x.router == y.router) ≡ false = apart_so members single x y a b off in
          hellos_in_time x y b far ms n came f (g.hear x y a b far));
      alone = g.alone;
      forget = g.forget;
    }

    pub yields_so : (g src : ℕ) (metric : AssertMetric) (x y : Member) → IsOne members y → (x.router == y.router) ≡ false
        → IsReady y.router n → Yields g src metric (between link x y) n ms → AssertsComeInTime g src metric d started (between link x y) n ms
    yields_so g src metric x y among apart ready h = record {
      sayable = h.sayable;
      about = h.about;
      ready = ready;
      wins = h.wins;
      in_time = asserts_in_time x y among apart g src metric ms n came f h.hears;
    }

    pub ask_so : (s : Settings) (hold bound : ℕ) (leader : Member) (others : List Member) → IsReady leader.router n
        → ((y : Member) → IsOne others y → IsOne members y × ((leader.router == y.router) ≡ false) × IsReady y.router n)
        → Ask s hold d bound started link leader others n ms → AskInTime s hold d bound started link leader others n ms
    ask_so s hold bound leader others ready among g = record {
      often = g.often;
      robust = g.robust;
      first_ready = ready;
      ready = λ y a. (among y a).2;
      asks = g.asks;
      leads = g.leads;
      keeps = g.keeps;
      in_time = λ y a. queries_in_time leader y (among y a).0 (among y a).1 s hold ms n came f (g.hear y a);
    }
