-- The querier's clock, for Refresh: its row's timer stays, or a general query leaves, and the next within the query interval.
use Rattle.std.{proofs.{Common.{◌≡◌, ℕ, ◌+◌, ◌*◌, ◌<◌, ◌≤◌, ◌==◌, ◌&&◌, true, false, List, [], ◌∷◌, ◌⊎◌, inl, inr, length, Some, ap, subst, arith}}}
use Rattle.pim_types.{specs.{declared.{config.{Settings.Settings}, event.{Event.Event}, fact.{QuerierRow.QuerierRow}}}}
use Rattle.pim_model.{specs.{Cause.done_as, Network.{Move, Network, Station, event_of, frame_at, moved, station_at}, Querier.{querier_on}, State.{State}, Step.step}}
use Rattle.law_settled.{specs.Ready.IsSettled}
use Rattle.law_streams.{specs.{Adjacent.{Adjacent}, Copies.happens, InTimeJoins.{Always, IsBy, IsReady, time_at}}, proofs.{Deliveries.{IsNewOn}, Pairs.{Steps, one_router, ready_then, same_station}, Refresh.{Sent as SentBy, Soon, Turned, Turns}}}
use Rattle.law_converges.{specs.{LinkQuerier.{Asks, KeepsLead, LeadsBy, interval_of, is_own, query_packet, role_end, takes_lead}}, proofs.{Queries.{QueriesBy, SendsQuery, each_event_query}}}

both_same : (a b : ℕ) → ((a == a) && (b == b)) ≡ true
both_same a b = grind arith

-- who queries goes by its own values
pub own_of : (t : Settings) (i b : ℕ) (s : State) (g : QueriesBy t i b s) → is_own t (g.row).role g.row ≡ true
own_of t i b s g = rw (g.role, g.robust, g.often) (both_same t.robustness t.query_interval)

-- the row of the router that asks, whose timer ends by a time
pub record RowBy (t : Settings) (started : ℕ → ℕ) (c : Adjacent) (x : ℕ) (s : State) : Type 0 where
  pub row : QuerierRow
  pub found : querier_on s c.iface ≡ Some row
  pub own : is_own t row.role row ≡ true
  pub by : role_end row.role + started c.lower ≤ x

-- `Holds` says until when at least another router holds what follows from a query.
module _ (t : Settings) (hold d : ℕ) (started : ℕ → ℕ) (c : Adjacent) (few : interval_of t + 2 * d < hold) (Holds : ℕ → Network → Type 0) where
  abbrev pub next : Network → Move → Network
  next n m = (moved n m).1

  abbrev pub By : ℕ → Network → Type 0
  By y n = IsBy started c.upper y n

  abbrev pub Timer : ℕ → Network → Type 0
  Timer x n = (st : Station) → station_at n c.lower ≡ Some st → RowBy t started c x st.state

  -- nothing is asked of what is held at a move
  abbrev pub Outlasts : ℕ → Network → Move → Type 0
  Outlasts l n m = Unit {0}

  -- the timer is at most d late, and after each general query what follows from it comes to be held
  pub record Timely (n : Network) (m : Move) (ms : List Move) : Type 0 where
    pub timer : (st : Station) (row : QuerierRow) → station_at n c.lower ≡ Some st → querier_on st.state c.iface ≡ Some row
        → IsBy started c.lower (role_end row.role + started c.lower + d) (moved n m).1
        × IsBy started c.upper (role_end row.role + started c.lower + d) (moved n m).1
    pub comes : (e : Event) (st : Station) (number : ℕ) → event_of n m ≡ Some (c.lower, e)
        → station_at (moved n m).1 c.lower ≡ Some st → length n.frames < number
        → frame_at (moved n m).1 number ≡ Some (record { link = Some c.link; bytes = query_packet c.address t })
        → Soon next hold d By Timer Holds Outlasts (time_at started c.lower st) (moved n m).1 ms

  abbrev pub AreTimely : Network → List Move → Type 0
  AreTimely n [] = Unit {0}
  AreTimely n (m ∷ ms) = Timely n m ms × AreTimely (moved n m).1 ms

  -- ---- who asks

  module _ (n : Network) (m : Move) (ms : List Move) (here : Asks t c n) (ready : IsReady c.lower n)
      (keeps_lead : (e : Event) (st : Station) → event_of n m ≡ Some (c.lower, e) → station_at n c.lower ≡ Some st
      → takes_lead st.state c.iface (done_as (happens st.state e)) ≡ false)
      (in_time : Timely n m ms) (x : ℕ) (timer_by : Timer x n) where
    abbrev st : Station
    st = here.station

    abbrev s : State
    s = (here.station).state

    abbrev after : Network
    after = (moved n m).1

    its : RowBy t started c x s
    its = timer_by st here.there

    abbrev row : QuerierRow
    row = (its).row

    late : IsBy started c.lower (role_end row.role + started c.lower + d) (moved n m).1
        × IsBy started c.upper (role_end row.role + started c.lower + d) (moved n m).1
    late = in_time.timer st row here.there (its).found

    further : (t a : ℕ) → t ≤ a + d → a ≤ x → t ≤ x + d
    further t a e f = omega (arith, e, f)

    by_x : By (x + d) after
    by_x = λ y at. further (time_at started c.upper y) (role_end row.role + started c.lower) (late.1 y at) (its).by

    abbrev Out : Type 0
    Out = SentBy next hold d By Timer Holds Outlasts x after ms

    -- the row stays
    timer_at : (u : Station) → station_at after c.lower ≡ Some u → querier_on u.state c.iface ≡ Some row → Timer x after
    timer_at u at found = λ y is.
        subst (λ (v : Station). RowBy t started c x v.state) (same_station at is)
        (record { row = row; found = found; own = (its).own; by = (its).by })

    rest : IsSettled s
    rest = subst (λ (z : Station). IsSettled z.state) (same_station ready.there here.there) (ready.at_rest).settled

    module _ (w : Steps n m c.lower st) where
      abbrev u : Station
      u = record st { state = (step s w.event).state }

      told : (new : IsNewOn n after c.link (query_packet c.address t))
          → Soon next hold d By Timer Holds Outlasts (time_at started c.lower u) after ms
      told new = in_time.comes w.event u (new.on).number w.is (w.stepped).here new.later (new.on).is

      short : (p : ℕ) → p + interval_of t + started c.lower ≤ p + started c.lower + interval_of t
      short p = swap p (interval_of t) (started c.lower)
        where
          swap : (p i q : ℕ) → p + i + q ≤ p + q + i
          swap p i q = omega arith

      by_then : (a b p q z : ℕ) → a ≡ b → b ≤ p → p + q ≤ z → a + q ≤ z
      by_then a b p q z e f g = omega (arith, e, f, g)

      by_own : IsNewOn n after c.link (query_packet c.address t)
          → QueriesBy t c.iface (((step s w.event).state).present + interval_of t) (step s w.event).state → Out
      by_own new g =
          let sent : ℕ = time_at started c.lower u in
          let soon : sent ≤ role_end row.role + started c.lower + d = late.0 u (w.stepped).here in
          record {
            at = sent;
            rest = interval_of t;
            low = further sent (role_end row.role + started c.lower) soon (its).by;
            few = few;
            comes = inr (told new);
            timer = λ y is. subst (λ (v : Station). RowBy t started c (sent + interval_of t) v.state) (same_station (w.stepped).here is) (record {
              row = g.row;
              found = g.found;
              own = own_of t c.iface (((step s w.event).state).present + interval_of t) (step s w.event).state g;
              by = by_then (role_end (g.row).role) g.next (((step s w.event).state).present + interval_of t) (started c.lower) (sent + interval_of t)
                  (ap role_end g.role) g.soon (short ((step s w.event).state).present);
            });
          }

      by_lasts : (querier_on (step s w.event).state c.iface ≡ Some row)
          ⊎ (SendsQuery s.configured t c.iface (step s w.event).emissions
          × QueriesBy t c.iface (((step s w.event).state).present + interval_of t) (step s w.event).state)
          → Timer x after ⊎ Out
      by_lasts (inl same) = inl (timer_at u (w.stepped).here same)
      by_lasts (inr (sends, g)) =
          inr (by_own (subst (λ (a : ℕ). IsNewOn n after c.link (query_packet a t)) here.own
          ((w.stepped).sent c.iface c.link _ here.linked sends.is_sent)) g)

      by_event : Timer x after ⊎ Out
      by_event =
          by_lasts (each_event_query c.iface t s w.event row (its).found (its).own here.settings rest (keeps_lead w.event st w.is here.there))

    turned : Turned next hold d By Timer Holds Outlasts x after ms
    turned = record { by = by_x; turn = go (one_router n m c.lower st here.there) }
      where
        go : (station_at after c.lower ≡ Some st) ⊎ Steps n m c.lower st → Timer x after ⊎ Out
        go (inl same) = inl (timer_at st same (its).found)
        go (inr w) = by_event w

  pub turns : (ms : List Move) (n : Network) → Always (Asks t c) n ms → IsReady c.lower n → KeepsLead c n ms
      → AreTimely n ms → Turns next hold d By Timer Holds Outlasts n ms
  turns [] n here ready lead in_time = tt
  turns (m ∷ ms) n here ready lead in_time = (
    λ x by. turned n m ms here.0 ready lead.0 in_time.0 x by,
    turns ms (moved n m).1 here.1 (ready_then c.lower n m ready) lead.1 in_time.1,
  )

  pub up_to : (bound : ℕ) (n : Network) (a : ℕ) → a ≤ bound → By a n → By bound n
  up_to bound n a le by = λ y at. trans (time_at started c.upper y) (by y at)
    where
      trans : (z : ℕ) → z ≤ a → z ≤ bound
      trans z early = omega (arith, early, le)

  pub first_timer : (n : Network) (bound : ℕ) (f : LeadsBy t d bound started c n) → Timer (role_end (f.row).role + started c.lower) n
  first_timer n bound f = λ y is.
      subst (λ (v : Station). RowBy t started c (role_end (f.row).role + started c.lower) v.state) (same_station f.there is)
      (record { row = f.row; found = f.found; own = f.own; by = same (role_end (f.row).role + started c.lower) })
    where
      same : (a : ℕ) → a ≤ a
      same a = omega arith
