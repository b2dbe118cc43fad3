-- A group that a host asks for is known to each router of the link: by Refresh, the querier's clock and the group timer.
use Rattle.std.{proofs.{Common.{◌≡◌, ◌∙◌, ℕ, ◌+◌, ◌*◌, ◌<◌, ◌≤◌, ◌==◌, ◌&&◌, ◌||◌, nat_le, nat_lt, cond, Bool, true, false, List, [], ◌∷◌, ◌⊎◌, inl, inr, Option, Some, None, is_some, option_and_then, refl, sym, ap, subst, arith, eq-eqb}, lemmas.Bool.Decides.nat_tests}, specs.{List.{AllByRecursion, list_any}, Option.option_map_or}}
use Rattle.pim_types.{specs.{Keys.star_key, declared.{config.{IfaceId.IfaceId, Settings.Settings}, event.Event.Event, fact.GroupRecordRow.GroupRecordRow}}}
use Rattle.igmp_wire.{specs.Values.Record}
use Rattle.pim_model.{specs.{declared.accepted.Accepted.Accepted, Cause.done_as, Network.{Move, Network, Station, moved, station_at}, Querier.{group_end, group_membership_interval}, Receivers.{is_exclude, is_exclude_among, local_receiver_star}, State.State, Step.{Answered, step}, Tables.row_at}}
use Rattle.law_settled.{specs.Ready.IsSettled}
use Rattle.igmp_older.{specs.Open.runs_until}
use Rattle.law_hosts.{specs.{Members.{answers, leaves}, Staying.KeepsTimer}, proofs.{Reports.done_end, Stays.event_keeps_timer}}
use Rattle.law_streams.{specs.{Adjacent.Adjacent, Copies.happens, InTimeJoins.{Always, IsBy, IsReady, time_at}}, proofs.{Deliveries.{IsStepped, is_stepped}, Leaves.taken_is_done, Made.step_taken, Pairs.{Steps, one_router, ready_then, same_station}, Refresh.{Ever, EverAfter, Held, Keeps, Soon, all_moves, comes_to_hold}, Upper.moves_on}}
use Rattle.law_converges.{specs.{LinkQuerier.{interval_of, role_end}, LinkMembers.{AnswerComes, AnswerComesBy, AnswerInTime, AnswersInTime, GroupKnownAfter, KnowsGroup, MemberComesToBeKnown, MemberStaysKnown, ends_record}}, proofs.{QuerierClock.{AreTimely, RowBy, Timely, first_timer, turns, up_to}, TakesOver.moved_so}}

at_most : (a b : ℕ) → nat_lt b a ≡ false → a ≤ b
at_most a b e = grind (arith, nat_tests, e)

not_by : (a b : ℕ) → b < a → nat_le a b ≡ false
not_by a b lt = grind (arith, nat_tests, lt)

itself : (a : ℕ) → a ≤ a
itself a = omega arith

to_itself : (a : ℕ) → nat_le a a ≡ true
to_itself a = grind (arith, nat_tests)

-- ---- one event at a router

module _ (i g : ℕ) where
  -- its group timer runs as long at least
  record Later (end : ℕ) (s : State) : Type 0 where
    to : ℕ
    is : group_end s i g ≡ Some to
    later : end ≤ to

  pub report_end : (s : State) (e : Event) (j : IfaceId) (rs : List Record) → done_as (happens s e) ≡ Some (Accepted.Report j rs)
      → (j.number == i) ≡ true → list_any (leaves g) rs ≡ false
      → group_end (step s e).state i g ≡ cond (list_any (answers g) rs) (Some (s.present + group_membership_interval s i)) (group_end s i g)
  report_end s e j rs was here none =
      ap (λ (x : Answered). group_end x.state i g) (step_taken s e (Accepted.Report j rs) was ∙ taken_is_done s e.draw (Accepted.Report j rs) refl)
      ∙ done_end i g s e.draw j rs here none

  module _ (s : State) (e : Event) (end : ℕ) (rest : IsSettled s) (is : group_end s i g ≡ Some end) where
    runs : runs_until end (group_end s i g) ≡ true
    runs = ap (runs_until end) is ∙ to_itself end

    stays : (o : Option Accepted) → done_as (happens s e) ≡ o → KeepsTimer end i g o → Later end (step s e).state
    stays o was off = record {
      to = end;
      is = event_keeps_timer end i g s e rest runs (subst (λ (x : Option Accepted). KeepsTimer end i g x) (sym was) off) ∙ is;
      later = itself end;
    }

    elsewhere : (j : ℕ) → (j == i) ≡ false → (rs : List Record) → AllByRecursion (λ (r : Record). ((j == i) && (r.group == g)) ≡ false) rs
    elsewhere j off [] = tt
    elsewhere j off (r ∷ rs) = (ap (λ (b : Bool). b && (r.group == g)) off, elsewhere j off rs)

    answered : (j : IfaceId) (rs : List Record) → done_as (happens s e) ≡ Some (Accepted.Report j rs) → (j.number == i) ≡ true
        → list_any (leaves g) rs ≡ false → (b : Bool) → list_any (answers g) rs ≡ b
        → (b && nat_lt (s.present + group_membership_interval s i) end) ≡ false → Later end (step s e).state
    answered j rs was here none true has long = record {
      to = s.present + group_membership_interval s i;
      is = report_end s e j rs was here none ∙ ap (λ (b : Bool). cond b (Some (s.present + group_membership_interval s i)) (group_end s i g)) has;
      later = at_most end (s.present + group_membership_interval s i) long;
    }
    answered j rs was here none false has long = record {
      to = end;
      is = report_end s e j rs was here none
          ∙ (ap (λ (b : Bool). cond b (Some (s.present + group_membership_interval s i)) (group_end s i g)) has ∙ is);
      later = itself end;
    }

    first_off : (a b : Bool) → (a || b) ≡ false → a ≡ false
    first_off a b e = grind arith

    second_off : (a b : Bool) → (a || b) ≡ false → b ≡ false
    second_off a b e = grind arith

    reported : (j : IfaceId) (rs : List Record) → done_as (happens s e) ≡ Some (Accepted.Report j rs) → (b : Bool) → (j.number == i) ≡ b
        → (b && (list_any (leaves g) rs || (list_any (answers g) rs && nat_lt (s.present + group_membership_interval s i) end))) ≡ false
        → Later end (step s e).state
    reported j rs was true here off =
        answered j rs was here (first_off (list_any (leaves g) rs) _ off) (list_any (answers g) rs) refl (second_off (list_any (leaves g) rs) _ off)
    reported j rs was false here off = stays (Some (Accepted.Report j rs)) was (elsewhere j.number here rs)

    by_kind : ((step s e).state).present < end → (o : Option Accepted) → done_as (happens s e) ≡ o → ends_record s i g end o ≡ false
        → Later end (step s e).state
    by_kind early None was off = stays None was tt
    by_kind early (Some (Accepted.Advance m)) was off =
        stays (Some (Accepted.Advance m)) was (not_by end m (subst (λ (n : ℕ). n < end) (moves_on s e m was) early))
    by_kind early (Some (Accepted.Down j)) was off = stays (Some (Accepted.Down j)) was off
    by_kind early (Some (Accepted.Query j from q)) was off = stays (Some (Accepted.Query j from q)) was off
    by_kind early (Some (Accepted.Report j rs)) was off = reported j rs was (j.number == i) refl off
    by_kind early (Some a) was off = stays (Some a) was tt

-- ---- the querier and a router of its link

module _ (t : Settings) (hold d : ℕ) (started : ℕ → ℕ) (g : ℕ) (c : Adjacent) (few : interval_of t + 2 * d < hold) where
  abbrev next : Network → Move → Network
  next n m = (moved n m).1

  abbrev By : ℕ → Network → Type 0
  By y n = IsBy started c.upper y n

  abbrev Timer : ℕ → Network → Type 0
  Timer x n = (st : Station) → station_at n c.lower ≡ Some st → RowBy t started c x st.state

  abbrev Outlasts : ℕ → Network → Move → Type 0
  Outlasts l n m = Unit {0}

  -- the group timer runs to a time at least
  pub record HoldsTo (l : ℕ) (n : Network) : Type 0 where
    pub station : Station
    pub there : station_at n c.upper ≡ Some station
    pub end : ℕ
    pub is : group_end station.state c.down g ≡ Some end
    pub lasts : l ≤ end + started c.upper

  -- ---- an answer

  module _ (sent : ℕ) where
    module _ (n : Network) (m : Move) (f : AnswerComes hold started g c sent n m) where
      abbrev hearer : State
      hearer = (f.station).state

      steps : IsStepped n c.upper f.station f.event (moved n m).1
      steps =
          subst (λ (x : Network). IsStepped n c.upper f.station f.event x) (sym (moved_so n m c.upper f.event f.station f.is f.there))
          (is_stepped n c.upper f.station f.event f.there)

      end_then : group_end (step hearer f.event).state c.down g ≡ Some (hearer.present + group_membership_interval hearer c.down)
      end_then =
          report_end c.down g hearer f.event (record { number = c.down }) f.records f.taken (eq-eqb c.down c.down refl) f.stays
          ∙ ap (λ (b : Bool). cond b (Some (hearer.present + group_membership_interval hearer c.down)) (group_end hearer c.down g)) f.asks

      more : (a b p h q : ℕ) → a ≤ b + q → h ≤ p → a + h ≤ b + p + q
      more a b p h q e f = omega (arith, e, f)

      held_then : HoldsTo (sent + hold) (next n m)
      held_then = record {
        station = record f.station { state = (step hearer f.event).state };
        there = (steps).here;
        end = hearer.present + group_membership_interval hearer c.down;
        is = end_then;
        lasts = more sent hearer.present (group_membership_interval hearer c.down) hold (started c.upper) f.after f.lasts;
      }

    comes_so : (ms : List Move) (n : Network) → AnswerComesBy hold d started g c sent n ms
        → Soon next hold d By Timer HoldsTo Outlasts sent n ms
    comes_so [] n f = tt
    comes_so (m ∷ ms) n f = go f (comes_so ms (next n m))
      where
        go : (AnswerComes hold started g c sent n m
            ⊎ (IsBy started c.upper (sent + d) (next n m) × AnswerComesBy hold d started g c sent (next n m) ms))
            → (AnswerComesBy hold d started g c sent (next n m) ms → Soon next hold d By Timer HoldsTo Outlasts sent (next n m) ms)
            → Soon next hold d By Timer HoldsTo Outlasts sent n (m ∷ ms)
        go (inl f) later = inl (held_then n m f, λ l lt. tt)
        go (inr (by, soon)) later = inr (by, later soon)

  timely : (n : Network) (m : Move) (ms : List Move) → AnswerInTime t hold d started g c n m ms
      → Timely t hold d started c few HoldsTo n m ms
  timely n m ms f = record {
    timer = f.timer;
    comes = λ e st number ev at later got. comes_so (time_at started c.lower st) ms (moved n m).1 (f.answers e st number ev at later got);
  }

  all_timely : (ms : List Move) (n : Network) → AnswersInTime t hold d started g c n ms → AreTimely t hold d started c few HoldsTo n ms
  all_timely [] n f = tt
  all_timely (m ∷ ms) n f = (timely n m ms f.0, all_timely ms (moved n m).1 f.1)

  -- ---- who knows the group

  module _ (n : Network) (m : Move) (ms : List Move) (ready : IsReady c.upper n) (in_time : AnswerInTime t hold d started g c n m ms)
      (l y : ℕ) (lt : y < l) (by : By y (moved n m).1) (held : HoldsTo l n) where
    abbrev v : State
    v = (held.station).state

    rests : IsSettled v
    rests = subst (λ (z : Station). IsSettled z.state) (same_station ready.there held.there) (ready.at_rest).settled

    early : (z : Station) → station_at (moved n m).1 c.upper ≡ Some z → (z.state).present < held.end
    early z at = less (z.state).present held.end (started c.upper) (by z at) held.lasts
      where
        less : (a b q : ℕ) → a + q ≤ y → l ≤ b + q → a < b
        less a b q e f = omega (arith, e, f, lt)

    longer : (a b q : ℕ) → a ≤ b → l ≤ a + q → l ≤ b + q
    longer a b q e f = omega (arith, e, f)

    stays_held : HoldsTo l (moved n m).1
    stays_held = go (one_router n m c.upper held.station held.there)
      where
        go : (station_at (moved n m).1 c.upper ≡ Some held.station) ⊎ Steps n m c.upper held.station → HoldsTo l (moved n m).1
        go (inl same) = record { station = held.station; there = same; end = held.end; is = held.is; lasts = held.lasts }
        go (inr w) =
            let z : Station = record (held.station) { state = (step v w.event).state } in
            let at : station_at (moved n m).1 c.upper ≡ Some z = (w.stepped).here in
            let then : Later c.down g held.end (step v w.event).state =
            by_kind c.down g v w.event held.end rests held.is (early z at) (done_as (happens v w.event)) refl
            (in_time.keeps w.event held.station held.end w.is held.there held.is) in
            record {
              station = z;
              there = at;
              end = then.to;
              is = then.is;
              lasts = longer held.end then.to (started c.upper) then.later held.lasts;
            }

  keeps : (ms : List Move) (n : Network) → IsReady c.upper n → AnswersInTime t hold d started g c n ms
      → Keeps next hold d By Timer HoldsTo Outlasts n ms
  keeps [] n ready in_time = tt
  keeps (m ∷ ms) n ready in_time = (
    λ l y lt by. (tt, stays_held n m ms ready in_time.0 l y lt by),
    keeps ms (moved n m).1 (ready_then c.upper n m ready) in_time.1,
  )

  -- ---- the laws

  is_known : (s : State) (i end : ℕ) → group_end s i g ≡ Some end → local_receiver_star s g i ≡ true
  unfolding is_exclude is_exclude_among
  is_known s i end is = go (row_at s.group_records (star_key i g)) is
    where
      go : (o : Option GroupRecordRow) → option_and_then (λ (r : GroupRecordRow). r.end) o ≡ Some end
          → option_map_or (λ (r : GroupRecordRow). is_some r.end) o false ≡ true
      go None e = cc e
      go (Some r) e = ap is_some e

  known : (n : Network) → Held next hold d By Timer HoldsTo Outlasts n → KnowsGroup g c n
  known n f = record {
    station = (f.holds).station;
    there = (f.holds).there;
    known = is_known ((f.holds).station).state c.down (f.holds).end (f.holds).is;
  }

  all_known : (ms : List Move) (n : Network) → Ever next hold d By Timer HoldsTo Outlasts n ms → Always (KnowsGroup g c) n ms
  all_known [] n f = known n f
  all_known (m ∷ ms) n f = (known n (f.0).held, all_known ms (moved n m).1 f.1)

  after_so : (bound : ℕ) (ms : List Move) (n : Network) → EverAfter next hold d By Timer HoldsTo Outlasts bound n ms
      → GroupKnownAfter started g c bound n ms
  after_so bound [] n f = tt
  after_so bound (m ∷ ms) n f = (go f.0, after_so bound ms (next n m) f.1)
    where
      go : (By bound (next n m) ⊎ Held next hold d By Timer HoldsTo Outlasts (next n m)) → IsBy started c.upper bound (next n m) ⊎ KnowsGroup g c (next n m)
      go (inl by) = inl by
      go (inr h) = inr (known (next n m) h)

pub member_stays_known : MemberStaysKnown
member_stays_known t hold d bound started g c n ms f leads knows =
    all_known t hold d started g c f.often ms n
    (all_moves (next t hold d started g c f.often) hold d (By t hold d started g c f.often) (Timer t hold d started g c f.often)
    (HoldsTo t hold d started g c f.often) (Outlasts t hold d started g c f.often) ms n (bound + 1)
    (record { station = knows.station; there = knows.there; end = knows.end; is = knows.is; lasts = above bound (knows.end + started c.upper) knows.lasts })
    []
    (record {
      end = role_end (leads.row).role + started c.lower;
      timer = first_timer t hold d started c f.often (HoldsTo t hold d started g c f.often) n bound leads;
      soon = under (role_end (leads.row).role + started c.lower) d bound leads.by;
    })
    (turns t hold d started c f.often (HoldsTo t hold d started g c f.often) ms n f.asks f.querier_ready f.leads
    (all_timely t hold d started g c f.often ms n f.in_time))
    (keeps t hold d started g c f.often ms n f.ready f.in_time))
  where
    above : (a b : ℕ) → a < b → a + 1 ≤ b
    above a b e = omega (arith, e)

    under : (x d b : ℕ) → x + 2 * d ≤ b → x + 2 * d < b + 1
    under x d b e = omega (arith, e)

pub member_comes_to_be_known : MemberComesToBeKnown
member_comes_to_be_known t hold d bound started g c n ms f leads =
    after_so t hold d started g c f.often bound ms n
    (comes_to_hold (next t hold d started g c f.often) hold d (By t hold d started g c f.often) (Timer t hold d started g c f.often)
    (HoldsTo t hold d started g c f.often) (Outlasts t hold d started g c f.often) bound
    (up_to t hold d started c f.often (HoldsTo t hold d started g c f.often) bound) ms n (role_end (leads.row).role + started c.lower) leads.by
    (first_timer t hold d started c f.often (HoldsTo t hold d started g c f.often) n bound leads)
    (turns t hold d started c f.often (HoldsTo t hold d started g c f.often) ms n f.asks f.querier_ready f.leads
    (all_timely t hold d started g c f.often ms n f.in_time))
    (keeps t hold d started g c f.often ms n f.ready f.in_time))
