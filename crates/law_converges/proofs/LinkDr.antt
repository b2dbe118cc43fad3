-- Of the routers of a link exactly one is the DR.
use Rattle.std.{proofs.{Common.{◌≡◌, ◌∙◌, ℕ, ◌+◌, ◌*◌, ◌<◌, ◌≤◌, ◌==◌, nat_le, nat_lt, not, ◌&&◌, ◌||◌, Bool, true, false, cond, List, [], ◌∷◌, ◌⊎◌, inl, inr, filter, map, Option, Some, None, is_some, refl, sym, ap, subst, arith, eqb-true, eq-eqb}, lemmas.Bool.{both_ways, Decides.nat_tests}}, specs.{Cmp.{first_so, second_so}, List.{AllByRecursion, list_any}, Option.option_map_or, Prelude.unwrap_or}}
use Rattle.pim_types.{specs.{Keys.{is_on, neighbour_key, source_in}, declared.{event.Event.Event, fact.{Key.Key, NeighbourRow.NeighbourRow}, timer.TimerKind.TimerKind}}}
use Rattle.pim_model.{specs.{declared.accepted.Accepted.Accepted, Cause.done_as, Hellos.hello_holdtime_of, Downstream.holdtime_end_from, Neighbours.{all_have_priority, is_better_dr, is_dr, is_dr_among, is_neighbour, neighbours_on}, Network.{Move, Network, Station, event_of, moved, station_at}, State.{State, my_address, my_priority}, Step.step, Tables.{Table, has_row, row_at, rows_on, same_option}}}
use Rattle.law_settled.{specs.Ready.IsSettled, proofs.{FineStates.Runs, ListLaws.{each_both, each_more, each_of_list, list_of_each}, Parts.{end_of, is_sound, part_of}, ShownEnds.{rows_run, shown_is_later}, TableLaws.row_of_each}}
use Rattle.law_streams.{specs.{Adjacent.{IsKnown, IsKnownAfter, Sends}, Copies.happens, InTimeJoins.{Always, IsBy, IsReady, time_at}, OneDr.{Among, HasDr, IsOf, KnowEachOther, Knows, KnowsOnly, Seat}}, proofs.{Adjacent.neighbours_come_to_be_known, Climbs.swapped, OneDr.{at_least_one_dr, at_most_one_dr}, Pairs.{Steps, one_router, ready_then}}}
use Rattle.law_converges.{specs.LinkDr.{AllPast, AreOfMembers, ExactlyOneDr, ForgetsBy, HasOneDr, IsDrOf, IsOne, Member, OneDrAfter, Stands, between, is_known, is_of, is_of_member, is_preferred}, proofs.KnownRows.{Each, event_each, is_fresh}}

-- ---- lists

one_mapped : (f : Member → Seat) (xs : List Member) (x : Member) → IsOne xs x → Among (map f xs) (f x)
one_mapped f [] x none = none
one_mapped f (z ∷ zs) x (inl same) = inl (ap f same)
one_mapped f (z ∷ zs) x (inr later) = inr (one_mapped f zs x later)

record IsImage (f : Member → Seat) (xs : List Member) (y : Seat) : Type 0 where
  member : Member
  among : IsOne xs member
  is : f member ≡ y

mapped_one : (f : Member → Seat) (xs : List Member) (y : Seat) → Among (map f xs) y → IsImage f xs y
mapped_one f [] y none = absurd none
mapped_one f (z ∷ zs) y (inl same) = record { member = z; among = inl refl; is = same }
mapped_one f (z ∷ zs) y (inr later) = further (mapped_one f zs y later)
  where
    further : IsImage f zs y → IsImage f (z ∷ zs) y
    further r = record { member = r.member; among = inr r.among; is = r.is }

record Passing (p : Member → Bool) (xs : List Member) : Type 0 where
  member : Member
  among : IsOne xs member
  passes : p member ≡ true

one_passes : (p : Member → Bool) (xs : List Member) → list_any p xs ≡ true → Passing p xs
one_passes p [] e = cc e
one_passes p (x ∷ xs) e = go (p x) refl e (one_passes p xs)
  where
    further : Passing p xs → Passing p (x ∷ xs)
    further r = record { member = r.member; among = inr r.among; passes = r.passes }

    go : (b : Bool) → p x ≡ b → (b || list_any p xs) ≡ true → (list_any p xs ≡ true → Passing p xs) → Passing p (x ∷ xs)
    go true is e later = record { member = x; among = inl refl; passes = is }
    go false is e later = further (later e)

some_of : (o : Option ℕ) (n : ℕ) → same_option o (Some n) ≡ true → o ≡ Some n
some_of None n e = cc e
some_of (Some a) n e = ap Some (eqb-true a n e)

only_one : (a b c : Bool) → (not a || (b || c)) ≡ true → a ≡ true → c ≡ false → b ≡ true
only_one a b c e f g = grind arith

or_more : (a b c : Bool) → (a || b) ≡ true → (a || (b || c)) ≡ true
or_more a b c e = grind arith

-- ---- who is no better DR

first_off : (a b : Bool) → (a || b) ≡ false → a ≡ false
first_off a b e = grind arith

second_off : (a b : Bool) → (a || b) ≡ false → b ≡ false
second_off a b e = grind arith

off_not : (b : Bool) → not b ≡ true → b ≡ false
off_not b e = grind arith

module _ (p : Key × NeighbourRow → Bool) (i : ℕ) where
  -- what no row on the interface passes, none of the table does that is on it
  none_on : (t : Table NeighbourRow) → list_any p (rows_on i t) ≡ false
      → AllByRecursion (λ (e : Key × NeighbourRow). is_on i e.0 ≡ true → p e ≡ false) t
  unfolding rows_on
  none_on [] e = tt
  none_on (x ∷ xs) e = go (is_on i x.0) refl e (none_on xs)
    where
      differ : true ≡ false → ⊥
      differ e = cc e

      go : (b : Bool) → is_on i x.0 ≡ b
          → list_any p (cond b (x ∷ filter (λ (e : Key × NeighbourRow). is_on i e.0) xs) (filter (λ (e : Key × NeighbourRow). is_on i e.0) xs)) ≡ false
          → (list_any p (filter (λ (e : Key × NeighbourRow). is_on i e.0) xs) ≡ false
          → AllByRecursion (λ (e : Key × NeighbourRow). is_on i e.0 ≡ true → p e ≡ false) xs)
          → AllByRecursion (λ (e : Key × NeighbourRow). is_on i e.0 ≡ true → p e ≡ false) (x ∷ xs)
      go true on e later = (λ on. first_off (p x) _ e, later (second_off (p x) _ e))
      go false off e later = (λ on. absurd (differ (sym on ∙ off)), later e)

-- theirs is better than mine
abbrev better : Bool → (mine at theirs from : ℕ) → Bool
better by_priority mine at theirs from = cond (by_priority && not (theirs == mine)) (nat_lt mine theirs) (nat_lt at from)

itself : (p a : ℕ) → better true p a p a ≡ false
itself p a = grind (arith, nat_tests)

module _ (s : State) (i a q : ℕ) (knows : Knows s i a q) (dr : is_dr s i ≡ true) where
  no_better : better (all_have_priority (neighbours_on s i)) (my_priority s i) (my_address s i) q a ≡ false
  unfolding is_dr is_dr_among is_better_dr
  no_better =
      ap (λ (o : Option ℕ). better (all_have_priority (neighbours_on s i)) (my_priority s i) (my_address s i) (unwrap_or o 0) a)
      (sym knows.announced)
      ∙ row_of_each (λ (e : Key × NeighbourRow). is_on i e.0 ≡ true
      → is_better_dr (all_have_priority (neighbours_on s i)) (my_priority s i) (my_address s i) e ≡ false)
      (neighbour_key i a) knows.row s.neighbours
      (none_on (is_better_dr (all_have_priority (neighbours_on s i)) (my_priority s i) (my_address s i)) i s.neighbours (off_not _ dr))
      knows.found (eq-eqb i i refl)

-- ---- at one router, past the bound

module _ (members : List Member) (i start bound : ℕ) (s : State) (rest : IsSettled s)
    (each : Each (is_known members i start bound) s) (past : bound < s.present + start) where
  abbrev Living : Option ℕ → Type 0
  Living o = Runs (nat_lt s.present) o

  runs_on : AllByRecursion (λ (e : Key × NeighbourRow). Living (e.1).end) s.neighbours
  runs_on =
      rows_run (end_of TimerKind.Neighbour) (is_sound (part_of TimerKind.Neighbour)) s.present s.neighbours
      (λ k n e. shown_is_later s.present s (rest.ahead).ends TimerKind.Neighbour k n e)

  not_by : (n : ℕ) → nat_lt s.present n ≡ true → nat_le (n + start) bound ≡ false
  not_by n e = grind (arith, nat_tests, e, past)

  lives : (o : Option ℕ) → Living o → option_map_or (λ end. nat_le (end + start) bound) o false ≡ false
  lives None f = refl
  lives (Some n) f = not_by n f

  abbrev IsRight : Key × NeighbourRow → Type 0
  IsRight e = is_on i e.0 ≡ true → is_of members e ≡ true

  not_over : (e : Key × NeighbourRow) → is_known members i start bound e ≡ true → Living (e.1).end → IsRight e
  not_over e known runs on =
      only_one (is_on i e.0) (is_of members e) (option_map_or (λ end. nat_le (end + start) bound) (e.1).end false) known on
      (lives (e.1).end runs)

  right : AllByRecursion IsRight s.neighbours
  right =
      each_both (λ e. is_known members i start bound e ≡ true) (λ (e : Key × NeighbourRow). Living (e.1).end) IsRight not_over
      s.neighbours (each_of_list (is_known members i start bound) s.neighbours each) runs_on

  there : (t : Table NeighbourRow) → AllByRecursion IsRight t → AllByRecursion (λ e. is_of members e ≡ true) (rows_on i t)
  unfolding rows_on
  there [] f = tt
  there (x ∷ xs) f = go (is_on i x.0) refl (there xs f.1)
    where
      go : (b : Bool) → is_on i x.0 ≡ b → AllByRecursion (λ e. is_of members e ≡ true) (filter (λ e. is_on i e.0) xs)
          → AllByRecursion (λ e. is_of members e ≡ true) (cond b (x ∷ filter (λ e. is_on i e.0) xs) (filter (λ e. is_on i e.0) xs))
      go true on later = (f.0 on, later)
      go false off later = later

  pub all_right : AllByRecursion (λ e. is_of members e ≡ true) (neighbours_on s i)
  all_right = there s.neighbours right

  has_priority : (e : Key × NeighbourRow) → is_of members e ≡ true → is_some (e.1).priority ≡ true
  has_priority e f =
      let x : Passing (λ (y : Member). (y.address == source_in e.0) && same_option (e.1).priority (Some y.priority)) members =
      one_passes (λ (y : Member). (y.address == source_in e.0) && same_option (e.1).priority (Some y.priority)) members f in
      ap is_some (some_of (e.1).priority (x.member).priority
      (second_so ((x.member).address == source_in e.0) (same_option (e.1).priority (Some (x.member).priority)) x.passes))

  pub priorities : all_have_priority (neighbours_on s i) ≡ true
  unfolding all_have_priority
  priorities =
      list_of_each (λ (e : Key × NeighbourRow). is_some (e.1).priority) _
      (each_more (λ e. is_of members e ≡ true) (λ (e : Key × NeighbourRow). is_some (e.1).priority ≡ true) has_priority _ all_right)

  module _ (x : Member) (apart : (y : Member) → IsOne members y → y.address ≡ x.address → y ≡ x) where
    its_priority : (r : NeighbourRow) → row_at s.neighbours (neighbour_key i x.address) ≡ Some r → r.priority ≡ Some x.priority
    its_priority r is =
        let here : is_of members (neighbour_key i x.address, r) ≡ true =
        row_of_each IsRight (neighbour_key i x.address) r s.neighbours right is (eq-eqb i i refl) in
        let y : Passing (λ (z : Member). (z.address == x.address) && same_option r.priority (Some z.priority)) members =
        one_passes (λ (z : Member). (z.address == x.address) && same_option r.priority (Some z.priority)) members here in
        some_of r.priority (y.member).priority
        (second_so ((y.member).address == x.address) (same_option r.priority (Some (y.member).priority)) y.passes)
        ∙ ap (λ (z : Member). Some z.priority)
        (apart y.member y.among
        (eqb-true (y.member).address x.address
        (first_so ((y.member).address == x.address) (same_option r.priority (Some (y.member).priority)) y.passes)))

    pub knows : is_neighbour s i x.address ≡ true → Knows s i x.address x.priority
    unfolding has_row
    knows e = go (row_at s.neighbours (neighbour_key i x.address)) refl e
      where
        go : (o : Option NeighbourRow) → row_at s.neighbours (neighbour_key i x.address) ≡ o → is_some o ≡ true
            → Knows s i x.address x.priority
        go None is e = cc e
        go (Some r) is e = record { row = r; found = is; announced = its_priority r is }

-- ---- a Hello of a router of the link

module _ (members : List Member) (i start bound : ℕ) (s : State) where
  abbrev known : Key × NeighbourRow → Bool
  known e = is_known members i start bound e

  made : (k : Key) (b : Bool) (r : NeighbourRow) → known (k, r) ≡ true
      → option_map_or (λ (q : NeighbourRow). known (k, q)) (cond b None (Some r)) true ≡ true
  made k true r e = refl
  made k false r e = e

  pub fresh_so : (o : Option Accepted) → is_of_member members i o ≡ true → is_fresh known s o ≡ true
  fresh_so None e = refl
  fresh_so (Some (Accepted.Hello j from h)) e =
      made (neighbour_key j.number from.bits) (hello_holdtime_of h == 0) (record {
        end = holdtime_end_from s.present (hello_holdtime_of h);
        lan_delay = h.lan_delay;
        priority = h.priority;
        generation = h.generation;
      })
      (or_more (not (j.number == i))
      (list_any (λ (x : Member). (x.address == from.bits) && same_option h.priority (Some x.priority)) members) _ e)
  fresh_so (Some a) e = grind arith

-- ---- the routers of a link

pub always_more : (P Q : Network → Type 0) → ((n : Network) → P n → Q n) → (ms : List Move) (n : Network) → Always P n ms → Always Q n ms
always_more P Q more [] n f = more n f
always_more P Q more (m ∷ ms) n f = (more n f.0, always_more P Q more ms (moved n m).1 f.1)

first_of : (P : Network → Type 0) (n : Network) (ms : List Move) → Always P n ms → P n
first_of P n [] f = f
first_of P n (m ∷ ms) f = f.0

pub sends_to : (link : ℕ) (x y : Member) (n : Network) → Stands link x n → Sends (between link x y) n
sends_to link x y n f = record {
  station = (f.sends).station;
  there = (f.sends).there;
  up = (f.sends).up;
  linked = (f.sends).linked;
  own = (f.sends).own;
  readable = (f.sends).readable;
}

module _ (d bound : ℕ) (started : ℕ → ℕ) (link : ℕ) (members : List Member) where
  -- a router knows those there, and others until the bound at most
  record Holds (y : Member) (n : Network) : Type 0 where
    ready : IsReady y.router n
    forget : ForgetsBy bound started members y n

  holds_on : (y : Member) (n : Network) (m : Move)
      → ((e : Event) (st : Station) → event_of n m ≡ Some (y.router, e) → station_at n y.router ≡ Some st
      → is_of_member members y.iface (done_as (happens st.state e)) ≡ true)
      → Holds y n → Holds y (moved n m).1
  holds_on y n m told f = record {
    ready = ready_then y.router n m f.ready;
    forget = go (one_router n m y.router (f.forget).station (f.forget).there);
  }
    where
      st : Station
      st = (f.forget).station

      go : (station_at (moved n m).1 y.router ≡ Some st) ⊎ Steps n m y.router st → ForgetsBy bound started members y (moved n m).1
      go (inl same) = record { station = st; there = same; over = (f.forget).over }
      go (inr w) = record {
        station = record st { state = (step st.state w.event).state };
        there = (w.stepped).here;
        over = event_each (is_known members y.iface (started y.router) bound) st.state w.event (f.forget).over
            (fresh_so members y.iface (started y.router) bound st.state (done_as (happens st.state w.event))
            (told w.event st w.is (f.forget).there));
      }

  -- the one knows the other from a bound on that is no later
  record KnownBy (x y : Member) (n : Network) (ms : List Move) : Type 0 where
    from : ℕ
    low : from ≤ bound
    known : IsKnownAfter started (between link x y) from n ms

  module _ (n : Network) (nowhere : Station) (apart : (x y : Member) → IsOne members x → IsOne members y → x.address ≡ y.address → x ≡ y)
      (hold : (y : Member) → IsOne members y → Holds y n) (stand : (x : Member) → IsOne members x → Stands link x n)
      (known : (x y : Member) → IsOne members x → IsOne members y → (x.address == y.address) ≡ false → IsKnown (between link x y) n)
      (past : AllPast started members bound n) where
    abbrev at : Member → Station
    at x = unwrap_or (station_at n x.router) nowhere

    abbrev state : Member → State
    state x = (at x).state

    is_at : (x : Member) (st : Station) → station_at n x.router ≡ Some st → st ≡ at x
    is_at x st is = ap (λ (o : Option Station). unwrap_or o nowhere) (sym is)

    at_there : (x : Member) (st : Station) → station_at n x.router ≡ Some st → station_at n x.router ≡ Some (at x)
    at_there x st is = is ∙ ap Some (is_at x st is)

    record Facts (x : Member) : Type 0 where
      there : station_at n x.router ≡ Some (at x)
      own : my_address (state x) x.iface ≡ x.address
      priority : my_priority (state x) x.iface ≡ x.priority
      rest : IsSettled (state x)
      each : Each (is_known members x.iface (started x.router) bound) (state x)
      late : bound < (state x).present + started x.router

    facts : (x : Member) → IsOne members x → Facts x
    facts x a =
        let f : Stands link x n = stand x a in
        let h : Holds x n = hold x a in
        let is : (f.sends).station ≡ at x = is_at x (f.sends).station (f.sends).there in
        let now : station_at n x.router ≡ Some (at x) = at_there x (f.sends).station (f.sends).there in
        record {
          there = now;
          own = subst (λ (st : Station). my_address st.state x.iface ≡ x.address) is (f.sends).own;
          priority = subst (λ (st : Station). my_priority st.state x.iface ≡ x.priority) is f.priority;
          rest = subst (λ (st : Station). IsSettled st.state) (is_at x (h.ready).station (h.ready).there) ((h.ready).at_rest).settled;
          each = subst (λ (st : Station). Each (is_known members x.iface (started x.router) bound) st.state)
              (is_at x (h.forget).station (h.forget).there) (h.forget).over;
          late = past x (at x) a now;
        }

    abbrev seat : Member → Seat
    seat x = record { state = state x; iface = x.iface }

    abbrev seats : List Seat
    seats = map seat members

    to_seat : (e : Key × NeighbourRow) → is_of members e ≡ true → IsOf seats e
    to_seat e f =
        let y : Passing (λ (x : Member). (x.address == source_in e.0) && same_option (e.1).priority (Some x.priority)) members =
        one_passes (λ (x : Member). (x.address == source_in e.0) && same_option (e.1).priority (Some x.priority)) members f in
        let g : Facts y.member = facts y.member y.among in
        record {
          seat = seat y.member;
          among = one_mapped seat members y.member y.among;
          address = sym (eqb-true (y.member).address (source_in e.0)
              (first_so ((y.member).address == source_in e.0) (same_option (e.1).priority (Some (y.member).priority)) y.passes)) ∙ sym g.own;
          priority = some_of (e.1).priority (y.member).priority
              (second_so ((y.member).address == source_in e.0) (same_option (e.1).priority (Some (y.member).priority)) y.passes)
              ∙ ap Some (sym g.priority);
        }

    all_announce : (x : Member) → IsOne members x → all_have_priority (neighbours_on (state x) x.iface) ≡ true
    all_announce x a =
        let g : Facts x = facts x a in priorities members x.iface (started x.router) bound (state x) g.rest g.each g.late

    knows_only : (x : Member) → IsOne members x → KnowsOnly seats (seat x)
    knows_only x a =
        let g : Facts x = facts x a in
        record {
          only = each_more (λ e. is_of members e ≡ true) (IsOf seats) to_seat (neighbours_on (state x) x.iface)
              (all_right members x.iface (started x.router) bound (state x) g.rest g.each g.late);
          priorities = all_announce x a;
        }

    each_knows : (z : Seat) → Among seats z → KnowsOnly seats z
    each_knows z a =
        let r : IsImage seat members z = mapped_one seat members z a in
        subst (KnowsOnly seats) r.is (knows_only r.member r.among)

    -- one knows the other, with its priority
    knows_it : (x y : Member) → IsOne members x → IsOne members y → (y.address == x.address) ≡ false
        → Knows (state x) x.iface (my_address (state y) y.iface) (my_priority (state y) y.iface)
    knows_it x y a b off =
        let g : Facts x = facts x a in
        let h : Facts y = facts y b in
        let k : IsKnown (between link y x) n = known y x b a off in
        let there : is_neighbour (state x) x.iface y.address ≡ true =
        subst (λ (st : Station). is_neighbour st.state x.iface y.address ≡ true) (is_at x k.station k.there) k.known in
        subst (λ (p : ℕ). Knows (state x) x.iface (my_address (state y) y.iface) p) (sym h.priority)
        (subst (λ (q : ℕ). Knows (state x) x.iface q y.priority) (sym h.own)
        (knows members x.iface (started x.router) bound (state x) g.rest g.each g.late y (λ z c same. apart z y c b same) there))

    know_each_other : (x y : Member) → IsOne members x → IsOne members y → (x.address == y.address) ≡ false
        → KnowEachOther (state x) x.iface (state y) y.iface
    know_each_other x y a b off = record {
      apart = subst (λ (p : ℕ). (p == my_address (state y) y.iface) ≡ false) (sym (facts x a).own)
          (subst (λ (q : ℕ). (x.address == q) ≡ false) (sym (facts y b).own) off);
      there = knows_it x y a b (swapped x.address y.address off);
      here = knows_it y x b a off;
      alike = all_announce x a ∙ sym (all_announce y b);
    }

    -- none is preferred to the DR
    none_preferred : (x : Member) → IsOne members x → is_dr (state x) x.iface ≡ true → (y : Member) → IsOne members y
        → is_preferred y x ≡ false
    none_preferred x a won y b = go (y.address == x.address) refl
      where
        go : (c : Bool) → (y.address == x.address) ≡ c → is_preferred y x ≡ false
        go true same =
            subst (λ (z : Member). is_preferred z x ≡ false) (sym (apart y x b a (eqb-true y.address x.address same)))
            (itself x.priority x.address)
        go false off =
            let g : Facts x = facts x a in
            let h : Facts y = facts y b in
            (λ z. better (sym (all_announce x a) z) (sym g.priority z) (sym g.own z) (sym h.priority z) (sym h.own z))
            ∙ no_better (state x) x.iface (my_address (state y) y.iface) (my_priority (state y) y.iface) (knows_it x y a b off) won

    has_one : HasDr seats → HasOneDr members n
    has_one dr =
        let r : IsImage seat members dr.seat = mapped_one seat members dr.seat dr.among in
        let won : is_dr (state r.member) (r.member).iface ≡ true = subst (λ (z : Seat). is_dr z.state z.iface ≡ true) (sym r.is) dr.is in
        record {
          member = r.member;
          among = r.among;
          elected = record { station = at r.member; there = (facts r.member r.among).there; elected = won };
          only = λ y b f. one r.member r.among won y b f;
          first = none_preferred r.member r.among won;
        }
      where
        one : (x : Member) → IsOne members x → is_dr (state x) x.iface ≡ true → (y : Member) → IsOne members y → IsDrOf y n → x ≡ y
        one x a won y b f = go (x.address == y.address) refl
          where
            go : (c : Bool) → (x.address == y.address) ≡ c → x ≡ y
            go true same = apart x y a b (eqb-true x.address y.address same)
            go false off =
                absurd (both_ways (is_dr (state y) y.iface)
                (at_most_one_dr (state x) (state y) x.iface y.iface (know_each_other x y a b off) won)
                (subst (λ (st : Station). is_dr st.state y.iface ≡ true) (is_at y f.station f.there) f.elected))

module _ (d bound : ℕ) (started : ℕ → ℕ) (link : ℕ) (first : Member) (others : List Member)
    (apart : (x y : Member) → IsOne (first ∷ others) x → IsOne (first ∷ others) y → x.address ≡ y.address → x ≡ y) where
  abbrev all : List Member
  all = first ∷ others

  late_for : (t from : ℕ) → t ≤ from → from ≤ bound → bound < t → ⊥
  late_for t from e f g = omega (arith, e, f, g)

  walk : (ms : List Move) (n : Network) → ((y : Member) → IsOne all y → Holds d bound started link all y n)
      → ((x : Member) → IsOne all x → Always (Stands link x) n ms)
      → ((y : Member) → IsOne all y → AreOfMembers all y n ms)
      → ((x y : Member) → IsOne all x → IsOne all y → (x.address == y.address) ≡ false → KnownBy d bound started link all x y n ms)
      → OneDrAfter started all bound n ms
  walk [] n hold stand alone known = tt
  walk (m ∷ ms) n hold stand alone known = (now, walk ms after then (λ x a. (stand x a).1) (λ y a. (alone y a).1) later)
    where
      after : Network
      after = (moved n m).1

      then : (y : Member) → IsOne all y → Holds d bound started link all y (moved n m).1
      then y a = holds_on d bound started link all y n m (alone y a).0 (hold y a)

      later : (x y : Member) → IsOne all x → IsOne all y → (x.address == y.address) ≡ false
          → KnownBy d bound started link all x y (moved n m).1 ms
      later x y a b off =
          let k : KnownBy d bound started link all x y n (m ∷ ms) = known x y a b off in
          record { from = k.from; low = k.low; known = (k.known).1 }

      there : (x : Member) → IsOne all x → Stands link x (moved n m).1
      there x a = first_of (Stands link x) (moved n m).1 ms (stand x a).1

      known_now : AllPast started all bound (moved n m).1 → (x y : Member) → IsOne all x → IsOne all y → (x.address == y.address) ≡ false
          → IsKnown (between link x y) (moved n m).1
      known_now past x y a b off = go k.0
        where
          k : (IsBy started y.router (known x y a b off).from (moved n m).1 ⊎ IsKnown (between link x y) (moved n m).1)
              × IsKnownAfter started (between link x y) (known x y a b off).from (moved n m).1 ms
          k = (known x y a b off).known

          go : IsBy started y.router (known x y a b off).from (moved n m).1 ⊎ IsKnown (between link x y) (moved n m).1
              → IsKnown (between link x y) (moved n m).1
          go (inl by) =
              let st : Station = ((there y b).sends).station in
              let is : station_at (moved n m).1 y.router ≡ Some st = ((there y b).sends).there in
              absurd (late_for (time_at started y.router st) (known x y a b off).from (by st is) (known x y a b off).low (past y st b is))
          go (inr is) = is

      now : AllPast started all bound (moved n m).1 → HasOneDr all (moved n m).1
      now past =
          has_one d bound started link all (moved n m).1 (((there first (inl refl)).sends).station) apart then there (known_now past) past
          (at_least_one_dr _ _
          (each_knows d bound started link all (moved n m).1 (((there first (inl refl)).sends).station) apart then there (known_now past) past))

pub exactly_one_dr : ExactlyOneDr
exactly_one_dr d bound started link first others n ms few f =
    walk d bound started link first others f.apart ms n
    (λ y a. record { ready = f.ready y a; forget = f.forget y a }) f.stand f.alone
    (λ x y a b off. record {
      from = ((f.greet x a).row).hello_end + started x.router + 2 * d;
      low = (f.greet x a).by;
      known = neighbours_come_to_be_known d started (between link x y) n ms (f.greet x a).station (f.greet x a).row few (f.ready y b)
          (always_more (Stands link x) (Sends (between link x y)) (sends_to link x y) ms n (f.stand x a)) (f.in_time x y a b off)
          (f.greet x a).there (f.greet x a).is;
    })
