-- Tests of a network and of moves, by which the premises of a law are computed.
use Rattle.std.{proofs.{Common.{◌≡◌, ℕ, zero, suc, ◌+◌, ◌<◌, ◌≤◌, ◌==◌, nat_le, nat_lt, not, ◌&&◌, ◌||◌, Bool, true, false, List, [], ◌∷◌, drop, length, Option, Some, None, Ok, refl, sym, ap, subst, arith, eqb-true, eq-eqb}, lemmas.Bool.Decides.nat_tests}, specs.{Cmp.{first_so, second_so}, List.list_all, Option.option_map_or, Prelude.slice_get}}
use Rattle.pim_types.{specs.declared.{config.Config.Config, event.{Event.Event, EventKind.EventKind}}}
use Rattle.pim_model.{specs.{declared.accepted.Accepted.Accepted, Cause.done_as, Limits.config_test, Network.{At, Deliver, DeliverUnicast, Move, Network, Sent, Station, event_of, frame_at, moved, network_ran, station_at}, State.{State, opening}, Step.state_after, Tables.same_option}}
use Rattle.law_events.{proofs.Rest.{opening_is_at_rest, run_is_at_rest}}
use Rattle.law_streams.{specs.{Copies.happens, InTimeJoins.{Always, IsBy, IsReady, time_at}}, proofs.Timed.run_is_timed}
use Rattle.law_converges.{specs.{JoinedWays.AreTogether, Past.{ArePast, HoldsPast}}}

-- ---- of options and numbers

pub record Found (A : Type 0) (p : A → Bool) (o : Option A) : Type 0 where
  pub it : A
  pub is : o ≡ Some it
  pub passes : p it ≡ true

pub found : (A : Type 0) (p : A → Bool) (o : Option A) → option_map_or p o false ≡ true → Found A p o
found A p None e = cc e
found A p (Some x) e = record { it = x; is = refl; passes = e }

pub each_found : {A : Type 0} (p : A → Bool) (o : Option A) (x : A) → option_map_or p o true ≡ true → o ≡ Some x → p x ≡ true
each_found {A} p o x e is = subst (λ (o : Option A). option_map_or p o true ≡ true) is e

pub both : {a b : Bool} → (a && b) ≡ true → (a ≡ true) × (b ≡ true)
both {a} {b} e = (first_so a b e, second_so a b e)

-- two tests, each of which has passed
pub then : {a b : Bool} {P : Type 0} → (a && b) ≡ true → (a ≡ true → b ≡ true → P) → P
then {a} {b} e f = f (first_so a b e) (second_so a b e)

pub both_true : {a b : Bool} → a ≡ true → b ≡ true → (a && b) ≡ true
both_true e f = cc

pub on_so : {b : Bool} → not b ≡ false → b ≡ true
on_so e = grind arith

pub le_so : (a b : ℕ) → nat_le a b ≡ true → a ≤ b
le_so a b e = grind (arith, nat_tests)

pub lt_so : (a b : ℕ) → nat_lt a b ≡ true → a < b
lt_so a b e = grind (arith, nat_tests)

pub off_so : (b : Bool) → not b ≡ true → b ≡ false
off_so b e = grind arith

pub same_so : (o : Option ℕ) (n : ℕ) → same_option o (Some n) ≡ true → o ≡ Some n
same_so None n e = cc e
same_so (Some a) n e = ap Some (eqb-true a n e)

same_itself : (n : ℕ) → (n == n) ≡ true
same_itself n = eq-eqb n n refl

-- where the first holds the second does
pub if_so : (a b : Bool) → (not a || b) ≡ true → a ≡ true → b ≡ true
if_so a b e f = grind arith

-- the other, computed only where the one isn't so

abbrev pub or_else : Bool → (Unit {0} → Bool) → Bool
or_else true f = true
or_else false f = f tt

-- ---- a run

-- a test of each network, and one of each move with the networks before and after it and the moves that follow
abbrev pub run_test : (Network → Bool) → (Network → Move → Network → List Move → Bool) → Network → List Move → Bool
run_test p t n [] = p n
run_test p t n (m ∷ ms) = p n && (λ (next : Network). t n m next ms && run_test p t next ms) (moved n m).1

module _ (p : Network → Bool) (t : Network → Move → Network → List Move → Bool) where
  pub always_so : (P : Network → Type 0) → ((n : Network) → p n ≡ true → P n) → (ms : List Move) (n : Network)
      → run_test p t n ms ≡ true → Always P n ms
  always_so P so [] n e = so n e
  always_so P so (m ∷ ms) n e =
      (so n (first_so (p n) _ e), always_so P so ms (moved n m).1 (second_so (t n m (moved n m).1 ms) _ (second_so (p n) _ e)))

  -- something of moves, by a move and the rest
  pub moves_so : (T : Network → List Move → Type 0) → ((n : Network) → T n [])
      → ((n : Network) (m : Move) (ms : List Move) → t n m (moved n m).1 ms ≡ true → T (moved n m).1 ms → T n (m ∷ ms))
      → (ms : List Move) (n : Network) → run_test p t n ms ≡ true → T n ms
  moves_so T none one [] n e = none n
  moves_so T none one (m ∷ ms) n e =
      one n m ms (first_so (t n m (moved n m).1 ms) _ (second_so (p n) _ e))
      (moves_so T none one ms (moved n m).1 (second_so (t n m (moved n m).1 ms) _ (second_so (p n) _ e)))

-- ---- the event of a move

pub event_at : (n : Network) (r : ℕ) (st : Station) (e : Event) → station_at n r ≡ Some st → event_of n (At r e) ≡ Some (r, e)
unfolding event_of
event_at n r st e at = rw at refl

pub delivered_event : (n : Network) (r i k draw link : ℕ) (bytes : List ℕ) (st : Station) → station_at n r ≡ Some st
    → slice_get st.links i ≡ Some link → frame_at n k ≡ Some (record { link = Some link; bytes = bytes })
    → event_of n (Deliver r i k draw) ≡ Some (r, (let e : Event = record { draw = draw; kind = EventKind.Frame (record { number = i }) bytes } in e))
unfolding event_of
delivered_event n r i k draw link bytes st at linked there = rw (at, there, linked, eq-eqb link link refl) refl

pub same_event : {o : Option (ℕ × Event)} {r : ℕ} {a b : Event} → o ≡ Some (r, a) → o ≡ Some (r, b) → a ≡ b
same_event e f = grind arith

pub not_at : (n : Network) (m : Move) (r q : ℕ) (e : Event) → event_of n m ≡ Some (q, e) → (q ≡ r → ⊥) → (x : Event) → event_of n m ≡ Some (r, x) → ⊥
not_at n m r q e is off x at = off (first_same (event_of n m) is at)
  where
    first_same : (o : Option (ℕ × Event)) → o ≡ Some (q, e) → o ≡ Some (r, x) → q ≡ r
    first_same o f g = grind arith

-- ---- an event at a router

-- nothing of a kind happens at the router by the move
abbrev pub happens_not : ℕ → (State → Option Accepted → Bool) → Network → Move → Bool
happens_not r q n m =
    option_map_or (λ (x : ℕ × Event). not (x.0 == r)
    || option_map_or (λ (st : Station). not (q st.state (done_as (happens st.state x.1)))) (station_at n r) true) (event_of n m) true

pub not_so : (r : ℕ) (q : State → Option Accepted → Bool) (n : Network) (m : Move) → happens_not r q n m ≡ true
    → (e : Event) (st : Station) → event_of n m ≡ Some (r, e) → station_at n r ≡ Some st
    → q st.state (done_as (happens st.state e)) ≡ false
not_so r q n m f e st ev at =
    off_so (q st.state (done_as (happens st.state e)))
    (each_found (λ (st : Station). not (q st.state (done_as (happens st.state e)))) (station_at n r) st
    (if_so (r == r) _ (each_found (λ (x : ℕ × Event). not (x.0 == r)
    || option_map_or (λ (st : Station). not (q st.state (done_as (happens st.state x.1)))) (station_at n r) true) (event_of n m) (r, e) f ev)
    (same_itself r)) at)

-- ---- time

module _ (started : ℕ → ℕ) where
  abbrev pub is_by : (r moment : ℕ) → Network → Bool
  is_by r moment n = option_map_or (λ (st : Station). nat_le (time_at started r st) moment) (station_at n r) true

  pub by_so : (r moment : ℕ) (n : Network) → is_by r moment n ≡ true → IsBy started r moment n
  by_so r moment n e st at =
      le_so (time_at started r st) moment
      (each_found (λ (st : Station). nat_le (time_at started r st) moment) (station_at n r) st e at)

  -- something comes while the time at a router isn't past a bound, if the moves go so far
  module _ (comes : Network → Move → Bool) (r limit : ℕ) where
    abbrev pub comes_by : Network → List Move → Bool
    comes_by n [] = true
    comes_by n (m ∷ ms) =
        or_else (comes n m) (λ u. (λ (next : Network). is_by r limit next && comes_by next ms) (moved n m).1)

    pub comes_so : (T : Network → List Move → Type 0) → ((n : Network) → T n [])
        → ((n : Network) (m : Move) (ms : List Move) → comes n m ≡ true → T n (m ∷ ms))
        → ((n : Network) (m : Move) (ms : List Move) → IsBy started r limit (moved n m).1 → T (moved n m).1 ms → T n (m ∷ ms))
        → (ms : List Move) (n : Network) → comes_by n ms ≡ true → T n ms
    comes_so T none here later [] n e = none n
    comes_so T none here later (m ∷ ms) n e =
        first_or (comes n m) refl e
        (λ f. later n m ms (by_so r limit (moved n m).1 (first_so (is_by r limit (moved n m).1) _ f))
        (comes_so T none here later ms (moved n m).1 (second_so (is_by r limit (moved n m).1) _ f)))
      where
        Rest : Bool
        Rest = (λ (next : Network). is_by r limit next && comes_by next ms) (moved n m).1

        first_or : (b : Bool) → comes n m ≡ b → or_else b (λ u. Rest) ≡ true → (Rest ≡ true → T n (m ∷ ms)) → T n (m ∷ ms)
        first_or true is e f = here n m ms is
        first_or false is e f = f e

-- ---- frames

-- the move delivers a frame to an interface of a router
abbrev pub is_delivery : (r i number : ℕ) → Move → Bool
is_delivery r i number (At q e) = false
is_delivery r i number (Deliver q j k draw) = (q == r) && ((j == i) && (k == number))
is_delivery r i number (DeliverUnicast q k draw) = false

pub record Delivery (r i number : ℕ) (m : Move) : Type 0 where
  pub draw : ℕ
  pub is : m ≡ Deliver r i number draw

pub delivery_so : (r i number : ℕ) (m : Move) → is_delivery r i number m ≡ true → Delivery r i number m
delivery_so r i number (At q e) f = cc f
delivery_so r i number (DeliverUnicast q k draw) f = cc f
delivery_so r i number (Deliver q j k draw) f =
    let g : ((q == r) ≡ true) × (((j == i) && (k == number)) ≡ true) = both f in
    let h : ((j == i) ≡ true) × ((k == number) ≡ true) = both g.1 in
    record { draw = draw; is = same (eqb-true q r g.0) (eqb-true j i h.0) (eqb-true k number h.1) }
  where
    same : q ≡ r → j ≡ i → k ≡ number → Deliver q j k draw ≡ Deliver r i number draw
    same a b c = rw (a, b, c) refl

-- a test of each of the frames of a list, with its number
abbrev each_numbered : (ℕ → Sent → Bool) → ℕ → List Sent → Bool
each_numbered p k [] = true
each_numbered p k (f ∷ fs) = p k f && each_numbered p (suc k) fs

-- a test of each frame after the first ones
abbrev pub each_after : ℕ → (ℕ → Sent → Bool) → List Sent → Bool
each_after first p frames = each_numbered p (suc first) (drop first frames)

-- a test of each frame that is new
abbrev pub each_new : (ℕ → Sent → Bool) → Network → Network → Bool
each_new p n next = each_after (length n.frames) p next.frames

numbered_so : (p : ℕ → Sent → Bool) (b k : ℕ) (xs : List Sent) (f : Sent) → each_numbered p b xs ≡ true
    → slice_get xs k ≡ Some f → p (k + b) f ≡ true
numbered_so p b k [] f e got = cc got
numbered_so p b zero (x ∷ xs) f e got = subst (λ j. p j f ≡ true) (omega arith) (subst (λ y. p b y ≡ true) (same got) (first_so (p b x) _ e))
  where
    same : Some x ≡ Some f → x ≡ f
    same e = cc e
numbered_so p b (suc k) (x ∷ xs) f e got =
    subst (λ j. p j f ≡ true) (omega arith) (numbered_so p (suc b) k xs f (second_so (p b x) _ e) got)

dropped_so : (p : ℕ → Sent → Bool) (a b k : ℕ) (xs : List Sent) (f : Sent) → each_numbered p (a + b) (drop a xs) ≡ true → a ≤ k
    → slice_get xs k ≡ Some f → p (k + b) f ≡ true
dropped_so p zero b k xs f e le got =
    numbered_so p b k xs f (subst (λ j. each_numbered p j xs ≡ true) (omega arith) e) got
dropped_so p (suc a) b k [] f e le got = cc got
dropped_so p (suc a) b zero (x ∷ xs) f e le got = absurd (omega (arith, le))
dropped_so p (suc a) b (suc k) (x ∷ xs) f e le got =
    subst (λ j. p j f ≡ true) (omega arith)
    (dropped_so p a (suc b) k xs f (subst (λ j. each_numbered p j (drop a xs) ≡ true) (omega arith) e) (omega (arith, le)) got)

pub after_so : (first : ℕ) (p : ℕ → Sent → Bool) (n : Network) → each_after first p n.frames ≡ true → (number : ℕ) (f : Sent)
    → first < number → frame_at n number ≡ Some f → p number f ≡ true
unfolding frame_at
after_so first p n e zero f later got = absurd (omega (arith, later))
after_so first p n e (suc k) f later got =
    subst (λ j. p j f ≡ true) (omega arith)
    (dropped_so p first 1 k n.frames f
    (subst (λ j. each_numbered p j (drop first n.frames) ≡ true) (omega arith) e) (omega (arith, later)) got)

-- ---- frames that leave a router

-- the frame is on a link, of PIM (103) or of IGMP (2)
abbrev pub is_of_protocol : (link protocol : ℕ) → Sent → Bool
is_of_protocol link protocol f = same_option f.link (Some link) && same_option (slice_get f.bytes 9) (Some protocol)

pub of_protocol : (link protocol : ℕ) (bytes : List ℕ) → slice_get bytes 9 ≡ Some protocol
    → is_of_protocol link protocol (record { link = Some link; bytes = bytes }) ≡ true
of_protocol link protocol bytes is =
    both_true (eq-eqb link link refl) (subst (λ o. same_option o (Some protocol) ≡ true) (sym is) (eq-eqb protocol protocol refl))

-- a test of each frame of a protocol that a move makes a router send on a link; the router as it is then
abbrev pub told_test : (r link protocol : ℕ) → (Station → ℕ → Sent → Bool) → Network → Move → Network → Bool
told_test r link protocol p n m next =
    option_map_or (λ (x : ℕ × Event). or_else (not (x.0 == r)) (λ u. option_map_or (λ (st : Station).
    each_new (λ k f. or_else (not (is_of_protocol link protocol f)) (λ v. p st k f)) n next) (station_at next r) true)) (event_of n m) true

pub else_so : (b : Bool) (f : Unit {0} → Bool) → or_else (not b) f ≡ true → b ≡ true → f tt ≡ true
else_so true f e is = e
else_so false f e is = cc is

pub told_so : (r link protocol : ℕ) (p : Station → ℕ → Sent → Bool) (n : Network) (m : Move) (next : Network)
    → told_test r link protocol p n m next ≡ true → (e : Event) (st : Station) (number : ℕ) (bytes : List ℕ)
    → event_of n m ≡ Some (r, e) → station_at next r ≡ Some st → length n.frames < number
    → frame_at next number ≡ Some (record { link = Some link; bytes = bytes }) → slice_get bytes 9 ≡ Some protocol
    → p st number (record { link = Some link; bytes = bytes }) ≡ true
told_so r link protocol p n m next passed e st number bytes ev at later got is =
    else_so _ (λ v. p st number (record { link = Some link; bytes = bytes }))
    (after_so (length n.frames) (λ k f. or_else (not (is_of_protocol link protocol f)) (λ v. p st k f)) next
    (each_found (λ (st : Station). each_new (λ k f. or_else (not (is_of_protocol link protocol f)) (λ v. p st k f)) n next)
    (station_at next r) st
    (else_so (r == r) _ (each_found (λ (x : ℕ × Event). or_else (not (x.0 == r)) (λ u. option_map_or (λ (st : Station).
    each_new (λ k f. or_else (not (is_of_protocol link protocol f)) (λ v. p st k f)) n next) (station_at next r) true))
    (event_of n m) (r, e) passed ev) (eq-eqb r r refl)) at)
    number (record { link = Some link; bytes = bytes }) later got)
    (of_protocol link protocol bytes is)

-- ---- timers

module _ (d : ℕ) (started : ℕ → ℕ) where
  module _ {R : Type 0} (rows : State → Option R) (end : R → ℕ) (lower upper : ℕ) where
    -- the timer of a row of one router is at most d late, by the time at two routers
    abbrev pub late_test : Network → Network → Bool
    late_test n next = option_map_or (λ (st : Station). option_map_or (λ (row : R).
        is_by started lower (end row + started lower + d) next && is_by started upper (end row + started lower + d) next)
        (rows st.state) true) (station_at n lower) true

    pub late_so : (n next : Network) → late_test n next ≡ true → (st : Station) (row : R) → station_at n lower ≡ Some st
        → rows st.state ≡ Some row
        → IsBy started lower (end row + started lower + d) next × IsBy started upper (end row + started lower + d) next
    late_so n next e st row at is =
        then (each_found (λ (row : R).
        is_by started lower (end row + started lower + d) next && is_by started upper (end row + started lower + d) next) (rows st.state) row
        (each_found (λ (st : Station). option_map_or (λ (row : R).
        is_by started lower (end row + started lower + d) next && is_by started upper (end row + started lower + d) next)
        (rows st.state) true) (station_at n lower) st e at) is)
        (λ f g. (by_so started lower (end row + started lower + d) next f, by_so started upper (end row + started lower + d) next g))

-- ---- times at all routers

pub each_passes : (p : Station → Bool) (sts : List Station) → list_all p sts ≡ true → (r : ℕ) (st : Station) → slice_get sts r ≡ Some st
    → p st ≡ true
each_passes p [] e r st at = cc at
each_passes p (x ∷ xs) e zero st at = subst (λ y. p y ≡ true) (same at) (first_so _ _ e)
  where
    same : Some x ≡ Some st → x ≡ st
    same f = cc f
each_passes p (x ∷ xs) e (suc r) st at = each_passes p xs (second_so (p x) _ e) r st at

module _ (lag : ℕ) (started : ℕ → ℕ) (alike : (q r : ℕ) → started q ≡ started r) where
  abbrev pub together_at : Network → Bool
  together_at n =
      list_all (λ (a : Station). list_all (λ (b : Station). nat_le (a.state).present ((b.state).present + lag)) n.stations) n.stations

  together_so : (n : Network) → together_at n ≡ true → AreTogether lag started n
  unfolding station_at
  together_so n e q r a b at_q at_r =
      plus (a.state).present (b.state).present (started q) (started r)
      (le_so _ _ (each_passes (λ (b : Station). nat_le (a.state).present ((b.state).present + lag)) n.stations
      (each_passes (λ (a : Station). list_all (λ (b : Station). nat_le (a.state).present ((b.state).present + lag)) n.stations) n.stations e q a at_q) r b at_r))
      (alike q r)
    where
      plus : (p s u v : ℕ) → p ≤ s + lag → u ≡ v → p + u ≤ s + v + lag
      plus p s u v e f = omega (arith, e, f)

  abbrev pub together_test : Network → List Move → Bool
  together_test n ms = run_test together_at (λ n m next ms. true) n ms

  pub all_together : (n : Network) (ms : List Move) → together_test n ms ≡ true → Always (AreTogether lag started) n ms
  all_together n ms e = always_so together_at (λ n m next ms. true) (AreTogether lag started) together_so ms n e

pub ends_past : (started : ℕ → ℕ) (bound : ℕ) (P : Network → Type 0) (m : Move) (ms : List Move) (n : Network) → HoldsPast started bound P n (m ∷ ms)
    → ArePast started bound (network_ran n (m ∷ ms)).1 → P (network_ran n (m ∷ ms)).1
unfolding network_ran
ends_past started bound P m [] n f past = f.0 past
ends_past started bound P m (k ∷ ms) n f past = ends_past started bound P k ms (moved n m).1 f.1 past

module _ (started : ℕ → ℕ) (alike : (q r : ℕ) → started q ≡ started r) where
  -- the time at each station is past a bound
  abbrev pub past_test : ℕ → Network → Bool
  past_test bound n = list_all (λ (st : Station). nat_lt bound (time_at started 0 st)) n.stations

  pub past_so : (bound : ℕ) (n : Network) → past_test bound n ≡ true → ArePast started bound n
  unfolding station_at
  past_so bound n e r st at =
      subst (λ (t : ℕ). bound < (st.state).present + t) (alike 0 r)
      (lt_so _ _ (each_passes (λ (st : Station). nat_lt bound (time_at started 0 st)) n.stations e r st at))

-- ---- routers that are ready

-- a router of an accepted configuration is ready after any events
pub ready_by : (n : Network) (r : ℕ) (links : List ℕ) (c : Config) (events : List Event) → config_test c ≡ Ok tt
    → station_at n r ≡ Some (record { links = links; state = state_after (opening c) events }) → IsReady r n
ready_by n r links c events accepted there = record {
  station = record { links = links; state = state_after (opening c) events };
  there = there;
  at_rest = run_is_at_rest (opening c) events (opening_is_at_rest c accepted);
  timed = run_is_timed c events;
}
