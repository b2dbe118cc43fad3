-- Joins of other routers that come as frames come to both.
use Rattle.std.{proofs.{Common.{◌≡◌, ◌∙◌, ℕ, zero, suc, ◌+◌, ◌<◌, ◌≤◌, ◌==◌, nat_lt, Bool, true, false, List, [], ◌∷◌, ◌⊎◌, inl, inr, length, Option, Some, refl, sym, ap, subst, arith, eq-eqb}, lemmas.{Bool.Decides.nat_tests}}, specs.Prelude.slice_get}
use Rattle.pim_types.{specs.declared.{event.{Event.Event, EventKind.EventKind}, path.Hop.Hop}, proofs.Keys.same_key_same}
use Rattle.pim_model.{specs.{declared.accepted.Accepted.Accepted, Cause.done_as, Downstream.is_named, Full.is_full, Network.{Move, Network, Sent, Station, event_of, frame_at, moved, station_at}, State.{State, is_up, my_address}, Step.step}}
use Rattle.law_settled.{proofs.Unsettled.{Unsettled, settling_leaves}}
use Rattle.law_events.{specs.Rest.IsAtRest}
use Rattle.law_streams.{specs.{Copies.happens, Joins.{Hears, HoldsTree, IsWritable, join_packet, join_value}, InTimeJoins.{Always, AreInTime, AreThere, ComesToBoth, HoldsTo, IsBy, IsHeldSoon, IsJoin, IsReady, IsRp, Join, Pair, entry_of, is_suppressed, join_key, prunes_it, prunes_of, time_at}, Shared.{AreOnLink, ComesFrom, FramesComeToBoth, IsAbove, IsSeenFrom, IsTakenFrom, JoinSuppresses, frame_from}}, proofs.{EndSoon.{change_present, no_later, there}, Walks.event_walks, Deliveries.{IsStepped, is_delivered}, Passes.done_if, ReadBack.join_is_seen, Pairs.{Steps, frame_stays, one_router, ready_then, same_station}, Upper.{join_event, joined_so, now_held, same_now, still_held}}}

-- ---- a Join of another is seen

module _ (x : Join) (g : ℕ) (hop : Hop) (s : State) (from draw : ℕ) (pruned : List ℕ) (isg : IsJoin x g) (known : IsRp x s g)
    (hears : Hears s hop.iface.number from) (other : (hop.address.bits == my_address s hop.iface.number) ≡ false)
    (writable : IsWritable from hop.address.bits g (entry_of x) (prunes_of pruned)) where
  abbrev its_event : Event
  its_event = record {
    draw = draw;
    kind = EventKind.Frame (record { number = hop.iface.number })
        (join_packet from hop.address.bits g (entry_of x) (prunes_of pruned));
  }

  abbrev its_value : Accepted
  its_value =
      Accepted.JoinPruneSeen (record { number = hop.iface.number }) (join_value hop.address.bits g (entry_of x) (prunes_of pruned))

  is_seen : done_as (happens s its_event) ≡ Some its_value
  unfolding is_full
  is_seen =
      done_if s its_event its_value
      (join_is_seen s hop.iface.number from hop.address.bits g (entry_of x) (prunes_of pruned) hears other writable) refl

  names_it : is_suppressed x s g hop (Some its_value) ≡ true
  unfolding is_named
  names_it = grind (arith, joined_so, same_key_same, eq-eqb)

  suppresses : is_suppressed x s g hop (done_as (happens s its_event)) ≡ true
  suppresses = ap (is_suppressed x s g hop) is_seen ∙ names_it

pub join_suppresses : JoinSuppresses
join_suppresses x g hop s from draw pruned isg known hears other writable =
    suppresses x g hop s from draw pruned isg known hears other writable

-- ---- time doesn't go back

pub present_later : (s : State) (e : Event) → s.present ≤ ((step s e).state).present
present_later s e =
    event_walks (λ t. s.present ≤ t.present) (λ o t. s.present ≤ t.present) s e (no_later s.present)
    (λ moment le. subst (λ (n : ℕ). s.present ≤ n) (sym (there s e.draw moment)) le)
    (λ a is. subst (λ (n : ℕ). s.present ≤ n) (sym (change_present s e.draw a)) (no_later s.present))
    (λ o c w f h. subst (λ (n : ℕ). s.present ≤ n) (sym (ap (λ (u : Unsettled). u.present) (settling_leaves o c w))) h)

-- ---- frames that there are

pub record Got (xs : List Sent) (k : ℕ) : Type 0 where
  pub frame : Sent
  pub is : slice_get xs k ≡ Some frame

pub got_below : (xs : List Sent) (k : ℕ) → k < length xs → Got xs k
got_below [] k lt = absurd (omega (arith, lt))
got_below (y ∷ xs) zero lt = record { frame = y; is = refl }
got_below (y ∷ xs) (suc k) lt = let later : Got xs k = got_below xs k (omega (arith, lt)) in record { frame = later.frame; is = later.is }

beyond : (xs : List Sent) (k : ℕ) (f : Sent) → length xs ≤ k → slice_get xs k ≡ Some f → ⊥
beyond [] k f le got = cc
beyond (y ∷ xs) zero f le got = omega (arith, le)
beyond (y ∷ xs) (suc k) f le got = beyond xs k f (omega (arith, le)) got

-- none has a number behind all
pub none_behind : (n : Network) (k : ℕ) (f : Sent) → length n.frames < k → frame_at n k ≡ Some f → ⊥
unfolding frame_at
none_behind n zero f lt got = omega (arith, lt)
none_behind n (suc k) f lt got = beyond n.frames k f (omega (arith, lt)) got

same_frame : {o : Option Sent} {a b : Sent} → o ≡ Some a → o ≡ Some b → a ≡ b
same_frame e f = grind arith

-- a frame that there was before a move
pub there_before : (n : Network) (m : Move) (k : ℕ) (f : Sent) → k ≤ length n.frames → frame_at (moved n m).1 k ≡ Some f → frame_at n k ≡ Some f
unfolding frame_at
there_before n m zero f le got = got
there_before n m (suc k) f le got =
    let old : Got n.frames k = got_below n.frames k (omega (arith, le)) in
    let same : old.frame ≡ f = same_frame (frame_stays n m (suc k) old.frame old.is) got in
    old.is ∙ ap (λ (y : Sent). Some y) same

first_of : (P : Network → Type 0) (n : Network) (ms : List Move) → Always P n ms → P n
first_of P n [] f = f
first_of P n (m ∷ ms) f = f.0

-- a router that hears the lower one
above_so : (x : Join) (g : ℕ) (c : Pair) (n : Network) → AreThere x g c n → IsAbove x g c n
above_so x g c n f = record {
  station = f.above;
  there = f.above_is;
  rp_known = (f.listens).rp_known;
  up = ((f.listens).hears).up;
  own = (f.listens).own;
  linked = (f.listens).linked;
}

pub all_above : (x : Join) (g : ℕ) (c : Pair) (ms : List Move) (n : Network) → Always (AreThere x g c) n ms → Always (IsAbove x g c) n ms
all_above x g c [] n f = above_so x g c n f
all_above x g c (m ∷ ms) n f = (above_so x g c n f.0, all_above x g c ms (moved n m).1 f.1)

-- ---- a frame to the upper one

module _ (join : Join) (g d : ℕ) (started sent : ℕ → ℕ) (c : Pair) (isg : IsJoin join g) (few : d < 75000) where
  abbrev By : ℕ → Network → Type 0
  By y n = IsBy started c.upper y n

  abbrev Holds : ℕ → Network → Type 0
  Holds l n = HoldsTo join g started c l n

  abbrev Comes : ℕ → ℕ → List ℕ → Network → List Move → Type 0
  Comes number from pruned n ms = ComesFrom join g d started c from pruned number (sent number) n ms

  by_before : (n : Network) (m : Move) (y : ℕ) → By y (moved n m).1 → By y n
  by_before n m y by st at = go (one_router n m c.upper st at)
    where
      before : (a b q : ℕ) → a ≤ b → b + q ≤ y → a + q ≤ y
      before a b q e f = omega (arith, e, f)

      go : (station_at (moved n m).1 c.upper ≡ Some st) ⊎ Steps n m c.upper st → time_at started c.upper st ≤ y
      go (inl same) = by st same
      go (inr w) =
          let after : State = (step st.state w.event).state in
          before (st.state).present after.present (started c.upper) (present_later st.state w.event)
          (by (record st { state = after }) (w.stepped).here)

  module _ (number from : ℕ) (pruned : List ℕ) (writable : IsWritable from (c.hop).address.bits g (entry_of join) (prunes_of pruned)) where
    module _ (n : Network) (m : Move) (here : IsAbove join g c n) (framed : frame_at n number ≡ Some (frame_from join g c from pruned))
        (t : IsTakenFrom join g started c from pruned number (sent number) n m) where
      abbrev u : State
      u = (here.station).state

      hears : Hears u c.down from
      hears = t.hears here.station here.there

      abbrev e : Event
      e = join_event join g isg u from (c.hop).address.bits c.down (t.taken).draw pruned here.rp_known hears
          here.own writable

      steps : IsStepped n c.upper here.station e (moved n m).1
      steps =
          subst (λ (k : Move). IsStepped n c.upper here.station e (moved n k).1) (sym (t.taken).is)
          (is_delivered n c.upper here.station c.down number (t.taken).draw c.link (frame_from join g c from pruned).bytes here.there
          here.linked framed)

      held_then : HoldsTree (step u e).state (join_key join c.down g) (Some (u.present + 210000))
      held_then =
          now_held join g isg u from (c.hop).address.bits c.down (t.taken).draw pruned here.rp_known hears
          here.own writable ((t.taken).room here.station here.there)

      present_then : ((step u e).state).present ≡ u.present
      present_then =
          same_now join g isg u from (c.hop).address.bits c.down (t.taken).draw pruned here.rp_known hears
          here.own writable ((t.taken).room here.station here.there)

      more : (a b q : ℕ) → a ≤ b + q → a + 210000 ≤ b + 210000 + q
      more a b q e = omega (arith, e)

      within : (a b : ℕ) → a ≡ b → a < b + 210000
      within a b e = omega (arith, e)

      taken_holds : Holds (sent number + 210000) (moved n m).1
      taken_holds = record {
        station = record here.station { state = (step u e).state };
        there = (steps).here;
        end = u.present + 210000;
        later = within ((step u e).state).present u.present present_then;
        holds = held_then;
        lasts = more (sent number) u.present (started c.upper) ((t.taken).after here.station here.there);
      }

      still_by : (y : ℕ) → By y n → By y (moved n m).1
      still_by y by z at =
          subst (λ (s : Station). time_at started c.upper s ≤ y) (same_station (steps).here at)
          (subst (λ (p : ℕ). p + started c.upper ≤ y) (sym present_then) (by here.station here.there))

    comes_soon : (ms : List Move) (n : Network) → Always (IsAbove join g c) n ms
        → frame_at n number ≡ Some (frame_from join g c from pruned) → By (sent number + d) n → Comes number from pruned n ms
        → IsHeldSoon join g d started c (sent number) n ms
    comes_soon [] n there framed by f = tt
    comes_soon (m ∷ ms) n there framed by f =
        go f (comes_soon ms (moved n m).1 there.1 (frame_stays n m number _ framed))
      where
        go : (IsTakenFrom join g started c from pruned number (sent number) n m
            ⊎ (By (sent number + d) (moved n m).1 × Comes number from pruned (moved n m).1 ms))
            → (By (sent number + d) (moved n m).1 → Comes number from pruned (moved n m).1 ms
            → IsHeldSoon join g d started c (sent number) (moved n m).1 ms)
            → IsHeldSoon join g d started c (sent number) n (m ∷ ms)
        go (inl t) later = (still_by n m there.0 framed t (sent number + d) by, inl (taken_holds n m there.0 framed t))
        go (inr (then, comes)) later = (then, inr (later then comes))

  -- ---- the upper one goes on holding it

  module _ (n : Network) (m : Move) (ready : IsReady c.upper n) (there : IsAbove join g c (moved n m).1)
      (unpruned : (e : Event) (st : Station) → event_of n m ≡ Some (c.upper, e) → station_at n c.upper ≡ Some st
      → prunes_it join g c.down (done_as (happens st.state e)) ≡ false)
      (q : ℕ) (by : By (q + d) (moved n m).1) (held : Holds (q + 210000) n) where
    abbrev above : Station
    above = held.station

    abbrev held_state : State
    held_state = (held.station).state

    rests_above : IsAtRest held_state
    rests_above = subst (λ (z : Station). IsAtRest z.state) (same_station ready.there held.there) ready.at_rest

    less : (a b p : ℕ) → a + p ≤ q + d → q + 210000 ≤ b + p → a < b
    less a b p e f = omega (arith, e, f, few)

    early : (z : Station) → station_at (moved n m).1 c.upper ≡ Some z → (z.state).present < held.end
    early z at = less (z.state).present held.end (started c.upper) (by z at) held.lasts

    stays_held : Holds (q + 210000) (moved n m).1
    stays_held = go (one_router n m c.upper above held.there)
      where
        go : (station_at (moved n m).1 c.upper ≡ Some above) ⊎ Steps n m c.upper above → Holds (q + 210000) (moved n m).1
        go (inl same) = record { station = above; there = same; end = held.end; later = held.later; holds = held.holds; lasts = held.lasts }
        go (inr w) =
            let z : Station = record above { state = (step held_state w.event).state } in
            let at : station_at (moved n m).1 c.upper ≡ Some z = (w.stepped).here in
            let up : is_up (step held_state w.event).state c.down ≡ true =
            subst (λ (v : Station). is_up v.state c.down ≡ true) (same_station there.there at) there.up in
            record {
              station = z;
              there = at;
              end = held.end;
              later = early z at;
              holds = still_held join held_state w.event g c.down held.end (rests_above).settled held.holds up (early z at)
                  (unpruned w.event above w.is held.there);
              lasts = held.lasts;
            }

  -- ---- each frame so far

  -- while the upper one's time isn't past d after it was sent, it is held, or comes
  abbrev Under : ℕ → ℕ → List ℕ → Network → List Move → Type 0
  Under number from pruned n ms = By (sent number + d) n → Holds (sent number + 210000) n ⊎ Comes number from pruned n ms

  abbrev pub Known : ℕ → Network → List Move → Type 0
  Known first n ms = (number from : ℕ) (pruned : List ℕ) → first < number
      → frame_at n number ≡ Some (frame_from join g c from pruned)
      → IsWritable from (c.hop).address.bits g (entry_of join) (prunes_of pruned) → Under number from pruned n ms

  not_below : (a b : ℕ) → nat_lt a b ≡ false → b ≤ a
  not_below a b e = grind (arith, nat_tests, e)

  is_below : (a b : ℕ) → nat_lt a b ≡ true → a < b
  is_below a b e = grind (arith, nat_tests, e)

  pub known_on : (first : ℕ) (n : Network) (m : Move) (ms : List Move) → IsReady c.upper n → Always (IsAbove join g c) n (m ∷ ms)
      → ((e : Event) (st : Station) → event_of n m ≡ Some (c.upper, e) → station_at n c.upper ≡ Some st
      → prunes_it join g c.down (done_as (happens st.state e)) ≡ false)
      → ((number from : ℕ) (pruned : List ℕ) → length n.frames < number → frame_at (moved n m).1 number ≡ Some (frame_from join g c from pruned)
      → IsWritable from (c.hop).address.bits g (entry_of join) (prunes_of pruned) → Comes number from pruned (moved n m).1 ms)
      → Known first n (m ∷ ms) → Known first (moved n m).1 ms
  known_on first n m ms ready there unpruned others known number from pruned later framed writable by =
      go (nat_lt (length n.frames) number) refl
    where
      goes_on : frame_at n number ≡ Some (frame_from join g c from pruned)
          → Holds (sent number + 210000) n ⊎ Comes number from pruned n (m ∷ ms)
          → Holds (sent number + 210000) (moved n m).1 ⊎ Comes number from pruned (moved n m).1 ms
      goes_on old (inl held) =
          inl (stays_held n m ready (first_of (IsAbove join g c) (moved n m).1 ms there.1) unpruned (sent number) by held)
      goes_on old (inr (inl t)) = inl (taken_holds number from pruned writable n m there.0 old t)
      goes_on old (inr (inr (then, comes))) = inr comes

      go : (b : Bool) → nat_lt (length n.frames) number ≡ b
          → Holds (sent number + 210000) (moved n m).1 ⊎ Comes number from pruned (moved n m).1 ms
      go true is = inr (others number from pruned (is_below (length n.frames) number is) framed writable)
      go false is =
          let old : frame_at n number ≡ Some (frame_from join g c from pruned) =
          there_before n m number (frame_from join g c from pruned) (not_below (length n.frames) number is) framed in
          goes_on old (known number from pruned later old writable (by_before n m (sent number + d) by))

  -- of the frames behind all none is there
  pub none_known : (n : Network) (ms : List Move) → Known (length n.frames) n ms
  none_known n ms number from pruned later framed writable = absurd (none_behind n number (frame_from join g c from pruned) later framed)

  module _ (first : ℕ) (n : Network) (m : Move) (ms : List Move) (there : Always (IsAbove join g c) (moved n m).1 ms)
      (known : Known first (moved n m).1 ms) (v : IsSeenFrom join g d started sent c first n m) where
    framed_then : frame_at (moved n m).1 v.number ≡ Some (frame_from join g c v.from v.pruned)
    framed_then = frame_stays n m v.number _ v.framed

    both : ComesToBoth join g d started c n m ms
    both = record {
      few = v.few;
      sent = sent v.number;
      seen = v.seen;
      after = v.after;
      comes = go (known v.number v.from v.pruned v.later framed_then v.writable v.by);
    }
      where
        go : Holds (sent v.number + 210000) (moved n m).1 ⊎ Comes v.number v.from v.pruned (moved n m).1 ms
            → Holds (sent v.number + 210000) (moved n m).1 ⊎ IsHeldSoon join g d started c (sent v.number) (moved n m).1 ms
        go (inl held) = inl held
        go (inr comes) = inr (comes_soon v.number v.from v.pruned v.writable ms (moved n m).1 there framed_then v.by comes)

  pub all_in_time : (first : ℕ) (ms : List Move) (n : Network) → IsReady c.upper n → Always (IsAbove join g c) n ms
      → AreOnLink join g d started sent c first n ms → Known first n ms → AreInTime join g d started c n ms
  all_in_time first [] n ready there f known = tt
  all_in_time first (m ∷ ms) n ready there f known =
      let later : Known first (moved n m).1 ms = known_on first n m ms ready there (f.0).unpruned (f.0).others known in (
        record {
          timer = (f.0).timer;
          joins = (f.0).joins;
          unpruned = (f.0).unpruned;
          shared = λ e st ev at is. both first n m ms there.1 later ((f.0).shared e st ev at is);
        },
        all_in_time first ms (moved n m).1 (ready_then c.upper n m ready) there.1 f.1 later,
      )

pub frames_come_to_both : FramesComeToBoth
frames_come_to_both x g d started sent c n ms isg few ready there f =
    all_in_time x g d started sent c isg few (length n.frames) ms n ready there f (none_known x g d started sent c isg few n ms)
