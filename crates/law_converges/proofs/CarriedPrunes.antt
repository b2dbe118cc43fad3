-- Where a link carries what is sent on it, Prunes(S,G,rpt) and the Joins that override them come in order.
use Rattle.std.{proofs.{Common.{Bool, List, Some, [], arith, false, inl, inr, length, nat_le, nat_lt, refl, subst, suc, sym, true, zero, ℕ, ◌+◌, ◌<◌, ◌==◌, ◌∙◌, ◌∷◌, ◌≡◌, ◌≤◌, ◌⊎◌}, lemmas.Bool.Decides.nat_tests}}
use Rattle.pim_types.{specs.{Keys.rpt_key, declared.{event.Event.Event, fact.OverrideTimerRow.OverrideTimerRow}}}
use Rattle.pim_model.{specs.{Cause.done_as, Network.{Deliver, Move, Network, Station, event_of, frame_at, moved, station_at}, Step.step, Tables.row_at}}
use Rattle.law_streams.{proofs.{Pairs.{Steps, one_router, same_station}, Shared.{Got, got_below, present_later, there_before}}, specs.{Copies.happens, InTimeJoins.{Always, IsBy, time_at}}}
use Rattle.law_converges.{proofs.{Carried.{Brought, IsCarriedOn, brings, came_here, carried_on, soon_first}, LinkJoins.first_of, LinkRptOrder.there_is, Prompt.override_end}, specs.{Carried.{AreSoon, Arrivals, ComesInTurn, EachMove, IsCarried, IsFor, Traffic, arrived}, CarriedPrunes.{AreKnown, Brings, SeesPrune, TakesJoin, TakesPrune, Wish, WishKeeps, wire_of}, LinkDr.{IsOne, Member}, LinkRpt.{is_pruned_by, sees_join}, LinkRptOrder.{AreInOrder, AreOnTime, Brings as AreBrought, GoesOn, IsInOrder, IsOverride, JoinComes, JoinIsSeen, PruneComes, PruneIsSeen, Wire}}}

-- ---- numbers

below_or : (a b : ℕ) → (a ≤ b) ⊎ (b < a)
below_or a b = go (nat_le a b) refl
  where
    le : nat_le a b ≡ true → a ≤ b
    le e = grind (arith, nat_tests, e)

    lt : nat_le a b ≡ false → b < a
    lt e = grind (arith, nat_tests, e)

    go : (c : Bool) → nat_le a b ≡ c → (a ≤ b) ⊎ (b < a)
    go true is = inl (le is)
    go false is = inr (lt is)

same_or : (a b : ℕ) → a ≤ b → (a ≡ b) ⊎ (a < b)
same_or a b le = go (nat_lt a b) refl
  where
    eq : nat_lt a b ≡ false → a ≡ b
    eq e = grind (arith, nat_tests, e, le)

    lt : nat_lt a b ≡ true → a < b
    lt e = grind (arith, nat_tests, e)

    go : (c : Bool) → nat_lt a b ≡ c → (a ≡ b) ⊎ (a < b)
    go true is = inr (lt is)
    go false is = inl (eq is)

no_more : (a b : ℕ) → a < b → b ≤ a → ⊥
no_more a b e f = omega (arith, e, f)

less : (a b z : ℕ) → a ≤ b → b < z → a < z
less a b z e f = omega (arith, e, f)

most : (a b z : ℕ) → a ≤ b → b ≤ z → a ≤ z
most a b z e f = omega (arith, e, f)

lt_le : (a b z : ℕ) → a < b → b ≤ z → a ≤ z
lt_le a b z e f = omega (arith, e, f)

same_le : {a b : ℕ} → a ≡ b → a ≤ b
same_le e = omega (arith, e)

is_both : (b : Bool) → b ≡ true → b ≡ false → ⊥
is_both b e f = cc (sym e ∙ f)

off_so : (b : Bool) → (b ≡ true → ⊥) → b ≡ false
off_so false f = refl
off_so true f = absurd (f refl)

-- a move delivers one frame
number_of : (r i k j a b : ℕ) (m : Move) → m ≡ Deliver r i k a → m ≡ Deliver r i j b → k ≡ j
number_of r i k j a b m e f = same (sym e ∙ f)
  where
    same : Deliver r i k a ≡ Deliver r i j b → k ≡ j
    same g = cc g

router_of : (r i q j k l a b : ℕ) (m : Move) → m ≡ Deliver r i k a → m ≡ Deliver q j l b → r ≡ q
router_of r i q j k l a b m e f = same (sym e ∙ f)
  where
    same : Deliver r i k a ≡ Deliver q j l b → r ≡ q
    same g = cc g

module _ (d late : ℕ) (started : ℕ → ℕ) (t : Traffic) (link : ℕ) (members : List Member) (first : ℕ) (w : Wish)
    (low_among : IsOne members w.lower) (up_among : IsOne members w.upper) (apart : ((w.lower).router == (w.upper).router) ≡ false) where
  abbrev x : Wire
  x = wire_of d late started t link w

  abbrev low : Member
  low = w.lower

  abbrev up : Member
  up = w.upper

  -- no Join has come to the upper one since a number, and no Prune to the lower one
  abbrev NoJoins : ℕ → Arrivals → Network → Type 0
  NoJoins u came n = (k : ℕ) → u < k → k ≤ came up.router up.iface → IsOverride x n k → ⊥

  abbrev NoPrunes : ℕ → Arrivals → Type 0
  NoPrunes l came = (k : ℕ) → l < k → k ≤ came low.router low.iface → w.prunes k ≡ true → ⊥

  pub record Since (u l : ℕ) (came : Arrivals) (n : Network) : Type 0 where
    up_by : u ≤ came up.router up.iface
    low_by : l ≤ came low.router low.iface
    no_joins : NoJoins u came n
    no_prunes : NoPrunes l came

  override_for : (n : Network) (k : ℕ) → AreKnown t link w x n → IsOverride x n k → IsFor t link up.router n k
  override_for n k known o = record { frame = _; is = o.is; on = refl; other = known.joins_by k o }

  prune_for : (n : Network) → AreKnown t link w x n → (k : ℕ) → 0 < k → k ≤ length n.frames → w.prunes k ≡ true → IsFor t link low.router n k
  unfolding frame_at
  prune_for n known zero some le is = absurd (omega (arith, some))
  prune_for n known (suc k) some le is =
      let f : Got n.frames k = got_below n.frames k (omega (arith, le)) in record {
        frame = f.frame;
        is = f.is;
        on = (known.prunes (suc k) f.frame is f.is).on;
        other = (known.prunes (suc k) f.frame is f.is).not_lower;
      }

  module _ (came : Arrivals) (n : Network) (m : Move) (ms : List Move) (on : IsCarriedOn d late started t came link members first n m ms)
      (known : AreKnown t link w x n) (then : AreKnown t link w x (moved n m).1) (keeps : WishKeeps w x n m) where
    abbrev came' : Arrivals
    came' = arrived came m

    came_is : (y : Member) (b : Brought y m) → arrived came m y.router y.iface ≡ b.number
    came_is y b = subst (λ (k : Move). arrived came k y.router y.iface ≡ b.number) (sym b.is) (came_here came y b.number b.draw)

    -- ---- at the upper one

    abbrev UpThen : (u u' : ℕ) → Type 0
    UpThen u u' = PruneComes x u u' n m ⊎ JoinComes x u u' n m ⊎ (((e : Event) (st : Station) → event_of n m ≡ Some (up.router, e)
        → station_at n up.router ≡ Some st → is_pruned_by up.iface w.group w.source (done_as (happens st.state e)) ≡ false) × (u' ≡ u))

    record Up (u : ℕ) : Type 0 where
      next : ℕ
      is : UpThen u next
      by : next ≤ came' up.router up.iface
      no_joins : NoJoins next came' (moved n m).1

    old_override : (k : ℕ) → k ≤ length n.frames → IsOverride x (moved n m).1 k → IsOverride x n k
    old_override k le o = record { from = o.from; is = there_before n m k _ le o.is }

    module _ (u : ℕ) (by : u ≤ came up.router up.iface) (no_joins : NoJoins u came n) where
      none_pruned : ((b : Brings w.prunes up.router up.iface m) → ⊥) → (e : Event) (st : Station) → event_of n m ≡ Some (up.router, e)
          → station_at n up.router ≡ Some st → is_pruned_by up.iface w.group w.source (done_as (happens st.state e)) ≡ false
      none_pruned off e st ev at = off_so _ (λ is. off (keeps.pruned e st ev at is))

      module _ (b : Brought up m) where
        turn : ComesInTurn started t link up came b.number n
        turn = (on.carries).1 up b.number b.draw up_among b.is

        there : b.number ≤ length n.frames
        there = there_is n b.number (turn.its).frame (turn.its).is

        later : u < b.number
        later = less u (came up.router up.iface) b.number by turn.later

        reached : arrived came m up.router up.iface ≡ b.number
        reached = came_is up b

        same_then : b.number ≤ came' up.router up.iface
        same_then = subst (λ (k : ℕ). b.number ≤ k) (sym reached) (omega arith)

        none_then : NoJoins b.number came' (moved n m).1
        none_then k lt le o = no_more b.number k lt (subst (λ (j : ℕ). k ≤ j) reached le)

        before_it : (k : ℕ) → u < k → k < b.number → IsOverride x n k → ⊥
        before_it k lt less o = old (below_or k (came up.router up.iface))
          where
            old : (k ≤ came up.router up.iface) ⊎ (came up.router up.iface < k) → ⊥
            old (inl le) = no_joins k lt le o
            old (inr gt) = turn.none_between k gt less (override_for n k known o)

        prune : w.prunes b.number ≡ true → Up u
        prune is =
            let f : TakesPrune x n m = keeps.upper_prune (record { number = b.number; draw = b.draw; is = b.is; among = is }) in record {
              next = b.number;
              is = inl (record {
                draw = b.draw;
                is = b.is;
                later = later;
                there = there;
                prunes = is;
                none_between = none_between;
                station = f.station;
                at = f.at;
                event = f.event;
                brought = f.brought;
                message = f.message;
                taken = f.taken;
                named = f.named;
                unjoined = f.unjoined;
                lasts = f.lasts;
                after = turn.after f.station f.at;
                many = f.many;
                waits = f.waits;
              });
              by = same_then;
              no_joins = none_then;
            }
          where
            none_between : (k : ℕ) → u < k → k ≤ b.number → IsOverride x n k → ⊥
            none_between k lt le o = or (same_or k b.number le)
              where
                or : (k ≡ b.number) ⊎ (k < b.number) → ⊥
                or (inr less) = before_it k lt less o
                or (inl same) =
                    is_both (w.joins b.number) (subst (λ (j : ℕ). w.joins j ≡ true) same (known.joins k o)) (known.prunes b.number (turn.its).frame is (turn.its).is).only

        join : w.joins b.number ≡ true → Up u
        join is =
            let f : TakesJoin x n b.number = keeps.upper_join (record { number = b.number; draw = b.draw; is = b.is; among = is }) in record {
              next = b.number;
              is = inr (inl (record {
                draw = b.draw;
                is = b.is;
                later = later;
                there = there;
                override = f.override;
                station = f.station;
                at = f.at;
                of_host = f.of_host;
                hears = f.hears;
                own = f.own;
                linked = f.linked;
                room = f.room;
              }));
              by = same_then;
              no_joins = none_then;
            }

        neither : w.prunes b.number ≡ false → w.joins b.number ≡ false → Up u
        neither off unjoined = record {
          next = u;
          is = inr (inr (
            none_pruned (λ c. is_both (w.prunes b.number)
                (subst (λ (j : ℕ). w.prunes j ≡ true) (number_of up.router up.iface c.number b.number c.draw b.draw m c.is b.is) c.among) off),
            refl,
          ));
          by = most u (came up.router up.iface) _ by (subst (λ (j : ℕ). came up.router up.iface ≤ j) (sym reached) (lt_le _ b.number _ turn.later (omega arith)));
          no_joins = λ k lt le o. still k lt (subst (λ (j : ℕ). k ≤ j) reached le) o;
        }
          where
            still : (k : ℕ) → u < k → k ≤ b.number → IsOverride x (moved n m).1 k → ⊥
            still k lt le o = or (same_or k b.number le) (old_override k (most k b.number _ le there) o)
              where
                or : (k ≡ b.number) ⊎ (k < b.number) → IsOverride x n k → ⊥
                or (inr less) o = before_it k lt less o
                or (inl same) o = is_both (w.joins b.number) (subst (λ (j : ℕ). w.joins j ≡ true) same (known.joins k o)) unjoined

      prunes_or : (b : Brought up m) → (p : Bool) → w.prunes b.number ≡ p → (j : Bool) → w.joins b.number ≡ j → Up u
      prunes_or b true is j isj = prune b is
      prunes_or b false is true isj = join b isj
      prunes_or b false is false isj = neither b is isj

      at_upper : Up u
      at_upper = go (brings came up m)
        where
          go : Brought up m ⊎ (arrived came m up.router up.iface ≡ came up.router up.iface) → Up u
          go (inl b) = prunes_or b (w.prunes b.number) refl (w.joins b.number) refl
          go (inr left) = record {
            next = u;
            is = inr (inr (none_pruned (λ c. left_not c), refl));
            by = subst (λ (j : ℕ). u ≤ j) (sym left) by;
            no_joins = λ k lt le o. (let le' : k ≤ came up.router up.iface = subst (λ (j : ℕ). k ≤ j) left le in
                no_joins k lt le' (old_override k (most k (came up.router up.iface) _ le' (on.behind up up_among)) o));
          }
            where
              left_not : Brings w.prunes up.router up.iface m → ⊥
              left_not c =
                  let b : Brought up m = record { number = c.number; draw = c.draw; is = c.is } in
                  no_more (came up.router up.iface) c.number ((on.carries).1 up c.number c.draw up_among c.is).later
                  (same_le (sym (came_is up b) ∙ left))

    -- ---- at the lower one

    abbrev LowThen : (l l' : ℕ) → Type 0
    LowThen l l' = PruneIsSeen x l l' n m ⊎ JoinIsSeen x l l' n m ⊎ (((e : Event) (st : Station) → event_of n m ≡ Some (low.router, e)
        → station_at n low.router ≡ Some st → sees_join w.group w.source (x.pair).hop st.state (done_as (happens st.state e)) ≡ false) × (l' ≡ l))

    record Low (l : ℕ) : Type 0 where
      next : ℕ
      is : LowThen l next
      by : next ≤ came' low.router low.iface
      no_prunes : NoPrunes next came'

    module _ (l : ℕ) (by : l ≤ came low.router low.iface) (no_prunes : NoPrunes l came) where
      none_joined : ((b : Brings w.joins low.router low.iface m) → ⊥) → (e : Event) (st : Station) → event_of n m ≡ Some (low.router, e)
          → station_at n low.router ≡ Some st → sees_join w.group w.source (x.pair).hop st.state (done_as (happens st.state e)) ≡ false
      none_joined off e st ev at = off_so _ (λ is. off (keeps.joined e st ev at is))

      module _ (b : Brought low m) where
        turn_low : ComesInTurn started t link low came b.number n
        turn_low = (on.carries).1 low b.number b.draw low_among b.is

        there_low : b.number ≤ length n.frames
        there_low = there_is n b.number (turn_low.its).frame (turn_low.its).is

        later_low : l < b.number
        later_low = less l (came low.router low.iface) b.number by turn_low.later

        reached_low : arrived came m low.router low.iface ≡ b.number
        reached_low = came_is low b

        same_low : b.number ≤ came' low.router low.iface
        same_low = subst (λ (k : ℕ). b.number ≤ k) (sym reached_low) (omega arith)

        none_low : NoPrunes b.number came'
        none_low k lt le is = no_more b.number k lt (subst (λ (j : ℕ). k ≤ j) reached_low le)

        before_low : (k : ℕ) → l < k → k < b.number → w.prunes k ≡ true → ⊥
        before_low k lt less is = old (below_or k (came low.router low.iface))
          where
            old : (k ≤ came low.router low.iface) ⊎ (came low.router low.iface < k) → ⊥
            old (inl le) = no_prunes k lt le is
            old (inr gt) = turn_low.none_between k gt less (prune_for n known k (omega (arith, lt)) (lt_le k b.number _ less there_low) is)

        seen_prune : w.prunes b.number ≡ true → Low l
        seen_prune is =
            let f : SeesPrune x n m = keeps.lower_prune (record { number = b.number; draw = b.draw; is = b.is; among = is }) in record {
              next = b.number;
              is = inl (record {
                draw = b.draw;
                is = b.is;
                later = later_low;
                there = there_low;
                none_between = λ k lt less. off_so (w.prunes k) (before_low k lt less);
                prunes = is;
                station = f.station;
                at = f.at;
                event = f.event;
                brought = f.brought;
                message = f.message;
                taken = f.taken;
                to = f.to;
                named = f.named;
                unjoined = f.unjoined;
                interval = f.interval;
              });
              by = same_low;
              no_prunes = none_low;
            }

        none_to : w.prunes b.number ≡ false → (k : ℕ) → l < k → k ≤ b.number → w.prunes k ≡ true → ⊥
        none_to off k lt le is = or (same_or k b.number le)
          where
            or : (k ≡ b.number) ⊎ (k < b.number) → ⊥
            or (inr less) = before_low k lt less is
            or (inl same) = is_both (w.prunes b.number) (subst (λ (j : ℕ). w.prunes j ≡ true) same is) off

        start : t.sent b.number ≤ time_at started low.router keeps.below
        start = turn_low.after keeps.below keeps.below_is

        more : (a c q s : ℕ) → a ≤ c → s ≤ a + q → s ≤ c + q
        more a c q s e f = omega (arith, e, f)

        after : (station_at (moved n m).1 low.router ≡ Some keeps.below) ⊎ Steps n m low.router keeps.below
            → (st : Station) → station_at (moved n m).1 low.router ≡ Some st → t.sent b.number ≤ time_at started low.router st
        after (inl same) st at = subst (λ (z : Station). t.sent b.number ≤ time_at started low.router z) (same_station same at) start
        after (inr s) st at =
            subst (λ (z : Station). t.sent b.number ≤ time_at started low.router z) (same_station (s.stepped).here at)
            (more ((keeps.below).state).present ((step (keeps.below).state s.event).state).present (started low.router) (t.sent b.number)
            (present_later (keeps.below).state s.event) start)

        seen_join : w.prunes b.number ≡ false → w.joins b.number ≡ true → Low l
        seen_join off is = record {
          next = b.number;
          is = inr (inl (record {
            draw = b.draw;
            is = b.is;
            later = later_low;
            there = there_low;
            none_between = λ k lt le. off_so (w.prunes k) (none_to off k lt le);
            override = keeps.lower_join (record { number = b.number; draw = b.draw; is = b.is; among = is });
            after = after (one_router n m low.router keeps.below keeps.below_is);
          }));
          by = same_low;
          no_prunes = none_low;
        }

        seen_neither : w.prunes b.number ≡ false → w.joins b.number ≡ false → Low l
        seen_neither off unjoined = record {
          next = l;
          is = inr (inr (
            none_joined (λ c. is_both (w.joins b.number)
                (subst (λ (j : ℕ). w.joins j ≡ true) (number_of low.router low.iface c.number b.number c.draw b.draw m c.is b.is) c.among) unjoined),
            refl,
          ));
          by = most l (came low.router low.iface) _ by (subst (λ (j : ℕ). came low.router low.iface ≤ j) (sym reached_low) (lt_le _ b.number _ turn_low.later (omega arith)));
          no_prunes = λ k lt le is. none_to off k lt (subst (λ (j : ℕ). k ≤ j) reached_low le) is;
        }

      seen_or : (b : Brought low m) → (p : Bool) → w.prunes b.number ≡ p → (j : Bool) → w.joins b.number ≡ j → Low l
      seen_or b true is j isj = seen_prune b is
      seen_or b false is true isj = seen_join b is isj
      seen_or b false is false isj = seen_neither b is isj

      at_lower : Low l
      at_lower = go (brings came low m)
        where
          go : Brought low m ⊎ (arrived came m low.router low.iface ≡ came low.router low.iface) → Low l
          go (inl b) = seen_or b (w.prunes b.number) refl (w.joins b.number) refl
          go (inr left) = record {
            next = l;
            is = inr (inr (none_joined (λ c. left_not c), refl));
            by = subst (λ (j : ℕ). l ≤ j) (sym left) by;
            no_prunes = λ k lt le is. no_prunes k lt (subst (λ (j : ℕ). k ≤ j) left le) is;
          }
            where
              left_not : Brings w.joins low.router low.iface m → ⊥
              left_not c =
                  let b : Brought low m = record { number = c.number; draw = c.draw; is = c.is } in
                  no_more (came low.router low.iface) c.number ((on.carries).1 low c.number c.draw low_among c.is).later
                  (same_le (sym (came_is low b) ∙ left))

    -- ---- both

    record Step (u l : ℕ) : Type 0 where
      order : IsInOrder x u l n m
      since : Since order.up_then order.low_then came' (moved n m).1

    not_both : {k j a b : ℕ} → m ≡ Deliver up.router up.iface k a → m ≡ Deliver low.router low.iface j b → ⊥
    not_both {k} {j} {a} {b} e f =
        let same : low.router ≡ up.router = router_of low.router low.iface up.router up.iface j k b a m f e in grind (arith, same, apart)

    brought : (u l u' l' : ℕ) → UpThen u u' → LowThen l l' → AreBrought x u l u' l' n m
    brought u l u' l' (inl f) (inl g) = absurd (not_both f.is g.is)
    brought u l u' l' (inl f) (inr (inl g)) = absurd (not_both f.is g.is)
    brought u l u' l' (inl f) (inr (inr g)) = inl (f, g.1)
    brought u l u' l' (inr (inl f)) (inl g) = absurd (not_both f.is g.is)
    brought u l u' l' (inr (inl f)) (inr (inl g)) = absurd (not_both f.is g.is)
    brought u l u' l' (inr (inl f)) (inr (inr g)) = inr (inl (f, g.1))
    brought u l u' l' (inr (inr f)) (inl g) = inr (inr (inl (g, f.1)))
    brought u l u' l' (inr (inr f)) (inr (inl g)) = inr (inr (inr (inl (g, f.1))))
    brought u l u' l' (inr (inr f)) (inr (inr g)) = inr (inr (inr (inr (record { unpruned = f.0; unjoined = g.0 }, f.1, g.1))))

    soon : AreSoon d started t link members came' (moved n m).1
    soon = soon_first d started t link members came' (moved n m).1 ms (on.carries).2

    on_time : (u l : ℕ) → NoJoins u came' (moved n m).1 → NoPrunes l came' → AreOnTime x u l (moved n m).1
    on_time u l no_joins no_prunes = record { joins = joins; prunes = prunes }
      where
        joins : (k : ℕ) → u < k → IsOverride x (moved n m).1 k → IsBy started up.router (t.sent k + d) (moved n m).1
        joins k lt o = or (below_or k (came' up.router up.iface))
          where
            or : (k ≤ came' up.router up.iface) ⊎ (came' up.router up.iface < k) → IsBy started up.router (t.sent k + d) (moved n m).1
            or (inl le) = absurd (no_joins k lt le o)
            or (inr gt) = soon up up k up_among up_among gt (override_for (moved n m).1 k then o)

        prunes : (k : ℕ) → l < k → k ≤ length ((moved n m).1).frames → w.prunes k ≡ true
            → IsBy started up.router (t.sent k + d) (moved n m).1 × IsBy started low.router (t.sent k + d) (moved n m).1
        prunes k lt le is = or (below_or k (came' low.router low.iface))
          where
            or : (k ≤ came' low.router low.iface) ⊎ (came' low.router low.iface < k)
                → IsBy started up.router (t.sent k + d) (moved n m).1 × IsBy started low.router (t.sent k + d) (moved n m).1
            or (inl le') = absurd (no_prunes k lt le' is)
            or (inr gt) =
                let its : IsFor t link low.router (moved n m).1 k = prune_for (moved n m).1 then k (omega (arith, lt)) le is in
                (soon low up k low_among up_among gt its, soon low low k low_among low_among gt its)

    goes_on : GoesOn x n m
    goes_on = record {
      wants = keeps.wants;
      linked = keeps.linked;
      sends = λ e st k ev at lt le. same_le (on.sent low.router e st k ev at lt le).0;
      timer = λ st row at is. (timely low.router st row at is, timely up.router st row at is);
    }
      where
        timely : (q : ℕ) (st : Station) (row : OverrideTimerRow) → station_at n low.router ≡ Some st
            → row_at (st.state).override_timers (rpt_key 0 w.group w.source) ≡ Some row
            → IsBy started q (row.end + started low.router + late) (moved n m).1
        timely q st row at is =
            override_end (λ (end : ℕ). IsBy started q (end + started low.router + late) (moved n m).1) st.state (on.prompt low.router q st at)
            (rpt_key 0 w.group w.source) row is

    steps : (u l : ℕ) → Since u l came n → Step u l
    steps u l s =
        let a : Up u = at_upper u s.up_by s.no_joins in
        let b : Low l = at_lower l s.low_by s.no_prunes in record {
          order = record {
            up_then = a.next;
            low_then = b.next;
            brings = brought u l a.next b.next a.is b.is;
            goes_on = goes_on;
            on_time = on_time a.next b.next a.no_joins b.no_prunes;
          };
          since = record { up_by = a.by; low_by = b.by; no_joins = a.no_joins; no_prunes = b.no_prunes };
        }

  orders : (ms : List Move) (n : Network) (came : Arrivals) (u l : ℕ) → IsCarried d late started t came link members first n ms
      → Always (AreKnown t link w x) n ms → EachMove (WishKeeps w x) n ms → Since u l came n → AreInOrder x u l n ms
  orders [] n came u l f known keeps s = tt
  orders (m ∷ ms) n came u l f known keeps s =
      let on : IsCarriedOn d late started t came link members first n m ms = carried_on d late started t link members first came n m ms f in
      let now : Step came n m ms on known.0 (first_of (AreKnown t link w x) (moved n m).1 ms known.1) keeps.0 u l =
      steps came n m ms on known.0 (first_of (AreKnown t link w x) (moved n m).1 ms known.1) keeps.0 u l s in
      (now.order, orders ms (moved n m).1 (arrived came m) (now.order).up_then (now.order).low_then on.rest known.1 keeps.1 now.since)

pub prunes_in_order : (d late : ℕ) (started : ℕ → ℕ) (t : Traffic) (came : Arrivals) (link : ℕ) (members : List Member) (w : Wish)
    → IsOne members w.lower → IsOne members w.upper → ((w.lower).router == (w.upper).router) ≡ false → (n : Network) (ms : List Move)
    → IsCarried d late started t came link members (length n.frames) n ms
    → Always (AreKnown t link w (wire_of d late started t link w)) n ms → EachMove (WishKeeps w (wire_of d late started t link w)) n ms
    → AreInOrder (wire_of d late started t link w) (length n.frames) (length n.frames) n ms
prunes_in_order d late started t came link members w low_among up_among apart n ms f known keeps =
    orders d late started t link members (length n.frames) w low_among up_among apart ms n came (length n.frames) (length n.frames) f known keeps
    (record {
      up_by = f.since w.upper up_among;
      low_by = f.since w.lower low_among;
      no_joins = λ k lt le o. no_more (length n.frames) k lt (most k _ _ le (f.behind w.upper up_among));
      no_prunes = λ k lt le is. no_more (length n.frames) k lt (most k _ _ le (f.behind w.lower low_among));
    })
