-- Whether Prunes(S,G,rpt) and the Joins that override them are taken and seen as they are to be: tests, and that where they pass it is so.
use Rattle.std.{proofs.{Common.{◌≡◌, ◌∙◌, ℕ, zero, suc, ◌+◌, ◌-◌, ◌==◌, nat_le, nat_lt, not, ◌&&◌, Bool, true, false, List, [], length, Option, Some, None, refl, ap, subst, arith, eqb-true, eq-eqb}}, specs.{Cmp.{first_so, second_so}, Option.option_map_or, Prelude.slice_get}}
use Rattle.pim_ip.{specs.{Checksum.with_checksum, Ipv4.{header_text, is_unicast, pim_packet_text, source_address_of}}}
use Rattle.pim_types.{specs.{declared.{event.Event.Event, upstream.TreeState.TreeState}}}
use Rattle.pim_wire.{specs.{Encoded.pim_text, JoinPrunes.join_prune_text, declared.join_prune.EntryKind.EntryKind}}
use Rattle.pim_model.{specs.{declared.accepted.Accepted.Accepted, Cause.done_as, Desires.{rpf_rpt, tree_state}, Firing.{fire_instant, fire_once}, Full.is_full, Messages.entry, Neighbours.{effective_override_interval, is_neighbour, neighbour_count}, Network.{At, Deliver, DeliverUnicast, Move, Network, Sent, Station, event_of, frame_at, station_at}, State.{State, iface_count, is_own, is_up, my_address}, Step.step, Tables.{same_hop, same_option}, Timers.{Ending, next_due, timers}}}
use Rattle.law_streams.{specs.{Copies.happens, InTimeJoins.Always, Joins.{join_packet, join_value}}}
use Rattle.law_converges.{specs.{Carried.{EachMove, Traffic}, CarriedPrunes.{AreKnown, Brings, SeesPrune, TakesJoin, TakesPrune, Wish, WishKeeps}, LinkLosers.passes_throughout, LinkRpt.{AfterTurn, AtEachTurn, Throughout, WantsFrom, is_pruned_by, joins_source, override_packet, override_wait, prunes_source, sees_join}, LinkRptOrder.{IsOverride, Wire}}, proofs.{JoinTests.hop_so, KeepsTests.{above_none, bytes_so, delivered_so, delivery_test, same_bytes, when_so, when_test}, Tested.{Found, after_so, always_so, each_after, each_found, else_so, found, le_so, lt_so, moves_so, off_so, or_else, run_test, same_so, then}}}

-- ---- time that passes

module _ {S D E : Type 0} (next : S → Option D) (once : S → D → S × List E) (test : S → D → Bool) (Each : S → D → Type 0)
    (so : (s : S) (d : D) → test s d ≡ true → Each s d) where
  each_turn_so : (n : ℕ) (s : S) → passes_throughout next once test n s ≡ true → AtEachTurn next once Each n s
  unfolding passes_throughout
  each_turn_so zero s e = tt
  each_turn_so (suc n) s e = go (next s) e (λ d. each_turn_so n (once s d).0)
    where
      go : (o : Option D) → option_map_or (λ d. test s d && passes_throughout next once test n (once s d).0) o true ≡ true
          → ((d : D) → passes_throughout next once test n (once s d).0 ≡ true → AtEachTurn next once Each n (once s d).0)
          → AfterTurn next once Each (λ t. AtEachTurn next once Each n t) s o
      go None e rest = tt
      go (Some d) e rest = (so s d (first_so (test s d) _ e), rest d (second_so (test s d) _ e))

module _ (p : State → Bool) (P : State → Type 0) (so : (s : State) → p s ≡ true → P s) where
  abbrev instant_test : (w : ℕ) → State → Ending → Bool
  instant_test w t e = passes_throughout (next_due e.end) (fire_once w) (λ u d. p (fire_once w u d).0) (length (timers t) + 1) t

  abbrev throughout_test : State → Event → Option Accepted → Bool
  throughout_test s e (Some (Accepted.Advance moment)) =
      passes_throughout (next_due moment) (fire_instant e.draw) (instant_test e.draw) (moment + 2 - s.present) s && p (step s e).state
  throughout_test s e a = p (step s e).state

  throughout_so : (s : State) (e : Event) (a : Option Accepted) → throughout_test s e a ≡ true → Throughout P s e a
  throughout_so s e (Some (Accepted.Advance moment)) f = (
    each_turn_so (next_due moment) (fire_instant e.draw) (instant_test e.draw) _
        (λ t x g. each_turn_so (next_due x.end) (fire_once e.draw) (λ u d. p (fire_once e.draw u d).0) (λ u d. P (fire_once e.draw u d).0)
        (λ u d h. so (fire_once e.draw u d).0 h) (length (timers t) + 1) t g) (moment + 2 - s.present) s (first_so _ _ f),
    so (step s e).state (second_so _ _ f),
  )
  throughout_so s e None f = so (step s e).state f
  throughout_so s e (Some a) f = so (step s e).state f

module _ (t : Traffic) (link : ℕ) (w : Wish) (x : Wire) where
  abbrev low : ℕ
  low = (x.pair).lower

  abbrev up : ℕ
  up = (x.pair).upper

  abbrev iface : ℕ
  iface = ((x.pair).hop).iface.number

  abbrev down : ℕ
  down = (x.pair).down

  -- ---- what the upper one takes

  abbrev prunes_message : Station → Option Accepted → Bool
  prunes_message st (Some (Accepted.JoinPruneToMe j m)) =
      (j.number == down) && (prunes_source down x.group x.source m && (not (joins_source st.state down x.group x.source m)
      && (not (m.holdtime == 0) && (nat_lt 1 (neighbour_count st.state down) && nat_le (x.propagation + x.interval) (override_wait st.state down)))))
  prunes_message st a = false

  abbrev takes_prune : Network → Move → Bool
  takes_prune n m = option_map_or (λ (e : ℕ × Event). (e.0 == up) && option_map_or (λ (st : Station).
      prunes_message st (done_as (happens st.state e.1))) (station_at n up) false) (event_of n m) false

  takes_prune_so : (n : Network) (m : Move) → takes_prune n m ≡ true → TakesPrune x n m
  takes_prune_so n m e =
      let f : Found (ℕ × Event) _ (event_of n m) = found (ℕ × Event) _ (event_of n m) e in
      then f.passes (λ at e.
      let h : Found Station _ (station_at n up) = found Station _ (station_at n up) e in
      taken f.it f.is (eqb-true (f.it).0 up at) h.it h.is (done_as (happens (h.it).state (f.it).1)) refl h.passes)
    where
      taken : (e : ℕ × Event) → event_of n m ≡ Some e → e.0 ≡ up → (st : Station) → station_at n up ≡ Some st → (o : Option Accepted)
          → done_as (happens st.state e.1) ≡ o → prunes_message st o ≡ true → TakesPrune x n m
      taken e is same st at None done f = cc f
      taken e is same st at (Some (Accepted.JoinPruneToMe j msg)) done f =
          then f (λ on f. then f (λ named f. then f (λ unjoined f. then f (λ lasts f. then f (λ many waits. record {
            station = st;
            at = at;
            event = e.1;
            brought = is ∙ ap (λ r. Some (r, e.1)) same;
            message = msg;
            taken = done ∙ ap (λ i. Some (Accepted.JoinPruneToMe (record { number = i }) msg)) (eqb-true j.number down on);
            named = named;
            unjoined = off_so _ unjoined;
            lasts = off_so _ lasts;
            many = many;
            waits = le_so _ _ waits;
          })))))
      taken e is same st at (Some a) done f = grind arith

  -- a Join(S,G,rpt) to the upper one, on the link
  abbrev override_from : Sent → ℕ
  override_from f = source_address_of f.bytes

  abbrev is_override : Sent → Bool
  is_override f =
      same_option f.link (Some (x.pair).link) && (is_unicast (override_from f)
      && same_bytes f.bytes (override_packet x.group x.source (x.pair).hop (override_from f)))

  override_is : (n : Network) (k : ℕ) (f : Sent) → frame_at n k ≡ Some f → is_override f ≡ true
      → frame_at n k ≡ Some (record { link = Some (x.pair).link; bytes = override_packet x.group x.source (x.pair).hop (override_from f) })
  override_is n k f got e =
      then e (λ on e. then e (λ host same. got ∙ ap (λ (y : Sent). Some y)
      (record_so f (Some (x.pair).link) (override_packet x.group x.source (x.pair).hop (override_from f)) (same_so _ _ on) (bytes_so _ _ same))))
    where
      record_so : (f : Sent) (l : Option ℕ) (bs : List ℕ) → f.link ≡ l → f.bytes ≡ bs → f ≡ record { link = l; bytes = bs }
      record_so f l bs a b = λ y. record { link = a y; bytes = b y }

  of_host : (f : Sent) → is_override f ≡ true → is_unicast (override_from f) ≡ true
  of_host f e = first_so _ _ (second_so (same_option f.link (Some (x.pair).link)) _ e)

  abbrev hears_join : ℕ → Station → Bool
  hears_join from st =
      nat_lt down (iface_count st.state) && (is_up st.state down && (is_neighbour st.state down from && (not (is_own st.state from)
      && ((my_address st.state down == ((x.pair).hop).address.bits) && (same_option (slice_get st.links down) (Some (x.pair).link)
      && not (is_full st.state (Accepted.JoinPruneToMe (record { number = down })
      (join_value ((x.pair).hop).address.bits x.group (entry EntryKind.SourceRpt x.source) []))))))))

  abbrev takes_join : Network → ℕ → Bool
  takes_join n k = option_map_or (λ (f : Sent). is_override f && option_map_or (hears_join (override_from f)) (station_at n up) false) (frame_at n k) false

  takes_join_so : (n : Network) (k : ℕ) → takes_join n k ≡ true → TakesJoin x n k
  takes_join_so n k e =
      let f : Found Sent _ (frame_at n k) = found Sent _ (frame_at n k) e in
      then f.passes (λ is heard.
      let h : Found Station (hears_join (override_from f.it)) (station_at n up) = found Station (hears_join (override_from f.it)) (station_at n up) heard in
      then h.passes (λ configured e. then e (λ up e. then e (λ neighbour e. then e (λ other e. then e (λ own e. then e (λ linked room. record {
        override = record { from = override_from f.it; is = override_is n k f.it f.is is };
        station = h.it;
        at = h.is;
        of_host = of_host f.it is;
        hears = record { configured = lt_so _ _ configured; up = up; neighbour = neighbour; other = off_so _ other };
        own = eqb-true _ _ own;
        linked = same_so _ _ linked;
        room = off_so _ room;
      })))))))

  -- ---- what the lower one sees

  abbrev seen_message : Station → Option Accepted → Bool
  seen_message st (Some (Accepted.JoinPruneSeen j m)) =
      (j.number == iface) && ((m.upstream == ((x.pair).hop).address.bits) && (prunes_source iface x.group x.source m
      && (not (joins_source st.state iface x.group x.source m) && nat_le (effective_override_interval st.state iface) x.interval)))
  seen_message st a = false

  abbrev sees_prune : Network → Move → Bool
  sees_prune n m = option_map_or (λ (e : ℕ × Event). (e.0 == low) && option_map_or (λ (st : Station).
      seen_message st (done_as (happens st.state e.1))) (station_at n low) false) (event_of n m) false

  sees_prune_so : (n : Network) (m : Move) → sees_prune n m ≡ true → SeesPrune x n m
  sees_prune_so n m e =
      let f : Found (ℕ × Event) _ (event_of n m) = found (ℕ × Event) _ (event_of n m) e in
      then f.passes (λ at e.
      let h : Found Station _ (station_at n low) = found Station _ (station_at n low) e in
      seen f.it f.is (eqb-true (f.it).0 low at) h.it h.is (done_as (happens (h.it).state (f.it).1)) refl h.passes)
    where
      seen : (e : ℕ × Event) → event_of n m ≡ Some e → e.0 ≡ low → (st : Station) → station_at n low ≡ Some st → (o : Option Accepted)
          → done_as (happens st.state e.1) ≡ o → seen_message st o ≡ true → SeesPrune x n m
      seen e is same st at None done f = cc f
      seen e is same st at (Some (Accepted.JoinPruneSeen j msg)) done f =
          then f (λ on f. then f (λ to f. then f (λ named f. then f (λ unjoined interval. record {
            station = st;
            at = at;
            event = e.1;
            brought = is ∙ ap (λ r. Some (r, e.1)) same;
            message = msg;
            taken = done ∙ ap (λ i. Some (Accepted.JoinPruneSeen (record { number = i }) msg)) (eqb-true j.number iface on);
            to = to;
            named = named;
            unjoined = off_so _ unjoined;
            interval = le_so _ _ interval;
          }))))
      seen e is same st at (Some a) done f = grind arith

  -- ---- which frames there are

  abbrev brings_test : (ℕ → Bool) → (r i : ℕ) → Move → Bool
  brings_test frames r i (At q e) = false
  brings_test frames r i (DeliverUnicast q k draw) = false
  brings_test frames r i (Deliver q j k draw) = (q == r) && ((j == i) && frames k)

  brings_so : (frames : ℕ → Bool) (r i : ℕ) (m : Move) → brings_test frames r i m ≡ true → Brings frames r i m
  brings_so frames r i (At q e) f = cc f
  brings_so frames r i (DeliverUnicast q k draw) f = cc f
  brings_so frames r i (Deliver q j k draw) f =
      then f (λ router f. then f (λ on among. record {
        number = k;
        draw = draw;
        is = same (eqb-true _ _ router) (eqb-true _ _ on);
        among = among;
      }))
    where
      same : q ≡ r → j ≡ i → Deliver q j k draw ≡ Deliver r i k draw
      same a b = rw (a, b) refl

  abbrev of_frames : (ℕ → Bool) → (ℕ → Bool) → ℕ → ℕ → Bool
  of_frames frames p k draw = or_else (not (frames k)) (λ u. p k)

  framed_so : (frames p : ℕ → Bool) (r i : ℕ) (m : Move) → delivery_test r i (of_frames frames p) m ≡ true → (f : Brings frames r i m)
      → p f.number ≡ true
  framed_so frames p r i m e f =
      else_so (frames f.number) (λ u. p f.number) (delivered_so r i (of_frames frames p) m e f.number f.draw f.is) f.among

  -- ---- the lower one wants the source

  abbrev is_not_pruned : TreeState → Bool
  is_not_pruned TreeState.NotPruned = true
  is_not_pruned a = false

  not_pruned_so : (a : TreeState) → is_not_pruned a ≡ true → a ≡ TreeState.NotPruned
  not_pruned_so TreeState.NotPruned e = refl
  not_pruned_so TreeState.Pruned e = cc e
  not_pruned_so TreeState.NotJoined e = cc e

  abbrev pub wants_state : State → Bool
  wants_state s =
      is_not_pruned (tree_state s x.group x.source) && (same_hop (rpf_rpt s x.group x.source) (Some (x.pair).hop)
      && (my_address s iface == (x.pair).from))

  abbrev Wanted : State → Type 0
  Wanted s = WantsFrom x.group x.source (x.pair).hop (x.pair).from s

  pub wants_state_so : (s : State) → wants_state s ≡ true → WantsFrom x.group x.source (x.pair).hop (x.pair).from s
  wants_state_so s e =
      then e (λ unpruned e. then e (λ towards own. record {
        unpruned = not_pruned_so _ unpruned;
        towards = hop_so _ _ towards;
        own = eqb-true _ _ own;
      }))

  abbrev wants_on : Network → Move → Bool
  wants_on n m = option_map_or (λ (e : ℕ × Event). or_else (not (e.0 == low)) (λ u. option_map_or (λ (st : Station).
      throughout_test wants_state Wanted wants_state_so st.state e.1 (done_as (happens st.state e.1))) (station_at n low) true)) (event_of n m) true

  -- ---- each move

  abbrev takes_override : Network → ℕ → Bool
  takes_override n k = option_map_or is_override (frame_at n k) false

  override_there : (n : Network) (k : ℕ) → takes_override n k ≡ true → IsOverride x n k
  override_there n k e = let f : Found Sent is_override (frame_at n k) = found Sent is_override (frame_at n k) e in
      record { from = override_from f.it; is = override_is n k f.it f.is f.passes }

  abbrev below_test : Network → Bool
  below_test n = option_map_or (λ (st : Station). same_option (slice_get st.links iface) (Some (x.pair).link)) (station_at n low) false

  abbrev wish_keeps : Network → Move → Bool
  wish_keeps n m =
      delivery_test up down (of_frames w.prunes (λ k. takes_prune n m)) m && (delivery_test up down (of_frames w.joins (λ k. takes_join n k)) m
      && (delivery_test low iface (of_frames w.prunes (λ k. sees_prune n m)) m && (delivery_test low iface (of_frames w.joins (λ k. takes_override n k)) m
      && (when_test up (λ s a. is_pruned_by down x.group x.source a) (brings_test w.prunes up down m) n m
      && (when_test low (λ s a. sees_join x.group x.source (x.pair).hop s a) (brings_test w.joins low iface m) n m
      && (below_test n && wants_on n m))))))

  wish_keeps_so : (n : Network) (m : Move) → wish_keeps n m ≡ true → WishKeeps w x n m
  wish_keeps_so n m e =
      then e (λ up_prune e. then e (λ up_join e. then e (λ low_prune e. then e (λ low_join e. then e (λ pruned e. then e (λ joined e. then e (λ below wants.
      let f : Found Station _ (station_at n low) = found Station (λ (st : Station). same_option (slice_get st.links iface) (Some (x.pair).link)) (station_at n low) below in record {
        upper_prune = λ b. takes_prune_so n m (framed_so w.prunes (λ k. takes_prune n m) up down m up_prune b);
        upper_join = λ b. takes_join_so n b.number (framed_so w.joins (λ k. takes_join n k) up down m up_join b);
        lower_prune = λ b. sees_prune_so n m (framed_so w.prunes (λ k. sees_prune n m) low iface m low_prune b);
        lower_join = λ b. override_there n b.number (framed_so w.joins (λ k. takes_override n k) low iface m low_join b);
        pruned = λ e st ev at is. brings_so w.prunes up down m
            (when_so up (λ s a. is_pruned_by down x.group x.source a) (brings_test w.prunes up down m) n m pruned e st ev at is);
        joined = λ e st ev at is. brings_so w.joins low iface m
            (when_so low (λ s a. sees_join x.group x.source (x.pair).hop s a) (brings_test w.joins low iface m) n m joined e st ev at is);
        below = f.it;
        below_is = f.is;
        wants = λ e st ev at. throughout_so wants_state Wanted wants_state_so st.state e (done_as (happens st.state e))
            (each_found (λ (st : Station). throughout_test wants_state Wanted wants_state_so st.state e (done_as (happens st.state e))) (station_at n low) st
            (else_so (low == low) _ (each_found (λ (e : ℕ × Event). or_else (not (e.0 == low)) (λ u. option_map_or (λ (st : Station).
            throughout_test wants_state Wanted wants_state_so st.state e.1 (done_as (happens st.state e.1))) (station_at n low) true))
            (event_of n m) (low, e) wants ev) (eq-eqb low low refl)) at);
        linked = λ st at. same_so _ _ (each_one (λ (st : Station). same_option (slice_get st.links iface) (Some (x.pair).link)) (station_at n low) st below at);
      })))))))
    where
      each_one : (p : Station → Bool) (o : Option Station) (st : Station) → option_map_or p o false ≡ true → o ≡ Some st → p st ≡ true
      each_one p o st e is = subst (λ (o : Option Station). option_map_or p o false ≡ true) is e

  -- ---- the frames that there are

  -- a frame that may be a Join(S,G,rpt): a Join/Prune on the link that joins one source, with the bits S and R
  abbrev may_override : Sent → Bool
  may_override f =
      same_option f.link (Some (x.pair).link) && (same_option (slice_get f.bytes 20) (Some 0x23) && (same_option (slice_get f.bytes 43) (Some 1)
      && same_option (slice_get f.bytes 48) (Some 5)))

  may_so : (from : ℕ) → may_override (record { link = Some (x.pair).link; bytes = override_packet x.group x.source (x.pair).hop from }) ≡ true
  unfolding join_packet pim_packet_text header_text with_checksum join_prune_text pim_text
  may_so from = all_so (eq-eqb (x.pair).link (x.pair).link refl)
    where
      all_so : {a : Bool} → a ≡ true → (a && (true && (true && true))) ≡ true
      all_so e = cc

  abbrev its_frame : ℕ → Sent
  its_frame from = record { link = Some (x.pair).link; bytes = override_packet x.group x.source (x.pair).hop from }

  abbrev prune_there : ℕ → Sent → Bool
  prune_there k f =
      same_option f.link (Some link) && (not (w.joins k) && (not (t.by k == (w.lower).router) && not (t.by k == (w.upper).router)))

  abbrev known_at : Network → Bool
  known_at n =
      each_after 0 (λ k f. or_else (not (w.prunes k)) (λ u. prune_there k f)) n.frames
      && each_after 0 (λ k f. or_else (not (may_override f)) (λ u. w.joins k && not (t.by k == (w.upper).router))) n.frames

  known_so : (n : Network) → known_at n ≡ true → AreKnown t link w x n
  known_so n e =
      then e (λ prunes joins. record {
        prunes = λ k f is got. then (else_so (w.prunes k) (λ u. prune_there k f)
            (after_so 0 (λ k f. or_else (not (w.prunes k)) (λ u. prune_there k f)) n prunes k f (above_none n k f got) got) is)
            (λ on e. then e (λ only e. then e (λ lower upper.
            record { on = same_so _ _ on; only = off_so _ only; not_lower = off_so _ lower; not_upper = off_so _ upper })));
        joins = λ k o. first_so (w.joins k) _ (joined joins k o);
        joins_by = λ k o. off_so _ (second_so (w.joins k) _ (joined joins k o));
      })
    where
      joined : each_after 0 (λ k f. or_else (not (may_override f)) (λ u. w.joins k && not (t.by k == (w.upper).router))) n.frames ≡ true → (k : ℕ)
          → (o : IsOverride x n k) → (w.joins k && not (t.by k == (w.upper).router)) ≡ true
      joined passed k o =
          else_so (may_override (its_frame o.from)) (λ u. w.joins k && not (t.by k == (w.upper).router))
          (after_so 0 (λ k f. or_else (not (may_override f)) (λ u. w.joins k && not (t.by k == (w.upper).router))) n passed k (its_frame o.from)
          (above_none n k (its_frame o.from) o.is) o.is)
          (may_so o.from)

  -- ---- both

  abbrev pub wish_test : Network → List Move → Bool
  wish_test n ms = run_test known_at (λ n m next ms. wish_keeps n m) n ms

  pub all_known : (n : Network) (ms : List Move) → wish_test n ms ≡ true → Always (AreKnown t link w x) n ms
  all_known n ms e = always_so known_at (λ n m next ms. wish_keeps n m) (AreKnown t link w x) known_so ms n e

  pub all_kept : (n : Network) (ms : List Move) → wish_test n ms ≡ true → EachMove (WishKeeps w x) n ms
  all_kept n ms e =
      moves_so known_at (λ n m next ms. wish_keeps n m) (EachMove (WishKeeps w x)) (λ n. tt) (λ n m ms e f. (wish_keeps_so n m e, f)) ms n e
