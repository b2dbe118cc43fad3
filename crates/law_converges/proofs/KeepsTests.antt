-- Whether the routers of a link hear what comes, and nothing ends that sooner, as CarriedNetworkSettles asks: tests, and that where
-- they pass it is so.
use Rattle.std.{proofs.{Common.{Bool, List, Option, Some, [], ap, arith, eq-eqb, eqb-true, false, inl, inr, length, nat_lt, not, refl, subst, suc, sym, true, zero, ℕ, ◌&&◌, ◌*◌, ◌+◌, ◌<◌, ◌==◌, ◌^◌, ◌||◌, ◌∙◌, ◌∷◌, ◌≡◌}, lemmas.Bool.Decides.nat_tests}, specs.{Cmp.{first_so, second_so}, List.{list_all, list_any}, Option.option_map_or}}
use Rattle.pim_ip.{specs.{Checksum.with_checksum, Ipv4.{header_text, is_unicast, pim_packet_text, source_address_of}}}
use Rattle.pim_types.{specs.declared.{config.Settings.Settings, event.Event.Event}}
use Rattle.byteorder.{specs.Numbers.big_number-reads_back}
use Rattle.pim_model.{specs.{Cause.done_as, Full.is_full, Neighbours.is_neighbour, Network.{At, Deliver, DeliverUnicast, Move, Network, Sent, Station, event_of, frame_at, moved, station_at}, State.{State, iface_count, is_own, is_up}, Tables.same_option, declared.accepted.Accepted.Accepted}}
use Rattle.law_streams.{proofs.Computed.prunes_nothing, specs.{Adjacent.{Adjacent, begins_or_ends}, Copies.happens, InTimeJoins.{IsReady, Join, Pair, entry_of, frame_of, is_suppressed, prunes_it, prunes_of}, Joins.{Hears, IsWritable, join_packet, join_value}, Shared.frame_from}}
use Rattle.law_converges.{proofs.{HelloTests.{alone_by, alone_then, apart_so, apart_test, forgets_so, forgets_test, greets_at, greets_first, greets_so, greets_test, hears_hello, known_lasts, one_of, shortens_known, stands_so, stands_test}, JoinTests.{is_join, join_is_join, join_is_pim}, QueryTests.{asks_so, asks_test, cuts_held, hears_query, held_lasts, leads_so, leads_test}, Tested.{Found, after_so, always_so, each_after, each_found, else_so, found, happens_not, is_of_protocol, le_so, lt_so, moves_so, not_so, of_protocol, off_so, or_else, run_test, same_so, then, told_so, told_test}}, specs.{Carried.{EachMove, Traffic}, CarriedLinks.{Ask, HearsHello, HearsJoins, HearsQuery, HelloKeeps, JoinKeeps, Meet, QueryKeeps, SeesJoin}, LinkDr.{AreOfMembers, IsOne, Member, Stands, between}, LinkQuerier.{Asks, KeepsLead, interval_of, takes_lead}, RoutesToRp.{IsAnother, JoinIsOfLan}, Settles.Joining}}

-- ---- a delivery

-- a test of what a move delivers to an interface, by the frame's number and the draw
abbrev pub delivery_test : (r i : ℕ) → (ℕ → ℕ → Bool) → Move → Bool
delivery_test r i p (At q e) = true
delivery_test r i p (DeliverUnicast q k draw) = true
delivery_test r i p (Deliver q j k draw) = or_else (not ((q == r) && (j == i))) (λ u. p k draw)

pub delivered_so : (r i : ℕ) (p : ℕ → ℕ → Bool) (m : Move) → delivery_test r i p m ≡ true → (k draw : ℕ) → m ≡ Deliver r i k draw
    → p k draw ≡ true
delivered_so r i p m e k draw is =
    else_so ((r == r) && (i == i)) (λ u. p k draw) (subst (λ (m : Move). delivery_test r i p m ≡ true) is e) (both (eq-eqb r r refl) (eq-eqb i i refl))
  where
    both : (r == r) ≡ true → (i == i) ≡ true → ((r == r) && (i == i)) ≡ true
    both e f = cc

-- ---- what happens at a router

-- where something of a kind happens at the router by the move, a test passes
abbrev pub when_test : ℕ → (State → Option Accepted → Bool) → Bool → Network → Move → Bool
when_test r q b n m = option_map_or (λ (e : ℕ × Event). or_else (not (e.0 == r)) (λ u. option_map_or (λ (st : Station).
    or_else (not (q st.state (done_as (happens st.state e.1)))) (λ v. b)) (station_at n r) true)) (event_of n m) true

pub when_so : (r : ℕ) (q : State → Option Accepted → Bool) (b : Bool) (n : Network) (m : Move) → when_test r q b n m ≡ true
    → (e : Event) (st : Station) → event_of n m ≡ Some (r, e) → station_at n r ≡ Some st → q st.state (done_as (happens st.state e)) ≡ true
    → b ≡ true
when_so r q b n m passed e st ev at is =
    else_so (q st.state (done_as (happens st.state e))) (λ v. b)
    (each_found (λ (st : Station). or_else (not (q st.state (done_as (happens st.state e)))) (λ v. b)) (station_at n r) st
    (else_so (r == r) _ (each_found (λ (e : ℕ × Event). or_else (not (e.0 == r)) (λ u. option_map_or (λ (st : Station).
    or_else (not (q st.state (done_as (happens st.state e.1)))) (λ v. b)) (station_at n r) true)) (event_of n m) (r, e) passed ev) (eq-eqb r r refl)) at) is

-- a frame has a number above 0
pub above_none : (n : Network) (number : ℕ) (f : Sent) → frame_at n number ≡ Some f → 0 < number
unfolding frame_at
above_none n zero f got = cc got
above_none n (suc k) f got = omega arith

-- ---- lists of numbers

abbrev pub same_bytes : List ℕ → List ℕ → Bool
same_bytes [] [] = true
same_bytes (x ∷ xs) (y ∷ ys) = (x == y) && same_bytes xs ys
same_bytes xs ys = false

pub bytes_so : (xs ys : List ℕ) → same_bytes xs ys ≡ true → xs ≡ ys
bytes_so [] [] e = refl
bytes_so (x ∷ xs) (y ∷ ys) e = both (eqb-true x y (first_so (x == y) _ e)) (bytes_so xs ys (second_so (x == y) _ e))
  where
    both : x ≡ y → xs ≡ ys → x ∷ xs ≡ y ∷ ys
    both a b = cc
bytes_so [] (y ∷ ys) e = cc e
bytes_so (x ∷ xs) [] e = cc e

-- ---- Hellos

module _ (d bound : ℕ) (started : ℕ → ℕ) where
  abbrev hello_keeps : Adjacent → Network → Move → Bool
  hello_keeps c n m =
      delivery_test c.upper c.down (λ k draw. option_map_or (hears_hello d bound started c 0) (station_at n c.upper) false) m
      && (happens_not c.lower (λ s a. begins_or_ends c.iface a) n m
      && (happens_not c.upper (λ s a. begins_or_ends c.down a) n m
      && happens_not c.upper (λ s a. shortens_known d bound started s c.down c.address a) n m))

  hello_keeps_so : (c : Adjacent) (n : Network) (m : Move) → hello_keeps c n m ≡ true → HelloKeeps c n m
  hello_keeps_so c n m e =
      then e (λ heard e. then e (λ sender e. then e (λ receiver lasts. record {
        hears = λ number draw is. go (found Station (hears_hello d bound started c 0) (station_at n c.upper) (delivered_so c.upper c.down
            (λ k draw. option_map_or (hears_hello d bound started c 0) (station_at n c.upper) false) m heard number draw is));
        sender_stays = not_so c.lower (λ s a. begins_or_ends c.iface a) n m sender;
        receiver_stays = not_so c.upper (λ s a. begins_or_ends c.down a) n m receiver;
        lengthens = λ e st end ev at holds.
            known_lasts d bound started st.state c.down c.address end (done_as (happens st.state e))
            (not_so c.upper (λ s a. shortens_known d bound started s c.down c.address a) n m lasts e st ev at) holds;
      })))
    where
      go : Found Station (hears_hello d bound started c 0) (station_at n c.upper) → HearsHello c n
      go g =
          then g.passes (λ linked e. then e (λ configured e. then e (λ up e. then e (λ other e. then e (λ room after. record {
            station = g.it;
            there = g.is;
            linked = same_so _ _ linked;
            listens = record { configured = lt_so _ _ configured; up = up; other = off_so _ other };
            room = off_so _ room;
          })))))

  module _ (link : ℕ) (members : List Member) where
    abbrev meet_by : Network → Move → Network → List Move → Bool
    meet_by n m next ms =
        list_all (λ x. list_all (λ y. or_else (x.router == y.router) (λ u. hello_keeps (between link x y) n m)) members) members
        && alone_by d bound started link members n m

    abbrev pub meet_keeps : Network → List Move → Bool
    meet_keeps n ms =
        apart_test d bound started link members
        && (greets_first d bound started link members n && run_test (greets_at d bound started link members) meet_by n ms)

    module _ (n : Network) (ms : List Move) (passed : run_test (greets_at d bound started link members) meet_by n ms ≡ true) where
      hellos_so : (x y : Member) → IsOne members x → IsOne members y → (x.router == y.router) ≡ false
          → EachMove (HelloKeeps (between link x y)) n ms
      hellos_so x y a b off =
          moves_so (greets_at d bound started link members) meet_by (EachMove (HelloKeeps (between link x y))) (λ n. tt)
          (λ n m ms e f. (hello_keeps_so (between link x y) n m (one n m ms e), f)) ms n passed
        where
          one : (n : Network) (m : Move) (ms : List Move) → meet_by n m (moved n m).1 ms ≡ true → hello_keeps (between link x y) n m ≡ true
          one n m ms e =
              let each : or_else (x.router == y.router) (λ u. hello_keeps (between link x y) n m) ≡ true =
              one_of (λ y. or_else (x.router == y.router) (λ u. hello_keeps (between link x y) n m)) members y
              (one_of (λ x. list_all (λ y. or_else (x.router == y.router) (λ u. hello_keeps (between link x y) n m)) members) members x
              (first_so _ (alone_by d bound started link members n m) e) a) b in
              subst (λ c. or_else c (λ u. hello_keeps (between link x y) n m) ≡ true) off each

    pub meet_keeps_so : (n : Network) (ms : List Move) → ((x : Member) → IsOne members x → IsReady x.router n) → meet_keeps n ms ≡ true
        → Meet d bound started link members n ms
    meet_keeps_so n ms ready e =
        then e (λ apart e. then e (λ first passed. record {
          apart = apart_so d bound started link members apart;
          ready = ready;
          stand = λ x a. always_so (greets_at d bound started link members) meet_by (Stands link x)
              (λ n e. stands_so d bound started link x n (one_of (λ x. stands_test d bound started link x n) members x e a)) ms n passed;
          greet = λ x a. greets_so d bound started x n
              (first_so (greets_test d bound started x n) (forgets_test d bound started members x n)
              (one_of (λ x. greets_test d bound started x n && forgets_test d bound started members x n) members x first a));
          hear = hellos_so n ms passed;
          alone = λ y a. moves_so (greets_at d bound started link members) meet_by (AreOfMembers members y) (λ n. tt)
              (λ n m ms e f. (alone_then d bound started link members n m (second_so _ (alone_by d bound started link members n m) e) y a, f)) ms n passed;
          forget = λ x a. forgets_so d bound started members x n
              (second_so (greets_test d bound started x n) (forgets_test d bound started members x n)
              (one_of (λ x. greets_test d bound started x n && forgets_test d bound started members x n) members x first a));
        }))

  -- ---- queries

  module _ (t : Settings) (hold link : ℕ) (first : Member) (others : List Member) where
    abbrev to : Member → Adjacent
    to y = between link first y

    abbrev query_keeps : Adjacent → Network → Move → Bool
    query_keeps c n m =
        delivery_test c.upper c.down (λ k draw. option_map_or (hears_query d bound started t c hold 0) (station_at n c.upper) false) m
        && (happens_not c.upper (λ s a. begins_or_ends c.down a) n m
        && happens_not c.upper (λ s a. cuts_held d bound started t c hold s c.down a) n m)

    query_keeps_so : (c : Adjacent) (n : Network) (m : Move) → query_keeps c n m ≡ true → QueryKeeps t hold c n m
    query_keeps_so c n m e =
        then e (λ heard e. then e (λ follows lasts. record {
          hears = λ number draw is. go (found Station (hears_query d bound started t c hold 0) (station_at n c.upper) (delivered_so c.upper
              c.down (λ k draw. option_map_or (hears_query d bound started t c hold 0) (station_at n c.upper) false) m heard number draw is));
          follows = not_so c.upper (λ s a. begins_or_ends c.down a) n m follows;
          lengthens = λ e st end ev at holds.
              held_lasts d bound started t c hold st.state c.down end (done_as (happens st.state e))
              (not_so c.upper (λ s a. cuts_held d bound started t c hold s c.down a) n m lasts e st ev at) holds;
        }))
      where
        go : Found Station (hears_query d bound started t c hold 0) (station_at n c.upper) → HearsQuery t hold c n
        go g =
            then g.passes (λ linked e. then e (λ configured e. then e (λ up e. then e (λ other e. then e (λ lower e. then e (λ lasts after. record {
              station = g.it;
              there = g.is;
              linked = same_so _ _ linked;
              listens = record { configured = lt_so _ _ configured; up = up; other = off_so _ other };
              lower = lower;
              lasts = le_so _ _ lasts;
            }))))))

    abbrev leads_by : Network → Move → Bool
    leads_by n m = happens_not first.router (λ s a. takes_lead s first.iface a) n m

    abbrev ask_by : Network → Move → Network → List Move → Bool
    ask_by n m next ms = leads_by n m && list_all (λ y. query_keeps (to y) n m) others

    abbrev pub ask_keeps : Network → List Move → Bool
    ask_keeps n ms =
        nat_lt (interval_of t + 2 * d) hold && (nat_lt t.robustness 8 && (list_all (λ y. not (first.router == y.router)) others
        && (leads_test d bound started t (to first) n && run_test (asks_test d bound started t (to first)) ask_by n ms)))

    pub ask_keeps_so : (n : Network) (ms : List Move) → ask_keeps n ms ≡ true → Ask t hold d bound started link first others n ms
    ask_keeps_so n ms e =
        then e (λ often e. then e (λ robust e. then e (λ apart e. then e (λ leads passed. record {
          often = lt_so _ _ often;
          robust = lt_so _ _ robust;
          asks = always_so (asks_test d bound started t (to first)) ask_by (Asks t (to first)) (asks_so d bound started t (to first)) ms n passed;
          leads = leads_so d bound started t (to first) n leads;
          keeps = moves_so (asks_test d bound started t (to first)) ask_by (KeepsLead (to first)) (λ n. tt)
              (λ n m ms e f. (not_so first.router (λ s a. takes_lead s first.iface a) n m (first_so (leads_by n m) _ e), f)) ms n passed;
          apart = λ y a. off_so _ (one_of (λ y. not (first.router == y.router)) others y apart a);
          hear = λ y a. moves_so (asks_test d bound started t (to first)) ask_by (EachMove (QueryKeeps t hold (to y))) (λ n. tt)
              (λ n m ms e f. (query_keeps_so (to y) n m (one_of (λ y. query_keeps (to y) n m) others y (second_so (leads_by n m) _ e) a), f)) ms n passed;
        }))))

  -- ---- Joins

  source_read : (from : ℕ) → is_unicast from ≡ true → (x : Join) (g : ℕ) (c : Pair) (pruned : List ℕ)
      → source_address_of (frame_from x g c from pruned).bytes ≡ from
  unfolding join_packet pim_packet_text header_text with_checksum
  source_read from host x g c pruned = big_number-reads_back 4 from [] (fits from host)
    where
      fits : (n : ℕ) → is_unicast n ≡ true → n < 256 ^ 4
      fits n e = grind (arith, nat_tests, e)

  module _ (t : Traffic) (j : Joining) where
    abbrev x : Join
    x = j.join

    abbrev g : ℕ
    g = j.group

    abbrev c : Pair
    c = j.pair

    -- a Join/Prune on the link
    abbrev joins_there : Sent → Bool
    joins_there f = is_of_protocol c.link 103 f && is_join f

    passes_there : (from : ℕ) (pruned : List ℕ) → joins_there (frame_from x g c from pruned) ≡ true
    passes_there from pruned =
        both (of_protocol c.link 103 (frame_from x g c from pruned).bytes (join_is_pim x g (record c { from = from }) pruned))
        (join_is_join x g (record c { from = from }) pruned)
      where
        both : {a b : Bool} → a ≡ true → b ≡ true → (a && b) ≡ true
        both e f = cc

    abbrev hears_from : Station → ℕ → Bool
    hears_from st from =
        nat_lt c.down (iface_count st.state) && (is_up st.state c.down && (is_neighbour st.state c.down from && not (is_own st.state from)))

    abbrev has_room : Station → Bool
    has_room st = not (is_full st.state
        (Accepted.JoinPruneToMe (record { number = c.down }) (join_value (c.hop).address.bits g (entry_of x) (prunes_of []))))

    -- each has 54 bytes, so that it prunes nothing
    abbrev takes : Station → Sent → Bool
    takes st f =
        or_else (not (joins_there f)) (λ u. (length f.bytes == 54) && (hears_from st (source_address_of f.bytes) && has_room st))

    abbrev takes_frame : Network → ℕ → Bool
    takes_frame n k = option_map_or (λ (f : Sent). option_map_or (λ (st : Station). takes st f) (station_at n c.upper) true) (frame_at n k) true

    taken_so : (n : Network) (m : Move) → delivery_test c.upper c.down (λ k draw. takes_frame n k) m ≡ true → (number draw from : ℕ)
        (pruned : List ℕ) (st : Station) → m ≡ Deliver c.upper c.down number draw
        → frame_at n number ≡ Some (frame_from x g c from pruned) → station_at n c.upper ≡ Some st
        → ((length (frame_from x g c from pruned).bytes == 54) && (hears_from st (source_address_of (frame_from x g c from pruned).bytes) && has_room st)) ≡ true
    taken_so n m e number draw from pruned st is framed at =
        else_so (joins_there (frame_from x g c from pruned)) (λ u. (length (frame_from x g c from pruned).bytes == 54)
        && (hears_from st (source_address_of (frame_from x g c from pruned).bytes) && has_room st))
        (each_found (λ (st : Station). takes st (frame_from x g c from pruned)) (station_at n c.upper) st
        (each_found (λ (f : Sent). option_map_or (λ (st : Station). takes st f) (station_at n c.upper) true) (frame_at n number)
        (frame_from x g c from pruned) (delivered_so c.upper c.down (λ k draw. takes_frame n k) m e number draw is) framed) at)
        (passes_there from pruned)

    -- the lower one holds its Join back for a frame of another, which the move shows it
    abbrev shows : Network → Move → Bool
    shows n (At q e) = false
    shows n (DeliverUnicast q k draw) = false
    shows n (Deliver q i k draw) =
        (q == c.lower) && ((i == (c.hop).iface.number) && option_map_or (λ (f : Sent). same_option f.link (Some c.link)
        && (is_unicast (source_address_of f.bytes) && same_bytes f.bytes (frame_from x g c (source_address_of f.bytes) []).bytes)) (frame_at n k) false)

    shows_so : (w : IsWritable c.from (c.hop).address.bits g (entry_of x) (prunes_of [])) (n : Network) (m : Move) → shows n m ≡ true → SeesJoin x g c n m
    shows_so w n (At q e) f = cc f
    shows_so w n (DeliverUnicast q k draw) f = cc f
    shows_so w n (Deliver q i k draw) e =
        then e (λ router e. then e (λ iface e.
        let f : Found Sent _ (frame_at n k) = found Sent _ (frame_at n k) e in
        then f.passes (λ on e. then e (λ host same. record {
          number = k;
          draw = draw;
          is = delivers (eqb-true _ _ router) (eqb-true _ _ iface);
          from = source_address_of (f.it).bytes;
          pruned = [];
          framed = f.is ∙ ap (λ (y : Sent). Some y) (made f.it (same_so _ _ on) (bytes_so _ _ same));
          writable = record {
            from_host = host;
            to_fits = w.to_fits;
            to_group = w.to_group;
            of_host = w.of_host;
            of_hosts = w.of_hosts;
            few = w.few;
          };
        }))))
      where
        delivers : q ≡ c.lower → i ≡ (c.hop).iface.number → Deliver q i k draw ≡ Deliver c.lower (c.hop).iface.number k draw
        delivers a b = rw (a, b) refl

        made : (f : Sent) → f.link ≡ Some c.link → f.bytes ≡ (frame_from x g c (source_address_of f.bytes) []).bytes
            → f ≡ frame_from x g c (source_address_of f.bytes) []
        made f a b = record_so f (Some c.link) (frame_from x g c (source_address_of f.bytes) []).bytes a b
          where
            record_so : (f : Sent) (l : Option ℕ) (bs : List ℕ) → f.link ≡ l → f.bytes ≡ bs → f ≡ record { link = l; bytes = bs }
            record_so f l bs a b = λ y. record { link = a y; bytes = b y }

    abbrev taken_keeps : Network → Move → Bool
    taken_keeps n m = delivery_test c.upper c.down (λ k draw. takes_frame n k) m

    abbrev others_keep : Network → Move → Network → Bool
    others_keep n m next =
        each_after 0 (λ k f. or_else (not (joins_there f)) (λ u. not (t.by k == c.upper))) next.frames
        && (happens_not c.upper (λ s a. prunes_it x g c.down a) n m && when_test c.lower (λ s a. is_suppressed x s g c.hop a) (shows n m) n m)

    abbrev told_keeps : Network → Move → Network → Bool
    told_keeps n m next = told_test c.lower c.link 103 (λ st k f. or_else (not (is_join f)) (λ u. length f.bytes == 54)) n m next

    abbrev pub join_keeps : Network → Move → Network → Bool
    join_keeps n m next = told_keeps n m next && (taken_keeps n m && others_keep n m next)

    module _ (w : IsWritable c.from (c.hop).address.bits g (entry_of x) (prunes_of [])) where
      pub join_keeps_so : (n : Network) (m : Move) → join_keeps n m (moved n m).1 ≡ true → JoinKeeps x g t c n m
      join_keeps_so n m e =
          then e (λ told e. then e (λ taken e. then e (λ others e. then e (λ unpruned shared. record {
            writable = λ e st number pruned ev at new got. own told e st number pruned ev at new got;
            room = λ number draw from pruned st is framed at.
                fits st from pruned (first_so _ _ (taken_so n m taken number draw from pruned st is framed at))
                (second_so _ _ (second_so _ _ (taken_so n m taken number draw from pruned st is framed at)));
            others = λ number from pruned got.
                off_so _ (else_so (joins_there (frame_from x g c from pruned)) (λ u. not (t.by number == c.upper))
                (after_so 0 (λ k f. or_else (not (joins_there f)) (λ u. not (t.by k == c.upper))) (moved n m).1 others number
                (frame_from x g c from pruned) (above_none (moved n m).1 number (frame_from x g c from pruned) got) got) (passes_there from pruned));
            unpruned = not_so c.upper (λ s a. prunes_it x g c.down a) n m unpruned;
            shared = λ e st ev at is. shows_so w n m (when_so c.lower (λ s a. is_suppressed x s g c.hop a) (shows n m) n m shared e st ev at is);
          }))))
        where
          fits : (st : Station) (from : ℕ) (pruned : List ℕ) → (length (frame_from x g c from pruned).bytes == 54) ≡ true → has_room st ≡ true
              → is_full st.state (Accepted.JoinPruneToMe (record { number = c.down })
              (join_value (c.hop).address.bits g (entry_of x) (prunes_of pruned))) ≡ false
          fits st from pruned e room =
              subst (λ (ps : List ℕ). is_full st.state (Accepted.JoinPruneToMe (record { number = c.down })
              (join_value (c.hop).address.bits g (entry_of x) (prunes_of ps))) ≡ false)
              (sym (prunes_nothing from (c.hop).address.bits g (entry_of x) pruned (eqb-true _ _ e))) (off_so _ room)

          own : told_test c.lower c.link 103 (λ st k f. or_else (not (is_join f)) (λ u. length f.bytes == 54)) n m (moved n m).1 ≡ true
              → (e : Event) (st : Station) (number : ℕ) (pruned : List ℕ) → event_of n m ≡ Some (c.lower, e)
              → station_at (moved n m).1 c.lower ≡ Some st → length n.frames < number
              → frame_at (moved n m).1 number ≡ Some (frame_of x g c pruned)
              → IsWritable c.from (c.hop).address.bits g (entry_of x) (prunes_of pruned)
          own told e st number pruned ev at new got =
              subst (λ (ps : List ℕ). IsWritable c.from (c.hop).address.bits g (entry_of x) (prunes_of ps))
              (sym (prunes_nothing c.from (c.hop).address.bits g (entry_of x) pruned (eqb-true _ _
              (else_so (is_join (frame_of x g c pruned)) (λ u. length (frame_of x g c pruned).bytes == 54)
              (told_so c.lower c.link 103 (λ st k f. or_else (not (is_join f)) (λ u. length f.bytes == 54)) n m (moved n m).1 told e st number
              (frame_of x g c pruned).bytes ev at new got (join_is_pim x g c pruned)) (join_is_join x g c pruned))))) w

      pub join_hears_so : (n : Network) (m : Move) → join_keeps n m (moved n m).1 ≡ true → HearsJoins x g c n m
      join_hears_so n m e = record {
        hears = λ number draw from pruned st host is framed at.
            heard st from (source_read from host x g c pruned)
            (first_so _ _ (second_so _ _ (taken_so n m taken number draw from pruned st is framed at)));
      }
        where
          taken : taken_keeps n m ≡ true
          taken =
              first_so (taken_keeps n m) (others_keep n m (moved n m).1)
              (second_so (told_keeps n m (moved n m).1) (taken_keeps n m && others_keep n m (moved n m).1) e)

          heard : (st : Station) (from : ℕ) {read : ℕ} → read ≡ from → hears_from st read ≡ true → Hears st.state c.down from
          heard st from same e =
              then (subst (λ (a : ℕ). hears_from st a ≡ true) same e) (λ configured e. then e (λ up e. then e (λ neighbour other.
              record { configured = lt_so _ _ configured; up = up; neighbour = neighbour; other = off_so _ other })))

    -- whoever's Join comes to the upper one is another router of the LAN
    module _ (members : List Member) where
      abbrev is_other : ℕ → Member → Bool
      is_other from y = (y.address == from) && not (y.router == c.upper)

      abbrev of_lan : Network → ℕ → Bool
      of_lan n from =
          list_any (is_other from) members && option_map_or (λ (st : Station). not (is_own st.state from)) (station_at n c.upper) true

      abbrev joiner_is : Network → ℕ → Bool
      joiner_is n k =
          option_map_or (λ (f : Sent). or_else (not (joins_there f)) (λ u. of_lan n (source_address_of f.bytes))) (frame_at n k) true

      abbrev pub joiners_test : Network → Move → Network → Bool
      joiners_test n m next = delivery_test c.upper c.down (λ k draw. joiner_is n k) m

      another_so : (from : ℕ) (ys : List Member) → list_any (is_other from) ys ≡ true → IsAnother ys c.upper from
      another_so from [] e = cc e
      another_so from (y ∷ ys) e = go (is_other from y) refl e (another_so from ys)
        where
          further : IsAnother ys c.upper from → IsAnother (y ∷ ys) c.upper from
          further f = record { member = f.member; among = inr f.among; its = f.its; apart = f.apart }

          go : (b : Bool) → is_other from y ≡ b → (b || list_any (is_other from) ys) ≡ true
              → (list_any (is_other from) ys ≡ true → IsAnother ys c.upper from) → IsAnother (y ∷ ys) c.upper from
          go true is e later =
              then is (λ its apart. record { member = y; among = inl refl; its = eqb-true y.address from its; apart = off_so _ apart })
          go false is e later = further (later e)

      pub joiners_so : (n : Network) (m : Move) → joiners_test n m (moved n m).1 ≡ true → JoinIsOfLan x g members c n m
      joiners_so n m e = record {
        joiner = λ number draw from pruned st host is framed at.
            then (its number draw from pruned host is framed) (λ among foreign. (
              another_so from members among,
              off_so _ (each_found (λ (st : Station). not (is_own st.state from)) (station_at n c.upper) st foreign at),
            ));
      }
        where
          its : (number draw from : ℕ) (pruned : List ℕ) → is_unicast from ≡ true → m ≡ Deliver c.upper c.down number draw
              → frame_at n number ≡ Some (frame_from x g c from pruned) → of_lan n from ≡ true
          its number draw from pruned host is framed =
              subst (λ (a : ℕ). of_lan n a ≡ true) (source_read from host x g c pruned)
              (else_so (joins_there (frame_from x g c from pruned)) (λ u. of_lan n (source_address_of (frame_from x g c from pruned).bytes))
              (each_found (λ (f : Sent). or_else (not (joins_there f)) (λ u. of_lan n (source_address_of f.bytes))) (frame_at n number)
              (frame_from x g c from pruned) (delivered_so c.upper c.down (λ k draw. joiner_is n k) m e number draw is) framed)
              (passes_there from pruned))
