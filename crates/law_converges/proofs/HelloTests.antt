-- Whether the routers of a link greet each other in time, as ExactlyOneDr asks: a test, and that where it passes they do.
use Rattle.std.{proofs.{Common.{◌≡◌, ℕ, ◌+◌, ◌*◌, ◌≤◌, ◌==◌, ◌^◌, max, nat_le, nat_lt, not, ◌&&◌, ◌||◌, Bool, true, false, List, [], ◌∷◌, inl, inr, Option, Some, None, refl, subst, arith, eqb-true, eq-eqb}, lemmas.{Bool.Decides.nat_tests}}, specs.{Cmp.{first_so, second_so}, List.{list_all}, Option.option_map_or, Prelude.slice_get}}
use Rattle.pim_ip.{specs.Ipv4.{header_text, is_unicast, pim_packet_text}, specs.Checksum.with_checksum}
use Rattle.pim_types.{specs.{Keys.{iface_key, neighbour_key}, declared.{event.Event.Event, fact.{InterfaceRow.InterfaceRow, NeighbourRow.NeighbourRow}}}}
use Rattle.pim_wire.{specs.Hellos.hello_holdtime}
use Rattle.pim_model.{specs.{declared.accepted.Accepted.Accepted, Cause.done_as, Full.{hello_is_full}, Network.{Move, Network, Sent, Station, event_of, moved, station_at}, State.{Addressing, State, address_among, iface_count, is_own, is_up, my_priority, value_among}, Tables.{later_end, row_at, same_option}}}
use Rattle.law_streams.{specs.{Adjacent.{Adjacent, HelloComes, HelloComesBy, HelloInTime, HellosInTime, begins_or_ends, shortens}, Copies.happens, Hellos.{hello_of}, InTimeJoins.{IsReady, time_at}, Neighbours.HoldsNeighbour}}
use Rattle.law_converges.{specs.{LinkDr.{AreOfMembers, ForgetsBy, GreetsBy, IsOne, MeetInTime, Member, Stands, between, is_known, is_of_member}}, proofs.{Tested.{Delivery, Found, comes_by, comes_so, delivery_so, found, happens_not, if_so, is_delivery, late_so, late_test, le_so, lt_so, moves_so, always_so, not_so, off_so, on_so, or_else, run_test, same_so, then, told_so, told_test}}}

pub one_of : (p : Member → Bool) (xs : List Member) (y : Member) → list_all p xs ≡ true → IsOne xs y → p y ≡ true
one_of p [] y e none = absurd none
one_of p (x ∷ xs) y e (inl same) = subst (λ z. p z ≡ true) same (first_so (p x) _ e)
one_of p (x ∷ xs) y e (inr later) = one_of p xs y (second_so (p x) _ e) later

pub both_of : (P : Member → Type 0) (x y : Member) → P x → P y → (z : Member) → IsOne (x ∷ y ∷ []) z → P z
both_of P x y f g z (inl same) = subst P same f
both_of P x y f g z (inr (inl same)) = subst P same g
both_of P x y f g z (inr (inr none)) = absurd none

abbrev same_member : Member → Member → Bool
same_member x y = (x.router == y.router) && ((x.iface == y.iface) && ((x.address == y.address) && (x.priority == y.priority)))

member_so : (x y : Member) → same_member x y ≡ true → x ≡ y
member_so x y e =
    then e (λ router e. then e (λ iface e. then e (λ address priority.
    made (eqb-true _ _ router) (eqb-true _ _ iface) (eqb-true _ _ address) (eqb-true _ _ priority))))
  where
    made : x.router ≡ y.router → x.iface ≡ y.iface → x.address ≡ y.address → x.priority ≡ y.priority → x ≡ y
    made a b c d = grind arith

-- each router has one interface there
abbrev pub single_test : List Member → Bool
single_test members = list_all (λ x. list_all (λ y. not (x.router == y.router) || same_member x y) members) members

pub single_so : (members : List Member) → single_test members ≡ true → (x y : Member) → IsOne members x → IsOne members y
    → x.router ≡ y.router → x ≡ y
single_so members e x y a b same =
    member_so x y (if_so (x.router == y.router) (same_member x y)
    (one_of (λ y. not (x.router == y.router) || same_member x y) members y
    (one_of (λ x. list_all (λ y. not (x.router == y.router) || same_member x y) members) members x e a) b)
    (eq-eqb x.router y.router same))

hello_is_pim : (cs : Addressing) (i generation : ℕ) → slice_get (hello_of cs i generation) 9 ≡ Some 103
unfolding pim_packet_text header_text with_checksum
hello_is_pim cs i generation = refl

module _ (d bound : ℕ) (started : ℕ → ℕ) where
  -- ---- Hellos

  -- a Hello of the neighbour ends sooner than the one before
  abbrev pub shortens_known : State → (i address : ℕ) → Option Accepted → Bool
  shortens_known s i address a =
      option_map_or (λ (row : NeighbourRow). option_map_or (λ end. shortens s i address end a) row.end true)
      (row_at s.neighbours (neighbour_key i address)) false

  no_shorter : (s : State) (i address x end : ℕ) → end ≤ x → (a : Option Accepted) → shortens s i address x a ≡ false
      → shortens s i address end a ≡ false
  no_shorter s i address x end le None e = refl
  no_shorter s i address x end le (Some (Accepted.Hello j from h)) e = grind (arith, nat_tests, le)
  no_shorter s i address x end le (Some a) e = grind arith

  pub known_lasts : (s : State) (i address end : ℕ) (a : Option Accepted) → shortens_known s i address a ≡ false
      → HoldsNeighbour s i address end → shortens s i address end a ≡ false
  known_lasts s i address end a e f = go (f.row).end refl
    where
      at_row : option_map_or (λ end. shortens s i address end a) (f.row).end true ≡ false
      at_row = subst (λ o. option_map_or (λ (row : NeighbourRow). option_map_or (λ end. shortens s i address end a) row.end true) o false ≡ false) f.found e

      go : (o : Option ℕ) → (f.row).end ≡ o → shortens s i address end a ≡ false
      go None is = let no : true ≡ false = subst (λ o. option_map_or (λ end. shortens s i address end a) o true ≡ false) is at_row in cc
      go (Some x) is =
          let most : Some (max x end) ≡ Some x = subst (λ o. later_end o (Some end) ≡ o) is f.lasts in
          no_shorter s i address x end (le most) a (subst (λ o. option_map_or (λ end. shortens s i address end a) o true ≡ false) is at_row)
        where
          le : Some (max x end) ≡ Some x → end ≤ x
          le most = let same : max x end ≡ x = cc most in grind (arith, same)

  module _ (c : Adjacent) where
    abbrev pub hears_hello : (sent : ℕ) → Station → Bool
    hears_hello sent st =
        same_option (slice_get st.links c.down) (Some c.link) && (nat_lt c.down (iface_count st.state) && (is_up st.state c.down
        && (not (is_own st.state c.address) && (not (hello_is_full st.state c.down c.address hello_holdtime)
        && nat_le sent (time_at started c.upper st)))))

    abbrev hello_comes : (number sent : ℕ) → Network → Move → Bool
    hello_comes number sent n m =
        is_delivery c.upper c.down number m && option_map_or (hears_hello sent) (station_at n c.upper) false

    hello_comes_so : (number sent : ℕ) (n : Network) (m : Move) → hello_comes number sent n m ≡ true → HelloComes started c number sent n m
    hello_comes_so number sent n m e =
        then e (λ delivers e. go (delivery_so c.upper c.down number m delivers) (found Station (hears_hello sent) (station_at n c.upper) e))
      where
        go : Delivery c.upper c.down number m → Found Station (hears_hello sent) (station_at n c.upper)
            → HelloComes started c number sent n m
        go f g =
            then g.passes (λ linked e. then e (λ configured e. then e (λ up e. then e (λ other e. then e (λ room after.
            record {
              draw = f.draw;
              is = f.is;
              station = g.it;
              there = g.is;
              linked = same_so _ _ linked;
              listens = record { configured = lt_so _ _ configured; up = up; other = off_so _ other };
              room = off_so _ room;
              after = le_so _ _ after;
            })))))

    abbrev hello_rows : State → Option InterfaceRow
    hello_rows s = row_at s.interfaces (iface_key c.iface)

    abbrev hello_told : Network → List Move → Station → ℕ → Sent → Bool
    hello_told next ms st k f =
        comes_by started (hello_comes k (time_at started c.lower st)) c.upper (time_at started c.lower st + d) next ms

    abbrev hello_test : Network → Move → Network → List Move → Bool
    hello_test n m next ms =
        late_test d started hello_rows (λ (row : InterfaceRow). row.hello_end) c.lower c.upper n next
        && (told_test c.lower c.link 103 (hello_told next ms) n m next
        && (happens_not c.lower (λ s a. begins_or_ends c.iface a) n m
        && (happens_not c.upper (λ s a. begins_or_ends c.down a) n m
        && happens_not c.upper (λ s a. shortens_known s c.down c.address a) n m)))

    hello_so : (n : Network) (m : Move) (ms : List Move) → hello_test n m (moved n m).1 ms ≡ true → HelloInTime d started c n m ms
    hello_so n m ms e =
        then e (λ late e. then e (λ told e. then e (λ sender e. then e (λ receiver lasts. record {
          timer = late_so d started hello_rows (λ (row : InterfaceRow). row.hello_end) c.lower c.upper n (moved n m).1 late;
          hellos = λ e st number generation ev at later got.
              comes_so started (hello_comes number (time_at started c.lower st)) c.upper (time_at started c.lower st + d)
              (λ n ms. HelloComesBy d started c number (time_at started c.lower st) n ms) (λ n. tt)
              (λ n m ms e. inl (hello_comes_so number (time_at started c.lower st) n m e)) (λ n m ms by f. inr (by, f)) ms (moved n m).1
              (told_so c.lower c.link 103 (hello_told (moved n m).1 ms) n m (moved n m).1 told e st number
              (hello_of (st.state).configured c.iface generation) ev at later got (hello_is_pim (st.state).configured c.iface generation));
          sender_stays = not_so c.lower (λ s a. begins_or_ends c.iface a) n m sender;
          receiver_stays = not_so c.upper (λ s a. begins_or_ends c.down a) n m receiver;
          lengthens = λ e st end ev at holds.
              known_lasts st.state c.down c.address end (done_as (happens st.state e))
              (not_so c.upper (λ s a. shortens_known s c.down c.address a) n m lasts e st ev at) holds;
        }))))

  -- ---- who stands on a link

  abbrev pub stands_test : (link : ℕ) → Member → Network → Bool
  stands_test link x n = option_map_or (λ (st : Station).
      is_up st.state x.iface && (same_option (slice_get st.links x.iface) (Some link)
      && ((address_among (st.state).configured x.iface == x.address) && ((my_priority st.state x.iface == x.priority)
      && (is_unicast (address_among (st.state).configured x.iface)
      && (nat_lt (value_among (λ c. c.propagation_delay) (st.state).configured x.iface) (2 ^ 15)
      && (nat_lt (value_among (λ c. c.override_interval) (st.state).configured x.iface) (2 ^ 16)
      && nat_lt (value_among (λ c. c.priority) (st.state).configured x.iface) (2 ^ 32)))))))) (station_at n x.router) false

  pub stands_so : (link : ℕ) (x : Member) (n : Network) → stands_test link x n ≡ true → Stands link x n
  stands_so link x n e =
      let f : Found Station _ (station_at n x.router) = found Station _ (station_at n x.router) e in
      then f.passes (λ up e. then e (λ linked e. then e (λ own e. then e (λ priority e. then e (λ host e. then e (λ delay e. then e
      (λ interval fits. record {
        sends = record {
          station = f.it;
          there = f.is;
          up = up;
          linked = same_so _ _ linked;
          own = eqb-true _ _ own;
          readable = record {
            from_host = host;
            delay_fits = lt_so _ _ delay;
            interval_fits = lt_so _ _ interval;
            priority_fits = lt_so _ _ fits;
          };
        };
        priority = eqb-true _ _ priority;
      })))))))

  abbrev pub greets_test : Member → Network → Bool
  greets_test x n = option_map_or (λ (st : Station). option_map_or (λ (row : InterfaceRow).
      nat_le (row.hello_end + started x.router + 2 * d) bound) (row_at (st.state).interfaces (iface_key x.iface)) false) (station_at n x.router) false

  pub greets_so : (x : Member) (n : Network) → greets_test x n ≡ true → GreetsBy d bound started x n
  greets_so x n e =
      let f : Found Station _ (station_at n x.router) = found Station _ (station_at n x.router) e in
      let g : Found InterfaceRow _ (row_at ((f.it).state).interfaces (iface_key x.iface)) = found InterfaceRow _ _ f.passes in
      record { station = f.it; there = f.is; row = g.it; is = g.is; by = le_so _ _ g.passes }

  abbrev pub forgets_test : List Member → Member → Network → Bool
  forgets_test members y n = option_map_or (λ (st : Station).
      list_all (is_known members y.iface (started y.router) bound) (st.state).neighbours) (station_at n y.router) false

  pub forgets_so : (members : List Member) (y : Member) (n : Network) → forgets_test members y n ≡ true
      → ForgetsBy bound started members y n
  forgets_so members y n e =
      let f : Found Station _ (station_at n y.router) = found Station _ (station_at n y.router) e in
      record { station = f.it; there = f.is; over = f.passes }

  -- ---- all routers of a link

  module _ (link : ℕ) (members : List Member) where
    -- of the network at each time
    abbrev pub greets_at : Network → Bool
    greets_at n = list_all (λ x. stands_test link x n) members

    -- of each move
    abbrev hellos_by : Network → Move → Network → List Move → Bool
    hellos_by n m next ms =
        list_all (λ x. list_all (λ y. or_else (x.address == y.address) (λ u. hello_test (between link x y) n m next ms)) members) members

    abbrev pub alone_by : Network → Move → Bool
    alone_by n m = list_all (λ y. happens_not y.router (λ s a. not (is_of_member members y.iface a)) n m) members

    -- what comes to a router by a move is of one of them
    pub alone_then : (n : Network) (m : Move) → alone_by n m ≡ true → (y : Member) → IsOne members y → (e : Event) (st : Station)
        → event_of n m ≡ Some (y.router, e) → station_at n y.router ≡ Some st
        → is_of_member members y.iface (done_as (happens st.state e)) ≡ true
    alone_then n m passed y a e st ev at =
        on_so (not_so y.router (λ s a. not (is_of_member members y.iface a)) n m
        (one_of (λ y. happens_not y.router (λ s a. not (is_of_member members y.iface a)) n m) members y passed a) e st ev at)

    abbrev greets_by : Network → Move → Network → List Move → Bool
    greets_by n m next ms = hellos_by n m next ms && alone_by n m

    -- to begin with
    abbrev pub apart_test : Bool
    apart_test = list_all (λ x. list_all (λ y. not (x.address == y.address) || same_member x y) members) members

    abbrev pub greets_first : Network → Bool
    greets_first n = list_all (λ x. greets_test x n && forgets_test members x n) members

    abbrev pub meet_test : Network → List Move → Bool
    meet_test n ms = apart_test && (greets_first n && run_test greets_at greets_by n ms)

    module _ (n : Network) (ms : List Move) (passed : run_test greets_at greets_by n ms ≡ true) where
      hellos_so : (x y : Member) → IsOne members x → IsOne members y → (x.address == y.address) ≡ false
          → HellosInTime d started (between link x y) n ms
      hellos_so x y a b off =
          moves_so greets_at greets_by (HellosInTime d started (between link x y)) (λ n. tt)
          (λ n m ms e f. (hello_so (between link x y) n m ms (one n m ms e), f)) ms n passed
        where
          one : (n : Network) (m : Move) (ms : List Move) → greets_by n m (moved n m).1 ms ≡ true
              → hello_test (between link x y) n m (moved n m).1 ms ≡ true
          one n m ms e =
              let each : or_else (x.address == y.address) (λ u. hello_test (between link x y) n m (moved n m).1 ms) ≡ true =
              one_of (λ y. or_else (x.address == y.address) (λ u. hello_test (between link x y) n m (moved n m).1 ms)) members y
              (one_of (λ x. list_all (λ y. or_else (x.address == y.address) (λ u. hello_test (between link x y) n m (moved n m).1 ms)) members)
              members x (first_so (hellos_by n m (moved n m).1 ms) (alone_by n m) e) a) b in
              subst (λ c. or_else c (λ u. hello_test (between link x y) n m (moved n m).1 ms) ≡ true) off each

      alone_so : (y : Member) → IsOne members y → AreOfMembers members y n ms
      alone_so y a =
          moves_so greets_at greets_by (AreOfMembers members y) (λ n. tt)
          (λ n m ms e f. (alone_then n m (second_so (hellos_by n m (moved n m).1 ms) (alone_by n m) e) y a, f)) ms n passed

    pub apart_so : apart_test ≡ true → (x y : Member) → IsOne members x → IsOne members y → x.address ≡ y.address → x ≡ y
    apart_so e x y a b same =
        member_so x y (if_so (x.address == y.address) (same_member x y)
        (one_of (λ y. not (x.address == y.address) || same_member x y) members y
        (one_of (λ x. list_all (λ y. not (x.address == y.address) || same_member x y) members) members x e a) b)
        (eq-eqb x.address y.address same))

    pub meet_so : (n : Network) (ms : List Move) → ((x : Member) → IsOne members x → IsReady x.router n) → meet_test n ms ≡ true
        → MeetInTime d bound started link members n ms
    meet_so n ms ready e =
        then e (λ apart e. then e (λ first passed. record {
          apart = apart_so apart;
          ready = ready;
          stand = λ x a. always_so greets_at greets_by (Stands link x)
              (λ n e. stands_so link x n (one_of (λ x. stands_test link x n) members x e a)) ms n passed;
          greet = λ x a. greets_so x n
              (first_so (greets_test x n) (forgets_test members x n)
              (one_of (λ x. greets_test x n && forgets_test members x n) members x first a));
          in_time = hellos_so n ms passed;
          alone = alone_so n ms passed;
          forget = λ x a. forgets_so members x n
              (second_so (greets_test x n) (forgets_test members x n)
              (one_of (λ x. greets_test x n && forgets_test members x n) members x first a));
        }))
