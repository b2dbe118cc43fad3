-- Whether a router's Joins come to its next hop in time, as AllComeToBeHeld asks: a test, and that where it passes they do.
use Rattle.std.{proofs.{Common.{◌≡◌, ◌∙◌, ℕ, ◌+◌, ◌*◌, ◌==◌, ◌≤◌, ◌^◌, nat_le, nat_lt, not, ◌&&◌, Bool, true, false, List, [], inl, inr, length, Option, Some, None, refl, sym, subst, arith, eqb-true, lit≤}, lemmas.{List.Elements.All-nil}}, specs.{Cmp.{first_so, second_so}, Option.option_map_or, Prelude.slice_get}}
use Rattle.pim_ip.{specs.Ipv4.{header_text, is_multicast, is_unicast, pim_packet_text}, specs.Checksum.with_checksum}
use Rattle.pim_wire.{specs.{Encoded.pim_text, JoinPrunes.join_prune_text}}
use Rattle.pim_types.{specs.{declared.{fact.{JoinTimerRow.JoinTimerRow}, path.Hop.Hop}}}
use Rattle.pim_model.{specs.{declared.accepted.Accepted.Accepted, Full.{is_full}, Neighbours.is_neighbour, Network.{Move, Network, Sent, Station, moved, station_at}, State.{State, iface_count, is_own, is_up, my_address}, Tables.{row_at, same_hop, same_option}, Unicast.rp_of}}
use Rattle.law_streams.{specs.{InTimeJoins.{Always, AreInTime, ComesBy, IsInTime, IsJoin, IsReady, IsRp, IsTaken, IsUnlost, Join, Pair, Source, Star, Wants, entry_of, frame_of, is_lost_at, is_suppressed, is_wanted, join_key, prunes_it, prunes_of, rpf_of, time_at}, Joins.{IsWritable, join_packet, join_value}}, proofs.Computed.{prunes_nothing}}
use Rattle.law_converges.{specs.{JoinedWays.{IsDue, IsHop, IsNear, longest_join}, RpfJoins.IsNextHop, Settles.{Joining, JoiningIsQuiet}}, proofs.{Tested.{Delivery, Found, by_so, comes_by, comes_so, delivery_so, each_found, else_so, found, happens_not, is_by, is_delivery, late_so, late_test, le_so, lt_so, moves_so, always_so, not_so, off_so, or_else, run_test, same_so, then, told_so, told_test}}}

pub hop_so : (o : Option Hop) (h : Hop) → same_hop o (Some h) ≡ true → o ≡ Some h
hop_so None h e = cc e
hop_so (Some k) h e = then e (λ iface address. made (eqb-true _ _ iface) (eqb-true _ _ address))
  where
    made : k.iface.number ≡ h.iface.number → k.address.bits ≡ h.address.bits → Some k ≡ Some h
    made a b = grind arith

pub join_is_pim : (x : Join) (g : ℕ) (c : Pair) (pruned : List ℕ) → slice_get (frame_of x g c pruned).bytes 9 ≡ Some 103
unfolding join_packet pim_packet_text header_text with_checksum
join_is_pim x g c pruned = refl

-- a Join/Prune, by its version and type behind the header of 20 bytes
abbrev pub is_join : Sent → Bool
is_join f = same_option (slice_get f.bytes 20) (Some 0x23)

pub join_is_join : (x : Join) (g : ℕ) (c : Pair) (pruned : List ℕ) → is_join (frame_of x g c pruned) ≡ true
unfolding join_packet pim_packet_text header_text with_checksum join_prune_text pim_text
join_is_join x g c pruned = refl

module _ (d bound : ℕ) (started : ℕ → ℕ) where
  module _ (j : Joining) where
    abbrev x : Join
    x = j.join

    abbrev g : ℕ
    g = j.group

    abbrev c : Pair
    c = j.pair

    abbrev rp_test : Join → State → Bool
    rp_test (Star rp) s = same_option (rp_of s g) (Some rp)
    rp_test (Source src) s = true

    rp_so : (y : Join) (s : State) → rp_test y s ≡ true → IsRp y s g
    rp_so (Star rp) s e = same_so _ _ e
    rp_so (Source src) s e = tt

    abbrev goes_over : Station → Bool
    goes_over st =
        rp_test x st.state && (same_hop (rpf_of x st.state g) (Some c.hop) && ((my_address st.state (c.hop).iface.number == c.from)
        && same_option (slice_get st.links (c.hop).iface.number) (Some c.link)))

    abbrev hears_below : Station → Bool
    hears_below st =
        rp_test x st.state && (nat_lt c.down (iface_count st.state) && (is_up st.state c.down && (is_neighbour st.state c.down c.from
        && (not (is_own st.state c.from) && ((my_address st.state c.down == (c.hop).address.bits)
        && same_option (slice_get st.links c.down) (Some c.link))))))

    -- of the network at each time
    abbrev pub there_at : Network → Bool
    there_at n = option_map_or goes_over (station_at n c.lower) false && option_map_or hears_below (station_at n c.upper) false

    abbrev pub wants_at : Network → Bool
    wants_at n = option_map_or (λ (st : Station). is_wanted x st.state g) (station_at n c.lower) false

    pub there_so : (n : Network) → there_at n ≡ true → IsNextHop x g c n
    there_so n e =
        let f : Found Station goes_over (station_at n c.lower) = found Station goes_over (station_at n c.lower) (first_so _ _ e) in
        let h : Found Station hears_below (station_at n c.upper) = found Station hears_below (station_at n c.upper) (second_so _ _ e) in
        then f.passes (λ rp e. then e (λ rpf e. then e (λ own linked.
        then h.passes (λ its_rp e. then e (λ configured e. then e (λ up e. then e (λ neighbour e. then e (λ other e. then e
        (λ its_own its_link. record {
          below = f.it;
          below_is = f.is;
          goes_over = record {
            rp_known = rp_so x (f.it).state rp;
            rpf = hop_so _ _ rpf;
            own = eqb-true _ _ own;
            linked = same_so _ _ linked;
          };
          above = h.it;
          above_is = h.is;
          listens = record {
            rp_known = rp_so x (h.it).state its_rp;
            hears = record { configured = lt_so _ _ configured; up = up; neighbour = neighbour; other = off_so _ other };
            own = eqb-true _ _ its_own;
            linked = same_so _ _ its_link;
          };
        })))))))))

    pub wants_so : (n : Network) → wants_at n ≡ true → Wants x g c.lower n
    wants_so n e =
        let f : Found Station _ (station_at n c.lower) = found Station _ (station_at n c.lower) e in
        record { station = f.it; there = f.is; wanted = f.passes }

    abbrev pub join_at : Network → Bool
    join_at n = there_at n && wants_at n

    abbrev has_room : Station → Bool
    has_room st = not (is_full st.state
        (Accepted.JoinPruneToMe (record { number = c.down }) (join_value (c.hop).address.bits g (entry_of x) (prunes_of []))))

    abbrev takes_at : (sent : ℕ) → Station → Bool
    takes_at sent st = nat_le sent (time_at started c.upper st) && has_room st

    abbrev join_taken : (number sent : ℕ) → Network → Move → Bool
    join_taken number sent n m =
        is_delivery c.upper c.down number m && option_map_or (takes_at sent) (station_at n c.upper) true

    taken_so : (number sent : ℕ) (n : Network) (m : Move) → join_taken number sent n m ≡ true → IsTaken x g started c [] number sent n m
    taken_so number sent n m e =
        then e (λ delivers e. go (delivery_so c.upper c.down number m delivers) e)
      where
        go : Delivery c.upper c.down number m → option_map_or (takes_at sent) (station_at n c.upper) true ≡ true
            → IsTaken x g started c [] number sent n m
        go f e = record {
          draw = f.draw;
          is = f.is;
          after = λ st at.
              le_so sent (time_at started c.upper st)
              (first_so (nat_le sent (time_at started c.upper st)) (has_room st) (each_found (takes_at sent) (station_at n c.upper) st e at));
          room = λ st at.
              off_so (is_full st.state (Accepted.JoinPruneToMe (record { number = c.down })
              (join_value (c.hop).address.bits g (entry_of x) (prunes_of []))))
              (second_so (nat_le sent (time_at started c.upper st)) (has_room st) (each_found (takes_at sent) (station_at n c.upper) st e at));
        }

    abbrev pub join_rows : State → Option JoinTimerRow
    join_rows s = row_at s.join_timers (join_key x 0 g)

    -- each Join has 54 bytes, so that it prunes nothing
    abbrev it_comes : Network → List Move → Station → ℕ → Sent → Bool
    it_comes next ms st k f =
        (length f.bytes == 54)
        && comes_by started (join_taken k (time_at started c.lower st)) c.upper (time_at started c.lower st + d) next ms

    abbrev join_told : Network → List Move → Station → ℕ → Sent → Bool
    join_told next ms st k f = or_else (not (is_join f)) (λ u. it_comes next ms st k f)

    abbrev join_by : Network → Move → Network → List Move → Bool
    join_by n m next ms =
        late_test d started join_rows (λ (row : JoinTimerRow). row.end) c.lower c.upper n next
        && (told_test c.lower c.link 103 (join_told next ms) n m next
        && (happens_not c.upper (λ s a. prunes_it x g c.down a) n m && happens_not c.lower (λ s a. is_suppressed x s g c.hop a) n m))

    module _ (writable : IsWritable c.from (c.hop).address.bits g (entry_of x) (prunes_of [])) where
      join_so : (n : Network) (m : Move) (ms : List Move) → join_by n m (moved n m).1 ms ≡ true → IsInTime x g d started c n m ms
      join_so n m ms e =
          then e (λ late e. then e (λ told e. then e (λ unpruned alone. record {
            timer = late_so d started join_rows (λ (row : JoinTimerRow). row.end) c.lower c.upper n (moved n m).1 late;
            joins = λ e st number pruned ev at later got.
                then (else_so (is_join (frame_of x g c pruned)) (λ u. it_comes (moved n m).1 ms st number (frame_of x g c pruned))
                (told_so c.lower c.link 103 (join_told (moved n m).1 ms) n m (moved n m).1 told e st number
                (frame_of x g c pruned).bytes ev at later got (join_is_pim x g c pruned)) (join_is_join x g c pruned)) (each st number pruned);
            unpruned = not_so c.upper (λ s a. prunes_it x g c.down a) n m unpruned;
            shared = λ e st ev at is. absurd (never is (not_so c.lower (λ s a. is_suppressed x s g c.hop a) n m alone e st ev at));
          })))
        where
          never : {b : Bool} → b ≡ true → b ≡ false → ⊥
          never e f = let no : true ≡ false = sym e ∙ f in cc

          each : (st : Station) (number : ℕ) (pruned : List ℕ) → (length (frame_of x g c pruned).bytes == 54) ≡ true
              → comes_by started (join_taken number (time_at started c.lower st)) c.upper (time_at started c.lower st + d) (moved n m).1 ms
              ≡ true
              → IsWritable c.from (c.hop).address.bits g (entry_of x) (prunes_of pruned)
              × ComesBy x g d started c pruned number (time_at started c.lower st) (moved n m).1 ms
          each st number pruned fits comes =
              subst (λ (ps : List ℕ). IsWritable c.from (c.hop).address.bits g (entry_of x) (prunes_of ps)
              × ComesBy x g d started c ps number (time_at started c.lower st) (moved n m).1 ms)
              (sym (prunes_nothing c.from (c.hop).address.bits g (entry_of x) pruned (eqb-true _ _ fits))) (
                writable,
                comes_so started (join_taken number (time_at started c.lower st)) c.upper (time_at started c.lower st + d)
                    (λ n ms. ComesBy x g d started c [] number (time_at started c.lower st) n ms) (λ n. tt)
                    (λ n m ms e. inl (taken_so number (time_at started c.lower st) n m e)) (λ n m ms by f. inr (by, f)) ms (moved n m).1 comes,
              )

    -- to begin with
    abbrev pub is_addressed : Bool
    is_addressed =
        not (c.lower == c.upper)
        && (is_unicast c.from && (nat_lt (c.hop).address.bits (2 ^ 32) && (is_multicast g && is_unicast (entry_of x).address.bits)))

    pub writable_so : is_addressed ≡ true → IsWritable c.from (c.hop).address.bits g (entry_of x) (prunes_of [])
    writable_so e =
        then e (λ apart e. then e (λ from e. then e (λ fits e. then e (λ group of. record {
          from_host = from;
          to_fits = lt_so _ _ fits;
          to_group = group;
          of_host = of;
          of_hosts = All-nil _;
          few = lit≤ tt;
        }))))

    in_time_so : (p : Network → Bool) (n : Network) (ms : List Move) → is_addressed ≡ true → run_test p join_by n ms ≡ true
        → AreInTime x g d started c n ms
    in_time_so p n ms addressed passed =
        moves_so p join_by (AreInTime x g d started c) (λ n. tt) (λ n m ms e f. (join_so (writable_so addressed) n m ms e, f)) ms n passed

    abbrev pub join_due : Network → Bool
    join_due n =
        option_map_or (λ (st : Station). option_map_or (λ (row : JoinTimerRow). nat_le (row.end + started c.lower + 2 * d) bound)
        (join_rows st.state) false) (station_at n c.lower) false

    abbrev pub joining_test : Network → List Move → Bool
    joining_test n ms = is_addressed && (join_due n && run_test join_at join_by n ms)

    pub joining_so : (n : Network) (ms : List Move) → IsJoin x g → IsReady c.lower n → IsReady c.upper n
        → joining_test n ms ≡ true → JoiningIsQuiet d bound started n ms j
    joining_so n ms addresses lower upper e =
        then e (λ addressed e. then e (λ due passed.
        let f : Found Station _ (station_at n c.lower) = found Station _ (station_at n c.lower) due in
        let h : Found JoinTimerRow _ (join_rows (f.it).state) = found JoinTimerRow _ (join_rows (f.it).state) f.passes in
        record {
          addresses = addresses;
          comes = record {
            apart = off_so _ (first_so _ _ addressed);
            lower_ready = lower;
            upper_ready = upper;
            there = always_so join_at join_by (IsNextHop x g c) (λ n e. there_so n (first_so _ _ e)) ms n passed;
            in_time = in_time_so join_at n ms addressed passed;
            wants = always_so join_at join_by (Wants x g c.lower) (λ n e. wants_so n (second_so (there_at n) _ e)) ms n passed;
            station = f.it;
            is = f.is;
            row = h.it;
            timer = h.is;
            by = le_so _ _ h.passes;
          };
        }))

    -- what is known of it but what is delivered
    pub record IsDueBy (n : Network) : Type 0 where
      pub station : Station
      pub is : station_at n c.lower ≡ Some station
      pub row : JoinTimerRow
      pub timer : row_at (station.state).join_timers (join_key x 0 g) ≡ Some row
      pub by : row.end + started c.lower + 2 * d ≤ bound

    abbrev pub quiet_test : Network → List Move → Bool
    quiet_test n ms = join_due n && run_test join_at (λ n m next ms. true) n ms

    pub due_of : (n : Network) (ms : List Move) → quiet_test n ms ≡ true → IsDueBy n
    due_of n ms e =
        let f : Found Station _ (station_at n c.lower) = found Station _ (station_at n c.lower) (first_so (join_due n) _ e) in
        let h : Found JoinTimerRow _ (join_rows (f.it).state) = found JoinTimerRow _ (join_rows (f.it).state) f.passes in
        record { station = f.it; is = f.is; row = h.it; timer = h.is; by = le_so _ _ h.passes }

    pub there_of : (n : Network) (ms : List Move) → quiet_test n ms ≡ true → Always (IsNextHop x g c) n ms
    there_of n ms e =
        always_so join_at (λ n m next ms. true) (IsNextHop x g c) (λ n e. there_so n (first_so _ _ e)) ms n (second_so (join_due n) _ e)

    pub wants_of : (n : Network) (ms : List Move) → quiet_test n ms ≡ true → Always (Wants x g c.lower) n ms
    wants_of n ms e =
        always_so join_at (λ n m next ms. true) (Wants x g c.lower) (λ n e. wants_so n (second_so (there_at n) _ e)) ms n (second_so (join_due n) _ e)

    -- ---- of a way

    abbrev pub hop_at : Network → Bool
    hop_at n =
        there_at n && option_map_or (λ (st : Station). not (is_lost_at x st.state g c.down)) (station_at n c.upper) false

    pub unlost_so : (n : Network) → hop_at n ≡ true → IsUnlost x g c n
    unlost_so n e =
        let f : Found Station _ (station_at n c.upper) = found Station _ (station_at n c.upper) (second_so (there_at n) _ e) in
        record { station = f.it; there = f.is; unlost = off_so _ f.passes }

    -- each Join timer of what is joined that runs at the lower one
    abbrev pub timer_test : (State → JoinTimerRow → Bool) → Network → Bool
    timer_test t n =
        option_map_or (λ (st : Station). option_map_or (t st.state) (join_rows st.state) true) (station_at n c.lower) true

    pub timer_so : (t : State → JoinTimerRow → Bool) (n : Network) → timer_test t n ≡ true → (st : Station) (row : JoinTimerRow)
        → station_at n c.lower ≡ Some st → join_rows st.state ≡ Some row → t st.state row ≡ true
    timer_so t n e st row at is =
        each_found (t st.state) (join_rows st.state) row
        (each_found (λ (st : Station). option_map_or (t st.state) (join_rows st.state) true) (station_at n c.lower) st e at) is

    abbrev pub is_near : State → JoinTimerRow → Bool
    is_near s row = nat_le row.end (s.present + longest_join)

    abbrev pub hop_test : Network → List Move → Bool
    hop_test n ms = is_addressed && (timer_test is_near n && run_test hop_at join_by n ms)

    pub is_hop_so : (n : Network) (ms : List Move) → IsReady c.lower n → IsReady c.upper n → hop_test n ms ≡ true
        → IsHop x g d started n ms c
    is_hop_so n ms lower upper e =
        then e (λ addressed e. then e (λ near passed. record {
          apart = off_so _ (first_so _ _ addressed);
          lower_ready = lower;
          upper_ready = upper;
          near = λ st row at is. le_so _ _ (timer_so is_near n near st row at is);
          there = always_so hop_at join_by (IsNextHop x g c) (λ n e. there_so n (first_so _ _ e)) ms n passed;
          in_time = in_time_so hop_at n ms addressed passed;
          unlost = always_so hop_at join_by (IsUnlost x g c) unlost_so ms n passed;
        }))

    -- the first router of a way, which wants it
    abbrev is_due : State → JoinTimerRow → Bool
    is_due s row = nat_le (row.end + started c.lower + 2 * d) bound

    abbrev pub first_test : Network → List Move → Bool
    first_test n ms = is_by started c.lower bound n && (timer_test is_due n && run_test wants_at (λ n m next ms. true) n ms)

    pub first_wants : (n : Network) (ms : List Move) → first_test n ms ≡ true → Always (Wants x g c.lower) n ms
    first_wants n ms e =
        always_so wants_at (λ n m next ms. true) (Wants x g c.lower) wants_so ms n
        (second_so (timer_test is_due n) _ (second_so (is_by started c.lower bound n) _ e))

    pub first_due : (n : Network) (ms : List Move) → first_test n ms ≡ true → IsDue x g d bound started c.lower n
    first_due n ms e = record {
      early = by_so started c.lower bound n (first_so (is_by started c.lower bound n) _ e);
      next = λ st row at is. le_so _ _ (timer_so is_due n (first_so (timer_test is_due n) _ (second_so (is_by started c.lower bound n) _ e)) st row at is);
    }

    -- so of one of its next hops
    abbrev pub near_test : Network → Bool
    near_test n = timer_test is_near n

    pub near_of : (n : Network) → near_test n ≡ true → IsNear x g c.lower n
    near_of n e = λ st row at is. le_so _ _ (timer_so is_near n e st row at is)

    abbrev pub unlost_test : Network → List Move → Bool
    unlost_test n ms = run_test hop_at (λ n m next ms. true) n ms

    pub unlost_of : (n : Network) (ms : List Move) → unlost_test n ms ≡ true → Always (IsUnlost x g c) n ms
    unlost_of n ms e = always_so hop_at (λ n m next ms. true) (IsUnlost x g c) unlost_so ms n e
