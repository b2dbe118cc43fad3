-- Whether a router of a link wins an assert, and another gives way to it and stays the loser: tests, and that where they pass it is so.
use Rattle.std.{proofs.{Common.{◌≡◌, ℕ, ◌+◌, ◌*◌, ◌≤◌, ◌==◌, nat_le, nat_lt, not, ◌&&◌, ◌||◌, Bool, true, false, List, Option, Some, None, refl, arith, eqb-true, eq-eqb}, lemmas.{Bool.Decides.nat_tests}}, specs.{Cmp.{first_so, second_so}, Option.option_map_or, Prelude.slice_get}}
use Rattle.pim_ip.{specs.{Addr.addr, Checksum.with_checksum, Ipv4.{header_text, pim_packet_text}}}
use Rattle.pim_types.{specs.{Keys.same_key, declared.{event.Event.Event, fact.{AssertMetric.AssertMetric, AssertRow.AssertRow, Key.Key}}}}
use Rattle.pim_wire.{specs.{Asserts.assert_text, Encoded.pim_text}}
use Rattle.pim_model.{specs.{declared.accepted.Accepted.Accepted, Asserts.{asserted_metric, theirs_of}, Cause.done_as, Full.is_full, Neighbours.is_neighbour, Network.{Move, Network, Sent, Station, event_of, frame_at, station_at}, Rows.same_metric, Sets.{is_better, is_loser, is_winner, spt_metric}, State.{State, iface_count, is_own, is_up, my_address}, Tables.{row_at, same_option}, Unicast.{is_rpf_interface, is_rpf_interface_rp}}}
use Rattle.law_events.{proofs.SameRows.metrics}
use Rattle.law_streams.{specs.{Adjacent.Adjacent, Copies.happens, InTimeJoins.Always}}
use Rattle.law_converges.{specs.{Carried.EachMove, CarriedLinks.{GivesWay, LoserKeeps, Yields}, LinkAsserts.{IsSayable, assert_packet, gives_way, is_about, key_about, loses_to, lost_to, said}, LinkLosers.{AssertsBy, KeepsLoss, LosesUntil, Wins, ends_loss, loser_key, reads_assert, survives, winner_key, winner_of}, OneSender.IsOffTree}, proofs.{KeepsTests.{delivered_so, delivery_test}, Tested.{Found, always_so, each_found, else_so, found, le_so, lt_so, moves_so, off_so, or_else, run_test, same_so, then}}}

-- an Assert, by its version and type behind the header of 20 bytes
abbrev pub is_assert : Sent → Bool
is_assert f = same_option (slice_get f.bytes 20) (Some 0x25)

pub assert_is_assert : (link from g src : ℕ) (m : AssertMetric) → is_assert (record { link = Some link; bytes = assert_packet from g src m }) ≡ true
unfolding pim_packet_text header_text with_checksum assert_text pim_text
assert_is_assert link from g src m = refl

module _ (d bound : ℕ) (started : ℕ → ℕ) (g src : ℕ) (metric : AssertMetric) (c : Adjacent) where
  abbrev its_winner : AssertMetric
  its_winner = winner_of g src metric c

  -- ---- the winner

  abbrev wins_row : Station → AssertRow → Bool
  wins_row st row =
      is_winner (Some row) && (same_metric (asserted_metric st.state (winner_key g src metric c)) metric
      && ((my_address st.state c.iface == c.address) && same_option (slice_get st.links c.iface) (Some c.link)))

  abbrev wins_at : Network → Bool
  wins_at n = option_map_or (λ (st : Station). option_map_or (wins_row st) (row_at (st.state).asserts (winner_key g src metric c)) false)
      (station_at n c.lower) false

  wins_so : (n : Network) → wins_at n ≡ true → Wins g src metric c n
  wins_so n e =
      let f : Found Station _ (station_at n c.lower) = found Station _ (station_at n c.lower) e in
      let h : Found AssertRow (wins_row f.it) (row_at ((f.it).state).asserts (winner_key g src metric c)) = found AssertRow (wins_row f.it) _ f.passes in
      then h.passes (λ wins e. then e (λ sent e. then e (λ own linked. record {
        station = f.it;
        there = f.is;
        row = h.it;
        found = h.is;
        wins = wins;
        sent = metrics _ _ sent;
        own = eqb-true _ _ own;
        linked = same_so _ _ linked;
      })))

  -- to begin with its next Assert is due in time
  abbrev pub due_test : Network → Bool
  due_test n = option_map_or (λ (st : Station). option_map_or (λ (row : AssertRow). nat_le (row.end + started c.lower + 2 * d) bound)
      (row_at (st.state).asserts (winner_key g src metric c)) false) (station_at n c.lower) false

  pub due_so : (n : Network) → due_test n ≡ true → AssertsBy g src metric d bound started c n
  due_so n e =
      let f : Found Station _ (station_at n c.lower) = found Station _ (station_at n c.lower) e in
      let h : Found AssertRow _ (row_at ((f.it).state).asserts (winner_key g src metric c)) = found AssertRow _ _ f.passes in
      record { station = f.it; there = f.is; row = h.it; found = h.is; by = le_so _ _ h.passes }

  -- ---- the other one

  abbrev off_station : Station → Bool
  off_station st =
      not (is_rpf_interface_rp st.state g c.down) && ((src == 0)
      || (not (is_rpf_interface st.state src c.down) && is_better its_winner (spt_metric st.state src c.down)))

  abbrev pub off_at : Network → Bool
  off_at n = option_map_or off_station (station_at n c.upper) false

  pub off_tree_so : (n : Network) → off_at n ≡ true → IsOffTree g src metric c n
  off_tree_so n e =
      let f : Found Station off_station (station_at n c.upper) = found Station off_station (station_at n c.upper) e in
      then f.passes (λ group source. record {
        station = f.it;
        there = f.is;
        group = off_so _ group;
        source = λ some. off_so _ (first_so _ _ (other (src == 0) _ some source));
        beaten = λ some. second_so _ _ (other (src == 0) _ some source);
      })
    where
      other : (a b : Bool) → a ≡ false → (a || b) ≡ true → b ≡ true
      other a b e f = grind arith

  abbrev gives_at : (draw : ℕ) → Station → Bool
  gives_at draw st =
      nat_lt c.down (iface_count st.state) && (is_up st.state c.down && (is_neighbour st.state c.down c.address && (not (is_own st.state c.address)
      && (same_option (slice_get st.links c.down) (Some c.link)
      && (not (is_full st.state (Accepted.Assert (record { number = c.down }) (addr c.address) (said g src metric)))
      && (loses_to st.state (loser_key g src metric c) its_winner
      && survives (loser_key g src metric c) its_winner st.state draw
      (Some (Accepted.Assert (record { number = c.down }) (addr c.address) (said g src metric)))))))))

  abbrev gives_frame : Network → (k draw : ℕ) → Bool
  gives_frame n k draw = option_map_or (λ (f : Sent). or_else (not (is_assert f)) (λ u. option_map_or (gives_at draw) (station_at n c.upper) false))
      (frame_at n k) true

  gives_so : (n : Network) (draw : ℕ) → option_map_or (gives_at draw) (station_at n c.upper) false ≡ true → GivesWay g src metric c draw n
  gives_so n draw e =
      let f : Found Station (gives_at draw) (station_at n c.upper) = found Station (gives_at draw) (station_at n c.upper) e in
      then f.passes (λ configured e. then e (λ up e. then e (λ neighbour e. then e (λ other e. then e (λ linked e. then e (λ room e. then e (λ can stays. record {
        station = f.it;
        there = f.is;
        can = record {
          hears = record { configured = lt_so _ _ configured; up = up; neighbour = neighbour; other = off_so _ other };
          linked = same_so _ _ linked;
          room = off_so _ room;
          gives = can;
        };
        stays = stays;
      })))))))

  one_end : (c about gives : Bool) (x end until : ℕ) → end ≤ until → (c && not (about && (gives && nat_le until x))) ≡ false
      → (c && not (about && (gives && nat_le end x))) ≡ false
  one_end c about gives x end until le e = grind (arith, nat_tests, le)

  -- a loss that ends no later is no more likely to be ended
  no_sooner : (s : State) (k : Key) (end until : ℕ) → end ≤ until → (a : Option Accepted) → ends_loss s k its_winner until a ≡ false
      → ends_loss s k its_winner end a ≡ false
  no_sooner s k end until le None e = refl
  no_sooner s k end until le (Some (Accepted.Assert j from a)) e =
      one_end (reads_assert k j.number a && (is_better (theirs_of a from.bits) its_winner || (from.bits == (its_winner).address.bits)))
      ((is_about a && same_key (key_about j.number a) k) && same_metric (theirs_of a from.bits) its_winner)
      (gives_way s k (lost_to its_winner until) (theirs_of a from.bits)) (s.present + 180000) end until le e
  no_sooner s k end until le (Some (Accepted.Hello j from h)) e = e
  no_sooner s k end until le (Some (Accepted.Down j)) e = e
  no_sooner s k end until le (Some (Accepted.JoinPruneToMe j m)) e = e
  no_sooner s k end until le (Some a) e = grind arith

  abbrev kept_row : Station → Event → AssertRow → Bool
  kept_row st e row = or_else (not (is_loser (Some row)))
      (λ u. not (ends_loss st.state (loser_key g src metric c) its_winner row.end (done_as (happens st.state e)))
      && survives (loser_key g src metric c) its_winner st.state e.draw (done_as (happens st.state e)))

  abbrev kept_at : Network → Move → Bool
  kept_at n m = option_map_or (λ (e : ℕ × Event). or_else (not (e.0 == c.upper)) (λ u. option_map_or (λ (st : Station).
      option_map_or (kept_row st e.1) (row_at (st.state).asserts (loser_key g src metric c)) true) (station_at n c.upper) true)) (event_of n m) true

  kept_so : (n : Network) (m : Move) → kept_at n m ≡ true → (e : Event) (st : Station) (end : ℕ) → event_of n m ≡ Some (c.upper, e)
      → station_at n c.upper ≡ Some st → LosesUntil st.state (loser_key g src metric c) its_winner end
      → KeepsLoss st.state (loser_key g src metric c) its_winner end e
  kept_so n m passed e st end ev at loses =
      then (else_so (is_loser (Some (lost_to its_winner loses.until))) (λ u.
      not (ends_loss st.state (loser_key g src metric c) its_winner loses.until (done_as (happens st.state e)))
      && survives (loser_key g src metric c) its_winner st.state e.draw (done_as (happens st.state e)))
      (each_found (kept_row st e) (row_at (st.state).asserts (loser_key g src metric c)) (lost_to its_winner loses.until)
      (each_found (λ (st : Station). option_map_or (kept_row st e) (row_at (st.state).asserts (loser_key g src metric c)) true) (station_at n c.upper) st
      (else_so (c.upper == c.upper) _ (each_found (λ (e : ℕ × Event). or_else (not (e.0 == c.upper)) (λ u. option_map_or (λ (st : Station).
      option_map_or (kept_row st e.1) (row_at (st.state).asserts (loser_key g src metric c)) true) (station_at n c.upper) true))
      (event_of n m) (c.upper, e) passed ev) (eq-eqb c.upper c.upper refl)) at) loses.found) refl)
      (λ own way. record {
        own = no_sooner st.state (loser_key g src metric c) end loses.until loses.lasts (done_as (happens st.state e)) (off_so _ own);
        way = way;
      })

  abbrev pub loser_keeps : Network → Move → Bool
  loser_keeps n m = delivery_test c.upper c.down (λ k draw. gives_frame n k draw) m && kept_at n m

  pub loser_keeps_so : (n : Network) (m : Move) → loser_keeps n m ≡ true → LoserKeeps g src metric c n m
  loser_keeps_so n m e =
      then e (λ given kept. record {
        gives = λ number draw is framed. gives_so n draw (else_so (is_assert (its_frame)) (λ u. option_map_or (gives_at draw) (station_at n c.upper) false)
            (each_found (λ (f : Sent). or_else (not (is_assert f)) (λ u. option_map_or (gives_at draw) (station_at n c.upper) false)) (frame_at n number)
            its_frame (delivered_so c.upper c.down (λ k draw. gives_frame n k draw) m given number draw is) framed)
            (assert_is_assert c.link c.address g src metric));
        keeps = kept_so n m kept;
      })
    where
      its_frame : Sent
      its_frame = record { link = Some c.link; bytes = assert_packet c.address g src metric }

  -- ---- both

  abbrev claim_at : Network → Bool
  claim_at n = wins_at n && off_at n

  abbrev pub claim_test : Network → List Move → Bool
  claim_test n ms = run_test claim_at (λ n m next ms. loser_keeps n m) n ms

  pub yields_so : (n : Network) (ms : List Move) → IsSayable c.address g src metric → is_about (said g src metric) ≡ true → claim_test n ms ≡ true
      → Yields g src metric c n ms
  yields_so n ms sayable about e = record {
    sayable = sayable;
    about = about;
    wins = always_so claim_at (λ n m next ms. loser_keeps n m) (Wins g src metric c) (λ n e. wins_so n (first_so (wins_at n) _ e)) ms n e;
    hears = moves_of ms n e;
  }
    where
      moves_of : (ms : List Move) (n : Network) → claim_test n ms ≡ true → EachMove (LoserKeeps g src metric c) n ms
      moves_of ms n e =
          moves_so claim_at (λ n m next ms. loser_keeps n m) (EachMove (LoserKeeps g src metric c)) (λ n. tt) (λ n m ms e f. (loser_keeps_so n m e, f)) ms n e

  -- wherever the way of the other one leads
  abbrev pub yields_test : Network → List Move → Bool
  yields_test n ms = run_test wins_at (λ n m next ms. loser_keeps n m) n ms

  pub yields_by : (n : Network) (ms : List Move) → IsSayable c.address g src metric → is_about (said g src metric) ≡ true → yields_test n ms ≡ true
      → Yields g src metric c n ms
  yields_by n ms sayable about e = record {
    sayable = sayable;
    about = about;
    wins = always_so wins_at (λ n m next ms. loser_keeps n m) (Wins g src metric c) wins_so ms n e;
    hears = moves_so wins_at (λ n m next ms. loser_keeps n m) (EachMove (LoserKeeps g src metric c)) (λ n. tt)
        (λ n m ms e f. (loser_keeps_so n m e, f)) ms n e;
  }

  pub off_tree : (n : Network) (ms : List Move) → claim_test n ms ≡ true → Always (IsOffTree g src metric c) n ms
  off_tree n ms e =
      always_so claim_at (λ n m next ms. loser_keeps n m) (IsOffTree g src metric c) (λ n e. off_tree_so n (second_so (wins_at n) _ e)) ms n e
