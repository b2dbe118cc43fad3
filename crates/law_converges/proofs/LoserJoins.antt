-- The winner's Asserts come in time, and so the loser stays one; on its way to the RP, or to the source, the winner is RPF'.
use Rattle.std.{proofs.{Common.{Bool, List, Some, [], ap, arith, eqb-true, false, inl, inr, length, refl, subst, sym, true, ℕ, ◌==◌, ◌∙◌, ◌∷◌, ◌≡◌, ◌≤◌, ◌⊎◌}, lemmas.Bool.Decides.nat_tests}}
use Rattle.pim_types.{specs.declared.fact.{AssertMetric.AssertMetric, AssertRow.AssertRow, Key.Key}}
use Rattle.pim_model.{specs.{Network.{Move, Network, Station, moved, station_at}, Sets.{is_loser, is_winner}, Tables.{hop_at, row_at}}}
use Rattle.law_streams.{proofs.{Climbs.swapped, Pairs.{ready_then, same_station}}, specs.{Adjacent.Adjacent, InTimeJoins.{IsBy, IsJoin, IsReady, Join, Source, Star, join_key, time_at}}}
use Rattle.law_converges.{proofs.{CarriedLinks.asserts_in_time, LinkLosers.loser_comes_to_stay, Past.{both_past, same_past, throughout_past}, RoutesToRp.too_late, RpfStays.rpf_by_assert}, specs.{Carried.{Arrivals, Traffic}, CarriedNetwork.{AreOn, HopOn, number_of}, LinkAsserts.{key_about, lost_to, said}, LinkDr.between, LinkLosers.{HasLostAfter, HasLostTo, Wins, winner_of}, LoserJoins.{JoinsWinner, LoserJoinsWinner, YieldsTo, source_number}, Past.{ArePast, HoldsPast}, RoutesToRp.{ByAssert, IsChosen, IsRouted, IsRpf, LanMeets}, Settles.routers}}

-- the machine that an assert about what is joined is of
its_key : (x : Join) (g i : ℕ) (metric : AssertMetric) → IsJoin x g → key_about i (said g (source_number x) metric) ≡ join_key x i g
its_key (Star rp) g i metric isg = refl
its_key (Source src) g i metric isg = some (src == 0) refl
  where
    none_zero : src ≡ 0 → ⊥
    none_zero e = grind (arith, nat_tests, e, isg.host)

    some : (b : Bool) → (src == 0) ≡ b → key_about i (said g src metric) ≡ join_key (Source src) i g
    some true e = absurd (none_zero (eqb-true src 0 e))
    some false e = rw e refl

lost_past : (g src : ℕ) (metric : AssertMetric) (started : ℕ → ℕ) (c : Adjacent) (bound : ℕ) (ms : List Move) (n : Network) → IsReady c.upper n
    → HasLostAfter g src metric started c bound n ms → HoldsPast started bound (HasLostTo g src metric c) n ms
lost_past g src metric started c bound [] n ready f = tt
lost_past g src metric started c bound (m ∷ ms) n ready f = (λ past. go past f.0, lost_past g src metric started c bound ms (moved n m).1 then f.1)
  where
    then : IsReady c.upper (moved n m).1
    then = ready_then c.upper n m ready

    go : ArePast started bound (moved n m).1 → IsBy started c.upper bound (moved n m).1 ⊎ HasLostTo g src metric c (moved n m).1
        → HasLostTo g src metric c (moved n m).1
    go past (inl by) =
        absurd (too_late (time_at started c.upper (then).station) bound bound (by (then).station (then).there) (itself bound)
        (past c.upper (then).station (then).there))
      where
        itself : (a : ℕ) → a ≤ a
        itself a = omega arith
    go past (inr lost) = lost

-- who chooses by an assert that is lost on its way has the winner as RPF'
rpf_so : (x : Join) (g : ℕ) (h : HopOn) (n : Network) → IsRouted x g h n → (r : AssertRow) → is_loser (Some r) ≡ true
    → r.winner.address.bits ≡ (h.upper).address → (st : Station) → station_at n (h.lower).router ≡ Some st
    → row_at (st.state).asserts (join_key x (h.lower).iface g) ≡ Some r → IsRpf x g h n
rpf_so x g h n f r lost to st at found = record {
  station = f.below;
  there = f.below_is;
  rpf = rpf_by_assert x g (f.below).state f.path r (h.lower).iface f.route f.over
      (subst (λ (z : Station). row_at (z.state).asserts (join_key x (h.lower).iface g) ≡ Some r) (same_station at f.below_is) found) lost
      ∙ ap (λ (a : ℕ). Some (hop_at (h.lower).iface a)) to;
}

module _ (x : Join) (g d late bound : ℕ) (started : ℕ → ℕ) (t : Traffic) (came : Arrivals) (n : Network) (ms : List Move) (h : HopOn)
    (isg : IsJoin x g) (lan : LanMeets d late bound started t came n ms h.lan) (on : AreOn h.lan h.lower h.upper)
    (y : YieldsTo x g d bound started h n ms) where
  abbrev c : Adjacent
  c = between (number_of h.lan) h.upper h.lower

  abbrev src : ℕ
  src = source_number x

  abbrev Both : Network → Type 0
  Both n = HasLostTo g src y.metric c n × Wins g src y.metric c n

  -- the lower one has lost, and the upper one wins
  lost : HoldsPast started bound Both n ms
  lost =
      both_past started bound (HasLostTo g src y.metric c) (Wins g src y.metric c) Both (λ n a b. (a, b)) ms n
      (lost_past g src y.metric started c bound ms n (lan.ready h.lower on.lower)
      (loser_comes_to_stay g src y.metric d bound started c n ms y.few (record {
        sayable = (y.yields).sayable;
        about = (y.yields).about;
        ready = lan.ready h.lower on.lower;
        wins = (y.yields).wins;
        in_time = asserts_in_time d late started t (number_of h.lan) (routers (h.lan).link) (length n.frames) h.upper h.lower on.lower
            (swapped (h.lower).router (h.upper).router on.apart) g src y.metric ms n came lan.carried (y.yields).hears;
      }) y.by))
      (throughout_past started bound (Wins g src y.metric c) ms n (y.yields).wins)

  no_loser : (r : AssertRow) → is_winner (Some r) ≡ true → is_loser (Some r) ≡ false
  no_loser r e = grind (arith, e)

  found_at : (n : Network) (f : Both n)
      → row_at ((f.0).station).state.asserts (join_key x (h.lower).iface g) ≡ Some (lost_to (winner_of g src y.metric c) (f.0).until)
  found_at n f = ap (row_at ((f.0).station).state.asserts) (sym (its_key x g (h.lower).iface y.metric isg)) ∙ (f.0).found

  chosen_so : (n : Network) → Both n → IsChosen x g h n
  chosen_so n f = record {
    below = (f.0).station;
    below_is = (f.0).there;
    chooses = ByAssert (lost_to (winner_of g src y.metric c) (f.0).until) (found_at n f) refl refl;
    above = (f.1).station;
    above_is = (f.1).there;
    unlost_above = ap (λ (k : Key). is_loser (row_at ((f.1).station).state.asserts k)) (sym (its_key x g (h.upper).iface y.metric isg))
        ∙ (ap is_loser (f.1).found ∙ no_loser (f.1).row (f.1).wins);
  }

  rpf_then : (n : Network) → IsRouted x g h n → Both n → IsRpf x g h n
  rpf_then n f b =
      rpf_so x g h n f (lost_to (winner_of g src y.metric c) (b.0).until) refl refl (b.0).station (b.0).there (found_at n b)

  joins_winner : JoinsWinner x g bound started h n ms
  joins_winner = record {
    chosen = same_past started bound Both (IsChosen x g h) chosen_so ms n lost;
    rpf = λ routed.
        both_past started bound (IsRouted x g h) Both (IsRpf x g h) rpf_then ms n (throughout_past started bound (IsRouted x g h) ms n routed) lost;
  }

pub loser_joins_winner : LoserJoinsWinner
loser_joins_winner = joins_winner
