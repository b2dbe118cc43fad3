-- Who lost an assert sends no packet that it is about.
use Rattle.std.{proofs.Common.{◌≡◌, ◌∙◌, ℕ, ◌&&◌, ◌||◌, ◌==◌, not, Bool, true, false, cond, List, [], ◌∷◌, ◌⊎◌, inl, inr, Some, refl, sym, ap, subst, arith, eqb-true}, specs.{Cmp.{Derive.both_true, first_so, second_so}, Option.option_map_or}}
use Rattle.pim_ip.{specs.Ipv4.Packet}
use Rattle.pim_types.{specs.{Keys.{source_key, star_key}, declared.fact.{AssertMetric.AssertMetric, AssertRow.AssertRow}}}
use Rattle.pim_model.{specs.{declared.accepted.Accepted.Accepted, Forwarding.{Forwarded, forwarded, list_chosen, stray, watched}, Network.{Move, Network, Station, moved, station_at}, Sets.{assert_source, inherited_olist, inherited_olist_rpt, is_beaten, is_better, is_loser, lost_assert, lost_assert_rpt, lost_assert_star, spt_bit, spt_metric, tunnel}, State.State, Step.change, Tables.row_at, Unicast.{is_rpf_interface, is_rpf_interface_rp, route, rp_of, rp_route, rpf_interface, rpf_interface_rp}}}
use Rattle.law_settled.{proofs.ListLaws.by_cond}
use Rattle.law_streams.{specs.{Adjacent.Adjacent, InTimeJoins.{Always, IsBy}, Served.renewed}, proofs.{Made.forwarded_configured, Pairs.same_station}}
use Rattle.law_converges.{specs.{LinkAsserts.lost_to, LinkLosers.{HasLostAfter, HasLostTo, winner_of}, OneSender.{AtMostOneComesToSend, AtMostOneSends, IsOffTree, IsSilent, IsSilentAfter, LoserSendsNone, is_silenced}}, proofs.{LinkJoins.first_of, LinkLosers.{loser_comes_to_stay, loser_stays_loser}, NoCopy.{kept, no_copy, renewed_kept, with_kept}}}

-- ---- what a lost assert reads, which a packet's facts leave

module _ (s t : State) (same : kept t ≡ kept s) (g src j : ℕ) where
  star_same : lost_assert_star t g j ≡ lost_assert_star s g j
  unfolding lost_assert_star rpf_interface_rp rp_route rp_of route
  star_same = λ x. lost_assert_star (with_kept s (same x)) g j

  source_same : lost_assert t g src j ≡ lost_assert s g src j
  unfolding lost_assert rpf_interface route is_beaten spt_metric
  source_same = λ x. lost_assert (with_kept s (same x)) g src j

  -- a source's own way there says that SPTbit doesn't matter
  rpt_so : (a b c d l x : Bool) → ((not b && l) && x) ≡ true → (not (a || (b && c)) && l) ≡ true → (not (a || (b && d)) && l) ≡ true
  rpt_so a b c d l x e f = grind arith

  rpt_stays : lost_assert s g src j ≡ true → lost_assert_rpt s g src j ≡ true → lost_assert_rpt t g src j ≡ true
  unfolding lost_assert lost_assert_rpt rpf_interface rpf_interface_rp rp_route rp_of route
  rpt_stays lost rpt =
      (λ x. not (is_rpf_interface_rp (with_kept s (same x)) g j || (is_rpf_interface (with_kept s (same x)) src j && spt_bit t g src))
      && is_loser (row_at (same x).asserts (source_key j g src)))
      ∙ rpt_so (is_rpf_interface_rp s g j) (is_rpf_interface s src j) (spt_bit s g src) (spt_bit t g src) (is_loser (assert_source s g src j))
      (is_beaten s g src j) lost rpt

-- ---- the lists

off_by : (a b : Bool) → b ≡ true → (a && not b) ≡ false
off_by a b e = grind arith

module _ (t : State) (g src j : ℕ) where
  abbrev rpt_lost : Bool
  rpt_lost = lost_assert_star t g j || lost_assert_rpt t g src j

  off_rpt : rpt_lost ≡ true → inherited_olist_rpt t g src j ≡ false
  unfolding inherited_olist_rpt
  off_rpt lost = off_by _ rpt_lost lost

  off_source : lost_assert t g src j ≡ true → inherited_olist t g src j ≡ false
  unfolding inherited_olist
  off_source lost = off_by _ (lost_assert t g src j) lost

  module _ (iif : ℕ) where
    abbrev Without : Forwarded → Type 0
    Without f = f.list j ≡ false

    none_of_source : lost_assert t g src j ≡ true → rpt_lost ≡ true → Without (list_chosen t g src iif)
    unfolding list_chosen stray
    none_of_source lost rpt =
        by_cond Without (is_rpf_interface t src iif && spt_bit t g src) _ _ (off_source lost)
        (by_cond Without (is_rpf_interface_rp t g iif && not (spt_bit t g src)) _ _ (off_rpt rpt) refl)

    none_of_group : (is_rpf_interface t src iif && spt_bit t g src) ≡ false → rpt_lost ≡ true → Without (list_chosen t g src iif)
    unfolding list_chosen stray
    none_of_group off rpt =
        subst (λ (b : Bool). Without (cond b (record { state = t; messages = []; list = inherited_olist t g src; to_tunnel = tunnel t g src })
        (cond (is_rpf_interface_rp t g iif && not (spt_bit t g src))
        (record { state = watched t g src; messages = []; list = inherited_olist_rpt t g src; to_tunnel = false }) (stray t g src iif)))) (sym off)
        (by_cond Without (is_rpf_interface_rp t g iif && not (spt_bit t g src)) _ _ (off_rpt rpt) refl)

-- ---- one router

either_first : (a b : Bool) → a ≡ true → (a || b) ≡ true
either_first a b e = grind arith

either_second : (a b : Bool) → b ≡ true → (a || b) ≡ true
either_second a b e = grind arith

not_so : (a : Bool) → not a ≡ true → a ≡ false
not_so a e = grind arith

module _ (s : State) (iif : ℕ) (p : Packet) (src j : ℕ) where
  abbrev t : State
  t = renewed s p.destination p.source iif

  abbrev same : kept t ≡ kept s
  same = renewed_kept s p.destination p.source iif

  list_off : (b : Bool) → (src == 0) ≡ b
      → cond b (not (is_rpf_interface t p.source iif && spt_bit t p.destination p.source)) (p.source == src) ≡ true
      → cond b (lost_assert_star s p.destination j) (lost_assert s p.destination src j && lost_assert_rpt s p.destination src j) ≡ true
      → (list_chosen t p.destination p.source iif).list j ≡ false
  list_off true zero about lost =
      none_of_group t p.destination p.source j iif (not_so _ about)
      (either_first _ _ (star_same s t same p.destination p.source j ∙ lost))
  list_off false zero about lost =
      let is : p.source ≡ src = eqb-true p.source src about in
      let tree : lost_assert s p.destination p.source j ≡ true =
      subst (λ (x : ℕ). lost_assert s p.destination x j ≡ true) (sym is) (first_so (lost_assert s p.destination src j) _ lost) in
      let rpt : lost_assert_rpt s p.destination p.source j ≡ true =
      subst (λ (x : ℕ). lost_assert_rpt s p.destination x j ≡ true) (sym is) (second_so (lost_assert s p.destination src j) _ lost) in
      none_of_source t p.destination p.source j iif (source_same s t same p.destination p.source j ∙ tree)
      (either_second _ _ (rpt_stays s t same p.destination p.source j tree rpt))

pub loser_sends_none : LoserSendsNone
unfolding change forwarded renewed
loser_sends_none s e i p g src j text was about lost c =
    let is : p.destination ≡ g = eqb-true p.destination g (first_so (p.destination == g) _ about) in
    no_copy s e (Accepted.Data i p) p (forwarded s p.destination p.source i.number) j was refl refl
    (forwarded_configured s p.destination p.source i.number)
    (ap (λ (b : Bool). b && not (j == i.number))
    (list_off s i.number p src j (src == 0) refl (second_so (p.destination == g) _ about)
    (subst (λ (x : ℕ). is_silenced s x src j ≡ true) (sym is) lost)))
    text c

-- ---- two routers of a link

module _ (g src : ℕ) (metric : AssertMetric) (c : Adjacent) where
  silenced_by : (s : State) (until : ℕ) (b : Bool) → (src == 0) ≡ b
      → row_at s.asserts (cond b (star_key c.down g) (source_key c.down g src)) ≡ Some (lost_to (winner_of g src metric c) until)
      → is_rpf_interface_rp s g c.down ≡ false → (b ≡ false → is_rpf_interface s src c.down ≡ false)
      → (b ≡ false → is_better (winner_of g src metric c) (spt_metric s src c.down) ≡ true)
      → cond b (lost_assert_star s g c.down) (lost_assert s g src c.down && lost_assert_rpt s g src c.down) ≡ true
  unfolding lost_assert_star lost_assert lost_assert_rpt is_beaten
  silenced_by s until true zero row group source beaten = λ x. not (group x) && is_loser (row x)
  silenced_by s until false zero row group source beaten =
      both_true
      ((λ x. (not (source refl x) && is_loser (row x)) && option_map_or (λ (r : AssertRow). is_better r.winner (spt_metric s src c.down)) (row x) false)
      ∙ beaten refl)
      (λ x. not (group x || (source refl x && spt_bit s g src)) && is_loser (row x))

  pub silenced : (n : Network) → HasLostTo g src metric c n → IsOffTree g src metric c n → (st : Station) → station_at n c.upper ≡ Some st
      → is_silenced st.state g src c.down ≡ true
  silenced n lost off st at =
      let row = subst (λ (z : Station). row_at (z.state).asserts (cond (src == 0) (star_key c.down g) (source_key c.down g src))
      ≡ Some (lost_to (winner_of g src metric c) lost.until)) (same_station lost.there at) lost.found in
      let here : off.station ≡ st = same_station off.there at in
      silenced_by st.state lost.until (src == 0) refl row
      (subst (λ (z : Station). is_rpf_interface_rp z.state g c.down ≡ false) here off.group)
      (λ some. subst (λ (z : Station). is_rpf_interface z.state src c.down ≡ false) here (off.source some))
      (λ some. subst (λ (z : Station). is_better (winner_of g src metric c) (spt_metric z.state src c.down) ≡ true) here (off.beaten some))

  silent : (n : Network) → HasLostTo g src metric c n → IsOffTree g src metric c n → IsSilent g src c n
  silent n lost off e st i p text at was about has = loser_sends_none st.state e i p g src c.down text was about (silenced n lost off st at) has

  throughout : (ms : List Move) (n : Network) → Always (HasLostTo g src metric c) n ms → Always (IsOffTree g src metric c) n ms
      → Always (IsSilent g src c) n ms
  throughout [] n lost off = silent n lost off
  throughout (m ∷ ms) n lost off = (silent n lost.0 off.0, throughout ms (moved n m).1 lost.1 off.1)

  pub after_so : (started : ℕ → ℕ) (bound : ℕ) (ms : List Move) (n : Network) → HasLostAfter g src metric started c bound n ms
      → Always (IsOffTree g src metric c) n ms → IsSilentAfter g src started c bound n ms
  after_so started bound [] n lost off = tt
  after_so started bound (m ∷ ms) n lost off = (go lost.0, after_so started bound ms (moved n m).1 lost.1 off.1)
    where
      go : IsBy started c.upper bound (moved n m).1 ⊎ HasLostTo g src metric c (moved n m).1
          → IsBy started c.upper bound (moved n m).1 ⊎ IsSilent g src c (moved n m).1
      go (inl by) = inl by
      go (inr h) = inr (silent (moved n m).1 h (first_of (IsOffTree g src metric c) (moved n m).1 ms off.1))

pub at_most_one_sends : AtMostOneSends
at_most_one_sends g src metric d bound started c n ms few f wins loses off =
    throughout g src metric c ms n (loser_stays_loser g src metric d bound started c n ms few f wins loses) off

pub at_most_one_comes_to_send : AtMostOneComesToSend
at_most_one_comes_to_send g src metric d bound started c n ms few f wins off =
    after_so g src metric c started bound ms n (loser_comes_to_stay g src metric d bound started c n ms few f wins) off
