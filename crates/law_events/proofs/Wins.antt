-- The winner of an assert that a packet makes may stay.
use Rattle.std.{proofs.Common.{◌≡◌, ◌+◌, ℕ, Bool, true, false, not, ◌&&◌, ◌||◌, is_some, refl, sym, ap, arith}}
use Rattle.pim_types.{specs.{declared.fact.{AssertRole.AssertRole, AssertRow.AssertRow, Key.Key}, Keys.{source_key, star_key}}}
use Rattle.pim_model.{specs.{AssertMacros.{could_assert, could_assert_star, forwarding_set}, Asserts.{my_metric_at, winner_time, wins}, Neighbours.is_dr, Receivers.{is_exclude, local_receiver_exclude, local_receiver_include}, Registers.{could_register, has_other_rp}, Sets.{assert_source, assert_star, is_kept_alive, is_winner, joins, joins_star, lost_assert, lost_assert_star, pim_exclude, pim_include, pim_include_star, prunes, serves, serves_star, spt_bit}, State.State, Unicast.{is_rpf_interface, is_rpf_interface_rp, route, rp_of, rp_route, rpf_interface, rpf_interface_rp}}}
use Rattle.law_settled.{proofs.RowLaws.{row_put, row_put_away}}

module _ (s : State) (k : Key) where
  abbrev pub won : State
  won = (wins s k).0

  abbrev pub winner : AssertRow
  winner = record { role = AssertRole.Winner; winner = my_metric_at s k; end = s.present + winner_time }

  pub could_as_before : (h x : ℕ) → could_register s h x ≡ could_register won h x
  unfolding wins could_register route is_dr has_other_rp rp_of is_kept_alive
  could_as_before h x = refl

module _ (s : State) (g src i : ℕ) where
  star_won : is_winner (assert_star (won s (star_key i g)) g i) ≡ true
  unfolding wins
  star_won = ap is_winner (row_put (star_key i g) (winner s (star_key i g)) s.asserts)

  source_won : is_winner (assert_source (won s (source_key i g src)) g src i) ≡ true
  unfolding wins
  source_won = ap is_winner (row_put (source_key i g src) (winner s (source_key i g src)) s.asserts)

  -- of (*,G)
  pub star_stays : could_assert_star s g i ≡ true → could_assert_star (won s (star_key i g)) g i ≡ true
  unfolding could_assert_star pim_include_star serves_star wins joins_star is_exclude rpf_interface_rp rp_route route rp_of is_dr
  star_stays e =
      go (joins_star s g i) (is_dr s i && not (lost_assert_star s g i)) (is_winner (assert_star s g i)) (is_exclude s g i)
      (is_rpf_interface_rp s g i) (is_dr s i && not (lost_assert_star (won s (star_key i g)) g i))
      (is_winner (assert_star (won s (star_key i g)) g i)) star_won e
    where
      go : (j d w x r d' w' : Bool) → w' ≡ true → ((j || ((d || w) && x)) && not r) ≡ true
          → ((j || ((d' || w') && x)) && not r) ≡ true
      go true d w x r d' w' f h = h
      go false true w x r true w' f h = h
      go false true w x r false true f h = h
      go false true w x r false false f h = cc
      go false false true x r true w' f h = h
      go false false true x r false true f h = h
      go false false true x r false false f h = cc
      go false false false x r d' w' f h = cc

  -- of (S,G): the rows of (*,G) are as they were
  apart : (q : ℕ) → source_key i g src ≡ star_key q g → ⊥
  apart q e = let none : true ≡ false = ap (λ (k : Key). is_some k.source) e in cc

  star_rows : (q : ℕ) → assert_star s g q ≡ assert_star (won s (source_key i g src)) g q
  unfolding wins
  star_rows q = grind (arith, row_put_away, apart)

  forwarding_as_before : forwarding_set s g src i ≡ forwarding_set (won s (source_key i g src)) g src i
  unfolding forwarding_set pim_include_star pim_exclude serves_star lost_assert_star wins joins_star joins prunes is_exclude local_receiver_exclude rpf_interface_rp rp_route route rp_of is_dr
  forwarding_as_before = grind (arith, star_rows)

  pub source_stays : could_assert s g src i ≡ true → could_assert (won s (source_key i g src)) g src i ≡ true
  unfolding could_assert pim_include serves wins local_receiver_include rpf_interface route is_dr spt_bit
  source_stays e =
      go (spt_bit s g src && not (is_rpf_interface s src i)) (forwarding_set s g src i)
      (forwarding_set (won s (source_key i g src)) g src i) (is_dr s i && not (lost_assert s g src i))
      (is_winner (assert_source s g src i)) (local_receiver_include s g src i)
      (is_dr s i && not (lost_assert (won s (source_key i g src)) g src i))
      (is_winner (assert_source (won s (source_key i g src)) g src i)) source_won forwarding_as_before e
    where
      go : (b f f' d w x d' w' : Bool) → w' ≡ true → f ≡ f' → (b && (f || ((d || w) && x))) ≡ true
          → (b && (f' || ((d' || w') && x))) ≡ true
      go false f f' d w x d' w' won same e = e
      go true true f' d w x d' w' won same e = ap (λ c. c || ((d' || w') && x)) (sym same)
      go true false f' d w false d' w' won same e = let no : ((d || w) && false) ≡ true = e in absurd (never (d || w) no)
        where
          never : (a : Bool) → (a && false) ≡ true → ⊥
          never true e = cc
          never false e = cc
      go true false f' d w true true w' won same e = ap (λ c. c || true) (sym same)
      go true false f' d w true false true won same e = ap (λ c. c || true) (sym same)
      go true false f' d w true false false won same e = cc
