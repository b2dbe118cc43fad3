-- What is asked of a source, with other neighbours: whether it is named is what it was where its next hops are the
-- same, and so is what is answered of it, where these are the same or it isn't wanted.
use Rattle.std.{proofs.Common.{◌≡◌, ◌&&◌, ℕ, Bool, false, not, ◌∙◌, arith}, specs.Option.option_map_or}
use Rattle.pim_types.{specs.{declared.fact.NeighbourRow.NeighbourRow, Keys.source_key}}
use Rattle.pim_model.{specs.{Cache.{answers, is_contested}, Desires.{join_desired, winner_hop}, Forwarding.is_spt_reached, Neighbours.{is_dr, nbr}, Receivers.{is_exclude, local_receiver_exclude, local_receiver_include}, Registers.is_spt_wanted, Rows.{same_both, same_path}, Sets.{assert_source, assert_star, is_beaten, is_loser, is_winner, joins, joins_star, prunes, spt_bit}, State.State, Tables.{Table, has_row, same_bool, same_hop, same_option}, Unicast.{route, rp_of, rp_route, rpf_interface, rpf_interface_rp}}}
use Rattle.law_events.{specs.{Named.{is_source_named, is_same_beside, is_same_fact, is_same_sight, is_same_star, same_set}, Adjacent.with_neighbour_rows}, proofs.OtherNeighbours.{beaten_as, connected_as, could_register_so, SameLinkDr, SameSourceDr, SameStarDr, could_so, could_star_so, desired_so, exclude_as, has_receivers_so, immediate_so, inherited_empty_so, inherited_rpt_empty_so, inherited_rpt_so, inherited_so, joins_as, joins_star_as, local_exclude_as, local_include_as, may_register_so, prunes_as, route_as, rp_as, rp_route_as, rpf_as, rpf_interface_as, rpf_interface_rp_as, rpf_source_so, rpf_star_so, rpt_winner_as, source_winner_as, spt_as, star_winner_as, tunnel_as}}

module _ (t : State) (rows : Table NeighbourRow) (g src : ℕ) (star_dr : SameStarDr t rows g)
    (source_dr : SameSourceDr t rows g src) (link_dr : SameLinkDr t rows src) where
  abbrev u : State
  u = with_neighbour_rows t rows

  contested_so : is_contested t g src ≡ is_contested u g src
  unfolding is_contested
  contested_so = grind (arith, spt_as, inherited_so, could_so, inherited_rpt_so, could_star_so)

  -- whether SPTbit is reached is all that is asked of upstream neighbours
  abbrev pub reaches : State → Bool
  reaches s = option_map_or (is_spt_reached s g src) (rpf_interface s src) false

  pub answers_so : reaches t ≡ reaches u → answers t g src ≡ answers u g src
  unfolding answers
  answers_so reached = λ j. record {
    immediate = immediate_so t rows g star_dr src source_dr j;
    inherited = inherited_so t rows g star_dr src source_dr j;
    inherited_rpt = inherited_rpt_so t rows g star_dr src source_dr j;
    has_tunnel = tunnel_as t rows g src j;
    rpf = rpf_interface_as t rows src j;
    rp_rpf = rpf_interface_rp_as t rows g j;
    spt = spt_as t rows g src j;
    connected = connected_as t rows src j;
    may_register = may_register_so t rows g src link_dr j;
    registered = has_row t.registers (source_key 0 g src);
    desired = desired_so t rows g star_dr src source_dr j;
    flows = not (inherited_empty_so t rows g star_dr src source_dr j);
    reaches = reached j;
    watches = has_receivers_so t rows g star_dr src source_dr j && is_spt_wanted t;
    contested = contested_so j;
  }

  -- a source that isn't wanted reaches nothing
  unreached : (s : State) → join_desired s g src ≡ false → reaches s ≡ false
  unfolding is_spt_reached
  unreached s unwanted = grind arith

  pub unwanted_reaches : join_desired t g src ≡ false → reaches t ≡ reaches u
  unwanted_reaches unwanted = grind (arith, unreached, desired_so)

  module _ (rp_hop : nbr t (rp_route t g) ≡ nbr u (rp_route u g)) (hop : nbr t (route t src) ≡ nbr u (route u src)) where
    reached_so : (i : ℕ) → is_spt_reached t g src i ≡ is_spt_reached u g src i
    unfolding is_spt_reached
    reached_so i =
        grind (arith, rpf_as, desired_so, connected_as, rpf_interface_as, rpf_interface_rp_as, inherited_rpt_empty_so, rpf_source_so, rpf_star_so)

    pub hops_reach : reaches t ≡ reaches u
    hops_reach = λ j. option_map_or (λ i. reached_so i j) (rpf_interface_as t rows src j) false

    -- ---- whether it is named

    star_serving : (i : ℕ) → (is_dr t i && is_exclude t g i) ≡ (is_dr u i && is_exclude u g i)
    star_serving i = star_dr i ∙ (λ j. is_dr u i && exclude_as t rows g j i)

    source_serving : (i : ℕ)
        → (is_dr t i && local_receiver_include t g src i) ≡ (is_dr u i && local_receiver_include u g src i)
    source_serving i = source_dr i ∙ (λ j. is_dr u i && local_include_as t rows g src j i)

    module _ (o : State) where
      same_star_so : is_same_star g o t ≡ is_same_star g o u
      unfolding is_same_star
      same_star_so = λ j.
          same_option (rp_of o g) (rp_as t rows g j)
          && same_both same_path (rp_route o g) (rp_route_as t rows g j)
          && same_hop (nbr o (rp_route o g)) (rp_hop j)
          && same_hop (winner_hop (rpf_interface_rp o g) (assert_star o g)) (star_winner_as t rows g j)
          && same_set (joins_star o g) (joins_star_as t rows g j)
          && same_set (λ i. is_loser (assert_star o g i)) (λ i. is_loser (assert_star t g i))
          && same_set (λ i. is_winner (assert_star o g i)) (λ i. is_winner (assert_star t g i))
          && same_set (is_exclude o g) (exclude_as t rows g j)
          && same_set (λ i. is_dr o i && is_exclude o g i) (λ i. star_serving i j)

      same_sight_so : is_same_sight g src o t ≡ is_same_sight g src o u
      unfolding is_same_sight
      same_sight_so = λ j.
          same_star_so j
          && same_both same_path (route o src) (route_as t rows src j)
          && same_hop (nbr o (route o src)) (hop j)
          && same_hop (winner_hop (rpf_interface o src) (assert_source o g src)) (source_winner_as t rows g src j)
          && same_hop (winner_hop (rpf_interface_rp o g) (assert_source o g src)) (rpt_winner_as t rows g src j)
          && same_set (joins o g src) (joins_as t rows g src j)
          && same_set (prunes o g src) (prunes_as t rows g src j)
          && same_set (λ i. is_loser (assert_source o g src i)) (λ i. is_loser (assert_source t g src i))
          && same_set (λ i. is_winner (assert_source o g src i)) (λ i. is_winner (assert_source t g src i))
          && same_set (is_beaten o g src) (beaten_as t rows g src j)
          && same_set (local_receiver_include o g src) (local_include_as t rows g src j)
          && same_set (local_receiver_exclude o g src) (local_exclude_as t rows g src j)
          && same_set (λ i. is_dr o i && local_receiver_include o g src i) (λ i. source_serving i j)
          && same_bool (spt_bit o g src) (spt_as t rows g src j)

      same_beside_so : is_same_beside g src o t ≡ is_same_beside g src o u
      unfolding is_same_beside
      same_beside_so = grind (arith, may_register_so, could_register_so, desired_so)

      pub named_so : is_source_named g src o t ≡ is_source_named g src o u
      unfolding is_source_named
      named_so = λ j. not (is_same_fact g src o t && same_sight_so j && same_beside_so j)
