-- What the assert machines of a key ask, in the scope of the key.
use Rattle.std.{proofs.Common.{◌≡◌, ℕ, Bool, eq-eqb, refl, true, false, not, ◌&&◌, cond, arith}, specs.{Cmp.Derive.both_true, Option.option_map_or}}
use Rattle.pim_types.{specs.{declared.{fact.{AssertRow.AssertRow, Key.Key, SourceRow.SourceRow as SourceFact}, path.Path.Path}, Keys.{group_in, source_in, star_key}}}
use Rattle.pim_model.{specs.{AssertMacros.{could_assert, could_assert_star, forwarding_set, infinite, is_tracking_desired, is_tracking_desired_star, my_metric, my_metric_star}, Sets.rpt_metric, State.{State, is_own}, Asserts.{could_assert_at, is_tracking_at, my_metric_at}, Clearing.{assert_must_go, is_rpf_at, loser_must_go, spt_must_go}, Registers.{could_register, has_other_rp, is_dr_of_path}}}
use Rattle.law_events.{specs.Scopes.{reads, scope}, proofs.{SharedMacros.{is_dr_local, route_local, rp_of_local, rp_route_local, is_neighbour_local}, StarMacros.{star_winner_local, is_exclude_local, join_desired_star_local, joins_star_local, lost_assert_star_local, pim_include_star_local, rpf_at, rpf_rp_at}, SourceMacros.{ReadsSource, source_winner_local, is_kept_alive_local, join_desired_local, joins_local, local_include_local, pim_exclude_local, pim_include_local, prunes_local, spt_bit_local, spt_metric_local}}}

module _ (sees : Key → Bool) (s : State) (g : ℕ) (stars : (i : ℕ) → sees (star_key i g) ≡ true) where
  rpt_metric_local : (i : ℕ) → rpt_metric (scope sees s) g i ≡ rpt_metric s g i
  unfolding rpt_metric scope
  rpt_metric_local i = grind (arith, rp_of_local, rp_route_local)

  could_assert_star_local : (i : ℕ) → could_assert_star (scope sees s) g i ≡ could_assert_star s g i
  unfolding could_assert_star
  could_assert_star_local i = grind (arith, joins_star_local, pim_include_star_local, rpf_rp_at)

  is_tracking_star_local : (i : ℕ) → is_tracking_desired_star (scope sees s) g i ≡ is_tracking_desired_star s g i
  unfolding is_tracking_desired_star
  is_tracking_star_local i =
      grind (arith, could_assert_star_local, is_exclude_local, is_dr_local, star_winner_local, rpf_rp_at, join_desired_star_local)

  my_metric_star_local : (i : ℕ) → my_metric_star (scope sees s) g i ≡ my_metric_star s g i
  unfolding my_metric_star
  my_metric_star_local i = λ j. cond (could_assert_star_local i j) (rpt_metric_local i j) infinite

  module _ (src : ℕ) (rows : ReadsSource sees g src) where
    forwarding_local : forwarding_set (scope sees s) g src ≡ forwarding_set s g src
    unfolding forwarding_set
    forwarding_local =
        grind (arith, joins_star_local, prunes_local, pim_include_star_local, pim_exclude_local, lost_assert_star_local, joins_local)

    could_assert_local : (i : ℕ) → could_assert (scope sees s) g src i ≡ could_assert s g src i
    unfolding could_assert
    could_assert_local i = grind (arith, spt_bit_local, rpf_at, forwarding_local, pim_include_local)

    is_tracking_local : (i : ℕ) → is_tracking_desired (scope sees s) g src i ≡ is_tracking_desired s g src i
    unfolding is_tracking_desired
    is_tracking_local i =
        grind (arith, forwarding_local, local_include_local, is_dr_local, source_winner_local, rpf_at, join_desired_local, rpf_rp_at, join_desired_star_local, spt_bit_local)

    my_metric_local : (i : ℕ) → my_metric (scope sees s) g src i ≡ my_metric s g src i
    unfolding my_metric
    my_metric_local i = grind (arith, could_assert_local, spt_metric_local, my_metric_star_local)

    -- CouldRegister
    is_dr_of_path_local : (p : Path) → is_dr_of_path (scope sees s) p ≡ is_dr_of_path s p
    is_dr_of_path_local p = λ j. p.is_connected && is_dr_local sees s p.iface.number j

    has_other_rp_local : has_other_rp (scope sees s) g ≡ has_other_rp s g
    unfolding has_other_rp scope
    has_other_rp_local = λ j. option_map_or (λ rp. not (is_own s rp)) (rp_of_local sees s g j) false

    could_register_local : could_register (scope sees s) g src ≡ could_register s g src
    unfolding could_register
    could_register_local = grind (arith, is_dr_of_path_local, route_local, is_kept_alive_local, has_other_rp_local)

-- ---- what the machines of a key read

pub stars_read : (k : Key) (i : ℕ) → reads k (star_key i (group_in k)) ≡ true
unfolding reads
stars_read k i = both_true (eq-eqb (group_in k) (group_in k) refl) refl

pub source_read : (k q : Key) → group_in q ≡ group_in k → source_in q ≡ source_in k → reads k q ≡ true
unfolding reads
source_read k q e f = grind arith

pub reads_itself : (k : Key) → reads k k ≡ true
reads_itself k = source_read k k refl refl

-- what a key reads, those read that read it
pub reads_through : (q k c : Key) → reads q k ≡ true → reads k c ≡ true → reads q c ≡ true
unfolding reads
reads_through q k c e f = grind arith

pub place_read : (k : Key) → ReadsSource (reads k) (group_in k) (source_in k)
place_read k = grind (arith, stars_read, source_read)

-- ---- by the key of a row

pub could_register_here : (k : Key) (s : State)
    → could_register (scope (reads k) s) (group_in k) (source_in k) ≡ could_register s (group_in k) (source_in k)
could_register_here k s = could_register_local (reads k) s (group_in k) (stars_read k) (source_in k) (place_read k)

module _ (k : Key) (s : State) where
  could_assert_at_local : could_assert_at (scope (reads k) s) k ≡ could_assert_at s k
  could_assert_at_local = grind (arith, could_assert_star_local, stars_read, could_assert_local, place_read)

  is_tracking_at_local : is_tracking_at (scope (reads k) s) k ≡ is_tracking_at s k
  is_tracking_at_local = grind (arith, is_tracking_star_local, stars_read, is_tracking_local, place_read)

  my_metric_at_local : my_metric_at (scope (reads k) s) k ≡ my_metric_at s k
  my_metric_at_local = grind (arith, my_metric_star_local, stars_read, my_metric_local, place_read)

  is_rpf_at_local : is_rpf_at (scope (reads k) s) k ≡ is_rpf_at s k
  is_rpf_at_local = grind (arith, rpf_rp_at, rpf_at)

  -- o is the opening
  loser_must_go_local : (o : State) (r : AssertRow) → loser_must_go o (scope (reads k) s) k r ≡ loser_must_go o s k r
  loser_must_go_local o r = grind (arith, is_neighbour_local, is_tracking_at_local, my_metric_at_local, is_rpf_at_local)

pub assert_must_go_local : (o s : State) (e : Key × AssertRow)
    → assert_must_go o (scope (reads e.0) s) e ≡ assert_must_go o s e
unfolding assert_must_go
assert_must_go_local o s e = grind (arith, could_assert_at_local, loser_must_go_local)

pub spt_must_go_local : (s : State) (e : Key × SourceFact) → spt_must_go (scope (reads e.0) s) e ≡ spt_must_go s e
spt_must_go_local s e = grind (arith, join_desired_local, place_read)

-- in its own opening
pub must_go_now_local : (s : State) (e : Key × AssertRow)
    → assert_must_go (scope (reads e.0) s) (scope (reads e.0) s) e ≡ assert_must_go s s e
unfolding assert_must_go
must_go_now_local s e =
    grind (arith, could_assert_at_local, is_neighbour_local, is_tracking_at_local, my_metric_at_local, is_rpf_at_local)
