-- What is sent upstream after new routes or new RP ranges is told of the touched keys.
use Rattle.std.{proofs.Common.{◌≡◌, ℕ, true, false, List, [], ◌++◌, arith}}
use Rattle.pim_types.{specs.{declared.fact.Key.Key, Keys.{source_key, star_key}}}
use Rattle.pim_model.{specs.{Desires.join_desired, State.State, Upstream.{fact_keys, nothing_told, source_upstream, source_view, star_told, star_view, upstream}}}
use Rattle.law_settled.{proofs.ListLaws.each_more}
use Rattle.law_events.{specs.{Locality.{own_upstream, touching}, Sees.{SeesSource, SeesStar}, Named.{has_same_routes, has_same_rp}}, proofs.{SameMacros.{join_desired_star_same, rpf_rpt_same, rpf_source_same, rpf_star_same, tree_state_same}, UntoldKeys.{source_untold_where_agreed, star_untold_where_agreed}, Taken.{AreTaken, Taken, touched_or_stays}, Told.{IsTaken, own_told, swap}}}

-- ---- what reads the same is told nothing of

module _ (o a : State) where
  star_same : (g : ℕ) → SeesStar g o a → star_view o g ≡ star_view a g
  unfolding star_view
  star_same g sees = grind (arith, join_desired_star_same, rpf_star_same)

  source_same : (g src : ℕ) → SeesSource g src o a → join_desired o g src ≡ join_desired a g src
      → source_view o g src ≡ source_view a g src
  unfolding source_view
  source_same g src sees desired = grind (arith, rpf_source_same, rpf_star_same, rpf_rpt_same, tree_state_same)

  module _ (w : ℕ) where
    star_idle : (g : ℕ) → SeesStar g o a → star_told a w g (star_view o g) (star_view a g) ≡ nothing_told
    star_idle g sees = grind (arith, star_same, star_untold_where_agreed)

    source_idle : (g src : ℕ) → SeesSource g src o a → join_desired o g src ≡ join_desired a g src → (s : State)
        → source_upstream o a w g s src ≡ (s, [])
    unfolding source_upstream
    source_idle g src sees desired s = grind (arith, source_same, source_untold_where_agreed)

-- ---- what is told

-- c has the new routes, a is what clearing leaves; all facts are taken
module _ (keys : List Key) (o c a : State) (w : ℕ)
    (stars : (g : ℕ) → has_same_rp g o c ≡ true → SeesStar g o a)
    (sources : (g src : ℕ) → has_same_routes g src o c ≡ true → SeesSource g src o a)
    (desired : (g src : ℕ) → has_same_routes g src o c ≡ true → join_desired o g src ≡ join_desired a g src)
    (taken : AreTaken keys o c (fact_keys o ++ fact_keys a)) where
  star_calm : (g : ℕ) → touching keys (star_key 0 g) ≡ false → has_same_rp g o c ≡ true
      → star_told a w g (star_view o g) (star_view a g) ≡ nothing_told
  star_calm g out same = star_idle o a w g (stars g same)

  source_calm : (g src : ℕ) → touching keys (source_key 0 g src) ≡ false → has_same_routes g src o c ≡ true → (s : State)
      → source_upstream o a w g s src ≡ (s, [])
  source_calm g src out same = source_idle o a w g src (sources g src same) (desired g src same)

  abbrev TakenHere : Key → Type 0
  TakenHere = IsTaken keys o a w (λ g. has_same_rp g o c) (λ g src. has_same_routes g src o c) star_calm source_calm

  taken_so : (k : Key) → Taken keys o c k → TakenHere k
  taken_so k is = grind (arith, swap, touched_or_stays)

  pub moved_told : upstream o a w ≡ own_upstream keys o a w
  moved_told =
      own_told keys o a w (λ g. has_same_rp g o c) (λ g src. has_same_routes g src o c) star_calm source_calm
      (each_more (Taken keys o c) TakenHere taken_so (fact_keys o ++ fact_keys a) taken.each)
