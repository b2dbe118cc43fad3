-- Where two states agree on a key, nothing is told of it upstream.
use Rattle.std.{proofs.Common.{◌≡◌, ℕ, Bool, true, false, cond, [], Option, option_map, refl, sym, ap, ◌∙◌, arith, rules}}
use Rattle.pim_ip.{specs.declared.addr.Addr.Addr}
use Rattle.pim_types.{specs.{Keys.{source_key, star_key}, declared.{fact.Key.Key, path.Hop.Hop, upstream.{SourceView.SourceView, StarView.StarView, TreeState.TreeState}}}}
use Rattle.pim_model.{specs.{Desires.{join_desired, join_desired_star, tree_state}, State.State, Tables.{same_address, same_hop, same_option}, Upstream.{Told, becomes_star, nothing_told, rpt_told, rpt_told_from, source_stays, source_told, source_upstream, source_view, star_stays, star_told, star_view, with_join_timer, with_override_timer}}}
use Rattle.law_events.{specs.{Scopes.{reads, scope}, Locality.AgreesOn}, proofs.{Asserts.{place_read, stars_read}, SharedMacros.{route_local, rp_of_local, rp_route_local}, StarMacros.{join_desired_star_local, nbr_rp_local, rpf_star_local}, SourceMacros.{ReadsSource, join_desired_local, nbr_route_local, rpf_rpt_local, rpf_source_local, tree_state_local}}}

-- what is local is the same where the states agree
pub same_by_scope : {A : Type 0} (k : Key) (f : State → A) → ((s : State) → f (scope (reads k) s) ≡ f s)
    → (o a : State) → AgreesOn k o a → f o ≡ f a
same_by_scope k f local o a e = sym (local o) ∙ (ap f e ∙ local a)

pub hop_itself : (h : Option Hop) → same_hop h h ≡ true
hop_itself h = grind arith

pub option_itself : (n : Option ℕ) → same_option n n ≡ true
option_itself n = grind arith

addresses_same : (a : Option Addr) → same_address a a ≡ true
addresses_same a = option_itself (option_map (λ (x : Addr). x.bits) a)

-- joined before and after, or neither
told_if : (b : Bool) (stays joins prunes : Told) → stays ≡ nothing_told
    → cond b (cond b stays joins) (cond b prunes nothing_told) ≡ nothing_told
told_if b stays joins prunes f = grind arith

-- ---- a view that stays

module _ (a : State) (w g : ℕ) where
  star_as_it_was : (v : StarView) → star_stays a w g v v ≡ nothing_told
  unfolding star_stays
  star_as_it_was v = rw (hop_itself v.upstream, addresses_same v.rp) refl

  star_untold : (v : StarView) → star_told a w g v v ≡ nothing_told
  unfolding star_told
  star_untold v = told_if v.is_desired _ _ _ (star_as_it_was v)

  module _ (src : ℕ) (v : SourceView) where
    source_as_it_was : source_stays a w g src v v ≡ nothing_told
    unfolding source_stays
    source_as_it_was = rw (hop_itself v.upstream) refl

    source_untold : source_told a w g src v v ≡ nothing_told
    unfolding source_told
    source_untold = told_if v.is_desired _ _ _ source_as_it_was

    becomes_no_star : becomes_star v v ≡ false
    unfolding becomes_star
    becomes_no_star = grind arith

    rpt_untold_from : (tree : TreeState) → rpt_told_from a w g src v v tree tree ≡ nothing_told
    unfolding rpt_told_from
    rpt_untold_from tree = grind (arith, becomes_no_star)

    rpt_untold : rpt_told a w g src v v ≡ nothing_told
    unfolding rpt_told
    rpt_untold = rpt_untold_from v.tree

-- ---- a view in a scope

module _ (sees : Key → Bool) (s : State) (g : ℕ) where
  pub star_view_local : (stars : (i : ℕ) → sees (star_key i g) ≡ true) → star_view (scope sees s) g ≡ star_view s g
  unfolding star_view
  star_view_local stars =
      grind (arith, join_desired_star_local, rp_of_local, rp_route_local, nbr_rp_local, rpf_star_local)

  pub source_view_local : (src : ℕ) → ReadsSource sees g src → source_view (scope sees s) g src ≡ source_view s g src
  unfolding source_view
  source_view_local src rows =
      grind (arith, join_desired_local, route_local, nbr_route_local, rpf_source_local, rpf_star_local, rpf_rpt_local, tree_state_local)

-- ---- in the scope of a key

pub join_desired_star_at : (g : ℕ) (s : State)
    → join_desired_star (scope (reads (star_key 0 g)) s) g ≡ join_desired_star s g
join_desired_star_at g s = join_desired_star_local (reads (star_key 0 g)) s g (stars_read (star_key 0 g))

pub join_desired_at : (g : ℕ) (s : State) (src : ℕ)
    → join_desired (scope (reads (source_key 0 g src)) s) g src ≡ join_desired s g src
join_desired_at g s src = search (rules, join_desired_local, place_read)

pub tree_state_at : (g : ℕ) (s : State) (src : ℕ)
    → tree_state (scope (reads (source_key 0 g src)) s) g src ≡ tree_state s g src
tree_state_at g s src = tree_state_local (reads (source_key 0 g src)) s g src (place_read (source_key 0 g src))

pub star_view_at : (g : ℕ) (s : State) → star_view (scope (reads (star_key 0 g)) s) g ≡ star_view s g
star_view_at g s = star_view_local (reads (star_key 0 g)) s g (stars_read (star_key 0 g))

pub source_view_at : (g : ℕ) (s : State) (src : ℕ)
    → source_view (scope (reads (source_key 0 g src)) s) g src ≡ source_view s g src
source_view_at g s src = source_view_local (reads (source_key 0 g src)) s g src (place_read (source_key 0 g src))

-- ---- where the states agree on (*,G), and on a source of it

module _ (g : ℕ) (o a : State) (w : ℕ) where
  star_view_same : AgreesOn (star_key 0 g) o a → star_view o g ≡ star_view a g
  star_view_same agree =
      same_by_scope (star_key 0 g) (λ s. star_view s g) (star_view_at g) o a agree

  pub nothing_of_star : AgreesOn (star_key 0 g) o a → star_told a w g (star_view o g) (star_view a g) ≡ nothing_told
  nothing_of_star agree = grind (arith, star_view_same, star_untold)

  module _ (src : ℕ) (agree : AgreesOn (source_key 0 g src) o a) where
    source_view_same : source_view o g src ≡ source_view a g src
    source_view_same =
        same_by_scope (source_key 0 g src) (λ s. source_view s g src)
        (λ s. source_view_at g s src) o a agree

    nothing_of_source : source_told a w g src (source_view o g src) (source_view a g src) ≡ nothing_told
    nothing_of_source = grind (arith, source_view_same, source_untold)

    nothing_of_tree : rpt_told a w g src (source_view o g src) (source_view a g src) ≡ nothing_told
    nothing_of_tree = grind (arith, source_view_same, rpt_untold)

    -- the turn of a source on which they agree does nothing
    pub no_source_upstream : (s : State) → source_upstream o a w g s src ≡ (s, [])
    unfolding source_upstream with_join_timer with_override_timer
    no_source_upstream s = grind (arith, nothing_of_source, nothing_of_tree)

-- ---- the laws

pub star_untold_where_agreed : (g : ℕ) (o a : State) (w : ℕ) → AgreesOn (star_key 0 g) o a
    → star_told a w g (star_view o g) (star_view a g) ≡ nothing_told
star_untold_where_agreed g o a w agree = nothing_of_star g o a w agree

pub source_untold_where_agreed : (g src : ℕ) (o a : State) (w : ℕ) → AgreesOn (source_key 0 g src) o a
    → (s : State) → source_upstream o a w g s src ≡ (s, [])
source_untold_where_agreed g src o a w agree s = no_source_upstream g o a w src agree s
