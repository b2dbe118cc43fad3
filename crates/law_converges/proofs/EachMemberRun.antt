-- The premises are those of the members' links and of the routes, and that no better Assert comes, and no Prune of the source.
use Rattle.std.{proofs.Common.{Bool, List, [], arith, inl, inr, lit≤, refl, true, ℕ, ◌&&◌, ◌<◌, ◌≡◌}, specs.Cmp.{first_so, second_so}}
use Rattle.pim_types.{specs.Keys.{source_key, star_key}}
use Rattle.pim_model.{specs.Network.{Move, Network}}
use Rattle.law_streams.{specs.Joins.join_packet}
use Rattle.pim_runs.{proofs.OnLiterals.machine_on_literals, specs.{Base.rp, InTime.started, ServedChain.asked_group}}
use Rattle.law_converges.{proofs.{AloneOnLink.each_move_more, EachMember.each_member_is_served, MemberLinksRun.{are_unbeaten, keys_of, low_serves, no_others_send, own_serves, own_unbeaten, served_plan_is_quiet}, MemberTests.{hears_none_better, included_at, included_so, tree_at, tree_so}, RoutesToRpRun.{each_of, named_past, names_farther, names_nearer, routes_lead_on_plan}, WayTests.{past_run, past_run_so}}, specs.{AloneOnLink.ComesDownTheWay, Carried.EachMove, CarriedNetwork.{IsOneLan, Lan}, CarriedNetworkRun.{before, bound, far_source, farther_on_high, high_lan, lag, limit, low_lan, moves, nearer_on_high, nearer_on_low, none_came, plan, rp_on_high, soon, star, traffic}, CarriedWaysRun.its_hop, EachMember.{ComesOver, EachComesOver, HopIsFree, IsIncluded, NeitherBeaten, TakesOnTree}, EachMemberRun.{BothAreReached, BothAreServed, NothingElseComesToBoth}, LinkDr.Member, MemberLinks.{NoneBetter, Unbeaten}, MemberLinksRun.{farther_on_own, other_hop, own_lan, served_plan}, Past.{ArePast, HoldsPast}, RoutesToRp.RoutesLead, RoutesToRpRun.routing}}

-- ---- one link more

more_lans : (a : Lan) → IsOneLan plan.lans a → IsOneLan served_plan.lans a
more_lans a (inl same) = inl same
more_lans a (inr (inl same)) = inr (inl same)
more_lans a (inr (inr none)) = absurd none

-- of any network and moves, so that none is computed here
pub lead_over : (n : Network) (ms : List Move) → RoutesLead star asked_group plan.lans routing n ms
    → RoutesLead star asked_group served_plan.lans routing n ms
lead_over n ms f = record {
  top = f.top;
  up = λ r k e. let u = f.up r k e in record {
    from = u.from;
    among = more_lans (routing.next r).lan u.among;
    on = u.on;
    rest = u.rest;
    nearer = u.nearer;
    distance = u.distance;
    routed = u.routed;
  };
}

comes_over : EachComesOver rp asked_group soon bound started routing before moves
comes_over =
    each_of (ComesOver rp asked_group soon bound started before moves)
    (NeitherBeaten (named_past its_hop names_nearer)
    (NoneBetter (hears_none_better bound started 0 (keys_of 0) before moves (are_unbeaten).nearer (star_key 1 asked_group) (inr (inl refl)) (lit≤ tt)))
    at_rp)
    (NeitherBeaten (named_past other_hop names_farther)
    (NoneBetter (hears_none_better bound started 1 (keys_of 1) before moves (are_unbeaten).farther (star_key 1 asked_group) (inl refl) (lit≤ tt))) at_rp)
  where
    at_rp : Unbeaten asked_group bound started before moves high_lan rp_on_high
    at_rp = NoneBetter (hears_none_better bound started 2 (keys_of 2) before moves (are_unbeaten).at_rp (star_key 0 asked_group) (inl refl) (lit≤ tt))

-- ---- past the limit

abbrev takes_at : Member → Network → Bool
takes_at c n = tree_at asked_group far_source c n

abbrev serves_at : Member → Network → Bool
serves_at c n = included_at asked_group far_source c n

abbrev both_take : Network → Bool
both_take n = takes_at nearer_on_high n && takes_at farther_on_high n

abbrev both_serve : Network → Bool
both_serve n = serves_at nearer_on_low n && serves_at farther_on_own n

abbrev is_open : Network → Bool
is_open n = both_take n && both_serve n

open_passes : past_run started limit 2 is_open before moves ≡ true
unfolding machine_on_literals join_packet
open_passes = refl

open_past : (P : Network → Type 0) → ((n : Network) → is_open n ≡ true → P n) → HoldsPast started limit P before moves
open_past P so = past_run_so started limit 2 is_open P so moves before open_passes

-- each part of it
they_take : (c : Member) → ((n : Network) → both_take n ≡ true → takes_at c n ≡ true)
    → HoldsPast started limit (TakesOnTree asked_group far_source c) before moves
they_take c part =
    open_past (TakesOnTree asked_group far_source c)
    (λ n e. tree_so asked_group far_source c n (part n (first_so (both_take n) (both_serve n) e)))

they_serve : (c : Member) → ((n : Network) → both_serve n ≡ true → serves_at c n ≡ true)
    → HoldsPast started limit (IsIncluded asked_group far_source c) before moves
they_serve c part =
    open_past (IsIncluded asked_group far_source c)
    (λ n e. included_so asked_group far_source c n (part n (second_so (both_take n) (both_serve n) e)))

hop_free : (c : Member) → HoldsPast started limit (TakesOnTree asked_group far_source c) before moves
    → HopIsFree asked_group far_source bound limit started before moves (record { lan = high_lan; lower = c; upper = rp_on_high })
hop_free c takes = record {
  takes = takes;
  unlost = hears_none_better bound started 2 (keys_of 2) before moves (are_unbeaten).at_rp (source_key 0 asked_group far_source) (inr (inl refl)) (lit≤ tt);
  unpruned = (are_unbeaten).pruned;
}

-- ---- both are served

pub both_are_reached : BothAreReached
both_are_reached = (
  comes_over,
  record {
    serves = low_serves;
    distance = refl;
    next_hops = refl;
    apart = (refl, tt);
    by = lit≤ tt;
    unbeaten = NoneBetter
        (hears_none_better bound started 0 (keys_of 0) before moves (are_unbeaten).nearer (star_key 0 asked_group) (inl refl) (lit≤ tt));
    unlost = hears_none_better bound started 0 (keys_of 0) before moves (are_unbeaten).nearer (source_key 0 asked_group far_source) (inr (inr (inl refl)))
        (lit≤ tt);
    included = they_serve nearer_on_low (λ n e. first_so (serves_at nearer_on_low n) (serves_at farther_on_own n) e);
    free = (
      hop_free nearer_on_high
          (they_take nearer_on_high (λ n e. first_so (takes_at nearer_on_high n) (takes_at farther_on_high n) e)),
      tt,
    );
  },
  record {
    serves = own_serves;
    distance = refl;
    next_hops = refl;
    apart = (refl, tt);
    by = lit≤ tt;
    unbeaten = NoneBetter own_unbeaten;
    unlost = hears_none_better bound started 1 (keys_of 1) before moves (are_unbeaten).farther (source_key 2 asked_group far_source) (inr (inr (inl refl)))
        (lit≤ tt);
    included = they_serve farther_on_own (λ n e. second_so (serves_at nearer_on_low n) (serves_at farther_on_own n) e);
    free = (
      hop_free farther_on_high
          (they_take farther_on_high (λ n e. second_so (takes_at nearer_on_high n) (takes_at farther_on_high n) e)),
      tt,
    );
  },
)

pub both_are_served : BothAreServed
both_are_served = (
  each_member_is_served asked_group far_source rp soon soon lag bound limit 1 started traffic none_came served_plan routing before moves low_lan
      nearer_on_low its_hop [] served_plan_is_quiet (no_others_send).0 (lead_over before moves (routes_lead_on_plan).0) comes_over
      (routes_lead_on_plan).2 (both_are_reached).1,
  each_member_is_served asked_group far_source rp soon soon lag bound limit 1 started traffic none_came served_plan routing before moves own_lan
      farther_on_own other_hop [] served_plan_is_quiet (no_others_send).0 (lead_over before moves (routes_lead_on_plan).0) comes_over
      (routes_lead_on_plan).2 (both_are_reached).2,
)

-- what is so past the bound is so past the limit
sooner : (P : Network → Move → Type 0) → EachMove (λ n m. ArePast started bound n → P n m) before moves
    → EachMove (λ n m. ArePast started limit n → P n m) before moves
sooner P f =
    each_move_more (λ n m. ArePast started bound n → P n m) (λ n m. ArePast started limit n → P n m)
    (λ n m h past. h (λ r st at. raised (past r st at))) moves before f
  where
    raised : {i : ℕ} → limit < i → bound < i
    raised e = omega (arith, e)

pub nothing_else_comes_to_both : NothingElseComesToBoth
nothing_else_comes_to_both = (
  ((both_are_served).0).only (sooner (ComesDownTheWay asked_group far_source low_lan nearer_on_low its_hop []) (no_others_send).1),
  ((both_are_served).1).only (sooner (ComesDownTheWay asked_group far_source own_lan farther_on_own other_hop []) (no_others_send).2),
)
