-- Where a source reads the same, its sight is the same, and so is what is asked beside.
use Rattle.std.{proofs.Common.{◌≡◌, ℕ, Bool, true, ◌&&◌, List, Option, sym, ap, ◌∙◌, eq-eqb, arith}, specs.List.list_all}
use Rattle.pim_types.{specs.declared.path.{Hop.Hop, Path.Path}}
use Rattle.pim_model.{specs.{Cache.may_register, Limits.most_ifaces, Receivers.{is_exclude, local_receiver_exclude, local_receiver_exclude_among}, Rows.{same_both, same_path, same_register_state}, Sets.{Set, is_beaten, is_kept_alive, register_state}, State.State, Tables.{below, same_bool, same_hop, same_option}}}
use Rattle.law_settled.{proofs.ListLaws.{each_of_all, list_of_each}}
use Rattle.law_events.{specs.{Sees.{SeesSource, SeesStar}, Named.{is_same_beside, is_same_sight, is_same_star, same_set}}, proofs.{SameMacros.{by_winner, could_register_same, has_other_rp_same, hop_same, join_desired_same, local_include_same, rpf_interface_rp_same, rpf_interface_same, spt_metric_same}, UntoldKeys.{hop_itself, option_itself}, SameRows.flags_same}}

-- ---- equal values are the same

pub bool_itself : (b : Bool) → same_bool b b ≡ true
bool_itself b = grind arith

pub options_same : (a b : Option ℕ) → a ≡ b → same_option a b ≡ true
options_same a b e = ap (same_option a) (sym e) ∙ option_itself a

pub hops_same : (a b : Option Hop) → a ≡ b → same_hop a b ≡ true
hops_same a b e = ap (same_hop a) (sym e) ∙ hop_itself a

path_itself : (p : Option Path) → same_both same_path p p ≡ true
path_itself p = grind (arith, eq-eqb, bool_itself)

pub paths_same : (a b : Option Path) → a ≡ b → same_both same_path a b ≡ true
paths_same a b e = ap (same_both same_path a) (sym e) ∙ path_itself a

pub all_pass : {X : Type 0} (p : X → Bool) → ((x : X) → p x ≡ true) → (xs : List X) → list_all p xs ≡ true
all_pass p e xs = list_of_each p xs (each_of_all (λ x. p x ≡ true) e xs)

sets_same : (a b : Set) → ((i : ℕ) → a i ≡ b i) → same_set a b ≡ true
unfolding same_set
sets_same a b e = all_pass (λ i. same_bool (a i) (b i)) (λ i. flags_same (a i) (b i) (e i)) (below most_ifaces)

-- ---- sights

pub star_sight : (g : ℕ) (o a : State) → SeesStar g o a → is_same_star g o a ≡ true
unfolding is_same_star
star_sight g o a same = grind (arith, options_same, paths_same, hops_same, hop_same, rpf_interface_rp_same, sets_same)

module _ (g src : ℕ) (o a : State) (sees : SeesSource g src o a) where
  beaten_same : (i : ℕ) → is_beaten o g src i ≡ is_beaten a g src i
  unfolding is_beaten
  beaten_same i = grind (arith, by_winner, spt_metric_same)

  excluded_same : (i : ℕ) → local_receiver_exclude o g src i ≡ local_receiver_exclude a g src i
  unfolding is_exclude local_receiver_exclude local_receiver_exclude_among
  excluded_same i = λ j. sees.star.excluding j i && sees.excluded i j

  pub source_sight : is_same_sight g src o a ≡ true
  unfolding is_same_sight
  source_sight =
      grind (arith, star_sight, paths_same, hops_same, hop_same, rpf_interface_same, rpf_interface_rp_same, sets_same, beaten_same, local_include_same, excluded_same)

  can_same : may_register o g src ≡ may_register a g src
  unfolding may_register
  can_same = grind (arith, has_other_rp_same)

  pub source_beside : is_kept_alive o g src ≡ is_kept_alive a g src
      → same_both same_register_state (register_state o g src) (register_state a g src) ≡ true
      → is_same_beside g src o a ≡ true
  unfolding is_same_beside
  source_beside kept register = grind (arith, flags_same, can_same, could_register_same, join_desired_same)
