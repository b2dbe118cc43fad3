-- Equal answers decide a packet alike.
use Rattle.std.{proofs.Common.{◌≡◌, ◌==◌, ℕ, Bool, not, ◌&&◌, ◌||◌, cond, Option, Some, None, arith}}
use Rattle.pim_model.{specs.{Cache.{Answers, Plain, away_from, is_on_shared_tree, is_on_tree, keeps_alive, opens_tunnel, plain, sets_spt}, Sets.Set, Tables.same_option}}
use Rattle.law_events.{specs.Kept.{SameAnswers, SameDecision, SamePlain}, proofs.{KeptSources.Low, NamedSameRows.options}}

abbrev chosen : Bool → Bool → Bool → Bool → Bool → Plain → Plain → Plain → Option Plain
chosen acts tree tunnelled shared contested p q r =
    cond acts None (cond tree (cond tunnelled None (Some p)) (cond shared (Some q) (cond contested None (Some r))))

same_chosen : (a b c d e : Bool) (p p' q q' r r' : Plain) → SamePlain p p' → SamePlain q q' → SamePlain r r'
    → SameDecision (chosen a b c d e p q r) (chosen a b c d e p' q' r')
same_chosen a b c d e p p' q q' r r' x y z = grind arith

module _ (a b : Answers) (same : SameAnswers a b) (i ttl : ℕ) (low : Low i) where
  tree_same : is_on_tree a i ≡ is_on_tree b i
  tree_same = λ j. same_option (same.rpf j) (Some i)

  shared_same : is_on_shared_tree a i ≡ is_on_shared_tree b i
  shared_same = λ j. same_option (same.rp_rpf j) (Some i)

  alive_same : keeps_alive a i ≡ keeps_alive b i
  alive_same = λ j. tree_same j && (same.connected j || (same.desired j && same.flows j))

  opens_same : opens_tunnel a i ≡ opens_tunnel b i
  opens_same = λ j. tree_same j && same.connected j && same.may_register j && not (same.registered j)

  sets_same : sets_spt a i ≡ sets_spt b i
  sets_same = grind (arith, tree_same, options)

  away_same : (f h : Set) → ((k : ℕ) → Low k → f k ≡ h k) → (k : ℕ) → Low k → away_from i f k ≡ away_from i h k
  away_same f h e k l = λ j. e k l j && not (k == i)

  pub decide_same : SameDecision (plain a i ttl) (plain b i ttl)
  unfolding plain
  decide_same = grind (arith, opens_same, sets_same, tree_same, shared_same, same_chosen, alive_same, away_same)
