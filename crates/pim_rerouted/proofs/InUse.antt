-- Whether an interface may move what has facts, by what is looked up.
use Rattle.std.{proofs.{Common.{◌≡◌, ◌==◌, ◌&&◌, ◌||◌, ◌++◌, ℕ, Bool, true, false, List, [], ◌∷◌, Some, None, is_some, refl, arith}, Math.Bool.or_assoc, lemmas.List.Folds.list_any-append}, specs.{List.list_any, Prelude.slice_get}}
use Rattle.pim_ip.{specs.Prefixes.contains}
use Rattle.pim_types.specs.declared.{config.{InterfaceConfig.InterfaceConfig, Route.Route, RpCandidate.RpCandidate, RpRange.RpRange}, fact.Key.Key}
use Rattle.pim_model.{specs.{State.State, Unicast.{any_rp, subnet}, Upstream.fact_keys}}
use Rattle.law_events.specs.Switched.{may_lead_over}
use Rattle.pim_state.{specs.Sources.is_within}

module _ (s : State) (i : ℕ) where
  abbrev is_over : Route → Bool
  is_over r = r.iface.number == i

  pub by_route : list_any is_over s.routes ≡ true → true ≡ may_lead_over s i
  unfolding may_lead_over
  by_route e = grind arith

  module _ (none : list_any is_over s.routes ≡ false) where
    pub with_config : (c : InterfaceConfig) → slice_get s.configured.interfaces i ≡ Some c
        → (any_rp (contains (subnet c)) s.ranges
        || list_any (is_within (subnet c)) (fact_keys s)) ≡ may_lead_over s i
    unfolding may_lead_over
    with_config c is = rw (is, none) refl

    never : {X : Type 0} (p : X → Bool) → ((x : X) → p x ≡ false) → (xs : List X) → list_any p xs ≡ false
    never p fails [] = refl
    never p fails (x ∷ xs) = rw (fails x) (never p fails xs)

    and_false : (b : Bool) → (b && false) ≡ false
    and_false b = grind arith

    pub without_config : slice_get s.configured.interfaces i ≡ None → false ≡ may_lead_over s i
    unfolding may_lead_over
    without_config is =
        rw (
          is,
          none,
          never (λ (r : RpRange). false) (λ r. refl) s.ranges.static_ranges,
          never (λ (c : RpCandidate). false) (λ c. refl) s.ranges.candidates,
          never (λ (k : Key). is_some k.source && false) (λ k. and_false (is_some k.source)) (fact_keys s),
        ) refl

pub any_of_eight : (p : Key → Bool) (a b c d e f g h : List Key)
    → list_any p (a ++ b ++ c ++ d ++ e ++ f ++ g ++ h)
    ≡ (list_any p a || (list_any p (b ++ c ++ d ++ e ++ f) || list_any p (g ++ h)))
any_of_eight p a b c d e f g h = simp (list_any-append, or_assoc)
