-- What looks to a neighbour of a group.
use Rattle.std.{proofs.Common.{◌≡◌, ◌++◌, ℕ, Bool, true, false, List, [], ◌∷◌, append-nil, filter, map, refl, sym, ap, ◌∙◌}}
use Rattle.pim_types.{specs.{Keys.{source_key, star_key}, declared.fact.Key.Key}}
use Rattle.pim_model.{specs.{State.State, Unicast.{route, rp_route}, Upstream.{fact_keys, sources_of}}}
use Rattle.law_events.{specs.Adjacent.{dr_keys, keys_of_dr, leads_to, led_of_group, led_sources}}

module _ (s : State) (i address g : ℕ) (led : Bool) (is : led ≡ leads_to i address (rp_route s g)) where
  pub all_led : led ≡ true → star_key 0 g ∷ [] ≡ led_of_group s i address g
  unfolding led_of_group
  all_led e = rw (sym is ∙ e) refl

  pub some_led : led ≡ false → (sources : List ℕ) → sources ≡ sources_of g (fact_keys s)
      → map (source_key 0 g) (filter (λ src. leads_to i address (route s src)) sources) ≡ led_of_group s i address g
  unfolding led_of_group led_sources
  some_led e sources are =
      rw (sym is ∙ e)
      (ap (λ (ns : List ℕ). map (source_key 0 g) (filter (λ src. leads_to i address (route s src)) ns)) are)

-- ---- with what asks for the DR, where that changes

module _ (s : State) (i : ℕ) (own keys : List Key) (keeps kept : Bool) (is : keeps ≡ kept) where
  abbrev all : List Key
  all = own ++ dr_keys kept s i

  pub own_alone : keeps ≡ true → keys ≡ own → keys ≡ all
  own_alone e those =
      those ∙ sym (append-nil own) ∙ ap (λ (b : Bool). own ++ dr_keys b s i) (sym e ∙ is)

  pub with_dr : keeps ≡ false → (before : List Key) → before ≡ own → keys ≡ before ++ keys_of_dr s i → keys ≡ all
  with_dr e before those more =
      more ∙ ap (λ (ks : List Key). ks ++ keys_of_dr s i) those ∙ ap (λ (b : Bool). own ++ dr_keys b s i) (sym e ∙ is)
