-- The sources that keys name, key by key, behind others.
use Rattle.std.{proofs.Common.{◌≡◌, ℕ, false, List, [], ◌∷◌, ◌++◌, refl, sym, ap, ◌∙◌}, specs.List.list_any}
use Rattle.pim_types.{specs.declared.fact.Key.Key}
use Rattle.pim_model.{specs.{State.State, Tables.ascending, Upstream.sources_of}}
use Rattle.pim_state.{specs.{Groups.gathered, Sources.sources_among}, proofs.GatheredSources.more_gathered}
use Rattle.pim_views.{specs.Openings.{facts_of_whole, is_of_all}}

module _ (g : ℕ) where
  pub next_named : (left rest : List Key) (k : Key) (before after : List ℕ) → left ≡ k ∷ rest
      → after ≡ gathered (sources_among g (k ∷ [])) before
      → gathered (sources_among g rest) after ≡ gathered (sources_among g left) before
  next_named left rest k before after is one =
      more_gathered g (k ∷ []) rest before after _ one refl
      ∙ ap (λ (ks : List Key). gathered (sources_among g ks) before) (sym is)

  pub none_named : (left : List Key) (ns : List ℕ) → left ≡ [] → gathered (sources_among g left) ns ≡ ns
  unfolding sources_among gathered
  none_named left ns is = ap (λ (ks : List Key). gathered (sources_among g ks) ns) is

  -- the sources of the facts, and then those of the keys
  pub both_named : (facts keys : List Key) (before after : List ℕ) → before ≡ sources_of g facts
      → after ≡ gathered (sources_among g keys) before → after ≡ sources_of g (facts ++ keys)
  unfolding sources_of ascending gathered sources_among
  both_named facts keys before after is more = more_gathered g facts keys [] before after is more

  -- of a group that isn't whole none is touched with it
  pub none_of_part : (s : State) (keys : List Key) (found : List ℕ) → list_any (is_of_all g) keys ≡ false → found ≡ []
      → found ≡ sources_of g (facts_of_whole s keys g)
  unfolding sources_of ascending
  none_of_part s keys found part none = rw part none
