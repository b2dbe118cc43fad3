-- A single key that names a source: what it touches is that source alone.
use Rattle.std.{proofs.{Common.{◌≡◌, ◌==◌, ◌∷◌, ℕ, true, false, [], Option, Some, None, refl, is_some, eq-eqb}, lemmas.Bool.and_right}, specs.Option.option_map_or}
use Rattle.pim_ip.{specs.declared.addr.Addr.Addr}
use Rattle.pim_types.{specs.{declared.{fact.Key.Key, name.SourceGroup.SourceGroup}, Keys.{group_in, is_of_group, source_in, source_key}}}
use Rattle.pim_model.{specs.{State.State, Tables.{ascending, insert_number}, Upstream.{groups_of, sources_of}}}
use Rattle.pim_state.{specs.declared.touched.Touched.Touched}
use Rattle.pim_views.{specs.Openings.{is_whole, opening_of, touched_sources}}
use Rattle.pim_fanout.{specs.{Alone.{TouchesAlone, opening_alone}, Before.opened_sources}}

has_source : (source : Option Addr) → (option_map_or (λ (a : Addr). a.bits) source 0 == 0) ≡ false → is_some source ≡ true
has_source None e = cc
has_source (Some a) e = refl

module _ (k : Key) (named : (source_in k == 0) ≡ false) where
  of_part : (g : ℕ) → is_whole (Touched.Keys (k ∷ [])) g ≡ false
  unfolding is_whole
  of_part g = rw (and_right (is_of_group g k) (source_in k == 0) named) refl

  of_source : (s : State) → touched_sources s (Touched.Keys (k ∷ [])) (group_in k) ≡ source_in k ∷ []
  unfolding touched_sources sources_of ascending insert_number
  of_source s =
      rw (and_right (is_of_group (group_in k) k) (source_in k == 0) named)
      (rw (eq-eqb (group_in k) (group_in k) refl) (rw (has_source k.source named) refl))

  pub names_alone : (touched : Touched) (name : SourceGroup) → touched ≡ Touched.Keys (k ∷ []) → name.group ≡ k.group
      → name.source.bits ≡ source_in k → TouchesAlone touched name
  unfolding groups_of ascending insert_number
  names_alone touched name is group source = rw is (rw group (rw source (record {
    groups = λ s. refl;
    part = of_part (group_in k);
    sources = of_source;
  })))

-- ---- what is gathered then

module _ (s : State) (touched : Touched) (name : SourceGroup) (alone : TouchesAlone touched name) where
  abbrev g : ℕ
  g = name.group.bits

  pub opened_alone : opening_of s touched ≡ opening_alone s name ∷ []
  unfolding opening_of
  opened_alone = rw (alone.groups s) (rw alone.part (rw (alone.sources s) refl))

  pub sources_alone : opened_sources s touched ≡ source_key 0 g name.source.bits ∷ []
  unfolding opened_sources
  sources_alone = rw (alone.groups s) (rw (alone.sources s) refl)
