-- What the records of a report name, and which sources they move, record by record.
use Rattle.std.{proofs.Common.{◌≡◌, ℕ, Bool, true, false, cond, List, [], ◌∷◌, ◌++◌, flat_map, map, not, refl, sym, ap, ◌∙◌, append-nil, append_assoc}, specs.List.filter}
use Rattle.igmp_wire.{specs.Values.Record}
use Rattle.pim_types.{specs.{declared.fact.Key.Key, Keys.{source_key, star_key}}}
use Rattle.pim_model.{specs.{Full.{reported_groups, reported_sources}, Querier.is_skipped, State.State}}
use Rattle.pim_querier.{specs.Reports.{moved_by, moved_sources}}

module _ (i : ℕ) where
  groups_by : (b : Bool) (r : Record) (rs : List Record)
      → map (λ (r : Record). star_key i r.group) (cond b (r ∷ filter (λ r. not (is_skipped r)) rs) (filter (λ r. not (is_skipped r)) rs))
      ≡ map (λ (r : Record). star_key i r.group) (cond b (r ∷ []) [])
      ++ map (λ (r : Record). star_key i r.group) (filter (λ r. not (is_skipped r)) rs)
  groups_by true r rs = refl
  groups_by false r rs = refl

  groups_next : (r : Record) (rs : List Record)
      → reported_groups i (r ∷ rs) ≡ reported_groups i (r ∷ []) ++ reported_groups i rs
  unfolding reported_groups
  groups_next r rs = groups_by (not (is_skipped r)) r rs

  abbrev sources_of : Record → List Key
  sources_of r = map (source_key i r.group) r.sources

  keys_by : (f : Record → List Key) (b : Bool) (r : Record) (rs : List Record)
      → flat_map f (cond b (r ∷ filter (λ r. not (is_skipped r)) rs) (filter (λ r. not (is_skipped r)) rs))
      ≡ flat_map f (cond b (r ∷ []) []) ++ flat_map f (filter (λ r. not (is_skipped r)) rs)
  keys_by f true r rs =
      ap (λ (ks : List Key). ks ++ flat_map f (filter (λ r. not (is_skipped r)) rs)) (sym (append-nil (f r)))
  keys_by f false r rs = refl

  sources_next : (r : Record) (rs : List Record)
      → reported_sources i (r ∷ rs) ≡ reported_sources i (r ∷ []) ++ reported_sources i rs
  unfolding reported_sources
  sources_next r rs = keys_by sources_of (not (is_skipped r)) r rs

  -- of all that is named, what isn't listed yet
  pub record Names (all : List Record) (groups sources : List Key) (left : List Record) : Type 0 where
    pub groups_left : groups ++ reported_groups i left ≡ reported_groups i all
    pub sources_left : sources ++ reported_sources i left ≡ reported_sources i all

  module _ (all : List Record) (groups sources : List Key) where
    pub one_named : (groups' sources' : List Key) (left rest : List Record) (r : Record) → left ≡ r ∷ rest
        → groups' ≡ groups ++ reported_groups i (r ∷ []) → sources' ≡ sources ++ reported_sources i (r ∷ [])
        → Names all groups sources left → Names all groups' sources' rest
    one_named groups' sources' left rest r is first second names = record {
      groups_left =
          ap (λ (ks : List Key). ks ++ reported_groups i rest) first
          ∙ append_assoc groups (reported_groups i (r ∷ [])) (reported_groups i rest)
          ∙ ap (λ (ks : List Key). groups ++ ks) (sym (ap (reported_groups i) is ∙ groups_next r rest)) ∙ names.groups_left;
      sources_left =
          ap (λ (ks : List Key). ks ++ reported_sources i rest) second
          ∙ append_assoc sources (reported_sources i (r ∷ [])) (reported_sources i rest)
          ∙ ap (λ (ks : List Key). sources ++ ks) (sym (ap (reported_sources i) is ∙ sources_next r rest))
          ∙ names.sources_left;
    }

    pub all_named : (left : List Record) → left ≡ [] → Names all groups sources left
        → (groups ≡ reported_groups i all) × (sources ≡ reported_sources i all)
    unfolding reported_groups reported_sources
    all_named [] none names = (sym (append-nil groups) ∙ names.groups_left, sym (append-nil sources) ∙ names.sources_left)
    all_named (r ∷ rs) none names = cc

-- ---- the sources that they move

module _ (s : State) (i : ℕ) where
  moved_next : (r : Record) (rs : List Record)
      → moved_sources s i (r ∷ rs) ≡ moved_sources s i (r ∷ []) ++ moved_sources s i rs
  unfolding moved_sources
  moved_next r rs = keys_by i (moved_by s.source_records i) (not (is_skipped r)) r rs

  module _ (all : List Record) (keys : List Key) where
    pub one_moved : (keys' : List Key) (left rest : List Record) (r : Record) → left ≡ r ∷ rest
        → keys' ≡ keys ++ moved_sources s i (r ∷ [])
        → keys ++ moved_sources s i left ≡ moved_sources s i all → keys' ++ moved_sources s i rest ≡ moved_sources s i all
    one_moved keys' left rest r is first moved =
        ap (λ (ks : List Key). ks ++ moved_sources s i rest) first
        ∙ append_assoc keys (moved_sources s i (r ∷ [])) (moved_sources s i rest)
        ∙ ap (λ (ks : List Key). keys ++ ks) (sym (ap (moved_sources s i) is ∙ moved_next r rest)) ∙ moved

    pub all_moved : (left : List Record) → left ≡ [] → keys ++ moved_sources s i left ≡ moved_sources s i all
        → keys ≡ moved_sources s i all
    unfolding moved_sources
    all_moved [] none moved = sym (append-nil keys) ∙ moved
    all_moved (r ∷ rs) none moved = cc
