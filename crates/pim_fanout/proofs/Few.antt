-- No more of the touched sources are named than of all, and where no neighbour differs only those that are reached.
use Rattle.std.{proofs.Common.{◌≡◌, ◌≤◌, ◌||◌, ℕ, Bool, true, List, [], ◌∷◌, map, length, refl, sym, ap, ◌∙◌}, specs.{Cmp.{first_so, second_so}, List.{AllByRecursion, flat_map, list_all, list_any}}}
use Rattle.pim_types.{specs.{declared.fact.Key.Key, Keys.{group_in, same_key, source_in, source_key}}}
use Rattle.pim_model.{specs.{Clearing.clear, declared.accepted.Accepted.Accepted, Reach.{differs_among, own_firing, passes}, State.State, Step.change, Tables.has_row, Timers.Ending, Upstream.groups_of}}
use Rattle.law_settled.{proofs.ListLaws.{each_append, each_both, each_filter, each_passes, list_of_each}}
use Rattle.law_events.{specs.{Named.{is_source_named, named, named_by}, Calm.is_calm, Kept.is_listed}, proofs.{Within.rising_within, Configured.{change_configured, firing_configured}, Reached.{IsConfigured, named_is_reached}, Listed.listed}}
use Rattle.pim_state.{specs.{declared.touched.Touched.Touched, Touches.concerned_keys}}
use Rattle.pim_views.{specs.Openings.touched_sources}
use Rattle.pim_fanout.{specs.{Before.opened_sources, Named.{is_changed, named_among}}, proofs.{Listed.passing, Opened.names_rise}}

-- the key is that of the source fact of its group and source
abbrev OfSource : Key → Type 0
OfSource k = source_key 0 (group_in k) (source_in k) ≡ k

each_of_group : (g : ℕ) (ns : List ℕ) → AllByRecursion OfSource (map (source_key 0 g) ns)
each_of_group g [] = tt
each_of_group g (n ∷ ns) = (refl, each_of_group g ns)

each_of_groups : (sources : ℕ → List ℕ) (gs : List ℕ)
    → AllByRecursion OfSource (flat_map (λ g. map (source_key 0 g) (sources g)) gs)
each_of_groups sources [] = tt
each_of_groups sources (g ∷ gs) =
    each_append OfSource (map (source_key 0 g) (sources g)) (flat_map (λ h. map (source_key 0 h) (sources h)) gs)
    (each_of_group g (sources g)) (each_of_groups sources gs)

module _ (o a : State) where
  -- who passes is named of all
  passing_is_named : (k : Key) → OfSource k → is_changed o a k ≡ true → list_any (same_key k) (named o a) ≡ true
  unfolding is_changed is_listed
  passing_is_named k of e =
      ap (λ q. list_any (same_key q) (named o a)) (sym of)
      ∙ (listed (group_in k) (source_in k) o a
      (second_so (has_row o.sources k || has_row a.sources k) (is_source_named (group_in k) (source_in k) o a) e)
      ∙ (ap (λ q. has_row o.sources q || has_row a.sources q) of
      ∙ first_so (has_row o.sources k || has_row a.sources k) (is_source_named (group_in k) (source_in k) o a) e))

  names_within : (touched : Touched)
      → list_all (λ k. list_any (same_key k) (named o a)) (named_among o a touched) ≡ true
  unfolding named_among opened_sources
  names_within touched =
      list_of_each (λ k. list_any (same_key k) (named o a)) (named_among o a touched)
      (each_both OfSource (λ k. is_changed o a k ≡ true) (λ k. list_any (same_key k) (named o a) ≡ true)
      passing_is_named (named_among o a touched)
      (each_filter OfSource (is_changed o a) (opened_sources o touched)
      (each_of_groups (touched_sources o touched) (groups_of (concerned_keys o touched))))
      (each_passes (is_changed o a) (opened_sources o touched)))

pub names_are_few : (o changed : State) (touched : Touched)
    → length (named_among o (clear o changed).0 touched) ≤ length (named_by o changed)
unfolding named_by
names_are_few o changed touched =
    let after : State = (clear o changed).0 in
    rising_within (named_among o after touched) (named o after) (names_rise o after touched)
    (names_within o after touched)

-- ---- reached

listed_is_named : (o a : State) (touched : Touched) (g src : ℕ) → is_listed (named_among o a touched) g src ≡ true
    → is_source_named g src o a ≡ true
unfolding is_listed named_among is_changed
listed_is_named o a touched g src e =
    let p : Bool = is_changed o a (source_key 0 g src) in
    let among : Bool = list_any (same_key (source_key 0 g src)) (opened_sources o touched) in
    second_so (has_row o.sources (source_key 0 g src) || has_row a.sources (source_key 0 g src)) (is_source_named g src o a)
    (first_so p among (sym (passing g src (is_changed o a) (opened_sources o touched)) ∙ e))

reached : (o changed : State) → IsConfigured o changed → is_calm o changed ≡ true → (touched : Touched) (g src : ℕ)
    → is_listed (named_among o (clear o changed).0 touched) g src ≡ true
    → differs_among g src (passes o changed) ≡ true
reached o changed is calm touched g src e =
    named_is_reached o changed is calm g src (listed_is_named o (clear o changed).0 touched g src e)

pub names_are_reached : (s : State) (w : ℕ) (a : Accepted) → is_calm s (change s w a).state ≡ true → (touched : Touched)
    → (g src : ℕ) → is_listed (named_among s (clear s (change s w a).state).0 touched) g src ≡ true
    → differs_among g src (passes s (change s w a).state) ≡ true
names_are_reached s w a = reached s (change s w a).state (change_configured s w a)

pub fired_names_are_reached : (s : State) (e : Ending) → is_calm s (own_firing s e) ≡ true → (touched : Touched)
    → (g src : ℕ) → is_listed (named_among s (clear s (own_firing s e)).0 touched) g src ≡ true
    → differs_among g src (passes s (own_firing s e)) ≡ true
fired_names_are_reached s e = reached s (own_firing s e) (firing_configured s e)
