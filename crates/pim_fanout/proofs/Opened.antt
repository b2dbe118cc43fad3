-- The touched sources, each under its key: they rise, and each is there whose group and whose source are touched.
use Rattle.std.{proofs.{Common.{◌≡◌, ◌<◌, ◌==◌, ◌||◌, ℕ, suc, Bool, true, List, [], ◌∷◌, ◌++◌, map, refl, sym, ◌∙◌, arith, eqb-true}, lemmas.{Bool.{or_left, or_right}, List.{Folds.list_any-append, Kept.IsStrictlySortedBy-filter}}}, specs.{Cmp.nat_cmp_is, declared.cmp.Ordering.TheVariants.Less, List.{AllByRecursion, flat_map, list_any, Sorted.IsStrictlySortedBy}, Ordering.nat_cmp}}
use Rattle.pim_types.{specs.{declared.fact.Key.Key, Keys.{addr_cmp, key_cmp, same_key, source_key}}, proofs.Keys.{nat_cmp_same, same_key_same}}
use Rattle.pim_model.{specs.{State.State, Tables.is_among, Upstream.{groups_of, sources_of}}}
use Rattle.law_settled.{proofs.{ListLaws.{each_append, either}, Numbers.{RisesFrom, rises_ascending}}}
use Rattle.pim_state.{specs.{declared.touched.Touched.Touched, Touches.concerned_keys}}
use Rattle.pim_views.{specs.Openings.touched_sources}
use Rattle.pim_fanout.{specs.{Before.opened_sources, Named.{is_changed, named_among}}}

-- ---- they rise

less : (m n : ℕ) → m < n → nat_cmp m n ≡ Less
less m n p = sym (nat_cmp_is m n Less p)

by_source : (g m n : ℕ) → m < n → key_cmp (source_key 0 g m) (source_key 0 g n) ≡ Less
unfolding key_cmp addr_cmp
by_source g m n p = rw (nat_cmp_same g) (rw (less m n p) refl)

by_group : (g h m n : ℕ) → g < h → key_cmp (source_key 0 g m) (source_key 0 h n) ≡ Less
unfolding key_cmp addr_cmp
by_group g h m n p = rw (less g h p) refl

-- each of these keys comes after the source's
abbrev Above : ℕ → ℕ → List Key → Type 0
Above g m ks = AllByRecursion (λ k. key_cmp (source_key 0 g m) k ≡ Less) ks

above_in_group : (g m k : ℕ) (ns : List ℕ) → m < k → RisesFrom k ns → Above g m (map (source_key 0 g) ns)
above_in_group g m k [] p r = tt
above_in_group g m k (n ∷ ns) p r =
    (by_source g m n (omega (arith, p, r.0)), above_in_group g m (suc n) ns (omega (arith, p, r.0)) r.1)

above_group : (g m h : ℕ) (ns : List ℕ) → g < h → Above g m (map (source_key 0 h) ns)
above_group g m h [] p = tt
above_group g m h (n ∷ ns) p = (by_group g h m n p, above_group g m h ns p)

group_rises : (g k : ℕ) (ns : List ℕ) (later : List Key) → RisesFrom k ns → ((m : ℕ) → Above g m later)
    → IsStrictlySortedBy key_cmp later → IsStrictlySortedBy key_cmp (map (source_key 0 g) ns ++ later)
unfolding IsStrictlySortedBy
group_rises g k [] later r above sorted = sorted
group_rises g k (n ∷ ns) later r above sorted = (
  each_append (λ q. key_cmp (source_key 0 g n) q ≡ Less) (map (source_key 0 g) ns) later
      (above_in_group g n (suc n) ns (omega arith) r.1) (above n),
  group_rises g (suc n) ns later r.1 above sorted,
)

module _ (sources : ℕ → List ℕ) where
  abbrev under : List ℕ → List Key
  under gs = flat_map (λ g. map (source_key 0 g) (sources g)) gs

  above_later : (g m k : ℕ) (gs : List ℕ) → g < k → RisesFrom k gs → Above g m (under gs)
  above_later g m k [] p r = tt
  above_later g m k (h ∷ hs) p r =
      each_append (λ q. key_cmp (source_key 0 g m) q ≡ Less) (map (source_key 0 h) (sources h)) (under hs)
      (above_group g m h (sources h) (omega (arith, p, r.0)))
      (above_later g m (suc h) hs (omega (arith, p, r.0)) r.1)

  all_rise : ((g : ℕ) → RisesFrom 0 (sources g)) → (k : ℕ) (gs : List ℕ) → RisesFrom k gs
      → IsStrictlySortedBy key_cmp (under gs)
  unfolding IsStrictlySortedBy
  all_rise each k [] r = tt
  all_rise each k (g ∷ gs) r =
      group_rises g 0 (sources g) (under gs) (each g) (λ m. above_later g m (suc g) gs (omega arith) r.1)
      (all_rise each (suc g) gs r.1)

opened_rise : (o : State) (touched : Touched) → IsStrictlySortedBy key_cmp (opened_sources o touched)
unfolding opened_sources touched_sources groups_of sources_of
opened_rise o touched =
    all_rise (touched_sources o touched) (λ g. rises_ascending _) 0 (groups_of (concerned_keys o touched))
    (rises_ascending _)

pub names_rise : (o a : State) (touched : Touched) → IsStrictlySortedBy key_cmp (named_among o a touched)
unfolding named_among
names_rise o a touched =
    IsStrictlySortedBy-filter key_cmp (is_changed o a) (opened_sources o touched) (opened_rise o touched)

-- ---- which there are

first_or_later : (m n : ℕ) (here later : Bool) (ns : List ℕ) → ((m == n) ≡ true → here ≡ true)
    → (is_among n ns ≡ true → later ≡ true) → is_among n (m ∷ ns) ≡ true → (here || later) ≡ true
unfolding is_among
first_or_later m n here later ns first rest e = either (m == n) (is_among n ns)
    (λ same. or_left here later (first same)) (λ more. or_right here later (rest more)) e

any_of_source : (g src : ℕ) (ns : List ℕ) → is_among src ns ≡ true
    → list_any (same_key (source_key 0 g src)) (map (source_key 0 g) ns) ≡ true
unfolding is_among
any_of_source g src [] e = cc
any_of_source g src (n ∷ ns) e =
    first_or_later n src (same_key (source_key 0 g src) (source_key 0 g n))
    (list_any (same_key (source_key 0 g src)) (map (source_key 0 g) ns)) ns
    (λ same. rw (eqb-true n src same) (same_key_same (source_key 0 g src))) (any_of_source g src ns) e

module _ (sources : ℕ → List ℕ) (g src : ℕ) (of : is_among src (sources g) ≡ true) where
  any_of_group : (gs : List ℕ) → is_among g gs ≡ true
      → list_any (same_key (source_key 0 g src)) (under sources gs) ≡ true
  unfolding is_among
  any_of_group [] e = cc
  any_of_group (h ∷ hs) e =
      list_any-append (same_key (source_key 0 g src)) (map (source_key 0 h) (sources h)) (under sources hs)
      ∙ first_or_later h g (list_any (same_key (source_key 0 g src)) (map (source_key 0 h) (sources h)))
      (list_any (same_key (source_key 0 g src)) (under sources hs)) hs
      (λ same. rw (eqb-true h g same) (any_of_source g src (sources g) of)) (any_of_group hs) e

pub opened : (o : State) (touched : Touched) (g src : ℕ) → is_among g (groups_of (concerned_keys o touched)) ≡ true
    → is_among src (touched_sources o touched g) ≡ true
    → list_any (same_key (source_key 0 g src)) (opened_sources o touched) ≡ true
unfolding opened_sources
opened o touched g src group source =
    any_of_group (touched_sources o touched) g src source (groups_of (concerned_keys o touched)) group
