-- The sources of a group: those of the facts of membership, and those of the store's put among them.
use Rattle.std.{proofs.{Common.{◌≡◌, ◌==◌, ◌||◌, ◌&&◌, ℕ, Bool, true, false, cond, List, [], ◌∷◌, ◌++◌, map, Some, None, is_some, refl, sym, ap, append_assoc, ◌∙◌}, lemmas.List.{map-append, Elements.filter-append, Folds.list_any-append}}, specs.List.{filter, list_any}}
use Rattle.pim_ip.{specs.declared.addr.Addr.Addr}
use Rattle.pim_types.{specs.{declared.fact.Key.Key, Keys.{is_of_group, names_source, source_in}}}
use Rattle.pim_model.{specs.{Tables.{ascending, insert_number, is_among, keys_in}, State.State, Upstream.{fact_keys, sources_of}}}
use Rattle.law_settled.{proofs.Numbers.{any_ascending, members_tell}}
use Rattle.pim_state.{specs.{Groups.gathered, Sources.sources_among}, proofs.Gathered.gathered_both}

module _ (g : ℕ) where
  abbrev is_source_of : Key → Bool
  is_source_of k = is_of_group g k && is_some k.source

  pub among_both : (xs ys : List Key) → sources_among g (xs ++ ys) ≡ sources_among g xs ++ sources_among g ys
  unfolding sources_among
  among_both xs ys =
      ap (λ ks. map source_in ks) (filter-append is_source_of xs ys)
      ∙ map-append source_in (filter is_source_of xs) (filter is_source_of ys)

  -- what was gathered of some keys, and then of more
  pub more_gathered : (xs ys : List Key) (before found later : List ℕ) → found ≡ gathered (sources_among g xs) before
      → later ≡ gathered (sources_among g ys) found → later ≡ gathered (sources_among g (xs ++ ys)) before
  more_gathered xs ys before found later e f =
      f ∙ ap (λ ns. gathered (sources_among g ys) ns) e
      ∙ gathered_both (sources_among g xs) (sources_among g ys) before
      ∙ ap (λ ns. gathered ns before) (sym (among_both xs ys))

  -- one key
  pub one_source : (k : Key) (source : Addr) (ns : List ℕ) → is_of_group g k ≡ true → k.source ≡ Some source
      → gathered (sources_among g (k ∷ [])) ns ≡ insert_number source.bits ns
  unfolding sources_among gathered
  one_source k source ns of is = rw (of, is) refl

  at_test : (k : Key) (ns : List ℕ) (b c : Bool) → c ≡ false
      → gathered (map source_in (cond (b && c) (k ∷ []) [])) ns ≡ ns
  unfolding gathered
  at_test k ns true c e = rw e refl
  at_test k ns false c e = refl

  pub no_source : (k : Key) (ns : List ℕ) → k.source ≡ None → gathered (sources_among g (k ∷ [])) ns ≡ ns
  unfolding sources_among
  no_source k ns none = at_test k ns (is_of_group g k) (is_some k.source) (ap is_some none)

  pub other_group : (k : Key) (ns : List ℕ) → is_of_group g k ≡ false → gathered (sources_among g (k ∷ [])) ns ≡ ns
  unfolding sources_among gathered
  other_group k ns other = rw other refl

  -- ---- in order

  gathered_is : (ns : List ℕ) → gathered ns [] ≡ ascending ns
  unfolding gathered ascending
  gathered_is ns = refl

  -- numbers in order among others are as the numbers themselves
  in_order : (xs ys : List Key) (before found : List ℕ) → before ≡ sources_of g xs
      → found ≡ gathered (sources_of g ys) before → found ≡ sources_of g (xs ++ ys)
  unfolding sources_of is_among ascending gathered sources_among
  in_order xs ys before found is more =
      let ns : List ℕ = sources_among g xs in
      let ms : List ℕ = sources_among g ys in
      more ∙ ap (λ ls. gathered (ascending ms) ls) is ∙ gathered_both ns (ascending ms) [] ∙ gathered_is (ns ++ ascending ms)
      ∙ members_tell (ns ++ ascending ms) (ns ++ ms) (λ n.
      any_ascending (λ m. m == n) (ns ++ ascending ms) ∙ list_any-append (λ m. m == n) ns (ascending ms)
      ∙ ap (λ b. list_any (λ m. m == n) ns || b) (any_ascending (λ m. m == n) ms)
      ∙ sym (any_ascending (λ m. m == n) (ns ++ ms) ∙ list_any-append (λ m. m == n) ns ms))
      ∙ ap (λ ls. ascending ls) (sym (among_both xs ys))

-- one of the numbers
pub next_number : (xs rest : List ℕ) (n : ℕ) (ns after : List ℕ) → xs ≡ n ∷ rest → after ≡ insert_number n ns
    → gathered rest after ≡ gathered xs ns
unfolding gathered
next_number xs rest n ns after is one =
    ap (λ ms. gathered rest ms) one ∙ ap (λ (ys : List ℕ). gathered ys ns) (sym is)

pub no_number : (xs ns : List ℕ) → xs ≡ [] → gathered xs ns ≡ ns
unfolding gathered
no_number xs ns is = ap (λ (ys : List ℕ). gathered ys ns) is

-- the facts of membership, and then those of the store
module _ (s : State) where
  abbrev pub member_keys : List Key
  member_keys =
      keys_in s.group_records ++ keys_in s.source_records ++ keys_in s.group_repeats ++ keys_in s.source_repeats
      ++ keys_in s.sendings

  abbrev pub stored_keys : List Key
  stored_keys =
      keys_in s.downstream ++ keys_in s.asserts ++ keys_in s.join_timers ++ keys_in s.override_timers ++ keys_in s.sources
      ++ keys_in s.registers

  pub both_are_all : member_keys ++ stored_keys ≡ fact_keys s
  unfolding fact_keys
  both_are_all =
      of_eleven (keys_in s.group_records) (keys_in s.source_records) (keys_in s.group_repeats) (keys_in s.source_repeats)
      (keys_in s.sendings) (keys_in s.downstream) (keys_in s.asserts) (keys_in s.join_timers) (keys_in s.override_timers)
      (keys_in s.sources) (keys_in s.registers)
    where
      of_eleven : (a b c d e f h i j k l : List Key)
          → (a ++ b ++ c ++ d ++ e) ++ (f ++ h ++ i ++ j ++ k ++ l) ≡ a ++ b ++ c ++ d ++ e ++ f ++ h ++ i ++ j ++ k ++ l
      of_eleven a b c d e f h i j k l = simp append_assoc

  -- a source that they name
  pub any_fact : (g src : ℕ)
      → list_any (names_source g src) (fact_keys s)
      ≡ (list_any (names_source g src) member_keys || list_any (names_source g src) stored_keys)
  any_fact g src =
      ap (λ (ks : List Key). list_any (names_source g src) ks) (sym both_are_all)
      ∙ list_any-append (names_source g src) member_keys stored_keys

  pub facts_in_order : (g : ℕ) (before found : List ℕ) → before ≡ sources_of g member_keys
      → found ≡ gathered (sources_of g stored_keys) before → found ≡ sources_of g (fact_keys s)
  facts_in_order g before found is more =
      in_order g member_keys stored_keys before found is more ∙ ap (λ (ks : List Key). sources_of g ks) both_are_all
