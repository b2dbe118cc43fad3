-- From a quiet state the touched sources that are named are those that are named of all.
use Rattle.std.{proofs.{Common.{◌≡◌, ◌==◌, ◌&&◌, ◌||◌, ℕ, Bool, true, false, cond, Option, Some, None, is_some, filter, List, [], ◌++◌, inl, inr, map, refl, sym, ap, subst, ◌∙◌, eq-eqb}, Math.Bool.or-true, lemmas.{Bool.or_left, List.Folds.list_any-append, Map.Views.any-filter_same}}, specs.{Cmp.{first_so, Derive.both_true}, List.list_any, Option.option_map_or}}
use Rattle.pim_ip.{specs.declared.addr.Addr.Addr}
use Rattle.pim_types.{specs.{declared.fact.{Key.Key, SourceRow.SourceRow}, Keys.{group_in, is_of_group, names_source, same_key, source_in, source_key}}, proofs.Keys.equal_keys}
use Rattle.pim_model.{specs.{Clearing.{Cleared, ClearAssert, ClearSptBit, clear, clear_all, clearable_count, cleared, to_clear}, Asserts.{assert_forgotten, without_spt, without_spt_bit}, Reach.with_facts, Registers.settle_registers, State.State, Tables.{has_row, is_among, keys_in}, Upstream.{fact_keys, groups_of, sources_of}}}
use Rattle.law_settled.{proofs.{ListLaws.{any_more, either}, Numbers.any_ascending, RowLaws.{has_row_any, still_absent}, TableLaws.{any_in_filter, any_of_either, any_of_map}, TurnLaws.kept_to_the_end}}
use Rattle.law_events.{specs.{Locality.{IsQuiet, touching}, Scopes.reads, Moved.MovesAlone, Named.{is_source_named, named, named_by}, Kept.is_listed}, proofs.{Moved.moved_names, Taken.facts_stay, Touched.touched_names, NeighbourStays.adjoins_names, Listed.listed}}
use Rattle.pim_state.{specs.declared.touched.Touched.Touched}
use Rattle.pim_views.{specs.Openings.{facts_of_whole, has_facts, is_of_all, opened_keys, touched_sources}}
use Rattle.pim_fanout.{specs.{Before.opened_sources, Contains.Contains, Named.{is_changed, named_among}}, proofs.Opened.opened}

-- ---- clearing makes no source fact

module _ (g src : ℕ) where
  one_cleared : (s : State) (c : Cleared) → has_row s.sources (source_key 0 g src) ≡ false
      → has_row (cleared s c).0.sources (source_key 0 g src) ≡ false
  unfolding cleared assert_forgotten without_spt_bit
  one_cleared s (ClearAssert k r) none = none
  one_cleared s (ClearSptBit k) none = still_absent (source_key 0 g src) without_spt k s.sources none

  still_none : (o changed : State) → has_row changed.sources (source_key 0 g src) ≡ false
      → has_row (clear o changed).0.sources (source_key 0 g src) ≡ false
  unfolding clear clear_all settle_registers
  still_none o changed none =
      kept_to_the_end (to_clear o) cleared (λ s. has_row s.sources (source_key 0 g src) ≡ false)
      (λ s c kept e. one_cleared s c kept) (clearable_count (settle_registers changed)) (settle_registers changed) none

  was_there : (o changed : State) → has_row (clear o changed).0.sources (source_key 0 g src) ≡ true
      → has_row changed.sources (source_key 0 g src) ≡ true
  was_there o changed there = go (has_row changed.sources (source_key 0 g src)) refl
    where
      go : (b : Bool) → has_row changed.sources (source_key 0 g src) ≡ b → b ≡ true
      go true e = refl
      go false e = sym (still_none o changed e) ∙ there

-- ---- who has a fact is opened

reads_either : (b : Bool) (source : Option Addr) (src : ℕ)
    → (b && ((option_map_or (λ (a : Addr). a.bits) source 0 == 0)
    || (option_map_or (λ (a : Addr). a.bits) source 0 == src))) ≡ true
    → ((b && (option_map_or (λ (a : Addr). a.bits) source 0 == 0))
    || (b && is_some source && (option_map_or (λ (a : Addr). a.bits) source 0 == src))) ≡ true
reads_either true None src e = refl
reads_either true (Some a) src e = e
reads_either false source src e = cc

-- a key that a source reads names all of its group, or the source
reads_so : (g src : ℕ) (k : Key) → reads (source_key 0 g src) k ≡ true → (is_of_all g k || names_source g src k) ≡ true
unfolding reads names_source
reads_so g src k e = reads_either (group_in k == g) k.source src e

its_name : (g src : ℕ) → names_source g src (source_key 0 g src) ≡ true
unfolding names_source
its_name g src = both_true (both_true {t = true} (eq-eqb g g refl) refl) (eq-eqb src src refl)

in_tenth : (p : Key → Bool) (a b c d e f g h i xs ys : List Key) → list_any p xs ≡ true
    → list_any p (a ++ b ++ c ++ d ++ e ++ f ++ g ++ h ++ i ++ xs ++ ys) ≡ true
in_tenth p a b c d e f g h i xs ys there = simp (list_any-append, there, or-true) refl

source_is_fact : (g src : ℕ) (s : State) → has_row s.sources (source_key 0 g src) ≡ true → has_facts s g src ≡ true
unfolding fact_keys keys_in
source_is_fact g src s e =
    in_tenth q (keys_in s.group_records) (keys_in s.source_records) (keys_in s.group_repeats)
    (keys_in s.source_repeats) (keys_in s.sendings) (keys_in s.downstream) (keys_in s.asserts) (keys_in s.join_timers)
    (keys_in s.override_timers) (keys_in s.sources) (keys_in s.registers) among
  where
    q : Key → Bool
    q = names_source g src

    among : list_any q (keys_in s.sources) ≡ true
    among =
        any_of_map q (λ (r : Key × SourceRow). r.0) s.sources
        ∙ any_more (λ (r : Key × SourceRow). same_key (source_key 0 g src) r.0) (λ r. q r.0)
        (λ r same. subst (λ k. q k ≡ true) (equal_keys (source_key 0 g src) r.0 same) (its_name g src)) s.sources
        (sym (has_row_any (source_key 0 g src) s.sources) ∙ e)

-- ---- a source with a fact of the group's keys is among those of the group

group_among : (g : ℕ) (p : Key → Bool) → ((k : Key) → p k ≡ true → (group_in k == g) ≡ true) → (keys : List Key)
    → list_any p keys ≡ true → is_among g (groups_of keys) ≡ true
unfolding is_among groups_of
group_among g p of keys there =
    any_ascending (λ m. m == g) (map group_in keys)
    ∙ (any_of_map (λ m. m == g) group_in keys ∙ any_more p (λ k. group_in k == g) of keys there)

source_among : (g src : ℕ) (keys : List Key) → list_any (names_source g src) keys ≡ true
    → is_among src (sources_of g keys) ≡ true
unfolding is_among sources_of names_source
source_among g src keys there =
    any_ascending (λ m. m == src) (map source_in (filter (λ k. is_of_group g k && is_some k.source) keys))
    ∙ (any_of_map (λ m. m == src) source_in (filter (λ k. is_of_group g k && is_some k.source) keys)
    ∙ (any_in_filter (λ k. is_of_group g k && is_some k.source) (λ k. source_in k == src) keys
    ∙ any_more (names_source g src) (λ k. (is_of_group g k && is_some k.source) && (source_in k == src))
    (λ k e. e) keys there))

of_whole : (w n f : Bool) → (w || n) ≡ true → (f || n) ≡ true → (cond w f false || n) ≡ true
of_whole true n f e h = h
of_whole false n f e h = e

any_if : (p : Key → Bool) (w : Bool) (keys : List Key) → list_any p (cond w keys []) ≡ cond w (list_any p keys) false
any_if p true keys = refl
any_if p false keys = refl

group_of_all : (g : ℕ) (k : Key) → is_of_all g k ≡ true → (group_in k == g) ≡ true
group_of_all g k e = first_so (group_in k == g) (source_in k == 0) e

group_of_source : (g src : ℕ) (k : Key) → names_source g src k ≡ true → (group_in k == g) ≡ true
unfolding names_source
group_of_source g src k e =
    first_so (group_in k == g) (is_some k.source)
    (first_so ((group_in k == g) && is_some k.source) (source_in k == src) e)

module _ (o : State) (g src : ℕ) (keys : List Key) where
  abbrev whole : Bool
  whole = list_any (is_of_all g) keys

  abbrev names : Bool
  names = list_any (names_source g src) keys

  touching_so : touching keys (source_key 0 g src) ≡ true → (whole || names) ≡ true
  unfolding touching
  touching_so e =
      any_of_either (is_of_all g) (names_source g src) keys
      (any_more (reads (source_key 0 g src)) (λ k. is_of_all g k || names_source g src k) (reads_so g src) keys e)

  opened_by_keys : touching keys (source_key 0 g src) ≡ true → (has_facts o g src || names) ≡ true
      → list_any (same_key (source_key 0 g src)) (opened_sources o (Touched.Keys keys)) ≡ true
  unfolding touched_sources
  opened_by_keys touched known =
      let either_way : (whole || names) ≡ true = touching_so touched in
      opened o (Touched.Keys keys) g src
      (either whole names (λ e. group_among g (is_of_all g) (group_of_all g) keys e)
      (λ e. group_among g (names_source g src) (group_of_source g src) keys e) either_way)
      (source_among g src (opened_keys o (Touched.Keys keys) g)
      (list_any-append (names_source g src) (facts_of_whole o keys g) keys
      ∙ (ap (λ b. b || names) (any_if (names_source g src) whole (fact_keys o))
      ∙ of_whole whole names (has_facts o g src) either_way known)))

opened_of_all : (o : State) (g src : ℕ) → has_facts o g src ≡ true
    → list_any (same_key (source_key 0 g src)) (opened_sources o Touched.All) ≡ true
unfolding touched_sources
opened_of_all o g src known =
    opened o Touched.All g src (group_among g (names_source g src) (group_of_source g src) (fact_keys o) known)
    (source_among g src (fact_keys o) known)

-- ---- who is named is opened

-- in a filter of some keys
pub passing : (g src : ℕ) (p : Key → Bool) (keys : List Key) → list_any (same_key (source_key 0 g src)) (filter p keys)
    ≡ (p (source_key 0 g src) && list_any (same_key (source_key 0 g src)) keys)
passing g src p keys =
    any-filter_same (same_key (source_key 0 g src)) p (p (source_key 0 g src))
    (λ k e. ap p (sym (equal_keys (source_key 0 g src) k e))) keys

-- who is listed of all
listed_of_all : (o a : State) (g src : ℕ) (n : Bool) → is_source_named g src o a ≡ n → is_listed (named o a) g src
    ≡ (n && (has_row o.sources (source_key 0 g src) || has_row a.sources (source_key 0 g src)))
unfolding is_listed named
listed_of_all o a g src true e = listed g src o a e
listed_of_all o a g src false e =
    passing g src (λ k. is_source_named (group_in k) (source_in k) o a) (with_facts o a)
    ∙ ap (λ b. b && list_any (same_key (source_key 0 g src)) (with_facts o a)) e

module _ (o changed : State) (quiet : IsQuiet o) (g src : ℕ) where
  abbrev after : State
  after = (clear o changed).0

  abbrev has_one : Bool
  has_one = has_row o.sources (source_key 0 g src) || has_row after.sources (source_key 0 g src)

  -- who has a fact after clearing had one at the opening, or is named
  was_known : (b : Bool) → (has_facts o g src ≡ true → b ≡ true) → (has_facts changed g src ≡ true → b ≡ true)
      → has_one ≡ true → b ≡ true
  was_known b before later =
      either (has_row o.sources (source_key 0 g src)) (has_row after.sources (source_key 0 g src))
      (λ e. before (source_is_fact g src o e))
      (λ e. later (source_is_fact g src changed (was_there g src o changed e)))

  -- a source that isn't touched isn't named
  opened_if_touched : (keys : List Key) → (touching keys (source_key 0 g src) ≡ false → is_source_named g src o after ≡ false)
      → is_source_named g src o after ≡ true → (has_facts o g src || list_any (names_source g src) keys) ≡ true
      → list_any (same_key (source_key 0 g src)) (opened_sources o (Touched.Keys keys)) ≡ true
  opened_if_touched keys unnamed named known =
      opened_by_keys o g src keys (go (touching keys (source_key 0 g src)) refl) known
    where
      go : (b : Bool) → touching keys (source_key 0 g src) ≡ b → b ≡ true
      go true e = refl
      go false e = sym (unnamed e) ∙ named

  moved_is_opened : (keys : List Key) → MovesAlone keys o changed → has_one ≡ true → is_source_named g src o after ≡ true
      → list_any (same_key (source_key 0 g src)) (opened_sources o (Touched.Keys keys)) ≡ true
  moved_is_opened keys moves known named =
      let had : has_facts o g src ≡ true =
      was_known (has_facts o g src) (λ e. e)
      (λ e. ap (λ (ks : List Key). list_any (names_source g src) ks) (sym (facts_stay keys o changed moves)) ∙ e) known in
      opened_if_touched keys (moved_names keys o changed quiet moves g src had) named
      (or_left (has_facts o g src) (list_any (names_source g src) keys) had)

  named_is_opened : (touched : Touched) → Contains touched o changed → has_one ≡ true → is_source_named g src o after ≡ true
      → list_any (same_key (source_key 0 g src)) (opened_sources o touched) ≡ true
  named_is_opened Touched.All (inl (inl within)) known named =
      opened_of_all o g src (was_known (has_facts o g src) (λ e. e) (within.sources g src) known)
  named_is_opened Touched.All (inl (inr none)) known named = absurd none
  named_is_opened Touched.All (inr (inl none)) known named = absurd none
  named_is_opened Touched.All (inr (inr none)) known named = absurd none
  named_is_opened (Touched.Keys keys) (inl (inl concerns)) known named =
      opened_if_touched keys (touched_names keys o changed quiet concerns.agrees g src) named
      (was_known (has_facts o g src || list_any (names_source g src) keys)
      (or_left (has_facts o g src) (list_any (names_source g src) keys)) (concerns.named g src) known)
  named_is_opened (Touched.Keys keys) (inl (inr moves)) known named = moved_is_opened keys moves.0 known named
  named_is_opened (Touched.Keys keys) (inr (inr switches)) known named = moved_is_opened keys switches known named
  named_is_opened (Touched.Keys keys) (inr (inl adjoins)) known named =
      let had : has_facts o g src ≡ true =
      was_known (has_facts o g src) (λ e. e) (adjoins.facts (names_source g src)) known in
      opened_if_touched keys (adjoins_names keys o changed quiet adjoins g src had) named
      (or_left (has_facts o g src) (list_any (names_source g src) keys) had)

  among_named : (b n l : Bool) → (b ≡ true → n ≡ true → l ≡ true) → ((b && n) && l) ≡ (n && b)
  among_named true true l opened = opened refl refl
  among_named true false l opened = refl
  among_named false true l opened = refl
  among_named false false l opened = refl

  pub names_are_named : (touched : Touched) → Contains touched o changed
      → is_listed (named_among o after touched) g src ≡ is_listed (named_by o changed) g src
  unfolding is_listed named_among named_by is_changed
  names_are_named touched covers =
      passing g src (is_changed o after) (opened_sources o touched)
      ∙ (among_named has_one (is_source_named g src o after)
      (list_any (same_key (source_key 0 g src)) (opened_sources o touched)) (named_is_opened touched covers)
      ∙ sym (listed_of_all o after g src (is_source_named g src o after) refl))

-- a source with a fact that isn't listed isn't named
unlisted : (o a : State) (g src : ℕ)
    → (has_row o.sources (source_key 0 g src) || has_row a.sources (source_key 0 g src)) ≡ true
    → is_listed (named o a) g src ≡ false → is_source_named g src o a ≡ false
unlisted o a g src known e = go (is_source_named g src o a) refl
  where
    go : (n : Bool) → is_source_named g src o a ≡ n → n ≡ false
    go true f = sym (listed_of_all o a g src true f ∙ known) ∙ e
    go false f = refl

pub unlisted_is_unnamed : (o changed : State) → IsQuiet o → (touched : Touched) → Contains touched o changed → (g src : ℕ)
    → (has_row o.sources (source_key 0 g src) || has_row (clear o changed).0.sources (source_key 0 g src)) ≡ true
    → is_listed (named_among o (clear o changed).0 touched) g src ≡ false
    → is_source_named g src o (clear o changed).0 ≡ false
unfolding named_by
unlisted_is_unnamed o changed quiet touched covers g src known e =
    unlisted o (clear o changed).0 g src known (sym (names_are_named o changed quiet g src touched covers) ∙ e)
