-- All rows are evaluated again where all sources with a fact are named, before a change and after it.
use Rattle.std.{proofs.{Common.{◌≡◌, ◌||◌, ◌++◌, ℕ, Bool, true, false, List, [], ◌∷◌, Some, None, ap, cond, refl, subst, sym, ◌∙◌}, lemmas.{Bool.or_right, List.Folds.list_any-append}}, specs.{List.list_any, Prelude.map}}
use Rattle.pim_types.{proofs.Keys.{equal_keys, same_key_same}, specs.{Keys.{group_in, same_key, source_in, source_key}, declared.fact.{Key.Key, SourceRow.SourceRow}}}
use Rattle.law_settled.{proofs.RowLaws.has_row_any}
use Rattle.pim_model.{specs.{Cache.{answers, cached}, State.State, Tables.{Table, has_row}}}
use Rattle.pim_macros.{specs.declared.rows.SourceAnswers.SourceAnswers}
use Rattle.law_events.{specs.Kept.{IsCached, SameRow, is_listed, refreshed}, proofs.CacheSameRows.row_itself}
use Rattle.pim_mfc.{specs.Laws.ShowsRows, proofs.Shown.refreshed_are_shown}
use Rattle.pim_fanout.{specs.{Refreshing.Refreshes, Disturbed.joined}}
use Rattle.pim_state.{specs.declared.touched.Touched.Touched}
use Rattle.pim_reloader.{specs.Listing.{AreListed, ListsFacts, sources_in}}

abbrev name_in : Key × SourceRow → Key
name_in e = source_key 0 (group_in e.0) (source_in e.0)

module _ (g src : ℕ) where
  abbrev sought : Key
  sought = source_key 0 g src

  here : (e : Key × SourceRow) → same_key sought e.0 ≡ true → same_key sought (name_in e) ≡ true
  here e same = subst (λ (k : Key). same_key sought (source_key 0 (group_in k) (source_in k)) ≡ true)
      (equal_keys sought e.0 same) (same_key_same sought)

  step : (a b c d : Bool) → (a ≡ true → b ≡ true) → (c ≡ true → d ≡ true) → (a || c) ≡ true → (b || d) ≡ true
  step true b c d f h e = rw (f refl) refl
  step false true c d f h e = refl
  step false false true d f h e = h refl
  step false false false d f h e = cc

  all_listed : (t : Table SourceRow) → list_any (λ e. same_key sought e.0) t ≡ true
      → list_any (same_key sought) (map name_in t) ≡ true
  all_listed [] e = e
  all_listed (x ∷ t) e =
      step (same_key sought x.0) (same_key sought (name_in x)) (list_any (λ e. same_key sought e.0) t)
      (list_any (same_key sought) (map name_in t)) (here x) (all_listed t) e

  -- a source with a fact is listed by the state's sources
  pub is_there : (s : State) → has_row s.sources (source_key 0 g src) ≡ true → is_listed (sources_in s) g src ≡ true
  unfolding is_listed
  is_there s there = all_listed s.sources (sym (has_row_any (source_key 0 g src) s.sources) ∙ there)

-- what is listed in one part is listed in the whole
pub in_first : (xs ys : List Key) (g src : ℕ) → is_listed xs g src ≡ true → is_listed (xs ++ ys) g src ≡ true
unfolding is_listed
in_first xs ys g src e =
    list_any-append (same_key (source_key 0 g src)) xs ys
    ∙ ap (λ (b : Bool). b || list_any (same_key (source_key 0 g src)) ys) e

pub in_second : (xs ys : List Key) (g src : ℕ) → is_listed ys g src ≡ true → is_listed (xs ++ ys) g src ≡ true
unfolding is_listed
in_second xs ys g src e =
    list_any-append (same_key (source_key 0 g src)) xs ys
    ∙ or_right (list_any (same_key (source_key 0 g src)) xs) (list_any (same_key (source_key 0 g src)) ys) e

module _ (o t : State) (names : List Key) (first : List Key) (are : names ≡ first ++ sources_in o ++ sources_in t) where
  of_first : (g src : ℕ) → has_row o.sources (source_key 0 g src) ≡ true → is_listed names g src ≡ true
  of_first g src there =
      ap (λ (ks : List Key). is_listed ks g src) are
      ∙ in_first (first ++ sources_in o) (sources_in t) g src
      (in_second first (sources_in o) g src (is_there g src o there))

  of_second : (g src : ℕ) → has_row t.sources (source_key 0 g src) ≡ true → is_listed names g src ≡ true
  of_second g src there =
      ap (λ (ks : List Key). is_listed ks g src) are
      ∙ in_second (first ++ sources_in o) (sources_in t) g src (is_there g src t there)

  clash : (b : Bool) → b ≡ true → b ≡ false → ⊥
  clash b e f = cc (e, f)

  renewed : IsCached (refreshed names t (cached o)) t
  unfolding refreshed cached
  renewed g src =
      go (is_listed names g src) (has_row o.sources (source_key 0 g src)) (has_row t.sources (source_key 0 g src)) refl refl
      refl
    where
      go : (l b c : Bool) → is_listed names g src ≡ l → has_row o.sources (source_key 0 g src) ≡ b
          → has_row t.sources (source_key 0 g src) ≡ c
          → SameRow (cond l (cond c (Some (answers t g src)) None) (cond b (Some (answers o g src)) None))
          (cond c (Some (answers t g src)) None)
      go true b c listed was is = row_itself (cond c (Some (answers t g src)) None)
      go false true c listed was is = absurd (clash (is_listed names g src) (of_first g src was) listed)
      go false false true listed was is = absurd (clash (is_listed names g src) (of_second g src is) listed)
      go false false false listed was is = tt

  pub renewed_are_shown : (before after : Table SourceAnswers) → ShowsRows before (cached o)
      → Refreshes names t before after → ShowsRows after (cached t)
  renewed_are_shown before after shown refreshes =
      refreshed_are_shown after (refreshed names t (cached o)) t (refreshes (cached o) shown) renewed

-- with all disturbed, all are
pub joined_all : (before : Touched) → joined before Touched.All ≡ Touched.All
unfolding joined
joined_all Touched.All = refl
joined_all (Touched.Keys keys) = refl

pub lists_facts : (s m n : State) (names before after : List Key) → names ≡ sources_in s
    → AreListed names m n before after → ListsFacts s n after
lists_facts s m n names before after are listed g src there =
    listed g src
    ∙ in_second before (names ++ sources_in m ++ sources_in n) g src
    (go (has_row s.sources (source_key 0 g src)) (has_row n.sources (source_key 0 g src)) refl refl there)
  where
    go : (a b : Bool) → has_row s.sources (source_key 0 g src) ≡ a → has_row n.sources (source_key 0 g src) ≡ b
        → (a || b) ≡ true → is_listed (names ++ sources_in m ++ sources_in n) g src ≡ true
    go true b was is e =
        in_first (names ++ sources_in m) (sources_in n) g src
        (in_first names (sources_in m) g src (ap (λ (ks : List Key). is_listed ks g src) are ∙ is_there g src s was))
    go false true was is e = in_second (names ++ sources_in m) (sources_in n) g src (is_there g src n is)
    go false false was is e = cc
