-- A cache in which all sources with a fact were evaluated has all rows.
use Rattle.std.{proofs.Common.{◌≡◌, ◌||◌, ℕ, Bool, true, false, List, [], ◌∷◌, Some, None, ap, cond, refl, subst, sym, ◌∙◌}, specs.{List.list_any, Prelude.map}}
use Rattle.pim_types.{proofs.Keys.{equal_keys, same_key_same}, specs.{Keys.{group_in, same_key, source_in, source_key}, declared.fact.{Key.Key, SourceRow.SourceRow}}}
use Rattle.law_settled.{proofs.RowLaws.has_row_any}
use Rattle.pim_macros.{specs.declared.rows.SourceAnswers.SourceAnswers}
use Rattle.pim_model.{specs.{Cache.{answers, cached}, State.State, Tables.{Table, has_row}}}
use Rattle.law_events.{specs.Kept.{IsCached, SameRow, is_listed, no_rows, refreshed}, proofs.CacheSameRows.row_itself}
use Rattle.pim_mfc.{specs.Laws.ShowsRows, proofs.Shown.{none_shown, refreshed_are_shown}}
use Rattle.pim_trie.{specs.Meter.raised}
use Rattle.pim_fanout.{specs.Refreshing.{CacheValue, IsUncounted, Refreshes, touches, uncounted}}

abbrev name_in : Key × SourceRow → Key
name_in e = source_key 0 (group_in e.0) (source_in e.0)

module _ (g src : ℕ) where
  abbrev sought : Key
  sought = source_key 0 g src

  here : (e : Key × SourceRow) → same_key sought e.0 ≡ true → same_key sought (name_in e) ≡ true
  here e same = subst (λ (k : Key). same_key sought (source_key 0 (group_in k) (source_in k)) ≡ true)
      (equal_keys sought e.0 same) (same_key_same sought)

  step : (a b c d : Bool) → (a ≡ true → b ≡ true) → (c ≡ true → d ≡ true) → (a || c) ≡ true → (b || d) ≡ true
  step true b c d f h e = rw (f refl) refl
  step false true c d f h e = refl
  step false false true d f h e = h refl
  step false false false d f h e = cc

  all_listed : (t : Table SourceRow) → list_any (λ e. same_key sought e.0) t ≡ true
      → list_any (same_key sought) (map name_in t) ≡ true
  all_listed [] e = e
  all_listed (x ∷ t) e =
      step (same_key sought x.0) (same_key sought (name_in x)) (list_any (λ e. same_key sought e.0) t)
      (list_any (same_key sought) (map name_in t)) (here x) (all_listed t) e

all_cached : (s : State) (names : List Key) → names ≡ map name_in s.sources → IsCached (refreshed names s no_rows) s
unfolding refreshed is_listed cached
all_cached s names are g src =
    go (has_row s.sources (source_key 0 g src)) (is_listed names g src) refl refl
  where
    go : (b l : Bool) → has_row s.sources (source_key 0 g src) ≡ b → is_listed names g src ≡ l
        → SameRow (cond l (cond b (Some (answers s g src)) None) None) (cond b (Some (answers s g src)) None)
    go b true there listed = row_itself (cond b (Some (answers s g src)) None)
    go false false there listed = tt
    go true false there listed =
        let found : list_any (same_key (source_key 0 g src)) names ≡ true =
        subst (λ (ks : List Key). list_any (same_key (source_key 0 g src)) ks ≡ true) (sym are)
        (all_listed g src s.sources (sym (has_row_any (source_key 0 g src) s.sources) ∙ there)) in
        cc (found, listed)

pub all_shown : (s : State) (names : List Key) (rows : Table SourceAnswers) → names ≡ map name_in s.sources
    → Refreshes names s [] rows → ShowsRows rows (cached s)
all_shown s names rows are shows =
    refreshed_are_shown rows (refreshed names s no_rows) s (shows no_rows none_shown) (all_cached s names are)

pub none_counted : (before after : CacheValue) → after ≡ uncounted before → IsUncounted after
unfolding touches raised
none_counted before after is = (
  ap (λ (k : CacheValue). touches k) is,
  ap (λ (k : CacheValue). k.changed) is,
  ap (λ (k : CacheValue). k.disturbed) is,
)
