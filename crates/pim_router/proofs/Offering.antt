-- What is offered to a data plane, and what one tells of a source.
use Rattle.std.{proofs.{Common.{◌≡◌, ◌+◌, ◌<◌, ◌≤◌, ℕ, Bool, true, false, cond, Option, Some, None, is_some, nat_lt, option_and_then, refl, ap, sym, subst, ◌∙◌, arith, lt-ltb}, lemmas.Bool.Decides.nat_tests}, specs.Option.option_map_or}
use Rattle.pim_types.{specs.{declared.fact.SourceRow.SourceRow, Keys.source_key}}
use Rattle.pim_model.{specs.{Cache.{Answers, answers, cached}, Full.source_is_full, Sets.is_kept_alive, State.State, Tables.{Table, has_row, row_at}}}
use Rattle.pim_macros.{specs.{Rows.{ShowsAnswers, answers_of}, declared.rows.SourceAnswers.SourceAnswers}}
use Rattle.pim_mfc.{specs.{Laws.{ShowsRow, ShowsRows}, Shown.{ShowsOffered, TellsOffload, known_offer, unknown_offer}, declared.offered.Offered.Offered}, proofs.OfferedAsShown.{shown_is_known, shown_is_unknown}}
use Rattle.law_events.{specs.Rest.IsAtRest}
use Rattle.law_plane.{specs.{Keeping.{keep, keepalive_end, kept_until}, Offered.offered}, proofs.Keeps.{keep_changes_no_row, keep_is_at_rest}}

-- ---- what is offered

module _ (rows : Table SourceAnswers) (s : State) (g src : ℕ) (shows : ShowsRows rows (cached s)) where
  pub known_told : (row : SourceAnswers) (shown : Offered) → row_at rows (source_key 0 g src) ≡ Some row
      → ShowsOffered shown (known_offer (answers_of row)) → TellsOffload (Some shown) (offered s g src)
  unfolding cached offered
  known_told row shown found made =
      go (has_row s.sources (source_key 0 g src))
      (subst (λ (o : Option SourceAnswers). ShowsRow o (cached s g src)) found (shows g src))
    where
      go : (b : Bool) → ShowsRow (Some row) (cond b (Some (answers s g src)) None)
          → TellsOffload (Some shown) (cond b (Some (known_offer (answers s g src)))
          (cond (source_is_full s g src) None (Some (unknown_offer (answers s g src)))))
      go true is = shown_is_known row (answers s g src) shown is made
      go false is = absurd is

  no_fact : row_at rows (source_key 0 g src) ≡ None → has_row s.sources (source_key 0 g src) ≡ false
  unfolding cached
  no_fact none =
      go (has_row s.sources (source_key 0 g src))
      (subst (λ (o : Option SourceAnswers). ShowsRow o (cached s g src)) none (shows g src))
    where
      go : (b : Bool) → ShowsRow None (cond b (Some (answers s g src)) None) → b ≡ false
      go true is = absurd is
      go false is = refl

  pub full_told : row_at rows (source_key 0 g src) ≡ None → source_is_full s g src ≡ true
      → TellsOffload None (offered s g src)
  unfolding offered
  full_told none full = rw (no_fact none, full) tt

  pub unknown_told : (row : SourceAnswers) (shown : Offered) → row_at rows (source_key 0 g src) ≡ None
      → source_is_full s g src ≡ false → ShowsAnswers row (answers s g src)
      → ShowsOffered shown (unknown_offer (answers_of row)) → TellsOffload (Some shown) (offered s g src)
  unfolding offered
  unknown_told row shown none room is made =
      rw (no_fact none, room) (shown_is_unknown row (answers s g src) shown is made)

-- ---- a source that is kept alive

pub alive_by_end : (s : State) (g src : ℕ) → is_kept_alive s g src ≡ is_some (keepalive_end s g src)
unfolding is_kept_alive keepalive_end
alive_by_end s g src = go (row_at s.sources (source_key 0 g src))
  where
    go : (o : Option SourceRow) → option_map_or (λ (r : SourceRow). is_some r.keepalive) o false
        ≡ is_some (option_and_then (λ (r : SourceRow). r.keepalive) o)
    go None = refl
    go (Some r) = refl

-- where it runs there is a row
pub runs_there : (s : State) (g src end : ℕ) → Some end ≡ keepalive_end s g src
    → has_row s.sources (source_key 0 g src) ≡ true
unfolding keepalive_end has_row
runs_there s g src end runs = go (row_at s.sources (source_key 0 g src)) runs
  where
    go : (o : Option SourceRow) → Some end ≡ option_and_then (λ (r : SourceRow). r.keepalive) o → is_some o ≡ true
    go None e = cc
    go (Some r) e = refl

module _ (s : State) (g src m : ℕ) where
  pub keep_none : None ≡ keepalive_end s g src → s ≡ keep s g src m
  unfolding keep
  keep_none none = rw (sym none) refl

  pub keep_sets : (end : ℕ) → Some end ≡ keepalive_end s g src → end < m + 210000
      → kept_until s g src (m + 210000) ≡ keep s g src m
  unfolding keep
  keep_sets end runs sooner = rw (sym runs, lt-ltb end (m + 210000) sooner) refl

  late : (end : ℕ) → m + 210000 ≤ end → nat_lt end (m + 210000) ≡ false
  late end le = grind (arith, nat_tests, le)

  pub keep_stays : (end : ℕ) → Some end ≡ keepalive_end s g src → m + 210000 ≤ end → s ≡ keep s g src m
  unfolding keep
  keep_stays end runs le = rw (sym runs, late end le) refl

  pub kept_rests : (t : State) → IsAtRest s → t ≡ keep s g src m → IsAtRest t
  kept_rests t rests is = subst (λ (u : State). IsAtRest u) (sym is) (keep_is_at_rest s g src m rests)

  pub kept_rows : (t : State) → t ≡ keep s g src m → (rows : Table SourceAnswers) → ShowsRows rows (cached s)
      → ShowsRows rows (cached t)
  kept_rows t is rows shows h x =
      subst (λ (o : Option Answers). ShowsRow (row_at rows (source_key 0 h x)) o)
      (sym (ap (λ (u : State). cached u h x) is ∙ keep_changes_no_row s g src m h x)) (shows h x)
