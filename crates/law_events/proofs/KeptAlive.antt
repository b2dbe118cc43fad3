-- The keepalive timer of a source with a fact: setting it changes nothing that macros read, its own nor others'.
use Rattle.std.{proofs.Common.{◌≡◌, ◌+◌, ℕ, Bool, true, false, not, ◌&&◌, ◌||◌, List, Some, is_some, refl, sym, ap, ◌∙◌, arith}, specs.{List.list_all, Option.option_map_or}}
use Rattle.pim_types.{specs.{declared.fact.{Key.Key, SourceRow.SourceRow}, Keys.{same_key, source_key}}, proofs.Keys.{equal_keys, same_key_same}}
use Rattle.pim_model.{specs.{Cache.{answers, cached}, Clearing.spt_must_go, Desires.{is_immediate_empty, is_inherited_empty, join_desired}, Registers.{could_register, keepalive_period, with_keepalive}, Sets.{is_kept_alive, spt_bit}, State.State, Tables.{has_row, put, row_at}}}
use Rattle.law_settled.{proofs.{ListLaws.each_of_list, RowLaws.{row_put, row_put_away}, TableLaws.row_of_each}}
use Rattle.law_events.{specs.{Locality.is_register_settled, Rest.IsAtRest, Sees.SeesSource}, proofs.{SameMacros.{is_immediate_empty_same, is_inherited_empty_same, join_desired_same}, SameSights.source_at, SameRows.flags, SameAnswers.answers_same}}

-- what all entries of a table pass, the row at a key passes
pub row_passes : {R : Type 0} (p : Key × R → Bool) (k : Key) (r : R) (t : List (Key × R)) → list_all p t ≡ true
    → row_at t k ≡ Some r → p (k, r) ≡ true
row_passes p k r t e f = row_of_each (λ x. p x ≡ true) k r t (each_of_list p t e) f

-- what a table says of a key, where it has a row there
pub with_its_row : {R : Type 0} {C : Type 0} (k : Key) (t : List (Key × R)) → has_row t k ≡ true
    → ((r : R) → row_at t k ≡ Some r → C) → C
unfolding has_row
with_its_row {C = C} k t there done = grind arith

module _ (g src : ℕ) (s : State) where
  abbrev pub its_key : Key
  its_key = source_key 0 g src

  abbrev pub kept : State
  kept = with_keepalive s g src

  abbrev pub kept_row : SourceRow
  kept_row = record { keepalive = Some (s.present + keepalive_period); spt = spt_bit s g src }

  pub found : row_at kept.sources its_key ≡ Some kept_row
  unfolding with_keepalive
  found = row_put its_key kept_row s.sources

  pub now_kept : is_kept_alive kept g src ≡ true
  unfolding is_kept_alive
  now_kept = ap (λ o. option_map_or (λ (r : SourceRow). is_some r.keepalive) o false) found

  apart : {k : Key} → same_key its_key k ≡ false → its_key ≡ k → ⊥
  apart {k} e f = let same : same_key its_key k ≡ true = sym (ap (same_key its_key) f) ∙ same_key_same its_key in cc

  -- SPTbit is as it was, of all
  spt_as_it_was : (h x : ℕ) (b : Bool) → same_key its_key (source_key 0 h x) ≡ b → spt_bit s h x ≡ spt_bit kept h x
  unfolding spt_bit with_keepalive
  spt_as_it_was h x b e = grind (arith, equal_keys, found, row_put_away, apart)

  -- the timer of another source is as it was
  pub kept_as_it_was : (h x : ℕ) → same_key its_key (source_key 0 h x) ≡ false → is_kept_alive s h x ≡ is_kept_alive kept h x
  unfolding is_kept_alive with_keepalive
  kept_as_it_was h x e = grind (arith, row_put_away, apart)

  pub sees_kept : (h x : ℕ) → SeesSource h x s kept
  unfolding with_keepalive
  sees_kept h x =
      source_at s s.present (put s.sources its_key kept_row) h x (spt_as_it_was h x (same_key its_key (source_key 0 h x)) refl)

  module _ (rests : IsAtRest s) (there : has_row s.sources its_key ≡ true) where
    -- where the timer doesn't run SPTbit is set, so the source is desired by its own list
    pub lasts : is_kept_alive s g src ≡ false → is_immediate_empty s g src ≡ false
    unfolding is_kept_alive join_desired
    lasts e =
        with_its_row its_key s.sources there (λ r f.
        let tidy : (is_some r.keepalive || r.spt) ≡ true =
        row_passes (λ e. is_some (e.1).keepalive || (e.1).spt) its_key r s.sources rests.settled.tidy.sources f in
        let stays : not (r.spt && not (join_desired s g src)) ≡ true =
        row_passes (λ e. not (spt_must_go s e)) its_key r s.sources rests.quiet.clear.sources f in
        let stopped : is_some r.keepalive ≡ false =
        sym (ap (λ o. option_map_or (λ (r : SourceRow). is_some r.keepalive) o false) f) ∙ e in
        go (is_some r.keepalive) r.spt (is_immediate_empty s g src) (is_kept_alive s g src) (not (is_inherited_empty s g src))
        stopped tidy stays e)
      where
        go : (k b m a f : Bool) → k ≡ false → (k || b) ≡ true → not (b && not (not m || (a && f))) ≡ true → a ≡ false
            → m ≡ false
        go true b m a f is tidy stays e = cc
        go false false m a f is tidy stays e = cc
        go false true true true f is tidy stays e = cc
        go false true true false f is tidy stays e = cc
        go false true false a f is tidy stays e = refl

    its_desire : (b : Bool) → is_kept_alive s g src ≡ b → join_desired s g src ≡ join_desired kept g src
    unfolding join_desired
    its_desire b e = grind (arith, join_desired_same, sees_kept, now_kept, lasts, is_immediate_empty_same)

    -- of all sources
    pub desired_kept : (h x : ℕ) → join_desired s h x ≡ join_desired kept h x
    desired_kept h x = grind (arith, equal_keys, its_desire, join_desired_same, sees_kept, kept_as_it_was)

    -- it is registered where it could be
    pub register_is_settled : could_register s g src ≡ has_row s.registers its_key
    register_is_settled =
        with_its_row its_key s.sources there (λ r f.
        flags (could_register s g src) (has_row s.registers its_key)
        (row_passes (λ e. is_register_settled s e.0) its_key r s.sources rests.quiet.sources_settled f))

    pub no_answer_changed : (h x : ℕ) → answers kept h x ≡ answers s h x
    unfolding with_keepalive
    no_answer_changed h x = sym (answers_same h x s kept (sees_kept h x) (desired_kept h x) refl)

-- ---- answers at rest

module _ (g src : ℕ) (s t : State) (rests : IsAtRest s) (rests' : IsAtRest t)
    (there : has_row s.sources (source_key 0 g src) ≡ true) (there' : has_row t.sources (source_key 0 g src) ≡ true)
    (sees : SeesSource g src s t) where
  desired_at_rest : join_desired s g src ≡ join_desired t g src
  unfolding join_desired
  desired_at_rest = grind (arith, is_immediate_empty_same, is_inherited_empty_same, lasts)

  pub answers_at_rest : could_register s g src ≡ could_register t g src → answers s g src ≡ answers t g src
  answers_at_rest could = grind (arith, answers_same, desired_at_rest, register_is_settled)

pub cache_of_same : (g src : ℕ) (s t : State) → IsAtRest s → IsAtRest t
    → has_row s.sources (source_key 0 g src) ≡ has_row t.sources (source_key 0 g src)
    → (has_row s.sources (source_key 0 g src) ≡ true
    → SeesSource g src s t × (could_register s g src ≡ could_register t g src))
    → cached s g src ≡ cached t g src
unfolding cached
cache_of_same g src s t rests rests' same sees = grind (arith, answers_at_rest)
