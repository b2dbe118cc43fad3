-- Facts before and after a change, by a test of keys.
use Rattle.std.{proofs.{Common.{◌≡◌, Bool, true, false, cond, List, ◌++◌, ◌||◌, ◌&&◌, Option, Some, None, refl, ap, sym, ◌∙◌}, lemmas.{Bool.{or_left, or_right}, List.Folds.list_any-append}}, specs.{Cmp.first_so, List.list_any}}
use Rattle.pim_types.{specs.{declared.fact.{AssertRow.AssertRow, DownstreamRow.DownstreamRow, JoinTimerRow.JoinTimerRow, Key.Key, OverrideTimerRow.OverrideTimerRow, SourceRow.SourceRow}, Keys.same_key}}
use Rattle.pim_model.{specs.{Messages.Message, State.State, Tables.{Table, has_row, keys_in, put, set_row}, Upstream.fact_keys}}
use Rattle.law_events.{proofs.Differing.{passing_named, row_named}}
use Rattle.law_settled.{proofs.{FewerFacts.{IsFewer, row_without}, ListLaws.{any_more, either}, RowLaws.any_of_put, TableLaws.any_of_map}}

-- ---- keys among others

pub any_left : (p : Key → Bool) (xs ys : List Key) → list_any p xs ≡ true → list_any p (xs ++ ys) ≡ true
any_left p xs ys here = list_any-append p xs ys ∙ or_left (list_any p xs) (list_any p ys) here

pub any_right : (p : Key → Bool) (xs ys : List Key) → list_any p ys ≡ true → list_any p (xs ++ ys) ≡ true
any_right p xs ys here = list_any-append p xs ys ∙ or_right (list_any p xs) (list_any p ys) here

-- a key that has a row is among the keys of its table
pub row_among : {R : Type 0} (p : Key → Bool) (k : Key) (t : Table R) → has_row t k ≡ true → p k ≡ true
    → list_any p (keys_in t) ≡ true
row_among p k t there named =
    any_more (λ x. p x && same_key k x) p (λ x e. first_so (p x) (same_key k x) e) (keys_in t)
    (passing_named p k named (keys_in t) ∙ row_named k t ∙ there)

-- ---- facts that are more

or_or : (a b x : Bool) → ((a || x) || (b || x)) ≡ ((a || b) || x)
or_or true b x = refl
or_or false true x = or_true x
  where
    or_true : (x : Bool) → (x || true) ≡ true
    or_true true = refl
    or_true false = refl
or_or false false true = refl
or_or false false false = refl

module _ (p : Key → Bool) (x : Bool) where
  -- what passes after passed before, or there is something else
  abbrev pub Grows : List Key → List Key → Type 0
  Grows before after = list_any p after ≡ true → (list_any p before || x) ≡ true

  -- of the facts of two states
  abbrev pub FactsGrow : State → State → Type 0
  FactsGrow s t = Grows (fact_keys s) (fact_keys t)

  pub stays : (ks : List Key) → Grows ks ks
  stays ks e = or_left (list_any p ks) x e

  pub grows_on : (xs ys zs : List Key) → Grows xs ys → Grows ys zs → Grows xs zs
  grows_on xs ys zs first second e =
      either (list_any p ys) x first (λ f. or_right (list_any p xs) x f) (second e)

  pub fewer_grow : (s t : State) → IsFewer s t → FactsGrow s t
  fewer_grow s t less e = or_left (list_any p (fact_keys s)) x (less.passed p e)

  pub grows_so : (s : State) (b : Bool) (t u : State × List Message) → FactsGrow s t.0 → FactsGrow s u.0
      → FactsGrow s (cond b t u).0
  grows_so s true t u f g = f
  grows_so s false t u f g = g

  pub both_grow : (xs ys us vs : List Key) → Grows xs ys → Grows us vs → Grows (xs ++ us) (ys ++ vs)
  both_grow xs ys us vs first second e =
      ap (λ b. b || x) (list_any-append p xs us)
      ∙ sym (or_or (list_any p xs) (list_any p us) x)
      ∙ either (list_any p ys) (list_any p vs)
      (λ f. or_left (list_any p xs || x) (list_any p us || x) (first f))
      (λ f. or_right (list_any p xs || x) (list_any p us || x) (second f))
      (sym (list_any-append p ys vs) ∙ e)

  -- where these five tables alone change
  pub facts_grow : (s : State) (rows : Table DownstreamRow) (asserts : Table AssertRow) (timers : Table JoinTimerRow)
      (overrides : Table OverrideTimerRow) (sources : Table SourceRow)
      → Grows (keys_in s.downstream) (keys_in rows) → Grows (keys_in s.asserts) (keys_in asserts)
      → Grows (keys_in s.join_timers) (keys_in timers) → Grows (keys_in s.override_timers) (keys_in overrides)
      → Grows (keys_in s.sources) (keys_in sources)
      → FactsGrow s (record s {
        downstream = rows;
        asserts = asserts;
        join_timers = timers;
        override_timers = overrides;
        sources = sources;
      })
  unfolding fact_keys
  facts_grow s rows asserts timers overrides sources first second third fourth fifth =
      both_grow _ _ _ _ (both_grow _ _ _ _ (both_grow _ _ _ _ (both_grow _ _ _ _ (both_grow _ _ _ _
      (both_grow _ _ _ _ (stays _) first) second) third) fourth) fifth) (stays (keys_in s.registers))

module _ {R : Type 0} (p : Key → Bool) where
  -- of a row that is set
  pub one_more : (k : Key) (row : Option R) (t : Table R) → list_any p (keys_in (set_row t k row)) ≡ true
      → (list_any p (keys_in t) || p k) ≡ true
  unfolding keys_in set_row
  one_more k None t e = or_left (list_any p (keys_in t)) (p k) (row_without k t p e)
  one_more k (Some r) t e =
      either (p k) (list_any (λ (e : Key × R). p e.0) t) (or_right (list_any p (keys_in t)) (p k))
      (λ f. or_left (list_any p (keys_in t)) (p k) (any_of_map p (λ (e : Key × R). e.0) t ∙ f))
      (any_of_put k r (λ e. p e.0) t (sym (any_of_map p (λ (e : Key × R). e.0) (put t k r)) ∙ e))
