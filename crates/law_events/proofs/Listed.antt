-- Which (S,G) the named sources have: one that isn't listed isn't named, or has no fact before nor after.
use Rattle.std.{proofs.{Common.{◌≡◌, ℕ, Bool, true, not, ◌||◌, List, sym, ap, ◌∙◌, arith}, lemmas.{List.Folds.list_any-append, Map.Views.any-filter_same}}, specs.List.{filter, list_any}}
use Rattle.pim_types.{specs.{declared.fact.Key.Key, Keys.{group_in, same_key, source_in, source_key}}, proofs.Keys.equal_keys}
use Rattle.pim_model.{specs.{Reach.with_facts, State.State, Tables.{Table, has_row, keys_in}}}
use Rattle.law_settled.{proofs.{RowLaws.has_row_any, TableLaws.any_of_map}}
use Rattle.law_events.{specs.{Named.{is_source_named, named}, Kept.is_listed}}

module _ (g src : ℕ) (o a : State) where
  abbrev its_key : Key
  its_key = source_key 0 g src

  abbrev among : List Key → Bool
  among ks = list_any (same_key its_key) ks

  -- a key that passes is in a filter where it is in the list
  in_filter : (q : Key → Bool) → q its_key ≡ true → (ks : List Key) → among (filter q ks) ≡ among ks
  in_filter q h ks = any-filter_same (same_key its_key) q true (λ k e. ap q (sym (equal_keys its_key k e)) ∙ h) ks

  -- a key with a row is one of the table's
  keys_of_rows : {R : Type 0} (t : Table R) → has_row t its_key ≡ among (keys_in t)
  unfolding keys_in
  keys_of_rows t = has_row_any its_key t ∙ sym (any_of_map (same_key its_key) (λ e. e.0) t)

  abbrev is_new : Key → Bool
  is_new k = not (has_row o.sources k)

  among_new : (b : Bool) → has_row o.sources its_key ≡ b
      → (b || among (filter is_new (keys_in a.sources))) ≡ (b || has_row a.sources its_key)
  among_new b e = grind (arith, in_filter, keys_of_rows)

  among_facts : among (with_facts o a) ≡ (has_row o.sources its_key || has_row a.sources its_key)
  unfolding with_facts
  among_facts = grind (arith, list_any-append, keys_of_rows, among_new)

  pub listed : is_source_named g src o a ≡ true
      → is_listed (named o a) g src ≡ (has_row o.sources its_key || has_row a.sources its_key)
  unfolding is_listed named
  listed e = in_filter (λ k. is_source_named (group_in k) (source_in k) o a) e (with_facts o a) ∙ among_facts
