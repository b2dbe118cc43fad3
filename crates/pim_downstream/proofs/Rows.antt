-- Rows that are set one after the other.
use Rattle.std.{proofs.Common.{◌≡◌, ℕ, List, [], ◌∷◌, map, Option, refl, ap, ◌∙◌}, specs.Prelude.fold}
use Rattle.pim_types.{specs.declared.fact.{DownstreamRow.DownstreamRow, Key.Key}}
use Rattle.pim_model.{specs.{Downstream.{asserts_after_joins, keys_taken, row_after, touched_keys}, State.State, Tables.set_row}}
use Rattle.pim_downstream.{specs.{Naming.{changes_after, row_set, rows_set}, declared.effect.Change.Change}}

module _ (row : Key → Option DownstreamRow) where
  abbrev changed : Key → Change
  changed k = record { key = k; row = row k }

  -- they change the one table
  set_in_table : (ks : List Key) (s : State)
      → rows_set s (map changed ks) ≡ record s { downstream = fold (λ t k. set_row t k (row k)) s.downstream ks }
  unfolding rows_set row_set
  set_in_table [] s = refl
  set_in_table (k ∷ ks) s = set_in_table ks (row_set s (changed k))

-- what is left of a message whose rows are set, and whose losses are ended
pub taken : (s : State) (i holdtime : ℕ) (joined pruned : List Key) (changes : List Change) (later after : State)
    → changes ≡ changes_after s i holdtime joined pruned
    → later ≡ rows_set s changes → after ≡ record later { asserts = asserts_after_joins later joined }
    → after ≡ keys_taken s i holdtime joined pruned
unfolding keys_taken asserts_after_joins
taken s i holdtime joined pruned changes later after judged set ended =
    let row : Key → Option DownstreamRow = row_after s i holdtime joined pruned in
    let ks : List Key = touched_keys s i joined pruned in
    let new : later ≡ record s { downstream = fold (λ t k. set_row t k (row k)) s.downstream ks } =
    set ∙ ap (rows_set s) judged ∙ set_in_table row ks s in
    ended ∙ ap (λ (x : State). let y : State = record x { asserts = asserts_after_joins x joined } in y) new
