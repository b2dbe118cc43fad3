-- The keys that the entries of one group name, and rows that are set one after the other.
use Rattle.std.{specs.{List.list_all, Prelude.{Bool, List, filter, fold, length, map, ℕ, ◌&&◌, ◌<◌, ◌≡◌}}}
use Rattle.pim_types.{specs.{Keys.{group_in, is_on, star_key}, declared.fact.Key.Key}}
use Rattle.pim_wire.{specs.declared.join_prune.Entry.Entry}
use Rattle.pim_model.{specs.{Downstream.{Named, is_accepted, is_named, is_used, named_key, row_after, touched_keys}, State.State, Tables.set_row}}
use Rattle.pim_downstream.{specs.declared.{named.Named.Named as NamedKeys, effect.Change.Change}}

-- a joined entry counts where the router uses and accepts it
abbrev pub is_counted : State → Named → Bool
is_counted s n = is_used n && is_accepted s n

-- the keys of those entries of a group that pass a test, in their order
unfoldable pub entry_keys : (Named → Bool) → ℕ → ℕ → List Entry → List Key
entry_keys test i g es = map (named_key i) (filter test (map (λ e. (g, e)) es))

-- the key is of (S,G,rpt) on an interface, and its group is joined
abbrev pub is_rpt_joined : ℕ → List Key → Key → Bool
is_rpt_joined i joined k = is_on i k && k.rpt && is_named joined (star_key i (group_in k))

-- the keys are on an interface
abbrev pub are_on : ℕ → List Key → Bool
are_on i keys = list_all (is_on i) keys

-- the row of a key set, or taken away
unfoldable pub row_set : State → Change → State
row_set s c = record s { downstream = set_row s.downstream c.key c.row }

-- the rows of several keys set, or taken away
unfoldable pub rows_set : State → List Change → State
rows_set s changes = fold row_set s changes

-- the row of a key after a message with these keys
abbrev pub change_after : State → ℕ → ℕ → List Key → List Key → Key → Change
change_after s i holdtime joined pruned k = record { key = k; row = row_after s i holdtime joined pruned k }

-- What becomes of all keys whose rows the message can change.
abbrev pub changes_after : State → ℕ → ℕ → List Key → List Key → List Change
changes_after s i holdtime joined pruned = map (change_after s i holdtime joined pruned) (touched_keys s i joined pruned)

-- The set has the keys, if they are more than a few.
abbrev pub IsSetOf : (keys set : List Key) → Type 0
IsSetOf keys set = 8 < length keys → (q : Key) → is_named set q ≡ is_named keys q

-- The sets have the keys that a message joins, and those that it prunes, if they are more than a few.
pub record AreSets (named : NamedKeys) (joined pruned : List Key) : Type 0 where
  pub joins : IsSetOf named.joined.items joined
  pub prunes : IsSetOf named.pruned.items pruned
