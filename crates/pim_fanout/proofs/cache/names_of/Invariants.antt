use Rattle.std.{proofs.Common.{◌≡◌, ◌++◌}, specs.Prelude.map}
use Rattle.pim_types.{specs.Keys.{group_in, source_in, source_key}}
use Rattle.pim_fanout.{specs.Named.keys_of}
use Rattle.pim_fanout.proofs.cache.names_of.Given as goal

abbrev pub invariant-loop-key : goal.invariant-loop-key
invariant-loop-key l =
    keys_of l.names.items ++ map (λ e. source_key 0 (group_in e.0) (source_in e.0)) l.key-iterator
    ≡ map (λ e. source_key 0 (group_in e.0) (source_in e.0)) l.fn.rows
