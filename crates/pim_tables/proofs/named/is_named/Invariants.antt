use Rattle.std.{proofs.Common.{◌≡◌, drop}, specs.List.list_any}
use Rattle.pim_types.{specs.Keys.same_key}
use Rattle.pim_tables.proofs.named.is_named.Given as goal

abbrev pub invariant-loop-named : goal.invariant-loop-named
invariant-loop-named l = list_any (same_key l.key) (drop l.named-index l.keys) ≡ list_any (same_key l.key) l.keys
