-- The keys so far are known.
use Rattle.std.{proofs.Common.{◌≡◌, map}}
use Rattle.toml.{specs.View.{table_view, members_view}}
use Rattle.pim_scenario.{specs.Fields.has_only}
use Rattle.pim_scenario.proofs.scenario.field.only.Given as goal

abbrev pub invariant-loop-key : goal.invariant-loop-key
invariant-loop-key l =
    has_only (map (λ k. k.now) l.known) (members_view l.key-iterator)
    ≡ has_only (map (λ k. k.now) l.known) (table_view l.table)
