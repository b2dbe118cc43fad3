-- All so far can have their sets.
use Rattle.std.{proofs.Common.{◌≡◌, drop}, specs.List.list_all}
use Rattle.pim_lab.{specs.Statuses.has_sets}
use Rattle.pim_lab.proofs.nodes.have_sets.Given as goal

abbrev pub invariant-loop-text : goal.invariant-loop-text
invariant-loop-text l = list_all has_sets (drop l.text-index l.texts) ≡ list_all has_sets l.texts
