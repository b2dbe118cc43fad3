use Rattle.std.{proofs.Common.{◌≡◌, drop}, specs.List.list_any}
use Rattle.pim_views.{specs.Openings.is_of_all}
use Rattle.pim_views.proofs.sources.is_whole.Given as goal

abbrev pub invariant-loop-key : goal.invariant-loop-key
invariant-loop-key l =
    list_any (is_of_all l.group.bits) (drop l.key-index l.keys) ≡ list_any (is_of_all l.group.bits) l.keys
