use Rattle.std.{proofs.Common.◌≡◌, specs.List.list_any}
use Rattle.pim_model.{specs.Tables.keys_in}
use Rattle.pim_state.{specs.Sources.is_within}
use Rattle.pim_state.proofs.sources.is_among.Given as goal

abbrev pub invariant-loop-key : goal.invariant-loop-key
invariant-loop-key g l =
    list_any (is_within l.prefix) (keys_in l.key-iterator) ≡ list_any (is_within l.prefix) (keys_in l.fn.facts)
