use Rattle.std.{proofs.Common.◌≡◌, specs.List.list_all}
use Rattle.law_events.{specs.Locality.is_register_settled}
use Rattle.pim_worlds.proofs.quiet.are_registers_settled.Given as goal

abbrev pub invariant-loop-key : goal.invariant-loop-key
invariant-loop-key l =
    list_all (λ e. is_register_settled l.world e.0) l.key-iterator
    ≡ list_all (λ e. is_register_settled l.fn.world e.0) l.fn.rows
