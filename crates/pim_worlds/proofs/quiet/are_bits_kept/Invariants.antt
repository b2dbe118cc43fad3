use Rattle.std.{proofs.Common.◌≡◌, specs.{List.list_all, Prelude.not}}
use Rattle.pim_model.{specs.Clearing.spt_must_go}
use Rattle.pim_worlds.proofs.quiet.are_bits_kept.Given as goal

abbrev pub invariant-loop-key : goal.invariant-loop-key
invariant-loop-key l =
    list_all (λ e. not (spt_must_go l.world e)) l.key-iterator ≡ list_all (λ e. not (spt_must_go l.fn.world e)) l.fn.rows
