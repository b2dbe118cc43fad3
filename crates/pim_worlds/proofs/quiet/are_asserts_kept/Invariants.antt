use Rattle.std.{proofs.Common.{◌≡◌, true}, specs.{List.list_all, Prelude.{nat_lt, not}}}
use Rattle.pim_model.{specs.Clearing.assert_must_go}
use Rattle.pim_types.{specs.Keys.iface_in}
use Rattle.pim_worlds.proofs.quiet.are_asserts_kept.Given as goal

abbrev pub invariant-loop-key : goal.invariant-loop-key
invariant-loop-key l = record {
  test : list_all (λ e. not (assert_must_go l.world l.world e)) l.key-iterator
      ≡ list_all (λ e. not (assert_must_go l.fn.world l.fn.world e)) l.fn.rows;
  below : list_all (λ e. nat_lt (iface_in e.0) 120) l.key-iterator ≡ true;
}
