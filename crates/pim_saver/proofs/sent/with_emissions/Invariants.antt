use Rattle.std.{proofs.Common.{◌≡◌, drop}}
use Rattle.pim_saver.{specs.Records.after_sent}
use Rattle.pim_saver.proofs.sent.with_emissions.Given as goal

abbrev pub invariant-loop-emission : goal.invariant-loop-emission
invariant-loop-emission l = after_sent l.register (drop l.emission-index l.sent) ≡ after_sent l.fn.register l.sent
