-- A word of the others that writes no address.
use Rattle.std.{proofs.Common.arith}
use Rattle.pim_scenario.{proofs.RouteLemmas.others_fail}
use Rattle.pim_scenario.proofs.scenario.sets.read_set.Goals as goal

pub returns-in_err-read_addresses : goal.returns-in_err-read_addresses
returns-in_err-read_addresses c =
    others_fail c.args.words.now _ _ _ c.in_err-read_addresses.ensures (omega (arith, c.in-len2-up.len_at_least))
    c.from_residual-in_err-read_addresses.ensures.1
