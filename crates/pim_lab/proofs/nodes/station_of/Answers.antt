use Rattle.std.proofs.Common.{List, ap, ℕ}
use Rattle.pim_lab.proofs.nodes.station_of.Goals as goal

pub returns-clause-node : goal.returns-clause-node
returns-clause-node c = ap (λ (xs : List ℕ). (c.args.text.config, xs)) (rw c.as_slice.ensures at c.in_ok-numbers.ensures)
