use Rattle.std.{proofs.Common.refl}
use Rattle.pim_ifset.{specs.Members.has}
use Rattle.pim_c.proofs.trees.interface_bits.Goals as goal

pub returns : goal.returns
returns c = c.words.ensures.below (has c.args.set) (λ i below. refl)
