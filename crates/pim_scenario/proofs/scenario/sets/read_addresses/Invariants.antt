-- The words so far were read.
use Rattle.std.{proofs.Common.take, specs.List.AllZip}
use Rattle.pim_scenario.{specs.Texts.IsAddressText}
use Rattle.pim_scenario.proofs.scenario.sets.read_addresses.Given as goal

abbrev pub invariant-loop-word : goal.invariant-loop-word
invariant-loop-word l = AllZip (λ w a. IsAddressText w.now a) (take l.word-index l.words) l.addresses
