use Rattle.law_streams.{proofs.Copies.each_emission_is_of_a_kind}
use Rattle.law_streams.proofs.promises.each_emission_is_of_a_kind.Goals as goal

pub returns : goal.returns
returns c = each_emission_is_of_a_kind
