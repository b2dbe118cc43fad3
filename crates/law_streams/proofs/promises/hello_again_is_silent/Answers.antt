use Rattle.law_streams.{proofs.Follows.hello_again_is_silent}
use Rattle.law_streams.proofs.promises.hello_again_is_silent.Goals as goal

pub returns : goal.returns
returns c = hello_again_is_silent
