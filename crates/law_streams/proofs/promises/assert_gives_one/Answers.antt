use Rattle.law_streams.{proofs.Own.assert_gives_one}
use Rattle.law_streams.proofs.promises.assert_gives_one.Goals as goal

pub returns : goal.returns
returns c = assert_gives_one
