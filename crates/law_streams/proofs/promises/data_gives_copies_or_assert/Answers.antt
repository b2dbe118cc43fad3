use Rattle.law_streams.{proofs.Own.data_gives_copies_or_assert}
use Rattle.law_streams.proofs.promises.data_gives_copies_or_assert.Goals as goal

pub returns : goal.returns
returns c = data_gives_copies_or_assert
