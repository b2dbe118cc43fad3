use Rattle.law_streams.{proofs.Own.register_gives_copies_and_stop}
use Rattle.law_streams.proofs.promises.register_gives_copies_and_stop.Goals as goal

pub returns : goal.returns
returns c = register_gives_copies_and_stop
