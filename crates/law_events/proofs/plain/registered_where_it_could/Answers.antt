use Rattle.std.{proofs.Common.sym}
use Rattle.law_events.{proofs.KeptAlive.register_is_settled}
use Rattle.law_events.proofs.plain.registered_where_it_could.Goals as goal

pub returns : goal.returns
returns c = λ s g src rests there. sym (register_is_settled g src s rests there)
