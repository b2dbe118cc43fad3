use Rattle.igmp_older.{proofs.RouterLaws.configured_values_stay}
use Rattle.igmp_older.proofs.laws.configured_values_stay.Goals as goal

pub returns : goal.returns
returns c = configured_values_stay
