use Rattle.pim_types.{specs.Keys.{addr_cmp, key_cmp}}
use Rattle.pim_model.{specs.Tables.keys_in}
use Rattle.igmp_older.proofs.presence.Presence.rows.Goals as goal

pub returns-clause-rising : goal.returns-clause-rising
unfolding key_cmp addr_cmp keys_in
returns-clause-rising c = rw (← c.self.view_is) c.iter.ensures.ordered
