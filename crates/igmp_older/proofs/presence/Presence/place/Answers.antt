use Rattle.igmp_older.{specs.Placed.placed, proofs.LeftRows.left_same}
use Rattle.igmp_older.proofs.presence.Presence.place.Goals as goal

pub returns : goal.returns
unfolding placed
returns c = rw (← c.self.view_is)
    (left_same _ _ c.args.limit _ _ _ _ c.in_ok-rows.ensures c.max-self-inside.ensures c.len.ensures.len
    c.in_ok-place_settings.ensures)
