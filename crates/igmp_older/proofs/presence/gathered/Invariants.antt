use Rattle.std.{proofs.Common.{◌≡◌, drop, fold}}
use Rattle.pim_types.{specs.declared.fact.Key.Key}
use Rattle.pim_model.{specs.Tables.{Table, put}}
use Rattle.igmp_older.{specs.{Presence.put_rows, declared.mode.PresentRow.PresentRow}}
use Rattle.igmp_older.proofs.presence.gathered.Given as goal

abbrev pub invariant-loop-row : goal.invariant-loop-row
invariant-loop-row l =
    fold (λ (t : Table PresentRow) (e : Key × PresentRow). put t e.0 e.1) l.taken.entries (drop l.row-index l.rows) ≡ put_rows l.rows
