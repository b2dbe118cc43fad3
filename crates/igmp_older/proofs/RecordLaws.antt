-- A group without a record.
use Rattle.std.{proofs.Common.{◌≡◌, ℕ, false}}
use Rattle.pim_types.{specs.Keys.star_key}
use Rattle.pim_model.{specs.Tables.has_row}
use Rattle.igmp_older.{specs.{Joined.{FrontedRouter, rows_of}, Presence.mode_at, declared.mode.Mode.Mode}, proofs.LiveLaws.mode_gone}

pub no_record_is_three : (b : FrontedRouter) (i g : ℕ) → has_row b.state.group_records (star_key i g) ≡ false
    → mode_at (rows_of b) b.state.present i g ≡ Mode.Three
no_record_is_three b i g gone = mode_gone b.state.group_records b.present.rows i g b.state.present gone
