use Rattle.std.{proofs.Common.{◌≡◌, ◌∙◌, true, false, sym}}
use Rattle.pim_types.{specs.Keys.star_key}
use Rattle.pim_model.{specs.Tables.has_row}
use Rattle.igmp_older.{specs.{Modes.is_three, Presence.mode_at}, proofs.LiveLaws.{is_mode, mode_gone, mode_there, mode_three}}
use Rattle.igmp_older.proofs.presence.Presence.mode.Goals as goal

pub returns-then-is_three : goal.returns-then-is_three
returns-then-is_three g c =
    let groups = g.Q.Querier.group_records c.args.querier.now in
    let rows = c.args.self.now.rows in
    let now = g.Q.Querier.present c.args.querier.now in
    let i = c.args.iface.number in
    let h = c.args.group.bits in
    let is = is_mode groups rows i h now c.mode-mode.result c.timers.result c.present_moment.result c.timers.ensures c.present_moment.ensures c.mode-mode.ensures in
    let asked = c.is_three.ensures in
    let told = c.if-is_three.ensures in
    let three : is_three (mode_at rows now i h) ≡ true = cc in
    sym (mode_three groups rows i h now three)

pub returns-then-has_group_record : goal.returns-then-has_group_record
returns-then-has_group_record g c =
    let groups = g.Q.Querier.group_records c.args.querier.now in
    let rows = c.args.self.now.rows in
    let now = g.Q.Querier.present c.args.querier.now in
    let i = c.args.iface.number in
    let h = c.args.group.bits in
    let is = is_mode groups rows i h now c.mode-mode.result c.timers.result c.present_moment.result c.timers.ensures c.present_moment.ensures c.mode-mode.ensures in
    let asked = c.has_group_record.ensures in
    let told = c.if-has_group_record.ensures in
    let there : has_row groups (star_key i h) ≡ true = cc in
    is ∙ sym (mode_there groups rows i h now there)

pub returns-else-has_group_record : goal.returns-else-has_group_record
returns-else-has_group_record g c =
    let groups = g.Q.Querier.group_records c.args.querier.now in
    let rows = c.args.self.now.rows in
    let now = g.Q.Querier.present c.args.querier.now in
    let i = c.args.iface.number in
    let h = c.args.group.bits in
    let asked = c.has_group_record.ensures in
    let told = c.if-has_group_record.ensures in
    let gone : has_row groups (star_key i h) ≡ false = cc in
    sym (mode_gone groups rows i h now gone)
