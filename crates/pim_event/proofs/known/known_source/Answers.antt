use Rattle.std.{proofs.Common.{sym, ◌∙◌}}
use Rattle.pim_event.{proofs.AtRp.{is_known, row_answers}}
use Rattle.pim_event.proofs.known.known_source.Goals as goal

pub returns-then-is_known-clause-known : goal.returns-then-is_known-clause-known
returns-then-is_known-clause-known c =
    let name = c.registered-name.result in
    is_known c.args.world.now c.args.packet.now c.args.register.now name c.registered-name.ensures.group
    c.registered-name.ensures.source (sym c.is_known.ensures ∙ c.if-is_known.true) c.of_row.result
    (c.of_row.ensures name.group.bits name.source.bits
    (row_answers c.args.rows.now.rows c.args.world.now name.group.bits name.source.bits c.in-Some.row c.requires
    (sym c.kept.ensures ∙ c.in-Some.is)))
