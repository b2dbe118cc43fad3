use Rattle.std.{proofs.Common.{ap, ◌∙◌}}
use Rattle.pim_model.{specs.Tables.has_row}
use Rattle.pim_types.{specs.{Keys.source_key, declared.name.SourceGroup.SourceGroup}}
use Rattle.pim_macros.proofs.rows.row_by_sight.Goals as goal

pub returns-clause-answers : goal.returns-clause-answers
returns-clause-answers c =
    let s = c.args.world.now in
    c.answers-answers.ensures s c.requires (c.is_registered.ensures
    ∙ ap (λ (n : SourceGroup). has_row s.registers (source_key 0 n.group.bits n.source.bits)) c.name-name.ensures)
