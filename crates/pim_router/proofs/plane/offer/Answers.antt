use Rattle.std.{proofs.Common.{ap, subst, sym, ◌∙◌}}
use Rattle.pim_macros.{specs.{Rows.answers_of, declared.rows.SourceAnswers.SourceAnswers}}
use Rattle.pim_mfc.{specs.{Kept.{Kept, kept_row}, Shown.{ShowsOffered, unknown_offer}}}
use Rattle.pim_router.{proofs.Offering.{full_told, known_told, unknown_told}}
use Rattle.pim_router.proofs.plane.offer.Goals as goal

pub returns-in-Some : goal.returns-in-Some
returns-in-Some c =
    known_told c.args.cache.now.mfc.rows c.args.world.now c.args.name.group.bits c.args.name.source.bits c.requires
    c.in-Some.answers c.known.result
    (ap (λ (k : Kept). kept_row k c.args.name.group.bits c.args.name.source.bits) (sym c.mfc.ensures)
    ∙ sym c.kept.ensures ∙ c.in-Some.is) c.known.ensures

pub returns-then-source_is_full : goal.returns-then-source_is_full
returns-then-source_is_full c =
    full_told c.args.cache.now.mfc.rows c.args.world.now c.args.name.group.bits c.args.name.source.bits c.requires
    (ap (λ (k : Kept). kept_row k c.args.name.group.bits c.args.name.source.bits) (sym c.mfc.ensures)
    ∙ sym c.kept.ensures ∙ c.in_default.is) (sym c.source_is_full.ensures ∙ c.if-source_is_full.true)

pub returns : goal.returns
returns c =
    unknown_told c.args.cache.now.mfc.rows c.args.world.now c.args.name.group.bits c.args.name.source.bits c.requires
    c.row-made.result.answers c.unknown.result
    (ap (λ (k : Kept). kept_row k c.args.name.group.bits c.args.name.source.bits) (sym c.mfc.ensures)
    ∙ sym c.kept.ensures ∙ c.in_default.is) (sym c.source_is_full.ensures ∙ c.if-source_is_full.false)
    c.row-made.ensures.answers
    (subst (λ (row : SourceAnswers). ShowsOffered c.unknown.result (unknown_offer (answers_of row))) c.answers.ensures
    c.unknown.ensures)
