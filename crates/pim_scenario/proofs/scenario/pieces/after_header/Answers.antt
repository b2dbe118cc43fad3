-- The first eight bytes are the header.
use Rattle.std.{proofs.{Common.{◌≡◌, ◌∙◌, codes, sym}, lemmas.{Bool.OnTrue_at, Slice.Eq.bytes_eq-Decides}}}
use Rattle.pim_scenario.{proofs.PieceScenarios.header_text}
use Rattle.pim_scenario.proofs.scenario.pieces.after_header.Goals as goal

pub returns-then-begins_line : goal.returns-then-begins_line
returns-then-begins_line c =
    let header = c.in_ok-header.header.now in
    let same : header ≡ codes "[[move]]" = (bytes_eq-Decides header (codes "[[move]]")).0 (sym c.eq.ensures ∙ c.if-eq.true) in
    header_text c.args.text.now header c.in_ok-header.rest.now c.in_ok-header.ensures.front c.in_ok-header.ensures.back same
    (OnTrue_at c.if-begins_line.true c.begins_line.ensures)
