use Rattle.pim_saved.{specs.Text.{address_text, half_text, moment_text, prefix_text}}
use Rattle.pim_saver.{proofs.Parts.five_parts}
use Rattle.pim_bsr.{specs.Text.{candidate_text, part_text}}
use Rattle.pim_bsr.proofs.saved.PartSaved.write.Goals as goal

pub returns-clause-ok : goal.returns-clause-ok
unfolding part_text
returns-clause-ok c =
    let q = c.args.self in
    five_parts c.args.out.now.items (prefix_text q.prefix) (candidate_text q.rp) (address_text q.bsr) (half_text q.tag)
    (moment_text q.until)
    c.write.new.out.items c.write_candidate.new.out.items c.write-2.new.out.items c.write-3.new.out.items c.write-4.new.out.items
    c.in_ok-write.ensures.ok c.in_ok-write_candidate.ensures.ok c.in_ok-write-2.ensures.ok c.in_ok-write-3.ensures.ok
    c.in_ok-write-4.ensures.ok
