use Rattle.pim_saved.{specs.Text.{address_text, byte_text, moment_text, prefix_text}}
use Rattle.pim_saver.{proofs.Parts.five_parts}
use Rattle.pim_bsr.{specs.Text.learned_text}
use Rattle.pim_bsr.proofs.saved.LearnedSaved.write.Goals as goal

pub returns-clause-ok : goal.returns-clause-ok
unfolding learned_text
returns-clause-ok c =
    let l = c.args.self in
    five_parts c.args.out.now.items (prefix_text l.prefix) (byte_text l.hash_length) (address_text l.rp) (byte_text l.priority)
    (moment_text l.end)
    c.write.new.out.items c.write-2.new.out.items c.write-3.new.out.items c.write-4.new.out.items c.write-5.new.out.items
    c.in_ok-write.ensures.ok c.in_ok-write-2.ensures.ok c.in_ok-write-3.ensures.ok c.in_ok-write-4.ensures.ok
    c.in_ok-write-5.ensures.ok
