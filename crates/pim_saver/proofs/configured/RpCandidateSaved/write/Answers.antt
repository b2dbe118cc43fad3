use Rattle.pim_saved.{specs.Text.{address_text, candidate_text, prefix_text, word_text}}
use Rattle.pim_saver.{proofs.Parts.four_parts}
use Rattle.pim_saver.proofs.configured.RpCandidateSaved.write.Goals as goal

pub returns-clause-ok : goal.returns-clause-ok
unfolding candidate_text
returns-clause-ok c =
    four_parts c.args.out.now.items (prefix_text c.args.self.prefix) (address_text c.args.self.rp)
    (word_text c.args.self.priority) (word_text c.args.self.hash_length)
    c.write.new.out.items c.write-2.new.out.items c.write-3.new.out.items c.write-4.new.out.items
    c.in_ok-write.ensures.ok c.in_ok-write-2.ensures.ok c.in_ok-write-3.ensures.ok c.in_ok-write-4.ensures.ok
