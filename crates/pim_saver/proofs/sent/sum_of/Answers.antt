use Rattle.std.{proofs.Common.{ap, ◌∙◌}}
use Rattle.pim_saved.{specs.Crc.{begun, ended}}
use Rattle.pim_saver.{proofs.RecordedEntries.after_sent_is}
use Rattle.pim_saver.proofs.sent.sum_of.Goals as goal

pub returns : goal.returns
returns c = c.ended.ensures ∙ ap ended (c.with_emissions.ensures ∙ after_sent_is c.args.sent.now begun)
