use Rattle.pim_saver.{proofs.CrcTable.{entry_at, table, table_has_entries}}
use Rattle.pim_saver.proofs.crc.entry.Goals as goal

pub returns : goal.returns
returns c = entry_at table c.args.place table_has_entries c.requires
