use Rattle.std.{proofs.Common.sym}
use Rattle.pim_tables.proofs.placed.find.Goals as goal

pub returns-in-Some : goal.returns-in-Some
returns-in-Some g c = sym (c.requires.told c.args.key c.in-Some.place (c.stands_at.ensures c.if-stands_at.true))
