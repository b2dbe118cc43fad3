use Rattle.pim_ifaces.{proofs.Tested.{apart, few}}
use Rattle.pim_ifaces.proofs.interfaces.Interfaces.new.Goals as goal

pub new-requires-clause-few : goal.new-requires-clause-few
new-requires-clause-few c = few c.args.configured.now c.requires

pub new-requires-clause-apart : goal.new-requires-clause-apart
new-requires-clause-apart c = apart c.args.configured.now c.requires
