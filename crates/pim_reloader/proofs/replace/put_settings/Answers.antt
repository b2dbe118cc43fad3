use Rattle.pim_reloader.{proofs.Settled.put_alone}
use Rattle.pim_reloader.proofs.replace.put_settings.Goals as goal

pub returns : goal.returns
returns c =
    put_alone c.args.world.now c.args.next c.reconfigure.new.self c.put_all_under.new.world c.requires.same.0
    c.requires.same.1 c.reconfigure.ensures.new c.in_ok-put_all_under.ensures
