-- What a trouble told with status 4 says.
use Rattle.pim_lab.{proofs.Told.tells_memory}
use Rattle.pim_lab.proofs.playing.play_with.Goals as goal

pub returns-in-Err-clause-memory : goal.returns-in-Err-clause-memory
returns-in-Err-clause-memory g c =
    tells_memory c.in-Err.trouble c.tell.result (g.E.Write.contents c.args.err.now) (g.E.Write.contents c.tell.new.err)
    c.tell.ensures

pub returns-in-Err-run-clause-memory : goal.returns-in-Err-run-clause-memory
returns-in-Err-run-clause-memory g c =
    tells_memory c.in-Err-run.trouble c.tell-in-Err-run.result (g.E.Write.contents c.args.err.now)
    (g.E.Write.contents c.tell-in-Err-run.new.err) c.tell-in-Err-run.ensures
