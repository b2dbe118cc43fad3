use Rattle.pim_runs.{proofs.Plane.plane_owes_a_note}
use Rattle.pim_runs.proofs.split.plane_owes_a_note.Goals as goal

pub returns : goal.returns
returns c = plane_owes_a_note
