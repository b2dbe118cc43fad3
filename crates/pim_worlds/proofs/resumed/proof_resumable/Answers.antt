use Rattle.pim_worlds.proofs.resumed.proof_resumable.Goals as goal

pub returns : goal.returns
returns c = record {
  held = c.proof_held.ensures c.requires.accepted;
  accepted = c.requires.accepted;
  rest = c.requires.rest;
  near = c.requires.near;
}
