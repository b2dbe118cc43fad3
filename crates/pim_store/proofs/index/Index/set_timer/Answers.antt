use Rattle.pim_store.proofs.index.Index.set_timer.Goals as goal

pub set_known-requires : goal.set_known-requires
set_known-requires c = record {
  as_said = c.get-marks.ensures.marks;
  bare = c.get-marks.ensures.bare;
  timer = c.get-marks.ensures.row;
}
