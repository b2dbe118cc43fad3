use Rattle.std.{proofs.{Common.{arith, refl}, lemmas.Grind.common_steps}}
use Rattle.pim_views.proofs.after.GroupAfter.all_of.Goals as goal

pub loop-group-init : goal.loop-group-init
loop-group-init c =
    rw c.new-seen.ensures.items (record {
      opening = refl;
      after = tt;
    })

pub loop-group-preserved : goal.loop-group-preserved
loop-group-preserved c = record {
  opening = grind (arith, common_steps);
  after = grind (arith, common_steps);
}
