use Rattle.std.{proofs.{Common.{arith, refl}, lemmas.Grind.common_steps}}
use Rattle.pim_views.proofs.after.sources_after.Goals as goal

pub loop-opened-init : goal.loop-opened-init
loop-opened-init c =
    rw c.new-after.ensures.items (record {
      opened = refl;
      after = tt;
    })

pub loop-opened-preserved : goal.loop-opened-preserved
loop-opened-preserved c = record {
  opened = grind (arith, common_steps);
  after = grind (arith, common_steps);
}
