use Rattle.std.{proofs.{Common.{get_or, subst, sym, ◌∙◌}, lemmas.List.drop_more}}
use Rattle.pim_types.{specs.Keys.source_key}
use Rattle.pim_macros.{specs.Sights.IsStarSight}
use Rattle.pim_register.{proofs.Steps.{next_source, no_source, star_stays}}
use Rattle.pim_register.proofs.settling.settle_sources.Goals as goal

pub loop-opened-preserved : goal.loop-opened-preserved
loop-opened-preserved c =
    let opened = get_or c.args.sources.now c.loop-opened.opened-index no_source in
    let star = c.args.star.now in
    record {
      state =
          next_source star.group.bits opened _ _ _ _
          (drop_more c.args.sources.now c.loop-opened.opened-index no_source c.loop-opened-test.true)
          c.in_ok-settle_source.ensures
          ∙ c.loop-opened.invariant.state;
      sight =
          subst (λ s. IsStarSight s star) (sym c.in_ok-settle_source.ensures)
          (star_stays c.loop-opened.world (source_key 0 star.group.bits opened.source.bits) star
          c.loop-opened.invariant.sight);
    }
