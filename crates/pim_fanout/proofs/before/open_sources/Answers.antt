use Rattle.std.{proofs.{Common.{[], ap, append_assoc, arith, map, sym, ◌++◌, ◌∙◌, ◌∷◌}, lemmas.Grind.common_steps}}
use Rattle.pim_state.{specs.Groups.numbers_of}
use Rattle.pim_views.{specs.{Openings.source_opening, declared.opening.SourceOpening.SourceOpening}}
use Rattle.pim_fanout.proofs.before.open_sources.Goals as goal

pub loop-source-preserved : goal.loop-source-preserved
loop-source-preserved c =
    let s = c.args.world.now in
    let left = map (source_opening s c.args.star.now.group.bits) (numbers_of c.next.new.self) in
    record {
      opened = ap (λ vs. vs ++ left) (c.in_ok-push.ensures.items
          ∙ ap (λ (v : SourceOpening). c.loop-source.opened.items ++ v ∷ []) c.in_ok-open_source.ensures.opened)
          ∙ append_assoc c.loop-source.opened.items (source_opening s c.args.star.now.group.bits c.in-Some.source.now.bits ∷ []) left
          ∙ sym (ap (λ es. c.loop-source.opened.items ++ map (source_opening s c.args.star.now.group.bits) (numbers_of es)) c.in-Some.ensures.steps)
          ∙ c.loop-source.invariant.opened;
      keys = grind (arith, common_steps);
      each = c.in_ok-open_source.ensures.each;
    }
