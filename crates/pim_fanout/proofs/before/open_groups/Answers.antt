use Rattle.std.{proofs.{Common.{[], ap, append_assoc, arith, map, sym, ◌++◌, ◌∙◌, ◌∷◌}, lemmas.Grind.common_steps}}
use Rattle.pim_state.{specs.Groups.numbers_of}
use Rattle.pim_views.{specs.{Openings.group_opening, declared.opening.GroupOpening.GroupOpening}}
use Rattle.pim_fanout.proofs.before.open_groups.Goals as goal

pub loop-group-preserved : goal.loop-group-preserved
loop-group-preserved c =
    let s = c.args.world.now in
    let left = map (group_opening s c.args.touched.now) (numbers_of c.next.new.self) in
    record {
      opened = ap (λ vs. vs ++ left) (c.in_ok-push.ensures.items
          ∙ ap (λ (v : GroupOpening). c.loop-group.opened.items ++ v ∷ []) c.in_ok-open_group.ensures.opened)
          ∙ append_assoc c.loop-group.opened.items (group_opening s c.args.touched.now c.in-Some.group.now.bits ∷ []) left
          ∙ sym (ap (λ es. c.loop-group.opened.items ++ map (group_opening s c.args.touched.now) (numbers_of es)) c.in-Some.ensures.steps)
          ∙ c.loop-group.invariant.opened;
      keys = grind (arith, common_steps);
      each = c.in_ok-open_group.ensures.each;
    }
