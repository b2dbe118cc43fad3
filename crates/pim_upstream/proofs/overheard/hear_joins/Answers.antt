use Rattle.std.{proofs.Common.{◌≡◌, ◌++◌, ◌∙◌, Bool, List, [], ap, append-nil, false, get_or, refl, sym, true}, specs.Prelude.if◌then◌else◌}
use Rattle.pim_types.{specs.{Keys.{is_star, star_key}, declared.fact.Key.Key}}
use Rattle.pim_model.{specs.Tables.same_bool}
use Rattle.pim_upstream.{specs.{Hearing.{heard_in_join, heard_in_joins}, declared.timer.TimerMove.TimerMove}, proofs.{HeardKeys.{is_asked, next_in_joins}, overheard.hear_joins.Goals.{then-is_none-is_star+in_ok-hear_join, else-is_none-is_star}}}
use Rattle.pim_upstream.proofs.overheard.hear_joins.Goals as goal

pub loop-key-init : goal.loop-key-init
unfolding heard_in_joins
loop-key-init c = sym (append-nil c.args.moves.now.items)

pub loop-key-preserved : goal.loop-key-preserved
loop-key-preserved c =
    let s = c.args.world.now in
    let keys = c.args.keys.now in
    let n = c.loop-key.key-index in
    let star = c.args.is_star in
    let none : Key = star_key 0 0 in
    let k : Key = get_or keys n none in
    let before = c.loop-key.moves.items in
    let heard : Bool → List TimerMove = λ b. before ++ (if b then heard_in_join s c.args.hop c.args.end k else []) in
    elim c.if-is_none-is_star.branch [
      | then-is_none-is_star+in_ok-hear_join w ↦
          let asked : same_bool star (is_star k) ≡ true =
          is_asked k.source c.is_none.result star true c.is_none.ensures w.if-is_none-is_star.true in
          next_in_joins s c.args.hop c.args.end star keys n none k c.loop-key-test.true refl _ before _
          c.loop-key.invariant
          (ap (λ m. m.items) w.moves-is ∙ w.in_ok-hear_join.ensures ∙ ap heard (sym asked))
      | else-is_none-is_star w ↦
          let other : same_bool star (is_star k) ≡ false =
          is_asked k.source c.is_none.result star false c.is_none.ensures w.if-is_none-is_star.false in
          next_in_joins s c.args.hop c.args.end star keys n none k c.loop-key-test.true refl _ before _
          c.loop-key.invariant
          (ap (λ m. m.items) w.moves-is ∙ sym (append-nil before) ∙ ap heard (sym other))
    ]
