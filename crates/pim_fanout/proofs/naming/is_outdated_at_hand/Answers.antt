use Rattle.std.{proofs.Common.{◌≡◌, sym, subst, ◌∙◌}}
use Rattle.pim_fanout.{specs.{Before.{IsSourceBefore, key_before}, Named.is_changed}, proofs.Same.new_is_changed}
use Rattle.pim_fanout.proofs.naming.is_outdated_at_hand.Goals as goal

pub returns-in-Unknown : goal.returns-in-Unknown
returns-in-Unknown c o =
    let a = c.args.world.now in
    let name = c.in-Unknown.new in
    subst (λ b. IsSourceBefore o b → c.has_fact.result ≡ is_changed o a (key_before b)) (sym c.in-Unknown.is)
    (λ none. c.has_fact.ensures ∙ sym (new_is_changed o a name.group.bits name.source.bits none))
