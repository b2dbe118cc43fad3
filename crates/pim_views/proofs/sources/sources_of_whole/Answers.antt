use Rattle.std.{proofs.Common.{ap, sym, ◌∙◌}}
use Rattle.pim_state.{specs.Groups.numbers_of}
use Rattle.pim_views.{proofs.Named.none_of_part}
use Rattle.pim_views.proofs.sources.sources_of_whole.Goals as goal

pub returns : goal.returns
returns c =
    none_of_part c.args.group.bits c.args.world.now c.args.keys.now _
    (sym c.is_whole.ensures ∙ c.if-is_whole.false) (ap (λ es. numbers_of es) c.new.ensures.empty)
