use Rattle.std.{proofs.Common.{ap, ◌∙◌}}
use Rattle.pim_model.{specs.Downstream.is_named}
use Rattle.pim_downstream.proofs.indexed.Indexed.joins.Goals as goal

pub returns : goal.returns
returns c =
    c.is_among.ensures ∙ ap (λ keys. is_named keys c.args.key) c.deref.ensures.value
    ∙ ap (λ named. is_named named.joined.items c.args.key) c.self.view_is
