use Rattle.std.{proofs.Common.{ap, ◌∙◌}}
use Rattle.pim_types.{specs.Keys.same_key}
use Rattle.pim_timers.{proofs.Ranks.key_ties}
use Rattle.pim_store.proofs.join_timers.is_placed.Goals as goal

pub returns : goal.returns
returns c =
    c.eq.ensures ∙ key_ties c.args.key c.timer_key.result ∙ ap (same_key c.args.key) c.timer_key.ensures
