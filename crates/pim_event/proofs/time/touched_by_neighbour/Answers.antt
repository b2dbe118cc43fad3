use Rattle.std.{proofs.Common.{List, ap, ◌∙◌}}
use Rattle.pim_types.{specs.declared.fact.Key.Key}
use Rattle.pim_rerouted.{specs.Few.few_or_all}
use Rattle.pim_event.proofs.time.touched_by_neighbour.Goals as goal

pub returns : goal.returns
returns c = c.few_or_all.ensures ∙ ap (λ (ks : List Key). few_or_all ks) c.in_ok-keys.ensures
