use Rattle.std.{proofs.Common.{[], subst, sym}, specs.List.Sorted.IsStrictlySortedBy}
use Rattle.pim_types.{specs.Keys.key_cmp}
use Rattle.pim_fanout.{specs.Refreshing.CacheValue, proofs.Shown.opening_shows_rows}
use Rattle.pim_mfc.{specs.Laws.ShowsRows}
use Rattle.pim_model.{specs.{Cache.cached, State.State}}
use Rattle.law_events.{specs.Rest.IsAtRest, proofs.Rest.opening_is_at_rest}
use Rattle.pim_router.{proofs.Accepted.{opening_accepted, opening_near}}
use Rattle.pim_router.proofs.router.Router.new.Goals as goal

pub invariant_of-result : goal.invariant_of-result
unfolding IsStrictlySortedBy
invariant_of-result c = λ works.
    let opens = rw c.in-Ok.is at c.in_ok-made.ensures.accepted in (
      subst (λ (x : State). IsAtRest x) (sym opens.1) (opening_is_at_rest c.args.config opens.0),
      subst (λ (k : CacheValue). ShowsRows k.mfc.rows (cached c.in-Ok.world)) (sym c.new-in-Ok.ensures)
          (subst (λ (x : State). ShowsRows [] (cached x)) (sym opens.1) (opening_shows_rows c.args.config)),
      subst (λ (k : CacheValue). IsStrictlySortedBy key_cmp k.changed) (sym c.new-in-Ok.ensures) tt,
      opening_accepted c.args.config c.in-Ok.world opens.0 opens.1,
      opening_near c.args.config c.in-Ok.world opens.1,
    )
