use Rattle.std.{proofs.Common.{◌∙◌, ap}}
use Rattle.pim_net.{proofs.{Asked.{log_is_asked, net_leads_on, shown_works}, Stations.{if_some, of_some}}}
use Rattle.pim_net.proofs.net.Net.run.Goals as goal

pub returns-clause-asked : goal.returns-clause-asked
returns-clause-asked g c = λ f. if_some _ _ (λ n shown.
    log_is_asked n c.args.moves.now c.run_all-ran.result
    (of_some c.self.inside.network _ n
    (shown_works c.self.inside.failed c.self.inside.network _ (ap (λ w. w.network) c.self.view_is) c.if-self.false ∙ shown)
    (c.run_all-ran.ensures.outcomes f)))

pub returns-clause-led : goal.returns-clause-led
returns-clause-led g c = λ f. if_some _ _ (λ n shown.
    net_leads_on n c.args.moves.now c.run_all-ran.result _ _
    (of_some c.self.inside.network _ n
    (shown_works c.self.inside.failed c.self.inside.network _ (ap (λ w. w.network) c.self.view_is) c.if-self.false ∙ shown)
    (c.run_all-ran.ensures.network f)))
