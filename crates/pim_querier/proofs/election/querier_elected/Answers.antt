use Rattle.std.{proofs.Common.{◌+◌, ◌*◌, ap, ◌∙◌, ℕ}}
use Rattle.pim_types.{specs.declared.config.Settings.Settings}
use Rattle.pim_model.{specs.Querier.given_or}
use Rattle.pim_querier.{proofs.{Electing.{elected, elected_at}, Starting.then_ok}}
use Rattle.pim_querier.proofs.election.querier_elected.Goals as goal

pub returns : goal.returns
returns c =
    let s = c.args.world.now in
    let i = c.args.iface.number in
    let rv = c.given_or-robustness.result in
    let qi = c.given_or-interval.result in
    let silent : ℕ = c.from-2.result * (1000 * c.from-3.result) + 50 * c.from-4.result in
    then_ok c.elect.result
    (λ is. elected s i c.args.robustness c.args.interval rv qi silent c.elect.new.self
    (c.given_or-robustness.ensures.value ∙ ap (λ n. given_or n c.settings-settings.result.robustness) c.from.ensures
    ∙ ap (λ (t : Settings). given_or c.args.robustness t.robustness) c.settings-settings.ensures.value)
    (c.given_or-interval.ensures.value
    ∙ ap (λ (t : Settings). given_or c.args.interval t.query_interval) c.settings-settings.ensures.value)
    (ap (λ (n : ℕ). n * (1000 * c.from-3.result) + 50 * c.from-4.result) c.from-2.ensures
    ∙ ap (λ (n : ℕ). rv * (1000 * n) + 50 * c.from-4.result) c.from-3.ensures
    ∙ ap (λ (n : ℕ). rv * (1000 * qi) + 50 * n) c.from-4.ensures
    ∙ ap (λ (t : Settings). rv * (1000 * qi) + 50 * t.query_response_interval) c.settings-settings.ensures.value)
    (is ∙ ap (λ (n : ℕ). elected_at s i rv qi (n + silent)) c.present.ensures.present))
    c.elect.ensures
