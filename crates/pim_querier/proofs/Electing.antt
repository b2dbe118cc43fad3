-- The values and the end of a querier that is elected.
use Rattle.std.{proofs.Common.{◌≡◌, ℕ, ◌+◌, ◌*◌, ◌/◌, sym, ap, ◌∙◌, arith}}
use Rattle.pim_types.{specs.{declared.fact.{QuerierRole.QuerierRole, QuerierRow.QuerierRow}, Keys.{iface_key, is_on}}}
use Rattle.pim_model.{specs.{Querier.{given_or, other_querier_interval, querier_elected, query_interval, robustness}, State.State, Tables.{drop_where, put}}}
use Rattle.law_settled.{proofs.RowLaws.row_put}

module _ (s : State) (i rv qi : ℕ) where
  abbrev row : ℕ → QuerierRow
  row end = record { role = QuerierRole.NonQuerier end; robustness = rv; query_interval = qi }

  abbrev adopted : State
  adopted = record s { queriers = put s.queriers (iface_key i) (row 0) }

  half : (n : ℕ) → 100 * n / 2 ≡ 50 * n
  half n = omega arith

  interval : other_querier_interval adopted i ≡ rv * (1000 * qi) + 50 * s.settings.query_response_interval
  unfolding other_querier_interval robustness query_interval
  interval =
      rw (row_put (iface_key i) (row 0) s.queriers)
      (ap (λ (n : ℕ). rv * (1000 * qi) + n) (half s.settings.query_response_interval))

  abbrev pub elected_at : ℕ → State
  elected_at end = record s {
    queriers = put s.queriers (iface_key i) (row end);
    group_repeats = drop_where (is_on i) s.group_repeats;
    source_repeats = drop_where (is_on i) s.source_repeats;
    sendings = drop_where (is_on i) s.sendings;
  }

  pub elected_end : elected_at (s.present + other_querier_interval adopted i)
      ≡ elected_at (s.present + (rv * (1000 * qi) + 50 * s.settings.query_response_interval))
  elected_end = ap (λ (n : ℕ). elected_at (s.present + n)) interval

pub elected : (s : State) (i qrv qqi rv qi silent : ℕ) (after : State) → rv ≡ given_or qrv s.settings.robustness
    → qi ≡ given_or qqi s.settings.query_interval
    → silent ≡ rv * (1000 * qi) + 50 * s.settings.query_response_interval
    → after ≡ elected_at s i rv qi (s.present + silent) → after ≡ querier_elected s i qrv qqi
unfolding querier_elected
elected s i qrv qqi rv qi silent after robust interval long is =
    let more : ℕ = 50 * s.settings.query_response_interval in
    let r : ℕ = given_or qrv s.settings.robustness in
    let q : ℕ = given_or qqi s.settings.query_interval in
    is ∙ ap (λ (n : ℕ). elected_at s i rv qi (s.present + n)) long
    ∙ ap (λ (v : ℕ). elected_at s i v qi (s.present + (v * (1000 * qi) + more))) robust
    ∙ ap (λ (v : ℕ). elected_at s i r v (s.present + (r * (1000 * v) + more))) interval
    ∙ sym (elected_end s i r q)
