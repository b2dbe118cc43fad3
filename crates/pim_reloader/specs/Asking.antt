-- The change of a querier that comes under other settings.
use Rattle.std.{specs.Prelude.{Option, Some}}
use Rattle.pim_types.{specs.declared.fact.QuerierRow.QuerierRow}
use Rattle.pim_model.{specs.State.State}
use Rattle.law_states.{specs.Reloading.row_under}

-- by the settings and the present time of a state
abbrev pub asking : State → QuerierRow → Option QuerierRow
asking s q = Some (row_under s.present s.settings q q.role)
