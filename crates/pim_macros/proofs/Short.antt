-- The preferences of the metrics that routes give have 31 bits.
use Rattle.std.{proofs.Common.{◌<◌, ◌^◌, ℕ, Bool, true, false, Option, Some, None, arith}}
use Rattle.pim_types.{specs.declared.path.Path.Path}
use Rattle.pim_model.{specs.Sets.route_metric}
use Rattle.pim_state.{specs.Short.IsShort}

pub metric_is_short : (rpt : Bool) (address : ℕ) (own : Bool) (path : Option Path) → IsShort path
    → (route_metric rpt address own path).preference < 2 ^ 31
unfolding route_metric
metric_is_short rpt address true None short = omega arith
metric_is_short rpt address false None short = omega arith
metric_is_short rpt address own (Some p) short = short
