-- The keys of a state's tables rise in each of its components.
use Rattle.std.{proofs.Common.{◌≡◌, Option, Some, None, Result, Ok, Err}, specs.{Option.IfSome, Prelude.IfOk}}
use Rattle.pim_ip.{specs.declared.fault.Fault.Fault}
use Rattle.pim_model.{specs.State.State}
use Rattle.law_settled.{specs.Ready.IsOrdered}
use Rattle.pim_worlds.{specs.Rows.StateRises}

rises : (s : State) → IsOrdered s → StateRises s
rises s ordered = record {
  interfaces = ordered.interfaces;
  neighbours = ordered.neighbours;
  records = record {
    queriers = ordered.queriers;
    group_records = ordered.group_records;
    source_records = ordered.source_records;
    group_repeats = ordered.group_repeats;
    source_repeats = ordered.source_repeats;
    sendings = ordered.sendings;
  };
  trees = record {
    downstream = ordered.downstream;
    asserts = ordered.asserts;
    join_timers = ordered.join_timers;
    override_timers = ordered.override_timers;
    sources = ordered.sources;
    registers = ordered.registers;
  };
}

pub made_in_order : (s : State) (r : Result (Option State) Fault)
    → IfOk r (λ made. IfSome made (λ w. StateRises s → w ≡ s)) → IfOk r (λ made. IfSome made (λ w. IsOrdered s → w ≡ s))
made_in_order s (Ok None) is = tt
made_in_order s (Ok (Some w)) is = λ ordered. is (rises s ordered)
made_in_order s (Err fault) is = tt
