-- The keys of a state that was read rise.
use Rattle.std.{proofs.Common.{◌≡◌, ℕ, List, Ok}}
use Rattle.pim_model.{specs.State.State}
use Rattle.law_settled.{specs.Ready.IsOrdered}
use Rattle.pim_saved.{proofs.SpelledStates.reading_is_text, specs.{Fits.FitsState, Laws.AreBytes, Reading.reading}}

in_order : (s : State) → FitsState s → IsOrdered s
in_order s h =
    let links = h.1.1.0 in
    let records = h.1.1.1.0 in
    let trees = h.1.1.1.1 in
    record {
      interfaces = links.0.1;
      neighbours = links.1.0.1;
      queriers = links.1.1.1;
      group_records = records.0.1;
      source_records = records.1.0.1;
      group_repeats = records.1.1.0.1;
      source_repeats = records.1.1.1.0.1;
      sendings = records.1.1.1.1.1;
      downstream = trees.0.1;
      asserts = trees.1.0.1;
      join_timers = trees.1.1.0.1;
      override_timers = trees.1.1.1.0.1;
      sources = trees.1.1.1.1.0.1;
      registers = trees.1.1.1.1.1.1;
    }

pub read_in_order : (bytes : List ℕ) (s : State) → AreBytes bytes → reading bytes ≡ Ok s → IsOrdered s
read_in_order bytes s are read = in_order s (reading_is_text bytes s are read).1
