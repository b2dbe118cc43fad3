-- The outcome of an event that changes nothing.
use Rattle.std.{specs.Prelude.{Err, Ok, []}}
use Rattle.pim_types.{specs.declared.outcome.{Outcome.Outcome, Stop.Stop, Verdict.Verdict}}

abbrev pub stop_outcome : Stop → Outcome
stop_outcome (Stop.Refuse refusal) = record { answer = Err refusal; emissions = []; copies = 0 }
stop_outcome (Stop.Ignore reason) = record { answer = Ok (Verdict.Ignored reason); emissions = []; copies = 0 }
