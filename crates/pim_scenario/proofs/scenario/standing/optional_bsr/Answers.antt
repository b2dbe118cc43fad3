-- A table that is no candidate BSR.
use Rattle.std.{proofs.Common.codes}
use Rattle.toml.{specs.View.table_view}
use Rattle.pim_scenario.{specs.{Fields.optional_table, Standing.{IsBsr, IsThatOf}}, proofs.{ReadLemmas.fails, StandingLemmas.said_of}}
use Rattle.pim_scenario.proofs.scenario.standing.optional_bsr.Goals as goal

pub returns-in_err-bsr_in-in-Some : goal.returns-in_err-bsr_in-in-Some
returns-in_err-bsr_in-in-Some c =
    fails
    (IsThatOf (IsBsr (table_view c.args.router.now)) (optional_table (codes "candidate_bsr") (table_view c.args.router.now)))
    (IsBsr (table_view c.args.router.now) _) _ _ c.from_residual-in_err-bsr_in-in-Some.ensures.1
    (said_of (IsBsr (table_view c.args.router.now)) _ (table_view c.in-Some.table.now)
    (rw c.in-Some.is at c.in_ok-table.ensures))
    c.in_err-bsr_in-in-Some.ensures
