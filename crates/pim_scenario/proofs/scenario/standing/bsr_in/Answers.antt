-- An address that is none of the router's.
use Rattle.toml.{specs.View.table_view}
use Rattle.pim_scenario.{specs.Standing.{IsBsr, IsOwnAddress}, proofs.ReadLemmas.fails}
use Rattle.pim_scenario.proofs.scenario.standing.bsr_in.Goals as goal

pub returns-in_err-own_address_in : goal.returns-in_err-own_address_in
returns-in_err-own_address_in c =
    fails (IsBsr (table_view c.args.router.now) (table_view c.args.table.now))
    (IsOwnAddress (table_view c.args.router.now) (table_view c.args.table.now)) _ _
    c.from_residual-in_err-own_address_in.ensures.1 (λ b is. (b.address, is.address)) c.in_err-own_address_in.ensures
