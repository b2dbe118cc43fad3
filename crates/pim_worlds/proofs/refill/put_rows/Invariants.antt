use Rattle.std.{proofs.Common.{◌≡◌, drop}, specs.List.list_all}
use Rattle.pim_worlds.proofs.refill.put_rows.Given as goal

abbrev pub invariant-loop-row : goal.invariant-loop-row
invariant-loop-row g l = record {
  test : list_all g.R.Refills.fits (drop l.row-index l.rows) ≡ list_all g.R.Refills.fits l.rows;
  rest : g.R.Refills.refill l.into (drop l.row-index l.rows) ≡ g.R.Refills.refill l.fn.into l.rows;
}
