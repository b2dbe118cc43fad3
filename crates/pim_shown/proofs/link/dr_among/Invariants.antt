use Rattle.std.{proofs.Common.{◌≡◌, fold}}
use Rattle.pim_model.{specs.Tables.rows_on}
use Rattle.pim_shown.{specs.Links.{better_of, dr_among}}
use Rattle.pim_shown.proofs.link.dr_among.Given as goal

abbrev pub invariant-loop-key : goal.invariant-loop-key
invariant-loop-key l =
    fold (better_of l.by_priority) l.dr l.key-iterator ≡ dr_among l.fn.me (rows_on l.fn.iface.number l.known)
