use Rattle.std.{proofs.Common.{sym, ◌∙◌}}
use Rattle.pim_mrib.{proofs.Accepted.ranges_canonical}
use Rattle.pim_mrib.proofs.mrib.Mrib.replace_rps.Goals as goal

pub replace-requires : goal.replace-requires
replace-requires c =
    ranges_canonical c.args.ranges.now (sym c.each_is_rp_range.ensures ∙ c.if-not-each_is_rp_range.false)
