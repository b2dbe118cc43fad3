-- Rows of IGMP whose keys rise, put into empty tables one after the other, are those tables.
use Rattle.std.{proofs.Common.◌≡◌}
use Rattle.igmp_membership.{specs.MembershipTables.{AllRise, MembershipTables, no_membership}}
use Rattle.pim_worlds.{specs.Recorded.all_refilled, proofs.Filled.filled}

pub all_filled : (rows : MembershipTables) → AllRise rows → all_refilled no_membership rows ≡ rows
all_filled rows h = λ j. record {
  queriers = filled rows.queriers h.queriers j;
  group_records = filled rows.group_records h.group_records j;
  source_records = filled rows.source_records h.source_records j;
  group_repeats = filled rows.group_repeats h.group_repeats j;
  source_repeats = filled rows.source_repeats h.source_repeats j;
  sendings = filled rows.sendings h.sendings j;
}
