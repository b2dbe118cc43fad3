use Rattle.std.{proofs.Common.{None, subst}}
use Rattle.pim_types.{specs.declared.fact.Key.Key}
use Rattle.igmp_membership.{proofs.Told.key_again, specs.Listing.Lists}
use Rattle.igmp_membership.proofs.records.drop_listed.Goals as goal

pub returns-clause-unlisted : goal.returns-clause-unlisted
returns-clause-unlisted g c =
    subst (λ (k : Key). Lists c.args.index.now c.unlist.new.self k None) (key_again c.args.key c.requires)
    c.unlist.ensures
