use Rattle.std.{proofs.Common.{None, Some, ap, is_some, subst, sym, ◌∙◌}}
use Rattle.pim_model.{specs.Tables.{drop_at, has_row}}
use Rattle.pim_tables.{proofs.Updates.{none_updated, updated_goes}}
use Rattle.igmp_membership.{proofs.Told.{fits_there, listed_as_before, listed_dropped, listed_updated, nothing_new}, specs.Listing.{IsListed, Lists}}
use Rattle.igmp_membership.proofs.records.Records.update.Goals as goal

pub invariant_of-self-in_default : goal.invariant_of-self-in_default
invariant_of-self-in_default g c =
    subst (λ t. IsListed g.R.Record.runs g.R.Record.of_sources c.self.inside.index t)
    (sym (c.in_ok-before.ensures.ok
    ∙ none_updated c.args.key (λ _. c.args.row) c.self.inside.rows (sym c.in_ok-before.ensures.before ∙ c.in_default.is)))
    c.self.invariant

pub returns-in_default-clause-there : goal.returns-in_default-clause-there
unfolding has_row
returns-in_default-clause-there g c = rw (← c.self.view_is)
    (sym (ap is_some (sym c.in_ok-before.ensures.before ∙ c.in_default.is)))

pub invariant_of-self-then-not-is_listed_anew : goal.invariant_of-self-then-not-is_listed_anew
invariant_of-self-then-not-is_listed_anew g c =
    let found = sym c.in_ok-before.ensures.before ∙ c.in-Some.is in
    listed_updated g.R.Record.runs g.R.Record.of_sources _ c.self.inside.rows c.self.invariant c.args.key c.in-Some.before
    c.args.row _ _ found c.proof_rising.ensures c.in_ok-before.ensures.ok
    (nothing_new g.R.Record.runs g.R.Record.of_sources _ c.self.inside.rows c.self.invariant c.args.key c.args.row
    (Some c.in-Some.before) found
    (ap Some (listed_as_before g.R.Record.runs c.in-Some.before c.args.row
    (sym c.is_listed_anew.ensures ∙ c.if-not-is_listed_anew.true))))

pub returns-then-not-is_listed_anew-clause-there : goal.returns-then-not-is_listed_anew-clause-there
unfolding has_row
returns-then-not-is_listed_anew-clause-there g c = rw (← c.self.view_is)
    (sym (ap is_some (sym c.in_ok-before.ensures.before ∙ c.in-Some.is)))

pub list_record-requires : goal.list_record-requires
unfolding has_row
list_record-requires g c =
    fits_there c.args.key c.self.inside.rows c.self.invariant.fit
    (ap is_some (sym c.in_ok-before.ensures.before ∙ c.in-Some.is))

pub drop_listed-requires : goal.drop_listed-requires
unfolding has_row
drop_listed-requires g c =
    fits_there c.args.key c.self.inside.rows c.self.invariant.fit
    (ap is_some (sym c.in_ok-before.ensures.before ∙ c.in-Some.is))

pub invariant_of-self-in-Err : goal.invariant_of-self-in-Err
invariant_of-self-in-Err g c =
    listed_dropped g.R.Record.runs g.R.Record.of_sources c.self.inside.index c.self.inside.rows c.self.invariant c.args.key _ _
    (c.drop_listed.ensures.removed ∙ ap (λ t. drop_at t c.args.key) c.in_ok-before.ensures.ok
    ∙ updated_goes c.args.key (λ _. c.args.row) c.self.inside.rows)
    (subst (λ m. Lists m c.drop_listed.new.index c.args.key None) c.in-Err.ensures.err c.drop_listed.ensures.unlisted)

pub invariant_of-self-in_default-list_record : goal.invariant_of-self-in_default-list_record
invariant_of-self-in_default-list_record g c =
    listed_updated g.R.Record.runs g.R.Record.of_sources _ c.self.inside.rows c.self.invariant c.args.key c.in-Some.before
    c.args.row _ _ (sym c.in_ok-before.ensures.before ∙ c.in-Some.is) c.proof_rising.ensures c.in_ok-before.ensures.ok
    c.in_default-list_record.ensures.ok

pub returns-clause-there : goal.returns-clause-there
unfolding has_row
returns-clause-there g c = rw (← c.self.view_is)
    (sym (ap is_some (sym c.in_ok-before.ensures.before ∙ c.in-Some.is)))
