use Rattle.std.{proofs.Common.{ap, is_some, sym, ◌∙◌}}
use Rattle.pim_router.{proofs.{Accepted.{kept_accepted, kept_near}, Offering.{alive_by_end, keep_none, keep_sets, keep_stays, kept_rests, kept_rows, runs_there}}}
use Rattle.pim_router.proofs.plane.keep.Goals as goal

pub returns-in-None-clause-runs : goal.returns-in-None-clause-runs
returns-in-None-clause-runs c =
    sym (alive_by_end c.args.world.now c.args.name.group.bits c.args.name.source.bits
    ∙ ap is_some (sym (sym c.in-None.is ∙ c.keepalive_end.ensures)))

pub returns-in-None-clause-state : goal.returns-in-None-clause-state
returns-in-None-clause-state c =
    keep_none c.args.world.now c.args.name.group.bits c.args.name.source.bits c.args.moment
    (sym c.in-None.is ∙ c.keepalive_end.ensures)

pub keep_until-requires : goal.keep_until-requires
keep_until-requires c =
    runs_there c.args.world.now c.args.name.group.bits c.args.name.source.bits c.in-Some.end
    (sym c.in-Some.is ∙ c.keepalive_end.ensures)

pub returns-in_ok-keep_until-in-Some-clause-runs : goal.returns-in_ok-keep_until-in-Some-clause-runs
returns-in_ok-keep_until-in-Some-clause-runs c =
    sym (alive_by_end c.args.world.now c.args.name.group.bits c.args.name.source.bits
    ∙ ap is_some (sym (sym c.in-Some.is ∙ c.keepalive_end.ensures)))

pub returns-else-end-later-clause-runs : goal.returns-else-end-later-clause-runs
returns-else-end-later-clause-runs c =
    sym (alive_by_end c.args.world.now c.args.name.group.bits c.args.name.source.bits
    ∙ ap is_some (sym (sym c.in-Some.is ∙ c.keepalive_end.ensures)))

pub returns-in_ok-keep_until-in-Some-clause-state : goal.returns-in_ok-keep_until-in-Some-clause-state
returns-in_ok-keep_until-in-Some-clause-state c =
    c.in_ok-keep_until-in-Some.ensures.state
    ∙ keep_sets c.args.world.now c.args.name.group.bits c.args.name.source.bits c.args.moment c.in-Some.end
    (sym c.in-Some.is ∙ c.keepalive_end.ensures) c.if-end-later.true

pub returns-else-end-later-clause-state : goal.returns-else-end-later-clause-state
returns-else-end-later-clause-state c =
    keep_stays c.args.world.now c.args.name.group.bits c.args.name.source.bits c.args.moment c.in-Some.end
    (sym c.in-Some.is ∙ c.keepalive_end.ensures) c.if-end-later.false

pub returns-in_ok-keep_until-in-Some-clause-rest : goal.returns-in_ok-keep_until-in-Some-clause-rest
returns-in_ok-keep_until-in-Some-clause-rest c =
    kept_rests c.args.world.now c.args.name.group.bits c.args.name.source.bits c.args.moment c.keep_until.new.world
    c.requires.rest
    (c.in_ok-keep_until-in-Some.ensures.state
    ∙ keep_sets c.args.world.now c.args.name.group.bits c.args.name.source.bits c.args.moment c.in-Some.end
    (sym c.in-Some.is ∙ c.keepalive_end.ensures) c.if-end-later.true)

pub returns-in_ok-keep_until-in-Some-clause-shown : goal.returns-in_ok-keep_until-in-Some-clause-shown
returns-in_ok-keep_until-in-Some-clause-shown c =
    kept_rows c.args.world.now c.args.name.group.bits c.args.name.source.bits c.args.moment c.keep_until.new.world
    (c.in_ok-keep_until-in-Some.ensures.state
    ∙ keep_sets c.args.world.now c.args.name.group.bits c.args.name.source.bits c.args.moment c.in-Some.end
    (sym c.in-Some.is ∙ c.keepalive_end.ensures) c.if-end-later.true)

pub returns-in_ok-keep_until-in-Some-clause-accepted : goal.returns-in_ok-keep_until-in-Some-clause-accepted
returns-in_ok-keep_until-in-Some-clause-accepted c =
    kept_accepted c.args.world.now c.args.name.group.bits c.args.name.source.bits _ c.keep_until.new.world
    c.in_ok-keep_until-in-Some.ensures.state

pub returns-in_ok-keep_until-in-Some-clause-near : goal.returns-in_ok-keep_until-in-Some-clause-near
returns-in_ok-keep_until-in-Some-clause-near c =
    kept_near c.args.world.now c.args.name.group.bits c.args.name.source.bits c.args.moment c.keep_until.new.world
    (c.in_ok-keep_until-in-Some.ensures.state
    ∙ keep_sets c.args.world.now c.args.name.group.bits c.args.name.source.bits c.args.moment c.in-Some.end
    (sym c.in-Some.is ∙ c.keepalive_end.ensures) c.if-end-later.true)
