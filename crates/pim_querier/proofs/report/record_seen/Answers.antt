use Rattle.std.{proofs.Common.{ap, refl, sym, ◌∙◌}}
use Rattle.pim_state.{specs.Turns.saying}
use Rattle.pim_model.{specs.Querier.record_seen}
use Rattle.pim_querier.{proofs.{Looking.{record_grows, then_grown}, Reported.{seen_by_other, seen_by_querier}, Starting.{nothing_said, said_as, then_ok}}}
use Rattle.pim_querier.proofs.report.record_seen.Goals as goal

pub returns-then-not-queries-clause-state : goal.returns-then-not-queries-clause-state
returns-then-not-queries-clause-state c =
    c.in_ok-asked.ensures.state
    ∙ ap (λ p. p.0)
    (sym (seen_by_other c.args.world.now c.args.iface.number c.args.group_record.now
    (sym c.is_querier-queries.ensures ∙ c.if-not-queries.true)))

pub returns-then-not-queries-clause-messages : goal.returns-then-not-queries-clause-messages
returns-then-not-queries-clause-messages c =
    sym (ap (λ p. saying c.args.turn.now p.1)
    (seen_by_other c.args.world.now c.args.iface.number c.args.group_record.now
    (sym c.is_querier-queries.ensures ∙ c.if-not-queries.true))
    ∙ nothing_said c.args.turn.now)

pub returns-clause-state : goal.returns-clause-state
returns-clause-state c =
    then_ok c.query_asked.result
    (λ e. e
    ∙ ap (λ p. p.0)
    (seen_by_querier c.args.world.now c.args.iface.number c.args.group_record.now c.apply_record.new.world
    c.group.result.bits c.in_ok-asked.asked (sym c.is_querier-queries.ensures ∙ c.if-not-queries.false) c.group.ensures
    c.in_ok-asked.ensures.state (c.in_ok-asked.ensures.asked c.if-not-queries.false)))
    c.query_asked.ensures.state

pub returns-clause-messages : goal.returns-clause-messages
returns-clause-messages c =
    then_ok c.query_asked.result
    (λ e. said_as _ _ _ _ _ e refl
    (seen_by_querier c.args.world.now c.args.iface.number c.args.group_record.now c.apply_record.new.world
    c.group.result.bits c.in_ok-asked.asked (sym c.is_querier-queries.ensures ∙ c.if-not-queries.false) c.group.ensures
    c.in_ok-asked.ensures.state (c.in_ok-asked.ensures.asked c.if-not-queries.false)))
    c.query_asked.ensures.messages

pub returns-then-not-queries-clause-known : goal.returns-then-not-queries-clause-known
returns-then-not-queries-clause-known c =
    let s = c.args.world.now in
    let i = c.args.iface.number in
    let r = c.args.group_record.now in
    then_grown i _ _ _ (record_seen i s r).0 _
    (c.in_ok-asked.ensures.state
    ∙ ap (λ p. p.0) (sym (seen_by_other s i r (sym c.is_querier-queries.ensures ∙ c.if-not-queries.true))))
    (c.in_ok-asked.ensures.known (record_seen i s r).0.source_records
    (record_grows s i r (rw c.membership.ensures at c.proof_keyed_source_records.ensures)))

pub returns-clause-known : goal.returns-clause-known
returns-clause-known c =
    let s = c.args.world.now in
    let i = c.args.iface.number in
    let r = c.args.group_record.now in
    then_ok c.query_asked.result
    (λ e. then_grown i _ _ _ (record_seen i s r).0 _
    (e
    ∙ ap (λ p. p.0)
    (seen_by_querier s i r c.apply_record.new.world c.group.result.bits c.in_ok-asked.asked
    (sym c.is_querier-queries.ensures ∙ c.if-not-queries.false) c.group.ensures c.in_ok-asked.ensures.state
    (c.in_ok-asked.ensures.asked c.if-not-queries.false)))
    (c.in_ok-asked.ensures.known (record_seen i s r).0.source_records
    (record_grows s i r (rw c.membership.ensures at c.proof_keyed_source_records.ensures))))
    c.query_asked.ensures.state
