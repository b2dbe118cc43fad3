use Rattle.std.{proofs.Common.{List, ap, arith, refl, sym, ◌==◌, ◌∙◌}}
use Rattle.pim_ip.{specs.declared.addr.Addr.Addr}
use Rattle.pim_state.{specs.Turns.saying}
use Rattle.pim_model.{specs.Querier.lower_sources}
use Rattle.pim_querier.{specs.Changes.sendings_put, proofs.{Queried.{none_queried, sources_queried}, Starting.{nothing_said, said_as, then_ok}}}
use Rattle.igmp_wire.{specs.Written.bits_of}
use Rattle.pim_querier.proofs.asked.query_sources.Goals as goal

pub returns-then-is_empty-clause-state : goal.returns-then-is_empty-clause-state
returns-then-is_empty-clause-state c =
    sym (ap (λ p. p.0)
    (none_queried c.args.place.iface.number c.args.place.group.bits c.args.world.now (bits_of c.args.asked.now)
    c.in_ok-sources.sources.items c.query_end-end.result c.query_end-end.ensures c.in_ok-sources.ensures
    (ap (λ n. n == 0) (omega (arith, c.in_ok-sources.sources.ok.0)) ∙ sym c.is_empty.ensures ∙ c.if-is_empty.true)))

pub returns-then-is_empty-clause-messages : goal.returns-then-is_empty-clause-messages
returns-then-is_empty-clause-messages c =
    sym (ap (λ p. saying c.args.turn.now p.1)
    (none_queried c.args.place.iface.number c.args.place.group.bits c.args.world.now (bits_of c.args.asked.now)
    c.in_ok-sources.sources.items c.query_end-end.result c.query_end-end.ensures c.in_ok-sources.ensures
    (ap (λ n. n == 0) (omega (arith, c.in_ok-sources.sources.ok.0)) ∙ sym c.is_empty.ensures ∙ c.if-is_empty.true))
    ∙ nothing_said c.args.turn.now)

pub returns-clause-state : goal.returns-clause-state
returns-clause-state c =
    let i = c.args.place.iface.number in
    let g = c.args.place.group.bits in
    then_ok c.send_sources.result
    (λ e. e
    ∙ ap (λ p. p.0)
    (sources_queried i g c.args.world.now c.lower_sources.new.world c.put_sendings.new.world (bits_of c.args.asked.now)
    c.in_ok-sources.sources.items c.query_end-end.result c.from.result c.query_end-end.ensures
    (c.from.ensures ∙ c.robustness.ensures.value) c.in_ok-sources.ensures (ap (λ n. n == 0) (omega (arith, c.in_ok-sources.sources.ok.0)) ∙ sym c.is_empty.ensures ∙ c.if-is_empty.false)
    (c.in_ok-lower_sources.ensures
    ∙ ap (λ (xs : List Addr). lower_sources c.args.world.now i g (bits_of xs) c.query_end-end.result) c.deref.ensures.value)
    (c.in_ok-put_sendings.ensures
    ∙ ap (λ (xs : List Addr). sendings_put i g (record { left = c.from.result }) c.lower_sources.new.world xs)
    c.deref-2.ensures.value)))
    c.send_sources.ensures.state

pub returns-clause-messages : goal.returns-clause-messages
returns-clause-messages c =
    let i = c.args.place.iface.number in
    let g = c.args.place.group.bits in
    then_ok c.send_sources.result
    (λ e. said_as _ _ _ _ _ e refl
    (sources_queried i g c.args.world.now c.lower_sources.new.world c.put_sendings.new.world (bits_of c.args.asked.now)
    c.in_ok-sources.sources.items c.query_end-end.result c.from.result c.query_end-end.ensures
    (c.from.ensures ∙ c.robustness.ensures.value) c.in_ok-sources.ensures (ap (λ n. n == 0) (omega (arith, c.in_ok-sources.sources.ok.0)) ∙ sym c.is_empty.ensures ∙ c.if-is_empty.false)
    (c.in_ok-lower_sources.ensures
    ∙ ap (λ (xs : List Addr). lower_sources c.args.world.now i g (bits_of xs) c.query_end-end.result) c.deref.ensures.value)
    (c.in_ok-put_sendings.ensures
    ∙ ap (λ (xs : List Addr). sendings_put i g (record { left = c.from.result }) c.lower_sources.new.world xs)
    c.deref-2.ensures.value)))
    c.send_sources.ensures.messages
