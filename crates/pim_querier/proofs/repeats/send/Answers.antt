use Rattle.std.{proofs.Common.{Bool, List, ap, false, filter, true, ℕ, ◌∙◌}}
use Rattle.pim_ip.{specs.declared.addr.Addr.Addr}
use Rattle.pim_types.{specs.declared.fact.SendingRow.SendingRow}
use Rattle.pim_model.{specs.{Querier.{exceeds, source_end}, Tables.{Table, same_bool}}}
use Rattle.pim_querier.{specs.Changes.row_sources, proofs.Sent.{all_sent, both_said, sent_of}}
use Rattle.igmp_wire.{specs.Written.bits_of}
use Rattle.pim_querier.proofs.repeats.send.Goals as goal

pub returns-clause-state : goal.returns-clause-state
returns-clause-state c =
    sent_of c.args.place.iface.number c.args.place.group.bits c.args.world.now c.lessen.new.world
    (c.lessen.ensures
    ∙ all_sent c.args.place.iface.number c.args.place.group.bits c.args.world.now c.deref-5.result.now
    (c.deref-5.ensures.value ∙ c.in_ok-sendings.ensures) (rw c.membership.ensures at c.proof_rising_sendings.ensures))

pub returns-clause-messages : goal.returns-clause-messages
returns-clause-messages c =
    let s = c.args.world.now in
    let i = c.args.place.iface.number in
    let g = c.args.place.group.bits in
    let chosen : Bool → Table SendingRow → List ℕ = λ b es.
    filter (λ src. same_bool b (exceeds c.query_end-end.result (source_end s i g src))) (row_sources es) in
    both_said i g s c.in_ok-sendings.sendings.items (bits_of c.deref-3.result.now) (bits_of c.deref-4.result.now)
    c.query_end-end.result c.args.turn.now c.say_sources.new.turn c.say_sources-2.new.turn c.in_ok-sendings.ensures
    c.query_end-end.ensures
    (ap (λ (xs : List Addr). bits_of xs) c.deref-3.ensures.value ∙ c.in_ok-running.ensures
    ∙ ap (chosen true) c.deref.ensures.value)
    (ap (λ (xs : List Addr). bits_of xs) c.deref-4.ensures.value ∙ c.in_ok-others.ensures
    ∙ ap (chosen false) c.deref-2.ensures.value)
    c.in_ok-say_sources.ensures c.in_ok-say_sources-2.ensures
