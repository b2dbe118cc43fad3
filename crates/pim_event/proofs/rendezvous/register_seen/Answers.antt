use Rattle.std.{proofs.Common.{IfOk, OnOk, ap, subst, ◌≡◌, ◌∙◌}}
use Rattle.pim_ip.{specs.declared.addr.Addr.Addr}
use Rattle.pim_model.{specs.Forwarding.Forwarded}
use Rattle.pim_state.{specs.Turns.saying}
use Rattle.pim_register.{specs.Outgoing.LeavesOn}
use Rattle.pim_event.{proofs.AtRp.{known_at_rp, known_read, read_of}}
use Rattle.pim_event.proofs.rendezvous.register_seen.Goals as goal

pub register_at_rp-requires : goal.register_at_rp-requires
register_at_rp-requires c =
    known_read c.args.world.now c.args.packet.now c.args.register.now c.args.known c.in-Some.source c.in-Some.is c.requires

pub returns-in-Some-clause-list : goal.returns-in-Some-clause-list
returns-in-Some-clause-list c =
    subst (λ (f : Forwarded). IfOk c.register_at_rp.result (λ list. LeavesOn list f))
    (known_at_rp c.args.world.now c.args.packet.now c.args.register.now c.args.known c.in-Some.source c.in-Some.is c.requires)
    c.register_at_rp.ensures.list

pub returns-in-Some-clause-state : goal.returns-in-Some-clause-state
returns-in-Some-clause-state c =
    subst (λ (f : Forwarded). OnOk c.register_at_rp.result (c.register_at_rp.new.world ≡ f.state))
    (known_at_rp c.args.world.now c.args.packet.now c.args.register.now c.args.known c.in-Some.source c.in-Some.is c.requires)
    c.register_at_rp.ensures.state

pub returns-in-Some-clause-messages : goal.returns-in-Some-clause-messages
returns-in-Some-clause-messages c =
    subst (λ (f : Forwarded). OnOk c.register_at_rp.result (c.register_at_rp.new.turn ≡ saying c.args.turn.now f.messages))
    (known_at_rp c.args.world.now c.args.packet.now c.args.register.now c.args.known c.in-Some.source c.in-Some.is c.requires)
    c.register_at_rp.ensures.messages

pub register_at_rp-requires-then-is_rp : goal.register_at_rp-requires-then-is_rp
register_at_rp-requires-then-is_rp c =
    let name = c.registered-name.ensures in
    let sight = c.with_star-sight.ensures in
    read_of c.args.world.now c.args.register.now c.with_star-sight.result.star.group.bits
    c.with_star-sight.result.source.bits (ap (λ (a : Addr). a.bits) sight.group ∙ name.group)
    (ap (λ (a : Addr). a.bits) sight.source ∙ name.source) c.of_sight-gathered.result
    (c.of_sight-gathered.ensures c.args.world.now sight.sight)
