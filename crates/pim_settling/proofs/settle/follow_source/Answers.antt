use Rattle.std.{proofs.Common.{◌≡◌, ◌∷◌, [], ap, subst, sym, ◌∙◌}}
use Rattle.pim_ip.{specs.declared.addr.Addr.Addr}
use Rattle.pim_macros.{specs.{Sights.IsSourceSight, declared.sight.StarSight.StarSight}}
use Rattle.pim_model.{specs.State.State}
use Rattle.pim_register.{specs.Settling.registers_by}
use Rattle.pim_fanout.{specs.Named.keys_of}
use Rattle.pim_settling.{proofs.{Following.{followed_messages, followed_state, named_there, registered_alone}, SightStays.told_sight}}
use Rattle.pim_settling.proofs.settle.follow_source.Goals as goal

pub returns-clause-state : goal.returns-clause-state
returns-clause-state c =
    let x = c.args.group.now in
    let registered : c.settle_register.new.world ≡ registers_by (x ∷ []) c.args.world.now =
    registered_alone c.args.world.now c.settle_register.new.world x c.args.opened _ _ c.requires.alone
    (ap (λ (t : StarSight). t.group.bits) c.of-sight.ensures.star ∙ ap (λ (a : Addr). a.bits) c.of-star.ensures.group)
    (ap (λ (a : Addr). a.bits) c.of-sight.ensures.source) c.in_ok-settle_register.ensures.state in
    c.in_ok-changed_alone.ensures.state
    ∙ followed_state (x ∷ []) c.args.world.now c.settle_register.new.world c.clear_alone.new.world c.args.turn.now
    c.clear_alone.new.turn registered c.in_ok-clear_alone.ensures.state
    c.in_ok-clear_alone.ensures.messages

pub returns-clause-messages : goal.returns-clause-messages
returns-clause-messages c =
    let x = c.args.group.now in
    let registered : c.settle_register.new.world ≡ registers_by (x ∷ []) c.args.world.now =
    registered_alone c.args.world.now c.settle_register.new.world x c.args.opened _ _ c.requires.alone
    (ap (λ (t : StarSight). t.group.bits) c.of-sight.ensures.star ∙ ap (λ (a : Addr). a.bits) c.of-star.ensures.group)
    (ap (λ (a : Addr). a.bits) c.of-sight.ensures.source) c.in_ok-settle_register.ensures.state in
    c.in_ok-changed_alone.ensures.messages
    ∙ followed_messages (x ∷ []) c.args.world.now c.settle_register.new.world c.clear_alone.new.world c.args.turn.now
    c.clear_alone.new.turn registered c.in_ok-clear_alone.ensures.state
    c.in_ok-clear_alone.ensures.messages

pub returns-clause-named : goal.returns-clause-named
returns-clause-named c =
    let x = c.args.group.now in
    let registered : c.settle_register.new.world ≡ registers_by (x ∷ []) c.args.world.now =
    registered_alone c.args.world.now c.settle_register.new.world x c.args.opened _ _ c.requires.alone
    (ap (λ (t : StarSight). t.group.bits) c.of-sight.ensures.star ∙ ap (λ (a : Addr). a.bits) c.of-star.ensures.group)
    (ap (λ (a : Addr). a.bits) c.of-sight.ensures.source) c.in_ok-settle_register.ensures.state in
    named_there (x ∷ []) c.args.world.now c.settle_register.new.world c.clear_alone.new.world c.args.turn.now
    c.clear_alone.new.turn registered c.in_ok-clear_alone.ensures.state
    c.in_ok-clear_alone.ensures.messages
    c.args.before.now (keys_of c.in_ok-names.names) c.in_ok-names.ensures

pub returns-clause-last : goal.returns-clause-last
returns-clause-last c =
    let sight = c.clear_alone.new.sight in
    subst (λ (s : State). IsSourceSight s sight) (sym c.in_ok-changed_alone.ensures.state)
    (told_sight sight.star.group.bits sight.source.bits sight c.clear_alone.new.world c.clear_alone.new.turn.draw
    (c.args.group.now ∷ []) c.in_ok-clear_alone.ensures.sight)
