use Rattle.std.{proofs.Common.{◌≡◌, ◌++◌, ◌∙◌, ap, rules}}
use Rattle.pim_ip.{specs.declared.addr.Addr.Addr}
use Rattle.pim_upstream.{specs.Hearing.{heard_of_timer, heard_of_timers, timers_of}, proofs.HeardKeys.next_heard_of}
use Rattle.pim_upstream.proofs.overheard.hear_timers.Goals as goal

pub loop-key-init : goal.loop-key-init
loop-key-init c =
    let all : c.into_iter-key-iterator.result ≡ timers_of c.args.world.now c.args.group.bits = search rules in
    ap (λ es. c.args.moves.now.items ++ heard_of_timers c.args.world.now c.args.hop c.args.end c.args.group es) all

pub loop-key-preserved : goal.loop-key-preserved
loop-key-preserved c =
    let s = c.args.world.now in
    next_heard_of s c.args.hop c.args.end c.args.group _ _ _ _ _ _ c.in-Some.ensures.steps
    (c.in_ok-hear_timer.ensures
    ∙ ap (λ (g : Addr). c.loop-key.moves.items ++ heard_of_timer s c.args.hop c.args.end g c.in-Some.key) c.of-star.ensures.group)
    ∙ c.loop-key.invariant
