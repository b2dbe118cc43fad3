use Rattle.std.{proofs.{Common.{sym, arith, rules}, lemmas.Grind.common_steps}}
use Rattle.pim_wire.{proofs.Inner.{inner_long, inner_unread, inner_source, inner_group, inner_right}}
use Rattle.pim_wire.proofs.register.read_inner.Goals as goal

pub returns-then-bytes-gt-FRAME_LIMIT : goal.returns-then-bytes-gt-FRAME_LIMIT
returns-then-bytes-gt-FRAME_LIMIT c = inner_long c.args.bytes.now (omega arith)

pub returns-in_err-packet : goal.returns-in_err-packet
returns-in_err-packet c =
    let wrong = inner_unread c.args.bytes.now c.in_err-packet.field-0.0 (omega arith) (sym c.in_err-packet.ensures) in
    search (rules, wrong)

pub returns-then-not-is_unicast : goal.returns-then-not-is_unicast
returns-then-not-is_unicast c =
    inner_source c.args.bytes.now c.in_ok-packet.packet (omega arith) (sym c.in_ok-packet.ensures) (grind (arith, common_steps))

pub returns-then-not-is_multicast : goal.returns-then-not-is_multicast
returns-then-not-is_multicast c =
    inner_group c.args.bytes.now c.in_ok-packet.packet (omega arith) (sym c.in_ok-packet.ensures) (grind (arith, common_steps)) (grind (arith, common_steps))

pub returns : goal.returns
returns c =
    inner_right c.args.bytes.now c.in_ok-packet.packet (omega arith) (sym c.in_ok-packet.ensures) (grind (arith, common_steps)) (grind (arith, common_steps))
