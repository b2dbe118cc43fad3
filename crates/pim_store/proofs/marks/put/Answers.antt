use Rattle.std.{proofs.Common.{◌&&◌, nat_lt, ap}}
use Rattle.pim_store.{proofs.{Changed.{above_limit, put_in, put_out}, marks.put.Goals.{else-is_in-via-then-is_in+else-iface-lt-LIMIT, else-is_in-via-else-is_in}}}
use Rattle.pim_store.proofs.marks.put.Goals as goal

pub returns-then-iface-lt-LIMIT : goal.returns-then-iface-lt-LIMIT
returns-then-iface-lt-LIMIT c =
    put_in c.args.iface.number c.args.set _ c.args.is_in c.if-is_in.true c.if-iface-lt-LIMIT.true c.insert.ensures.interfaces
    c.insert.ensures.tunnel

pub returns-else-is_in : goal.returns-else-is_in
returns-else-is_in c =
    put_out c.args.iface.number c.args.set _ c.args.is_in
    (elim c.else-is_in.branch [
      | else-is_in-via-then-is_in+else-iface-lt-LIMIT w ↦ above_limit c.args.iface.number c.args.is_in w.if-iface-lt-LIMIT.false
      | else-is_in-via-else-is_in w ↦ ap (λ b. b && nat_lt c.args.iface.number 120) w.if-is_in.false
    ])
    c.remove.ensures.interfaces c.remove.ensures.tunnel
