use Rattle.std.{proofs.Common.{ap, ◌∙◌}}
use Rattle.pim_store.{specs.{Said.{row_says, seen, tunnel_in}, declared.marks.Marks.Marks}, proofs.{Changed.{seen_with, timer_with, tunnel_with}, Marked.{one_marked, two_marked}}}
use Rattle.pim_store.proofs.index.marked.Goals as goal

pub returns-in-Some-clause-marks : goal.returns-in-Some-clause-marks
returns-in-Some-clause-marks g c = λ x i.
    two_marked (λ m. row_says g.R.TellsMarks.tells g.R.TellsMarks.says m c.args.row) c.args.key.iface.number x i
    c.told-first.result c.in-Some.second _ _ _ _ _ _ c.in-Some.is (c.told-first.ensures.marks x i)
    c.row_says.ensures c.row_says-in-Some.ensures
    (ap (λ (m : Marks). seen x m i) c.with-changed.ensures
    ∙ seen_with c.told-first.result.0 c.args.key.iface.number _ c.args.marks c.told-first.ensures.near x i)
    (ap (λ (m : Marks). seen x m i) c.with.ensures
    ∙ seen_with c.in-Some.second c.args.key.iface.number _ c.with-changed.result c.told-first.ensures.near x i)

pub returns-in-Some-clause-tunnels : goal.returns-in-Some-clause-tunnels
returns-in-Some-clause-tunnels g c = λ x.
    ap (tunnel_in x) c.with.ensures
    ∙ tunnel_with x c.in-Some.second c.args.key.iface.number _ c.with-changed.result
    ∙ ap (tunnel_in x) c.with-changed.ensures
    ∙ tunnel_with x c.told-first.result.0 c.args.key.iface.number _ c.args.marks

pub returns-in-None-clause-marks : goal.returns-in-None-clause-marks
returns-in-None-clause-marks g c = λ x i.
    one_marked (λ m. row_says g.R.TellsMarks.tells g.R.TellsMarks.says m c.args.row) c.args.key.iface.number x i
    c.told-first.result _ _ _ _ c.in-None.is (c.told-first.ensures.marks x i) c.row_says.ensures
    (ap (λ (m : Marks). seen x m i) c.with-changed.ensures
    ∙ seen_with c.told-first.result.0 c.args.key.iface.number _ c.args.marks c.told-first.ensures.near x i)

pub returns-in-None-clause-tunnels : goal.returns-in-None-clause-tunnels
returns-in-None-clause-tunnels g c = λ x.
    ap (tunnel_in x) c.with-changed.ensures
    ∙ tunnel_with x c.told-first.result.0 c.args.key.iface.number _ c.args.marks

pub returns-in-Some-clause-timer : goal.returns-in-Some-clause-timer
returns-in-Some-clause-timer g c =
    ap (λ (m : Marks). m.join_timer) c.with.ensures
    ∙ timer_with c.in-Some.second c.args.key.iface.number _ c.with-changed.result
    ∙ ap (λ (m : Marks). m.join_timer) c.with-changed.ensures
    ∙ timer_with c.told-first.result.0 c.args.key.iface.number _ c.args.marks

pub returns-in-None-clause-timer : goal.returns-in-None-clause-timer
returns-in-None-clause-timer g c =
    ap (λ (m : Marks). m.join_timer) c.with-changed.ensures
    ∙ timer_with c.told-first.result.0 c.args.key.iface.number _ c.args.marks
