-- The interfaces of each router in turn.
use Rattle.std.{proofs.Common.{rules, arith, ◌≡◌, ◌∙◌, ◌++◌, sym}}
use Rattle.lab_parts.{specs.Settling.to_interfaces, proofs.Settling.{routers-done, routers-step}}
use Rattle.lab_parts.proofs.frames.OnLink.to_routers.Goals as goal

pub loop-router-preserved : goal.loop-router-preserved
loop-router-preserved c =
    let put : c.to_interfaces.new.found.items
    ≡ c.loop-router.found.items ++ to_interfaces c.args.self c.loop-router.router 0 c.index-stations-router.result.links =
    search rules in
    sym (routers-step _ _ _ _ _ _ (omega arith) c.index-stations-router.is put) ∙ c.loop-router.invariant

pub returns : goal.returns
returns c = sym (routers-done _ _ _ _ (omega arith)) ∙ c.loop-router.invariant
