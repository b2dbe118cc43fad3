use Rattle.std.{proofs.Common.{◌≡◌, ◌∙◌, true, false, ap, sym}}
use Rattle.pim_net.{proofs.{Nodes.{lawful, network_shown, then_configs, unlawful}, Stations.{of_err, of_ok}}}
use Rattle.pim_net.proofs.network.Network.open.Goals as goal

pub returns-then-not-are_lawful-clause-refused : goal.returns-then-not-are_lawful-clause-refused
returns-then-not-are_lawful-clause-refused c =
    let test : lawful c.args.nodes.items ≡ false =
    sym (ap lawful c.deref.ensures.value) ∙ sym c.if-not-are_lawful.ensures in
    unlawful c.args.nodes.items test

pub returns-in-Ok-clause-accepted : goal.returns-in-Ok-clause-accepted
returns-in-Ok-clause-accepted c =
    let test : lawful c.args.nodes.items ≡ true =
    sym (ap lawful c.deref.ensures.value) ∙ sym c.if-not-are_lawful.ensures in
    let ok = of_ok _ _ (c.in-Ok.stations, c.in-Ok.ports) c.in-Ok.is c.in_ok-stations.ensures.accepted in (
      then_configs c.args.nodes.items test ∙ ok.0,
      network_shown c.args.nodes.items c.in-Ok.stations.items c.new.result.items ok.1 c.new.ensures.items,
      ok.2,
    )

pub returns-in-Err-clause-refused : goal.returns-in-Err-clause-refused
returns-in-Err-clause-refused c =
    let test : lawful c.args.nodes.items ≡ true =
    sym (ap lawful c.deref.ensures.value) ∙ sym c.if-not-are_lawful.ensures in
    then_configs c.args.nodes.items test
    ∙ of_err _ _ c.in-Err.refusal c.in-Err.is c.in_ok-stations.ensures.refused
