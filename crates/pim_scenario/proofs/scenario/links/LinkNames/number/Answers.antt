-- A name that is there keeps its place, and a new one is the last.
use Rattle.std.{proofs.Common.{sym, rules, length, ◌≡◌}}
use Rattle.pim_scenario.{proofs.LinkLemmas.{found, fresh, kept_name, new_name}}
use Rattle.pim_scenario.proofs.scenario.links.LinkNames.number.Goals as goal

pub returns-in-Some-clause-place : goal.returns-in-Some-clause-place
returns-in-Some-clause-place c = found c.args.self.now.names.items c.args.name.now c.in-Some.number (sym c.in-Some.ensures)

pub returns-in-Some-clause-names : goal.returns-in-Some-clause-names
returns-in-Some-clause-names c =
    kept_name _ c.args.name.now c.in-Some.number
    (found c.args.self.now.names.items c.args.name.now c.in-Some.number (sym c.in-Some.ensures))

pub returns-clause-names : goal.returns-clause-names
returns-clause-names c =
    new_name c.args.self.now.names.items c.push.new.self.items c.args.name (sym c.in_default.ensures)
    c.in_ok-push.ensures.items

pub returns-clause-place : goal.returns-clause-place
returns-clause-place c =
    let at : c.len-number.result ≡ length c.args.self.now.names.items = search rules in
    fresh c.args.self.now.names.items c.push.new.self.items c.args.name c.len-number.result (sym c.in_default.ensures)
    c.in_ok-push.ensures.items at
