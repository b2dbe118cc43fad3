-- A text is one document at most.
use Rattle.std.{proofs.Common.{sym, subst}}
use Rattle.toml.{specs.{Data.Members, Parse.parse_document, View.table_view}}
use Rattle.pim_scenario.{specs.{declared.scenario.Scenario.Scenario, Scenario.IsScenario}, proofs.ReadLemmas.{the_same, was_wrong}}
use Rattle.pim_scenario.proofs.scenario.read_whole.Goals as goal

pub returns-in-Err-Wrong-clause-read : goal.returns-in-Err-Wrong-clause-read
returns-in-Err-Wrong-clause-read c s is =
    was_wrong (λ (x : Scenario). IsScenario (table_view c.in-Ok.table) x) c.in-Err-Wrong.field-0 c.in-Err-Wrong.field-0-is
    c.in-Err-Wrong.ensures s
    (subst (λ (ms : Members). IsScenario ms s)
    (sym (the_same (parse_document c.args.text.now) (table_view c.in-Ok.table) is.0 (sym c.in-Ok.ensures.ok) is.1)) is.2)
