use Rattle.std.{proofs.Common.{ap, map, sym, ◌∙◌}}
use Rattle.pim_model.{specs.Tables.keys_in}
use Rattle.pim_types.{specs.Keys.group_in}
use Rattle.pim_state.{specs.Groups.{gathered, numbers_of}, proofs.Gathering.{gathered_next, gathered_none, numbers_inserted}}
use Rattle.pim_state.proofs.groups.gather.Goals as goal

pub loop-key-preserved : goal.loop-key-preserved
loop-key-preserved g c =
    ap (λ ns. gathered (map group_in (keys_in c.next.new.self)) ns)
    (ap (λ es. numbers_of es) c.in_ok-insert.ensures.entries
    ∙ numbers_inserted c.in-Some.key.now.group _ c.loop-key.found.entries)
    ∙ sym (gathered_next c.loop-key.key-iterator c.next.new.self (c.in-Some.key.now, c.in-Some.field-0-1.now)
    (numbers_of c.loop-key.found.entries) c.in-Some.ensures.steps)
    ∙ c.loop-key.invariant

pub returns : goal.returns
returns g c =
    sym (gathered_none c.loop-key.key-iterator (numbers_of c.loop-key.found.entries) c.in-None.ensures.steps.0)
    ∙ c.loop-key.invariant
