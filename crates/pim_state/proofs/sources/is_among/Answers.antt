use Rattle.std.{proofs.Common.{sym, ◌∙◌}}
use Rattle.pim_state.{proofs.Named.{named_first, named_later, none_named}}
use Rattle.pim_state.proofs.sources.is_among.Goals as goal

pub returns-then-is_within : goal.returns-then-is_within
returns-then-is_within g c =
    sym (named_first c.args.prefix c.loop-key.key-iterator c.next.new.self (c.in-Some.key.now, c.in-Some.field-0-1.now)
    c.in-Some.ensures.steps (sym c.is_within.ensures ∙ c.if-is_within.true))
    ∙ c.loop-key.invariant

pub loop-key-preserved : goal.loop-key-preserved
loop-key-preserved g c =
    sym (named_later c.args.prefix c.loop-key.key-iterator c.next.new.self (c.in-Some.key.now, c.in-Some.field-0-1.now)
    c.in-Some.ensures.steps (sym c.is_within.ensures ∙ c.if-is_within.false))
    ∙ c.loop-key.invariant

pub returns : goal.returns
returns g c =
    sym (none_named c.args.prefix c.loop-key.key-iterator c.in-None.ensures.steps.0) ∙ c.loop-key.invariant
