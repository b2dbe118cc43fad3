use Rattle.std.{proofs.Common.{◌≤◌, arith, sym, ◌∙◌}}
use Rattle.pim_mfc.{specs.Kept.{with_source_row, without_source_row}, proofs.Shown.removal_refreshes}
use Rattle.pim_trie.{specs.Meter.raised}
use Rattle.pim_fanout.{specs.Refreshing.touches, proofs.{Counts.{one_counts, one_put, one_taken_out, then_counts}, Refreshed.put_named}}
use Rattle.pim_fanout.proofs.cache.Cache.refresh_one.Goals as goal

pub returns-then-not-has_fact-clause-shown : goal.returns-then-not-has_fact-clause-shown
returns-then-not-has_fact-clause-shown g c =
    rw (← c.self.view_is, c.remove.ensures) (λ names cache shows.
    removal_refreshes (g.W.Evaluates.state c.args.world.now) cache names c.self.inside.mfc c.args.name.group.bits c.args.name.source.bits
    (sym c.has_fact.ensures ∙ c.if-not-has_fact.true) shows)

pub returns-then-not-has_fact-clause-few : goal.returns-then-not-has_fact-clause-few
unfolding touches without_source_row
returns-then-not-has_fact-clause-few g c =
    rw (← c.self.view_is, c.remove.ensures) (one_taken_out (c.self.inside.mfc).changes c.self.inside.evaluated _
    (sym c.has_fact.ensures ∙ c.if-not-has_fact.true))

pub returns-clause-shown : goal.returns-clause-shown
returns-clause-shown g c =
    rw (← c.self.view_is, c.in_ok-put.ensures.ok) (λ names cache shows.
    put_named (g.W.Evaluates.state c.args.world.now) cache names c.self.inside.mfc c.row-made.result c.args.name.group
    c.args.name.source c.row-made.ensures.group c.row-made.ensures.source
    (sym c.has_fact.ensures ∙ c.if-not-has_fact.false) c.row-made.ensures.answers shows)

pub returns-clause-few : goal.returns-clause-few
unfolding touches with_source_row
returns-clause-few g c =
    rw (← c.self.view_is, c.in_ok-put.ensures.ok, c.row-made.ensures.counted)
    (one_put (c.self.inside.mfc).changes c.self.inside.evaluated _
    (sym c.has_fact.ensures ∙ c.if-not-has_fact.false))

pub invariant_of-self : goal.invariant_of-self
unfolding without_source_row
invariant_of-self g c = λ none.
    let some : 1 ≤ raised c.remove.new.self.changes c.self.inside.evaluated =
    rw (c.remove.ensures) (one_counts (c.self.inside.mfc).changes c.self.inside.evaluated) in
    absurd (omega (arith, none, some))

pub invariant_of-self-in_err-put : goal.invariant_of-self-in_err-put
invariant_of-self-in_err-put g c = λ none.
    let some : 1 ≤ raised c.put.new.self.changes c.row-made.new.evaluated =
    rw (c.row-made.ensures.counted) (then_counts c.put.new.self.changes c.self.inside.evaluated) in
    absurd (omega (arith, none, some))

pub invariant_of-self-2 : goal.invariant_of-self-2
invariant_of-self-2 g c = λ none.
    let some : 1 ≤ raised c.put.new.self.changes c.row-made.new.evaluated =
    rw (c.row-made.ensures.counted) (then_counts c.put.new.self.changes c.self.inside.evaluated) in
    absurd (omega (arith, none, some))
