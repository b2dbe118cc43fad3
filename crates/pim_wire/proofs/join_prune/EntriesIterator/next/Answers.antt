use Rattle.std.{proofs.Common.{◌≡◌, ℕ, ◌+◌, ◌-◌, List, ◌++◌, sym, ap, ◌∙◌, arith, rules}}
use Rattle.pim_wire.{specs.{declared.join_prune.Entry.Entry, JoinPrunes.entries_at}, proofs.{Walks.{entries_none, entries_more}, Yields.{gives_first, gives_none, is_shorter}}}
use Rattle.pim_wire.proofs.join_prune.EntriesIterator.next.Goals as goal

pub returns-then-is_some-clause-steps : goal.returns-then-is_some-clause-steps
returns-then-is_some-clause-steps c =
    let s = c.loop-self.self-inside in
    let rest : List Entry = entries_at s.message.now (s.place + 8) (s.left - 1) in
    let more = entries_more s.message.now s.place s.left (omega arith) in
    gives_first c.entry_at-entry.result c.args.self.now rest (search rules)
    (sym c.self.view_is ∙ sym c.loop-self.invariant.rest ∙ more ∙ ap (λ (xs : List Entry). xs ++ rest) (sym c.entry_at-entry.ensures))

pub returns-then-is_some-clause-goes : goal.returns-then-is_some-clause-goes
returns-then-is_some-clause-goes c =
    let s = c.loop-self.self-inside in
    let rest : List Entry = entries_at s.message.now (s.place + 8) (s.left - 1) in
    let more = entries_more s.message.now s.place s.left (omega arith) in
    let shorter = is_shorter c.entry_at-entry.result c.args.self.now rest (search rules)
    (sym c.self.view_is ∙ sym c.loop-self.invariant.rest ∙ more ∙ ap (λ (xs : List Entry). xs ++ rest) (sym c.entry_at-entry.ensures)) in
    search (rules, shorter)

pub loop-self-preserved : goal.loop-self-preserved
loop-self-preserved c =
    let s = c.loop-self.self-inside in
    let rest : List Entry = entries_at s.message.now (s.place + 8) (s.left - 1) in
    let more = entries_more s.message.now s.place s.left (omega arith) in
    record {
      there = record { there = omega arith };
      rest = gives_none c.entry_at-entry.result (entries_at s.message.now s.place s.left) rest (search rules) (more ∙ ap (λ (xs : List Entry). xs ++ rest) (sym c.entry_at-entry.ensures)) ∙ c.loop-self.invariant.rest;
    }

pub returns-clause-steps : goal.returns-clause-steps
returns-clause-steps c =
    let s = c.loop-self.self-inside in
    let none : s.left ≡ 0 = omega arith in
    let empty = ap (λ (n : ℕ). entries_at s.message.now s.place n) none ∙ entries_none s.message.now s.place in
    (sym c.self.view_is ∙ sym c.loop-self.invariant.rest ∙ empty, empty)
