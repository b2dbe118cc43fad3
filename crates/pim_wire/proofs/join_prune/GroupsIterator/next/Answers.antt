use Rattle.std.{proofs.Common.{◌≡◌, ℕ, ◌-◌, List, ◌++◌, sym, ap, ◌∙◌, arith, rules}}
use Rattle.pim_wire.{specs.{Values.Group, JoinPrunes.{groups_at, after_group}}, proofs.{Walks.{groups_at_none, groups_at_more, has_first, has_others}, Yields.{gives_first, gives_none, is_shorter}}}
use Rattle.pim_wire.proofs.join_prune.GroupsIterator.next.Goals as goal

pub group_at-group-requires : goal.group_at-group-requires
group_at-group-requires c =
    let s = c.loop-self.self-inside in
    has_first s.message.now s.place s.left (omega arith) c.loop-self.invariant.there

pub after_group-self-inside-requires : goal.after_group-self-inside-requires
after_group-self-inside-requires c =
    let s = c.loop-self.self-inside in
    has_first s.message.now s.place s.left (omega arith) c.loop-self.invariant.there

pub invariant_of-self-then-is_some : goal.invariant_of-self-then-is_some
invariant_of-self-then-is_some c =
    let s = c.loop-self.self-inside in
    has_others s.message.now s.place s.left _ _ (omega arith) c.after_group-self-inside.ensures (omega arith) c.loop-self.invariant.there

pub returns-then-is_some-clause-steps : goal.returns-then-is_some-clause-steps
returns-then-is_some-clause-steps c =
    let s = c.loop-self.self-inside in
    let rest : List Group = groups_at s.message.now (after_group s.message.now s.place) (s.left - 1) in
    let more = groups_at_more s.message.now s.place s.left (omega arith) in
    let is = sym c.self.view_is ∙ sym c.loop-self.invariant.rest ∙ more ∙ ap (λ (xs : List Group). xs ++ rest) (sym c.group_at-group.ensures) in
    rw c.after_group-self-inside.ensures (gives_first c.group_at-group.result c.args.self.now rest (search rules) is)

pub returns-then-is_some-clause-goes : goal.returns-then-is_some-clause-goes
returns-then-is_some-clause-goes c =
    let s = c.loop-self.self-inside in
    let rest : List Group = groups_at s.message.now (after_group s.message.now s.place) (s.left - 1) in
    let more = groups_at_more s.message.now s.place s.left (omega arith) in
    let is = sym c.self.view_is ∙ sym c.loop-self.invariant.rest ∙ more ∙ ap (λ (xs : List Group). xs ++ rest) (sym c.group_at-group.ensures) in
    let shorter = is_shorter c.group_at-group.result c.args.self.now rest (search rules) is in
    rw c.after_group-self-inside.ensures (search (rules, shorter))

pub loop-self-preserved : goal.loop-self-preserved
loop-self-preserved c =
    let s = c.loop-self.self-inside in
    let rest : List Group = groups_at s.message.now (after_group s.message.now s.place) (s.left - 1) in
    let more = groups_at_more s.message.now s.place s.left (omega arith) in
    let is = more ∙ ap (λ (xs : List Group). xs ++ rest) (sym c.group_at-group.ensures) in
    record {
      there = has_others s.message.now s.place s.left _ _ (omega arith) c.after_group-self-inside.ensures (omega arith) c.loop-self.invariant.there;
      rest = rw c.after_group-self-inside.ensures (gives_none c.group_at-group.result (groups_at s.message.now s.place s.left) rest (search rules) is ∙ c.loop-self.invariant.rest);
    }

pub returns-clause-steps : goal.returns-clause-steps
returns-clause-steps c =
    let s = c.loop-self.self-inside in
    let none : s.left ≡ 0 = omega arith in
    let empty = ap (λ (n : ℕ). groups_at s.message.now s.place n) none ∙ groups_at_none s.message.now s.place in
    (sym c.self.view_is ∙ sym c.loop-self.invariant.rest ∙ empty, empty)
