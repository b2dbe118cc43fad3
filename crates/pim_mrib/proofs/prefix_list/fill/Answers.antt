use Rattle.std.{proofs.Common.{◌≡◌, ℕ, ◌+◌, ◌-◌, true, is_some, None, sym, subst, arith}, specs.{Map.lookup, BTreeMap.is_at}}
use Rattle.pim_trie.{specs.Entries.prefix_cmp}
use Rattle.pim_mrib.{proofs.Filled.{HasFrom, found_false, found_true, has_more, has_none, has_two}}
use Rattle.pim_mrib.proofs.prefix_list.fill.Goals as goal

pub loop-left-init : goal.loop-left-init
loop-left-init g c = rw c.requires.empty (has_none g.T.Prefixed.prefix_of c.args.values.now)

pub returns-then-is_some-clause-distinct : goal.returns-then-is_some-clause-distinct
returns-then-is_some-clause-distinct g c =
    let place : ℕ = c.loop-left.left - 1 in
    let before : HasFrom g.T.Prefixed.prefix_of c.args.values.now (place + 1) c.loop-left.index =
    subst (λ (n : ℕ). HasFrom g.T.Prefixed.prefix_of c.args.values.now n c.loop-left.index)
    (omega arith) c.loop-left.invariant in
    let found : is_some (lookup (is_at (prefix_cmp c.prefix.result)) c.loop-left.index) ≡ true =
    found_true c.in_ok-insert.field-0 _ c.is_some.result c.is_some.ensures c.if-is_some.true
    c.in_ok-insert.ensures.replaced in
    sym (has_two g.T.Prefixed.prefix_of c.args.values.now place c.index-values-left.result c.loop-left.index
    (omega (arith, c.loop-left.invariant.within)) c.index-values-left.is before (rw c.prefix.ensures at found))

pub loop-left-preserved : goal.loop-left-preserved
loop-left-preserved g c =
    let place : ℕ = c.loop-left.left - 1 in
    let before : HasFrom g.T.Prefixed.prefix_of c.args.values.now (place + 1) c.loop-left.index =
    subst (λ (n : ℕ). HasFrom g.T.Prefixed.prefix_of c.args.values.now n c.loop-left.index)
    (omega arith) c.loop-left.invariant in
    let absent : lookup (is_at (prefix_cmp c.prefix.result)) c.loop-left.index ≡ None =
    found_false c.in_ok-insert.field-0 _ c.is_some.result c.is_some.ensures c.if-is_some.false
    c.in_ok-insert.ensures.replaced in
    rw (c.in_ok-insert.ensures.ok, c.prefix.ensures)
    (has_more g.T.Prefixed.prefix_of c.args.values.now place c.index-values-left.result c.loop-left.index
    c.requires.canonical
    (omega (arith, c.loop-left.invariant.within)) c.index-values-left.is before (rw c.prefix.ensures at absent))
