use Rattle.std.{proofs.Common.{◌∙◌, ◌++◌, ap, sym, List, ℕ}}
use Rattle.igmp_older_saved.{proofs.Opening.{with_none, with_some}}
use Rattle.igmp_older_saved.proofs.writing.write_saved.Goals as goal

pub returns-then-is_empty-clause-ok : goal.returns-then-is_empty-clause-ok
returns-then-is_empty-clause-ok c =
    c.in_ok-extend_from_slice.ensures.items
    ∙ ap (λ (l : List ℕ). c.args.out.now.items ++ l)
    (sym (with_none c.args.hosts.now c.args.router.now c.is_empty.result c.is_empty.ensures c.if-is_empty.true))

pub returns-clause-ok : goal.returns-clause-ok
returns-clause-ok c =
    c.in_ok-append.ensures.items
    ∙ ap (λ (l : List ℕ). c.args.out.now.items ++ l)
    (c.in_ok-write_all.ensures.ok
    ∙ sym (with_some c.args.hosts.now c.args.router.now c.is_empty.result c.is_empty.ensures c.if-is_empty.false))
