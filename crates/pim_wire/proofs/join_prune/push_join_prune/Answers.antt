use Rattle.std.{proofs.{Common.{rules, append_assoc}, lemmas.Result.IfOk-equal}}
use Rattle.pim_wire.{proofs.Texts.{kept_more, kept_first}}
use Rattle.pim_wire.proofs.join_prune.push_join_prune.Goals as goal

pub returns-clause-ok : goal.returns-clause-ok
returns-clause-ok c = search (rules, IfOk-equal, append_assoc)

pub returns-clause-kept : goal.returns-clause-kept
returns-clause-kept c =
    let old = c.args.out.now.items in
    let with_joins = c.push_entries.new.out.items in
    let header = kept_first old c.extend_from_slice.new.self.items c.header_bytes-header.result c.in_ok-extend_from_slice.ensures.items in
    let joins = kept_more old c.extend_from_slice.new.self.items with_joins header c.in_ok-push_entries.ensures.kept in
    kept_more old with_joins c.push_entries-2.new.out.items joins c.push_entries-2.ensures.kept
