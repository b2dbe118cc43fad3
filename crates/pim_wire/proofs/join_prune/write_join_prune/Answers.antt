use Rattle.std.{proofs.Common.{◌≡◌, ℕ, List, ◌++◌, length, ◌∙◌, arith, refl}, specs.List.flat_map}
use Rattle.pim_wire.{specs.{JoinPrunes.entry_text, JoinPruneTexts.join_prune_header_text}, proofs.{JoinPruneLaw.join_prune_reads, Texts.{has_checksum, summed_behind, join_prune_summed}}}
use Rattle.pim_wire.proofs.join_prune.write_join_prune.Goals as goal

pub sum_from-requires : goal.sum_from-requires
sum_from-requires c =
    let a = c.args in
    let room = has_checksum a.upstream.bits a.group.bits (length a.joins.now) (length a.prunes.now) a.out.now.items c.push_join_prune.new.out.items (flat_map entry_text a.joins.now) (flat_map entry_text a.prunes.now) c.in-Ok.ensures.ok in
    omega (arith, c.len-start.ensures, room)

pub returns-in-Ok-clause-ok : goal.returns-in-Ok-clause-ok
returns-in-Ok-clause-ok c =
    let a = c.args in
    let start : c.len-start.result ≡ length a.out.now.items = omega (arith, c.len-start.ensures) in
    let text : List ℕ = join_prune_header_text a.upstream.bits a.group.bits (length a.joins.now) (length a.prunes.now) ++ flat_map entry_text a.joins.now ++ flat_map entry_text a.prunes.now in
    summed_behind a.out.now.items text c.push_join_prune.new.out.items c.sum_from.new.out.items c.len-start.result c.in-Ok.ensures.ok start c.sum_from.ensures
    ∙ rw (join_prune_summed a.upstream.bits a.group.bits a.joins.now a.prunes.now text refl) refl

pub returns-in-Ok-clause-reads : goal.returns-in-Ok-clause-reads
returns-in-Ok-clause-reads c = λ group_is join_hosts prune_hosts.
    join_prune_reads c.args.upstream.bits c.args.group.bits c.args.joins.now c.args.prunes.now c.push_join_prune.ensures.in_range group_is c.requires.joins c.requires.prunes join_hosts prune_hosts

pub returns-in-Err-clause-reads : goal.returns-in-Err-clause-reads
returns-in-Err-clause-reads c = λ group_is join_hosts prune_hosts.
    join_prune_reads c.args.upstream.bits c.args.group.bits c.args.joins.now c.args.prunes.now c.push_join_prune.ensures.in_range group_is c.requires.joins c.requires.prunes join_hosts prune_hosts
