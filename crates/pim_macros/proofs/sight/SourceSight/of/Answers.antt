use Rattle.std.{proofs.{Common.{ap, arith, rules, sym, ◌∙◌}, lemmas.Grind.common_steps}}
use Rattle.pim_model.{specs.{Sets.{assert_source, is_kept_alive, is_loser, is_winner, joins, prunes, spt_bit, tunnel}, Tables.{has_row, row_at}, Unicast.{rpf_interface, rpf_interface_rp}}}
use Rattle.pim_store.{specs.PimTables.{PimTables, is_prune}}
use Rattle.pim_types.{specs.Keys.{rpt_key, source_key}}
use Rattle.pim_macros.{proofs.Asserted.{asserted_where_either, shown_of_all}}
use Rattle.pim_macros.proofs.sight.SourceSight.of.Goals as goal

pub beaten-requires-clause-asserted : goal.beaten-requires-clause-asserted
unfolding has_row
beaten-requires-clause-asserted c =
    let g = c.args.star.group.bits in
    let src = c.args.source.bits in
    let marks = c.marks-marks.ensures in
    let asserts = ap (λ (f : PimTables). f.asserts) c.store.ensures in
    asserted_where_either _ _ _ (assert_source c.args.world.now g src)
    (λ i. marks.lost i ∙ ap (λ t. is_loser (row_at t (source_key i g src))) asserts)
    (λ i. marks.won i ∙ ap (λ t. is_winner (row_at t (source_key i g src))) asserts) c.union-asserted.ensures.interfaces

pub returns-clause-sight : goal.returns-clause-sight
unfolding joins prunes rpf_interface rpf_interface_rp spt_bit is_kept_alive tunnel
returns-clause-sight c =
    let s = c.args.world.now in
    let g = c.args.star.group.bits in
    let src = c.args.source.bits in
    let marks = c.marks-marks.ensures in
    let rows = ap (λ (f : PimTables). f.downstream) c.store.ensures in
    let asserts = ap (λ (f : PimTables). f.asserts) c.store.ensures in
    record {
      star = c.requires;
      path = search rules;
      next_hop = search rules;
      winner = grind (arith, common_steps);
      tree_winner = grind (arith, common_steps);
      joined = shown_of_all _ _ (joins s g src) (λ i. marks.joined i ∙ ap (λ t. has_row t (source_key i g src)) rows)
          c.without_tunnel.ensures.limit;
      pruned = shown_of_all _ _ (prunes s g src)
          (λ i. marks.pruned i ∙ ap (λ t. is_prune (row_at t (rpt_key i g src))) rows) c.without_tunnel-2.ensures.limit;
      lost = shown_of_all _ _ (λ i. is_loser (assert_source s g src i))
          (λ i. marks.lost i ∙ ap (λ t. is_loser (row_at t (source_key i g src))) asserts)
          c.without_tunnel-3.ensures.limit;
      won = shown_of_all _ _ (λ i. is_winner (assert_source s g src i))
          (λ i. marks.won i ∙ ap (λ t. is_winner (row_at t (source_key i g src))) asserts)
          c.without_tunnel-4.ensures.limit;
      beaten = c.beaten.ensures;
      included = c.receivers_of-hosts.ensures.included;
      excluded = c.receivers_of-hosts.ensures.excluded;
      spt = grind (arith, common_steps);
      is_kept_alive = grind (arith, common_steps);
      tunnel = grind (arith, common_steps);
      is_own = search rules;
      is_dr = search rules;
      is_spt_wanted = search rules;
      short = rw (sym c.route-path.ensures) at (c.proof_short_preferences.ensures.source src);
    }
