use Rattle.std.{proofs.{Common.{◌≡◌, ◌≤◌, ap, arith, false, length, nat_lt, rules, sym, ◌∙◌}, lemmas.Grind.common_steps}, specs.Option.option_map_or}
use Rattle.pim_model.{specs.{Sets.{assert_star, is_loser, is_winner, joins_star}, State.{InterfaceTable, iface_count, is_own}, Tables.{has_row, row_at}, Unicast.rpf_interface_rp}}
use Rattle.pim_store.{specs.PimTables.PimTables}
use Rattle.pim_types.{specs.Keys.star_key}
use Rattle.pim_macros.{proofs.{Asserted.shown_of_all, Emptiness.below_limit}}
use Rattle.pim_macros.proofs.sight.StarSight.of.Goals as goal

pub returns-clause-sight : goal.returns-clause-sight
unfolding joins_star rpf_interface_rp
returns-clause-sight c =
    let s = c.args.world.now in
    let g = c.args.group.bits in
    let marks = c.marks-marks.ensures in
    let rows = ap (λ (f : PimTables). f.downstream) c.store.ensures in
    let asserts = ap (λ (f : PimTables). f.asserts) c.store.ensures in
    let count : c.count.result ≡ iface_count s =
    c.count.ensures.count ∙ ap (λ (t : InterfaceTable). length t.configured.interfaces) c.interfaces.ensures in
    let few : iface_count s ≤ 120 = omega (arith, count, c.count.ensures.within) in
    record {
      rp = search rules;
      rp_path = search rules;
      next_hop = search rules;
      winner = grind (arith, common_steps);
      joined = shown_of_all _ _ (joins_star s g) (λ i. marks.joined i ∙ ap (λ t. has_row t (star_key i g)) rows)
          c.without_tunnel.ensures.limit;
      lost = shown_of_all _ _ (λ i. is_loser (assert_star s g i))
          (λ i. marks.lost i ∙ ap (λ t. is_loser (row_at t (star_key i g))) asserts) c.without_tunnel-2.ensures.limit;
      won = shown_of_all _ _ (λ i. is_winner (assert_star s g i))
          (λ i. marks.won i ∙ ap (λ t. is_winner (row_at t (star_key i g))) asserts) c.without_tunnel-3.ensures.limit;
      receivers = c.receivers.ensures;
      dr = c.dr.ensures;
      configured = λ i.
          c.below.ensures.interfaces i ∙ ap (nat_lt i) count ∙ below_limit i (iface_count s) few;
      bare = c.below.ensures.tunnel;
      few = few;
      is_own_rp = c.is_own.ensures ∙ ap (λ o. option_map_or (is_own s) o false) c.rp-rp.ensures.value;
      short = rw (sym c.rp_route-rp_path.ensures) at (c.proof_short_preferences.ensures.group g);
    }
