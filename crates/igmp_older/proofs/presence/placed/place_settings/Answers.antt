use Rattle.std.{proofs.{Common.{◌∙◌, ◌++◌, ◌∷◌, [], ap, arith, map, sym}, lemmas.List.FromFn.map-range_with_len_more}, specs.List.range_with_len}
use Rattle.igmp_older.{specs.Placed.setting_placed}
use Rattle.igmp_older.proofs.presence.placed.place_settings.Goals as goal

pub loop-number-preserved : goal.loop-number-preserved
loop-number-preserved g c =
    let made = setting_placed c.args.places.now c.args.unset c.args.settings.now.items in
    let before = map made (range_with_len 0 c.loop-number.number) in
    let given = ap (λ xs. setting_placed c.args.places.now c.args.unset xs c.loop-number.number) c.as_slice.ensures.value in
    c.in_ok-push.ensures.items
    ∙ (ap (λ xs. xs ++ c.setting_placed.result ∷ []) c.loop-number.invariant
    ∙ (ap (λ x. before ++ x ∷ []) (c.setting_placed.ensures ∙ given)
    ∙ sym (map-range_with_len_more made 0 c.loop-number.number c.loop-number.number (omega arith))))
