use Rattle.std.{proofs.Common.{◌≡◌, ℕ, ◌<◌, true, false, lt-ltb, refl, sym, ◌∙◌}}
use Rattle.pim_ifset.{specs.Members.{Members, has}}
use Rattle.pim_model.{specs.Sets.{Set, spt_bit}}
use Rattle.pim_state.{specs.Shown.Shows}
use Rattle.pim_data.proofs.list.is_on_list.Goals as goal

shown_below : (set : Members) (test : Set) (i : ℕ) → Shows set test → i < 120 → has set i ≡ test i
shown_below set test i shows below = let small = lt-ltb i 120 below in shows i ∙ rw small refl

pub returns-then-sight : goal.returns-then-sight
returns-then-sight c s h =
    let spt : spt_bit s c.args.sight.now.star.group.bits c.args.sight.now.source.bits ≡ true =
    sym h.spt ∙ c.if-sight.true in
    rw spt (c.contains.ensures
    ∙ shown_below c.inherited_olist.result _ c.args.iface.number (c.inherited_olist.ensures.interfaces s h) c.requires)

pub returns-else-sight : goal.returns-else-sight
returns-else-sight c s h =
    let spt : spt_bit s c.args.sight.now.star.group.bits c.args.sight.now.source.bits ≡ false =
    sym h.spt ∙ c.if-sight.false in
    rw spt (c.contains-else-sight.ensures
    ∙ shown_below c.inherited_olist_rpt.result _ c.args.iface.number (c.inherited_olist_rpt.ensures s h) c.requires)
