use Rattle.std.{proofs.Common.{ap, eqb, length, ◌∙◌}, specs.List.dedup}
use Rattle.smallvec.{proofs.SmallVecLemmas.items-with_items}
use Rattle.pim_model.{specs.Tables.ascending}
use Rattle.pim_filters.{proofs.Orders.dedup_is_ascending}
use Rattle.pim_filters.proofs.names.ascending.Goals as goal

pub returns : goal.returns
returns c =
    let sorted = c.sort_unstable.new.self in
    c.dedup.ensures.items
    ∙ ap (dedup eqb) (items-with_items c.in_ok-names.names sorted (c.sort_unstable.ensures.len ∙ ap length c.as_mut_slice.ensures.value))
    ∙ dedup_is_ascending c.as_mut_slice.result.now sorted c.sort_unstable.ensures.permutation c.sort_unstable.ensures.sorted
    ∙ ap ascending (c.as_mut_slice.ensures.value ∙ c.in_ok-names.ensures)
