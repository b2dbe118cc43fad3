use Rattle.std.{proofs.Common.{◌∙◌, sym}}
use Rattle.pim_worlds.{proofs.RestedTests.all_four}
use Rattle.pim_worlds.proofs.quiet.is_quiet.Goals as goal

pub returns : goal.returns
returns c =
    let asserts = rw (rw c.store-store.ensures at c.assert_rows.ensures.rows) at c.are_asserts_kept.ensures in
    let bits = rw (rw c.store-store.ensures at c.source_rows.ensures) at c.are_bits_kept.ensures in
    let sources = rw (rw c.store-store.ensures at c.source_rows-2.ensures) at c.are_sources_settled.ensures in
    let registers = rw (rw c.store-store.ensures at c.register_rows.ensures) at c.are_registers_settled.ensures in
    sym (all_four _ _ _ _ (sym asserts ∙ c.if-not-are_asserts_kept.false) (sym bits ∙ c.if-not-are_bits_kept.false)
    (sym sources ∙ c.if-not-are_sources_settled.false) (sym registers ∙ c.if-not-are_registers_settled.false))
