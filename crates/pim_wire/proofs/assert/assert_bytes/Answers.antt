use Rattle.std.{proofs.{Common.{◌≡◌, cond, ◌∙◌, refl, arith}, lemmas.Grind.common_steps}}
use Rattle.pim_wire.{specs.{Encoded.pim_text, Asserts.assert_text}}
use Rattle.pim_wire.proofs.assert.assert_bytes.Goals as goal

pub returns : goal.returns
unfolding assert_text pim_text
returns c =
    let bit : c.if-rpt.rpt_bit ≡ cond c.args.rpt 0x8000_0000 0 = grind (arith, common_steps) in
    c.set_checksum.ensures.set
    ∙ rw (c.write_u32-2.ensures, c.write_u32.ensures, c.copy_from_slice-2.ensures.after, c.copy_from_slice.ensures.after, c.unicast_bytes.ensures.value, c.group_bytes.ensures, bit) refl
