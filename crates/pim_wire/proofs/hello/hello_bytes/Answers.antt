use Rattle.std.{proofs.Common.{◌∙◌, refl}}
use Rattle.pim_wire.{specs.{Encoded.pim_text, Hellos.hello_text}}
use Rattle.pim_wire.proofs.hello.hello_bytes.Goals as goal

pub returns : goal.returns
unfolding hello_text pim_text
returns c =
    c.set_checksum.ensures.set
    ∙ rw (c.copy_from_slice-4.ensures.after, c.number_bytes-2.ensures, c.copy_from_slice-3.ensures.after, c.number_bytes.ensures, c.copy_from_slice-2.ensures.after, c.lan_delay_bytes.ensures, c.write_u16.ensures, c.copy_from_slice.ensures.after) refl
