use Rattle.std.{proofs.Common.{◌∙◌, refl}}
use Rattle.pim_wire.{specs.{Encoded.pim_text, Registers.register_stop_text}}
use Rattle.pim_wire.proofs.register.register_stop_bytes.Goals as goal

pub returns-clause-value : goal.returns-clause-value
unfolding register_stop_text pim_text
returns-clause-value c = c.set_checksum.ensures.set ∙ rw (c.copy_from_slice-2.ensures.after, c.copy_from_slice.ensures.after, c.unicast_bytes.ensures.value, c.group_bytes.ensures) refl
