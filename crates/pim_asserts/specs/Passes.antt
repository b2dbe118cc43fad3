-- What is cleared in a pass over what was opened.
use Rattle.std.{specs.Prelude.{List, ℕ}}
use Rattle.pim_model.{specs.{Messages.Message, State.State}}
use Rattle.pim_views.{specs.declared.opening.{GroupOpening.GroupOpening, SourceOpening.SourceOpening}}
use Rattle.pim_asserts.{specs.{declared.clearing.Pass.Pass, Opened.{clear_asserts, clear_bit, clear_bits, clear_source}}}

-- of a source
abbrev pub source_pass : Pass → ℕ → State → SourceOpening → State × List Message
source_pass Pass.Asserts = clear_source
source_pass Pass.Bits = clear_bit

-- of a group
abbrev pub group_pass : Pass → State → GroupOpening → State × List Message
group_pass Pass.Asserts = clear_asserts
group_pass Pass.Bits = clear_bits
