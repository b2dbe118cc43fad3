use Rattle.std.{proofs.Common.{◌∙◌, sym}}
use Rattle.pim_bsr.{specs.Views.known_view, proofs.Restored.sound_of}
use Rattle.pim_bsr.proofs.listener.Listener.of_saved.Goals as goal

pub invariant_of-listener : goal.invariant_of-listener
invariant_of-listener c = sound_of (known_view c.args.known) (sym c.in_ok-is_sound.ensures ∙ c.if-not-branch.false)
