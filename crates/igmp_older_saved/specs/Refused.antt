-- The numbers of what is refused.
use Rattle.std.{specs.Prelude.ℕ}
use Rattle.pim_worlds.{specs.Refused.restore_refusal_number}
use Rattle.igmp_older_saved.{specs.declared.refusal.HeldRefusal.HeldRefusal}

-- the number under which a refusal of bytes is told
unfoldable pub held_refusal_number : HeldRefusal → ℕ
held_refusal_number (HeldRefusal.Router refusal) = restore_refusal_number refusal
held_refusal_number HeldRefusal.HostsNotHeld = 71
