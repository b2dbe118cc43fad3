-- The numbers of what is refused.
use Rattle.std.{specs.Prelude.ℕ}
use Rattle.pim_saved.{specs.Refused.saved_refusal_number}
use Rattle.pim_worlds.{specs.declared.refusal.RestoreRefusal.RestoreRefusal}

-- the number under which a refusal of saved bytes is told
unfoldable pub restore_refusal_number : RestoreRefusal → ℕ
restore_refusal_number (RestoreRefusal.Bytes refusal) = saved_refusal_number refusal
restore_refusal_number RestoreRefusal.NotHeld = 66
restore_refusal_number RestoreRefusal.NotSettled = 67
restore_refusal_number RestoreRefusal.NotQuiet = 68
restore_refusal_number RestoreRefusal.NotNear = 72
