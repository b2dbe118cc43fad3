-- The numbers of what is refused.
use Rattle.std.{specs.Prelude.ℕ}
use Rattle.pim_saved.{specs.Refused.saved_refusal_number}
use Rattle.pim_bsr.{specs.declared.refusal.ListenerRefusal.ListenerRefusal}

-- the number under which a refusal of bytes is told
unfoldable pub listener_refusal_number : ListenerRefusal → ℕ
listener_refusal_number (ListenerRefusal.Bytes refusal) = saved_refusal_number refusal
listener_refusal_number ListenerRefusal.RpsNotHeld = 75
