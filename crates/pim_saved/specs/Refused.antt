-- The numbers by which refusals of bytes are known.
use Rattle.std.{specs.Prelude.ℕ}
use Rattle.pim_saved.{specs.declared.refusal.SavedRefusal.SavedRefusal}

abbrev pub saved_refusal_number : SavedRefusal → ℕ
saved_refusal_number SavedRefusal.NotOurs = 60
saved_refusal_number SavedRefusal.OtherVersion = 61
saved_refusal_number SavedRefusal.CutShort = 62
saved_refusal_number SavedRefusal.OutOfRange = 63
saved_refusal_number SavedRefusal.KeysDontRise = 64
saved_refusal_number SavedRefusal.LeftOver = 65
saved_refusal_number SavedRefusal.Damaged = 69
