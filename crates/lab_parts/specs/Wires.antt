-- The failures of a wire.
use Rattle.std.{specs.Prelude.{Err, Ok, Result, min, ℕ, ⊤, ◌+◌, ◌<◌, ◌≡◌, ◌⊎◌}}
use Rattle.pim_ip.{specs.declared.fault.Fault.Fault}

-- the count at which a wire stops counting
abbrev pub most_failures : ℕ
most_failures = 18446744073709551615

-- The count of failures after a call with this result.
abbrev pub failures_after : {A : Type 0} → ℕ → Result A Fault → ℕ
failures_after before (Ok x) = before
failures_after before (Err Fault.Memory) = before
failures_after before (Err Fault.Failed) = before
failures_after before (Err Fault.Wire) = min (before + 1) most_failures

-- A failure was counted, unless the count had reached its end.
abbrev pub HasRisen : ℕ → ℕ → Type 0
HasRisen before after = (before < after) ⊎ (before ≡ most_failures)

-- a fault of a call over a wire with these counts before and after it
abbrev pub IsFaultOver : ℕ → ℕ → Fault → Type 0
IsFaultOver before after Fault.Memory = ⊤
IsFaultOver before after Fault.Failed = ⊥
IsFaultOver before after Fault.Wire = HasRisen before after

-- a fault that a call over a wire may have
abbrev pub IsWireOrMemory : Fault → Type 0
IsWireOrMemory fault = (fault ≡ Fault.Memory) ⊎ (fault ≡ Fault.Wire)
