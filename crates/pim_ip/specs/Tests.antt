-- Readings as tests in their order: the first test that fails names the refusal.
use Rattle.std.{specs.Prelude.{Bool, true, false, Result, Ok, Err}}
use Rattle.pim_ip.{specs.declared.refusal.Refusal.Refusal}

-- go on where the test holds, else the refusal
abbrev pub expect : Bool → Refusal → Result (Unit {0}) Refusal
expect true refusal = Ok tt
expect false refusal = Err refusal

-- what follows, where the test before it held
infixr 20 ◌>>◌
-- two tests in their order: the second counts where the first holds
abbrev pub ◌>>◌ : {A : Type 0} → Result (Unit {0}) Refusal → Result A Refusal → Result A Refusal
◌>>◌ (Ok held) next = next
◌>>◌ (Err refusal) next = Err refusal
