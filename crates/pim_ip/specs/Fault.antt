-- The numbers by which faults are known.
use Rattle.std.{specs.Prelude.ℕ}
use Rattle.pim_ip.{specs.declared.fault.Fault.{Fault, TheVariants.{Memory, Failed, Wire}}}

-- the number under which a fault is printed and told to C
abbrev pub fault_number : Fault → ℕ
fault_number Memory = 40
fault_number Failed = 41
fault_number Wire = 42
