-- The reading of a PIM message (RFC 7761, section 4.9): tests in their order, then the value.
use Rattle.std.{specs.Prelude.{ℕ, Bool, ◌||◌, not, ◌&&◌, ◌==◌, nat_le, if◌then◌else◌, List, length, take, Result, Ok}}
use Rattle.pim_ip.{specs.{declared.refusal.Refusal.{Refusal, TheVariants.{Short, BadVersion, BadChecksum}}, Tests.{expect, ◌>>◌}, Checksum.sum16}}
use Rattle.pim_wire.{specs.{declared.view.PimView.{PimView, TheVariants.{Hello, Register, RegisterStop, JoinPrune, Assert, Other}}, Encoded.{pim_version_of, pim_type_of}, Hellos.{hello_test, hello_of}, Registers.{register_test, register_of, register_stop_test, register_stop_of}, JoinPrunes.{join_prune_test, join_prune_of}, Asserts.{assert_test, assert_of}}}

-- The message has the type of a Register.
abbrev pub is_register : List ℕ → Bool
is_register b = pim_type_of b == 1

-- The checksum is right over the whole message, or for a Register over its first 8 bytes.
unfoldable pub is_checksum_right : List ℕ → Bool
is_checksum_right b = (sum16 b == 0) || (is_register b && (sum16 (take 8 b) == 0))

-- The reading of the body by the type; types 4, 6 and above aren't read.
unfoldable pub body_reading : ℕ → List ℕ → Result PimView Refusal
body_reading type b =
    if type == 0 then hello_test b >> Ok (Hello (hello_of b))
    else (if type == 1 then register_test b >> Ok (Register (register_of b))
    else (if type == 2 then register_stop_test b >> Ok (RegisterStop (register_stop_of b))
    else (if type == 3 then join_prune_test b >> Ok (JoinPrune (join_prune_of b))
    else (if type == 5 then assert_test b >> Ok (Assert (assert_of b))
    else Ok Other))))

-- What a PIM message says, or the first of its tests that it fails.
unfoldable pub pim_reading : List ℕ → Result PimView Refusal
pim_reading b =
    expect (nat_le 4 (length b)) Short
    >> expect (pim_version_of b == 2) BadVersion
    >> expect (not (is_register b) || nat_le 8 (length b)) Short
    >> expect (is_checksum_right b) BadChecksum
    >> body_reading (pim_type_of b) b
