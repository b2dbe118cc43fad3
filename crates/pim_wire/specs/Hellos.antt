-- Hello (RFC 7761, section 4.9.2): type 0, options to the end of the message.
use Rattle.std.{specs.Prelude.{ℕ, zero, suc, ◌+◌, ◌%◌, Bool, true, false, ◌||◌, ◌==◌, nat_le, if◌then◌else◌, List, ◌++◌, length, Some, None, Result, Ok}}
use Rattle.byteorder.{specs.Endian.{big_from, big_bytes}}
use Rattle.pim_ip.{specs.{declared.{lan.LanDelay.LanDelay, refusal.Refusal.{Refusal, TheVariants.BadLength}}, Tests.{expect, ◌>>◌}}}
use Rattle.pim_wire.{specs.{declared.hello.Hello.Hello, Encoded.{field_test, pim_text}}}

-- An option at place p: type, length, value.
abbrev pub option_type : List ℕ → ℕ → ℕ
option_type b p = big_from p 2 b

-- the length of the option at a place, in bytes
abbrev pub option_length : List ℕ → ℕ → ℕ
option_length b p = big_from (p + 2) 2 b

-- the type of the option Holdtime (RFC 7761, section 4.9.2)
abbrev pub holdtime_option : ℕ
holdtime_option = 1

-- the type of the option LAN Prune Delay (RFC 7761, section 4.9.2)
abbrev pub lan_delay_option : ℕ
lan_delay_option = 2

-- the type of the option DR Priority (RFC 7761, section 4.9.2)
abbrev pub priority_option : ℕ
priority_option = 19

-- the type of the option Generation ID (RFC 7761, section 4.9.2)
abbrev pub generation_option : ℕ
generation_option = 20

-- An option of a known type has the one length that its type may have.
unfoldable pub is_option_length : ℕ → ℕ → Bool
is_option_length type len =
    if type == holdtime_option then len == 2
    else (if (type == lan_delay_option) || (type == priority_option) || (type == generation_option) then len == 4
    else true)

-- the tests of the option at place p
unfoldable pub option_test : List ℕ → ℕ → Result (Unit {0}) Refusal
option_test b p =
    field_test b p 4
    >> expect (is_option_length (option_type b p) (option_length b p)) BadLength
    >> field_test b (p + 4) (option_length b p)

-- The tests of the options from place p on; there are at most `most` of them.
unfoldable pub options_test : List ℕ → ℕ → ℕ → Result (Unit {0}) Refusal
options_test b p zero = Ok tt
options_test b p (suc most) =
    let later : Result (Unit {0}) Refusal = options_test b (p + 4 + option_length b p) most in
    elim (nat_le (length b) p) [ true ↦ Ok tt | false ↦ option_test b p >> later ]

unfoldable pub lan_delay_at : List ℕ → ℕ → LanDelay
lan_delay_at b p = record {
  can_track = nat_le 0x8000 (big_from p 2 b);
  propagation_delay = big_from p 2 b % 0x8000;
  override_interval = big_from (p + 2) 2 b;
}

-- A Hello with the option at place p stored; unknown options are skipped.
unfoldable pub with_option : List ℕ → ℕ → Hello → Hello
with_option b p hello =
    if option_type b p == holdtime_option then record hello { holdtime = Some (big_from (p + 4) 2 b) }
    else (if option_type b p == lan_delay_option then record hello { lan_delay = Some (lan_delay_at b (p + 4)) }
    else (if option_type b p == priority_option then record hello { priority = Some (big_from (p + 4) 4 b) }
    else (if option_type b p == generation_option then record hello { generation = Some (big_from (p + 4) 4 b) }
    else hello)))

-- A Hello with the options from place p on stored one after the other, so that the last of a kind counts.
unfoldable pub with_options : List ℕ → ℕ → ℕ → Hello → Hello
with_options b p zero hello = hello
with_options b p (suc most) hello =
    let later : Hello = with_options b (p + 4 + option_length b p) most (with_option b p hello) in
    elim (nat_le (length b) p) [ true ↦ hello | false ↦ later ]

-- the content of a Hello without options
abbrev pub no_options : Hello
no_options = record { holdtime = None; lan_delay = None; priority = None; generation = None }

-- The tests of a Hello: those of each option, up to its end.
unfoldable pub hello_test : List ℕ → Result (Unit {0}) Refusal
hello_test b = options_test b 4 (length b)

-- The content of a Hello: its options, the last of each type.
unfoldable pub hello_of : List ℕ → Hello
hello_of b = with_options b 4 (length b) no_options

-- The holdtime that the router announces, in seconds.
abbrev pub hello_holdtime : ℕ
hello_holdtime = 105

-- The bytes of an option of a Hello: its type, its length, its value.
abbrev pub option_text : ℕ → List ℕ → List ℕ
option_text type value = big_bytes 2 type ++ big_bytes 2 (length value) ++ value

-- The bytes of the Hello that the router sends: its propagation delay and override interval in ms, with T clear, its DR
-- priority and its generation ID.
unfoldable pub hello_text : ℕ → ℕ → ℕ → ℕ → List ℕ
hello_text propagation_delay override_interval priority generation =
    pim_text 0
    (option_text holdtime_option (big_bytes 2 hello_holdtime)
    ++ option_text lan_delay_option (big_bytes 2 propagation_delay ++ big_bytes 2 override_interval)
    ++ option_text priority_option (big_bytes 4 priority)
    ++ option_text generation_option (big_bytes 4 generation))
