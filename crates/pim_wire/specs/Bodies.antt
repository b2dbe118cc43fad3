-- The reading of each message's body: its tests, then its value.
use Rattle.std.{specs.Prelude.{ℕ, List, Result, Ok}}
use Rattle.pim_ip.{specs.{declared.refusal.Refusal.Refusal, Tests.◌>>◌, Ipv4.{Packet, packet_of}}}
use Rattle.pim_wire.{specs.{declared.{assert.Assert.Assert, hello.Hello.Hello, register.RegisterStop.RegisterStop}, Values.{JoinPrune, Register}, Hellos.{hello_test, hello_of}, Registers.{inner_test, register_test, register_of, register_stop_test, register_stop_of}, JoinPrunes.{join_prune_test, join_prune_of}, Asserts.{assert_test, assert_of}}}

abbrev pub hello_reading : List ℕ → Result Hello Refusal
hello_reading b = hello_test b >> Ok (hello_of b)

-- the packet in a Register
abbrev pub inner_reading : List ℕ → Result Packet Refusal
inner_reading i = inner_test i >> Ok (packet_of i)

abbrev pub register_reading : List ℕ → Result Register Refusal
register_reading b = register_test b >> Ok (register_of b)

abbrev pub register_stop_reading : List ℕ → Result RegisterStop Refusal
register_stop_reading b = register_stop_test b >> Ok (register_stop_of b)

abbrev pub join_prune_reading : List ℕ → Result JoinPrune Refusal
join_prune_reading b = join_prune_test b >> Ok (join_prune_of b)

abbrev pub assert_reading : List ℕ → Result Assert Refusal
assert_reading b = assert_test b >> Ok (assert_of b)
