use Rattle.std.{proofs.Common.{◌≡◌, ◌-◌, ◌≤◌, length}}
use Rattle.pim_wire.{specs.Hellos.no_options, proofs.Options.{tests_from, value_from}}
use Rattle.pim_wire.proofs.hello.read_hello.Given as goal

-- the options from the place on decide
abbrev pub invariant-loop-place : goal.invariant-loop-place
invariant-loop-place l = record {
  within : l.place ≤ length l.bytes;
  tests : tests_from l.bytes l.place ≡ tests_from l.bytes 4;
  value : value_from l.bytes l.place l.hello ≡ value_from l.bytes 4 no_options;
}

abbrev pub decreases-loop-place : goal.decreases-loop-place
decreases-loop-place l = length l.bytes - l.place
