-- None of the addresses so far is the one.
use Rattle.std.{proofs.Common.{◌≡◌, ◌==◌, drop}, specs.List.list_any}
use Rattle.lab_parts.proofs.frames.is_among.Given as goal

abbrev pub invariant-loop-own : goal.invariant-loop-own
invariant-loop-own l =
    list_any (λ a. a.bits == l.address.bits) (drop l.own-index l.addresses)
    ≡ list_any (λ a. a.bits == l.address.bits) l.addresses
