-- Which answers need no memory: a call that gives one of them can't fail for want of it.
use Rattle.std.{specs.Prelude.{Bool, Err, Ok, Result, false, nat_le, true, ℕ, ◌&&◌, ◌||◌}}
use Rattle.pim_ip.{specs.{Refusal.refusal_number, declared.refusal.Refusal.Refusal}}
use Rattle.pim_types.{specs.declared.outcome.Verdict.Verdict}

-- a number is from a first one to a last one
abbrev pub is_from_to : ℕ → ℕ → ℕ → Bool
is_from_to first last n = nat_le first n && nat_le n last

-- a refusal for the bytes of a packet, for a timestamp or for an interface
abbrev pub is_early : Refusal → Bool
is_early refusal = is_from_to 1 9 (refusal_number refusal) || is_from_to 20 23 (refusal_number refusal)

-- an answer of tests that take no memory
abbrev pub needs_no_memory : Result Verdict Refusal → Bool
needs_no_memory (Ok Verdict.Done) = false
needs_no_memory (Ok (Verdict.Ignored reason)) = true
needs_no_memory (Err refusal) = is_early refusal
