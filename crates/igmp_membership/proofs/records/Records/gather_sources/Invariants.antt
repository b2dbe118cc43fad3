use Rattle.std.{proofs.Common.{◌≡◌, ◌||◌, ℕ}, specs.List.AllByRecursion}
use Rattle.igmp_membership.{proofs.Walked.{Shows, any_listed, has_any}, specs.Sources.has_number}
use Rattle.igmp_membership.proofs.records.Records.gather_sources.Given as goal

abbrev pub invariant-loop-key : goal.invariant-loop-key
invariant-loop-key g l = record {
  found : (n : ℕ)
      → (has_number n l.found.entries || any_listed l.fn.group.bits n l.self l.key-iterator)
      ≡ (has_number n l.fn.found.entries || has_any l.fn.group.bits n l.self);
  shown : AllByRecursion (Shows l.fn.group.bits l.self) l.key-iterator;
}
