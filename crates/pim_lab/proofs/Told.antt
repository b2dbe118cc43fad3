-- What was told with a status.
use Rattle.std.{proofs.Common.{◌≡◌, List, Option, ℕ, inl, inr, arith}, specs.Io.KnownBytes.Appends}
use Rattle.pim_ip.{specs.declared.fault.Fault.Fault}
use Rattle.pim_scenario.{specs.{Complaints.{IsTold, line_of}, declared.complaint.Complaint.Complaint}}
use Rattle.lab_parts.{specs.{Troubles.complaint_of, declared.trouble.Trouble.Trouble}}

no_two : {status : ℕ} → status ≡ 2 → status ≡ 4 → ⊥
no_two two four = omega (arith, two, four)

no_three : {status : ℕ} → status ≡ 3 → status ≡ 4 → ⊥
no_three three four = omega (arith, three, four)

-- status 4 tells want of memory
pub tells_memory : (t : Trouble) (status : ℕ) (old new : Option (List ℕ)) → IsTold (complaint_of t) status old new
    → status ≡ 4 → Appends old new (line_of (Complaint.Fault Fault.Memory))
tells_memory (Trouble.Refused r) status old new (inl told) is = absurd (no_two told.0 is)
tells_memory (Trouble.Refused r) status old new (inr wire) is = absurd (no_three wire is)
tells_memory (Trouble.Fault Fault.Memory) status old new (inl told) is = told.1
tells_memory (Trouble.Fault Fault.Memory) status old new (inr wire) is = absurd (no_three wire is)
tells_memory (Trouble.Fault Fault.Failed) status old new (inl told) is = told.1
tells_memory (Trouble.Fault Fault.Failed) status old new (inr wire) is = absurd (no_three wire is)
tells_memory (Trouble.Fault Fault.Wire) status old new (inl told) is = absurd (no_three told.0 is)
tells_memory (Trouble.Fault Fault.Wire) status old new (inr wire) is = absurd (no_three wire is)
