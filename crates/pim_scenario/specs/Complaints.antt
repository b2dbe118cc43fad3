-- What is reported where something went wrong.
use Rattle.std.{specs.{Io.KnownBytes.Appends, Prelude.{ℕ, List, Option, ◌++◌, ◌≡◌, ◌⊎◌, codes, decimal}}}
use Rattle.pim_ip.{specs.{Refusal.refusal_number, declared.fault.Fault.{Fault, TheVariants.{Memory, Failed, Wire}}}}
use Rattle.pim_scenario.{specs.declared.complaint.{Complaint.Complaint, ScenarioRefusal.ScenarioRefusal}}
use Rattle.pim_scenario.specs.declared.complaint.Complaint.TheVariants as complaint

-- The number by which the refusal of a scenario is known in printed lines.
abbrev pub scenario_refusal_number : ScenarioRefusal → ℕ
scenario_refusal_number (ScenarioRefusal.Tested refusal) = refusal_number refusal
scenario_refusal_number ScenarioRefusal.RpSets = 74

-- The status with which the program ends after a fault.
abbrev pub fault_status : Fault → ℕ
fault_status Memory = 4
fault_status Failed = 4
fault_status Wire = 3

-- the status with which the program ends
abbrev pub status_of : Complaint → ℕ
status_of complaint.CommandLine = 2
status_of (complaint.File name) = 2
status_of (complaint.Unwritten name) = 3
status_of (complaint.Router name) = 2
status_of (complaint.Scenario refusal) = 2
status_of (complaint.Fault fault) = fault_status fault

-- The line on standard error after a fault.
abbrev pub fault_text : Fault → List ℕ
fault_text Memory = codes "pimlab: no memory"
fault_text Failed = codes "pimlab: no memory"
fault_text Wire = codes "pimlab: wire fault"

-- The line on standard error for a complaint.
abbrev pub complaint_text : Complaint → List ℕ
complaint_text complaint.CommandLine = codes "pimlab: command line refused"
complaint_text (complaint.File name) = codes "pimlab: cannot read " ++ name.now
complaint_text (complaint.Unwritten name) = codes "pimlab: cannot write " ++ name.now
complaint_text (complaint.Router name) = codes "pimlab: no router " ++ name.now
complaint_text (complaint.Scenario refusal) =
    codes "pimlab: scenario refused: " ++ decimal (scenario_refusal_number refusal)
complaint_text (complaint.Fault fault) = fault_text fault

-- The line, with its line break.
abbrev pub line_of : Complaint → List ℕ
line_of c = complaint_text c ++ codes "\n"

-- the writer's bytes grew by the complaint's line, and the status is the complaint's; or the line couldn't be
-- written, as after a fault of the wire
abbrev pub IsTold : Complaint → ℕ → Option (List ℕ) → Option (List ℕ) → Type 0
IsTold c status old new = ((status ≡ status_of c) × Appends old new (line_of c)) ⊎ (status ≡ fault_status Wire)
