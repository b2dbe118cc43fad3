-- What is reported of a run that ends early.
use Rattle.pim_scenario.{specs.declared.complaint.Complaint.Complaint}
use Rattle.lab_parts.{specs.declared.trouble.Trouble.Trouble}

-- The line by which a trouble is reported.
abbrev pub complaint_of : Trouble → Complaint
complaint_of (Trouble.Refused refusal) = Complaint.Scenario refusal
complaint_of (Trouble.Fault fault) = Complaint.Fault fault
