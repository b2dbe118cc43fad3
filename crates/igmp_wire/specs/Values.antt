-- The values of a query and of a group record.
use Rattle.std.{specs.Prelude.{ℕ, Bool, List}}
use Rattle.igmp_wire.{specs.declared.report.RecordType.RecordType}

-- A query: group 0 queries all groups, and no sources the whole group.
pub record Query : Type 0 where
  pub max_response_code : ℕ
  pub group : ℕ
  pub suppress : Bool
  pub robustness : ℕ
  pub interval_code : ℕ
  pub sources : List ℕ

-- A group record: its sources in their order, without those that no host can be.
pub record Record : Type 0 where
  pub type : RecordType
  pub group : ℕ
  pub sources : List ℕ
