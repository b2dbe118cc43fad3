-- Two rows are the same but for ends that run in both just where they are cut down alike.
use Rattle.std.{proofs.Common.{◌≡◌, ℕ, Bool, true, false, Option, refl, arith}}
use Rattle.pim_types.{specs.declared.fact.{AssertMetric.AssertMetric, AssertRole.AssertRole, RegisterState.RegisterState}}
use Rattle.pim_model.{specs.{Rows.{same_assert, same_downstream, same_end, same_group_record, same_metric, same_register, same_register_state, same_source, same_source_record}, Tables.same_bool}}
use Rattle.law_events.{specs.Scopes.{only_running, state_without_end}, proofs.{SourceMacros.{cut_kept, cut_kind, cut_register, cut_source}, StarMacros.{cut_assert, cut_group}}}

-- ---- values

pub flags : (a b : Bool) → same_bool a b ≡ true → a ≡ b
flags a b e = grind arith

pub flags_same : (a b : Bool) → a ≡ b → same_bool a b ≡ true
flags_same a b e = grind arith

ends : (a b : Option ℕ) → same_end a b ≡ true → only_running a ≡ only_running b
ends a b e = grind arith

pub metrics : (m n : AssertMetric) → same_metric m n ≡ true → m ≡ n
metrics m n e = grind arith

-- ---- roles

abbrev wins : AssertRole → Bool
wins AssertRole.Winner = true
wins AssertRole.Loser = false

-- ---- each kind of row

-- the test of two rows says that they are cut down alike
pub record IsOfCut {R : Type 0} (same : R → R → Bool) (cut : R → R) : Type 0 where
  pub alike : (a b : R) → same a b ≡ true → cut a ≡ cut b
  pub back : (a b : R) → cut a ≡ cut b → same a b ≡ true

pub of_group_records : IsOfCut same_group_record cut_group
of_group_records = grind arith

pub of_source_records : IsOfCut same_source_record cut_source
of_source_records = grind arith

pub of_downstream : IsOfCut same_downstream cut_kind
of_downstream = grind arith

pub of_asserts : IsOfCut same_assert cut_assert
of_asserts = grind arith

pub of_sources : IsOfCut same_source cut_kept
of_sources = grind arith

states : (a b : RegisterState) → same_register_state a b ≡ true → state_without_end a ≡ state_without_end b
states RegisterState.Join RegisterState.Join e = refl
states RegisterState.Join (RegisterState.JoinPending n) e = cc
states RegisterState.Join (RegisterState.Prune n) e = cc
states (RegisterState.JoinPending m) RegisterState.Join e = cc
states (RegisterState.JoinPending m) (RegisterState.JoinPending n) e = refl
states (RegisterState.JoinPending m) (RegisterState.Prune n) e = cc
states (RegisterState.Prune m) RegisterState.Join e = cc
states (RegisterState.Prune m) (RegisterState.JoinPending n) e = cc
states (RegisterState.Prune m) (RegisterState.Prune n) e = refl

pub of_registers : IsOfCut same_register cut_register
of_registers = grind arith
