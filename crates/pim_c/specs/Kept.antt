-- What stands behind a pointer where something does. Assumes nothing: this is a definition.
use Rattle.std.{specs.Prelude.{Option, None, Some}}
use base.{Fml.{Fml, ftrue}}

abbrev pub kept : {A : Type 0} → (A → Fml) → Option A → Fml
kept owned there = elim there as (λ _. Fml) [ None ↦ ftrue | Some value ↦ owned value ]
