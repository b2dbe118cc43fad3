-- What each test in a judgement leaves of what was accepted.
use Rattle.std.{proofs.Common.{◌≡◌, Bool, true, false, Result, Ok, Err, refl}, specs.Prelude.if◌then◌else◌}
use Rattle.pim_ip.{specs.declared.refusal.Refusal.Refusal}
use Rattle.pim_types.{specs.declared.outcome.Ignored.Ignored}
use Rattle.pim_model.{specs.{declared.accepted.Accepted.Accepted, Judging.{Judged, ignore_if, of_read, refuse_if, ◌>>◌}}}

abbrev pub Says : (Accepted → Type 0) → Judged → Type 0
Says P (Ok a) = P a
Says P (Err stop) = Unit {0}

pub record FitsTo (P : Accepted → Type 0) (j : Judged) : Type 0 where
  pub says : Says P j

module _ {P : Accepted → Type 0} where
  pub ignoring : (b : Bool) (reason : Ignored) (next : Judged) → FitsTo P next → FitsTo P (ignore_if b reason >> next)
  ignoring true reason next f = record { says = tt }
  ignoring false reason next f = f

  -- what the test showed holds of what comes next
  pub refusing : (b : Bool) (refusal : Refusal) (next : Judged) → (b ≡ false → FitsTo P next)
      → FitsTo P (refuse_if b refusal >> next)
  refusing true refusal next f = record { says = tt }
  refusing false refusal next f = f refl

  pub reading : {A : Type 0} (r : Result A Refusal) (next : A → Judged) → ((a : A) → FitsTo P (next a))
      → FitsTo P (of_read r next)
  reading (Ok a) next f = f a
  reading (Err refusal) next f = record { says = tt }

  pub choosing : (b : Bool) (x y : Judged) → FitsTo P x → FitsTo P y → FitsTo P (if b then x else y)
  choosing true x y f g = f
  choosing false x y f g = g

  pub two : (a b : Bool) (first second : Ignored) (next : Judged) → FitsTo P next
      → FitsTo P (ignore_if a first >> ignore_if b second >> next)
  two a b first second next f = ignoring a first (ignore_if b second >> next) (ignoring b second next f)

  pub three : (a b c : Bool) (first second third : Ignored) (next : Judged) → FitsTo P next
      → FitsTo P (ignore_if a first >> ignore_if b second >> ignore_if c third >> next)
  three a b c first second third next f =
      ignoring a first (ignore_if b second >> ignore_if c third >> next) (two b c second third next f)
