-- A table that is there.
use Rattle.std.{proofs.Common.{◌≡◌, IsSome, Option, None, Some, refl}, specs.Option.option_map}

module _ {X Y : Type 0} (f : X → Y) where
  pub is_there : (table : Option X) (y : Y) → option_map f table ≡ Some y → IsSome table
  is_there None y is = cc is
  is_there (Some x) y is = refl

  pub holds : (table : Option X) (x : X) (y : Y) → option_map f table ≡ Some y → table ≡ Some x → f x ≡ y
  holds None x y is there = cc there
  holds (Some z) x y is there = cc (is, there)
