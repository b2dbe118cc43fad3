-- What tests that are joined say of each of them.
use Rattle.std.{proofs.Common.{◌≡◌, ◌&&◌, ◌||◌, Bool, true, false, not, arith}}

pub record Two (a b : Bool) : Type 0 where
  pub first : a ≡ false
  pub second : b ≡ false

pub neither : (a b : Bool) → (a || b) ≡ false → Two a b
neither a b e = grind arith

pub record Four (a b c d : Bool) : Type 0 where
  pub first : a ≡ false
  pub second : b ≡ false
  pub third : c ≡ false
  pub fourth : d ≡ false

pub none_of_four : (a b c d : Bool) → (a || b || c || d) ≡ false → Four a b c d
none_of_four a b c d e = grind arith

pub is_true : (a : Bool) → not a ≡ false → a ≡ true
is_true a e = grind arith

pub is_false : (b : Bool) → not b ≡ true → b ≡ false
is_false b e = grind arith

-- a test that comes with another's failing may only fail the more
pub less_set : (a b c : Bool) → (a && not c) ≡ false → (a ≡ false → b ≡ false) → (b && not c) ≡ false
less_set a b c e f = grind arith
