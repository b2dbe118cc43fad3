-- Tests that pass one after the other.
use Rattle.std.{proofs.Common.{◌≡◌, ◌&&◌, Bool, true, false, refl, Option, Some, None}, specs.Prelude.is_some}

-- ten tests, of which nine passed
pub ten_tests : (a b c d e f g h i j r : Bool) → a ≡ true → b ≡ true → c ≡ true → d ≡ true → e ≡ true → f ≡ true → g ≡ true
    → h ≡ true → i ≡ true → r ≡ j → r ≡ (a && (b && (c && (d && (e && (f && (g && (h && (i && (j && true))))))))))
ten_tests a b c d e f g h i true r pa pb pc pd pe pf pg ph pi is = rw (pa, pb, pc, pd, pe, pf, pg, ph, pi) is
ten_tests a b c d e f g h i false r pa pb pc pd pe pf pg ph pi is = rw (pa, pb, pc, pd, pe, pf, pg, ph, pi) is

-- five tests, of which three passed and the fourth didn't
pub fourth_fails : (a b c d e : Bool) → true ≡ a → true ≡ b → true ≡ c → false ≡ d → false ≡ (a && (b && (c && (d && e))))
fourth_fails true true true false e pa pb pc pd = refl
fourth_fails false b c d e pa pb pc pd = cc
fourth_fails true false c d e pa pb pc pd = cc
fourth_fails true true false d e pa pb pc pd = cc
fourth_fails true true true true e pa pb pc pd = cc

-- five tests, of which four passed
pub five_tests : (a b c d e r : Bool) → true ≡ a → true ≡ b → true ≡ c → true ≡ d → r ≡ e → r ≡ (a && (b && (c && (d && e))))
five_tests true true true true e r pa pb pc pd is = is
five_tests false b c d e r pa pb pc pd is = cc
five_tests true false c d e r pa pb pc pd is = cc
five_tests true true false d e r pa pb pc pd is = cc
five_tests true true true false e r pa pb pc pd is = cc

-- nothing is there
pub none_there : {A : Type 0} (o : Option A) → ((a : A) → o ≡ Some a → ⊥) → false ≡ is_some o
none_there None nothing = refl
none_there (Some a) nothing = absurd (nothing a refl)
