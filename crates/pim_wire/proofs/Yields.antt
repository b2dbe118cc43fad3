-- What an iterator gives that skips elements.
use Rattle.std.{proofs.Common.{◌≡◌, ◌<◌, true, false, List, [], ◌∷◌, ◌++◌, length, Option, Some, None, is_some, MatchOption, option_to_list, sym, arith}}

module _ {X : Type 0} where
  pub gives_first : (o : Option X) (whole rest : List X) → is_some o ≡ true → whole ≡ option_to_list o ++ rest
      → MatchOption o ((whole ≡ []) × (rest ≡ [])) (λ x. whole ≡ x ∷ rest)
  gives_first (Some x) whole rest h e = e
  gives_first None whole rest h e = absurd (cc)

  pub is_shorter : (o : Option X) (whole rest : List X) → is_some o ≡ true → whole ≡ option_to_list o ++ rest → length rest < length whole
  is_shorter (Some x) whole rest h e = rw e (omega arith)
  is_shorter None whole rest h e = absurd (cc)

  pub gives_none : (o : Option X) (whole rest : List X) → is_some o ≡ false → whole ≡ option_to_list o ++ rest → rest ≡ whole
  gives_none (Some x) whole rest h e = absurd (cc)
  gives_none None whole rest h e = sym e
