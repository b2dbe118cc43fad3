-- The text of an address, the five words of a route, the four of a candidate RP, and those of a set of RPs.
use Rattle.std.{proofs.{Common.{ℕ, suc, zero, List, [], ◌∷◌, ◌++◌, ◌+◌, ◌<◌, ◌≤◌, ◌≡◌, arith, drop, get_or, length, map, refl, subst, sym, take}, lemmas.List.take_all}, specs.{Borrow.Bor, List.AllZip, Prelude.{Err, None, Option, Result, Some}, Result.IsErrAnd}}
use Rattle.toml.{specs.Data.{Data, as_str}}
use Rattle.pim_ip.{specs.declared.addr.Addr.Addr}
use Rattle.pim_types.{specs.declared.config.{Route.Route, RpCandidate.RpCandidate}}
use Rattle.pim_anycast.{specs.declared.set.RpSet.RpSet}
use Rattle.pim_scenario.{specs.{Scenario.{AreCandidateWords, AreRouteWords, AreSetWords, IsCandidateOf, IsPlaceText, IsRouteOf, WritesAddress, WritesPlace}, Texts.{IsAddressText, ReadsExactly}, declared.scenario.Unread.{Unread, TheVariants.Wrong}}, proofs.ReadLemmas.{fails, not_both, the_same, wrong, zip_at, zip_kept}}

-- a value that is no text writes no address
pub other_text : (d : Data) → None ≡ as_str d → (a : Addr) → WritesAddress d a → ⊥
other_text d none a is = not_both (as_str d) is.0 none is.1

-- nor does a text that is none of an address
pub no_address : (d : Data) (text : List ℕ) → Some text ≡ as_str d → ((a : Addr) → IsAddressText text a → ⊥) → (a : Addr)
    → WritesAddress d a → ⊥
no_address d text there none a is = none a (rw (the_same (as_str d) text is.0 there is.1) is.2)

-- a value that is no text writes no place
pub no_place_text : (d : Data) → None ≡ as_str d → (p : Option ℕ) → WritesPlace d p → ⊥
no_place_text d none p is = not_both (as_str d) is.0 none is.1

-- nor does a text that is none of a place
pub no_place : (d : Data) (text : List ℕ) → Some text ≡ as_str d → ((p : Option ℕ) → IsPlaceText text p → ⊥) → (p : Option ℕ)
    → WritesPlace d p → ⊥
no_place d text there none p is = none p (rw (the_same (as_str d) text is.0 there is.1) is.2)

pub five_words : (d : Bor (List ℕ)) (ws : List (Bor (List ℕ))) (r : Route)
    → AreRouteWords (map (λ (w : Bor (List ℕ)). w.now) ws) r
    → IsRouteOf (get_or ws 0 d).now (get_or ws 1 d).now (get_or ws 2 d).now (get_or ws 3 d).now (get_or ws 4 d).now r
five_words d [] r say = absurd say
five_words d (a ∷ []) r say = absurd say
five_words d (a ∷ b ∷ []) r say = absurd say
five_words d (a ∷ b ∷ c ∷ []) r say = absurd say
five_words d (a ∷ b ∷ c ∷ e ∷ []) r say = absurd say
five_words d (a ∷ b ∷ c ∷ e ∷ f ∷ []) r say = say
five_words d (a ∷ b ∷ c ∷ e ∷ f ∷ g ∷ ws) r say = absurd say

pub four_words : (d : Bor (List ℕ)) (ws : List (Bor (List ℕ))) (r : RpCandidate)
    → AreCandidateWords (map (λ (w : Bor (List ℕ)). w.now) ws) r
    → IsCandidateOf (get_or ws 0 d).now (get_or ws 1 d).now (get_or ws 2 d).now (get_or ws 3 d).now r
four_words d [] r say = absurd say
four_words d (a ∷ []) r say = absurd say
four_words d (a ∷ b ∷ []) r say = absurd say
four_words d (a ∷ b ∷ c ∷ []) r say = absurd say
four_words d (a ∷ b ∷ c ∷ e ∷ []) r say = say
four_words d (a ∷ b ∷ c ∷ e ∷ f ∷ ws) r say = absurd say

-- the words behind the first two of a set are its others
other_words : (ws : List (Bor (List ℕ))) (n : ℕ) (s : RpSet) → length ws ≤ n + 2
    → AreSetWords (map (λ (w : Bor (List ℕ)). w.now) ws) s
    → AllZip IsAddressText (map (λ (w : Bor (List ℕ)). w.now) (take n (drop 2 ws))) s.others
other_words [] n s enough say = absurd say
other_words (a ∷ []) n s enough say = absurd say
other_words (a ∷ b ∷ ws) n s enough say =
    subst (λ (xs : List (Bor (List ℕ))). AllZip IsAddressText (map (λ (w : Bor (List ℕ)). w.now) xs) s.others)
    (sym (take_all n ws (omega (arith, enough)))) say.2

-- one of these words writes no address
pub others_fail : (ws : List (Bor (List ℕ))) (n : ℕ) (e : Unread) (s : Result RpSet Unread)
    → ReadsExactly (AllZip IsAddressText (map (λ (w : Bor (List ℕ)). w.now) (take n (drop 2 ws)))) (Err e)
    → length ws ≤ n + 2 → IsErrAnd s (λ f. f ≡ e) → ReadsExactly (AreSetWords (map (λ (w : Bor (List ℕ)). w.now) ws)) s
others_fail ws n e s none enough is =
    fails (AreSetWords (map (λ (w : Bor (List ℕ)). w.now) ws))
    (AllZip IsAddressText (map (λ (w : Bor (List ℕ)). w.now) (take n (drop 2 ws)))) e s is
    (λ set say. (set.others, other_words ws n set enough say)) none

got_same : {A : Type 0} (xs : List A) (i : ℕ) (d e : A) → i < length xs → get_or xs i d ≡ get_or xs i e
got_same [] i d e below = absurd (omega (arith, below))
got_same (x ∷ xs) zero d e below = refl
got_same (x ∷ xs) (suc i) d e below = got_same xs i d e (omega (arith, below))

-- words that each write an address
module _ (ws : List (Bor (List ℕ))) (i : ℕ) (d : Bor (List ℕ)) (below : i < length ws) where
  -- one more was read
  pub word_kept : (addresses new : List Addr) (a : Addr) → new ≡ addresses ++ a ∷ []
      → AllZip (λ (w : Bor (List ℕ)) b. IsAddressText w.now b) (take i ws) addresses → IsAddressText (get_or ws i d).now a
      → AllZip (λ (w : Bor (List ℕ)) b. IsAddressText w.now b) (take (i + 1) ws) new
  word_kept addresses new a put all one =
      zip_kept (λ (w : Bor (List ℕ)) b. IsAddressText w.now b) ws addresses new i (get_or ws i d) a below
      (got_same ws i d (get_or ws i d) below) put all one

  -- one of them writes none
  pub no_word : (s : Result (List Addr) Unread) → ((a : Addr) → IsAddressText (get_or ws i d).now a → ⊥)
      → IsErrAnd s (λ f. f ≡ Wrong) → ReadsExactly (AllZip IsAddressText (map (λ (w : Bor (List ℕ)). w.now) ws)) s
  no_word s none is =
      wrong (AllZip IsAddressText (map (λ (w : Bor (List ℕ)). w.now) ws)) s is
      (λ addresses all.
      let one = zip_at IsAddressText (λ (w : Bor (List ℕ)). w.now) ws i (get_or ws i d) below
      (got_same ws i d (get_or ws i d) below) addresses all in
      none one.0 one.1)
