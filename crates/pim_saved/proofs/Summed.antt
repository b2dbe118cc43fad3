-- The sum at the end of a state's bytes: what it is behind, and that it fits its width.
use Rattle.std.{proofs.{Common.{◌≡◌, ℕ, ◌+◌, ◌-◌, ◌/◌, ◌%◌, ◌<◌, ◌^◌, Bool, true, false, cond, eqb, Result, Ok, Err, List, [], ◌∷◌, ◌++◌, length, take, drop, refl, sym, ap, ◌∙◌, arith}, lemmas.{Bool.{eqb-true, eq-eqb}, List.{append-nil, take_at, drop_at, length-append}, Nat.xor_of_32}}, specs.Int.Bits.bit_xor}
use Rattle.pim_saved.{specs.{Crc.{after_bytes, begun, crc32, entry, shifted, with_byte}, Fits.FitsWord, Laws.CrcIsKnown, Reading.{◌>>=◌, undamaged, word_at}, Text.word_text, declared.refusal.SavedRefusal.SavedRefusal}, proofs.Spelled.word}

shifted_fits : (c : ℕ) → c < 2 ^ 32 → shifted c < 2 ^ 32
unfolding shifted
shifted_fits c lt = by_parity (eqb (c % 2) 0) where
  by_parity : (b : Bool) → cond b (c / 2) (bit_xor 0xEDB88320 (c / 2)) < 2 ^ 32
  by_parity true = omega (arith, lt)
  by_parity false = xor_of_32 0xEDB88320 (c / 2) (omega arith) (omega (arith, lt))

entry_fits : (c : ℕ) → c < 2 ^ 32 → entry c < 2 ^ 32
unfolding entry
entry_fits c lt =
    shifted_fits _ (shifted_fits _ (shifted_fits _ (shifted_fits _ (shifted_fits _ (shifted_fits _ (shifted_fits _ (shifted_fits c lt)))))))

pub byte_fits : (c b : ℕ) → c < 2 ^ 32 → with_byte c b < 2 ^ 32
unfolding with_byte
byte_fits c b lt = xor_of_32 (entry (bit_xor c b % 256)) (c / 256) (entry_fits (bit_xor c b % 256) (omega arith)) (omega (arith, lt))

pub after_fits : (bytes : List ℕ) (c : ℕ) → c < 2 ^ 32 → after_bytes c bytes < 2 ^ 32
after_fits [] c lt = lt
after_fits (b ∷ bytes) c lt = after_fits bytes (with_byte c b) (byte_fits c b lt)

pub sum_fits : (bytes : List ℕ) → FitsWord (crc32 bytes)
sum_fits bytes = xor_of_32 (after_bytes begun bytes) 0xFFFFFFFF (after_fits bytes begun (omega arith)) (omega arith)

-- the last four bytes, and those before them
pub front_of : (xs : List ℕ) (n : ℕ) → take (length (xs ++ word_text n) - 4) (xs ++ word_text n) ≡ xs
front_of xs n = take_at xs (word_text n) (length (xs ++ word_text n) - 4) (omega (arith, length-append xs (word_text n)))

pub last_of : (xs : List ℕ) (n : ℕ) → drop (length (xs ++ word_text n) - 4) (xs ++ word_text n) ≡ word_text n
last_of xs n = drop_at xs (word_text n) (length (xs ++ word_text n) - 4) (omega (arith, length-append xs (word_text n)))

-- what the test makes of the word that was read behind these bytes
abbrev judged : List ℕ → Result (ℕ × List ℕ) SavedRefusal → Result (Unit {0}) SavedRefusal
judged front read = read >>= λ w. cond (eqb w.0 (crc32 front)) (Ok tt) (Err SavedRefusal.Damaged)

-- the test of the sum, of bytes with a word behind them
pub sum_test : (xs : List ℕ) (n : ℕ) → n < 2 ^ 32 → undamaged (xs ++ word_text n) ≡ cond (eqb n (crc32 xs)) (Ok tt) (Err SavedRefusal.Damaged)
unfolding undamaged
sum_test xs n lt =
    let last : word_at (word_text n) ≡ Ok (n, []) = ap word_at (sym (append-nil (word_text n))) ∙ word.again n [] lt in
    (λ i. judged (front_of xs n i) (word_at (last_of xs n i))) ∙ ap (judged xs) last

pub is_summed : (xs : List ℕ) → undamaged (xs ++ word_text (crc32 xs)) ≡ Ok tt
is_summed xs = rw (sum_test xs (crc32 xs) (sum_fits xs), eq-eqb (crc32 xs) (crc32 xs) refl) refl

is_undamaged : (b : Bool) (u : Unit {0}) → cond b (Ok tt) (Err SavedRefusal.Damaged) ≡ Ok u → b ≡ true
is_undamaged true u e = refl
is_undamaged false u e = absurd cc

pub sum_of_front : (xs : List ℕ) (n : ℕ) (u : Unit {0}) → n < 2 ^ 32 → undamaged (xs ++ word_text n) ≡ Ok u → n ≡ crc32 xs
sum_of_front xs n u lt e = eqb-true n (crc32 xs) (is_undamaged (eqb n (crc32 xs)) u (sym (sum_test xs n lt) ∙ e))

pub crc_is_known : CrcIsKnown
unfolding with_byte entry shifted
crc_is_known = refl
