-- One byte that is changed is told: bytes that differ in one byte aren't both read.
use Rattle.std.{proofs.{Common.{◌≡◌, ◌∙◌, ℕ, zero, suc, ◌+◌, ◌-◌, ◌<◌, ◌≤◌, ◌^◌, ⊎_elim, List, [], ◌∷◌, ◌++◌, length, take, drop, get_or, refl, sym, ap, subst, arith}, lemmas.{Bool.cases_lt, List.{take_at, drop_at, length-append}, Nat.from_be_bytes-to_be_bytes_4}}, specs.Int.{w32, from_be_bytes}}
use Rattle.pim_saved.{specs.{Crc.crc32, Laws.{AreBytes, OneByteIsTold}, Text.{front_text, text, word_text}}, proofs.{Changed.one_byte_is_summed, SpelledStates.reading_is_text, Summed.sum_fits}}

-- the first n, where the changed byte is among them, and where it isn't
take_past : (front back : List ℕ) (b m n : ℕ) → n ≡ length front + suc m → take n (front ++ (b ∷ back)) ≡ front ++ (b ∷ take m back)
take_past front back b m zero e = absurd (omega (arith, e))
take_past [] back b m (suc n) e = let same : n ≡ m = omega (arith, e) in ap (λ (k : ℕ). b ∷ take k back) same
take_past (x ∷ front) back b m (suc n) e = ap (λ (l : List ℕ). x ∷ l) (take_past front back b m n (omega (arith, e)))

drop_past : (front back : List ℕ) (b m n : ℕ) → n ≡ length front + suc m → drop n (front ++ (b ∷ back)) ≡ drop m back
drop_past front back b m zero e = absurd (omega (arith, e))
drop_past [] back b m (suc n) e = let same : n ≡ m = omega (arith, e) in ap (λ (k : ℕ). drop k back) same
drop_past (x ∷ front) back b m (suc n) e = drop_past front back b m n (omega (arith, e))

take_before : (front more : List ℕ) (n : ℕ) → n ≤ length front → take n (front ++ more) ≡ take n front
take_before front more zero le = refl
take_before [] more (suc n) le = absurd (omega (arith, le))
take_before (x ∷ front) more (suc n) le = ap (λ (l : List ℕ). x ∷ l) (take_before front more n (omega (arith, le)))

byte_at : (front back : List ℕ) (b : ℕ) → get_or (front ++ (b ∷ back)) (length front) 0 ≡ b
byte_at [] back b = refl
byte_at (x ∷ front) back b = byte_at front back b

same_word : (n m : ℕ) → n < 2 ^ 32 → m < 2 ^ 32 → word_text n ≡ word_text m → n ≡ m
same_word n m nf mf e = sym (from_be_bytes-to_be_bytes_4 n nf) ∙ ap (from_be_bytes w32) e ∙ from_be_bytes-to_be_bytes_4 m mf

module _ (front back : List ℕ) (b c : ℕ) (xs ys : List ℕ) (bf : b < 256) (cf : c < 256)
    (ex : xs ++ word_text (crc32 xs) ≡ front ++ (b ∷ back)) (ey : ys ++ word_text (crc32 ys) ≡ front ++ (c ∷ back)) where
  same_length : length xs ≡ length ys
  same_length =
      let lx : length (xs ++ word_text (crc32 xs)) ≡ length (front ++ (b ∷ back)) = ap (λ (l : List ℕ). length l) ex in
      let ly : length (ys ++ word_text (crc32 ys)) ≡ length (front ++ (c ∷ back)) = ap (λ (l : List ℕ). length l) ey in
      omega (arith, lx, ly, length-append xs (word_text (crc32 xs)), length-append ys (word_text (crc32 ys)), length-append front (b ∷ back), length-append front (c ∷ back))

  first_of : (n : ℕ) → length xs ≡ n → take n (front ++ (b ∷ back)) ≡ xs
  first_of n e = ap (take n) (sym ex) ∙ take_at xs (word_text (crc32 xs)) n e

  other_first : (n : ℕ) → length ys ≡ n → take n (front ++ (c ∷ back)) ≡ ys
  other_first n e = ap (take n) (sym ey) ∙ take_at ys (word_text (crc32 ys)) n e

  last_of : (n : ℕ) → length xs ≡ n → drop n (front ++ (b ∷ back)) ≡ word_text (crc32 xs)
  last_of n e = ap (drop n) (sym ex) ∙ drop_at xs (word_text (crc32 xs)) n e

  other_last : (n : ℕ) → length ys ≡ n → drop n (front ++ (c ∷ back)) ≡ word_text (crc32 ys)
  other_last n e = ap (drop n) (sym ey) ∙ drop_at ys (word_text (crc32 ys)) n e

  -- the byte is summed
  inside : (m : ℕ) → length xs ≡ length front + suc m → b ≡ c
  inside m e =
      let n : ℕ = length front + suc m in
      let other : length ys ≡ n = sym same_length ∙ e in
      let is_x : xs ≡ front ++ (b ∷ take m back) = sym (first_of n e) ∙ take_past front back b m n refl in
      let is_y : ys ≡ front ++ (c ∷ take m back) = sym (other_first n other) ∙ take_past front back c m n refl in
      let sums : crc32 xs ≡ crc32 ys =
      same_word (crc32 xs) (crc32 ys) (sum_fits xs) (sum_fits ys)
      (sym (last_of n e) ∙ drop_past front back b m n refl ∙ sym (drop_past front back c m n refl) ∙ other_last n other) in
      one_byte_is_summed front (take m back) b c bf cf (ap crc32 (sym is_x) ∙ sums ∙ ap crc32 is_y)

  -- the byte is one of the sum
  behind : length xs ≤ length front → b ≡ c
  behind le =
      let n : ℕ = length xs in
      let same : xs ≡ ys =
      sym (first_of n refl) ∙ take_before front (b ∷ back) n le ∙ sym (take_before front (c ∷ back) n le) ∙ other_first n (sym same_length) in
      let all : front ++ (b ∷ back) ≡ front ++ (c ∷ back) = sym ex ∙ ap (λ (l : List ℕ). l ++ word_text (crc32 l)) same ∙ ey in
      sym (byte_at front back b) ∙ ap (λ (l : List ℕ). get_or l (length front) 0) all ∙ byte_at front back c

  further : length front < length xs → length xs ≡ length front + suc (length xs - length front - 1)
  further lt = omega (arith, lt)

  both_read : b ≡ c
  both_read = ⊎_elim (λ (lt : length front < length xs). inside (length xs - length front - 1) (further lt)) behind (cases_lt (length front) (length xs))

fits_at : (front back : List ℕ) (b : ℕ) → AreBytes (front ++ (b ∷ back)) → b < 256
fits_at front back b h = subst (λ (n : ℕ). n < 256) (byte_at front back b) (h (length front))

pub one_byte_is_told : OneByteIsTold
unfolding text
one_byte_is_told front back b c s t fb fc es et =
    both_read front back b c (front_text s) (front_text t) (fits_at front back b fb) (fits_at front back c fc)
    (reading_is_text (front ++ (b ∷ back)) s fb es).0 (reading_is_text (front ++ (c ∷ back)) t fc et).0
