-- The one's complement sum, and bytes that hold their checksum.
use Rattle.std.{proofs.{Common.{◌≡◌, ℕ, zero, suc, ◌+◌, ◌*◌, ◌-◌, ◌/◌, ◌%◌, ◌<◌, ◌≤◌, List, [], ◌∷◌, ◌++◌, length, take, drop, get_or, refl, sym, ap, ◌∙◌, arith, inl, inr}, lemmas.{Bool.cases_lt, List.{append_assoc, take_all}}}}
use Rattle.byteorder.{specs.Endian.{big_bytes, big_from}}
use Rattle.pim_ip.{specs.{Ipv4.version_of, Checksum.{sum_of_words, ones, sum16, with_checksum}}}

-- the value of a sum above 0
ones-positive : (n : ℕ) → 0 < n → ones n ≡ (n - 1) % 65535 + 1
unfolding ones
ones-positive zero h = absurd (omega arith)
ones-positive (suc n) h = let e : suc n - 1 ≡ n = omega arith in rw e refl

-- 16 bits are their own sum
pub ones-small : (n : ℕ) → n ≤ 65535 → ones n ≡ n
unfolding ones
ones-small zero h = refl
ones-small (suc n) h = omega arith

-- a multiple of 65535 more changes a sum above 0 by nothing
pub ones-times : (n k : ℕ) → 0 < n → ones (n + 65535 * k) ≡ ones n
ones-times n k h = rw (ones-positive n h, ones-positive (n + 65535 * k) (omega arith)) (omega arith)

-- as does a multiple of it of which the sum has a part
pub ones-part : (n k : ℕ) → k ≤ n → ones (n + 65535 * k) ≡ ones n
ones-part n k h = elim (cases_lt 0 n) [
  | inl positive ↦ ones-times n k positive
  | inr none ↦ ap ones (omega arith)
]

-- carries that are added in again
pub ones-folded : (n more : ℕ) → ones (n % 65536 + n / 65536 + more) ≡ ones (n + more)
ones-folded n more =
    let e : n + more ≡ (n % 65536 + n / 65536 + more) + 65535 * (n / 65536) = omega arith in
    sym (ap ones e ∙ ones-part (n % 65536 + n / 65536 + more) (n / 65536) (omega arith))

pub ones-folded_wide : (n more : ℕ) → ones (n % 4294967296 + n / 4294967296 + more) ≡ ones (n + more)
ones-folded_wide n more =
    let carry : ℕ = n / 4294967296 in
    let e : n + more ≡ (n % 4294967296 + carry + more) + 65535 * (65537 * carry) = omega arith in
    elim (cases_lt 0 carry) [
      | inl some ↦ sym (ap ones e ∙ ones-times (n % 4294967296 + carry + more) (65537 * carry) (omega arith))
      | inr none ↦ ap ones (omega arith)
    ]

-- a word of four bytes counts as its two halves do
pub ones-four : (more a b c d : ℕ)
    → ones (more + (16777216 * a + 65536 * b + 256 * c + d)) ≡ ones (more + (256 * a + b + (256 * c + d)))
ones-four more a b c d =
    let e : more + (16777216 * a + 65536 * b + 256 * c + d) ≡ (more + (256 * a + b + (256 * c + d))) + 65535 * (256 * a + b) = omega arith in
    ap ones e ∙ ones-part (more + (256 * a + b + (256 * c + d))) (256 * a + b) (omega arith)

-- the first four bytes and those after them
pub sum_of_words-four : (xs : List ℕ) → 4 ≤ length xs
    → sum_of_words xs ≡ 256 * get_or xs 0 0 + get_or xs 1 0 + (256 * get_or xs 2 0 + get_or xs 3 0) + sum_of_words (take (length xs - 4) (drop 4 xs))
unfolding sum_of_words
sum_of_words-four [] h = absurd (omega arith)
sum_of_words-four (a ∷ []) h = absurd (omega arith)
sum_of_words-four (a ∷ b ∷ []) h = absurd (omega arith)
sum_of_words-four (a ∷ b ∷ c ∷ []) h = absurd (omega arith)
sum_of_words-four (a ∷ b ∷ c ∷ d ∷ rest) h =
    let left : take (length (a ∷ b ∷ c ∷ d ∷ rest) - 4) rest ≡ rest = take_all _ rest (omega arith) in
    let parts : 256 * a + b + (256 * c + d + sum_of_words rest) ≡ 256 * a + b + (256 * c + d) + sum_of_words rest = omega arith in
    parts ∙ ap (λ (r : List ℕ). 256 * a + b + (256 * c + d) + sum_of_words r) (sym left)

-- up to three bytes count as a word of four with zero bytes behind them
pub three-left : (xs : List ℕ) (more word : ℕ) → 3 ≤ length xs → length xs < 4
    → word ≡ 16777216 * get_or xs 0 0 + 65536 * get_or xs 1 0 + 256 * get_or xs 2 0 → ones (more + word) ≡ ones (more + sum_of_words xs)
unfolding sum_of_words
three-left (a ∷ b ∷ c ∷ []) more word long short is = ap (λ n. ones (more + n)) (is ∙ omega arith) ∙ ones-four more a b c 0 ∙ ap ones (omega arith)
three-left [] more word long short is = absurd (omega arith)
three-left (a ∷ []) more word long short is = absurd (omega arith)
three-left (a ∷ b ∷ []) more word long short is = absurd (omega arith)
three-left (a ∷ b ∷ c ∷ d ∷ rest) more word long short is = absurd (omega arith)

pub two-left : (xs : List ℕ) (more word : ℕ) → 2 ≤ length xs → length xs < 3
    → word ≡ 16777216 * get_or xs 0 0 + 65536 * get_or xs 1 0 → ones (more + word) ≡ ones (more + sum_of_words xs)
unfolding sum_of_words
two-left (a ∷ b ∷ []) more word long short is = ap (λ n. ones (more + n)) (is ∙ omega arith) ∙ ones-four more a b 0 0 ∙ ap ones (omega arith)
two-left [] more word long short is = absurd (omega arith)
two-left (a ∷ []) more word long short is = absurd (omega arith)
two-left (a ∷ b ∷ c ∷ rest) more word long short is = absurd (omega arith)

pub one-left : (xs : List ℕ) (more word : ℕ) → 1 ≤ length xs → length xs < 2
    → word ≡ 16777216 * get_or xs 0 0 → ones (more + word) ≡ ones (more + sum_of_words xs)
unfolding sum_of_words
one-left (a ∷ []) more word long short is = ap (λ n. ones (more + n)) (is ∙ omega arith) ∙ ones-four more a 0 0 0 ∙ ap ones (omega arith)
one-left [] more word long short is = absurd (omega arith)
one-left (a ∷ b ∷ rest) more word long short is = absurd (omega arith)

pub none-left : (xs : List ℕ) (more : ℕ) → length xs < 1 → ones (more + 0) ≡ ones (more + sum_of_words xs)
unfolding sum_of_words
none-left [] more short = refl
none-left (a ∷ rest) more short = absurd (omega arith)

-- the sum of what stands before an even place and of what stands after it
sum_of_words-append : (k : ℕ) (xs ys : List ℕ) → length xs ≡ 2 * k
    → sum_of_words (xs ++ ys) ≡ sum_of_words xs + sum_of_words ys
unfolding sum_of_words
sum_of_words-append zero [] ys h = omega arith
sum_of_words-append zero (a ∷ xs) ys h = absurd (omega arith)
sum_of_words-append (suc k) [] ys h = absurd (omega arith)
sum_of_words-append (suc k) (a ∷ []) ys h = absurd (omega arith)
sum_of_words-append (suc k) (a ∷ b ∷ xs) ys h = omega (arith, sum_of_words-append k xs ys (omega arith))

-- a sum that is made whole
ones-whole : (n : ℕ) → ones (n + (65535 - ones n)) ≡ 65535
ones-whole n = elim (cases_lt 0 n) [
  | inl positive ↦
      let e = ones-positive n positive in
      rw (e, ones-positive (n + (65535 - ((n - 1) % 65535 + 1))) (omega arith)) (omega arith)
  | inr none ↦ let e : n ≡ 0 = omega arith in rw e (unfold ones in refl)
]

-- bytes with their checksum sum to 0
pub sum16-with_checksum : (k : ℕ) (before after : List ℕ) → length before ≡ 2 * k → sum16 (with_checksum before after) ≡ 0
unfolding sum16 with_checksum sum_of_words
sum16-with_checksum k before after h =
    let n : ℕ = sum_of_words (before ++ 0 ∷ 0 ∷ after) in
    let without = sum_of_words-append k before (0 ∷ 0 ∷ after) h in
    let bytes : List ℕ = big_bytes 2 (65535 - ones n) in
    let all = sum_of_words-append k before (bytes ++ after) h in
    let sum : sum_of_words (before ++ (bytes ++ after)) ≡ n + (65535 - ones n) = omega arith in
    rw (append_assoc before bytes after, sum, ones-whole n) refl

-- a sum that is 0, and what is left of it without a part
difference : (sum rest part : ℕ) → sum ≡ rest + part → 0 < rest → 65535 - ones sum ≡ 0 → part % 65535 ≡ 65535 - ones rest
difference sum rest part is some none = rw (ones-positive rest some) (let whole = ones-positive sum (omega arith) in omega (arith, whole))

-- the checksum of a header whose time to live is lowered
pub sum16-lowered : (header : List ℕ) (lower checksum times : ℕ) → 12 ≤ length header → version_of header ≡ 4 → sum16 header ≡ 0
    → checksum ≡ big_from 10 2 header → get_or header 8 0 ≡ lower + times
    → (checksum + 256 * times) % 65535 ≡ sum16 ((take 8 header ++ lower ∷ get_or header 9 0 ∷ []) ++ 0 ∷ 0 ∷ drop 12 header)
unfolding sum16 sum_of_words
sum16-lowered (a0 ∷ a1 ∷ a2 ∷ a3 ∷ a4 ∷ a5 ∷ a6 ∷ a7 ∷ a8 ∷ a9 ∷ c0 ∷ c1 ∷ rest) lower checksum times long four none is lowered =
    let rest_sum : ℕ = sum_of_words ((a0 ∷ a1 ∷ a2 ∷ a3 ∷ a4 ∷ a5 ∷ a6 ∷ a7 ∷ lower ∷ a9 ∷ []) ++ 0 ∷ 0 ∷ rest) in
    difference (sum_of_words (a0 ∷ a1 ∷ a2 ∷ a3 ∷ a4 ∷ a5 ∷ a6 ∷ a7 ∷ a8 ∷ a9 ∷ c0 ∷ c1 ∷ rest)) rest_sum (checksum + 256 * times) (omega (arith, is, lowered)) (omega (arith, four)) none
sum16-lowered [] lower checksum times long four none is lowered = absurd (omega arith)
sum16-lowered (a0 ∷ []) lower checksum times long four none is lowered = absurd (omega arith)
sum16-lowered (a0 ∷ a1 ∷ []) lower checksum times long four none is lowered = absurd (omega arith)
sum16-lowered (a0 ∷ a1 ∷ a2 ∷ []) lower checksum times long four none is lowered = absurd (omega arith)
sum16-lowered (a0 ∷ a1 ∷ a2 ∷ a3 ∷ []) lower checksum times long four none is lowered = absurd (omega arith)
sum16-lowered (a0 ∷ a1 ∷ a2 ∷ a3 ∷ a4 ∷ []) lower checksum times long four none is lowered = absurd (omega arith)
sum16-lowered (a0 ∷ a1 ∷ a2 ∷ a3 ∷ a4 ∷ a5 ∷ []) lower checksum times long four none is lowered = absurd (omega arith)
sum16-lowered (a0 ∷ a1 ∷ a2 ∷ a3 ∷ a4 ∷ a5 ∷ a6 ∷ []) lower checksum times long four none is lowered = absurd (omega arith)
sum16-lowered (a0 ∷ a1 ∷ a2 ∷ a3 ∷ a4 ∷ a5 ∷ a6 ∷ a7 ∷ []) lower checksum times long four none is lowered = absurd (omega arith)
sum16-lowered (a0 ∷ a1 ∷ a2 ∷ a3 ∷ a4 ∷ a5 ∷ a6 ∷ a7 ∷ a8 ∷ []) lower checksum times long four none is lowered = absurd (omega arith)
sum16-lowered (a0 ∷ a1 ∷ a2 ∷ a3 ∷ a4 ∷ a5 ∷ a6 ∷ a7 ∷ a8 ∷ a9 ∷ []) lower checksum times long four none is lowered = absurd (omega arith)
sum16-lowered (a0 ∷ a1 ∷ a2 ∷ a3 ∷ a4 ∷ a5 ∷ a6 ∷ a7 ∷ a8 ∷ a9 ∷ c0 ∷ []) lower checksum times long four none is lowered = absurd (omega arith)
