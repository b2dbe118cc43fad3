-- One byte that is changed changes the sum: a register's new top byte tells which entry of the table it took.
use lib.Bits.{xor_assoc, xor_comm, xor_mod, xor_self, xor_shr, xor_zero_r}
use Rattle.std.{proofs.{Common.{◌≡◌, ◌∙◌, ℕ, zero, suc, ◌+◌, ◌-◌, ◌/◌, ◌%◌, ◌<◌, ◌^◌, Bool, true, eqb, ◌&&◌, List, [], ◌∷◌, ◌++◌, get_or, refl, sym, ap, arith}, lemmas.Bool.eqb-true}, specs.{Cmp.{first_so, second_so}, Int.Bits.bit_xor}}
use Rattle.pim_saved.{specs.{Crc.{after_bytes, begun, entry, shifted, with_byte}, Laws.OneByteIsSummed}, proofs.Summed.{after_fits, byte_fits}}

xor_cancel : (a b m : ℕ) → bit_xor a m ≡ bit_xor b m → a ≡ b
xor_cancel a b m e = sym (again a) ∙ ap (λ (x : ℕ). bit_xor x m) e ∙ again b where
  again : (n : ℕ) → bit_xor (bit_xor n m) m ≡ n
  again n = xor_assoc n m m ∙ ap (bit_xor n) (xor_self m) ∙ xor_zero_r n

xor_cancel_left : (m a b : ℕ) → bit_xor m a ≡ bit_xor m b → a ≡ b
xor_cancel_left m a b e = xor_cancel a b m (xor_comm a m ∙ e ∙ xor_comm m b)

-- ---- which entry has a top byte

places : List ℕ
places =
    0 ∷ 65 ∷ 195 ∷ 130 ∷ 134 ∷ 199 ∷ 69 ∷ 4 ∷ 77 ∷ 12 ∷ 142 ∷ 207 ∷ 203 ∷ 138 ∷ 8 ∷ 73
    ∷ 154 ∷ 219 ∷ 89 ∷ 24 ∷ 28 ∷ 93 ∷ 223 ∷ 158 ∷ 215 ∷ 150 ∷ 20 ∷ 85 ∷ 81 ∷ 16 ∷ 146 ∷ 211
    ∷ 117 ∷ 52 ∷ 182 ∷ 247 ∷ 243 ∷ 178 ∷ 48 ∷ 113 ∷ 56 ∷ 121 ∷ 251 ∷ 186 ∷ 190 ∷ 255 ∷ 125 ∷ 60
    ∷ 239 ∷ 174 ∷ 44 ∷ 109 ∷ 105 ∷ 40 ∷ 170 ∷ 235 ∷ 162 ∷ 227 ∷ 97 ∷ 32 ∷ 36 ∷ 101 ∷ 231 ∷ 166
    ∷ 234 ∷ 171 ∷ 41 ∷ 104 ∷ 108 ∷ 45 ∷ 175 ∷ 238 ∷ 167 ∷ 230 ∷ 100 ∷ 37 ∷ 33 ∷ 96 ∷ 226 ∷ 163
    ∷ 112 ∷ 49 ∷ 179 ∷ 242 ∷ 246 ∷ 183 ∷ 53 ∷ 116 ∷ 61 ∷ 124 ∷ 254 ∷ 191 ∷ 187 ∷ 250 ∷ 120 ∷ 57
    ∷ 159 ∷ 222 ∷ 92 ∷ 29 ∷ 25 ∷ 88 ∷ 218 ∷ 155 ∷ 210 ∷ 147 ∷ 17 ∷ 80 ∷ 84 ∷ 21 ∷ 151 ∷ 214
    ∷ 5 ∷ 68 ∷ 198 ∷ 135 ∷ 131 ∷ 194 ∷ 64 ∷ 1 ∷ 72 ∷ 9 ∷ 139 ∷ 202 ∷ 206 ∷ 143 ∷ 13 ∷ 76
    ∷ 149 ∷ 212 ∷ 86 ∷ 23 ∷ 19 ∷ 82 ∷ 208 ∷ 145 ∷ 216 ∷ 153 ∷ 27 ∷ 90 ∷ 94 ∷ 31 ∷ 157 ∷ 220
    ∷ 15 ∷ 78 ∷ 204 ∷ 141 ∷ 137 ∷ 200 ∷ 74 ∷ 11 ∷ 66 ∷ 3 ∷ 129 ∷ 192 ∷ 196 ∷ 133 ∷ 7 ∷ 70
    ∷ 224 ∷ 161 ∷ 35 ∷ 98 ∷ 102 ∷ 39 ∷ 165 ∷ 228 ∷ 173 ∷ 236 ∷ 110 ∷ 47 ∷ 43 ∷ 106 ∷ 232 ∷ 169
    ∷ 122 ∷ 59 ∷ 185 ∷ 248 ∷ 252 ∷ 189 ∷ 63 ∷ 126 ∷ 55 ∷ 118 ∷ 244 ∷ 181 ∷ 177 ∷ 240 ∷ 114 ∷ 51
    ∷ 127 ∷ 62 ∷ 188 ∷ 253 ∷ 249 ∷ 184 ∷ 58 ∷ 123 ∷ 50 ∷ 115 ∷ 241 ∷ 176 ∷ 180 ∷ 245 ∷ 119 ∷ 54
    ∷ 229 ∷ 164 ∷ 38 ∷ 103 ∷ 99 ∷ 34 ∷ 160 ∷ 225 ∷ 168 ∷ 233 ∷ 107 ∷ 42 ∷ 46 ∷ 111 ∷ 237 ∷ 172
    ∷ 10 ∷ 75 ∷ 201 ∷ 136 ∷ 140 ∷ 205 ∷ 79 ∷ 14 ∷ 71 ∷ 6 ∷ 132 ∷ 197 ∷ 193 ∷ 128 ∷ 2 ∷ 67
    ∷ 144 ∷ 209 ∷ 83 ∷ 18 ∷ 22 ∷ 87 ∷ 213 ∷ 148 ∷ 221 ∷ 156 ∷ 30 ∷ 95 ∷ 91 ∷ 26 ∷ 152 ∷ 217 ∷ []

abbrev all_back : ℕ → ℕ → Bool
all_back zero k = true
all_back (suc n) k = eqb (get_or places (entry k / 2 ^ 24) 0) k && all_back n (suc k)

are_back : all_back 256 0 ≡ true
unfolding entry shifted places
are_back = refl

back_from : (n k i : ℕ) → all_back n k ≡ true → i < n → get_or places (entry (k + i) / 2 ^ 24) 0 ≡ k + i
back_from zero k i e lt = absurd (omega (arith, lt))
back_from (suc n) k zero e lt =
    let at : k ≡ k + 0 = omega arith in
    ap (λ (x : ℕ). get_or places (entry x / 2 ^ 24) 0) (sym at) ∙ eqb-true _ k (first_so (eqb (get_or places (entry k / 2 ^ 24) 0) k) (all_back n (suc k)) e) ∙ at
back_from (suc n) k (suc i) e lt =
    let at : suc k + i ≡ k + suc i = omega arith in
    ap (λ (x : ℕ). get_or places (entry x / 2 ^ 24) 0) (sym at)
    ∙ back_from n (suc k) i (second_so (eqb (get_or places (entry k / 2 ^ 24) 0) k) (all_back n (suc k)) e) (omega (arith, lt)) ∙ at

back : (i : ℕ) → i < 256 → get_or places (entry i / 2 ^ 24) 0 ≡ i
back i lt =
    let at : i ≡ 0 + i = omega arith in
    ap (λ (x : ℕ). get_or places (entry x / 2 ^ 24) 0) at ∙ back_from 256 0 i are_back lt ∙ sym at

-- ---- one byte

module _ (c d b x : ℕ) (cf : c < 2 ^ 32) (df : d < 2 ^ 32) (e : with_byte c b ≡ with_byte d x) where
  top : (r y : ℕ) → r < 2 ^ 32 → with_byte r y / 2 ^ 24 ≡ entry (bit_xor r y % 256) / 2 ^ 24
  unfolding with_byte
  top r y fits =
      let none : r / 256 / 2 ^ 24 ≡ 0 = omega (arith, fits) in
      xor_shr (entry (bit_xor r y % 256)) (r / 256) 24
      ∙ ap (bit_xor (entry (bit_xor r y % 256) / 2 ^ 24)) none ∙ xor_zero_r (entry (bit_xor r y % 256) / 2 ^ 24)

  same_place : bit_xor c b % 256 ≡ bit_xor d x % 256
  same_place =
      sym (back (bit_xor c b % 256) (omega arith))
      ∙ ap (λ (t : ℕ). get_or places t 0) (sym (top c b cf) ∙ ap (λ (w : ℕ). w / 2 ^ 24) e ∙ top d x df)
      ∙ back (bit_xor d x % 256) (omega arith)

  same_rest : c / 256 ≡ d / 256
  unfolding with_byte
  same_rest =
      xor_cancel_left (entry (bit_xor c b % 256)) (c / 256) (d / 256)
      (e ∙ ap (λ (i : ℕ). bit_xor (entry i) (d / 256)) (sym same_place))

-- the register before a byte
one_register : (c d b : ℕ) → c < 2 ^ 32 → d < 2 ^ 32 → with_byte c b ≡ with_byte d b → c ≡ d
one_register c d b cf df e =
    let low : c % 2 ^ 8 ≡ d % 2 ^ 8 =
    xor_cancel (c % 2 ^ 8) (d % 2 ^ 8) (b % 2 ^ 8) (sym (xor_mod c b 8) ∙ same_place c d b b cf df e ∙ xor_mod d b 8) in
    let high : c / 256 ≡ d / 256 = same_rest c d b b cf df e in
    omega (arith, low, high)

-- the byte
one_byte : (c b x : ℕ) → c < 2 ^ 32 → b < 256 → x < 256 → with_byte c b ≡ with_byte c x → b ≡ x
one_byte c b x cf bf xf e =
    let low : b % 2 ^ 8 ≡ x % 2 ^ 8 =
    xor_cancel_left (c % 2 ^ 8) (b % 2 ^ 8) (x % 2 ^ 8) (sym (xor_mod c b 8) ∙ same_place c c b x cf cf e ∙ xor_mod c x 8) in
    omega (arith, low, bf, xf)

-- the register before more bytes
one_before : (bytes : List ℕ) (c d : ℕ) → c < 2 ^ 32 → d < 2 ^ 32 → after_bytes c bytes ≡ after_bytes d bytes → c ≡ d
one_before [] c d cf df e = e
one_before (b ∷ bytes) c d cf df e =
    one_register c d b cf df (one_before bytes (with_byte c b) (with_byte d b) (byte_fits c b cf) (byte_fits d b df) e)

after_both : (xs : List ℕ) (c : ℕ) (ys : List ℕ) → after_bytes c (xs ++ ys) ≡ after_bytes (after_bytes c xs) ys
after_both [] c ys = refl
after_both (x ∷ xs) c ys = after_both xs (with_byte c x) ys

pub one_byte_is_summed : OneByteIsSummed
one_byte_is_summed front back b c bf cf e =
    let r : ℕ = after_bytes begun front in
    let fits : r < 2 ^ 32 = after_fits front begun (omega arith) in
    let registers : after_bytes (with_byte r b) back ≡ after_bytes (with_byte r c) back =
    sym (after_both front begun (b ∷ back))
    ∙ xor_cancel (after_bytes begun (front ++ (b ∷ back))) (after_bytes begun (front ++ (c ∷ back))) 0xFFFFFFFF e
    ∙ after_both front begun (c ∷ back) in
    one_byte r b c fits bf cf (one_before back (with_byte r b) (with_byte r c) (byte_fits r b fits) (byte_fits r c fits) registers)
