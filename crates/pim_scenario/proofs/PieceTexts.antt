-- Strings, keys and scalars before a bracket.
use Rattle.std.{proofs.{Common.{◌≡◌, ℕ, zero, suc, ◌+◌, ◌<◌, ◌≤◌, Bool, true, false, cond, ◌&&◌, ◌==◌, nat_le, nat_lt, List, [], ◌∷◌, ◌++◌, length, take, drop, slice_index, Option, Some, None, refl, sym, ap, ◌∙◌, inl, inr, arith, eqb-true, length-append, length-drop}, lemmas.{Bool.{cases_Bool, and_parts, true≢false, false≢true, leb-true, le-leb, Decides.nat_tests}, Option.{none-some, same_Some, cond_some}, List.{take-append-le, drop-append-le, Sums.prefix_len-le-length}}}, specs.{List.{prefix_len, list_all}, Char.{is_digit, is_ascii_digit}, Str.Parse.digits_value}}
use Rattle.toml_parser.{specs.{Lexical.{Read, first, is_bare, is_word, split_while, starts_newline, skip_ws}, Strings.{Key, hex_len, is_scalar, hex_escape, escape_char, escape, is_plain, at_delims, special, prepend, after_piece, body, trim_newline, one_line, quoted, starts_string, simple_key, key_after, key, recursion_limit}, Numbers.{word_len, word_value, unquoted}}}
use Rattle.pim_scenario.{proofs.PieceBytes.{on, IsLocal, then_some, map_some, prefix_local, split_local, skip_ws_local, index_local, newline_local, skip_lines_local}}

-- a value and a rest that are the same
pub pair_parts : {A B : Type 0} (p : A × B) (a : A) (b : B) → p ≡ (a, b) → (p.0 ≡ a) × (p.1 ≡ b)
pair_parts p a b e = (ap (λ q. q.0) e, ap (λ q. q.1) e)

pub drop_one : (m t : List ℕ) → 0 < length t → drop 1 (on m t) ≡ on m (drop 1 t)
drop_one m t some = drop-append-le 1 t (91 ∷ m) (omega arith)

pub hex_escape_local : (n : ℕ) → IsLocal (hex_escape n)
unfolding hex_escape
hex_escape_local n m t a r e =
    let digits = take n t in
    let (whole, same) = cond_some ((nat_le n (length t) && list_all (λ c. is_digit c 16) digits) && is_scalar (digits_value 16 digits)) (digits_value 16 digits, drop n t) (a, r) e in
    let (first_part, scalar) = and_parts (nat_le n (length t) && list_all (λ c. is_digit c 16) digits) (is_scalar (digits_value 16 digits)) whole in
    let (fits, all) = and_parts (nat_le n (length t)) (list_all (λ c. is_digit c 16) digits) first_part in
    let long : n ≤ length t = leb-true n (length t) fits in
    let more : nat_le n (length (on m t)) ≡ true = le-leb n (length (on m t)) (omega (arith, length-append t (91 ∷ m))) in
    let (value, rest) = pair_parts (digits_value 16 digits, drop n t) a r same in
    rw (take-append-le n t (91 ∷ m) long, drop-append-le n t (91 ∷ m) long, more, all, scalar, value, rest)

pub escape_char_local : IsLocal escape_char
unfolding escape_char
escape_char_local m [] a r e = absurd (none-some _ e)
escape_char_local m (c ∷ t) a r e =
    elim (cases_Bool (nat_lt 0 (hex_len c))) [
      | inl hex ↦ rw hex (hex_escape_local (hex_len c) m t a r (rw hex at e))
      | inr plain ↦
          let (x, found, same) = map_some _ _ _ (rw plain at e) in
          let (value, rest) = pair_parts _ a r same in
          rw (plain, found, value, ← rest)
    ]

pub escape_local : (multi : Bool) → IsLocal (escape multi)
unfolding escape
escape_local multi m t a r e =
    elim (cases_Bool (multi && starts_newline (skip_ws t))) [
      | inl cut ↦
          let (value, rest) = pair_parts _ a r (same_Some _ _ (rw cut at e)) in
          rw (skip_ws_local m t, newline_local m (skip_ws t), cut, skip_lines_local m t, value, rest)
      | inr plain ↦
          let (x, found, same) = map_some _ _ _ (rw plain at e) in
          let (value, rest) = pair_parts _ a r same in
          rw (skip_ws_local m t, newline_local m (skip_ws t), plain, escape_char_local m t x.0 x.1 found, value, rest)
    ]

pub at_delims_local : (delim : ℕ) (m t : List ℕ) (a : Option (List ℕ)) (r : List ℕ) → (delim == 91) ≡ false → 0 < length t → at_delims delim t ≡ Some (a, r) → at_delims delim (on m t) ≡ Some (a, on m r)
at_delims_local delim m t a r other some e =
    let stop : (91 == delim) ≡ false = grind (arith, nat_tests) in
    let count : prefix_len (λ c. c == delim) (on m t) ≡ prefix_len (λ c. c == delim) t = prefix_local (λ c. c == delim) m t stop in
    let short : prefix_len (λ c. c == delim) t ≤ length t = prefix_len-le-length (λ c. c == delim) t in
    elim (cases_Bool (prefix_len (λ c. c == delim) t == 3)) [
      | inl three ↦
          let (value, rest) = pair_parts (None, drop 3 t) a r (same_Some _ _ (rw three at e)) in
          let is_three : prefix_len (λ c. c == delim) t ≡ 3 = eqb-true _ 3 three in
          let long : 3 ≤ length t = omega arith in
          rw (count, three, drop-append-le 3 t (91 ∷ m) long, value, rest)
      | inr not_three ↦
          let (few, same) = cond_some (nat_lt (prefix_len (λ c. c == delim) t) 6) (Some (delim ∷ []), drop 1 t) (a, r) (rw not_three at e) in
          let (value, rest) = pair_parts (Some (delim ∷ []), drop 1 t) a r same in
          rw (count, not_three, few, drop_one m t some, value, rest)
    ]

pub special_some : (delim : ℕ) (multi : Bool) (t : List ℕ) (a : Option (List ℕ)) (r : List ℕ) → 0 < delim → special delim multi t ≡ Some (a, r) → 0 < length t
unfolding special
special_some delim false [] a r some e =
    let other : (0 == delim) ≡ false = grind (arith, nat_tests) in
    absurd (none-some _ (rw other at e))
special_some delim true [] a r some e =
    let other : (0 == delim) ≡ false = grind (arith, nat_tests) in
    absurd (none-some _ (rw other at e))
special_some delim multi (c ∷ t) a r some e = omega arith

pub special_local : (delim : ℕ) (multi : Bool) → (delim == 91) ≡ false → 0 < delim → IsLocal (special delim multi)
unfolding special
special_local delim multi other positive m t a r e =
    let some : 0 < length t = special_some delim multi t a r positive e in
    let head : first (on m t) ≡ first t = index_local m t 0 some in
    elim (cases_Bool (first t == delim)) [
      | inl closing ↦
          elim (cases_Bool multi) [
            | inl three ↦ rw (head, closing, three) (at_delims_local delim m t a r other some (rw (closing, three) at e))
            | inr one ↦
                let (value, rest) = pair_parts (None, drop 1 t) a r (same_Some _ _ (rw (closing, one) at e)) in
                rw (head, closing, one, drop_one m t some, value, rest)
          ]
      | inr inside ↦
          elim (cases_Bool (first t == 92)) [
            | inl slash ↦
                let (x, found, same) = map_some _ _ _ (rw (inside, slash) at e) in
                let (value, rest) = pair_parts _ a r same in
                rw (head, inside, slash, drop_one m t some, escape_local multi m (drop 1 t) x.0 x.1 found, value, rest)
            | inr plain ↦
                let (line, same) = cond_some (multi && starts_newline t) (Some (first t ∷ []), drop 1 t) (a, r) (rw (inside, plain) at e) in
                let (value, rest) = pair_parts (Some (first t ∷ []), drop 1 t) a r same in
                rw (newline_local m t, head, inside, plain, line, drop_one m t some, value, rest)
          ]
    ]

pub prepend_some : (front : List ℕ) (o : Read (List ℕ)) (a r : List ℕ) → prepend front o ≡ Some (a, r) → (b : List ℕ) × (o ≡ Some (b, r)) × (front ++ b ≡ a)
prepend_some front None a r e = absurd (none-some _ e)
prepend_some front (Some p) a r e =
    let (value, rest) = pair_parts (front ++ p.0, p.1) a r (same_Some _ _ e) in
    (p.0, rw rest refl, value)

abbrev pub BodyLocal : ℕ → Bool → ℕ → Type 0
BodyLocal delim multi n = (k : ℕ) (m t a r : List ℕ) → n ≤ k → body delim multi n t ≡ Some (a, r) → body delim multi k (on m t) ≡ Some (a, on m r)

piece_local : (delim : ℕ) (multi : Bool) (n k : ℕ) → n ≤ k → BodyLocal delim multi n → (piece : Option (List ℕ)) (m next a r : List ℕ)
    → after_piece (body delim multi n) piece next ≡ Some (a, r) → after_piece (body delim multi k) piece (on m next) ≡ Some (a, on m r)
piece_local delim multi n k fits ih None m next a r e =
    let (value, rest) = pair_parts ([], next) a r (same_Some _ _ e) in
    rw (value, rest)
piece_local delim multi n k fits ih (Some bytes) m next a r e =
    let (b, read, whole) = prepend_some bytes (body delim multi n next) a r e in
    rw (ih k m next b r fits read, whole)

pub plain_some : (delim : ℕ) (multi : Bool) (t : List ℕ) → is_plain delim multi (first t) ≡ true → 0 < length t
plain_some delim multi [] h = absurd (grind (arith, nat_tests))
plain_some delim multi (c ∷ t) h = omega arith

pub body_local : (delim : ℕ) (multi : Bool) (n : ℕ) → (delim == 91) ≡ false → 0 < delim → BodyLocal delim multi n
unfolding body
body_local delim multi zero other positive k m t a r fits e = absurd (none-some _ e)
body_local delim multi (suc n) other positive zero m t a r fits e = absurd (omega arith)
body_local delim multi (suc n) other positive (suc k) m t a r fits e =
    elim (cases_Bool (is_plain delim multi (first t))) [
      | inl plain ↦
          let some : 0 < length t = plain_some delim multi t plain in
          let head : first (on m t) ≡ first t = index_local m t 0 some in
          let (b, read, whole) = prepend_some (first t ∷ []) (body delim multi n (drop 1 t)) a r (rw plain at e) in
          rw (head, plain, drop_one m t some, body_local delim multi n other positive k m (drop 1 t) b r (omega arith) read, whole)
      | inr odd ↦
          let (p, found, more) = then_some _ (special delim multi t) (a, r) (rw odd at e) in
          let some : 0 < length t = special_some delim multi t p.0 p.1 positive found in
          let head : first (on m t) ≡ first t = index_local m t 0 some in
          rw (head, odd, special_local delim multi other positive m t p.0 p.1 found)
          (piece_local delim multi n k (omega arith) (body_local delim multi n other positive) p.0 m p.1 a r more)
    ]

pub trim_local : (m t : List ℕ) → trim_newline (on m t) ≡ on m (trim_newline t)
trim_local m [] = refl
trim_local m (a ∷ []) =
    elim (cases_Bool (a == 10)) [
      | inl line ↦ rw line
      | inr other ↦ elim (cases_Bool (a == 13)) [ inl both ↦ rw (other, both) | inr none ↦ rw (other, none) ]
    ]
trim_local m (a ∷ b ∷ t) =
    elim (cases_Bool (a == 10)) [
      | inl line ↦ rw line
      | inr other ↦ elim (cases_Bool (a == 13 && b == 10)) [ inl both ↦ rw (other, both) | inr none ↦ rw (other, none) ]
    ]

pub longer : (m t : List ℕ) → length t ≤ length (on m t)
longer m t = omega (arith, length-append t (91 ∷ m))

-- a delimiter is no bracket
pub quote_facts : (t : List ℕ) → starts_string t ≡ true → (0 < length t) × ((first t == 91) ≡ false) × (0 < first t)
quote_facts [] h = absurd (false≢true h)
quote_facts (c ∷ t) h = (omega arith, grind (arith, nat_tests), grind (arith, nat_tests))

pub one_line_local : (m t a r : List ℕ) → starts_string t ≡ true → one_line t ≡ Some (a, r) → one_line (on m t) ≡ Some (a, on m r)
unfolding one_line
one_line_local m t a r quote e =
    let (some, other, positive) = quote_facts t quote in
    let head : first (on m t) ≡ first t = index_local m t 0 some in
    rw (head, drop_one m t some) (body_local (first t) false (length t) other positive (length (on m t)) m (drop 1 t) a r (longer m t) e)

three_local : (m t : List ℕ) → starts_string t ≡ true → (slice_index (on m t) 1 == first t && slice_index (on m t) 2 == first t) ≡ (slice_index t 1 == first t && slice_index t 2 == first t)
three_local m [] quote = absurd (false≢true quote)
three_local m (a ∷ []) quote =
    let other : (91 == a) ≡ false = grind (arith, nat_tests) in
    let some : (0 == a) ≡ false = grind (arith, nat_tests) in
    rw (other, some)
three_local m (a ∷ b ∷ []) quote =
    let other : (91 == a) ≡ false = grind (arith, nat_tests) in
    let some : (0 == a) ≡ false = grind (arith, nat_tests) in
    rw (other, some)
three_local m (a ∷ b ∷ c ∷ t) quote = refl

pub three_long : (t : List ℕ) → starts_string t ≡ true → (slice_index t 1 == first t && slice_index t 2 == first t) ≡ true → 3 ≤ length t
three_long [] quote h = absurd (false≢true quote)
three_long (a ∷ []) quote h = absurd (grind (arith, nat_tests))
three_long (a ∷ b ∷ []) quote h = absurd (grind (arith, nat_tests))
three_long (a ∷ b ∷ c ∷ t) quote h = omega arith

pub quoted_local : (m t a r : List ℕ) → starts_string t ≡ true → quoted t ≡ Some (a, r) → quoted (on m t) ≡ Some (a, on m r)
unfolding quoted
quoted_local m t a r quote e =
    let (some, other, positive) = quote_facts t quote in
    let head : first (on m t) ≡ first t = index_local m t 0 some in
    elim (cases_Bool (slice_index t 1 == first t && slice_index t 2 == first t)) [
      | inl three ↦
          rw (head, three_local m t quote, three, drop-append-le 3 t (91 ∷ m) (three_long t quote three), trim_local m (drop 3 t))
          (body_local (first t) true (length t) other positive (length (on m t)) m (trim_newline (drop 3 t)) a r (longer m t) (rw three at e))
      | inr one ↦ rw (head, three_local m t quote, one) (one_line_local m t a r quote (rw one at e))
    ]

pub starts_local : (m t : List ℕ) → 0 < length t → starts_string (on m t) ≡ starts_string t
starts_local m [] some = absurd (omega arith)
starts_local m (c ∷ t) some = refl

pub simple_key_some : (t : List ℕ) (a r : List ℕ) → simple_key t ≡ Some (a, r) → 0 < length t
unfolding simple_key
simple_key_some [] a r e = absurd (none-some _ e)
simple_key_some (c ∷ t) a r e = omega arith

pub simple_key_local : IsLocal simple_key
unfolding simple_key
simple_key_local m t a r e =
    let some : 0 < length t = simple_key_some t a r e in
    let head : first (on m t) ≡ first t = index_local m t 0 some in
    elim (cases_Bool (starts_string t)) [
      | inl quote ↦ rw (starts_local m t some, quote) (one_line_local m t a r quote (rw quote at e))
      | inr bare ↦
          let (ok, same) = cond_some (is_bare (first t)) (split_while is_bare t) (a, r) (rw bare at e) in
          let (value, rest) = pair_parts (split_while is_bare t) a r same in
          let whole : split_while is_bare (on m t) ≡ (a, on m r) = split_local is_bare m t refl ∙ rw (value, rest) in
          rw (starts_local m t some, bare, head, ok) (ap Some whole)
    ]

-- whether a byte comes next
pub test_local : (k : ℕ) (m s : List ℕ) → (91 == k) ≡ false → (0 == k) ≡ false → (first (on m s) == k) ≡ (first s == k)
test_local k m [] other zero_not = rw (other, zero_not)
test_local k m (c ∷ s) other zero_not = refl

pub test_some : (k : ℕ) (s : List ℕ) → (0 == k) ≡ false → (first s == k) ≡ true → 0 < length s
test_some k [] zero_not h = absurd (true≢false (sym h ∙ zero_not))
test_some k (c ∷ s) zero_not h = omega arith

abbrev pub after_part : ℕ → List (List ℕ) → List ℕ × List ℕ → Read Key
after_part n path part = cond (first (skip_ws part.1) == 46) (key_after n (path ++ part.0 ∷ []) (skip_ws (drop 1 (skip_ws part.1)))) (Some ((path, part.0), skip_ws part.1))

part_local : (n : ℕ) (path : List (List ℕ)) → ((p : List (List ℕ)) → IsLocal (key_after n p)) → (m : List ℕ) (part : List ℕ × List ℕ) (a : Key) (r : List ℕ)
    → after_part n path part ≡ Some (a, r) → after_part n path (part.0, on m part.1) ≡ Some (a, on m r)
part_local n path ih m part a r e =
    let s = skip_ws part.1 in
    elim (cases_Bool (first s == 46)) [
      | inl point ↦
          let some : 0 < length s = test_some 46 s refl point in
          rw (skip_ws_local m part.1, test_local 46 m s refl refl, point, drop_one m s some, skip_ws_local m (drop 1 s))
          (ih (path ++ part.0 ∷ []) m (skip_ws (drop 1 s)) a r (rw point at e))
      | inr last ↦
          let (value, rest) = pair_parts ((path, part.0), s) a r (same_Some _ _ (rw last at e)) in
          rw (skip_ws_local m part.1, test_local 46 m s refl refl, last, value, rest)
    ]

pub key_after_local : (n : ℕ) (path : List (List ℕ)) → IsLocal (key_after n path)
unfolding key_after
key_after_local zero path m t a r e = absurd (none-some _ e)
key_after_local (suc n) path m t a r e =
    let (part, found, more) = then_some (after_part n path) (simple_key t) (a, r) e in
    rw (simple_key_local m t part.0 part.1 found) (part_local n path (λ p. key_after_local n p) m part a r more)

pub key_local : IsLocal key
key_local m t a r e = key_after_local recursion_limit [] m t a r e

word_after : (m t : List ℕ) (n : ℕ) → n ≤ length t → (slice_index (on m t) n == 32 && is_ascii_digit (slice_index (on m t) (n + 1))) ≡ (slice_index t n == 32 && is_ascii_digit (slice_index t (n + 1)))
word_after m [] zero fits = refl
word_after m [] (suc n) fits = absurd (omega arith)
word_after m (c ∷ []) zero fits = refl
word_after m (c ∷ d ∷ t) zero fits = refl
word_after m (c ∷ t) (suc n) fits =
    let next : suc n + 1 ≡ suc (n + 1) = omega arith in
    rw next (word_after m t n (omega arith))

pub digit_within : (t : List ℕ) (n : ℕ) → is_ascii_digit (slice_index t n) ≡ true → n < length t
digit_within [] n h = absurd (false≢true h)
digit_within (c ∷ t) zero h = omega arith
digit_within (c ∷ t) (suc n) h = let more = digit_within t n h in omega arith

pub word_len_local : (m t : List ℕ) → (word_len (on m t) ≡ word_len t) × (word_len t ≤ length t)
unfolding word_len
word_len_local m t =
    let len = prefix_len is_word t in
    let short : len ≤ length t = prefix_len-le-length is_word t in
    let same : prefix_len is_word (on m t) ≡ len = prefix_local is_word m t refl in
    elim (cases_Bool (slice_index t len == 32 && is_ascii_digit (slice_index t (len + 1)))) [
      | inl both ↦
          let (_, digit) = and_parts (slice_index t len == 32) (is_ascii_digit (slice_index t (len + 1))) both in
          let within : len + 1 < length t = digit_within t (len + 1) digit in
          let more : prefix_len is_word (drop (len + 1) t) ≤ length (drop (len + 1) t) = prefix_len-le-length is_word (drop (len + 1) t) in (
            rw (same, word_after m t len short, both, drop-append-le (len + 1) t (91 ∷ m) (omega arith), prefix_local is_word m (drop (len + 1) t) refl),
            rw both (omega (arith, length-drop (len + 1) t)),
          )
      | inr one ↦ (rw (same, word_after m t len short, one), rw one short)
    ]

pub unquoted_local : IsLocal unquoted
unfolding unquoted
unquoted_local m t a r e =
    let (same, short) = word_len_local m t in
    elim (cases_Bool (word_len t == 0)) [
      | inl empty ↦ absurd (none-some _ (rw empty at e))
      | inr some ↦
          let (x, found, parts) = map_some (λ d. (d, drop (word_len t) t)) (word_value (take (word_len t) t)) (a, r) (rw some at e) in
          let (value, rest) = pair_parts (x, drop (word_len t) t) a r parts in
          rw (same, some, take-append-le (word_len t) t (91 ∷ m) short, drop-append-le (word_len t) t (91 ∷ m) short, found, value, rest)
    ]
