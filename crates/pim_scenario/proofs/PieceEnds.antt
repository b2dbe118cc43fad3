-- A text that ends with a newline has it after each value that is read.
use Rattle.std.{proofs.{Common.{◌≡◌, ℕ, zero, suc, ◌+◌, ◌<◌, Bool, true, false, ◌&&◌, ◌==◌, nat_le, nat_lt, List, [], ◌∷◌, ◌++◌, length, take, drop, slice_index, encode_utf8, Option, Some, None, is_some, unwrap_or, option_and_then, refl, sym, ap, ◌∙◌, inl, inr, arith, eqb-true, length-drop}, lemmas.{Bool.{cases_Bool, and_parts, false≢true, Decides.nat_tests}, Option.{none-some, same_Some, cond_some}}}, specs.{List.{prefix_len, list_all}, Char.{is_digit, is_ascii_digit}, Str.Parse.digits_value}}
use Rattle.toml_parser.{specs.{Lexical.{Read, first, is_ws, is_bare, is_word, split_while, starts_newline, skip_ws, skip_turn, skip_from, skip_blank, skip_lines}, Strings.{Key, hex_len, is_scalar, hex_escape, simple_escape, escape_char, escape, is_plain, at_delims, special, after_piece, body, trim_newline, one_line, quoted, starts_string, simple_key, key_after, key, recursion_limit}, Numbers.{word_len, word_value, unquoted}}}
use Rattle.toml.{specs.{Data.{Data, string, array, table, Items, no_items, push_item}, Tables.{Nodes, no_nodes, close, key_value, std_table, array_table, put}, Parse.{read_map, after_byte, after_element, key_equals, keyval, items, members, scalar_data, atom, val, header_key, expression}}}
use Rattle.pim_scenario.{specs.Pieces.ends, proofs.{PieceBytes.{then_some, map_some}, PieceTexts.{pair_parts, quote_facts, prepend_some, special_some, test_some, after_part, digit_within}, PieceValues.{NeedsText, text_some, key_equals_nil, val_nil, marked}}}

abbrev pub Keeps : {A : Type 0} → (List ℕ → Read A) → Type 0
Keeps {A} f = (t : List ℕ) (a : A) (r : List ℕ) → ends t ≡ true → f t ≡ Some (a, r) → ends r ≡ true

-- where something is left
abbrev pub KeepsSome : {A : Type 0} → (List ℕ → Read A) → Type 0
KeepsSome {A} f = (t : List ℕ) (a : A) (r : List ℕ) → ends t ≡ true → 0 < length r → f t ≡ Some (a, r) → ends r ≡ true

ends_drop : (n : ℕ) (t : List ℕ) → ends t ≡ true → n < length t → ends (drop n t) ≡ true
ends_drop n [] h within = absurd (false≢true h)
ends_drop zero (c ∷ t) h within = h
ends_drop (suc n) (c ∷ []) h within = absurd (omega arith)
ends_drop (suc n) (c ∷ d ∷ t) h within = ends_drop n (d ∷ t) h (omega arith)

ends_left : (n : ℕ) (t : List ℕ) → ends t ≡ true → 0 < length (drop n t) → ends (drop n t) ≡ true
ends_left n t h some = ends_drop n t h (omega (arith, length-drop n t))

ends_prefix : (p : ℕ → Bool) (t : List ℕ) → p 10 ≡ false → ends t ≡ true → prefix_len p t < length t
ends_prefix p [] stop h = absurd (false≢true h)
ends_prefix p (c ∷ []) stop h =
    let is : c ≡ 10 = eqb-true c 10 h in
    rw (is, stop) (omega arith)
ends_prefix p (c ∷ d ∷ t) stop h =
    let more = ends_prefix p (d ∷ t) stop h in
    elim (cases_Bool (p c)) [ inl passes ↦ rw passes (omega arith) | inr stops ↦ rw stops (omega arith) ]

ends_run : (p : ℕ → Bool) (t : List ℕ) → p 10 ≡ false → ends t ≡ true → ends (split_while p t).1 ≡ true
ends_run p t stop h = ends_drop (prefix_len p t) t h (ends_prefix p t stop h)

pub ends_ws : (t : List ℕ) → ends t ≡ true → ends (skip_ws t) ≡ true
unfolding skip_ws
ends_ws t h = ends_run is_ws t refl h

pub ends_from : (comments inside : Bool) (t : List ℕ) → ends t ≡ true → 0 < length (skip_from comments inside t) → ends (skip_from comments inside t) ≡ true
unfolding skip_from
ends_from comments inside [] h some = absurd (false≢true h)
ends_from comments inside (c ∷ []) h some =
    elim (cases_Bool (is_some (skip_turn comments inside c 0))) [
      | inl go ↦ absurd (omega (arith, (rw go at some)))
      | inr stop ↦ rw stop h
    ]
ends_from comments inside (c ∷ d ∷ t) h some =
    elim (cases_Bool (is_some (skip_turn comments inside c d))) [
      | inl go ↦ rw go (ends_from comments (unwrap_or (skip_turn comments inside c d) false) (d ∷ t) h (rw go at some))
      | inr stop ↦ rw stop h
    ]

-- after a byte that is no newline
ends_byte : (k : ℕ) (t : List ℕ) → (10 == k) ≡ false → (first t == k) ≡ true → ends t ≡ true → ends (drop 1 t) ≡ true
ends_byte k [] other here h = absurd (false≢true h)
ends_byte k (c ∷ []) other here h =
    let is : c ≡ 10 = eqb-true c 10 h in
    let same : c ≡ k = eqb-true c k here in
    absurd (grind (arith, nat_tests))
ends_byte k (c ∷ d ∷ t) other here h = h

hex_rest : (n : ℕ) (t : List ℕ) (a : ℕ) (r : List ℕ) → hex_escape n t ≡ Some (a, r) → drop n t ≡ r
unfolding hex_escape
hex_rest n t a r e =
    let digits = take n t in
    let (whole, same) = cond_some ((nat_le n (length t) && list_all (λ c. is_digit c 16) digits) && is_scalar (digits_value 16 digits)) (digits_value 16 digits, drop n t) (a, r) e in
    let (value, rest) = pair_parts (digits_value 16 digits, drop n t) a r same in
    rest

-- what is left after some bytes
left_kept : (n : ℕ) (t r : List ℕ) → drop n t ≡ r → ends t ≡ true → 0 < length r → ends r ≡ true
left_kept n t r rest h some = rw (← rest) (ends_left n t h (rw (← rest) at some))

escape_char_kept : KeepsSome escape_char
unfolding escape_char
escape_char_kept [] a r h some e = absurd (false≢true h)
escape_char_kept (c ∷ t) a r h some e =
    elim (cases_Bool (nat_lt 0 (hex_len c))) [
      | inl hex ↦ left_kept (suc (hex_len c)) (c ∷ t) r (hex_rest (hex_len c) t a r (rw hex at e)) h some
      | inr plain ↦
          let (x, found, same) = map_some (λ x. (x, t)) (simple_escape c) (a, r) (rw plain at e) in
          let (value, rest) = pair_parts (x, t) a r same in
          left_kept 1 (c ∷ t) r rest h some
    ]

escape_kept : (multi : Bool) → KeepsSome (escape multi)
unfolding escape
escape_kept multi t a r h some e =
    elim (cases_Bool (multi && starts_newline (skip_ws t))) [
      | inl cut ↦
          let (value, rest) = pair_parts ([], skip_lines t) a r (same_Some _ _ (rw cut at e)) in
          rw (← rest) (ends_from false false t h (rw (← rest) at some))
      | inr plain ↦
          let (x, found, same) = map_some (λ p. (encode_utf8 p.0, p.1)) (escape_char t) (a, r) (rw plain at e) in
          let (value, rest) = pair_parts (encode_utf8 x.0, x.1) a r same in
          escape_char_kept t x.0 r h some (found ∙ ap (λ y. Some (x.0, y)) rest)
    ]

-- a piece leaves what ends so, if anything; the end of the string leaves something
delims_left : (delim : ℕ) → KeepsSome (at_delims delim)
delims_left delim t a r h some e =
    elim (cases_Bool (prefix_len (λ c. c == delim) t == 3)) [
      | inl three ↦
          let (value, rest) = pair_parts (None, drop 3 t) a r (same_Some _ _ (rw three at e)) in
          left_kept 3 t r rest h some
      | inr not_three ↦
          let (few, same) = cond_some (nat_lt (prefix_len (λ c. c == delim) t) 6) (Some (delim ∷ []), drop 1 t) (a, r) (rw not_three at e) in
          let (value, rest) = pair_parts (Some (delim ∷ []), drop 1 t) a r same in
          left_kept 1 t r rest h some
    ]

escape_long : (multi : Bool) (t : List ℕ) (x : List ℕ × List ℕ) → escape multi t ≡ Some x → 0 < length t
unfolding escape skip_ws escape_char
escape_long false [] x e = absurd (none-some x e)
escape_long true [] x e = absurd (none-some x e)
escape_long multi (c ∷ t) x e = omega arith

delims_end : (delim : ℕ) (t r : List ℕ) → (delim == 10) ≡ false → ends t ≡ true → at_delims delim t ≡ Some (None, r) → ends r ≡ true
delims_end delim t r other h e =
    let stop : (10 == delim) ≡ false = grind (arith, nat_tests) in
    let within : prefix_len (λ c. c == delim) t < length t = ends_prefix (λ c. c == delim) t stop h in
    elim (cases_Bool (prefix_len (λ c. c == delim) t == 3)) [
      | inl three ↦
          let (value, rest) = pair_parts (None, drop 3 t) None r (same_Some _ _ (rw three at e)) in
          let is_three : prefix_len (λ c. c == delim) t ≡ 3 = eqb-true _ 3 three in
          rw (← rest) (ends_drop 3 t h (omega arith))
      | inr not_three ↦
          let (few, same) = cond_some (nat_lt (prefix_len (λ c. c == delim) t) 6) (Some (delim ∷ []), drop 1 t) (None, r) (rw not_three at e) in
          let (value, rest) = pair_parts (Some (delim ∷ []), drop 1 t) None r same in
          absurd (none-some _ (sym value))
    ]

-- the end of the string
special_end : (delim : ℕ) (multi : Bool) (t r : List ℕ) → (delim == 10) ≡ false → ends t ≡ true → special delim multi t ≡ Some (None, r) → ends r ≡ true
unfolding special
special_end delim multi t r other h e =
    elim (cases_Bool (first t == delim)) [
      | inl closing ↦
          elim (cases_Bool multi) [
            | inl three ↦ delims_end delim t r other h (rw (closing, three) at e)
            | inr one ↦
                let (value, rest) = pair_parts (None, drop 1 t) None r (same_Some _ _ (rw (closing, one) at e)) in
                rw (← rest) (ends_byte delim t (grind (arith, nat_tests)) closing h)
          ]
      | inr inside ↦
          elim (cases_Bool (first t == 92)) [
            | inl slash ↦
                let (x, found, same) = map_some (λ p. (Some p.0, p.1)) (escape multi (drop 1 t)) (None, r) (rw (inside, slash) at e) in
                let (value, rest) = pair_parts (Some x.0, x.1) None r same in
                absurd (none-some _ (sym value))
            | inr plain ↦
                let (odd, same) = cond_some (multi && starts_newline t) (Some (first t ∷ []), drop 1 t) (None, r) (rw (inside, plain) at e) in
                let (value, rest) = pair_parts (Some (first t ∷ []), drop 1 t) None r same in
                absurd (none-some _ (sym value))
          ]
    ]

-- a piece leaves what ends so, if anything
special_left : (delim : ℕ) (multi : Bool) → (delim == 10) ≡ false → KeepsSome (special delim multi)
unfolding special
special_left delim multi other t a r h some e =
    elim (cases_Bool (first t == delim)) [
      | inl closing ↦
          elim (cases_Bool multi) [
            | inl three ↦ delims_left delim t a r h some (rw (closing, three) at e)
            | inr one ↦
                let (value, rest) = pair_parts (None, drop 1 t) a r (same_Some _ _ (rw (closing, one) at e)) in
                left_kept 1 t r rest h some
          ]
      | inr inside ↦
          elim (cases_Bool (first t == 92)) [
            | inl slash ↦
                let (x, found, same) = map_some (λ p. (Some p.0, p.1)) (escape multi (drop 1 t)) (a, r) (rw (inside, slash) at e) in
                let (value, rest) = pair_parts (Some x.0, x.1) a r same in
                escape_kept multi (drop 1 t) x.0 r (ends_left 1 t h (escape_long multi (drop 1 t) x found)) some (found ∙ ap (λ y. Some (x.0, y)) rest)
            | inr plain ↦
                let (odd, same) = cond_some (multi && starts_newline t) (Some (first t ∷ []), drop 1 t) (a, r) (rw (inside, plain) at e) in
                let (value, rest) = pair_parts (Some (first t ∷ []), drop 1 t) a r same in
                left_kept 1 t r rest h some
          ]
    ]

body_some : (delim : ℕ) (multi : Bool) (n : ℕ) (x : List ℕ × List ℕ) → 0 < delim → body delim multi n [] ≡ Some x → ⊥
unfolding body
body_some delim multi zero x positive e = none-some x e
body_some delim multi (suc n) x positive e =
    let odd : is_plain delim multi 0 ≡ false = grind (arith, nat_tests) in
    let (p, found, more) = then_some (λ p. after_piece (body delim multi n) p.0 p.1) (special delim multi []) x (rw odd at e) in
    absurd (omega (arith, special_some delim multi [] p.0 p.1 positive found))

body_long : (delim : ℕ) (multi : Bool) (n : ℕ) (t : List ℕ) (x : List ℕ × List ℕ) → 0 < delim → body delim multi n t ≡ Some x → 0 < length t
body_long delim multi n [] x positive e = absurd (body_some delim multi n x positive e)
body_long delim multi n (c ∷ t) x positive e = omega arith

abbrev BodyKept : ℕ → Bool → ℕ → Type 0
BodyKept delim multi n = Keeps (body delim multi n)

piece_kept : (delim : ℕ) (multi : Bool) (n : ℕ) (t : List ℕ) (piece : Option (List ℕ)) (next a r : List ℕ) → (delim == 10) ≡ false → 0 < delim → BodyKept delim multi n → ends t ≡ true
    → special delim multi t ≡ Some (piece, next) → after_piece (body delim multi n) piece next ≡ Some (a, r) → ends r ≡ true
piece_kept delim multi n t None next a r other positive ih h found e =
    let (value, rest) = pair_parts ([], next) a r (same_Some _ _ e) in
    rw (← rest) (special_end delim multi t next other h found)
piece_kept delim multi n t (Some bytes) next a r other positive ih h found e =
    let (b, read, whole) = prepend_some bytes (body delim multi n next) a r e in
    ih next b r (special_left delim multi other t (Some bytes) next h (body_long delim multi n next (b, r) positive read) found) read

body_kept : (delim : ℕ) (multi : Bool) (n : ℕ) → (delim == 10) ≡ false → 0 < delim → BodyKept delim multi n
unfolding body
body_kept delim multi zero other positive t a r h e = absurd (none-some _ e)
body_kept delim multi (suc n) other positive t a r h e =
    elim (cases_Bool (is_plain delim multi (first t))) [
      | inl plain ↦
          let (b, read, whole) = prepend_some (first t ∷ []) (body delim multi n (drop 1 t)) a r (rw plain at e) in
          body_kept delim multi n other positive (drop 1 t) b r (ends_left 1 t h (body_long delim multi n (drop 1 t) (b, r) positive read)) read
      | inr odd ↦
          let (p, found, more) = then_some (λ p. after_piece (body delim multi n) p.0 p.1) (special delim multi t) (a, r) (rw odd at e) in
          piece_kept delim multi n t p.0 p.1 a r other positive (body_kept delim multi n other positive) h found more
    ]

delim_other : (t : List ℕ) → starts_string t ≡ true → (first t == 10) ≡ false
delim_other [] h = refl
delim_other (c ∷ t) h = grind (arith, nat_tests)

one_line_kept : (t a r : List ℕ) → starts_string t ≡ true → ends t ≡ true → one_line t ≡ Some (a, r) → ends r ≡ true
unfolding one_line
one_line_kept t a r quote h e =
    let (some, other, positive) = quote_facts t quote in
    body_kept (first t) false (length t) (delim_other t quote) positive (drop 1 t) a r (ends_left 1 t h (body_long (first t) false (length t) (drop 1 t) (a, r) positive e)) e

trim_kept : (t : List ℕ) → ends t ≡ true → 0 < length (trim_newline t) → ends (trim_newline t) ≡ true
trim_kept t h some =
    elim (cases_Bool (first t == 10)) [
      | inl fed ↦ rw fed (ends_left 1 t h (rw fed at some))
      | inr other ↦ elim (cases_Bool (starts_newline t)) [
        | inl both ↦ rw (both, other) (ends_left 2 t h (rw (both, other) at some))
        | inr none ↦ rw (none, other) h
      ]
    ]

trim_long : (t : List ℕ) → 0 < length (trim_newline t) → 0 < length t
trim_long [] some = some
trim_long (c ∷ t) some = omega arith

quoted_kept : (t a r : List ℕ) → starts_string t ≡ true → ends t ≡ true → quoted t ≡ Some (a, r) → ends r ≡ true
unfolding quoted
quoted_kept t a r quote h e =
    let (some, other, positive) = quote_facts t quote in
    elim (cases_Bool (slice_index t 1 == first t && slice_index t 2 == first t)) [
      | inl three ↦
          let s = drop 3 t in
          let read : body (first t) true (length t) (trim_newline s) ≡ Some (a, r) = rw three at e in
          let long : 0 < length (trim_newline s) = body_long (first t) true (length t) (trim_newline s) (a, r) positive read in
          body_kept (first t) true (length t) (delim_other t quote) positive (trim_newline s) a r
          (trim_kept s (ends_left 3 t h (trim_long s long)) long) read
      | inr one ↦ one_line_kept t a r quote h (rw one at e)
    ]

simple_key_kept : Keeps simple_key
unfolding simple_key
simple_key_kept t a r h e =
    elim (cases_Bool (starts_string t)) [
      | inl quote ↦ one_line_kept t a r quote h (rw quote at e)
      | inr bare ↦
          let (ok, same) = cond_some (is_bare (first t)) (split_while is_bare t) (a, r) (rw bare at e) in
          let (value, rest) = pair_parts (split_while is_bare t) a r same in
          rw (← rest) (ends_run is_bare t refl h)
    ]

part_kept : (n : ℕ) (path : List (List ℕ)) → ((p : List (List ℕ)) → Keeps (key_after n p)) → (part : List ℕ × List ℕ) (a : Key) (r : List ℕ) → ends part.1 ≡ true
    → after_part n path part ≡ Some (a, r) → ends r ≡ true
part_kept n path ih part a r h e =
    let s = skip_ws part.1 in
    let kept : ends s ≡ true = ends_ws part.1 h in
    elim (cases_Bool (first s == 46)) [
      | inl point ↦ ih (path ++ part.0 ∷ []) (skip_ws (drop 1 s)) a r (ends_ws (drop 1 s) (ends_byte 46 s refl point kept)) (rw point at e)
      | inr last ↦
          let (value, rest) = pair_parts ((path, part.0), s) a r (same_Some _ _ (rw last at e)) in
          rw (← rest) kept
    ]

key_after_kept : (n : ℕ) (path : List (List ℕ)) → Keeps (key_after n path)
unfolding key_after
key_after_kept zero path t a r h e = absurd (none-some _ e)
key_after_kept (suc n) path t a r h e =
    let (part, found, more) = then_some (after_part n path) (simple_key t) (a, r) e in
    part_kept n path (λ p. key_after_kept n p) part a r (simple_key_kept t part.0 part.1 h found) more

key_kept : Keeps key
key_kept t a r h e = key_after_kept recursion_limit [] t a r h e

word_short : (t : List ℕ) → ends t ≡ true → word_len t < length t
unfolding word_len
word_short t h =
    let len = prefix_len is_word t in
    let short : len < length t = ends_prefix is_word t refl h in
    elim (cases_Bool (slice_index t len == 32 && is_ascii_digit (slice_index t (len + 1)))) [
      | inl both ↦
          let (_, digit) = and_parts (slice_index t len == 32) (is_ascii_digit (slice_index t (len + 1))) both in
          let within : len + 1 < length t = digit_within t (len + 1) digit in
          let kept : ends (drop (len + 1) t) ≡ true = ends_drop (len + 1) t h within in
          let more : prefix_len is_word (drop (len + 1) t) < length (drop (len + 1) t) = ends_prefix is_word (drop (len + 1) t) refl kept in
          rw both (omega (arith, length-drop (len + 1) t))
      | inr one ↦ rw one short
    ]

unquoted_kept : Keeps unquoted
unfolding unquoted
unquoted_kept t a r h e =
    elim (cases_Bool (word_len t == 0)) [
      | inl empty ↦ absurd (none-some _ (rw empty at e))
      | inr some ↦
          let (x, found, parts) = map_some (λ d. (d, drop (word_len t) t)) (word_value (take (word_len t) t)) (a, r) (rw some at e) in
          let (value, rest) = pair_parts (x, drop (word_len t) t) a r parts in
          rw (← rest) (ends_drop (word_len t) t h (word_short t h))
    ]

read_map_kept : {A B : Type 0} (f : A → B) (g : List ℕ → Read A) → Keeps g → Keeps (λ t. read_map f (g t))
read_map_kept f g kept t a r h e =
    let (x, found, same) = map_some (λ p. (f p.0, p.1)) (g t) (a, r) e in
    let (value, rest) = pair_parts (f x.0, x.1) a r same in
    kept t x.0 r h (found ∙ ap (λ y. Some (x.0, y)) rest)

after_byte_kept : (k : ℕ) (t r : List ℕ) → (10 == k) ≡ false → ends t ≡ true → after_byte k t ≡ Some r → ends r ≡ true
after_byte_kept k t r other h e =
    let (here, rest) = cond_some (first t == k) (drop 1 t) r e in
    rw (← rest) (ends_byte k t other here h)

after_element_kept : (closing : ℕ) (t r : List ℕ) → (0 == closing) ≡ false → ends t ≡ true → after_element closing t ≡ Some r → ends r ≡ true
unfolding after_element
after_element_kept closing t r zero_not h e =
    let s = skip_blank t in
    elim (cases_Bool (first s == 44)) [
      | inl comma ↦
          let kept : ends s ≡ true = ends_from true false t h (test_some 44 s refl comma) in
          let rest : drop 1 s ≡ r = same_Some _ _ (rw comma at e) in
          rw (← rest) (ends_byte 44 s refl comma kept)
      | inr no_comma ↦
          let (here, rest) = cond_some (first s == closing) s r (rw no_comma at e) in
          rw (← rest) (ends_from true false t h (test_some closing s zero_not here))
    ]

marked_kept : {A : Type 0} (x : A) (g : List ℕ → List ℕ) (k : ℕ) (t : List ℕ) (a : A) (r : List ℕ) → ((s : List ℕ) → ends s ≡ true → ends (g s) ≡ true) → (10 == k) ≡ false → ends t ≡ true
    → marked x g k t ≡ Some (a, r) → ends r ≡ true
marked_kept {A} x g k t a r kept other h e =
    let (s, after, same) = map_some {B = A × List ℕ} (λ rest. (x, g rest)) (after_byte k t) (a, r) e in
    let (value, rest) = pair_parts (x, g s) a r same in
    rw (← rest) (kept s (after_byte_kept k t s other h after))

key_equals_kept : Keeps key_equals
unfolding key_equals
key_equals_kept t a r h e =
    let (k, found, more) = then_some (λ k. marked k.0 skip_ws 61 k.1) (key t) (a, r) e in
    marked_kept k.0 skip_ws 61 k.1 a r ends_ws refl (key_kept t k.0 k.1 h found) more

keyval_kept : (v : List ℕ → Read Data) → Keeps v → Keeps (keyval v)
keyval_kept v kept t a r h e =
    let (k, found, more) = then_some (λ k. read_map (λ d. (k.0, d)) (v k.1)) (key_equals t) (a, r) e in
    read_map_kept (λ d. (k.0, d)) v kept k.1 a r (key_equals_kept t k.0 k.1 h found) more

items_kept : (v : List ℕ → Read Data) → Keeps v → NeedsText v → (n : ℕ) (found : Items) → Keeps (items v n found)
unfolding items
items_kept v kept none zero found t a r h e = absurd (none-some _ e)
items_kept v kept none (suc n) found t a r h e =
    let s = skip_blank t in
    elim (cases_Bool (first s == 93)) [
      | inl closing ↦
          let here : ends s ≡ true = ends_from true false t h (test_some 93 s refl closing) in
          let (value, rest) = pair_parts (found, drop 1 s) a r (same_Some _ _ (rw closing at e)) in
          rw (← rest) (ends_byte 93 s refl closing here)
      | inr other ↦
          let (x, read, more) = then_some (λ x. option_and_then (items v n (push_item found x.0)) (after_element 93 x.1)) (v s) (a, r) (rw other at e) in
          let (next, after, last) = then_some (items v n (push_item found x.0)) (after_element 93 x.1) (a, r) more in
          let here : ends s ≡ true = ends_from true false t h (text_some v s x none read) in
          items_kept v kept none n (push_item found x.0) next a r (after_element_kept 93 x.1 next refl (kept s x.0 x.1 here read) after) last
    ]

members_kept : (v : List ℕ → Read Data) → Keeps v → (n : ℕ) (found : Nodes) → Keeps (members v n found)
unfolding members
members_kept v kept zero found t a r h e = absurd (none-some _ e)
members_kept v kept (suc n) found t a r h e =
    let s = skip_blank t in
    elim (cases_Bool (first s == 125)) [
      | inl closing ↦
          let here : ends s ≡ true = ends_from true false t h (test_some 125 s refl closing) in
          let (value, rest) = pair_parts (close found, drop 1 s) a r (same_Some _ _ (rw closing at e)) in
          rw (← rest) (ends_byte 125 s refl closing here)
      | inr other ↦
          let (x, read, more) = then_some (λ x. option_and_then (λ more. option_and_then (members v n more) (after_element 125 x.1)) (put x.0.0 x.0.1 found)) (keyval v s) (a, r) (rw other at e) in
          let (new, edited, rest) = then_some (λ more. option_and_then (members v n more) (after_element 125 x.1)) (put x.0.0 x.0.1 found) (a, r) more in
          let (next, after, last) = then_some (members v n new) (after_element 125 x.1) (a, r) rest in
          let here : ends s ≡ true = ends_from true false t h (text_some (keyval v) s x (rw key_equals_nil) read) in
          members_kept v kept n new next a r (after_element_kept 125 x.1 next refl (keyval_kept v kept s x.0 x.1 here read) after) last
    ]

atom_kept : Keeps atom
unfolding atom
atom_kept t a r h e =
    elim (cases_Bool (starts_string t)) [
      | inl quote ↦
          let (x, found, same) = map_some (λ p. (string p.0, p.1)) (quoted t) (a, r) (rw quote at e) in
          let (value, rest) = pair_parts (string x.0, x.1) a r same in
          rw (← rest) (quoted_kept t x.0 x.1 quote h found)
      | inr word ↦ read_map_kept scalar_data unquoted unquoted_kept t a r h (rw word at e)
    ]

val_kept : (depth : ℕ) → Keeps (val depth)
unfolding val
val_kept zero t a r h e = atom_kept t a r h e
val_kept (suc depth) t a r h e =
    elim (cases_Bool (first t == 91)) [
      | inl bracket ↦
          let (x, found, same) = map_some (λ p. (array p.0, p.1)) (items (val depth) (length t) no_items (drop 1 t)) (a, r) (rw bracket at e) in
          let (value, rest) = pair_parts (array x.0, x.1) a r same in
          rw (← rest) (items_kept (val depth) (val_kept depth) (val_nil depth) (length t) no_items (drop 1 t) x.0 x.1 (ends_byte 91 t refl bracket h) found)
      | inr other ↦
          elim (cases_Bool (first t == 123)) [
            | inl brace ↦
                let (x, found, same) = map_some (λ p. (table p.0, p.1)) (members (val depth) (length t) no_nodes (drop 1 t)) (a, r) (rw (other, brace) at e) in
                let (value, rest) = pair_parts (table x.0, x.1) a r same in
                rw (← rest) (members_kept (val depth) (val_kept depth) (length t) no_nodes (drop 1 t) x.0 x.1 (ends_byte 123 t refl brace h) found)
            | inr plain ↦ atom_kept t a r h (rw (other, plain) at e)
          ]
    ]

header_key_kept : Keeps header_key
unfolding header_key
header_key_kept t a r h e =
    let (k, found, more) = then_some (λ k. marked k.0 (λ s. s) 93 k.1) (key (skip_ws t)) (a, r) e in
    marked_kept k.0 (λ s. s) 93 k.1 a r (λ s kept. kept) refl (key_kept (skip_ws t) k.0 k.1 (ends_ws t h) found) more

two_kept : (t : List ℕ) → (first t == 91) ≡ true → (slice_index t 1 == 91) ≡ true → ends t ≡ true → ends (drop 2 t) ≡ true
two_kept [] one two h = absurd (false≢true h)
two_kept (c ∷ []) one two h = absurd (false≢true two)
two_kept (c ∷ d ∷ t) one two h = ends_byte 91 (d ∷ t) refl two h

pub expression_kept : Keeps expression
unfolding expression
expression_kept t a r h e =
    elim (cases_Bool (first t == 91)) [
      | inl bracket ↦
          elim (cases_Bool (slice_index t 1 == 91)) [
            | inl two ↦
                let (k, found, more) = then_some (λ k. marked (k.0, array_table) (λ s. s) 93 k.1) (header_key (drop 2 t)) (a, r) (rw (bracket, two) at e) in
                marked_kept (k.0, array_table) (λ s. s) 93 k.1 a r (λ s kept. kept) refl (header_key_kept (drop 2 t) k.0 k.1 (two_kept t bracket two h) found) more
            | inr one ↦ read_map_kept (λ k. (k, std_table)) header_key header_key_kept (drop 1 t) a r (ends_byte 91 t refl bracket h) (rw (bracket, one) at e)
          ]
      | inr plain ↦
          read_map_kept (λ p. (p.0, key_value p.1)) (keyval (val recursion_limit)) (keyval_kept (val recursion_limit) (val_kept recursion_limit)) t a r h (rw plain at e)
    ]
