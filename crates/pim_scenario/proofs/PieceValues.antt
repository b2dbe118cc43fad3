-- Values and lines before a bracket.
use Rattle.std.{proofs.{Common.{◌≡◌, ℕ, zero, suc, ◌<◌, ◌≤◌, true, false, ◌==◌, List, [], ◌∷◌, length, drop, slice_index, Some, None, option_map, option_and_then, refl, sym, ap, ◌∙◌, inl, inr, arith}, lemmas.{Bool.{cases_Bool, false≢true}, Option.{none-some, same_Some, cond_some}, List.drop-append-le}}}
use Rattle.toml_parser.{specs.{Lexical.{Read, first, skip_ws, skip_blank}, Strings.{quoted, starts_string, simple_key, key_after, key, recursion_limit}, Numbers.{word_len, unquoted}}}
use Rattle.toml.{specs.{Data.{Data, string, array, table, Items, no_items, Members, push_item}, Tables.{Nodes, no_nodes, close, Expression, key_value, std_table, array_table, put}, Parse.{read_map, after_byte, after_element, key_equals, keyval, items, members, scalar_data, atom, val, header_key, expression}}}
use Rattle.pim_scenario.{proofs.{PieceBytes.{on, IsLocal, then_some, map_some, skip_ws_local, index_local, skip_from_local}, PieceTexts.{pair_parts, drop_one, longer, starts_local, test_local, test_some, quoted_local, key_local, unquoted_local}}}

pub read_map_local : {A B : Type 0} (f : A → B) (g : List ℕ → Read A) → IsLocal g → IsLocal (λ t. read_map f (g t))
read_map_local f g local m t a r e =
    let (x, found, same) = map_some (λ p. (f p.0, p.1)) (g t) (a, r) e in
    let (value, rest) = pair_parts (f x.0, x.1) a r same in
    rw (local m t x.0 x.1 found, value, rest)

pub after_byte_local : (k : ℕ) (m t r : List ℕ) → (91 == k) ≡ false → (0 == k) ≡ false → after_byte k t ≡ Some r → after_byte k (on m t) ≡ Some (on m r)
after_byte_local k m t r other zero_not e =
    let (here, rest) = cond_some (first t == k) (drop 1 t) r e in
    rw (test_local k m t other zero_not, here, drop_one m t (test_some k t zero_not here), rest)

pub blank_local : (m t : List ℕ) → 0 < length (skip_blank t) → skip_blank (on m t) ≡ on m (skip_blank t)
blank_local m t some = skip_from_local true false m t some

pub after_element_local : (closing : ℕ) (m t r : List ℕ) → (91 == closing) ≡ false → (0 == closing) ≡ false → after_element closing t ≡ Some r → after_element closing (on m t) ≡ Some (on m r)
unfolding after_element
after_element_local closing m t r other zero_not e =
    let s = skip_blank t in
    elim (cases_Bool (first s == 44)) [
      | inl comma ↦
          let some : 0 < length s = test_some 44 s refl comma in
          let rest : drop 1 s ≡ r = same_Some _ _ (rw comma at e) in
          rw (blank_local m t some, test_local 44 m s refl refl, comma, drop_one m s some, rest)
      | inr no_comma ↦
          let (here, rest) = cond_some (first s == closing) s r (rw no_comma at e) in
          let some : 0 < length s = test_some closing s zero_not here in
          rw (blank_local m t some, test_local 44 m s refl refl, no_comma, test_local closing m s other zero_not, here, rest)
    ]

-- a byte, and what is made of the text after it
abbrev pub marked : {A : Type 0} → A → (List ℕ → List ℕ) → ℕ → List ℕ → Read A
marked {A} x g k t = option_map {U = A × List ℕ} (λ rest. (x, g rest)) (after_byte k t)

marked_local : {A : Type 0} (x : A) (g : List ℕ → List ℕ) (k : ℕ) (m t : List ℕ) (a : A) (r : List ℕ) → ((s : List ℕ) → g (on m s) ≡ on m (g s)) → (91 == k) ≡ false → (0 == k) ≡ false
    → marked x g k t ≡ Some (a, r) → marked x g k (on m t) ≡ Some (a, on m r)
marked_local {A} x g k m t a r local other zero_not e =
    let (s, after, same) = map_some {B = A × List ℕ} (λ rest. (x, g rest)) (after_byte k t) (a, r) e in
    rw (after_byte_local k m t s other zero_not after, local s) (ap (λ (p : A × List ℕ). Some (p.0, on m p.1)) same)

pub key_equals_local : IsLocal key_equals
unfolding key_equals
key_equals_local m t a r e =
    let (k, found, more) = then_some (λ k. option_map (λ rest. (k.0, skip_ws rest)) (after_byte 61 k.1)) (key t) (a, r) e in
    rw (key_local m t k.0 k.1 found) (marked_local k.0 skip_ws 61 m k.1 a r (skip_ws_local m) refl refl more)

pub keyval_local : (v : List ℕ → Read Data) → IsLocal v → IsLocal (keyval v)
keyval_local v local m t a r e =
    let (k, found, more) = then_some (λ k. read_map (λ d. (k.0, d)) (v k.1)) (key_equals t) (a, r) e in
    rw (key_equals_local m t k.0 k.1 found) (read_map_local (λ d. (k.0, d)) v local m k.1 a r more)

-- no value is read of an empty text
abbrev pub NeedsText : {A : Type 0} → (List ℕ → Read A) → Type 0
NeedsText f = f [] ≡ None

pub key_nil : key [] ≡ None
unfolding key_after simple_key
key_nil = refl

pub key_equals_nil : key_equals [] ≡ None
unfolding key_equals
key_equals_nil = rw key_nil

pub text_some : {A : Type 0} (f : List ℕ → Read A) (t : List ℕ) (x : A × List ℕ) → NeedsText f → f t ≡ Some x → 0 < length t
text_some f [] x none e = absurd (none-some x (sym none ∙ e))
text_some f (c ∷ t) x none e = omega arith

items_local : (v : List ℕ → Read Data) → IsLocal v → NeedsText v → (n k : ℕ) (found : Items) (m t : List ℕ) (a : Items) (r : List ℕ) → n ≤ k
    → items v n found t ≡ Some (a, r) → items v k found (on m t) ≡ Some (a, on m r)
unfolding items
items_local v local none zero k found m t a r fits e = absurd (none-some _ e)
items_local v local none (suc n) zero found m t a r fits e = absurd (omega arith)
items_local v local none (suc n) (suc k) found m t a r fits e =
    let s = skip_blank t in
    elim (cases_Bool (first s == 93)) [
      | inl closing ↦
          let some : 0 < length s = test_some 93 s refl closing in
          let (value, rest) = pair_parts (found, drop 1 s) a r (same_Some _ _ (rw closing at e)) in
          rw (blank_local m t some, test_local 93 m s refl refl, closing, drop_one m s some, value, rest)
      | inr other ↦
          let (x, read, more) = then_some (λ x. option_and_then (items v n (push_item found x.0)) (after_element 93 x.1)) (v s) (a, r) (rw other at e) in
          let (next, after, last) = then_some (items v n (push_item found x.0)) (after_element 93 x.1) (a, r) more in
          let some : 0 < length s = text_some v s x none read in
          rw (blank_local m t some, test_local 93 m s refl refl, other, local m s x.0 x.1 read, after_element_local 93 m x.1 next refl refl after)
          (items_local v local none n k (push_item found x.0) m next a r (omega arith) last)
    ]

members_local : (v : List ℕ → Read Data) → IsLocal v → (n k : ℕ) (found : Nodes) (m t : List ℕ) (a : Members) (r : List ℕ) → n ≤ k
    → members v n found t ≡ Some (a, r) → members v k found (on m t) ≡ Some (a, on m r)
unfolding members
members_local v local zero k found m t a r fits e = absurd (none-some _ e)
members_local v local (suc n) zero found m t a r fits e = absurd (omega arith)
members_local v local (suc n) (suc k) found m t a r fits e =
    let s = skip_blank t in
    elim (cases_Bool (first s == 125)) [
      | inl closing ↦
          let some : 0 < length s = test_some 125 s refl closing in
          let (value, rest) = pair_parts (close found, drop 1 s) a r (same_Some _ _ (rw closing at e)) in
          rw (blank_local m t some, test_local 125 m s refl refl, closing, drop_one m s some, value, rest)
      | inr other ↦
          let (x, read, more) = then_some (λ x. option_and_then (λ more. option_and_then (members v n more) (after_element 125 x.1)) (put x.0.0 x.0.1 found)) (keyval v s) (a, r) (rw other at e) in
          let (new, edited, rest) = then_some (λ more. option_and_then (members v n more) (after_element 125 x.1)) (put x.0.0 x.0.1 found) (a, r) more in
          let (next, after, last) = then_some (members v n new) (after_element 125 x.1) (a, r) rest in
          let some : 0 < length s = text_some (keyval v) s x (rw key_equals_nil) read in
          rw (blank_local m t some, test_local 125 m s refl refl, other, keyval_local v local m s x.0 x.1 read, edited, after_element_local 125 m x.1 next refl refl after)
          (members_local v local n k new m next a r (omega arith) last)
    ]

pub atom_nil : atom [] ≡ None
unfolding atom unquoted word_len
atom_nil = refl

pub atom_local : IsLocal atom
unfolding atom
atom_local m t a r e =
    let some : 0 < length t = text_some atom t (a, r) atom_nil e in
    elim (cases_Bool (starts_string t)) [
      | inl quote ↦
          let (x, found, same) = map_some (λ p. (string p.0, p.1)) (quoted t) (a, r) (rw quote at e) in
          let (value, rest) = pair_parts (string x.0, x.1) a r same in
          rw (starts_local m t some, quote, quoted_local m t x.0 x.1 quote found, value, rest)
      | inr word ↦ rw (starts_local m t some, word) (read_map_local scalar_data unquoted unquoted_local m t a r (rw word at e))
    ]

pub val_nil : (depth : ℕ) → val depth [] ≡ None
unfolding val
val_nil zero = atom_nil
val_nil (suc depth) = atom_nil

pub val_local : (depth : ℕ) → IsLocal (val depth)
unfolding val
val_local zero m t a r e = atom_local m t a r e
val_local (suc depth) m t a r e =
    let some : 0 < length t = text_some (val (suc depth)) t (a, r) (val_nil (suc depth)) e in
    let head : first (on m t) ≡ first t = index_local m t 0 some in
    elim (cases_Bool (first t == 91)) [
      | inl bracket ↦
          let (x, found, same) = map_some (λ p. (array p.0, p.1)) (items (val depth) (length t) no_items (drop 1 t)) (a, r) (rw bracket at e) in
          let (value, rest) = pair_parts (array x.0, x.1) a r same in
          rw (head, bracket, drop_one m t some, items_local (val depth) (val_local depth) (val_nil depth) (length t) (length (on m t)) no_items m (drop 1 t) x.0 x.1 (longer m t) found, value, rest)
      | inr other ↦
          elim (cases_Bool (first t == 123)) [
            | inl brace ↦
                let (x, found, same) = map_some (λ p. (table p.0, p.1)) (members (val depth) (length t) no_nodes (drop 1 t)) (a, r) (rw (other, brace) at e) in
                let (value, rest) = pair_parts (table x.0, x.1) a r same in
                rw (head, other, brace, drop_one m t some, members_local (val depth) (val_local depth) (length t) (length (on m t)) no_nodes m (drop 1 t) x.0 x.1 (longer m t) found, value, rest)
            | inr plain ↦ rw (head, other, plain) (atom_local m t a r (rw (other, plain) at e))
          ]
    ]

pub header_key_local : IsLocal header_key
unfolding header_key
header_key_local m t a r e =
    let (k, found, more) = then_some (λ k. option_map (λ rest. (k.0, rest)) (after_byte 93 k.1)) (key (skip_ws t)) (a, r) e in
    rw (skip_ws_local m t, key_local m (skip_ws t) k.0 k.1 found) (marked_local k.0 (λ s. s) 93 m k.1 a r (λ s. refl) refl refl more)

pub expression_nil : expression [] ≡ None
unfolding expression
expression_nil = rw key_equals_nil

pub header_key_nil : header_key [] ≡ None
unfolding header_key skip_ws
header_key_nil = rw key_nil

-- a bracket alone is no expression
bracket_alone : (c : ℕ) (x : Expression × List ℕ) → (c == 91) ≡ true → expression (c ∷ []) ≡ Some x → ⊥
unfolding expression
bracket_alone c x bracket e = none-some x (sym (rw (bracket, header_key_nil)) ∙ e)

second_local : (m t : List ℕ) (x : Expression × List ℕ) → 0 < length t → expression t ≡ Some x → (first t == 91) ≡ true → slice_index (on m t) 1 ≡ slice_index t 1
second_local m [] x some e bracket = absurd (omega arith)
second_local m (c ∷ []) x some e bracket = absurd (bracket_alone c x bracket e)
second_local m (c ∷ d ∷ t) x some e bracket = refl

pub two_long : (t : List ℕ) → (slice_index t 1 == 91) ≡ true → 2 ≤ length t
two_long [] h = absurd (false≢true h)
two_long (c ∷ []) h = absurd (false≢true h)
two_long (c ∷ d ∷ t) h = omega arith

bracket_local : (m t : List ℕ) (a : Expression) (r : List ℕ) → 0 < length t → (first t == 91) ≡ true → slice_index (on m t) 1 ≡ slice_index t 1 → expression t ≡ Some (a, r) → expression (on m t) ≡ Some (a, on m r)
unfolding expression
bracket_local m t a r some bracket second e =
    let head : first (on m t) ≡ first t = index_local m t 0 some in
    elim (cases_Bool (slice_index t 1 == 91)) [
      | inl two ↦
          let (k, found, more) = then_some (λ k. option_map (λ rest. ((k.0, array_table), rest)) (after_byte 93 k.1)) (header_key (drop 2 t)) (a, r) (rw (bracket, two) at e) in
          rw (head, second, bracket, two, drop-append-le 2 t (91 ∷ m) (two_long t two), header_key_local m (drop 2 t) k.0 k.1 found)
          (marked_local (k.0, array_table) (λ s. s) 93 m k.1 a r (λ s. refl) refl refl more)
      | inr one ↦
          rw (head, second, bracket, one, drop_one m t some) (read_map_local (λ k. (k, std_table)) header_key header_key_local m (drop 1 t) a r (rw (bracket, one) at e))
    ]

pair_local : (m t : List ℕ) (a : Expression) (r : List ℕ) → 0 < length t → (first t == 91) ≡ false → expression t ≡ Some (a, r) → expression (on m t) ≡ Some (a, on m r)
unfolding expression
pair_local m t a r some plain e =
    let head : first (on m t) ≡ first t = index_local m t 0 some in
    rw (head, plain) (read_map_local (λ p. (p.0, key_value p.1)) (keyval (val recursion_limit)) (keyval_local (val recursion_limit) (val_local recursion_limit)) m t a r (rw plain at e))

pub expression_local : IsLocal expression
expression_local m t a r e =
    let some : 0 < length t = text_some expression t (a, r) expression_nil e in
    elim (cases_Bool (first t == 91)) [
      | inl bracket ↦ bracket_local m t a r some bracket (second_local m t (a, r) some e bracket) e
      | inr plain ↦ pair_local m t a r some plain e
    ]
