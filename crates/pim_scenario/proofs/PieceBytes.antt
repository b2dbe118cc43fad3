-- What is read at the front of a text is read there too where a bracket follows the text.
use Rattle.std.{proofs.{Common.{◌≡◌, ℕ, ◌<◌, ◌≤◌, Bool, true, false, List, [], ◌∷◌, ◌++◌, length, slice_index, Option, Some, None, is_some, unwrap_or, option_map, option_and_then, refl, ap, inl, inr, arith}, lemmas.{Bool.{cases_Bool, Decides.nat_tests}, Option.{none-some, same_Some}, List.{get_or_append_left, take-append-le, drop-append-le, Sums.prefix_len-le-length}}}, specs.List.prefix_len}
use Rattle.toml_parser.{specs.Lexical.{Read, first, is_ws, split_while, starts_newline, skip_ws, skip_turn, skip_from, skip_lines}}

-- this text, and a bracket after it
abbrev pub on : List ℕ → List ℕ → List ℕ
on m t = t ++ 91 ∷ m

-- what was read, with the bracket after the rest
abbrev pub IsLocal : {A : Type 0} → (List ℕ → Read A) → Type 0
IsLocal {A} f = (m t : List ℕ) (a : A) (r : List ℕ) → f t ≡ Some (a, r) → f (on m t) ≡ Some (a, on m r)

pub then_some : {A B : Type 0} (g : A → Option B) (o : Option A) (b : B) → option_and_then g o ≡ Some b → (a : A) × (o ≡ Some a) × (g a ≡ Some b)
then_some g None b e = absurd (none-some b e)
then_some g (Some a) b e = (a, refl, e)

pub map_some : {A B : Type 0} (g : A → B) (o : Option A) (b : B) → option_map g o ≡ Some b → (a : A) × (o ≡ Some a) × (g a ≡ b)
map_some g None b e = absurd (none-some b e)
map_some g (Some a) b e = (a, refl, same_Some _ b e)

pub prefix_local : (p : ℕ → Bool) (m t : List ℕ) → p 91 ≡ false → prefix_len p (on m t) ≡ prefix_len p t
prefix_local p m [] stop = rw stop
prefix_local p m (c ∷ t) stop = rw (prefix_local p m t stop)

pub split_local : (p : ℕ → Bool) (m t : List ℕ) → p 91 ≡ false → split_while p (on m t) ≡ ((split_while p t).0, on m (split_while p t).1)
split_local p m t stop =
    let short : prefix_len p t ≤ length t = prefix_len-le-length p t in
    rw (prefix_local p m t stop, take-append-le (prefix_len p t) t (91 ∷ m) short, drop-append-le (prefix_len p t) t (91 ∷ m) short)

pub skip_ws_local : (m t : List ℕ) → skip_ws (on m t) ≡ on m (skip_ws t)
unfolding skip_ws
skip_ws_local m t = ap (λ p. p.1) (split_local is_ws m t refl)

-- a byte further on
pub index_local : (m t : List ℕ) (i : ℕ) → i < length t → slice_index (on m t) i ≡ slice_index t i
index_local m t i within = get_or_append_left t (91 ∷ m) 0 i within

turn_local : (comments inside : Bool) (c : ℕ) (m t : List ℕ) → skip_turn comments inside c (first (on m t)) ≡ skip_turn comments inside c (first t)
turn_local comments inside c m [] = refl
turn_local comments inside c m (d ∷ t) = refl

pub newline_local : (m t : List ℕ) → starts_newline (on m t) ≡ starts_newline t
newline_local m [] = refl
newline_local m (a ∷ []) = refl
newline_local m (a ∷ b ∷ t) = refl

-- where something is left after blanks
pub skip_from_local : (comments inside : Bool) (m t : List ℕ) → 0 < length (skip_from comments inside t) → skip_from comments inside (on m t) ≡ on m (skip_from comments inside t)
unfolding skip_from
skip_from_local comments inside m [] some = absurd (omega arith)
skip_from_local comments inside m (c ∷ t) some =
    elim (cases_Bool (is_some (skip_turn comments inside c (first t)))) [
      | inl go ↦ rw (turn_local comments inside c m t, go) (skip_from_local comments (unwrap_or (skip_turn comments inside c (first t)) false) m t (rw go at some))
      | inr stop ↦ rw (turn_local comments inside c m t, stop)
    ]

lines_turn : (c next : ℕ) → is_some (skip_turn false false c next) ≡ true → unwrap_or (skip_turn false false c next) false ≡ false
lines_turn c next h = grind (arith, nat_tests)

pub skip_lines_local : (m t : List ℕ) → skip_lines (on m t) ≡ on m (skip_lines t)
unfolding skip_from
skip_lines_local m [] = refl
skip_lines_local m (c ∷ t) =
    elim (cases_Bool (is_some (skip_turn false false c (first t)))) [
      | inl go ↦ rw (turn_local false false c m t, go, lines_turn c (first t) go) (skip_lines_local m t)
      | inr stop ↦ rw (turn_local false false c m t, stop)
    ]
