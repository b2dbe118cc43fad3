-- A document that is read piece by piece.
use Rattle.std.{proofs.{Common.{◌≡◌, ◌⊎◌, ℕ, zero, suc, ◌+◌, ◌<◌, ◌≤◌, Bool, true, false, cond, ◌==◌, List, [], ◌∷◌, length, Some, None, is_some, unwrap_or, option_and_then, ap, ◌∙◌, subst, inl, inr, arith, length-append}, lemmas.{Bool.{cases_Bool, false≢true, Decides.nat_tests}, Option.{none-some, same_Some, cond_some}}}}
use Rattle.toml_parser.{specs.Lexical.{skip_ws, skip_turn, skip_from, skip_blank}}
use Rattle.toml.{specs.{Tables.{Expression, Document, define}, Parse.{expression, ends_line, line, lines}}}
use Rattle.pim_scenario.{proofs.{PieceBytes.{on, then_some, skip_ws_local}, PieceValues.{blank_local, expression_local}, PieceEnds.{ends_ws, ends_from, expression_kept}}, specs.Pieces.ends}

ends_some : (t : List ℕ) → ends t ≡ true → 0 < length t
ends_some [] h = absurd (false≢true h)
ends_some (c ∷ t) h = omega arith

ends_line_local : (m s : List ℕ) → 0 < length s → ends_line (on m s) ≡ ends_line s
ends_line_local m [] some = absurd (omega arith)
ends_line_local m (c ∷ s) some =
    let long : (length (on m (c ∷ s)) == 0) ≡ false = grind (arith, nat_tests) in
    let short : (length (c ∷ s) == 0) ≡ false = grind (arith, nat_tests) in
    rw (long, short)

line_parts : (t : List ℕ) (a : Expression) (r : List ℕ) → line t ≡ Some (a, r) → (expression t ≡ Some (a, r)) × (ends_line (skip_ws r) ≡ true)
unfolding line
line_parts t a r e =
    let (x, found, more) = then_some (λ (x : Expression × List ℕ). cond (ends_line (skip_ws x.1)) (Some x) None) (expression t) (a, r) e in
    let (over, same) = cond_some (ends_line (skip_ws x.1)) x (a, r) more in
    (found ∙ ap (λ (p : Expression × List ℕ). Some p) same, subst (λ (p : Expression × List ℕ). ends_line (skip_ws p.1) ≡ true) same over)

line_local : (m t : List ℕ) (a : Expression) (r : List ℕ) → ends t ≡ true → line t ≡ Some (a, r) → (line (on m t) ≡ Some (a, on m r)) × (ends r ≡ true)
unfolding line
line_local m t a r h e =
    let (found, over) = line_parts t a r e in
    let kept : ends r ≡ true = expression_kept t a r h found in
    let some : 0 < length (skip_ws r) = ends_some (skip_ws r) (ends_ws r kept) in
    (rw (expression_local m t a r found, skip_ws_local m r, ends_line_local m (skip_ws r) some, over), kept)

-- blanks up to the newline at the end
blank_over : (inside : Bool) (m t : List ℕ) → ends t ≡ true → length (skip_from true inside t) ≡ 0 → skip_from true inside (on m t) ≡ 91 ∷ m
unfolding skip_from
blank_over inside m [] h none = absurd (false≢true h)
blank_over inside m (c ∷ []) h none = rw h
blank_over inside m (c ∷ d ∷ t) h none =
    elim (cases_Bool (is_some (skip_turn true inside c d))) [
      | inl go ↦ rw go (blank_over (unwrap_or (skip_turn true inside c d) false) m (d ∷ t) h (rw go at none))
      | inr stop ↦ absurd (omega (arith, (rw stop at none)))
    ]

-- how a document that is read alone stands to the one that holds it, while it is read
pub record Stands (R : Document → Document → Type 0) (Bad : Document → Type 0) : Type 0 where
  pub step : (d w : Document) (e : Expression) (next : Document) → R d w → define d e ≡ Some next → Bad next ⊎ ((far : Document) × (define w e ≡ Some far) × R next far)
  pub worse : (d : Document) (e : Expression) (next : Document) → Bad d → define d e ≡ Some next → Bad next

bad_lines : (R : Document → Document → Type 0) (Bad : Document → Type 0) → Stands R Bad → (n : ℕ) (d : Document) (t : List ℕ) (f : Document) → Bad d → lines n d t ≡ Some f → Bad f
unfolding lines
bad_lines R Bad stands zero d t f bad e = absurd (none-some f e)
bad_lines R Bad stands (suc n) d t f bad e =
    let s = skip_blank t in
    elim (cases_Bool (length s == 0)) [
      | inl over ↦ subst Bad (same_Some d f (rw over at e)) bad
      | inr more ↦
          let (x, read, rest) = then_some (λ (x : Expression × List ℕ). option_and_then (λ next. lines n next x.1) (define d x.0)) (line s) f (rw more at e) in
          let (next, made, last) = then_some (λ next. lines n next x.1) (define d x.0) f rest in
          bad_lines R Bad stands n next x.1 f (stands.worse d x.0 next bad made) last
    ]

-- what is left to read of the whole, after as many lines
abbrev pub GoesOn : ℕ → Document → List ℕ → Document → List ℕ → Type 0
GoesOn n w t far rest = (k : ℕ) → (j : ℕ) × (k ≤ j) × (lines (n + k) w t ≡ lines (suc j) far rest)

abbrev pub IsReadOn : (R : Document → Document → Type 0) (Bad : Document → Type 0) → ℕ → List ℕ → Type 0
IsReadOn R Bad n m = (d w : Document) (t : List ℕ) (f : Document) → R d w → ends t ≡ true → lines n d t ≡ Some f
    → Bad f ⊎ ((far : Document) × R f far × GoesOn n w (on m t) far (91 ∷ m))

lines_step : (R : Document → Document → Type 0) (Bad : Document → Type 0) → Stands R Bad → (n : ℕ) (m : List ℕ) → IsReadOn R Bad n m → (w : Document) (t : List ℕ) (f : Document) (x : Expression × List ℕ) (next : Document)
    → ends t ≡ true → (length (skip_blank t) == 0) ≡ false → line (skip_blank t) ≡ Some x → lines n next x.1 ≡ Some f → Bad next ⊎ ((far : Document) × (define w x.0 ≡ Some far) × R next far)
    → Bad f ⊎ ((far : Document) × R f far × GoesOn (suc n) w (on m t) far (91 ∷ m))
unfolding lines
lines_step R Bad stands n m ih w t f x next h more read last (inl bad) = inl (bad_lines R Bad stands n next x.1 f bad last)
lines_step R Bad stands n m ih w t f x next h more read last (inr stood) =
    let s = skip_blank t in
    let (far, made, related) = stood in
    let some : 0 < length s = grind (arith, nat_tests) in
    let here : ends s ≡ true = ends_from true false t h some in
    let (one, after) = line_local m s x.0 x.1 here read in
    let long : (length (on m s) == 0) ≡ false = grind (arith, nat_tests, length-append s (91 ∷ m)) in
    elim (ih next far x.1 f related after last) [
      | inl bad ↦ inl bad
      | inr found ↦ inr (
        found.0,
        found.1,
        λ k.
            let (j, fits, whole) = found.2 k in
            let add : suc n + k ≡ suc (n + k) = omega arith in
            (j, fits, rw (add, blank_local m t some, long, one, made) whole),
      )
    ]

pub lines_on : (R : Document → Document → Type 0) (Bad : Document → Type 0) → Stands R Bad → (n : ℕ) (m : List ℕ) → IsReadOn R Bad n m
unfolding lines skip_from
lines_on R Bad stands zero m d w t f related h e = absurd (none-some f e)
lines_on R Bad stands (suc n) m d w t f related h e =
    let s = skip_blank t in
    elim (cases_Bool (length s == 0)) [
      | inl over ↦
          let same : d ≡ f = same_Some d f (rw over at e) in
          let none : length s ≡ 0 = grind (arith, nat_tests) in
          inr (
            w,
            subst (λ x. R x w) same related,
            λ k.
                let add : suc n + k ≡ suc (n + k) = omega arith in
                (n + k, omega arith, rw (add, blank_over false m t h none)),
          )
      | inr more ↦
          let (x, read, rest) = then_some (λ (x : Expression × List ℕ). option_and_then (λ next. lines n next x.1) (define d x.0)) (line s) f (rw more at e) in
          let (next, made, last) = then_some (λ next. lines n next x.1) (define d x.0) f rest in
          lines_step R Bad stands n m (lines_on R Bad stands n m) w t f x next h more read last (stands.step d w x.0 next related made)
    ]

-- the same to the end of the text
abbrev pub IsReadOut : (R : Document → Document → Type 0) (Bad : Document → Type 0) → ℕ → Type 0
IsReadOut R Bad n = (d w : Document) (t : List ℕ) (f : Document) → R d w → lines n d t ≡ Some f
    → Bad f ⊎ ((far : Document) × R f far × ((k : ℕ) → lines (n + k) w t ≡ Some far))

out_step : (R : Document → Document → Type 0) (Bad : Document → Type 0) → Stands R Bad → (n : ℕ) → IsReadOut R Bad n → (w : Document) (t : List ℕ) (f : Document) (x : Expression × List ℕ) (next : Document)
    → (length (skip_blank t) == 0) ≡ false → line (skip_blank t) ≡ Some x → lines n next x.1 ≡ Some f → Bad next ⊎ ((far : Document) × (define w x.0 ≡ Some far) × R next far)
    → Bad f ⊎ ((far : Document) × R f far × ((k : ℕ) → lines (suc n + k) w t ≡ Some far))
unfolding lines
out_step R Bad stands n ih w t f x next more read last (inl bad) = inl (bad_lines R Bad stands n next x.1 f bad last)
out_step R Bad stands n ih w t f x next more read last (inr stood) =
    let (far, made, related) = stood in
    elim (ih next far x.1 f related last) [
      | inl bad ↦ inl bad
      | inr found ↦ inr (
        found.0,
        found.1,
        λ k.
            let add : suc n + k ≡ suc (n + k) = omega arith in
            rw (add, more, read, made) (found.2 k),
      )
    ]

pub lines_out : (R : Document → Document → Type 0) (Bad : Document → Type 0) → Stands R Bad → (n : ℕ) → IsReadOut R Bad n
unfolding lines
lines_out R Bad stands zero d w t f related e = absurd (none-some f e)
lines_out R Bad stands (suc n) d w t f related e =
    let s = skip_blank t in
    elim (cases_Bool (length s == 0)) [
      | inl over ↦
          let same : d ≡ f = same_Some d f (rw over at e) in
          inr (
            w,
            subst (λ x. R x w) same related,
            λ k.
                let add : suc n + k ≡ suc (n + k) = omega arith in
                rw (add, over),
          )
      | inr more ↦
          let (x, read, rest) = then_some (λ (x : Expression × List ℕ). option_and_then (λ next. lines n next x.1) (define d x.0)) (line s) f (rw more at e) in
          let (next, made, last) = then_some (λ next. lines n next x.1) (define d x.0) f rest in
          out_step R Bad stands n (lines_out R Bad stands n) w t f x next more read last (stands.step d w x.0 next related made)
    ]
