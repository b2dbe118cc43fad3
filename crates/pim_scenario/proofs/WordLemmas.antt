-- A text has one list of words.
use Rattle.std.{proofs.{Common.{◌≡◌, ◌<◌, ℕ, true, false, not, List, [], ◌∷◌, ◌++◌, length, map, sym, ap, subst, refl, ◌∙◌, arith, append_assoc, length-append}, lemmas.Str.{encode_same, length-encode, len_utf8_bounds}}, specs.{Borrow.Bor, Char.{encode_utf8, is_whitespace, is_not_whitespace}, Str.{NoCharPasses, NonePass, EmptyOrStartsWithPassing, encode_utf8_all}}}
use Rattle.pim_scenario.{specs.Words.{IsNextWord, AreWords}}

-- white space and another character differ
apart : (c d : ℕ) → is_not_whitespace c ≡ false → is_whitespace d ≡ false → c ≡ d → ⊥
apart c d white other same =
    let is : is_not_whitespace c ≡ true = rw same (ap not other) in
    cc

encoded : (c : ℕ) (rest : List ℕ) → 0 < length (encode_utf8 c ++ rest)
encoded c rest = omega (arith, length-append (encode_utf8 c) rest, length-encode c, (len_utf8_bounds c).0)

-- what begins with white space, if it is anything, does not begin with another character
no_start : (d : ℕ) (rest later cs : List ℕ) → EmptyOrStartsWithPassing is_whitespace rest later
    → is_whitespace d ≡ false → rest ≡ encode_utf8 d ++ cs → ⊥
no_start d rest later cs starts other same =
    let begin = starts (rw same (encoded d cs)) in
    let one : begin.0 ≡ d = (encode_same begin.0 d later cs (sym begin.2 ∙ same)).0 in
    let is : is_whitespace d ≡ true = rw (← one) begin.1 in
    cc

abbrev pub Begins : List ℕ → Type 0
Begins rest = (later : List ℕ) × EmptyOrStartsWithPassing is_whitespace rest later

-- two words at one place are the same
same_word : (w v r s : List ℕ) → NonePass is_whitespace w → NonePass is_whitespace v → Begins r → Begins s
    → encode_utf8_all w ++ r ≡ encode_utf8_all v ++ s → (encode_utf8_all w ≡ encode_utf8_all v) × (r ≡ s)
same_word [] [] r s pw pv br bs e = (refl, e)
same_word [] (d ∷ v) r s pw pv br bs e =
    absurd (no_start d r br.0 _ br.1 pv.0 (e ∙ append_assoc (encode_utf8 d) (encode_utf8_all v) s))
same_word (c ∷ w) [] r s pw pv br bs e =
    absurd (no_start c s bs.0 _ bs.1 pw.0 (sym e ∙ append_assoc (encode_utf8 c) (encode_utf8_all w) r))
same_word (c ∷ w) (d ∷ v) r s pw pv br bs e =
    let both = encode_same c d (encode_utf8_all w ++ r) (encode_utf8_all v ++ s)
    (sym (append_assoc (encode_utf8 c) (encode_utf8_all w) r) ∙ e ∙ append_assoc (encode_utf8 d) (encode_utf8_all v) s) in
    let more = same_word w v r s pw.1 pv.1 br bs both.1 in
    (rw (both.0, more.0) refl, more.1)

-- two words after white space are the same
same_next : (g h w v r s : List ℕ) → NonePass is_not_whitespace g → NonePass is_not_whitespace h
    → NonePass is_whitespace w → NonePass is_whitespace v → 0 < length (encode_utf8_all w) → 0 < length (encode_utf8_all v)
    → Begins r → Begins s
    → encode_utf8_all g ++ (encode_utf8_all w ++ r) ≡ encode_utf8_all h ++ (encode_utf8_all v ++ s)
    → (encode_utf8_all w ≡ encode_utf8_all v) × (r ≡ s)
same_next [] [] w v r s pg ph pw pv lw lv br bs e = same_word w v r s pw pv br bs e
same_next (c ∷ g) (d ∷ h) w v r s pg ph pw pv lw lv br bs e =
    same_next g h w v r s pg.1 ph.1 pw pv lw lv br bs
    (encode_same c d _ _ (sym (append_assoc (encode_utf8 c) (encode_utf8_all g) (encode_utf8_all w ++ r)) ∙ e
    ∙ append_assoc (encode_utf8 d) (encode_utf8_all h) (encode_utf8_all v ++ s))).1
same_next [] (d ∷ h) [] v r s pg ph pw pv lw lv br bs e = absurd (omega arith)
same_next [] (d ∷ h) (c ∷ w) v r s pg ph pw pv lw lv br bs e =
    absurd (apart d c ph.0 pw.0 (sym (encode_same c d _ _ (sym (append_assoc (encode_utf8 c) (encode_utf8_all w) r) ∙ e
    ∙ append_assoc (encode_utf8 d) (encode_utf8_all h) (encode_utf8_all v ++ s))).0))
same_next (c ∷ g) [] w [] r s pg ph pw pv lw lv br bs e = absurd (omega arith)
same_next (c ∷ g) [] w (d ∷ v) r s pg ph pw pv lw lv br bs e =
    absurd (apart c d pg.0 pv.0 ((encode_same c d _ _ (sym (append_assoc (encode_utf8 c) (encode_utf8_all g) (encode_utf8_all w ++ r)) ∙ e
    ∙ append_assoc (encode_utf8 d) (encode_utf8_all v) s)).0))

-- white space alone has no next word
no_next : (cs g w r : List ℕ) → NonePass is_not_whitespace cs → NonePass is_whitespace w → 0 < length (encode_utf8_all w)
    → encode_utf8_all cs ≡ encode_utf8_all g ++ (encode_utf8_all w ++ r) → ⊥
no_next cs g [] r pc pw lw e = omega arith
no_next [] [] (d ∷ w) r pc pw lw e =
    let none : 0 ≡ length ((encode_utf8 d ++ encode_utf8_all w) ++ r) = ap length e in
    omega (arith, length-append (encode_utf8 d ++ encode_utf8_all w) r)
no_next [] (b ∷ g) (d ∷ w) r pc pw lw e =
    let none : 0 ≡ length ((encode_utf8 b ++ encode_utf8_all g) ++ ((encode_utf8 d ++ encode_utf8_all w) ++ r)) = ap length e in
    omega (
      arith,
      length-append (encode_utf8 b ++ encode_utf8_all g) ((encode_utf8 d ++ encode_utf8_all w) ++ r),
      length-append (encode_utf8 d ++ encode_utf8_all w) r,
    )
no_next (c ∷ cs) [] (d ∷ w) r pc pw lw e =
    apart c d pc.0 pw.0 (encode_same c d _ _ (e ∙ append_assoc (encode_utf8 d) (encode_utf8_all w) r)).0
no_next (c ∷ cs) (b ∷ g) (d ∷ w) r pc pw lw e =
    no_next cs g (d ∷ w) r pc.1 pw lw
    (encode_same c b _ _ (e ∙ append_assoc (encode_utf8 b) (encode_utf8_all g) (encode_utf8_all (d ∷ w) ++ r))).1

next_once : (text v w r s : List ℕ) → IsNextWord text v r → IsNextWord text w s → (v ≡ w) × (r ≡ s)
next_once text v w r s one two =
    let gv = one.blank in
    let gw = two.blank in
    let pv = one.whole in
    let pw = two.whole in
    let lv : 0 < length (encode_utf8_all pv.0) = rw pv.1 one.some in
    let lw : 0 < length (encode_utf8_all pw.0) = rw pw.1 two.some in
    let e : encode_utf8_all gv.0 ++ (encode_utf8_all pv.0 ++ r) ≡ encode_utf8_all gw.0 ++ (encode_utf8_all pw.0 ++ s) =
    rw (gv.1, gw.1, pv.1, pw.1) (sym one.split ∙ two.split) in
    let same = same_next gv.0 gw.0 pv.0 pw.0 r s gv.2 gw.2 pv.2 pw.2 lv lw one.after two.after e in
    (sym pv.1 ∙ same.0 ∙ pw.1, same.1)

next_none : (text v r : List ℕ) → AreWords text [] → IsNextWord text v r → ⊥
next_none text v r none one =
    let gv = one.blank in
    let pv = one.whole in
    let lv : 0 < length (encode_utf8_all pv.0) = rw pv.1 one.some in
    let e : encode_utf8_all none.0 ≡ encode_utf8_all gv.0 ++ (encode_utf8_all pv.0 ++ r) =
    rw (none.1, gv.1, pv.1) one.split in
    no_next none.0 gv.0 pv.0 r none.2 pv.2 lv e

pub one_list : (text : List ℕ) (vs ws : List (List ℕ)) → AreWords text vs → AreWords text ws → vs ≡ ws
one_list text [] [] a b = refl
one_list text [] (w ∷ ws) a b = absurd (next_none text w b.0 a b.1)
one_list text (v ∷ vs) [] a b = absurd (next_none text v a.0 b a.1)
one_list text (v ∷ vs) (w ∷ ws) a b =
    let same = next_once text v w a.0 b.0 a.1 b.1 in
    let more : vs ≡ ws = one_list a.0 vs ws a.2 (subst (λ (t : List ℕ). AreWords t ws) (sym same.1) b.2) in
    rw (same.0, more) refl

-- what the iterator says of a word, as the record
pub next_word : (text word rest : List ℕ) → (gap : List ℕ) × (text ≡ gap ++ (word ++ rest)) × (0 < length word)
    × NoCharPasses is_not_whitespace gap × NoCharPasses is_whitespace word × Begins rest → IsNextWord text word rest
next_word text word rest item =
    record { gap = item.0; split = item.1; some = item.2; blank = item.3; whole = item.4; after = item.5 }

-- one word more was taken
pub words_more : (text old rest : List ℕ) (seen new : List (Bor (List ℕ))) (word : Bor (List ℕ))
    → ((more : List (List ℕ)) → AreWords old more → AreWords text (map (λ (w : Bor (List ℕ)). w.now) seen ++ more))
    → IsNextWord old word.now rest → new ≡ seen ++ word ∷ []
    → (more : List (List ℕ)) → AreWords rest more → AreWords text (map (λ (w : Bor (List ℕ)). w.now) new ++ more)
words_more text old rest seen new word before next put more after =
    rw (put) (subst (AreWords text) (regroup seen) (before (word.now ∷ more) (rest, next, after)))
  where
    regroup : (xs : List (Bor (List ℕ))) → map (λ (w : Bor (List ℕ)). w.now) xs ++ word.now ∷ more
        ≡ map (λ (w : Bor (List ℕ)). w.now) (xs ++ word ∷ []) ++ more
    regroup [] = refl
    regroup (x ∷ xs) = ap (λ (l : List (List ℕ)). x.now ∷ l) (regroup xs)
