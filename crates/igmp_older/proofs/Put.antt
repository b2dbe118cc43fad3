-- Rows whose keys rise, put into an empty table one after the other, are that table.
use Rattle.std.{proofs.{Common.{◌≡◌, ◌∙◌, [], ◌∷◌, ◌++◌, fold, refl, sym, ap, subst, append_assoc}, lemmas.List.append-nil}, specs.{List.{AllByRecursion, Sorted.IsStrictlySortedBy}, Ordering.ordering_reverse, declared.cmp.Ordering.Ordering}}
use Rattle.pim_types.{specs.{Keys.key_cmp, declared.fact.Key.Key}, proofs.Keys.key_cmp_total}
use Rattle.pim_model.{specs.Tables.{Table, keys_in, put}}
use Rattle.igmp_older.{specs.{Presence.put_rows, declared.mode.PresentRow.PresentRow}}

greater : (q k : Key) → key_cmp q k ≡ Ordering.Less → key_cmp k q ≡ Ordering.Greater
greater q k less = key_cmp_total.antisymm k q ∙ ap ordering_reverse less

put_behind : (t : Table PresentRow) (k : Key) (row : PresentRow) → AllByRecursion (λ q. key_cmp q k ≡ Ordering.Less) (keys_in t)
    → put t k row ≡ t ++ (k, row) ∷ []
unfolding put keys_in
put_behind [] k row h = refl
put_behind (e ∷ t) k row h = rw (greater e.0 k h.0, put_behind t k row h.1) refl

at_place : (P : Key → Type 0) (front : Table PresentRow) (e : Key × PresentRow) (rest : Table PresentRow)
    → AllByRecursion P (keys_in (front ++ e ∷ rest)) → P e.0
unfolding keys_in
at_place P [] e rest h = h.0
at_place P (x ∷ front) e rest h = at_place P front e rest h.1

before : (front : Table PresentRow) (e : Key × PresentRow) (rest : Table PresentRow)
    → IsStrictlySortedBy key_cmp (keys_in (front ++ e ∷ rest)) → AllByRecursion (λ q. key_cmp q e.0 ≡ Ordering.Less) (keys_in front)
unfolding keys_in IsStrictlySortedBy
before [] e rest h = tt
before (x ∷ front) e rest h = (at_place (λ q. key_cmp x.0 q ≡ Ordering.Less) front e rest h.0, before front e rest h.1)

goes_on : (front rest : Table PresentRow) → IsStrictlySortedBy key_cmp (keys_in (front ++ rest))
    → fold (λ (t : Table PresentRow) (e : Key × PresentRow). put t e.0 e.1) front rest ≡ front ++ rest
goes_on front [] h = sym (append-nil front)
goes_on front (e ∷ rest) h =
    let one : put front e.0 e.1 ≡ front ++ e ∷ [] = put_behind front e.0 e.1 (before front e rest h) in
    let joined : (front ++ e ∷ []) ++ rest ≡ front ++ e ∷ rest = append_assoc front (e ∷ []) rest in
    ap (λ (t : Table PresentRow). fold (λ (t : Table PresentRow) (e : Key × PresentRow). put t e.0 e.1) t rest) one
    ∙ goes_on (front ++ e ∷ []) rest (subst (λ (t : Table PresentRow). IsStrictlySortedBy key_cmp (keys_in t)) (sym joined) h)
    ∙ joined

pub put_rising : (rows : Table PresentRow) → IsStrictlySortedBy key_cmp (keys_in rows) → put_rows rows ≡ rows
unfolding put_rows
put_rising rows h = goes_on [] rows h
