-- Rows whose keys rise, put into an empty table one after the other, are that table.
use Rattle.std.{proofs.{Common.{◌≡◌, [], ◌∷◌, ◌++◌, refl, sym, ap, subst, ◌∙◌, append_assoc}, lemmas.List.append-nil}, specs.{List.{AllByRecursion, Sorted.IsStrictlySortedBy}, Ordering.ordering_reverse, declared.cmp.Ordering.Ordering}}
use Rattle.pim_types.{specs.{Keys.key_cmp, declared.fact.Key.Key}, proofs.Keys.key_cmp_total}
use Rattle.pim_model.{specs.Tables.{Table, keys_in, put}}
use Rattle.pim_store.{specs.PimTables.{AllRise, PimTables, no_facts}}
use Rattle.pim_worlds.{specs.Refilled.{all_refilled, refilled}}

greater : (q k : Key) → key_cmp q k ≡ Ordering.Less → key_cmp k q ≡ Ordering.Greater
greater q k less = key_cmp_total.antisymm k q ∙ ap ordering_reverse less

module _ {R : Type 0} where
  put_behind : (t : Table R) (k : Key) (row : R) → AllByRecursion (λ q. key_cmp q k ≡ Ordering.Less) (keys_in t) → put t k row ≡ t ++ (k, row) ∷ []
  unfolding put keys_in
  put_behind [] k row h = refl
  put_behind (e ∷ t) k row h = rw (greater e.0 k h.0, put_behind t k row h.1) refl

  at_place : (P : Key → Type 0) (front : Table R) (e : Key × R) (rest : Table R) → AllByRecursion P (keys_in (front ++ e ∷ rest)) → P e.0
  unfolding keys_in
  at_place P [] e rest h = h.0
  at_place P (x ∷ front) e rest h = at_place P front e rest h.1

  before : (front : Table R) (e : Key × R) (rest : Table R) → IsStrictlySortedBy key_cmp (keys_in (front ++ e ∷ rest)) → AllByRecursion (λ q. key_cmp q e.0 ≡ Ordering.Less) (keys_in front)
  unfolding keys_in IsStrictlySortedBy
  before [] e rest h = tt
  before (x ∷ front) e rest h = (at_place (λ q. key_cmp x.0 q ≡ Ordering.Less) front e rest h.0, before front e rest h.1)

  pub goes_on : (front rest : Table R) → IsStrictlySortedBy key_cmp (keys_in (front ++ rest)) → refilled front rest ≡ front ++ rest
  goes_on front [] h = sym (append-nil front)
  goes_on front (e ∷ rest) h =
      let one : put front e.0 e.1 ≡ front ++ e ∷ [] = put_behind front e.0 e.1 (before front e rest h) in
      let joined : (front ++ e ∷ []) ++ rest ≡ front ++ e ∷ rest = append_assoc front (e ∷ []) rest in
      ap (λ (t : Table R). refilled t rest) one
      ∙ goes_on (front ++ e ∷ []) rest (subst (λ (t : Table R). IsStrictlySortedBy key_cmp (keys_in t)) (sym joined) h)
      ∙ joined

  pub filled : (rows : Table R) → IsStrictlySortedBy key_cmp (keys_in rows) → refilled [] rows ≡ rows
  filled rows h = goes_on [] rows h

pub all_filled : (rows : PimTables) → AllRise rows → all_refilled no_facts rows ≡ rows
all_filled rows h = λ j. record {
  downstream = filled rows.downstream h.downstream j;
  asserts = filled rows.asserts h.asserts j;
  join_timers = filled rows.join_timers h.join_timers j;
  override_timers = filled rows.override_timers h.override_timers j;
  sources = filled rows.sources h.sources j;
  registers = filled rows.registers h.registers j;
}
