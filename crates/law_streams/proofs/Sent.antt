-- How many packets messages become, with the Hellos that are owed.
use Rattle.std.{proofs.Common.{◌≡◌, ℕ, ◌+◌, ◌<◌, ◌≤◌, ◌&&◌, ◌||◌, Bool, true, false, cond, List, [], ◌∷◌, ◌++◌, length, refl, arith, length-append, eq-eqb}, specs.List.list_any}
use Rattle.pim_types.{specs.{declared.{fact.{InterfaceRow.InterfaceRow, Key.Key}, outcome.Emission.Emission}, Keys.is_on}}
use Rattle.pim_model.{specs.{Messages.Message, Querier.each_in_turn, State.{InterfaceTable, State}, Tables.Table, Writing.{all_written, hello_emission, hello_paid, hellos_paid, is_hello_owed, with_owed_hello, write_all, written}}}
use Rattle.law_settled.{proofs.{ListLaws.by_cond, TableLaws.row_is_there}}
use Rattle.law_streams.{specs.Answers.{owed, owed_among}}

-- ---- what is paid is owed no longer

abbrev is_owed : Key × InterfaceRow → Bool
is_owed e = (e.1).is_hello_owed

abbrev is_owed_on : ℕ → Key × InterfaceRow → Bool
is_owed_on i e = is_on i e.0 && is_owed e

abbrev paid : Bool → Key × InterfaceRow → Key × InterfaceRow
paid b e = cond b (let p : Key × InterfaceRow = (e.0, record e.1 { is_hello_owed = false }) in p) e

module _ (x : Key × InterfaceRow) (xs ys : Table InterfaceRow) where
  paid_step : (b c : Bool) → (x.1).is_hello_owed ≡ c → owed_among ys ≤ owed_among xs
      → owed_among (paid b x ∷ ys) ≤ owed_among (x ∷ xs)
  unfolding owed_among
  paid_step b c e le = grind arith

  fewer_step : (b c : Bool) → (x.1).is_hello_owed ≡ c → owed_among ys ≤ owed_among xs
      → (b && c) ≡ true → owed_among (paid b x ∷ ys) < owed_among (x ∷ xs)
  unfolding owed_among
  fewer_step b c e le here = grind arith

  still_step : (b c : Bool) → (x.1).is_hello_owed ≡ c → owed_among ys < owed_among xs
      → owed_among (paid b x ∷ ys) < owed_among (x ∷ xs)
  unfolding owed_among
  still_step b c e le = grind arith

no_more_owed : (i : ℕ) (rows : Table InterfaceRow) → owed_among (hellos_paid i rows) ≤ owed_among rows
unfolding hellos_paid owed_among
no_more_owed i [] = omega arith
no_more_owed i (x ∷ xs) = paid_step x xs (hellos_paid i xs) (is_on i x.0) _ refl (no_more_owed i xs)

fewer_owed : (i : ℕ) (rows : Table InterfaceRow) → list_any (is_owed_on i) rows ≡ true
    → owed_among (hellos_paid i rows) < owed_among rows
unfolding hellos_paid owed_among
fewer_owed i [] e = cc
fewer_owed i (x ∷ xs) e = go (fewer_owed i xs) (is_owed_on i x) refl e
  where
    go : (list_any (is_owed_on i) xs ≡ true → owed_among (hellos_paid i xs) < owed_among xs)
        → (b : Bool) → is_owed_on i x ≡ b → (b || list_any (is_owed_on i) xs) ≡ true
        → owed_among (paid (is_on i x.0) x ∷ hellos_paid i xs) < owed_among (x ∷ xs)
    go later true is f = fewer_step x xs (hellos_paid i xs) (is_on i x.0) (x.1).is_hello_owed refl (no_more_owed i xs) is
    go later false is f = still_step x xs (hellos_paid i xs) (is_on i x.0) (x.1).is_hello_owed refl (later f)

owed_there : (t : InterfaceTable) (i : ℕ) → is_hello_owed t i ≡ true → list_any (is_owed_on i) t.rows ≡ true
owed_there t i e = grind (arith, row_is_there, eq-eqb)

-- ---- each message

abbrev Costs : ℕ → InterfaceTable → InterfaceTable × List Emission → Type 0
Costs n t p = length p.1 + owed_among (p.0).rows ≤ n + owed_among t.rows

paid_costs : (t : InterfaceTable) (i : ℕ) → Costs 1 t (hello_paid t i, hello_emission t i ∷ [])
unfolding hello_paid
paid_costs t i = let le : owed_among (hellos_paid i t.rows) ≤ owed_among t.rows = no_more_owed i t.rows in omega (arith, le)

owed_costs : (t : InterfaceTable) (i : ℕ) (m : Emission) → Costs 1 t (with_owed_hello t i m)
unfolding with_owed_hello hello_paid
owed_costs t i m = grind (arith, fewer_owed, owed_there)

one_costs : (t : InterfaceTable) (m : Emission) → Costs 1 t (t, m ∷ [])
one_costs t m = omega arith

written_costs : (t : InterfaceTable) (m : Message) → Costs 1 t (written t m)
unfolding written
written_costs t m = grind (arith, paid_costs, owed_costs, one_costs)

all_cost : (ms : List Message) (t : InterfaceTable) → Costs (length ms) t (all_written t ms)
unfolding all_written each_in_turn
all_cost [] t = omega arith
all_cost (m ∷ ms) t =
    let first : InterfaceTable × List Emission = written t m in
    let later : InterfaceTable × List Emission = all_written first.0 ms in
    let a : length first.1 + owed_among (first.0).rows ≤ 1 + owed_among t.rows = written_costs t m in
    let b : length later.1 + owed_among (later.0).rows ≤ length ms + owed_among (first.0).rows = all_cost ms first.0 in
    let c : length (first.1 ++ later.1) ≡ length first.1 + length later.1 = length-append first.1 later.1 in
    omega (arith, a, b, c)

pub writing_costs : (s : State) (ms : List Message) → length (write_all s ms).1 ≤ length ms + owed s
unfolding write_all
writing_costs s ms = grind (arith, all_cost)

-- ---- at most two packets a message

two_at_most : (t : InterfaceTable) (i : ℕ) (m : Emission) → length (with_owed_hello t i m).1 ≤ 2
unfolding with_owed_hello
two_at_most t i m = by_cond (λ (p : InterfaceTable × List Emission). length p.1 ≤ 2) (is_hello_owed t i) _ _ (omega arith) (omega arith)

written_doubles : (t : InterfaceTable) (m : Message) → length (written t m).1 ≤ 2
unfolding written
written_doubles t m = grind (arith, two_at_most)

all_double : (ms : List Message) (t : InterfaceTable) → length (all_written t ms).1 ≤ length ms + length ms
unfolding all_written each_in_turn
all_double [] t = omega arith
all_double (m ∷ ms) t =
    let first : InterfaceTable × List Emission = written t m in
    let a : length first.1 ≤ 2 = written_doubles t m in
    let b : length (all_written first.0 ms).1 ≤ length ms + length ms = all_double ms first.0 in
    let c = length-append first.1 (all_written first.0 ms).1 in
    omega (arith, a, b, c)

pub writing_doubles : (s : State) (ms : List Message) → length (write_all s ms).1 ≤ length ms + length ms
unfolding write_all
writing_doubles s ms = all_double ms _
