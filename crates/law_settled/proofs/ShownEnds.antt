-- Between two events a state is fine where all ends are later than the present, and the other way round.
use Rattle.std.{proofs.{Common.{◌≡◌, ℕ, suc, ◌<◌, ◌≤◌, nat_lt, nat_le, Bool, true, List, [], ◌∷◌, Option, Some, None, refl, ap, ◌∙◌, arith, eqb-true, eq-eqb, ltb-true, lt-ltb, le-leb}, lemmas.Bool.{or_left, or_right}}, specs.{Cmp.{first_so, second_so, Derive.both_true}, List.{AllByRecursion, list_all}}}
use Rattle.pim_types.{specs.{declared.{fact.Key.Key, timer.TimerKind.TimerKind}, Keys.same_key}, proofs.Keys.same_key_same}
use Rattle.pim_model.{specs.{State.State, Tables.{Table, same_option}, Timers.{Ending, timers}}}
use Rattle.law_settled.{proofs.{ListLaws.either, Ends.{Ends, shows, shows_in, shows_row}, TimerLaws.from_shown, FineTables.Fine, RisingKeys.up_of_sorted, FineStates.Runs}, specs.{Laws.ends_after, Ready.Rises}}

-- ---- ends that are shown

next_moment : (m : ℕ) (xs : List Ending) → list_all (λ (e : Ending). nat_lt m e.end) xs ≡ true
    → list_all (λ (e : Ending). nat_le (suc m) e.end) xs ≡ true
next_moment m [] e = refl
next_moment m (x ∷ xs) e =
    let here : nat_lt m x.end ≡ true = first_so (nat_lt m x.end) (list_all (λ (e : Ending). nat_lt m e.end) xs) e in
    let after : m < x.end = ltb-true m x.end here in
    let rest : list_all (λ (e : Ending). nat_lt m e.end) xs ≡ true =
    second_so (nat_lt m x.end) (list_all (λ (e : Ending). nat_lt m e.end) xs) e in
    both_true (le-leb (suc m) x.end (omega arith)) (next_moment m xs rest)

pub shown_is_later : (m : ℕ) (s : State) → ends_after m s ≡ true → (kind : TimerKind) (k : Key) (x : ℕ)
    → shows kind (Ends k x) s ≡ true → m < x
shown_is_later m s f kind k x e =
    let from : suc m ≤ x = from_shown (suc m) s (next_moment m (timers s) f) kind k x e in omega arith

module _ {R : Type 0} (end_of : R → Option ℕ) (sound : Key × R → Bool) (m : ℕ) where
  abbrev pub RowRuns : Key × R → Type 0
  RowRuns e = Runs (nat_lt m) (end_of e.1)

  row_runs : (x : Key × R) (xs : Table R)
      → ((k : Key) (n : ℕ) → shows_in end_of sound (Ends k n) (x ∷ xs) ≡ true → m < n)
      → (o : Option ℕ) → end_of x.1 ≡ o → Runs (nat_lt m) o
  row_runs x xs h None e = tt
  row_runs x xs h (Some n) e =
      lt-ltb m n
      (h x.0 n
      (or_left (shows_row end_of sound (Ends x.0 n) x) (shows_in end_of sound (Ends x.0 n) xs)
      (both_true (same_key_same x.0)
      (ap (λ (o : Option ℕ). same_option o (Some n)) e ∙ eq-eqb n n refl))))

  pub rows_run : (t : Table R) → ((k : Key) (n : ℕ) → shows_in end_of sound (Ends k n) t ≡ true → m < n)
      → AllByRecursion RowRuns t
  rows_run [] h = tt
  rows_run (x ∷ xs) h = (
    row_runs x xs h (end_of x.1) refl,
    rows_run xs (λ k n e. h k n (or_right (shows_row end_of sound (Ends k n) x) (shows_in end_of sound (Ends k n) xs)
        e)),
  )

  later_row : (n : ℕ) (o : Option ℕ) → Runs (nat_lt m) o → same_option o (Some n) ≡ true → m < n
  later_row n o f e = grind (arith, eqb-true, ltb-true)

  pub runs_later : (t : Table R) → AllByRecursion RowRuns t → (k : Key) (n : ℕ)
      → shows_in end_of sound (Ends k n) t ≡ true → m < n
  runs_later [] f k n e = cc
  runs_later (x ∷ xs) f k n e =
      either (shows_row end_of sound (Ends k n) x) (shows_in end_of sound (Ends k n) xs)
      (λ here. later_row n (end_of x.1) f.0 (second_so (same_key k x.0) (same_option (end_of x.1) (Some n)) here))
      (λ rest. runs_later xs f.1 k n rest) e

pub fine_of : {R : Type 0} (Good : Key × R → Type 0) (t : Table R) → Rises t → AllByRecursion Good t → Fine Good t
fine_of Good t r e = record { up = up_of_sorted t r; each = e }
