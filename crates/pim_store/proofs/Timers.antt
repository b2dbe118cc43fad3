-- The Join timers of an index, through what is written there.
use Rattle.std.{proofs.{Common.{◌≡◌, ◌+◌, ℕ, Bool, true, false, cond, length, suc, [], ◌∷◌, Option, Some, None, Result, Ok, Err, is_some, not, option_map, refl, sym, ap, subst, ◌∙◌, arith}, lemmas.Bool.true≢false}, specs.{Prelude.{OnErr, OnOk}, List.{cons_option, filter, list_all, Sorted.IsStrictlySortedBy}, Option.option_and_then, Ordering.{is_eq, match_ordering}, declared.cmp.Ordering.{Ordering, TheVariants.{Less, Equal, Greater}}}}
use Rattle.pim_types.{specs.{declared.{fact.{JoinTimerRow.JoinTimerRow, Key.Key}, timer.TimerKind.TimerKind}, Keys.{key_cmp, same_key}}, proofs.Keys.{equal_keys, key_cmp_total, same_key_same}}
use Rattle.law_settled.{proofs.ListLaws.each_more}
use Rattle.pim_model.{specs.Tables.{Table, change_row, drop_at, drop_where, has_row, keys_in, put, row_at, set_row}}
use Rattle.pim_tables.{specs.{Ends.{DifferAt, InStep}, RowsIn.rows_in}, proofs.{Lookups.none_goes, RisingRows.{Above, Up, none_above, sorted_of_up, up_of_sorted}, RowsIn.{differ_in, found_in, same_in, set_in, up_in}}}
use Rattle.pim_timers.{specs.Armed.Entries}
use Rattle.pim_store.{proofs.{Fitting.all_fit, Lowered.changed_there}, specs.{JoinTimers.AreKept, PimTables.is_plain_key, Said.{AreEntries, KeepsMarks, Writes, WritesTimer, mark_key, said, seen, seen_in, source_bits, timer_in, timers_in, tunnel_in}, declared.marks.{Mark.{Mark, TheVariants.{Joined, Branched, Pruned, Lost, Won, HasOverrideTimer, HasSource, HasRegister}}, Marks.Marks}}}
use Rattle.pim_source_trie.{specs.Entries.entry_key}

-- ---- what is found

abbrev of_marks : Marks → Option JoinTimerRow
of_marks m = m.join_timer

by_timer : (o : Option Marks) → option_and_then of_marks o ≡ timer_in o
by_timer None = refl
by_timer (Some m) = refl

module _ (t : Table Marks) (rise : IsStrictlySortedBy key_cmp (keys_in t)) where
  pub found_timer : (q : Key) → row_at (timers_in t) q ≡ timer_in (row_at t q)
  unfolding timers_in
  found_timer q = found_in of_marks t (up_of_sorted t rise) q ∙ by_timer (row_at t q)

  pub timers_rise : IsStrictlySortedBy key_cmp (keys_in (timers_in t))
  unfolding timers_in
  timers_rise = sorted_of_up (rows_in of_marks t) (up_in of_marks t (up_of_sorted t rise))

pub no_timer_at : (k : Key) (t : Table Marks) → has_row t k ≡ false → timer_in (row_at t k) ≡ None
unfolding has_row
no_timer_at k t none = go (row_at t k) none
  where
    go : (o : Option Marks) → is_some o ≡ false → timer_in o ≡ None
    go None e = refl
    go (Some m) e = cc

-- a mark's set has no tunnel more where a Join timer is set
pub tunnel_timed : (x : Mark) (m : Marks) (row : Option JoinTimerRow) → tunnel_in x (record m { join_timer = row }) ≡ tunnel_in x m
tunnel_timed Joined m row = refl
tunnel_timed Branched m row = refl
tunnel_timed Pruned m row = refl
tunnel_timed Lost m row = refl
tunnel_timed Won m row = refl
tunnel_timed HasOverrideTimer m row = refl
tunnel_timed HasSource m row = refl
tunnel_timed HasRegister m row = refl

pub seen_timed : (x : Mark) (m : Marks) (row : Option JoinTimerRow) (i : ℕ) → seen x (record m { join_timer = row }) i ≡ seen x m i
seen_timed Joined m row i = refl
seen_timed Branched m row i = refl
seen_timed Pruned m row i = refl
seen_timed Lost m row i = refl
seen_timed Won m row i = refl
seen_timed HasOverrideTimer m row i = refl
seen_timed HasSource m row i = refl
seen_timed HasRegister m row i = refl

-- ---- what is written

module _ (t t' : Table Marks) (rise : IsStrictlySortedBy key_cmp (keys_in t)) (rise' : IsStrictlySortedBy key_cmp (keys_in t'))
    (k : Key) (row : Option JoinTimerRow) (writes : WritesTimer t t' k row) where
  at_each : (q : Key) → option_and_then of_marks (row_at t' q)
      ≡ cond (same_key q k) row (option_and_then of_marks (row_at t q))
  at_each q =
      by_timer (row_at t' q) ∙ writes q
      ∙ ap (λ (o : Option JoinTimerRow). cond (same_key q k) row o) (sym (by_timer (row_at t q)))

  pub timer_set : timers_in t' ≡ set_row (timers_in t) k row
  unfolding timers_in
  timer_set = set_in of_marks t t' (up_of_sorted t rise) (up_of_sorted t' rise') k row at_each

  pub timer_differs : DifferAt (timers_in t) (timers_in t') k row
  unfolding timers_in
  timer_differs = differ_in of_marks t t' (up_of_sorted t rise) (up_of_sorted t' rise') k row at_each

  -- the timer that was there is written back
  pub timer_same : row ≡ timer_in (row_at t k) → timers_in t' ≡ timers_in t
  unfolding timers_in
  timer_same is =
      same_in of_marks t' t (up_of_sorted t' rise') (up_of_sorted t rise)
      (λ q. by_timer (row_at t' q) ∙ writes q ∙ go q (same_key q k) refl ∙ sym (by_timer (row_at t q)))
    where
      go : (q : Key) (b : Bool) → same_key q k ≡ b → cond b row (timer_in (row_at t q)) ≡ timer_in (row_at t q)
      go q true same = is ∙ ap (λ (x : Key). timer_in (row_at t x)) (sym (equal_keys q k same))
      go q false other = refl

-- after a call that may be refused
module _ {T E : Type 0} (t t' : Table Marks) (rise : IsStrictlySortedBy key_cmp (keys_in t))
    (rise' : IsStrictlySortedBy key_cmp (keys_in t')) (k : Key) (row : Option JoinTimerRow) where
  pub timers_back : (r : Result T E) → OnOk r (WritesTimer t t' k row) → OnErr r (t' ≡ t)
      → row ≡ timer_in (row_at t k) → timers_in t' ≡ timers_in t
  timers_back (Ok x) writes kept is = timer_same t t' rise rise' k row writes is
  timers_back (Err e) writes kept is = ap timers_in kept

  pub set_on_ok : (r : Result T E) → OnOk r (WritesTimer t t' k row) → OnOk r (timers_in t' ≡ set_row (timers_in t) k row)
  set_on_ok (Ok x) writes = timer_set t t' rise rise' k row writes
  set_on_ok (Err e) writes = tt

-- no other timer, and each is kept
pub kept_as : (t t' : Table Marks) (ends : Entries) (count : ℕ) → AreKept t ends count → AreEntries t'
    → timers_in t' ≡ timers_in t → AreKept t' ends count
kept_as t t' ends count kept entries same = record {
  entries = entries;
  in_step = subst (λ (u : Table JoinTimerRow). InStep (TimerKind.Join, None) (λ (r : JoinTimerRow). (Some r.end, None)) ends u)
      (sym same) kept.in_step;
  counted = kept.counted ∙ ap (λ u. length u) (sym same);
}

-- ---- how many there are

module _ {R : Type 0} (k : Key) where
  above_both : (e : Key × R) (t : Table R) → key_cmp k e.0 ≡ Less → Above e.0 t → Above k t
  above_both e t less =
      each_more (λ (x : Key × R). key_cmp e.0 x.0 ≡ Less) (λ (x : Key × R). key_cmp k x.0 ≡ Less)
      (λ x f. key_cmp_total.trans k e.0 x.0 less f) t

  put_step : (r : R) (e : Key × R) (t : Table R) (o : Ordering) → key_cmp k e.0 ≡ o → Above e.0 t
      → length (put t k r) ≡ length t + cond (is_some (row_at t k)) 0 1
      → length (match_ordering o ((k, r) ∷ e ∷ t) ((e.0, r) ∷ t) (e ∷ put t k r))
      ≡ suc (length t) + cond (is_some (cond (is_eq o) (Some e.1) (row_at t k))) 0 1
  put_step r e t Less is above later = rw (none_above k t (above_both e t is above)) (omega arith)
  put_step r e t Equal is above later = omega arith
  put_step r e t Greater is above later = omega (arith, later)

  pub put_many : (r : R) (t : Table R) → Up t → length (put t k r) ≡ length t + cond (has_row t k) 0 1
  unfolding put has_row row_at
  put_many r [] up = refl
  put_many r (e ∷ t) up = put_step r e t (key_cmp k e.0) refl up.0 (put_many r t up.1)

  drop_step : (e : Key × R) (t : Table R) (b : Bool) → same_key k e.0 ≡ b → Above e.0 t
      → length (drop_at t k) + cond (is_some (row_at t k)) 1 0 ≡ length t
      → length (cond b (drop_at t k) (e ∷ drop_at t k)) + cond (is_some (cond b (Some e.1) (row_at t k))) 1 0
      ≡ suc (length t)
  drop_step e t true same above later =
      let none : row_at t k ≡ None = ap (row_at t) (equal_keys k e.0 same) ∙ none_above e.0 t above in
      let whole = ap (λ u. length u) (none_goes k t none) in
      omega (arith, whole)
  drop_step e t false other above later = omega (arith, later)

  pub drop_many : (t : Table R) → Up t → length (drop_at t k) + cond (has_row t k) 1 0 ≡ length t
  unfolding drop_at drop_where has_row row_at
  drop_many [] up = refl
  drop_many (e ∷ t) up = go (same_key k e.0) refl (drop_many t up.1)
    where
      go : (b : Bool) → same_key k e.0 ≡ b
          → length (drop_at t k) + cond (is_some (row_at t k)) 1 0 ≡ length t
          → length (cond (not b) (e ∷ drop_at t k) (drop_at t k))
          + cond (is_some (cond b (Some e.1) (row_at t k))) 1 0 ≡ suc (length t)
      go true same later = drop_step e t true same up.0 later
      go false other later = drop_step e t false other up.0 later

-- as many as were, less one that went, and one that came
pub many_after : {R : Type 0} (k : Key) (w : Option R) (t : Table R) (n count : ℕ) → Up t → count ≡ length t
    → n + cond (is_some (row_at t k)) 1 0 ≡ count + cond (is_some w) 1 0 → n ≡ length (set_row t k w)
unfolding set_row has_row
many_after k None t n count up are sum =
    let many = drop_many k t up in omega (arith, are, sum, many)
many_after {R} k (Some r) t n count up are sum = go (is_some (row_at t k)) (put_many k r t up) sum
  where
    go : (b : Bool) → length (put t k r) ≡ length t + cond b 0 1 → n + cond b 1 0 ≡ count + 1 → n ≡ length (put t k r)
    go true many sum = omega (arith, are, sum, many)
    go false many sum = omega (arith, are, sum, many)

-- after a call that may be refused
module _ {T E : Type 0} (r : Result T E) (t t' : Table Marks) (k : Key) (before row : Option JoinTimerRow)
    (n count result : ℕ) where
  pub counted_on : OnOk r (timers_in t' ≡ set_row (timers_in t) k row) → OnErr r (t' ≡ t) → OnOk r (result ≡ n)
      → OnErr r (result ≡ count) → count ≡ length (timers_in t) → IsStrictlySortedBy key_cmp (keys_in (timers_in t))
      → before ≡ row_at (timers_in t) k → n + cond (is_some before) 1 0 ≡ count + cond (is_some row) 1 0
      → result ≡ length (timers_in t')
  counted_on set kept ok err are rise is sum = go r set kept ok err
    where
      go : (r : Result T E) → OnOk r (timers_in t' ≡ set_row (timers_in t) k row) → OnErr r (t' ≡ t) → OnOk r (result ≡ n)
          → OnErr r (result ≡ count) → result ≡ length (timers_in t')
      go (Ok x) set kept ok err =
          ok
          ∙ many_after k row (timers_in t) n count (up_of_sorted (timers_in t) rise) are
          (ap (λ (o : Option JoinTimerRow). n + cond (is_some o) 1 0) (sym is) ∙ sum)
          ∙ ap (λ u. length u) (sym set)
      go (Err e) set kept ok err = err ∙ are ∙ ap (λ (u : Table Marks). length (timers_in u)) (sym kept)

-- ---- the marks stay where only a Join timer is written

module _ (t t' : Table Marks) (k : Key) (m : Marks) (row : Option JoinTimerRow)
    (as_said : (x : Mark) (i : ℕ) → seen x m i ≡ said t x i k.group.bits (source_bits k.source)) where
  keeps : Writes t t' (entry_key k.group k.source) (record m { join_timer = row }) → KeepsMarks t t'
  keeps writes x i g s = writes x i g s ∙ go (same_key (mark_key g s) (entry_key k.group k.source)) refl
    where
      go : (b : Bool) → same_key (mark_key g s) (entry_key k.group k.source) ≡ b
          → cond b (seen x (record m { join_timer = row }) i) (said t x i g s) ≡ said t x i g s
      go true same =
          seen_timed x m row i ∙ as_said x i
          ∙ ap (λ (q : Key). seen_in x i (row_at t q)) (sym (equal_keys (mark_key g s) (entry_key k.group k.source) same))
      go false other = refl

  pub marks_keep : {T E : Type 0} (r : Result T E) → OnOk r (Writes t t' (entry_key k.group k.source) (record m { join_timer = row }))
      → OnErr r (t' ≡ t) → KeepsMarks t t'
  marks_keep (Ok x) writes kept = keeps writes
  marks_keep (Err e) writes kept = λ x i g s. ap (λ (u : Table Marks). said u x i g s) kept

-- ---- under no key of a group or a source

-- a key that stands in the table is that of a group or a source
entry_at : (t : Table Marks) (all : AreEntries t) (k : Key) → same_key k (entry_key k.group k.source) ≡ false
    → timer_in (row_at t k) ≡ None
entry_at t all k other = go (row_at t k) refl
  where
    go : (o : Option Marks) → row_at t k ≡ o → timer_in o ≡ None
    go None found = refl
    go (Some m) found =
        absurd (true≢false (sym (same_key_same k) ∙ ap (same_key k) (all k m found).placed ∙ other))

-- nothing is changed under a key that is not of a group or a source, or that has no Join timer
pub no_timer_astray : (t : Table Marks) → IsStrictlySortedBy key_cmp (keys_in t) → AreEntries t → (k : Key)
    → same_key k (entry_key k.group k.source) ≡ false → row_at (timers_in t) k ≡ None
no_timer_astray t rise all k other = found_timer t rise k ∙ entry_at t all k other

-- a Join timer is of (*,G) or (S,G)
pub timers_plain : (t : Table Marks) → IsStrictlySortedBy key_cmp (keys_in t) → AreEntries t
    → list_all (λ e. is_plain_key e.0) (timers_in t) ≡ true
unfolding has_row
timers_plain t rise all = all_fit is_plain_key (timers_in t) (λ k there. go k (same_key k (entry_key k.group k.source)) refl there)
  where
    go : (k : Key) (b : Bool) → same_key k (entry_key k.group k.source) ≡ b → is_some (row_at (timers_in t) k) ≡ true
        → is_plain_key k ≡ true
    go k true same there =
        subst (λ (q : Key). is_plain_key q ≡ true) (sym (equal_keys k (entry_key k.group k.source) same)) refl
    go k false other there = absurd (true≢false (sym there ∙ ap is_some (no_timer_astray t rise all k other)))

pub no_timer_under : (t : Table Marks) → IsStrictlySortedBy key_cmp (keys_in t) → AreEntries t → (k : Key)
    → row_at (timers_in t) (entry_key k.group k.source) ≡ None → row_at (timers_in t) k ≡ None
no_timer_under t rise all k none = go (same_key k (entry_key k.group k.source)) refl
  where
    go : (b : Bool) → same_key k (entry_key k.group k.source) ≡ b → row_at (timers_in t) k ≡ None
    go true same = ap (row_at (timers_in t)) (equal_keys k (entry_key k.group k.source) same) ∙ none
    go false other = no_timer_astray t rise all k other

pub changed_on : {T E : Type 0} (t t' : Table Marks) → IsStrictlySortedBy key_cmp (keys_in t) → (k q : Key) → same_key k q ≡ true
    → (change : JoinTimerRow → JoinTimerRow) (before row : JoinTimerRow) → row_at (timers_in t) q ≡ Some before
    → row ≡ change before → (r : Result T E) → OnOk r (timers_in t' ≡ set_row (timers_in t) q (Some row))
    → OnOk r (timers_in t' ≡ change_row (λ b. Some (change b)) k (timers_in t))
unfolding set_row
changed_on t t' rise k q same change before row found is r set =
    subst (λ (x : Key). OnOk r (timers_in t' ≡ change_row (λ b. Some (change b)) x (timers_in t))) (sym (equal_keys k q same))
    (changed_there q (timers_in t) before row (λ b. Some (change b)) (timers_in t') r (timers_rise t rise) found
    (ap (λ (x : JoinTimerRow). Some x) (sym is)) set)

-- ---- those of a group

filtered_step : (p : Key → Bool) (e : Key × Marks) (t : Table Marks) (b : Bool) (o : Option JoinTimerRow) → p e.0 ≡ b
    → rows_in of_marks (filter (λ x. p x.0) t) ≡ filter (λ x. p x.0) (rows_in of_marks t)
    → rows_in of_marks (cond b (e ∷ filter (λ x. p x.0) t) (filter (λ x. p x.0) t))
    ≡ filter (λ x. p x.0) (rows_in of_marks (e ∷ t))
unfolding rows_in
filtered_step p e t true o is later = go (e.1).join_timer
  where
    go : (o : Option JoinTimerRow)
        → cons_option (option_map (λ (r : JoinTimerRow). (e.0, r)) o) (rows_in of_marks (filter (λ x. p x.0) t))
        ≡ filter (λ x. p x.0) (cons_option (option_map (λ (r : JoinTimerRow). (e.0, r)) o) (rows_in of_marks t))
    go None = later
    go (Some r) = rw is (ap (λ u. (e.0, r) ∷ u) later)
filtered_step p e t false o is later = go (e.1).join_timer
  where
    go : (o : Option JoinTimerRow)
        → rows_in of_marks (filter (λ x. p x.0) t)
        ≡ filter (λ x. p x.0) (cons_option (option_map (λ (r : JoinTimerRow). (e.0, r)) o) (rows_in of_marks t))
    go None = later
    go (Some r) = rw is later

pub timers_filtered : (p : Key → Bool) (t : Table Marks)
    → timers_in (filter (λ e. p e.0) t) ≡ filter (λ e. p e.0) (timers_in t)
unfolding timers_in rows_in
timers_filtered p [] = refl
timers_filtered p (e ∷ t) = filtered_step p e t (p e.0) (e.1).join_timer refl (timers_filtered p t)
