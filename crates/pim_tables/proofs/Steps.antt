-- The ends of a row, armed in a queue, and the queue beside rows that change.
use Rattle.std.{proofs.{Common.{◌≡◌, ◌≢◌, ℕ, ◌≤◌, ◌+◌, ◌==◌, ◌&&◌, Bool, true, false, cond, length, [], ◌∷◌, Option, Some, None, refl, sym, ap, subst, ◌∙◌, arith}, lemmas.Bool.Decides.nat_tests}, specs.{Ordering.{is_eq, ordering_then, nat_cmp}, Cmp.{tied_itself, nat_cmp_total}, declared.cmp.Ordering.{Ordering, TheVariants.{Less, Equal, Greater}}}}
use Rattle.pim_types.{specs.{declared.{fact.Key.Key, timer.{Timer.Timer, TimerKind.TimerKind}}, Keys.{is_on, same_key, star_key}, Timers.{rank, timer_cmp}}, proofs.{Keys.{equal_keys, equal_numbers, key_cmp_total}, Timers.timer_exact}}
use Rattle.pim_timers.{specs.{Armed.{AreArmed, Entries, Grows, IsArmed, IsReal, holds}, Dues.{Due, IsFirst}, Ends.same_timer}, proofs.{Armed.{Owes, all_owed, armed_after, no_end_armed, none_armed, none_owed, none_real, owed_less, right_after}, Ranks.{kind_ties, nat_ties}}}
use Rattle.pim_model.{specs.Tables.{Table, drop_where, row_at}}
use Rattle.pim_tables.{proofs.Lookups.row_at-drop_on, specs.Ends.{DifferAt, InStep, InStepBeside, IsRowArmed, Kinds, end_of, ends_in, ends_under, is_second, most_ends, same_kind, timer_of}}
use Rattle.pim_types.specs.contracts.timer.TimerKindPartialEq.TheImpl as kind_eq

-- ---- one timer

differ_by : (a b : ℕ) (o p : Ordering) → nat_cmp a b ≡ o → (a == b) ≡ false → is_eq (ordering_then o p) ≡ false
differ_by a b Less p e f = refl
differ_by a b Equal p e f = let same : a ≡ b = equal_numbers a b e in absurd (grind (arith, nat_tests))
differ_by a b Greater p e f = refl

tied_by : (a b : ℕ) (p : Ordering) (t : Bool) → (a == b) ≡ t → is_eq (ordering_then (nat_cmp a b) p) ≡ (t && is_eq p)
tied_by a b p true e =
    let same : b ≡ a = grind (arith, nat_tests) in rw (same, tied_itself nat_cmp_total a) refl
tied_by a b p false e = differ_by a b (nat_cmp a b) p refl e

pub same_timer_by : (t : Timer) (kind : TimerKind) (k : Key)
    → same_timer t (timer_of kind k) ≡ (same_kind t.kind kind && same_key t.key k)
unfolding same_timer timer_cmp
same_timer_by t kind k = tied_by (rank t.kind) (rank kind) _ (rank t.kind == rank kind) refl

pub of_other_key : (t : Timer) (kind : TimerKind) (k : Key) → same_key t.key k ≡ false → same_timer t (timer_of kind k) ≡ false
of_other_key t kind k other = same_timer_by t kind k ∙ ap (λ (b : Bool). same_kind t.kind kind && b) other ∙ never _
  where
    never : (b : Bool) → (b && false) ≡ false
    never true = refl
    never false = refl

pub kind_exact : (a b : TimerKind) → same_kind a b ≡ true → a ≡ b
unfolding timer_cmp
kind_exact a b e =
    let same : rank b ≡ rank a = grind (arith, nat_tests) in
    ap (λ (t : Timer). t.kind) (timer_exact (timer_of a (star_key 0 0)) (timer_of b (star_key 0 0))
    (rw (same, tied_itself nat_cmp_total (rank a)) (tied_itself key_cmp_total (star_key 0 0))))

pub same_kind_itself : (kind : TimerKind) → same_kind kind kind ≡ true
same_kind_itself kind = grind (arith, nat_tests)

-- `==` of kinds
pub kinds_tie : (a b : TimerKind) → (kind_eq.ghosts).eq a b ≡ same_kind a b
kinds_tie a b = kind_ties a b ∙ sym (nat_ties (rank a) (rank b))

-- ---- the ends of a row

module _ {R : Type 0} (kinds : Kinds) (ends : R → Option ℕ × Option ℕ) where
  pub first_end : (row : R) (kind : TimerKind) → same_kind kind kinds.0 ≡ true
      → end_of kinds ends (Some row) kind ≡ (ends row).0
  first_end row kind is = rw is refl

  pub second_end : kinds.1 ≢ Some kinds.0 → (row : R) (second kind : TimerKind) → kinds.1 ≡ Some second
      → same_kind kind second ≡ true → end_of kinds ends (Some row) kind ≡ (ends row).1
  second_end apart row second kind is same = go (same_kind kind kinds.0) refl
    where
      other : is_second kinds.1 kind ≡ true
      other = ap (λ (o : Option TimerKind). is_second o kind) is ∙ same

      go : (b : Bool) → same_kind kind kinds.0 ≡ b → end_of kinds ends (Some row) kind ≡ (ends row).1
      go true e =
          absurd (apart (is ∙ ap Some (sym (kind_exact kind second same) ∙ kind_exact kind kinds.0 e)))
      go false e = rw (e, other) refl

  first_under : (o : Option R) (kind : TimerKind) → same_kind kind kinds.0 ≡ true
      → end_of kinds ends o kind ≡ (ends_under ends o).0
  first_under None kind is = refl
  first_under (Some row) kind is = first_end row kind is

  second_under : kinds.1 ≢ Some kinds.0 → (o : Option R) (second kind : TimerKind) → kinds.1 ≡ Some second
      → same_kind kind second ≡ true → end_of kinds ends o kind ≡ (ends_under ends o).1
  second_under apart None second kind is same = refl
  second_under apart (Some row) second kind is same = second_end apart row second kind is same

  -- by kinds and ends that were answered
  pub by_answers : (row : R) (kind : TimerKind) (ks : Kinds) (es : Option ℕ × Option ℕ) → ks ≡ kinds → es ≡ ends row
      → cond (same_kind kind ks.0) es.0 (cond (is_second ks.1 kind) es.1 None) ≡ end_of kinds ends (Some row) kind
  by_answers row kind ks es kinds_are ends_are =
      ap (λ (x : Option ℕ × Option ℕ). cond (same_kind kind ks.0) x.0 (cond (is_second ks.1 kind) x.1 None)) ends_are
      ∙ ap (λ (q : Kinds). cond (same_kind kind q.0) (ends row).0 (cond (is_second q.1 kind) (ends row).1 None)) kinds_are

  pub neither_end : (row : R) (kind : TimerKind) → same_kind kind kinds.0 ≡ false → is_second kinds.1 kind ≡ false
      → end_of kinds ends (Some row) kind ≡ None
  neither_end row kind first second = rw (first, second) refl

  -- by kinds and ends that were answered
  module _ (apart : kinds.1 ≢ Some kinds.0) (k : Key) (w : Option R) (ks : Kinds) (es : Option ℕ × Option ℕ)
      (kinds_are : ks ≡ kinds) (ends_are : es ≡ ends_under ends w) (h : Due → Bool) where
    first_is : (kind : TimerKind) → same_kind kind kinds.0 ≡ true → end_of kinds ends w kind ≡ es.0
    first_is kind is = first_under w kind is ∙ ap (λ (e : Option ℕ × Option ℕ). e.0) (sym ends_are)

    second_is : (kind second : TimerKind) → kinds.1 ≡ Some second → same_kind kind second ≡ true
        → end_of kinds ends w kind ≡ es.1
    second_is kind second is same =
        second_under apart w second kind is same ∙ ap (λ (e : Option ℕ × Option ℕ). e.1) (sym ends_are)

    pub known_first : IsRowArmed kinds ends h k w → IsArmed h (timer_of ks.0 k) es.0
    known_first armed =
        subst (λ (o : Option ℕ). IsArmed h (timer_of ks.0 k) o)
        (first_is ks.0 (ap (λ (q : Kinds). same_kind ks.0 q.0) (sym kinds_are) ∙ same_kind_itself ks.0)) (armed ks.0)

    pub known_second : IsRowArmed kinds ends h k w → (kind : TimerKind) → ks.1 ≡ Some kind
        → IsArmed h (timer_of kind k) es.1
    known_second armed kind is =
        subst (λ (o : Option ℕ). IsArmed h (timer_of kind k) o)
        (second_is kind kind (ap (λ (q : Kinds). q.1) (sym kinds_are) ∙ is) (same_kind_itself kind)) (armed kind)

    pub row_armed : IsArmed h (timer_of ks.0 k) es.0
        → ((kind : TimerKind) → ks.1 ≡ Some kind → IsArmed h (timer_of kind k) es.1) → IsRowArmed kinds ends h k w
    row_armed first second q = go (same_kind q kinds.0) refl
      where
        at : (kind : TimerKind) (end : Option ℕ) → q ≡ kind → end_of kinds ends w q ≡ end → IsArmed h (timer_of kind k) end
            → IsArmed h (timer_of q k) (end_of kinds ends w q)
        at kind end same is armed =
            subst (λ (o : Option ℕ). IsArmed h (timer_of q k) o) (sym is)
            (subst (λ (x : TimerKind). IsArmed h (timer_of x k) end) (sym same) armed)

        none : (o : Option R) → w ≡ o → same_kind q kinds.0 ≡ false → is_second kinds.1 q ≡ false
            → IsArmed h (timer_of q k) (end_of kinds ends w q)
        none None is e f =
            no_end_armed h (timer_of q k) _ (ap (λ (o : Option R). end_of kinds ends o q) is)
        none (Some row) is e f =
            no_end_armed h (timer_of q k) _ (ap (λ (o : Option R). end_of kinds ends o q) is ∙ neither_end row q e f)

        other : (o : Option TimerKind) (b : Bool) → kinds.1 ≡ o → is_second o q ≡ b → same_kind q kinds.0 ≡ false
            → IsArmed h (timer_of q k) (end_of kinds ends w q)
        other None b is e f = none w refl f (ap (λ (o : Option TimerKind). is_second o q) is)
        other (Some kind) true is e f =
            at kind es.1 (kind_exact q kind e) (second_is q kind is e)
            (second kind (ap (λ (x : Kinds). x.1) kinds_are ∙ is))
        other (Some kind) false is e f = none w refl f (ap (λ (o : Option TimerKind). is_second o q) is ∙ e)

        go : (b : Bool) → same_kind q kinds.0 ≡ b → IsArmed h (timer_of q k) (end_of kinds ends w q)
        go true e =
            at ks.0 es.0 (kind_exact q kinds.0 e ∙ ap (λ (x : Kinds). x.0) (sym kinds_are)) (first_is q e) first
        go false e = other kinds.1 (is_second kinds.1 q) refl refl e

  pub no_row_armed : (h : Due → Bool) (k : Key) → IsRowArmed kinds ends h k None
  no_row_armed h k kind = no_end_armed h (timer_of kind k) None refl

  pub row_still_armed : (h0 h1 : Due → Bool) (k : Key) (w : Option R) → Grows h0 h1 → IsRowArmed kinds ends h0 k w
      → IsRowArmed kinds ends h1 k w
  row_still_armed h0 h1 k w grows armed kind m is =
      let v = armed kind m is in
      (v.0, v.1, grows (v.0, timer_of kind k) v.2)

  -- what the table knows of one row
  pub known : (h : Due → Bool) (rows : Table R) (k : Key) (w : Option R) → AreArmed (ends_in kinds ends rows) h
      → w ≡ row_at rows k → IsRowArmed kinds ends h k w
  known h rows k w armed is kind =
      subst (λ (o : Option R). IsArmed h (timer_of kind k) (end_of kinds ends o kind)) (sym is) (armed (timer_of kind k))

  -- ---- rows that change

  module _ (rows after : Table R) (k : Key) (w : Option R) (h0 h1 : Due → Bool) (grows : Grows h0 h1)
      (row : (q : Key) → row_at after q ≡ cond (same_key q k) w (row_at rows q)) where
    own : Timer → Bool
    own t = same_key t.key k

    stays : (t : Timer) → same_key t.key k ≡ false → ends_in kinds ends after t ≡ ends_in kinds ends rows t
    stays t other =
        ap (λ (o : Option R). end_of kinds ends o t.kind)
        (row t.key ∙ ap (λ (b : Bool). cond b w (row_at rows t.key)) other)

    here : IsRowArmed kinds ends h1 k w → (t : Timer) → same_key t.key k ≡ true
        → IsArmed h1 t (ends_in kinds ends after t)
    here armed t same =
        subst (λ (o : Option R). IsArmed h1 t (end_of kinds ends o t.kind))
        (sym (row t.key ∙ ap (λ (b : Bool). cond b w (row_at rows t.key)) same))
        (subst (λ (q : Key). IsArmed h1 (timer_of t.kind q) (end_of kinds ends w t.kind))
        (sym (equal_keys t.key k same)) (armed t.kind))

    pub rows_armed : AreArmed (ends_in kinds ends rows) h0 → IsRowArmed kinds ends h1 k w
        → AreArmed (ends_in kinds ends after) h1
    rows_armed armed now =
        armed_after (λ t. same_key t.key k) (ends_in kinds ends rows) (ends_in kinds ends after) h0 h1 stays grows armed
        (here now)

    pub rows_right : IsReal (ends_in kinds ends rows) h0 → ((d : Due) → same_key d.1.key k ≡ false → h1 d ≡ h0 d)
        → (due : Due) → IsFirst h1 (Some due) → same_key due.1.key k ≡ false
        → ends_in kinds ends after due.1 ≡ Some due.0
    rows_right =
        right_after (λ t. same_key t.key k) (ends_in kinds ends rows) (ends_in kinds ends after) h0 h1 stays grows

  -- a queue that grew by the ends of one key, beside rows that changed there
  pub armed_beside : (before now : Entries) (rows after : Table R) (k : Key) (w : Option R) → Grows (holds before) (holds now)
      → ((d : Due) → same_key d.1.key k ≡ false → holds now d ≡ holds before d) → InStep kinds ends before rows
      → DifferAt rows after k w → IsRowArmed kinds ends (holds now) k w → InStepBeside kinds ends now after k
  armed_beside before now rows after k w grows others step row armed = record {
    armed = rows_armed rows after k w (holds before) (holds now) grows row step.armed armed;
    others = rows_right rows after k w (holds before) (holds now) grows row step.real others;
  }

  -- a queue as it was, beside rows that changed at the key
  pub still_beside : (queue : Entries) (rows after : Table R) (k : Key) (w : Option R) → InStep kinds ends queue rows
      → DifferAt rows after k w → IsRowArmed kinds ends (holds queue) k w → InStepBeside kinds ends queue after k
  still_beside queue rows after k w = armed_beside queue queue rows after k w (λ d is. is) (λ d other. refl)

  -- the row under the key went
  pub gone_beside : (queue : Entries) (rows after : Table R) (k : Key) → InStep kinds ends queue rows
      → DifferAt rows after k None → InStepBeside kinds ends queue after k
  gone_beside queue rows after k step row =
      still_beside queue rows after k None step row (no_row_armed (holds queue) k)

  -- the rows of an interface went
  pub fewer_armed : (rows after : Table R) (i : ℕ) (h : Due → Bool) → after ≡ drop_where (is_on i) rows
      → AreArmed (ends_in kinds ends rows) h → AreArmed (ends_in kinds ends after) h
  fewer_armed rows after i h same armed t m is =
      go (is_on i t.key) (ap (λ (u : Table R). row_at u t.key) same ∙ row_at-drop_on i t.key rows)
    where
      go : (b : Bool) → row_at after t.key ≡ cond b None (row_at rows t.key) → (e : ℕ) × (e ≤ m) × (h (e, t) ≡ true)
      go true gone = let no : None ≡ Some m = sym (ap (λ (o : Option R). end_of kinds ends o t.kind) gone) ∙ is in cc
      go false stays = armed t m (sym (ap (λ (o : Option R). end_of kinds ends o t.kind) stays) ∙ is)

  -- no rows, and no entries
  pub none_in_step : (queue : Entries) (rows : Table R) → queue.dues ≡ [] → rows ≡ [] → InStep kinds ends queue rows
  unfolding holds row_at
  none_in_step queue rows none empty = record {
    armed = none_armed (ends_in kinds ends rows) (holds queue)
        (λ t. ap (λ (rs : Table R). end_of kinds ends (row_at rs t.key) t.kind) empty);
    real = none_real (ends_in kinds ends rows) (holds queue) (λ d. rw none refl);
    few = let len = ap (λ ds. length ds) none in omega (arith, len);
  }

  -- ---- all rows, one after the other

  abbrev pub RowsOwed : (rows left : Table R) → (Due → Bool) → Type 0
  RowsOwed rows left h = Owes (ends_in kinds ends rows) (ends_in kinds ends left) h

  pub rows_owed : (rows left : Table R) (h : Due → Bool) → left ≡ rows → RowsOwed rows left h
  rows_owed rows left h same =
      all_owed (ends_in kinds ends rows) (ends_in kinds ends left) h (λ t. ap (λ (u : Table R). ends_in kinds ends u t) same)

  pub row_owed_less : (rows left less : Table R) (k : Key) (r : R) (h0 h1 : Due → Bool) → left ≡ (k, r) ∷ less → Grows h0 h1
      → IsRowArmed kinds ends h1 k (Some r) → RowsOwed rows left h0 → RowsOwed rows less h1
  unfolding row_at
  row_owed_less rows left less k r h0 h1 same grows armed =
      owed_less (ends_in kinds ends rows) (ends_in kinds ends left) (ends_in kinds ends less) (λ t. same_key t.key k) h0 h1
      (λ t other. ap (λ (u : Table R). ends_in kinds ends u t) same
      ∙ ap (λ (b : Bool). end_of kinds ends (cond b (Some r) (row_at less t.key)) t.kind) other)
      grows
      (λ t own. subst (λ (o : Option ℕ). IsArmed h1 t o)
      (sym (ap (λ (u : Table R). ends_in kinds ends u t) same
      ∙ ap (λ (b : Bool). end_of kinds ends (cond b (Some r) (row_at less t.key)) t.kind) own))
      (subst (λ (q : Key). IsArmed h1 (timer_of t.kind q) (end_of kinds ends (Some r) t.kind))
      (sym (equal_keys t.key k own)) (armed t.kind)))

  pub none_left : (rows left : Table R) (h : Due → Bool) → left ≡ [] → RowsOwed rows left h
      → AreArmed (ends_in kinds ends rows) h
  unfolding row_at
  none_left rows left h none =
      none_owed (ends_in kinds ends rows) (ends_in kinds ends left) h
      (λ t. ap (λ (u : Table R). ends_in kinds ends u t) none)

pub most_more : {R : Type 0} (second : Option TimerKind) (left less : Table R) (e : Key × R) → left ≡ e ∷ less
    → most_ends second (length left) ≡ most_ends second (length less) + most_ends second 1
most_more None left less e same = let len = ap (λ u. length u) same in omega (arith, len)
most_more (Some kind) left less e same = let len = ap (λ u. length u) same in omega (arith, len)

pub timer_still_armed : (h0 h1 : Due → Bool) (t : Timer) (end : Option ℕ) → Grows h0 h1 → IsArmed h0 t end → IsArmed h1 t end
timer_still_armed h0 h1 t end grows armed m is = let v = armed m is in (v.0, v.1, grows (v.0, t) v.2)

-- the second kind was told, or there is none
module _ (h : Due → Bool) (k : Key) (end : Option ℕ) (told : Option TimerKind) where
  pub of_some_kind : (second : TimerKind) → told ≡ Some second → IsArmed h (timer_of second k) end → (kind : TimerKind)
      → told ≡ Some kind → IsArmed h (timer_of kind k) end
  of_some_kind second is armed kind same =
      let one : second ≡ kind = cc in
      subst (λ (q : TimerKind). IsArmed h (timer_of q k) end) one armed

  pub of_one : told ≡ None → (kind : TimerKind) → told ≡ Some kind → IsArmed h (timer_of kind k) end
  of_one none kind is = let never : None ≡ Some kind = sym none ∙ is in cc
