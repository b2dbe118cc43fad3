-- What the front looks at twice it could as well have looked at once, later.
use Rattle.std.{proofs.{Common.{◌≡◌, ◌∙◌, ℕ, ◌≤◌, ◌||◌, nat_le, nat_lt, Bool, true, false, cond, [], ◌∷◌, filter_map, is_some, option_map, Option, Some, None, refl, sym, ap, subst, arith}, lemmas.Bool.Decides.nat_tests}, specs.{List.cons_option, Prelude.option_and_then}}
use Rattle.pim_types.{specs.{Keys.{group_in, iface_in, star_key}, declared.fact.{GroupRecordRow.GroupRecordRow, Key.Key}}}
use Rattle.pim_model.{specs.{State.State, Step.advanced, Tables.{Table, has_row}}}
use Rattle.law_settled.{specs.Ready.IsSettled, proofs.SettledStates.settled_is_lawful}
use Rattle.igmp_older.{specs.{Modes.{look_by, row_by, runs}, Open.runs_until, Presence.{Present, entry_after, looked, record_at, row_after}, declared.mode.PresentRow.PresentRow}}
use Rattle.law_hosts.{proofs.{Timers.time_keeps, Absent.none_comes}}

abbrev Row : Type 0
Row = Key × PresentRow

-- what of the group records time to m leaves: a record that ends later is as it was, and none comes
pub record Lasts (m : ℕ) (groups later : Table GroupRecordRow) : Type 0 where
  pub gone : (k : Key) → record_at groups k ≡ None → record_at later k ≡ None
  pub kept : (k : Key) (r : GroupRecordRow) (end : ℕ) → record_at groups k ≡ Some r → r.end ≡ Some end → nat_lt m end ≡ true
      → record_at later k ≡ Some r

pub same_lasts : (m : ℕ) (groups : Table GroupRecordRow) → Lasts m groups groups
same_lasts m groups = record { gone = λ k none. none; kept = λ k r end found is later. found }

-- ---- a row

module _ (n m : ℕ) (on : n ≤ m) (groups later : Table GroupRecordRow) (lasts : Lasts m groups later) where
  before_then : (end : ℕ) → nat_lt n end ≡ false → nat_lt m end ≡ false
  before_then end e = grind (arith, nat_tests, on, e)

  stopped_then : (row : PresentRow) → runs n row ≡ false → runs m row ≡ false
  stopped_then row e = grind (arith, before_then)

  -- where the group has no record, or no timer runs, none stays
  none_stays : (row : PresentRow) (o : Option GroupRecordRow) → runs m row ≡ false → row_by m o row ≡ None
  unfolding row_by
  none_stays row None e = refl
  none_stays row (Some r) e = rw e refl

  abbrev seen : PresentRow → GroupRecordRow → PresentRow
  seen row r = record row { look = look_by r.end row }

  -- when it was looked at before doesn't matter
  same_look : (row : PresentRow) (look : ℕ) (end : Option ℕ) → look_by end (record row { look = look }) ≡ look_by end row
  same_look row look None = refl
  same_look row look (Some end) = refl

  looked_anew : (row : PresentRow) (look : ℕ) (o : Option GroupRecordRow) → row_by m o (record row { look = look }) ≡ row_by m o row
  unfolding row_by
  looked_anew row look None = refl
  looked_anew row look (Some r) =
      ap (λ (n : ℕ). let o : Option PresentRow = cond (runs m row) (Some (record row { look = n })) None in o) (same_look row look r.end)

  -- a row that isn't looked at again runs on with its record
  runs_on : (row : PresentRow) (end : Option ℕ) → nat_lt m (look_by end row) ≡ true → runs m row ≡ true
  runs_on row None e = let no : nat_lt m 0 ≡ false = grind (arith, nat_tests) in cc
  runs_on row (Some end) e = go (nat_lt m row.one_end) (nat_lt m row.two_end) refl refl
    where
      go : (a b : Bool) → nat_lt m row.one_end ≡ a → nat_lt m row.two_end ≡ b → (a || b) ≡ true
      go true b ea eb = refl
      go false true ea eb = refl
      go false false ea eb = absurd (grind (arith, nat_tests, e, ea, eb))

  ends_later : (row : PresentRow) (end : ℕ) → nat_lt m (look_by (Some end) row) ≡ true → nat_lt m end ≡ true
  ends_later row end e = grind (arith, nat_tests, e)

  record_stays : (k : Key) (row : PresentRow) (r : GroupRecordRow) (end : Option ℕ) → r.end ≡ end → record_at groups k ≡ Some r
      → nat_lt m (look_by end row) ≡ true → record_at later k ≡ Some r
  record_stays k row r None is found e = let no : nat_lt m 0 ≡ false = grind (arith, nat_tests) in cc
  record_stays k row r (Some end) is found e = lasts.kept k r end found is (ends_later row end e)

  as_it_is : (row : PresentRow) (r : GroupRecordRow) (o : Option GroupRecordRow) → o ≡ Some r → runs m row ≡ true
      → Some (seen row r) ≡ row_by m o row
  unfolding row_by
  as_it_is row r o is running = rw (is, running) refl

  abbrev Entry : Key → Option PresentRow → Option Row
  Entry k o = option_map (λ row. let e : Row = (k, row) in e) o

  abbrev then : Row → Option Row
  then e = entry_after later m e

  -- the group has a record, and one of the row's timers runs
  stays : (k : Key) (row : PresentRow) (r : GroupRecordRow) → record_at groups k ≡ Some r → nat_lt m row.look ≡ false
      → then (k, seen row r) ≡ then (k, row)
  unfolding row_after
  stays k row r found due = go (nat_lt m (look_by r.end row)) refl
    where
      its : Option PresentRow
      its = row_by m (record_at later k) row

      go : (b : Bool) → nat_lt m (look_by r.end row) ≡ b
          → Entry k (cond b (Some (seen row r)) (row_by m (record_at later k) (seen row r))) ≡ Entry k (cond (nat_lt m row.look) (Some row) its)
      go true e =
          ap (Entry k)
          (as_it_is row r (record_at later k) (record_stays k row r r.end refl found e) (runs_on row r.end e))
          ∙ ap (λ (b : Bool). Entry k (cond b (Some row) its)) (sym due)
      go false e =
          ap (Entry k) (looked_anew row (look_by r.end row) (record_at later k))
          ∙ ap (λ (b : Bool). Entry k (cond b (Some row) its)) (sym due)

  -- nothing stays
  goes : (k : Key) (row : PresentRow) → nat_lt m row.look ≡ false → row_by m (record_at later k) row ≡ None → None ≡ then (k, row)
  unfolding row_after
  goes k row due none =
      sym (ap (λ (b : Bool). Entry k (cond b (Some row) (row_by m (record_at later k) row))) due ∙ ap (Entry k) none)

  no_record : (k : Key) (row : PresentRow) → record_at groups k ≡ None → row_by m (record_at later k) row ≡ None
  unfolding row_by
  no_record k row none = ap (λ (o : Option GroupRecordRow). row_by m o row) (lasts.gone k none)

  by_record : (k : Key) (row : PresentRow) (o : Option GroupRecordRow) → record_at groups k ≡ o → nat_lt m row.look ≡ false
      → option_and_then then (Entry k (row_by n o row)) ≡ then (k, row)
  unfolding row_by
  by_record k row None found due = goes k row due (no_record k row found)
  by_record k row (Some r) found due = go (runs n row) refl
    where
      go : (b : Bool) → runs n row ≡ b → option_and_then then (Entry k (cond b (Some (seen row r)) None)) ≡ then (k, row)
      go true running = stays k row r found due
      go false stopped = goes k row due (none_stays row (record_at later k) (stopped_then row stopped))

  one : (e : Row) → option_and_then then (entry_after groups n e) ≡ then e
  unfolding row_after
  one e = go (nat_lt n (e.1).look) refl
    where
      go : (b : Bool) → nat_lt n (e.1).look ≡ b
          → option_and_then then (Entry e.0 (cond b (Some e.1) (row_by n (record_at groups e.0) e.1))) ≡ then e
      go true later_on = refl
      go false due = by_record e.0 e.1 (record_at groups e.0) refl (before_then (e.1).look due)

  -- ---- all rows

  abbrev first : Row → Option Row
  first e = entry_after groups n e

  all : (rows : Table PresentRow) → filter_map then (filter_map first rows) ≡ filter_map then rows
  all [] = refl
  all (e ∷ es) = go (first e) refl (all es)
    where
      go : (o : Option Row) → first e ≡ o → filter_map then (filter_map first es) ≡ filter_map then es
          → filter_map then (cons_option o (filter_map first es)) ≡ cons_option (then e) (filter_map then es)
      go None is later_on =
          later_on ∙ ap (λ (x : Option Row). cons_option x (filter_map then es)) (ap (option_and_then then) (sym is) ∙ one e)
      go (Some x) is later_on =
          ap (cons_option (then x)) later_on
          ∙ ap (λ (y : Option Row). cons_option y (filter_map then es)) (ap (option_and_then then) (sym is) ∙ one e)

  pub looked_once : (p : Present) → looked later m (looked groups n p) ≡ looked later m p
  unfolding looked
  looked_once p = ap (λ (rows : Table PresentRow). let q : Present = record p { rows = rows } in q) (all p.rows)

-- ---- time

none_of : {R : Type 0} (o : Option R) → is_some o ≡ false → o ≡ None
none_of o e = grind arith

module _ (s : State) (settled : IsSettled s) (w m : ℕ) where
  abbrev after : Table GroupRecordRow
  after = (advanced s w m).state.group_records

  no_record_comes : (k : Key) → record_at s.group_records k ≡ None → record_at after k ≡ None
  unfolding has_row
  no_record_comes k none =
      let key : Key = star_key (iface_in k) (group_in k) in
      none_of (record_at after k) (none_comes key w s m (ap (λ (o : Option GroupRecordRow). is_some o) none))

  not_past : (end : ℕ) → nat_lt m end ≡ true → nat_le end m ≡ false
  not_past end e = grind (arith, nat_tests, e)

  its_end : (end : ℕ) (o : Option ℕ) → o ≡ Some end → runs_until end o ≡ true
  its_end end o is = subst (λ (x : Option ℕ). runs_until end x ≡ true) (sym is) (grind (arith, nat_tests))

  record_kept : (k : Key) (r : GroupRecordRow) (end : ℕ) → record_at s.group_records k ≡ Some r → r.end ≡ Some end → nat_lt m end ≡ true
      → record_at after k ≡ Some r
  record_kept k r end found is later =
      time_keeps end (iface_in k) (group_in k) m (not_past end later) r (its_end end r.end is) w s
      (record { there = found; lawful = settled_is_lawful s settled })

  pub time_lasts : Lasts m s.group_records after
  time_lasts = record { gone = no_record_comes; kept = record_kept }
