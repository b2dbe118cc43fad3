-- What leaves an older host known.
use Rattle.std.{proofs.{Common.{◌≡◌, ℕ, ◌&&◌, ◌||◌, ◌==◌, ◌<◌, nat_le, nat_lt, Bool, true, false, cond, List, [], ◌∷◌, filter_map, fold, is_some, option_map, Option, Some, None, Result, refl, subst, arith, eqb-true, eq-eqb}, lemmas.Bool.{or_left, or_right, Decides.nat_tests}}}
use Rattle.pim_ip.{specs.declared.refusal.Refusal.Refusal}
use Rattle.pim_types.{specs.{Keys.{is_on, same_key, star_key}, declared.{event.EventKind.EventKind, fact.{GroupRecordRow.GroupRecordRow, Key.Key}, outcome.Verdict.Verdict}}, proofs.Keys.equal_keys}
use Rattle.pim_model.{specs.{State.State, Tables.{Table, has_row, put, row_at}}}
use Rattle.law_settled.{proofs.{ListLaws.{by_cond, either}, RowLaws.{row_kept, row_put, row_put_away}}}
use Rattle.law_streams.{proofs.Climbs.swapped}
use Rattle.igmp_older.{specs.{Joined.{FrontedRouter, known_after, known_if, noted_if, present_end}, Modes.{heard, look_by, mode_of, row_by, runs}, Presence.{Present, doubted, doubted_at, left, looked, mode_at, noted_of, record_at, report_noted, row_after, row_or_nobody, timers_at}, declared.{mode.{Mode.Mode, PresentRow.PresentRow}, older.{Older.Older, OlderKind.OlderKind}}}}
use Rattle.law_hosts.{specs.Held.{KindHolds, knows_until}}

module _ (t i g : ℕ) where
  abbrev Knows : Table PresentRow → Type 0
  Knows rows = knows_until t (timers_at rows i g) ≡ true

  later : (now end : ℕ) → nat_lt now t ≡ true → nat_le t end ≡ true → nat_lt now end ≡ true
  later now end before h = grind (arith, nat_tests, before, h)

  -- a group that is known is in an older mode
  pub older_mode : (rows : Table PresentRow) (now : ℕ) → nat_lt now t ≡ true → Knows rows → mode_at rows now i g ≡ Mode.Three → ⊥
  unfolding mode_at mode_of
  older_mode rows now before f = grind (arith, either, or_left, later, or_right)

  -- ---- a message that is noted

  heard_known : (end : ℕ) (kind : OlderKind) (row : PresentRow) → nat_le t end ≡ true → knows_until t row ≡ true → knows_until t (heard end kind row) ≡ true
  heard_known end kind row h f = grind (arith, or_left, or_right)

  put_known : (rows : Table PresentRow) (j h end : ℕ) (kind : OlderKind) → (((j == i) && (h == g)) ≡ true → nat_le t end ≡ true) → Knows rows
      → Knows (put rows (star_key j h) (heard end kind (timers_at rows j h)))
  unfolding timers_at
  put_known rows j h end kind late f = grind (arith, eqb-true, row_put, heard_known, eq-eqb, row_put_away)

  report_known : (p : Present) (j end : ℕ) (older : Older) → (((j == i) && (older.group.bits == g)) ≡ true → nat_le t end ≡ true) → Knows p.rows
      → Knows (report_noted p j older end).rows
  unfolding report_noted
  report_known p j end older late f = grind (arith, by_cond, put_known)

  -- what a message names
  one_doubted : (j h : ℕ) (rows : Table PresentRow) → Knows rows → Knows (doubted_at j rows h)
  unfolding timers_at
  one_doubted j h rows f = grind (arith, eqb-true, row_put, eq-eqb, row_put_away)

  all_doubted : (j : ℕ) (gs : List ℕ) (rows : Table PresentRow) → Knows rows → Knows (fold (doubted_at j) rows gs)
  all_doubted j [] rows f = f
  all_doubted j (h ∷ gs) rows f = all_doubted j gs (doubted_at j rows h) (one_doubted j h rows f)

  doubted_known : (p : Present) (j : ℕ) (gs : List ℕ) → Knows p.rows → Knows (doubted j gs p).rows
  unfolding doubted
  doubted_known p j gs f = all_doubted j gs p.rows f

  noted_known : (kind : OlderKind) (p : Present) (j end : ℕ) (older : Older) → (((j == i) && (older.group.bits == g)) ≡ true → nat_le t end ≡ true)
      → Knows p.rows → Knows (noted_of kind p j older end).rows
  noted_known kind p j end older late f = grind (arith, doubted_known, report_known)

  if_known : (o : Option Older) (p : Present) (j end : ℕ) (bytes : List ℕ) → ((j == i) ≡ true → nat_le t end ≡ true) → Knows p.rows
      → Knows (noted_if p j end bytes o).rows
  if_known o p j end bytes late f = grind (arith, doubted_known, noted_known)

  -- ---- rows that go

  -- a row that stays, perhaps changed, is found as before
  found_among : (kept : Key × PresentRow → Option PresentRow) (k : Key) (P : Option PresentRow → Type 0)
      → ((row : PresentRow) (q : Key) → same_key k q ≡ true → P (Some row) → (after : PresentRow) × (kept (q, row) ≡ Some after) × P (Some after))
      → (P None → ⊥) → (rows : Table PresentRow) → P (row_at rows k)
      → P (row_at (filter_map (λ (e : Key × PresentRow). option_map (λ row. (e.0, row)) (kept e)) rows) k)
  unfolding row_at
  found_among kept k P stays some [] f = f
  found_among kept k P stays some (e ∷ rows) f = grind (arith, found_among kept k P stays some rows, later)

  runs_known : (moment : ℕ) (row : PresentRow) → nat_le t moment ≡ false → knows_until t row ≡ true → runs moment row ≡ true
  runs_known moment row before f = grind (arith, either, or_left, nat_tests, or_right)

  looked_known : (groups : Table GroupRecordRow) (moment : ℕ) (p : Present) → nat_le t moment ≡ false → 0 < t → has_row groups (star_key i g) ≡ true
      → Knows p.rows → Knows (looked groups moment p).rows
  unfolding looked timers_at row_after row_by has_row
  looked_known groups moment p before some there f =
      found_among (row_after groups moment) (star_key i g) (λ (o : Option PresentRow). knows_until t (row_or_nobody o) ≡ true)
      (λ row q same h. stays row q (equal_keys (star_key i g) q same) h (nat_lt moment row.look))
      (λ h. let no : nat_le t 0 ≡ false = grind (arith, nat_tests) in nobody_knows (nat_le t 0) no h) p.rows f
    where
      nobody_knows : (b : Bool) → b ≡ false → (b || b) ≡ true → ⊥
      nobody_knows true e h = cc
      nobody_knows false e h = cc

      recorded : (o : Option GroupRecordRow) → is_some o ≡ true → (row : PresentRow) → knows_until t row ≡ true
          → (after : PresentRow) × (row_by moment o row ≡ Some after) × (knows_until t after ≡ true)
      recorded None e row h = cc
      recorded (Some r) e row h = (record row { look = look_by r.end row }, rw (runs_known moment row before h) refl, h)

      stays : (row : PresentRow) (q : Key) → star_key i g ≡ q → knows_until t row ≡ true → (b : Bool)
          → (after : PresentRow) × (cond b (Some row) (row_by moment (record_at groups q) row) ≡ Some after) × (knows_until t after ≡ true)
      stays row q same h true = (row, refl, h)
      stays row q same h false =
          recorded (record_at groups q) (subst (λ (k : Key). is_some (record_at groups k) ≡ true) same there) row h

  left_known : (j : ℕ) (p : Present) → (j == i) ≡ false → Knows p.rows → Knows (left j p).rows
  unfolding left timers_at
  left_known j p off f = rw (row_kept (is_on j) (star_key i g) (swapped j i off) p.rows) f

  -- ---- any event

  done_known : (b : FrontedRouter) (after : State) (kind : EventKind) → nat_le t (present_end b.state i) ≡ true → 0 < t → KindHolds t i kind → has_row after.group_records (star_key i g) ≡ true → Knows b.present.rows
      → Knows (known_after b after kind).rows
  unfolding known_after
  done_known b after kind whole some h there f = grind (arith, if_known, eqb-true, looked_known, left_known)

  pub stays_known : (b : FrontedRouter) (after : State) (kind : EventKind) (answer : Result Verdict Refusal) → nat_le t (present_end b.state i) ≡ true → 0 < t → KindHolds t i kind
      → has_row after.group_records (star_key i g) ≡ true → Knows b.present.rows → Knows (known_if b after kind answer).rows
  unfolding known_if
  stays_known b after kind answer whole some h there f = grind (arith, done_known)
