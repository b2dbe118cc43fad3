-- Which rows count.
use Rattle.std.proofs.{Common.{◌≡◌, ◌∙◌, ℕ, Bool, true, false, not, cond, nat_lt, [], ◌∷◌, None, refl, ap, arith}, lemmas.Bool.Decides.nat_tests}
use Rattle.pim_types.{specs.{Keys.{same_key, star_key}, declared.fact.{GroupRecordRow.GroupRecordRow, Key.Key}}, proofs.Keys.equal_keys}
use Rattle.pim_model.{specs.Tables.{Table, drop_where, has_row, row_at}}
use Rattle.law_settled.{proofs.RowLaws.row_kept}
use Rattle.igmp_older.{specs.{Modes.{is_three, mode_of, nobody}, Presence.{has_record, live_rows, mode_at, row_or_nobody, timers_at}, declared.mode.{Mode.Mode, PresentRow.PresentRow}}}

-- a key that doesn't pass is under no row that is left
row_gone : (test : Key → Bool) (k : Key) → test k ≡ true → (t : Table PresentRow) → row_at (drop_where test t) k ≡ None
unfolding row_at drop_where
row_gone test k out [] = refl
row_gone test k out (e ∷ t) = go (row_gone test k out t) (test e.0) refl
  where
    apart : test e.0 ≡ false → (b : Bool) → same_key k e.0 ≡ b → b ≡ false
    apart kept true same = let found : test k ≡ false = ap test (equal_keys k e.0 same) ∙ kept in cc
    apart kept false same = refl

    go : row_at (drop_where test t) k ≡ None → (b : Bool) → test e.0 ≡ b → row_at (cond (not b) (e ∷ drop_where test t) (drop_where test t)) k ≡ None
    go later true is = later
    go later false is = rw (apart is (same_key k e.0) refl) later

module _ (groups : Table GroupRecordRow) (rows : Table PresentRow) (i g : ℕ) where
  pub live_there : has_row groups (star_key i g) ≡ true → timers_at (live_rows groups rows) i g ≡ timers_at rows i g
  unfolding timers_at live_rows
  live_there there = ap row_or_nobody (row_kept (λ k. not (has_record groups k)) (star_key i g) (ap not there) rows)

  pub live_gone : has_row groups (star_key i g) ≡ false → timers_at (live_rows groups rows) i g ≡ nobody
  unfolding timers_at live_rows
  live_gone gone = ap row_or_nobody (row_gone (λ k. not (has_record groups k)) (star_key i g) (ap not gone) rows)

  module _ (now : ℕ) where
    pub mode_there : has_row groups (star_key i g) ≡ true → mode_at (live_rows groups rows) now i g ≡ mode_at rows now i g
    unfolding mode_at
    mode_there there = ap (mode_of now) (live_there there)

    -- without a record the mode is IGMPv3
    pub mode_gone : has_row groups (star_key i g) ≡ false → mode_at (live_rows groups rows) now i g ≡ Mode.Three
    unfolding mode_at mode_of
    mode_gone gone = let none : nat_lt now 0 ≡ false = grind (arith, nat_tests) in rw (live_gone gone, none) refl

    -- the mode of the timers that were found
    pub is_mode : (mode : Mode) (timers : PresentRow) (moment : ℕ) → timers ≡ timers_at rows i g → moment ≡ now → mode ≡ mode_of moment timers
        → mode ≡ mode_at rows now i g
    unfolding mode_at
    is_mode mode timers moment found at is = is ∙ (ap (λ (m : ℕ). mode_of m timers) at ∙ ap (λ (row : PresentRow). mode_of now row) found)

    three_is : (m : Mode) → is_three m ≡ true → m ≡ Mode.Three
    three_is Mode.One e = cc
    three_is Mode.Two e = cc
    three_is Mode.Three e = refl

    -- nor is it another where no timer runs
    pub mode_three : is_three (mode_at rows now i g) ≡ true → mode_at (live_rows groups rows) now i g ≡ Mode.Three
    mode_three three = go (has_row groups (star_key i g)) refl
      where
        go : (b : Bool) → has_row groups (star_key i g) ≡ b → mode_at (live_rows groups rows) now i g ≡ Mode.Three
        go true there = mode_there there ∙ three_is (mode_at rows now i g) three
        go false gone = mode_gone gone
