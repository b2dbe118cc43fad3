-- The keys of a table's rows, as the invariant has them.
use Rattle.std.{proofs.Common.{◌≡◌, ◌&&◌, Bool, true, false, cond, not, List, [], ◌∷◌, Option, Some, is_some, filter, refl}, specs.List.list_all}
use Rattle.pim_types.{specs.{declared.fact.Key.Key, Keys.{is_on, same_key}}, proofs.Keys.same_key_same}
use Rattle.pim_model.{specs.Tables.{Table, has_row, row_at}}
use Rattle.pim_store.{specs.{PimTables.{PimTables, are_of_kind, is_assert_key, is_plain_key, is_rpt_key, is_source_key}, Said.{is_of_iface, is_plain_of_iface, is_source_of_router}}}

left_true : (a b : Bool) → (a && b) ≡ true → a ≡ true
left_true true b e = refl
left_true false b e = cc

pub below_when_plain : (k : Key) → is_plain_of_iface k ≡ true → is_of_iface k ≡ true
below_when_plain k plain = left_true (is_of_iface k) (not k.rpt) plain

pub of_router_when_source : (k : Key) → is_source_of_router k ≡ true → is_on 0 k ≡ true
of_router_when_source k source =
    left_true (is_on 0 k) (not k.rpt) (left_true (is_on 0 k && not k.rpt) (is_some k.source) source)

right_true : (a b : Bool) → (a && b) ≡ true → b ≡ true
right_true true b e = e
right_true false b e = cc

-- what all entries pass is no test
module _ {X : Type 0} (all test : X → Bool) where
  one_passed : (a b : Bool) (x : X) (xs ys : List X) → a ≡ true → xs ≡ ys
      → cond (a && b) (x ∷ xs) xs ≡ cond b (x ∷ ys) ys
  one_passed true b x xs ys passed rest = rw rest refl
  one_passed false b x xs ys passed rest = cc

  pub passed_by_all : (xs : List X) → list_all all xs ≡ true → filter (λ x. all x && test x) xs ≡ filter test xs
  passed_by_all [] passed = refl
  passed_by_all (x ∷ xs) passed =
      one_passed (all x) (test x) x (filter (λ x. all x && test x) xs) (filter test xs)
      (left_true (all x) (list_all all xs) passed) (passed_by_all xs (right_true (all x) (list_all all xs) passed))

both : (a b : Bool) → a ≡ true → b ≡ true → (a && b) ≡ true
both true b first second = second
both false b first second = cc

module _ {R : Type 0} (test : Key → Bool) where
  here : (b : Bool) (r : R) (o : Option R) → b ≡ true → is_some (cond b (Some r) o) ≡ true
  here true r o is = refl
  here false r o is = cc

  past : (b : Bool) (r : R) (o : Option R) → is_some o ≡ true → is_some (cond b (Some r) o) ≡ true
  past true r o there = refl
  past false r o there = there

  -- what holds of each key with a row holds of each entry
  pub all_fit : (t : Table R) → ((k : Key) → has_row t k ≡ true → test k ≡ true) → list_all (λ e. test e.0) t ≡ true
  unfolding has_row row_at
  all_fit [] fit = refl
  all_fit (e ∷ t) fit =
      both (test e.0) (list_all (λ e. test e.0) t)
      (fit e.0 (here (same_key e.0 e.0) e.1 (row_at t e.0) (same_key_same e.0)))
      (all_fit t (λ k there. fit k (past (same_key k e.0) e.1 (row_at t k) there)))

-- all tables, each by itself
pub each_of_kind : (f : PimTables) → list_all (λ e. is_of_iface e.0) f.downstream ≡ true
    → list_all (λ e. is_assert_key e.0) f.asserts ≡ true → list_all (λ e. is_plain_key e.0) f.join_timers ≡ true
    → list_all (λ e. is_rpt_key e.0) f.override_timers ≡ true → list_all (λ e. is_source_key e.0) f.sources ≡ true
    → list_all (λ e. is_source_key e.0) f.registers ≡ true → are_of_kind f ≡ true
each_of_kind f downstream asserts join_timers override_timers sources registers =
    both _ _ downstream (both _ _ asserts (both _ _ join_timers (both _ _ override_timers (both _ _ sources registers))))
