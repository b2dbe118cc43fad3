-- Where nothing had to go at the opening, and the state agrees with it on all groups but some, what must go is of
-- those groups, and so is all that goes.
use Rattle.std.{proofs.Common.{◌≡◌, ◌||◌, ◌&&◌, Bool, true, false, not, cond, [], ◌∷◌, map, Some, option_map, refl, sym, ap, ◌∙◌, arith}, specs.{Cmp.{second_so, Derive.both_true}, List.{filter, find, list_all}, Option.option_or}}
use Rattle.pim_types.{specs.declared.fact.Key.Key}
use Rattle.pim_model.{specs.{Clearing.{ClearAssert, ClearSptBit, assert_must_go, assert_to_clear, first_by, is_assert_first, spt_must_go, spt_to_clear, to_clear}, State.State, Tables.{Table, rows_where}}}
use Rattle.law_settled.{proofs.ListLaws.all_of_filter}
use Rattle.law_events.{specs.{Locality.{AgreesBut, IsQuiet, of_touched, touched_assert, touched_spt, touched_to_clear}, Scopes.{reads, scope}}, proofs.{Asserts.{assert_must_go_local, reads_itself, spt_must_go_local}, Rows.cut_entry, SourceMacros.cut_kept, StarMacros.cut_assert, UntoldKeys.same_by_scope}}

-- ---- a test that fails on the rows of each group beside some

module _ {R : Type 0} (touches : Key → Bool) (p : Key × R → Bool) where
  -- no row beside the touched groups passes
  abbrev quiet_beside : Key × R → Bool
  quiet_beside e = touches e.0 || not (p e)

  narrowed_step : (x : Key × R) (xs : Table R) (b c : Bool) → p x ≡ b → (c || not b) ≡ true
      → filter p xs ≡ filter p (filter (of_touched touches) xs)
      → cond b (x ∷ filter p xs) (filter p xs) ≡ filter p
      (cond c (x ∷ filter (of_touched touches) xs) (filter (of_touched touches) xs))
  narrowed_step x xs b c e q ih = grind arith

  pub narrowed : (t : Table R) → list_all quiet_beside t ≡ true → filter p t ≡ filter p (filter (of_touched touches) t)
  narrowed [] e = refl
  narrowed (x ∷ xs) e =
      grind (arith, narrowed xs (second_so (quiet_beside x) (list_all quiet_beside xs) e), narrowed_step)

  find_step : (x : Key × R) (xs : Table R) (b c : Bool) → p x ≡ b → (c || not b) ≡ true
      → find p xs ≡ find p (filter (of_touched touches) xs)
      → cond b (Some x) (find p xs) ≡ find p
      (cond c (x ∷ filter (of_touched touches) xs) (filter (of_touched touches) xs))
  find_step x xs b c e q ih = grind arith

  pub found_narrowed : (t : Table R) → list_all quiet_beside t ≡ true
      → find p t ≡ find p (filter (of_touched touches) t)
  found_narrowed [] e = refl
  found_narrowed (x ∷ xs) e =
      grind (arith, found_narrowed xs (second_so (quiet_beside x) (list_all quiet_beside xs) e), find_step)

-- ---- quiet beside the touched groups

-- each key sees its own rows
module _ {R : Type 0} (p q : Key × R → Bool) (sees : Key → Key → Bool) (itself : (k : Key) → sees k k ≡ true)
    (touches : Key → Bool) (moves : (e : Key × R) → touches e.0 ≡ false → p e ≡ true → q e ≡ true) where
  tail_step : (test : Key → Bool) (x : Key × R) (xs : Table R) (b : Bool)
      → list_all p (cond b (x ∷ rows_where test xs) (rows_where test xs)) ≡ true
      → list_all p (rows_where test xs) ≡ true
  tail_step test x xs b e = grind arith

  head_step : (test : Key → Bool) (x : Key × R) (xs : Table R) (b : Bool) → b ≡ true
      → list_all p (cond b (x ∷ rows_where test xs) (rows_where test xs)) ≡ true
      → p x ≡ true
  head_step test x xs b f e = grind arith

  pub all_beside : (t : Table R) → ((k : Key) → touches k ≡ false → list_all p (rows_where (sees k) t) ≡ true)
      → list_all (λ e. touches e.0 || q e) t ≡ true
  unfolding rows_where
  all_beside [] quiet = refl
  all_beside (x ∷ xs) quiet =
      both_true
      (here (touches x.0) refl)
      (all_beside xs (λ k e. tail_step (sees k) x xs (sees k x.0) (quiet k e)))
    where
      here : (b : Bool) → touches x.0 ≡ b → (b || q x) ≡ true
      here true e = refl
      here false e = moves x e (head_step (sees x.0) x xs (sees x.0 x.0) (itself x.0) (quiet x.0 e))

-- a test that rows pass as they pass it when they are cut down
all_cut : {R : Type 0} (cut : R → R) (p : Key × R → Bool) → ((e : Key × R) → p (cut_entry cut e) ≡ p e) → (t : Table R)
    → list_all p (map (cut_entry cut) t) ≡ list_all p t
all_cut cut p fits [] = refl
all_cut cut p fits (x ∷ xs) = λ j. fits x j && all_cut cut p fits xs j

-- what the opening's rows pass, those of a table that agrees with them pass
pub all_agreed : {R : Type 0} (touches : Key → Bool) (cut : R → R) (p q : Key × R → Bool)
    → ((e : Key × R) → p (cut_entry cut e) ≡ p e)
    → ((e : Key × R) → touches e.0 ≡ false → p e ≡ true → q e ≡ true)
    → (t u : Table R)
    → ((k : Key) → touches k ≡ false
    → map (cut_entry cut) (rows_where (reads k) t) ≡ map (cut_entry cut) (rows_where (reads k) u))
    → list_all p t ≡ true
    → list_all (λ e. touches e.0 || q e) u ≡ true
unfolding rows_where
all_agreed touches cut p q fits moves t u same e =
    all_beside p q reads reads_itself touches moves u
    (λ k f. sym (all_cut cut p fits (rows_where (reads k) u))
    ∙ (ap (list_all p) (sym (same k f))
    ∙ (all_cut cut p fits (rows_where (reads k) t) ∙ all_of_filter (λ x. reads k x.0) p t e)))

module _ (touches : Key → Bool) (o : State) (quiet : IsQuiet o) where
  asserts_quiet : (s : State) → AgreesBut touches o s
      → list_all (λ e. touches e.0 || not (assert_must_go o s e)) s.asserts ≡ true
  unfolding scope assert_must_go
  asserts_quiet s agree =
      all_agreed touches cut_assert (λ e. not (assert_must_go o o e)) (λ e. not (assert_must_go o s e)) (λ e. refl)
      (λ e f h. ap not (sym (same_by_scope e.0 (λ t. assert_must_go o t e) (λ t. assert_must_go_local o t e)
      o s (agree e.0 f))) ∙ h)
      o.asserts s.asserts (λ h e. ap (λ (t : State). t.asserts) (agree h e)) quiet.clear.asserts

  spts_quiet : (s : State) → AgreesBut touches o s
      → list_all (λ e. touches e.0 || not (spt_must_go s e)) s.sources ≡ true
  unfolding scope
  spts_quiet s agree =
      all_agreed touches cut_kept (λ e. not (spt_must_go o e)) (λ e. not (spt_must_go s e)) (λ e. refl)
      (λ e f h. ap not (sym (same_by_scope e.0 (λ t. spt_must_go t e) (λ t. spt_must_go_local t e) o s
      (agree e.0 f))) ∙ h)
      o.sources s.sources (λ h e. ap (λ (t : State). t.sources) (agree h e)) quiet.clear.sources

  pub to_clear_of_touched : (s : State) → AgreesBut touches o s → to_clear o s ≡ touched_to_clear touches o s
  unfolding to_clear touched_to_clear assert_to_clear spt_to_clear touched_assert touched_spt
  to_clear_of_touched s agree = λ j.
      option_or
      (option_map (λ e. ClearAssert e.0 e.1)
      (first_by is_assert_first (narrowed touches (assert_must_go o s) s.asserts (asserts_quiet s agree) j)))
      (option_map (λ e. ClearSptBit e.0) (found_narrowed touches (spt_must_go s) s.sources (spts_quiet s agree) j))
