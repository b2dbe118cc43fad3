-- Rows that pass a test, taken away one after the other.
use Rattle.std.{proofs.{Common.{◌≡◌, ◌<◌, Bool, true, false, cond, not, [], ◌∷◌, length, Some, None, refl, sym, ap, subst, ◌∙◌}, lemmas.Bool.or_left}, specs.List.{AllByRecursion, filter, list_any}}
use Rattle.pim_types.{specs.{declared.fact.Key.Key, Keys.same_key}, proofs.Keys.{equal_keys, same_key_same}}
use Rattle.pim_model.{specs.Tables.{Table, drop_at, drop_where}}
use Rattle.law_settled.{proofs.ListLaws.{any_of_filter, each_passes, filter_stricter, filter_within}}
use Rattle.pim_tables.{specs.RowsOf.first_key}

module _ {R : Type 0} (test : Key → Bool) where
  abbrev passing : Table R → Table R
  passing t = filter (λ e. test e.0) t

  module _ (k : Key) where
    -- the first of those that pass is one of the table, and passes
    pub it_passes : (t : Table R) → first_key (passing t) ≡ Some k → test k ≡ true
    it_passes t first = go (passing t) (each_passes (λ e. test e.0) t) first
      where
        go : (xs : Table R) → AllByRecursion (λ (e : Key × R). test e.0 ≡ true) xs → first_key xs ≡ Some k
            → test k ≡ true
        go [] all e = cc
        go (x ∷ xs) all e = let same : x.0 ≡ k = cc in subst (λ (q : Key). test q ≡ true) same all.0

    is_there : (t : Table R) → first_key (passing t) ≡ Some k → list_any (λ e. same_key k e.0) t ≡ true
    is_there t first = any_of_filter (λ e. test e.0) (λ e. same_key k e.0) t (go (passing t) first)
      where
        go : (xs : Table R) → first_key xs ≡ Some k → list_any (λ e. same_key k e.0) xs ≡ true
        go [] e = cc
        go (x ∷ xs) e =
            let same : k ≡ x.0 = cc in
            or_left (same_key k x.0) (list_any (λ e. same_key k e.0) xs)
            (ap (same_key k) (sym same) ∙ same_key_same k)

    -- one row less
    pub fewer : (t : Table R) → first_key (passing t) ≡ Some k → length (drop_at t k) < length t
    unfolding drop_at drop_where
    fewer t first =
        filter_stricter (λ e. not (same_key k e.0)) (λ e. same_key k e.0) (λ e same. ap not same) t (is_there t first)

    others_stay : test k ≡ true → (e : Key × R) → not (test e.0) ≡ true → not (same_key k e.0) ≡ true
    others_stay here e other = go (same_key k e.0) refl
      where
        go : (b : Bool) → same_key k e.0 ≡ b → not b ≡ true
        go true same =
            let no : false ≡ true = ap not (sym here ∙ ap test (equal_keys k e.0 same)) ∙ other in cc
        go false differ = refl

    -- those that pass go all the same
    pub goes_anyhow : (t : Table R) → first_key (passing t) ≡ Some k → drop_where test (drop_at t k) ≡ drop_where test t
    unfolding drop_at drop_where
    goes_anyhow t first =
        filter_within (λ e. not (test e.0)) (λ e. not (same_key k e.0)) (others_stay (it_passes t first)) t

  all_stay : (t : Table R) → passing t ≡ [] → filter (λ e. not (test e.0)) t ≡ t
  all_stay [] none = refl
  all_stay (e ∷ t) none = go (test e.0) none (all_stay t)
    where
      go : (b : Bool) → cond b (e ∷ passing t) (passing t) ≡ [] → (passing t ≡ [] → filter (λ e. not (test e.0)) t ≡ t)
          → cond (not b) (e ∷ filter (λ e. not (test e.0)) t) (filter (λ e. not (test e.0)) t) ≡ e ∷ t
      go true none later = cc
      go false none later = ap (λ u. e ∷ u) (later none)

  -- where none passes nothing goes
  pub none_goes : (t : Table R) → first_key (passing t) ≡ None → drop_where test t ≡ t
  unfolding drop_where
  none_goes t none = all_stay t (go (passing t) none)
    where
      go : (xs : Table R) → first_key xs ≡ None → xs ≡ []
      go [] e = refl
      go (x ∷ xs) e = cc
