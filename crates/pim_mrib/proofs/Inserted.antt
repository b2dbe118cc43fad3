-- A value put into a trie that has none for its prefix.
use Rattle.std.{proofs.Common.{◌≡◌, Bool, true, false, cond, ◌||◌, List, [], ◌∷◌, Option, Some, None, is_some, refl, ap, ◌∙◌}, specs.{List.list_any, Map.lookup, BTreeMap.{insert_entry, is_at}, declared.cmp.Ordering.{Ordering, TheVariants.{Less, Equal, Greater}}, Ordering.{is_eq, match_ordering}}}
use Rattle.pim_ip.{specs.declared.addr.Prefix.Prefix}
use Rattle.pim_trie.{specs.Entries.prefix_cmp}

or-swap : (a b c : Bool) → (a || (b || c)) ≡ (b || (a || c))
or-swap true true c = refl
or-swap true false c = refl
or-swap false true c = refl
or-swap false false c = refl

module _ {V : Type 0} where
  -- a look-up finds something where some key passes
  found_step : (e : Prefix × V) (rest : Option V) (passes b : Bool) → is_some rest ≡ passes
      → is_some (cond b (Some e.1) rest) ≡ (b || passes)
  found_step e rest passes true h = refl
  found_step e rest passes false h = h

  pub is_some-lookup : (test : Prefix → Bool) (es : List (Prefix × V))
      → is_some (lookup test es) ≡ list_any (λ e. test e.0) es
  is_some-lookup test [] = refl
  is_some-lookup test (e ∷ es) = found_step e _ _ (test e.0) (is_some-lookup test es)

  -- what passes a test
  any_step : (test : Prefix × V
      → Bool) (p : Prefix) (v : V) (e : Prefix × V) (es more : List (Prefix × V)) (o : Ordering)
      → cond (is_eq o) (Some e.1) (lookup (is_at (prefix_cmp p)) es) ≡ None
      → (lookup (is_at (prefix_cmp p)) es ≡ None → list_any test more ≡ (test (p, v) || list_any test es))
      → list_any test (match_ordering o ((p, v) ∷ e ∷ es) ((e.0, v) ∷ es) (e ∷ more))
      ≡ (test (p, v) || (test e || list_any test es))
  any_step test p v e es more Less absent rest = refl
  any_step test p v e es more Equal absent rest = cc
  any_step test p v e es more Greater absent rest =
      ap (λ b. test e || b) (rest absent) ∙ or-swap (test e) (test (p, v)) (list_any test es)

  pub any-insert : (test : Prefix × V → Bool) (p : Prefix) (v : V) (es : List (Prefix × V))
      → lookup (is_at (prefix_cmp p)) es ≡ None
      → list_any test (insert_entry prefix_cmp es p v) ≡ (test (p, v) || list_any test es)
  any-insert test p v [] absent = refl
  any-insert test p v (e ∷ es) absent =
      any_step test p v e es _ (prefix_cmp p e.0) absent (any-insert test p v es)
