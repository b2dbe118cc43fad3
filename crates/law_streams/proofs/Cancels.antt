-- How many asserts are cancelled after a change.
use Rattle.std.{proofs.Common.{◌≡◌, ◌∙◌, ℕ, zero, suc, ◌+◌, ◌<◌, ◌≤◌, not, ◌&&◌, ◌||◌, Bool, true, false, cond, List, [], ◌∷◌, filter, length, Option, Some, None, option_map, refl, sym, ap, subst, arith, length-append}, specs.{Cmp.Derive.both_true, List.{find, list_any}, Option.option_or}}
use Rattle.pim_types.{specs.{Keys.same_key, declared.fact.{AssertRow.AssertRow, Key.Key, SourceRow.SourceRow}}, proofs.Keys.same_key_same}
use Rattle.pim_model.{specs.{Asserts.{assert_cancel, assert_forgotten, without_spt_bit}, Clearing.{ClearAssert, ClearSptBit, Cleared, assert_must_go, cleared, first_by, is_assert_first, spt_must_go}, Messages.Message, Repeat.{after_next, and_then, until_none}, Sets.is_winner, State.State, Tables.{drop_at, drop_where}}}
use Rattle.law_settled.{proofs.{ListLaws.{any_more, any_of_filter, first_by_member}, TableLaws.any_in_filter}}
use Rattle.law_events.{specs.Locality.{of_touched, touched_assert, touched_clear, touched_spt, touched_to_clear, touching}}
use Rattle.law_streams.{specs.Answers.{cancels, is_touched_winner}}

-- ---- a filtered list of which one is dropped

module _ {X : Type 0} (p keep : X → Bool) where
  -- fewer pass after a drop, and strictly fewer where one that passes goes
  left_step : (x : X) (xs : List X) (b c : Bool) → p x ≡ b
      → length (filter p (filter keep xs)) ≤ length (filter p xs)
      → length (filter p (cond c (x ∷ filter keep xs) (filter keep xs))) ≤ length (cond b (x ∷ filter p xs) (filter p xs))
  left_step x xs b c e le = grind arith

  pub left : (xs : List X) → length (filter p (filter keep xs)) ≤ length (filter p xs)
  left [] = omega arith
  left (x ∷ xs) = left_step x xs (p x) (keep x) refl (left xs)

  fewer_step : (x : X) (xs : List X) (b c : Bool) → p x ≡ b → ((b && not c) || list_any (λ y. p y && not (keep y)) xs) ≡ true
      → (list_any (λ y. p y && not (keep y)) xs ≡ true → length (filter p (filter keep xs)) < length (filter p xs))
      → length (filter p (cond c (x ∷ filter keep xs) (filter keep xs))) < length (cond b (x ∷ filter p xs) (filter p xs))
  fewer_step x xs b c e f ih = grind (arith, left)

  fewer : (xs : List X) → list_any (λ y. p y && not (keep y)) xs ≡ true → length (filter p (filter keep xs)) < length (filter p xs)
  fewer [] e = cc
  fewer (x ∷ xs) e = fewer_step x xs (p x) (keep x) refl e (fewer xs)

module _ (keys : List Key) (o : State) where
  abbrev p : Key × AssertRow → Bool
  p e = is_touched_winner keys e

  -- the chosen assert is one of the touched ones
  chosen_is_there : (s : State) (k : Key) (r : AssertRow) → touched_assert (touching keys) o s ≡ Some (ClearAssert k r)
      → is_winner (Some r) ≡ true → list_any (λ y. p y && not (not (same_key k y.0))) s.asserts ≡ true
  unfolding touched_assert
  chosen_is_there s k r e won = go (first_by is_assert_first (filter (assert_must_go o s) (filter (of_touched (touching keys)) s.asserts))) refl e
    where
      q : Key × AssertRow → Bool
      q y = is_winner (Some y.1) && same_key k y.0

      inside : (y : Key × AssertRow) (b c d : Bool) → (b && (c && d)) ≡ true → ((b && c) && not (not d)) ≡ true
      inside y true true true f = refl
      inside y true true false f = cc
      inside y true false d f = cc
      inside y false c d f = cc

      go : (f : Option (Key × AssertRow))
          → first_by is_assert_first (filter (assert_must_go o s) (filter (of_touched (touching keys)) s.asserts)) ≡ f
          → option_map (λ x. ClearAssert x.0 x.1) f ≡ Some (ClearAssert k r)
          → list_any (λ y. p y && not (not (same_key k y.0))) s.asserts ≡ true
      go None was f = cc
      go (Some d) was f =
          let key : d.0 ≡ k = cc in
          let row : d.1 ≡ r = cc in
          let here : q d ≡ true =
          both_true (ap (λ (x : AssertRow). is_winner (Some x)) row ∙ won) (ap (λ x. same_key k x) key ∙ same_key_same k) in
          let among : list_any q (filter (of_touched (touching keys)) s.asserts) ≡ true =
          any_of_filter (assert_must_go o s) q (filter (of_touched (touching keys)) s.asserts)
          (first_by_member is_assert_first q (filter (assert_must_go o s) (filter (of_touched (touching keys)) s.asserts)) d here was) in
          any_more _ _ (λ y. inside y (touching keys y.0) (is_winner (Some y.1)) (same_key k y.0)) s.asserts
          (sym (any_in_filter (of_touched (touching keys)) q s.asserts) ∙ among)

  abbrev Falls : State → Cleared → Type 0
  Falls s c = length (cleared s c).1 + cancels keys (cleared s c).0 ≤ cancels keys s

  assert_falls : (s : State) (k : Key) (r : AssertRow) → touched_assert (touching keys) o s ≡ Some (ClearAssert k r)
      → Falls s (ClearAssert k r)
  unfolding cleared assert_forgotten cancels drop_at drop_where
  assert_falls s k r e = go (is_winner (Some r)) refl
    where
      go : (b : Bool) → is_winner (Some r) ≡ b
          → length (cond b (assert_cancel k ∷ []) []) + length (filter p (filter (λ x. not (same_key k x.0)) s.asserts))
          ≤ length (filter p s.asserts)
      go true won =
          let less = fewer p (λ (x : Key × AssertRow). not (same_key k x.0)) s.asserts (chosen_is_there s k r e won) in omega (arith, less)
      go false lost =
          let le = left p (λ (x : Key × AssertRow). not (same_key k x.0)) s.asserts in omega (arith, le)

  spt_falls : (s : State) (k : Key) → Falls s (ClearSptBit k)
  unfolding cleared without_spt_bit cancels
  spt_falls s k = omega arith

  next_falls : (s : State) (c : Cleared) → touched_to_clear (touching keys) o s ≡ Some c → Falls s c
  unfolding touched_to_clear touched_spt
  next_falls s c e = go (touched_assert (touching keys) o s) refl e
    where
      of_spt : (f : Option (Key × SourceRow)) → option_map (λ x. ClearSptBit x.0) f ≡ Some c → Falls s c
      of_spt None g = cc
      of_spt (Some x) g = let same : ClearSptBit x.0 ≡ c = cc in subst (Falls s) same (spt_falls s x.0)

      of_assert : (d : Cleared) → touched_assert (touching keys) o s ≡ Some d → Falls s d
      of_assert (ClearAssert k r) g = assert_falls s k r g
      of_assert (ClearSptBit k) g = spt_falls s k

      go : (f : Option Cleared) → touched_assert (touching keys) o s ≡ f → option_or f (touched_spt (touching keys) s) ≡ Some c
          → Falls s c
      go None was g = of_spt (find (spt_must_go s) (filter (of_touched (touching keys)) s.sources)) g
      go (Some d) was g = let same : d ≡ c = cc in subst (Falls s) same (of_assert d was)

  abbrev turn : ℕ → State → State × List Message
  turn n s = until_none (touched_to_clear (touching keys) o) cleared n s

  turn_falls : (n : ℕ) → ((s : State) → length (turn n s).1 + cancels keys (turn n s).0 ≤ cancels keys s)
      → (s : State) (f : Option Cleared) → touched_to_clear (touching keys) o s ≡ f
      → length (after_next (touched_to_clear (touching keys) o) cleared (turn n) s f).1
      + cancels keys (after_next (touched_to_clear (touching keys) o) cleared (turn n) s f).0 ≤ cancels keys s
  unfolding after_next and_then
  turn_falls n ih s f e = grind (arith, next_falls, length-append)

  turns_fall : (n : ℕ) (s : State) → length (turn n s).1 + cancels keys (turn n s).0 ≤ cancels keys s
  unfolding until_none
  turns_fall zero s = omega arith
  turns_fall (suc n) s = turn_falls n (turns_fall n) s (touched_to_clear (touching keys) o s) refl

  pub clearing_cancels : (s : State) → length (touched_clear (touching keys) o s).1 ≤ cancels keys s
  unfolding touched_clear
  clearing_cancels s = grind (arith, turns_fall)
