-- All keys that a message names, and all that it can change, are on its interface.
use Rattle.std.{proofs.{Common.{◌≡◌, ℕ, Bool, true, false, List, [], ◌∷◌, ◌++◌, map, filter, Option, refl, arith, ◌∙◌}, lemmas.{Bool.Decides.nat_tests, List.Folds.{list_all-append, list_all-map}}}, specs.{List.list_all, Prelude.{if◌then◌else◌, ◌&&◌}}}
use Rattle.pim_types.{specs.{declared.fact.{DownstreamRow.DownstreamRow, Key.Key}, Keys.{group_in, is_on, star_key}}}
use Rattle.pim_wire.{specs.{declared.join_prune.EntryKind.EntryKind, Values.JoinPrune}}
use Rattle.pim_model.{specs.{Downstream.{Named, joined_keys, key_by, is_named, named_key, pruned_keys, rpt_rows_joined, touched_keys}, State.State, Tables.keys_in}}
use Rattle.pim_downstream.{specs.{Naming.{are_on, is_rpt_joined}, declared.effect.Change.Change}}

module _ (i : ℕ) where
  by_on : (g address : ℕ) (kind : EntryKind) → is_on i (key_by i g address kind) ≡ true
  by_on g address EntryKind.Star = grind (arith, nat_tests)
  by_on g address EntryKind.Source = grind (arith, nat_tests)
  by_on g address EntryKind.SourceRpt = grind (arith, nat_tests)

  named_on : (ns : List Named) → are_on i (map (named_key i) ns) ≡ true
  named_on [] = refl
  named_on (n ∷ ns) = rw (by_on n.0 (n.1).address.bits (n.1).kind) (named_on ns)

  pub joined_on : (s : State) (m : JoinPrune) → are_on i (joined_keys s i m) ≡ true
  unfolding joined_keys
  joined_on s m = named_on _

  pub pruned_on : (m : JoinPrune) → are_on i (pruned_keys i m) ≡ true
  unfolding pruned_keys
  pruned_on m = named_on _

  module _ (joined : List Key) where
    next_on : (k : Key) (ks : List Key) (b c d : Bool) → is_on i k ≡ b → are_on i ks ≡ true
        → are_on i (if b && c && d then k ∷ ks else ks) ≡ true
    next_on k ks true true true on all = rw on all
    next_on k ks true true false on all = all
    next_on k ks true false d on all = all
    next_on k ks false c d on all = all

    kept_on : (ks : List Key) → are_on i (filter (is_rpt_joined i joined) ks) ≡ true
    kept_on [] = refl
    kept_on (k ∷ ks) =
        next_on k (filter (is_rpt_joined i joined) ks) (is_on i k) k.rpt (is_named joined (star_key i (group_in k))) refl
        (kept_on ks)

  both_on : (xs ys : List Key) → are_on i xs ≡ true → are_on i ys ≡ true → are_on i (xs ++ ys) ≡ true
  both_on xs ys all rest = rw (list_all-append (is_on i) xs ys, all) rest

  pub touched_on : (s : State) (joined pruned : List Key) → are_on i joined ≡ true → are_on i pruned ≡ true
      → are_on i (touched_keys s i joined pruned) ≡ true
  unfolding touched_keys rpt_rows_joined
  touched_on s joined pruned all_joined all_pruned =
      both_on (joined ++ pruned) _ (both_on joined pruned all_joined all_pruned)
      (kept_on joined (keys_in s.downstream))

  pub changes_on : (row : Key → Option DownstreamRow) (touched : List Key) (changes : List Change)
      → are_on i touched ≡ true → changes ≡ map (λ k. record { key = k; row = row k }) touched
      → list_all (λ (c : Change). is_on i c.key) changes ≡ true
  changes_on row touched changes all made =
      rw made (list_all-map (λ (c : Change). is_on i c.key) (λ k. record { key = k; row = row k }) touched ∙ all)
