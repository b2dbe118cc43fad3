-- The keys that a message can change, part after part, and how many it may make.
use Rattle.std.{proofs.{Common.{◌≡◌, ◌+◌, ◌==◌, ◌∙◌, ℕ, Bool, true, false, not, ◌&&◌, List, [], ◌++◌, arith, filter, length, length-append, map, refl, sym, ap}, lemmas.List.{Elements.filter-append, map-append}}}
use Rattle.pim_types.{specs.declared.fact.Key.Key}
use Rattle.law_settled.{proofs.ListLaws.filter_shorter}
use Rattle.law_events.{specs.JoinPrunes.{moved_among, moves_end}}
use Rattle.pim_model.{specs.{Downstream.{rpt_rows_joined, touched_keys}, Full.{keys_are_full, makeable_keys, needed, passes_limit}, State.State, Tables.Table}}
use Rattle.pim_state.{proofs.Room.{needed_within, room_for_fewer}}
use Rattle.pim_downstream.{specs.{Naming.{change_after, changes_after}, declared.effect.Change.Change}}

-- ---- part after part

module _ {X : Type 0} (f : List Key → List X) (joins : (xs ys : List Key) → f (xs ++ ys) ≡ f xs ++ f ys) where
  in_parts : (s : State) (i : ℕ) (joined pruned : List Key) (a b c d : List X) → a ≡ [] → b ≡ a ++ f joined
      → c ≡ b ++ f pruned → d ≡ c ++ f (rpt_rows_joined s i joined) → d ≡ f (touched_keys s i joined pruned)
  unfolding touched_keys
  in_parts s i joined pruned a b c d none first second third =
      let others : List Key = rpt_rows_joined s i joined in
      third
      ∙ ap (λ (xs : List X). xs ++ f others)
      (second
      ∙ ap (λ (xs : List X). xs ++ f pruned) (first ∙ ap (λ (xs : List X). xs ++ f joined) none)
      ∙ sym (joins joined pruned))
      ∙ sym (joins (joined ++ pruned) others)

-- of the keys of a message, by the lists in which they lie
module _ (s : State) (i holdtime : ℕ) (joined pruned : List Key) (jm pm : List Key) (same_joins : jm ≡ joined)
    (same_prunes : pm ≡ pruned) (xs ys zs us ws : List Key) (are_joins : xs ≡ joined) (are_prunes : ys ≡ pruned)
    (empty : ws ≡ []) (same_again : us ≡ joined) (are_others : zs ≡ ws ++ rpt_rows_joined s i us) where
  others : zs ≡ rpt_rows_joined s i joined
  others = are_others ∙ (λ j. empty j ++ rpt_rows_joined s i (same_again j))

  change : List Key → List Key → List Key → List Change
  change js ps ks = map (change_after s i holdtime js ps) ks

  pub all_changed : (a b c d : List Change) → a ≡ [] → b ≡ a ++ map (change_after s i holdtime jm pm) xs
      → c ≡ b ++ map (change_after s i holdtime jm pm) ys → d ≡ c ++ map (change_after s i holdtime jm pm) zs
      → d ≡ changes_after s i holdtime joined pruned
  unfolding change
  all_changed a b c d none first second third =
      in_parts (change joined pruned) (map-append (change_after s i holdtime joined pruned)) s i joined pruned a b c d none
      (first ∙ (λ j. a ++ change (same_joins j) (same_prunes j) (are_joins j)))
      (second ∙ (λ j. b ++ change (same_joins j) (same_prunes j) (are_prunes j)))
      (third ∙ (λ j. c ++ change (same_joins j) (same_prunes j) (others j)))

  moves : List Key → List Key → List Key → List Key
  moves js ps ks = filter (λ k. not (moves_end s i holdtime js ps k)) ks

  pub all_moved : (a b c d : List Key) → a ≡ [] → b ≡ a ++ filter (λ k. not (moves_end s i holdtime jm pm k)) xs
      → c ≡ b ++ filter (λ k. not (moves_end s i holdtime jm pm k)) ys
      → d ≡ c ++ filter (λ k. not (moves_end s i holdtime jm pm k)) zs → d ≡ moved_among s i holdtime joined pruned
  unfolding moved_among moves
  all_moved a b c d none first second third =
      in_parts (moves joined pruned) (filter-append (λ k. not (moves_end s i holdtime joined pruned k))) s i joined pruned
      a b c d none (first ∙ (λ j. a ++ moves (same_joins j) (same_prunes j) (are_joins j)))
      (second ∙ (λ j. b ++ moves (same_joins j) (same_prunes j) (are_prunes j)))
      (third ∙ (λ j. c ++ moves (same_joins j) (same_prunes j) (others j)))

-- ---- how many keys it may make

room_for_all : {R : Type 0} (s : State) (t : Table R) (joined pruned : List Key)
    → passes_limit s (length joined + length pruned) ≡ false
    → passes_limit s (needed t (makeable_keys joined pruned)) ≡ false
unfolding makeable_keys
room_for_all s t joined pruned e =
    let of_joins : List Key = filter (λ k. not k.rpt) joined in
    let of_prunes : List Key = filter (λ k. k.rpt) pruned in
    room_for_fewer s (needed t (of_joins ++ of_prunes)) (length joined + length pruned)
    (omega (
      arith,
      needed_within t (of_joins ++ of_prunes),
      length-append of_joins of_prunes,
      filter_shorter (λ k. not k.rpt) joined,
      filter_shorter (λ k. k.rpt) pruned,
    )) e

pub never_full : (s : State) (holdtime : ℕ) (joined pruned : List Key) (b : Bool)
    → b ≡ (not (holdtime == 0) && passes_limit s (length joined + length pruned)) → b ≡ false
    → false ≡ keys_are_full s holdtime joined pruned
unfolding keys_are_full
never_full s holdtime joined pruned b is off = go (not (holdtime == 0)) refl
  where
    most : Bool
    most = passes_limit s (length joined + length pruned)

    go : (c : Bool) → not (holdtime == 0) ≡ c
        → false ≡ (not (holdtime == 0) && passes_limit s (needed s.downstream (makeable_keys joined pruned)))
    go false e = rw e refl
    go true e =
        rw e (sym (room_for_all s s.downstream joined pruned (sym (is ∙ ap (λ c. c && most) e) ∙ off)))
