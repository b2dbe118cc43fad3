-- The keys of a message, entry by entry and group by group.
use Rattle.std.{proofs.{Common.{◌≡◌, ℕ, Bool, true, false, List, [], ◌∷◌, ◌++◌, map, refl, ap, ◌∙◌}, lemmas.List.{map-append, Elements.filter-append}}, specs.List.{filter, flat_map}}
use Rattle.pim_types.{specs.declared.fact.Key.Key}
use Rattle.pim_wire.{specs.{Values.Group, declared.join_prune.Entry.Entry}}
use Rattle.pim_model.{specs.Downstream.{Named, named_key}}
use Rattle.pim_downstream.{specs.Naming.entry_keys, proofs.Loops.{all_made, first_value, one_more_made, passed, pushed, value_of}}

-- ---- the entries of a group, which count where they pass the test

module _ (test : Named → Bool) (i g : ℕ) where
  abbrev passes : Entry → Bool
  passes e = test (g, e)

  abbrev key_of : Entry → Key
  key_of e = named_key i (g, e)

  next_entry : (e : Entry) (es : List Entry)
      → entry_keys test i g (e ∷ es) ≡ value_of passes key_of e ++ entry_keys test i g es
  unfolding entry_keys
  next_entry e es = first_value test (named_key i) (g, e) (map (λ (x : Entry). (g, x)) es)

  -- the address of the group and the key as the loop has them
  pub entry_pushed : (made more whole : List Key) (e : Entry) (left es : List Entry) (address : ℕ) (k : Key)
      → left ≡ e ∷ es → address ≡ g → test (address, e) ≡ true → k ≡ named_key i (address, e) → more ≡ made ++ k ∷ []
      → made ++ entry_keys test i g left ≡ whole → more ++ entry_keys test i g es ≡ whole
  entry_pushed made more whole e left es address k is of_group through key added all =
      pushed passes key_of (entry_keys test i g) next_entry made more whole e left es is
      (rw (← of_group) through)
      (added ∙ ap (λ (x : Key). made ++ x ∷ []) (key ∙ ap (λ (n : ℕ). named_key i (n, e)) of_group)) all

  pub entry_passed : (made whole : List Key) (e : Entry) (left es : List Entry) (address : ℕ)
      → left ≡ e ∷ es → address ≡ g → test (address, e) ≡ false
      → made ++ entry_keys test i g left ≡ whole → made ++ entry_keys test i g es ≡ whole
  entry_passed made whole e left es address is of_group out all =
      passed passes key_of (entry_keys test i g) next_entry made whole e left es is (rw (← of_group) out) all

  pub entries_made : (made whole : List Key) (left : List Entry) → left ≡ []
      → made ++ entry_keys test i g left ≡ whole → made ≡ whole
  unfolding entry_keys
  entries_made made whole left is all = all_made (entry_keys test i g) made whole left is refl all

-- ---- the groups: the keys of one stand before those of the groups behind it

module _ {X Y : Type 0} (test : X → Bool) (value : X → Y) where
  kept-append : (xs ys : List X)
      → map value (filter test (xs ++ ys)) ≡ map value (filter test xs) ++ map value (filter test ys)
  kept-append xs ys =
      ap (λ (zs : List X). map value zs) (filter-append test xs ys)
      ∙ map-append value (filter test xs) (filter test ys)

module _ (test : Named → Bool) (entries : Group → List Entry) (i : ℕ) where
  abbrev named_of : Group → List Named
  named_of g = map (λ e. (g.group, e)) (entries g)

  abbrev pub group_keys : List Group → List Key
  group_keys gs = map (named_key i) (filter test (flat_map named_of gs))

  abbrev keys_of : Group → List Key
  keys_of g = entry_keys test i g.group (entries g)

  next_group : (g : Group) (gs : List Group) → group_keys (g ∷ gs) ≡ keys_of g ++ group_keys gs
  unfolding entry_keys
  next_group g gs = kept-append test (named_key i) (named_of g) (flat_map named_of gs)

  pub group_added : (made more whole : List Key) (g : Group) (left gs : List Group) → left ≡ g ∷ gs
      → more ≡ made ++ entry_keys test i g.group (entries g) → made ++ group_keys left ≡ whole
      → more ++ group_keys gs ≡ whole
  group_added = one_more_made group_keys keys_of next_group

  pub groups_made : (made whole : List Key) (left : List Group) → left ≡ [] → made ++ group_keys left ≡ whole
      → made ≡ whole
  groups_made made whole left is all = all_made group_keys made whole left is refl all
