-- Where keys touch all that is moved of which there are facts, what isn't touched isn't moved.
use Rattle.std.{proofs.Common.{◌≡◌, ◌||◌, ℕ, Bool, true, false, List, [], ◌∷◌, ◌++◌, Option, is_none, is_some, refl, sym, subst, ◌∙◌, eqb-true, arith}, specs.{Cmp.{first_so, second_so}, List.AllByRecursion, Option.option_map_or}}
use Rattle.pim_ip.{specs.declared.addr.Addr.Addr}
use Rattle.pim_types.{specs.{declared.fact.Key.Key, Keys.{group_in, is_star, names_source, source_in, source_key, star_key}}}
use Rattle.pim_model.{specs.{State.State, Tables.{Table, keys_in}, Upstream.fact_keys}}
use Rattle.law_settled.{proofs.ListLaws.{each_append, each_of_list}}
use Rattle.law_events.{specs.{Locality.touching, Scopes.reads, Moved.{MovesAlone, is_moved, is_touched_where_rerouted}, Named.{has_same_routes, has_same_rp, is_rerouted}}, proofs.{Rerouted.pick, FactsThere.isnt_star}}

-- ---- either way

one_left : (a b : Bool) → (a || b) ≡ true → b ≡ false → a ≡ true
one_left a b e f = grind arith

middle_left : (a b d : Bool) → (a || b || d) ≡ true → a ≡ false → d ≡ false → b ≡ true
middle_left a b d e f g = grind arith

not_other : (a b : Bool) → (a ≡ true → b ≡ false → ⊥) → a ≡ true → b ≡ true
not_other a b never e = grind arith

no_source : (o : Option Addr) → is_none o ≡ true → option_map_or (λ (a : Addr). a.bits) o 0 ≡ 0
no_source o e = grind arith

-- ---- keys

module _ (keys : List Key) (o c : State) where
  abbrev touched : Key → Bool
  touched = touching keys

  abbrev pub Taken : Key → Type 0
  Taken k = is_touched_where_rerouted keys o c k ≡ true

  as_star : (k : Key) → is_star k ≡ true → touched k ≡ touched (star_key 0 (group_in k))
  unfolding touching reads
  as_star k e = grind (arith, no_source)

  as_source : (k : Key) → touched k ≡ touched (source_key 0 (group_in k) (source_in k))
  unfolding touching reads
  as_source k = refl

  pub star_stays : (k : Key) → Taken k → touched (star_key 0 (group_in k)) ≡ false
      → has_same_rp (group_in k) o c ≡ true
  star_stays k is out =
      one_left (has_same_rp (group_in k) o c) (touched (star_key 0 (group_in k)))
      (first_so (has_same_rp (group_in k) o c || touched (star_key 0 (group_in k))) _ is) out

  pub source_stays : (k : Key) → Taken k → is_star k ≡ false → touched k ≡ false
      → has_same_routes (group_in k) (source_in k) o c ≡ true
  source_stays k is with out =
      middle_left (is_star k) (has_same_routes (group_in k) (source_in k) o c)
      (touched (source_key 0 (group_in k) (source_in k)))
      (second_so (has_same_rp (group_in k) o c || touched (star_key 0 (group_in k))) _ is) with
      (sym (as_source k) ∙ out)

  -- not touched, so not moved
  untouched_stays : (k : Key) → Taken k → touched k ≡ false → is_moved o c k ≡ false
  untouched_stays k is out = grind (arith, pick, star_stays, as_star, source_stays)

  pub moved_is_touched : (k : Key) → Taken k → is_moved o c k ≡ true → touched k ≡ true
  moved_is_touched k is = grind (arith, not_other, untouched_stays)

  -- of a source
  pub rerouted_is_touched : (k : Key) → Taken k → is_some k.source ≡ true → is_rerouted o c k ≡ true
      → touched k ≡ true
  rerouted_is_touched k is there = grind (arith, not_other, source_stays, isnt_star)

  pub touched_or_stays : (k : Key) → Taken k → is_some k.source ≡ true
      → (touched (source_key 0 (group_in k) (source_in k)) || has_same_routes (group_in k) (source_in k) o c) ≡ true
  touched_or_stays k is there = grind (arith, source_stays, isnt_star, as_source)

  -- a source with a fact that isn't touched
  pub fact_stays : (g src : ℕ) (k : Key) → Taken k → names_source g src k ≡ true
      → touched (source_key 0 g src) ≡ false → has_same_routes g src o c ≡ true
  unfolding names_source
  fact_stays g src k is e out = grind (arith, eqb-true, source_stays, isnt_star, as_source)

  -- ---- lists of keys

  pub record AreTaken (ks : List Key) : Type 0 where
    pub each : AllByRecursion Taken ks

  split : (xs ys : List Key) → AllByRecursion Taken (xs ++ ys) → AllByRecursion Taken xs × AllByRecursion Taken ys
  split [] ys e = (tt, e)
  split (x ∷ xs) ys e =
      let rest : AllByRecursion Taken xs × AllByRecursion Taken ys = split xs ys e.1 in ((e.0, rest.0), rest.1)

  pub first : (xs ys : List Key) → AreTaken (xs ++ ys) → AreTaken xs
  first xs ys e = record { each = (split xs ys e.each).0 }

  pub second : (xs ys : List Key) → AreTaken (xs ++ ys) → AreTaken ys
  second xs ys e = record { each = (split xs ys e.each).1 }

  pub both : (xs ys : List Key) → AreTaken xs → AreTaken ys → AreTaken (xs ++ ys)
  both xs ys e f = record { each = each_append Taken xs ys e.each f.each }

  -- the rows of a table under such keys
  abbrev pub RowsTaken : {R : Type 0} → Table R → Type 0
  RowsTaken t = AllByRecursion (λ e. Taken e.0) t

  pub rows_of_keys : {R : Type 0} → (t : Table R) → AreTaken (keys_in t) → RowsTaken t
  unfolding keys_in
  rows_of_keys [] e = tt
  rows_of_keys (x ∷ xs) e = ((e.each).0, rows_of_keys xs (record { each = (e.each).1 }))

  pub keys_of_rows : {R : Type 0} → (t : Table R) → RowsTaken t → AreTaken (keys_in t)
  unfolding keys_in
  keys_of_rows [] e = record { each = tt }
  keys_of_rows (x ∷ xs) e = record { each = (e.0, (keys_of_rows xs e.1).each) }

  -- ---- the facts before and after the change

  module _ (moves : MovesAlone keys o c) where
    pub facts_stay : fact_keys c ≡ fact_keys o
    unfolding fact_keys
    facts_stay = grind arith

    pub facts_taken : AreTaken (fact_keys o)
    facts_taken = record { each = each_of_list (is_touched_where_rerouted keys o c) (fact_keys o) moves.taken }

    pub new_facts_taken : AreTaken (fact_keys c)
    new_facts_taken = subst AreTaken (sym facts_stay) facts_taken
