-- A named source is reached: if nothing of it differs from the opening in any of the states that the change passes
-- through, nothing differs in the last of them.
use Rattle.std.{proofs.Common.{◌≡◌, ℕ, zero, suc, ◌≤◌, Bool, true, false, not, ◌||◌, cond, List, [], ◌∷◌, filter, length, Option, refl, arith}, specs.{Cmp.second_so, List.{list_all, list_any}}}
use Rattle.pim_model.{specs.{Asserts.{assert_forgotten, without_spt_bit}, Clearing.{Cleared, clear, clear_all, clearable_count, cleared, to_clear}, Reach.{differs_among, agrees_for_source, keeps_neighbours, passes, reach, to_next}, Registers.settle_registers, Repeat.{after_next, and_then, until_none}, State.State}}
use Rattle.law_settled.{proofs.TurnLaws.kept_to_the_end}
use Rattle.law_events.{specs.{Calm.is_calm, NamedLaws.IsUnreached, Named.{is_source_named, named, named_by}}, proofs.{Sights.{source_beside, source_sight}, Unreached.{Alike, Around, alike, alike_sees, around_kept, fact_same, kept_alive_same, register_same}, SameRows.flags_same}}

-- ---- what clearing keeps

-- what neither clearing nor the registers change
pub record Keeps (s t : State) : Type 0 where
  pub settings : s.settings ≡ t.settings
  pub configured : s.configured ≡ t.configured
  pub routes : s.routes ≡ t.routes
  pub ranges : s.ranges ≡ t.ranges
  pub interfaces : s.interfaces ≡ t.interfaces
  pub neighbours : s.neighbours ≡ t.neighbours

pub one_cleared : (s t : State) (c : Cleared) → Keeps s t → Keeps s (cleared t c).0
unfolding cleared assert_forgotten without_spt_bit
one_cleared s t c kept = grind arith

pub clearing_keeps : (o s : State) → Keeps s (clear o s).0
unfolding clear clear_all settle_registers
clearing_keeps o s =
    kept_to_the_end (to_clear o) cleared (Keeps s) (λ t c kept e. one_cleared s t c kept)
    (clearable_count (settle_registers s)) (settle_registers s)
    (record { settings = refl; configured = refl; routes = refl; ranges = refl; interfaces = refl; neighbours = refl })

-- ---- the last state is one of them

module _ (next : State → Option Cleared) (p : State → Bool) where
  last_turn : (n : ℕ) → ((t : State) → p t ≡ true → list_all p (until_none next to_next n t).1 ≡ true
      → p (until_none next cleared n t).0 ≡ true)
      → (s : State) (o : Option Cleared) → p s ≡ true
      → list_all p (after_next next to_next (λ t. until_none next to_next n t) s o).1 ≡ true
      → p (after_next next cleared (λ t. until_none next cleared n t) s o).0 ≡ true
  unfolding after_next and_then
  last_turn n ih s o here all = grind arith

  last_passes : (n : ℕ) (s : State) → p s ≡ true → list_all p (until_none next to_next n s).1 ≡ true
      → p (until_none next cleared n s).0 ≡ true
  unfolding until_none
  last_passes zero s here all = here
  last_passes (suc n) s here all = last_turn n (last_passes n) s (next s) here all

-- the states after the own change
abbrev pub later : State → State → List State
later o changed =
    settle_registers changed ∷ (until_none (to_clear o) to_next
    (clearable_count (settle_registers changed)) (settle_registers changed)).1

pub end_passes : (o changed : State) (p : State → Bool) → list_all p (later o changed) ≡ true
    → p (clear o changed).0 ≡ true
unfolding clear clear_all
end_passes o changed p all = grind (arith, last_passes)

-- in a calm change the last state has the neighbours of the opening
pub calm_end : (o changed : State) → is_calm o changed ≡ true → keeps_neighbours o (clear o changed).0 ≡ true
unfolding is_calm passes
calm_end o changed calm = grind (arith, end_passes)

-- ---- what doesn't differ

module _ {X : Type 0} (p q : X → Bool) (more : (x : X) → p x ≡ true → q x ≡ true) where
  fewer_step : (x : X) (xs ys : List X) (b c : Bool) → (b ≡ true → c ≡ true) → length xs ≤ length ys
      → length (cond b (x ∷ xs) xs) ≤ length (cond c (x ∷ ys) ys)
  fewer_step x xs ys b c h ih = grind arith

  pub fewer : (xs : List X) → length (filter p xs) ≤ length (filter q xs)
  fewer [] = omega arith
  fewer (x ∷ xs) = fewer_step x (filter p xs) (filter q xs) (p x) (q x) (more x) (fewer xs)

neither : (a b : Bool) → (a || b) ≡ false → a ≡ false
neither a b e = grind arith

pub all_of_none : {X : Type 0} (p : X → Bool) (xs : List X) → list_any (λ x. not (p x)) xs ≡ false
    → list_all p xs ≡ true
all_of_none p [] e = refl
all_of_none p (x ∷ xs) e = grind (arith, all_of_none p xs)

-- from the opening nothing differs
none_differs : (g src : ℕ) (o changed : State) → differs_among g src (passes o changed) ≡ false
    → agrees_for_source g src o (clear o changed).0 ≡ true
unfolding differs_among passes
none_differs g src o changed none =
    end_passes o changed (agrees_for_source g src o)
    (second_so (agrees_for_source g src o changed) (list_all (agrees_for_source g src o) (later o changed))
    (all_of_none (agrees_for_source g src o) (changed ∷ later o changed)
    (neither _ (differs_among g src (changed ∷ later o changed)) none)))

pub alike_is_unnamed : (g src : ℕ) (o a : State) → Around o a → Alike g src o a → is_source_named g src o a ≡ false
unfolding is_source_named
alike_is_unnamed g src o a around parts =
    grind (arith, flags_same, fact_same, source_sight, alike_sees, source_beside, kept_alive_same, register_same)

pub same_is_unnamed : (g src : ℕ) (o a : State) → Around o a → agrees_for_source g src o a ≡ true
    → is_source_named g src o a ≡ false
same_is_unnamed g src o a around same = alike_is_unnamed g src o a around (alike g src o a same)

-- of a source of which nothing differs the macros read the same, and its facts are the same but for their ends
pub unreached_is_same : (g src : ℕ) (o a : State) → Around o a → agrees_for_source g src o a ≡ true → IsUnreached g src o a
unreached_is_same g src o a around same =
    let parts : Alike g src o a = alike g src o a same in
    record {
      sees = alike_sees g src o a around parts;
      fact = fact_same g src o a around parts;
      kept_alive = kept_alive_same g src o a around parts;
      register = register_same g src o a around parts;
    }

by_case : (named differs : Bool) → (differs ≡ false → named ≡ false) → named ≡ true → differs ≡ true
by_case named differs none is = grind arith

-- the settings and what is configured are the opening's
pub record IsConfigured (o s : State) : Type 0 where
  pub settings : o.settings ≡ s.settings
  pub configured : o.configured ≡ s.configured

module _ (o changed : State) (is : IsConfigured o changed) where
  end_around : is_calm o changed ≡ true → Around o (clear o changed).0
  end_around calm = grind (arith, clearing_keeps, around_kept, calm_end)

  pub named_is_reached : is_calm o changed ≡ true → (g src : ℕ) → is_source_named g src o (clear o changed).0 ≡ true
      → differs_among g src (passes o changed) ≡ true
  named_is_reached calm g src = grind (arith, by_case, same_is_unnamed, end_around, none_differs)

  pub unreached_keeps : is_calm o changed ≡ true → (g src : ℕ) → differs_among g src (passes o changed) ≡ false
      → IsUnreached g src o (clear o changed).0
  unreached_keeps calm g src none =
      unreached_is_same g src o (clear o changed).0 (end_around calm) (none_differs g src o changed none)

  pub named_within : is_calm o changed ≡ true → length (named_by o changed) ≤ length (reach o changed)
  unfolding named_by named reach
  named_within calm = grind (arith, fewer, named_is_reached)
