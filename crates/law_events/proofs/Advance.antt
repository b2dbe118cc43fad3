-- What is listed for each firing goes on from the states that the firings leave, and what bounds each bounds all.
use Rattle.std.{proofs.{Common.{◌≡◌, ℕ, zero, suc, ◌+◌, ◌-◌, ◌≤◌, Bool, true, List, [], ◌∷◌, ◌++◌, length, Option, refl, arith, length-append}, lemmas.List.Folds.list_all-append}, specs.List.list_all}
use Rattle.pim_model.{specs.{Firing.{fire_all, fire_instant, fire_once}, Reach.{reach, told_all, told_instant, told_once}, Repeat.{after_next, and_then, until_none}, State.State, Timers.{Ending, next_due, timers}}}
use Rattle.law_events.{specs.{Calm.is_calm, Named.named_by}, proofs.{Configured.firing_configured, Reached.named_within}}

-- ---- the same states

-- what goes on beside a state goes on as the state does
module _ {H S D X Y : Type 0} (state : H → S) (next : S → Option D) (f : H → D → H × List X) (h : S → D → S × List Y)
    (same : (s : H) (d : D) → state (f s d).0 ≡ (h (state s) d).0) where
  abbrev its_next : H → Option D
  its_next s = next (state s)

  end_turn : (n : ℕ) → ((t : H) → state (until_none its_next f n t).0 ≡ (until_none next h n (state t)).0)
      → (s : H) (o : Option D)
      → state (after_next its_next f (λ t. until_none its_next f n t) s o).0
      ≡ (after_next next h (λ t. until_none next h n t) (state s) o).0
  unfolding after_next and_then
  end_turn n ih s o = grind arith

  pub same_end : (n : ℕ) (s : H) → state (until_none its_next f n s).0 ≡ (until_none next h n (state s)).0
  unfolding until_none
  same_end zero s = refl
  same_end (suc n) s = end_turn n (same_end n) s (next (state s))

-- what is listed is the same where the states are
module _ {H S D X : Type 0} (state : H → S) (next : S → Option D) (f : H → D → H × List X) (h : S → D → S × List X)
    (same : (s : H) (d : D) → state (f s d).0 ≡ (h (state s) d).0) (told : (s : H) (d : D) → (f s d).1 ≡ (h (state s) d).1)
  where
    told_turn : (n : ℕ)
        → ((t : H) → (until_none (λ u. next (state u)) f n t).1 ≡ (until_none next h n (state t)).1) → (s : H) (o : Option D)
        → (after_next (λ u. next (state u)) f (λ t. until_none (λ u. next (state u)) f n t) s o).1
        ≡ (after_next next h (λ t. until_none next h n t) (state s) o).1
    unfolding after_next and_then
    told_turn n ih s o = grind arith

    pub same_told : (n : ℕ) (s : H) → (until_none (λ u. next (state u)) f n s).1 ≡ (until_none next h n (state s)).1
    unfolding until_none
    same_told zero s = refl
    same_told (suc n) s = told_turn n (same_told n) s (next (state s))

abbrev as_it_is : State → State
as_it_is s = s

-- ---- the bound of each is that of all

abbrev Few : {X Y : Type 0} → List X → List Y → Type 0
Few xs ys = length xs ≤ length ys

few_more : {X Y : Type 0} (xs xs' : List X) (ys ys' : List Y) → Few xs ys → Few xs' ys' → Few (xs ++ xs') (ys ++ ys')
few_more xs xs' ys ys' e f = rw (length-append xs xs', length-append ys ys') (omega (arith, e, f))

abbrev pub AllHold : List Bool → Type 0
AllHold bs = list_all (λ b. b) bs ≡ true

module _ {S D X Y : Type 0} (next : S → Option D) (f : S → D → S × List X) (h : S → D → S × List Y)
    (b : S → D → S × List Bool) (same : (s : S) (d : D) → (f s d).0 ≡ (h s d).0)
    (calm : (s : S) (d : D) → (b s d).0 ≡ (f s d).0)
    (bound : (s : S) (d : D) → AllHold (b s d).1 → Few (f s d).1 (h s d).1) where
  few_turn : (n : ℕ)
      → ((t : S) → AllHold (until_none next b n t).1 → Few (until_none next f n t).1 (until_none next h n t).1)
      → (s : S) (o : Option D) → AllHold (after_next next b (λ t. until_none next b n t) s o).1
      → Few (after_next next f (λ t. until_none next f n t) s o).1 (after_next next h (λ t. until_none next h n t) s o).1
  unfolding after_next and_then
  few_turn n ih s o all = grind (arith, list_all-append, few_more)

  pub all_few : (n : ℕ) (s : S) → AllHold (until_none next b n s).1
      → Few (until_none next f n s).1 (until_none next h n s).1
  unfolding until_none
  all_few zero s all = omega arith
  all_few (suc n) s all = few_turn n (all_few n) s (next s) all

-- ---- firings

abbrev pub told_calm : State → State → List Bool
told_calm o changed = is_calm o changed ∷ []

module _ {X Y : Type 0} (told : State → State → List X) (also : State → State → List Y) (w : ℕ) where
  same_instant : (s : State) (e : Ending) → (told_instant told w s e).0 ≡ (told_instant also w s e).0
  unfolding told_instant told_once
  same_instant s e = same_end as_it_is (next_due e.end) (told_once told w) (told_once also w) (λ t d. refl) (length (timers s) + 1) s

module _ {X : Type 0} (told : State → State → List X) (w : ℕ) where
  instant_fires : (s : State) (e : Ending) → (told_instant told w s e).0 ≡ (fire_instant w s e).0
  unfolding told_instant told_once fire_instant
  instant_fires s e = same_end as_it_is (next_due e.end) (told_once told w) (fire_once w) (λ t d. refl) (length (timers s) + 1) s

  pub told_fires : (moment : ℕ) (s : State) → (told_all told w moment s).0 ≡ (fire_all w moment s).0
  unfolding told_all fire_all
  told_fires moment s =
      same_end as_it_is (next_due moment) (told_instant told w) (fire_instant w) instant_fires (moment + 2 - s.present) s

module _ (w : ℕ) where
  few_once : (s : State) (e : Ending) → AllHold (told_once told_calm w s e).1
      → Few (told_once named_by w s e).1 (told_once reach w s e).1
  unfolding told_once
  few_once s e all = grind (arith, named_within, firing_configured)

  once_same : {X Y : Type 0} (told : State → State → List X) (also : State → State → List Y) (t : State) (d : Ending)
      → (told_once told w t d).0 ≡ (told_once also w t d).0
  unfolding told_once
  once_same told also t d = refl

  few_instant : (s : State) (e : Ending) → AllHold (told_instant told_calm w s e).1
      → Few (told_instant named_by w s e).1 (told_instant reach w s e).1
  unfolding told_instant
  few_instant s e all = grind (arith, all_few, once_same, few_once)

  pub few_all : (moment : ℕ) (s : State) → AllHold (told_all told_calm w moment s).1
      → Few (told_all named_by w moment s).1 (told_all reach w moment s).1
  unfolding told_all
  few_all moment s all = grind (arith, all_few, same_instant, few_instant)
