-- Each named source counts for two, a row and a put, or for one, a removal.
use Rattle.std.{proofs.{Common.{◌≡◌, ◌≤◌, ℕ, ◌+◌, ◌*◌, Bool, true, false, List, [], ◌∷◌, ◌++◌, ap, length, refl, sym, ◌∙◌, arith}, lemmas.List.{length-map, Sums.{sum_by-cons, sum_by_push}}}, specs.{List.sum_by, Prelude.if◌then◌else◌}}
use Rattle.pim_trie.{specs.Meter.raised}
use Rattle.pim_types.{specs.declared.{fact.Key.Key, name.SourceGroup.SourceGroup}}
use Rattle.pim_model.{specs.{State.State, Tables.has_row}}
use Rattle.pim_fanout.{specs.{Before.name_key, Named.keys_of, Refreshing.{touches_in, touches_of}}}

both_raised : (c e : ℕ) → raised (raised c 1) (raised e 1) ≡ raised (raised c e) 2
unfolding raised
both_raised c e = omega arith

one_raised : (c e : ℕ) → raised (raised c 1) e ≡ raised (raised c e) 1
unfolding raised
one_raised c e = omega arith

pub one_put : (c e : ℕ) (known : Bool) → known ≡ true
    → raised (raised c 1) (raised e 1) ≡ raised (raised c e) (if known then 2 else 1)
one_put c e known is = rw is (both_raised c e)

pub one_taken_out : (c e : ℕ) (known : Bool) → known ≡ false
    → raised (raised c 1) e ≡ raised (raised c e) (if known then 2 else 1)
one_taken_out c e known is = rw is (one_raised c e)

raised_on : (c m n : ℕ) → raised (raised c m) n ≡ raised c (m + n)
unfolding raised
raised_on c m n = omega arith

-- of a loop over sources: one more
pub one_more : {X : Type 0} (f : X → ℕ) (xs ys : List X) (x : X) (old before new : ℕ) → ys ≡ xs ++ x ∷ []
    → before ≡ raised old (sum_by f xs) → new ≡ raised before (f x) → new ≡ raised old (sum_by f ys)
one_more f xs ys x old before new more so one =
    one ∙ ap (λ (n : ℕ). raised n (f x)) so ∙ raised_on old (sum_by f xs) (f x)
    ∙ ap (raised old) (sym (ap (sum_by f) more ∙ sum_by_push f xs x))

-- ---- for all of them no more than two each

two_at_most : (known : Bool) → (if known then 2 else 1) ≤ 2
two_at_most true = omega arith
two_at_most false = omega arith

touches_few : (s : State) (ks : List Key) → touches_in s ks ≤ 2 * length ks
touches_few s [] = omega arith
touches_few s (k ∷ ks) =
    let all = sum_by-cons (touches_of s) k ks in
    let one = two_at_most (has_row s.sources k) in
    let rest = touches_few s ks in
    omega (arith, all, one, rest)

at_most_sum : (old new n : ℕ) → new ≡ raised old n → new ≤ old + n
unfolding raised
at_most_sum old new n is = omega (arith, is)

pub costs_few : (s : State) (names : List SourceGroup) (old new : ℕ) → new ≡ raised old (touches_in s (keys_of names))
    → new ≤ old + 2 * length names
costs_few s names old new is =
    let few = touches_few s (keys_of names) in
    let sum = at_most_sum old new (touches_in s (keys_of names)) is in
    let same : length (keys_of names) ≡ length names = length-map names name_key in
    omega (arith, few, sum, same)

pub one_counts : (c e : ℕ) → 1 ≤ raised (raised c 1) e
unfolding raised
one_counts c e = omega arith

pub then_counts : (c e : ℕ) → 1 ≤ raised c (raised e 1)
unfolding raised
then_counts c e = omega arith

-- ---- where nothing is touched there are no names

one_at_least : (known : Bool) → 1 ≤ (if known then 2 else 1)
one_at_least true = omega arith
one_at_least false = omega arith

nothing_raised : (old new n : ℕ) → new ≡ raised old n → new ≡ 0 → n ≡ 0
unfolding raised
nothing_raised old new n is none = omega (arith, is, none)

pub none_counted : (s : State) (names : List SourceGroup) (old new : ℕ) → new ≡ 0
    → new ≡ raised old (touches_in s (keys_of names)) → names ≡ []
none_counted s [] old new none is = refl
none_counted s (n ∷ ns) old new none is =
    let all = sum_by-cons (touches_of s) (name_key n) (keys_of ns) in
    let one = one_at_least (has_row s.sources (name_key n)) in
    let sum = nothing_raised old new (touches_in s (keys_of (n ∷ ns))) is none in
    absurd (omega (arith, all, one, sum))
