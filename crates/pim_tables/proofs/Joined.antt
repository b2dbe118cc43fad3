-- The first of two lists of ends is told by the first of each.
use Rattle.std.{proofs.{Common.{◌≡◌, Bool, true, false, cond, List, [], ◌∷◌, ◌++◌, Option, Some, None, option_map, refl, sym, ap, ◌∙◌}, lemmas.Bool.true≢false}, specs.{Ordering.is_lt, Prelude.if◌then◌else◌}}
use Rattle.pim_timers.{specs.{Dues.Due, Order.due_cmp}}
use Rattle.pim_model.{specs.{Clearing.{first_by, first_of_both}, Timers.{Ending, ending_cmp, is_ending_first}}}
use Rattle.pim_tables.{specs.Ends.due_of, proofs.Firsts.order}

-- the first of two, where the one doesn't come later
abbrev pub first_of_two : Option Ending → Option Ending → Option Ending
first_of_two None o = o
first_of_two (Some x) o = Some (first_of_both is_ending_first x o)

abbrev pub due_of_two : Option Due → Option Due → Option Due
due_of_two None o = o
due_of_two (Some d) None = Some d
due_of_two (Some d) (Some e) = if is_lt (due_cmp e d) then Some e else Some d

module _ (x y z : Ending) where
  before_both : is_ending_first z y ≡ true → is_ending_first y x ≡ true → is_ending_first z x ≡ true
  before_both first second = go (is_ending_first z x) refl
    where
      go : (b : Bool) → is_ending_first z x ≡ b → b ≡ true
      go true e = refl
      go false e = absurd (true≢false (sym first ∙ order.chain z x y e (order.one_way y x second)))

  grouped : (b c : Bool) → is_ending_first z y ≡ b → is_ending_first y x ≡ c
      → cond (is_ending_first (cond b z y) x) (cond b z y) x
      ≡ cond (is_ending_first z (cond c y x)) z (cond c y x)
  grouped true true e f = rw (e, before_both e f) refl
  grouped true false e f = refl
  grouped false true e f = rw (e, f) refl
  grouped false false e f = rw (f, order.chain z y x e f) refl

one_then : (x : Ending) (o u : Option Ending)
    → Some (first_of_both is_ending_first x (first_of_two o u)) ≡ first_of_two (first_of_two (Some x) o) u
unfolding first_of_both
one_then x None u = refl
one_then x (Some y) None = refl
one_then x (Some y) (Some z) =
    ap (λ (e : Ending). Some e) (grouped x y z (is_ending_first z y) (is_ending_first y x) refl refl)

first_joined : (xs ys : List Ending)
    → first_by is_ending_first (xs ++ ys) ≡ first_of_two (first_by is_ending_first xs) (first_by is_ending_first ys)
unfolding first_by
first_joined [] ys = refl
first_joined (x ∷ xs) ys =
    ap (λ o. Some (first_of_both is_ending_first x o)) (first_joined xs ys)
    ∙ one_then x (first_by is_ending_first xs) (first_by is_ending_first ys)

told_of_two : (o u : Option Ending)
    → option_map due_of (first_of_two o u) ≡ due_of_two (option_map due_of o) (option_map due_of u)
unfolding first_of_both ending_cmp due_cmp
told_of_two None u = refl
told_of_two (Some x) None = refl
told_of_two (Some x) (Some y) = go (is_lt (due_cmp (due_of y) (due_of x)))
  where
    go : (b : Bool) → Some (due_of (cond b y x)) ≡ cond b (Some (due_of y)) (Some (due_of x))
    go true = refl
    go false = refl

pub joined : (one other result : Option Due) → result ≡ due_of_two one other → (xs ys : List Ending)
    → one ≡ option_map due_of (first_by is_ending_first xs)
    → other ≡ option_map due_of (first_by is_ending_first ys)
    → result ≡ option_map due_of (first_by is_ending_first (xs ++ ys))
joined one other result is xs ys first second =
    is ∙ (λ i. due_of_two (first i) (second i))
    ∙ sym (told_of_two (first_by is_ending_first xs) (first_by is_ending_first ys))
    ∙ ap (option_map due_of) (sym (first_joined xs ys))

-- which of the two it is
module _ (one other : Option Due) where
  pub the_second : (d e : Due) → one ≡ Some d → other ≡ Some e → is_lt (due_cmp e d) ≡ true
      → other ≡ due_of_two one other
  the_second d e first second before =
      second ∙ sym ((λ i. due_of_two (first i) (second i)) ∙ ap (λ (b : Bool). cond b (Some e) (Some d)) before)

  pub the_first : (d e : Due) → one ≡ Some d → other ≡ Some e → is_lt (due_cmp e d) ≡ false
      → one ≡ due_of_two one other
  the_first d e first second before =
      first ∙ sym ((λ i. due_of_two (first i) (second i)) ∙ ap (λ (b : Bool). cond b (Some e) (Some d)) before)

  pub only_first : (d : Due) → one ≡ Some d → other ≡ None → one ≡ due_of_two one other
  only_first d first none = first ∙ sym (λ i. due_of_two (first i) (none i))

  pub only_second : one ≡ None → other ≡ due_of_two one other
  only_second none = sym (λ i. due_of_two (none i) other)
