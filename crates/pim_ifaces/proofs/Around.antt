-- The one subnet that an address lies in, by the own addresses in ascending order.
use Rattle.std.{proofs.{Common.{inl, inr, ⊎_elim, ◌≡◌, ◌<◌, ◌≤◌, ◌+◌, ◌-◌, ◌/◌, ◌^◌, ◌&&◌, not, ℕ, zero, suc, Bool, true, false, List, [], ◌∷◌, ◌++◌, None, Option, Some, length, append_assoc, drop, get_or, refl, sym, ap, ◌∙◌, subst, arith, eq-eqb, eqb-true, leb}, lemmas.{Bool.{or_left, or_right, Decides.nat_tests}, List.{append-nil, take_at, Elements.All-from_recursion, Sorted.{All-permutation, Contains-permutation}}, Nat.{div-add-mod', le-div, pow_pos, shr-shr}}}, specs.{Prelude.{IfSome, if◌then◌else◌, option_and_then, ◌⊎◌}, List.{refill, All, AllByRecursion, list_any, slice_get, Contains, Sorted.{IsNonDecreasingBy, IsPartitionPoint, IsPermutation}}, Option.option_map_or}}
use Rattle.pim_ip.{specs.Prefixes.contains}
use Rattle.pim_types.{specs.declared.config.InterfaceConfig.InterfaceConfig}
use Rattle.pim_model.{specs.{Limits.{are_apart, overlaps}, Unicast.subnet}}
use Rattle.pim_ifaces.{specs.{declared.configured.Own.Own, Subnets.{AreOrdered, Finds, found_at, found_before, lies_in, owns_from}}}

-- ---- addresses of one subnet

div_up : (a b p : ℕ) → 0 < p → a ≤ b → a / p ≤ b / p
div_up a b p pos le = le-div (a / p) b p pos (let e = div-add-mod' a p in omega (arith, e, le))

-- what lies between two addresses of a subnet lies in it
in_between : (x y z p n : ℕ) → 0 < p → x ≤ z → z ≤ y → x / p ≡ n → y / p ≡ n → z / p ≡ n
in_between x y z p n pos low high e f =
    let a = div_up x z p pos low in let b = div_up z y p pos high in omega (arith, e, f)

has : InterfaceConfig → ℕ → Bool
has c a = contains (subnet c) a

said : (c : InterfaceConfig) (a : ℕ) → has c a ≡ true → a / 2 ^ (32 - c.length) ≡ c.address.bits / 2 ^ (32 - c.length)
unfolding contains has
said c a e = eqb-true _ _ e

says : (c : InterfaceConfig) (a : ℕ) → a / 2 ^ (32 - c.length) ≡ c.address.bits / 2 ^ (32 - c.length) → has c a ≡ true
unfolding contains has
says c a e = eq-eqb _ _ e

up_between : (c : InterfaceConfig) (a z : ℕ) → has c a ≡ true → c.address.bits ≤ z → z ≤ a → has c z ≡ true
up_between c a z e low high =
    says c z (in_between c.address.bits a z (2 ^ (32 - c.length)) _ (pow_pos _) low high refl (said c a e))

down_between : (c : InterfaceConfig) (a z : ℕ) → has c a ≡ true → a ≤ z → z ≤ c.address.bits → has c z ≡ true
down_between c a z e low high =
    says c z (in_between a c.address.bits z (2 ^ (32 - c.length)) _ (pow_pos _) low high (said c a e) refl)

-- of two subnets with an address in common one has the other's own
wider : (x y h k : ℕ) → h ≤ k → x / 2 ^ h ≡ y / 2 ^ h → x / 2 ^ k ≡ y / 2 ^ k
wider x y h k le e =
    let sum : h + (k - h) ≡ k = omega (arith, le) in
    subst (λ n. x / 2 ^ n ≡ y / 2 ^ n) sum
    (sym (shr-shr x h (k - h)) ∙ ap (λ n. n / 2 ^ (k - h)) e ∙ shr-shr y h (k - h))

meets : (c e : InterfaceConfig) (a : ℕ) → has c a ≡ true → has e a ≡ true → overlaps c e ≡ true
unfolding has
meets c e a f g = by_test (leb (32 - e.length) (32 - c.length)) refl where
  by_test : (b : Bool) → leb (32 - e.length) (32 - c.length) ≡ b → overlaps c e ≡ true
  by_test true le =
      or_left (has c e.address.bits) (has e c.address.bits)
      (says c e.address.bits
      (sym (wider a e.address.bits (32 - e.length) (32 - c.length) (grind (arith, nat_tests, le)) (said e a g))
      ∙ said c a f))
  by_test false le =
      or_right (has c e.address.bits) (has e c.address.bits)
      (says e c.address.bits
      (sym (wider a c.address.bits (32 - c.length) (32 - e.length) (grind (arith, nat_tests, le)) (said c a f))
      ∙ said e a g))

any_at : (q : InterfaceConfig → Bool) (xs : List InterfaceConfig) (i : ℕ) (c : InterfaceConfig)
    → slice_get xs i ≡ Some c → q c ≡ true → list_any q xs ≡ true
any_at q [] i c e f = cc
any_at q (x ∷ xs) zero c e f =
    or_left (q x) (list_any q xs) (ap (λ (o : Option InterfaceConfig). option_map_or q o false) e ∙ f)
any_at q (x ∷ xs) (suc i) c e f = or_right (q x) (list_any q xs) (any_at q xs i c e f)

clash : (b d : Bool) → (not b && d) ≡ true → b ≡ true → ⊥
clash b d e f = cc

-- an address lies in one subnet alone
unique : (cs : List InterfaceConfig) → are_apart cs ≡ true → (i j a : ℕ) (c e : InterfaceConfig)
    → slice_get cs i ≡ Some c → slice_get cs j ≡ Some e → has c a ≡ true → has e a ≡ true → i ≡ j
unfolding are_apart
unique [] apart i j a c e f g h k = cc
unique (x ∷ xs) apart zero zero a c e f g h k = refl
unique (x ∷ xs) apart zero (suc j) a c e f g h k =
    absurd (clash _ _ apart (any_at (overlaps x) xs j e g
    (meets x e a (ap (λ (o : Option InterfaceConfig). option_map_or (λ y. has y a) o false) f ∙ h) k)))
unique (x ∷ xs) apart (suc i) zero a c e f g h k =
    absurd (clash _ _ apart (any_at (overlaps x) xs i c f
    (meets x c a (ap (λ (o : Option InterfaceConfig). option_map_or (λ y. has y a) o false) g ∙ k) h)))
unique (x ∷ xs) apart (suc i) (suc j) a c e f g h k =
    ap suc (unique xs (rest (list_any (overlaps x) xs) (are_apart xs) apart) i j a c e f g h k) where
      rest : (b d : Bool) → (not b && d) ≡ true → d ≡ true
      rest b d e = grind arith

-- ---- the own addresses

-- it is the own address of the interface with its number
abbrev IsOwnOf : List InterfaceConfig → Own → Type 0
IsOwnOf cs o = (c : InterfaceConfig) × (slice_get cs o.number ≡ Some c) × (c.address.bits ≡ o.address)

all_owns : (all cs : List InterfaceConfig) (n : ℕ) → ((k : ℕ) → slice_get all (n + k) ≡ slice_get cs k)
    → AllByRecursion (IsOwnOf all) (owns_from n cs)
unfolding owns_from
all_owns all [] n same = tt
all_owns all (c ∷ cs) n same = (
  (c, ap (slice_get all) (first n) ∙ same 0, refl),
  all_owns all cs (n + 1) (λ k. ap (slice_get all) (next n k) ∙ same (suc k)),
) where
  first : (n : ℕ) → n ≡ n + 0
  first n = omega arith

  next : (n k : ℕ) → n + 1 + k ≡ n + suc k
  next n k = omega arith

abbrev own : ℕ → InterfaceConfig → Own
own n c = record { address = c.address.bits; number = n }

owns_has : (cs : List InterfaceConfig) (n i : ℕ) (c : InterfaceConfig) → slice_get cs i ≡ Some c
    → Contains (owns_from n cs) (own (n + i) c)
unfolding owns_from
owns_has [] n i c e = cc
owns_has (x ∷ cs) n zero c e =
    (0, omega arith, λ j. own (first n j) (head j)) where
      first : (n : ℕ) → n ≡ n + 0
      first n = omega arith

      head : x ≡ c
      head = ap (λ (o : Option InterfaceConfig). option_map_or (λ y. y) o x) e
owns_has (x ∷ cs) n (suc i) c e =
    let r = owns_has cs (n + 1) i c e in
    subst (λ m. Contains (owns_from n (x ∷ cs)) (own m c)) (next n i) (suc r.0, omega (arith, r.1), r.2) where
      next : (n k : ℕ) → n + 1 + k ≡ n + suc k
      next n k = omega arith

there : (a : ℕ) (o : Option InterfaceConfig) → option_map_or (λ c. contains (subnet c) a) o false ≡ true
    → (c : InterfaceConfig) × (o ≡ Some c) × (has c a ≡ true)
unfolding has
there a None e = cc
there a (Some c) e = (c, refl, e)

-- what is found at a place is an interface that the address lies in
lies_of : (cs : List InterfaceConfig) (a n : ℕ) (o : Option Own)
    → option_and_then (λ o. if lies_in cs a o.number then Some o.number else None) o ≡ Some n → lies_in cs a n ≡ true
lies_of cs a n None e = cc
lies_of cs a n (Some o) e = by_test (lies_in cs a o.number) refl e where
  by_test : (b : Bool) → lies_in cs a o.number ≡ b → (if b then Some o.number else None) ≡ Some n → lies_in cs a n ≡ true
  by_test true f e = ap (lies_in cs a) (sym (ap (λ (x : Option ℕ). option_map_or (λ y. y) x 0) e)) ∙ f
  by_test false f e = cc

lies_before : (cs : List InterfaceConfig) (owns : List Own) (a n place : ℕ) → found_before cs owns a place ≡ Some n
    → lies_in cs a n ≡ true
lies_before cs owns a n zero e = cc
lies_before cs owns a n (suc place) e = lies_of cs a n (slice_get owns place) e

got : (xs : List Own) (k : ℕ) (d : Own) → k < length xs → slice_get xs k ≡ Some (get_or xs k d)
got [] k d p = absurd (omega (arith, p))
got (x ∷ xs) zero d p = refl
got (x ∷ xs) (suc k) d p = got xs k d (omega (arith, p))

module _ (cs : List InterfaceConfig) (owns : List Own) (a point : ℕ) (ordered : AreOrdered cs owns) where
  is_own : (k : ℕ) (d : Own) → k < length owns → IsOwnOf cs (get_or owns k d)
  is_own k d p =
      All-permutation (IsOwnOf cs) (owns_from 0 cs) owns ordered.all
      (All-from_recursion (IsOwnOf cs) (owns_from 0 cs) (all_owns cs cs 0 (λ k. ap (slice_get cs) (from_start k)))) k d p where
        from_start : (k : ℕ) → 0 + k ≡ k
        from_start k = omega arith

  -- at a place whose own address the subnet of an interface has stands that interface
  found_here : (k : ℕ) (d : Own) → k < length owns → (i : ℕ) (c : InterfaceConfig) → slice_get cs i ≡ Some c
      → has c a ≡ true → has c (get_or owns k d).address ≡ true → found_at cs owns a k ≡ Some i
  unfolding has
  found_here k d p i c e f g =
      let o = get_or owns k d in
      let mine = is_own k d p in
      let same : i ≡ o.number =
      unique cs ordered.apart i o.number o.address c mine.0 e mine.1 g (says mine.0 o.address (ap (λ n. n / 2 ^ (32 - mine.0.length)) (sym mine.2))) in
      let lies : lies_in cs a o.number ≡ true =
      ap (lies_in cs a) (sym same) ∙ ap (λ (x : Option InterfaceConfig). option_map_or (λ c. contains (subnet c) a) x false) e ∙ f in
      ap (option_and_then (λ o. if lies_in cs a o.number then Some o.number else None)) (got owns k d p)
      ∙ ap (λ (b : Bool). if b then Some o.number else None) lies
      ∙ ap Some (sym same)

  pub of_before : (n : ℕ) → found_before cs owns a point ≡ Some n → Finds cs a (Some n)
  of_before n e = finds_one n (lies_before cs owns a n point e) where
    finds_one : (n : ℕ) → lies_in cs a n ≡ true → Finds cs a (Some n)
    finds_one n lies = record {
      lies = lies;
      only = λ i e.
          let mine = there a (slice_get cs n) lies in
          let other = there a (slice_get cs i) e in
          ap Some (unique cs ordered.apart n i a mine.0 other.0 mine.1 other.1 mine.2 other.2);
    }

  module _ (bound : point ≤ length owns)
      (at : IsPartitionPoint (λ o. leb o.address a ≡ true) (λ o. leb o.address a ≡ false) owns point) where
    -- an interface that the address lies in stands before the place or at it
    either_place : (i : ℕ) (c : InterfaceConfig) → slice_get cs i ≡ Some c → has c a ≡ true
        → (found_before cs owns a point ≡ Some i) ⊎ (found_at cs owns a point ≡ Some i)
    either_place i c e f =
        let x = own i c in
        let r = Contains-permutation (owns_from 0 cs) owns x ordered.all
        (subst (λ m. Contains (owns_from 0 cs) (own m c)) (from_start i) (owns_has cs 0 i c e)) in
        let is : (get_or owns r.0 x).address ≡ c.address.bits = ap (λ (o : Own). o.address) r.2 in
        by_place x r.0 r.1 is point refl (leb point r.0) refl where
          from_start : (k : ℕ) → 0 + k ≡ k
          from_start k = omega arith

          by_place : (x : Own) (p : ℕ) → p < length owns → (get_or owns p x).address ≡ c.address.bits
              → (n : ℕ) → n ≡ point → (b : Bool) → leb n p ≡ b
              → (found_before cs owns a n ≡ Some i) ⊎ (found_at cs owns a n ≡ Some i)
          by_place x p below is n here true le =
              let low : n ≤ p = grind (arith, nat_tests, le) in
              let past : leb (get_or owns n x).address a ≡ false = at.1 n x (omega (arith, here)) (omega (arith, low, below)) in
              let under = ordered.order n p x low below in
              inr (found_here n x (omega (arith, low, below)) i c e f
              (down_between c a (get_or owns n x).address f (grind (arith, nat_tests, past)) (omega (arith, under, is))))
          by_place x p below is zero here false le = absurd (grind (arith, nat_tests, le))
          by_place x p below is (suc k) here false le =
              let low : p ≤ k = grind (arith, nat_tests, le) in
              let upto : leb (get_or owns k x).address a ≡ true = at.0 k x (omega arith) (omega (arith, here)) in
              let under = ordered.order p k x low (omega (arith, here, bound)) in
              inl (found_here k x (omega (arith, here, bound)) i c e f
              (up_between c a (get_or owns k x).address f (omega (arith, under, is)) (grind (arith, nat_tests, upto))))

    pub of_place : found_before cs owns a point ≡ None → Finds cs a (found_at cs owns a point)
    of_place none = record {
      lies = lies_if (slice_get owns point);
      only = λ i e.
          let mine = there a (slice_get cs i) e in
          ⊎_elim (λ f. let no : ⊥ = cc in absurd no) (λ f. f) (either_place i mine.0 mine.1 mine.2);
    } where
      lies_if : (o : Option Own)
          → IfSome (option_and_then (λ o. if lies_in cs a o.number then Some o.number else None) o) (λ n. lies_in cs a n ≡ true)
      lies_if None = tt
      lies_if (Some o) = by_test (lies_in cs a o.number) refl where
        by_test : (b : Bool) → lies_in cs a o.number ≡ b
            → IfSome (if b then Some o.number else None) (λ n. lies_in cs a n ≡ true)
        by_test true f = f
        by_test false f = tt

-- ---- the own addresses, one after the other

pub are_ordered : (cs held : List InterfaceConfig) (given owns : List Own) → are_apart cs ≡ true → held ≡ cs
    → given ≡ owns_from 0 cs → IsPermutation given owns → IsNonDecreasingBy (λ (o : Own). o.address) owns → AreOrdered held owns
are_ordered cs held given owns apart same is all order =
    subst (λ xs. AreOrdered xs owns) (sym same)
    (record { apart = apart; all = subst (λ os. IsPermutation os owns) is all; order = order })

pub next_own : (done new : List Own) (left rest : List InterfaceConfig) (all : List Own) (n : ℕ) (c : InterfaceConfig) → new ≡ done ++ own n c ∷ []
    → left ≡ c ∷ rest → done ++ owns_from n left ≡ all → new ++ owns_from (n + 1) rest ≡ all
unfolding owns_from
next_own done new left rest all n c pushed is whole =
    ap (λ os. os ++ owns_from (n + 1) rest) pushed
    ∙ append_assoc done (own n c ∷ []) (owns_from (n + 1) rest)
    ∙ sym (ap (λ cs. done ++ owns_from n cs) is)
    ∙ whole

pub no_more : (done all : List Own) (left : List InterfaceConfig) (n : ℕ) → left ≡ [] → done ++ owns_from n left ≡ all
    → done ≡ all
unfolding owns_from
no_more done all left n is whole = sym (ap (λ cs. done ++ owns_from n cs) is ∙ append-nil done) ∙ whole

pub all_held : (held cs rest : List InterfaceConfig) → rest ≡ [] → held ++ rest ≡ cs → held ≡ cs
all_held held cs rest is whole = sym (ap (λ xs. held ++ xs) is ∙ append-nil held) ∙ whole

-- a list in whose place one of the same length was put
pub still_in_order : (before after : List Own) → length after ≡ length before → IsNonDecreasingBy (λ (o : Own). o.address) after
    → IsNonDecreasingBy (λ (o : Own). o.address) (refill (length before) before after)
still_in_order before after long order =
    subst (IsNonDecreasingBy (λ (o : Own). o.address))
    (sym (take_at after (drop (length after) before) (length before) long)) order
