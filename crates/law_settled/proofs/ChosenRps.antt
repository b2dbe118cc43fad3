-- Which RP a group has: candidates are chosen in one order, which is strict.
use Rattle.std.{proofs.{Common.{◌≡◌, ◌&&◌, ◌||◌, ℕ, Bool, true, false, not, nat_lt, List, [], ◌∷◌, Option, Some, None, refl, ap, subst, ◌∙◌, arith}, lemmas.Bool.Decides.nat_tests}, specs.{List.{list_all, list_any}, Prelude.{if◌then◌else◌, option_map}}}
use Rattle.pim_ip.{specs.{Ipv4.is_source_specific, Prefixes.{contains, longest_match}}}
use Rattle.pim_types.specs.declared.config.{RpCandidate.RpCandidate, RpRange.RpRange}
use Rattle.pim_model.{specs.{Candidates.{candidate_value, chosen, chosen_among, hash_value, is_chosen, or_else}, Unicast.{nearer_rp, rp_among}}}
use Rattle.law_settled.{specs.Choices.{FirstIsChosen, IsFirst, LongestMatchDecides, NoneIsChosen, ValuesAsPrinted, is_before}}

-- ---- one number after the other

-- what isn't below what isn't below a third isn't below that
not_below : (x y z : ℕ) (p q r : Bool) → (p ≡ false → q ≡ false → r ≡ false) → or_else x y p ≡ false
    → or_else y z q ≡ false → or_else x z r ≡ false
not_below x y z p q r next first second = grind (arith, nat_tests, next, first, second)

-- what is below another isn't above it
not_above : (x y : ℕ) (p q : Bool) → (p ≡ true → q ≡ false) → or_else x y p ≡ true → or_else y x q ≡ false
not_above x y p q next below = grind (arith, nat_tests, next, below)

not_itself : (x : ℕ) (p : Bool) → p ≡ false → or_else x x p ≡ false
not_itself x p next = grind (arith, nat_tests, next)

number_not_below : (x y z : ℕ) → nat_lt x y ≡ false → nat_lt y z ≡ false → nat_lt x z ≡ false
number_not_below x y z first second = grind (arith, nat_tests, first, second)

number_not_above : (x y : ℕ) → nat_lt x y ≡ true → nat_lt y x ≡ false
number_not_above x y below = grind (arith, nat_tests, below)

number_not_itself : (x : ℕ) → nat_lt x x ≡ false
number_not_itself x = grind (arith, nat_tests)

-- ---- candidates

not_chosen : (g : ℕ) (d b c : RpCandidate) → is_chosen g d b ≡ false → is_chosen g b c ≡ false → is_chosen g d c ≡ false
unfolding is_chosen
not_chosen g d b c first second =
    not_below c.prefix.length b.prefix.length d.prefix.length _ _ _
    (λ bc db. not_below d.priority b.priority c.priority _ _ _
    (λ db bc. not_below (candidate_value g c) (candidate_value g b) (candidate_value g d) _ _ _
    (λ bc db. number_not_below c.rp.bits b.rp.bits d.rp.bits bc db) bc db) db bc) second first

not_chosen_back : (g : ℕ) (b c : RpCandidate) → is_chosen g b c ≡ true → is_chosen g c b ≡ false
unfolding is_chosen
not_chosen_back g b c before =
    not_above c.prefix.length b.prefix.length _ _
    (λ bc. not_above b.priority c.priority _ _
    (λ bc. not_above (candidate_value g c) (candidate_value g b) _ _
    (λ bc. number_not_above c.rp.bits b.rp.bits bc) bc) bc) before

not_chosen_itself : (g : ℕ) (c : RpCandidate) → is_chosen g c c ≡ false
unfolding is_chosen
not_chosen_itself g c =
    not_itself c.prefix.length _
    (not_itself c.priority _ (not_itself (candidate_value g c) _ (number_not_itself c.rp.bits)))

-- ---- of a list

fewer_before : (b x y : Bool) → (x ≡ false → y ≡ false) → not (b && x) ≡ true → not (b && y) ≡ true
fewer_before b x y fewer none = grind (arith, fewer)

first_true : (a b : Bool) → (a && b) ≡ true → a ≡ true
first_true true b e = refl
first_true false b e = cc

second_true : (a b : Bool) → (a && b) ≡ true → b ≡ true
second_true true b e = e
second_true false b e = cc

-- what isn't before one that isn't before another isn't before that
none_before : (g : ℕ) (best c : RpCandidate) → is_chosen g best c ≡ false → (cs : List RpCandidate)
    → list_all (λ d. not (is_before g best d)) cs ≡ true → list_all (λ d. not (is_before g c d)) cs ≡ true
none_before g best c behind [] none = refl
none_before g best c behind (d ∷ ds) none =
    let here : not (is_before g best d) ≡ true =
    first_true (not (is_before g best d)) (list_all (λ x. not (is_before g best x)) ds) none in
    let later : list_all (λ x. not (is_before g best x)) ds ≡ true =
    second_true (not (is_before g best d)) (list_all (λ x. not (is_before g best x)) ds) none in
    let one : not (is_before g c d) ≡ true =
    fewer_before (contains d.prefix g) (is_chosen g d best) (is_chosen g d c)
    (λ e. not_chosen g d best c e behind) here in
    let more : list_all (λ x. not (is_before g c x)) ds ≡ true = none_before g best c behind ds later in
    rw (one, more) refl

none_inside : (g : ℕ) (c : RpCandidate) (cs : List RpCandidate)
    → list_any (λ (d : RpCandidate). contains d.prefix g) cs ≡ false → list_all (λ d. not (is_before g c d)) cs ≡ true
none_inside g c [] none = refl
none_inside g c (d ∷ ds) none = go (contains d.prefix g) refl none (λ e. none_inside g c ds e)
  where
    go : (b : Bool) → contains d.prefix g ≡ b
        → (b || list_any (λ (x : RpCandidate). contains x.prefix g) ds) ≡ false
        → (list_any (λ (x : RpCandidate). contains x.prefix g) ds ≡ false
        → list_all (λ x. not (is_before g c x)) ds ≡ true)
        → (not (contains d.prefix g && is_chosen g d c) && list_all (λ x. not (is_before g c x)) ds) ≡ true
    go true is none more = cc
    go false is none more = let rest : list_all (λ x. not (is_before g c x)) ds ≡ true = more none in rw (is, rest) refl

abbrev chosen_one : RpCandidate → Option RpCandidate
chosen_one c = Some c

-- one more candidate
module _ (g : ℕ) (c : RpCandidate) (cs : List RpCandidate) where
  by_order : (best : RpCandidate) (b : Bool) (is : contains c.prefix g ≡ true) → is_chosen g best c ≡ b → IsFirst cs g best
      → IsFirst (c ∷ cs) g (if b then best else c)
  by_order best true is before f = record {
    inside = f.inside;
    first = rw (is, not_chosen_back g best c before, f.first) refl;
  }
  by_order best false is behind f = record {
    inside = is;
    first = rw (is, not_chosen_itself g c, none_before g best c behind cs f.first) refl;
  }

  with_more : (best : Option RpCandidate) (b : Bool) → contains c.prefix g ≡ b
      → ((d : RpCandidate) → best ≡ Some d → IsFirst cs g d)
      → (best ≡ None → list_any (λ (d : RpCandidate). contains d.prefix g) cs ≡ false)
      → (x : RpCandidate) → (if b then Some (chosen g c best) else best) ≡ Some x → IsFirst (c ∷ cs) g x
  unfolding chosen
  with_more best false is some none x e =
      let f : IsFirst cs g x = some x e in
      record { inside = f.inside; first = rw (is, f.first) refl }
  with_more None true is some none x e =
      subst (λ (w : RpCandidate). IsFirst (c ∷ cs) g w) (one_is c x e)
      (record { inside = is; first = rw (is, not_chosen_itself g c, none_inside g c cs (none refl)) refl })
    where
      one_is : (a b : RpCandidate) → chosen_one a ≡ chosen_one b → a ≡ b
      one_is a b same = cc
  with_more (Some best) true is some none x e =
      subst (λ (w : RpCandidate). IsFirst (c ∷ cs) g w) (one_is (if is_chosen g best c then best else c) x e)
      (by_order best (is_chosen g best c) is refl (some best refl))
    where
      one_is : (a b : RpCandidate) → chosen_one a ≡ chosen_one b → a ≡ b
      one_is a b same = cc

  none_more : (best : Option RpCandidate) (b : Bool) → contains c.prefix g ≡ b
      → (best ≡ None → list_any (λ (d : RpCandidate). contains d.prefix g) cs ≡ false)
      → (if b then Some (chosen g c best) else best) ≡ None
      → list_any (λ (d : RpCandidate). contains d.prefix g) (c ∷ cs) ≡ false
  none_more best true is none e = cc
  none_more best false is none e = rw (is, none e) refl

pub none_is_chosen : NoneIsChosen
unfolding chosen_among
none_is_chosen [] g e = refl
none_is_chosen (c ∷ cs) g e =
    none_more g c cs (chosen_among cs g) (contains c.prefix g) refl (none_is_chosen cs g) e

pub first_is_chosen : FirstIsChosen
unfolding chosen_among
first_is_chosen [] g x e = cc
first_is_chosen (c ∷ cs) g x e =
    with_more g c cs (chosen_among cs g) (contains c.prefix g) refl (first_is_chosen cs g) (none_is_chosen cs g) x e

-- ---- no candidates

alone : (r : Option RpRange) → nearer_rp r None ≡ option_map (λ (r : RpRange). r.rp.bits) r
alone None = refl
alone (Some r) = refl

pub longest_match_decides : LongestMatchDecides
unfolding rp_among chosen_among
longest_match_decides ranges g none =
    ap (λ (cs : List RpCandidate). if is_source_specific g then None
    else nearer_rp (longest_match (λ (r : RpRange). r.prefix) ranges.static_ranges g) (chosen_among cs g)) none
    ∙ ap (λ (rp : Option ℕ). if is_source_specific g then None else rp)
    (alone (longest_match (λ (r : RpRange). r.prefix) ranges.static_ranges g))

pub values_as_printed : ValuesAsPrinted
unfolding hash_value
values_as_printed = (refl, refl, refl)
