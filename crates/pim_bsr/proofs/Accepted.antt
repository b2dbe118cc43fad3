-- The router refuses what it is given exactly where it would refuse the configured ranges alone.
use Rattle.std.{proofs.{Common.{◌≡◌, ℕ, ◌≤◌, Bool, true, false, not, nat_le, nat_lt, ◌&&◌, ◌==◌, List, [], ◌∷◌, ◌++◌, filter, length, map, refl, sym, ap, ◌∙◌, arith}, lemmas.{Bool.Decides.nat_tests, List.length-append}}, specs.{List.{list_all, list_any}}}
use Rattle.pim_ip.{specs.declared.addr.Prefix.Prefix}
use Rattle.pim_types.{specs.declared.config.RpRange.RpRange}
use Rattle.pim_model.specs.{Candidates.or_else, Limits.{are_distinct, are_rps, is_rp_range, most_rps, same_prefix}}
use Rattle.pim_bsr.{specs.{Choice.{is_beaten_by, is_better, is_chosen, range_value}, Sound.{AreSound, GivenIsAccepted, IsSoundTable, are_apart}, Table.{Table, fitting, given_of, is_configured, is_given, kept_count, range_of, ranges_by, room_beside, same_range}, declared.{choice.Choice.Choice, learned.Learned.Learned}}, proofs.{Lists.{and_both, and_first, and_second, both_pass, fewer, first_fails, first_passes, length-map_of, map_both, neither, not_false, not_true, or_first, or_second, same_by}, Sounder.fitting_sound}}

-- ---- of two RPs of a range one is better

-- where neither of two numbers is lower they are the same
total : (a b : Learned) → is_better a b ≡ false → is_better b a ≡ false → a.rp.bits ≡ b.rp.bits
unfolding is_better
total a b e f = decided a.priority b.priority (range_value a) (range_value b) a.rp.bits b.rp.bits e f
  where
    decided : (p q v w x y : ℕ) → or_else p q (or_else w v (nat_lt y x)) ≡ false → or_else q p (or_else v w (nat_lt x y)) ≡ false
        → x ≡ y
    decided p q v w x y e f = grind (arith, nat_tests, e, f)

same_address : (a b : Learned) → same_prefix a.prefix b.prefix ≡ true → a.rp.bits ≡ b.rp.bits → same_range (range_of a) (range_of b) ≡ true
same_address a b e f = and_both (same_prefix a.prefix b.prefix) (a.rp.bits == b.rp.bits) e (grind (arith, nat_tests, f))

pub turned : (p q : Prefix) → same_prefix p q ≡ same_prefix q p
turned p q = grind (arith, nat_tests)

second_fails : (a b : Bool) → a ≡ true → (a && b) ≡ false → b ≡ false
second_fails true b e f = f
second_fails false b e f = cc

-- ---- prefixes of RPs that are given

abbrev pub prefixes : List RpRange → List Prefix
prefixes rs = map (λ (r : RpRange). r.prefix) rs

module _ (static : List RpRange) (all : List Learned) where
  abbrev passes : Learned → Bool
  passes l = is_given static all l

  unbeaten : (l : Learned) → passes l ≡ true → list_any (is_beaten_by l) all ≡ false
  unfolding is_chosen
  unbeaten l e = not_true (list_any (is_beaten_by l) all) (and_second (not (is_configured static l)) _ e)

  new_prefix : (l : Learned) → passes l ≡ true → is_configured static l ≡ false
  new_prefix l e = not_true (is_configured static l) (and_first (not (is_configured static l)) (is_chosen all l) e)

  -- an RP is the only one of its range that is given
  module _ (l : Learned) (given : passes l ≡ true) where
    alone : (rs : List Learned) → list_any (is_beaten_by l) rs ≡ false → list_any (same_range (range_of l)) (map range_of rs) ≡ false
        → ((q : Learned) → passes q ≡ true → is_beaten_by q l ≡ false)
        → list_any (same_prefix l.prefix) (prefixes (map range_of (filter passes rs))) ≡ false
    alone [] best other beats = refl
    alone (q ∷ rs) best other beats =
        go (passes q) refl (same_prefix l.prefix q.prefix) refl
        (alone rs (or_second (is_beaten_by l q) _ best) (or_second (same_range (range_of l) (range_of q)) _ other) beats)
      where
        go : (b : Bool) → passes q ≡ b → (c : Bool) → same_prefix l.prefix q.prefix ≡ c
            → list_any (same_prefix l.prefix) (prefixes (map range_of (filter passes rs))) ≡ false
            → list_any (same_prefix l.prefix) (prefixes (map range_of (filter passes (q ∷ rs)))) ≡ false
        go false is c same later = rw is later
        go true is false same later = rw (is, same) later
        go true is true same later =
            let mine : is_better q l ≡ false = second_fails _ _ same (or_first (is_beaten_by l q) _ best) in
            let theirs : is_better l q ≡ false = second_fails _ _ (turned q.prefix l.prefix ∙ same) (beats q is) in
            let twice : same_range (range_of l) (range_of q) ≡ true = same_address l q same (total l q theirs mine) in
            let once : same_range (range_of l) (range_of q) ≡ false = or_first (same_range (range_of l) (range_of q)) _ other in
            absurd (cc)

  -- of some of all RPs those that are given have distinct prefixes
  given_distinct : (ls : List Learned) → ((test : Learned → Bool) → list_any test all ≡ false → list_any test ls ≡ false)
      → are_apart (map range_of ls) ≡ true → are_distinct (prefixes (map range_of (filter passes ls))) ≡ true
  unfolding are_apart are_distinct
  given_distinct [] some apart = refl
  given_distinct (l ∷ ls) some apart =
      go (passes l) refl
      (given_distinct ls (λ test none. or_second (test l) _ (some test none)) (and_second (not (list_any (same_range (range_of l)) (map range_of ls))) _ apart))
    where
      go : (b : Bool) → passes l ≡ b → are_distinct (prefixes (map range_of (filter passes ls))) ≡ true
          → are_distinct (prefixes (map range_of (filter passes (l ∷ ls)))) ≡ true
      go false is later = rw is later
      go true is later =
          rw is (and_both (not (list_any (same_prefix l.prefix) (prefixes (map range_of (filter passes ls))))) _
          (not_false _ (alone l is ls (or_second (is_beaten_by l l) _ (some (is_beaten_by l) (unbeaten l is)))
          (not_true _ (and_first (not (list_any (same_range (range_of l)) (map range_of ls))) _ apart))
          (λ q given. or_first (is_beaten_by q l) _ (some (is_beaten_by q) (unbeaten q given))))) later)

  -- none of them has a configured prefix
  abbrev is_fresh : List Prefix → Prefix → Bool
  is_fresh ps q = not (list_any (λ (p : Prefix). same_prefix p q) ps)

  not_among : (p : Prefix) (rs : List RpRange) → list_any (λ (r : RpRange). same_prefix p r.prefix) rs ≡ false
      → list_any (λ (q : Prefix). same_prefix q p) (prefixes rs) ≡ false
  not_among p [] e = refl
  not_among p (r ∷ rs) e =
      rw (turned r.prefix p ∙ or_first (same_prefix p r.prefix) _ e) (not_among p rs (or_second (same_prefix p r.prefix) _ e))

  unconfigured : (l : Learned) → is_configured static l ≡ false → is_fresh (prefixes static) l.prefix ≡ true
  unfolding is_configured
  unconfigured l e = not_false _ (not_among l.prefix static e)

  given_fresh : (ls : List Learned) → list_all (is_fresh (prefixes static)) (prefixes (map range_of (filter passes ls))) ≡ true
  given_fresh [] = refl
  given_fresh (l ∷ ls) = go (passes l) refl (given_fresh ls)
    where
      go : (b : Bool) → passes l ≡ b → list_all (is_fresh (prefixes static)) (prefixes (map range_of (filter passes ls))) ≡ true
          → list_all (is_fresh (prefixes static)) (prefixes (map range_of (filter passes (l ∷ ls)))) ≡ true
      go false is later = rw is later
      go true is later = rw is (and_both (is_fresh (prefixes static) l.prefix) _ (unconfigured l (new_prefix l is)) later)

  given_taken : (ls : List Learned) → list_all is_rp_range (map range_of ls) ≡ true
      → list_all is_rp_range (map range_of (filter passes ls)) ≡ true
  given_taken [] e = refl
  given_taken (l ∷ ls) e = go (passes l) refl (given_taken ls (and_second (is_rp_range (range_of l)) _ e))
    where
      go : (b : Bool) → passes l ≡ b → list_all is_rp_range (map range_of (filter passes ls)) ≡ true
          → list_all is_rp_range (map range_of (filter passes (l ∷ ls))) ≡ true
      go false is later = rw is later
      go true is later = rw is (and_both (is_rp_range (range_of l)) _ (and_first (is_rp_range (range_of l)) _ e) later)

-- ---- two lists of prefixes one after the other

abbrev is_unlike : List Prefix → Prefix → Bool
is_unlike ps q = not (list_any (λ (p : Prefix). same_prefix p q) ps)

unlike_first : (p : Prefix) (ps qs : List Prefix) → list_all (is_unlike (p ∷ ps)) qs ≡ true → list_any (same_prefix p) qs ≡ false
unlike_first p ps [] e = refl
unlike_first p ps (q ∷ qs) e =
    let here = or_first (same_prefix p q) _ (not_true _ (and_first (is_unlike (p ∷ ps) q) _ e)) in
    rw here (unlike_first p ps qs (and_second (is_unlike (p ∷ ps) q) _ e))

unlike_others : (p : Prefix) (ps qs : List Prefix) → list_all (is_unlike (p ∷ ps)) qs ≡ true → list_all (is_unlike ps) qs ≡ true
unlike_others p ps [] e = refl
unlike_others p ps (q ∷ qs) e =
    and_both (is_unlike ps q) _
    (not_false _ (or_second (same_prefix p q) _ (not_true _ (and_first (is_unlike (p ∷ ps) q) _ e))))
    (unlike_others p ps qs (and_second (is_unlike (p ∷ ps) q) _ e))

distinct_both : (ps qs : List Prefix) → are_distinct ps ≡ true → are_distinct qs ≡ true → list_all (is_unlike ps) qs ≡ true
    → are_distinct (ps ++ qs) ≡ true
unfolding are_distinct
distinct_both [] qs e f new = f
distinct_both (p ∷ ps) qs e f new =
    and_both (not (list_any (same_prefix p) (ps ++ qs))) _
    (not_false _ (neither (same_prefix p) ps qs (not_true _ (and_first (not (list_any (same_prefix p) ps)) _ e)) (unlike_first p ps qs new)))
    (distinct_both ps qs (and_second (not (list_any (same_prefix p) ps)) _ e) f (unlike_others p ps qs new))

distinct_first : (ps qs : List Prefix) → are_distinct (ps ++ qs) ≡ true → are_distinct ps ≡ true
unfolding are_distinct
distinct_first [] qs e = refl
distinct_first (p ∷ ps) qs e =
    and_both (not (list_any (same_prefix p) ps)) _
    (not_false _ (first_fails (same_prefix p) ps qs (not_true _ (and_first (not (list_any (same_prefix p) (ps ++ qs))) _ e))))
    (distinct_first ps qs (and_second (not (list_any (same_prefix p) (ps ++ qs))) _ e))

-- ---- the tests of a list of ranges

record AreTaken (rs : List RpRange) : Type 0 where
  few : length rs ≤ most_rps
  each : list_all is_rp_range rs ≡ true
  distinct : are_distinct (prefixes rs) ≡ true

tests_of : (rs : List RpRange) → are_rps rs ≡ true → AreTaken rs
unfolding are_rps
tests_of rs e =
    let first : (nat_le (length rs) most_rps && list_all is_rp_range rs) ≡ true = and_first _ (are_distinct (prefixes rs)) e in
    let bounded : nat_le (length rs) most_rps ≡ true = and_first _ (list_all is_rp_range rs) first in
    record {
      few = grind (arith, nat_tests, bounded);
      each = and_second (nat_le (length rs) most_rps) _ first;
      distinct = and_second (nat_le (length rs) most_rps && list_all is_rp_range rs) _ e;
    }

taken_by : (rs : List RpRange) → AreTaken rs → are_rps rs ≡ true
unfolding are_rps
taken_by rs all =
    let bounded : nat_le (length rs) most_rps ≡ true = grind (arith, nat_tests, all.few) in
    and_both (nat_le (length rs) most_rps && list_all is_rp_range rs) (are_distinct (prefixes rs))
    (and_both (nat_le (length rs) most_rps) (list_all is_rp_range rs) bounded all.each) all.distinct

module _ (static : List RpRange) (limit : ℕ) (rps : List Learned) (sound : AreSound (map range_of rps))
    (kept : length rps ≤ room_beside limit static) where
  abbrev learned : List RpRange
  learned = map range_of (filter (is_given static rps) rps)

  onward : AreTaken static → AreTaken (static ++ learned)
  onward all = record {
    few = omega (arith, length-append static learned, length-map_of range_of (filter (is_given static rps) rps), fewer (is_given static rps) rps, kept, all.few);
    each = both_pass is_rp_range static learned all.each (given_taken static rps rps sound.each);
    distinct = rw (map_both (λ (r : RpRange). r.prefix) static learned)
        (distinct_both (prefixes static) (prefixes learned) all.distinct
        (given_distinct static rps rps (λ test none. none) sound.apart) (given_fresh static rps rps));
  }

  back : AreTaken (static ++ learned) → AreTaken static
  back all = record {
    few = omega (arith, length-append static learned, all.few);
    each = first_passes is_rp_range static learned all.each;
    distinct = distinct_first (prefixes static) (prefixes learned)
        (ap are_distinct (sym (map_both (λ (r : RpRange). r.prefix) static learned)) ∙ all.distinct);
  }

  pub as_configured : are_rps (given_of static rps) ≡ are_rps static
  unfolding given_of
  as_configured =
      same_by (are_rps (static ++ learned)) (are_rps static) (λ e. taken_by static (back (tests_of (static ++ learned) e)))
      (λ e. taken_by (static ++ learned) (onward (tests_of static e)))

pub kept_rps : (static : List RpRange) (limit : ℕ) (t : Table) → IsSoundTable static limit t → length t.rps ≤ room_beside limit static
unfolding kept_count
kept_rps static limit t sound = omega (arith, sound.kept)

-- what is given of a sound table
accepted : (static : List RpRange) (limit : ℕ) (t : Table) → IsSoundTable static limit t
    → are_rps (given_of static t.rps) ≡ are_rps static
accepted static limit t sound = as_configured static limit t.rps sound.rps (kept_rps static limit t sound)

-- whatever an RP is chosen for
pub accepted_by : (choice : Choice) (static : List RpRange) (limit : ℕ) (t : Table) → IsSoundTable static limit t
    → are_rps (ranges_by choice static t.rps) ≡ are_rps static
accepted_by Choice.Range static limit t sound = accepted static limit t sound
accepted_by Choice.Group static limit t sound = refl

pub given_is_accepted : GivenIsAccepted
given_is_accepted k sound = accepted_by k.choice k.static k.limit k.table sound

-- what is given of it beside other configured ranges
pub accepted_beside : (choice : Choice) (static others : List RpRange) (limit other : ℕ) (t : Table) → IsSoundTable static limit t
    → are_rps (ranges_by choice others (fitting (room_beside other others) t).rps) ≡ are_rps others
accepted_beside choice static others limit other t sound =
    accepted_by choice others other (fitting (room_beside other others) t)
    (fitting_sound static others limit (room_beside other others) other t sound refl)
