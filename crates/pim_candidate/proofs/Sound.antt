-- What an elected BSR holds is in order, and so is what it says.
use Rattle.std.{proofs.{Common.{◌≡◌, ℕ, ◌-◌, ◌*◌, ◌/◌, ◌^◌, ◌<◌, Bool, true, false, not, nat_lt, ◌&&◌, ◌||◌, ◌==◌, List, [], ◌∷◌, ◌++◌, filter, fold, length, map, get_or, refl, sym, ap, ◌∙◌, arith}, Math.Nat.mul-div_cancel, lemmas.{Bool.Decides.nat_tests, Nat.pow_pos, List.{length-append, map-append, Elements.{All-append, All-map}}}}, specs.{List.{All, list_all, list_any}, Prelude.if◌then◌else◌}}
use Rattle.pim_ip.{specs.{Addr.addr, declared.addr.Prefix.Prefix}}
use Rattle.pim_model.{specs.{Candidates.masked, Limits.{are_distinct, same_prefix}}}
use Rattle.pim_bootstrap.{specs.{declared.{advertisement.AdvertisedRange.AdvertisedRange, bootstrap.CandidateRp.CandidateRp}, Advertisements.advertised_prefix, Fragments.{IsCounted, RangeRps}}}
use Rattle.pim_bsr.{proofs.Lists.{and_both, and_first, and_second, both_pass, fewer, length-map_of, neither, not_false, not_true, or_first, or_second, passes_other, some_pass}}
use Rattle.pim_candidate.{specs.{RpSet.{RpSet, advertised_rp, firsts, gone_after, gone_from, gone_prefix, has_rp, held_after, held_from, held_prefix, is_lost, is_mapping, is_of, replaced, runs, said, said_gone, said_range, said_rp, stays_gone, with_first, with_range, with_rp, without}, SaySame.{HasApart, are_apart, rps_apart, taken_prefix}, Sound.{AllLearnTheSet, EmptyIsSound, IsSoundSet, SoundInTime, SoundStays, held_apart, is_alone, is_masked, is_masked_gone}, declared.rp_set.{Gone.Gone, Held.Held}}, proofs.SaySame.fragments_say_same}

-- ---- prefixes

turned : (p q : Prefix) → same_prefix p q ≡ false → same_prefix q p ≡ false
turned p q e = grind (arith, nat_tests)

along : (p q r : Prefix) → same_prefix p q ≡ true → same_prefix p r ≡ true → same_prefix q r ≡ true
along p q r e f = grind (arith, nat_tests)

-- one more, which is none of those
distinct_more : (ps : List Prefix) (p : Prefix) → list_any (same_prefix p) ps ≡ false → are_distinct ps ≡ true → are_distinct (ps ++ p ∷ []) ≡ true
unfolding are_distinct
distinct_more [] p new all = refl
distinct_more (q ∷ ps) p new all =
    let others : list_any (same_prefix q) (ps ++ p ∷ []) ≡ false =
    neither (same_prefix q) ps (p ∷ []) (not_true _ (and_first (not (list_any (same_prefix q) ps)) _ all))
    (rw (turned p q (or_first (same_prefix p q) _ new)) refl) in
    rw others (distinct_more ps p (or_second (same_prefix p q) _ new) (and_second (not (list_any (same_prefix q) ps)) _ all))

-- none of the first is among the second
abbrev is_new : List Prefix → Prefix → Bool
is_new qs p = not (list_any (same_prefix p) qs)

distinct_both : (ps qs : List Prefix) → are_distinct ps ≡ true → are_distinct qs ≡ true → list_all (is_new qs) ps ≡ true
    → are_distinct (ps ++ qs) ≡ true
unfolding are_distinct
distinct_both [] qs one two new = two
distinct_both (p ∷ ps) qs one two new =
    let others : list_any (same_prefix p) (ps ++ qs) ≡ false =
    neither (same_prefix p) ps qs (not_true _ (and_first (not (list_any (same_prefix p) ps)) _ one)) (not_true _ (and_first (is_new qs p) _ new)) in
    rw others (distinct_both ps qs (and_second (not (list_any (same_prefix p) ps)) _ one) two (and_second (is_new qs p) _ new))

any_less : {X : Type 0} (name : X → Prefix) (p : Prefix) (test : X → Bool) (xs : List X) → list_any (same_prefix p) (map name xs) ≡ false
    → list_any (same_prefix p) (map name (filter test xs)) ≡ false
any_less name p test [] e = refl
any_less {X} name p test (x ∷ xs) e = go (test x) refl (any_less name p test xs (or_second (same_prefix p (name x)) _ e))
  where
    go : (b : Bool) → test x ≡ b → list_any (same_prefix p) (map name (filter test xs)) ≡ false
        → list_any (same_prefix p) (map name (filter test (x ∷ xs))) ≡ false
    go true is later = rw (is, or_first (same_prefix p (name x)) _ e) later
    go false is later = rw is later

distinct_less : {X : Type 0} (name : X → Prefix) (test : X → Bool) (xs : List X) → are_distinct (map name xs) ≡ true
    → are_distinct (map name (filter test xs)) ≡ true
unfolding are_distinct
distinct_less name test [] e = refl
distinct_less {X} name test (x ∷ xs) e =
    go (test x) refl (distinct_less name test xs (and_second (not (list_any (same_prefix (name x)) (map name xs))) _ e))
  where
    go : (b : Bool) → test x ≡ b → are_distinct (map name (filter test xs)) ≡ true → are_distinct (map name (filter test (x ∷ xs))) ≡ true
    go true is later =
        rw (is, any_less name (name x) test xs (not_true _ (and_first (not (list_any (same_prefix (name x)) (map name xs))) _ e))) later
    go false is later = rw is later

-- ---- the first RP of each range

any_of : (p : Prefix) (hs : List Held) → has_rp hs p ≡ list_any (same_prefix p) (map held_prefix hs)
any_of p [] = refl
any_of p (h ∷ hs) = ap (λ (b : Bool). is_of p h || b) (any_of p hs)

firsts_distinct : (acc hs : List Held) → are_distinct (map held_prefix acc) ≡ true → are_distinct (map held_prefix (fold with_first acc hs)) ≡ true
firsts_distinct acc [] e = e
firsts_distinct acc (h ∷ hs) e = go (has_rp acc (held_prefix h)) refl (λ more. firsts_distinct more hs)
  where
    others : has_rp acc (held_prefix h) ≡ false → are_distinct (map held_prefix (acc ++ h ∷ [])) ≡ true
    others new =
        ap are_distinct (map-append held_prefix acc (h ∷ []))
        ∙ distinct_more (map held_prefix acc) (held_prefix h) (sym (any_of (held_prefix h) acc) ∙ new) e

    go : (b : Bool) → has_rp acc (held_prefix h) ≡ b
        → ((more : List Held) → are_distinct (map held_prefix more) ≡ true → are_distinct (map held_prefix (fold with_first more hs)) ≡ true)
        → are_distinct (map held_prefix (fold with_first acc (h ∷ hs))) ≡ true
    go true is later = rw is (later acc e)
    go false is later = rw is (later (acc ++ h ∷ []) (others is))

firsts_pass : (test : Held → Bool) (acc hs : List Held) → list_all test acc ≡ true → list_all test hs ≡ true
    → list_all test (fold with_first acc hs) ≡ true
firsts_pass test acc [] one two = one
firsts_pass test acc (h ∷ hs) one two =
    go (has_rp acc (held_prefix h)) refl (λ more each. firsts_pass test more hs each (and_second (test h) _ two))
  where
    go : (b : Bool) → has_rp acc (held_prefix h) ≡ b
        → ((more : List Held) → list_all test more ≡ true → list_all test (fold with_first more hs) ≡ true)
        → list_all test (fold with_first acc (h ∷ hs)) ≡ true
    go true is later = rw is (later acc one)
    go false is later = rw is (later (acc ++ h ∷ []) (both_pass test acc (h ∷ []) one (rw (and_first (test h) _ two) refl)))

-- of a range without an RP none is the first
all_not : (p : Prefix) (hs : List Held) → has_rp hs p ≡ false → list_all (λ (h : Held). not (is_of p h)) hs ≡ true
all_not p [] e = refl
all_not p (h ∷ hs) e = rw (or_first (is_of p h) _ e) (all_not p hs (or_second (is_of p h) _ e))

none_of : (p : Prefix) (hs : List Held) → list_all (λ (h : Held). not (is_of p h)) hs ≡ true → has_rp hs p ≡ false
none_of p [] e = refl
none_of p (h ∷ hs) e =
    rw (not_true (is_of p h) (and_first (not (is_of p h)) _ e)) (none_of p hs (and_second (not (is_of p h)) _ e))

firsts_alone : (hs : List Held) (gs : List Gone) → list_all (is_alone hs) gs ≡ true → list_all (is_alone (firsts hs)) gs ≡ true
unfolding firsts
firsts_alone hs [] e = refl
firsts_alone hs (g ∷ gs) e =
    let none : has_rp hs (gone_prefix g) ≡ false = not_true _ (and_first (is_alone hs g) _ e) in
    let first : has_rp (fold with_first [] hs) (gone_prefix g) ≡ false =
    none_of (gone_prefix g) (fold with_first [] hs)
    (firsts_pass (λ (h : Held). not (is_of (gone_prefix g) h)) [] hs refl (all_not (gone_prefix g) hs none)) in
    and_both (is_alone (fold with_first [] hs) g) _ (not_false _ first) (firsts_alone hs gs (and_second (is_alone hs g) _ e))

-- what goes is new beside what has RPs
one_new : (h : Held) (hs : List Held) (gs : List Gone) → list_all (is_alone (h ∷ hs)) gs ≡ true
    → list_any (same_prefix (held_prefix h)) (map gone_prefix gs) ≡ false
one_new h hs [] e = refl
one_new h hs (g ∷ gs) e =
    let none : has_rp (h ∷ hs) (gone_prefix g) ≡ false = not_true _ (and_first (is_alone (h ∷ hs) g) _ e) in
    rw (turned (gone_prefix g) (held_prefix h) (or_first (is_of (gone_prefix g) h) _ none))
    (one_new h hs gs (and_second (is_alone (h ∷ hs) g) _ e))

fewer_alone : (h : Held) (hs : List Held) (gs : List Gone) → list_all (is_alone (h ∷ hs)) gs ≡ true → list_all (is_alone hs) gs ≡ true
fewer_alone h hs [] e = refl
fewer_alone h hs (g ∷ gs) e =
    let none : has_rp (h ∷ hs) (gone_prefix g) ≡ false = not_true _ (and_first (is_alone (h ∷ hs) g) _ e) in
    and_both (is_alone hs g) _ (not_false _ (or_second (is_of (gone_prefix g) h) _ none))
    (fewer_alone h hs gs (and_second (is_alone (h ∷ hs) g) _ e))

all_new : (hs : List Held) (gs : List Gone) → list_all (is_alone hs) gs ≡ true
    → list_all (is_new (map gone_prefix gs)) (map held_prefix hs) ≡ true
all_new [] gs e = refl
all_new (h ∷ hs) gs e =
    and_both (is_new (map gone_prefix gs) (held_prefix h)) _ (not_false _ (one_new h hs gs e))
    (all_new hs gs (fewer_alone h hs gs e))

-- ---- ranges as they are taken

taken_held : (held : List Held) (h : Held) → is_masked h ≡ true → taken_prefix (said_range held h) ≡ held_prefix h
taken_held held h e =
    let is : masked h.length h.group.bits ≡ h.group.bits = grind (arith, nat_tests, e) in
    ap (λ (n : ℕ). let p : Prefix = record { address = addr n; length = h.length } in p) is

taken_gone : (g : Gone) → is_masked_gone g ≡ true → taken_prefix (said_gone g) ≡ gone_prefix g
taken_gone g e =
    let is : masked g.length g.group.bits ≡ g.group.bits = grind (arith, nat_tests, e) in
    ap (λ (n : ℕ). let p : Prefix = record { address = addr n; length = g.length } in p) is

all_held : (held hs : List Held) → list_all is_masked hs ≡ true → map taken_prefix (map (said_range held) hs) ≡ map held_prefix hs
all_held held [] e = refl
all_held held (h ∷ hs) e =
    ap (λ (p : Prefix). p ∷ map taken_prefix (map (said_range held) hs)) (taken_held held h (and_first (is_masked h) _ e))
    ∙ ap (λ (ps : List Prefix). held_prefix h ∷ ps) (all_held held hs (and_second (is_masked h) _ e))

all_gone : (gs : List Gone) → list_all is_masked_gone gs ≡ true → map taken_prefix (map said_gone gs) ≡ map gone_prefix gs
all_gone [] e = refl
all_gone (g ∷ gs) e =
    ap (λ (p : Prefix). p ∷ map taken_prefix (map said_gone gs)) (taken_gone g (and_first (is_masked_gone g) _ e))
    ∙ ap (λ (ps : List Prefix). gone_prefix g ∷ ps) (all_gone gs (and_second (is_masked_gone g) _ e))

any_taken : (p : Prefix) (gs : List RangeRps) → list_any (λ (f : RangeRps). same_prefix p (taken_prefix f)) gs ≡ list_any (same_prefix p) (map taken_prefix gs)
any_taken p [] = refl
any_taken p (g ∷ gs) = ap (λ (b : Bool). same_prefix p (taken_prefix g) || b) (any_taken p gs)

apart_by_prefix : (gs : List RangeRps) → are_apart gs ≡ are_distinct (map taken_prefix gs)
unfolding are_apart are_distinct
apart_by_prefix [] = refl
apart_by_prefix (g ∷ gs) = rw (any_taken (taken_prefix g) gs, apart_by_prefix gs) refl

said_apart : (s : RpSet) → IsSoundSet s → are_apart (said s) ≡ true
unfolding said firsts are_distinct
said_apart s sound =
    let hs : List Held = fold with_first [] s.held in
    apart_by_prefix (map (said_range s.held) hs ++ map said_gone s.gone)
    ∙ ap are_distinct (map-append taken_prefix (map (said_range s.held) hs) (map said_gone s.gone))
    ∙ ap (λ (ps : List Prefix). are_distinct (ps ++ map taken_prefix (map said_gone s.gone))) (all_held s.held hs (firsts_pass is_masked [] s.held refl sound.masked))
    ∙ ap (λ (ps : List Prefix). are_distinct (map held_prefix hs ++ ps)) (all_gone s.gone sound.gone_masked)
    ∙ distinct_both (map held_prefix hs) (map gone_prefix s.gone) (firsts_distinct [] s.held refl) sound.gone_apart (all_new hs s.gone (firsts_alone s.held s.gone sound.alone))

-- ---- RPs of a range

none_like : (p : Prefix) (h : Held) (hs : List Held) → is_of p h ≡ true → list_any (is_mapping h) hs ≡ false
    → list_any (λ (d : CandidateRp). h.rp.address.bits == d.address.bits) (map said_rp (filter (is_of p) hs)) ≡ false
none_like p h [] here e = refl
none_like p h (x ∷ hs) here e = go (is_of p x) refl (none_like p h hs here (or_second (is_mapping h x) _ e))
  where
    other : is_of p x ≡ true → (h.rp.address.bits == x.rp.address.bits) ≡ false
    other is =
        let same : is_of (held_prefix h) x ≡ true = along p (held_prefix h) (held_prefix x) here is in
        ap (λ (b : Bool). b && (h.rp.address.bits == x.rp.address.bits)) (sym same) ∙ or_first (is_mapping h x) _ e

    go : (b : Bool) → is_of p x ≡ b
        → list_any (λ (d : CandidateRp). h.rp.address.bits == d.address.bits) (map said_rp (filter (is_of p) hs)) ≡ false
        → list_any (λ (d : CandidateRp). h.rp.address.bits == d.address.bits) (map said_rp (filter (is_of p) (x ∷ hs))) ≡ false
    go true is later = rw (is, other is) later
    go false is later = rw is later

range_apart : (p : Prefix) (hs : List Held) → held_apart hs ≡ true → rps_apart (map said_rp (filter (is_of p) hs)) ≡ true
unfolding held_apart rps_apart
range_apart p [] e = refl
range_apart p (h ∷ hs) e = go (is_of p h) refl (range_apart p hs (and_second (not (list_any (is_mapping h) hs)) _ e))
  where
    go : (b : Bool) → is_of p h ≡ b → rps_apart (map said_rp (filter (is_of p) hs)) ≡ true
        → rps_apart (map said_rp (filter (is_of p) (h ∷ hs))) ≡ true
    go true is later =
        rw (is, none_like p h hs is (not_true _ (and_first (not (list_any (is_mapping h) hs)) _ e))) later
    go false is later = rw is later

of_each : {X : Type 0} (P : X → Type 0) → ((x : X) → P x) → (xs : List X) → All P xs
of_each P each xs = λ k d h. each (get_or xs k d)

said_have_apart : (s : RpSet) → IsSoundSet s → All HasApart (said s)
unfolding said rps_apart
said_have_apart s sound =
    All-append HasApart (map (said_range s.held) (firsts s.held)) (map said_gone s.gone)
    (All-map HasApart (said_range s.held) (firsts s.held)
    (of_each (λ h. HasApart (said_range s.held h)) (λ h. range_apart (held_prefix h) s.held sound.apart) (firsts s.held)))
    (All-map HasApart said_gone s.gone (of_each (λ g. HasApart (said_gone g)) (λ g. refl) s.gone))

said_counted : (s : RpSet) → IsSoundSet s → All IsCounted (said s)
unfolding said
said_counted s sound =
    All-append IsCounted (map (said_range s.held) (firsts s.held)) (map said_gone s.gone)
    (All-map IsCounted (said_range s.held) (firsts s.held)
    (of_each (λ h. IsCounted (said_range s.held h)) (λ h. omega (arith, sound.few, length-map_of said_rp (filter (is_of (held_prefix h)) s.held), fewer (is_of (held_prefix h)) s.held)) (firsts s.held)))
    (All-map IsCounted said_gone s.gone (of_each (λ g. IsCounted (said_gone g)) (λ g. omega arith) s.gone))

pub all_learn_the_set : AllLearnTheSet
all_learn_the_set now h s t sound fresh =
    fragments_say_same now h (said s) t (said_counted s sound) (said_have_apart s sound) (said_apart s sound) fresh

-- ---- what is held stays in order

any_left : {X : Type 0} (test other : X → Bool) (xs : List X) → list_any test xs ≡ false → list_any test (filter other xs) ≡ false
any_left test other [] e = refl
any_left {X} test other (x ∷ xs) e = go (other x) refl (any_left test other xs (or_second (test x) _ e))
  where
    go : (b : Bool) → other x ≡ b → list_any test (filter other xs) ≡ false → list_any test (filter other (x ∷ xs)) ≡ false
    go true is later = rw (is, or_first (test x) _ e) later
    go false is later = rw is later

apart_left : (test : Held → Bool) (hs : List Held) → held_apart hs ≡ true → held_apart (filter test hs) ≡ true
unfolding held_apart
apart_left test [] e = refl
apart_left test (h ∷ hs) e = go (test h) refl (apart_left test hs (and_second (not (list_any (is_mapping h) hs)) _ e))
  where
    go : (b : Bool) → test h ≡ b → held_apart (filter test hs) ≡ true → held_apart (filter test (h ∷ hs)) ≡ true
    go true is later =
        rw (is, any_left (is_mapping h) test hs (not_true _ (and_first (not (list_any (is_mapping h) hs)) _ e))) later
    go false is later = rw is later

-- RPs that are in order
pub record AreSound (hs : List Held) : Type 0 where
  few : length hs < 2 ^ 8
  masked : list_all is_masked hs ≡ true
  apart : held_apart hs ≡ true

some_sound : (test : Held → Bool) (hs : List Held) → AreSound hs → AreSound (filter test hs)
some_sound test hs sound = record {
  few = omega (arith, sound.few, fewer test hs);
  masked = some_pass test is_masked hs sound.masked;
  apart = apart_left test hs sound.apart;
}

-- other RPs leave ranges that go in order

lost_masked : (now : ℕ) (hs : List Held) → list_all is_masked hs ≡ true → list_all is_masked_gone (map (gone_from now) hs) ≡ true
lost_masked now [] e = refl
lost_masked now (h ∷ hs) e =
    and_both (is_masked h) _ (and_first (is_masked h) _ e) (lost_masked now hs (and_second (is_masked h) _ e))

lost_named : (now : ℕ) (hs : List Held) → map gone_prefix (map (gone_from now) hs) ≡ map held_prefix hs
lost_named now [] = refl
lost_named now (h ∷ hs) = ap (λ (ps : List Prefix). held_prefix h ∷ ps) (lost_named now hs)

lost_alone : (now : ℕ) (after hs : List Held) → list_all (is_alone after) (map (gone_from now) (filter (is_lost after) hs)) ≡ true
lost_alone now after [] = refl
lost_alone now after (h ∷ hs) = go (is_lost after h) refl (lost_alone now after hs)
  where
    go : (b : Bool) → is_lost after h ≡ b → list_all (is_alone after) (map (gone_from now) (filter (is_lost after) hs)) ≡ true
        → list_all (is_alone after) (map (gone_from now) (filter (is_lost after) (h ∷ hs))) ≡ true
    go true is later = rw is (and_both (is_alone after (gone_from now h)) _ is later)
    go false is later = rw is later

stays_alone : (now : ℕ) (after : List Held) (g : Gone) → stays_gone now after g ≡ true → is_alone after g ≡ true
stays_alone now after g e = and_second (nat_lt now g.until) _ e

turned_all : (ps qs : List Prefix) → list_all (is_new qs) ps ≡ true → list_all (is_new ps) qs ≡ true
turned_all ps [] e = refl
turned_all ps (q ∷ qs) e = and_both (is_new ps q) _ (not_false _ (none ps q (first ps e))) (turned_all ps qs (rest ps e))
  where
    first : (rs : List Prefix) → list_all (is_new (q ∷ qs)) rs ≡ true → list_all (λ (r : Prefix). not (same_prefix r q)) rs ≡ true
    first [] f = refl
    first (r ∷ rs) f =
        and_both (not (same_prefix r q)) _ (not_false _ (or_first (same_prefix r q) _ (not_true _ (and_first (is_new (q ∷ qs) r) _ f))))
        (first rs (and_second (is_new (q ∷ qs) r) _ f))

    rest : (rs : List Prefix) → list_all (is_new (q ∷ qs)) rs ≡ true → list_all (is_new qs) rs ≡ true
    rest [] f = refl
    rest (r ∷ rs) f =
        and_both (is_new qs r) _ (not_false _ (or_second (same_prefix r q) _ (not_true _ (and_first (is_new (q ∷ qs) r) _ f))))
        (rest rs (and_second (is_new (q ∷ qs) r) _ f))

    none : (rs : List Prefix) (p : Prefix) → list_all (λ (r : Prefix). not (same_prefix r p)) rs ≡ true → list_any (same_prefix p) rs ≡ false
    none [] p f = refl
    none (r ∷ rs) p f =
        rw (turned r p (not_true (same_prefix r p) (and_first (not (same_prefix r p)) _ f))) (none rs p (and_second (not (same_prefix r p)) _ f))

new_less : {X : Type 0} (name : X → Prefix) (test : X → Bool) (xs : List X) (qs : List Prefix) → list_all (is_new qs) (map name xs) ≡ true
    → list_all (is_new qs) (map name (filter test xs)) ≡ true
new_less name test [] qs e = refl
new_less {X} name test (x ∷ xs) qs e = go (test x) refl (new_less name test xs qs (and_second (is_new qs (name x)) _ e))
  where
    go : (b : Bool) → test x ≡ b → list_all (is_new qs) (map name (filter test xs)) ≡ true
        → list_all (is_new qs) (map name (filter test (x ∷ xs))) ≡ true
    go true is later = rw is (and_both (is_new qs (name x)) _ (and_first (is_new qs (name x)) _ e) later)
    go false is later = rw is later

module _ (now : ℕ) (s : RpSet) (held : List Held) (sound : IsSoundSet s) (are : AreSound held) where
  abbrev stay : List Gone
  stay = filter (stays_gone now held) s.gone

  abbrev lost : List Held
  lost = filter (is_lost held) (firsts s.held)

  masked_firsts : list_all is_masked (firsts s.held) ≡ true
  unfolding firsts
  masked_firsts = firsts_pass is_masked [] s.held refl sound.masked

  distinct_firsts : are_distinct (map held_prefix (firsts s.held)) ≡ true
  unfolding firsts are_distinct
  distinct_firsts = firsts_distinct [] s.held refl

  -- the ranges that go already are others than those that are lost
  lost_new : list_all (is_new (map held_prefix lost)) (map gone_prefix stay) ≡ true
  lost_new =
      new_less gone_prefix (stays_gone now held) s.gone (map held_prefix lost)
      (turned_all (map held_prefix lost) (map gone_prefix s.gone)
      (new_less held_prefix (is_lost held) (firsts s.held) (map gone_prefix s.gone)
      (all_new (firsts s.held) s.gone (firsts_alone s.held s.gone sound.alone))))

  pub replaced_sound : IsSoundSet (replaced now s held)
  unfolding gone_after
  replaced_sound = record {
    few = are.few;
    masked = are.masked;
    apart = are.apart;
    gone_masked =
        both_pass is_masked_gone stay (map (gone_from now) lost)
        (some_pass (stays_gone now held) is_masked_gone s.gone sound.gone_masked)
        (lost_masked now lost (some_pass (is_lost held) is_masked (firsts s.held) masked_firsts));
    gone_apart =
        ap are_distinct (map-append gone_prefix stay (map (gone_from now) lost))
        ∙ ap (λ (ps : List Prefix). are_distinct (map gone_prefix stay ++ ps)) (lost_named now lost)
        ∙ distinct_both (map gone_prefix stay) (map held_prefix lost)
        (distinct_less gone_prefix (stays_gone now held) s.gone sound.gone_apart)
        (distinct_less held_prefix (is_lost held) (firsts s.held) distinct_firsts) lost_new;
    alone =
        both_pass (is_alone held) stay (map (gone_from now) lost)
        (passes_other (stays_gone now held) (is_alone held) (stays_alone now held) s.gone)
        (lost_alone now held (firsts s.held));
  }

pub sound_in_time : SoundInTime
sound_in_time now s sound =
    replaced_sound now s (filter (runs now) s.held) sound
    (some_sound (runs now) s.held (record { few = sound.few; masked = sound.masked; apart = sound.apart }))

pub empty_is_sound : EmptyIsSound
unfolding held_apart are_distinct
empty_is_sound = record { few = omega arith; masked = refl; apart = refl; gone_masked = refl; gone_apart = refl; alone = refl }

-- ---- advertisements

masked_again : (now : ℕ) (c : CandidateRp) (r : AdvertisedRange) → is_masked (held_from now c r) ≡ true
unfolding advertised_prefix
masked_again now c r =
    let m : ℕ = 2 ^ (32 - r.length) in
    let is : r.group.bits / m * m / m * m ≡ r.group.bits / m * m = ap (λ (n : ℕ). n * m) (mul-div_cancel (r.group.bits / m) (pow_pos (32 - r.length))) in
    grind (arith, nat_tests, is)

-- without an RP none is the same
none_same : (h : Held) (hs : List Held) → list_all (λ (old : Held). not (is_mapping old h)) (without h hs) ≡ true
none_same h [] = refl
none_same h (x ∷ hs) = go (is_mapping h x) refl (none_same h hs)
  where
    other : is_mapping h x ≡ false → is_mapping x h ≡ false
    other e = grind (arith, nat_tests)

    go : (b : Bool) → is_mapping h x ≡ b → list_all (λ (old : Held). not (is_mapping old h)) (without h hs) ≡ true
        → list_all (λ (old : Held). not (is_mapping old h)) (without h (x ∷ hs)) ≡ true
    go true is later = rw is later
    go false is later = rw (is, other is) later

apart_more : (hs : List Held) (h : Held) → held_apart hs ≡ true → list_all (λ (old : Held). not (is_mapping old h)) hs ≡ true
    → held_apart (hs ++ h ∷ []) ≡ true
unfolding held_apart
apart_more [] h e new = refl
apart_more (x ∷ hs) h e new =
    let others : list_any (is_mapping x) (hs ++ h ∷ []) ≡ false =
    neither (is_mapping x) hs (h ∷ []) (not_true _ (and_first (not (list_any (is_mapping x) hs)) _ e))
    (rw (not_true (is_mapping x h) (and_first (not (is_mapping x h)) _ new)) refl) in
    rw others (apart_more hs h (and_second (not (list_any (is_mapping x) hs)) _ e) (and_second (not (is_mapping x h)) _ new))

rp_if : (limit : ℕ) (h : Held) (hs : List Held) (b c : Bool) → nat_lt (length hs) limit ≡ c → limit < 2 ^ 8 → is_masked h ≡ true
    → list_all (λ (old : Held). not (is_mapping old h)) hs ≡ true → AreSound hs
    → AreSound (if b then hs else (if c then hs ++ h ∷ [] else hs))
rp_if limit h hs true c e few is new are = are
rp_if limit h hs false true e few is new are =
    let room : length hs < limit = grind (arith, nat_tests, e) in
    record {
      few = omega (arith, few, room, length-append hs (h ∷ []));
      masked = both_pass is_masked hs (h ∷ []) are.masked (rw is refl);
      apart = apart_more hs h are.apart new;
    }
rp_if limit h hs false false e few is new are = are

range_sound : (now limit : ℕ) (c : CandidateRp) (hs : List Held) (r : AdvertisedRange) → limit < 2 ^ 8 → AreSound hs
    → AreSound (with_range now limit c hs r)
unfolding with_range
range_sound now limit c hs r few are = go r.bidir
  where
    taken : AreSound (with_rp limit (held_from now c r) (without (held_from now c r) hs))
    taken =
        rp_if limit (held_from now c r) (without (held_from now c r) hs) (c.holdtime == 0) (nat_lt (length (without (held_from now c r) hs)) limit) refl few
        (masked_again now c r) (none_same (held_from now c r) hs)
        (some_sound (λ (old : Held). not (is_mapping (held_from now c r) old)) hs are)

    go : (b : Bool) → AreSound (if b then hs else with_rp limit (held_from now c r) (without (held_from now c r) hs))
    go true = are
    go false = taken

ranges_sound : (now limit : ℕ) (c : CandidateRp) (hs : List Held) (rs : List AdvertisedRange) → limit < 2 ^ 8 → AreSound hs
    → AreSound (fold (with_range now limit c) hs rs)
ranges_sound now limit c hs [] few are = are
ranges_sound now limit c hs (r ∷ rs) few are =
    ranges_sound now limit c (with_range now limit c hs r) rs few (range_sound now limit c hs r few are)

pub sound_stays : SoundStays
sound_stays now limit s a few sound =
    replaced_sound now s (held_after now limit s.held a) sound
    (ranges_sound now limit (advertised_rp a) s.held a.ranges few (record { few = sound.few; masked = sound.masked; apart = sound.apart }))
