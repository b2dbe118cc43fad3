-- What is known stays sound.
use Rattle.std.{proofs.{Common.{◌≡◌, ℕ, zero, suc, ◌+◌, ◌-◌, ◌*◌, ◌/◌, ◌%◌, ◌^◌, ◌<◌, ◌≤◌, Bool, true, false, not, nat_le, ◌==◌, List, [], ◌∷◌, ◌++◌, filter, fold, length, map, take, Option, Some, None, Result, Ok, Err, refl, sym, ap, subst, ◌∙◌, arith, pow-add}, Math.Nat.{div-div-eq-div-mul, mul-div_cancel, mul-mod_left}, lemmas.{Bool.Decides.nat_tests, Nat.pow_pos, List.{Elements.{All-head, All-tail}}}}, specs.{List.{All, list_all, list_any}, Prelude.if◌then◌else◌}}
use Rattle.pim_ip.{specs.{Ipv4.{Packet, ipv4_reading, is_multicast, is_unicast}, Prefixes.is_host_clear, declared.{addr.Prefix.Prefix, refusal.Refusal.Refusal}}}
use Rattle.pim_types.{specs.declared.config.RpRange.RpRange}
use Rattle.pim_model.specs.{Candidates.masked, Limits.{is_rp_range, same_prefix}}
use Rattle.pim_bootstrap.{specs.{declared.bootstrap.CandidateRp.CandidateRp, Bootstraps.{AreTested, Bootstrap, BootstrapRange, IsHost, IsTested, bootstrap_reading}}, proofs.Tested.read_is_tested}
use Rattle.pim_bsr.{specs.{Hearing.{Around, after_message, has_room, heard, heard_frame, heard_if, heard_packet, heard_read, heard_reading, is_bootstrap, room_or, unheard, why_not, why_sender}, Sound.{AreSound, IsSound, IsSoundTable, SoundConfigured, SoundInTime, SoundStays, SoundWhateverComes, are_apart, has_mask}, Table.{Known, MessageId, Table, at_time, completed, configured, emptied, fitting, has_holdtime, has_prefix, is_part_of, is_tagged, kept_count, learned_of, masks_after, message_id, part_of, part_range, parts_after, range_of, range_prefix, room_beside, runs, same_range, waiting, waits, with_mask, with_message, with_part, with_range, with_ranges, without, without_parts}, declared.{heard.{Heard.Heard, Why.Why}, learned.{Learned.Learned, Part.Part}}}, proofs.{Lists.{and_both, and_fails, and_first, and_second, both_pass, fewer, first_few, first_pass, map_both, neither, not_false, not_true, or_first, or_second, passes_other, some_pass}, Values.{Hold, brings, masks_hold, ranges_hold}}}

-- ---- some members of a sound list

module _ {X : Type 0} (name : X → RpRange) where
  any_some : (test : X → Bool) (other : RpRange → Bool) (xs : List X) → list_any other (map name xs) ≡ false
      → list_any other (map name (filter test xs)) ≡ false
  any_some test other [] e = refl
  any_some test other (x ∷ xs) e = go (test x) refl (any_some test other xs (or_second (other (name x)) _ e))
    where
      go : (b : Bool) → test x ≡ b → list_any other (map name (filter test xs)) ≡ false
          → list_any other (map name (filter test (x ∷ xs))) ≡ false
      go true is later = rw (is, or_first (other (name x)) _ e) later
      go false is later = rw is later

  each_some : (test : X → Bool) (other : RpRange → Bool) (xs : List X) → list_all other (map name xs) ≡ true
      → list_all other (map name (filter test xs)) ≡ true
  each_some test other [] e = refl
  each_some test other (x ∷ xs) e = go (test x) refl (each_some test other xs (and_second (other (name x)) _ e))
    where
      go : (b : Bool) → test x ≡ b → list_all other (map name (filter test xs)) ≡ true
          → list_all other (map name (filter test (x ∷ xs))) ≡ true
      go true is later = rw is (and_both (other (name x)) _ (and_first (other (name x)) _ e) later)
      go false is later = rw is later

  apart_some : (test : X → Bool) (xs : List X) → are_apart (map name xs) ≡ true → are_apart (map name (filter test xs)) ≡ true
  unfolding are_apart
  apart_some test [] e = refl
  apart_some test (x ∷ xs) e =
      go (test x) refl (apart_some test xs (and_second (not (list_any (same_range (name x)) (map name xs))) _ e))
    where
      go : (b : Bool) → test x ≡ b → are_apart (map name (filter test xs)) ≡ true
          → are_apart (map name (filter test (x ∷ xs))) ≡ true
      go true is later =
          rw is (and_both (not (list_any (same_range (name x)) (map name (filter test xs)))) _
          (not_false _ (any_some test (same_range (name x)) xs
          (not_true _ (and_first (not (list_any (same_range (name x)) (map name xs))) _ e)))) later)
      go false is later = rw is later

  pub some_sound : (test : X → Bool) (xs : List X) → AreSound (map name xs) → AreSound (map name (filter test xs))
  some_sound test xs all = record {
    each = each_some test is_rp_range xs all.each;
    apart = apart_some test xs all.apart;
  }

  -- the first members

  any_first : (other : RpRange → Bool) (n : ℕ) (xs : List X) → list_any other (map name xs) ≡ false
      → list_any other (map name (take n xs)) ≡ false
  any_first other zero xs e = refl
  any_first other (suc n) [] e = refl
  any_first other (suc n) (x ∷ xs) e =
      rw (or_first (other (name x)) _ e) (any_first other n xs (or_second (other (name x)) _ e))

  each_first : (other : RpRange → Bool) (n : ℕ) (xs : List X) → list_all other (map name xs) ≡ true
      → list_all other (map name (take n xs)) ≡ true
  each_first other zero xs e = refl
  each_first other (suc n) [] e = refl
  each_first other (suc n) (x ∷ xs) e =
      and_both (other (name x)) _ (and_first (other (name x)) _ e) (each_first other n xs (and_second (other (name x)) _ e))

  apart_first : (n : ℕ) (xs : List X) → are_apart (map name xs) ≡ true → are_apart (map name (take n xs)) ≡ true
  unfolding are_apart
  apart_first zero xs e = refl
  apart_first (suc n) [] e = refl
  apart_first (suc n) (x ∷ xs) e =
      and_both (not (list_any (same_range (name x)) (map name (take n xs)))) _
      (not_false _ (any_first (same_range (name x)) n xs
      (not_true _ (and_first (not (list_any (same_range (name x)) (map name xs))) _ e))))
      (apart_first n xs (and_second (not (list_any (same_range (name x)) (map name xs))) _ e))

  first_sound : (n : ℕ) (xs : List X) → AreSound (map name xs) → AreSound (map name (take n xs))
  first_sound n xs all = record { each = each_first is_rp_range n xs all.each; apart = apart_first n xs all.apart }

-- ---- two sound lists one after the other

-- none of the first is the same
abbrev is_new : List RpRange → RpRange → Bool
is_new xs y = not (list_any (λ (x : RpRange). same_range x y) xs)

new_to_first : (x : RpRange) (xs ys : List RpRange) → list_all (is_new (x ∷ xs)) ys ≡ true → list_any (same_range x) ys ≡ false
new_to_first x xs [] e = refl
new_to_first x xs (y ∷ ys) e =
    let here = or_first (same_range x y) _ (not_true _ (and_first (is_new (x ∷ xs) y) _ e)) in
    rw here (new_to_first x xs ys (and_second (is_new (x ∷ xs) y) _ e))

new_to_others : (x : RpRange) (xs ys : List RpRange) → list_all (is_new (x ∷ xs)) ys ≡ true → list_all (is_new xs) ys ≡ true
new_to_others x xs [] e = refl
new_to_others x xs (y ∷ ys) e =
    and_both (is_new xs y) _
    (not_false _ (or_second (same_range x y) _ (not_true _ (and_first (is_new (x ∷ xs) y) _ e))))
    (new_to_others x xs ys (and_second (is_new (x ∷ xs) y) _ e))

apart_both : (xs ys : List RpRange) → are_apart xs ≡ true → are_apart ys ≡ true → list_all (is_new xs) ys ≡ true
    → are_apart (xs ++ ys) ≡ true
unfolding are_apart
apart_both [] ys e f new = f
apart_both (x ∷ xs) ys e f new =
    and_both (not (list_any (same_range x) (xs ++ ys))) _
    (not_false _ (neither (same_range x) xs ys (not_true _ (and_first (not (list_any (same_range x) xs)) _ e)) (new_to_first x xs ys new)))
    (apart_both xs ys (and_second (not (list_any (same_range x) xs)) _ e) f (new_to_others x xs ys new))

both_sound : (xs ys : List RpRange) → AreSound xs → AreSound ys → list_all (is_new xs) ys ≡ true → AreSound (xs ++ ys)
both_sound xs ys first second new = record {
  each = both_pass is_rp_range xs ys first.each second.each;
  apart = apart_both xs ys first.apart second.apart new;
}

-- ---- lists of one range, and of others

-- the range has the prefix
abbrev is_at : Prefix → RpRange → Bool
is_at p r = same_prefix p r.prefix

pub apart_prefix : (p q t : Prefix) → same_prefix p q ≡ false → same_prefix p t ≡ true → same_prefix q t ≡ false
apart_prefix p q t differ is = grind (arith, nat_tests)

none_like : (p : Prefix) (y : RpRange) (xs : List RpRange) → is_at p y ≡ true → list_any (is_at p) xs ≡ false
    → list_any (λ (x : RpRange). same_range x y) xs ≡ false
none_like p y [] is none = refl
none_like p y (x ∷ xs) is none =
    let differ : same_prefix x.prefix y.prefix ≡ false = apart_prefix p x.prefix y.prefix (or_first (is_at p x) _ none) is in
    rw differ (none_like p y xs is (or_second (is_at p x) _ none))

all_new : (p : Prefix) (xs ys : List RpRange) → list_any (is_at p) xs ≡ false → list_all (is_at p) ys ≡ true
    → list_all (is_new xs) ys ≡ true
all_new p xs [] none e = refl
all_new p xs (y ∷ ys) none e =
    and_both (is_new xs y) _ (not_false _ (none_like p y xs (and_first (is_at p y) _ e) none))
    (all_new p xs ys none (and_second (is_at p y) _ e))

-- without the members of a range there are none
module _ {X : Type 0} (name : X → RpRange) (p : Prefix) where
  none_there : (xs : List X) → list_any (is_at p) (map name (filter (λ x. not (is_at p (name x))) xs)) ≡ false
  none_there [] = refl
  none_there (x ∷ xs) = go (is_at p (name x)) refl (none_there xs)
    where
      go : (b : Bool) → is_at p (name x) ≡ b → list_any (is_at p) (map name (filter (λ x. not (is_at p (name x))) xs)) ≡ false
          → list_any (is_at p) (map name (filter (λ x. not (is_at p (name x))) (x ∷ xs))) ≡ false
      go true is later = rw is later
      go false is later = rw (is, is) later

  -- the members of a range in the place of those that it had
  replaced : (xs : List X) (ys : List RpRange) → AreSound (map name xs) → AreSound ys → list_all (is_at p) ys ≡ true
      → AreSound (map name (filter (λ x. not (is_at p (name x))) xs) ++ ys)
  replaced xs ys all more there =
      both_sound (map name (filter (λ x. not (is_at p (name x))) xs)) ys
      (some_sound name (λ x. not (is_at p (name x))) xs all) more (all_new p _ ys (none_there xs) there)

-- ---- the parts of a range

-- parts of a range that are sound
record ArePartsOf (p : Prefix) (parts : List Part) : Type 0 where
  sound : AreSound (map part_range parts)
  there : list_all (is_part_of p) parts ≡ true

none_same : (q : Part) (parts : List Part)
    → list_any (λ (x : RpRange). same_range x (part_range q))
    (map part_range (filter (λ (old : Part). not (old.rp.address.bits == q.rp.address.bits)) parts)) ≡ false
none_same q [] = refl
none_same q (x ∷ xs) = go (x.rp.address.bits == q.rp.address.bits) refl (none_same q xs)
  where
    go : (b : Bool) → (x.rp.address.bits == q.rp.address.bits) ≡ b
        → list_any (λ (x : RpRange). same_range x (part_range q))
        (map part_range (filter (λ (old : Part). not (old.rp.address.bits == q.rp.address.bits)) xs)) ≡ false
        → list_any (λ (x : RpRange). same_range x (part_range q))
        (map part_range (filter (λ (old : Part). not (old.rp.address.bits == q.rp.address.bits)) (x ∷ xs))) ≡ false
    go true is later = rw is later
    go false is later = rw (is, and_fails (same_prefix x.prefix q.prefix) (x.rp.address.bits == q.rp.address.bits) is) later

one_sound : (r : RpRange) → is_rp_range r ≡ true → AreSound (r ∷ [])
unfolding are_apart
one_sound r is = record { each = and_both (is_rp_range r) true is refl; apart = refl }

with_one : (p : Prefix) (parts : List Part) (q : Part) → ArePartsOf p parts → is_rp_range (part_range q) ≡ true
    → is_part_of p q ≡ true → ArePartsOf p (with_part parts q)
with_one p parts q all is there =
    let others : List Part = filter (λ (old : Part). not (old.rp.address.bits == q.rp.address.bits)) parts in
    let new : list_all (is_new (map part_range others)) (part_range q ∷ []) ≡ true =
    and_both (is_new (map part_range others) (part_range q)) true (not_false _ (none_same q parts)) refl in
    record {
      sound = subst AreSound (sym (map_both part_range others (q ∷ [])))
          (both_sound (map part_range others) (part_range q ∷ [])
          (some_sound part_range (λ (old : Part). not (old.rp.address.bits == q.rp.address.bits)) parts all.sound)
          (one_sound (part_range q) is) new);
      there = both_pass (is_part_of p) others (q ∷ [])
          (some_pass (λ (old : Part). not (old.rp.address.bits == q.rp.address.bits)) (is_part_of p) parts all.there)
          (and_both (is_part_of p q) true there refl);
    }

with_all : (p : Prefix) (more parts : List Part) → ArePartsOf p parts → list_all is_rp_range (map part_range more) ≡ true
    → list_all (is_part_of p) more ≡ true → ArePartsOf p (fold with_part parts more)
with_all p [] parts all is there = all
with_all p (q ∷ more) parts all is there =
    with_all p more (with_part parts q)
    (with_one p parts q all (and_first (is_rp_range (part_range q)) _ is) (and_first (is_part_of p q) _ there))
    (and_second (is_rp_range (part_range q)) _ is) (and_second (is_part_of p q) _ there)

-- ---- the prefix of a range

two_positive : (n : ℕ) → 0 < 2 ^ n
two_positive n = pow_pos n

masked_multicast : (len g : ℕ) → 4 ≤ len → len ≤ 32 → is_multicast g ≡ true → is_multicast (masked len g) ≡ true
masked_multicast len g low high is =
    let d : ℕ = 2 ^ (32 - len) in
    let e : ℕ = 2 ^ (len - 4) in
    let m : ℕ = g / d * d in
    let bits : 28 ≡ 32 - len + (len - 4) = omega arith in
    let whole : 0x1000_0000 ≡ d * e = ap (λ (n : ℕ). 2 ^ n) bits ∙ pow-add 2 (32 - len) (len - 4) in
    let same : m / 0x1000_0000 ≡ g / 0x1000_0000 =
    ap (λ (n : ℕ). m / n) whole
    ∙ sym (div-div-eq-div-mul m d e)
    ∙ ap (λ (n : ℕ). n / e) (mul-div_cancel (g / d) (two_positive (32 - len)))
    ∙ div-div-eq-div-mul g d e
    ∙ ap (λ (n : ℕ). g / n) (sym whole) in
    ap (λ (n : ℕ). n == 14) same ∙ is

cleared : (len g : ℕ) → masked len g % 2 ^ (32 - len) ≡ 0
cleared len g = mul-mod_left (g / 2 ^ (32 - len)) (2 ^ (32 - len))

host_unicast : (c : CandidateRp) → IsHost c → is_unicast c.address.bits ≡ true
host_unicast c is = is

range_taken : (now : ℕ) (id : MessageId) (r : BootstrapRange) (c : CandidateRp) → IsTested r → IsHost c
    → is_rp_range (part_range (part_of now id (range_prefix r) c)) ≡ true
unfolding is_host_clear is_rp_range
range_taken now id r c is host =
    let clear : masked r.length r.group % 2 ^ (32 - r.length) ≡ 0 = cleared r.length r.group in
    let wide : nat_le r.length 32 ≡ true = grind (arith, nat_tests, is.longest) in
    let long : nat_le 4 r.length ≡ true = grind (arith, nat_tests, is.shortest) in
    let group = masked_multicast r.length r.group is.shortest is.longest is.group in
    rw (clear, wide, long, group, host_unicast c host) refl

candidates_taken : (now : ℕ) (id : MessageId) (r : BootstrapRange) (cs : List CandidateRp) → IsTested r → All IsHost cs
    → list_all is_rp_range (map part_range (map (part_of now id (range_prefix r)) cs)) ≡ true
candidates_taken now id r [] is each = refl
candidates_taken now id r (c ∷ cs) is each =
    and_both (is_rp_range (part_range (part_of now id (range_prefix r) c))) _
    (range_taken now id r c is (All-head IsHost c cs each)) (candidates_taken now id r cs is (All-tail IsHost c cs each))

pub prefix_itself : (p : Prefix) → same_prefix p p ≡ true
prefix_itself p = grind (arith, nat_tests)

candidates_there : (now : ℕ) (id : MessageId) (p : Prefix) (cs : List CandidateRp) → list_all (is_part_of p) (map (part_of now id p) cs) ≡ true
candidates_there now id p [] = refl
candidates_there now id p (c ∷ cs) =
    and_both (is_part_of p (part_of now id p c)) _ (prefix_itself p) (candidates_there now id p cs)

tagged_there : (p : Prefix) (id : MessageId) (q : Part) → is_tagged p id q ≡ true → is_part_of p q ≡ true
tagged_there p id q e = and_first (is_part_of p q) _ e

after_sound : (now : ℕ) (id : MessageId) (parts : List Part) (r : BootstrapRange) → IsTested r → AreSound (map part_range parts)
    → ArePartsOf (range_prefix r) (parts_after now id parts r)
unfolding parts_after
after_sound now id parts r is all =
    let p : Prefix = range_prefix r in
    let before : ArePartsOf p (filter (is_tagged p id) parts) = record {
      sound = some_sound part_range (is_tagged p id) parts all;
      there = passes_other (is_tagged p id) (is_part_of p) (tagged_there p id) parts;
    } in
    with_all p (map (part_of now id p) r.rps) (filter (is_tagged p id) parts) before
    (candidates_taken now id r r.rps is is.rps) (candidates_there now id p r.rps)

-- the same without what is known of the range: the parts are of it
there_one : (p : Prefix) (parts : List Part) (q : Part) → list_all (is_part_of p) parts ≡ true → is_part_of p q ≡ true
    → list_all (is_part_of p) (with_part parts q) ≡ true
there_one p parts q all there =
    both_pass (is_part_of p) (filter (λ (old : Part). not (old.rp.address.bits == q.rp.address.bits)) parts) (q ∷ [])
    (some_pass (λ (old : Part). not (old.rp.address.bits == q.rp.address.bits)) (is_part_of p) parts all)
    (and_both (is_part_of p q) true there refl)

there_all : (p : Prefix) (more parts : List Part) → list_all (is_part_of p) parts ≡ true → list_all (is_part_of p) more ≡ true
    → list_all (is_part_of p) (fold with_part parts more) ≡ true
there_all p [] parts all there = all
there_all p (q ∷ more) parts all there =
    there_all p more (with_part parts q) (there_one p parts q all (and_first (is_part_of p q) _ there))
    (and_second (is_part_of p q) _ there)

pub after_there : (now : ℕ) (id : MessageId) (parts : List Part) (r : BootstrapRange)
    → list_all (is_part_of (range_prefix r)) (parts_after now id parts r) ≡ true
unfolding parts_after
after_there now id parts r =
    let p : Prefix = range_prefix r in
    there_all p (map (part_of now id p) r.rps) (filter (is_tagged p id) parts)
    (passes_other (is_tagged p id) (is_part_of p) (tagged_there p id) parts) (candidates_there now id p r.rps)

-- ---- tables

-- both lists of a table are sound
record AreBoth (t : Table) : Type 0 where
  rps : AreSound (map range_of t.rps)
  parts : AreSound (map part_range t.parts)

names_learned : (now hash : ℕ) (parts : List Part) → map range_of (map (learned_of now hash) parts) ≡ map part_range parts
names_learned now hash [] = refl
names_learned now hash (q ∷ parts) = ap (λ (rs : List RpRange). part_range q ∷ rs) (names_learned now hash parts)

names_there : (p : Prefix) (parts : List Part) → list_all (is_part_of p) parts ≡ true → list_all (is_at p) (map part_range parts) ≡ true
names_there p [] e = refl
names_there p (q ∷ parts) e =
    and_both (is_at p (part_range q)) _ (and_first (is_part_of p q) _ e) (names_there p parts (and_second (is_part_of p q) _ e))

completed_sound : (now hash : ℕ) (p : Prefix) (t : Table) (parts : List Part) → AreBoth t → ArePartsOf p parts
    → AreBoth (completed now hash p t parts)
completed_sound now hash p t parts all new =
    let left : List Part = filter has_holdtime parts in
    let names : map range_of (without p t.rps ++ map (learned_of now hash) left) ≡ map range_of (without p t.rps) ++ map part_range left =
    map_both range_of (without p t.rps) (map (learned_of now hash) left)
    ∙ ap (λ (rs : List RpRange). map range_of (without p t.rps) ++ rs) (names_learned now hash left) in
    record {
      rps = subst AreSound (sym names)
          (replaced range_of p t.rps (map part_range left) all.rps (some_sound part_range has_holdtime parts new.sound)
          (names_there p left (some_pass has_holdtime (is_part_of p) parts new.there)));
      parts = some_sound part_range (λ (q : Part). not (is_part_of p q)) t.parts all.parts;
    }

waiting_sound : (p : Prefix) (t : Table) (parts : List Part) → AreBoth t → ArePartsOf p parts → AreBoth (waiting p t parts)
waiting_sound p t parts all new = record {
  rps = all.rps;
  parts = subst AreSound (sym (map_both part_range (without_parts p t.parts) parts))
      (replaced part_range p t.parts (map part_range parts) all.parts new.sound (names_there p parts new.there));
}

emptied_sound : (p : Prefix) (t : Table) → AreBoth t → AreBoth (emptied p t)
emptied_sound p t all = record {
  rps = some_sound range_of (λ (l : Learned). not (has_prefix p l)) t.rps all.rps;
  parts = some_sound part_range (λ (q : Part). not (is_part_of p q)) t.parts all.parts;
}

range_keeps : (now : ℕ) (id : MessageId) (hash : ℕ) (t : Table) (r : BootstrapRange) → IsTested r → AreBoth t → AreBoth (with_range now id hash t r)
unfolding with_range
range_keeps now id hash t r is all = go r.bidir (r.rp_count == 0) (nat_le r.rp_count (length (parts_after now id t.parts r)))
  where
    go : (b c d : Bool) → AreBoth (if b then t else (if c then emptied (range_prefix r) t
        else (if d then completed now hash (range_prefix r) t (parts_after now id t.parts r)
        else waiting (range_prefix r) t (parts_after now id t.parts r))))
    go true c d = all
    go false true d = emptied_sound (range_prefix r) t all
    go false false true = completed_sound now hash (range_prefix r) t (parts_after now id t.parts r) all (after_sound now id t.parts r is all.parts)
    go false false false = waiting_sound (range_prefix r) t (parts_after now id t.parts r) all (after_sound now id t.parts r is all.parts)

ranges_keep : (now : ℕ) (id : MessageId) (hash : ℕ) (ranges : List BootstrapRange) (t : Table) → All IsTested ranges → AreBoth t
    → AreBoth (with_ranges now id hash t ranges)
unfolding with_ranges
ranges_keep now id hash [] t each all = all
ranges_keep now id hash (r ∷ ranges) t each all =
    ranges_keep now id hash ranges (with_range now id hash t r) (All-tail IsTested r ranges each)
    (range_keeps now id hash t r (All-head IsTested r ranges each) all)

names_masked : (hash : ℕ) (ls : List Learned) → map range_of (map (with_mask hash) ls) ≡ map range_of ls
names_masked hash [] = refl
names_masked hash (l ∷ ls) = ap (λ (rs : List RpRange). range_of l ∷ rs) (names_masked hash ls)

masks_sound : (hash : ℕ) (ranges : List BootstrapRange) (t : Table) → AreBoth t → AreBoth (masks_after hash ranges t)
masks_sound hash [] t all = all
masks_sound hash (r ∷ ranges) t all = record { rps = subst AreSound (sym (names_masked hash t.rps)) all.rps; parts = all.parts }

-- ---- hash masks

any_passes : {X : Type 0} (xs : List X) → list_all (λ x. true) xs ≡ true
any_passes [] = refl
any_passes (x ∷ xs) = any_passes xs

any_brought : (now : ℕ) (id : MessageId) (ranges : List BootstrapRange) → list_all (brings (λ q. true) now id) ranges ≡ true
any_brought now id [] = refl
any_brought now id (r ∷ ranges) =
    and_both (brings (λ q. true) now id r) _ (any_passes (map (part_of now id (range_prefix r)) r.rps)) (any_brought now id ranges)

masks_keep : (now : ℕ) (m : Bootstrap) (t : Table) → m.hash_length ≤ 32 → list_all has_mask t.rps ≡ true
    → list_all has_mask (with_message now t m).rps ≡ true
unfolding with_message
masks_keep now m t low e =
    let id : MessageId = message_id m.bsr m.tag in
    let short : nat_le m.hash_length 32 ≡ true = grind (arith, nat_tests, low) in
    let before : Hold has_mask (λ q. true) t = record { rps = e; parts = any_passes t.parts } in
    let masked : Hold has_mask (λ q. true) (masks_after m.hash_length m.ranges t) =
    masks_hold has_mask (λ q. true) now id m.hash_length (λ q f. short) (λ l f. short) m.ranges t before in
    (ranges_hold has_mask (λ q. true) now id m.hash_length (λ q f. short) (λ l f. short) m.ranges
    (masks_after m.hash_length m.ranges t) (any_brought now id m.ranges) masked).rps

-- the table after a message that was read, for whose RPs there is room
pub learned_sound : (now : ℕ) (static : List RpRange) (limit : ℕ) (t : Table) (b : List ℕ) (m : Bootstrap)
    → bootstrap_reading b ≡ Ok m → IsSoundTable static limit t → kept_count (with_message now t m) ≤ room_beside limit static
    → IsSoundTable static limit (with_message now t m)
unfolding with_message
learned_sound now static limit t b m read all room =
    let tested : AreTested m = read_is_tested b m read in
    let masked : AreBoth (masks_after m.hash_length m.ranges t) =
    masks_sound m.hash_length m.ranges t (record { rps = all.rps; parts = all.parts }) in
    let both : AreBoth (with_message now t m) =
    ranges_keep now (message_id m.bsr m.tag) m.hash_length m.ranges (masks_after m.hash_length m.ranges t) tested.ranges masked in
    record { rps = both.rps; parts = both.parts; masks = masks_keep now m t tested.mask all.masks; kept = room }

-- ---- messages

-- there is room for a message that counts
some_room : (s : Around) (k : Known) (i src : ℕ) (m : Bootstrap) → why_not s k i src m ≡ None → has_room s k m ≡ true
unfolding why_not
some_room s k i src m none = go (why_sender s k i src m) (has_room s k m) none
  where
    go : (o : Option Why) (b : Bool) → room_or b o ≡ None → b ≡ true
    go (Some why) b e = cc
    go None true e = refl
    go None false e = cc

pub sound_stays : SoundStays
unfolding heard after_message
sound_stays s k i src b m read all = go (why_not s k i src m) refl
  where
    fits : has_room s k m ≡ true → kept_count (with_message s.present k.table m) ≤ room_beside k.limit k.static
    fits e = grind (arith, nat_tests, e)

    go : (w : Option Why) → why_not s k i src m ≡ w → IsSound (heard_if s k i b m w).known
    go (Some w) is = all
    go None is = learned_sound s.present k.static k.limit k.table b m read all (fits (some_room s k i src m is))

pub sound_whatever_comes : SoundWhateverComes
unfolding heard_frame heard_packet
sound_whatever_comes s k i bytes all = of_read (ipv4_reading bytes)
  where
    of_message : (p : Packet) (r : Result Bootstrap Refusal) → bootstrap_reading p.payload ≡ r
        → IsSound (heard_read s k i p.source p.payload r).known
    of_message p (Ok m) read = sound_stays s k i p.source p.payload m read all
    of_message p (Err refusal) read = all

    of_packet : (p : Packet) (b : Bool)
        → IsSound (if b then heard_read s k i p.source p.payload (bootstrap_reading p.payload) else unheard k Heard.Other).known
    of_packet p true = of_message p (bootstrap_reading p.payload) refl
    of_packet p false = all

    of_read : (r : Result Packet Refusal) → IsSound (heard_reading s k i r).known
    of_read (Ok p) = of_packet p (is_bootstrap p)
    of_read (Err refusal) = all

-- ---- time, and another configuration

pub time_sound : (now : ℕ) (static : List RpRange) (limit : ℕ) (t : Table) → IsSoundTable static limit t
    → IsSoundTable static limit (record { rps = filter (runs now) t.rps; parts = filter (waits now) t.parts })
unfolding kept_count
time_sound now static limit t all = record {
  rps = some_sound range_of (runs now) t.rps all.rps;
  parts = some_sound part_range (waits now) t.parts all.parts;
  masks = some_pass (runs now) has_mask t.rps all.masks;
  kept = omega (arith, fewer (runs now) t.rps, fewer (waits now) t.parts, all.kept);
}

pub sound_in_time : SoundInTime
unfolding at_time
sound_in_time k now all = time_sound now k.static k.limit k.table all

pub fitting_sound : (static others : List RpRange) (limit room : ℕ) (other : ℕ) (t : Table) → IsSoundTable static limit t
    → room ≡ room_beside other others → IsSoundTable others other (fitting room t)
unfolding kept_count
fitting_sound static others limit room other t all is = record {
  rps = first_sound range_of room t.rps all.rps;
  parts = first_sound part_range (room - length (take room t.rps)) t.parts all.parts;
  masks = first_pass has_mask room t.rps all.masks;
  kept = omega (arith, first_few room t.rps, first_few (room - length (take room t.rps)) t.parts, is);
}

pub sound_configured : SoundConfigured
unfolding configured
sound_configured k limit static all = fitting_sound k.static static k.limit (room_beside limit static) limit k.table all refl

-- nothing is sound
pub nothing_sound : (static : List RpRange) (limit : ℕ) → IsSoundTable static limit (record { rps = []; parts = [] })
unfolding are_apart kept_count
nothing_sound static limit = record {
  rps = record { each = refl; apart = refl };
  parts = record { each = refl; apart = refl };
  masks = refl;
  kept = omega arith;
}
