-- The router takes the candidates that it is given.
use Rattle.std.{proofs.{Common.{◌≡◌, ℕ, zero, suc, ◌+◌, ◌≤◌, Bool, true, false, not, nat_le, ◌&&◌, ◌||◌, List, [], ◌∷◌, length, map, IfOk, OnOk, Option, Some, None, Result, Ok, Err, refl, ap, subst, ◌∙◌, arith}, lemmas.Bool.Decides.nat_tests}, specs.{List.{list_all, list_any}, Prelude.slice_index}}
use Rattle.pim_ip.{specs.{Ipv4.{is_multicast, is_unicast}, declared.refusal.Refusal.Refusal, Tests.◌>>◌}}
use Rattle.pim_types.{specs.declared.config.{RpCandidate.RpCandidate, RpRange.RpRange}}
use Rattle.pim_model.{specs.{Limits.{are_candidates, are_distinct_candidates, is_candidate, is_prefix, is_rp_range, most_candidates, same_candidate}}}
use Rattle.pim_saved.{specs.Laws.AreBytes}
use Rattle.pim_bootstrap.{specs.{declared.bootstrap.CandidateRp.CandidateRp, Bootstraps.{Bootstrap, BootstrapRange, after_range, bootstrap_of, bootstrap_reading, bootstrap_test, candidate_at, candidates_at, part_count_at, range_at, ranges_at}}}
use Rattle.pim_bsr.{specs.{Hearing.{after_message, heard, heard_if, why_not}, Laws.{CandidatesAreAccepted, Happening, IsRead, after, all_after}, Sound.{HavePriorities, IsSound, IsSoundTable, are_apart, has_mask}, Table.{Known, MessageId, Table, at_time, candidate_of, candidates_by, configured, masks_after, message_id, part_of, range_of, range_prefix, room_beside, runs, same_range, waits, with_message}, declared.{choice.Choice.Choice, heard.Why.Why, learned.{Learned.Learned, Part.Part}}}, proofs.{Accepted.kept_rps, Lists.{and_both, and_first, and_second, first_pass, length-map_of, some_pass}, Sounder.{sound_configured, sound_in_time, sound_stays}, Values.{Hold, brings, masks_hold, ranges_hold}}}

-- ---- RPs of a sound table as candidates

abbrev pub is_low : RpCandidate → Bool
is_low c = nat_le c.priority 255

one_passes : (a b c d e f : Bool) → (a && b && c && d) ≡ true → e ≡ true → f ≡ true → (a && b && c && d && e && f) ≡ true
one_passes true true true true e f all p q = rw (p, q) refl
one_passes true true true false e f all p q = absurd cc
one_passes true true false d e f all p q = absurd cc
one_passes true false c d e f all p q = absurd cc
one_passes false b c d e f all p q = absurd cc

candidate_passes : (l : Learned) → is_rp_range (range_of l) ≡ true → has_mask l ≡ true → is_low (candidate_of l) ≡ true
    → is_candidate (candidate_of l) ≡ true
unfolding is_rp_range is_candidate
candidate_passes l range mask low =
    one_passes (is_prefix l.prefix) (is_multicast l.prefix.address.bits) (nat_le 4 l.prefix.length) (is_unicast l.rp.bits)
    (is_low (candidate_of l)) (has_mask l) range low mask

each_passes : (ls : List Learned) → list_all is_rp_range (map range_of ls) ≡ true → list_all has_mask ls ≡ true
    → list_all is_low (map candidate_of ls) ≡ true → list_all is_candidate (map candidate_of ls) ≡ true
each_passes [] ranges masks low = refl
each_passes (l ∷ ls) ranges masks low =
    and_both (is_candidate (candidate_of l)) _
    (candidate_passes l (and_first (is_rp_range (range_of l)) _ ranges) (and_first (has_mask l) _ masks) (and_first (is_low (candidate_of l)) _ low))
    (each_passes ls (and_second (is_rp_range (range_of l)) _ ranges) (and_second (has_mask l) _ masks) (and_second (is_low (candidate_of l)) _ low))

none_twice : (l : Learned) (ls : List Learned)
    → list_any (same_candidate (candidate_of l)) (map candidate_of ls) ≡ list_any (same_range (range_of l)) (map range_of ls)
none_twice l [] = refl
none_twice l (q ∷ ls) = ap (λ (b : Bool). same_range (range_of l) (range_of q) || b) (none_twice l ls)

distinct : (ls : List Learned) → are_distinct_candidates (map candidate_of ls) ≡ are_apart (map range_of ls)
unfolding are_distinct_candidates are_apart
distinct [] = refl
distinct (l ∷ ls) =
    ap (λ (b : Bool). not b && are_distinct_candidates (map candidate_of ls)) (none_twice l ls)
    ∙ ap (λ (b : Bool). not (list_any (same_range (range_of l)) (map range_of ls)) && b) (distinct ls)

three_pass : (a b c : Bool) → a ≡ true → b ≡ true → c ≡ true → (a && b && c) ≡ true
three_pass a b c e f g = rw (e, f, g) refl

-- with priorities that are bytes
pub offered_accepted : (choice : Choice) (static : List RpRange) (limit : ℕ) (t : Table) → IsSoundTable static limit t
    → list_all is_low (candidates_by choice t.rps) ≡ true → are_candidates (candidates_by choice t.rps) ≡ true
unfolding are_candidates are_distinct_candidates
offered_accepted Choice.Range static limit t sound low = refl
offered_accepted Choice.Group static limit t sound low =
    let kept : length t.rps ≤ room_beside limit static = kept_rps static limit t sound in
    let few : length (map candidate_of t.rps) ≤ most_candidates = omega (arith, length-map_of candidate_of t.rps, kept) in
    let bounded : nat_le (length (map candidate_of t.rps)) most_candidates ≡ true = grind (arith, nat_tests, few) in
    three_pass _ _ _ bounded (each_passes t.rps sound.rps.each sound.masks low) (distinct t.rps ∙ sound.rps.apart)

-- of what a call answers, if it answers them
pub accepted_if : {V E : Type 0} (items : V → List RpCandidate) (choice : Choice) (static : List RpRange) (limit : ℕ) (t : Table)
    → IsSoundTable static limit t → (r : Result V E) → IfOk r (λ v. items v ≡ candidates_by choice t.rps)
    → IfOk r (λ v. list_all is_low (items v) ≡ true) → OnOk r (are_candidates (candidates_by choice t.rps) ≡ true)
accepted_if items choice static limit t sound (Ok v) is low =
    offered_accepted choice static limit t sound (subst (λ (cs : List RpCandidate). list_all is_low cs ≡ true) is low)
accepted_if items choice static limit t sound (Err e) is low = tt

-- ---- the priorities that a message brings

module _ (b : List ℕ) (are : AreBytes b) where
  index_small : (i : ℕ) → nat_le (slice_index b i) 255 ≡ true
  index_small i = let small = are i in grind (arith, nat_tests, small)

  abbrev low_rps : BootstrapRange → Bool
  low_rps r = list_all (λ (c : CandidateRp). nat_le c.priority 255) r.rps

  candidates_low : (p n : ℕ) → list_all (λ (c : CandidateRp). nat_le c.priority 255) (candidates_at b p n) ≡ true
  unfolding candidates_at
  candidates_low p zero = refl
  candidates_low p (suc n) =
      and_both (nat_le (candidate_at b p).priority 255) _ (index_small (p + 8)) (candidates_low (p + 10) n)

  ranges_low : (p most : ℕ) → list_all low_rps (ranges_at b p most) ≡ true
  unfolding ranges_at
  ranges_low p zero = refl
  ranges_low p (suc most) = go (nat_le (length b) p) (ranges_low (after_range b p) most)
    where
      go : (x : Bool) → list_all low_rps (ranges_at b (after_range b p) most) ≡ true
          → list_all low_rps (elim x [ true ↦ [] | false ↦ range_at b p ∷ ranges_at b (after_range b p) most ]) ≡ true
      go true later = refl
      go false later =
          and_both (low_rps (range_at b p)) _ (candidates_low (p + 12) (part_count_at b p)) later

  value_is : (t : Result (Unit {0}) Refusal) (x y : Bootstrap) → (t >> Ok x) ≡ Ok y → x ≡ y
  value_is (Ok _) x y e = cc
  value_is (Err r) x y e = absurd (cc)

  read_low : (m : Bootstrap) → bootstrap_reading b ≡ Ok m → list_all low_rps m.ranges ≡ true
  unfolding bootstrap_of
  read_low m e =
      subst (λ (z : Bootstrap). list_all low_rps z.ranges ≡ true) (value_is (bootstrap_test b) (bootstrap_of b) m e)
      (ranges_low 14 (length b))

abbrev low_learned : Learned → Bool
low_learned l = nat_le l.priority 255

abbrev low_part : Part → Bool
low_part q = nat_le q.rp.priority 255

parts_low : (now : ℕ) (id : MessageId) (r : BootstrapRange) (cs : List CandidateRp)
    → list_all (λ (c : CandidateRp). nat_le c.priority 255) cs ≡ true
    → list_all low_part (map (part_of now id (range_prefix r)) cs) ≡ true
parts_low now id r [] e = refl
parts_low now id r (c ∷ cs) e =
    and_both (nat_le c.priority 255) _ (and_first (nat_le c.priority 255) _ e)
    (parts_low now id r cs (and_second (nat_le c.priority 255) _ e))

brought_low : (now : ℕ) (id : MessageId) (ranges : List BootstrapRange)
    → list_all (λ (r : BootstrapRange). list_all (λ (c : CandidateRp). nat_le c.priority 255) r.rps) ranges ≡ true
    → list_all (brings low_part now id) ranges ≡ true
brought_low now id [] e = refl
brought_low now id (r ∷ ranges) e =
    and_both (brings low_part now id r) _
    (parts_low now id r r.rps (and_first (list_all (λ (c : CandidateRp). nat_le c.priority 255) r.rps) _ e))
    (brought_low now id ranges (and_second (list_all (λ (c : CandidateRp). nat_le c.priority 255) r.rps) _ e))

message_low : (now : ℕ) (b : List ℕ) (m : Bootstrap) (t : Table) → AreBytes b → bootstrap_reading b ≡ Ok m → HavePriorities t
    → HavePriorities (with_message now t m)
unfolding with_message
message_low now b m t are read low =
    let id : MessageId = message_id m.bsr m.tag in
    let before : Hold low_learned low_part t = record { rps = low.rps; parts = low.parts } in
    let masked : Hold low_learned low_part (masks_after m.hash_length m.ranges t) =
    masks_hold low_learned low_part now id m.hash_length (λ q e. e) (λ l e. e) m.ranges t before in
    let last : Hold low_learned low_part (with_message now t m) =
    ranges_hold low_learned low_part now id m.hash_length (λ q e. e) (λ l e. e) m.ranges
    (masks_after m.hash_length m.ranges t) (brought_low now id m.ranges (read_low b are m read)) masked in
    record { rps = last.rps; parts = last.parts }

-- ---- whatever happens

happening_low : (k : Known) (h : Happening) → IsRead h → HavePriorities k.table → HavePriorities (after k h).table
unfolding heard after_message at_time configured
happening_low k (Happening.Message s i src b m) read low = go (why_not s k i src m)
  where
    go : (w : Option Why) → HavePriorities (heard_if s k i b m w).known.table
    go (Some w) = low
    go None = message_low s.present b m k.table read.0 read.1 low
happening_low k (Happening.Time now) read low = record {
  rps = some_pass (runs now) low_learned k.table.rps low.rps;
  parts = some_pass (waits now) low_part k.table.parts low.parts;
}
happening_low k (Happening.Ranges limit static) read low = record {
  rps = first_pass low_learned (room_beside limit static) k.table.rps low.rps;
  parts = first_pass low_part _ k.table.parts low.parts;
}

happening_sound : (k : Known) (h : Happening) → IsRead h → IsSound k → IsSound (after k h)
happening_sound k (Happening.Message s i src b m) read sound = sound_stays s k i src b m read.1 sound
happening_sound k (Happening.Time now) read sound = sound_in_time k now sound
happening_sound k (Happening.Ranges limit static) read sound = sound_configured k limit static sound

offered_low : (choice : Choice) (ls : List Learned) → list_all low_learned ls ≡ true → list_all is_low (candidates_by choice ls) ≡ true
offered_low Choice.Range ls e = refl
offered_low Choice.Group [] e = refl
offered_low Choice.Group (l ∷ ls) e =
    and_both (low_learned l) _ (and_first (low_learned l) _ e) (offered_low Choice.Group ls (and_second (low_learned l) _ e))

pub candidates_are_accepted : CandidatesAreAccepted
unfolding all_after
candidates_are_accepted k [] sound low read =
    offered_accepted k.choice k.static k.limit k.table sound (offered_low k.choice k.table.rps low.rps)
candidates_are_accepted k (h ∷ hs) sound low read =
    candidates_are_accepted (after k h) hs (happening_sound k h read.0 sound) (happening_low k h read.0 low) read.1
