-- What a router learns of the fragments of a Bootstrap.
use Rattle.std.{proofs.{Common.{◌≡◌, ℕ, suc, Bool, true, false, cond, not, nat_le, ◌==◌, List, [], ◌∷◌, ◌++◌, filter, fold, length, map, take, drop, refl, sym, ap, ◌∙◌, arith, append_assoc, append-nil, take-append-drop}, lemmas.{Bool.Decides.nat_tests, List.{length-take, Elements.{All-head, All-tail}, Sums.fold-append}}}, specs.{List.{All, flat_map, list_any}, Prelude.if◌then◌else◌}}
use Rattle.pim_ip.{specs.declared.addr.Prefix.Prefix}
use Rattle.pim_model.{specs.Limits.same_prefix}
use Rattle.pim_bootstrap.{specs.{declared.{bootstrap.CandidateRp.CandidateRp, fragments.BootstrapHead.BootstrapHead}, Bootstraps.{Bootstrap, BootstrapRange}, Fragments.{RangeRps, fragment_of, fragments, most_together, packed, packing, piece_of, pieces_of}}, proofs.Packed.fragments_have_all}
use Rattle.pim_bsr.{specs.{Table.{MessageId, Table, completed, emptied, has_holdtime, has_prefix, is_part_of, is_tagged, learned_of, masks_after, message_id, part_of, parts_after, range_prefix, waiting, with_mask, with_masks, with_message, with_part, with_parts, with_range, with_ranges, without, without_parts}, declared.learned.{Learned.Learned, Part.Part}}, proofs.{Lists.{and_fails, and_first, and_second, filter_both, map_both, none_left, not_true, or_first, or_second}, Sounder.prefix_itself}}
use Rattle.pim_candidate.{specs.SaySame.{FragmentsSaySame, HasApart, all_in_force, are_apart, in_force, is_other, is_other_part, lasts, rps_apart, taken_prefix, told, waits_under}}

-- ---- hash masks

masks_again : (hash : ℕ) (ls : List Learned) → map (with_mask hash) (map (with_mask hash) ls) ≡ map (with_mask hash) ls
masks_again hash [] = refl
masks_again hash (l ∷ ls) = ap (λ (rs : List Learned). with_mask hash l ∷ rs) (masks_again hash ls)

masked_without : (hash : ℕ) (p : Prefix) (ls : List Learned) → without p (map (with_mask hash) ls) ≡ map (with_mask hash) (without p ls)
masked_without hash p [] = refl
masked_without hash p (l ∷ ls) = go (has_prefix p l) refl (masked_without hash p ls)
  where
    go : (b : Bool) → has_prefix p l ≡ b → without p (map (with_mask hash) ls) ≡ map (with_mask hash) (without p ls)
        → without p (map (with_mask hash) (l ∷ ls)) ≡ map (with_mask hash) (without p (l ∷ ls))
    go true is later = rw is later
    go false is later = rw is (ap (λ (rs : List Learned). with_mask hash l ∷ rs) later)

masked_learned : (now hash : ℕ) (qs : List Part) → map (with_mask hash) (map (learned_of now hash) qs) ≡ map (learned_of now hash) qs
masked_learned now hash [] = refl
masked_learned now hash (q ∷ qs) = ap (λ (rs : List Learned). learned_of now hash q ∷ rs) (masked_learned now hash qs)

masked_range : (now : ℕ) (id : MessageId) (hash : ℕ) (t : Table) (r : BootstrapRange)
    → with_masks hash (with_range now id hash t r) ≡ with_range now id hash (with_masks hash t) r
unfolding with_range
masked_range now id hash t r = go r.bidir (r.rp_count == 0) (nat_le r.rp_count (length (parts_after now id t.parts r)))
  where
    go : (b c d : Bool)
        → with_masks hash (if b then t else (if c then emptied (range_prefix r) t
        else (if d then completed now hash (range_prefix r) t (parts_after now id t.parts r)
        else waiting (range_prefix r) t (parts_after now id t.parts r))))
        ≡ (if b then with_masks hash t else (if c then emptied (range_prefix r) (with_masks hash t)
        else (if d then completed now hash (range_prefix r) (with_masks hash t) (parts_after now id t.parts r)
        else waiting (range_prefix r) (with_masks hash t) (parts_after now id t.parts r))))
    go true c d = refl
    go false true d =
        ap (λ (rs : List Learned). let u : Table = record { rps = rs; parts = without_parts (range_prefix r) t.parts } in u)
        (sym (masked_without hash (range_prefix r) t.rps))
    go false false true =
        ap (λ (rs : List Learned). let u : Table = record { rps = rs; parts = without_parts (range_prefix r) t.parts } in u)
        (map_both (with_mask hash) (without (range_prefix r) t.rps) (map (learned_of now hash) (filter has_holdtime (parts_after now id t.parts r)))
        ∙ ap (λ (rs : List Learned). rs ++ map (with_mask hash) (map (learned_of now hash) (filter has_holdtime (parts_after now id t.parts r)))) (sym (masked_without hash (range_prefix r) t.rps))
        ∙ ap (λ (rs : List Learned). without (range_prefix r) (map (with_mask hash) t.rps) ++ rs) (masked_learned now hash (filter has_holdtime (parts_after now id t.parts r))))
    go false false false = refl

masked_ranges : (now : ℕ) (id : MessageId) (hash : ℕ) (t : Table) (rs : List BootstrapRange)
    → with_masks hash (with_ranges now id hash t rs) ≡ with_ranges now id hash (with_masks hash t) rs
unfolding with_ranges
masked_ranges now id hash t [] = refl
masked_ranges now id hash t (r ∷ rs) =
    masked_ranges now id hash (with_range now id hash t r) rs
    ∙ ap (λ (u : Table). with_ranges now id hash u rs) (masked_range now id hash t r)

masks_twice : (hash : ℕ) (rs : List BootstrapRange) (t : Table) → with_masks hash (masks_after hash rs t) ≡ with_masks hash t
masks_twice hash [] t = refl
masks_twice hash (r ∷ rs) t = ap (λ (ls : List Learned). let u : Table = record { rps = ls; parts = t.parts } in u) (masks_again hash t.rps)

masks_more : (hash : ℕ) (xs : List BootstrapRange) (y : BootstrapRange) (ys : List BootstrapRange) (t : Table)
    → masks_after hash (xs ++ y ∷ ys) t ≡ with_masks hash t
masks_more hash [] y ys t = refl
masks_more hash (x ∷ xs) y ys t = refl

masks_parts : (hash : ℕ) (rs : List BootstrapRange) (t : Table) → (masks_after hash rs t).parts ≡ t.parts
masks_parts hash [] t = refl
masks_parts hash (r ∷ rs) t = refl

masks_later : (now : ℕ) (id : MessageId) (hash : ℕ) (xs ys : List BootstrapRange) (t : Table)
    → masks_after hash ys (with_ranges now id hash (masks_after hash xs t) xs) ≡ with_ranges now id hash (masks_after hash (xs ++ ys) t) xs
masks_later now id hash xs [] t =
    ap (λ (zs : List BootstrapRange). with_ranges now id hash (masks_after hash zs t) xs) (sym (append-nil xs))
masks_later now id hash xs (y ∷ ys) t =
    masked_ranges now id hash (masks_after hash xs t) xs
    ∙ ap (λ (u : Table). with_ranges now id hash u xs) (masks_twice hash xs t ∙ sym (masks_more hash xs y ys t))

-- ---- the ranges of all fragments

abbrev id_of : BootstrapHead → MessageId
id_of h = message_id h.bsr.bits h.tag

abbrev joined : BootstrapHead → List (List BootstrapRange) → List BootstrapRange
joined h xs = flat_map (λ (m : Bootstrap). m.ranges) (map (fragment_of h) xs)

ranges_after : (now : ℕ) (id : MessageId) (hash : ℕ) (t : Table) (xs ys : List BootstrapRange)
    → with_ranges now id hash t (xs ++ ys) ≡ with_ranges now id hash (with_ranges now id hash t xs) ys
unfolding with_ranges
ranges_after now id hash t xs ys = fold-append (with_range now id hash) t xs ys

in_one : (now : ℕ) (h : BootstrapHead) (xs : List (List BootstrapRange)) (t : Table)
    → fold (with_message now) t (map (fragment_of h) xs)
    ≡ with_ranges now (id_of h) h.hash_length (masks_after h.hash_length (joined h xs) t) (joined h xs)
unfolding with_message with_ranges
in_one now h [] t = refl
in_one now h (x ∷ xs) t =
    in_one now h xs (with_ranges now (id_of h) h.hash_length (masks_after h.hash_length x t) x)
    ∙ ap (λ (u : Table). with_ranges now (id_of h) h.hash_length u (joined h xs)) (masks_later now (id_of h) h.hash_length x (joined h xs) t)
    ∙ sym (ranges_after now (id_of h) h.hash_length (masks_after h.hash_length (x ++ joined h xs) t) x (joined h xs))

-- what is known after a range with its RPs
abbrev after_range : ℕ → BootstrapHead → Table → RangeRps → Table
after_range now h t g = with_ranges now (id_of h) h.hash_length t (pieces_of g)

range_by_range : (now : ℕ) (h : BootstrapHead) (gs : List RangeRps) (t : Table)
    → with_ranges now (id_of h) h.hash_length t (flat_map pieces_of gs) ≡ fold (after_range now h) t gs
unfolding with_ranges
range_by_range now h [] t = refl
range_by_range now h (g ∷ gs) t =
    ranges_after now (id_of h) h.hash_length t (pieces_of g) (flat_map pieces_of gs) ∙ range_by_range now h gs (after_range now h t g)

-- ---- the RPs of a range

kept_all : {X : Type 0} (test : X → Bool) (xs : List X) → list_any test xs ≡ false → filter (λ x. not (test x)) xs ≡ xs
kept_all test [] e = refl
kept_all {X} test (x ∷ xs) e =
    rw (or_first (test x) _ e) (ap (λ (ys : List X). x ∷ ys) (kept_all test xs (or_second (test x) _ e)))

middle_fails : {X : Type 0} (test : X → Bool) (xs : List X) (y : X) (ys : List X) → list_any test (xs ++ y ∷ ys) ≡ false → test y ≡ false
middle_fails test [] y ys e = or_first (test y) _ e
middle_fails test (x ∷ xs) y ys e = middle_fails test xs y ys (or_second (test x) _ e)

front_fails : {X : Type 0} (test : X → Bool) (xs ys : List X) → list_any test (xs ++ ys) ≡ false → list_any test xs ≡ false
front_fails test [] ys e = refl
front_fails test (x ∷ xs) ys e = rw (or_first (test x) _ e) (front_fails test xs ys (or_second (test x) _ e))

some_fail : {X : Type 0} (test other : X → Bool) (xs : List X) → list_any test xs ≡ false → list_any test (filter other xs) ≡ false
some_fail test other [] e = refl
some_fail {X} test other (x ∷ xs) e = go (other x) refl (some_fail test other xs (or_second (test x) _ e))
  where
    go : (b : Bool) → other x ≡ b → list_any test (filter other xs) ≡ false → list_any test (filter other (x ∷ xs)) ≡ false
    go true is later = rw (is, or_first (test x) _ e) later
    go false is later = rw is later

module _ (now : ℕ) (h : BootstrapHead) (p : Prefix) where
  abbrev part : CandidateRp → Part
  part c = part_of now (id_of h) p c

  none_before : (xs : List CandidateRp) (y : CandidateRp) (ys : List CandidateRp) → rps_apart (xs ++ y ∷ ys) ≡ true
      → list_any (λ (old : Part). old.rp.address.bits == y.address.bits) (map part xs) ≡ false
  unfolding rps_apart
  none_before [] y ys e = refl
  none_before (x ∷ xs) y ys e =
      let apart : list_any (λ (d : CandidateRp). x.address.bits == d.address.bits) (xs ++ y ∷ ys) ≡ false =
      not_true _ (and_first (not (list_any (λ (d : CandidateRp). x.address.bits == d.address.bits) (xs ++ y ∷ ys))) _ e) in
      rw (middle_fails (λ (d : CandidateRp). x.address.bits == d.address.bits) xs y ys apart)
      (none_before xs y ys (and_second (not (list_any (λ (d : CandidateRp). x.address.bits == d.address.bits) (xs ++ y ∷ ys))) _ e))

  puts : (xs ys : List CandidateRp) → rps_apart (xs ++ ys) ≡ true → fold with_part (map part xs) (map part ys) ≡ map part (xs ++ ys)
  puts xs [] e = ap (map part) (sym (append-nil xs))
  puts xs (y ∷ ys) e =
      let behind : (xs ++ y ∷ []) ++ ys ≡ xs ++ y ∷ ys = append_assoc xs (y ∷ []) ys in
      let one : with_part (map part xs) (part y) ≡ map part (xs ++ y ∷ []) =
      ap (λ (qs : List Part). qs ++ part y ∷ []) (kept_all (λ (old : Part). old.rp.address.bits == y.address.bits) (map part xs) (none_before xs y ys e))
      ∙ sym (map_both part xs (y ∷ [])) in
      ap (λ (qs : List Part). fold with_part qs (map part ys)) one
      ∙ puts (xs ++ y ∷ []) ys (ap rps_apart behind ∙ e)
      ∙ ap (map part) behind

  length-parts : (xs : List CandidateRp) → length (map part xs) ≡ length xs
  length-parts [] = refl
  length-parts (x ∷ xs) = omega (arith, length-parts xs)

  none_tagged : (qs : List Part) → list_any (waits_under h) qs ≡ false → list_any (is_tagged p (id_of h)) qs ≡ false
  none_tagged [] e = refl
  none_tagged (q ∷ qs) e =
      rw (and_fails (is_part_of p q) _ (or_first (waits_under h q) _ e)) (none_tagged qs (or_second (waits_under h q) _ e))

  all_tagged : (xs : List CandidateRp) → filter (is_tagged p (id_of h)) (map part xs) ≡ map part xs
  all_tagged [] = refl
  all_tagged (x ∷ xs) =
      let is : is_tagged p (id_of h) (part x) ≡ true = grind (arith, nat_tests) in
      rw is (ap (λ (qs : List Part). part x ∷ qs) (all_tagged xs))

  none_without : (xs : List CandidateRp) → without_parts p (map part xs) ≡ []
  none_without [] = refl
  none_without (x ∷ xs) = rw (prefix_itself p) (none_without xs)

  in_force_of : (xs : List CandidateRp) → map (learned_of now h.hash_length) (filter has_holdtime (map part xs)) ≡ map (in_force now h p) (filter lasts xs)
  in_force_of [] = refl
  in_force_of (x ∷ xs) = go (lasts x) refl (in_force_of xs)
    where
      go : (b : Bool) → lasts x ≡ b
          → map (learned_of now h.hash_length) (filter has_holdtime (map part xs)) ≡ map (in_force now h p) (filter lasts xs)
          → map (learned_of now h.hash_length) (filter has_holdtime (map part (x ∷ xs))) ≡ map (in_force now h p) (filter lasts (x ∷ xs))
      go true is later = rw is (ap (λ (ls : List Learned). in_force now h p x ∷ ls) later)
      go false is later = rw is later

  -- all RPs of a range came
  all_came : (t : Table) (qs : List Part) (xs : List CandidateRp) → qs ≡ map part xs
      → with_parts now h.hash_length p (length xs) t qs
      ≡ record { rps = without p t.rps ++ map (in_force now h p) (filter lasts xs); parts = without_parts p t.parts }
  all_came t qs xs e =
      let enough : nat_le (length xs) (length (map part xs)) ≡ true = grind (arith, nat_tests, length-parts xs) in
      ap (λ (rs : List Part). with_parts now h.hash_length p (length xs) t rs) e
      ∙ ap (λ (b : Bool). cond b (completed now h.hash_length p t (map part xs)) (waiting p t (map part xs))) enough
      ∙ ap (λ (ls : List Learned). let u : Table = record { rps = without p t.rps ++ ls; parts = without_parts p t.parts } in u) (in_force_of xs)

-- ---- a range

some_left : (n : ℕ) → (suc n == 0) ≡ false
some_left n = grind (arith, nat_tests)

-- of a range with RPs one part
piece_taken : (now : ℕ) (h : BootstrapHead) (g : RangeRps) (xs : List CandidateRp) (t : Table) → (length g.rps == 0) ≡ false
    → with_range now (id_of h) h.hash_length t (piece_of g xs)
    ≡ with_parts now h.hash_length (taken_prefix g) (length g.rps) t (parts_after now (id_of h) t.parts (piece_of g xs))
unfolding with_range
piece_taken now h g xs t some =
    ap (λ (b : Bool). cond b (emptied (taken_prefix g) t)
    (with_parts now h.hash_length (taken_prefix g) (length g.rps) t (parts_after now (id_of h) t.parts (piece_of g xs)))) some

parts_fresh : (now : ℕ) (h : BootstrapHead) (g : RangeRps) (xs : List CandidateRp) (qs : List Part)
    → list_any (waits_under h) qs ≡ false → rps_apart xs ≡ true
    → parts_after now (id_of h) qs (piece_of g xs) ≡ map (part now h (taken_prefix g)) xs
unfolding parts_after
parts_fresh now h g xs qs fresh apart =
    ap (λ (rs : List Part). fold with_part rs (map (part now h (taken_prefix g)) xs))
    (none_left (is_tagged (taken_prefix g) (id_of h)) qs (none_tagged now h (taken_prefix g) qs fresh))
    ∙ puts now h (taken_prefix g) [] xs apart

-- the parts of a range after its first fragment, and the second one
parts_joined : (now : ℕ) (h : BootstrapHead) (g : RangeRps) (xs ys : List CandidateRp) (qs : List Part)
    → list_any (waits_under h) qs ≡ false → rps_apart (xs ++ ys) ≡ true
    → parts_after now (id_of h) (without_parts (taken_prefix g) qs ++ map (part now h (taken_prefix g)) xs) (piece_of g ys)
    ≡ map (part now h (taken_prefix g)) (xs ++ ys)
unfolding parts_after
parts_joined now h g xs ys qs fresh apart =
    let p : Prefix = taken_prefix g in
    let none : filter (is_tagged p (id_of h)) (without_parts p qs) ≡ [] =
    none_left (is_tagged p (id_of h)) (without_parts p qs)
    (none_tagged now h p (without_parts p qs) (some_fail (waits_under h) (λ (q : Part). not (is_part_of p q)) qs fresh)) in
    ap (λ (rs : List Part). fold with_part rs (map (part now h p) ys))
    (filter_both (is_tagged p (id_of h)) (without_parts p qs) (map (part now h p) xs)
    ∙ ap (λ (rs : List Part). rs ++ filter (is_tagged p (id_of h)) (map (part now h p) xs)) none
    ∙ all_tagged now h p xs)
    ∙ puts now h p xs ys apart

kept_twice : {X : Type 0} (test : X → Bool) (xs : List X) → filter test (filter test xs) ≡ filter test xs
kept_twice test [] = refl
kept_twice {X} test (x ∷ xs) = go (test x) refl (kept_twice test xs)
  where
    go : (b : Bool) → test x ≡ b → filter test (filter test xs) ≡ filter test xs
        → filter test (filter test (x ∷ xs)) ≡ filter test (x ∷ xs)
    go true is later = rw (is, is) (ap (λ (ys : List X). x ∷ ys) later)
    go false is later = rw is later

first_apart : (xs ys : List CandidateRp) → rps_apart (xs ++ ys) ≡ true → rps_apart xs ≡ true
unfolding rps_apart
first_apart [] ys e = refl
first_apart (x ∷ xs) ys e =
    let apart : list_any (λ (d : CandidateRp). x.address.bits == d.address.bits) (xs ++ ys) ≡ false =
    not_true _ (and_first (not (list_any (λ (d : CandidateRp). x.address.bits == d.address.bits) (xs ++ ys))) _ e) in
    rw (front_fails (λ (d : CandidateRp). x.address.bits == d.address.bits) xs ys apart)
    (first_apart xs ys (and_second (not (list_any (λ (d : CandidateRp). x.address.bits == d.address.bits) (xs ++ ys))) _ e))

-- a range with RPs, said in two fragments
two_said : (now : ℕ) (h : BootstrapHead) (g : RangeRps) (xs ys : List CandidateRp) (t : Table)
    → xs ++ ys ≡ g.rps → (length g.rps == 0) ≡ false → nat_le (length g.rps) (length xs) ≡ false → rps_apart g.rps ≡ true
    → list_any (waits_under h) t.parts ≡ false
    → with_range now (id_of h) h.hash_length (with_range now (id_of h) h.hash_length t (piece_of g xs)) (piece_of g ys)
    ≡ record { rps = without (taken_prefix g) t.rps ++ all_in_force now h g; parts = without_parts (taken_prefix g) t.parts }
two_said now h g xs ys t both some more apart fresh =
    let p : Prefix = taken_prefix g in
    let all_apart : rps_apart (xs ++ ys) ≡ true = ap rps_apart both ∙ apart in
    let qs : List Part = map (part now h p) xs in
    let missing : nat_le (length g.rps) (length qs) ≡ false = ap (nat_le (length g.rps)) (length-parts now h p xs) ∙ more in
    let first : with_range now (id_of h) h.hash_length t (piece_of g xs) ≡ waiting p t qs =
    piece_taken now h g xs t some
    ∙ ap (λ (rs : List Part). with_parts now h.hash_length p (length g.rps) t rs) (parts_fresh now h g xs t.parts fresh (first_apart xs ys all_apart))
    ∙ ap (λ (b : Bool). cond b (completed now h.hash_length p t qs) (waiting p t qs)) missing in
    ap (λ (u : Table). with_range now (id_of h) h.hash_length u (piece_of g ys)) first
    ∙ piece_taken now h g ys (waiting p t qs) some
    ∙ all_came now h p (waiting p t qs) _ g.rps (parts_joined now h g xs ys t.parts fresh all_apart ∙ ap (map (part now h p)) both)
    ∙ ap (λ (rs : List Part). let u : Table = record { rps = without p t.rps ++ all_in_force now h g; parts = rs } in u)
    (filter_both (λ (q : Part). not (is_part_of p q)) (without_parts p t.parts) qs
    ∙ ap (λ (rs : List Part). without_parts p (without_parts p t.parts) ++ rs) (none_without now h p xs)
    ∙ append-nil (without_parts p (without_parts p t.parts))
    ∙ kept_twice (λ (q : Part). not (is_part_of p q)) t.parts)

-- in one
one_said : (now : ℕ) (h : BootstrapHead) (g : RangeRps) (t : Table) → (length g.rps == 0) ≡ false → rps_apart g.rps ≡ true
    → list_any (waits_under h) t.parts ≡ false
    → with_range now (id_of h) h.hash_length t (piece_of g g.rps)
    ≡ record { rps = without (taken_prefix g) t.rps ++ all_in_force now h g; parts = without_parts (taken_prefix g) t.parts }
one_said now h g t some apart fresh =
    piece_taken now h g g.rps t some
    ∙ all_came now h (taken_prefix g) t _ g.rps (parts_fresh now h g g.rps t.parts fresh apart)

-- without RPs
none_said : (now : ℕ) (h : BootstrapHead) (q : Prefix) (t : Table)
    → with_range now (id_of h) h.hash_length t (piece_of (record { prefix = q; rps = [] }) [])
    ≡ record { rps = without (taken_prefix (record { prefix = q; rps = [] })) t.rps ++ []; parts = without_parts (taken_prefix (record { prefix = q; rps = [] })) t.parts }
unfolding with_range
none_said now h q t =
    ap (λ (ls : List Learned). let u : Table = record { rps = ls; parts = without_parts (taken_prefix (record { prefix = q; rps = [] })) t.parts } in u)
    (sym (append-nil (without (taken_prefix (record { prefix = q; rps = [] })) t.rps)))

some_said : (now : ℕ) (h : BootstrapHead) (g : RangeRps) (t : Table) (b : Bool) → nat_le (length g.rps) most_together ≡ b
    → (length g.rps == 0) ≡ false → rps_apart g.rps ≡ true → list_any (waits_under h) t.parts ≡ false
    → with_ranges now (id_of h) h.hash_length t
    (cond b (piece_of g g.rps ∷ []) (piece_of g (take most_together g.rps) ∷ piece_of g (drop most_together g.rps) ∷ []))
    ≡ record { rps = without (taken_prefix g) t.rps ++ all_in_force now h g; parts = without_parts (taken_prefix g) t.parts }
unfolding with_ranges
some_said now h g t true few some apart fresh = one_said now h g t some apart fresh
some_said now h g t false many some apart fresh =
    let more : nat_le (length g.rps) (length (take most_together g.rps)) ≡ false = grind (arith, nat_tests, many, length-take most_together g.rps) in
    two_said now h g (take most_together g.rps) (drop most_together g.rps) t (take-append-drop most_together g.rps) some more apart fresh

range_said : (now : ℕ) (h : BootstrapHead) (q : Prefix) (cs : List CandidateRp) (t : Table) → rps_apart cs ≡ true
    → list_any (waits_under h) t.parts ≡ false
    → let g : RangeRps = record { prefix = q; rps = cs } in after_range now h t g
    ≡ record { rps = without (taken_prefix g) t.rps ++ all_in_force now h g; parts = without_parts (taken_prefix g) t.parts }
unfolding pieces_of with_ranges
range_said now h q [] t apart fresh = none_said now h q t
range_said now h q (c ∷ cs) t apart fresh =
    let g : RangeRps = record { prefix = q; rps = c ∷ cs } in
    some_said now h g t (nat_le (length g.rps) most_together) refl (some_left (length cs)) apart fresh

-- ---- all ranges

kept_true : {X : Type 0} (xs : List X) → filter (λ x. true) xs ≡ xs
kept_true [] = refl
kept_true {X} (x ∷ xs) = ap (λ (ys : List X). x ∷ ys) (kept_true xs)

-- what is of none of several ranges
module _ {X : Type 0} (of : Prefix → X → Bool) where
  abbrev of_none : List RangeRps → X → Bool
  of_none gs x = not (list_any (λ (g : RangeRps). of (taken_prefix g) x) gs)

  none_of_more : (g : RangeRps) (gs : List RangeRps) (xs : List X)
      → filter (of_none gs) (filter (λ x. not (of (taken_prefix g) x)) xs) ≡ filter (of_none (g ∷ gs)) xs
  none_of_more g gs [] = refl
  none_of_more g gs (x ∷ xs) =
      go (of (taken_prefix g) x) (list_any (λ (f : RangeRps). of (taken_prefix f) x) gs) refl refl (none_of_more g gs xs)
    where
      go : (b c : Bool) → of (taken_prefix g) x ≡ b → list_any (λ (f : RangeRps). of (taken_prefix f) x) gs ≡ c
          → filter (of_none gs) (filter (λ y. not (of (taken_prefix g) y)) xs) ≡ filter (of_none (g ∷ gs)) xs
          → filter (of_none gs) (filter (λ y. not (of (taken_prefix g) y)) (x ∷ xs)) ≡ filter (of_none (g ∷ gs)) (x ∷ xs)
      go true c is any later = rw is later
      go false true is any later = rw (is, any) later
      go false false is any later = rw (is, any) (ap (λ (ys : List X). x ∷ ys) later)

turned : (p q : Prefix) → same_prefix p q ≡ false → same_prefix q p ≡ false
turned p q e = grind (arith, nat_tests)

all_turned : (p : Prefix) (gs : List RangeRps) → list_any (λ (f : RangeRps). same_prefix p (taken_prefix f)) gs ≡ false
    → list_any (λ (f : RangeRps). same_prefix (taken_prefix f) p) gs ≡ false
all_turned p [] e = refl
all_turned p (g ∷ gs) e =
    rw (turned p (taken_prefix g) (or_first (same_prefix p (taken_prefix g)) _ e))
    (all_turned p gs (or_second (same_prefix p (taken_prefix g)) _ e))

own_stay : (now : ℕ) (h : BootstrapHead) (p : Prefix) (gs : List RangeRps) (cs : List CandidateRp)
    → list_any (λ (f : RangeRps). same_prefix (taken_prefix f) p) gs ≡ false
    → filter (is_other gs) (map (in_force now h p) cs) ≡ map (in_force now h p) cs
own_stay now h p gs [] none = refl
own_stay now h p gs (c ∷ cs) none =
    rw none (ap (λ (ls : List Learned). in_force now h p c ∷ ls) (own_stay now h p gs cs none))

told_more : (now : ℕ) (h : BootstrapHead) (g : RangeRps) (gs : List RangeRps) (t : Table)
    → list_any (λ (f : RangeRps). same_prefix (taken_prefix g) (taken_prefix f)) gs ≡ false
    → told now h gs (record { rps = without (taken_prefix g) t.rps ++ all_in_force now h g; parts = without_parts (taken_prefix g) t.parts })
    ≡ told now h (g ∷ gs) t
told_more now h g gs t apart =
    let p : Prefix = taken_prefix g in
    let others : filter (is_other gs) (without p t.rps ++ all_in_force now h g) ≡ filter (is_other (g ∷ gs)) t.rps ++ all_in_force now h g =
    filter_both (is_other gs) (without p t.rps) (all_in_force now h g)
    ∙ ap (λ (ls : List Learned). ls ++ filter (is_other gs) (all_in_force now h g)) (none_of_more has_prefix g gs t.rps)
    ∙ ap (λ (ls : List Learned). filter (is_other (g ∷ gs)) t.rps ++ ls) (own_stay now h p gs (filter lasts g.rps) (all_turned p gs apart)) in
    let rps : filter (is_other gs) (without p t.rps ++ all_in_force now h g) ++ flat_map (all_in_force now h) gs
    ≡ filter (is_other (g ∷ gs)) t.rps ++ flat_map (all_in_force now h) (g ∷ gs) =
    ap (λ (ls : List Learned). ls ++ flat_map (all_in_force now h) gs) others
    ∙ append_assoc (filter (is_other (g ∷ gs)) t.rps) (all_in_force now h g) (flat_map (all_in_force now h) gs) in
    ap (λ (ls : List Learned). let u : Table = record { rps = ls; parts = filter (is_other_part gs) (without_parts p t.parts) } in u) rps
    ∙ ap (λ (qs : List Part). let u : Table = record { rps = filter (is_other (g ∷ gs)) t.rps ++ flat_map (all_in_force now h) (g ∷ gs); parts = qs } in u)
    (none_of_more is_part_of g gs t.parts)

all_said : (now : ℕ) (h : BootstrapHead) (gs : List RangeRps) (t : Table) → All HasApart gs → are_apart gs ≡ true
    → list_any (waits_under h) t.parts ≡ false → fold (after_range now h) t gs ≡ told now h gs t
unfolding are_apart
all_said now h [] t rps apart fresh =
    ap (λ (ls : List Learned). let u : Table = record { rps = ls; parts = t.parts } in u) (sym (kept_true t.rps) ∙ sym (append-nil (filter (λ (l : Learned). true) t.rps)))
    ∙ ap (λ (qs : List Part). let u : Table = record { rps = filter (λ (l : Learned). true) t.rps ++ []; parts = qs } in u) (sym (kept_true t.parts))
all_said now h (g ∷ gs) t rps apart fresh =
    let p : Prefix = taken_prefix g in
    let u : Table = record { rps = without p t.rps ++ all_in_force now h g; parts = without_parts p t.parts } in
    let alone : list_any (λ (f : RangeRps). same_prefix p (taken_prefix f)) gs ≡ false =
    not_true _ (and_first (not (list_any (λ (f : RangeRps). same_prefix p (taken_prefix f)) gs)) _ apart) in
    ap (λ (v : Table). fold (after_range now h) v gs) (range_said now h g.prefix g.rps t (All-head HasApart g gs rps) fresh)
    ∙ all_said now h gs u (All-tail HasApart g gs rps)
    (and_second (not (list_any (λ (f : RangeRps). same_prefix p (taken_prefix f)) gs)) _ apart)
    (some_fail (waits_under h) (λ (q : Part). not (is_part_of p q)) t.parts fresh)
    ∙ told_more now h g gs t alone

pub fragments_say_same : FragmentsSaySame
unfolding fragments
fragments_say_same now h gs t counted rps apart fresh =
    let hash : ℕ = h.hash_length in
    let ranges : List BootstrapRange = flat_map pieces_of gs in
    in_one now h (packed (packing h ranges)) t
    ∙ ap (λ (rs : List BootstrapRange). with_ranges now (id_of h) hash (masks_after hash rs t) rs) (fragments_have_all h gs)
    ∙ range_by_range now h gs (masks_after hash ranges t)
    ∙ all_said now h gs (masks_after hash ranges t) rps apart (ap (list_any (waits_under h)) (masks_parts hash ranges t) ∙ fresh)
