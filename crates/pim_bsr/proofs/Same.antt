-- Routers that took the same messages are given the same RPs.
use Rattle.std.{proofs.{Common.{◌≡◌, ℕ, Bool, true, false, not, nat_le, ◌&&◌, ◌||◌, ◌==◌, List, [], ◌∷◌, ◌++◌, filter, fold, length, map, refl, sym, ap, ◌∙◌}}, specs.{List.list_any, Prelude.if◌then◌else◌}}
use Rattle.pim_ip.{specs.declared.addr.Prefix.Prefix}
use Rattle.pim_types.{specs.declared.config.{RpCandidate.RpCandidate, RpRange.RpRange}}
use Rattle.pim_model.{specs.Limits.same_prefix}
use Rattle.pim_bootstrap.{specs.{declared.bootstrap.CandidateRp.CandidateRp, Bootstraps.{Bootstrap, BootstrapRange}}}
use Rattle.pim_bsr.{specs.{Choice.{is_beaten_by, is_better, is_chosen, range_value}, Laws.{SameEverywhere, Twice, endless, endless_part, table_after, untimed}, Table.{MessageId, Table, candidate_of, completed, emptied, given_of, has_holdtime, has_prefix, is_configured, is_given, is_part_of, is_tagged, learned_of, masks_after, message_id, part_of, parts_after, range_of, range_prefix, waiting, with_mask, with_message, with_part, with_range, with_ranges, without, without_parts}, declared.learned.{Learned.Learned, Part.Part}}, proofs.Lists.{length-map_of, map_both}}

-- ---- lists that are alike but for something

module _ {X : Type 0} (less : X → X) where
  -- a test that doesn't see what is left out
  passes_less : (test : X → Bool) → ((x : X) → test (less x) ≡ test x) → (xs : List X)
      → map less (filter test xs) ≡ filter test (map less xs)
  passes_less test blind [] = refl
  passes_less test blind (x ∷ xs) = go (test x) refl (passes_less test blind xs)
    where
      go : (b : Bool) → test x ≡ b → map less (filter test xs) ≡ filter test (map less xs)
          → map less (filter test (x ∷ xs)) ≡ filter test (map less (x ∷ xs))
      go true is later = rw (is, blind x ∙ is) (ap (λ (zs : List X). less x ∷ zs) later)
      go false is later = rw (is, blind x ∙ is) later

  some_alike : (test : X → Bool) → ((x : X) → test (less x) ≡ test x) → (xs ys : List X) → map less xs ≡ map less ys
      → map less (filter test xs) ≡ map less (filter test ys)
  some_alike test blind xs ys e = passes_less test blind xs ∙ ap (filter test) e ∙ sym (passes_less test blind ys)

  both_alike : (cs bs xs ys : List X) → map less cs ≡ map less bs → map less xs ≡ map less ys
      → map less (cs ++ xs) ≡ map less (bs ++ ys)
  both_alike cs bs xs ys e f =
      map_both less cs xs ∙ ap (λ (zs : List X). zs ++ map less xs) e ∙ ap (λ (zs : List X). map less bs ++ zs) f ∙ sym (map_both less bs ys)

  as_long : (xs ys : List X) → map less xs ≡ map less ys → length xs ≡ length ys
  as_long xs ys e = sym (length-map_of less xs) ∙ ap length e ∙ length-map_of less ys

-- ---- parts

one_alike : (q r : Part) (xs ys : List Part) → endless_part q ≡ endless_part r → map endless_part xs ≡ map endless_part ys
    → map endless_part (with_part xs q) ≡ map endless_part (with_part ys r)
one_alike q r xs ys same e =
    let address : q.rp.address.bits ≡ r.rp.address.bits = ap (λ (x : Part). x.rp.address.bits) same in
    let others : map endless_part (filter (λ (old : Part). not (old.rp.address.bits == q.rp.address.bits)) xs)
    ≡ map endless_part (filter (λ (old : Part). not (old.rp.address.bits == r.rp.address.bits)) ys) =
    some_alike endless_part (λ (old : Part). not (old.rp.address.bits == q.rp.address.bits)) (λ x. refl) xs ys e
    ∙ ap (λ (n : ℕ). map endless_part (filter (λ (old : Part). not (old.rp.address.bits == n)) ys)) address in
    both_alike endless_part _ _ (q ∷ []) (r ∷ []) others (ap (λ (x : Part). x ∷ []) same)

more_alike : (a b : ℕ) (id : MessageId) (p : Prefix) (cs : List CandidateRp) (xs ys : List Part) → map endless_part xs ≡ map endless_part ys
    → map endless_part (fold with_part xs (map (part_of a id p) cs)) ≡ map endless_part (fold with_part ys (map (part_of b id p) cs))
more_alike a b id p [] xs ys e = e
more_alike a b id p (c ∷ cs) xs ys e =
    more_alike a b id p cs (with_part xs (part_of a id p c)) (with_part ys (part_of b id p c))
    (one_alike (part_of a id p c) (part_of b id p c) xs ys refl e)

parts_alike : (a b : ℕ) (id : MessageId) (xs ys : List Part) (r : BootstrapRange) → map endless_part xs ≡ map endless_part ys
    → map endless_part (parts_after a id xs r) ≡ map endless_part (parts_after b id ys r)
unfolding parts_after
parts_alike a b id xs ys r e =
    more_alike a b id (range_prefix r) r.rps (filter (is_tagged (range_prefix r) id) xs) (filter (is_tagged (range_prefix r) id) ys)
    (some_alike endless_part (is_tagged (range_prefix r) id) (λ x. refl) xs ys e)

-- RPs that come into force at two times
learned_alike : (a b hash : ℕ) (xs ys : List Part) → map endless_part xs ≡ map endless_part ys
    → map endless (map (learned_of a hash) xs) ≡ map endless (map (learned_of b hash) ys)
learned_alike a b hash xs ys e = by_part a hash xs ∙ ap (map (λ (q : Part). endless (learned_of 0 hash q))) e ∙ sym (by_part b hash ys)
  where
    by_part : (n hash : ℕ) (zs : List Part)
        → map endless (map (learned_of n hash) zs) ≡ map (λ (q : Part). endless (learned_of 0 hash q)) (map endless_part zs)
    by_part n hash [] = refl
    by_part n hash (z ∷ zs) = ap (λ (ls : List Learned). endless (learned_of 0 hash z) ∷ ls) (by_part n hash zs)

-- ---- tables

record Alike (t u : Table) : Type 0 where
  rps : map endless t.rps ≡ map endless u.rps
  parts : map endless_part t.parts ≡ map endless_part u.parts

without_alike : (p : Prefix) (t u : Table) → Alike t u → map endless (without p t.rps) ≡ map endless (without p u.rps)
without_alike p t u e = some_alike endless (λ (l : Learned). not (has_prefix p l)) (λ x. refl) t.rps u.rps e.rps

without_parts_alike : (p : Prefix) (t u : Table) → Alike t u → map endless_part (without_parts p t.parts) ≡ map endless_part (without_parts p u.parts)
without_parts_alike p t u e = some_alike endless_part (λ (q : Part). not (is_part_of p q)) (λ x. refl) t.parts u.parts e.parts

module _ (a b : ℕ) (id : MessageId) (hash : ℕ) (t u : Table) (r : BootstrapRange) (e : Alike t u) where
  new : map endless_part (parts_after a id t.parts r) ≡ map endless_part (parts_after b id u.parts r)
  new = parts_alike a b id t.parts u.parts r e.parts

  completed_alike : Alike (completed a hash (range_prefix r) t (parts_after a id t.parts r)) (completed b hash (range_prefix r) u (parts_after b id u.parts r))
  completed_alike = record {
    rps = both_alike endless (without (range_prefix r) t.rps) (without (range_prefix r) u.rps) _ _ (without_alike (range_prefix r) t u e)
        (learned_alike a b hash (filter has_holdtime (parts_after a id t.parts r)) (filter has_holdtime (parts_after b id u.parts r))
        (some_alike endless_part has_holdtime (λ x. refl) (parts_after a id t.parts r) (parts_after b id u.parts r) new));
    parts = without_parts_alike (range_prefix r) t u e;
  }

  waiting_alike : Alike (waiting (range_prefix r) t (parts_after a id t.parts r)) (waiting (range_prefix r) u (parts_after b id u.parts r))
  waiting_alike = record {
    rps = e.rps;
    parts = both_alike endless_part (without_parts (range_prefix r) t.parts) (without_parts (range_prefix r) u.parts) _ _
        (without_parts_alike (range_prefix r) t u e) new;
  }

  emptied_alike : Alike (emptied (range_prefix r) t) (emptied (range_prefix r) u)
  emptied_alike = record { rps = without_alike (range_prefix r) t u e; parts = without_parts_alike (range_prefix r) t u e }

  range_alike : Alike (with_range a id hash t r) (with_range b id hash u r)
  unfolding with_range
  range_alike =
      rw (as_long endless_part (parts_after a id t.parts r) (parts_after b id u.parts r) new)
      (go r.bidir (r.rp_count == 0) (nat_le r.rp_count (length (parts_after b id u.parts r))))
    where
      go : (x y z : Bool) → Alike
          (if x then t else (if y then emptied (range_prefix r) t else (if z then completed a hash (range_prefix r) t (parts_after a id t.parts r) else waiting (range_prefix r) t (parts_after a id t.parts r))))
          (if x then u else (if y then emptied (range_prefix r) u else (if z then completed b hash (range_prefix r) u (parts_after b id u.parts r) else waiting (range_prefix r) u (parts_after b id u.parts r))))
      go true y z = e
      go false true z = emptied_alike
      go false false true = completed_alike
      go false false false = waiting_alike

ranges_alike : (a b : ℕ) (id : MessageId) (hash : ℕ) (ranges : List BootstrapRange) (t u : Table) → Alike t u
    → Alike (with_ranges a id hash t ranges) (with_ranges b id hash u ranges)
unfolding with_ranges
ranges_alike a b id hash [] t u e = e
ranges_alike a b id hash (r ∷ ranges) t u e =
    ranges_alike a b id hash ranges (with_range a id hash t r) (with_range b id hash u r) (range_alike a b id hash t u r e)

masked_alike : (hash : ℕ) (xs ys : List Learned) → map endless xs ≡ map endless ys
    → map endless (map (with_mask hash) xs) ≡ map endless (map (with_mask hash) ys)
masked_alike hash xs ys e = in_turn_of xs ∙ ap (map (with_mask hash)) e ∙ sym (in_turn_of ys)
  where
    in_turn_of : (zs : List Learned) → map endless (map (with_mask hash) zs) ≡ map (with_mask hash) (map endless zs)
    in_turn_of [] = refl
    in_turn_of (z ∷ zs) = ap (λ (ls : List Learned). with_mask hash (endless z) ∷ ls) (in_turn_of zs)

masks_alike : (hash : ℕ) (ranges : List BootstrapRange) (t u : Table) → Alike t u
    → Alike (masks_after hash ranges t) (masks_after hash ranges u)
masks_alike hash [] t u e = e
masks_alike hash (r ∷ ranges) t u e = record { rps = masked_alike hash t.rps u.rps e.rps; parts = e.parts }

message_alike : (a b : ℕ) (m : Bootstrap) (t u : Table) → Alike t u → Alike (with_message a t m) (with_message b u m)
unfolding with_message
message_alike a b m t u e =
    ranges_alike a b (message_id m.bsr m.tag) m.hash_length m.ranges (masks_after m.hash_length m.ranges t)
    (masks_after m.hash_length m.ranges u) (masks_alike m.hash_length m.ranges t u e)

messages_alike : (ms : List Twice) (t u : Table) → Alike t u → Alike (table_after (λ x. x.first) t ms) (table_after (λ x. x.second) u ms)
unfolding table_after
messages_alike [] t u e = e
messages_alike (x ∷ ms) t u e =
    messages_alike ms (with_message x.first t x.message) (with_message x.second u x.message)
    (message_alike x.first x.second x.message t u e)

-- ---- what is given doesn't see ends

beaten_less : (l q : Learned) → is_beaten_by (endless l) (endless q) ≡ is_beaten_by l q
unfolding is_better range_value
beaten_less l q = refl

any_less : (l : Learned) (ls : List Learned) → list_any (is_beaten_by (endless l)) (map endless ls) ≡ list_any (is_beaten_by l) ls
any_less l [] = refl
any_less l (q ∷ ls) =
    ap (λ (b : Bool). b || list_any (is_beaten_by (endless l)) (map endless ls)) (beaten_less l q)
    ∙ ap (λ (b : Bool). is_beaten_by l q || b) (any_less l ls)

given_less : (static : List RpRange) (all : List Learned) (l : Learned) → is_given static (map endless all) (endless l) ≡ is_given static all l
unfolding is_chosen is_configured
given_less static all l =
    ap (λ (b : Bool). not (list_any (λ (r : RpRange). same_prefix l.prefix r.prefix) static) && not b) (any_less l all)

given_of_less : (static : List RpRange) (all ls : List Learned)
    → map range_of (filter (is_given static (map endless all)) (map endless ls)) ≡ map range_of (filter (is_given static all) ls)
given_of_less static all [] = refl
given_of_less static all (l ∷ ls) = go (is_given static all l) refl (given_of_less static all ls)
  where
    go : (b : Bool) → is_given static all l ≡ b
        → map range_of (filter (is_given static (map endless all)) (map endless ls)) ≡ map range_of (filter (is_given static all) ls)
        → map range_of (filter (is_given static (map endless all)) (map endless (l ∷ ls))) ≡ map range_of (filter (is_given static all) (l ∷ ls))
    go true is later = rw (given_less static all l ∙ is, is) (ap (λ (rs : List RpRange). range_of l ∷ rs) later)
    go false is later = rw (given_less static all l ∙ is, is) later

-- candidates have no ends
offered_less : (ls : List Learned) → map candidate_of (map endless ls) ≡ map candidate_of ls
offered_less [] = refl
offered_less (l ∷ ls) = ap (λ (cs : List RpCandidate). candidate_of l ∷ cs) (offered_less ls)

offered_alike : (xs ys : List Learned) → map endless xs ≡ map endless ys → map candidate_of xs ≡ map candidate_of ys
offered_alike xs ys e = sym (offered_less xs) ∙ ap (map candidate_of) e ∙ offered_less ys

given_alike : (static : List RpRange) (xs ys : List Learned) → map endless xs ≡ map endless ys → given_of static xs ≡ given_of static ys
unfolding given_of
given_alike static xs ys e =
    ap (λ (rs : List RpRange). static ++ rs)
    (sym (given_of_less static xs xs) ∙ ap (λ (ls : List Learned). map range_of (filter (is_given static ls) ls)) e ∙ given_of_less static ys ys)

pub same_everywhere : SameEverywhere
unfolding untimed
same_everywhere static t u ms e =
    let start : Alike t u = record { rps = ap (λ (x : Table). x.rps) e; parts = ap (λ (x : Table). x.parts) e } in
    let last : map endless (table_after (λ x. x.first) t ms).rps ≡ map endless (table_after (λ x. x.second) u ms).rps =
    (messages_alike ms t u start).rps in
    (given_alike static _ _ last, offered_alike _ _ last)
