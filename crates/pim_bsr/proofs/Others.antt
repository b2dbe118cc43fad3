-- The ranges that a message doesn't name.
use Rattle.std.{proofs.{Common.{◌≡◌, ℕ, Bool, true, false, nat_le, ◌==◌, List, [], ◌∷◌, ◌++◌, filter, length, map, Option, Some, None, refl, sym, ap, ◌∙◌, arith, append-nil}, lemmas.Bool.Decides.nat_tests}, specs.{List.{list_all, list_any}, Prelude.if◌then◌else◌}}
use Rattle.pim_ip.{specs.declared.addr.Prefix.Prefix}
use Rattle.pim_model.{specs.Limits.same_prefix}
use Rattle.pim_bootstrap.{specs.Bootstraps.{Bootstrap, BootstrapRange}}
use Rattle.pim_bsr.{specs.{Hearing.{Around, after_message, heard, heard_if, why_not}, Laws.{OtherRangesStay, have_mask, is_named, unmasked}, Table.{Known, MessageId, Table, completed, emptied, has_holdtime, has_prefix, is_part_of, learned_of, masks_after, message_id, parts_after, range_prefix, waiting, with_mask, with_message, with_range, with_ranges, without}, declared.{heard.Why.Why, learned.{Learned.Learned, Part.Part}}}, proofs.{Lists.{and_first, and_second, filter_both, or_first, or_second, some_pass}, Sounder.{after_there, apart_prefix}}}

-- without the RPs of one range those of another are the same
without_other : (p q : Prefix) (rps : List Learned) → same_prefix p q ≡ false
    → filter (has_prefix p) (without q rps) ≡ filter (has_prefix p) rps
without_other p q [] differ = refl
without_other p q (l ∷ rps) differ =
    go (has_prefix q l) (has_prefix p l) (apart_prefix p q l.prefix differ) refl refl (without_other p q rps differ)
  where
    go : (b c : Bool) → (has_prefix p l ≡ true → has_prefix q l ≡ false) → has_prefix q l ≡ b → has_prefix p l ≡ c
        → filter (has_prefix p) (without q rps) ≡ filter (has_prefix p) rps
        → filter (has_prefix p) (without q (l ∷ rps)) ≡ filter (has_prefix p) (l ∷ rps)
    go true true one qs ps later = let no = one ps in absurd (cc)
    go true false one qs ps later = rw (qs, ps) later
    go false true one qs ps later = rw (qs, ps) (ap (λ (rs : List Learned). l ∷ rs) later)
    go false false one qs ps later = rw (qs, ps) later

turned_apart : (p q t : Prefix) → same_prefix p q ≡ false → same_prefix q t ≡ true → same_prefix p t ≡ false
turned_apart p q t differ is = grind (arith, nat_tests)

-- the RPs of one range are none of another
none_other : (now hash : ℕ) (p q : Prefix) (parts : List Part) → same_prefix p q ≡ false → list_all (is_part_of q) parts ≡ true
    → filter (has_prefix p) (map (learned_of now hash) parts) ≡ []
none_other now hash p q [] differ there = refl
none_other now hash p q (x ∷ parts) differ there =
    let other : same_prefix p x.prefix ≡ false = turned_apart p q x.prefix differ (and_first (is_part_of q x) _ there) in
    rw other (none_other now hash p q parts differ (and_second (is_part_of q x) _ there))

one_range : (now : ℕ) (id : MessageId) (hash : ℕ) (p : Prefix) (t : Table) (r : BootstrapRange) → is_named p r ≡ false
    → filter (has_prefix p) (with_range now id hash t r).rps ≡ filter (has_prefix p) t.rps
unfolding with_range
one_range now id hash p t r other = go r.bidir (r.rp_count == 0) (nat_le r.rp_count (length (parts_after now id t.parts r)))
  where
    all : filter (has_prefix p) (without (range_prefix r) t.rps ++ map (learned_of now hash) (filter has_holdtime (parts_after now id t.parts r))) ≡ filter (has_prefix p) t.rps
    all =
        filter_both (has_prefix p) (without (range_prefix r) t.rps) (map (learned_of now hash) (filter has_holdtime (parts_after now id t.parts r)))
        ∙ ap (λ (rs : List Learned). filter (has_prefix p) (without (range_prefix r) t.rps) ++ rs)
        (none_other now hash p (range_prefix r) (filter has_holdtime (parts_after now id t.parts r)) other
        (some_pass has_holdtime (is_part_of (range_prefix r)) (parts_after now id t.parts r) (after_there now id t.parts r)))
        ∙ append-nil (filter (has_prefix p) (without (range_prefix r) t.rps))
        ∙ without_other p (range_prefix r) t.rps other

    go : (b c d : Bool) → filter (has_prefix p) (if b then t else (if c then emptied (range_prefix r) t
        else (if d then completed now hash (range_prefix r) t (parts_after now id t.parts r)
        else waiting (range_prefix r) t (parts_after now id t.parts r)))).rps ≡ filter (has_prefix p) t.rps
    go true c d = refl
    go false true d = without_other p (range_prefix r) t.rps other
    go false false true = all
    go false false false = refl

all_ranges : (now : ℕ) (id : MessageId) (hash : ℕ) (p : Prefix) (ranges : List BootstrapRange) (t : Table) → list_any (is_named p) ranges ≡ false
    → filter (has_prefix p) (with_ranges now id hash t ranges).rps ≡ filter (has_prefix p) t.rps
unfolding with_ranges
all_ranges now id hash p [] t others = refl
all_ranges now id hash p (r ∷ ranges) t others =
    all_ranges now id hash p ranges (with_range now id hash t r) (or_second (is_named p r) _ others)
    ∙ one_range now id hash p t r (or_first (is_named p r) _ others)

-- ---- the hash mask

masked_alike : (hash : ℕ) (p : Prefix) (ls : List Learned)
    → filter (has_prefix p) (map (with_mask hash) ls) ≡ map (with_mask hash) (filter (has_prefix p) ls)
masked_alike hash p [] = refl
masked_alike hash p (l ∷ ls) = go (has_prefix p l) refl (masked_alike hash p ls)
  where
    go : (b : Bool) → has_prefix p l ≡ b
        → filter (has_prefix p) (map (with_mask hash) ls) ≡ map (with_mask hash) (filter (has_prefix p) ls)
        → filter (has_prefix p) (map (with_mask hash) (l ∷ ls)) ≡ map (with_mask hash) (filter (has_prefix p) (l ∷ ls))
    go true is later = rw is (ap (λ (rs : List Learned). with_mask hash l ∷ rs) later)
    go false is later = rw is later

unmasked_again : (hash : ℕ) (ls : List Learned) → unmasked (map (with_mask hash) ls) ≡ unmasked ls
unmasked_again hash [] = refl
unmasked_again hash (l ∷ ls) = ap (λ (rs : List Learned). with_mask 0 l ∷ rs) (unmasked_again hash ls)

mask_same : (hash : ℕ) (ls : List Learned) → list_all (λ (l : Learned). l.hash_length == hash) ls ≡ true → map (with_mask hash) ls ≡ ls
mask_same hash [] e = refl
mask_same hash (l ∷ ls) e =
    let is : l.hash_length ≡ hash = grind (arith, nat_tests, and_first (l.hash_length == hash) _ e) in
    ap (λ (n : ℕ). with_mask n l ∷ map (with_mask hash) ls) (sym is)
    ∙ ap (λ (rs : List Learned). l ∷ rs) (mask_same hash ls (and_second (l.hash_length == hash) _ e))

masks_alike : (hash : ℕ) (p : Prefix) (ranges : List BootstrapRange) (t : Table)
    → unmasked (filter (has_prefix p) (masks_after hash ranges t).rps) ≡ unmasked (filter (has_prefix p) t.rps)
masks_alike hash p [] t = refl
masks_alike hash p (r ∷ ranges) t = ap unmasked (masked_alike hash p t.rps) ∙ unmasked_again hash (filter (has_prefix p) t.rps)

masks_same : (hash : ℕ) (p : Prefix) (ranges : List BootstrapRange) (t : Table) → have_mask p hash t.rps ≡ true
    → filter (has_prefix p) (masks_after hash ranges t).rps ≡ filter (has_prefix p) t.rps
masks_same hash p [] t e = refl
masks_same hash p (r ∷ ranges) t e = masked_alike hash p t.rps ∙ mask_same hash (filter (has_prefix p) t.rps) e

message_ranges : (now : ℕ) (m : Bootstrap) (p : Prefix) (t : Table) → list_any (is_named p) m.ranges ≡ false
    → filter (has_prefix p) (with_message now t m).rps ≡ filter (has_prefix p) (masks_after m.hash_length m.ranges t).rps
unfolding with_message
message_ranges now m p t others =
    all_ranges now (message_id m.bsr m.tag) m.hash_length p m.ranges (masks_after m.hash_length m.ranges t) others

pub other_ranges_stay : OtherRangesStay
unfolding heard after_message
other_ranges_stay s k i src b m p others = go (why_not s k i src m)
  where
    go : (w : Option Why) → unmasked (filter (has_prefix p) (heard_if s k i b m w).known.table.rps) ≡ unmasked (filter (has_prefix p) k.table.rps)
    go None = ap unmasked (message_ranges s.present m p k.table others) ∙ masks_alike m.hash_length p m.ranges k.table
    go (Some w) = refl

-- those of the message's hash mask are left as they are
pub same_ranges_stay : (s : Around) (k : Known) (i src : ℕ) (b : List ℕ) (m : Bootstrap) (p : Prefix) → list_any (is_named p) m.ranges ≡ false
    → have_mask p m.hash_length k.table.rps ≡ true
    → filter (has_prefix p) (heard s k i src b m).known.table.rps ≡ filter (has_prefix p) k.table.rps
unfolding heard after_message
same_ranges_stay s k i src b m p others same = go (why_not s k i src m)
  where
    go : (w : Option Why) → filter (has_prefix p) (heard_if s k i b m w).known.table.rps ≡ filter (has_prefix p) k.table.rps
    go None = message_ranges s.present m p k.table others ∙ masks_same m.hash_length p m.ranges k.table same
    go (Some w) = refl
