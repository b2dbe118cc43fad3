-- What holds of every RP that is kept, and goes on to hold after a message.
use Rattle.std.{proofs.Common.{◌≡◌, ℕ, Bool, true, false, not, nat_le, ◌==◌, List, [], ◌∷◌, filter, fold, length, map, refl}, specs.{List.list_all, Prelude.if◌then◌else◌}}
use Rattle.pim_ip.{specs.declared.addr.Prefix.Prefix}
use Rattle.pim_bootstrap.{specs.{Bootstraps.BootstrapRange}}
use Rattle.pim_bsr.{specs.{Table.{MessageId, Table, completed, emptied, has_holdtime, has_prefix, is_part_of, is_tagged, learned_of, masks_after, part_of, parts_after, range_prefix, waiting, with_mask, with_part, with_range, with_ranges, without, without_parts}, declared.learned.{Learned.Learned, Part.Part}}, proofs.Lists.{and_both, and_first, and_second, both_pass, some_pass}}

-- each RP in force passes a test, and each part another
pub record Hold (test : Learned → Bool) (other : Part → Bool) (t : Table) : Type 0 where
  pub rps : list_all test t.rps ≡ true
  pub parts : list_all other t.parts ≡ true

-- the parts that a range of a message brings pass the test
abbrev pub brings : (Part → Bool) → ℕ → MessageId → BootstrapRange → Bool
brings other now id r = list_all other (map (part_of now id (range_prefix r)) r.rps)

-- what passes the test of a part passes that of an RP in force, and so does it with the message's hash mask
module _ (test : Learned → Bool) (other : Part → Bool) (now : ℕ) (id : MessageId) (hash : ℕ)
    (comes : (q : Part) → other q ≡ true → test (learned_of now hash q) ≡ true)
    (masked : (l : Learned) → test l ≡ true → test (with_mask hash l) ≡ true) where
  in_force : (parts : List Part) → list_all other parts ≡ true → list_all test (map (learned_of now hash) parts) ≡ true
  in_force [] e = refl
  in_force (q ∷ parts) e =
      and_both (test (learned_of now hash q)) _ (comes q (and_first (other q) _ e)) (in_force parts (and_second (other q) _ e))

  completed_holds : (p : Prefix) (t : Table) (parts : List Part) → Hold test other t → list_all other parts ≡ true
      → Hold test other (completed now hash p t parts)
  completed_holds p t parts h e = record {
    rps = both_pass test (without p t.rps) (map (learned_of now hash) (filter has_holdtime parts))
        (some_pass (λ (l : Learned). not (has_prefix p l)) test t.rps h.rps)
        (in_force (filter has_holdtime parts) (some_pass has_holdtime other parts e));
    parts = some_pass (λ (q : Part). not (is_part_of p q)) other t.parts h.parts;
  }

  waiting_holds : (p : Prefix) (t : Table) (parts : List Part) → Hold test other t → list_all other parts ≡ true
      → Hold test other (waiting p t parts)
  waiting_holds p t parts h e = record {
    rps = h.rps;
    parts = both_pass other (without_parts p t.parts) parts
        (some_pass (λ (q : Part). not (is_part_of p q)) other t.parts h.parts) e;
  }

  emptied_holds : (p : Prefix) (t : Table) → Hold test other t → Hold test other (emptied p t)
  emptied_holds p t h = record {
    rps = some_pass (λ (l : Learned). not (has_prefix p l)) test t.rps h.rps;
    parts = some_pass (λ (q : Part). not (is_part_of p q)) other t.parts h.parts;
  }

  all_put : (more parts : List Part) → list_all other parts ≡ true → list_all other more ≡ true
      → list_all other (fold with_part parts more) ≡ true
  all_put [] parts e f = e
  all_put (q ∷ more) parts e f =
      all_put more (with_part parts q)
      (both_pass other (filter (λ (old : Part). not (old.rp.address.bits == q.rp.address.bits)) parts) (q ∷ [])
      (some_pass (λ (old : Part). not (old.rp.address.bits == q.rp.address.bits)) other parts e)
      (and_both (other q) true (and_first (other q) _ f) refl))
      (and_second (other q) _ f)

  after_holds : (parts : List Part) (r : BootstrapRange) → list_all other parts ≡ true → brings other now id r ≡ true
      → list_all other (parts_after now id parts r) ≡ true
  unfolding parts_after
  after_holds parts r e f =
      all_put (map (part_of now id (range_prefix r)) r.rps) (filter (is_tagged (range_prefix r) id) parts)
      (some_pass (is_tagged (range_prefix r) id) other parts e) f

  range_holds : (t : Table) (r : BootstrapRange) → brings other now id r ≡ true → Hold test other t
      → Hold test other (with_range now id hash t r)
  unfolding with_range
  range_holds t r f h = go r.bidir (r.rp_count == 0) (nat_le r.rp_count (length (parts_after now id t.parts r)))
    where
      new : list_all other (parts_after now id t.parts r) ≡ true
      new = after_holds t.parts r h.parts f

      go : (b c d : Bool) → Hold test other (if b then t else (if c then emptied (range_prefix r) t
          else (if d then completed now hash (range_prefix r) t (parts_after now id t.parts r)
          else waiting (range_prefix r) t (parts_after now id t.parts r))))
      go true c d = h
      go false true d = emptied_holds (range_prefix r) t h
      go false false true = completed_holds (range_prefix r) t (parts_after now id t.parts r) h new
      go false false false = waiting_holds (range_prefix r) t (parts_after now id t.parts r) h new

  pub ranges_hold : (ranges : List BootstrapRange) (t : Table) → list_all (brings other now id) ranges ≡ true
      → Hold test other t → Hold test other (with_ranges now id hash t ranges)
  unfolding with_ranges
  ranges_hold [] t f h = h
  ranges_hold (r ∷ ranges) t f h =
      ranges_hold ranges (with_range now id hash t r) (and_second (brings other now id r) _ f)
      (range_holds t r (and_first (brings other now id r) _ f) h)

  all_masked : (ls : List Learned) → list_all test ls ≡ true → list_all test (map (with_mask hash) ls) ≡ true
  all_masked [] e = refl
  all_masked (l ∷ ls) e =
      and_both (test (with_mask hash l)) _ (masked l (and_first (test l) _ e)) (all_masked ls (and_second (test l) _ e))

  pub masks_hold : (ranges : List BootstrapRange) (t : Table) → Hold test other t → Hold test other (masks_after hash ranges t)
  masks_hold [] t h = h
  masks_hold (r ∷ ranges) t h = record { rps = all_masked t.rps h.rps; parts = h.parts }
