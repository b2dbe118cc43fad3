-- What is listed of one group, or of one source, and then of all.
use Rattle.std.{proofs.{Common.{◌≡◌, ◌==◌, ◌&&◌, ℕ, Bool, true, false, cond, Option, Some, None, option_map, refl, sym, ap, ◌∙◌, arith}, lemmas.Bool.Decides.nat_tests}, specs.{Ordering.{is_eq, nat_cmp, ordering_then}, Prelude.{Err, Ok, OnErr, OnOk, Result}, declared.cmp.Ordering.{Ordering, TheVariants.{Less, Equal, Greater}}}}
use Rattle.pim_ip.{specs.declared.addr.Addr.Addr}
use Rattle.pim_types.{specs.{declared.fact.Key.Key, Keys.{key_cmp, key_of, same_key}}, proofs.Keys.equal_keys}
use Rattle.pim_model.{specs.Tables.{Table, drop_at, put, row_at}}
use Rattle.pim_tables.{proofs.Lookups.{row_at-drop_at, row_at-put}}
use Rattle.pim_source_trie.{specs.Entries.{address_bits, entry_key}}
use Rattle.igmp_membership.{specs.{Listing.{Lists, Side, ListsAt, in_entry, in_side, listed, record_key, told_of, There, Running}, declared.listed.Listed.Listed}}

-- ---- entries

module _ (t : Table Listed) (k : Key) (l : Listed) where
  pub drop_writes : (t' : Table Listed) → t' ≡ drop_at t k → ((x : Side) (i : ℕ) → in_side x l i ≡ false)
      → ListsAt t t' k l
  drop_writes t' is empty x i g s =
      ap (λ (o : Option Listed). in_entry x o i)
      (ap (λ (u : Table Listed). row_at u (key_of 0 g s false)) is ∙ row_at-drop_at k (key_of 0 g s false) t)
      ∙ go (same_key (key_of 0 g s false) k)
    where
      go : (b : Bool) → in_entry x (cond b None (row_at t (key_of 0 g s false))) i
          ≡ cond b (in_side x l i) (listed t x i g s)
      go true = sym (empty x i)
      go false = refl

  put_writes : (t' : Table Listed) → t' ≡ put t k l → ListsAt t t' k l
  put_writes t' is x i g s =
      ap (λ (o : Option Listed). in_entry x o i)
      (ap (λ (u : Table Listed). row_at u (key_of 0 g s false)) is ∙ row_at-put k (key_of 0 g s false) t l)
      ∙ go (same_key (key_of 0 g s false) k)
    where
      go : (b : Bool) → in_entry x (cond b (Some l) (row_at t (key_of 0 g s false))) i
          ≡ cond b (in_side x l i) (listed t x i g s)
      go true = refl
      go false = refl

  pub writes_after : {T E : Type 0} (t' : Table Listed) (r : Result T E) → OnOk r (t' ≡ put t k l)
      → OnOk r (ListsAt t t' k l)
  writes_after t' (Ok x) put = put_writes t' put
  writes_after t' (Err e) put = tt

-- ---- an interface of an entry

both_equal : (a b : Ordering) → is_eq (ordering_then a b) ≡ (is_eq a && is_eq b)
both_equal Less b = refl
both_equal Equal b = refl
both_equal Greater b = refl

numbers_tie : (m n : ℕ) → is_eq (nat_cmp m n) ≡ (m == n)
numbers_tie m n = grind (arith, nat_tests)

-- a record is of an interface, and of a group or a source
place_is : (i g : ℕ) (s : Option ℕ) (n : ℕ) (group : Addr) (source : Option Addr)
    → same_key (key_of i g s false) (record_key n group source)
    ≡ ((i == n) && same_key (key_of 0 g s false) (entry_key group source))
unfolding key_cmp
place_is i g s n group source =
    both_equal (nat_cmp i n) _
    ∙ ap (λ (b : Bool). b && same_key (key_of 0 g s false) (entry_key group source)) (numbers_tie i n)

module _ (t t' : Table Listed) (n : ℕ) (group : Addr) (source : Option Addr) (timer : Option Bool) (old new : Listed)
    (got : (x : Side) (i : ℕ) → in_side x old i ≡ listed t x i group.bits (option_map address_bits source))
    (made : (x : Side) (i : ℕ) → in_side x new i ≡ cond (i == n) (told_of x timer) (in_side x old i)) where
  set_step : (b c told here before : Bool) → (b ≡ true → here ≡ before)
      → cond b (cond c told here) before ≡ cond (c && b) told before
  set_step true true told here before same = refl
  set_step true false told here before same = same refl
  set_step false true told here before same = refl
  set_step false false told here before same = refl

  lists_written : ListsAt t t' (entry_key group source) new → Lists t t' (record_key n group source) timer
  lists_written writes x i g s =
      writes x i g s
      ∙ ap (λ (v : Bool). cond (same_key (key_of 0 g s false) (entry_key group source)) v (listed t x i g s)) (made x i)
      ∙ set_step (same_key (key_of 0 g s false) (entry_key group source)) (i == n) (told_of x timer) (in_side x old i)
      (listed t x i g s)
      (λ same. got x i ∙ ap (λ (k : Key). in_entry x (row_at t k) i) (sym (equal_keys _ _ same)))
      ∙ ap (λ (b : Bool). cond b (told_of x timer) (listed t x i g s)) (sym (place_is i g s n group source))

  pub lists_after : {T E : Type 0} (r : Result T E) → OnOk r (ListsAt t t' (entry_key group source) new)
      → OnOk r (Lists t t' (record_key n group source) timer)
  lists_after (Ok x) writes = lists_written writes
  lists_after (Err e) writes = tt

  -- where there is no entry nothing has to be taken out
  nothing_listed : t' ≡ t → row_at t (entry_key group source) ≡ None → ((x : Side) → told_of x timer ≡ false)
      → Lists t t' (record_key n group source) timer
  nothing_listed kept none out x i g s =
      ap (λ (u : Table Listed). listed u x i g s) kept
      ∙ go (same_key (key_of 0 g s false) (entry_key group source)) refl (i == n)
      ∙ ap (λ (b : Bool). cond b (told_of x timer) (listed t x i g s)) (sym (place_is i g s n group source))
    where
      go : (b : Bool) → same_key (key_of 0 g s false) (entry_key group source) ≡ b → (c : Bool)
          → listed t x i g s ≡ cond (c && b) (told_of x timer) (listed t x i g s)
      go true same true =
          ap (λ (k : Key). in_entry x (row_at t k) i) (equal_keys _ _ same)
          ∙ ap (λ (o : Option Listed). in_entry x o i) none ∙ sym (out x)
      go true same false = refl
      go false other true = refl
      go false other false = refl

  pub unlisted_after : {T E : Type 0} (r : Result T E) → OnOk r (ListsAt t t' (entry_key group source) new)
      → OnErr r (t' ≡ t) → OnErr r (row_at t (entry_key group source) ≡ None) → timer ≡ None
      → Lists t t' (record_key n group source) timer
  unlisted_after (Ok x) writes kept none is = lists_written writes
  unlisted_after (Err e) writes kept none is =
      nothing_listed kept none (λ x. ap (told_of x) is ∙ out x)
    where
      out : (x : Side) → told_of x None ≡ false
      out There = refl
      out Running = refl
