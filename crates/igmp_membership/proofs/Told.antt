-- What is listed, and the rows of which it is told.
use Rattle.std.{proofs.{Common.{◌≡◌, ◌<◌, ◌==◌, ℕ, Bool, true, false, cond, length, not, [], ◌∷◌, Option, Some, None, is_some, nat_lt, option_map, refl, sym, ap, subst, ◌∙◌, arith}, lemmas.Bool.Decides.nat_tests}, specs.{Bool.beq, Cmp.{first_so, second_so}, List.{AllByRecursion, filter, list_all, Sorted.IsStrictlySortedBy}, Option.option_map_or}}
use Rattle.pim_ip.{specs.declared.addr.Addr.Addr}
use Rattle.pim_types.{specs.{declared.fact.Key.Key, Keys.{iface_in, key_cmp, key_of, same_key}}, proofs.Keys.equal_keys}
use Rattle.pim_model.{specs.{Records.is_at_group, Tables.{Table, change_row, drop_at, drop_where, has_row, keys_in, put, row_at}}}
use Rattle.law_settled.{proofs.{ListLaws.{each_filter, each_more, list_of_each}, RowLaws.each_put, TableLaws.row_of_each}}
use Rattle.pim_tables.{proofs.{Lookups.{row_at-drop_at, row_at-put}, Updates.put_updated}}
use Rattle.igmp_membership.{specs.{Listing.{IsListed, Lists, Side, is_listed_anew, is_record_key, listed, timer_at, record_key, told_of, There, Running}, declared.listed.Listed.Listed}}

-- ---- keys

pub limit_below : (n : ℕ) → nat_lt n 120 ≡ true → n < 120
limit_below n e = grind (arith, nat_tests, e)

pub not_rpt : (b : Bool) → not b ≡ true → b ≡ false
not_rpt true e = cc
not_rpt false e = refl

pub source_again : (o : Option Addr) → option_map (λ n. record { bits = n }) (option_map (λ (a : Addr). a.bits) o) ≡ o
source_again None = refl
source_again (Some a) = refl

-- the key of a record, read and written again
pub key_again : (k : Key) → is_record_key k ≡ true → record_key (iface_in k) k.group k.source ≡ k
key_again k fit =
    λ j. record { iface = k.iface; group = k.group; source = source_again k.source j; rpt = sym (not_rpt k.rpt (second_so _ _ fit)) j }

module _ {R : Type 0} where
  abbrev pub Fits : Table R → Type 0
  Fits t = AllByRecursion (λ (e : Key × R). is_record_key e.0 ≡ true) t

  abbrev pub AreOfKind : Bool → Table R → Type 0
  AreOfKind of_sources t = AllByRecursion (λ (e : Key × R). is_some (e.0).source ≡ of_sources) t

  kind_dropped : (of_sources : Bool) (k : Key) (t : Table R) → AreOfKind of_sources t
      → AreOfKind of_sources (drop_at t k)
  unfolding drop_at drop_where
  kind_dropped of_sources k t f =
      each_filter (λ (e : Key × R). is_some (e.0).source ≡ of_sources) (λ e. not (same_key k e.0)) t f

  fits_dropped : (k : Key) (t : Table R) → Fits t → Fits (drop_at t k)
  unfolding drop_at drop_where
  fits_dropped k t f = each_filter (λ (e : Key × R). is_record_key e.0 ≡ true) (λ e. not (same_key k e.0)) t f

  -- the key of a row that is there
  pub fits_there : (k : Key) (t : Table R) → Fits t → has_row t k ≡ true → is_record_key k ≡ true
  unfolding has_row
  fits_there k t f there = go (row_at t k) refl there
    where
      go : (o : Option R) → row_at t k ≡ o → is_some o ≡ true → is_record_key k ≡ true
      go None found e = cc
      go (Some r) found e = row_of_each (λ (e : Key × R). is_record_key e.0 ≡ true) k r t f found

  pub kind_there : (of_sources : Bool) (k : Key) (t : Table R) → AreOfKind of_sources t → has_row t k ≡ true
      → is_some k.source ≡ of_sources
  unfolding has_row
  kind_there of_sources k t f there = go (row_at t k) refl there
    where
      go : (o : Option R) → row_at t k ≡ o → is_some o ≡ true → is_some k.source ≡ of_sources
      go None found e = cc
      go (Some r) found e = row_of_each (λ (e : Key × R). is_some (e.0).source ≡ of_sources) k r t f found

  pub all_below : (t : Table R) → Fits t → list_all (λ e. nat_lt (iface_in e.0) 120) t ≡ true
  all_below t f =
      list_of_each (λ e. nat_lt (iface_in e.0) 120) t
      (each_more (λ (e : Key × R). is_record_key e.0 ≡ true) _ (λ e fit. first_so _ _ fit) t f)

pub tests_alike : (a b : Bool) → beq a b ≡ true → a ≡ b
tests_alike true true e = refl
tests_alike true false e = cc
tests_alike false true e = cc
tests_alike false false e = refl

-- a row that isn't listed anew is listed as the one that is there
pub listed_as_before : {R : Type 0} (runs : R → Bool) (before row : R) → is_listed_anew runs before row ≡ false
    → runs before ≡ runs row
listed_as_before runs before row e = tests_alike (runs before) (runs row) (both (beq (runs before) (runs row)) e)
  where
    both : (b : Bool) → not b ≡ false → b ≡ true
    both true e = refl
    both false e = cc

-- ---- rows and what is listed

lists_again : (k : Key) (first second : Option Bool) (t t1 t2 : Table Listed) → Lists t t1 k first → Lists t1 t2 k second
    → Lists t t2 k second
lists_again k first second t t1 t2 one two x i g s =
    two x i g s
    ∙ ap (λ (v : Bool). cond (same_key (key_of i g s false) k) (told_of x second) v) (one x i g s)
    ∙ go (same_key (key_of i g s false) k)
  where
    go : (b : Bool) → cond b (told_of x second) (cond b (told_of x first) (listed t x i g s))
        ≡ cond b (told_of x second) (listed t x i g s)
    go true = refl
    go false = refl

module _ {R : Type 0} (runs : R → Bool) (of_sources : Bool) (t : Table Listed) (rows : Table R)
    (before : IsListed runs of_sources t rows) (k : Key) where
  told_after : (row : Option R) (t' : Table Listed) (rows' : Table R) → Lists t t' k (option_map runs row)
      → ((q : Key) → row_at rows' q ≡ cond (same_key q k) row (row_at rows q))
      → (x : Side) (i g : ℕ) (s : Option ℕ) → listed t' x i g s ≡ told_of x (timer_at runs rows' (key_of i g s false))
  told_after row t' rows' lists found x i g s =
      lists x i g s
      ∙ ap (λ (v : Bool). cond (same_key (key_of i g s false) k) (told_of x (option_map runs row)) v) (before.told x i g s)
      ∙ go (same_key (key_of i g s false) k)
      ∙ ap (λ (o : Option R). told_of x (option_map runs o)) (sym (found (key_of i g s false)))
    where
      go : (b : Bool) → cond b (told_of x (option_map runs row)) (told_of x (timer_at runs rows (key_of i g s false)))
          ≡ told_of x (option_map runs (cond b row (row_at rows (key_of i g s false))))
      go true = refl
      go false = refl

  pub listed_put : (row : R) (t' : Table Listed) (rows' : Table R) → is_record_key k ≡ true
      → is_some k.source ≡ of_sources → rows' ≡ put rows k row
      → Lists t t' k (Some (runs row)) → IsListed runs of_sources t' rows'
  listed_put row t' rows' fit kind is lists = record {
    kind = subst (AreOfKind of_sources) (sym is)
        (each_put k row (λ (e : Key × R). is_some (e.0).source ≡ of_sources) kind rows before.kind);
    told = told_after (Some row) t' rows' lists (λ q. ap (λ (u : Table R). row_at u q) is ∙ row_at-put k q rows row);
    fit = subst Fits (sym is) (each_put k row (λ (e : Key × R). is_record_key e.0 ≡ true) fit rows before.fit);
  }

  -- a row that is there becomes another
  pub listed_updated : (last row : R) (t' : Table Listed) (rows' : Table R) → row_at rows k ≡ Some last
      → IsStrictlySortedBy key_cmp (keys_in rows) → rows' ≡ change_row (λ _. Some row) k rows
      → Lists t t' k (Some (runs row)) → IsListed runs of_sources t' rows'
  unfolding has_row
  listed_updated last row t' rows' found sorted is lists =
      listed_put row t' rows' (fits_there k rows before.fit (ap is_some found))
      (kind_there of_sources k rows before.kind (ap is_some found))
      (is ∙ sym (put_updated k (λ _. row) rows last row found refl sorted)) lists

  pub listed_dropped : (t' : Table Listed) (rows' : Table R) → rows' ≡ drop_at rows k → Lists t t' k None
      → IsListed runs of_sources t' rows'
  listed_dropped t' rows' is lists = record {
    kind = subst (AreOfKind of_sources) (sym is) (kind_dropped of_sources k rows before.kind);
    told = told_after None t' rows' lists (λ q. ap (λ (u : Table R). row_at u q) is ∙ row_at-drop_at k q rows);
    fit = subst Fits (sym is) (fits_dropped k rows before.fit);
  }

  -- a row whose timer runs, or doesn't, as that of the one that is there
  pub nothing_new : (row : R) (o : Option R) → row_at rows k ≡ o → option_map runs o ≡ Some (runs row)
      → Lists t t k (Some (runs row))
  nothing_new row o found alike x i g s = go (same_key (key_of i g s false) k) refl
    where
      go : (b : Bool) → same_key (key_of i g s false) k ≡ b
          → listed t x i g s ≡ cond b (told_of x (Some (runs row))) (listed t x i g s)
      go true same =
          before.told x i g s
          ∙ ap (λ (q : Key). told_of x (timer_at runs rows q)) (equal_keys (key_of i g s false) k same)
          ∙ ap (told_of x) (ap (option_map runs) found ∙ alike)
      go false other = refl

  -- a row that was refused, and is taken out again
  pub listed_refused : (timer : Option Bool) (t1 t2 : Table Listed) (rows' : Table R) → rows' ≡ drop_at rows k
      → Lists t t1 k timer → Lists t1 t2 k None → IsListed runs of_sources t2 rows'
  listed_refused timer t1 t2 rows' is one two =
      listed_dropped t2 rows' is (lists_again k timer None t t1 t2 one two)

pub none_listed : {R : Type 0} (runs : R → Bool) (of_sources : Bool) (t : Table Listed) (rows : Table R) → t ≡ []
    → rows ≡ [] → IsListed runs of_sources t rows
unfolding row_at
none_listed runs of_sources t rows empty none = record {
  kind = subst (AreOfKind of_sources) (sym none) tt;
  told = λ x i g s. ap (λ (u : Table Listed). listed u x i g s) empty ∙ go x
      ∙ ap (λ (u : Table _). told_of x (timer_at runs u (key_of i g s false))) (sym none);
  fit = subst Fits (sym none) tt;
}
  where
    go : (x : Side) → false ≡ told_of x None
    go There = refl
    go Running = refl

-- ---- the sets of a group, or of a source

pub there_told : {R : Type 0} (runs : R → Bool) (o : Option R) → told_of There (option_map runs o) ≡ is_some o
there_told runs None = refl
there_told runs (Some r) = refl

pub running_told : {R : Type 0} (runs : R → Bool) (o : Option R) → told_of Running (option_map runs o) ≡ option_map_or runs o false
running_told runs None = refl
running_told runs (Some r) = refl

-- the first of some rows is under a key of its kind
pub fits_first : {R : Type 0} (test : Key × R → Bool) (t : Table R) (e : Key × R) (later : Table R) → Fits t
    → filter test t ≡ e ∷ later → is_record_key e.0 ≡ true
fits_first {R} test t e later f first =
    let all : Fits (e ∷ later) =
    subst Fits first (each_filter (λ (e : Key × R). is_record_key e.0 ≡ true) test t f) in all.0

-- the rows of a group on an interface are of an interface below the limit
module _ {R : Type 0} (i g : ℕ) where
  near_step : (e : Key × R) (t : Table R) (b : Bool) → is_at_group i g e.0 ≡ b → is_record_key e.0 ≡ true
      → (0 < length (filter (λ x. is_at_group i g x.0) t) → i < 120)
      → 0 < length (cond b (e ∷ filter (λ x. is_at_group i g x.0) t) (filter (λ x. is_at_group i g x.0) t)) → i < 120
  near_step e t true here fit later some =
      let same : (iface_in e.0 == i) ≡ true = first_so _ _ here in
      let below : iface_in e.0 < 120 = limit_below (iface_in e.0) (first_so _ _ fit) in
      grind (arith, nat_tests)
  near_step e t false here fit later some = later some

  pub near_rows : (t : Table R) → Fits t → 0 < length (filter (λ e. is_at_group i g e.0) t) → i < 120
  near_rows [] fits some = absurd (omega arith)
  near_rows (e ∷ t) fits some = near_step e t (is_at_group i g e.0) refl fits.0 (near_rows t fits.1) some
