-- Which sendings may be of a source without a record, as records and sendings come and go, and how these go.
use Rattle.std.{proofs.{Common.{◌≡◌, ◌<◌, ◌+◌, ℕ, add-one, drop, drop-cons, get_or, length, Bool, true, false, cond, not, ◌&&◌, ◌||◌, List, [], ◌∷◌, Option, Some, None, is_some, map, refl, sym, ap, subst, ◌∙◌}, lemmas.Bool.{or_left, or_right}}, specs.{List.{AllByRecursion, filter, list_any}, Prelude.fold}}
use Rattle.pim_types.{specs.{declared.fact.{Key.Key, SendingRow.SendingRow, SourceRecordRow.SourceRecordRow}, Keys.same_key}, proofs.Keys.{equal_keys, same_key_same}}
use Rattle.pim_model.{specs.{Records.is_at_group, Tables.{Table, change_row, drop_at, drop_where, has_row, put, set_row}}}
use Rattle.law_settled.{proofs.{ListLaws.{any_among_all, each_map, each_more, each_of_all, each_passes, each_passing}, RowLaws.{each_put, has_row_dropped, has_row_put, has_row_replaced}}}
use Rattle.igmp_membership.{proofs.Kept.{kept_changed, kept_without}, specs.{StaleQueries.{HaveRecords, is_unrecorded, may_lack}, declared.stale_queries.StaleQueries.StaleQueries}}

-- all that may lack a record by the first, or passes a test, may lack one by the second
abbrev pub Covers : StaleQueries → StaleQueries → (Key → Bool) → Type 0
Covers u v test = (k : Key) → (may_lack u k || test k) ≡ true → may_lack v k ≡ true

-- a key that may lack a record by u, or has one
abbrev HasOne : StaleQueries → Table SourceRecordRow → Key → Type 0
HasOne u records k = (may_lack u k || has_row records k) ≡ true

-- the one key is of the group, so none that isn't may lack a record
pub only_here : (i g : ℕ) (q : Key) (u : StaleQueries) → u ≡ StaleQueries.OfSource q → is_at_group i g q ≡ true → (k : Key)
    → (may_lack u k && not (is_at_group i g k)) ≡ true → false ≡ true
only_here i g q u is here k e =
    go (same_key q k) refl (ap (λ (v : StaleQueries). may_lack v k && not (is_at_group i g k)) (sym is) ∙ e)
  where
    go : (b : Bool) → same_key q k ≡ b → (b && not (is_at_group i g k)) ≡ true → false ≡ true
    go true same f =
        ap not (sym (ap (is_at_group i g) (sym (equal_keys q k same)) ∙ here)) ∙ f
    go false same f = f

-- ---- records

gone_by : (a b h c : Bool) → (a || h) ≡ true → ((a || b) ≡ true → c ≡ true) → (c || (not b && h)) ≡ true
gone_by a true h c has covers = rw (covers (or_right a true refl)) refl
gone_by true false h c has covers = rw (covers refl) refl
gone_by false false h c has covers = or_right c h has

there_by : (a b h c : Bool) → (a || h) ≡ true → ((a || b) ≡ true → c ≡ true) → (g : Bool) → (h ≡ true → g ≡ true) → (c || g) ≡ true
there_by true b h c has covers g more = rw (covers refl) refl
there_by false b h c has covers g more = or_right c g (more has)

module _ (u v : StaleQueries) (records : Table SourceRecordRow) (t : Table SendingRow) (all : HaveRecords u records t) where
  -- records go, by a test of their keys
  pub records_gone : (test : Key → Bool) → Covers u v test → HaveRecords v (drop_where test records) t
  records_gone test covers =
      each_more (λ (e : Key × SendingRow). HasOne u records e.0) (λ e. HasOne v (drop_where test records) e.0)
      (λ e has. ap (λ b. may_lack v e.0 || b) (has_row_dropped e.0 test records)
      ∙ gone_by (may_lack u e.0) (test e.0) (has_row records e.0) (may_lack v e.0) has (covers e.0)) t all

  -- none goes
  records_more : (test : Key → Bool) → Covers u v test → (more : Table SourceRecordRow)
      → ((k : Key) → has_row records k ≡ true → has_row more k ≡ true) → HaveRecords v more t
  records_more test covers more there =
      each_more (λ (e : Key × SendingRow). HasOne u records e.0) (λ e. HasOne v more e.0)
      (λ e has. there_by (may_lack u e.0) (test e.0) (has_row records e.0) (may_lack v e.0) has (covers e.0)
      (has_row more e.0) (there e.0)) t all

  pub records_stay : (test : Key → Bool) → Covers u v test → HaveRecords v records t
  records_stay test covers = records_more test covers records (λ k there. there)

  pub record_put : (test : Key → Bool) → Covers u v test → (q : Key) (row : SourceRecordRow)
      → HaveRecords v (put records q row) t
  record_put test covers q row =
      records_more test covers (put records q row)
      (λ k there. has_row_put k q row records ∙ or_right (same_key k q) (has_row records k) there)

pub record_changed : (u : StaleQueries) (records : Table SourceRecordRow) (t : Table SendingRow) (q : Key) (row : SourceRecordRow)
    → HaveRecords u records t → HaveRecords u (change_row (λ _. Some row) q records) t
record_changed u records t q row all =
    each_more (λ (e : Key × SendingRow). HasOne u records e.0) (λ e. HasOne u (change_row (λ _. Some row) q records) e.0)
    (λ e has. ap (λ b. may_lack u e.0 || b) (has_row_replaced e.0 row q records) ∙ has) t all

-- a record is put, or goes
module _ (u v : StaleQueries) (records : Table SourceRecordRow) (t : Table SendingRow) (all : HaveRecords u records t)
    (p q : Key) (same : p ≡ q) where
  pub record_removed : Covers u v (same_key p) → HaveRecords v (drop_at records q) t
  unfolding drop_at
  record_removed covers =
      records_gone u v records t all (same_key q) (subst (λ k. Covers u v (same_key k)) same covers)

  lacking : (b : Bool) → false ≡ not b → b ≡ true
  lacking true e = refl
  lacking false e = cc e

  pub record_set : (row : Option SourceRecordRow) (is_lacking : Bool) → is_some row ≡ not is_lacking
      → Covers u v (λ k. is_lacking && same_key p k) → HaveRecords v (set_row records q row) t
  unfolding set_row
  record_set None is_lacking is covers =
      record_removed (subst (λ b. Covers u v (λ k. b && same_key p k)) (lacking is_lacking is) covers)
  record_set (Some row) is_lacking is covers =
      record_put u v records t all (λ k. is_lacking && same_key p k) covers q row

-- ---- sendings

module _ (u : StaleQueries) (records : Table SourceRecordRow) (t t' : Table SendingRow) (all : HaveRecords u records t) where
  pub sendings_left : (test : Key → Bool) → t' ≡ drop_where test t → HaveRecords u records t'
  sendings_left test is = kept_without (HasOne u records) test t t' all is

  pub sending_changed : (q : Key) (row : Option SendingRow) → t' ≡ change_row (λ _. row) q t → HaveRecords u records t'
  sending_changed q row is = kept_changed (HasOne u records) q t t' all (λ _. row) is

  sending_set : (q : Key) (row : Option SendingRow) → (is_some row ≡ true → HasOne u records q) → t' ≡ set_row t q row
      → HaveRecords u records t'
  unfolding set_row drop_at
  sending_set q None has is = sendings_left (same_key q) is
  sending_set q (Some r) has is =
      subst (HaveRecords u records) (sym is)
      (each_put q r (λ (e : Key × SendingRow). HasOne u records e.0) (has refl) t all)

-- a sending is put, or goes
came_by : (a h l s v : Bool) → l ≡ not h → s ≡ true → ((a || (l && s)) ≡ true → v ≡ true) → (v || h) ≡ true
came_by a true l s v is same covers = or_right v true refl
came_by a false l s v is same covers =
    or_left v false (covers (or_right a _ (ap (λ b. b && s) is ∙ same)))

pub came : (u v : StaleQueries) (records : Table SourceRecordRow) (t t' : Table SendingRow) (all : HaveRecords u records t)
    → (p q : Key) → p ≡ q → (row : Option SendingRow) (is_lacking : Bool)
    → is_lacking ≡ (is_some row && not (has_row records p)) → Covers u v (λ k. is_lacking && same_key p k)
    → t' ≡ set_row t q row → HaveRecords v records t'
came u v records t t' all p q same row is_lacking is covers set =
    sending_set v records t t' (records_stay u v records t all (λ k. is_lacking && same_key p k) covers) q row
    (λ some. subst (HasOne v records) same
    (came_by (may_lack u p) (has_row records p) is_lacking (same_key p p) (may_lack v p)
    (is ∙ ap (λ b. b && not (has_row records p)) some) (same_key_same p) (covers p))) set

-- the sendings of a group that were unrecorded are gone
went_by : (a h c d : Bool) → (a || h) ≡ true → not (c && not h) ≡ true → ((a && not c) ≡ true → d ≡ true) → (d || h) ≡ true
went_by a true c d has left covers = or_right d true refl
went_by true false false d has left covers = or_left d false (covers refl)
went_by true false true d has left covers = cc left
went_by false false c d has left covers = cc has

pub group_went : (i g : ℕ) (u v : StaleQueries) (records : Table SourceRecordRow) (t t' : Table SendingRow)
    → ((k : Key) → (may_lack u k && not (is_at_group i g k)) ≡ true → may_lack v k ≡ true) → HaveRecords u records t
    → t' ≡ drop_where (is_unrecorded i g records) t → HaveRecords v records t'
unfolding drop_where
group_went i g u v records t t' covers all is =
    subst (HaveRecords v records) (sym is)
    (each_more (λ (e : Key × SendingRow). HasOne u records e.0 × (not (is_unrecorded i g records e.0) ≡ true))
    (λ e. HasOne v records e.0)
    (λ e f. went_by (may_lack u e.0) (has_row records e.0) (is_at_group i g e.0) (may_lack v e.0) f.0 f.1 (covers e.0))
    (drop_where (is_unrecorded i g records) t)
    (each_passing (λ (e : Key × SendingRow). HasOne u records e.0) (λ e. not (is_unrecorded i g records e.0)) t all))

-- both go by one test
pub both_dropped : (test : Key → Bool) (u : StaleQueries) (records : Table SourceRecordRow) (t : Table SendingRow)
    → HaveRecords u records t → HaveRecords u (drop_where test records) (drop_where test t)
unfolding drop_where
both_dropped test u records t all =
    each_more (λ (e : Key × SendingRow). HasOne u records e.0 × (not (test e.0) ≡ true))
    (λ e. HasOne u (drop_where test records) e.0)
    (λ e f. ap (λ b. may_lack u e.0 || b) (has_row_dropped e.0 test records)
    ∙ ap (λ b. may_lack u e.0 || (b && has_row records e.0)) f.1 ∙ f.0) (drop_where test t)
    (each_passing (λ (e : Key × SendingRow). HasOne u records e.0) (λ e. not (test e.0)) t all)

-- ---- those of a group that are unrecorded go

module _ {X : Type 0} (p q : X → Bool) where
  same_filter : (xs : List X) → AllByRecursion (λ x. p x ≡ q x) xs → filter p xs ≡ filter q xs
  same_filter [] e = refl
  same_filter (x ∷ xs) e = λ j. cond (e.0 j) (x ∷ same_filter xs e.1 j) (same_filter xs e.1 j)

all_left : (t : Table SendingRow) → drop_where (λ k. false) t ≡ t
unfolding drop_where
all_left [] = refl
all_left (e ∷ t) = ap (λ (u : Table SendingRow). e ∷ u) (all_left t)

module _ (p q : Key → Bool) where
  same_dropped : (t : Table SendingRow) → AllByRecursion (λ (e : Key × SendingRow). p e.0 ≡ q e.0) t → drop_where p t ≡ drop_where q t
  unfolding drop_where
  same_dropped t same =
      same_filter (λ (e : Key × SendingRow). not (p e.0)) (λ e. not (q e.0)) t
      (each_more (λ (e : Key × SendingRow). p e.0 ≡ q e.0) (λ e. not (p e.0) ≡ not (q e.0)) (λ e f. ap not f) t same)

-- none is unrecorded, where each has a record
left_by : (h g : Bool) → h ≡ true → false ≡ (g && not h)
left_by true true e = refl
left_by true false e = refl
left_by false g e = cc

at_by : (s h g : Bool) → (s || h) ≡ true → (s ≡ true → g ≡ true) → (s && not h) ≡ (g && not h)
at_by true h g e same = rw (same refl) refl
at_by false true true e same = refl
at_by false true false e same = refl
at_by false false g e same = cc

away_by : (s h g : Bool) → (s || h) ≡ true → (s ≡ true → g ≡ false) → false ≡ (g && not h)
away_by true h g e same = rw (same refl) refl
away_by false true true e same = refl
away_by false true false e same = refl
away_by false false g e same = cc

module _ (i g : ℕ) (records : Table SourceRecordRow) (t : Table SendingRow) where
  pub none_goes : HaveRecords StaleQueries.Empty records t → t ≡ drop_where (is_unrecorded i g records) t
  none_goes all =
      sym (all_left t)
      ∙ same_dropped (λ k. false) (is_unrecorded i g records) t
      (each_more (λ (e : Key × SendingRow). HasOne StaleQueries.Empty records e.0) (λ e. false ≡ is_unrecorded i g records e.0)
      (λ e has. left_by (has_row records e.0) (is_at_group i g e.0) has) t all)

  module _ (q : Key) (all : HaveRecords (StaleQueries.OfSource q) records t) where
    pub one_goes : (t' : Table SendingRow) → is_at_group i g q ≡ true
        → t' ≡ drop_where (λ k. same_key q k && not (has_row records k)) t → t' ≡ drop_where (is_unrecorded i g records) t
    one_goes t' here is =
        is
        ∙ same_dropped (λ k. same_key q k && not (has_row records k)) (is_unrecorded i g records) t
        (each_more (λ (e : Key × SendingRow). HasOne (StaleQueries.OfSource q) records e.0)
        (λ e. (same_key q e.0 && not (has_row records e.0)) ≡ is_unrecorded i g records e.0)
        (λ e has. at_by (same_key q e.0) (has_row records e.0) (is_at_group i g e.0) has
        (λ same. ap (is_at_group i g) (sym (equal_keys q e.0 same)) ∙ here)) t all)

    pub none_there : is_at_group i g q ≡ false → t ≡ drop_where (is_unrecorded i g records) t
    none_there away =
        sym (all_left t)
        ∙ same_dropped (λ k. false) (is_unrecorded i g records) t
        (each_more (λ (e : Key × SendingRow). HasOne (StaleQueries.OfSource q) records e.0)
        (λ e. false ≡ is_unrecorded i g records e.0)
        (λ e has. away_by (same_key q e.0) (has_row records e.0) (is_at_group i g e.0) has
        (λ same. ap (is_at_group i g) (sym (equal_keys q e.0 same)) ∙ away)) t all)

-- the one under a key goes where it has no record
gone_here : (s h : Bool) → h ≡ false → s ≡ (s && not h)
gone_here true true e = cc
gone_here true false e = refl
gone_here false h e = refl

kept_here : (s h : Bool) → (s ≡ true → h ≡ true) → false ≡ (s && not h)
kept_here true h e = rw (e refl) refl
kept_here false h e = refl

module _ (records : Table SourceRecordRow) (q : Key) (t : Table SendingRow) where
  pub goes_alone : (t' : Table SendingRow) → has_row records q ≡ false → t' ≡ drop_at t q
      → t' ≡ drop_where (λ k. same_key q k && not (has_row records k)) t
  unfolding drop_at
  goes_alone t' none is =
      is
      ∙ same_dropped (same_key q) (λ k. same_key q k && not (has_row records k)) t
      (each_of_all (λ (e : Key × SendingRow). same_key q e.0 ≡ (same_key q e.0 && not (has_row records e.0)))
      (λ e. go e.0 (same_key q e.0) refl) t)
    where
      go : (k : Key) (b : Bool) → same_key q k ≡ b → same_key q k ≡ (same_key q k && not (has_row records k))
      go k true e =
          gone_here (same_key q k) (has_row records k) (ap (has_row records) (sym (equal_keys q k e)) ∙ none)
      go k false e = rw e refl

  pub stays_alone : has_row records q ≡ true → t ≡ drop_where (λ k. same_key q k && not (has_row records k)) t
  stays_alone there =
      sym (all_left t)
      ∙ same_dropped (λ k. false) (λ k. same_key q k && not (has_row records k)) t
      (each_of_all (λ (e : Key × SendingRow). false ≡ (same_key q e.0 && not (has_row records e.0)))
      (λ e. kept_here (same_key q e.0) (has_row records e.0)
      (λ same. ap (has_row records) (sym (equal_keys q e.0 same)) ∙ there)) t)

-- ---- one after the other

-- dropped by one test and then by another
module _ (p q : Key → Bool) where
  twice_step : (e : Key × SendingRow) (a b : Bool) (t : Table SendingRow) → p e.0 ≡ a → q e.0 ≡ b
      → drop_where q (drop_where p t) ≡ drop_where (λ k. p k || q k) t
      → drop_where q (cond (not a) (e ∷ drop_where p t) (drop_where p t))
      ≡ cond (not (a || b)) (e ∷ drop_where (λ k. p k || q k) t) (drop_where (λ k. p k || q k) t)
  unfolding drop_where
  twice_step e true b t f g ih = ih
  twice_step e false true t f g ih = rw g ih
  twice_step e false false t f g ih = rw g (ap (λ (u : Table SendingRow). e ∷ u) ih)

  dropped_twice : (t : Table SendingRow) → drop_where q (drop_where p t) ≡ drop_where (λ k. p k || q k) t
  unfolding drop_where
  dropped_twice [] = refl
  dropped_twice (e ∷ t) = twice_step e (p e.0) (q e.0) t refl refl (dropped_twice t)

-- one more goes
pub one_more_goes : (ks : List Key) (n : ℕ) (k d : Key) (t after whole : Table SendingRow) → n < length ks → k ≡ get_or ks n d
    → after ≡ drop_at t k → fold drop_at t (drop n ks) ≡ whole → fold drop_at after (drop (n + 1) ks) ≡ whole
one_more_goes ks n k d t after whole inside is gone so_far =
    let split : drop n ks ≡ k ∷ drop (n + 1) ks =
    drop-cons ks n d inside ∙ ap (λ (m : ℕ). get_or ks n d ∷ drop m ks) (sym (add-one n))
    ∙ ap (λ (x : Key). x ∷ drop (n + 1) ks) (sym is) in
    ap (λ (u : Table SendingRow). fold drop_at u (drop (n + 1) ks)) gone
    ∙ ap (λ (xs : List Key). fold drop_at t xs) (sym split) ∙ so_far

-- they go by whether their key is among them
abbrev among : List Key → Key → Bool
among ks k = list_any (λ q. same_key q k) ks

each_goes : (ks : List Key) (t : Table SendingRow) → fold drop_at t ks ≡ drop_where (among ks) t
unfolding drop_at
each_goes [] t = sym (all_left t)
each_goes (k ∷ ks) t = each_goes ks (drop_at t k) ∙ dropped_twice (same_key k) (among ks) t

same_bools : (a b : Bool) → (a ≡ true → b ≡ true) → (b ≡ true → a ≡ true) → a ≡ b
same_bools true b f g = sym (f refl)
same_bools false true f g = g refl
same_bools false false f g = refl

module _ {X : Type 0} (p q : X → Bool) where
  filter_step : (a b : Bool) (x : X) (xs : List X) → q x ≡ b → filter q (filter p xs) ≡ filter (λ x. p x && q x) xs
      → filter q (cond a (x ∷ filter p xs) (filter p xs))
      ≡ cond (a && b) (x ∷ filter (λ x. p x && q x) xs) (filter (λ x. p x && q x) xs)
  filter_step true true x xs e ih = rw e (ap (λ (ys : List X). x ∷ ys) ih)
  filter_step true false x xs e ih = rw e ih
  filter_step false b x xs e ih = ih

  filter_both : (xs : List X) → filter q (filter p xs) ≡ filter (λ x. p x && q x) xs
  filter_both [] = refl
  filter_both (x ∷ xs) = filter_step (p x) (q x) x xs refl (filter_both xs)

-- an entry whose key passes is among those that pass
module _ (test : Key → Bool) where
  abbrev passing : Table SendingRow → List Key
  passing t = map (λ (e : Key × SendingRow). e.0) (filter (λ e. test e.0) t)

  first_among : (x : Key × SendingRow) (a : Bool) (t : Table SendingRow) → a ≡ true
      → among (map (λ e. e.0) (cond a (x ∷ filter (λ e. test e.0) t) (filter (λ e. test e.0) t))) x.0 ≡ true
  first_among x true t e = or_left (same_key x.0 x.0) _ (same_key_same x.0)
  first_among x false t e = cc

  later_among : (x : Key × SendingRow) (a : Bool) (t : Table SendingRow) (k : Key) → among (passing t) k ≡ true
      → among (map (λ e. e.0) (cond a (x ∷ filter (λ e. test e.0) t) (filter (λ e. test e.0) t))) k ≡ true
  later_among x true t k e = or_right (same_key x.0 k) _ e
  later_among x false t k e = e

  each_among : (t : Table SendingRow) → AllByRecursion (λ (e : Key × SendingRow). test e.0 ≡ true → among (passing t) e.0 ≡ true) t
  each_among [] = tt
  each_among (x ∷ t) = (
    first_among x (test x.0) t,
    each_more (λ (e : Key × SendingRow). test e.0 ≡ true → among (passing t) e.0 ≡ true)
        (λ e. test e.0 ≡ true → among (passing (x ∷ t)) e.0 ≡ true)
        (λ e f h. later_among x (test x.0) t e.0 (f h)) t (each_among t),
  )

  keys_pass : (t : Table SendingRow) → AllByRecursion (λ k. test k ≡ true) (passing t)
  keys_pass t =
      each_map (λ (e : Key × SendingRow). test e.0 ≡ true) (λ k. test k ≡ true) (λ e. e.0) (λ e f. f)
      (filter (λ e. test e.0) t) (each_passes (λ (e : Key × SendingRow). test e.0) t)

  among_passes : (t : Table SendingRow) (k : Key) → among (passing t) k ≡ true → test k ≡ true
  among_passes t k e =
      any_among_all (λ q. test q ≡ true) (λ q. same_key q k) (λ q f same. ap test (sym (equal_keys q k same)) ∙ f)
      (passing t) (keys_pass t) e

  all_passing_go : (t : Table SendingRow) → fold drop_at t (passing t) ≡ drop_where test t
  all_passing_go t =
      each_goes (passing t) t
      ∙ same_dropped (among (passing t)) test t
      (each_more (λ (e : Key × SendingRow). test e.0 ≡ true → among (passing t) e.0 ≡ true)
      (λ e. among (passing t) e.0 ≡ test e.0)
      (λ e f. same_bools (among (passing t) e.0) (test e.0) (among_passes t e.0) f) t (each_among t))

module _ (i g : ℕ) (records : Table SourceRecordRow) (t : Table SendingRow) where
  pub each_goes_unrecorded : (ks : List Key) (t' : Table SendingRow)
      → ks ≡ map (λ e. e.0) (filter (λ e. not (has_row records e.0)) (filter (λ e. is_at_group i g e.0) t))
      → t' ≡ fold drop_at t ks → t' ≡ drop_where (is_unrecorded i g records) t
  each_goes_unrecorded ks t' are is =
      is
      ∙ ap (λ (qs : List Key). fold drop_at t qs)
      (are
      ∙ ap (λ (u : Table SendingRow). map (λ (e : Key × SendingRow). e.0) u)
      (filter_both (λ (e : Key × SendingRow). is_at_group i g e.0) (λ e. not (has_row records e.0)) t))
      ∙ all_passing_go (is_unrecorded i g records) t
