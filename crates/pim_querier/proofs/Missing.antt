-- The keys without a row, each once: as a set that grows key by key, and as they are counted.
use Rattle.std.{proofs.{Common.{◌≡◌, ◌<◌, ◌+◌, ℕ, Bool, true, false, cond, not, ◌||◌, List, [], ◌∷◌, ◌++◌, fold, get_or, length, take, refl, ap, sym, arith, ◌∙◌}, lemmas.List.{take_more, Folds.list_any-append, Sums.fold-append}}, specs.{List.{filter, list_any}, Prelude.if◌then◌else◌}}
use Rattle.pim_types.{specs.{declared.fact.Key.Key, Keys.same_key}, proofs.Keys.equal_keys}
use Rattle.pim_model.{specs.{Downstream.is_named, Full.{distinct, needed, once_more}, Tables.{Table, has_row}}}
use Rattle.law_settled.{proofs.RowLaws.same_key_swap}

module _ {R : Type 0} (t : Table R) where
  abbrev lacks : Key → Bool
  lacks k = not (has_row t k)

  -- of the keys so far, each once, those that lack a row
  pub record Counts (found set : List Key) : Type 0 where
    pub same : (q : Key) → has_row t q ≡ false → is_named set q ≡ is_named found q
    pub count : length set ≡ length (filter lacks found)

  filter_last : (found : List Key) (k : Key) (b : Bool) → lacks k ≡ b
      → length (filter lacks (found ++ k ∷ [])) ≡ length (filter lacks found) + (if b then 1 else 0)
  filter_last [] k true is = rw is refl
  filter_last [] k false is = rw is refl
  filter_last (x ∷ xs) k b is = step (lacks x) (filter_last xs k b is)
    where
      step : (c : Bool) → length (filter lacks (xs ++ k ∷ [])) ≡ length (filter lacks xs) + (if b then 1 else 0)
          → length (cond c (x ∷ filter lacks (xs ++ k ∷ [])) (filter lacks (xs ++ k ∷ [])))
          ≡ length (cond c (x ∷ filter lacks xs) (filter lacks xs)) + (if b then 1 else 0)
      step true later = omega (arith, later)
      step false later = later

  named_last : (found : List Key) (k q : Key) → is_named (found ++ k ∷ []) q ≡ (is_named found q || same_key q k)
  unfolding is_named
  named_last found k q =
      list_any-append (same_key q) found (k ∷ [])
      ∙ ap (λ (b : Bool). list_any (same_key q) found || b) (or_false (same_key q k))
    where
      or_false : (b : Bool) → (b || false) ≡ b
      or_false true = refl
      or_false false = refl

  or_so : (a b : Bool) → (b ≡ true → a ≡ true) → (a || b) ≡ a
  or_so true b f = refl
  or_so false true f = sym (f refl)
  or_so false false f = refl

  -- two keys that are the same are named alike, and have a row alike
  named_alike : (found : List Key) (k q : Key) → same_key q k ≡ true → is_named found k ≡ is_named found q
  named_alike found k q same = ap (is_named found) (sym (equal_keys q k same))

  module _ (found set : List Key) (counts : Counts found set) (k : Key) where
    -- a key with a row
    passed_by : (b : Bool) → is_named found k ≡ b → has_row t k ≡ true
        → Counts (if b then found else found ++ k ∷ []) set
    passed_by true is there = counts
    passed_by false is there = record {
      same = λ q none. counts.same q none ∙ sym (or_so (is_named found q) (same_key q k)
          (λ same. let no : true ≡ false =
          sym there ∙ ap (has_row t) (sym (equal_keys q k same)) ∙ none in cc))
          ∙ sym (named_last found k q);
      count = counts.count ∙ sym (filter_last found k false (ap not there) ∙ plus_zero (length (filter lacks found)));
    }
      where
        plus_zero : (n : ℕ) → n + 0 ≡ n
        plus_zero n = omega arith

    pub passed : has_row t k ≡ true → Counts (once_more found k) set
    unfolding once_more
    passed there = passed_by (is_named found k) refl there

    -- a key without one
    module _ (more : List Key) (added : Bool) (none : has_row t k ≡ false) (is_new : added ≡ not (is_named set k))
        (has : (q : Key) → is_named more q ≡ cond (same_key k q) true (is_named set q))
        (len : length more ≡ length set + (if added then 1 else 0)) where
      put_by : (b : Bool) → is_named found k ≡ b → Counts (if b then found else found ++ k ∷ []) more
      put_by true is =
          let old : added ≡ false = is_new ∙ ap not (counts.same k none ∙ is) in
          record {
            same = λ q lacking. has q ∙ go q (same_key k q) refl ∙ counts.same q lacking;
            count = len ∙ (λ j. length set + (if old j then 1 else 0)) ∙ plus_zero (length set) ∙ counts.count;
          }
        where
          plus_zero : (n : ℕ) → n + 0 ≡ n
          plus_zero n = omega arith

          go : (q : Key) (c : Bool) → same_key k q ≡ c → cond c true (is_named set q) ≡ is_named set q
          go q true same =
              sym (counts.same k none ∙ is) ∙ named_alike set k q (same_key_swap q k ∙ same)
          go q false same = refl
      put_by false is =
          let new : added ≡ true = is_new ∙ ap not (counts.same k none ∙ is) in
          record {
            same = λ q lacking.
                has q ∙ ap (λ (b : Bool). cond (same_key k q) true b) (counts.same q lacking)
                ∙ either_way (same_key k q) (is_named found q)
                ∙ ap (λ (b : Bool). is_named found q || b) (same_key_swap k q) ∙ sym (named_last found k q);
            count =
                len ∙ (λ j. counts.count j + (if new j then 1 else 0))
                ∙ sym (filter_last found k true (ap not none));
          }
        where
          either_way : (a b : Bool) → cond a true b ≡ (b || a)
          either_way true true = refl
          either_way true false = refl
          either_way false true = refl
          either_way false false = refl

      pub put_once : Counts (once_more found k) more
      unfolding once_more
      put_once = put_by (is_named found k) refl

  -- ---- as a loop over keys

  pub next_once : (keys : List Key) (n : ℕ) (d k : Key) → n < length keys → k ≡ get_or keys n d
      → once_more (fold once_more [] (take n keys)) k ≡ fold once_more [] (take (n + 1) keys)
  next_once keys n d k inside is =
      sym (ap (λ (ks : List Key). fold once_more [] ks) (take_more keys n d inside)
      ∙ fold-append once_more [] (take n keys) (get_or keys n d ∷ [])
      ∙ ap (once_more (fold once_more [] (take n keys))) (sym is))

  pub all_counted : (keys set : List Key) (n : ℕ) → n ≡ length set → Counts (distinct keys) set → n ≡ needed t keys
  unfolding needed
  all_counted keys set n is counts = is ∙ counts.count
