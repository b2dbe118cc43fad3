-- Lists that are read value by value.
use Rattle.std.{proofs.{Common.{zero, suc, arith, ◌≡◌, ◌<◌, ◌≤◌, ◌+◌, ℕ, List, [], ◌∷◌, ◌++◌, take, get_or, length, map, subst, sym, ap, ◌∙◌}, lemmas.List.{take_more, take_all, length-map, get_or-map}}, specs.{List.AllZip, Prelude.{Result, Ok, Err, Option, Some, None}, Result.IsErrAnd}}
use Rattle.toml.{specs.{Data.{Data, Members, as_str, as_table}, View.view, declared.value.Value.Value}}
use Rattle.pim_scenario.{specs.{Scenario.{IsTable, IsText}, Words.AreWords, declared.scenario.Unread.{Unread, TheVariants.{Wrong, NoMemory}}, Texts.ReadsExactly}, proofs.WordLemmas.one_list}

pub zip_push : {A B : Type 0} (R : A → B → Type 0) (xs : List A) (ys : List B) (x : A) (y : B)
    → AllZip R xs ys → R x y → AllZip R (xs ++ x ∷ []) (ys ++ y ∷ [])
zip_push R [] [] x y all one = (one, tt)
zip_push R [] (b ∷ bs) x y all one = absurd all
zip_push R (a ∷ as') [] x y all one = absurd all
zip_push R (a ∷ as') (b ∷ bs) x y all one = (all.0, zip_push R as' bs x y all.1 one)

-- one more value was read
pub zip_kept : {A B : Type 0} (R : A → B → Type 0) (xs : List A) (ys new : List B) (i : ℕ) (x : A) (y : B)
    → i < length xs → x ≡ get_or xs i x → new ≡ ys ++ y ∷ [] → AllZip R (take i xs) ys → R x y
    → AllZip R (take (i + 1) xs) new
zip_kept {A} {B} R xs ys new i x y below here put all one =
    let more : take (i + 1) xs ≡ take i xs ++ x ∷ [] =
    take_more xs i x below ∙ ap (λ (v : A). take i xs ++ v ∷ []) (sym here) in
    rw (more, put) (zip_push R (take i xs) ys x y all one)

zip_map : {A B C : Type 0} (R : C → B → Type 0) (f : A → C) (xs : List A) (ys : List B)
    → AllZip (λ x y. R (f x) y) xs ys → AllZip R (map f xs) ys
zip_map R f [] [] all = tt
zip_map R f [] (b ∷ bs) all = absurd all
zip_map R f (a ∷ as') [] all = absurd all
zip_map R f (a ∷ as') (b ∷ bs) all = (all.0, zip_map R f as' bs all.1)

-- all values were read
pub zip_done : {A B C : Type 0} (R : C → B → Type 0) (f : A → C) (xs : List A) (ys : List B) (i : ℕ)
    → length xs ≤ i → AllZip (λ x y. R (f x) y) (take i xs) ys → AllZip R (map f xs) ys
zip_done {A} {B} {C} R f xs ys i past all =
    zip_map R f xs ys (subst (λ (l : List A). AllZip (λ x y. R (f x) y) l ys) (take_all i xs past) all)

pub zip_get : {A B : Type 0} (R : A → B → Type 0) (xs : List A) (ys : List B) (i : ℕ) (d : A) (e : B)
    → i < length xs → AllZip R xs ys → R (get_or xs i d) (get_or ys i e)
zip_get R [] ys i d e below all = absurd (omega arith)
zip_get R (x ∷ xs) [] i d e below all = absurd all
zip_get R (x ∷ xs) (y ∷ ys) zero d e below all = all.0
zip_get R (x ∷ xs) (y ∷ ys) (suc i) d e below all = zip_get R xs ys i d e (omega arith) all.1

zip_one : {B C : Type 0} (R : C → B → Type 0) (cs : List C) (ys : List B) (i : ℕ) (d : C)
    → i < length cs → AllZip R cs ys → (y : B) × R (get_or cs i d) y
zip_one R [] ys i d below all = absurd (omega arith)
zip_one R (c ∷ cs) [] i d below all = absurd all
zip_one R (c ∷ cs) (y ∷ ys) i d below all = (get_or (y ∷ ys) i y, zip_get R (c ∷ cs) (y ∷ ys) i d y below all)

-- what was read at one place
pub zip_at : {A B C : Type 0} (R : C → B → Type 0) (f : A → C) (xs : List A) (i : ℕ) (x : A)
    → i < length xs → x ≡ get_or xs i x → (ys : List B) → AllZip R (map f xs) ys → (y : B) × R (f x) y
zip_at {A} {B} {C} R f xs i x below here ys all =
    let same : get_or (map f xs) i (f x) ≡ f x = get_or-map f xs i x (f x) below ∙ ap f (sym here) in
    let one = zip_one R (map f xs) ys i (f x) (rw (length-map xs f) below) all in
    (one.0, subst (λ (c : C). R c one.0) same one.1)

pub zip_weaker : {A B : Type 0} (R S : A → B → Type 0) (xs : List A) (ys : List B) → ((x : A) (y : B) → R x y → S x y)
    → AllZip R xs ys → AllZip S xs ys
zip_weaker R S [] [] weaker all = tt
zip_weaker R S [] (y ∷ ys) weaker all = absurd all
zip_weaker R S (x ∷ xs) [] weaker all = absurd all
zip_weaker R S (x ∷ xs) (y ∷ ys) weaker all = (weaker x y all.0, zip_weaker R S xs ys weaker all.1)

-- where a part was found wrong, the whole is
pub fails : {X Y : Type 0} (P : X → Type 0) (Q : Y → Type 0) (e : Unread) (s : Result X Unread)
    → IsErrAnd s (λ f. f ≡ e) → ((x : X) → P x → (y : Y) × Q y) → ReadsExactly Q (Err e) → ReadsExactly P s
fails P Q e (Ok x) is part none = absurd is
fails P Q Wrong (Err f) is part none = rw is (λ x says. let one = part x says in none one.0 one.1)
fails P Q NoMemory (Err f) is part none = rw is tt

pub wrong : {X : Type 0} (P : X → Type 0) (s : Result X Unread) → IsErrAnd s (λ f. f ≡ Wrong) → ((x : X) → P x → ⊥)
    → ReadsExactly P s
wrong P (Ok x) is none = absurd is
wrong P (Err f) is none = rw is none

pub was_wrong : {X : Type 0} (P : X → Type 0) (e : Unread) → e ≡ Wrong → ReadsExactly P (Err e) → (x : X) → P x → ⊥
was_wrong P Wrong is none = none
was_wrong P NoMemory is none = λ x says. cc

pub not_both : {X : Type 0} (o : Option X) (x : X) → None ≡ o → o ≡ Some x → ⊥
not_both o x none some = cc

pub the_same : {X : Type 0} (o : Option X) (x y : X) → Some x ≡ o → o ≡ Some y → x ≡ y
the_same o x y one other = cc

-- a list of values, each of which is read by the relation
module _ {X : Type 0} (Reads : Data → X → Type 0) (values : List Value) where
  -- one more value was read
  pub more_read : (i : ℕ) (xs new : List X) (v : Value) (x : X) → i < length values → v ≡ get_or values i v
      → new ≡ xs ++ x ∷ [] → AllZip (λ d y. Reads (view d) y) (take i values) xs → Reads (view v) x
      → AllZip (λ d y. Reads (view d) y) (take (i + 1) values) new
  more_read i xs new v x below here put all one =
      zip_kept (λ (d : Value) (y : X). Reads (view d) y) values xs new i v x below here put all one

  -- all values were read
  pub all_read : (i : ℕ) (xs : List X) → length values ≤ i → AllZip (λ d y. Reads (view d) y) (take i values) xs
      → AllZip Reads (map view values) xs
  all_read i xs past all = zip_done Reads view values xs i past all

  -- one of them was read
  pub one_read : (i : ℕ) (v : Value) (xs : List X) → i < length values → v ≡ get_or values i v
      → AllZip Reads (map view values) xs → (x : X) × Reads (view v) x
  one_read i v xs below here all = zip_at Reads view values i v below here xs all

  -- one of them can't be read
  pub none_read : (i : ℕ) (v : Value) (s : Result (List X) Unread) → i < length values → v ≡ get_or values i v
      → ((x : X) → Reads (view v) x → ⊥) → IsErrAnd s (λ f. f ≡ Wrong)
      → ReadsExactly (AllZip Reads (map view values)) s
  none_read i v s below here none is =
      wrong (AllZip Reads (map view values)) s is
      (λ xs all. let one = one_read i v xs below here all in none one.0 one.1)

  -- a part of one of them was read wrong
  pub part_fails : {Y : Type 0} (Part : Y → Type 0) (i : ℕ) (v : Value) (e : Unread) (s : Result (List X) Unread)
      → i < length values → v ≡ get_or values i v → ((x : X) → Reads (view v) x → (y : Y) × Part y)
      → ReadsExactly Part (Err e) → IsErrAnd s (λ f. f ≡ e)
      → ReadsExactly (AllZip Reads (map view values)) s
  part_fails Part i v e s below here part none is =
      fails (AllZip Reads (map view values)) Part e s is
      (λ xs all. let one = one_read i v xs below here all in part one.0 one.1) none

-- a value that is no table
pub no_table : {X : Type 0} (Says : Members → X → Type 0) (d : Data) → None ≡ as_table d → (x : X) → IsTable Says d x → ⊥
no_table Says d none x is = not_both (as_table d) is.0 none is.1

-- what is said of a table
pub of_table : {X : Type 0} (Says : Members → X → Type 0) (d : Data) (ms : Members) → Some ms ≡ as_table d
    → (x : X) → IsTable Says d x → Says ms x
of_table Says d ms table x is = rw (the_same (as_table d) ms is.0 table is.1) is.2

pub table_said : {X : Type 0} (Says : Members → X → Type 0) (d : Data) (ms : Members) → Some ms ≡ as_table d
    → (x : X) → IsTable Says d x → (y : X) × Says ms y
table_said Says d ms table x is = (x, of_table Says d ms table x is)

pub no_text : {X : Type 0} (Say : List (List ℕ) → X → Type 0) (d : Data) → None ≡ as_str d → (x : X) → IsText Say d x → ⊥
no_text Say d none x is = not_both (as_str d) is.text none is.is_text

-- what is said by the words of a text
pub words_said : {X : Type 0} (Say : List (List ℕ) → X → Type 0) (d : Data) (text : List ℕ) (words : List (List ℕ))
    → Some text ≡ as_str d → AreWords text words → (x : X) → IsText Say d x → (y : X) × Say words y
words_said Say d text words is_text are_words x is =
    let texts : text ≡ is.text = the_same (as_str d) text is.text is_text is.is_text in
    let split : AreWords is.text words = rw (← texts) are_words in
    (x, rw (one_list is.text words is.words split is.are_words) is.say)
