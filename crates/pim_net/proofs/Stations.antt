-- What is shown of a list of stations: reads and writes of one of them.
use Rattle.std.{proofs.Common.{◌≡◌, ◌∙◌, ℕ, suc, zero, true, List, [], ◌∷◌, map, Option, Some, None, Result, Ok, Err, refl, sym, ap, subst}, specs.{List.slice_get, Prelude.{IfErr, IfNone, IfOk, IfSome, IsErrAnd, is_some, option_and_then, option_map, set}}}
use Rattle.pim_net.{specs.Showing.all_of}

-- what is to be shown of a value is, where there is one
pub if_some : {A : Type 0} (o : Option A) (P : A → Type 0) → ((x : A) → o ≡ Some x → P x) → IfSome o P
if_some None P f = tt
if_some (Some x) P f = f x refl

-- what was said of a value, of this one
pub of_some : {A : Type 0} (o : Option A) (P : A → Type 0) (x : A) → o ≡ Some x → IfSome o P → P x
of_some None P x e p = cc e
of_some (Some y) P x e p = subst P (cc e) p

pub of_ok : {A E : Type 0} (r : Result A E) (P : A → Type 0) (x : A) → r ≡ Ok x → IfOk r P → P x
of_ok (Err y) P x e p = cc e
of_ok (Ok y) P x e p = subst P (cc e) p

pub of_err : {A E : Type 0} (r : Result A E) (P : E → Type 0) (x : E) → r ≡ Err x → IfErr r P → P x
of_err (Ok y) P x e p = cc e
of_err (Err y) P x e p = subst P (cc e) p

pub on_err : {A E : Type 0} (r : Result A E) (P : E → Type 0) → ((e : E) → P e) → IfErr r P
on_err (Ok x) P f = tt
on_err (Err e) P f = f e

-- an error that is passed on
pub passed_on : {A E : Type 0} (r : Result A E) (e : E) (P : E → Type 0) → IsErrAnd r (λ f. f ≡ e) → P e → IfErr r P
passed_on (Ok x) e P is p = tt
passed_on (Err f) e P is p = subst P (sym is) p

pub on_none : {A : Type 0} (o : Option A) (P : Type 0) → P → IfNone o P
on_none None P p = p
on_none (Some x) P p = tt

record Parts {A : Type 0} (x : Option A) (xs : List (Option A)) (ys : List A) : Type 0 where
  head : A
  tail : List A
  first : x ≡ Some head
  rest : all_of xs ≡ Some tail
  whole : ys ≡ head ∷ tail

parts_of : {A : Type 0} (x : Option A) (xs : List (Option A)) (ys : List A) (rest : Option (List A)) → all_of xs ≡ rest
    → option_and_then (λ y. option_map (λ ys. y ∷ ys) rest) x ≡ Some ys → Parts x xs ys
parts_of None xs ys rest is e = cc e
parts_of (Some y) xs ys None is e = cc e
parts_of (Some y) xs ys (Some zs) is e =
    record { head = y; tail = zs; first = refl; rest = is; whole = sym (cc e) }

parts : {A : Type 0} (x : Option A) (xs : List (Option A)) (ys : List A) → all_of (x ∷ xs) ≡ Some ys → Parts x xs ys
unfolding all_of
parts x xs ys e = parts_of x xs ys (all_of xs) refl e

-- one that is there
pub one_there : {A : Type 0} (xs : List (Option A)) (ys : List A) (i : ℕ) (x : Option A) → all_of xs ≡ Some ys
    → slice_get xs i ≡ Some x → (x ≡ slice_get ys i) × (is_some x ≡ true)
one_there [] ys i x e is = cc is
one_there (z ∷ zs) ys zero x e is =
    let p = parts z zs ys e in
    let alike : x ≡ z = sym (cc is) in
    (alike ∙ p.first ∙ ap (λ l. slice_get l 0) (sym p.whole), rw (alike ∙ p.first) refl)
one_there (z ∷ zs) ys (suc i) x e is =
    let p = parts z zs ys e in
    let later = one_there zs p.tail i x p.rest is in
    (later.0 ∙ ap (λ l. slice_get l (suc i)) (sym p.whole), later.1)

-- a value that isn't there, in a list of which all are
pub none_there : {A : Type 0} (xs : List (Option A)) (ys : List A) (i : ℕ) → all_of xs ≡ Some ys
    → slice_get xs i ≡ None → slice_get ys i ≡ None
unfolding all_of
none_there [] ys i e is = let empty : ys ≡ [] = sym (cc e) in rw empty refl
none_there (z ∷ zs) ys zero e is = cc is
none_there (z ∷ zs) ys (suc i) e is =
    let p = parts z zs ys e in
    ap (λ l. slice_get l (suc i)) p.whole ∙ none_there zs p.tail i p.rest is

-- one is replaced
put_first : {A : Type 0} (xs : List (Option A)) (ys tail : List A) (head y : A) → all_of xs ≡ Some tail → ys ≡ head ∷ tail
    → all_of (Some y ∷ xs) ≡ Some (set ys 0 y)
unfolding all_of
put_first xs ys tail head y rest whole = rw rest (rw whole refl)

put_later : {A : Type 0} (z : Option A) (xs : List (Option A)) (ys tail : List A) (i : ℕ) (head y : A) → z ≡ Some head
    → all_of (set xs i (Some y)) ≡ Some (set tail i y) → ys ≡ head ∷ tail
    → all_of (z ∷ set xs i (Some y)) ≡ Some (set ys (suc i) y)
unfolding all_of
put_later z xs ys tail i head y first later whole = rw first (rw later (rw whole refl))

pub one_replaced : {A : Type 0} (xs : List (Option A)) (ys : List A) (i : ℕ) (y : A) → all_of xs ≡ Some ys
    → all_of (set xs i (Some y)) ≡ Some (set ys i y)
unfolding all_of
one_replaced [] ys i y e = let empty : ys ≡ [] = sym (cc e) in rw empty refl
one_replaced (z ∷ zs) ys zero y e =
    let p = parts z zs ys e in put_first zs ys p.tail p.head y p.rest p.whole
one_replaced (z ∷ zs) ys (suc i) y e =
    let p = parts z zs ys e in
    put_later z zs ys p.tail i p.head y p.first (one_replaced zs p.tail i y p.rest) p.whole

-- all are there
pub all_there : {A B : Type 0} (f : A → B) (xs : List A) → all_of (map (λ x. Some (f x)) xs) ≡ Some (map f xs)
unfolding all_of
all_there f [] = refl
all_there f (x ∷ xs) = rw (all_there f xs) refl
