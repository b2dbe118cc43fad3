-- Links go by the places of their names.
use Rattle.std.{proofs.{Common.{◌≡◌, ◌+◌, ℕ, Bool, true, false, cond, List, [], ◌∷◌, ◌++◌, length, map, Option, Some, None, refl, sym, ap, ◌∙◌, arith, append_assoc}, lemmas.{List.{Sums.fold_push, map-append, append-nil, Elements.{All-weaker, All-push}}, Slice.Eq.bytes_eq-Decides, Iterator.Adapters.position_from-zero}}, specs.{Borrow.Bor, Prelude.string_bytes, List.{All, position, position_from}, Option.is_some, Str.bytes_eq}}
use Rattle.pim_scenario.{specs.{declared.scenario.{Link.Link, RouterText.RouterText}, Scenario.{HasNumbered, IsNumbered, link_names, names_after, place_in, with_name}}}

module _ {X : Type 0} (p : X → Bool) where
  chosen : (b : Bool) (i k : ℕ) (o r : Option ℕ) → (o ≡ Some k → r ≡ Some k) → cond b (Some i) o ≡ Some k → cond b (Some i) r ≡ Some k
  chosen true i k o r next e = e
  chosen false i k o r next e = next e

  from_kept : (xs ys : List X) (i k : ℕ) → position_from p i xs ≡ Some k → position_from p i (xs ++ ys) ≡ Some k
  from_kept [] ys i k e = cc
  from_kept (x ∷ xs) ys i k e = chosen (p x) i k _ _ (from_kept xs ys (i + 1) k) e

  missed : (b : Bool) (i k : ℕ) (o r : Option ℕ) → (o ≡ None → r ≡ Some k) → cond b (Some i) o ≡ None → cond b (Some i) r ≡ Some k
  missed true i k o r next e = cc
  missed false i k o r next e = next e

  from_new : (xs : List X) (y : X) (i k : ℕ) → k ≡ i + length xs → p y ≡ true → position_from p i xs ≡ None → position_from p i (xs ++ y ∷ []) ≡ Some k
  from_new [] y i k at passes e = rw passes (ap (λ (n : ℕ). Some n) (omega arith))
  from_new (x ∷ xs) y i k at passes e = missed (p x) i k _ _ (from_new xs y (i + 1) k (omega arith) passes) e

  pub position_kept : (xs ys : List X) (k : ℕ) → position p xs ≡ Some k → position p (xs ++ ys) ≡ Some k
  position_kept xs ys k e =
      position_from-zero p (xs ++ ys) ∙ from_kept xs ys 0 k (sym (position_from-zero p xs) ∙ e)

  pub position_new : (xs : List X) (y : X) (k : ℕ) → k ≡ length xs → p y ≡ true → position p xs ≡ None
      → position p (xs ++ y ∷ []) ≡ Some k
  position_new xs y k at passes e =
      position_from-zero p (xs ++ y ∷ []) ∙ from_new xs y 0 k (omega arith) passes (sym (position_from-zero p xs) ∙ e)

from_map : {X Y : Type 0} (p : Y → Bool) (f : X → Y) (xs : List X) (i : ℕ)
    → position_from (λ x. p (f x)) i xs ≡ position_from p i (map f xs)
from_map p f [] i = refl
from_map p f (x ∷ xs) i = ap (λ (o : Option ℕ). cond (p (f x)) (Some i) o) (from_map p f xs (i + 1))

pub position-map : {X Y : Type 0} (p : Y → Bool) (f : X → Y) (xs : List X)
    → position (λ x. p (f x)) xs ≡ position p (map f xs)
position-map p f xs =
    position_from-zero (λ x. p (f x)) xs ∙ from_map p f xs 0 ∙ sym (position_from-zero p (map f xs))

same_name : (name : List ℕ) → bytes_eq name name ≡ true
same_name name = (bytes_eq-Decides name name).1 refl

-- a name that was there
pub found : (items : List (Bor (List ℕ))) (name : List ℕ) (k : ℕ)
    → position (λ (x : Bor (List ℕ)). bytes_eq x.now name) items ≡ Some k
    → place_in (map (λ (x : Bor (List ℕ)). x.now) items) name ≡ Some k
found items name k e =
    sym (position-map (λ (n : List ℕ). bytes_eq n name) (λ (x : Bor (List ℕ)). x.now) items) ∙ e

-- a name that is new
pub fresh : (items new : List (Bor (List ℕ))) (name : Bor (List ℕ)) (k : ℕ)
    → position (λ (x : Bor (List ℕ)). bytes_eq x.now name.now) items ≡ None
    → new ≡ items ++ name ∷ [] → k ≡ length items
    → place_in (map (λ (x : Bor (List ℕ)). x.now) new) name.now ≡ Some k
fresh items new name k none put at =
    found new name.now k
    (rw put (position_new (λ (x : Bor (List ℕ)). bytes_eq x.now name.now) items name k at (same_name name.now) none))

-- a name that is there is not added
pub kept_name : (names : List (List ℕ)) (name : List ℕ) (k : ℕ) → place_in names name ≡ Some k → names ≡ with_name names name
kept_name names name k e = rw e refl

-- a name that is new is
pub new_name : (items new : List (Bor (List ℕ))) (name : Bor (List ℕ))
    → position (λ (x : Bor (List ℕ)). bytes_eq x.now name.now) items ≡ None → new ≡ items ++ name ∷ []
    → map (λ (x : Bor (List ℕ)). x.now) new ≡ with_name (map (λ (x : Bor (List ℕ)). x.now) items) name.now
new_name items new name none put =
    let none_of : place_in (map (λ (x : Bor (List ℕ)). x.now) items) name.now ≡ None =
    sym (position-map (λ (n : List ℕ). bytes_eq n name.now) (λ (x : Bor (List ℕ)). x.now) items) ∙ none in
    rw (put, none_of) (map-append (λ (x : Bor (List ℕ)). x.now) items (name ∷ []))

-- names were added at the end
abbrev pub Grows : List (List ℕ) → List (List ℕ) → Type 0
Grows old new = (more : List (List ℕ)) × (new ≡ old ++ more)

grows_not : (names : List (List ℕ)) → Grows names names
grows_not names = ([], sym (append-nil names))

grows_twice : (a b c : List (List ℕ)) → Grows a b → Grows b c → Grows a c
grows_twice a b c first second =
    (first.0 ++ second.0, second.1 ∙ ap (λ (l : List (List ℕ)). l ++ second.0) first.1 ∙ append_assoc a first.0 second.0)

grows_if : (b : Bool) (names : List (List ℕ)) (name : List ℕ) → Grows names (cond b names (names ++ name ∷ []))
grows_if true names name = grows_not names
grows_if false names name = (name ∷ [], refl)

pub grows_by_name : (old new : List (List ℕ)) (name : List ℕ) → new ≡ with_name old name → Grows old new
grows_by_name old new name e = rw e (grows_if (is_some (place_in old name)) old name)

pub grows_by_names : (old new : List (List ℕ)) (ls : List Link) → new ≡ names_after old ls → Grows old new
grows_by_names old new [] e = rw e (grows_not old)
grows_by_names old new (l ∷ ls) e =
    let next : List (List ℕ) = with_name old (string_bytes l.name) in
    grows_twice old next new (grows_by_name old next (string_bytes l.name) refl) (grows_by_names next new ls e)

-- one link more
pub link_added : (first old new : List (List ℕ)) (ls more : List Link) (l : Link) (name : List ℕ)
    → old ≡ names_after first ls → new ≡ with_name old name → string_bytes l.name ≡ name → more ≡ ls ++ l ∷ []
    → new ≡ names_after first more
link_added first old new ls more l name before added named put =
    rw (put, added, before, ← named)
    (sym (fold_push (λ (ns : List (List ℕ)) (x : Link). with_name ns (string_bytes x.name)) first ls l))

-- one router more
pub router_added : (old new : List (List ℕ)) (rs more : List RouterText) (r : RouterText)
    → old ≡ link_names rs → new ≡ names_after old r.links → more ≡ rs ++ r ∷ [] → new ≡ link_names more
router_added old new rs more r before added put =
    rw (put, added, before)
    (sym (fold_push (λ (ns : List (List ℕ)) (x : RouterText). names_after ns x.links) [] rs r))

-- a link keeps its number where names are added
pub numbered_kept : (old new : List (List ℕ)) (l : Link) → Grows old new → IsNumbered old l → IsNumbered new l
numbered_kept old new l grows numbered =
    rw grows.1 (position_kept (λ (n : List ℕ). bytes_eq n (string_bytes l.name)) old grows.0 l.number numbered)

pub links_kept : (old new : List (List ℕ)) (ls : List Link) → Grows old new → All (IsNumbered old) ls → All (IsNumbered new) ls
links_kept old new ls grows all =
    All-weaker (IsNumbered old) (IsNumbered new) (λ l numbered. numbered_kept old new l grows numbered) ls all

pub links_more : (old new : List (List ℕ)) (ls more : List Link) (l : Link) → Grows old new → more ≡ ls ++ l ∷ []
    → All (IsNumbered old) ls → IsNumbered new l → All (IsNumbered new) more
links_more old new ls more l grows put all one =
    rw put (All-push (IsNumbered new) ls l (links_kept old new ls grows all) one)

pub routers_more : (old new : List (List ℕ)) (rs more : List RouterText) (r : RouterText) → Grows old new → more ≡ rs ++ r ∷ []
    → All (HasNumbered old) rs → HasNumbered new r → All (HasNumbered new) more
routers_more old new rs more r grows put all one =
    rw put (All-push (HasNumbered new) rs r
    (All-weaker (HasNumbered old) (HasNumbered new) (λ x links. links_kept old new x.links grows links) rs all) one)
