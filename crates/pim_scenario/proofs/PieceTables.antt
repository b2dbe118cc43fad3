-- A table that is read alone, and as the last of an array of tables.
use Rattle.std.{proofs.{Common.{◌≡◌, ◌⊎◌, ℕ, Bool, true, false, cond, List, [], ◌∷◌, ◌++◌, Option, Some, None, refl, sym, subst, inl, inr, Ordering, Less, Equal, Greater, nat_cmp, is_eq}, lemmas.{Bool.{cases_Bool, true≢false}, Option.{none-some, same_Some}}}, specs.{Ordering.match_ordering, Cmp.Lexicographic.slice_cmp}}
use Rattle.toml_parser.{specs.Strings.Key}
use Rattle.toml.{specs.{Data.{Data, Items, same_key}, Tables.{Node, Nodes, no_nodes, node, value, open_table, open_array, Edit, Expression, Definition, key_value, std_table, array_table, new_node, redefine, at_found, Document, put, define, insert, replace, get_node, along_header, along_dots, at_key, by_header, by_dot, header_node, dot_node, implicit, dotted, header}}, proofs.NodeLaws.{get_node-insert, replace-insert}}
use Rattle.pim_scenario.{proofs.{PieceBytes.map_some, PieceLines.Stands}}

-- no value, but what a header or a dotted key made
abbrev pub IsOpen : Node → Type 0
IsOpen (value d) = ⊥
IsOpen (open_table origin ns) = Unit {0}
IsOpen (open_array done last) = Unit {0}

abbrev pub HasOpen : Nodes → Type 0
HasOpen no_nodes = ⊥
HasOpen (node k x ns) = IsOpen x ⊎ HasOpen ns

placed : (o : Ordering) (k l : List ℕ) (x y : Node) (ns more : Nodes) → IsOpen x ⊎ HasOpen ns → HasOpen more → HasOpen (match_ordering o (node k x (node l y ns)) (node l x ns) (node l y more))
placed Less k l x y ns more (inl open_x) after = inl open_x
placed Less k l x y ns more (inr others) after = inr (inr others)
placed Equal k l x y ns more h after = h
placed Greater k l x y ns more h after = inr after

-- an open node that is put in
open_in : (k : List ℕ) (x : Node) (ns : Nodes) → IsOpen x → HasOpen (insert k x ns)
open_in k x no_nodes h = inl h
open_in k x (node l y ns) h = placed (slice_cmp nat_cmp k l) k l x y ns (insert k x ns) (inl h) (open_in k x ns h)

pub found_or_not : (b : Bool) (y : Node) (o : Option Node) → cond b (Some y) o ≡ None → (b ≡ false) × (o ≡ None)
found_or_not true y o h = absurd (none-some y (sym h))
found_or_not false y o h = (refl, h)

new_in : (o : Ordering) (k l : List ℕ) (x y : Node) (ns more : Nodes) → is_eq o ≡ false → IsOpen y ⊎ HasOpen ns → (HasOpen ns → HasOpen more) → HasOpen (match_ordering o (node k x (node l y ns)) (node l x ns) (node l y more))
new_in Less k l x y ns more other h after = inr h
new_in Equal k l x y ns more other h after = absurd (true≢false other)
new_in Greater k l x y ns more other (inl here) after = inl here
new_in Greater k l x y ns more other (inr there) after = inr (after there)

-- those that are there stay
stay_in : (k : List ℕ) (x : Node) (ns : Nodes) → get_node k ns ≡ None → HasOpen ns → HasOpen (insert k x ns)
stay_in k x no_nodes none h = absurd h
stay_in k x (node l y ns) none h =
    let (other, more) = found_or_not (same_key k l) y (get_node k ns) none in
    new_in (slice_cmp nat_cmp k l) k l x y ns (insert k x ns) other h (stay_in k x ns more)

-- an open node in the place of another
open_for : (k : List ℕ) (y : Node) (ns : Nodes) (x : Node) → get_node k ns ≡ Some x → IsOpen y → HasOpen (replace k y ns)
open_for k y no_nodes x found h = absurd (none-some x found)
open_for k y (node l z ns) x found h =
    elim (cases_Bool (same_key k l)) [
      | inl here ↦ rw here (inl h)
      | inr other ↦ rw other (inr (open_for k y ns x (rw other at found) h))
    ]

header_node_open : (edit : Edit) (x y : Node) → header_node edit x ≡ Some y → IsOpen y
header_node_open edit (value d) y e = absurd (none-some y e)
header_node_open edit (open_table origin ns) y e =
    let (new, made, same) = map_some (open_table origin) (edit ns) y e in
    subst IsOpen same tt
header_node_open edit (open_array done last) y e =
    let (new, made, same) = map_some (open_array done) (edit last) y e in
    subst IsOpen same tt

dot_node_open : (edit : Edit) (x y : Node) → dot_node edit x ≡ Some y → IsOpen y
dot_node_open edit (value d) y e = absurd (none-some y e)
dot_node_open edit (open_table header ns) y e = absurd (none-some y e)
dot_node_open edit (open_table implicit ns) y e =
    let (new, made, same) = map_some (open_table dotted) (edit ns) y e in
    subst IsOpen same tt
dot_node_open edit (open_table dotted ns) y e =
    let (new, made, same) = map_some (open_table dotted) (edit ns) y e in
    subst IsOpen same tt
dot_node_open edit (open_array done last) y e = absurd (none-some y e)

by_header_open : (k : List ℕ) (edit : Edit) (ns new : Nodes) (o : Option Node) → get_node k ns ≡ o → by_header k edit ns o ≡ Some new → HasOpen new
by_header_open k edit ns new None found e =
    let (inner, made, same) = map_some (λ x. insert k (open_table implicit x) ns) (edit no_nodes) new e in
    subst HasOpen same (open_in k (open_table implicit inner) ns tt)
by_header_open k edit ns new (Some x) found e =
    let (y, made, same) = map_some (λ y. replace k y ns) (header_node edit x) new e in
    subst HasOpen same (open_for k y ns x found (header_node_open edit x y made))

by_dot_open : (k : List ℕ) (edit : Edit) (ns new : Nodes) (o : Option Node) → get_node k ns ≡ o → by_dot k edit ns o ≡ Some new → HasOpen new
by_dot_open k edit ns new None found e =
    let (inner, made, same) = map_some (λ x. insert k (open_table dotted x) ns) (edit no_nodes) new e in
    subst HasOpen same (open_in k (open_table dotted inner) ns tt)
by_dot_open k edit ns new (Some x) found e =
    let (y, made, same) = map_some (λ y. replace k y ns) (dot_node edit x) new e in
    subst HasOpen same (open_for k y ns x found (dot_node_open edit x y made))

redefined_open : (what : Definition) (x y : Node) → redefine what x ≡ Some y → IsOpen y
redefined_open (key_value d) (value x) y e = absurd (none-some y e)
redefined_open (key_value d) (open_table origin ns) y e = absurd (none-some y e)
redefined_open (key_value d) (open_array done last) y e = absurd (none-some y e)
redefined_open std_table (value d) y e = absurd (none-some y e)
redefined_open std_table (open_table implicit ns) y e = subst IsOpen (same_Some _ y e) tt
redefined_open std_table (open_table dotted ns) y e = absurd (none-some y e)
redefined_open std_table (open_table header ns) y e = absurd (none-some y e)
redefined_open std_table (open_array done last) y e = absurd (none-some y e)
redefined_open array_table (value d) y e = absurd (none-some y e)
redefined_open array_table (open_table origin ns) y e = absurd (none-some y e)
redefined_open array_table (open_array done last) y e = subst IsOpen (same_Some _ y e) tt

-- an open node stays where something is defined, and a header makes one
at_found_open : (k : List ℕ) (what : Definition) (ns new : Nodes) (o : Option Node) → get_node k ns ≡ o → IsOpen (new_node what) ⊎ HasOpen ns → at_found k what ns o ≡ Some new → HasOpen new
at_found_open k what ns new None found (inl header_node) e = subst HasOpen (same_Some _ new e) (open_in k (new_node what) ns header_node)
at_found_open k what ns new None found (inr there) e = subst HasOpen (same_Some _ new e) (stay_in k (new_node what) ns found there)
at_found_open k what ns new (Some x) found h e =
    let (y, made, same) = map_some (λ y. replace k y ns) (redefine what x) new e in
    subst HasOpen same (open_for k y ns x found (redefined_open what x y made))

at_key_open : (k : List ℕ) (what : Definition) (ns new : Nodes) → IsOpen (new_node what) ⊎ HasOpen ns → at_key k what ns ≡ Some new → HasOpen new
unfolding at_key
at_key_open k what ns new h e = at_found_open k what ns new (get_node k ns) refl h e

put_open : (key : Key) (d : Data) (ns new : Nodes) → HasOpen ns → put key d ns ≡ Some new → HasOpen new
unfolding along_dots
put_open ([], k) d ns new h e = at_key_open k (key_value d) ns new (inr h) e
put_open (p ∷ path, k) d ns new h e = by_dot_open p (along_dots path (at_key k (key_value d))) ns new (get_node p ns) refl e

along_open : (path : List (List ℕ)) (edit : Edit) (ns new : Nodes) → ((x y : Nodes) → x ≡ ns → edit x ≡ Some y → HasOpen y) → along_header path edit ns ≡ Some new → HasOpen new
unfolding along_header
along_open [] edit ns new kept e = kept ns new refl e
along_open (p ∷ path) edit ns new kept e = by_header_open p (along_header path edit) ns new (get_node p ns) refl e

-- a document with an open node keeps one
abbrev pub IsBad : Document → Type 0
IsBad d = HasOpen d.0

worse : (d : Document) (e : Expression) (next : Document) → IsBad d → define d e ≡ Some next → IsBad next
unfolding define
worse d (key, key_value x) next bad e =
    let (root, made, same) = map_some (λ (root : Nodes). (root, d.1)) (along_header d.1 (put key x) d.0) next e in
    subst IsBad same (along_open d.1 (put key x) d.0 root (λ a b is step. put_open key x a b (subst HasOpen (sym is) bad) step) made)
worse d (key, std_table) next bad e =
    let (root, made, same) = map_some (λ (root : Nodes). (root, key.0 ++ key.1 ∷ [])) (along_header key.0 (at_key key.1 std_table) d.0) next e in
    subst IsBad same (along_open key.0 (at_key key.1 std_table) d.0 root (λ a b is step. at_key_open key.1 std_table a b (inl tt) step) made)
worse d (key, array_table) next bad e =
    let (root, made, same) = map_some (λ (root : Nodes). (root, key.0 ++ key.1 ∷ [])) (along_header key.0 (at_key key.1 array_table) d.0) next e in
    subst IsBad same (along_open key.0 (at_key key.1 array_table) d.0 root (λ a b is step. at_key_open key.1 array_table a b (inl tt) step) made)

-- the table that is read alone is the last of the array, beside what is there
abbrev pub IsLast : List ℕ → Items → Nodes → Document → Document → Type 0
IsLast k done ns d w = (w ≡ (insert k (open_array done d.0) ns, k ∷ [])) × (d.1 ≡ [])

put_last : (k : List ℕ) (done : Items) (ns last new : Nodes) (edit : Edit) → edit last ≡ Some new
    → along_header (k ∷ []) edit (insert k (open_array done last) ns) ≡ Some (insert k (open_array done new) ns)
unfolding along_header
put_last k done ns last new edit made = rw (get_node-insert k (open_array done last) ns, made, replace-insert k (open_array done last) (open_array done new) ns)

step_last : (k : List ℕ) (done : Items) (ns : Nodes) (d w : Document) (e : Expression) (next : Document) → IsLast k done ns d w → define d e ≡ Some next
    → IsBad next ⊎ ((far : Document) × (define w e ≡ Some far) × IsLast k done ns next far)
unfolding define along_header
step_last k done ns d w (key, key_value x) next is e =
    let (root, made, same) = map_some (λ (root : Nodes). (root, d.1)) (along_header d.1 (put key x) d.0) next e in
    let here : put key x d.0 ≡ Some root = subst (λ s. along_header s (put key x) d.0 ≡ Some root) is.1 made in
    let far : Document = (insert k (open_array done root) ns, k ∷ []) in
    inr (far, rw is.0 (rw (put_last k done ns d.0 root (put key x) here)), subst (λ (n : Document). IsLast k done ns n far) same (refl, is.1))
step_last k done ns d w (key, std_table) next is e =
    let (root, made, same) = map_some (λ (root : Nodes). (root, key.0 ++ key.1 ∷ [])) (along_header key.0 (at_key key.1 std_table) d.0) next e in
    inl (subst IsBad same (along_open key.0 (at_key key.1 std_table) d.0 root (λ a b eq step. at_key_open key.1 std_table a b (inl tt) step) made))
step_last k done ns d w (key, array_table) next is e =
    let (root, made, same) = map_some (λ (root : Nodes). (root, key.0 ++ key.1 ∷ [])) (along_header key.0 (at_key key.1 array_table) d.0) next e in
    inl (subst IsBad same (along_open key.0 (at_key key.1 array_table) d.0 root (λ a b eq step. at_key_open key.1 array_table a b (inl tt) step) made))

pub stands_last : (k : List ℕ) (done : Items) (ns : Nodes) → Stands (IsLast k done ns) IsBad
stands_last k done ns = record { step = step_last k done ns; worse = worse }
