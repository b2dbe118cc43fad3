-- A document of which the array of tables `move` is the end, table by table.
use Rattle.std.{proofs.{Common.{◌≡◌, ℕ, zero, suc, ◌+◌, ◌-◌, ◌≤◌, true, false, cond, ◌&&◌, ◌==◌, List, [], ◌∷◌, ◌++◌, length, Option, Some, None, option_map, refl, sym, ap, ◌∙◌, subst, inl, inr, arith, Ordering, Less, Equal, Greater, nat_cmp, is_eq, length-append}, lemmas.{Bool.{cases_Bool, and_parts, true≢false, false≢true, Decides.nat_tests}, Option.none-some}}, specs.{Ordering.match_ordering, Cmp.Lexicographic.slice_cmp, List.list_any}}
use Rattle.toml_parser.{specs.{Lexical.{skip_ws, skip_from}, Strings.{key_after, simple_key}}}
use Rattle.toml.{specs.{Data.{Data, table, Items, no_items, item, Members, push_item, same_key, get_member}, Tables.{Node, Nodes, no_nodes, node, value, open_table, open_array, close, close_node, Expression, array_table, Document, define, insert, get_node, along_header, at_key}, Parse.{lines, line, expression, header_key, skip_bom, parse_document}}, proofs.{NodeLaws.{get_node-insert, replace-insert}, Turns.lines_more}}
use Rattle.pim_scenario.{proofs.{PieceBytes.{on, map_some}, PieceLines.{Stands, lines_on, lines_out}, PieceTables.{HasOpen, IsOpen, IsBad, IsLast, stands_last, found_or_not}}, specs.{Pieces.{ends, move_key, is_table, is_plain, is_flat, IsReached, HoldsMoves}, Fields.values_of}}

-- ---- a table with nothing but values

pushed_table : (ds : Items) (ms : Members) → list_any is_table (values_of (push_item ds (table ms))) ≡ true
pushed_table no_items ms = refl
pushed_table (item d ds) ms = elim (cases_Bool (is_table d)) [ inl here ↦ rw here | inr not_here ↦ rw not_here (pushed_table ds ms) ]

not_open : (x : Node) → is_plain (close_node x) ≡ true → IsOpen x → ⊥
not_open (value d) plain h = h
not_open (open_table origin ns) plain h = false≢true plain
not_open (open_array done last) plain h = false≢true (rw (pushed_table done (close last)) at plain)

pub flat_good : (ns : Nodes) → is_flat (close ns) ≡ true → HasOpen ns → ⊥
flat_good no_nodes flat h = h
flat_good (node k x ns) flat (inl here) = not_open x (and_parts (is_plain (close_node x)) (is_flat (close ns)) flat).0 here
flat_good (node k x ns) flat (inr there) = flat_good ns (and_parts (is_plain (close_node x)) (is_flat (close ns)) flat).1 there

-- ---- the byte order mark

bom_local : (m t : List ℕ) → skip_bom (on m t) ≡ on m (skip_bom t)
unfolding skip_bom
bom_local m [] = refl
bom_local m (a ∷ []) = elim (cases_Bool (a == 0xEF)) [ inl h ↦ rw h | inr h ↦ rw h ]
bom_local m (a ∷ b ∷ []) = elim (cases_Bool (a == 0xEF && b == 0xBB)) [ inl h ↦ rw h | inr h ↦ rw h ]
bom_local m (a ∷ b ∷ c ∷ t) = elim (cases_Bool ((a == 0xEF && b == 0xBB) && c == 0xBF)) [ inl h ↦ rw h | inr h ↦ rw h ]

bom_ends : (t : List ℕ) → ends t ≡ true → ends (skip_bom t) ≡ true
unfolding skip_bom
bom_ends [] h = absurd (false≢true h)
bom_ends (a ∷ []) h = elim (cases_Bool (a == 0xEF)) [ inl e ↦ rw e h | inr e ↦ rw e h ]
bom_ends (a ∷ b ∷ []) h = elim (cases_Bool (a == 0xEF && b == 0xBB)) [ inl e ↦ rw e h | inr e ↦ rw e h ]
bom_ends (a ∷ b ∷ c ∷ []) h =
    let other : (c == 0xBF) ≡ false = grind (arith, nat_tests) in
    elim (cases_Bool (a == 0xEF && b == 0xBB)) [ inl e ↦ rw (e, other) h | inr e ↦ rw e h ]
bom_ends (a ∷ b ∷ c ∷ d ∷ t) h = elim (cases_Bool ((a == 0xEF && b == 0xBB) && c == 0xBF)) [ inl e ↦ rw e h | inr e ↦ rw e h ]

-- ---- the text so far

abbrev SameDocument : Document → Document → Type 0
SameDocument d w = d ≡ w

abbrev Never : Document → Type 0
Never d = ⊥

stands_same : Stands SameDocument Never
stands_same = record {
  step = λ d w e next is made. inr (next, subst (λ x. define x e ≡ Some next) is made, refl);
  worse = λ d e next bad made. bad;
}

pub read_head : (m t : List ℕ) (ms : Members) → ends t ≡ true → parse_document t ≡ Some ms → (w : Document) × (close w.0 ≡ ms) × IsReached (on m t) w (91 ∷ m)
unfolding parse_document
read_head m t ms h e =
    let (f, read, closed) = map_some (λ (d : Document). close d.0) (lines (suc (length t)) (no_nodes, []) (skip_bom t)) ms e in
    elim (lines_on SameDocument Never stands_same (suc (length t)) m (no_nodes, []) (no_nodes, []) (skip_bom t) f refl (bom_ends t h) read) [
      | inl never ↦ absurd never
      | inr found ↦
          let (far, same, more) = found in
          let (j, fits, whole) = more (length (91 ∷ m)) in
          let all : suc (length (on m t)) ≡ suc (length t) + length (91 ∷ m) = omega (arith, length-append t (91 ∷ m)) in
          (far, subst (λ (d : Document). close d.0 ≡ ms) same closed, (j, fits, rw (bom_local m t, all) whole))
    ]

-- ---- the moves

abbrev move_header : Expression
move_header = (([], move_key), array_table)

header_line : (m : List ℕ) → line (91 ∷ 91 ∷ 109 ∷ 111 ∷ 118 ∷ 101 ∷ 93 ∷ 93 ∷ 10 ∷ m) ≡ Some (move_header, 10 ∷ m)
unfolding line expression header_key key_after simple_key skip_ws
header_line m =
    let long : (length (10 ∷ m) == 0) ≡ false = grind (arith, nat_tests) in
    rw long

begin_move : (ns : Nodes) (vals : Items) (w : Document) → get_node move_key ns ≡ None → HoldsMoves ns vals w
    → define w move_header ≡ Some (insert move_key (open_array vals no_nodes) ns, move_key ∷ [])
unfolding define along_header at_key
begin_move ns vals w none (inl fresh) =
    rw (fresh.0, none, fresh.1)
begin_move ns vals w none (inr held) =
    let (done, last, is, closed) = held in
    rw (is, get_node-insert move_key (open_array done last) ns, replace-insert move_key (open_array done last) (open_array (push_item done (table (close last))) no_nodes) ns, closed)

-- the header of a move
after_header : (text m : List ℕ) (ns : Nodes) (vals : Items) (w : Document) → get_node move_key ns ≡ None → HoldsMoves ns vals w
    → IsReached text w (91 ∷ 91 ∷ 109 ∷ 111 ∷ 118 ∷ 101 ∷ 93 ∷ 93 ∷ 10 ∷ m)
    → (j : ℕ) × (length (10 ∷ m) ≤ j) × (lines (suc (length text)) (no_nodes, []) (skip_bom text) ≡ lines (suc j) (insert move_key (open_array vals no_nodes) ns, move_key ∷ []) (10 ∷ m))
unfolding skip_from
after_header text m ns vals w none held (zero, fits, is) = absurd (omega arith)
after_header text m ns vals w none held (suc j, fits, is) =
    let r = 91 ∷ 91 ∷ 109 ∷ 111 ∷ 118 ∷ 101 ∷ 93 ∷ 93 ∷ 10 ∷ m in
    let long : (length r == 0) ≡ false = grind (arith, nat_tests) in
    let less : suc (suc j) - 1 ≡ suc j = omega arith in
    let next : Document = (insert move_key (open_array vals no_nodes) ns, move_key ∷ []) in
    (j, omega arith, is ∙ lines_more (suc (suc j)) w next r move_header (10 ∷ m) (omega arith) long (header_line m) (begin_move ns vals w none held) ∙ ap (λ n. lines n next (10 ∷ m)) less)

-- a move with another after it
pub read_block : (text m b : List ℕ) (ns : Nodes) (vals : Items) (w : Document) (ms : Members) → get_node move_key ns ≡ None → HoldsMoves ns vals w
    → IsReached text w (91 ∷ 91 ∷ 109 ∷ 111 ∷ 118 ∷ 101 ∷ 93 ∷ 93 ∷ on m (10 ∷ b)) → ends (10 ∷ b) ≡ true → parse_document (10 ∷ b) ≡ Some ms → is_flat ms ≡ true
    → (far : Document) × HoldsMoves ns (push_item vals (table ms)) far × IsReached text far (91 ∷ m)
unfolding parse_document skip_bom
read_block text m b ns vals w ms none held reached h e flat =
    let t = 10 ∷ b in
    let start : Document = (insert move_key (open_array vals no_nodes) ns, move_key ∷ []) in
    let (j, fits, is) = after_header text (b ++ 91 ∷ m) ns vals w none held reached in
    let (f, read, closed) = map_some (λ (d : Document). close d.0) (lines (suc (length t)) (no_nodes, []) t) ms e in
    elim (lines_on (IsLast move_key vals ns) IsBad (stands_last move_key vals ns) (suc (length t)) m (no_nodes, []) start t f (refl, refl) h read) [
      | inl bad ↦ absurd (flat_good f.0 (rw closed flat) bad)
      | inr found ↦
          let (far, last, more) = found in
          let (i, far_fits, whole) = more (j - length t) in
          let long : length (on m t) ≡ length t + length (91 ∷ m) = length-append t (91 ∷ m) in
          let fuel : suc j ≡ suc (length t) + (j - length t) = omega arith in (
            far,
            inr (vals, f.0, ap (λ (d : Document). d.0) last.0, rw closed),
            (i, omega arith, is ∙ ap (λ n. lines n start (on m t)) fuel ∙ whole),
          )
    ]

-- the last move
pub read_last : (text b : List ℕ) (ns : Nodes) (vals : Items) (w : Document) (ms : Members) → get_node move_key ns ≡ None → HoldsMoves ns vals w
    → IsReached text w (91 ∷ 91 ∷ 109 ∷ 111 ∷ 118 ∷ 101 ∷ 93 ∷ 93 ∷ 10 ∷ b) → parse_document (10 ∷ b) ≡ Some ms → is_flat ms ≡ true
    → (last : Nodes) × (close last ≡ ms) × (parse_document text ≡ Some (close (insert move_key (open_array vals last) ns)))
unfolding parse_document skip_bom
read_last text b ns vals w ms none held reached e flat =
    let t = 10 ∷ b in
    let start : Document = (insert move_key (open_array vals no_nodes) ns, move_key ∷ []) in
    let (j, fits, is) = after_header text b ns vals w none held reached in
    let (f, read, closed) = map_some (λ (d : Document). close d.0) (lines (suc (length t)) (no_nodes, []) t) ms e in
    elim (lines_out (IsLast move_key vals ns) IsBad (stands_last move_key vals ns) (suc (length t)) (no_nodes, []) start t f (refl, refl) read) [
      | inl bad ↦ absurd (flat_good f.0 (rw closed flat) bad)
      | inr found ↦
          let (far, last, more) = found in
          let fuel : suc j ≡ suc (length t) + (j - length t) = omega arith in
          let all = is ∙ ap (λ n. lines n start t) fuel ∙ more (j - length t) in
          (f.0, closed, ap (option_map (λ (d : Document). close d.0)) all ∙ ap (λ (d : Document). Some (close d.0)) last.0)
    ]

-- ---- what stands at the keys

found_closed : (o : Ordering) (x : Node) (rest : Option Data) (more : Option Node) → rest ≡ option_map close_node more
    → match_ordering o rest (Some (close_node x)) rest ≡ option_map close_node (cond (is_eq o) (Some x) more)
found_closed Less x rest more e = e
found_closed Equal x rest more e = refl
found_closed Greater x rest more e = e

pub closed_get : (k : List ℕ) (ns : Nodes) → get_member k (close ns) ≡ option_map close_node (get_node k ns)
closed_get k no_nodes = refl
closed_get k (node l x ns) = found_closed (slice_cmp nat_cmp k l) x (get_member k (close ns)) (get_node k ns) (closed_get k ns)

none_mapped : (o : Option Node) → option_map close_node o ≡ None → o ≡ None
none_mapped None e = refl
none_mapped (Some x) e = absurd (none-some _ (sym e))

pub absent_node : (k : List ℕ) (ns : Nodes) → get_member k (close ns) ≡ None → get_node k ns ≡ None
absent_node k ns e = none_mapped (get_node k ns) (sym (closed_get k ns) ∙ e)

beside : (o : Ordering) (k l : List ℕ) (x y : Node) (ns more : Nodes) (other : List ℕ) → is_eq o ≡ false → same_key other k ≡ false → get_node other more ≡ get_node other ns
    → get_node other (match_ordering o (node k x (node l y ns)) (node l x ns) (node l y more)) ≡ get_node other (node l y ns)
beside Less k l x y ns more other new distinct e = rw distinct
beside Equal k l x y ns more other new distinct e = absurd (true≢false new)
beside Greater k l x y ns more other new distinct e = rw e

-- the other keys
pub others_there : (k : List ℕ) (x : Node) (ns : Nodes) (other : List ℕ) → get_node k ns ≡ None → same_key other k ≡ false → get_node other (insert k x ns) ≡ get_node other ns
others_there k x no_nodes other none distinct = rw distinct
others_there k x (node l y ns) other none distinct =
    let (new, more) = found_or_not (same_key k l) y (get_node k ns) none in
    beside (slice_cmp nat_cmp k l) k l x y ns (insert k x ns) other new distinct (others_there k x ns other more distinct)
