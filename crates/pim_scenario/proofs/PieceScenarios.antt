-- What is read before the moves, and then move by move, is what the whole document says.
use Rattle.std.{proofs.{Common.{◌≡◌, ℕ, suc, ◌-◌, ◌<◌, Bool, true, false, List, [], ◌∷◌, ◌++◌, length, get_or, take, drop, slice_index, slice_index_or, nat_eq, codes, Option, Some, None, is_some, option_map, refl, sym, ap, ◌∙◌, subst, inl, inr, arith, Ordering, Less, Equal, Greater, nat_cmp}, lemmas.{Bool.{and_parts, and_from, or_cases, false≢true, eqb-true, OnTrue_from}, List.take-append-drop, Slice.Eq.bytes_eq-Decides}}, specs.{Bool.OnTrue, List.AllZip, Ordering.match_ordering, Cmp.Lexicographic.slice_cmp, Str.bytes_eq}}
use Rattle.toml.{specs.{Data.{Data, array, table, Items, no_items, item, Members, no_members, member, push_item, get_member}, Tables.{Node, Nodes, no_nodes, node, open_array, close, close_node, insert, get_node}, Parse.parse_document}, proofs.NodeLaws.get_node-insert}
use Rattle.pim_scenario.{specs.{declared.scenario.{RouterText.RouterText, ScenarioMove.ScenarioMove, Scenario.Scenario}, Fields.{has_only, is_known, list_of, list_or_empty, read_or, values_of}, Pieces.{ends, move_key, BeginsLine, IsMoveText, BeginsHeader, IsCut, IsReached, HasMoves, EndsWithMoves, SaysMoves, IsMoveAlone}, Scenario.{AreRouters, IsMove, IsReadFrom, IsTable}}, proofs.{PieceBytes.on, PieceDocuments.{read_head, read_block, read_last, closed_get, absent_node, others_there}, ReadLemmas.zip_push}}

-- ---- parts of a text

pub ends_at : (t : List ℕ) → 0 < length t → get_or t (length t - 1) 0 ≡ 10 → ends t ≡ true
ends_at [] some last = absurd (omega arith)
ends_at (c ∷ []) some last = rw last
ends_at (c ∷ d ∷ t) some last =
    let less : suc (suc (length t)) - 1 ≡ suc (length t) = omega arith in
    let back : suc (length t) - 1 ≡ length t = omega arith in
    ends_at (d ∷ t) (omega arith) (rw back (rw less at last))

pub ends_test : (t bytes : List ℕ) → bytes ≡ t → 0 < length bytes → OnTrue (nat_eq (slice_index_or bytes (length bytes - 1) 0) 10) (ends t ≡ true)
ends_test t bytes is some = OnTrue_from _ _ (λ e. subst (λ (x : List ℕ). ends x ≡ true) is (ends_at bytes some (eqb-true _ 10 e)))

-- a test of what is made of a value
pub mapped_test : {A B : Type 0} (f : A → B) (r : Option A) (o : Option B) (b : Bool) → option_map f r ≡ o → b ≡ is_some r → b ≡ is_some o
mapped_test f None o b e t = t ∙ ap is_some e
mapped_test f (Some x) o b e t = t ∙ ap is_some e

pub header_text : (text header rest : List ℕ) → header ≡ take 8 text → rest ≡ drop 8 text → header ≡ codes "[[move]]" → BeginsLine rest → IsMoveText text rest
header_text text header rest front back is begins =
    (sym (take-append-drop 8 text) ∙ ap (λ (t : List ℕ). t ++ drop 8 text) (sym front ∙ is) ∙ ap (λ (t : List ℕ). codes "[[move]]" ++ t) (sym back), begins)

pub cut_text : (text front back : List ℕ) (n : ℕ) → front ≡ take n text → back ≡ drop n text → ends front ≡ true → BeginsHeader back → IsCut text front back
cut_text text front back n is_front is_back over begins = (rw (is_front, is_back) (sym (take-append-drop n text)), over, begins)

-- a part that begins a text begins as the text does
front_line : (block next b : List ℕ) → ends block ≡ true → block ++ next ≡ 10 ∷ b → BeginsLine block
front_line [] next b h e = absurd (false≢true h)
front_line (c ∷ t) next b h e = (t, ap (λ (x : List ℕ). slice_index x 0 ∷ t) e)

-- ---- keys

pub known_router : (l : List ℕ) → is_known (codes "router" ∷ []) l ≡ true → codes "router" ≡ l
known_router l h = elim (or_cases (bytes_eq (codes "router") l) false h) [
  | inl here ↦ (bytes_eq-Decides (codes "router") l).0 here
  | inr never ↦ absurd (false≢true never)
]

no_move : (ms : Members) → has_only (codes "router" ∷ []) ms ≡ true → get_member move_key ms ≡ None
no_move no_members h = refl
no_move (member l d ms) h =
    let (here, more) = and_parts (is_known (codes "router" ∷ []) l) (has_only (codes "router" ∷ []) ms) h in
    rw (← known_router l here) (no_move ms more)

known_more : (l : List ℕ) → is_known (codes "router" ∷ []) l ≡ true → is_known (codes "router" ∷ codes "move" ∷ []) l ≡ true
known_more l h = rw (← known_router l h)

only_more : (ms : Members) → has_only (codes "router" ∷ []) ms ≡ true → has_only (codes "router" ∷ codes "move" ∷ []) ms ≡ true
only_more no_members h = refl
only_more (member l d ms) h =
    let (here, more) = and_parts (is_known (codes "router" ∷ []) l) (has_only (codes "router" ∷ []) ms) h in
    and_from (is_known (codes "router" ∷ codes "move" ∷ []) l) (has_only (codes "router" ∷ codes "move" ∷ []) ms) (known_more l here) (only_more ms more)

abbrev both : List (List ℕ)
both = codes "router" ∷ codes "move" ∷ []

placed_only : (o : Ordering) (l : List ℕ) (x y : Node) (ns more : Nodes) → is_known both l ≡ true → has_only both (close ns) ≡ true → has_only both (close more) ≡ true
    → has_only both (close (match_ordering o (node move_key x (node l y ns)) (node l x ns) (node l y more))) ≡ true
placed_only Less l x y ns more known rest others = rw (known, rest)
placed_only Equal l x y ns more known rest others = rw (known, rest)
placed_only Greater l x y ns more known rest others = rw (known, others)

only_inserted : (x : Node) (ns : Nodes) → has_only both (close ns) ≡ true → has_only both (close (insert move_key x ns)) ≡ true
only_inserted x no_nodes h = refl
only_inserted x (node l y ns) h =
    let (here, more) = and_parts (is_known both l) (has_only both (close ns)) h in
    placed_only (slice_cmp nat_cmp move_key l) l x y ns (insert move_key x ns) here more (only_inserted x ns more)

-- ---- the scenario

values_push : (vals : Items) (d : Data) → values_of (push_item vals d) ≡ values_of vals ++ d ∷ []
values_push no_items d = refl
values_push (item e vals) d = ap (λ (xs : List Data). e ∷ xs) (values_push vals d)

-- one more move
pushed : (routers : List RouterText) (vals : Items) (ms : Members) (moves new : List ScenarioMove) (m : ScenarioMove) → new ≡ moves ++ m ∷ []
    → AllZip (IsTable (IsMove routers)) (values_of vals) moves → IsMove routers ms m → AllZip (IsTable (IsMove routers)) (values_of (push_item vals (table ms))) new
pushed routers vals ms moves new m put all one =
    rw (values_push vals (table ms), put) (zip_push (IsTable (IsMove routers)) (values_of vals) moves (table ms) m all (ms, refl, one))

-- the text that is left, with its parts
left_text : (rest body block next b m : List ℕ) → IsMoveText rest body → body ≡ block ++ next → block ≡ 10 ∷ b → next ≡ 91 ∷ m
    → rest ≡ 91 ∷ 91 ∷ 109 ∷ 111 ∷ 118 ∷ 101 ∷ 93 ∷ 93 ∷ on m (10 ∷ b)
left_text rest body block next b m header split front back = header.0 ∙ rw (split, front, back)

pub next_move : (text : List ℕ) (ns : Nodes) (routers : List RouterText) (moves new : List ScenarioMove) (rest body block next : List ℕ) (m : ScenarioMove) → get_node move_key ns ≡ None
    → HasMoves text ns routers moves rest → IsMoveText rest body → IsCut body block next → IsMoveAlone block routers m → new ≡ moves ++ m ∷ [] → HasMoves text ns routers new next
next_move text ns routers moves new rest body block next m none has header cut alone put =
    let (vals, w, held, reached, all) = has in
    let (split, over, bracket) = cut in
    let (tail, back) = bracket in
    let (ms, parsed, flat, says) = alone in
    let (b, front) = front_line block next header.1.0 over (sym split ∙ header.1.1) in
    let here : IsReached text w (91 ∷ 91 ∷ 109 ∷ 111 ∷ 118 ∷ 101 ∷ 93 ∷ 93 ∷ on tail (10 ∷ b)) =
    subst (λ (t : List ℕ). IsReached text w t) (left_text rest body block next b tail header split front back) reached in
    let (far, held_more, further) = read_block text tail b ns vals w ms none held here
    (subst (λ (t : List ℕ). ends t ≡ true) front over) (subst (λ (t : List ℕ). parse_document t ≡ Some ms) front parsed) flat in
    (push_item vals (table ms), far, held_more, subst (λ (t : List ℕ). IsReached text far t) (sym back) further, pushed routers vals ms moves new m put all says)

pub last_move : (text : List ℕ) (ns : Nodes) (routers : List RouterText) (moves new : List ScenarioMove) (rest body : List ℕ) (m : ScenarioMove) → get_node move_key ns ≡ None
    → HasMoves text ns routers moves rest → IsMoveText rest body → IsMoveAlone body routers m → new ≡ moves ++ m ∷ [] → EndsWithMoves text ns routers new
last_move text ns routers moves new rest body m none has header alone put =
    let (vals, w, held, reached, all) = has in
    let (ms, parsed, flat, says) = alone in
    let (b, front) = header.1 in
    let here : IsReached text w (91 ∷ 91 ∷ 109 ∷ 111 ∷ 118 ∷ 101 ∷ 93 ∷ 93 ∷ 10 ∷ b) =
    subst (λ (t : List ℕ). IsReached text w t) (header.0 ∙ ap (λ (t : List ℕ). codes "[[move]]" ++ t) front) reached in
    let (last, closed, whole) = read_last text b ns vals w ms none held here (subst (λ (t : List ℕ). parse_document t ≡ Some ms) front parsed) flat in
    (push_item vals (table ms), open_array vals last, ap (λ (x : Members). array (push_item vals (table x))) closed, whole, pushed routers vals ms moves new m put all says)

-- what stands at `router` beside the moves
routers_beside : (x : Node) (ns : Nodes) (ms : Members) → close ns ≡ ms → get_node move_key ns ≡ None → list_or_empty (codes "router") (close (insert move_key x ns)) ≡ list_or_empty (codes "router") ms
routers_beside x ns ms closed none =
    let same : get_member (codes "router") (close (insert move_key x ns)) ≡ get_member (codes "router") (close ns) =
    closed_get (codes "router") (insert move_key x ns) ∙ ap (option_map close_node) (others_there move_key x ns (codes "router") none refl) ∙ sym (closed_get (codes "router") ns) in
    rw (same, closed)

pub whole_scenario : (text front back : List ℕ) (ms : Members) (ds : List Data) (s : Scenario) → IsCut text front back → parse_document front ≡ Some ms → has_only (codes "router" ∷ []) ms ≡ true
    → Some ds ≡ list_or_empty (codes "router") ms → AreRouters ds s.routers → SaysMoves back s.routers s.moves → IsReadFrom text s
whole_scenario text front back ms ds s cut parsed only at_router routers says =
    let (split, over, bracket) = cut in
    let (tail, is_back) = bracket in
    let whole : text ≡ on tail front = split ∙ ap (λ (t : List ℕ). front ++ t) is_back in
    let (w, closed, reached) = read_head tail front ms over parsed in
    let ns = w.0 in
    let none : get_node move_key ns ≡ None = absent_node move_key ns (ap (get_member move_key) closed ∙ no_move ms only) in
    let there : IsReached text w back =
    subst (λ (t : List ℕ). IsReached text w t) (sym is_back) (subst (λ (t : List ℕ). IsReached t w (91 ∷ tail)) (sym whole) reached) in
    let (vals, x, is_array, read, all) = says text ns none (no_items, w, inl (refl, refl), there, tt) in
    let keys : has_only both (close ns) ≡ true = only_more (close ns) (ap (has_only (codes "router" ∷ [])) closed ∙ only) in
    let at_moves : get_member move_key (close (insert move_key x ns)) ≡ Some (array vals) =
    closed_get move_key (insert move_key x ns) ∙ ap (option_map close_node) (get_node-insert move_key x ns) ∙ ap (λ (d : Data). Some d) is_array in (
      close (insert move_key x ns),
      read,
      record {
        keys = only_inserted x ns keys;
        routers = (ds, routers_beside x ns ms closed none ∙ sym at_router, routers);
        moves = (values_of vals, ap (read_or list_of []) at_moves, all);
      },
    )
