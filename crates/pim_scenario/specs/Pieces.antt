-- A document that is read piece by piece: what comes before its moves, and then each move alone.
use Rattle.std.{specs.{Prelude.{◌≡◌, ◌≤◌, ◌++◌, ◌⊎◌, ◌&&◌, ℕ, suc, Bool, true, false, not, List, [], ◌∷◌, codes, length, Option, Some, None, is_some, ◌==◌}, List.{AllZip, list_any}}}
use Rattle.toml.{specs.{Data.{Data, array, table, Items, no_items, Members, no_members, member, push_item, as_table}, Tables.{Node, Nodes, no_nodes, open_array, close, close_node, Document, insert, get_node}, Parse.{lines, skip_bom, parse_document}}}
use Rattle.pim_scenario.{specs.{declared.scenario.{RouterText.RouterText, ScenarioMove.ScenarioMove}, Fields.{list_of, values_of}, Scenario.{IsMove, IsTable}}}

-- ---- lines

-- the last byte is a newline
abbrev pub ends : List ℕ → Bool
ends [] = false
ends (c ∷ []) = c == 10
ends (c ∷ d ∷ t) = ends (d ∷ t)

-- the first byte is a newline
abbrev pub BeginsLine : List ℕ → Type 0
BeginsLine text = (rest : List ℕ) × (text ≡ 10 ∷ rest)

-- the first byte is a bracket
abbrev pub BeginsHeader : List ℕ → Type 0
BeginsHeader text = (rest : List ℕ) × (text ≡ 91 ∷ rest)

-- `[[move]]` alone on its line, and the text from the end of that line on
abbrev pub IsMoveText : List ℕ → List ℕ → Type 0
IsMoveText text rest = (text ≡ codes "[[move]]" ++ rest) × BeginsLine rest

-- the text in two parts, of which the first ends with a line and the second begins with a bracket
abbrev pub IsCut : List ℕ → List ℕ → List ℕ → Type 0
IsCut text front back = (text ≡ front ++ back) × (ends front ≡ true) × BeginsHeader back

-- ---- tables of values alone

abbrev pub is_table : Data → Bool
is_table d = is_some (as_table d)

abbrev pub has_no_table : Option (List Data) → Bool
has_no_table None = true
has_no_table (Some ds) = not (list_any is_table ds)

abbrev pub is_plain : Data → Bool
is_plain d = not (is_table d) && has_no_table (list_of d)

-- no table, and no list with a table in it
abbrev pub is_flat : Members → Bool
is_flat no_members = true
is_flat (member k d ms) = is_plain d && is_flat ms

-- ---- the document so far

abbrev pub move_key : List ℕ
move_key = codes "move"

-- after a part of the text there is this document, and this text is left
abbrev pub IsReached : List ℕ → Document → List ℕ → Type 0
IsReached text w rest =
    (j : ℕ) × (length rest ≤ j) × (lines (suc (length text)) (no_nodes, []) (skip_bom text) ≡ lines (suc j) w rest)

-- these tables stand at `move`, beside other keys
abbrev pub HoldsMoves : Nodes → Items → Document → Type 0
HoldsMoves ns vals w =
    ((w.0 ≡ ns) × (vals ≡ no_items))
    ⊎ ((done : Items) × (last : Nodes) × (w.0 ≡ insert move_key (open_array done last) ns)
    × (vals ≡ push_item done (table (close last))))

-- the text is read up to this rest, and tables that say these moves are read
abbrev pub HasMoves : List ℕ → Nodes → List RouterText → List ScenarioMove → List ℕ → Type 0
HasMoves text ns routers moves rest =
    (vals : Items) × (w : Document) × HoldsMoves ns vals w × IsReached text w rest
    × AllZip (IsTable (IsMove routers)) (values_of vals) moves

-- the text is a document, of these keys and of tables at `move` that say these moves
abbrev pub EndsWithMoves : List ℕ → Nodes → List RouterText → List ScenarioMove → Type 0
EndsWithMoves text ns routers moves =
    (vals : Items) × (x : Node) × (close_node x ≡ array vals)
    × (parse_document text ≡ Some (close (insert move_key x ns)))
    × AllZip (IsTable (IsMove routers)) (values_of vals) moves

-- whatever the text is that has this rest, the rest says these moves
abbrev pub SaysMoves : List ℕ → List RouterText → List ScenarioMove → Type 0
SaysMoves rest routers moves =
    (text : List ℕ) (ns : Nodes) → get_node move_key ns ≡ None → HasMoves text ns routers [] rest
    → EndsWithMoves text ns routers moves

-- the text alone is a table that says the move
abbrev pub IsMoveAlone : List ℕ → List RouterText → ScenarioMove → Type 0
IsMoveAlone text routers m =
    (ms : Members) × (parse_document text ≡ Some ms) × (is_flat ms ≡ true) × IsMove routers ms m
