-- How headers are written.
use Rattle.std.{proofs.{Common.{◌≡◌, ℕ, ◌+◌, ◌-◌, ◌/◌, ◌%◌, ◌≤◌, List, [], ◌∷◌, ◌++◌, length, take, drop, set, get_or, refl, sym, ap, ◌∙◌, arith}, lemmas.List.{append_assoc, drop_all, length-append, length-drop, length-set, drop-set-lt, get_or-set_other, take_more, take_more_set, drop-drop, take_at, drop_at, take-append-le, drop-append-le, length-take-le}}}
use borrow.{Rule.Slice.PartMut.put_mid}
use Rattle.byteorder.{specs.Endian.big_bytes}
use Rattle.pim_ip.{specs.{Checksum.{sum16, with_checksum}, View.lowered_header}}

-- nothing of two elements is left past two
drop-take-2 : (xs : List ℕ) → drop 2 (take 2 xs) ≡ []
drop-take-2 [] = refl
drop-take-2 (a ∷ []) = refl
drop-take-2 (a ∷ b ∷ rest) = refl

-- two bytes in the place of a checksum
put_mid-two : (bytes : List ℕ) (place a b : ℕ) (two : List ℕ) → two ≡ a ∷ b ∷ drop 2 (take 2 (drop place bytes))
    → put_mid place 2 bytes two ≡ take place bytes ++ (a ∷ b ∷ drop (place + 2) bytes)
put_mid-two bytes place a b two e = rw (e, drop-take-2 (drop place bytes), drop-drop 2 place bytes) refl

-- a checksum that is written as 0 and then as the sum of the rest
pub put_mid-checksum : (bytes zeros sum : List ℕ) (place checksum : ℕ) → place + 2 ≤ length bytes
    → zeros ≡ 0 ∷ 0 ∷ drop 2 (take 2 (drop place bytes))
    → checksum ≡ sum16 (put_mid place 2 bytes zeros)
    → sum ≡ checksum / 256 % 256 ∷ checksum % 256 ∷ drop 2 (take 2 (drop place (put_mid place 2 bytes zeros)))
    → put_mid place 2 (put_mid place 2 bytes zeros) sum ≡ with_checksum (take place bytes) (drop (place + 2) bytes)
unfolding with_checksum
put_mid-checksum bytes zeros sum place checksum long ez ec es =
    let front : List ℕ = take place bytes in
    let rest : List ℕ = drop (place + 2) bytes in
    let cleared = put_mid-two bytes place 0 0 zeros ez in
    let size = length-take-le place bytes (omega arith) in
    let set = put_mid-two (put_mid place 2 bytes zeros) place (checksum / 256 % 256) (checksum % 256) sum es in
    let first : take place (put_mid place 2 bytes zeros) ≡ front = rw cleared (take_at front (0 ∷ 0 ∷ rest) place size) in
    let last : drop (place + 2) (put_mid place 2 bytes zeros) ≡ rest =
    rw cleared (sym (drop-drop 2 place (front ++ 0 ∷ 0 ∷ rest)) ∙ ap (drop 2) (drop_at front (0 ∷ 0 ∷ rest) place size)) in
    set ∙ rw (first, last, ec, cleared) (sym (append_assoc front (big_bytes 2 (sum16 (front ++ 0 ∷ 0 ∷ rest))) rest))

-- two bytes are put in
pub length-with_checksum : (before after : List ℕ) → length (with_checksum before after) ≡ length before + 2 + length after
unfolding with_checksum
length-with_checksum before after =
    let sum : List ℕ = big_bytes 2 (sum16 (before ++ 0 ∷ 0 ∷ after)) in
    length-append (before ++ sum) after ∙ rw (length-append before sum) refl

-- a header whose fields and options were put in one after the other, and then its checksum
pub take-header : (fields options filled header : List ℕ) (n : ℕ) → length fields ≡ 20 → n ≡ 20 + length options
    → filled ≡ put_mid 20 (n - 20) (fields ++ (0 ∷ 0 ∷ 0 ∷ 0 ∷ [])) options
    → header ≡ with_checksum (take 10 (take n filled)) (drop 12 (take n filled))
    → take n (header ++ drop n filled) ≡ with_checksum (take 10 fields) (drop 12 fields ++ options)
take-header fields options filled header n len en ef eh =
    let long = length-append fields options in
    let front : take n filled ≡ fields ++ options = rw (ef, take_at fields (0 ∷ 0 ∷ 0 ∷ 0 ∷ []) 20 len, ← append_assoc) (take_at (fields ++ options) _ n (omega arith)) in
    let first : take 10 (take n filled) ≡ take 10 fields = rw front (take-append-le 10 fields options (omega arith)) in
    let last : drop 12 (take n filled) ≡ drop 12 fields ++ options = rw front (drop-append-le 12 fields options (omega arith)) in
    let is : header ≡ with_checksum (take 10 fields) (drop 12 fields ++ options) = rw (eh, first, last) refl in
    let size : length header ≡ n = rw (is, length-with_checksum (take 10 fields) (drop 12 fields ++ options), length-append (drop 12 fields) options, length-drop 12 fields, length-take-le 10 fields (omega arith)) (omega arith) in
    take_at header (drop n filled) n size ∙ is

-- the bytes before the checksum, with another time to live
pub take-set_time_to_live : (header : List ℕ) (time_to_live : ℕ) → 12 ≤ length header
    → take 10 (set header 8 time_to_live) ≡ take 8 header ++ time_to_live ∷ get_or header 9 0 ∷ []
take-set_time_to_live header time_to_live long =
    let changed : List ℕ = set header 8 time_to_live in
    let size : length changed ≡ length header = length-set header 8 time_to_live in
    let protocol : get_or changed 9 0 ≡ get_or header 9 0 = get_or-set_other header 8 9 time_to_live 0 (omega arith) in
    take_more changed 9 0 (omega arith)
    ∙ rw (take_more_set header 8 time_to_live (omega arith), protocol) (append_assoc (take 8 header) (time_to_live ∷ []) (get_or header 9 0 ∷ []))

-- two bytes in the place of the checksum of a header with another time to live
pub lowered-put : (header buf : List ℕ) (time_to_live checksum : ℕ) → 12 ≤ length header
    → buf ≡ checksum / 256 % 256 ∷ checksum % 256 ∷ drop 2 (take 2 (drop 10 (set header 8 time_to_live)))
    → time_to_live ≡ get_or header 8 0 - 1
    → checksum ≡ sum16 ((take 8 header ++ time_to_live ∷ get_or header 9 0 ∷ []) ++ 0 ∷ 0 ∷ drop 12 header)
    → put_mid 10 2 (set header 8 time_to_live) buf ≡ lowered_header header
unfolding lowered_header with_checksum
lowered-put header buf time_to_live checksum long written lower made =
    let front : List ℕ = take 8 header ++ time_to_live ∷ get_or header 9 0 ∷ [] in
    let rest : List ℕ = drop 12 header in
    put_mid-two (set header 8 time_to_live) 10 (checksum / 256 % 256) (checksum % 256) buf written
    ∙ rw (take-set_time_to_live header time_to_live long, drop-set-lt 12 header 8 time_to_live (omega arith), made) (sym (append_assoc front (big_bytes 2 (sum16 (front ++ 0 ∷ 0 ∷ rest))) rest))
    ∙ ap (λ t. with_checksum (take 8 header ++ t ∷ get_or header 9 0 ∷ []) rest) lower

-- what was put behind others, with its header changed
pub put_behind : (before header payload changed all : List ℕ) (start size : ℕ) → all ≡ before ++ (header ++ payload) → start ≡ length before
    → size ≡ length header → put_mid start size all changed ≡ before ++ (changed ++ payload)
put_behind before header payload changed all start size is at long =
    let front : take start all ≡ before = rw is (take_at before (header ++ payload) start (sym at)) in
    let back : drop size (drop start all) ≡ payload =
    rw (is, drop_at before (header ++ payload) start (sym at)) (drop_at header payload size (sym long)) in
    rw (front, back) refl

pub length-lowered : (header : List ℕ) → 12 ≤ length header → length (lowered_header header) ≡ length header
unfolding lowered_header
length-lowered header long =
    let front : List ℕ = take 8 header ++ (get_or header 8 0 - 1) ∷ get_or header 9 0 ∷ [] in
    rw (length-with_checksum front (drop 12 header), length-append (take 8 header) ((get_or header 8 0 - 1) ∷ get_or header 9 0 ∷ []), length-take-le 8 header (omega arith), length-drop 12 header)
    (omega arith)

-- a header behind others, lowered in its place
pub lowered_behind : (before header payload changed all items : List ℕ) (start size len : ℕ) → 12 ≤ length header → all ≡ items
    → items ≡ before ++ (header ++ payload) → len ≡ length items → start ≡ length before → size ≡ length header
    → changed ≡ lowered_header (take size (drop start all))
    → take len (put_mid start size all changed ++ drop (length (put_mid start size all changed)) items) ≡ before ++ (lowered_header header ++ payload)
lowered_behind before header payload changed all items start size len enough seen is counted at long made =
    let text : List ℕ = before ++ (changed ++ payload) in
    let here : take size (drop start all) ≡ header =
    rw (seen, is, drop_at before (header ++ payload) start (sym at)) (take_at header payload size (sym long)) in
    let now : changed ≡ lowered_header header = made ∙ ap lowered_header here in
    let same : length changed ≡ length header = ap length now ∙ length-lowered header enough in
    let whole : length text ≡ length items =
    rw (is, length-append before (changed ++ payload), length-append changed payload, length-append before (header ++ payload), length-append header payload) (omega (arith, same)) in
    let put = put_behind before header payload changed all start size (seen ∙ is) at long in
    rw (put, drop_all (length text) items (omega (arith, whole)))
    (take_at text [] len (omega (arith, whole, counted)) ∙ ap (λ x. before ++ (x ++ payload)) now)
