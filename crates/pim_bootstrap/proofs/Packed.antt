-- What fragments have, how long they are, and how they are written.
use Rattle.std.{proofs.{Common.{◌≡◌, ℕ, ◌+◌, ◌≤◌, Bool, true, false, cond, nat_le, List, [], ◌∷◌, ◌++◌, fold, length, map, take, drop, refl, sym, ap, ◌∙◌, arith, append_assoc, append-nil}, lemmas.{Bool.{Decides.nat_tests}, Grind.flat_map-append, List.{flat_map_more, length-append, length-take, length-drop, map-append, Elements.{All-append, All-cons, All-drop, All-head, All-map, All-nil, All-push, All-tail, All-take, All-weaker}, Sums.fold-append}}}, specs.List.{All, flat_map}}
use Rattle.pim_ip.{specs.{Checksum.with_checksum}}
use Rattle.pim_bootstrap.{specs.{declared.fragments.BootstrapHead.BootstrapHead, Bootstraps.{Bootstrap, BootstrapRange, IsCandidate, IsRange, bootstrap_text, range_text}, Fragments.{Fits, FragmentsFit, FragmentsHaveAll, FragmentsRead, IsCounted, IsHead, IsSayable, Packing, RangeRps, ReadsBack, fragment_of, fragments, has_room, most_bytes, most_together, nothing_packed, packed, packing, piece_of, pieces_of, with_piece}, FragmentTexts.{Texts, begun, ended, extended, head_text, range_length, summed, with_text, with_texts}}, proofs.ReadsBack.{bootstrap_reads, length-range}}

-- ---- bytes

-- a fragment's bytes, and those of one that has 0 for its checksum
abbrev text_of : BootstrapHead → List BootstrapRange → List ℕ
text_of h rs = bootstrap_text (fragment_of h rs)

abbrev unsummed : BootstrapHead → List BootstrapRange → List ℕ
unsummed h rs = head_text h ++ flat_map range_text rs

summed_is : (h : BootstrapHead) (rs : List BootstrapRange) → summed (unsummed h rs) ≡ text_of h rs
unfolding bootstrap_text with_checksum
summed_is h rs = refl

length-unsummed : (h : BootstrapHead) (rs : List BootstrapRange) → length (unsummed h rs) ≡ 14 + length (flat_map range_text rs)
length-unsummed h rs = omega arith

length-text : (h : BootstrapHead) (rs : List BootstrapRange) → length (text_of h rs) ≡ 14 + length (flat_map range_text rs)
unfolding bootstrap_text with_checksum
length-text h rs = omega arith

-- one more range
length-more : (h : BootstrapHead) (rs : List BootstrapRange) (r : BootstrapRange)
    → length (text_of h (rs ++ r ∷ [])) ≡ length (unsummed h rs) + range_length r
length-more h rs r =
    let behind : flat_map range_text (rs ++ r ∷ []) ≡ flat_map range_text rs ++ range_text r =
    flat_map-append range_text rs (r ∷ []) ∙ ap (λ (xs : List ℕ). flat_map range_text rs ++ xs) (append-nil (range_text r)) in
    omega (arith, length-text h (rs ++ r ∷ []), length-unsummed h rs, ap length behind, length-append (flat_map range_text rs) (range_text r), length-range r)

-- ---- how they are written

abbrev texts_of : BootstrapHead → Packing → Texts
texts_of h p = record { full = map (text_of h) p.full; current = unsummed h p.current }

written_if : (h : BootstrapHead) (p : Packing) (r : BootstrapRange) (b : Bool)
    → texts_of h (cond b (record { full = p.full; current = p.current ++ r ∷ [] }) (record { full = p.full ++ p.current ∷ []; current = r ∷ [] }))
    ≡ cond b (extended (texts_of h p) r) (extended (ended h (texts_of h p)) r)
written_if h p r true =
    ap (λ (bytes : List ℕ). let t : Texts = record { full = map (text_of h) p.full; current = bytes } in t) (sym (flat_map_more range_text (head_text h) p.current r))
written_if h p r false =
    let full : map (text_of h) (p.full ++ p.current ∷ []) ≡ map (text_of h) p.full ++ summed (unsummed h p.current) ∷ [] =
    map-append (text_of h) p.full (p.current ∷ []) ∙ ap (λ (bytes : List ℕ). map (text_of h) p.full ++ bytes ∷ []) (sym (summed_is h p.current)) in
    let current : head_text h ++ flat_map range_text (r ∷ []) ≡ head_text h ++ range_text r =
    ap (λ (bytes : List ℕ). head_text h ++ bytes) (append-nil (range_text r)) in
    ap (λ (bytes : List (List ℕ)). let t : Texts = record { full = bytes; current = head_text h ++ flat_map range_text (r ∷ []) } in t) full
    ∙ ap (λ (bytes : List ℕ). let t : Texts = record { full = map (text_of h) p.full ++ summed (unsummed h p.current) ∷ []; current = bytes } in t) current

written_piece : (h : BootstrapHead) (p : Packing) (r : BootstrapRange) → texts_of h (with_piece h p r) ≡ with_text h (texts_of h p) r
unfolding with_piece with_text has_room
written_piece h p r =
    written_if h p r (nat_le (length (text_of h (p.current ++ r ∷ []))) most_bytes)
    ∙ ap (λ (n : ℕ). cond (nat_le n most_bytes) (extended (texts_of h p) r) (extended (ended h (texts_of h p)) r)) (length-more h p.current r)

written_pieces : (h : BootstrapHead) (p : Packing) (rs : List BootstrapRange)
    → texts_of h (fold (with_piece h) p rs) ≡ fold (with_text h) (texts_of h p) rs
written_pieces h p [] = refl
written_pieces h p (r ∷ rs) =
    written_pieces h (with_piece h p r) rs ∙ ap (λ (t : Texts). fold (with_text h) t rs) (written_piece h p r)

-- the ranges of one after the other
written_ranges : (h : BootstrapHead) (t : Texts) (gs : List RangeRps)
    → fold (with_text h) t (flat_map pieces_of gs) ≡ fold (with_texts h) t gs
written_ranges h t [] = refl
written_ranges h t (g ∷ gs) =
    fold-append (with_text h) t (pieces_of g) (flat_map pieces_of gs) ∙ written_ranges h (with_texts h t g) gs

texts_map : (h : BootstrapHead) (xs : List (List BootstrapRange)) → map bootstrap_text (map (fragment_of h) xs) ≡ map (text_of h) xs
texts_map h [] = refl
texts_map h (x ∷ xs) = ap (λ (rest : List (List ℕ)). text_of h x ∷ rest) (texts_map h xs)

-- the messages are the fragments
pub written : (h : BootstrapHead) (gs : List RangeRps) (t : Texts) → t ≡ fold (with_texts h) (begun h) gs
    → t.full ++ summed t.current ∷ [] ≡ map bootstrap_text (fragments h gs)
unfolding fragments packing
written h gs t e =
    let p : Packing = packing h (flat_map pieces_of gs) in
    let is : t ≡ texts_of h p =
    e ∙ sym (written_ranges h (begun h) gs)
    ∙ ap (λ (bytes : List ℕ). fold (with_text h) (let u : Texts = record { full = []; current = bytes } in u) (flat_map pieces_of gs)) (sym (append-nil (head_text h)))
    ∙ sym (written_pieces h nothing_packed (flat_map pieces_of gs)) in
    ap (λ (u : Texts). u.full ++ summed u.current ∷ []) is
    ∙ ap (λ (bytes : List ℕ). map (text_of h) p.full ++ bytes ∷ []) (summed_is h p.current)
    ∙ sym (map-append (text_of h) p.full (p.current ∷ []))
    ∙ sym (texts_map h (packed p))

-- ---- all ranges, each once

abbrev ranges_in : BootstrapHead → Packing → List BootstrapRange
ranges_in h p = flat_map (λ (m : Bootstrap). m.ranges) (map (fragment_of h) (packed p))

joined_ranges : (h : BootstrapHead) (xs : List (List BootstrapRange)) (rs : List BootstrapRange)
    → flat_map (λ (m : Bootstrap). m.ranges) (map (fragment_of h) (xs ++ rs ∷ [])) ≡ flat_map (λ (m : Bootstrap). m.ranges) (map (fragment_of h) xs) ++ rs
joined_ranges h [] rs = append-nil rs
joined_ranges h (x ∷ xs) rs =
    ap (λ (rest : List BootstrapRange). x ++ rest) (joined_ranges h xs rs)
    ∙ sym (append_assoc x (flat_map (λ (m : Bootstrap). m.ranges) (map (fragment_of h) xs)) rs)

has_one_more : (h : BootstrapHead) (p : Packing) (r : BootstrapRange) (b : Bool)
    → ranges_in h (cond b (record { full = p.full; current = p.current ++ r ∷ [] }) (record { full = p.full ++ p.current ∷ []; current = r ∷ [] }))
    ≡ ranges_in h p ++ r ∷ []
has_one_more h p r true =
    joined_ranges h p.full (p.current ++ r ∷ [])
    ∙ sym (append_assoc (flat_map (λ (m : Bootstrap). m.ranges) (map (fragment_of h) p.full)) p.current (r ∷ []))
    ∙ ap (λ (xs : List BootstrapRange). xs ++ r ∷ []) (sym (joined_ranges h p.full p.current))
has_one_more h p r false = joined_ranges h (p.full ++ p.current ∷ []) (r ∷ [])

have_more : (h : BootstrapHead) (p : Packing) (rs : List BootstrapRange) → ranges_in h (fold (with_piece h) p rs) ≡ ranges_in h p ++ rs
unfolding with_piece
have_more h p [] = sym (append-nil (ranges_in h p))
have_more h p (r ∷ rs) =
    have_more h (with_piece h p r) rs
    ∙ ap (λ (xs : List BootstrapRange). xs ++ rs) (has_one_more h p r (has_room h p.current r))
    ∙ append_assoc (ranges_in h p) (r ∷ []) rs

pub fragments_have_all : FragmentsHaveAll
unfolding fragments packing
fragments_have_all h gs = have_more h nothing_packed (flat_map pieces_of gs)

-- ---- their lengths

-- the range has no more RPs than one fragment holds
abbrev IsShort : BootstrapRange → Type 0
IsShort r = length r.rps ≤ most_together

pieces_if : (g : RangeRps) (b : Bool) → nat_le (length g.rps) most_together ≡ b → IsCounted g
    → All IsShort (cond b (piece_of g g.rps ∷ []) (piece_of g (take most_together g.rps) ∷ piece_of g (drop most_together g.rps) ∷ []))
pieces_if g true e few = All-cons IsShort (piece_of g g.rps) [] (grind (arith, nat_tests, e)) (All-nil IsShort)
pieces_if g false e few =
    All-cons IsShort (piece_of g (take most_together g.rps)) (piece_of g (drop most_together g.rps) ∷ []) (omega (arith, length-take most_together g.rps))
    (All-cons IsShort (piece_of g (drop most_together g.rps)) [] (omega (arith, length-drop most_together g.rps)) (All-nil IsShort))

pieces_short : (gs : List RangeRps) → All IsCounted gs → All IsShort (flat_map pieces_of gs)
unfolding pieces_of
pieces_short [] few = All-nil IsShort
pieces_short (g ∷ gs) few =
    All-append IsShort (pieces_of g) (flat_map pieces_of gs)
    (pieces_if g (nat_le (length g.rps) most_together) refl (All-head IsCounted g gs few))
    (pieces_short gs (All-tail IsCounted g gs few))

-- the ranges have room in one message
abbrev Together : BootstrapHead → List BootstrapRange → Type 0
Together h rs = length (text_of h rs) ≤ most_bytes

record IsPacked (h : BootstrapHead) (p : Packing) : Type 0 where
  full : All (Together h) p.full
  current : Together h p.current

fits_if : (h : BootstrapHead) (p : Packing) (r : BootstrapRange) (b : Bool) → has_room h p.current r ≡ b → IsShort r → IsPacked h p
    → IsPacked h (cond b (record { full = p.full; current = p.current ++ r ∷ [] }) (record { full = p.full ++ p.current ∷ []; current = r ∷ [] }))
unfolding has_room
fits_if h p r true e short fit = record { full = fit.full; current = grind (arith, nat_tests, e) }
fits_if h p r false e short fit = record {
  full = All-push (Together h) p.full p.current fit.full fit.current;
  current = omega (arith, length-more h [] r, length-unsummed h []);
}

all_fit : (h : BootstrapHead) (p : Packing) (rs : List BootstrapRange) → All IsShort rs → IsPacked h p → IsPacked h (fold (with_piece h) p rs)
unfolding with_piece
all_fit h p [] short fit = fit
all_fit h p (r ∷ rs) short fit =
    all_fit h (with_piece h p r) rs (All-tail IsShort r rs short)
    (fits_if h p r (has_room h p.current r) refl (All-head IsShort r rs short) fit)

pub fragments_fit : FragmentsFit
unfolding fragments packing
fragments_fit h gs few =
    let none : IsPacked h nothing_packed = record { full = All-nil (Together h); current = omega (arith, length-text h []) } in
    let fit = all_fit h nothing_packed (flat_map pieces_of gs) (pieces_short gs few) none in
    let p : Packing = packing h (flat_map pieces_of gs) in
    All-map Fits (fragment_of h) (packed p) (All-push (Together h) p.full p.current fit.full fit.current)

-- ---- that each reads back

pieces_said_if : (g : RangeRps) (b : Bool) → IsSayable g
    → All IsRange (cond b (piece_of g g.rps ∷ []) (piece_of g (take most_together g.rps) ∷ piece_of g (drop most_together g.rps) ∷ []))
pieces_said_if g true is =
    All-cons IsRange (piece_of g g.rps) [] (record {
      group = is.group;
      shortest = is.shortest;
      longest = is.longest;
      counted = is.counted;
      few = is.counted;
      rps = is.rps;
    }) (All-nil IsRange)
pieces_said_if g false is =
    All-cons IsRange (piece_of g (take most_together g.rps)) (piece_of g (drop most_together g.rps) ∷ []) (record {
      group = is.group;
      shortest = is.shortest;
      longest = is.longest;
      counted = is.counted;
      few = omega (arith, is.counted, length-take most_together g.rps);
      rps = All-take IsCandidate most_together g.rps is.rps;
    })
    (All-cons IsRange (piece_of g (drop most_together g.rps)) [] (record {
      group = is.group;
      shortest = is.shortest;
      longest = is.longest;
      counted = is.counted;
      few = omega (arith, is.counted, length-drop most_together g.rps);
      rps = All-drop IsCandidate most_together g.rps is.rps;
    }) (All-nil IsRange))

pieces_said : (gs : List RangeRps) → All IsSayable gs → All IsRange (flat_map pieces_of gs)
unfolding pieces_of
pieces_said [] are = All-nil IsRange
pieces_said (g ∷ gs) are =
    All-append IsRange (pieces_of g) (flat_map pieces_of gs)
    (pieces_said_if g (nat_le (length g.rps) most_together) (All-head IsSayable g gs are))
    (pieces_said gs (All-tail IsSayable g gs are))

abbrev AreRanges : List BootstrapRange → Type 0
AreRanges rs = All IsRange rs

record IsSaid (p : Packing) : Type 0 where
  full : All AreRanges p.full
  current : All IsRange p.current

said_if : (p : Packing) (r : BootstrapRange) (b : Bool) → IsRange r → IsSaid p
    → IsSaid (cond b (record { full = p.full; current = p.current ++ r ∷ [] }) (record { full = p.full ++ p.current ∷ []; current = r ∷ [] }))
said_if p r true is said = record { full = said.full; current = All-push IsRange p.current r said.current is }
said_if p r false is said = record {
  full = All-push AreRanges p.full p.current said.full said.current;
  current = All-cons IsRange r [] is (All-nil IsRange);
}

all_said : (h : BootstrapHead) (p : Packing) (rs : List BootstrapRange) → All IsRange rs → IsSaid p → IsSaid (fold (with_piece h) p rs)
unfolding with_piece
all_said h p [] are said = said
all_said h p (r ∷ rs) are said =
    all_said h (with_piece h p r) rs (All-tail IsRange r rs are) (said_if p r (has_room h p.current r) (All-head IsRange r rs are) said)

fragment_reads : (h : BootstrapHead) (rs : List BootstrapRange) → IsHead h → All IsRange rs → ReadsBack (fragment_of h rs)
fragment_reads h rs is are = bootstrap_reads (fragment_of h rs) is.tag is.mask is.priority is.bsr are

pub fragments_read : FragmentsRead
unfolding fragments packing
fragments_read h gs is are =
    let none : IsSaid nothing_packed = record { full = All-nil AreRanges; current = All-nil IsRange } in
    let said = all_said h nothing_packed (flat_map pieces_of gs) (pieces_said gs are) none in
    let p : Packing = packing h (flat_map pieces_of gs) in
    All-map ReadsBack (fragment_of h) (packed p)
    (All-weaker AreRanges (λ rs. ReadsBack (fragment_of h rs)) (λ rs each. fragment_reads h rs is each) (packed p)
    (All-push AreRanges p.full p.current said.full said.current))
