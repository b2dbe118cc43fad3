-- Entries that were written read back.
use Rattle.std.{proofs.{Common.{◌≡◌, ℕ, zero, suc, ◌+◌, ◌≤◌, true, nat_le, IsTrue, List, [], ◌∷◌, ◌++◌, length, drop, get_or, Some, Ok, refl, sym, ap, ◌∙◌, arith, append_assoc}, lemmas.{Bool.Decides.nat_tests, List.{get_or-drop, length-drop, drop-drop, Elements.{All-head, All-tail}}}}, specs.List.{All, flat_map}}
use Rattle.byteorder.{specs.{Endian.big_from, Numbers.big_number-reads_back}}
use Rattle.pim_ip.{specs.Ipv4.is_unicast}
use Rattle.pim_wire.{specs.{declared.join_prune.{Entry.Entry, EntryKind.{EntryKind, TheVariants.{Star, Source, SourceRpt}}}, Encoded.{address_at, source_test}, JoinPrunes.{kind_of, flags_of, entry_at, entries_at, entry_text, sources_test}}}

-- a number at a place, in what stands from there on
big_from-drop : (n p i j : ℕ) (b : List ℕ) → j ≡ p + i → big_from j n b ≡ big_from i n (drop p b)
big_from-drop zero p i j b e = refl
big_from-drop (suc n) p i j b e =
    let byte : get_or b j 0 ≡ get_or (drop p b) i 0 = ap (λ (k : ℕ). get_or b k 0) e ∙ sym (get_or-drop p b i 0) in
    let rest = big_from-drop n p (suc i) (suc j) b (omega arith) in
    rw (byte, rest) refl

-- the flags tell the kind
kind_of-flags : (k : EntryKind) → kind_of (flags_of k) ≡ Some k
unfolding kind_of
kind_of-flags Star = refl
kind_of-flags Source = refl
kind_of-flags SourceRpt = refl

-- an entry before others
module _ (b : List ℕ) (p : ℕ) (e : Entry) (rest : List ℕ) (stands : drop p b ≡ entry_text e ++ rest) where
  byte : (i j : ℕ) → j ≡ p + i → get_or b j 0 ≡ get_or (entry_text e ++ rest) i 0
  byte i j is = ap (λ (k : ℕ). get_or b k 0) is ∙ sym (get_or-drop p b i 0) ∙ ap (λ (xs : List ℕ). get_or xs i 0) stands

  long : p + 8 ≤ length b
  long = omega (arith, ap length stands, length-drop p b)

  pub one_source : source_test b p ≡ Ok tt
  unfolding source_test
  one_source =
      let there : nat_le (p + 8) (length b) ≡ true = grind (arith, nat_tests, long) in
      rw (there, byte 0 p (omega arith), byte 1 (p + 1) refl) refl

  address : IsTrue (is_unicast e.address.bits) → address_at b p ≡ e.address.bits
  address host =
      big_from-drop 4 p 4 (p + 4) b refl
      ∙ ap (big_from 4 4) stands
      ∙ big_number-reads_back 4 e.address.bits rest (grind (arith, nat_tests))

  pub one_entry : IsTrue (is_unicast e.address.bits) → entry_at b p ≡ e ∷ []
  unfolding entry_at
  one_entry host =
      rw (byte 3 (p + 3) refl, address host, host, byte 2 (p + 2) refl, kind_of-flags e.kind) refl

  pub others : drop (p + 8) b ≡ rest
  others = sym (drop-drop 8 p b) ∙ ap (drop 8) stands

-- the first of several entries
first_of_several : (e : Entry) (es : List Entry) (text rest : List ℕ) → text ≡ flat_map entry_text (e ∷ es) ++ rest
    → text ≡ entry_text e ++ (flat_map entry_text es ++ rest)
first_of_several e es text rest h = h ∙ append_assoc (entry_text e) (flat_map entry_text es) rest

pub sources_read : (es : List Entry) (b : List ℕ) (p : ℕ) (rest : List ℕ) → drop p b ≡ flat_map entry_text es ++ rest
    → sources_test b p (length es) ≡ Ok tt
unfolding sources_test
sources_read [] b p rest stands = refl
sources_read (e ∷ es) b p rest stands =
    let first = first_of_several e es (drop p b) rest stands in
    rw (one_source b p e (flat_map entry_text es ++ rest) first)
    (sources_read es b (p + 8) rest (others b p e (flat_map entry_text es ++ rest) first))

-- an address that a host can have
abbrev HasHost : Entry → Type 0
HasHost e = IsTrue (is_unicast e.address.bits)

pub entries_read : (es : List Entry) (b : List ℕ) (p : ℕ) (rest : List ℕ) → drop p b ≡ flat_map entry_text es ++ rest
    → All HasHost es → entries_at b p (length es) ≡ es
unfolding entries_at
entries_read [] b p rest stands hosts = refl
entries_read (e ∷ es) b p rest stands hosts =
    let first = first_of_several e es (drop p b) rest stands in
    let entry = one_entry b p e (flat_map entry_text es ++ rest) first (All-head HasHost e es hosts) in
    let later = entries_read es b (p + 8) rest (others b p e (flat_map entry_text es ++ rest) first) (All-tail HasHost e es hosts) in
    rw (entry, later) refl
