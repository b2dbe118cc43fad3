-- Tables, and the whole state.
use Rattle.std.{proofs.{Common.{Some, ◌≡◌, ℕ, arith, Bool, true, false, cond, eqb, List, [], ◌∷◌, ◌++◌, ◌&&◌, ◌||◌, Ok, Err, refl, sym, ap, subst, ◌∙◌, append_assoc, Result}, lemmas.{Bool.eqb-true, List.append-nil}}, specs.{List.{AllByRecursion, Sorted.IsStrictlySortedBy}, Ordering.is_lt, declared.cmp.Ordering.Ordering, Cmp.IsTotalOrder}}
use Rattle.pim_ip.{specs.declared.addr.Addr.Addr}
use Rattle.pim_types.{specs.{FieldOrder.fields_total, Keys.{addr_cmp, key_cmp}, declared.{fact.Key.Key, config.RpCandidate.RpCandidate}}}
use Rattle.pim_model.{specs.{State.State, Tables.{Table, keys_in}}}
use Rattle.pim_saved.{specs.{declared.refusal.SavedRefusal.SavedRefusal, Crc.crc32, Fits.{FitsAddress, FitsCandidate, FitsEntry, FitsGround, FitsHead, FitsLink, FitsList, FitsRecord, FitsState, FitsTable, FitsTree, FitsWord}, Laws.{AreBytes, ReadingIsText, TextIsRead}, Parts.{HeadParts, ground_of, head_of, links_of, parts_of, records_of, state_of, trees_of}, Reading.{Reader, ◌>>=◌, address_at, addresses_by, at_end, candidate_at, ground_at, half_at, head_at, head_by, in_order, in_turn, is_version, key_at, links_at, list_at, made, magic_at, parts_at, reading, records_at, rise, rise_after, some_candidates, some_listed, table_at, trees_at, undamaged, version_at, word_at}, Text.{address_text, addresses_text, body_text, candidate_text, front_text, ground_text, half_text, head_text, links_text, list_text, magic, records_text, table_text, text, trees_text, version, version_with_addresses, version_with_candidates, versioned_text, word_text}}, proofs.{Summed.{is_summed, sum_fits, sum_of_front}, Spelled.{IsSpelled, Takes, Takes-then, bind_ok, both, half, list, made_of, moment, ok_is, passed, word}, SpelledRows.{address, asserted, candidate, downstream, group_record, group_repeat, interface, join_timer, key, neighbour, override_timer, querier, range, register, route, sending, settings, source, source_record, source_repeat, up}}}

-- ---- keys that rise

both_true : (a b : Bool) → (a && b) ≡ true → (a ≡ true) × (b ≡ true)
both_true true b e = (refl, e)
both_true false b e = absurd cc

less_is : (o : Ordering) → is_lt o ≡ true → o ≡ Ordering.Less
less_is Ordering.Less e = refl
less_is Ordering.Equal e = absurd cc
less_is Ordering.Greater e = absurd cc

key_total : IsTotalOrder key_cmp
unfolding key_cmp addr_cmp
key_total = fields_total

-- what comes behind a key comes behind each one before it
behind : (k q : Key) (ks : List Key) → key_cmp k q ≡ Ordering.Less → AllByRecursion (λ r. key_cmp q r ≡ Ordering.Less) ks → AllByRecursion (λ r. key_cmp k r ≡ Ordering.Less) ks
behind k q [] less h = tt
behind k q (r ∷ ks) less h = (key_total.trans k q r less h.0, behind k q ks less h.1)

rises_after : (k : Key) (ks : List Key) → rise_after (Some k) ks ≡ true → AllByRecursion (λ r. key_cmp k r ≡ Ordering.Less) ks × IsStrictlySortedBy key_cmp ks
unfolding rise_after IsStrictlySortedBy
rises_after k [] e = (tt, tt)
rises_after k (q ∷ ks) e =
    let p = both_true (is_lt (key_cmp k q)) (rise_after (Some q) ks) e in
    let less : key_cmp k q ≡ Ordering.Less = less_is (key_cmp k q) p.0 in
    let rest = rises_after q ks p.1 in
    ((less, behind k q ks less rest.0), (rest.0, rest.1))

pub rises : (ks : List Key) → rise ks ≡ true → IsStrictlySortedBy key_cmp ks
unfolding rise_after IsStrictlySortedBy
rises [] e = tt
rises (k ∷ ks) e = let p = rises_after k ks e in (p.0, p.1)

do_rise_after : (k : Key) (ks : List Key) → AllByRecursion (λ r. key_cmp k r ≡ Ordering.Less) ks → IsStrictlySortedBy key_cmp ks → rise_after (Some k) ks ≡ true
unfolding rise_after IsStrictlySortedBy
do_rise_after k [] h sorted = refl
do_rise_after k (q ∷ ks) h sorted = rw (h.0, do_rise_after q ks sorted.0 sorted.1) refl

pub do_rise : (ks : List Key) → IsStrictlySortedBy key_cmp ks → rise ks ≡ true
unfolding rise_after IsStrictlySortedBy
do_rise [] h = refl
do_rise (k ∷ ks) h = do_rise_after k ks h.0 h.1

-- ---- tables

module _ {R : Type 0} {FitsRow : R → Type 0} {row_text : R → List ℕ} {row_at : Reader R} (row : IsSpelled FitsRow row_text row_at) where
  rows : IsSpelled (FitsList (FitsEntry FitsRow)) (table_text row_text) (list_at (in_turn key_at row_at))
  rows = list (both key row)

  table_takes : (bytes : List ℕ) (x : Table R × List ℕ) → AreBytes bytes → table_at row_at bytes ≡ Ok x → Takes bytes (table_text row_text x.0) x.1 × FitsTable FitsRow x.0
  unfolding table_at
  table_takes bytes x fits e =
      let t = bind_ok (list_at (in_turn key_at row_at) bytes) (λ t. in_order t.0 t.1) x e in
      let one = rows.takes bytes t.0 fits t.1 in
      let g = passed (rise (keys_in t.0.0)) SavedRefusal.KeysDontRise (t.0.0, t.0.1) x t.2 in
      subst (λ (y : Table R × List ℕ). Takes bytes (table_text row_text y.0) y.1 × FitsTable FitsRow y.0) g.1
      (one.0, (one.1, rises (keys_in t.0.0) g.0))

  table_again : (t : Table R) (rest : List ℕ) → FitsTable FitsRow t → table_at row_at (table_text row_text t ++ rest) ≡ Ok (t, rest)
  unfolding table_at
  table_again t rest fits = rw (rows.again t rest fits.0, do_rise (keys_in t) fits.1) refl

  pub table : IsSpelled (FitsTable FitsRow) (table_text row_text) (table_at row_at)
  table = record { takes = table_takes; again = table_again }

-- ---- the state

ground : IsSpelled FitsGround ground_text ground_at
unfolding ground_text ground_at
ground = both settings (both (list interface) (both moment (both (list route) (list range))))

links : IsSpelled FitsLink links_text links_at
unfolding links_text links_at
links = both (table up) (both (table neighbour) (table querier))

records : IsSpelled FitsRecord records_text records_at
unfolding records_text records_at
records = both (table group_record) (both (table source_record) (both (table group_repeat) (both (table source_repeat) (table sending))))

trees : IsSpelled FitsTree trees_text trees_at
unfolding trees_text trees_at
trees = both (table downstream) (both (table asserted) (both (table join_timer) (both (table override_timer) (both (table source) (table register)))))

version_takes : (bytes : List ℕ) (x : ℕ × List ℕ) → AreBytes bytes → version_at bytes ≡ Ok x → Takes bytes (half_text x.0) x.1 × (is_version x.0 ≡ true)
unfolding version_at
version_takes bytes x fits e =
    let m = bind_ok (half_at bytes) (λ m. cond (is_version m.0) (Ok m) (Err SavedRefusal.OtherVersion)) x e in
    let g = passed (is_version m.0.0) SavedRefusal.OtherVersion m.0 x m.2 in
    let one = half.takes bytes m.0 fits m.1 in
    subst (λ (y : ℕ × List ℕ). Takes bytes (half_text y.0) y.1 × (is_version y.0 ≡ true)) g.1 (one.0, g.0)

second_again : (rest : List ℕ) → version_at (half_text version ++ rest) ≡ Ok (version, rest)
unfolding version_at
second_again rest = rw (half.again version rest (omega arith)) refl

third_again : (rest : List ℕ) → version_at (half_text version_with_addresses ++ rest) ≡ Ok (version_with_addresses, rest)
unfolding version_at
third_again rest = rw (half.again version_with_addresses rest (omega arith)) refl

fourth_again : (rest : List ℕ) → version_at (half_text version_with_candidates ++ rest) ≡ Ok (version_with_candidates, rest)
unfolding version_at
fourth_again rest = rw (half.again version_with_candidates rest (omega arith)) refl

-- ---- the own addresses of no interface, and the candidates

listed : IsSpelled (FitsList FitsAddress) (list_text address_text) (list_at address_at)
listed = list address

candidates : IsSpelled (FitsList FitsCandidate) (list_text candidate_text) (list_at candidate_at)
candidates = list candidate

other_of : (b c : Bool) → b ≡ false → (b || c) ≡ true → c ≡ true
other_of true c e f = cc
other_of false c e f = f

first_of : (b c : Bool) → c ≡ false → (b || c) ≡ true → b ≡ true
first_of true c e f = refl
first_of false c e f = cc

module _ (bytes : List ℕ) (x : List Addr × List ℕ) where
  abbrev Spells : List Addr × List ℕ → Type 0
  Spells y = Takes bytes (addresses_text y.0) y.1 × FitsList FitsAddress y.0

  some : (given : List Addr) (behind : List ℕ) → some_listed given behind ≡ Ok x
      → Takes bytes (half_text version_with_addresses ++ list_text address_text given) behind
      → FitsList FitsAddress given → Spells x
  unfolding addresses_text
  some [] behind e t fits = absurd cc
  some (a ∷ more) behind e t fits = subst Spells (ok_is (a ∷ more, behind) x e) (t, fits)

  by_version : (n : ℕ) (rest : List ℕ) (b : Bool) → eqb n version ≡ b
      → (eqb n version || eqb n version_with_addresses) ≡ true → Takes bytes (half_text n) rest
      → addresses_by b rest ≡ Ok x → Spells x
  unfolding addresses_text
  by_version n rest true is known t e =
      subst Spells (ok_is ([], rest) x e)
      (subst (λ (m : ℕ). Takes bytes (half_text m) rest) (eqb-true n version is) t, (omega arith, tt))
  by_version n rest false is known t e =
      let third : n ≡ version_with_addresses =
      eqb-true n version_with_addresses (other_of (eqb n version) (eqb n version_with_addresses) is known) in
      let l = bind_ok (list_at address_at rest) (λ a. some_listed a.0 a.1) x e in
      let behind = listed.takes rest l.0 t.rest_fits l.1 in
      some l.0.0 l.0.1 l.2
      (Takes-then bytes (half_text version_with_addresses) rest (list_text address_text l.0.0) l.0.1
      (subst (λ (m : ℕ). Takes bytes (half_text m) rest) third t) behind.0)
      behind.1

module _ (bytes : List ℕ) (x : HeadParts × List ℕ) where
  abbrev HeadSpells : HeadParts × List ℕ → Type 0
  HeadSpells y = Takes bytes (head_text y.0) y.1 × FitsHead y.0

  some_given : (addresses : List Addr) (given : List RpCandidate) (behind : List ℕ)
      → some_candidates addresses given behind ≡ Ok x
      → Takes bytes (half_text version_with_candidates ++ (list_text address_text addresses ++ list_text candidate_text given))
      behind
      → FitsHead (given, addresses) → HeadSpells x
  unfolding versioned_text
  some_given addresses [] behind e t fits = absurd cc
  some_given addresses (c ∷ cs) behind e t fits = subst HeadSpells (ok_is ((c ∷ cs, addresses), behind) x e) (t, fits)

  none_given : (a : List Addr × List ℕ) → Spells bytes a a → HeadSpells (([], a.0), a.1)
  unfolding versioned_text
  none_given a t = (t.0, ((omega arith, tt), t.1))

  head_by_version : (n : ℕ) (rest : List ℕ) (b : Bool) → eqb n version_with_candidates ≡ b → is_version n ≡ true
      → Takes bytes (half_text n) rest → head_by b n rest ≡ Ok x → HeadSpells x
  head_by_version n rest true is known t e =
      let a = bind_ok (list_at address_at rest) (λ a. list_at candidate_at a.1 >>= λ c. some_candidates a.0 c.0 c.1) x e in
      let c = bind_ok (list_at candidate_at a.0.1) (λ c. some_candidates a.0.0 c.0 c.1) x a.2 in
      let own = listed.takes rest a.0 t.rest_fits a.1 in
      let behind = candidates.takes a.0.1 c.0 own.0.rest_fits c.1 in
      some_given a.0.0 c.0.0 c.0.1 c.2
      (Takes-then bytes (half_text version_with_candidates) rest
      (list_text address_text a.0.0 ++ list_text candidate_text c.0.0) c.0.1
      (subst (λ (m : ℕ). Takes bytes (half_text m) rest) (eqb-true n version_with_candidates is) t)
      (Takes-then rest (list_text address_text a.0.0) a.0.1 (list_text candidate_text c.0.0) c.0.1 own.0 behind.0))
      (behind.1, own.1)
  head_by_version n rest false is known t e =
      let a = bind_ok (addresses_by (eqb n version) rest) (λ a. Ok (([], a.0), a.1)) x e in
      subst HeadSpells (ok_is (([], a.0.0), a.0.1) x a.2)
      (none_given a.0
      (by_version bytes a.0 n rest (eqb n version) refl
      (first_of (eqb n version || eqb n version_with_addresses) (eqb n version_with_candidates) is known) t a.1))

head_takes : (bytes : List ℕ) (x : HeadParts × List ℕ) → AreBytes bytes → head_at bytes ≡ Ok x
    → Takes bytes (head_text x.0) x.1 × FitsHead x.0
unfolding head_at
head_takes bytes x fits e =
    let v = bind_ok (version_at bytes) (λ v. head_by (eqb v.0 version_with_candidates) v.0 v.1) x e in
    let one = version_takes bytes v.0 fits v.1 in
    head_by_version bytes x v.0.0 v.0.1 (eqb v.0.0 version_with_candidates) refl one.1 one.0 v.2

abbrev read_head : List ℕ → Result (HeadParts × List ℕ) SavedRefusal
read_head bytes = version_at bytes >>= λ v. head_by (eqb v.0 version_with_candidates) v.0 v.1

parts_again : (given : List RpCandidate) (own : List Addr) (rest : List ℕ) → FitsHead (given, own)
    → head_at (versioned_text given own ++ rest) ≡ Ok ((given, own), rest)
unfolding head_at versioned_text addresses_text
parts_again [] [] rest fits = rw (second_again rest) refl
parts_again [] (a ∷ more) rest fits =
    let text : List ℕ = list_text address_text (a ∷ more) in
    ap read_head (append_assoc (half_text version_with_addresses) text rest)
    ∙ rw (third_again (text ++ rest), listed.again (a ∷ more) rest fits.1) refl
parts_again (c ∷ cs) own rest fits =
    let first : List ℕ = list_text address_text own in
    let second : List ℕ = list_text candidate_text (c ∷ cs) in
    ap read_head (append_assoc (half_text version_with_candidates) (first ++ second) rest)
    ∙ ap (λ (bytes : List ℕ). read_head (half_text version_with_candidates ++ bytes)) (append_assoc first second rest)
    ∙ rw (fourth_again (first ++ (second ++ rest)), listed.again own (second ++ rest) fits.1, candidates.again (c ∷ cs) rest fits.0) refl

head_again : (given : HeadParts) (rest : List ℕ) → FitsHead given → head_at (head_text given ++ rest) ≡ Ok (given, rest)
head_again given rest fits = parts_again given.0 given.1 rest fits

head : IsSpelled FitsHead head_text head_at
head = record { takes = head_takes; again = head_again }

-- the version is read before the sum is compared
abbrev version_of : List RpCandidate → List Addr → ℕ
version_of [] [] = version
version_of [] (a ∷ more) = version_with_addresses
version_of (c ∷ cs) own = version_with_candidates

abbrev behind_version : List RpCandidate → List Addr → List ℕ → List ℕ
behind_version [] [] rest = rest
behind_version [] (a ∷ more) rest = list_text address_text (a ∷ more) ++ rest
behind_version (c ∷ cs) own rest = (list_text address_text own ++ list_text candidate_text (c ∷ cs)) ++ rest

is_known : (given : List RpCandidate) (own : List Addr) (rest : List ℕ)
    → version_at (versioned_text given own ++ rest) ≡ Ok (version_of given own, behind_version given own rest)
unfolding versioned_text addresses_text
is_known [] [] rest = second_again rest
is_known [] (a ∷ more) rest =
    let text : List ℕ = list_text address_text (a ∷ more) in
    ap version_at (append_assoc (half_text version_with_addresses) text rest) ∙ third_again (text ++ rest)
is_known (c ∷ cs) own rest =
    let text : List ℕ = list_text address_text own ++ list_text candidate_text (c ∷ cs) in
    ap version_at (append_assoc (half_text version_with_candidates) text rest) ∙ fourth_again (text ++ rest)

state : IsSpelled FitsState (λ (s : State). body_text s) (made state_of parts_at)
unfolding body_text parts_at
state = made_of state_of parts_of (λ p. refl) (λ s. refl) (both head (both ground (both links (both records trees))))

magic_takes : (bytes : List ℕ) (x : ℕ × List ℕ) → AreBytes bytes → magic_at bytes ≡ Ok x → Takes bytes (word_text x.0) x.1 × (x.0 ≡ magic)
magic_takes bytes x fits e =
    let m = bind_ok (word_at bytes) (λ m. cond (eqb m.0 magic) (Ok m) (Err SavedRefusal.NotOurs)) x e in
    let g = passed (eqb m.0.0 magic) SavedRefusal.NotOurs m.0 x m.2 in
    let one = word.takes bytes m.0 fits m.1 in
    subst (λ (y : ℕ × List ℕ). Takes bytes (word_text y.0) y.1 × (y.0 ≡ magic)) g.1 (one.0, eqb-true m.0.0 magic g.0)

magic_again : (n : ℕ) (rest : List ℕ) → n ≡ magic → magic_at (word_text n ++ rest) ≡ Ok (n, rest)
magic_again n rest e = subst (λ (m : ℕ). magic_at (word_text m ++ rest) ≡ Ok (m, rest)) (sym e) (rw (word.again magic rest (omega arith)) refl)

ours : IsSpelled (λ (n : ℕ). n ≡ magic) word_text magic_at
ours = record { takes = magic_takes; again = magic_again }

tail : IsSpelled (λ (p : State × ℕ). FitsState p.0 × FitsWord p.1) (λ (p : State × ℕ). body_text p.0 ++ word_text p.1) (in_turn (made state_of parts_at) word_at)
tail = both state word

pub text_is_read : TextIsRead
unfolding text reading front_text body_text
text_is_read s fits =
    let sum : ℕ = crc32 (front_text s) in
    let rest : List ℕ = ground_text (ground_of s) ++ (links_text (links_of s) ++ (records_text (records_of s) ++ trees_text (trees_of s))) in
    let first : magic_at (text s) ≡ Ok (magic, body_text s ++ word_text sum) =
    ap magic_at (append_assoc (word_text magic) (body_text s) (word_text sum))
    ∙ ours.again magic (body_text s ++ word_text sum) refl in
    let known : version_at (body_text s ++ word_text sum)
    ≡ Ok (version_of s.ranges.candidates s.configured.addresses, behind_version s.ranges.candidates s.configured.addresses (rest ++ word_text sum)) =
    ap version_at (append_assoc (head_text (head_of s)) rest (word_text sum))
    ∙ is_known s.ranges.candidates s.configured.addresses (rest ++ word_text sum) in
    let last : in_turn (made state_of parts_at) word_at (body_text s ++ word_text sum) ≡ Ok ((s, sum), []) =
    ap (in_turn (made state_of parts_at) word_at) (sym (append-nil (body_text s ++ word_text sum)))
    ∙ tail.again (s, sum) [] (fits, sum_fits (front_text s)) in
    rw (first, known, is_summed (front_text s), last) refl

ended : (s t : State) (rest : List ℕ) → at_end s rest ≡ Ok t → (rest ≡ []) × (s ≡ t)
ended s t [] e = (refl, ok_is s t e)
ended s t (b ∷ rest) e = absurd cc

pub reading_is_text : ReadingIsText
unfolding text reading front_text
reading_is_text bytes s fits e =
    let a = bind_ok (magic_at bytes) (λ m. version_at m.1 >>= λ v. undamaged bytes >>= λ u. in_turn (made state_of parts_at) word_at m.1 >>= λ x. at_end x.0.0 x.1) s e in
    let v = bind_ok (version_at a.0.1) (λ v. undamaged bytes >>= λ u. in_turn (made state_of parts_at) word_at a.0.1 >>= λ x. at_end x.0.0 x.1) s a.2 in
    let u = bind_ok (undamaged bytes) (λ u. in_turn (made state_of parts_at) word_at a.0.1 >>= λ x. at_end x.0.0 x.1) s v.2 in
    let b = bind_ok (in_turn (made state_of parts_at) word_at a.0.1) (λ x. at_end x.0.0 x.1) s u.2 in
    let last = ended b.0.0.0 s b.0.1 b.2 in
    let h = ours.takes bytes a.0 fits a.1 in
    let t = tail.takes a.0.1 b.0 h.0.rest_fits b.1 in
    let front : List ℕ = front_text b.0.0.0 in
    let behind_head : a.0.1 ≡ body_text b.0.0.0 ++ word_text b.0.0.1 =
    t.0.parts ∙ ap (λ (r : List ℕ). (body_text b.0.0.0 ++ word_text b.0.0.1) ++ r) last.0 ∙ append-nil (body_text b.0.0.0 ++ word_text b.0.0.1) in
    let written : bytes ≡ front ++ word_text b.0.0.1 =
    h.0.parts ∙ ap (λ (r : List ℕ). word_text a.0.0 ++ r) behind_head
    ∙ ap (λ (m : ℕ). word_text m ++ (body_text b.0.0.0 ++ word_text b.0.0.1)) h.1
    ∙ sym (append_assoc (word_text magic) (body_text b.0.0.0) (word_text b.0.0.1)) in
    let sum : b.0.0.1 ≡ crc32 front = sum_of_front front b.0.0.1 u.0 t.1.1 (ap undamaged (sym written) ∙ u.1) in
    let as_ours : bytes ≡ text b.0.0.0 = written ∙ ap (λ (n : ℕ). front ++ word_text n) sum in
    subst (λ (z : State). (text z ≡ bytes) × FitsState z) last.1 (sym as_ours, t.1.0)
