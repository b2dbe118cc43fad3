-- Members of a record: one among them, those that stay, and their order.
use Rattle.std.{proofs.{Common.{◌≡◌, ℕ, Bool, true, false, cond, List, [], ◌∷◌, map, length, Option, Some, None, refl, ap, sym, subst, ◌∙◌, ◌==◌, ◌||◌, arith}, lemmas.{Bool.Decides.nat_tests, List.length-map}}, specs.{List.{AllByRecursion, filter, find, Retain.RetainsInTurn, Sorted.IsStrictlySortedBy}, Option.{option_map, option_map_or}, Ordering.nat_cmp, declared.cmp.Ordering.TheVariants.Less}}
use Rattle.smallvec.{proofs.SmallVecLemmas.items-with_items, specs.SmallVec.{SmallVec, with_items}}
use Rattle.pim_filters.{specs.{declared.member.Member.Member, Lowering.member_lowered, Members.{IsAscending, bits_of, member_entry, member_entries, source_state_at, source_state_of, is_named_source, with_end_lowered, without_end}}}
use Rattle.pim_model.{specs.{Querier.lowered, Tables.is_among}}
use Rattle.pim_ip.{specs.declared.addr.Addr.Addr}
use Rattle.pim_model.specs.Records as records

-- the entry found is that of the member found
pub find_entry : (s : ℕ) (ms : List Member)
    → find (λ (e : records.Member). e.0 == s) (member_entries ms) ≡ option_map member_entry (find (λ (m : Member). m.source.bits == s) ms)
find_entry s [] = refl
find_entry s (m ∷ ms) = elim (m.source.bits == s) as (λ b. cond b (Some (member_entry m)) (find (λ (e : records.Member). e.0 == s) (member_entries ms)) ≡ option_map member_entry (cond b (Some m) (find (λ (m : Member). m.source.bits == s) ms))) [
  | true ↦ refl
  | false ↦ find_entry s ms
]

pub source_state_at-is : (end : Option ℕ) → option_map_or records.Included end records.Excluded ≡ source_state_of (source_state_at end)
source_state_at-is None = refl
source_state_at-is (Some end) = refl

-- the end of a found member says what the record does
pub source_state_found : (r : records.GroupRecord) (s : ℕ) (ms : List Member) (o : Option Member) → member_entries ms ≡ r.members
    → o ≡ find (λ (m : Member). m.source.bits == s) ms
    → records.source_state_in r s ≡ option_map_or (λ (m : Member). source_state_of (source_state_at m.end)) o records.Absent
unfolding records.source_state_in
source_state_found r s ms o are found =
    let told : Option records.Member → records.SourceState = λ o. option_map_or (λ (e : records.Member). option_map_or records.Included e.1 records.Excluded) o records.Absent in
    ap (λ es. told (find (λ (e : records.Member). e.0 == s) es)) (sym are)
    ∙ ap told (find_entry s ms ∙ ap (option_map member_entry) (sym found))
    ∙ of_option o
  where
    of_option : (o : Option Member) → option_map_or (λ (e : records.Member). option_map_or records.Included e.1 records.Excluded) (option_map member_entry o) records.Absent ≡ option_map_or (λ (m : Member). source_state_of (source_state_at m.end)) o records.Absent
    of_option None = refl
    of_option (Some m) = source_state_at-is m.end

-- the entries of those that stay are those that stay of the entries
pub entries_of-filter : (p : records.Member → Bool) (ms : List Member)
    → member_entries (filter (λ (m : Member). p (member_entry m)) ms) ≡ filter p (member_entries ms)
entries_of-filter p [] = refl
entries_of-filter p (m ∷ ms) = elim (p (member_entry m)) as (λ b. member_entries (cond b (m ∷ filter (λ (m : Member). p (member_entry m)) ms) (filter (λ (m : Member). p (member_entry m)) ms)) ≡ cond b (member_entry m ∷ filter p (member_entries ms)) (filter p (member_entries ms))) [
  | true ↦ ap (λ es. member_entry m ∷ es) (entries_of-filter p ms)
  | false ↦ entries_of-filter p ms
]

-- the entries of what a change of each makes
pub entries_of-map : (f : Member → Member) (g : records.Member → records.Member) → ((m : Member) → member_entry (f m) ≡ g (member_entry m))
    → (ms : List Member) → member_entries (map f ms) ≡ map g (member_entries ms)
entries_of-map f g same [] = refl
entries_of-map f g same (m ∷ ms) = λ i. same m i ∷ entries_of-map f g same ms i

-- the entries of what a change of each makes, where the change was written through the slice of a vector
pub entries_of-write : (f : Member → Member) (g : records.Member → records.Member) → ((m : Member) → member_entry (f m) ≡ g (member_entry m))
    → (v : SmallVec Member) (lent written : List Member) → lent ≡ v.items → written ≡ map f lent
    → member_entries (with_items v written).items ≡ map g (member_entries v.items)
entries_of-write f g same v lent written shows changed =
    let whole : written ≡ map f v.items = changed ∙ ap (map f) shows in
    let long : length written ≡ length v.items = ap length whole ∙ length-map v.items f in
    ap member_entries (items-with_items v written long ∙ whole) ∙ entries_of-map f g same v.items

-- each source of a member
abbrev pub sources : List records.Member → List ℕ
sources es = map (λ (e : records.Member). e.0) es

all_filter : (P : ℕ → Type 0) (p : records.Member → Bool) (es : List records.Member)
    → AllByRecursion P (sources es) → AllByRecursion P (sources (filter p es))
all_filter P p [] all = tt
all_filter P p (e ∷ es) all = elim (p e) as (λ b. AllByRecursion P (sources (cond b (e ∷ filter p es) (filter p es)))) [
  | true ↦ (all.0, all_filter P p es all.1)
  | false ↦ all_filter P p es all.1
]

-- those that stay ascend
pub IsAscending-filter : (p : records.Member → Bool) (es : List records.Member) → IsAscending es → IsAscending (filter p es)
unfolding IsStrictlySortedBy
IsAscending-filter p [] rises = tt
IsAscending-filter p (e ∷ es) rises = elim (p e) as (λ b. IsAscending (cond b (e ∷ filter p es) (filter p es))) [
  | true ↦ (all_filter (λ n. nat_cmp e.0 n ≡ Less) p es rises.0, IsAscending-filter p es rises.1)
  | false ↦ IsAscending-filter p es rises.1
]

-- a change that keeps each source keeps the order
sources-map : (g : records.Member → records.Member) → ((e : records.Member) → (g e).0 ≡ e.0) → (es : List records.Member)
    → sources (map g es) ≡ sources es
sources-map g keeps [] = refl
sources-map g keeps (e ∷ es) = λ i. keeps e i ∷ sources-map g keeps es i

pub IsAscending-map : (g : records.Member → records.Member) → ((e : records.Member) → (g e).0 ≡ e.0) → (es : List records.Member)
    → IsAscending es → IsAscending (map g es)
IsAscending-map g keeps es rises = subst (IsStrictlySortedBy nat_cmp) (sym (sources-map g keeps es)) rises

pub IsAscending-nil : IsAscending []
unfolding IsStrictlySortedBy
IsAscending-nil = tt

-- what stays where a closure is asked that changes nothing
pub filter-from_retain : {X F : Type 0} (R : F → X → Bool → F → X → Type 0) (test : X → Bool) (f : F)
    → ((x : X) (b : Bool) (f' : F) (y : X) → R f x b f' y → (b ≡ test x) × (f' ≡ f) × (y ≡ x))
    → (xs ys : List X) → RetainsInTurn R f xs ys → ys ≡ filter test xs
filter-from_retain R test f says [] ys h = h
filter-from_retain R test f says (x ∷ xs) ys h =
    let said = says x h.0 h.1 h.2 h.3 in
    let later = subst (λ g. RetainsInTurn R g xs h.4) said.1 h.5 in
    let rest = filter-from_retain R test f says xs h.4 later in
    h.6 ∙ (λ i. cond (said.0 i) (said.2 i ∷ rest i) (rest i))

-- the entry, excluded where it is of this source
abbrev pub excluded_at : ℕ → records.Member → records.Member
excluded_at src e = cond (e.0 == src) (src, None) e

pub entry_of-without_end : (src : ℕ) (m : Member) → member_entry (without_end src m) ≡ excluded_at src (member_entry m)
entry_of-without_end src m = go (m.source.bits == src) refl
  where
    go : (b : Bool) → (m.source.bits == src) ≡ b → member_entry (cond b (record m { end = None }) m) ≡ cond b (src, None) (member_entry m)
    go true same = let numbers : m.source.bits ≡ src = grind (arith, nat_tests) in λ i. (numbers i, None)
    go false differs = refl

pub excluded_at-source : (src : ℕ) (e : records.Member) → (excluded_at src e).0 ≡ e.0
excluded_at-source src e = go (e.0 == src) refl
  where
    go : (b : Bool) → (e.0 == src) ≡ b → (cond b (src, None) e).0 ≡ e.0
    go true same = grind (arith, nat_tests)
    go false differs = refl

pub is_among-bits_of : (src : ℕ) (addresses : List Addr) → is_among src (bits_of addresses) ≡ is_named_source src addresses
unfolding is_among
is_among-bits_of src [] = refl
is_among-bits_of src (a ∷ others) = ap (λ b. (a.bits == src) || b) (is_among-bits_of src others)

pub entry_of-with_end_lowered : (addresses : List Addr) (end : ℕ) (m : Member)
    → member_entry (with_end_lowered addresses end m) ≡ member_lowered (bits_of addresses) end (member_entry m)
entry_of-with_end_lowered addresses end m = rw (is_among-bits_of m.source.bits addresses) (elim (is_named_source m.source.bits addresses) as (λ b. member_entry (cond b (record m { end = lowered end m.end }) m) ≡ cond b (m.source.bits, lowered end m.end) (member_entry m)) [
  | true ↦ refl
  | false ↦ refl
])

pub member_lowered-source : (named : List ℕ) (end : ℕ) (e : records.Member) → (member_lowered named end e).0 ≡ e.0
member_lowered-source named end e = elim (is_among e.0 named) as (λ b. (cond b (e.0, lowered end e.1) e).0 ≡ e.0) [ true ↦ refl | false ↦ refl ]
