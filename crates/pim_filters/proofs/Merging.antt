-- The sources of a record and of a message in one list: each of them once, in order, and what is said of it.
use Rattle.std.{proofs.{Common.{◌≡◌, ℕ, suc, ◌<◌, ◌≤◌, Bool, true, false, cond, List, [], ◌∷◌, map, refl, ap, subst, sym, ◌∙◌, ◌==◌, ◌||◌, nat_lt, arith}, lemmas.Bool.Decides.nat_tests}, specs.{List.find, Option.option_map_or}}
use Rattle.pim_filters.{specs.{Cases.{CaseValue, cases_in, cases_with, member_case, new_case, case_value}, Members.{member_entries, source_state_at, source_state_of}, declared.{case.Case.Case, member.Member.Member}}, proofs.{Members.{source_state_at-is, sources}, Orders.{Below, Below-lower, Rises, among_head, among_tail, none_below}}}
use Rattle.pim_model.{specs.Tables.is_among}
use Rattle.pim_model.specs.Records as records

abbrev pub keys : List Case → List ℕ
keys cs = map (λ (c : Case). c.source.bits) cs

abbrev pub sources_in : List Member → List ℕ
sources_in ms = sources (member_entries ms)

-- ---- what is among the cases

keys_new : (ns : List ℕ) → keys (map new_case ns) ≡ ns
keys_new [] = refl
keys_new (n ∷ ns) = ap (λ rest. n ∷ rest) (keys_new ns)

swapped : (a b c : Bool) → (a || (b || c)) ≡ (b || (a || c))
swapped true true c = refl
swapped true false c = refl
swapped false b c = refl

assoc : (a b c : Bool) → (a || (b || c)) ≡ ((a || b) || c)
assoc true b c = refl
assoc false b c = refl

met : (a b c : Bool) → (a || (b || c)) ≡ ((a || b) || (a || c))
met true b c = refl
met false b c = refl

module _ (k : ℕ) where
  among_step : (m : Member) (ms : List Member) (n : ℕ) (ns : List ℕ) (b c : Bool) → (n == m.source.bits) ≡ c
      → is_among k (keys (cases_in (m ∷ ms) ns)) ≡ (is_among k (sources_in (m ∷ ms)) || is_among k ns)
      → is_among k (keys (cases_in ms ns)) ≡ (is_among k (sources_in ms) || is_among k ns)
      → is_among k (keys (cases_in ms (n ∷ ns))) ≡ (is_among k (sources_in ms) || is_among k (n ∷ ns))
      → is_among k (keys (cond b (new_case n ∷ cases_with m (cases_in ms) ns) (cond c (member_case true m ∷ cases_in ms ns) (member_case false m ∷ cases_in ms (n ∷ ns)))))
      ≡ (is_among k (sources_in (m ∷ ms)) || is_among k (n ∷ ns))
  unfolding is_among
  among_step m ms n ns true c same earlier both later =
      ap (λ b. (n == k) || b) earlier ∙ swapped (n == k) (is_among k (sources_in (m ∷ ms))) (is_among k ns)
  among_step m ms n ns false true same earlier both later =
      let e : m.source.bits ≡ n = grind (arith, nat_tests) in
      ap (λ b. (m.source.bits == k) || b) both ∙ met (m.source.bits == k) (is_among k (sources_in ms)) (is_among k ns)
      ∙ ap (λ s. ((m.source.bits == k) || is_among k (sources_in ms)) || ((s == k) || is_among k ns)) e
  among_step m ms n ns false false same earlier both later =
      ap (λ b. (m.source.bits == k) || b) later ∙ assoc (m.source.bits == k) (is_among k (sources_in ms)) (is_among k (n ∷ ns))

  pub among_cases : (ms : List Member) (ns : List ℕ)
      → is_among k (keys (cases_in ms ns)) ≡ (is_among k (sources_in ms) || is_among k ns)
  unfolding is_among
  among_cases [] ns = ap (is_among k) (keys_new ns)
  among_cases (m ∷ ms) [] = ap (λ b. (m.source.bits == k) || b) (among_cases ms []) ∙ assoc (m.source.bits == k) (is_among k (sources_in ms)) false
  among_cases (m ∷ ms) (n ∷ ns) =
      among_step m ms n ns (nat_lt n m.source.bits) (n == m.source.bits) refl (among_cases (m ∷ ms) ns) (among_cases ms ns) (among_cases ms (n ∷ ns))

-- ---- their order

below_step : (low : ℕ) (m : Member) (ms : List Member) (n : ℕ) (ns : List ℕ) (b c : Bool)
    → low < m.source.bits → low < n
    → Below low (keys (cases_in (m ∷ ms) ns)) → Below low (keys (cases_in ms ns)) → Below low (keys (cases_in ms (n ∷ ns)))
    → Below low (keys (cond b (new_case n ∷ cases_with m (cases_in ms) ns) (cond c (member_case true m ∷ cases_in ms ns) (member_case false m ∷ cases_in ms (n ∷ ns)))))
below_step low m ms n ns true c first second earlier both later = (second, earlier)
below_step low m ms n ns false true first second earlier both later = (first, both)
below_step low m ms n ns false false first second earlier both later = (first, later)

pub Below-cases : (low : ℕ) (ms : List Member) (ns : List ℕ) → Below low (sources_in ms) → Below low ns → Below low (keys (cases_in ms ns))
Below-cases low [] ns first second = subst (Below low) (sym (keys_new ns)) second
Below-cases low (m ∷ ms) [] first second = (first.0, Below-cases low ms [] first.1 tt)
Below-cases low (m ∷ ms) (n ∷ ns) first second =
    below_step low m ms n ns (nat_lt n m.source.bits) (n == m.source.bits) first.0 second.0
    (Below-cases low (m ∷ ms) ns first second.1) (Below-cases low ms ns first.1 second.1) (Below-cases low ms (n ∷ ns) first.1 second)

rises_step : (m : Member) (ms : List Member) (n : ℕ) (ns : List ℕ) (b c : Bool) → nat_lt n m.source.bits ≡ b → (n == m.source.bits) ≡ c
    → Rises (sources_in (m ∷ ms)) → Rises (n ∷ ns)
    → Rises (keys (cases_in (m ∷ ms) ns)) → Rises (keys (cases_in ms ns)) → Rises (keys (cases_in ms (n ∷ ns)))
    → Rises (keys (cond b (new_case n ∷ cases_with m (cases_in ms) ns) (cond c (member_case true m ∷ cases_in ms ns) (member_case false m ∷ cases_in ms (n ∷ ns)))))
rises_step m ms n ns true c less same first second earlier both later =
    let before : n < m.source.bits = grind (arith, nat_tests) in
    (Below-cases n (m ∷ ms) ns (before, Below-lower n m.source.bits (sources_in ms) before first.0) second.0, earlier)
rises_step m ms n ns false true less same first second earlier both later =
    let e : n ≡ m.source.bits = grind (arith, nat_tests) in
    (Below-cases m.source.bits ms ns first.0 (subst (λ s. Below s ns) e second.0), both)
rises_step m ms n ns false false less same first second earlier both later =
    let after : m.source.bits < n = grind (arith, nat_tests) in
    (Below-cases m.source.bits ms (n ∷ ns) first.0 (after, Below-lower m.source.bits n ns after second.0), later)

pub Rises-cases : (ms : List Member) (ns : List ℕ) → Rises (sources_in ms) → Rises ns → Rises (keys (cases_in ms ns))
Rises-cases [] ns first second = subst Rises (sym (keys_new ns)) second
Rises-cases (m ∷ ms) [] first second = (Below-cases m.source.bits ms [] first.0 tt, Rises-cases ms [] first.1 tt)
Rises-cases (m ∷ ms) (n ∷ ns) first second =
    rises_step m ms n ns (nat_lt n m.source.bits) (n == m.source.bits) refl refl first second
    (Rises-cases (m ∷ ms) ns first second.1) (Rises-cases ms ns first.1 second.1) (Rises-cases ms (n ∷ ns) first.1 second)

-- ---- what is said of each

-- what the members of a record say of a source
abbrev pub source_state_among : List records.Member → ℕ → records.SourceState
source_state_among es src = option_map_or (λ (e : records.Member). option_map_or records.Included e.1 records.Excluded) (find (λ (e : records.Member). e.0 == src) es) records.Absent

source_state_head : (m : Member) (ms : List Member) (k : ℕ) → (m.source.bits == k) ≡ true
    → source_state_among (member_entries (m ∷ ms)) k ≡ source_state_of (source_state_at m.end)
source_state_head m ms k here = rw here (source_state_at-is m.end)

source_state_tail : (m : Member) (ms : List Member) (k : ℕ) → (m.source.bits == k) ≡ false
    → source_state_among (member_entries (m ∷ ms)) k ≡ source_state_among (member_entries ms) k
source_state_tail m ms k apart = rw apart refl

source_state_none : (k : ℕ) (ms : List Member) → Below k (sources_in ms) → source_state_among (member_entries ms) k ≡ records.Absent
source_state_none k [] below = refl
source_state_none k (m ∷ ms) below =
    let apart : (m.source.bits == k) ≡ false = grind (arith, nat_tests, below.0) in
    source_state_tail m ms k apart ∙ source_state_none k ms below.1

-- at least a number
abbrev pub AtLeast : ℕ → List ℕ → Type 0
AtLeast low [] = Unit {0}
AtLeast low (n ∷ ns) = (low ≤ n) × AtLeast low ns

AtLeast-from_below : (n : ℕ) (ms : List ℕ) → Below n ms → AtLeast (suc n) ms
AtLeast-from_below n [] below = tt
AtLeast-from_below n (m ∷ ms) below = (omega (arith, below.0), AtLeast-from_below n ms below.1)

AtLeast-lower : (low least : ℕ) (ns : List ℕ) → low ≤ least → AtLeast least ns → AtLeast low ns
AtLeast-lower low least [] le all = tt
AtLeast-lower low least (n ∷ ns) le all = (omega (arith, all.0), AtLeast-lower low least ns le all.1)

pub AtLeast-zero : (ns : List ℕ) → AtLeast 0 ns
AtLeast-zero [] = tt
AtLeast-zero (n ∷ ns) = (omega arith, AtLeast-zero ns)

-- f and g tell, from a number on, what the members and the names do
pub record Tells (low : ℕ) (f : ℕ → records.SourceState) (g : ℕ → Bool) (ms : List Member) (ns : List ℕ) : Type 0 where
  pub source_states : (k : ℕ) → low ≤ k → f k ≡ source_state_among (member_entries ms) k
  pub names : (k : ℕ) → low ≤ k → g k ≡ is_among k ns

module _ (f : ℕ → records.SourceState) (g : ℕ → Bool) where
  abbrev pub told : List ℕ → List CaseValue
  told ks = map (λ k. (k, f k, g k)) ks

  without_member : (low : ℕ) (m : Member) (ms : List Member) (ns : List ℕ) → low ≤ m.source.bits
      → Tells low f g (m ∷ ms) ns → Tells (suc m.source.bits) f g ms ns
  without_member low m ms ns le tells = record {
    source_states = λ k after. let apart : (m.source.bits == k) ≡ false = grind (arith, nat_tests, after) in tells.source_states k (omega arith) ∙ source_state_tail m ms k apart;
    names = λ k after. tells.names k (omega arith);
  }

  without_name : (low n : ℕ) (ms : List Member) (ns : List ℕ) → low ≤ n → Tells low f g ms (n ∷ ns) → Tells (suc n) f g ms ns
  without_name low n ms ns le tells = record {
    source_states = λ k after. tells.source_states k (omega arith);
    names = λ k after. let apart : (n == k) ≡ false = grind (arith, nat_tests, after) in tells.names k (omega arith) ∙ among_tail k n ns apart;
  }

  without_both : (low n : ℕ) (m : Member) (ms : List Member) (ns : List ℕ) → n ≡ m.source.bits → low ≤ m.source.bits
      → Tells low f g (m ∷ ms) (n ∷ ns) → Tells (suc m.source.bits) f g ms ns
  without_both low n m ms ns e le tells = record {
    source_states = λ k after. let apart : (m.source.bits == k) ≡ false = grind (arith, nat_tests, after) in tells.source_states k (omega arith) ∙ source_state_tail m ms k apart;
    names = λ k after. let apart : (n == k) ≡ false = grind (arith, nat_tests, after, e) in tells.names k (omega arith) ∙ among_tail k n ns apart;
  }

  values_new : (low : ℕ) (ns : List ℕ) → AtLeast low ns → Rises ns → Tells low f g [] ns
      → map case_value (map new_case ns) ≡ told ns
  values_new low [] least rises tells = refl
  values_new low (n ∷ ns) least rises tells =
      let named : g n ≡ true = tells.names n least.0 ∙ among_head n ns in
      λ i. (n, sym (tells.source_states n least.0) i, sym named i) ∷ values_new (suc n) ns (AtLeast-from_below n ns rises.0) rises.1 (without_name low n [] ns least.0 tells) i

  values_step : (low : ℕ) (m : Member) (ms : List Member) (n : ℕ) (ns : List ℕ) (b c : Bool)
      → nat_lt n m.source.bits ≡ b → (n == m.source.bits) ≡ c → low ≤ m.source.bits → low ≤ n
      → Below m.source.bits (sources_in ms) → Below n ns → Tells low f g (m ∷ ms) (n ∷ ns)
      → (n < m.source.bits → map case_value (cases_in (m ∷ ms) ns) ≡ told (keys (cases_in (m ∷ ms) ns)))
      → (n ≡ m.source.bits → map case_value (cases_in ms ns) ≡ told (keys (cases_in ms ns)))
      → (m.source.bits < n → map case_value (cases_in ms (n ∷ ns)) ≡ told (keys (cases_in ms (n ∷ ns))))
      → (let cs = cond b (new_case n ∷ cases_with m (cases_in ms) ns) (cond c (member_case true m ∷ cases_in ms ns) (member_case false m ∷ cases_in ms (n ∷ ns))) in map case_value cs ≡ told (keys cs))
  values_step low m ms n ns true c less same first second below_ms below_ns tells earlier both later =
      let before : n < m.source.bits = grind (arith, nat_tests) in
      let gone : f n ≡ records.Absent = tells.source_states n second ∙ source_state_none n (m ∷ ms) (before, Below-lower n m.source.bits (sources_in ms) before below_ms) in
      let named : g n ≡ true = tells.names n second ∙ among_head n ns in
      λ i. (n, sym gone i, sym named i) ∷ earlier before i
  values_step low m ms n ns false true less same first second below_ms below_ns tells earlier both later =
      let e : n ≡ m.source.bits = grind (arith, nat_tests) in
      let here : (m.source.bits == m.source.bits) ≡ true = grind (arith, nat_tests) in
      let source_state : f m.source.bits ≡ source_state_of (source_state_at m.end) = tells.source_states m.source.bits first ∙ source_state_head m ms m.source.bits here in
      let named : g m.source.bits ≡ true = tells.names m.source.bits first ∙ ap (λ s. is_among s (n ∷ ns)) (sym e) ∙ among_head n ns in
      λ i. (m.source.bits, sym source_state i, sym named i) ∷ both e i
  values_step low m ms n ns false false less same first second below_ms below_ns tells earlier both later =
      let after : m.source.bits < n = grind (arith, nat_tests) in
      let here : (m.source.bits == m.source.bits) ≡ true = grind (arith, nat_tests) in
      let source_state : f m.source.bits ≡ source_state_of (source_state_at m.end) = tells.source_states m.source.bits first ∙ source_state_head m ms m.source.bits here in
      let unnamed : g m.source.bits ≡ false = tells.names m.source.bits first ∙ none_below m.source.bits m.source.bits (n ∷ ns) (omega arith) (after, Below-lower m.source.bits n ns after below_ns) in
      λ i. (m.source.bits, sym source_state i, sym unnamed i) ∷ later after i

  -- the cases tell of each of their sources what f and g do
  pub values_of_cases : (low : ℕ) (ms : List Member) (ns : List ℕ) → AtLeast low (sources_in ms) → AtLeast low ns
      → Rises (sources_in ms) → Rises ns → Tells low f g ms ns → map case_value (cases_in ms ns) ≡ told (keys (cases_in ms ns))
  values_of_cases low [] ns first second rises_ms rises_ns tells = values_new low ns second rises_ns tells ∙ ap told (sym (keys_new ns))
  values_of_cases low (m ∷ ms) [] first second rises_ms rises_ns tells =
      let here : (m.source.bits == m.source.bits) ≡ true = grind (arith, nat_tests) in
      let source_state : f m.source.bits ≡ source_state_of (source_state_at m.end) = tells.source_states m.source.bits first.0 ∙ source_state_head m ms m.source.bits here in
      let unnamed : g m.source.bits ≡ false = tells.names m.source.bits first.0 ∙ none_below m.source.bits m.source.bits [] (omega arith) tt in
      let later : map case_value (cases_in ms []) ≡ told (keys (cases_in ms [])) = values_of_cases (suc m.source.bits) ms [] (AtLeast-from_below m.source.bits (sources_in ms) rises_ms.0) tt rises_ms.1 tt (without_member low m ms [] first.0 tells) in
      λ i. (m.source.bits, sym source_state i, sym unnamed i) ∷ later i
  values_of_cases low (m ∷ ms) (n ∷ ns) first second rises_ms rises_ns tells =
      values_step low m ms n ns (nat_lt n m.source.bits) (n == m.source.bits) refl refl first.0 second.0 rises_ms.0 rises_ns.0 tells
      (λ before. values_of_cases (suc n) (m ∷ ms) ns
      (omega arith, AtLeast-lower (suc n) (suc m.source.bits) (sources_in ms) (omega arith) (AtLeast-from_below m.source.bits (sources_in ms) rises_ms.0))
      (AtLeast-from_below n ns rises_ns.0) rises_ms rises_ns.1 (without_name low n (m ∷ ms) ns second.0 tells))
      (λ e. values_of_cases (suc m.source.bits) ms ns (AtLeast-from_below m.source.bits (sources_in ms) rises_ms.0)
      (AtLeast-from_below m.source.bits ns (subst (λ s. Below s ns) e rises_ns.0)) rises_ms.1 rises_ns.1
      (without_both low n m ms ns e first.0 tells))
      (λ after. values_of_cases (suc m.source.bits) ms (n ∷ ns) (AtLeast-from_below m.source.bits (sources_in ms) rises_ms.0)
      (omega arith, AtLeast-lower (suc m.source.bits) (suc n) ns (omega arith) (AtLeast-from_below n ns rises_ns.0))
      rises_ms.1 rises_ns (without_member low m ms (n ∷ ns) first.0 tells))
