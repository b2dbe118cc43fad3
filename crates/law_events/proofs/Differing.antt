-- The keys under which rows differ in more than an end that runs in both are all that is touched.
use Rattle.std.{proofs.{Common.{◌≡◌, ◌&&◌, ◌||◌, ℕ, Bool, true, false, not, cond, List, [], ◌∷◌, ◌++◌, map, Option, None, is_some, refl, sym, ap, ◌∙◌, append-nil, arith}, lemmas.List.Folds.list_any-append}, specs.List.{filter, list_any}}
use Rattle.pim_types.{specs.{declared.fact.Key.Key, Keys.same_key}, proofs.Keys.equal_keys}
use Rattle.pim_model.{specs.{Clearing.{clearable_count, cleared, first_by}, Downstream.is_named, Firing.settled, Messages.Message, Querier.each_in_turn, Repeat.{after_next, until_none}, Rows.{same_assert, same_both, same_downstream, same_group_record, same_register, same_rows, same_source, same_source_record}, State.State, Tables.{Table, ascending, has_row, keys_in, row_at, rows_where}, Upstream.groups_of, Writing.write_all}}
use Rattle.law_settled.{proofs.{RowLaws.has_row_any, TableLaws.{any_in_filter, any_of_map}}, specs.Ready.IsOrdered}
use Rattle.law_events.{specs.{Differing.{AgreesWhollyOn, IsShared, differing, differing_in, is_same_at, is_same_but_ends, same_at}, Locality.{AgreesBut, IsQuiet, own_settled, own_upstream, touched_assert, touched_clear, touched_registers, touched_spt, touched_to_clear, touching}, Scopes.{modes_read, only_kept, only_kind, only_mode, only_registered, only_side, only_winner, reads, scope, whole_scope}}, proofs.{SameRows.{of_asserts, of_downstream, of_group_records, of_registers, of_source_records, of_sources}, SameTables.{same_where_alike, seen_alike, seen_found_alike}, Settling.settling_is_own, SourceMacros.{cut_kept, cut_kind, cut_register, cut_source}, StarMacros.{cut_assert, cut_group}, Touches.{named_touches, unread_of}}}

-- ---- the scope of two states in which the rows that are seen are cut down alike

record SeesSame (sees : Key → Bool) (s t : State) : Type 0 where
  groups : map only_mode (rows_where sees s.group_records) ≡ map only_mode (rows_where sees t.group_records)
  records : map only_side (rows_where sees s.source_records) ≡ map only_side (rows_where sees t.source_records)
  downstream : map only_kind (rows_where sees s.downstream) ≡ map only_kind (rows_where sees t.downstream)
  asserts : map only_winner (rows_where sees s.asserts) ≡ map only_winner (rows_where sees t.asserts)
  sources : map only_kept (rows_where sees s.sources) ≡ map only_kept (rows_where sees t.sources)
  registers : map only_registered (rows_where sees s.registers) ≡ map only_registered (rows_where sees t.registers)

scopes_same : (sees : Key → Bool) (s t : State) → IsShared s t → SeesSame sees s t → scope sees s ≡ scope sees t
unfolding scope
scopes_same sees s t shared same = λ j. record {
  settings = shared.settings j;
  configured = shared.configured j;
  present = 0;
  routes = shared.routes j;
  ranges = shared.ranges j;
  interfaces = shared.interfaces j;
  neighbours = shared.neighbours j;
  queriers = [];
  group_records = modes_read (same.groups j) (same.records j);
  source_records = same.records j;
  group_repeats = [];
  source_repeats = [];
  sendings = [];
  downstream = same.downstream j;
  asserts = same.asserts j;
  join_timers = [];
  override_timers = [];
  sources = same.sources j;
  registers = same.registers j;
}

-- ---- the parts of the test

pub record SameAt (s t : State) (k : Key) : Type 0 where
  pub groups : same_at same_group_record k s.group_records t.group_records ≡ true
  pub records : same_at same_source_record k s.source_records t.source_records ≡ true
  pub downstream : same_at same_downstream k s.downstream t.downstream ≡ true
  pub asserts : same_at same_assert k s.asserts t.asserts ≡ true
  pub sources : same_at same_source k s.sources t.sources ≡ true
  pub registers : same_at same_register k s.registers t.registers ≡ true

-- the parts of six that hold
pub record Six (a b c d e f : Bool) : Type 0 where
  pub first : a ≡ true
  pub second : b ≡ true
  pub third : c ≡ true
  pub fourth : d ≡ true
  pub fifth : e ≡ true
  pub sixth : f ≡ true

six : (a b c d e f : Bool) → (a && b && c && d && e && f) ≡ true → Six a b c d e f
six a b c d e f h = grind arith

pub all_six : (a b c d e f : Bool) → Six a b c d e f → (a && b && c && d && e && f) ≡ true
all_six a b c d e f s = cc

pub parts_at : (s t : State) (k : Key) → is_same_at s t k ≡ true → SameAt s t k
unfolding is_same_at
parts_at s t k e = grind (arith, six)

-- ---- named keys cover

pub named_keys_cover : (keys : List Key) (s t : State) → IsOrdered s → IsOrdered t → IsShared s t
    → ((k : Key) → is_same_at s t k ≡ false → touching keys k ≡ true) → AgreesBut (touching keys) s t
named_keys_cover keys s t before after shared named q out =
    scopes_same (reads q) s t shared (record {
      groups = seen_found_alike same_group_record cut_group of_group_records (reads q) s.group_records t.group_records
          before.group_records after.group_records (λ k r. (at k r).groups);
      records = seen_found_alike same_source_record cut_source of_source_records (reads q) s.source_records
          t.source_records before.source_records after.source_records (λ k r. (at k r).records);
      downstream = seen_found_alike same_downstream cut_kind of_downstream (reads q) s.downstream t.downstream
          before.downstream after.downstream (λ k r. (at k r).downstream);
      asserts = seen_found_alike same_assert cut_assert of_asserts (reads q) s.asserts t.asserts before.asserts
          after.asserts (λ k r. (at k r).asserts);
      sources = seen_found_alike same_source cut_kept of_sources (reads q) s.sources t.sources before.sources
          after.sources (λ k r. (at k r).sources);
      registers = seen_found_alike same_register cut_register of_registers (reads q) s.registers t.registers
          before.registers after.registers (λ k r. (at k r).registers);
    })
  where
    at : (k : Key) → reads q k ≡ true → SameAt s t k
    at k r = parts_at s t k (go (is_same_at s t k) refl)
      where
        go : (b : Bool) → is_same_at s t k ≡ b → b ≡ true
        go true e = refl
        go false e = cc (unread_of keys k q (named k e) out, r)

-- ---- the keys under which rows differ are named

pub row_named : {R : Type 0} (k : Key) (t : Table R) → list_any (same_key k) (keys_in t) ≡ has_row t k
unfolding keys_in
row_named k t = any_of_map (same_key k) (λ e. e.0) t ∙ sym (has_row_any k t)

pub passing_named : (p : Key → Bool) (k : Key) → p k ≡ true → (ks : List Key)
    → list_any (λ x. p x && same_key k x) ks ≡ list_any (same_key k) ks
passing_named p k here ks = grind (arith, equal_keys)

module _ {R : Type 0} (same : R → R → Bool) where
  neither_same : (a b : Option R) → (is_some a || is_some b) ≡ false → same_both same a b ≡ true
  neither_same a b e = grind arith

  -- a key that isn't named has the same rows
  unnamed_same : (k : Key) (t u : Table R) → is_named (differing_in same t u) k ≡ false → same_at same k t u ≡ true
  unfolding is_named differing_in has_row
  unnamed_same k t u e = go (same_at same k t u) refl
    where
      go : (b : Bool) → same_at same k t u ≡ b → b ≡ true
      go true was = refl
      go false was =
          let all : list_any (same_key k) (filter (λ q. not (same_at same q t u)) (keys_in t ++ keys_in u))
          ≡ (is_some (row_at t k) || is_some (row_at u k)) =
          any_in_filter (λ q. not (same_at same q t u)) (same_key k) (keys_in t ++ keys_in u)
          ∙ (passing_named (λ q. not (same_at same q t u)) k (ap not was) (keys_in t ++ keys_in u)
          ∙ (list_any-append (same_key k) (keys_in t) (keys_in u) ∙ (λ j. row_named k t j || row_named k u j))) in
          cc (neither_same (row_at t k) (row_at u k) (sym all ∙ e), was)

-- the parts of six that fail
or_six : (a b c d e f : Bool) → (a || b || c || d || e || f) ≡ false
    → Six (not a) (not b) (not c) (not d) (not e) (not f)
or_six a b c d e f h = grind arith

negated : (b : Bool) → not b ≡ true → b ≡ false
negated b e = grind arith

pub any_of_six : (p : Key → Bool) (a b c d e f : List Key)
    → list_any p (a ++ b ++ c ++ d ++ e ++ f)
    ≡ (list_any p a || list_any p b || list_any p c || list_any p d || list_any p e || list_any p f)
any_of_six p a b c d e f = grind (arith, list_any-append)

module _ (s t : State) where
  abbrev groups : List Key
  groups = differing_in same_group_record s.group_records t.group_records

  abbrev records : List Key
  records = differing_in same_source_record s.source_records t.source_records

  abbrev states : List Key
  states = differing_in same_downstream s.downstream t.downstream

  abbrev asserts : List Key
  asserts = differing_in same_assert s.asserts t.asserts

  abbrev sources : List Key
  sources = differing_in same_source s.sources t.sources

  abbrev registers : List Key
  registers = differing_in same_register s.registers t.registers

  unnamed_is_same : (k : Key) → is_named (differing s t) k ≡ false → is_same_at s t k ≡ true
  unfolding differing is_named is_same_at
  unnamed_is_same k e = grind (arith, or_six, any_of_six, all_six, unnamed_same, negated)

  differing_touched : (k : Key) → is_same_at s t k ≡ false → touching (differing s t) k ≡ true
  differing_touched k e = grind (arith, named_touches, unnamed_is_same)

pub differing_keys_cover : (s t : State) → IsOrdered s → IsOrdered t → IsShared s t
    → AgreesBut (touching (differing s t)) s t
differing_keys_cover s t before after shared = grind (arith, named_keys_cover, differing_touched)

-- ---- no others

pub agreed_rows_are_same : (k q : Key) (s t : State) → AgreesWhollyOn k s t → reads k q ≡ true → is_same_at s t q ≡ true
unfolding scope whole_scope is_same_at
agreed_rows_are_same k q s t agree r =
    all_six _ _ _ _ _ _ (record {
      first = same_where_alike same_group_record cut_group of_group_records (reads k) q r s.group_records t.group_records
          (ap (λ (x : State). x.group_records) agree);
      second = same_where_alike same_source_record cut_source of_source_records (reads k) q r s.source_records
          t.source_records (ap (λ (x : State). x.source_records) agree);
      third = same_where_alike same_downstream cut_kind of_downstream (reads k) q r s.downstream t.downstream
          (ap (λ (x : State). x.downstream) agree);
      fourth = same_where_alike same_assert cut_assert of_asserts (reads k) q r s.asserts t.asserts
          (ap (λ (x : State). x.asserts) agree);
      fifth = same_where_alike same_source cut_kept of_sources (reads k) q r s.sources t.sources
          (ap (λ (x : State). x.sources) agree);
      sixth = same_where_alike same_register cut_register of_registers (reads k) q r s.registers t.registers
          (ap (λ (x : State). x.registers) agree);
    })

passes_not : {X : Type 0} (p q : X → Bool) → ((x : X) → q x ≡ true → p x ≡ false) → (xs : List X)
    → list_any (λ x. p x && q x) xs ≡ false
passes_not p q apart [] = refl
passes_not p q apart (x ∷ xs) = grind (arith, passes_not p q apart xs)

module _ (s t : State) (k : Key) (agree : AgreesWhollyOn k s t) where
  same_six : (q : Key) → reads k q ≡ true → SameAt s t q
  same_six q r = parts_at s t q (agreed_rows_are_same k q s t agree r)

  none_read : {R : Type 0} (same : R → R → Bool) (t u : Table R)
      → ((q : Key) → reads k q ≡ true → same_at same q t u ≡ true) → list_any (reads k) (differing_in same t u) ≡ false
  unfolding differing_in
  none_read same t u all = grind (arith, any_in_filter, passes_not)

  is_least : touching (differing s t) k ≡ false
  unfolding differing touching
  is_least =
      any_of_six (reads k) (groups s t) (records s t) (states s t) (asserts s t) (sources s t) (registers s t)
      ∙ rw (
        none_read same_group_record s.group_records t.group_records (λ q r. (same_six q r).groups),
        none_read same_source_record s.source_records t.source_records (λ q r. (same_six q r).records),
        none_read same_downstream s.downstream t.downstream (λ q r. (same_six q r).downstream),
        none_read same_assert s.asserts t.asserts (λ q r. (same_six q r).asserts),
        none_read same_source s.sources t.sources (λ q r. (same_six q r).sources),
        none_read same_register s.registers t.registers (λ q r. (same_six q r).registers),
      ) refl

pub differing_is_least : (s t : State) (k : Key) → AgreesWhollyOn k s t → touching (differing s t) k ≡ false
differing_is_least s t k agree = is_least s t k agree

-- ---- where none differs

pub same_but_ends_touches_nothing : (s t : State) → IsShared s t → is_same_but_ends s t ≡ true
    → AgreesBut (touching []) s t
unfolding is_same_but_ends
same_but_ends_touches_nothing s t shared e q out =
    let p : _ = six (same_rows same_group_record s.group_records t.group_records)
    (same_rows same_source_record s.source_records t.source_records)
    (same_rows same_downstream s.downstream t.downstream) (same_rows same_assert s.asserts t.asserts)
    (same_rows same_source s.sources t.sources) (same_rows same_register s.registers t.registers) e in
    scopes_same (reads q) s t shared (record {
      groups = seen_alike same_group_record cut_group of_group_records (reads q) _ _ p.first;
      records = seen_alike same_source_record cut_source of_source_records (reads q) _ _ p.second;
      downstream = seen_alike same_downstream cut_kind of_downstream (reads q) _ _ p.third;
      asserts = seen_alike same_assert cut_assert of_asserts (reads q) _ _ p.fourth;
      sources = seen_alike same_source cut_kept of_sources (reads q) _ _ p.fifth;
      registers = seen_alike same_register cut_register of_registers (reads q) _ _ p.sixth;
    })

-- ---- what follows

pub changed_keys_settle : (o : State) → IsQuiet o → IsOrdered o → (change : State × List Message) (w : ℕ)
    → IsOrdered change.0 → IsShared o change.0 → settled o change w ≡ own_settled (differing o change.0) o change w
changed_keys_settle o quiet before change w after shared = grind (arith, settling_is_own, differing_keys_cover)

pub none_left : {X : Type 0} (p : X → Bool) → ((x : X) → p x ≡ false) → (xs : List X) → filter p xs ≡ []
none_left p none [] = refl
none_left p none (x ∷ xs) = (λ j. cond (none x j) (x ∷ filter p xs) (filter p xs)) ∙ none_left p none xs

module _ (o : State) where
  nothing_to_clear : (s : State) → touched_to_clear (touching []) o s ≡ None
  unfolding touched_to_clear touched_assert touched_spt touching first_by
  nothing_to_clear s = grind (arith, none_left)

  nothing_cleared : (n : ℕ) (s : State) → until_none (touched_to_clear (touching []) o) cleared n s ≡ (s, [])
  unfolding until_none after_next
  nothing_cleared n s = grind (arith, nothing_to_clear)

nothing_registered : (s : State) → touched_registers (touching []) s ≡ s
unfolding touched_registers touching
nothing_registered s = grind (arith, none_left)

nothing_told : (o a : State) (w : ℕ) → own_upstream [] o a w ≡ (a, [])
unfolding own_upstream groups_of each_in_turn ascending
nothing_told o a w = refl

pub nothing_follows : (o : State) → IsQuiet o → (change : State × List Message) (w : ℕ)
    → AgreesBut (touching []) o change.0 → settled o change w ≡ write_all change.0 change.1
unfolding own_settled touched_clear
nothing_follows o quiet change w agree =
    settling_is_own [] o quiet change w agree
    ∙ ((λ j. (let after_clearing : State × List Message =
    until_none (touched_to_clear (touching []) o) cleared (clearable_count (nothing_registered change.0 j))
    (nothing_registered change.0 j) in
    let told : State × List Message = own_upstream [] o after_clearing.0 w in
    write_all told.0 (change.1 ++ after_clearing.1 ++ told.1)))
    ∙ ((λ j. (let after_clearing : State × List Message =
    nothing_cleared o (clearable_count change.0) change.0 j in
    let told : State × List Message = nothing_told o after_clearing.0 w j in
    write_all told.0 (change.1 ++ after_clearing.1 ++ told.1)))
    ∙ (λ j. write_all change.0 ((append-nil (change.1 ++ []) ∙ append-nil change.1) j))))

pub same_but_ends_settles : (o : State) → IsQuiet o → (change : State × List Message) (w : ℕ) → IsShared o change.0
    → is_same_but_ends o change.0 ≡ true → settled o change w ≡ write_all change.0 change.1
same_but_ends_settles o quiet change w shared e = grind (arith, nothing_follows, same_but_ends_touches_nothing)
