-- What is local to a key: to the machine of (*,G), or to the machines of a source of it.
use Rattle.std.{specs.{List.{Sorted.IsStrictlySortedBy, list_all, list_any}, Option.option_or, Prelude.{Bool, List, Option, [], find, fold, not, option_map, ◌∷◌, false, filter, true, ℕ, ◌≡◌, ◌++◌}}}
use Rattle.pim_types.{specs.{declared.{fact.{SourceRow.SourceRow, Key.Key, AssertRow.AssertRow, DownstreamRow.DownstreamRow}, config.Config.Config, outcome.Emission.Emission}, Keys.{group_in, key_cmp, source_in, source_key, star_key}}}
use Rattle.pim_model.{specs.{Clearing.{ClearAssert, ClearSptBit, Cleared, assert_must_go, clear_all, clearable_count, cleared, first_by, is_assert_first, spt_must_go, to_clear}, Desires.{join_desired, join_desired_star, tree_state}, Messages.Message, Querier.each_in_turn, Firing.settled, Registers.{could_register, settle_registers, settled_register}, Writing.write_all, Repeat.until_none, State.{State, opening}, Tables.{has_row, keys_in, rows_where, same_bool, set_row, Table}, Upstream.{fact_keys, group_upstream, groups_of, nothing_told, source_upstream, source_view, sources_of, star_told, star_view, upstream}}}
use Rattle.law_events.{specs.Scopes.{reads, rows_of, scope}}

abbrev pub StarDesiresAreLocal : Type 0
StarDesiresAreLocal =
    (g : ℕ) (s : State) → join_desired_star (scope (reads (star_key 0 g)) s) g ≡ join_desired_star s g

abbrev pub SourceDesiresAreLocal : Type 0
SourceDesiresAreLocal =
    (g : ℕ) (s : State) (src : ℕ) → join_desired (scope (reads (source_key 0 g src)) s) g src ≡ join_desired s g src

abbrev pub TreeStatesAreLocal : Type 0
TreeStatesAreLocal =
    (g : ℕ) (s : State) (src : ℕ) → tree_state (scope (reads (source_key 0 g src)) s) g src ≡ tree_state s g src

abbrev pub StarViewsAreLocal : Type 0
StarViewsAreLocal = (g : ℕ) (s : State) → star_view (scope (reads (star_key 0 g)) s) g ≡ star_view s g

abbrev pub SourceViewsAreLocal : Type 0
SourceViewsAreLocal =
    (g : ℕ) (s : State) (src : ℕ) → source_view (scope (reads (source_key 0 g src)) s) g src ≡ source_view s g src

-- Whether a source can be registered is local to its key.
abbrev pub CouldRegisterIsLocal : Type 0
CouldRegisterIsLocal = (k : Key) (s : State)
    → could_register (scope (reads k) s) (group_in k) (source_in k) ≡ could_register s (group_in k) (source_in k)

-- ---- where two states agree

-- The machines of a key read the same in both states.
abbrev pub AgreesOn : Key → State → State → Type 0
AgreesOn k s t = scope (reads k) s ≡ scope (reads k) t

-- Two states agree on all keys but the touched ones.
abbrev pub AgreesBut : (Key → Bool) → State → State → Type 0
AgreesBut touches s t = (k : Key) → touches k ≡ false → AgreesOn k s t

-- The touched keys are closed: a key that reads the rows of a touched one is touched, so a touched (*,G) touches its
-- sources.
abbrev pub IsClosed : (Key → Bool) → Type 0
IsClosed touches = (k q : Key) → touches k ≡ true → reads q k ≡ true → touches q ≡ true

-- The key reads rows under one of the given keys.
unfoldable pub touching : List Key → Key → Bool
touching keys q = list_any (reads q) keys

abbrev pub TouchingIsClosed : Type 0
TouchingIsClosed = (keys : List Key) → IsClosed (touching keys)

-- Nothing of (*,G) is sent upstream where two states agree on it.
abbrev pub AgreedStarIsUntold : Type 0
AgreedStarIsUntold = (g : ℕ) (o a : State) (w : ℕ) → AgreesOn (star_key 0 g) o a
    → star_told a w g (star_view o g) (star_view a g) ≡ nothing_told

abbrev pub AgreedSourceIsUntold : Type 0
AgreedSourceIsUntold = (g src : ℕ) (o a : State) (w : ℕ) → AgreesOn (source_key 0 g src) o a
    → (s : State) → source_upstream o a w g s src ≡ (s, [])

-- ---- what is sent upstream

-- The keys of all facts at the opening and in the state.
unfoldable pub facts_of_both : State → State → List Key
facts_of_both o a = fact_keys o ++ fact_keys a

-- The messages upstream of the touched keys.
unfoldable pub touched_upstream : (Key → Bool) → State → State → ℕ → State × List Message
touched_upstream touches o a w =
    let keys : List Key = filter touches (facts_of_both o a) in
    each_in_turn (group_upstream o a w keys) a (groups_of keys)

-- Where the opening and the state agree on all keys but the touched ones, the messages of these are all messages
-- upstream.
abbrev pub UpstreamIsLocal : Type 0
UpstreamIsLocal = (touches : Key → Bool) → IsClosed touches → (o a : State) (w : ℕ) → AgreesBut touches o a
    → upstream o a w ≡ touched_upstream touches o a w

-- ---- clearing

-- Whether an assert must go depends on the rows that its key reads.
abbrev pub AssertsAreLocal : Type 0
AssertsAreLocal = (o s : State) (e : Key × AssertRow)
    → assert_must_go o (scope (reads e.0) s) e ≡ assert_must_go o s e

-- ---- changes of tables

-- Setting a row under a key doesn't change what a key that doesn't read it sees.
abbrev pub RowsElsewhereStay : Type 0
RowsElsewhereStay = (sees : Key → Bool) (k : Key) → sees k ≡ false
    → (t : Table DownstreamRow) (row : Option DownstreamRow) → rows_where sees (set_row t k row) ≡ rows_where sees t

-- ---- what must go

-- A row is under a touched key.
abbrev pub of_touched : {R : Type 0} → (Key → Bool) → Key × R → Bool
of_touched touches e = touches e.0

-- The first touched assert that must go.
unfoldable pub touched_assert : (Key → Bool) → State → State → Option Cleared
touched_assert touches o s =
    option_map (λ e. ClearAssert e.0 e.1)
    (first_by is_assert_first (filter (assert_must_go o s) (filter (of_touched touches) s.asserts)))

-- The first touched SPTbit that must be cleared.
unfoldable pub touched_spt : (Key → Bool) → State → Option Cleared
touched_spt touches s =
    option_map (λ e. ClearSptBit e.0) (find (spt_must_go s) (filter (of_touched touches) s.sources))

-- The first touched fact that must go: an assert, or else an SPTbit.
unfoldable pub touched_to_clear : (Key → Bool) → State → State → Option Cleared
touched_to_clear touches o s =
    let spt : Option Cleared = touched_spt touches s in
    option_or (touched_assert touches o s) spt

-- The state after all touched facts that must go are gone, one by one, and the messages of that.
unfoldable pub touched_clear : (Key → Bool) → State → State → State × List Message
touched_clear touches o s = until_none (touched_to_clear touches o) cleared (clearable_count s) s

-- A source has a register row if and only if it can be registered.
abbrev pub is_register_settled : State → Key → Bool
is_register_settled s k = same_bool (could_register s (group_in k) (source_in k)) (has_row s.registers k)

-- Nothing must go: no assert and no SPTbit.
pub record IsClear (o : State) : Type 0 where
  pub asserts : list_all (λ e. not (assert_must_go o o e)) o.asserts ≡ true
  pub sources : list_all (λ e. not (spt_must_go o e)) o.sources ≡ true

-- Nothing must go, and all registers are settled.
pub record IsQuiet (o : State) : Type 0 where
  pub clear : IsClear o
  pub sources_settled : list_all (λ e. is_register_settled o e.0) o.sources ≡ true
  pub registers_settled : list_all (λ e. is_register_settled o e.0) o.registers ≡ true

-- Where the opening was quiet, and the state agrees with it on all keys but the touched ones, all facts that go are of
-- touched keys.
abbrev pub ClearingIsLocal : Type 0
ClearingIsLocal =
    (touches : Key → Bool) → IsClosed touches → (o : State) → IsQuiet o → (s : State) → AgreesBut touches o s
    → clear_all o s ≡ touched_clear touches o s

abbrev pub NextToClearIsLocal : Type 0
NextToClearIsLocal = (touches : Key → Bool) (o : State) → IsQuiet o → (s : State) → AgreesBut touches o s
    → to_clear o s ≡ touched_to_clear touches o s

-- ---- registers

-- The keys of the touched sources.
abbrev pub touched_source_keys : (Key → Bool) → State → List Key
touched_source_keys touches s = filter touches (keys_in s.sources ++ keys_in s.registers)

-- The state in which the registers of the touched sources are settled.
unfoldable pub touched_registers : (Key → Bool) → State → State
touched_registers touches s =
    record s { registers = fold (λ t k. settled_register s k t) s.registers (touched_source_keys touches s) }

abbrev pub RegistersAreLocal : Type 0
RegistersAreLocal =
    (touches : Key → Bool) → IsClosed touches → (o : State) → IsQuiet o → (s : State) → AgreesBut touches o s
    → settle_registers s ≡ touched_registers touches s

-- ---- all that follows of a change

-- All that follows of a change by the touched keys alone: registers, clearing, and what is sent upstream.
unfoldable pub touched_settled : (Key → Bool) → State → State × List Message → ℕ → State × List Emission
touched_settled touches o change w =
    let after_clearing : State × List Message = touched_clear touches o (touched_registers touches change.0) in
    let told : State × List Message = touched_upstream touches o after_clearing.0 w in
    write_all told.0 (change.1 ++ after_clearing.1 ++ told.1)

abbrev pub SettlingIsLocal : Type 0
SettlingIsLocal =
    (touches : Key → Bool) → IsClosed touches → (o : State) → IsQuiet o → (change : State × List Message) (w : ℕ)
    → AgreesBut touches o change.0 → settled o change w ≡ touched_settled touches o change w

-- After settling no fact must go.
abbrev pub SettlingClears : Type 0
SettlingClears = (o : State) (change : State × List Message) (w : ℕ) → IsClear (settled o change w).0

-- A quiet state stays quiet where all keys agree.
abbrev pub QuietGoesOn : Type 0
QuietGoesOn = (s t : State) → AgreesBut (touching []) s t → IsQuiet s → IsQuiet t

-- Each key of a table is listed once.
abbrev pub AreOnce : {R : Type 0} → Table R → Type 0
AreOnce [] = Unit {0}
AreOnce (x ∷ xs) = (has_row xs x.0 ≡ false) × AreOnce xs

-- After settling, a change whose sources are listed once leaves a quiet state.
abbrev pub SettlingQuiets : Type 0
SettlingQuiets = (o : State) (change : State × List Message) (w : ℕ) → AreOnce (change.0).sources
    → IsQuiet (settled o change w).0

-- ---- what is found by the rows of a group

-- The keys of all facts of a group.
unfoldable pub own_keys : ℕ → State → List Key
own_keys g s =
    keys_in (rows_of g s.group_records) ++ keys_in (rows_of g s.source_records) ++ keys_in (rows_of g s.group_repeats)
    ++ keys_in (rows_of g s.source_repeats) ++ keys_in (rows_of g s.sendings) ++ keys_in (rows_of g s.downstream)
    ++ keys_in (rows_of g s.asserts) ++ keys_in (rows_of g s.join_timers) ++ keys_in (rows_of g s.override_timers)
    ++ keys_in (rows_of g s.sources) ++ keys_in (rows_of g s.registers)

-- The rows of a group name all its sources.
abbrev pub SourcesAreOwn : Type 0
SourcesAreOwn =
    (g : ℕ) (o a : State) → sources_of g (own_keys g o ++ own_keys g a) ≡ sources_of g (fact_keys o ++ fact_keys a)

abbrev pub OpeningIsQuiet : Type 0
OpeningIsQuiet = (c : Config) → IsQuiet (opening c)

abbrev pub PresentTouchesNone : Type 0
PresentTouchesNone = (s : State) (m : ℕ) → AgreesBut (touching []) s (record s { present = m })

-- Sources whose keys rise are listed once.
abbrev pub SourcesStandOnce : Type 0
SourcesStandOnce = (t : Table SourceRow) → IsStrictlySortedBy key_cmp (keys_in t) → AreOnce t

-- The messages upstream of the groups of some keys, found by the keys of each group's own facts.
unfoldable pub own_upstream : List Key → State → State → ℕ → State × List Message
own_upstream keys o a w =
    each_in_turn (λ s g. group_upstream o a w (filter (touching keys) (own_keys g o ++ own_keys g a)) s g) a
    (groups_of keys)

-- Where the keys touch all that differs, the messages of their groups are all messages upstream.
abbrev pub UpstreamIsOwn : Type 0
UpstreamIsOwn = (keys : List Key) (o a : State) (w : ℕ) → AgreesBut (touching keys) o a
    → upstream o a w ≡ own_upstream keys o a w

-- All that follows of a change that touches these keys, found by the rows of their groups.
unfoldable pub own_settled : List Key → State → State × List Message → ℕ → State × List Emission
own_settled keys o change w =
    let after_clearing : State × List Message =
    touched_clear (touching keys) o (touched_registers (touching keys) change.0) in
    let told : State × List Message = own_upstream keys o after_clearing.0 w in
    write_all told.0 (change.1 ++ after_clearing.1 ++ told.1)

abbrev pub SettlingIsOwn : Type 0
SettlingIsOwn = (keys : List Key) (o : State) → IsQuiet o → (change : State × List Message) (w : ℕ)
    → AgreesBut (touching keys) o change.0 → settled o change w ≡ own_settled keys o change w
