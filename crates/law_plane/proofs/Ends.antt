-- A state with other ends of keepalive timers, and another present: what a keepalive timer that is set, and time that
-- passes with nothing due, make of it.
use Rattle.std.{proofs.{Common.{◌≡◌, ◌+◌, ℕ, Bool, true, false, cond, List, [], ◌∷◌, ◌++◌, map, Option, Some, None, nat_lt, option_map, is_some, refl, sym, ap, subst, ◌∙◌, arith}, lemmas.List.Folds.list_all-append}, specs.{BTreeMap.insert_entry, List.{AllByRecursion, cons_option, list_all, Sorted.IsStrictlySortedBy}, Option.{option_map_or, option_or}, Ordering.{is_eq, match_ordering}, declared.cmp.Ordering.{Ordering, TheVariants.{Equal, Greater, Less}}}}
use Rattle.pim_types.{specs.{declared.{fact.{AssertRow.AssertRow, DownstreamRow.DownstreamRow, GroupRecordRow.GroupRecordRow, GroupRepeatRow.GroupRepeatRow, InterfaceRow.InterfaceRow, JoinTimerRow.JoinTimerRow, Key.Key, NeighbourRow.NeighbourRow, OverrideTimerRow.OverrideTimerRow, QuerierRow.QuerierRow, RegisterRow.RegisterRow, SourceRecordRow.SourceRecordRow, SourceRepeatRow.SourceRepeatRow, SourceRow.SourceRow}, timer.TimerKind.TimerKind}, Keys.{key_cmp, same_key, source_key}}, proofs.Keys.equal_keys}
use Rattle.pim_model.{specs.{Registers.{keepalive_period, with_keepalive}, Sets.spt_bit, State.State, Tables.{Table, has_row, keys_in, put, row_at}, Timers.{Ending, ending, endings, next_query, other_querier_end, register_end, timers}}}
use Rattle.law_settled.{specs.Laws.ends_after}
use Rattle.law_events.{proofs.OwnKeys.{all_later, none_below}}

-- the new end of each key's timer, if it has one
abbrev pub Ends : Type 0
Ends = Key → Option ℕ

abbrev pub no_ends : Ends
no_ends k = None

abbrev pub set_end : Ends → Key → ℕ → Ends
set_end f k end q = cond (same_key k q) (Some end) (f q)

abbrev pub ended : Ends → Key × SourceRow → Key × SourceRow
ended f e = (e.0, record { keepalive = option_or (f e.0) (e.1).keepalive; spt = (e.1).spt })

abbrev pub with_ends : Ends → State → ℕ → State
with_ends f s m = record s { present = m; sources = map (ended f) s.sources }

-- ---- none is new

each_as_it_is : (t : Table SourceRow) → map (ended no_ends) t ≡ t
each_as_it_is [] = refl
each_as_it_is (x ∷ xs) = ap (λ (t : Table SourceRow). x ∷ t) (each_as_it_is xs)

pub as_it_is : (s : State) → with_ends no_ends s s.present ≡ s
as_it_is s = λ j. record s { sources = each_as_it_is s.sources j }

-- ---- a timer is set

module _ (f : Ends) (k : Key) where
  spt_step : (x : Key × SourceRow) (xs : Table SourceRow) (b : Bool)
      → option_map_or (λ (r : SourceRow). r.spt) (row_at (map (ended f) xs) k) false
      ≡ option_map_or (λ (r : SourceRow). r.spt) (row_at xs k) false
      → option_map_or (λ (r : SourceRow). r.spt) (cond b (Some (ended f x).1) (row_at (map (ended f) xs) k)) false
      ≡ option_map_or (λ (r : SourceRow). r.spt) (cond b (Some x.1) (row_at xs k)) false
  spt_step x xs b ih = grind arith

  same_spt : (t : Table SourceRow) → option_map_or (λ (r : SourceRow). r.spt) (row_at (map (ended f) t) k) false
      ≡ option_map_or (λ (r : SourceRow). r.spt) (row_at t k) false
  unfolding row_at
  same_spt [] = refl
  same_spt (x ∷ xs) = spt_step x xs (is_eq (key_cmp k x.0)) (same_spt xs)

  there_step : (x : Key × SourceRow) (xs : Table SourceRow) (b : Bool)
      → is_some (row_at (map (ended f) xs) k) ≡ is_some (row_at xs k)
      → is_some (cond b (Some (ended f x).1) (row_at (map (ended f) xs) k)) ≡ is_some (cond b (Some x.1) (row_at xs k))
  there_step x xs b ih = grind arith

  same_there : (t : Table SourceRow) → is_some (row_at (map (ended f) t) k) ≡ is_some (row_at t k)
  unfolding row_at
  same_there [] = refl
  same_there (x ∷ xs) = there_step x xs (is_eq (key_cmp k x.0)) (same_there xs)

  pub still_there : (t : Table SourceRow) → has_row (map (ended f) t) k ≡ has_row t k
  unfolding has_row
  still_there t = same_there t

  module _ (end : ℕ) where
    abbrev then_ended : Key × SourceRow → Key × SourceRow
    then_ended = ended (set_end f k end)

    head_else : (x : Key × SourceRow) → same_key k x.0 ≡ false → ended f x ≡ then_ended x
    head_else x e = λ j. (x.0, record { keepalive = option_or (cond (sym e j) (Some end) (f x.0)) (x.1).keepalive; spt = (x.1).spt })

    elsewhere : (t : Table SourceRow) → AllByRecursion (λ y. key_cmp k y ≡ Less) (keys_in t)
        → map (ended f) t ≡ map then_ended t
    unfolding keys_in
    elsewhere [] above = refl
    elsewhere (x ∷ xs) above = λ j. head_else x (ap is_eq above.0) j ∷ elsewhere xs above.1 j

    put_step : (x : Key × SourceRow) (xs : Table SourceRow) (o : Ordering) (r : SourceRow) → key_cmp k x.0 ≡ o
        → AllByRecursion (λ y. key_cmp x.0 y ≡ Less) (keys_in xs)
        → cond (is_eq o) (Some x.1) (row_at xs k) ≡ Some r
        → (row_at xs k ≡ Some r
        → insert_entry key_cmp (map (ended f) xs) k (record { keepalive = Some end; spt = r.spt }) ≡ map then_ended xs)
        → match_ordering o ((k, record { keepalive = Some end; spt = r.spt }) ∷ map (ended f) (x ∷ xs))
        ((x.0, record { keepalive = Some end; spt = r.spt }) ∷ map (ended f) xs)
        (ended f x ∷ insert_entry key_cmp (map (ended f) xs) k (record { keepalive = Some end; spt = r.spt }))
        ≡ map then_ended (x ∷ xs)
    unfolding has_row
    put_step x xs Less r e above found ih =
        let gone : has_row xs k ≡ false = none_below k xs (all_later k x.0 (keys_in xs) e above) in
        let none : ⊥ = cc in
        absurd none
    put_step x xs Equal r e above found ih =
        let here : x.1 ≡ r = cc in
        let same : k ≡ x.0 = equal_keys k x.0 (ap is_eq e) in
        λ j. (
          x.0,
          record {
            keepalive = option_or (cond (sym (ap is_eq e) j) (Some end) (f x.0)) (x.1).keepalive;
            spt = (sym here j).spt;
          },
        ) ∷ elsewhere xs (subst (λ (q : Key). AllByRecursion (λ y. key_cmp q y ≡ Less) (keys_in xs)) (sym same) above) j
    put_step x xs Greater r e above found ih = λ j. head_else x (ap is_eq e) j ∷ ih found j

    pub put_ended : (t : Table SourceRow) (r : SourceRow) → IsStrictlySortedBy key_cmp (keys_in t) → row_at t k ≡ Some r
        → put (map (ended f) t) k (record { keepalive = Some end; spt = r.spt }) ≡ map then_ended t
    unfolding put row_at keys_in IsStrictlySortedBy
    put_ended [] r rises found = let none : ⊥ = cc in absurd none
    put_ended (x ∷ xs) r rises found = grind (arith, put_ended xs r rises.1, put_step)

module _ (f : Ends) (s : State) (m g src : ℕ) (r : SourceRow) (rises : IsStrictlySortedBy key_cmp (keys_in s.sources))
    (found : row_at s.sources (source_key 0 g src) ≡ Some r) where
  its_spt : spt_bit (with_ends f s m) g src ≡ r.spt
  unfolding spt_bit
  its_spt =
      same_spt f (source_key 0 g src) s.sources
      ∙ ap (λ (o : Option SourceRow). option_map_or (λ (r : SourceRow). r.spt) o false) found

  pub kept_ended : with_keepalive (with_ends f s m) g src
      ≡ with_ends (set_end f (source_key 0 g src) (m + keepalive_period)) s m
  unfolding with_keepalive
  kept_ended = grind (arith, its_spt, put_ended)

-- ---- what ends later

-- all new ends are later than a timestamp
abbrev pub AreLate : ℕ → Ends → Type 0
AreLate m f = (k : Key) (end : ℕ) → f k ≡ Some end → nat_lt m end ≡ true

module _ (m : ℕ) (f : Ends) (late : AreLate m f) where
  abbrev is_later : Ending → Bool
  is_later e = nat_lt m e.end

  abbrev its_endings : Table SourceRow → List Ending
  its_endings t = endings TimerKind.Keepalive (λ (r : SourceRow). r.keepalive) t

  later_step : (k : Key) (new old : Option ℕ) (ds es : List Ending) → f k ≡ new
      → (list_all is_later ds ≡ true → list_all is_later es ≡ true)
      → list_all is_later (cons_option (option_map (ending TimerKind.Keepalive k) old) ds) ≡ true
      → list_all is_later (cons_option (option_map (ending TimerKind.Keepalive k) (option_or new old)) es) ≡ true
  later_step k new old ds es e ih all = grind arith

  later_endings : (t : Table SourceRow) → list_all is_later (its_endings t) ≡ true
      → list_all is_later (its_endings (map (ended f) t)) ≡ true
  unfolding endings
  later_endings [] all = refl
  later_endings (x ∷ xs) all = later_step x.0 (f x.0) (x.1).keepalive _ _ refl (later_endings xs) all

  past : (xs ys zs : List Ending) → (list_all is_later ys ≡ true → list_all is_later zs ≡ true)
      → list_all is_later (xs ++ ys) ≡ true → list_all is_later (xs ++ zs) ≡ true
  past xs ys zs next all = grind (arith, list_all-append)

  ahead_of : (xs ys zs : List Ending) → (list_all is_later xs ≡ true → list_all is_later zs ≡ true)
      → list_all is_later (xs ++ ys) ≡ true → list_all is_later (zs ++ ys) ≡ true
  ahead_of xs ys zs next all = grind (arith, list_all-append)

  -- no timer that expires is due by that timestamp
  module _ (s : State) where
    abbrev before : List Ending
    before =
        endings TimerKind.Neighbour (λ (r : NeighbourRow). r.end) s.neighbours
        ++ endings TimerKind.PrunePending (λ (r : DownstreamRow). r.pending) s.downstream
        ++ endings TimerKind.DownstreamExpiry (λ (r : DownstreamRow). r.expiry) s.downstream
        ++ endings TimerKind.GroupRecord (λ (r : GroupRecordRow). r.end) s.group_records
        ++ endings TimerKind.SourceRecord (λ (r : SourceRecordRow). r.end) s.source_records
        ++ endings TimerKind.Assert (λ (r : AssertRow). Some r.end) s.asserts

    abbrev with_sources : Table SourceRow → List Ending
    with_sources t = before ++ its_endings t

    abbrev with_registers : Table SourceRow → List Ending
    with_registers t = with_sources t ++ endings TimerKind.Register (λ (r : RegisterRow). register_end r.state) s.registers

    abbrev with_overrides : Table SourceRow → List Ending
    with_overrides t = with_registers t ++ endings TimerKind.Override (λ (r : OverrideTimerRow). Some r.end) s.override_timers

    abbrev with_joins : Table SourceRow → List Ending
    with_joins t = with_overrides t ++ endings TimerKind.Join (λ (r : JoinTimerRow). Some r.end) s.join_timers

    abbrev with_queriers : Table SourceRow → List Ending
    with_queriers t = with_joins t ++ endings TimerKind.OtherQuerier (λ (r : QuerierRow). other_querier_end r.role) s.queriers

    abbrev with_group_repeats : Table SourceRow → List Ending
    with_group_repeats t = with_queriers t ++ endings TimerKind.GroupRepeat (λ (r : GroupRepeatRow). Some r.next) s.group_repeats

    abbrev with_source_repeats : Table SourceRow → List Ending
    with_source_repeats t = with_group_repeats t ++ endings TimerKind.SourceRepeat (λ (r : SourceRepeatRow). Some r.next) s.source_repeats

    abbrev with_queries : Table SourceRow → List Ending
    with_queries t = with_source_repeats t ++ endings TimerKind.GeneralQuery (λ (r : QuerierRow). next_query r.role) s.queriers

    abbrev now_ended : Table SourceRow
    now_ended = map (ended f) s.sources

    pub ends_later : (now : ℕ) → ends_after m s ≡ true → ends_after m (with_ends f s now) ≡ true
    unfolding timers
    ends_later now all =
        ahead_of (with_queries s.sources) (endings TimerKind.Hello (λ (r : InterfaceRow). Some r.hello_end) s.interfaces) (with_queries now_ended)
        (ahead_of (with_source_repeats s.sources) (endings TimerKind.GeneralQuery (λ (r : QuerierRow). next_query r.role) s.queriers) (with_source_repeats now_ended)
        (ahead_of (with_group_repeats s.sources) (endings TimerKind.SourceRepeat (λ (r : SourceRepeatRow). Some r.next) s.source_repeats) (with_group_repeats now_ended)
        (ahead_of (with_queriers s.sources) (endings TimerKind.GroupRepeat (λ (r : GroupRepeatRow). Some r.next) s.group_repeats) (with_queriers now_ended)
        (ahead_of (with_joins s.sources) (endings TimerKind.OtherQuerier (λ (r : QuerierRow). other_querier_end r.role) s.queriers) (with_joins now_ended)
        (ahead_of (with_overrides s.sources) (endings TimerKind.Join (λ (r : JoinTimerRow). Some r.end) s.join_timers) (with_overrides now_ended)
        (ahead_of (with_registers s.sources) (endings TimerKind.Override (λ (r : OverrideTimerRow). Some r.end) s.override_timers) (with_registers now_ended)
        (ahead_of (with_sources s.sources) (endings TimerKind.Register (λ (r : RegisterRow). register_end r.state) s.registers) (with_sources now_ended)
        (past before (its_endings s.sources) (its_endings now_ended) (later_endings s.sources))))))))) all
