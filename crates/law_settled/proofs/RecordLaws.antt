-- What holds of the ends of a group record holds of those that a message's record, or the expiry of a timer, leaves of
-- it.
use Rattle.std.{proofs.Common.{map, ◌≡◌, ℕ, nat_lt, ◌==◌, Bool, true, false, cond, List, [], ◌∷◌, Option, Some, None, is_some, eqb-true, arith}, specs.{List.{AllByRecursion, cons_option, filter_map}, Option.option_map_or}}
use Rattle.pim_model.{specs.{Cause.is_including, Querier.is_excluding, Records.{Asked, Excluded, SourceState, Absent, GroupRecord, Member, RecordType, Included, apply_record, exclude_again, exclude_less, exclude_more, source_state_in, from_exclude, from_include, group_expired, include_more, include_to_exclude, is_running, kept_or_until, member_of, record_with, source_expired}, Sets.Set, Tables.is_among}}
use Rattle.law_settled.{proofs.ListLaws.{each_filter, each_map, each_more, each_passing}}

-- an end, or none
abbrev pub EndsSo : Type 0 → (ℕ → Type 0) → Option ℕ → Type 0
EndsSo never P None = never
EndsSo never P (Some end) = P end

-- Source src end: so a source's timer may end, Group end: so the group timer may; Never timed: so a source may be
-- excluded, where the group timer runs or doesn't
module _ (Never : Bool → Type 0) (Source : ℕ → ℕ → Type 0) (Group : ℕ → Type 0) where
  abbrev pub MemberSo : Type 0 → Member → Type 0
  MemberSo never m = EndsSo never (Source m.0) m.1

  pub record RecordSo (r : GroupRecord) : Type 0 where
    pub timer : EndsSo (Unit {0}) Group r.timer
    pub members : AllByRecursion (MemberSo (Never (is_some r.timer))) r.members

  -- all sources, or those that the record names, may have timers that expire at `full`
  pub record NewSo (full : ℕ) (type : RecordType) (sources : List ℕ) : Type 0 where
    pub all : is_excluding type ≡ true → Group full
    pub named : is_including type ≡ true → (src : ℕ) → is_among src sources ≡ true → Source src full

-- what makes of a record with such ends another
module _ (Never : Bool → Type 0) (Source : ℕ → ℕ → Type 0) (Group : ℕ → Type 0)
    (each : (src end : ℕ) → Group end → Source src end) (timed : (end : ℕ) → Group end → Never true)
    (ran : (src end : ℕ) → Source src end → Never true) where
  abbrev So : GroupRecord → Type 0
  So r = RecordSo Never Source Group r

  abbrev New : ℕ → RecordType → List ℕ → Type 0
  New full type sources = NewSo Never Source Group full type sources

  abbrev Members : Type 0 → List Member → Type 0
  Members never ms = AllByRecursion (MemberSo Never Source Group never) ms

  abbrev MemberAt : Bool → Member → Type 0
  MemberAt timed m = MemberSo Never Source Group (Never timed) m

  -- ---- what becomes of a source

  abbrev SourceStateSo : Type 0 → ℕ → SourceState → Type 0
  SourceStateSo never src Absent = Unit {0}
  SourceStateSo never src Excluded = never
  SourceStateSo never src (Included end) = Source src end

  with_source_state : (never : Type 0) (src : ℕ) (source_state : SourceState) (ms : List Member) → SourceStateSo never src source_state
      → Members never ms → Members never (cons_option (member_of src source_state) ms)
  with_source_state never src source_state ms f rest = grind arith

  source_states_so : (timer : Option ℕ) (source_state : ℕ → SourceState) (all : List ℕ) → EndsSo (Unit {0}) Group timer
      → ((src : ℕ) → SourceStateSo (Never (is_some timer)) src (source_state src)) → So (record_with timer source_state all)
  unfolding record_with
  source_states_so timer source_state all f g = record { timer = f; members = go all }
    where
      go : (all : List ℕ) → Members (Never (is_some timer)) (filter_map (λ src. member_of src (source_state src)) all)
      go [] = tt
      go (src ∷ all) = with_source_state (Never (is_some timer)) src (source_state src) _ (g src) (go all)

  found_source_state : (never : Type 0) (src : ℕ) (end : Option ℕ) → EndsSo never (Source src) end
      → SourceStateSo never src (option_map_or Included end Excluded)
  found_source_state never src end f = grind arith

  old_source_state : (never : Type 0) (timer : Option ℕ) (ms : List Member) → Members never ms → (src : ℕ)
      → SourceStateSo never src (source_state_in (record { timer = timer; members = ms }) src)
  unfolding source_state_in
  old_source_state never timer [] f src = tt
  old_source_state never timer (m ∷ ms) f src =
      grind (arith, old_source_state never timer ms f.1 src, found_source_state, eqb-true)

  more_source_state : (never : Type 0) (src full : ℕ) (b : Bool) (old : SourceState) → (b ≡ true → Source src full)
      → SourceStateSo never src old → SourceStateSo never src (cond b (Included full) old)
  more_source_state never src full b old new f = grind arith

  to_exclude_source_state : (src : ℕ) (b : Bool) (old : SourceState) → Never true → SourceStateSo (Never false) src old
      → SourceStateSo (Never true) src (cond b (cond (is_running old) old Excluded) Absent)
  to_exclude_source_state src b old new f = grind arith

  kept_source_state : (never : Type 0) (src end : ℕ) (old : SourceState) → Source src end → SourceStateSo never src old
      → SourceStateSo never src (kept_or_until end old)
  kept_source_state never src end old new f = grind arith

  either_source_state : (never : Type 0) (src : ℕ) (b : Bool) (x y : SourceState) → SourceStateSo never src x → SourceStateSo never src y
      → SourceStateSo never src (cond b x y)
  either_source_state never src b x y f g = grind arith

  -- ---- a message's record

  module _ (full : ℕ) (sources : List ℕ) (ms : List Member) (all : List ℕ) where
    abbrev named : Set
    named src = is_among src sources

    abbrev Applied : GroupRecord × List Asked → Type 0
    Applied p = So p.0

    abbrev Named : Type 0
    Named = (src : ℕ) → is_among src sources ≡ true → Source src full

    -- in INCLUDE
    module _ (f : Members (Never false) ms) where
      abbrev included : GroupRecord
      included = record { timer = None; members = ms }

      include_more_so : Named → So (record_with None (include_more full included named) all)
      include_more_so new = grind (arith, source_states_so, more_source_state, old_source_state)

      to_exclude_so : Group full → So (record_with (Some full) (include_to_exclude included named) all)
      to_exclude_so new =
          source_states_so (Some full) _ all new
          (λ src. to_exclude_source_state src (named src) (source_state_in included src) (timed full new) (old_source_state _ None ms f src))

      include_so : (type : RecordType) → New full type sources → Applied (from_include full included type named all)
      unfolding from_include
      include_so type new = grind (arith, include_more_so, to_exclude_so)

    -- in EXCLUDE
    module _ (end : ℕ) (group : Group end) (f : Members (Never true) ms) where
      abbrev excluding : GroupRecord
      excluding = record { timer = Some end; members = ms }

      source_state : (src : ℕ) → SourceStateSo (Never true) src (source_state_in excluding src)
      source_state = old_source_state _ (Some end) ms f

      exclude_less_so : Named → So (record_with (Some end) (exclude_less full excluding named) all)
      exclude_less_so new = grind (arith, source_states_so, more_source_state, source_state)

      exclude_again_so : (last : ℕ) → Group last → Group full
          → So (record_with (Some full) (exclude_again last excluding named) all)
      exclude_again_so last new group =
          grind (arith, source_states_so, either_source_state, kept_source_state, source_state)

      exclude_more_so : So (record_with (Some end) (exclude_more end excluding named) all)
      exclude_more_so = grind (arith, source_states_so, either_source_state, kept_source_state, source_state)

      exclude_so : (type : RecordType) → New full type sources
          → Applied (from_exclude full end excluding type named all)
      unfolding from_exclude
      exclude_so type new = grind (arith, exclude_less_so, exclude_again_so, exclude_more_so)

  of_parts : (full : ℕ) (sources : List ℕ) (timer : Option ℕ) (ms : List Member) (type : RecordType)
      → New full type sources → So (record { timer = timer; members = ms })
      → So (apply_record full (record { timer = timer; members = ms }) type sources).0
  unfolding apply_record
  of_parts full sources timer ms type new f = grind (arith, include_so, exclude_so)

  pub applied_so : (full : ℕ) (sources : List ℕ) (r : GroupRecord) (type : RecordType) → New full type sources
      → So r → So (apply_record full r type sources).0
  applied_so full sources r type new f = of_parts full sources r.timer r.members type new f

  -- ---- the timers' ends

  running_so : (never never' : Type 0) (now src : ℕ) (end : Option ℕ) → EndsSo never (Source src) end
      → option_map_or (nat_lt now) end false ≡ true → EndsSo never' (Source src) end
  running_so never never' now src end f e = grind arith

  pub group_expired_so : (now : ℕ) (r : GroupRecord) → So r → So (group_expired now r)
  unfolding group_expired
  group_expired_so now r f = grind (arith, each_more, running_so, each_passing)

  stopped : ℕ → Member → Member
  stopped src m = cond (m.0 == src) (src, None) m

  stopped_so : (src : ℕ) (m : Member) → MemberAt true m → MemberAt true (stopped src m)
  unfolding stopped
  stopped_so src m f = grind arith

  pub source_expired_so : (src : ℕ) (r : GroupRecord) → So r → So (source_expired src r)
  unfolding source_expired stopped
  source_expired_so src r f = go r.timer f.timer f.members
    where
      go : (timer : Option ℕ) → EndsSo (Unit {0}) Group timer → Members (Never (is_some timer)) r.members
          → So (source_expired src (record { timer = timer; members = r.members }))
      go None g h = record { timer = g; members = each_filter (MemberAt false) _ r.members h }
      go (Some end) g h =
          let after : Members (Never true) (map (stopped src) r.members) =
          each_map (MemberAt true) (MemberAt true) (stopped src) (stopped_so src) r.members h in
          record { timer = g; members = after }
