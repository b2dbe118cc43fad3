-- What holds of the end of each timer holds of that of a row.
use Rattle.std.{proofs.{Common.{◌≡◌, ◌∙◌, ℕ, Bool, true, false, cond, List, [], ◌∷◌, ◌++◌, Option, Some, None, option_map, refl, ap, subst}}, specs.{List.{AllByRecursion, cons_option}, BTreeMap.is_at, Map.lookup}}
use Rattle.pim_types.{specs.{Keys.{iface_key, key_cmp}, declared.{fact.{AssertRow.AssertRow, DownstreamRow.DownstreamRow, GroupRecordRow.GroupRecordRow, GroupRepeatRow.GroupRepeatRow, InterfaceRow.InterfaceRow, JoinTimerRow.JoinTimerRow, Key.Key, NeighbourRow.NeighbourRow, OverrideTimerRow.OverrideTimerRow, QuerierRole.QuerierRole, QuerierRow.QuerierRow, RegisterRow.RegisterRow, SourceRecordRow.SourceRecordRow, SourceRepeatRow.SourceRepeatRow, SourceRow.SourceRow}, timer.TimerKind.TimerKind}}}
use Rattle.pim_model.{specs.{Querier.querier_on, State.State, Tables.{Table, row_at}, Timers.{Ending, ending, endings, next_query, other_querier_end, register_end, timers}}}
use Rattle.law_converges.{specs.LinkQuerier.role_end}

parts : {X : Type 0} (P : X → Type 0) (xs ys : List X) → AllByRecursion P (xs ++ ys) → AllByRecursion P xs × AllByRecursion P ys
parts P [] ys f = (tt, f)
parts P (x ∷ xs) ys f = let more = parts P xs ys f.1 in ((f.0, more.0), more.1)

abbrev Each : (ℕ → Type 0) → List Ending → Type 0
Each P es = AllByRecursion (λ (e : Ending). P e.end) es

module _ {R : Type 0} (kind : TimerKind) (end_of : R → Option ℕ) (P : ℕ → Type 0) where
  step : (k : Key) (o : Option ℕ) (es : List Ending) → Each P (cons_option (option_map (ending kind k) o) es) → Each P es
  step k None es f = f
  step k (Some end) es f = f.1

  first : (k : Key) (o : Option ℕ) (es : List Ending) → Each P (cons_option (option_map (ending kind k) o) es) → (end : ℕ) → o ≡ Some end → P end
  first k None es f end e = cc e
  first k (Some x) es f end e = subst P (same e) f.0
    where
      same : Some x ≡ Some end → x ≡ end
      same e = cc e

  of_row : (rows : Table R) (k : Key) (row : R) (end : ℕ) → Each P (endings kind end_of rows) → row_at rows k ≡ Some row
      → end_of row ≡ Some end → P end
  unfolding endings row_at
  of_row [] k row end f at is = cc at
  of_row (x ∷ xs) k row end f at is = go (is_at (key_cmp k) x.0) refl (λ later. of_row xs k row end (step x.0 (end_of x.1) (endings kind end_of xs) f) later is)
    where
      found : (b : Bool) → is_at (key_cmp k) x.0 ≡ b → cond b (Some x.1) (lookup (is_at (key_cmp k)) xs) ≡ Some row
      found b e = subst (λ (c : Bool). cond c (Some x.1) (lookup (is_at (key_cmp k)) xs) ≡ Some row) e at

      same : {y z : R} → Some y ≡ Some z → y ≡ z
      same e = cc e

      go : (b : Bool) → is_at (key_cmp k) x.0 ≡ b → (lookup (is_at (key_cmp k)) xs ≡ Some row → P end) → P end
      go true here rest = first x.0 (end_of x.1) (endings kind end_of xs) f end (ap end_of (same (found true here)) ∙ is)
      go false off rest = rest (found false off)

-- ---- of a state

join : List (List Ending) → List Ending
join [] = []
join (x ∷ []) = x
join (x ∷ y ∷ zs) = join (y ∷ zs) ++ x

split_all : (P : ℕ → Type 0) (ls : List (List Ending)) → Each P (join ls) → AllByRecursion (Each P) ls
unfolding join
split_all P [] f = tt
split_all P (x ∷ []) f = (f, tt)
split_all P (x ∷ y ∷ zs) f =
    let both = parts (λ (e : Ending). P e.end) (join (y ∷ zs)) x f in (both.1, split_all P (y ∷ zs) both.0)

tables : State → List (List Ending)
tables s =
    endings TimerKind.Hello (λ (r : InterfaceRow). Some r.hello_end) s.interfaces
    ∷ endings TimerKind.GeneralQuery (λ (r : QuerierRow). next_query r.role) s.queriers
    ∷ endings TimerKind.SourceRepeat (λ (r : SourceRepeatRow). Some r.next) s.source_repeats
    ∷ endings TimerKind.GroupRepeat (λ (r : GroupRepeatRow). Some r.next) s.group_repeats
    ∷ endings TimerKind.OtherQuerier (λ (r : QuerierRow). other_querier_end r.role) s.queriers
    ∷ endings TimerKind.Join (λ (r : JoinTimerRow). Some r.end) s.join_timers
    ∷ endings TimerKind.Override (λ (r : OverrideTimerRow). Some r.end) s.override_timers
    ∷ endings TimerKind.Register (λ (r : RegisterRow). register_end r.state) s.registers
    ∷ endings TimerKind.Keepalive (λ (r : SourceRow). r.keepalive) s.sources
    ∷ endings TimerKind.Assert (λ (r : AssertRow). Some r.end) s.asserts
    ∷ endings TimerKind.SourceRecord (λ (r : SourceRecordRow). r.end) s.source_records
    ∷ endings TimerKind.GroupRecord (λ (r : GroupRecordRow). r.end) s.group_records
    ∷ endings TimerKind.DownstreamExpiry (λ (r : DownstreamRow). r.expiry) s.downstream
    ∷ endings TimerKind.PrunePending (λ (r : DownstreamRow). r.pending) s.downstream
    ∷ endings TimerKind.Neighbour (λ (r : NeighbourRow). r.end) s.neighbours ∷ []

module _ (P : ℕ → Type 0) (s : State) (all : Each P (timers s)) where
  each_table : AllByRecursion (Each P) (tables s)
  unfolding timers tables join
  each_table = split_all P (tables s) all

  pub assert_end : (k : Key) (row : AssertRow) → row_at s.asserts k ≡ Some row → P row.end
  unfolding tables
  assert_end k row at = of_row TimerKind.Assert (λ (r : AssertRow). Some r.end) P s.asserts k row row.end (each_table).1.1.1.1.1.1.1.1.1.0 at refl

  pub override_end : (k : Key) (row : OverrideTimerRow) → row_at s.override_timers k ≡ Some row → P row.end
  unfolding tables
  override_end k row at = of_row TimerKind.Override (λ (r : OverrideTimerRow). Some r.end) P s.override_timers k row row.end (each_table).1.1.1.1.1.1.0 at refl

  pub join_end : (k : Key) (row : JoinTimerRow) → row_at s.join_timers k ≡ Some row → P row.end
  unfolding tables
  join_end k row at = of_row TimerKind.Join (λ (r : JoinTimerRow). Some r.end) P s.join_timers k row row.end (each_table).1.1.1.1.1.0 at refl

  pub hello_end : (k : Key) (row : InterfaceRow) → row_at s.interfaces k ≡ Some row → P row.hello_end
  unfolding tables
  hello_end k row at = of_row TimerKind.Hello (λ (r : InterfaceRow). Some r.hello_end) P s.interfaces k row row.hello_end (each_table).0 at refl

  pub querier_end : (i : ℕ) (row : QuerierRow) → querier_on s i ≡ Some row → P (role_end row.role)
  unfolding tables
  querier_end i row at = go row.role refl
    where
      go : (role : QuerierRole) → row.role ≡ role → P (role_end role)
      go (QuerierRole.Querier next left) is = of_row TimerKind.GeneralQuery (λ (r : QuerierRow). next_query r.role) P s.queriers (iface_key i) row next (each_table).1.0 at (ap next_query is)
      go (QuerierRole.NonQuerier end) is = of_row TimerKind.OtherQuerier (λ (r : QuerierRow). other_querier_end r.role) P s.queriers (iface_key i) row end (each_table).1.1.1.1.0 at (ap other_querier_end is)
