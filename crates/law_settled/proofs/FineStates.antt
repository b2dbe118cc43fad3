-- A state that is fine: the keys of each table rise, its entries are under keys of their kind, no interval is 0, and
-- what ends ends late, in a sense that is open here.
use Rattle.std.{proofs.{Common.{◌≡◌, ℕ, List, ◌<◌, ◌≤◌, Bool, true, ◌||◌, ◌∙◌, is_some, Option, Some, None, refl, subst, cond, arith}, lemmas.Option.cond_some}, specs.List.AllByRecursion}
use Rattle.pim_types.{specs.{declared.{config.{Route.Route, RpTable.RpTable}, fact.{InterfaceRow.InterfaceRow, Key.Key, QuerierRow.QuerierRow, SourceRow.SourceRow}}, Keys.{iface_in, iface_key}}}
use Rattle.pim_model.{specs.{State.{State, is_up}, Tables.{Table, has_row, change_row, drop_at, drop_where, put}, Timers.{register_end, next_query, other_querier_end}}}
use Rattle.law_settled.{proofs.{ListLaws.{each_more, by_cond}, Intervals.IsFirm, Parts.{Part, Row, rows, with_rows, ends_of, is_sound, interfaces_stay, settings_stay, present_stays, IsBesideInterfaces, Interfaces, Neighbours, Queriers, GroupRecords, SourceRecords, GroupRepeats, SourceRepeats, Sendings, Downstreams, Asserts, JoinTimers, OverrideTimers, Sources, Registers}, FineTables.{Fine, fine_drop_at, fine_drop_where, fine_put, fine_replaced, fine_replaced_by}}, specs.Laws.{is_under_star, is_under_source, is_querier_entry}}

-- what is later than the present is late, and so is what is later than something late
pub record Lateness (m : ℕ) (late : ℕ → Bool) : Type 0 where
  pub later : (n : ℕ) → m < n → late n ≡ true
  pub up : (a b : ℕ) → a ≤ b → late a ≡ true → late b ≡ true

module _ (late : ℕ → Bool) where
  abbrev pub Runs : Option ℕ → Type 0
  Runs None = Unit {0}
  Runs (Some x) = late x ≡ true

  -- all ends of an entry
  abbrev pub AreLate : (p : Part) → Key × Row p → Type 0
  AreLate p e = AllByRecursion (λ end. Runs (end e.1)) (ends_of p)

-- a source that runs or has SPTbit set
abbrev pub is_caused : SourceRow → Bool
is_caused r = is_some r.keepalive || r.spt

-- an entry of an interface's facts is of one that is up, and a source runs or has SPTbit set
abbrev pub is_placed : (ℕ → Bool) → (p : Part) → Key × Row p → Bool
is_placed up Interfaces e = true
is_placed up JoinTimers e = true
is_placed up OverrideTimers e = true
is_placed up Sources e = is_caused e.1
is_placed up Registers e = true
is_placed up p e = up (iface_in e.0)

module _ (late up : ℕ → Bool) where
  pub record GoodQuerier (e : Key × QuerierRow) : Type 0 where
    pub sound : is_querier_entry e ≡ true
    pub next : Runs late (next_query (e.1).role)
    pub other : Runs late (other_querier_end (e.1).role)
    pub here : up (iface_in e.0) ≡ true

  abbrev pub Good : (p : Part) → Key × Row p → Type 0
  Good Interfaces e = late (e.1).hello_end ≡ true
  Good Neighbours e = Runs late (e.1).end × (up (iface_in e.0) ≡ true)
  Good Queriers e = GoodQuerier e
  Good GroupRecords e = (is_under_star e ≡ true) × Runs late (e.1).end × (up (iface_in e.0) ≡ true)
  Good SourceRecords e = (is_under_source e ≡ true) × Runs late (e.1).end × (up (iface_in e.0) ≡ true)
  Good GroupRepeats e = (is_under_star e ≡ true) × (late (e.1).next ≡ true) × (up (iface_in e.0) ≡ true)
  Good SourceRepeats e = (is_under_star e ≡ true) × (late (e.1).next ≡ true) × (up (iface_in e.0) ≡ true)
  Good Sendings e = up (iface_in e.0) ≡ true
  Good Downstreams e = Runs late (e.1).expiry × Runs late (e.1).pending × (up (iface_in e.0) ≡ true)
  Good Asserts e = (late (e.1).end ≡ true) × (up (iface_in e.0) ≡ true)
  Good JoinTimers e = late (e.1).end ≡ true
  Good OverrideTimers e = late (e.1).end ≡ true
  Good Sources e = Runs late (e.1).keepalive × (is_caused e.1 ≡ true)
  Good Registers e = Runs late (register_end (e.1).state)

  -- ---- a good entry is sound and placed, and its ends are late

  pub good : (p : Part) (e : Key × Row p) → is_sound p e ≡ true → AreLate late p e → is_placed up p e ≡ true → Good p e
  good Interfaces e s l h = l.0
  good Neighbours e s l h = (l.0, h)
  good Queriers e s l h = record { sound = s; other = l.0; next = (l.1).0; here = h }
  good GroupRecords e s l h = (s, l.0, h)
  good SourceRecords e s l h = (s, l.0, h)
  good GroupRepeats e s l h = (s, l.0, h)
  good SourceRepeats e s l h = (s, l.0, h)
  good Sendings e s l h = h
  good Downstreams e s l h = ((l.1).0, l.0, h)
  good Asserts e s l h = (l.0, h)
  good JoinTimers e s l h = l.0
  good OverrideTimers e s l h = l.0
  good Sources e s l h = (l.0, h)
  good Registers e s l h = l.0

  pub good_is_late : (p : Part) (e : Key × Row p) → Good p e → AreLate late p e
  good_is_late Interfaces e g = (g, tt)
  good_is_late Neighbours e g = (g.0, tt)
  good_is_late Queriers e g = (g.other, (g.next, tt))
  good_is_late GroupRecords e g = (g.1, tt)
  good_is_late SourceRecords e g = (g.1, tt)
  good_is_late GroupRepeats e g = (g.1, tt)
  good_is_late SourceRepeats e g = (g.1, tt)
  good_is_late Sendings e g = tt
  good_is_late Downstreams e g = (g.1, (g.0, tt))
  good_is_late Asserts e g = (g.0, tt)
  good_is_late JoinTimers e g = (g, tt)
  good_is_late OverrideTimers e g = (g, tt)
  good_is_late Sources e g = (g.0, tt)
  good_is_late Registers e g = (g, tt)

  pub good_is_sound : (p : Part) (e : Key × Row p) → Good p e → is_sound p e ≡ true
  good_is_sound Queriers e g = g.sound
  good_is_sound GroupRecords e g = g.0
  good_is_sound SourceRecords e g = g.0
  good_is_sound GroupRepeats e g = g.0
  good_is_sound SourceRepeats e g = g.0
  good_is_sound p e g = refl

  pub good_is_placed : (p : Part) (e : Key × Row p) → Good p e → is_placed up p e ≡ true
  good_is_placed Neighbours e g = g.1
  good_is_placed Queriers e g = g.here
  good_is_placed GroupRecords e g = g.2
  good_is_placed SourceRecords e g = g.2
  good_is_placed GroupRepeats e g = g.2
  good_is_placed SourceRepeats e g = g.2
  good_is_placed Sendings e g = g
  good_is_placed Downstreams e g = g.2
  good_is_placed Asserts e g = g.1
  good_is_placed Sources e g = g.1
  good_is_placed p e g = refl

-- ---- in a weaker sense

pub placed_if : (up up' : ℕ → Bool) (p : Part) (e : Key × Row p)
    → (up (iface_in e.0) ≡ true → up' (iface_in e.0) ≡ true) → is_placed up p e ≡ true → is_placed up' p e ≡ true
placed_if up up' Interfaces e there h = h
placed_if up up' JoinTimers e there h = h
placed_if up up' OverrideTimers e there h = h
placed_if up up' Sources e there h = h
placed_if up up' Registers e there h = h
placed_if up up' p e there h = there h

runs_if : (late late' : ℕ → Bool) → ((x : ℕ) → late x ≡ true → late' x ≡ true) → (o : Option ℕ) → Runs late o
    → Runs late' o
runs_if late late' runs o e = grind arith

pub good_if : (late late' up up' : ℕ → Bool) → ((x : ℕ) → late x ≡ true → late' x ≡ true) → (p : Part) (e : Key × Row p)
    → (up (iface_in e.0) ≡ true → up' (iface_in e.0) ≡ true) → Good late up p e → Good late' up' p e
good_if late late' up up' runs p e there g =
    grind (arith, good, good_is_sound, each_more, runs_if, ends_of, good_is_late, placed_if, good_is_placed)

-- ---- a state

module _ (m : ℕ) (late up : ℕ → Bool) where
  abbrev pub FineAt : Part → State → Type 0
  FineAt p s = Fine (Good late up p) (rows p s)

  pub record IsFine (s : State) : Type 0 where
    pub firm : IsFirm s.settings
    pub present : s.present ≡ m
    pub ups : (i : ℕ) → is_up s i ≡ up i
    pub tables : (part : Part) → FineAt part s

  -- ---- one table changed

  tables_with : (s : State) → IsFine s → (p : Part) (t : Table (Row p)) → Fine (Good late up p) t → (q : Part)
      → FineAt q (with_rows p s t)
  tables_with s f Interfaces t g Interfaces = g
  tables_with s f Neighbours t g Neighbours = g
  tables_with s f Queriers t g Queriers = g
  tables_with s f GroupRecords t g GroupRecords = g
  tables_with s f SourceRecords t g SourceRecords = g
  tables_with s f GroupRepeats t g GroupRepeats = g
  tables_with s f SourceRepeats t g SourceRepeats = g
  tables_with s f Sendings t g Sendings = g
  tables_with s f Downstreams t g Downstreams = g
  tables_with s f Asserts t g Asserts = g
  tables_with s f JoinTimers t g JoinTimers = g
  tables_with s f OverrideTimers t g OverrideTimers = g
  tables_with s f Sources t g Sources = g
  tables_with s f Registers t g Registers = g
  tables_with s f p t g q = f.tables q

  pub rows_fine : (p : Part) → IsBesideInterfaces p → (s : State) → IsFine s → (t : Table (Row p))
      → Fine (Good late up p) t → IsFine (with_rows p s t)
  rows_fine p beside s f t g = grind (arith, settings_stay, present_stays, rows, interfaces_stay, tables_with)

  module _ (p : Part) (beside : IsBesideInterfaces p) (s : State) (f : IsFine s) where
    pub without_rows : (test : Key → Bool) → IsFine (with_rows p s (drop_where test (rows p s)))
    without_rows test = rows_fine p beside s f _ (fine_drop_where (Good late up p) test (rows p s) (f.tables p))

    pub without_row : (k : Key) → IsFine (with_rows p s (drop_at (rows p s) k))
    without_row k = rows_fine p beside s f _ (fine_drop_at (Good late up p) (rows p s) k (f.tables p))

    pub without_row_unless : (b : Bool) (k : Key) → IsFine (with_rows p s (cond b (rows p s) (drop_at (rows p s) k)))
    without_row_unless b k =
        rows_fine p beside s f _
        (by_cond (Fine (Good late up p)) b (rows p s) _ (f.tables p)
        (fine_drop_at (Good late up p) (rows p s) k (f.tables p)))

    pub with_row : (k : Key) (r : Row p) → Good late up p (k, r) → IsFine (with_rows p s (put (rows p s) k r))
    with_row k r g = rows_fine p beside s f _ (fine_put (Good late up p) (rows p s) k r g (f.tables p))

    -- in the place of the row at a key
    pub with_row_for : (k : Key) (r : Row p) → ((old : Row p) → Good late up p (k, old) → Good late up p (k, r))
        → IsFine (with_rows p s (change_row (λ old. Some r) k (rows p s)))
    with_row_for k r g =
        rows_fine p beside s f _ (fine_replaced_by (Good late up p) k r g (rows p s) (f.tables p))

    pub with_row_for_if : (b : Bool) (k : Key) (r : Row p)
        → (b ≡ true → (old : Row p) → Good late up p (k, old) → Good late up p (k, r))
        → IsFine (with_rows p s (change_row (λ old. cond b (Some r) None) k (rows p s)))
    with_row_for_if b k r g =
        rows_fine p beside s f _
        (fine_replaced (Good late up p) (cond b (Some r) None) k
        (λ old q e h. let its : (b ≡ true) × (r ≡ q) = cond_some b r q e in
        subst (λ (a : Row p). Good late up p (k, a)) its.1 (g its.0 old h)) (rows p s) (f.tables p))

  module _ (s : State) (f : IsFine s) where
    pub with_interfaces : (t : Table InterfaceRow) → ((k : Key) → has_row t k ≡ has_row s.interfaces k)
        → Fine (Good late up Interfaces) t
        → IsFine (record s { interfaces = t })
    with_interfaces t same g = record {
      firm = f.firm;
      present = f.present;
      ups = λ i. same (iface_key i) ∙ f.ups i;
      tables = tables_with s f Interfaces t g;
    }

    pub with_routes : (x : List Route) → IsFine (record s { routes = x })
    with_routes x = record { firm = f.firm; present = f.present; ups = f.ups; tables = go }
      where
        go : (part : Part) → FineAt part (record s { routes = x })
        go Interfaces = f.tables Interfaces
        go part = f.tables part

    pub with_ranges : (x : RpTable) → IsFine (record s { ranges = x })
    with_ranges x = record { firm = f.firm; present = f.present; ups = f.ups; tables = go }
      where
        go : (part : Part) → FineAt part (record s { ranges = x })
        go Interfaces = f.tables Interfaces
        go part = f.tables part

-- fine, whichever interfaces are up
pub record Anyhow (m : ℕ) (late : ℕ → Bool) (s : State) : Type 0 where
  pub ups : ℕ → Bool
  pub fine : IsFine m late ups s
