-- The ends of a state by kind of timer, key and moment, and what a change may do to them: what ends by a timestamp
-- after the change ended so before it.
use Rattle.std.{proofs.Common.{◌≡◌, ◌⊎◌, ℕ, nat_lt, nat_le, Bool, true, false, not, cond, ◌&&◌, ◌||◌, [], ◌∷◌, map, Option, Some, None, option_map, refl, ◌∙◌, subst, arith}, specs.{List.{AllByRecursion, list_any}, Option.option_map_or}}
use Rattle.pim_types.{specs.{declared.{fact.Key.Key, timer.TimerKind.TimerKind}, Keys.same_key}}
use Rattle.pim_model.{specs.{State.State, Tables.{Table, same_option, row_at, put, drop_where, drop_at, set_row, changed_entry, change_row}}}
use Rattle.law_settled.{proofs.{RowLaws.any_of_put, Parts.{Asserts, Downstreams, GroupRecords, GroupRepeats, Interfaces, JoinTimers, Neighbours, OverrideTimers, Part, Queriers, Registers, Row, Sendings, SourceRecords, SourceRepeats, Sources, end_of, ends_of, is_sound, part_of, rows, timed_rows, with_rows, present_stays, settings_stay}, ListLaws.{any_more, each_both, each_more, each_of_all, either}, TableLaws.{row_is_there, none_passes, any_of_map, any_in_filter, any_of_drop, any_of_replaced, any_of_changed, any_of_filter_map}}}

-- what is looked for: an end at a key, or a row under a key of another kind
pub data Mark : Type 0 where
  Ends : Key → ℕ → Mark
  Faulty : Mark

-- ends count up to a timestamp
abbrev pub counts : ℕ → Mark → Bool
counts m (Ends k x) = nat_le x m
counts m Faulty = true

-- never, or later than the timestamp
abbrev pub is_later : ℕ → Option ℕ → Bool
is_later m None = true
is_later m (Some x) = nat_lt m x

abbrev pub always : {X : Type 0} → X → Bool
always x = true

module _ {R : Type 0} (end_of : R → Option ℕ) (sound : Key × R → Bool) where
  abbrev pub shows_row : Mark → Key × R → Bool
  shows_row (Ends k x) e = same_key k e.0 && same_option (end_of e.1) (Some x)
  shows_row Faulty e = not (sound e)

  abbrev pub shows_in : Mark → Table R → Bool
  shows_in mark t = list_any (shows_row mark) t

  abbrev pub TableKeeps : ℕ → Table R → Table R → Type 0
  TableKeeps m t u = (mark : Mark) → counts m mark ≡ true → shows_in mark u ≡ true → shows_in mark t ≡ true

module _ {R : Type 0} (end_of : R → Option ℕ) (sound : Key × R → Bool) (m : ℕ) where
  pub fresh_row : (k : Key) (r : R) → sound (k, r) ≡ true → is_later m (end_of r) ≡ true
      → (mark : Mark) → counts m mark ≡ true → shows_row end_of sound mark (k, r) ≡ true → ⊥
  fresh_row k r good later mark by e = grind arith

  pub drop_kept : (test : Key → Bool) (t : Table R) → TableKeeps end_of sound m t (drop_where test t)
  drop_kept test t mark by e = any_of_drop (shows_row end_of sound mark) test t e

  pub drop_at_kept : (k : Key) (t : Table R) → TableKeeps end_of sound m t (drop_at t k)
  unfolding drop_at
  drop_at_kept k t = drop_kept (same_key k) t

  pub put_kept_if : (t : Table R) (k : Key) (r : R)
      → ((mark : Mark) → counts m mark ≡ true → shows_row end_of sound mark (k, r) ≡ true
      → shows_in end_of sound mark t ≡ true)
      → TableKeeps end_of sound m t (put t k r)
  put_kept_if t k r new mark by e =
      either (shows_row end_of sound mark (k, r)) (shows_in end_of sound mark t) (new mark by) (λ old. old)
      (any_of_put k r (shows_row end_of sound mark) t e)

  pub put_kept : (t : Table R) (k : Key) (r : R) → sound (k, r) ≡ true → is_later m (end_of r) ≡ true
      → TableKeeps end_of sound m t (put t k r)
  put_kept t k r good later = put_kept_if t k r (λ mark by e. absurd (fresh_row k r good later mark by e))

  pub set_row_kept : (t : Table R) (k : Key) (o : Option R) → ((r : R) → sound (k, r) ≡ true)
      → ((r : R) → o ≡ Some r → (row_at t k ≡ Some r) ⊎ (is_later m (end_of r) ≡ true))
      → TableKeeps end_of sound m t (set_row t k o)
  unfolding set_row
  set_row_kept t k o good new = grind (arith, drop_at_kept, put_kept_if, row_is_there, end_of, put_kept)

  pub replaced_kept_if : (k : Key) (o : Option R) (t : Table R)
      → ((mark : Mark) → counts m mark ≡ true
      → option_map_or (λ (r : R). shows_row end_of sound mark (k, r)) o false ≡ true
      → shows_in end_of sound mark t ≡ true)
      → TableKeeps end_of sound m t (change_row (λ old. o) k t)
  replaced_kept_if k o t new mark by e =
      either (option_map_or (λ (r : R). shows_row end_of sound mark (k, r)) o false) (shows_in end_of sound mark t)
      (new mark by) (λ old. old)
      (any_of_replaced (shows_row end_of sound mark) k o t e)

  pub replaced_kept : (k : Key) (r : R) (t : Table R) → sound (k, r) ≡ true → is_later m (end_of r) ≡ true
      → TableKeeps end_of sound m t (change_row (λ old. Some r) k t)
  replaced_kept k r t good later =
      replaced_kept_if k (Some r) t (λ mark by e. absurd (fresh_row k r good later mark by e))

  pub removed_kept : (k : Key) (t : Table R) → TableKeeps end_of sound m t (change_row (λ (old : R). None) k t)
  removed_kept k t = replaced_kept_if k None t (λ mark by e. absurd (never e))
    where
      never : false ≡ true → ⊥
      never e = cc

  pub map_kept : (f : Key × R → Key × R)
      → ((mark : Mark) (e : Key × R) → shows_row end_of sound mark (f e) ≡ true → shows_row end_of sound mark e ≡ true)
      → (t : Table R) → TableKeeps end_of sound m t (map f t)
  map_kept f keeps t mark by e = grind (arith, any_more, end_of, any_of_map)

  pub changed_kept : (change : R → Option R)
      → ((mark : Mark) (k : Key) (r r' : R) → change r ≡ Some r' → shows_row end_of sound mark (k, r') ≡ true
      → shows_row end_of sound mark (k, r) ≡ true)
      → (k : Key) (t : Table R) → TableKeeps end_of sound m t (change_row change k t)
  changed_kept change keeps k t mark by e = any_of_changed (shows_row end_of sound mark) change (keeps mark) k t e

  -- ---- what is gone

  dropped_entry : (k : Key) (x : ℕ) (e : Key × R)
      → (not (same_key k e.0) && shows_row end_of sound (Ends k x) e) ≡ true → ⊥
  dropped_entry k x e f = grind arith

  pub dropped_is_gone : (k : Key) (x : ℕ) (t : Table R) → shows_in end_of sound (Ends k x) (drop_at t k) ≡ true → ⊥
  unfolding drop_at drop_where
  dropped_is_gone k x t e = grind (arith, none_passes, end_of, dropped_entry, any_in_filter)

  replaced_entry : (k : Key) (x : ℕ) (o : Option R) → nat_le x m ≡ true
      → ((r : R) → o ≡ Some r → is_later m (end_of r) ≡ true) → (e : Key × R) (b : Bool) → same_key k e.0 ≡ b
      → option_map_or (shows_row end_of sound (Ends k x))
      (cond b (option_map (λ (r : R). let p : Key × R = (e.0, r) in p) o) (Some e)) false ≡ true → ⊥
  replaced_entry k x o by later e b f g = grind arith

  pub replaced_is_gone : (k : Key) (x : ℕ) (o : Option R) → nat_le x m ≡ true
      → ((r : R) → o ≡ Some r → is_later m (end_of r) ≡ true) → (t : Table R)
      → shows_in end_of sound (Ends k x) (change_row (λ old. o) k t) ≡ true → ⊥
  unfolding change_row changed_entry
  replaced_is_gone k x o by later t e = grind (arith, none_passes, end_of, replaced_entry, any_of_filter_map)

  pub later_is_gone : (k : Key) (x : ℕ) (r : R) → nat_le x m ≡ true → is_later m (end_of r) ≡ true → (t : Table R)
      → shows_in end_of sound (Ends k x) (change_row (λ old. Some r) k t) ≡ true → ⊥
  later_is_gone k x r by later t e =
      replaced_is_gone k x (Some r) by (λ a f. let same : r
      ≡ a = cc in subst (λ (a : R). is_later m (end_of a) ≡ true) same later) t e

  pub removed_is_gone : (k : Key) (x : ℕ) → nat_le x m ≡ true → (t : Table R)
      → shows_in end_of sound (Ends k x) (change_row (λ (old : R). None) k t) ≡ true → ⊥
  removed_is_gone k x by t e = replaced_is_gone k x None by (λ a f. cc) t e

  -- a key without a row has no end
  absent_step : (k : Key) (x : ℕ) (p : Key × R) (ps : Table R) (b : Bool)
      → (row_at ps k ≡ None → shows_in end_of sound (Ends k x) ps ≡ true → ⊥)
      → cond b (Some p.1) (row_at ps k) ≡ None
      → ((b && same_option (end_of p.1) (Some x)) || shows_in end_of sound (Ends k x) ps) ≡ true → ⊥
  absent_step k x p ps b ih e f = grind arith

  pub absent_row : (k : Key) (x : ℕ) (t : Table R) → row_at t k ≡ None → shows_in end_of sound (Ends k x) t ≡ true → ⊥
  unfolding row_at
  absent_row k x [] e f = cc
  absent_row k x (p ∷ ps) e f = absent_step k x p ps (same_key k p.0) (absent_row k x ps) e f

-- ---- of a state

abbrev pub shows : TimerKind → Mark → State → Bool
shows kind mark s = shows_in (end_of kind) (is_sound (part_of kind)) mark (timed_rows kind s)

-- t is s after a change that makes no end by the timestamp m
pub record Keeps (m : ℕ) (s t : State) : Type 0 where
  pub settings : t.settings ≡ s.settings
  pub present : t.present ≡ s.present
  pub shown : (kind : TimerKind) (mark : Mark) → counts m mark ≡ true → shows kind mark t ≡ true
      → shows kind mark s ≡ true

pub kept : (m : ℕ) (s : State) → Keeps m s s
kept m s = record { settings = refl; present = refl; shown = λ kind mark by e. e }

pub kept_then : (m : ℕ) (s t u : State) → Keeps m s t → Keeps m t u → Keeps m s u
kept_then m s t u f g = record {
  settings = g.settings ∙ f.settings;
  present = g.present ∙ f.present;
  shown = λ kind mark by e. f.shown kind mark by (g.shown kind mark by e);
}

-- ---- one table changed

module _ (m : ℕ) (p : Part) where
  -- what ends by the timestamp in the second table ended so in the first
  abbrev pub PartKeeps : Table (Row p) → Table (Row p) → Type 0
  PartKeeps t u = AllByRecursion (λ end. TableKeeps end (is_sound p) m t u) (ends_of p)

  -- the row ends later than the timestamp
  abbrev pub IsLate : Row p → Type 0
  IsLate r = AllByRecursion (λ end. is_later m (end r) ≡ true) (ends_of p)

  pub part_same : (t : Table (Row p)) → PartKeeps t t
  part_same t = each_of_all _ (λ end mark by e. e) (ends_of p)

  pub part_then : (t u v : Table (Row p)) → PartKeeps t u → PartKeeps u v → PartKeeps t v
  part_then t u v f g = grind (arith, each_both, ends_of)

  pub part_without : (k : Key) (t : Table (Row p)) → PartKeeps t (drop_at t k)
  part_without k t = each_of_all _ (λ end. drop_at_kept end (is_sound p) m k t) (ends_of p)

  pub part_put : (k : Key) (r : Row p) (t : Table (Row p)) → is_sound p (k, r) ≡ true → IsLate r
      → PartKeeps t (put t k r)
  part_put k r t good late =
      each_more _ _ (λ end later. put_kept end (is_sound p) m t k r good later) (ends_of p) late

  pub part_replaced : (k : Key) (r : Row p) (t : Table (Row p)) → is_sound p (k, r) ≡ true → IsLate r
      → PartKeeps t (change_row (λ old. Some r) k t)
  part_replaced k r t good late =
      each_more _ _ (λ end later. replaced_kept end (is_sound p) m k r t good later) (ends_of p) late

  pub part_removed : (k : Key) (t : Table (Row p)) → PartKeeps t (change_row (λ (old : Row p). None) k t)
  part_removed k t = each_of_all _ (λ end. removed_kept end (is_sound p) m k t) (ends_of p)

module _ (m : ℕ) (s : State) where
  rows_shown : (p : Part) (t : Table (Row p)) → PartKeeps m p (rows p s) t → (kind : TimerKind) (mark : Mark)
      → counts m mark ≡ true → shows kind mark (with_rows p s t) ≡ true → shows kind mark s ≡ true
  rows_shown Interfaces t f TimerKind.Hello mark by e = f.0 mark by e
  rows_shown Neighbours t f TimerKind.Neighbour mark by e = f.0 mark by e
  rows_shown Queriers t f TimerKind.OtherQuerier mark by e = f.0 mark by e
  rows_shown Queriers t f TimerKind.GeneralQuery mark by e = (f.1).0 mark by e
  rows_shown GroupRecords t f TimerKind.GroupRecord mark by e = f.0 mark by e
  rows_shown SourceRecords t f TimerKind.SourceRecord mark by e = f.0 mark by e
  rows_shown GroupRepeats t f TimerKind.GroupRepeat mark by e = f.0 mark by e
  rows_shown SourceRepeats t f TimerKind.SourceRepeat mark by e = f.0 mark by e
  rows_shown Downstreams t f TimerKind.PrunePending mark by e = f.0 mark by e
  rows_shown Downstreams t f TimerKind.DownstreamExpiry mark by e = (f.1).0 mark by e
  rows_shown Asserts t f TimerKind.Assert mark by e = f.0 mark by e
  rows_shown JoinTimers t f TimerKind.Join mark by e = f.0 mark by e
  rows_shown OverrideTimers t f TimerKind.Override mark by e = f.0 mark by e
  rows_shown Sources t f TimerKind.Keepalive mark by e = f.0 mark by e
  rows_shown Registers t f TimerKind.Register mark by e = f.0 mark by e
  rows_shown Sendings t f TimerKind.Hello mark by e = e
  rows_shown p t f kind mark by e = e

  pub rows_kept : (p : Part) (t : Table (Row p)) → PartKeeps m p (rows p s) t → Keeps m s (with_rows p s t)
  rows_kept p t f = record { settings = settings_stay s p t; present = present_stays s p t; shown = rows_shown p t f }
