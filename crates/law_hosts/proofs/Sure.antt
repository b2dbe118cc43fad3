-- Rows stay sure: each is looked at before its group's record may have gone.
use Rattle.std.{proofs.{Common.{◌≡◌, ℕ, ◌&&◌, ◌==◌, max, nat_le, nat_lt, Bool, true, false, cond, List, [], ◌∷◌, fold, option_map, Option, Some, None, Result, Ok, refl, subst, arith, eqb-true}, lemmas.Bool.Decides.nat_tests}, specs.{List.{AllByRecursion, Sorted.IsStrictlySortedBy}, Ordering.match_ordering, declared.cmp.Ordering.Ordering}}
use Rattle.pim_ip.{specs.declared.refusal.Refusal.Refusal}
use Rattle.pim_types.{specs.{Keys.{group_in, iface_in, key_cmp, same_key, star_key}, declared.{event.{Event.Event, EventKind.EventKind}, fact.{GroupRecordRow.GroupRecordRow, Key.Key}, outcome.Verdict.Verdict}}, proofs.Keys.{equal_keys, key_cmp_total}}
use Rattle.pim_model.{specs.{Cause.{done_as, if_done}, Judging.{Judged, judged}, State.State, Step.step, Tables.{Table, keys_in, put, row_at}}}
use Rattle.law_settled.{proofs.{ListLaws.{each_both, each_filter_map, each_more}, FineTables.{Fine, fine_more, good_row}, RisingKeys.{IsBelow, Up, up_filter_map, up_put}}, specs.Ready.IsSettled}
use Rattle.law_streams.{specs.Copies.happens}
use Rattle.igmp_older.{specs.{Laws.nobody_known, Modes.{doubtful, look_by, row_by}, Open.runs_until, Presence.{Present, doubted_at, doubted_row, entry_after, looked, record_at, row_after}, declared.{mode.PresentRow.PresentRow, setting.OlderHosts.OlderHosts}}}
use Rattle.law_hosts.{specs.{Staying.KeepsTimer, Sure.{IsSure, IsSureRow}}, proofs.{Named.{KindLeaves, Off, kind_left, left_done}, Stays.event_keeps_timer}}

abbrev pub Row : Type 0
Row = Key × PresentRow

never : {A : Type 0} → nat_lt 0 0 ≡ true → A
never h = let no : nat_lt 0 0 ≡ false = grind (arith, nat_tests) in absurd cc

-- ---- a row that is put takes the place of the one that is there

module _ (k : Key) (r : PresentRow) (R : Row → Type 0) (new : R (k, r)) where
  abbrev Away : Row → Type 0
  Away x = same_key k x.0 ≡ false → R x

  put_step : (x : Row) (xs ys : Table PresentRow) (o : Ordering) → key_cmp k x.0 ≡ o → AllByRecursion (IsBelow x.0) xs → Away x
      → AllByRecursion Away xs → AllByRecursion R ys
      → AllByRecursion R (match_ordering o ((k, r) ∷ x ∷ xs) ((x.0, r) ∷ xs) (x ∷ ys))
  put_step x xs ys o e above h f ih = grind (arith, each_both, key_cmp_total, equal_keys)

  pub only_put : (t : Table PresentRow) → Up t → AllByRecursion Away t → AllByRecursion R (put t k r)
  unfolding put
  only_put [] up f = (new, tt)
  only_put (x ∷ xs) up f = put_step x xs (put xs k r) (key_cmp k x.0) refl up.0 f.0 f.1 (only_put xs up.1 f.1)

pub none_at : (k : Key) (t : Table PresentRow) → row_at t k ≡ None → AllByRecursion (λ (x : Row). same_key k x.0 ≡ false) t
unfolding row_at
none_at k [] e = tt
none_at k (x ∷ xs) e = grind (arith, none_at k xs)

-- ---- groups that are named

-- a row that isn't under the key of a group is of another
pub off_by : (j h : ℕ) (x : Row) → same_key (star_key (iface_in x.0) (group_in x.0)) x.0 ≡ true → same_key (star_key j h) x.0 ≡ false
    → ((j == iface_in x.0) && (h == group_in x.0)) ≡ false
off_by j h x under off = grind (arith, eqb-true)

module _ (j : ℕ) where
  abbrev Unnamed : ℕ → Row → Type 0
  Unnamed h x = nat_lt 0 (x.1).look ≡ true → ((j == iface_in x.0) && (h == group_in x.0)) ≡ false

  abbrev pub AllUnnamed : List ℕ → Row → Type 0
  AllUnnamed gs x = nat_lt 0 (x.1).look ≡ true → Off (iface_in x.0) (group_in x.0) j gs

  abbrev Closed : (Row → Type 0) → Type 0
  Closed R = (k : Key) (row : PresentRow) → R (k, row) → R (k, doubtful row)

  abbrev Under : (Row → Type 0) → Type 0
  Under R = (x : Row) → R x → same_key (star_key (iface_in x.0) (group_in x.0)) x.0 ≡ true

  one_doubted : (R : Row → Type 0) → Closed R → Under R → (h : ℕ) (t : Table PresentRow) → Fine R t
      → Fine (λ x. R x × Unnamed h x) (doubted_at j t h)
  one_doubted R closed under h t f = go (row_at t (star_key j h)) refl
    where
      go : (o : Option PresentRow) → row_at t (star_key j h) ≡ o → Fine (λ x. R x × Unnamed h x) (doubted_row t (star_key j h) o)
      go None is = record {
        up = f.up;
        each =
            each_both R (λ (x : Row). same_key (star_key j h) x.0 ≡ false) (λ x. R x × Unnamed h x)
            (λ x r off. (r, λ later. off_by j h x (under x r) off)) t f.each (none_at (star_key j h) t is);
      }
      go (Some row) is = record {
        up = up_put (star_key j h) (doubtful row) t f.up;
        each =
            only_put (star_key j h) (doubtful row) (λ x. R x × Unnamed h x)
            (closed (star_key j h) row (good_row R t (star_key j h) row f is), λ later. never later) t f.up
            (each_more R (λ x. same_key (star_key j h) x.0 ≡ false → R x × Unnamed h x)
            (λ x r off. (r, λ later. off_by j h x (under x r) off)) t f.each);
      }

  pub all_doubted : (R : Row → Type 0) → Closed R → Under R → (gs : List ℕ) (t : Table PresentRow) → Fine R t
      → Fine (λ x. R x × AllUnnamed gs x) (fold (doubted_at j) t gs)
  all_doubted R closed under [] t f = fine_more R (λ x. R x × AllUnnamed [] x) (λ x r. (r, λ later. tt)) t f
  all_doubted R closed under (h ∷ gs) t f =
      fine_more (λ x. (R x × Unnamed h x) × AllUnnamed gs x) (λ x. R x × AllUnnamed (h ∷ gs) x)
      (λ x r. (r.0.0, λ later. (r.0.1 later, r.1 later))) _
      (all_doubted (λ x. R x × Unnamed h x) (λ k row r. (closed k row r.0, λ later. never later)) (λ x r. under x r.0) gs (doubted_at j t h)
      (one_doubted R closed under h t f))

-- ---- rows after an event

pub sure_closed : (s : State) (k : Key) (row : PresentRow) → IsSureRow s (k, row) → IsSureRow s (k, doubtful row)
sure_closed s k row f = grind (arith, never, nat_tests)

module _ (s : State) (e : Event) (rest : IsSettled s) where
  abbrev after : State
  after = (step s e).state

  -- a row whose group timer the event leaves
  stays : (x : Row) → IsSureRow s x
      → (nat_lt 0 (x.1).look ≡ true → KeepsTimer (x.1).look (iface_in x.0) (group_in x.0) (done_as (happens s e))) → IsSureRow after x
  stays x f leaves = grind (arith, event_keeps_timer)

  pub by_kind : (t i g : ℕ) → KindLeaves t i g e.kind → KeepsTimer t i g (done_as (happens s e))
  unfolding done_as
  by_kind t i g f = left_done t i g (step s e).answer (judged s e.kind) (kind_left t i g s e.kind f)

  -- a row about which the event's kind says nothing
  pub stays_so : (x : Row) → IsSureRow s x → (nat_lt 0 (x.1).look ≡ true → KindLeaves (x.1).look (iface_in x.0) (group_in x.0) e.kind)
      → IsSureRow after x
  stays_so x f leaves = stays x f (λ later. by_kind (x.1).look (iface_in x.0) (group_in x.0) (leaves later))

  not_done : (answer : Result Verdict Refusal) (t i g : ℕ) (j : Judged) → (answer ≡ Ok Verdict.Done → ⊥) → KeepsTimer t i g (if_done answer j)
  not_done answer t i g j undone = grind arith

  -- an event that isn't done
  pub all_stay : ((step s e).answer ≡ Ok Verdict.Done → ⊥) → (t : Table PresentRow) → Fine (IsSureRow s) t → Fine (IsSureRow after) t
  unfolding done_as
  all_stay undone t f = grind (arith, fine_more, stays, not_done)

  -- ---- time that passes

  kept_look : (end : Option ℕ) (row : PresentRow) → nat_lt 0 (look_by end row) ≡ true → runs_until (look_by end row) end ≡ true
  kept_look end row later = grind (arith, never, nat_tests)

  kept_within : (end : Option ℕ) (row : PresentRow) → nat_le (look_by end row) (max row.one_end row.two_end) ≡ true
  kept_within end row = grind (arith, nat_tests)

  module _ (m : ℕ) (is : e.kind ≡ EventKind.Advance m) where
    pub advance_leaves : (t i g : ℕ) → nat_lt m t ≡ true → KindLeaves t i g e.kind
    advance_leaves t i g before = grind (arith, nat_tests)

    looked_row : (x : Row) (o : Option GroupRecordRow) → record_at after.group_records x.0 ≡ o → (y : PresentRow)
        → row_by m o x.1 ≡ Some y → IsSureRow s x → IsSureRow after (x.0, y)
    unfolding row_by
    looked_row x o found y e f = grind (arith, kept_look, kept_within)

    looked_entry : (x y : Row) → entry_after after.group_records m x ≡ Some y → IsSureRow s x → IsSureRow after y
    unfolding row_after
    looked_entry x y e f = go (nat_lt m (x.1).look) refl e
      where
        made : (o : Option PresentRow) → row_by m (record_at after.group_records x.0) x.1 ≡ o
            → option_map (λ row. let z : Row = (x.0, row) in z) o ≡ Some y → IsSureRow after y
        made None is e = cc e
        made (Some row) is e =
            let same : (x.0, row) ≡ y = cc e in
            subst (IsSureRow after) same (looked_row x (record_at after.group_records x.0) refl row is f)

        go : (b : Bool) → nat_lt m (x.1).look ≡ b
            → option_map (λ row. let z : Row = (x.0, row) in z) (cond b (Some x.1) (row_by m (record_at after.group_records x.0) x.1)) ≡ Some y
            → IsSureRow after y
        go true before e =
            let same : x ≡ y = cc e in
            subst (IsSureRow after) same (stays_so x f (λ later. advance_leaves (x.1).look (iface_in x.0) (group_in x.0) before))
        go false due e = made (row_by m (record_at after.group_records x.0) x.1) refl e

    same_keys : (x y : Row) → entry_after after.group_records m x ≡ Some y → y.0 ≡ x.0
    same_keys x y e = grind arith

    pub looked_sure : (p : Present) → Fine (IsSureRow s) p.rows → Fine (IsSureRow after) (looked after.group_records m p).rows
    unfolding looked
    looked_sure p f = record {
      up = up_filter_map (entry_after after.group_records m) same_keys p.rows f.up;
      each = each_filter_map (IsSureRow s) (IsSureRow after) (entry_after after.group_records m) looked_entry p.rows f.each;
    }

pub nobody_is_sure : (limit : ℕ) (hosts : List OlderHosts) (s : State) → IsSure (nobody_known limit hosts s)
unfolding keys_in IsStrictlySortedBy
nobody_is_sure limit hosts s = record { rises = tt; rows = tt }
