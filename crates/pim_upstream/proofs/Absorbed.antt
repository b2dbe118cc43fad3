-- Timers that are lowered to one end, some of them again: in whichever order, and once is as often.
use Rattle.std.{proofs.{Common.{◌≡◌, ◌<◌, ◌+◌, ℕ, Bool, true, false, cond, not, List, [], ◌∷◌, ◌++◌, Option, Some, None, refl, sym, ap, ◌∙◌, fold, get_or, length, subst, take, arith}, lemmas.List.{append-nil, flat_map_more, take_more, Sums.fold-append}}, specs.{BTreeMap.insert_entry, List.{AllByRecursion, filter, flat_map}, Option.option_map_or, Ordering.{is_eq, match_ordering, ordering_reverse}, Prelude.min, declared.cmp.Ordering.{Ordering, TheVariants.{Equal, Greater, Less}}}}
use Rattle.pim_ip.{specs.declared.addr.Addr.Addr}
use Rattle.pim_types.{specs.{declared.{fact.{JoinTimerRow.JoinTimerRow, Key.Key, OverrideTimerRow.OverrideTimerRow}, name.SourceGroup.SourceGroup, path.Hop.Hop}, Keys.{key_cmp, rpt_key, same_key}}, proofs.Keys.{equal_keys, key_cmp_total, same_key_same}}
use Rattle.pim_model.{specs.{Downstream.is_named, Seen.{is_unpruned_towards, lower_join_timer, lower_override_timer, lowered_row}, State.State, Tables.{Table, drop_at, drop_where, put, row_at, set_row}}}
use Rattle.law_settled.{proofs.RowLaws.{row_put, row_put_away, same_key_swap}}
use Rattle.pim_rpt.{specs.{Changes.change_of, declared.change.Change.Change}}
use Rattle.pim_upstream.{specs.{Hearing.{heard_if, heard_in_prunes, heard_of_prune, heard_of_source, heard_of_timer, heard_of_timers, is_source_towards, is_star_towards, timers_of}, Timers.{after_move, after_moves, join_key}, declared.timer.TimerMove.TimerMove}, proofs.HeardMessages.overrides}

-- ---- steps of which each again changes nothing, and each two may be swapped

module _ {S M : Type 0} (step : S → M → S) (P : M → Type 0)
    (swap : (m n : M) → P m → P n → (s : S) → step (step s m) n ≡ step (step s n) m)
    (again : (m : M) → P m → (s : S) → step (step s m) m ≡ step s m) where
  past_one : (m : M) (ns : List M) (s : S) → P m → AllByRecursion P ns → fold step (step s m) ns ≡ step (fold step s ns) m
  past_one m [] s is are = refl
  past_one m (n ∷ ns) s is are =
      ap (λ (t : S). fold step t ns) (swap m n is are.0 s) ∙ past_one m ns (step s n) is are.1

  pub past_all : (ms ns : List M) (s : S) → AllByRecursion P ms → AllByRecursion P ns
      → fold step (fold step s ms) ns ≡ fold step (fold step s ns) ms
  past_all [] ns s first second = refl
  past_all (m ∷ ms) ns s first second =
      past_all ms ns (step s m) first.1 second ∙ ap (λ (t : S). fold step t ms) (past_one m ns s first.0 second)

  pub all_again : (ms : List M) (s : S) → AllByRecursion P ms → fold step (fold step s ms) ms ≡ fold step s ms
  all_again [] s are = refl
  all_again (m ∷ ms) s are =
      ap (λ (t : S). fold step t ms)
      (sym (past_one m ms (step s m) are.0 are.1) ∙ ap (λ (t : S). fold step t ms) (again m are.0 s))
      ∙ all_again ms (step s m) are.1

-- ---- rows of two keys

-- no row is taken away where there is none
module _ {R : Type 0} (k : Key) where
  drop_step : (x : Key × R) (xs : Table R) (b : Bool) → cond b (Some x.1) (row_at xs k) ≡ None
      → (row_at xs k ≡ None → filter (λ e. not (same_key k e.0)) xs ≡ xs)
      → cond (not b) (x ∷ filter (λ e. not (same_key k e.0)) xs) (filter (λ e. not (same_key k e.0)) xs) ≡ x ∷ xs
  drop_step x xs true none later = cc
  drop_step x xs false none later = ap (λ (t : Table R). x ∷ t) (later none)

  drop_absent : (t : Table R) → row_at t k ≡ None → drop_at t k ≡ t
  unfolding row_at drop_at drop_where
  drop_absent [] none = refl
  drop_absent (x ∷ xs) none = drop_step x xs (same_key k x.0) none (drop_absent xs)

-- a row that is put twice
equal_of : (o : Ordering) → is_eq o ≡ true → o ≡ Equal
equal_of Less e = cc
equal_of Equal e = refl
equal_of Greater e = cc

module _ {R : Type 0} (k : Key) (old row : R) where
  twice_step : (x : Key × R) (xs : Table R) (o : Ordering) → key_cmp k x.0 ≡ o → key_cmp k k ≡ Equal
      → insert_entry key_cmp (insert_entry key_cmp xs k old) k row ≡ insert_entry key_cmp xs k row
      → insert_entry key_cmp (match_ordering o ((k, old) ∷ x ∷ xs) ((x.0, old) ∷ xs) (x ∷ insert_entry key_cmp xs k old))
      k row
      ≡ match_ordering o ((k, row) ∷ x ∷ xs) ((x.0, row) ∷ xs) (x ∷ insert_entry key_cmp xs k row)
  twice_step x xs Less e self ih = rw self refl
  twice_step x xs Equal e self ih = rw e refl
  twice_step x xs Greater e self ih = rw e (ap (λ (t : Table R). x ∷ t) ih)

  put_twice : (t : Table R) → put (put t k old) k row ≡ put t k row
  unfolding put
  put_twice [] = rw (equal_of (key_cmp k k) (same_key_same k)) refl
  put_twice (x ∷ xs) =
      twice_step x xs (key_cmp k x.0) refl (equal_of (key_cmp k k) (same_key_same k)) (put_twice xs)

-- two rows that are put in either order
module _ {R : Type 0} (k q : Key) (r u : R) (less : key_cmp k q ≡ Less) where
  greater : key_cmp q k ≡ Greater
  greater = key_cmp_total.antisymm q k ∙ ap ordering_reverse less

  past_equal : (x : Key) → key_cmp k x ≡ Equal → key_cmp q x ≡ Greater
  past_equal x e = ap (key_cmp q) (sym (equal_keys k x (ap is_eq e))) ∙ greater

  past_greater : (x : Key) → key_cmp k x ≡ Greater → key_cmp q x ≡ Greater
  past_greater x e =
      key_cmp_total.antisymm q x
      ∙ ap ordering_reverse
      (key_cmp_total.trans x k q (key_cmp_total.antisymm x k ∙ ap ordering_reverse e) less)

  order_step : (x : Key × R) (xs : Table R) (o p : Ordering) → key_cmp k x.0 ≡ o → key_cmp q x.0 ≡ p
      → insert_entry key_cmp (insert_entry key_cmp xs k r) q u ≡ insert_entry key_cmp (insert_entry key_cmp xs q u) k r
      → insert_entry key_cmp (match_ordering o ((k, r) ∷ x ∷ xs) ((x.0, r) ∷ xs) (x ∷ insert_entry key_cmp xs k r)) q u
      ≡ insert_entry key_cmp (match_ordering p ((q, u) ∷ x ∷ xs) ((x.0, u) ∷ xs) (x ∷ insert_entry key_cmp xs q u)) k r
  order_step x xs Less Less e f ih = rw (greater, less, f) refl
  order_step x xs Less Equal e f ih = rw (greater, f, e) refl
  order_step x xs Less Greater e f ih = rw (greater, f, e) refl
  order_step x xs Equal Less e f ih = let is : key_cmp q x.0 ≡ Greater = past_equal x.0 e in cc
  order_step x xs Equal Equal e f ih = let is : key_cmp q x.0 ≡ Greater = past_equal x.0 e in cc
  order_step x xs Equal Greater e f ih = rw (e, f) refl
  order_step x xs Greater Less e f ih = let is : key_cmp q x.0 ≡ Greater = past_greater x.0 e in cc
  order_step x xs Greater Equal e f ih = let is : key_cmp q x.0 ≡ Greater = past_greater x.0 e in cc
  order_step x xs Greater Greater e f ih = rw (e, f) (ap (λ (t : Table R). x ∷ t) ih)

  puts_in_order : (t : Table R) → put (put t k r) q u ≡ put (put t q u) k r
  unfolding put
  puts_in_order [] = rw (greater, less) refl
  puts_in_order (x ∷ xs) = order_step x xs (key_cmp k x.0) (key_cmp q x.0) refl refl (puts_in_order xs)

module _ {R : Type 0} (k q : Key) (r u : R) (t : Table R) where
  puts_by : (o : Ordering) → key_cmp k q ≡ o → same_key k q ≡ false → put (put t k r) q u ≡ put (put t q u) k r
  puts_by Less e apart = puts_in_order k q r u e t
  puts_by Equal e apart = let same : same_key k q ≡ true = ap is_eq e in cc
  puts_by Greater e apart =
      sym (puts_in_order q k u r (key_cmp_total.antisymm q k ∙ ap ordering_reverse e) t)

  puts_swap : same_key k q ≡ false → put (put t k r) q u ≡ put (put t q u) k r
  puts_swap = puts_by (key_cmp k q) refl

-- keys that differ
are_apart : (k q : Key) → same_key k q ≡ false → k ≡ q → ⊥
are_apart k q apart same =
    let is : same_key k q ≡ true = ap (same_key k) (sym same) ∙ same_key_same k in cc

min_again : (a b : ℕ) → min (min a b) b ≡ min a b
min_again a b = grind arith

-- ---- timers that are lowered to an end

module _ (end : ℕ) where
  abbrev join_row : ℕ → JoinTimerRow
  join_row n = record { end = n }

  -- a Join timer, where it runs
  abbrev lower : Table JoinTimerRow → Key → Table JoinTimerRow
  lower t k = set_row t k (lowered_row end (row_at t k))

  module _ (t : Table JoinTimerRow) (k : Key) where
    lower_none : row_at t k ≡ None → lower t k ≡ t
    unfolding set_row
    lower_none none = ap (λ (o : Option JoinTimerRow). set_row t k (lowered_row end o)) none ∙ drop_absent k t none

    lower_some : (r : JoinTimerRow) → row_at t k ≡ Some r → lower t k ≡ put t k (join_row (min r.end end))
    unfolding set_row
    lower_some r is = ap (λ (o : Option JoinTimerRow). set_row t k (lowered_row end o)) is

    lower_put : (row : JoinTimerRow) → lower (put t k row) k ≡ put t k (join_row (min row.end end))
    unfolding set_row
    lower_put row =
        ap (λ (o : Option JoinTimerRow). set_row (put t k row) k (lowered_row end o)) (row_put k row t)
        ∙ put_twice k row (join_row (min row.end end)) t

    again_by : (o : Option JoinTimerRow) → row_at t k ≡ o → lower (lower t k) k ≡ lower t k
    again_by None is = ap (λ (u : Table JoinTimerRow). lower u k) (lower_none is)
    again_by (Some r) is =
        ap (λ (u : Table JoinTimerRow). lower u k) (lower_some r is)
        ∙ lower_put (join_row (min r.end end))
        ∙ ap (λ n. put t k (join_row n)) (min_again r.end end)
        ∙ sym (lower_some r is)

    lower_again : lower (lower t k) k ≡ lower t k
    lower_again = again_by (row_at t k) refl

    -- the row at another key is as before
    away : (q : Key) → same_key k q ≡ false → (o : Option JoinTimerRow) → row_at t k ≡ o
        → row_at (lower t k) q ≡ row_at t q
    away q apart None is = ap (λ (u : Table JoinTimerRow). row_at u q) (lower_none is)
    away q apart (Some r) is =
        ap (λ (u : Table JoinTimerRow). row_at u q) (lower_some r is)
        ∙ row_put_away k q (are_apart k q apart) (join_row (min r.end end)) t

  module _ (t : Table JoinTimerRow) (k q : Key) (apart : same_key k q ≡ false) where
    swapped_by : (o p : Option JoinTimerRow) → row_at t k ≡ o → row_at t q ≡ p
        → lower (lower t k) q ≡ lower (lower t q) k
    swapped_by None p is are =
        ap (λ (u : Table JoinTimerRow). lower u q) (lower_none t k is)
        ∙ sym (lower_none (lower t q) k (away t q k (same_key_swap q k ∙ apart) p are ∙ is))
    swapped_by (Some r) None is are =
        lower_none (lower t k) q (away t k q apart (Some r) is ∙ are)
        ∙ ap (λ (u : Table JoinTimerRow). lower u k) (sym (lower_none t q are))
    swapped_by (Some r) (Some u) is are =
        lower_some (lower t k) q u (away t k q apart (Some r) is ∙ are)
        ∙ ap (λ (v : Table JoinTimerRow). put v q (join_row (min u.end end))) (lower_some t k r is)
        ∙ puts_swap k q (join_row (min r.end end)) (join_row (min u.end end)) t apart
        ∙ ap (λ (v : Table JoinTimerRow). put v k (join_row (min r.end end))) (sym (lower_some t q u are))
        ∙ sym (lower_some (lower t q) k r (away t q k (same_key_swap q k ∙ apart) (Some u) are ∙ is))

  lower_swap : (t : Table JoinTimerRow) (k q : Key) → lower (lower t k) q ≡ lower (lower t q) k
  lower_swap t k q = go (same_key k q) refl
    where
      go : (b : Bool) → same_key k q ≡ b → lower (lower t k) q ≡ lower (lower t q) k
      go true e = subst (λ (p : Key). lower (lower t k) p ≡ lower (lower t p) k) (equal_keys k q e) refl
      go false e = swapped_by t k q e (row_at t k) (row_at t q) refl refl

  -- an override timer, which starts where it doesn't run
  abbrev override_row : ℕ → OverrideTimerRow
  override_row n = record { end = n }

  abbrev lowest : Option OverrideTimerRow → ℕ
  lowest o = option_map_or (λ (r : OverrideTimerRow). min r.end end) o end

  lowest_again : (o : Option OverrideTimerRow) → min (lowest o) end ≡ lowest o
  lowest_again None = grind arith
  lowest_again (Some r) = min_again r.end end

  abbrev override : Table OverrideTimerRow → Key → Table OverrideTimerRow
  override t k = put t k (override_row (lowest (row_at t k)))

  override_again : (t : Table OverrideTimerRow) (k : Key) → override (override t k) k ≡ override t k
  override_again t k =
      let row : OverrideTimerRow = override_row (lowest (row_at t k)) in
      ap (λ (o : Option OverrideTimerRow). put (put t k row) k (override_row (lowest o))) (row_put k row t)
      ∙ put_twice k row (override_row (min row.end end)) t
      ∙ ap (λ n. put t k (override_row n)) (lowest_again (row_at t k))

  override_apart : (t : Table OverrideTimerRow) (k q : Key) → same_key k q ≡ false
      → override (override t k) q ≡ override (override t q) k
  override_apart t k q apart =
      let first : OverrideTimerRow = override_row (lowest (row_at t k)) in
      let second : OverrideTimerRow = override_row (lowest (row_at t q)) in
      ap (λ (o : Option OverrideTimerRow). put (put t k first) q (override_row (lowest o)))
      (row_put_away k q (are_apart k q apart) first t)
      ∙ puts_swap k q first second t apart
      ∙ ap (λ (o : Option OverrideTimerRow). put (put t q second) k (override_row (lowest o)))
      (sym (row_put_away q k (are_apart q k (same_key_swap q k ∙ apart)) second t))

  override_swap : (t : Table OverrideTimerRow) (k q : Key) → override (override t k) q ≡ override (override t q) k
  override_swap t k q = go (same_key k q) refl
    where
      go : (b : Bool) → same_key k q ≡ b → override (override t k) q ≡ override (override t q) k
      go true e = subst (λ (p : Key). override (override t k) p ≡ override (override t p) k) (equal_keys k q e) refl
      go false e = override_apart t k q e

-- ---- moves that lower to an end

abbrev IsLoweringChange : ℕ → Change → Type 0
IsLoweringChange end (Change.LowerTo e) = e ≡ end
IsLoweringChange end _ = ⊥

abbrev IsLowering : ℕ → TimerMove → Type 0
IsLowering end (TimerMove.LowerJoin group source e) = e ≡ end
IsLowering end (TimerMove.Override name change) = IsLoweringChange end change
IsLowering end _ = ⊥

-- the timer that is moved
data Moved : Type 0 where
  JoinAt : Key → Moved
  OverrideAt : Key → Moved

abbrev moved_by : TimerMove → Moved
moved_by (TimerMove.Override name change) = OverrideAt (rpt_key 0 name.group.bits name.source.bits)
moved_by (TimerMove.LowerJoin group source e) = JoinAt (join_key group source)
moved_by (TimerMove.RaiseJoin group source e) = JoinAt (join_key group source)
moved_by (TimerMove.Join group source change) = JoinAt (join_key group source)

module _ (end : ℕ) where
  abbrev lowered : State → Moved → State
  lowered s (JoinAt k) = record s { join_timers = lower end s.join_timers k }
  lowered s (OverrideAt k) = record s { override_timers = override end s.override_timers k }

  lowered_swap : (m n : Moved) (s : State) → lowered (lowered s m) n ≡ lowered (lowered s n) m
  lowered_swap (JoinAt k) (JoinAt q) s =
      ap (λ (t : Table JoinTimerRow). record s { join_timers = t }) (lower_swap end s.join_timers k q)
  lowered_swap (JoinAt k) (OverrideAt q) s = refl
  lowered_swap (OverrideAt k) (JoinAt q) s = refl
  lowered_swap (OverrideAt k) (OverrideAt q) s =
      ap (λ (t : Table OverrideTimerRow). record s { override_timers = t }) (override_swap end s.override_timers k q)

  lowered_again : (m : Moved) (s : State) → lowered (lowered s m) m ≡ lowered s m
  lowered_again (JoinAt k) s =
      ap (λ (t : Table JoinTimerRow). record s { join_timers = t }) (lower_again end s.join_timers k)
  lowered_again (OverrideAt k) s =
      ap (λ (t : Table OverrideTimerRow). record s { override_timers = t }) (override_again end s.override_timers k)

  join_lowered : (group : Addr) (source : Option Addr) (e : ℕ) → e ≡ end → (s : State)
      → after_move s (TimerMove.LowerJoin group source e) ≡ lowered s (JoinAt (join_key group source))
  unfolding after_move lower_join_timer
  join_lowered group source e is s =
      ap (λ n. record s { join_timers = lower n s.join_timers (join_key group source) }) is

  override_lowered : (name : SourceGroup) (change : Change) → IsLoweringChange end change → (s : State)
      → after_move s (TimerMove.Override name change) ≡ lowered s (OverrideAt (rpt_key 0 name.group.bits name.source.bits))
  unfolding after_move change_of lower_override_timer
  override_lowered name (Change.LowerTo e) is s =
      overrides s (rpt_key 0 name.group.bits name.source.bits) e
      ∙ ap (λ n. record s { override_timers = override n s.override_timers (rpt_key 0 name.group.bits name.source.bits) }) is
  override_lowered name Change.Keep is s = absurd is
  override_lowered name Change.Cancel is s = absurd is
  override_lowered name (Change.SetTo e) is s = absurd is

  is_lowered : (m : TimerMove) → IsLowering end m → (s : State) → after_move s m ≡ lowered s (moved_by m)
  is_lowered (TimerMove.LowerJoin group source e) is s = join_lowered group source e is s
  is_lowered (TimerMove.Override name change) is s = override_lowered name change is s
  is_lowered (TimerMove.RaiseJoin group source e) is s = absurd is
  is_lowered (TimerMove.Join group source change) is s = absurd is

  both_lowered : (m n : TimerMove) → IsLowering end m → IsLowering end n → (s : State)
      → after_move (after_move s m) n ≡ lowered (lowered s (moved_by m)) (moved_by n)
  both_lowered m n first second s =
      is_lowered n second (after_move s m) ∙ ap (λ (t : State). lowered t (moved_by n)) (is_lowered m first s)

  moves_swap : (m n : TimerMove) → IsLowering end m → IsLowering end n → (s : State)
      → after_move (after_move s m) n ≡ after_move (after_move s n) m
  moves_swap m n first second s =
      both_lowered m n first second s
      ∙ lowered_swap (moved_by m) (moved_by n) s
      ∙ sym (both_lowered n m second first s)

  move_again : (m : TimerMove) → IsLowering end m → (s : State) → after_move (after_move s m) m ≡ after_move s m
  move_again m is s =
      both_lowered m m is is s ∙ lowered_again (moved_by m) s ∙ sym (is_lowered m is s)

-- ---- what is heard of Prunes

module _ (o : State) (hop : Hop) (end : ℕ) where
  abbrev AllLower : List TimerMove → Type 0
  AllLower ms = AllByRecursion (IsLowering end) ms

  both_lower : (ms ns : List TimerMove) → AllLower ms → AllLower ns → AllLower (ms ++ ns)
  both_lower [] ns first second = second
  both_lower (m ∷ ms) ns first second = (first.0, both_lower ms ns first.1 second)

  one_lowers : (b : Bool) (m : TimerMove) → IsLowering end m → AllLower (heard_if b m)
  one_lowers true m is = (is, tt)
  one_lowers false m is = tt

  source_lowers : (group source : Addr) → AllLower (heard_of_source o hop end group source)
  unfolding heard_of_source
  source_lowers group source = one_lowers (is_source_towards o hop group.bits source.bits) _ refl

  timer_by : (group : Addr) (source : Option Addr) → AllLower (option_map_or (heard_of_source o hop end group) source [])
  timer_by group None = tt
  timer_by group (Some source) = source_lowers group source

  timers_lower : (group : Addr) (t : Table JoinTimerRow) → AllLower (heard_of_timers o hop end group t)
  unfolding heard_of_timers heard_of_timer
  timers_lower group [] = tt
  timers_lower group (e ∷ t) =
      both_lower (option_map_or (heard_of_source o hop end group) (e.0).source []) (heard_of_timers o hop end group t)
      (timer_by group (e.0).source) (timers_lower group t)

  prune_lowers : (group : Addr) (source : Option Addr) → AllLower (heard_of_prune o hop end group source)
  unfolding heard_of_prune
  prune_lowers group None =
      both_lower (heard_if (is_star_towards o hop group.bits) (TimerMove.LowerJoin group None end))
      (heard_of_timers o hop end group (timers_of o group.bits))
      (one_lowers (is_star_towards o hop group.bits) _ refl) (timers_lower group (timers_of o group.bits))
  prune_lowers group (Some source) =
      both_lower (heard_of_source o hop end group source)
      (heard_if (is_unpruned_towards o hop group.bits source.bits)
      (TimerMove.Override (record { source = source; group = group }) (Change.LowerTo end)))
      (source_lowers group source) (one_lowers (is_unpruned_towards o hop group.bits source.bits) _ refl)

  -- ---- keys of which some stand again

  abbrev of_key : Key → List TimerMove
  of_key k = heard_of_prune o hop end k.group k.source

  -- these moves, those of each key of a set once, do what those of the keys do behind others; those of the set again
  -- change nothing
  module _ (s : State) (others : List TimerMove) where
    pub record HeardOnce (keys set : List Key) (moves : List TimerMove) : Type 0 where
      pub same : after_moves s moves ≡ after_moves s (others ++ heard_in_prunes o hop end keys)
      pub stays : (q : Key) → is_named set q ≡ true
          → fold after_move (after_moves s moves) (of_key q) ≡ after_moves s moves

    pub none_heard : (moves : List TimerMove) → moves ≡ others → HeardOnce [] [] moves
    unfolding heard_in_prunes is_named
    none_heard moves are = record {
      same = ap (after_moves s) (are ∙ sym (append-nil others));
      stays = λ q named. cc;
    }

    after_more : (ms ns : List TimerMove) → after_moves s (ms ++ ns) ≡ fold after_move (after_moves s ms) ns
    unfolding after_moves
    after_more ms ns = fold-append after_move s ms ns

    module _ (keys set more : List Key) (moves : List TimerMove) (n : ℕ) (d k : Key) (inside : n < length keys)
        (is : k ≡ get_or keys n d) (heard : HeardOnce (take n keys) set moves)
        (has : (q : Key) → is_named more q ≡ cond (same_key k q) true (is_named set q)) where
      next_heard : others ++ heard_in_prunes o hop end (take (n + 1) keys)
          ≡ (others ++ heard_in_prunes o hop end (take n keys)) ++ of_key k
      unfolding heard_in_prunes
      next_heard =
          ap (λ (ks : List Key). others ++ flat_map of_key ks) (take_more keys n d inside)
          ∙ ap (λ (p : Key). others ++ flat_map of_key (take n keys ++ p ∷ [])) (sym is)
          ∙ sym (flat_map_more of_key others (take n keys) k)

      all_heard_so : after_moves s (others ++ heard_in_prunes o hop end (take (n + 1) keys))
          ≡ fold after_move (after_moves s moves) (of_key k)
      all_heard_so =
          ap (after_moves s) next_heard
          ∙ after_more (others ++ heard_in_prunes o hop end (take n keys)) (of_key k)
          ∙ ap (λ (t : State). fold after_move t (of_key k)) (sym heard.same)

      again_stays : (q : Key) (b : Bool) → same_key k q ≡ b → is_named set k ≡ true
          → cond b true (is_named set q) ≡ true
          → fold after_move (after_moves s moves) (of_key q) ≡ after_moves s moves
      again_stays q true e named f =
          subst (λ (p : Key). fold after_move (after_moves s moves) (of_key p) ≡ after_moves s moves) (equal_keys k q e)
          (heard.stays k named)
      again_stays q false e named f = heard.stays q f

      pub heard_again : is_named set k ≡ true → HeardOnce (take (n + 1) keys) more moves
      heard_again named = record {
        same = sym (all_heard_so ∙ heard.stays k named);
        stays = λ q f. again_stays q (same_key k q) refl named (sym (has q) ∙ f);
      }

      first_stays : (q : Key) (b : Bool) → same_key k q ≡ b → cond b true (is_named set q) ≡ true
          → fold after_move (fold after_move (after_moves s moves) (of_key k)) (of_key q)
          ≡ fold after_move (after_moves s moves) (of_key k)
      first_stays q true e f =
          subst (λ (p : Key). fold after_move (fold after_move (after_moves s moves) (of_key k)) (of_key p)
          ≡ fold after_move (after_moves s moves) (of_key k)) (equal_keys k q e)
          (all_again after_move (IsLowering end) (moves_swap end) (move_again end) (of_key k) (after_moves s moves)
          (prune_lowers k.group k.source))
      first_stays q false e f =
          past_all after_move (IsLowering end) (moves_swap end) (move_again end) (of_key k) (of_key q)
          (after_moves s moves) (prune_lowers k.group k.source) (prune_lowers q.group q.source)
          ∙ ap (λ (t : State). fold after_move t (of_key k)) (heard.stays q f)

      pub heard_first : (behind : List TimerMove) → behind ≡ moves ++ of_key k
          → HeardOnce (take (n + 1) keys) more behind
      heard_first behind are =
          subst (λ ms. HeardOnce (take (n + 1) keys) more ms) (sym are)
          (record {
            same = after_more moves (of_key k) ∙ sym all_heard_so;
            stays = λ q f.
                ap (λ (t : State). fold after_move t (of_key q)) (after_more moves (of_key k))
                ∙ first_stays q (same_key k q) refl (sym (has q) ∙ f)
                ∙ sym (after_more moves (of_key k));
          })
