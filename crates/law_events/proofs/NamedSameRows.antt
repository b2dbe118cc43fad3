-- Rows that don't differ are read alike.
use Rattle.std.{proofs.Common.{◌≡◌, ℕ, Bool, true, false, not, ◌&&◌, cond, [], ◌∷◌, map, Option, Some, None, is_none, is_some, option_and_then, option_map, refl, sym, ap, ◌∙◌, eqb-true, arith}, specs.{Cmp.{first_so, second_so}, Option.option_map_or}}
use Rattle.pim_types.{specs.{declared.{fact.{AssertMetric.AssertMetric, AssertRow.AssertRow, Key.Key, NeighbourRow.NeighbourRow, RegisterRow.RegisterRow, RegisterState.RegisterState}, path.Path.Path}, Keys.same_key}, proofs.Keys.equal_keys}
use Rattle.pim_model.{specs.{Rows.{same_assert, same_both, same_end, same_lan_delay, same_neighbour, same_path, same_register, same_register_state, same_rows}, Sets.{is_loser, is_register_join, is_winner}, Tables.{Table, hop_at, row_at, rows_where, same_option}}}
use Rattle.law_events.{specs.Scopes.only_priority, proofs.{Rows.row_in_scope, SameRows.{flags, metrics}}}

-- ---- what is found

module _ {R : Type 0} (same : R → R → Bool) where
  found_step : (a b : R) (xs ys : Option R) (here there : Bool) → here ≡ there → same a b ≡ true
      → same_both same xs ys ≡ true
      → same_both same (cond here (Some a) xs) (cond there (Some b) ys) ≡ true
  found_step a b xs ys here there e h ih = grind arith

  pub found_alike : (k : Key) (t u : Table R) → same_rows same t u ≡ true
      → same_both same (row_at t k) (row_at u k) ≡ true
  unfolding same_rows row_at
  found_alike k [] [] e = refl
  found_alike k [] (y ∷ ys) e = cc
  found_alike k (x ∷ xs) [] e = cc
  found_alike k (x ∷ xs) (y ∷ ys) e =
      grind (arith, found_alike k xs ys (second_so (same_key x.0 y.0 && same x.1 y.1) (same_rows same xs ys) e), found_step, equal_keys)

  -- among the rows whose key passes
  pub alike_at : (k : Key) (test : Key → Bool) → test k ≡ true → (t u : Table R)
      → same_rows same (rows_where test t) (rows_where test u) ≡ true
      → same_both same (row_at t k) (row_at u k) ≡ true
  alike_at k test seen t u e =
      ap (λ (o : Option R). same_both same o (row_at u k)) (sym (row_in_scope test k seen t))
      ∙ (ap (λ (o : Option R). same_both same (row_at (rows_where test t) k) o) (sym (row_in_scope test k seen u))
      ∙ found_alike k (rows_where test t) (rows_where test u) e)

  pub there_alike : (a b : Option R) → same_both same a b ≡ true → is_some a ≡ is_some b
  there_alike a b e = grind arith

  module _ {X : Type 0} (read : R → X) (alike : (a b : R) → same a b ≡ true → read a ≡ read b) where
    pub read_alike : (a b : Option R) → same_both same a b ≡ true → option_map read a ≡ option_map read b
    read_alike a b e = grind arith

  module _ (read : R → Bool) (alike : (a b : R) → same a b ≡ true → read a ≡ read b) where
    pub flag_alike : (a b : Option R) → same_both same a b ≡ true
        → option_map_or read a false ≡ option_map_or read b false
    flag_alike a b e = grind arith

-- ---- equal values

pub not_false : (b : Bool) → not b ≡ false → b ≡ true
not_false b e = grind arith

pub options : (a b : Option ℕ) → same_option a b ≡ true → a ≡ b
options a b e = grind (arith, eqb-true)

pub ends_none : (a b : Option ℕ) → same_end a b ≡ true → is_none a ≡ is_none b
ends_none a b e = grind arith

-- of four values the last is told apart by the first three
pub both_of : (a b : Bool) → (a && b) ≡ true → (a ≡ true) × (b ≡ true)
both_of a b e = (first_so a b e, second_so a b e)

path_alike : (p q : Path) → same_path p q ≡ true → p ≡ q
path_alike p q e = grind (arith, both_of, eqb-true, flags)

pub paths : (a b : Option Path) → same_both same_path a b ≡ true → a ≡ b
paths a b e = grind (arith, path_alike)

-- ---- asserts

-- an assert row without its end
abbrev Decided : Type 0
Decided = Bool × AssertMetric

abbrev decided : AssertRow → Decided
decided r = (is_winner (Some r), r.winner)

decided_same : (a b : AssertRow) → same_assert a b ≡ true → decided a ≡ decided b
decided_same a b e = grind (arith, both_of, flags, metrics)

loser_of : (r : AssertRow) → is_loser (Some r) ≡ not (is_winner (Some r))
loser_of r = grind arith

loser_by : (o : Option AssertRow)
    → is_loser o ≡ option_map_or (λ (d : Decided). not d.0) (option_map decided o) false
loser_by o = grind (arith, loser_of)

winner_by : (o : Option AssertRow) → is_winner o ≡ option_map_or (λ (d : Decided). d.0) (option_map decided o) false
winner_by o = grind arith

metric_by : (o : Option AssertRow)
    → option_map (λ (r : AssertRow). r.winner) o ≡ option_map (λ (d : Decided). d.1) (option_map decided o)
metric_by o = grind arith

hop_of : (i : ℕ) (o : Option AssertRow)
    → option_and_then (λ (r : AssertRow). cond (is_loser (Some r)) (Some (hop_at i r.winner.address.bits)) None) o
    ≡ option_and_then (λ (d : Decided). cond (not d.0) (Some (hop_at i (d.1).address.bits)) None) (option_map decided o)
hop_of i o = grind (arith, loser_of)

module _ (i : ℕ) (a b : Option AssertRow) (e : same_both same_assert a b ≡ true) where
  same_decided : option_map decided a ≡ option_map decided b
  same_decided = read_alike same_assert decided decided_same a b e

  pub loser_same : is_loser a ≡ is_loser b
  loser_same = grind (arith, loser_by, same_decided)

  pub winner_same : is_winner a ≡ is_winner b
  winner_same = grind (arith, winner_by, same_decided)

  pub metric_same : option_map (λ (r : AssertRow). r.winner) a ≡ option_map (λ (r : AssertRow). r.winner) b
  metric_same = metric_by a ∙ ((λ j. option_map (λ (d : Decided). d.1) (same_decided j)) ∙ sym (metric_by b))

  pub hop_same : option_and_then
      (λ (r : AssertRow). cond (is_loser (Some r)) (Some (hop_at i r.winner.address.bits)) None) a
      ≡ option_and_then
      (λ (r : AssertRow). cond (is_loser (Some r)) (Some (hop_at i r.winner.address.bits)) None) b
  hop_same = grind (arith, hop_of, same_decided)

-- ---- registers

joins_alike : (a b : RegisterState) → same_register_state a b ≡ true
    → is_register_join (Some a) ≡ is_register_join (Some b)
joins_alike a b e = grind arith

pub tunnel_alike : (a b : Option RegisterState) → same_both same_register_state a b ≡ true
    → is_register_join a ≡ is_register_join b
tunnel_alike a b e = grind (arith, joins_alike)

pub states_alike : (a b : Option RegisterRow) → same_both same_register a b ≡ true
    → same_both same_register_state (option_map (λ (r : RegisterRow). r.state) a)
    (option_map (λ (r : RegisterRow). r.state) b) ≡ true
states_alike a b e = grind arith

-- ---- neighbours

-- they have the same priorities
pub priorities_same : (t u : Table NeighbourRow) → same_rows same_neighbour t u ≡ true
    → map only_priority t ≡ map only_priority u
unfolding same_rows
priorities_same [] [] e = refl
priorities_same [] (y ∷ ys) e = cc
priorities_same (x ∷ xs) [] e = cc
priorities_same (x ∷ xs) (y ∷ ys) e =
    let all : _ = both_of (same_key x.0 y.0 && same_neighbour x.1 y.1) (same_rows same_neighbour xs ys) e in
    let heads : _ = both_of (same_key x.0 y.0) (same_neighbour x.1 y.1) all.0 in
    let values : _ = both_of (same_end (x.1).end (y.1).end && same_both same_lan_delay (x.1).lan_delay (y.1).lan_delay && same_option (x.1).priority (y.1).priority) (same_option (x.1).generation (y.1).generation) heads.1 in
    let last : _ = both_of (same_end (x.1).end (y.1).end && same_both same_lan_delay (x.1).lan_delay (y.1).lan_delay) (same_option (x.1).priority (y.1).priority) values.0 in
    let key : x.0 ≡ y.0 = equal_keys x.0 y.0 heads.0 in
    let priority : (x.1).priority ≡ (y.1).priority = options (x.1).priority (y.1).priority last.1 in
    let more : map only_priority xs ≡ map only_priority ys = priorities_same xs ys all.1 in
    λ j. (key j, record { end = None; lan_delay = None; priority = priority j; generation = None }) ∷ more j
