-- One neighbour's row that is set, or goes: all others are neighbours as before, and the router is the DR of the other
-- interfaces as before.
use Rattle.std.{proofs.Common.{◌≡◌, ◌==◌, ◌&&◌, ◌||◌, ℕ, Bool, true, false, not, Option, Some, refl, sym, ap, ◌∙◌, eq-eqb, eqb-true, arith}, specs.Cmp.Derive.both_true}
use Rattle.pim_types.{specs.{declared.{fact.{Key.Key, NeighbourRow.NeighbourRow}, path.Path.Path}, Keys.{iface_in, is_on, neighbour_key, same_key, source_in}}, proofs.Keys.equal_keys}
use Rattle.pim_model.{specs.{Neighbours.{is_dr, is_neighbour, nbr, nbr_among}, State.State, Tables.{has_row, rows_on, rows_where, same_bool, set_row}}}
use Rattle.law_settled.{proofs.{RowChanges.set_elsewhere, RowLaws.{has_row_put, has_row_without}}}
use Rattle.law_events.{specs.Adjacent.{has_same_hop, leads_to}, proofs.{SameRows.flags, Sights.hops_same}}

-- the key of another neighbour
other_key : (k : Key) (i address : ℕ) → ((i == iface_in k) && (address == source_in k)) ≡ false
    → same_key (neighbour_key i address) k ≡ false
other_key k i address apart = go (same_key (neighbour_key i address) k) refl
  where
    go : (b : Bool) → same_key (neighbour_key i address) k ≡ b → b ≡ false
    go true e =
        let same : neighbour_key i address ≡ k = equal_keys (neighbour_key i address) k e in
        sym (both_true (eq-eqb i (iface_in k) (ap iface_in same)) (eq-eqb address (source_in k) (ap source_in same))) ∙ apart
    go false e = refl

-- the next hop of a path is a neighbour as before where whether it is one is
pub same_next_hop : (s c : State) (path : Option Path)
    → ((p : Path) → path ≡ Some p → is_neighbour s p.iface.number p.next_hop.bits ≡ is_neighbour c p.iface.number p.next_hop.bits)
    → has_same_hop s c path ≡ true
unfolding nbr nbr_among
same_next_hop s c path same = grind (arith, hops_same)

-- the row under one key is another, or there is none
pub record SetsOne (k : Key) (s c : State) : Type 0 where
  pub row : Option NeighbourRow
  pub neighbours : c.neighbours ≡ set_row s.neighbours k row
  pub configured : s.configured ≡ c.configured

module _ (s c : State) (k : Key) (sets : SetsOne k s c) where
  absent_or : (b d : Bool) → b ≡ false → (b || d) ≡ d
  absent_or b d e = grind arith

  present_and : (b d : Bool) → b ≡ false → (not b && d) ≡ d
  present_and b d e = grind arith

  has_set : (q : Key) (row : Option NeighbourRow) → same_key q k ≡ false
      → has_row (set_row s.neighbours k row) q ≡ has_row s.neighbours q
  unfolding set_row
  has_set q row apart = grind (arith, has_row_without, present_and, has_row_put, absent_or)

  pub others : (i address : ℕ) → ((i == iface_in k) && (address == source_in k)) ≡ false
      → is_neighbour s i address ≡ is_neighbour c i address
  others i address apart = grind (arith, has_set, other_key)

  pub unled : (path : Option Path) → leads_to (iface_in k) (source_in k) path ≡ false → has_same_hop s c path ≡ true
  unled path apart = grind (arith, same_next_hop, others)

  -- ---- the DR

  rows_elsewhere : (i : ℕ) → is_on i k ≡ false → rows_on i s.neighbours ≡ rows_on i c.neighbours
  unfolding rows_on rows_where
  rows_elsewhere i apart =
      sym (ap (rows_on i) sets.neighbours ∙ set_elsewhere (is_on i) k apart s.neighbours sets.row)

  -- of another interface the router is the DR as before
  pub dr_elsewhere : (i : ℕ) → (iface_in k == i) ≡ false → is_dr s i ≡ is_dr c i
  unfolding is_dr
  dr_elsewhere i apart = grind (arith, rows_elsewhere)

  pub dr_kept : same_bool (is_dr s (iface_in k)) (is_dr c (iface_in k)) ≡ true → (i : ℕ) → is_dr s i ≡ is_dr c i
  dr_kept same i = grind (arith, eqb-true, flags, dr_elsewhere)
