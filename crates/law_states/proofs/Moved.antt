-- What a move of facts leaves of neighbours and of the configuration.
use Rattle.std.{proofs.Common.{◌≡◌, ℕ, Bool, true, false, cond, not, ◌&&◌, List, [], Option, Some, None, is_some, length, refl, ap, ◌∙◌}}
use Rattle.pim_types.{specs.{declared.{config.Config.Config, fact.{Key.Key, NeighbourRow.NeighbourRow}}, Keys.iface_in}}
use Rattle.pim_model.{specs.{State.{State, settings_of}, Tables.{Table, drop_where, has_row, is_among, row_at}}}
use Rattle.law_settled.{proofs.{RowLaws.{has_row_dropped, row_kept}, Unsettled.{Unsettled, settling_leaves}}}
use Rattle.law_events.{proofs.Configured.ground}
use Rattle.law_states.{specs.{Reload.config_of, PlacedLaws.{NeighboursStayOrGo, PlacedReloadIsUnder}, Placing.{gone_on, in_order, placed_key, kept_places, moved, new_order, old_order, placed_under, reload_by, resubnetted, to_order, without_neighbours}}, proofs.{Accepted.{config_by, settled_ground}, Rows.row_goes}}

-- ---- neighbours

no_row : {R : Type 0} (t : Table R) (k : Key) → has_row t k ≡ false → row_at t k ≡ None
unfolding has_row
no_row {R = R} t k e = by (row_at t k) e
  where
    by : (o : Option R) → is_some o ≡ false → o ≡ None
    by None e = refl
    by (Some r) e = cc

dropped_or_kept : {R : Type 0} (test : Key → Bool) (k : Key) (t : Table R)
    → row_at (drop_where test t) k ≡ cond (test k) None (row_at t k)
dropped_or_kept {R = R} test k t = by (test k) refl
  where
    by : (b : Bool) → test k ≡ b → row_at (drop_where test t) k ≡ cond b None (row_at t k)
    by true e =
        no_row (drop_where test t) k
        (has_row_dropped k test t ∙ ap (λ (c : Bool). not c && has_row t k) e)
    by false e = row_kept test k e t

pub neighbours_stay_or_go : NeighboursStayOrGo
unfolding moved without_neighbours placed_under
neighbours_stay_or_go s places c apart w k once h =
    ap (λ (u : Unsettled). row_at u.neighbours (placed_key places k))
    (settling_leaves (placed_under s places c) (without_neighbours apart (placed_under s places c), []) w)
    ∙ dropped_or_kept (λ q. is_among (iface_in q) apart) (placed_key places k) (placed_under s places c).neighbours
    ∙ ap (λ (o : Option NeighbourRow). cond (is_among (iface_in (placed_key places k)) apart) None o)
    (row_goes places s.neighbours k once h.neighbours)

-- ---- the configuration

ground_there : (s : State) (places : List ℕ) (c : Config) (apart : List ℕ)
    → config_by (ground (without_neighbours apart (placed_under s places c))) ≡ c
unfolding without_neighbours placed_under settings_of
ground_there s places c apart = refl

pub moved_is_under : (s : State) (places : List ℕ) (c : Config) (apart : List ℕ) (w : ℕ)
    → config_of (moved s places c apart w).0 ≡ c
unfolding moved config_of
moved_is_under s places c apart w =
    ap config_by (settled_ground (placed_under s places c) (without_neighbours apart (placed_under s places c), []) w)
    ∙ ground_there s places c apart

pub placed_reload_is_under : PlacedReloadIsUnder
unfolding reload_by
placed_reload_is_under s m c w =
    let order : List ℕ = new_order m (length c.interfaces) in
    let old : Config = in_order (old_order m) (config_of s) in
    let new : Config = in_order order c in
    let kept : ℕ = length (kept_places m) in
    let first = moved s (to_order m) old (resubnetted kept old.interfaces new.interfaces) w in
    moved_is_under (gone_on first.0 kept (length m) new w).0 order c [] w
