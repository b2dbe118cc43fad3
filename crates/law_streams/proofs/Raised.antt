-- No event's own change has the Join timer of what is joined end later than 84 s from its present, or than before.
use Rattle.std.{proofs.{Common.{◌≡◌, ℕ, ◌+◌, ◌*◌, ◌≤◌, max, nat_lt, not, min, false, cond, filter, Option, Some, None, refl, subst, arith}, lemmas.{Bool.Decides.nat_tests, Nat.mod_below}}}
use Rattle.pim_types.{specs.{Keys.{rpt_key, source_key, star_key}, declared.{fact.{JoinTimerRow.JoinTimerRow, Key.Key}, path.Hop.Hop}}, proofs.Keys.{equal_keys}}
use Rattle.pim_wire.{specs.{Values.{JoinPrune}, declared.{join_prune.EntryKind.EntryKind}}}
use Rattle.pim_model.{specs.{declared.accepted.Accepted.Accepted, Desires.{rpf_source, rpf_star}, Downstream.{Named, accepted_joins, accepted_prunes}, Neighbours.{t_suppressed, t_suppressed_among}, Seen.{cancel_override_timer, is_star_entry, is_unpruned_towards, join_seen, prune_seen, raise_join_timer, raised_row, seen, suppressed_end}, State.State, Step.{change}, Tables.{delay_in, hop_at, row_at, same_hop}}}
use Rattle.law_settled.{proofs.{ListLaws.by_cond, TurnLaws.kept_by_fold}}
use Rattle.law_streams.{specs.InTimeJoins.{Join, join_key}, proofs.{Rows.set_good, InTimeChanges.{cancelled_by, prune_by, unless_seen}, InTimeTimers.{EndsBy, is_after}}}

-- ---- how long a suppression takes at most

few_rest : (w : ℕ) → delay_in 66000 84000 w ≤ 84000
unfolding delay_in
few_rest w = grind (arith, mod_below)

t_few : (rows : _) (w : ℕ) → t_suppressed_among rows w ≤ 84000
unfolding t_suppressed_among
t_few rows w = by_cond (λ (n : ℕ). n ≤ 84000) _ _ 0 (few_rest w) (omega arith)

few_of : (p t h : ℕ) → t ≤ 84000 → p + max 1 (min t h) ≤ p + 84000
few_of p t h e = grind arith

pub suppressed_low : (s : State) (i w holdtime : ℕ) → suppressed_end s i w holdtime ≤ s.present + 84000
unfolding suppressed_end t_suppressed
suppressed_low s i w holdtime = few_of s.present _ (1000 * holdtime) (t_few _ w)

module _ (x : Join) (g b : ℕ) where
  abbrev q : Key
  q = join_key x 0 g

  abbrev By : State → Type 0
  By s = EndsBy x g b s

  raise_is : (e n : ℕ) → n ≤ b → nat_lt b e ≡ false → nat_lt b (max e n) ≡ false
  raise_is e n low f = grind (arith, nat_tests, f, low)

  raised_by : (s : State) (k : Key) (end : ℕ) → end ≤ b → By s → By (raise_join_timer s k end)
  unfolding raise_join_timer
  raised_by s k end low f =
      set_good (is_after b) refl k q _ s.join_timers
      (λ same. go (row_at s.join_timers k)
      (subst (λ (j : Key). is_after b (row_at s.join_timers j) ≡ false) (equal_keys q k same) f)) f
    where
      go : (o : Option JoinTimerRow) → is_after b o ≡ false → is_after b (raised_row end o) ≡ false
      go None e = e
      go (Some r) e = raise_is r.end end low e

  -- ---- a Join/Prune between other routers

  module _ (s : State) (w : ℕ) (hop : Hop) (high : s.present + 84000 ≤ b) where
    low_so : (i holdtime : ℕ) → suppressed_end s i w holdtime ≤ b
    low_so i holdtime =
        let e : suppressed_end s i w holdtime ≤ s.present + 84000 = suppressed_low s i w holdtime in
        omega (arith, e, high)

    join_by : (holdtime : ℕ) (t : State) (n : Named) → By t → By (join_seen s holdtime w hop t n)
    unfolding join_seen
    join_by holdtime t n f = go (n.1).kind
      where
        go : (kind : EntryKind) → By (elim kind [
          | EntryKind.Star ↦ cond (same_hop (rpf_star s n.0) (Some hop)) (raise_join_timer t (star_key 0 n.0) (suppressed_end s hop.iface.number w holdtime)) t
          | EntryKind.Source ↦ cond (same_hop (rpf_source s n.0 (n.1).address.bits) (Some hop)) (raise_join_timer t (source_key 0 n.0 (n.1).address.bits) (suppressed_end s hop.iface.number w holdtime)) t
          | EntryKind.SourceRpt ↦ cond (is_unpruned_towards s hop n.0 (n.1).address.bits) (cancel_override_timer t (rpt_key 0 n.0 (n.1).address.bits)) t
        ])
        go EntryKind.Star = by_cond By _ _ t (raised_by t (star_key 0 n.0) _ (low_so hop.iface.number holdtime) f) f
        go EntryKind.Source = by_cond By _ _ t (raised_by t (source_key 0 n.0 (n.1).address.bits) _ (low_so hop.iface.number holdtime) f) f
        go EntryKind.SourceRpt = by_cond By _ _ t (cancelled_by x g b t (rpt_key 0 n.0 (n.1).address.bits) f) f

  seen_by : (s : State) (w i : ℕ) (m : JoinPrune) → s.present + 84000 ≤ b → By s → By (seen s w i m)
  unfolding seen
  seen_by s w i m high f =
      let hop : Hop = hop_at i m.upstream in
      kept_by_fold (prune_seen s w hop) By (prune_by x g b s w hop) (accepted_prunes m) _
      (kept_by_fold (join_seen s m.holdtime w hop) By (join_by s w hop high m.holdtime) (filter (λ n. not (is_star_entry n)) (accepted_joins s m)) _
      (kept_by_fold (join_seen s m.holdtime w hop) By (join_by s w hop high m.holdtime) (filter is_star_entry (accepted_joins s m)) s f))

  pub change_raised : (s : State) (w : ℕ) → s.present + 84000 ≤ b → By s → (a : Accepted) → By (change s w a).state
  change_raised s w high f a = unless_seen x g b s w f a (λ i m is. seen_by s w i.number m high f)
