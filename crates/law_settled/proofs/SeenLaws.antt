-- A Join/Prune between other routers keeps what its single steps keep: a Join timer that is raised or lowered, an
-- override timer that is cancelled or lowered.
use Rattle.std.{proofs.Common.{ℕ, not, List, filter, fold, arith}}
use Rattle.pim_types.{specs.{declared.{fact.Key.Key, path.Hop.Hop}, Keys.{source_key, star_key}}}
use Rattle.pim_wire.{specs.{declared.join_prune.EntryKind.EntryKind, Values.JoinPrune}}
use Rattle.pim_model.{specs.{Downstream.{Named, accepted_joins, accepted_prunes}, Seen.{cancel_override_timer, is_star_entry, join_seen, lower_join_timer, lower_override_timer, lower_source_timer, lower_star_timer, lower_tree_timer, override_end, prune_seen, raise_join_timer, seen, sources_joined_towards}, State.State, Tables.hop_at}}
use Rattle.law_settled.{proofs.{ListLaws.by_cond, TurnLaws.kept_by_fold}}

-- one entry, of a message that found o
module _ (P : State → Type 0) (o : State) (w : ℕ) (hop : Hop)
    (raises : (s : State) (k : Key) (end : ℕ) → P s → P (raise_join_timer s k end))
    (lowers : (s : State) (k : Key) → P s → P (lower_join_timer s k (override_end o hop.iface.number w)))
    (cancels : (s : State) (k : Key) → P s → P (cancel_override_timer s k))
    (lowers_override : (s : State) (k : Key) → P s → P (lower_override_timer s k (override_end o hop.iface.number w))) where
  join_kept : (holdtime : ℕ) (s : State) (n : Named) → P s → P (join_seen o holdtime w hop s n)
  unfolding join_seen
  join_kept holdtime s n f = grind (arith, by_cond)

  joins_kept : (holdtime : ℕ) (ns : List Named) (s : State) → P s → P (fold (join_seen o holdtime w hop) s ns)
  joins_kept holdtime ns s f = kept_by_fold (join_seen o holdtime w hop) P (join_kept holdtime) ns s f

  source_kept : (g src : ℕ) (s : State) → P s → P (lower_source_timer o w hop g src s)
  source_kept g src s f = by_cond P _ _ s (lowers s (source_key 0 g src) f) f

  star_kept : (g : ℕ) (s : State) → P s → P (lower_star_timer o w hop g s)
  star_kept g s f = by_cond P _ _ s (lowers s (star_key 0 g) f) f

  both_kept : (g src : ℕ) (s : State) → P s → P (lower_tree_timer o w hop g src (lower_source_timer o w hop g src s))
  both_kept g src s f = grind (arith, source_kept, by_cond)

  prune_kept : (s : State) (n : Named) → P s → P (prune_seen o w hop s n)
  unfolding prune_seen
  prune_kept s n f = go (n.1).kind (n.1).address.bits
    where
      go : (kind : EntryKind) (src : ℕ) → P (elim kind [
        | EntryKind.Star ↦
            fold (λ t x. lower_source_timer o w hop n.0 x t) (lower_star_timer o w hop n.0 s) (sources_joined_towards o hop n.0)
        | EntryKind.Source ↦ lower_tree_timer o w hop n.0 src (lower_source_timer o w hop n.0 src s)
        | EntryKind.SourceRpt ↦ lower_tree_timer o w hop n.0 src (lower_source_timer o w hop n.0 src s)
      ])
      go EntryKind.Star src =
          kept_by_fold (λ t x. lower_source_timer o w hop n.0 x t) P (λ t x g. source_kept n.0 x t g)
          (sources_joined_towards o hop n.0) (lower_star_timer o w hop n.0 s) (star_kept n.0 s f)
      go EntryKind.Source src = both_kept n.0 src s f
      go EntryKind.SourceRpt src = both_kept n.0 src s f

-- the message
module _ (P : State → Type 0) (s : State) (w i : ℕ) (m : JoinPrune)
    (raises : (t : State) (k : Key) (end : ℕ) → P t → P (raise_join_timer t k end))
    (lowers : (t : State) (k : Key) → P t → P (lower_join_timer t k (override_end s i w)))
    (cancels : (t : State) (k : Key) → P t → P (cancel_override_timer t k))
    (lowers_override : (t : State) (k : Key) → P t → P (lower_override_timer t k (override_end s i w))) where
  abbrev towards : Hop
  towards = hop_at i m.upstream

  each_join : (ns : List Named) (t : State) → P t → P (fold (join_seen s m.holdtime w towards) t ns)
  each_join = joins_kept P s w towards raises lowers cancels lowers_override m.holdtime

  pub kept_by_seen : P s → P (seen s w i m)
  unfolding seen
  kept_by_seen f =
      kept_by_fold (prune_seen s w towards) P (prune_kept P s w towards raises lowers cancels lowers_override)
      (accepted_prunes m) _
      (each_join (filter (λ n. not (is_star_entry n)) (accepted_joins s m)) _
      (each_join (filter is_star_entry (accepted_joins s m)) s f))
