-- A Prune(S,G,rpt) at the upper router: it waits, and a Join takes it back.
use Rattle.std.{proofs.{Common.{◌≡◌, ◌∙◌, ℕ, ◌+◌, ◌==◌, nat_lt, Bool, true, false, List, [], ◌++◌, Option, Some, None, suc, zero, refl, ap}, lemmas.{Bool.{or_right}, List.Folds.list_any-append}}}
use Rattle.pim_types.{specs.{Keys.{rpt_key, same_key, star_key}, declared.{config.IfaceId.IfaceId, event.Event.Event, fact.{DownstreamRow.DownstreamRow, Key.Key}}}}
use Rattle.pim_wire.{specs.Values.JoinPrune}
use Rattle.pim_model.{specs.{declared.accepted.Accepted.Accepted, Cause.done_as, Downstream.{holdtime_end, is_named, joined_keys, keys_taken, prune_pending_end, pruned_keys, pruned_rpt_row, row_after, rpt_rows_joined, to_me, touched_keys}, Messages.Message, Neighbours.{join_prune_override_interval, neighbour_count}, State.State, Step.{Answered, change, done, step}, Tables.{Table, row_at}}}
use Rattle.law_streams.{specs.{Copies.happens, Joins.JoinsStar}, proofs.{Made.step_taken, Leaves.taken_is_done, Same.{Rows, settled_same}, Taken.{becomes_set, named_first, tree_gone}}}
use Rattle.law_converges.{specs.LinkRpt.{JoinOverrides, PruneWaits, StarJoinOverrides, joins_source, override_wait, prunes_source}}

named_last : (xs ys : List Key) (k : Key) → is_named ys k ≡ true → is_named (xs ++ ys) k ≡ true
unfolding is_named
named_last xs ys k e = list_any-append (same_key k) xs ys ∙ or_right _ _ e

-- the row that a Prune makes
made : (end : Option ℕ) (holdtime : ℕ) (pending : Option ℕ) → (holdtime == 0) ≡ false
    → pruned_rpt_row end holdtime pending None ≡ Some (record { expiry = end; pending = pending })
made end zero pending e = cc e
made end (suc h) pending e = refl

module _ (s : State) (e : Event) (i : IfaceId) (m : JoinPrune) (g src : ℕ)
    (is : done_as (happens s e) ≡ Some (Accepted.JoinPruneToMe i m)) where
  abbrev k : Key
  k = rpt_key i.number g src

  abbrev joined : List Key
  joined = joined_keys s i.number m

  abbrev pruned : List Key
  pruned = pruned_keys i.number m

  abbrev rule : Key → Option DownstreamRow
  rule q = row_after s i.number m.holdtime joined pruned q

  abbrev own : State × List Message
  own = (to_me s i.number m, [])

  same_rows : (step s e).state.downstream ≡ (to_me s i.number m).downstream
  unfolding done change
  same_rows =
      ap (λ (a : Answered). a.state.downstream)
      (step_taken s e (Accepted.JoinPruneToMe i m) is ∙ taken_is_done s e.draw (Accepted.JoinPruneToMe i m) refl)
      ∙ ap (λ (r : Rows). r.downstream) (settled_same s own e.draw)

  row_then : row_at (step s e).state.downstream k ≡ row_at (to_me s i.number m).downstream k
  row_then = ap (λ (t : Table DownstreamRow). row_at t k) same_rows

  -- a key that is named becomes what the message says of it
  by_rule : is_named (joined ++ pruned) k ≡ true → row_at (to_me s i.number m).downstream k ≡ rule k
  unfolding to_me keys_taken touched_keys
  by_rule named =
      becomes_set rule k (touched_keys s i.number joined pruned) s.downstream
      (named_first (joined ++ pruned) (rpt_rows_joined s i.number joined) k named)

  pending_is : nat_lt 1 (neighbour_count s i.number) ≡ true → prune_pending_end s i.number ≡ Some (s.present + override_wait s i.number)
  unfolding prune_pending_end join_prune_override_interval
  pending_is many = rw many refl

  waits : prunes_source i.number g src m ≡ true → (m.holdtime == 0) ≡ false → nat_lt 1 (neighbour_count s i.number) ≡ true
      → row_at s.downstream k ≡ None
      → row_at (step s e).state.downstream k
      ≡ Some (record { expiry = holdtime_end s m.holdtime; pending = Some (s.present + override_wait s i.number) })
  unfolding row_after
  waits named lasts many none =
      row_then
      ∙ (by_rule (named_last joined pruned k named)
      ∙ (rule_is (is_named joined k) refl
      ∙ (made (holdtime_end s m.holdtime) m.holdtime (prune_pending_end s i.number) lasts
      ∙ ap (λ (o : Option ℕ). Some (record { expiry = holdtime_end s m.holdtime; pending = o })) (pending_is many))))
    where
      rule_is : (b : Bool) → is_named joined k ≡ b
          → rule k ≡ pruned_rpt_row (holdtime_end s m.holdtime) m.holdtime (prune_pending_end s i.number) None
      rule_is true e = rw (e, named) refl
      rule_is false e = rw (e, named, none) refl

  overrides : joins_source s i.number g src m ≡ true → prunes_source i.number g src m ≡ false
      → row_at (step s e).state.downstream k ≡ None
  unfolding row_after
  overrides named off = row_then ∙ (by_rule (named_first joined pruned k named) ∙ rule_is (is_named joined (star_key i.number g)) refl)
    where
      rule_is : (b : Bool) → is_named joined (star_key i.number g) ≡ b → rule k ≡ None
      rule_is true e = rw (e, named, off) refl
      rule_is false e = rw (e, named, off) refl

  star_overrides : JoinsStar s i.number g m → prunes_source i.number g src m ≡ false
      → row_at (step s e).state.downstream k ≡ None
  star_overrides f off = row_then ∙ tree_gone s i.number g m f src off

pub prune_waits : PruneWaits
prune_waits s e i m g src is named lasts many none = waits s e i m g src is named lasts many none

pub join_overrides : JoinOverrides
join_overrides s e i m g src is named off = overrides s e i m g src is named off

pub star_join_overrides : StarJoinOverrides
star_join_overrides s e i m g src is f off = star_overrides s e i m g src is f off
