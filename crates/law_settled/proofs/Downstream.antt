-- A Join/Prune to the router leaves a fine state.
use Rattle.std.{proofs.Common.{◌≡◌, ℕ, suc, zero, Bool, not, cond, ◌&&◌, fold, Option, Some, None, refl, arith, eqb-true, List, map, true, ap, ◌∙◌, filter, false, [], ◌∷◌, ◌++◌}, specs.List.AllByRecursion}
use Rattle.pim_types.{specs.{declared.fact.{AssertRow.AssertRow, DownstreamRow.DownstreamRow, Key.Key}, Keys.{is_on, iface_in, group_in, star_key}}}
use Rattle.pim_wire.{specs.{declared.join_prune.EntryKind.EntryKind, Values.JoinPrune}}
use Rattle.pim_model.{specs.{Downstream.{Named, key_by, named_key, rpt_rows_joined, accepted_joins, accepted_prunes, asserts_after_joins, holdtime_end, holdtime_end_from, is_named, joined_keys, joined_row, keys_taken, prune_pending_end, pruned_keys, pruned_row, pruned_rpt_row, row_after, to_me, touched_keys}, Sets.is_loser, State.State, Tables.{keys_in, Table, later_end, row_at, set_row}}}
use Rattle.law_settled.{proofs.{ListLaws.{by_cond, each_append}, Parts.{Asserts, Downstreams}, FineTables.{fine_filter, fine_fold_each, fine_set_row, good_row}, Hellos.some_holdtime_runs, LateEnds.{late_by, late_max}, FineStates.{Lateness, Runs, Good, IsFine, rows_fine}}}

pub named_on : (i address g : ℕ) (kind : EntryKind) → iface_in (key_by i g address kind) ≡ i
named_on i address g kind = grind arith

module _ (m : ℕ) (late up : ℕ → Bool) (lateness : Lateness m late) where
  -- a row that may be there
  abbrev GoodRow : Option DownstreamRow → Type 0
  GoodRow None = Unit {0}
  GoodRow (Some r) = Runs late r.expiry × Runs late r.pending

  good_option : (o : Option DownstreamRow)
      → ((r : DownstreamRow) → o ≡ Some r → Runs late r.expiry × Runs late r.pending) → GoodRow o
  good_option o good = grind arith

  of_good : (o : Option DownstreamRow) (r : DownstreamRow) → GoodRow o → o ≡ Some r
      → Runs late r.expiry × Runs late r.pending
  of_good o r good e = grind arith

  later_end_runs : (a b : Option ℕ) → Runs late a → Runs late (later_end a b)
  later_end_runs a b f = grind (arith, late_max)

  -- what a holdtime that isn't 0 ends
  abbrev Ends : ℕ → Option ℕ → Type 0
  Ends zero end = Unit {0}
  Ends (suc n) end = Runs late end

  ends_of : (p h : ℕ) → p ≡ m → Ends h (holdtime_end_from p h)
  ends_of p h now = grind (arith, some_holdtime_runs)

  joined_good : (end : Option ℕ) (h : ℕ) (o : Option DownstreamRow) → Ends h end → GoodRow o
      → GoodRow (joined_row end h o)
  joined_good end h o runs good = grind (arith, later_end_runs)

  pruned_good : (pending : Option ℕ) (o : Option DownstreamRow) → Runs late pending → GoodRow o
      → GoodRow (pruned_row pending o)
  pruned_good pending o runs good = grind arith

  pruned_rpt_good : (end : Option ℕ) (h : ℕ) (pending : Option ℕ) (o : Option DownstreamRow) → Ends h end
      → Runs late pending → GoodRow o
      → GoodRow (pruned_rpt_row end h pending o)
  pruned_rpt_good end h pending o ends runs good = grind (arith, later_end_runs)

  pending_runs : (s : State) (i : ℕ) → s.present ≡ m → Runs late (prune_pending_end s i)
  unfolding prune_pending_end
  pending_runs s i now = grind (arith, by_cond, late_by)

  module _ (s : State) (f : IsFine m late up s) (i holdtime : ℕ) (joins prunes : List Key) where
    row_good : (k : Key) → GoodRow (row_after s i holdtime joins prunes k)
    unfolding row_after
    row_good k =
        let row : Option DownstreamRow = row_at s.downstream k in
        let end : Option ℕ = holdtime_end s holdtime in
        let pending : Option ℕ = prune_pending_end s i in
        let ends : Ends holdtime end = ends_of s.present holdtime f.present in
        let runs : Runs late pending = pending_runs s i f.present in
        let found : GoodRow row =
        good_option row (λ r e.
        let its : Good late up Downstreams (k, r) =
        good_row (Good late up Downstreams) s.downstream k r (f.tables Downstreams) e in
        (its.0, its.1)) in
        let is_joined : Bool = is_named joins k in
        let is_pruned : Bool = is_named prunes k in
        let group_joined : Bool = is_named joins (star_key i (group_in k)) in
        let left : Option DownstreamRow = cond is_joined None row in
        let kept : GoodRow left = by_cond GoodRow is_joined None row tt found in
        let joined : Option DownstreamRow = cond is_joined (joined_row end holdtime row) row in
        let joins : GoodRow joined =
        by_cond GoodRow is_joined (joined_row end holdtime row) row (joined_good end holdtime row ends found) found in
        by_cond GoodRow k.rpt
        (cond is_pruned (pruned_rpt_row end holdtime pending left) (cond group_joined None left))
        (cond is_pruned (pruned_row pending joined) joined)
        (by_cond GoodRow is_pruned (pruned_rpt_row end holdtime pending left) (cond group_joined None left)
        (pruned_rpt_good end holdtime pending left ends runs kept) (by_cond GoodRow group_joined None left tt kept))
        (by_cond GoodRow is_pruned (pruned_row pending joined) joined (pruned_good pending joined runs joins) joins)

    -- all of its keys are on the interface
    abbrev OnIt : Key → Type 0
    OnIt k = iface_in k ≡ i

    rows_on : (b : Key → Bool) (ks : List Key) → AllByRecursion OnIt (filter (λ k. is_on i k && k.rpt && b k) ks)
    rows_on b [] = tt
    rows_on b (k ∷ ks) = go (is_on i k) k.rpt (b k) refl (rows_on b ks)
      where
        go : (c d e : Bool) → is_on i k ≡ c → AllByRecursion OnIt (filter (λ k. is_on i k && k.rpt && b k) ks)
            → AllByRecursion OnIt (cond (c && d && e) (k ∷ filter (λ k. is_on i k && k.rpt && b k) ks)
            (filter (λ k. is_on i k && k.rpt && b k) ks))
        go true true true h rest = (eqb-true (iface_in k) i h, rest)
        go true true false h rest = rest
        go true false e h rest = rest
        go false true e h rest = rest
        go false false e h rest = rest

    on_up : up i ≡ true → (k : Key) → OnIt k → up (iface_in k) ≡ true
    on_up here k e = ap up e ∙ here

    module _ (joins_on : AllByRecursion OnIt joins) (prunes_on : AllByRecursion OnIt prunes) where
      keys_on : AllByRecursion OnIt (touched_keys s i joins prunes)
      unfolding touched_keys rpt_rows_joined
      keys_on =
          each_append OnIt (joins ++ prunes) _ (each_append OnIt joins prunes joins_on prunes_on)
          (rows_on (λ k. is_named joins (star_key i (group_in k))) (keys_in s.downstream))

      taken_fine : up i ≡ true → IsFine m late up (keys_taken s i holdtime joins prunes)
      unfolding keys_taken asserts_after_joins
      taken_fine here =
          let after : Key → Option DownstreamRow = row_after s i holdtime joins prunes in
          let rows : Table DownstreamRow =
          fold (λ t k. set_row t k (after k)) s.downstream (touched_keys s i joins prunes) in
          let one : State = record s { downstream = rows } in
          let g : IsFine m late up one =
          rows_fine m late up Downstreams tt s f rows
          (fine_fold_each (Good late up Downstreams) OnIt (λ t k. set_row t k (after k))
          (λ t k on h. fine_set_row (Good late up Downstreams) t k (after k)
          (λ r e. let its : Runs late r.expiry × Runs late r.pending = of_good (after k) r (row_good k) e in
          (its.0, its.1, on_up here k on)) h) (touched_keys s i joins prunes) keys_on s.downstream
          (f.tables Downstreams)) in
          rows_fine m late up Asserts tt one g (asserts_after_joins s joins)
          (fine_filter (Good late up Asserts) (λ (e : Key × AssertRow). not (is_loser (Some e.1) && is_named joins e.0))
          s.asserts
          (f.tables Asserts))

  names_on : (i : ℕ) (ns : List Named) → AllByRecursion (λ k. iface_in k ≡ i) (map (named_key i) ns)
  names_on i [] = tt
  names_on i (n ∷ ns) = (named_on i (n.1).address.bits n.0 (n.1).kind, names_on i ns)

  pub to_me_fine : (s : State) → IsFine m late up s → (i : ℕ) (message : JoinPrune) → up i ≡ true
      → IsFine m late up (to_me s i message)
  unfolding to_me joined_keys pruned_keys
  to_me_fine s f i message here =
      taken_fine s f i message.holdtime (joined_keys s i message) (pruned_keys i message)
      (names_on i (accepted_joins s message)) (names_on i (accepted_prunes message)) here
