-- A Join that was taken stays, and nobody comes to prune the source.
use Rattle.std.{proofs.{Common.{◌≡◌, ◌∙◌, ℕ, ◌==◌, ◌&&◌, ◌||◌, Bool, true, false, not, List, map, Option, Some, is_some, is_none, refl, sym, subst, eq-eqb, arith}, lemmas.Bool.both_ways}, specs.Option.option_map_or}
use Rattle.pim_types.{specs.{Keys.{iface_in, rpt_key, source_key, star_key}, declared.fact.{DownstreamRow.DownstreamRow, Key.Key}}}
use Rattle.pim_wire.{specs.Values.JoinPrune}
use Rattle.pim_model.{specs.{declared.accepted.Accepted.Accepted, Downstream.{Named, accepted_joins, accepted_prunes, is_named, joined_keys, keys_taken, named_key, pruned_keys, row_after, to_me, touched_keys}, Sets.prunes, State.State, Step.{change, iface_down}, Tables.{Table, has_row, row_at}}}
use Rattle.law_settled.{proofs.RowLaws.row_kept}
use Rattle.law_streams.{specs.Passing.{IsJoinedThere, IsSourceJoinedThere, Receiver, takes_from}, proofs.{Climbs.swapped, Taken.stays_set, Keeps.is_named_on, Changes.{IsNotDown, same_rows}, Rows.all_set_good}}

-- no key of another interface is named
unnamed : (j : ℕ) (k : Key) (ns : List Named) → (j == iface_in k) ≡ false → is_named (map (named_key j) ns) k ≡ false
unnamed j k ns off = grind (arith, both_ways, eq-eqb, is_named_on)

rule_same : (s : State) (j : ℕ) (m : JoinPrune) (k : Key) → k.rpt ≡ false → (j == iface_in k) ≡ false
    → row_after s j m.holdtime (joined_keys s j m) (pruned_keys j m) k ≡ row_at s.downstream k
unfolding row_after joined_keys pruned_keys
rule_same s j m k tree off = rw (unnamed j k (accepted_joins s m) off, unnamed j k (accepted_prunes m) off, tree) refl

-- a Join/Prune on another interface leaves the row of a tree
elsewhere_same : (s : State) (j : ℕ) (m : JoinPrune) (k : Key) → k.rpt ≡ false → (j == iface_in k) ≡ false
    → row_at (to_me s j m).downstream k ≡ row_at s.downstream k
unfolding to_me keys_taken
elsewhere_same s j m k tree off =
    stays_set (λ q. row_after s j m.holdtime (joined_keys s j m) (pruned_keys j m) q) k
    (touched_keys s j (joined_keys s j m) (pruned_keys j m)) s.downstream (sym (rule_same s j m k tree off))
    ∙ rule_same s j m k tree off

record Found (o : Option DownstreamRow) : Type 0 where
  row : DownstreamRow
  is : o ≡ Some row

found_in : (o : Option DownstreamRow) → is_some o ≡ true → Found o
found_in o e = grind arith

-- a tree's row is there after a Join/Prune, by that on another interface, or because it is said to be
tree_there : (s : State) (j : ℕ) (m : JoinPrune) (k : Key) → k.rpt ≡ false → (r : DownstreamRow) → row_at s.downstream k ≡ Some r
    → ((j == iface_in k) && not (has_row (to_me s j m).downstream k)) ≡ false → Found (row_at (to_me s j m).downstream k)
unfolding has_row
tree_there s j m k tree r there off = grind (arith, elsewhere_same, found_in)

abbrev pub prunes_by : Option DownstreamRow → Bool
prunes_by o = option_map_or (λ (r : DownstreamRow). is_none r.pending) o false

module _ (s : State) (g src i : ℕ) (f : IsJoinedThere s g src i) where
  abbrev Joined : State → Type 0
  Joined t = IsJoinedThere t g src i

  by_rows : (t : State) → t.downstream ≡ s.downstream → Joined t
  unfolding prunes
  by_rows t same = grind arith

  down_joined : (j : ℕ) → (j == i) ≡ false → Joined (iface_down s j)
  unfolding iface_down prunes
  down_joined j off = grind (arith, row_kept, swapped)

  -- ---- a Join/Prune to the router

  module _ (j : ℕ) (m : JoinPrune)
      (off : ((j == i) && (not (has_row (to_me s j m).downstream (star_key i g)) || prunes (to_me s j m) g src i)) ≡ false) where
    star_off : ((j == i) && not (has_row (to_me s j m).downstream (star_key i g))) ≡ false
    star_off = grind arith

    -- on another interface the row stays, or a Join(*,G) ends it
    elsewhere_rule : (j == i) ≡ false → prunes_by (row_after s j m.holdtime (joined_keys s j m) (pruned_keys j m) (rpt_key i g src)) ≡ false
    unfolding row_after joined_keys pruned_keys prunes
    elsewhere_rule apart = grind (arith, unnamed)

    rpt_off : prunes (to_me s j m) g src i ≡ false
    unfolding to_me keys_taken prunes
    rpt_off = go (j == i) refl off
      where
        go : (a : Bool) → (j == i) ≡ a → (a && (not (has_row (to_me s j m).downstream (star_key i g)) || prunes (to_me s j m) g src i)) ≡ false
            → prunes (to_me s j m) g src i ≡ false
        go true is e = last (not (has_row (to_me s j m).downstream (star_key i g))) (prunes (to_me s j m) g src i) e
          where
            last : (b c : Bool) → (true && (b || c)) ≡ false → c ≡ false
            last true c e = cc e
            last false c e = e
        go false apart e =
            all_set_good prunes_by refl (λ k. row_after s j m.holdtime (joined_keys s j m) (pruned_keys j m) k)
            (rpt_key i g src) (elsewhere_rule apart) (touched_keys s j (joined_keys s j m) (pruned_keys j m)) s.downstream
            f.none_prunes

    to_me_joined : Joined (to_me s j m)
    to_me_joined =
        let h : Found (row_at (to_me s j m).downstream (star_key i g)) = tree_there s j m (star_key i g) refl f.row f.found star_off in
        record { row = h.row; found = h.is; none_prunes = rpt_off }

  pub rejoined : (w : ℕ) (x : State) (a : Accepted) → x.downstream ≡ (change s w a).state.downstream → IsNotDown i a
      → takes_from Receiver.Router s x g src i (Some a) ≡ false → Joined (change s w a).state
  unfolding change prunes
  rejoined w x (Accepted.Down j) same off other = down_joined j.number off
  rejoined w x (Accepted.JoinPruneToMe j m) same off other =
      to_me_joined j.number m
      (subst (λ (d : Table DownstreamRow). ((j.number == i) && (not (has_row d (star_key i g)) || prunes_by (row_at d (rpt_key i g src)))) ≡ false)
      same other)
  rejoined w x a same off other = by_rows _ (same_rows s w a tt)

-- a Join of the source that was taken stays
module _ (s : State) (g src i : ℕ) (f : IsSourceJoinedThere s g src i) where
  abbrev SourceJoined : State → Type 0
  SourceJoined t = IsSourceJoinedThere t g src i

  source_by_rows : (t : State) → t.downstream ≡ s.downstream → SourceJoined t
  source_by_rows t same = grind arith

  source_down : (j : ℕ) → (j == i) ≡ false → SourceJoined (iface_down s j)
  unfolding iface_down
  source_down j off = grind (arith, row_kept, swapped)

  source_to_me : (j : ℕ) (m : JoinPrune) → ((j == i) && not (has_row (to_me s j m).downstream (source_key i g src))) ≡ false
      → SourceJoined (to_me s j m)
  source_to_me j m off =
      let h : Found (row_at (to_me s j m).downstream (source_key i g src)) = tree_there s j m (source_key i g src) refl f.row f.found off in
      record { row = h.row; found = h.is }

  pub source_rejoined : (w : ℕ) (x : State) (a : Accepted) → x.downstream ≡ (change s w a).state.downstream → IsNotDown i a
      → takes_from Receiver.SourceRouter s x g src i (Some a) ≡ false → SourceJoined (change s w a).state
  unfolding change
  source_rejoined w x a same off other = grind (arith, source_down, source_to_me, source_by_rows, same_rows)
