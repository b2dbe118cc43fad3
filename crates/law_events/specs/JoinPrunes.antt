-- What a Join/Prune to the router touches, found before its change: the keys whose downstream rows it changes in more
-- than when a timer expires, and those whose lost asserts it removes.
use Rattle.std.{specs.Prelude.{Bool, List, [], filter, not, ℕ, ◌&&◌, ◌≡◌}}
use Rattle.pim_types.{specs.declared.{config.IfaceId.IfaceId, fact.Key.Key}}
use Rattle.pim_wire.{specs.Values.JoinPrune}
use Rattle.pim_model.{specs.{declared.accepted.Accepted.Accepted, Downstream.{is_named, joined_keys, pruned_keys, row_after, to_me, touched_keys}, Firing.settled, Rows.{same_both, same_downstream}, Sets.is_loser, State.State, Tables.row_at, Writing.write_all}}
use Rattle.law_settled.{specs.Ready.IsOrdered}
use Rattle.law_events.{specs.{Events.own_change, Locality.{AgreesBut, IsQuiet, own_settled, touching}}}

-- A message that joins and prunes these keys changes at most when a timer of the key's row expires, and removes no lost
-- assert under the key.
unfoldable pub moves_end : State → ℕ → ℕ → List Key → List Key → Key → Bool
moves_end s i holdtime joined pruned k =
    same_both same_downstream (row_at s.downstream k) (row_after s i holdtime joined pruned k)
    && not (is_loser (row_at s.asserts k) && is_named joined k)

-- The keys of which a Join/Prune changes more than when a timer expires, among those whose rows it can change.
unfoldable pub moved_among : State → ℕ → ℕ → List Key → List Key → List Key
moved_among s i holdtime joined pruned =
    filter (λ k. not (moves_end s i holdtime joined pruned k)) (touched_keys s i joined pruned)

-- The keys of which a Join/Prune on an interface changes more than when a timer expires.
abbrev pub moved_keys : State → ℕ → JoinPrune → List Key
moved_keys s i m = moved_among s i m.holdtime (joined_keys s i m) (pruned_keys i m)

abbrev pub JoinPruneTouchesMoved : Type 0
JoinPruneTouchesMoved =
    (s : State) → IsOrdered s → (i : ℕ) (m : JoinPrune) → AgreesBut (touching (moved_keys s i m)) s (to_me s i m)

-- From a quiet state all that follows of a Join/Prune follows of the keys that it touches.
abbrev pub JoinPruneIsLocal : Type 0
JoinPruneIsLocal = (s : State) → IsQuiet s → IsOrdered s → (i : IfaceId) (m : JoinPrune) (w : ℕ)
    → settled s (own_change s w (Accepted.JoinPruneToMe i m)) w
    ≡ own_settled (moved_keys s i.number m) s (own_change s w (Accepted.JoinPruneToMe i m)) w

-- Where a Join/Prune touches no key, as where it repeats what is known, nothing follows, and nothing is written.
abbrev pub JoinPruneAgain : Type 0
JoinPruneAgain = (s : State) → IsQuiet s → IsOrdered s → (i : IfaceId) (m : JoinPrune) (w : ℕ)
    → moved_keys s i.number m ≡ []
    → settled s (own_change s w (Accepted.JoinPruneToMe i m)) w ≡ write_all (to_me s i.number m) []
