-- A neighbour that restarted.
use Rattle.std.{proofs.Common.{◌≡◌, ℕ, true, not, ◌&&◌, List, ◌+◌, Some, refl, ap, sym, ◌∙◌, filter}, specs.{Cmp.{first_so, second_so}, List.Sorted.IsStrictlySortedBy}}
use Rattle.pim_types.{specs.{declared.fact.{AssertRow.AssertRow, JoinTimerRow.JoinTimerRow, Key.Key}, Keys.{is_on, key_cmp}}}
use Rattle.pim_wire.{specs.declared.hello.Hello.Hello as HelloValue}
use Rattle.pim_model.{specs.{Downstream.asserts_after_joins, Hellos.{hello_triggered, is_lost_to, neighbour_replaced, neighbour_restarted}, Neighbours.t_override, Sets.is_loser, State.State, Tables.{Table, hop_at, keys_in}}}
use Rattle.law_settled.{specs.Rows.all_changed, proofs.ChosenRows.keys_of_passing}
use Rattle.pim_store.{specs.PimTables.lowered_join_timer}
use Rattle.pim_hello.{specs.Towards.is_towards, proofs.{Losses.losses_ended, Lowering.lowered_where}}

-- what is lost to somebody is lost
lost_so : (i a : ℕ) (e : Key × AssertRow) → is_lost_to i a e ≡ true → is_loser (Some e.1) ≡ true
lost_so i a e lost =
    second_so (is_on i e.0) (is_loser (Some e.1)) (first_so (is_on i e.0 && is_loser (Some e.1)) _ lost)

asserts_ended : (i a : ℕ) (s : State) → IsStrictlySortedBy key_cmp (keys_in s.asserts)
    → asserts_after_joins s (keys_in (filter (is_lost_to i a) s.asserts))
    ≡ filter (λ e. not (is_lost_to i a e)) s.asserts
unfolding asserts_after_joins
asserts_ended i a s rises = losses_ended (λ e. is_loser (Some e.1)) (is_lost_to i a) (lost_so i a) s.asserts rises

module _ (s : State) (i a w : ℕ) (h : HelloValue) where
  abbrev pub replaced : State
  replaced = neighbour_replaced (hello_triggered s i w) i a h

  same_timers : replaced.join_timers ≡ s.join_timers
  unfolding neighbour_replaced hello_triggered
  same_timers = refl

  -- with these timers lowered
  abbrev low : State → ℕ → List Key → State
  low t end keys = record t { join_timers = all_changed (lowered_join_timer end) t.join_timers keys }

  abbrev lowered_by_t_override : List Key → State → State
  lowered_by_t_override keys t = low t (t.present + t_override t i w) keys

  abbrev without_losses : State → Table AssertRow → State
  without_losses r asserts = record r { asserts = asserts }

  as_restarted : (r : State) (keys : List Key) → IsStrictlySortedBy key_cmp (keys_in r.asserts)
      → keys ≡ filter (is_towards s (hop_at i a)) (keys_in r.join_timers)
      → lowered_by_t_override keys
      (without_losses r (asserts_after_joins r (keys_in (filter (is_lost_to i a) r.asserts))))
      ≡ neighbour_restarted s i a w r
  unfolding neighbour_restarted t_override
  as_restarted r keys rises are =
      ap (λ (t : Table AssertRow). lowered_by_t_override keys (without_losses r t)) (asserts_ended i a r rises)
      ∙ ap (λ (ks : List Key).
      lowered_by_t_override ks (without_losses r (filter (λ e. not (is_lost_to i a e)) r.asserts))) are
      ∙ ap (λ (t : Table JoinTimerRow). let n : State = record r {
        asserts = filter (λ e. not (is_lost_to i a e)) r.asserts;
        join_timers = t;
      } in n) (lowered_where (is_towards s (hop_at i a)) (r.present + t_override r i w) r.join_timers)

  pub restarted : (r t : State) (end : ℕ) (keys lost : List Key) → r ≡ replaced
      → IsStrictlySortedBy key_cmp (keys_in r.asserts)
      → lost ≡ keys_in (filter (is_lost_to i a) r.asserts)
      → t ≡ without_losses r (asserts_after_joins r lost)
      → end ≡ t.present + t_override t i w
      → keys ≡ keys_in (filter (λ e. is_towards s (hop_at i a) e.0) s.join_timers)
      → low t end keys ≡ neighbour_restarted s i a w replaced
  restarted r t end keys lost is rises those after ends are =
      let timers : r.join_timers ≡ s.join_timers = ap (λ (x : State). x.join_timers) is ∙ same_timers in
      ap (λ (n : ℕ). low t n keys) ends
      ∙ ap (lowered_by_t_override keys) (after
      ∙ ap (λ (ks : List Key). without_losses r (asserts_after_joins r ks)) those)
      ∙ as_restarted r keys rises
      (are ∙ keys_of_passing (is_towards s (hop_at i a)) s.join_timers
      ∙ ap (λ (u : Table JoinTimerRow). filter (is_towards s (hop_at i a)) (keys_in u)) (sym timers))
      ∙ ap (λ (x : State). neighbour_restarted s i a w x) is
