-- What touches nothing: a Join/Prune to another router, queries, Hellos of the router's own, and the Hello of a
-- neighbour that says what it said.
use Rattle.std.{proofs.Common.{◌≡◌, ℕ, Bool, true, cond, [], ◌∷◌, ◌+◌, map, Option, Some, refl, sym, arith}, specs.List.cons_option}
use Rattle.pim_types.{specs.{declared.{fact.{InterfaceRow.InterfaceRow, Key.Key}, timer.TimerKind.TimerKind}, Keys.{group_in, iface_in}}}
use Rattle.pim_wire.{specs.Values.JoinPrune}
use Rattle.pim_model.{specs.{Firing.{fire_row, fired}, Hellos.{hello_due, hello_period}, Querier.{general_query_due, group_repeat_due, other_querier_gone, querying_on, source_repeat_due, sources_sent}, Seen.{cancel_override_timer, lower_join_timer, lower_override_timer, override_end, raise_join_timer, seen}, State.State, Tables.{Table, change_row, changed_entry, row_at}}}
use Rattle.law_settled.{proofs.SeenLaws.kept_by_seen}
use Rattle.law_events.{specs.{Locality.{AgreesBut, touching}, Scopes.{only_up, reads, scope}, Touches.{isnt_neighbour, touched_by}}, proofs.{Events.{assert_end_touches, expiry_touches, join_timer_touches_none, keepalive_touches, override_timer_touches_none, prune_pending_touches, register_touches, row_fires_but}, Membership.{group_end_here, source_end_here}, Touches.{agrees_same, agrees_then}}}

abbrev Alike : State → State → Type 0
Alike s t = AgreesBut (touching []) s t

-- ---- upstream timers that are raised, lowered and cancelled

raised : (s : State) (k : Key) (end : ℕ) → Alike s (raise_join_timer s k end)
unfolding raise_join_timer scope
raised s k end h e = refl

lowered_join : (s : State) (k : Key) (end : ℕ) → Alike s (lower_join_timer s k end)
unfolding lower_join_timer scope
lowered_join s k end h e = refl

lowered_override : (s : State) (k : Key) (end : ℕ) → Alike s (lower_override_timer s k end)
unfolding lower_override_timer scope
lowered_override s k end h e = refl

cancelled : (s : State) (k : Key) → Alike s (cancel_override_timer s k)
unfolding cancel_override_timer scope
cancelled s k h e = refl

pub seen_touches_none : (s : State) (w i : ℕ) (m : JoinPrune) → AgreesBut (touching []) s (seen s w i m)
seen_touches_none s w i m =
    kept_by_seen (Alike s) s w i m (λ t k end f. agrees_then (touching []) s t _ f (raised t k end))
    (λ t k f. agrees_then (touching []) s t _ f (lowered_join t k (override_end s i w)))
    (λ t k f. agrees_then (touching []) s t _ f (cancelled t k))
    (λ t k f. agrees_then (touching []) s t _ f (lowered_override t k (override_end s i w))) (agrees_same (touching []) s)

-- ---- the other timers

up_step : (k : Key) (r : InterfaceRow) (x : Key × InterfaceRow) (xs ys : Table InterfaceRow) (b : Bool)
    → map only_up ys ≡ map only_up xs
    → map only_up (cons_option (cond b (let o : Option (Key × InterfaceRow) = Some (x.0, r) in o) (Some x)) ys)
    ≡ only_up x ∷ map only_up xs
up_step k r x xs ys b e = grind arith

up_changed : (k : Key) (r : InterfaceRow) (t : Table InterfaceRow)
    → map only_up (change_row (λ (old : InterfaceRow). Some r) k t) ≡ map only_up t
unfolding change_row changed_entry
up_changed k r [] = refl
up_changed k r (x ∷ xs) = grind (arith, up_changed k r xs, up_step)

module _ (s : State) (k : Key) where
  hello_alike : (r : InterfaceRow) → Alike s (hello_due s k r).0
  unfolding hello_due scope
  hello_alike r h e =
      sym (λ j. record (scope (reads h) s) {
        interfaces = up_changed k (record r { hello_end = s.present + hello_period }) s.interfaces j;
      })

  query_alike : (i left : ℕ) → Alike s (general_query_due s i left).0
  unfolding general_query_due querying_on scope
  query_alike i left h e = refl

  gone_alike : (i : ℕ) → Alike s (other_querier_gone s i).0
  unfolding other_querier_gone querying_on scope
  gone_alike i h e = refl

  group_repeat_alike : (i g left : ℕ) → Alike s (group_repeat_due s i g left).0
  unfolding group_repeat_due scope
  group_repeat_alike i g left h e = refl

  source_repeat_alike : (i g : ℕ) → Alike s (source_repeat_due s i g).0
  unfolding source_repeat_due sources_sent scope
  source_repeat_alike i g h e = refl

  pub timer_touches : (kind : TimerKind) → isnt_neighbour kind ≡ true
      → AgreesBut (touching (touched_by kind k)) s (fired s kind k).0
  unfolding fired fire_row
  timer_touches TimerKind.Neighbour e = cc
  timer_touches TimerKind.PrunePending e = prune_pending_touches s k
  timer_touches TimerKind.DownstreamExpiry e = expiry_touches s k
  timer_touches TimerKind.GroupRecord e = group_end_here (iface_in k) (group_in k) s
  timer_touches TimerKind.SourceRecord e = source_end_here (iface_in k) (group_in k) s _
  timer_touches TimerKind.Assert e = assert_end_touches s k
  timer_touches TimerKind.Keepalive e = keepalive_touches s k
  timer_touches TimerKind.Register e = register_touches s k
  timer_touches TimerKind.Override e = override_timer_touches_none s k
  timer_touches TimerKind.Join e = join_timer_touches_none s k
  timer_touches TimerKind.OtherQuerier e = gone_alike (iface_in k)
  timer_touches TimerKind.GroupRepeat e = grind (arith, row_fires_but, group_repeat_alike)
  timer_touches TimerKind.SourceRepeat e = source_repeat_alike (iface_in k) (group_in k)
  timer_touches TimerKind.GeneralQuery e = grind (arith, row_fires_but, query_alike)
  timer_touches TimerKind.Hello e = row_fires_but (touching []) s (row_at s.interfaces k) (hello_due s k) hello_alike
