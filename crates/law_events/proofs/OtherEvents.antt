-- A query touches nothing, a Register and a Register-Stop their source.
use Rattle.std.{proofs.{Common.{eq-eqb, eqb-true, sym, ◌≡◌, true, false, ◌==◌, ◌||◌, ◌&&◌, ◌+◌, ℕ, Bool, cond, List, [], ◌∷◌, refl}, lemmas.Bool.{or_left, or_right}}, specs.Cmp.{first_so, second_so, Derive.both_true}}
use Rattle.pim_ip.{specs.Ipv4.Packet}
use Rattle.pim_types.{specs.{declared.fact.Key.Key, Keys.{group_in, source_in, source_key}}}
use Rattle.igmp_wire.{specs.{Codes.code_value, Values.Query as QueryValue}}
use Rattle.pim_model.{specs.{Forwarding.{register_at_rp, register_received}, Querier.{is_lower_querier, lower_group, lower_queried, lower_sources, querier_elected, query_end, query_seen}, Registers.{is_spt_wanted, register_stop_seen, state_after_stop, with_keepalive}, Sets.spt_bit, State.State, Tables.{delay_in, is_empty_list}, Unicast.is_rp}}
use Rattle.law_settled.{proofs.ListLaws.{either, by_cond}}
use Rattle.law_events.{specs.{Locality.{AgreesBut, touching}, Scopes.{reads, scope}}, proofs.{Membership.{lower_group_alike, lower_sources_alike, placed_elsewhere}, Packets.{either_here, keepalive_here, when_here}, Touches.{agrees_same, agrees_then, touches_itself, unread_of, registers_agree}}}

elected_alike : (touches : Key → Bool) (s : State) (i qrv qqi : ℕ) → AgreesBut touches s (querier_elected s i qrv qqi)
unfolding querier_elected scope
elected_alike touches s i qrv qqi h e = refl

lowered_alike : (touches : Key → Bool) (s : State) (i : ℕ) (q : QueryValue) → AgreesBut touches s (lower_queried s i q)
unfolding lower_queried
lowered_alike touches s i q =
    by_cond (AgreesBut touches s) (q.suppress || (q.group == 0)) s _ (agrees_same touches s)
    (by_cond (AgreesBut touches s) (is_empty_list q.sources) (lower_group s i q.group (query_end s i))
    (lower_sources s i q.group q.sources (query_end s i))
    (lower_group_alike touches s i q.group (query_end s i))
    (lower_sources_alike touches s i q.group q.sources (query_end s i)))

pub query_touches_none : (s : State) (i from : ℕ) (q : QueryValue) → AgreesBut (touching []) s (query_seen s i from q)
unfolding query_seen
query_touches_none s i from q =
    let elected : State =
    cond (is_lower_querier s i from) (querier_elected s i q.robustness (code_value q.interval_code)) s in
    agrees_then (touching []) s elected (query_seen s i from q)
    (by_cond (AgreesBut (touching []) s) (is_lower_querier s i from)
    (querier_elected s i q.robustness (code_value q.interval_code)) s
    (elected_alike (touching []) s i q.robustness (code_value q.interval_code))
    (agrees_same (touching []) s))
    (lowered_alike (touching []) elected i q)

pub register_stop_touches : (s : State) (w g src : ℕ)
    → AgreesBut (touching (source_key 0 g src ∷ [])) s (register_stop_seen s w g src)
unfolding register_stop_seen reads touching
register_stop_touches s w g src =
    registers_agree (touching (source_key 0 g src ∷ [])) s _ (λ q e.
    placed_elsewhere (reads q) (λ k. (group_in k == g) && ((src == 0) || (source_in k == src)))
    (λ x. record { state = state_after_stop (s.present + delay_in 25000 85000 w) (x.1).state })
    (λ k same. unread_of (source_key 0 g src ∷ []) k q (or_left (reads k (source_key 0 g src)) false (reads_it k same))
    e)
    s.registers)
  where
    reads_it : (k : Key) → ((group_in k == g) && ((src == 0) || (source_in k == src))) ≡ true
        → reads k (source_key 0 g src) ≡ true
    reads_it k same =
        both_true (eq-eqb g (group_in k) (sym (eqb-true (group_in k) g (first_so (group_in k == g) _ same))))
        (either (src == 0) (source_in k == src) (λ z. or_left (src == 0) (src == source_in k) z)
        (λ z. or_right (src == 0) (src == source_in k) (eq-eqb src (source_in k) (sym (eqb-true (source_in k) src z))))
        (second_so (group_in k == g) _ same))

pub register_received_touches : (s : State) (p : Packet) (g src : ℕ) (is_null : Bool)
    → AgreesBut (touching (source_key 0 g src ∷ [])) s (register_received s p g src is_null).state
unfolding register_received register_at_rp
register_received_touches s p g src is_null =
    let keys : List Key = source_key 0 g src ∷ [] in
    let there : touching keys (source_key 0 g src) ≡ true = touches_itself (source_key 0 g src) in
    either_here g src keys there s (is_rp s g p.destination) _ _
    (when_here g src keys there (spt_bit s g src || is_spt_wanted s) (λ t. with_keepalive t g src) s
    (keepalive_here g src keys there))
    (agrees_same (touching keys) s)
