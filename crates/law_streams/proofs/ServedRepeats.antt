-- A Join that is sent again.
use Rattle.std.{proofs.{Common.{◌≡◌, ◌∙◌, ℕ, true, List, [], ◌∷◌, Some, refl, ap, arith}, lemmas.List.Elements.Contains-append_left}, specs.List.Contains}
use Rattle.pim_ip.{specs.Ipv4.{all_pim_routers, pim_packet_text}}
use Rattle.pim_types.{specs.{Keys.{source_key, star_key}, declared.{fact.Key.Key, path.Hop.Hop, timer.TimerKind.TimerKind}}}
use Rattle.pim_wire.{specs.{JoinPrunes.join_prune_text, declared.join_prune.{Entry.Entry, EntryKind.EntryKind}}}
use Rattle.pim_model.{specs.{Asserts.{assert_forgotten, without_spt_bit}, Clearing.{Cleared, clearable_count, cleared}, Desires.{rpf_source, rpf_star}, Firing.{fire_once, fired, settled}, Messages.{Message, entry}, Querier.each_in_turn, State.{State, my_address}, Tables.{Table, ascending, change_row, changed_entry, has_row, row_at}, Timers.{Ending, ending}, Unicast.rp_of, Upstream.{groups_of, join_prune_to, join_star_to, join_timer_due, periodic_end, pruned_with_star}, Writing.{on_link, write_all}}}
use Rattle.law_settled.{proofs.TurnLaws.kept_to_the_end}
use Rattle.law_events.{specs.Locality.{IsQuiet, own_settled, own_upstream, touched_clear, touched_registers, touched_to_clear, touching}, proofs.EventLaws.firing_is_local}
use Rattle.law_streams.{specs.Joins.{SourceJoinIsRepeated, StarJoinIsRepeated, join_packet, join_to}, proofs.{Leaves.{all_there, ends_configured, told_configured}, Taken.still_configured}}

-- a row that is replaced
replaced_row : {R : Type 0} (k : Key) (r : R) (t : Table R) → has_row t k ≡ true → row_at (change_row (λ old. Some r) k t) k ≡ Some r
unfolding has_row row_at change_row changed_entry
replaced_row k r [] e = cc e
replaced_row {R = R} k r (x ∷ xs) e = grind (arith, replaced_row k r xs)

module _ (w : ℕ) (s : State) (key : Key) (now : ℕ) where
  abbrev opened : State
  opened = record s { present = now }

  abbrev e : Ending
  e = ending TimerKind.Join key now

  abbrev c : State × List Message
  c = join_timer_due opened key

  -- ---- the timer

  cleared_timers : (t : State) (x : Cleared) → ((cleared t x).0).join_timers ≡ t.join_timers
  unfolding cleared assert_forgotten without_spt_bit
  cleared_timers t x = grind arith

  abbrev after : State
  after = (touched_clear (touching []) s (touched_registers (touching []) c.0)).0

  after_timers : (after).join_timers ≡ (c.0).join_timers
  unfolding touched_clear touched_registers
  after_timers =
      kept_to_the_end (touched_to_clear (touching []) s) cleared (λ t. t.join_timers ≡ (c.0).join_timers)
      (λ t x f there. cleared_timers t x ∙ f) (clearable_count (touched_registers (touching []) c.0))
      (touched_registers (touching []) c.0) refl

  own_timers : ((own_settled [] s c w).0).join_timers ≡ (after).join_timers
  unfolding own_settled own_upstream groups_of ascending each_in_turn write_all
  own_timers = refl

  module _ (quiet : IsQuiet s) where
    fires : fire_once w s e ≡ own_settled [] s c w
    unfolding fired
    fires = firing_is_local s quiet w e refl

    runs_on : has_row s.join_timers key ≡ true → row_at ((fire_once w s e).0).join_timers key ≡ Some (record { end = periodic_end opened })
    unfolding join_timer_due
    runs_on there =
        ap (λ p. row_at (p.0).join_timers key) fires
        ∙ (ap (λ t. row_at t key) (own_timers ∙ after_timers)
        ∙ replaced_row key (record { end = periodic_end opened }) s.join_timers there)

  -- ---- the message

  module _ (g : ℕ) (hop : Hop) (joined prunes : List Entry)
      (says : c.1 ≡ Message.JoinPrune hop.iface.number hop.address.bits g joined prunes ∷ []) where
    due_configured : (c.0).configured ≡ s.configured
    unfolding join_timer_due
    due_configured = refl

    is_sent : Contains (fire_once w s e).1
        (on_link hop.iface.number (pim_packet_text 1 (my_address opened hop.iface.number) all_pim_routers
        (join_prune_text hop.address.bits g joined prunes)))
    unfolding fire_once fired settled write_all
    is_sent =
        grind (arith, all_there, told_configured, ends_configured, still_configured, due_configured, Contains-append_left)

star_says : (s : State) (g rp : ℕ) (hop : Hop) → rp_of s g ≡ Some rp → rpf_star s g ≡ Some hop
    → (join_timer_due s (star_key 0 g)).1
    ≡ Message.JoinPrune hop.iface.number hop.address.bits g (entry EntryKind.Star rp ∷ []) (pruned_with_star s g) ∷ []
unfolding join_timer_due join_star_to join_prune_to
star_says s g rp hop known up = rw (known, up) refl

source_says : (s : State) (g src : ℕ) (hop : Hop) → rpf_source s g src ≡ Some hop
    → (join_timer_due s (source_key 0 g src)).1
    ≡ Message.JoinPrune hop.iface.number hop.address.bits g (entry EntryKind.Source src ∷ []) [] ∷ []
unfolding join_timer_due join_prune_to
source_says s g src hop up = rw up refl

pub star_join_is_repeated : StarJoinIsRepeated
unfolding join_to join_packet
star_join_is_repeated w s g rp now hop quiet there known up = grind (arith, is_sent, star_says, runs_on)

pub source_join_is_repeated : SourceJoinIsRepeated
unfolding join_to join_packet
source_join_is_repeated w s g src now hop quiet there up = grind (arith, is_sent, source_says, runs_on)
