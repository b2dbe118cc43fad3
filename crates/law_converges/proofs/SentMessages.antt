-- What is sent is messages of which something holds: of what the machines say upstream, by the cases of what they see; and of no other change
-- or timer but a Prune-Pending Timer and a Join Timer.
use Rattle.std.{proofs.{Common.{Bool, List, None, Option, Some, [], ap, arith, cond, false, filter, inl, inr, ltb-true, not, option_map, refl, suc, true, zero, ℕ, ◌++◌, ◌∷◌, ◌≡◌, ◌⊎◌}, lemmas.Bool.not-true}, specs.{List.AllByRecursion, Option.option_map_or, Prelude.{drop, take}}}
use Rattle.pim_ip.{specs.{Addr.addr, Ipv4.{Packet, copy_text}, declared.addr.Addr.Addr}}
use Rattle.pim_types.{specs.{Keys.{group_in, is_star, source_in}, declared.{event.Event.Event, fact.{AssertMetric.AssertMetric, Key.Key}, outcome.Emission.Emission, path.Hop.Hop, timer.TimerKind.TimerKind, upstream.{SourceView.SourceView, StarView.StarView, TreeState.TreeState}}}}
use Rattle.pim_wire.{specs.{Values.Encapsulated, declared.{assert.Assert.Assert as AssertMessage, join_prune.{Entry.Entry, EntryKind.EntryKind}}}}
use Rattle.igmp_wire.{specs.Values.Record}
use Rattle.pim_model.{specs.{Asserts.{assert_as_winner, assert_at, assert_due, assert_in_no_info, assert_message, assert_received, data_seen, wins, wins_again}, Cause.{Happened, done_as, packet_in}, Clearing.{Cleared, clear, clear_all, clearable_count, cleared, to_clear}, Desires.{rpf_rpt, rpf_source, rpf_star}, Downstream.{prune_echo, prune_pending_due}, Firing.{fire_row, fired, keepalive_due, settled}, Forwarding.{forwarded, list_chosen, register_at_rp, register_received, stray}, Hellos.hello_due, Messages.{Message, entry}, Querier.{each_in_turn, general_query_due, group_repeat_due, is_querier, is_skipped, most_sources, other_querier_gone, querier_up, queries_of, query_asked, query_group, query_sent, query_sources, record_seen, report_seen, send_sources, source_repeat_due, sources_sent}, Records.Asked, Registers.{register_due, settle_registers}, Repeat.{after_next, and_then, until_none}, State.{InterfaceTable, State, interfaces_of}, Step.{Change, change, iface_up}, Tables.{is_empty_list, row_at, same_address, same_hop}, Unicast.rp_of, Upstream.{TimerChange, Told, group_upstream, if_neighbour, is_due_to_assert, join_prune_to, join_rpt_to, join_source_to, join_star_to, join_timer_due, nothing_told, override_timer_due, prune_rpt_to, prune_source_to, prune_star_to, pruned_with_star, rpt_told, rpt_told_from, source_stays, source_told, source_upstream, source_view, sources_of, star_stays, star_told, star_view, upstream}, Writing.{all_written, copies_of, emission_of, hello_emission, hello_paid, is_hello_owed, leaves, on_link, tunnel_of, with_owed_hello, write_all, written}, declared.accepted.Accepted.Accepted}}
use Rattle.law_settled.{proofs.ListLaws.{by_cond, each_append, each_map, each_more, each_of_all}}
use Rattle.law_streams.{proofs.Made.{IsRegister, registers_of}, specs.Copies.{IsLower, IsLowerInside, happens}}

-- ---- one after the other, and again and again

module _ {S A M : Type 0} (P : M → Type 0) (change : S → A → S × List M) (each : (s : S) (a : A) → AllByRecursion P (change s a).1) where
  all_in_turn : (xs : List A) (s : S) → AllByRecursion P (each_in_turn change s xs).1
  unfolding each_in_turn
  all_in_turn [] s = tt
  all_in_turn (x ∷ xs) s =
      each_append P (change s x).1 (each_in_turn change (change s x).0 xs).1 (each s x) (all_in_turn xs (change s x).0)

-- by what each turn keeps
module _ {S D E : Type 0} (P : E → Type 0) (next : S → Option D) (once : S → D → S × List E) (Kept : S → Type 0)
    (keeps : (s : S) (d : D) → Kept s → next s ≡ Some d → Kept (once s d).0)
    (each : (s : S) (d : D) → Kept s → next s ≡ Some d → AllByRecursion P (once s d).1) where
  each_turn : (later : S → S × List E) → ((t : S) → Kept t → AllByRecursion P (later t).1) → (s : S) (o : Option D) → next s ≡ o → Kept s
      → AllByRecursion P (after_next next once later s o).1
  unfolding after_next and_then
  each_turn later ih s None is f = tt
  each_turn later ih s (Some d) is f =
      each_append P (once s d).1 (later (once s d).0).1 (each s d f is) (ih (once s d).0 (keeps s d f is))

  pub each_until : (n : ℕ) (s : S) → Kept s → AllByRecursion P (until_none next once n s).1
  unfolding until_none
  each_until zero s f = tt
  each_until (suc n) s f = each_turn (λ t. until_none next once n t) (each_until n) s (next s) refl f

-- a Join/Prune to a neighbour
abbrev pub to_hop : Hop → ℕ → List Entry → List Entry → Message
to_hop hop g joins prunes = Message.JoinPrune hop.iface.number hop.address.bits g joins prunes

-- a message other than a Join/Prune
abbrev pub is_plain : Message → Bool
is_plain (Message.JoinPrune i u g joins prunes) = false
is_plain m = true

module _ (Good : Message → Type 0) (plain : (m : Message) → is_plain m ≡ true → Good m) where
  abbrev pub AllGood : List Message → Type 0
  AllGood messages = AllByRecursion Good messages

  -- ---- what is written

  pub record IsGood (x : Emission) : Type 0 where
    pub table : InterfaceTable
    pub message : Message
    pub is : x ≡ emission_of table message
    pub good : Good message

  abbrev AllSaid : List Emission → Type 0
  AllSaid xs = AllByRecursion IsGood xs

  a_message : (t : InterfaceTable) (m : Message) → Good m → IsGood (emission_of t m)
  a_message t m f = record { table = t; message = m; is = refl; good = f }

  a_hello : (t : InterfaceTable) (i : ℕ) → IsGood (hello_emission t i)
  unfolding emission_of
  a_hello t i = record { table = t; message = Message.Hello i; is = refl; good = plain (Message.Hello i) refl }

  with_hello : (t : InterfaceTable) (i : ℕ) (m : Message) → Good m → AllSaid (with_owed_hello t i (emission_of t m)).1
  unfolding with_owed_hello
  with_hello t i m f =
      by_cond (λ (p : InterfaceTable × List Emission). AllSaid p.1) (is_hello_owed t i)
      (hello_paid t i, hello_emission t i ∷ emission_of t m ∷ []) (t, emission_of t m ∷ [])
      (a_hello t i, (a_message t m f, tt)) (a_message t m f, tt)

  said : (t : InterfaceTable) (m : Message) → Good m → AllSaid (written t m).1
  unfolding written
  said t (Message.Hello i) f = (a_hello t i, tt)
  said t (Message.JoinPrune i u g j p) f = with_hello t i (Message.JoinPrune i u g j p) f
  said t (Message.Assert i g src m) f = with_hello t i (Message.Assert i g src m) f
  said t (Message.Query i q) f = (a_message t (Message.Query i q) f, tt)
  said t (Message.RegisterStop from to g src) f = (a_message t (Message.RegisterStop from to g src) f, tt)
  said t (Message.NullRegister from to source g) f = (a_message t (Message.NullRegister from to source g) f, tt)

  all_said : (ms : List Message) (t : InterfaceTable) → AllGood ms → AllSaid (each_in_turn written t ms).1
  unfolding each_in_turn
  all_said [] t f = tt
  all_said (m ∷ ms) t f =
      each_append IsGood (written t m).1 (each_in_turn written (written t m).0 ms).1 (said t m f.0) (all_said ms (written t m).0 f.1)

  one_cleared : (t : State) (c : Cleared) → AllGood (cleared t c).1
  unfolding cleared assert_message
  one_cleared t c = grind (arith, plain)

  clear_good : (o t : State) → AllGood (clear o t).1
  unfolding clear clear_all
  clear_good o t =
      each_until Good (to_clear o) cleared (λ u. Unit {0}) (λ u c k is. tt) (λ u c k is. one_cleared u c)
      (clearable_count (settle_registers t)) (settle_registers t) tt

  -- a change with what follows from it
  pub settled_says : (o : State) (c : State × List Message) (w : ℕ) → AllGood c.1 → AllGood (upstream o (clear o c.0).0 w).1
      → AllSaid (settled o c w).1
  unfolding settled write_all all_written
  settled_says o c w own told =
      let a : State × List Message = clear o c.0 in
      all_said (c.1 ++ (a).1 ++ (upstream o (a).0 w).1) (interfaces_of (upstream o (a).0 w).0)
      (each_append Good (c.1 ++ (a).1) (upstream o (a).0 w).1 (each_append Good c.1 (a).1 own (clear_good o c.0)) told)

  -- ---- an event's own messages

  assert_at_good : (t : State) (k : Key) (theirs : AssertMetric) → AllGood (assert_at t k theirs).1
  unfolding assert_at assert_in_no_info assert_as_winner wins wins_again assert_message
  assert_at_good t k theirs = grind (arith, plain)

  assert_good : (t : State) (i from : ℕ) (a : AssertMessage) → AllGood (assert_received t i from a).1
  unfolding assert_received
  assert_good t i from a = grind (arith, each_append, assert_at_good)

  queries_good : (message : List ℕ → Message) → ((xs : List ℕ) → Good (message xs)) → (n : ℕ) (xs : List ℕ) → AllGood (queries_of message n xs)
  unfolding queries_of
  queries_good message each zero xs = tt
  queries_good message each (suc n) xs = go (is_empty_list xs) (queries_good message each n (drop most_sources xs))
    where
      go : (b : Bool) → AllGood (queries_of message n (drop most_sources xs))
          → AllGood (elim b [
            | true ↦ []
            | false ↦ message (take most_sources xs) ∷ queries_of message n (drop most_sources xs)
          ])
      go true f = tt
      go false f = (each (take most_sources xs), f)

  sources_sent_good : (t : State) (i g : ℕ) → AllGood (sources_sent t i g).1
  unfolding sources_sent query_sent
  sources_sent_good t i g =
      each_append Good _ _ (queries_good _ (λ xs. plain _ refl) _ _) (queries_good _ (λ xs. plain _ refl) _ _)

  query_asked_good : (i g : ℕ) (t : State) (a : Asked) → AllGood (query_asked i g t a).1
  unfolding query_asked query_group query_sources send_sources query_sent
  query_asked_good i g t a = grind (arith, sources_sent_good, plain)

  record_good : (i : ℕ) (t : State) (r : Record) → AllGood (record_seen i t r).1
  unfolding record_seen
  record_good i t r =
      by_cond (λ (p : State × List Message). AllGood p.1) (is_querier t i) _ _
      (all_in_turn Good (query_asked i r.group) (query_asked_good i r.group) _ _) tt

  forwarded_good : (t : State) (g src iif : ℕ) → AllGood (forwarded t g src iif).messages
  unfolding forwarded list_chosen stray data_seen wins assert_message
  forwarded_good t g src iif = grind (arith, plain)

  pub change_good : (t : State) (w : ℕ) (a : Accepted) → AllGood (change t w a).messages
  unfolding change iface_up querier_up query_sent report_seen register_received register_at_rp
  change_good t w (Accepted.Assert i from a) = assert_good t i.number from.bits a
  change_good t w (Accepted.Report i records) =
      all_in_turn Good (record_seen i.number) (record_good i.number) (filter (λ r. not (is_skipped r)) records) t
  change_good t w (Accepted.Data i p) = forwarded_good t p.destination p.source i.number
  change_good t w a = grind (arith, plain)

  row_sends : {R : Type 0} (t : State) (o : Option R) (fire : R → State × List Message) → ((r : R) → AllGood (fire r).1)
      → AllGood (option_map_or fire o (t, [])).1
  row_sends t o fire f = grind arith

  pending_good : (rpt : Bool) (t u : State) (messages : List Message) → AllGood messages
      → AllGood (let p : State × List Message = cond rpt (t, []) (u, messages) in p).1
  pending_good rpt t u messages f = grind arith

  -- ---- upstream

  record Sends (x : Told) : Type 0 where
    good : AllGood x.messages

  sends : (timer : TimerChange) (messages : List Message) → AllGood messages → Sends (record { timer = timer; messages = messages })
  sends timer messages f = record { good = f }

  both_sent : (timer : TimerChange) (xs ys : List Message) → AllGood xs → AllGood ys → Sends (record { timer = timer; messages = xs ++ ys })
  both_sent timer xs ys f g = record { good = each_append Good xs ys f g }

  silent_sent : (timer : TimerChange) → Sends (record { timer = timer; messages = [] })
  silent_sent timer = record { good = tt }

  none_sent : Sends nothing_told
  none_sent = record { good = tt }

  by_so : (b : Bool) (x y : Told) → (b ≡ true → Sends x) → (b ≡ false → Sends y) → Sends (cond b x y)
  by_so b x y f g = grind arith

  to_good : (hop : Option Hop) (g : ℕ) (joins prunes : List Entry) → ((h : Hop) → hop ≡ Some h → Good (to_hop h g joins prunes))
      → AllGood (join_prune_to hop g joins prunes)
  unfolding join_prune_to
  to_good None g joins prunes f = tt
  to_good (Some hop) g joins prunes f = (f hop refl, tt)

  to_neighbour : (t : State) (hop : Option Hop) (g : ℕ) (prunes : List Entry) → ((h : Hop) → hop ≡ Some h → Good (to_hop h g [] prunes))
      → AllGood (join_prune_to (if_neighbour t hop) g [] prunes)
  unfolding join_prune_to if_neighbour
  to_neighbour t hop g prunes f = grind arith

  star_join : (t : State) (rp : Option Addr) (hop : Option Hop) (g : ℕ)
      → ((r : Addr) (h : Hop) → rp ≡ Some r → hop ≡ Some h → Good (to_hop h g (entry EntryKind.Star r.bits ∷ []) (pruned_with_star t g)))
      → AllGood (join_star_to t rp hop g)
  unfolding join_star_to
  star_join t None hop g f = tt
  star_join t (Some r) hop g f = to_good hop g (entry EntryKind.Star r.bits ∷ []) (pruned_with_star t g) (λ h up. f r h refl up)

  -- the machine of (*,G), by what it sees
  module _ (a : State) (w g : ℕ) (old new : StarView)
      (joins : (rp : Addr) (h : Hop) → new.is_desired ≡ true → new.rp ≡ Some rp → new.upstream ≡ Some h
      → Good (to_hop h g (entry EntryKind.Star rp.bits ∷ []) (pruned_with_star a g)))
      (prunes : (rp : Addr) (h : Hop) → old.is_desired ≡ true → old.upstream ≡ Some h
      → (new.is_desired ≡ false) ⊎ (same_hop old.upstream new.upstream ≡ false) → Good (to_hop h g [] (entry EntryKind.Star rp.bits ∷ []))) where
    star_joins : new.is_desired ≡ true → AllGood (join_star_to a new.rp new.upstream g)
    star_joins on = star_join a new.rp new.upstream g (λ rp h is up. joins rp h on is up)

    star_prune : (rp : Option Addr) → old.is_desired ≡ true → (new.is_desired ≡ false) ⊎ (same_hop old.upstream new.upstream ≡ false)
        → AllGood (prune_star_to a rp old.upstream g)
    unfolding prune_star_to
    star_prune None was gone = tt
    star_prune (Some rp) was gone = to_neighbour a old.upstream g _ (λ h up. prunes rp h was up gone)

    no_rp : (none : Bool) (rp : Option Addr) → old.is_desired ≡ true → new.is_desired ≡ false
        → AllGood (cond none [] (prune_star_to a rp old.upstream g))
    no_rp none rp was off = by_cond AllGood none [] _ tt (star_prune rp was (inl off))

    stays_good : new.is_desired ≡ true → old.is_desired ≡ true → Sends (star_stays a w g old new)
    unfolding star_stays
    stays_good on was =
        by_so (not (same_hop old.upstream new.upstream)) _ _
        (λ off. by_so (is_due_to_assert old.iface new.iface old.next_hop new.next_hop) _ _ (λ due. silent_sent _)
        (λ moved. both_sent _ _ _ (star_joins on) (star_prune new.rp was (inr (not-true _ off)))))
        (λ same. by_so (same_address old.rp new.rp) _ _ (λ rp. none_sent) (λ other. sends _ _ (star_joins on)))

    pub star_good : AllGood (star_told a w g old new).messages
    unfolding star_told
    star_good = grind (arith, stays_good, star_joins, no_rp)

  -- the machine of (S,G)
  module _ (a : State) (w g src : ℕ) (old new : SourceView)
      (joins : (h : Hop) → new.is_desired ≡ true → new.upstream ≡ Some h → Good (to_hop h g (entry EntryKind.Source src ∷ []) []))
      (prunes : (h : Hop) → old.is_desired ≡ true → old.upstream ≡ Some h
      → (new.is_desired ≡ false) ⊎ (same_hop old.upstream new.upstream ≡ false) → Good (to_hop h g [] (entry EntryKind.Source src ∷ []))) where
    source_join : new.is_desired ≡ true → AllGood (join_source_to new.upstream g src)
    source_join on = to_good new.upstream g _ _ (λ h up. joins h on up)

    source_prune : old.is_desired ≡ true → (new.is_desired ≡ false) ⊎ (same_hop old.upstream new.upstream ≡ false)
        → AllGood (prune_source_to a old.upstream g src)
    source_prune was gone = to_neighbour a old.upstream g _ (λ h up. prunes h was up gone)

    source_stays_good : new.is_desired ≡ true → old.is_desired ≡ true → Sends (source_stays a w g src old new)
    unfolding source_stays
    source_stays_good on was =
        by_so (same_hop old.upstream new.upstream) _ _ (λ same. none_sent)
        (λ off. by_so (is_due_to_assert old.iface new.iface old.next_hop new.next_hop) _ _ (λ due. silent_sent _)
        (λ moved. both_sent _ _ _ (source_join on) (source_prune was (inr off))))

    pub source_good : AllGood (source_told a w g src old new).messages
    unfolding source_told
    source_good = grind (arith, source_stays_good, source_join, source_prune)

  -- the machine of (S,G,rpt)
  module _ (rpt_joins : (h : Hop) (g src : ℕ) → Good (to_hop h g (entry EntryKind.SourceRpt src ∷ []) []))
      (rpt_prunes : (h : Hop) (g src : ℕ) → Good (to_hop h g [] (entry EntryKind.SourceRpt src ∷ []))) where
    rpt_join : (hop : Option Hop) (g src : ℕ) → AllGood (join_rpt_to hop g src)
    rpt_join hop g src = to_good hop g _ _ (λ h up. rpt_joins h g src)

    rpt_prune : (hop : Option Hop) (g src : ℕ) → AllGood (prune_rpt_to hop g src)
    rpt_prune hop g src = to_good hop g _ _ (λ h up. rpt_prunes h g src)

    either_sends : (b : Bool) (x y : Told) → Sends x → Sends y → Sends (cond b x y)
    either_sends b x y f g = by_cond Sends b x y f g

    rpt_good : (a : State) (w g src : ℕ) (old new : SourceView) (was is : TreeState) → Sends (rpt_told_from a w g src old new was is)
    unfolding rpt_told_from
    rpt_good a w g src old new was is = grind (arith, either_sends, sends, rpt_prune, rpt_join, silent_sent, none_sent)

    module _ (o a : State) (w : ℕ) (star : (g : ℕ) → AllGood (star_told a w g (star_view o g) (star_view a g)).messages)
        (source : (g src : ℕ) → AllGood (source_told a w g src (source_view o g src) (source_view a g src)).messages) where
      source_turn : (g : ℕ) (t : State) (src : ℕ) → AllGood (source_upstream o a w g t src).1
      unfolding source_upstream rpt_told
      source_turn g t src =
          each_append Good (source_told a w g src (source_view o g src) (source_view a g src)).messages
          (rpt_told a w g src (source_view o g src) (source_view a g src)).messages (source g src)
          (rpt_good a w g src (source_view o g src) (source_view a g src) _ _).good

      group_turn : (keys : List Key) (t : State) (g : ℕ) → AllGood (group_upstream o a w keys t g).1
      unfolding group_upstream
      group_turn keys t g =
          each_append Good (star_told a w g (star_view o g) (star_view a g)).messages _ (star g)
          (all_in_turn Good (source_upstream o a w g) (source_turn g) (sources_of g keys) _)

      pub upstream_good : AllGood (upstream o a w).1
      unfolding upstream
      upstream_good = all_in_turn Good (group_upstream o a w _) (group_turn _) _ a

    -- a timer's own messages
    pub fired_good : (u : State) (kind : TimerKind) (k : Key) → (kind ≡ TimerKind.Join → AllGood (join_timer_due u k).1)
        → (kind ≡ TimerKind.PrunePending → AllGood (prune_echo u k)) → AllGood (fired u kind k).1
    unfolding fired fire_row prune_pending_due assert_due wins_again assert_message keepalive_due register_due override_timer_due
        other_querier_gone group_repeat_due source_repeat_due general_query_due hello_due query_sent
    fired_good u TimerKind.Join k f echo = f refl
    fired_good u TimerKind.PrunePending k f echo = row_sends u (row_at u.downstream k) _ (λ r. pending_good k.rpt _ _ (prune_echo u k) (echo refl))
    fired_good u TimerKind.SourceRepeat k f echo = sources_sent_good u _ _
    fired_good u TimerKind.Override k f echo = rpt_join (rpf_rpt u (group_in k) (source_in k)) (group_in k) (source_in k)
    fired_good u kind k f echo = grind (arith, row_sends, plain)

  pub join_due_good : (u : State) (k : Key)
      → (is_star k ≡ true → (rp : Addr) (h : Hop) → option_map addr (rp_of u (group_in k)) ≡ Some rp → rpf_star u (group_in k) ≡ Some h
      → Good (to_hop h (group_in k) (entry EntryKind.Star rp.bits ∷ []) (pruned_with_star u (group_in k))))
      → (is_star k ≡ false → (h : Hop) → rpf_source u (group_in k) (source_in k) ≡ Some h
      → Good (to_hop h (group_in k) (entry EntryKind.Source (source_in k) ∷ []) [])) → AllGood (join_timer_due u k).1
  unfolding join_timer_due
  join_due_good u k star source =
      of_kind (is_star k) (λ e. star_join u _ _ (group_in k) (star e)) (λ e. to_good _ (group_in k) _ [] (source e))
    where
      of_kind : (b : Bool) → (b ≡ true → AllGood (join_star_to u (option_map addr (rp_of u (group_in k))) (rpf_star u (group_in k)) (group_in k)))
          → (b ≡ false → AllGood (join_source_to (rpf_source u (group_in k) (source_in k)) (group_in k) (source_in k)))
          → AllGood (cond b (join_star_to u (option_map addr (rp_of u (group_in k))) (rpf_star u (group_in k)) (group_in k))
          (join_source_to (rpf_source u (group_in k) (source_in k)) (group_in k) (source_in k)))
      of_kind true f h = f refl
      of_kind false f h = h refl

-- ---- what an event sends beside messages

module _ (s : State) (e : Event) where
  abbrev here : Happened
  here = happens s e

  abbrev pub Other : Emission → Type 0
  Other x = IsLower s e x ⊎ IsLowerInside s e x

  -- ---- of the packet that it brings

  module _ (p : Packet) (brought : packet_in (done_as here) ≡ Some p) where
    lower : leaves p ≡ true → (i : ℕ) → Other (on_link i (copy_text p))
    lower lives i =
        inl (record { link = i; packet = p; brought = brought; lives = ltb-true 1 p.time_to_live lives; is = refl })

    copied : (t : State) (list : ℕ → Bool) (b : Bool) → leaves p ≡ b → AllByRecursion Other (copies_of t p list)
    unfolding copies_of
    copied t list true lives =
        rw lives (each_map (λ i. Unit {0}) Other (λ i. on_link i (copy_text p)) (λ i u. lower lives i) _ (each_of_all (λ i. Unit {0}) (λ i. tt) _))
    copied t list false lives = rw lives tt

    lower_inside : (x : Emission) → IsRegister (done_as here) x → IsLowerInside s e x
    lower_inside x f = grind (arith, ltb-true)

    registered : (t : State) (to_tunnel : Bool) → AllByRecursion Other (tunnel_of t p to_tunnel)
    registered t to_tunnel =
        each_more (IsRegister (done_as here)) Other (λ x f. inr (lower_inside x f)) _ (registers_of s e.draw (done_as here) p brought t to_tunnel)

  pub record HasOthers (c : Change) : Type 0 where
    pub copies : AllByRecursion Other c.copies
    pub registered : AllByRecursion Other c.registered

  no_others : (a : Accepted) → (change s e.draw a).copies ≡ [] → (change s e.draw a).registered ≡ [] → HasOthers (change s e.draw a)
  no_others a f g = record { copies = rw f tt; registered = rw g tt }

  pub others : (a : Accepted) → done_as here ≡ Some a → HasOthers (change s e.draw a)
  unfolding change
  others (Accepted.Data i p) was =
      let brought : packet_in (done_as here) ≡ Some p = ap packet_in was in
      record { copies = copied p brought _ _ (leaves p) refl; registered = registered p brought _ _ }
  others (Accepted.Register p (Encapsulated inner)) was =
      let brought : packet_in (done_as here) ≡ Some inner = ap packet_in was in
      record { copies = copied inner brought _ _ (leaves inner) refl; registered = registered inner brought _ _ }
  others a was = grind (arith, no_others)
