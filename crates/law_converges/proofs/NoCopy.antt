-- A packet leaves on no interface that isn't on its list; and what the facts that it renews leave alone.
use Rattle.std.{proofs.Common.{◌≡◌, ◌∙◌, ℕ, ◌==◌, Bool, true, false, List, Some, refl, sym, ap, subst, arith, eqb-true}, specs.List.{AllByRecursion, Contains}}
use Rattle.pim_ip.{specs.Ipv4.Packet}
use Rattle.pim_types.{specs.declared.{config.{IfaceId.IfaceId, Route.Route, RpTable.RpTable}, event.Event.Event, fact.{AssertRow.AssertRow, DownstreamRow.DownstreamRow, GroupRecordRow.GroupRecordRow, InterfaceRow.InterfaceRow, NeighbourRow.NeighbourRow, SourceRecordRow.SourceRecordRow}, outcome.Emission.Emission}}
use Rattle.pim_model.{specs.{declared.accepted.Accepted.Accepted, Asserts.with_spt_bit, Cause.{copies_in, done_as}, Forwarding.{Forwarded, source_here, source_joined, spt_updated}, Registers.{settle_register, with_keepalive}, State.{Addressing, State}, Step.{Answered, change, done, outcome_of, packet_forwarded}, Tables.Table, Writing.on_link}}
use Rattle.law_settled.{proofs.ListLaws.{each_map, each_more}}
use Rattle.law_streams.{specs.{Copies.{copies_at, happens}, Joins.is_time, Served.renewed}, proofs.{Leaves.taken_is_done, Links.{each_contained, on_each}, Made.{Configured, Made, packet_made, step_taken}}}

-- ---- no copy on an interface that isn't on the list

link_number : Emission → ℕ
link_number (Emission.Link i bytes) = i.number
link_number (Emission.Unicast to bytes) = 0

not_there : (j : ℕ) (text other : List ℕ) (links : List ℕ) → AllByRecursion (λ x. (x == j) ≡ false) links
    → Contains (on_each text links) (on_link j other) → ⊥
unfolding link_number
not_there j text other links f c =
    let found : (j == j) ≡ false =
    each_contained (λ (y : Emission). (link_number y == j) ≡ false) (on_each text links) (on_link j other)
    (each_map (λ x. (x == j) ≡ false) (λ (y : Emission). (link_number y == j) ≡ false) (λ x. on_link x text) (λ x e. e) links f) c in
    apart (j == j) found (grind arith)
  where
    apart : (b : Bool) → b ≡ false → b ≡ true → ⊥
    apart b e f = cc (sym e ∙ f)

module _ (s : State) (e : Event) (a : Accepted) (p : Packet) (f : Forwarded) (j : ℕ) (was : done_as (happens s e) ≡ Some a)
    (timeless : is_time a ≡ false) (goes : change s e.draw a ≡ packet_forwarded p f) (same : Configured s f.state) where
  other : f.list j ≡ false → (x : ℕ) → f.list x ≡ true → (x == j) ≡ false
  other off x on = go (x == j) refl
    where
      contradicts : (b : Bool) → b ≡ true → b ≡ false → ⊥
      contradicts b e f = cc (sym e ∙ f)

      go : (b : Bool) → (x == j) ≡ b → b ≡ false
      go false same = refl
      go true same = absurd (contradicts (f.list j) (ap f.list (sym (eqb-true x j same)) ∙ on) off)

  -- an event sends no copy of a packet on an interface that isn't on the packet's list
  pub no_copy : f.list j ≡ false → (text : List ℕ) → Contains (copies_at s e) (on_link j text) → ⊥
  no_copy off text c =
      let at : IfaceId = record { number = j } in
      let made : Made s (Some (Accepted.Data at p)) (done s e.draw (packet_forwarded p f)) =
      packet_made s e.draw (Some (Accepted.Data at p)) p refl f same
      (λ links all. each_more (λ x. f.list x ≡ true) (λ x. (x == j) ≡ false) (other off) links all) in
      not_there j made.text text made.links made.not_back
      (subst (λ (es : List Emission). Contains es (on_link j text))
      (ap (λ (z : Answered). copies_in (outcome_of z))
      (step_taken s e a was ∙ (taken_is_done s e.draw a timeless ∙ ap (done s e.draw) goes)) ∙ made.copies) c)

-- ---- what a packet's facts leave

pub record Kept : Type 0 where
  pub configured : Addressing
  pub interfaces : Table InterfaceRow
  pub routes : List Route
  pub ranges : RpTable
  pub neighbours : Table NeighbourRow
  pub asserts : Table AssertRow
  pub downstream : Table DownstreamRow
  pub group_records : Table GroupRecordRow
  pub source_records : Table SourceRecordRow

abbrev pub kept : State → Kept
kept s = record {
  configured = s.configured;
  interfaces = s.interfaces;
  routes = s.routes;
  ranges = s.ranges;
  neighbours = s.neighbours;
  asserts = s.asserts;
  downstream = s.downstream;
  group_records = s.group_records;
  source_records = s.source_records;
}

here_kept : (s : State) (g src iif : ℕ) → kept (source_here s g src iif) ≡ kept s
unfolding source_here settle_register with_keepalive
here_kept s g src iif = grind arith

joined_kept : (s : State) (g src iif : ℕ) → kept (source_joined s g src iif) ≡ kept s
unfolding source_joined with_keepalive
joined_kept s g src iif = grind arith

updated_kept : (s : State) (g src iif : ℕ) → kept (spt_updated s g src iif) ≡ kept s
unfolding spt_updated with_spt_bit
updated_kept s g src iif = grind arith

pub renewed_kept : (s : State) (g src iif : ℕ) → kept (renewed s g src iif) ≡ kept s
unfolding renewed
renewed_kept s g src iif =
    updated_kept (source_joined (source_here s g src iif) g src iif) g src iif
    ∙ (joined_kept (source_here s g src iif) g src iif ∙ here_kept s g src iif)

module _ (s : State) where
  abbrev pub with_kept : Kept → State
  with_kept k = record s {
    configured = k.configured;
    interfaces = k.interfaces;
    routes = k.routes;
    ranges = k.ranges;
    neighbours = k.neighbours;
    asserts = k.asserts;
    downstream = k.downstream;
    group_records = k.group_records;
    source_records = k.source_records;
  }
