-- A host's membership: only reports and time change whether it asks.
use Rattle.std.{proofs.Common.{◌≡◌, ◌∙◌, ℕ, ◌==◌, Bool, true, false, cond, List, [], ◌∷◌, map, Option, is_some, is_none, refl, ap, arith}, specs.Option.option_map_or}
use Rattle.pim_ip.{specs.Ipv4.Packet}
use Rattle.pim_types.{specs.{Keys.{is_on, source_key, star_key}, declared.fact.{GroupRecordRow.GroupRecordRow, Key.Key, SourceRecordRow.SourceRecordRow}}}
use Rattle.pim_wire.{specs.Values.{Encapsulated, Null}}
use Rattle.igmp_wire.{specs.Values.Query as QueryValue}
use Rattle.pim_model.{specs.{declared.accepted.Accepted.Accepted, Asserts.{data_seen, wins}, Downstream.{keys_taken, to_me}, Firing.settled, Forwarding.{forwarded, list_chosen, register_at_rp, register_received, stray, watched}, Messages.Message, Querier.{lower_group, lower_queried, lower_sources, lowered, querier_elected, querier_up, query_seen, querying}, Receivers.{is_exclude, is_exclude_among, local_receiver_exclude, local_receiver_exclude_among}, Registers.with_keepalive, State.State, Step.{change, iface_down, iface_up, rps_replaced}, Tables.{Table, row_at}}}
use Rattle.law_settled.{proofs.{ListLaws.by_cond, RowLaws.row_kept}}
use Rattle.law_streams.{specs.Passing.asks, proofs.{Same.{Rows, Same, assert_same, here_same, hello_same, joined_same, register_stop_same, seen_same, settled_same, spt_same}, Climbs.swapped, Changes.IsNotDown}}

-- ---- a table in which rows change and keep what a bit says of them

module _ {R : Type 0} (bit : R → Bool) (f : Key × R → Key × R) (keys : (e : Key × R) → (f e).0 ≡ e.0)
    (same : (e : Key × R) → bit (f e).1 ≡ bit e.1) (k : Key) where
  pub mapped_same : (t : Table R) → option_map_or bit (row_at (map f t) k) false ≡ option_map_or bit (row_at t k) false
  unfolding row_at
  mapped_same [] = refl
  mapped_same (x ∷ xs) = grind (arith, mapped_same xs)

-- ---- the two bits

abbrev pub runs : GroupRecordRow → Bool
runs r = is_some r.end

abbrev pub excludes : SourceRecordRow → Bool
excludes r = is_none r.end

module _ (g src i : ℕ) where
  pub record SameBits (s t : State) : Type 0 where
    pub group : option_map_or runs (row_at t.group_records (star_key i g)) false ≡ option_map_or runs (row_at s.group_records (star_key i g)) false
    pub source : option_map_or excludes (row_at t.source_records (source_key i g src)) false
        ≡ option_map_or excludes (row_at s.source_records (source_key i g src)) false

  pub by_rows : (s t : State) → Same s t → SameBits s t
  by_rows s t e = record {
    group = ap (λ (r : Rows). option_map_or runs (row_at r.groups (star_key i g)) false) e;
    source = ap (λ (r : Rows). option_map_or excludes (row_at r.sources (source_key i g src)) false) e;
  }

  pub asks_so : (s t : State) → SameBits s t → asks s g src i ≡ true → asks t g src i ≡ true
  unfolding is_exclude is_exclude_among local_receiver_exclude local_receiver_exclude_among
  asks_so s t f e = rw (f.group, f.source) e

  -- ---- queries lower ends

  lowered_runs : (end : ℕ) (o : Option ℕ) → is_some (lowered end o) ≡ is_some o
  lowered_runs end o = grind arith

  lowered_excludes : (end : ℕ) (o : Option ℕ) → is_none (lowered end o) ≡ is_none o
  lowered_excludes end o = grind arith

  pub group_lowered : (s : State) (j h end : ℕ) → SameBits s (lower_group s j h end)
  unfolding lower_group
  group_lowered s j h end = record {
    group =
        mapped_same runs _ (λ e. by_cond (λ (p : Key × GroupRecordRow). p.0 ≡ e.0) _ _ _ refl refl)
        (λ e. by_cond (λ (p : Key × GroupRecordRow). runs p.1 ≡ runs e.1) _ _ _ (lowered_runs end (e.1).end) refl)
        (star_key i g) s.group_records;
    source = refl;
  }

  pub sources_lowered : (s : State) (j h : ℕ) (sources : List ℕ) (end : ℕ) → SameBits s (lower_sources s j h sources end)
  unfolding lower_sources
  sources_lowered s j h sources end = record {
    group = refl;
    source =
        mapped_same excludes _ (λ e. by_cond (λ (p : Key × SourceRecordRow). p.0 ≡ e.0) _ _ _ refl refl)
        (λ e. by_cond (λ (p : Key × SourceRecordRow). excludes p.1 ≡ excludes e.1) _ _ _ (lowered_excludes end (e.1).end) refl)
        (source_key i g src) s.source_records;
  }

  pub same_bits : (s : State) → SameBits s s
  same_bits s = record { group = refl; source = refl }

  queried : (s : State) (j : ℕ) (q : QueryValue) → SameBits s (lower_queried s j q)
  unfolding lower_queried
  queried s j q =
      by_cond (SameBits s) _ _ _ (same_bits s)
      (by_cond (SameBits s) _ _ _ (group_lowered s j q.group _) (sources_lowered s j q.group q.sources _))

  elected : (s : State) (b : Bool) (j qrv qqi : ℕ) → SameBits s (cond b (querier_elected s j qrv qqi) s)
  unfolding querier_elected
  elected s true j qrv qqi = record { group = refl; source = refl }
  elected s false j qrv qqi = record { group = refl; source = refl }

  pub bits_again : (s t u : State) → SameBits s t → SameBits t u → SameBits s u
  bits_again s t u f h = record { group = h.group ∙ f.group; source = h.source ∙ f.source }

  query_bits : (s : State) (j from : ℕ) (q : QueryValue) → SameBits s (query_seen s j from q)
  unfolding query_seen
  query_bits s j from q = bits_again s _ _ (elected s _ j q.robustness _) (queried _ j q)

  -- ---- data and Registers

  chosen_same : (s : State) (h x iif : ℕ) → Same s (list_chosen s h x iif).state
  unfolding list_chosen stray watched with_keepalive data_seen wins
  chosen_same s h x iif = grind arith

  data_same : (s : State) (h x iif : ℕ) → Same s (forwarded s h x iif).state
  unfolding forwarded
  data_same s h x iif = grind (arith, chosen_same, spt_same, joined_same, here_same)

  register_same : (s : State) (p : Packet) (h x : ℕ) (is_null : Bool) → Same s (register_received s p h x is_null).state
  unfolding register_received register_at_rp with_keepalive
  register_same s p h x is_null = grind arith

  down_bits : (s : State) (j : ℕ) → (j == i) ≡ false → SameBits s (iface_down s j)
  unfolding iface_down
  down_bits s j off = record {
    group = ap (λ o. option_map_or runs o false) (row_kept (is_on j) (star_key i g) (swapped j i off) s.group_records);
    source = ap (λ o. option_map_or excludes o false) (row_kept (is_on j) (source_key i g src) (swapped j i off) s.source_records);
  }

-- ---- any event but a report, and time

abbrev pub IsNoReport : Accepted → Type 0
IsNoReport (Accepted.Advance moment) = ⊥
IsNoReport (Accepted.Report i records) = ⊥
IsNoReport a = Unit {0}

still_bits : (s : State) (w : ℕ) (a : Accepted) (g src i : ℕ) → IsNoReport a → IsNotDown i a → SameBits g src i s (change s w a).state
unfolding change iface_up querier_up querying rps_replaced to_me keys_taken
still_bits s w (Accepted.Advance moment) g src i quiet up = absurd quiet
still_bits s w (Accepted.Report j records) g src i quiet up = absurd quiet
still_bits s w (Accepted.Up j) g src i quiet up = record { group = refl; source = refl }
still_bits s w (Accepted.Down j) g src i quiet up = down_bits g src i s j.number up
still_bits s w (Accepted.Routes routes) g src i quiet up = record { group = refl; source = refl }
still_bits s w (Accepted.Rps ranges) g src i quiet up = record { group = refl; source = refl }
still_bits s w (Accepted.Hello j from h) g src i quiet up = by_rows g src i s _ (hello_same s j.number from.bits h w)
still_bits s w (Accepted.JoinPruneToMe j m) g src i quiet up = record { group = refl; source = refl }
still_bits s w (Accepted.JoinPruneSeen j m) g src i quiet up = by_rows g src i s _ (seen_same s w j.number m)
still_bits s w (Accepted.Assert j from a) g src i quiet up = by_rows g src i s _ (assert_same s j.number from.bits a)
still_bits s w (Accepted.Query j from q) g src i quiet up = query_bits g src i s j.number from.bits q
still_bits s w (Accepted.Data j p) g src i quiet up =
    by_rows g src i s _ (data_same g src i s p.destination p.source j.number)
still_bits s w (Accepted.Register p (Encapsulated inner)) g src i quiet up =
    by_rows g src i s _ (register_same g src i s p inner.destination inner.source false)
still_bits s w (Accepted.Register p (Null source group)) g src i quiet up =
    by_rows g src i s _ (register_same g src i s p group source true)
still_bits s w (Accepted.RegisterStop from r) g src i quiet up =
    by_rows g src i s _ (register_stop_same s w r.group.bits r.source.bits)

pub still_asks : (s : State) (w : ℕ) (a : Accepted) (g src i : ℕ) → IsNoReport a → IsNotDown i a → asks s g src i ≡ true
    → asks (change s w a).state g src i ≡ true
still_asks s w a g src i quiet up e = asks_so g src i s (change s w a).state (still_bits s w a g src i quiet up) e

pub settled_asks : (o : State) (c : State × List Message) (w g src i : ℕ) → asks c.0 g src i ≡ true
    → asks (settled o c w).0 g src i ≡ true
settled_asks o c w g src i e = asks_so g src i c.0 (settled o c w).0 (by_rows g src i c.0 (settled o c w).0 (settled_same o c w)) e
