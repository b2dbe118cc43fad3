-- What an event adds to the past: who has asked goes on to ask, and a Join/Prune or a report asks anew.
use Rattle.std.{proofs.{Common.{◌≡◌, ◌∙◌, ℕ, ◌+◌, ◌*◌, nat_lt, ◌==◌, Bool, true, false, not, cond, ◌||◌, List, [], ◌∷◌, filter, map, Option, Some, None, refl, sym, ap, subst, eq-eqb, arith}, lemmas.Bool.{or_left, or_right}}, specs.List.{AllByRecursion, list_any}}
use Rattle.pim_ip.{specs.declared.addr.Addr.Addr}
use Rattle.pim_types.{specs.{Keys.{iface_in, same_key, source_key, star_key}, declared.{config.IfaceId.IfaceId, fact.Key.Key}}, proofs.Keys.equal_keys}
use Rattle.pim_wire.{specs.Values.JoinPrune}
use Rattle.igmp_wire.{specs.Values.Record}
use Rattle.pim_model.{specs.{declared.accepted.Accepted.Accepted, Cause.{Happened, Passed, Past, asks_for, done_as, has_cause, is_down_of, is_join_for, is_record_for, is_report_for}, Downstream.{Named, accepted_joins, holdtime_end, holdtime_end_from, holdtime_forever, is_named, joined_keys, named_key}, Querier.{group_membership_interval, is_skipped}}}
use Rattle.law_settled.{proofs.{ListLaws.{each_more, each_passing, either}, Downstream.named_on}}
use Rattle.law_streams.{proofs.{CausesAsks.{KeyAsked, MoreOn, Throughout}, CausesReports.Asks}}

-- (S,G) on the interface has a cause, beyond now
abbrev pub CausedBy : Past → ℕ → ℕ → ℕ → ℕ → Type 0
CausedBy past i g src now = has_cause past now i g src ≡ true

is_named_on : (i : ℕ) (k : Key) (ns : List Named) → is_named (map (named_key i) ns) k ≡ true → iface_in k ≡ i
unfolding is_named
is_named_on i k [] e = cc
is_named_on i k (n ∷ ns) e =
    either (same_key k (named_key i n)) (is_named (map (named_key i) ns) k)
    (λ same. ap (λ (q : Key). iface_in q) (equal_keys k (named_key i n) same)
    ∙ named_on i (n.1).address.bits n.0 (n.1).kind) (is_named_on i k ns) e

-- an end that is never, or at a timestamp
ends_so : (P : ℕ → Type 0) (b : Bool) (end : ℕ) → ((now : ℕ) → (b || nat_lt now end) ≡ true → P now)
    → Throughout P (cond b None (Some end))
ends_so P b end f = grind arith

module _ (past : Past) (h : Happened) where
  pub goes_on : (i : ℕ) → is_down_of i (done_as h) ≡ false → MoreOn (CausedBy past) (CausedBy (Passed.Happening h ∷ past)) i
  unfolding has_cause
  goes_on i up g src now e = or_right (asks_for now i g src h.before (done_as h)) _ (rw (up, e) refl)

  asks_now : (i g src now : ℕ) → asks_for now i g src h.before (done_as h) ≡ true → CausedBy (Passed.Happening h ∷ past) i g src now
  unfolding has_cause
  asks_now i g src now e = or_left (asks_for now i g src h.before (done_as h)) _ e

  -- ---- a Join/Prune to the router

  module _ (i : IfaceId) (m : JoinPrune) (was : done_as h ≡ Some (Accepted.JoinPruneToMe i m)) where
    abbrev keys : List Key
    keys = joined_keys h.before i.number m

    abbrev lasts : ℕ → Bool
    lasts now = (m.holdtime == holdtime_forever) || nat_lt now (h.before.present + 1000 * m.holdtime)

    join_asks : (g src now : ℕ)
        → (is_named keys (star_key i.number g) || is_named keys (source_key i.number g src)) ≡ true → lasts now ≡ true
        → CausedBy (Passed.Happening h ∷ past) i.number g src now
    unfolding asks_for is_join_for
    join_asks g src now named on = grind (arith, asks_now, eq-eqb)

    abbrev key_on : Addr → Option Addr → Key
    key_on group source = record { iface = i; group = group; source = source; rpt = false }

    key_asks : (group : Addr) (source : Option Addr) → is_named keys (key_on group source) ≡ true → (now : ℕ)
        → lasts now ≡ true → KeyAsked (CausedBy (Passed.Happening h ∷ past)) (key_on group source) now
    key_asks group source named now on = grind (arith, join_asks, or_left, or_right)

    pub join_new : (k : Key) → is_named keys k ≡ true → k.rpt ≡ false
        → Throughout (KeyAsked (CausedBy (Passed.Happening h ∷ past)) k) (holdtime_end h.before m.holdtime)
    unfolding holdtime_end_from joined_keys
    join_new k named not_rpt =
        let iface : iface_in k ≡ i.number = is_named_on i.number k (accepted_joins h.before m) named in
        let same : k ≡ key_on k.group k.source =
        λ j. record { iface = record { number = iface j }; group = k.group; source = k.source; rpt = not_rpt j } in
        ends_so (KeyAsked (CausedBy (Passed.Happening h ∷ past)) k) (m.holdtime == holdtime_forever) _
        (λ now on. subst (λ (q : Key). KeyAsked (CausedBy (Passed.Happening h ∷ past)) q now) (sym same)
        (key_asks k.group k.source (subst (λ (q : Key). is_named keys q ≡ true) same named) now on))

  -- ---- a report

  module _ (i : IfaceId) (records : List Record) (was : done_as h ≡ Some (Accepted.Report i records)) where
    abbrev full : ℕ
    full = h.before.present + group_membership_interval h.before i.number

    report_asks : (g src now : ℕ) → list_any (is_record_for g src) records ≡ true → nat_lt now full ≡ true
        → CausedBy (Passed.Happening h ∷ past) i.number g src now
    unfolding asks_for is_report_for
    report_asks g src now some on = grind (arith, asks_now, eq-eqb)

    -- what one record passes some of the records pass
    Among : Record → Type 0
    Among r = (q : Record → Bool) → q r ≡ true → list_any q records ≡ true

    all_among : (rs : List Record) → ((q : Record → Bool) → list_any q rs ≡ true → list_any q records ≡ true)
        → AllByRecursion Among rs
    unfolding Among
    all_among [] f = tt
    all_among (r ∷ rs) f = (λ q e. f q (or_left _ _ e), all_among rs (λ q e. f q (or_right _ _ e)))

    abbrev is_kept : Record → Bool
    is_kept r = not (is_skipped r)

    record_asks : (r : Record) → Among r × (is_kept r ≡ true) → Asks (CausedBy (Passed.Happening h ∷ past)) h.before i.number r
    unfolding Among is_record_for
    record_asks r f = grind (arith, or_left, or_right, eq-eqb, report_asks)

    pub report_new : AllByRecursion (Asks (CausedBy (Passed.Happening h ∷ past)) h.before i.number) (filter is_kept records)
    report_new =
        each_more (λ r. Among r × (is_kept r ≡ true)) (Asks (CausedBy (Passed.Happening h ∷ past)) h.before i.number) record_asks
        (filter is_kept records) (each_passing Among is_kept records (all_among records (λ q e. e)))
