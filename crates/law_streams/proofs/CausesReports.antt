-- A report, and a query: what they leave of IGMP's rows has a cause.
use Rattle.std.{proofs.Common.{◌≡◌, ◌∙◌, ℕ, ◌+◌, ◌==◌, not, cond, ◌||◌, List, [], ◌∷◌, filter, refl, sym, subst, arith}, specs.List.AllByRecursion}
use Rattle.pim_types.{specs.declared.{config.Settings.Settings, fact.QuerierRow.QuerierRow}}
use Rattle.igmp_wire.{specs.Values.{Query as QueryValue, Record}}
use Rattle.pim_model.{specs.{Querier.{each_in_turn, exceeds, group_membership_interval, is_querier, is_skipped, lower_group, lower_queried, lower_sources, querier_elected, query_asked, query_end, query_group, query_interval, query_seen, query_sources, record_seen, report_seen, robustness, send_sources, source_end, sources_sent}, Records.{AskGroup, AskSources, Asked, GroupRecord, apply_record, record_of, with_members, with_record, with_repeats_of_rows}, State.State, Tables.{Table, is_empty_list}, Messages.Message}}
use Rattle.law_settled.{proofs.{ListLaws.by_cond, TurnLaws.kept_in_turn}}
use Rattle.law_streams.{proofs.{CausesAsks.{IsAsked, RowsAsked}, Members.{AsksUntil, Whole, applied_asked, lower_group_asked, lower_sources_asked, record_asked, with_record_asked}, Same.rows_of}}

-- what the Group Membership Interval follows from
record Clock : Type 0 where
  present : ℕ
  settings : Settings
  queriers : Table QuerierRow

abbrev clock_of : State → Clock
clock_of s = record { present = s.present; settings = s.settings; queriers = s.queriers }

same_interval : (s t : State) (i : ℕ) → clock_of t ≡ clock_of s
    → t.present + group_membership_interval t i ≡ s.present + group_membership_interval s i
unfolding group_membership_interval robustness query_interval
same_interval s t i e = grind arith

-- what asks changes neither it nor, but for timers that it lowers, the rows
asked_clock : (i g : ℕ) (s : State) (a : Asked) → clock_of (query_asked i g s a).0 ≡ clock_of s
unfolding query_asked query_group lower_group query_sources lower_sources send_sources sources_sent
asked_clock i g s a = grind arith

sources_rows : (s : State) (i g : ℕ) (asked : List ℕ)
    → (let sources : List ℕ = filter (λ src. exceeds (query_end s i) (source_end s i g src)) asked in
    rows_of (query_sources s i g asked).0
    ≡ cond (is_empty_list sources) (rows_of s) (rows_of (lower_sources s i g sources (query_end s i))))
unfolding query_sources send_sources sources_sent lower_sources
sources_rows s i g asked = grind arith

-- with what holds of each element
kept_by_each : {S X M : Type 0} (change : S → X → S × List M) (Kept : S → Type 0) (P : X → Type 0)
    → ((s : S) (x : X) → P x → Kept s → Kept (change s x).0)
    → (xs : List X) → AllByRecursion P xs → (s : S) → Kept s → Kept (each_in_turn change s xs).0
unfolding each_in_turn
kept_by_each change Kept P keeps [] f s k = k
kept_by_each change Kept P keeps (x ∷ xs) f s k =
    kept_by_each change Kept P keeps xs f.1 (change s x).0 (keeps s x f.0 k)

module _ (A : ℕ → ℕ → ℕ → ℕ → Type 0) where
  query_asked_asked : (i g : ℕ) (s : State) (a : Asked) → IsAsked A s → IsAsked A (query_asked i g s a).0
  unfolding query_asked query_group lower_group
  query_asked_asked i g s AskGroup f = lower_group_asked A s i g (query_end s i) f
  query_asked_asked i g s (AskSources sources) f =
      subst (RowsAsked A) (sym (sources_rows s i g sources))
      (by_cond (RowsAsked A) _ _ _ f (lower_sources_asked A s i g _ (query_end s i) f))

  module _ (s : State) (i : ℕ) where
    abbrev Full : ℕ
    Full = s.present + group_membership_interval s i

    -- asked for, at the clock of s
    record Still (t : State) : Type 0 where
      rows : IsAsked A t
      clock : clock_of t ≡ clock_of s

    abbrev pub Asks : Record → Type 0
    Asks r = AsksUntil A i r.group Full r.type r.sources

    record_still : (t : State) (r : Record) → Asks r → Still t → Still (record_seen i t r).0
    unfolding record_seen with_record with_members with_repeats_of_rows
    record_still t r new f =
        let full : ℕ = t.present + group_membership_interval t i in
        let applied : GroupRecord × List Asked = apply_record full (record_of t i r.group) r.type r.sources in
        let whole : Whole A i r.group applied.0 =
        applied_asked A i r.group full r.sources (record_of t i r.group) r.type
        (subst (λ (n : ℕ). AsksUntil A i r.group n r.type r.sources) (sym (same_interval s t i f.clock)) new)
        (record_asked A i r.group t f.rows) in
        let written : Still (with_record t i r.group applied.0) =
        record { rows = with_record_asked A i r.group t applied.0 f.rows whole; clock = f.clock } in
        by_cond (λ (p : State × List Message). Still p.0) (is_querier t i) _ _
        (kept_in_turn (query_asked i r.group) Still
        (λ u a h. record { rows = query_asked_asked i r.group u a h.rows; clock = asked_clock i r.group u a ∙ h.clock })
        applied.1 (with_record t i r.group applied.0) written) written

    pub report_asked : (records : List Record) → AllByRecursion Asks (filter (λ r. not (is_skipped r)) records)
        → IsAsked A s → IsAsked A (report_seen s i records).0
    unfolding report_seen
    report_asked records new f =
        (kept_by_each (record_seen i) Still Asks record_still (filter (λ r. not (is_skipped r)) records) new s
        (record { rows = f; clock = refl })).rows

  -- ---- a query of another router

  queried_asked : (s : State) (i : ℕ) (q : QueryValue) → IsAsked A s → IsAsked A (lower_queried s i q)
  unfolding lower_queried
  queried_asked s i q f =
      let group : State = lower_group s i q.group (query_end s i) in
      let sources : State = lower_sources s i q.group q.sources (query_end s i) in
      by_cond (IsAsked A) (q.suppress || (q.group == 0)) s (cond (is_empty_list q.sources) group sources) f
      (by_cond (IsAsked A) (is_empty_list q.sources) group sources (lower_group_asked A s i q.group (query_end s i) f)
      (lower_sources_asked A s i q.group q.sources (query_end s i) f))

  pub query_seen_asked : (s : State) (i from : ℕ) (q : QueryValue) → IsAsked A s → IsAsked A (query_seen s i from q)
  unfolding query_seen querier_elected
  query_seen_asked s i from q f = grind (arith, by_cond, queried_asked)
