-- Events that add none of the facts that count beside the asserts.
use Rattle.std.{proofs.{Common.{arith, ◌≡◌, ℕ, List, refl, ap}, lemmas.List.length-map}}
use Rattle.pim_types.{specs.declared.fact.AssertRow.AssertRow}
use Rattle.pim_wire.{specs.Values.JoinPrune}
use Rattle.igmp_wire.{specs.Values.Query as QueryValue}
use Rattle.pim_model.{specs.{Querier.{lower_group, lower_queried, lower_sources, querier_elected, query_seen}, Seen.{cancel_override_timer, lower_join_timer, lower_override_timer, raise_join_timer, seen}, State.State, Step.iface_down, Tables.Table}}
use Rattle.law_settled.{proofs.{ListLaws.by_cond, SeenLaws.kept_by_seen}}
use Rattle.law_streams.{specs.Bounded.AddsNone, proofs.{Counting.shorter_without, Fewer.{Facts, adds_itself, adds_none, facts_of, no_less, no_more, then_none}}}

-- ---- a Join/Prune between other routers

-- the tables in question, and the asserts
pub record WithAsserts : Type 0 where
  pub facts : Facts
  pub asserts : Table AssertRow

abbrev pub Alike : State → State → Type 0
Alike s t =
    (let u : WithAsserts = record { facts = facts_of t; asserts = t.asserts } in u)
    ≡ record { facts = facts_of s; asserts = s.asserts }

pub seen_alike : (s : State) (w i : ℕ) (m : JoinPrune) → Alike s (seen s w i m)
unfolding raise_join_timer lower_join_timer cancel_override_timer lower_override_timer
seen_alike s w i m = kept_by_seen (Alike s) s w i m (λ t k end f. f) (λ t k f. f) (λ t k f. f) (λ t k f. f) refl

pub seen_none : (s : State) (w i : ℕ) (m : JoinPrune) → AddsNone s (seen s w i m)
seen_none s w i m = adds_none s (seen s w i m) (ap (λ (u : WithAsserts). u.facts) (seen_alike s w i m))

-- ---- an interface that goes down

pub down_none : (s : State) (i : ℕ) → AddsNone s (iface_down s i)
unfolding iface_down
down_none s i = grind (arith, shorter_without, no_less)

-- ---- a query

group_lowered : (s : State) (i g end : ℕ) → AddsNone s (lower_group s i g end)
unfolding lower_group
group_lowered s i g end = record {
  settings = refl;
  neighbours = no_less _;
  groups = no_more _ _ (length-map s.group_records _);
  members = no_less _;
  downstream = no_less _;
  sources = no_less _;
}

sources_lowered : (s : State) (i g : ℕ) (sources : List ℕ) (end : ℕ) → AddsNone s (lower_sources s i g sources end)
unfolding lower_sources
sources_lowered s i g sources end = record {
  settings = refl;
  neighbours = no_less _;
  groups = no_less _;
  members = no_more _ _ (length-map s.source_records _);
  downstream = no_less _;
  sources = no_less _;
}

queried_none : (s : State) (i : ℕ) (q : QueryValue) → AddsNone s (lower_queried s i q)
unfolding lower_queried
queried_none s i q = grind (arith, by_cond, adds_itself, group_lowered, sources_lowered)

pub query_none : (s : State) (i from : ℕ) (q : QueryValue) → AddsNone s (query_seen s i from q)
unfolding query_seen querier_elected
query_none s i from q = grind (arith, then_none, by_cond, adds_none, adds_itself, queried_none)
