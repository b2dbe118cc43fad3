-- The premises, computed by their test.
use Rattle.std.{proofs.Common.{◌≡◌, true, [], ◌∷◌, refl}}
use Rattle.pim_model.{specs.Network.station_at}
use Rattle.law_streams.{specs.InTimeJoins.IsReady}
use Rattle.pim_runs.{specs.ServedChain.{first, second}, proofs.{InTime.accepted_second, OnLiterals.machine_on_literals}}
use Rattle.law_converges.{specs.LinkQuerierRun.{OneComesToQuery, QueriesComeInTime, asking, both_ask, held_back, higher, higher_events, late_query, lower, lower_events, query_bound, settings, started_apart}, proofs.{HelloTests.both_of, LinkDrRun.accepted_first, LinkQuerier.exactly_one_querier, QueryTests.{ask_so, ask_test}, Tested.ready_by}}

pub first_ready : IsReady 0 both_ask
unfolding station_at
first_ready = ready_by both_ask 0 (3 ∷ 1 ∷ []) first lower_events accepted_first refl

pub second_ready : IsReady 1 both_ask
unfolding station_at
second_ready = ready_by both_ask 1 (1 ∷ 2 ∷ []) second higher_events accepted_second refl

asking_passes : ask_test late_query query_bound started_apart settings held_back 1 lower (higher ∷ []) both_ask asking ≡ true
unfolding machine_on_literals
asking_passes = refl

pub queries_come_in_time : QueriesComeInTime
queries_come_in_time =
    ask_so late_query query_bound started_apart settings held_back 1 lower (higher ∷ []) both_ask asking
    (both_of (λ x. IsReady x.router both_ask) lower higher first_ready second_ready) asking_passes

pub one_comes_to_query : OneComesToQuery
one_comes_to_query =
    exactly_one_querier settings held_back late_query query_bound started_apart 1 lower (higher ∷ []) both_ask asking queries_come_in_time
