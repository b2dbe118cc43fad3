-- The premises, computed by their test.
use Rattle.std.{proofs.Common.{◌≡◌, true, [], ◌∷◌, Ok, refl, lit<}}
use Rattle.pim_model.{specs.{Limits.config_test, Network.station_at}}
use Rattle.law_streams.{specs.InTimeJoins.IsReady}
use Rattle.pim_runs.{specs.{HellosInTime.{first_met, met, second_met}, InTime.started, ServedChain.{first, second}}, proofs.{InTime.accepted_second, OnLiterals.machine_on_literals}}
use Rattle.law_converges.{specs.LinkDrRun.{BothGreet, OneComesToBeDr, another, greeting, hello_bound, late_hello, one}, proofs.{HelloTests.{both_of, meet_so, meet_test}, LinkDr.exactly_one_dr, Tested.ready_by}}

pub accepted_first : config_test first ≡ Ok tt
unfolding machine_on_literals
accepted_first = refl

first_ready : IsReady 0 met
unfolding station_at
first_ready = ready_by met 0 (3 ∷ 1 ∷ []) first first_met accepted_first refl

second_ready : IsReady 1 met
unfolding station_at
second_ready = ready_by met 1 (1 ∷ 2 ∷ []) second second_met accepted_second refl

greeting_passes : meet_test late_hello hello_bound started 1 (one ∷ another ∷ []) met greeting ≡ true
unfolding machine_on_literals
greeting_passes = refl

pub both_greet : BothGreet
both_greet =
    meet_so late_hello hello_bound started 1 (one ∷ another ∷ []) met greeting
    (both_of (λ x. IsReady x.router met) one another first_ready second_ready) greeting_passes

pub one_comes_to_be_dr : OneComesToBeDr
one_comes_to_be_dr = exactly_one_dr late_hello hello_bound started 1 one (another ∷ []) met greeting (lit< tt) both_greet
