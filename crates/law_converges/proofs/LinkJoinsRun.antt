-- The premises, computed by their test.
use Rattle.std.{proofs.Common.{◌≡◌, inl, inr, refl, subst, lit<, true}}
use Rattle.law_streams.{specs.{InTimeJoins.{ComeInTime, Pair}, Joins.join_packet}}
use Rattle.pim_runs.{specs.{InTime.{joined, late, pair, started}, ServedChain.asked_group, WayInTime.{repeats_twice, three, upper_pair}}, proofs.{InTime.its_group, WayInTime.chain_joins_in_time, OnLiterals.machine_on_literals}}
use Rattle.law_converges.{specs.{LinkJoins.JoinsOver, LinkJoinsRun.{BothComeToBeHeld, BothJoinInTime, both_pairs, join_bound}, Settles.Joining}, proofs.{JoinTests.{joining_so, joining_test}, LinkJoins.all_come_to_be_held}}

abbrev pub joins_over : Pair → Joining
joins_over c = record { join = joined; group = asked_group; pair = c }

first_passes : joining_test late join_bound started (joins_over pair) three repeats_twice ≡ true
unfolding machine_on_literals join_packet
first_passes = refl

second_passes : joining_test late join_bound started (joins_over upper_pair) three repeats_twice ≡ true
unfolding machine_on_literals join_packet
second_passes = refl

first_in_time : ComeInTime joined asked_group late started pair three repeats_twice
first_in_time = (chain_joins_in_time).1

second_in_time : ComeInTime joined asked_group late started upper_pair three repeats_twice
second_in_time = ((chain_joins_in_time).3).1

first_joins : JoinsOver joined asked_group late join_bound started three repeats_twice pair
first_joins =
    (joining_so late join_bound started (joins_over pair) three repeats_twice its_group (first_in_time).lower_ready
    (first_in_time).upper_ready first_passes).comes

second_joins : JoinsOver joined asked_group late join_bound started three repeats_twice upper_pair
second_joins =
    (joining_so late join_bound started (joins_over upper_pair) three repeats_twice its_group (second_in_time).lower_ready
    (second_in_time).upper_ready second_passes).comes

pub both_join_in_time : BothJoinInTime
both_join_in_time c (inl same) = subst (JoinsOver joined asked_group late join_bound started three repeats_twice) same first_joins
both_join_in_time c (inr (inl same)) = subst (JoinsOver joined asked_group late join_bound started three repeats_twice) same second_joins
both_join_in_time c (inr (inr none)) = absurd none

pub both_come_to_be_held : BothComeToBeHeld
both_come_to_be_held =
    all_come_to_be_held joined asked_group late join_bound started both_pairs three repeats_twice its_group (lit< tt) both_join_in_time
