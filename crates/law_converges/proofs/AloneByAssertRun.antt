-- The premises, computed.
use Rattle.std.{proofs.Common.{◌≡◌, ◌∙◌, ℕ, zero, suc, List, [], ◌∷◌, ◌++◌, length, true, inl, inr, Option, Some, refl, sym, ap, subst, arith}, specs.{Option.option_map_or, Prelude.slice_get}}
use Rattle.pim_ip.{specs.Ipv4.{Packet, packet_of}}
use Rattle.pim_types.{specs.declared.event.Event.Event}
use Rattle.pim_model.{specs.{declared.accepted.Accepted.Accepted, Cause.{done_as, packet_in}, Network.{At, Move, Network, Sent, Station, event_of, frame_at, moved, network_ran, station_at}}}
use Rattle.law_streams.{specs.{Copies.happens, Joins.join_packet, Served.renewed}, proofs.{Computed.{event_in, stand, stands_there}, Pairs.same_station}}
use Rattle.pim_runs.{specs.{InTime.started, ServedChain.asked_group}, proofs.OnLiterals.machine_on_literals}
use Rattle.law_converges.{specs.{AloneByAssert.{AreOfContest, BringsWhatIsLost, IsAboutIt}, AloneByAssertRun.{WinnerAloneOnPlan, heard, hears_it}, CarriedNetwork.{contest_on, layout_of}, CarriedNetworkRun.{before, bound, by_register, claim, farther_on_low, lag, low_lan, moves, none_came, plan, serving, until_then, soon, source_sends, source_there, traffic}, LinkDr.Member, OneSender.is_about_packet, Past.{ArePast, HoldsPast}, Settles.{HasOneSender, HasSettled}}, proofs.{AloneByAssert.winner_is_alone, CarriedNetwork.carried_network_settles, CarriedNetworkRun.{nowhere, plan_is_quiet}, Tested.{past_so, past_test, same_event}}}

-- what holds past the bound by the last of some moves
by_then : (limit : ℕ) (P : Network → Type 0) (m : Move) (xs ys : List Move) (n : Network) → HoldsPast started limit P n (m ∷ xs ++ ys)
    → ArePast started limit (network_ran n (m ∷ xs)).1 → P (network_ran n (m ∷ xs)).1
unfolding network_ran
by_then limit P m [] ys n f past = f.0 past
by_then limit P m (x ∷ xs) ys n f past = by_then limit P x xs ys (moved n m).1 f.1 past

heard_is_past : past_test started (λ q r. refl) bound heard ≡ true
unfolding machine_on_literals join_packet
heard_is_past = refl

ran_so : (ms : List Move) (n : Network) (a b : Move) → (network_ran n (ms ++ a ∷ b ∷ [])).1 ≡ (moved (moved (network_ran n ms).1 a).1 b).1
unfolding network_ran
ran_so [] n a b = refl
ran_so (m ∷ ms) n a b = ran_so ms (moved n m).1 a b

one_sender : HasOneSender heard (contest_on low_lan claim)
one_sender =
    subst (λ (x : Network). HasOneSender x (contest_on low_lan claim)) (ran_so until_then before (At 1 source_sends) by_register)
    (by_then bound (HasSettled (layout_of soon soon started traffic plan)) _ _ serving before
    (carried_network_settles soon soon lag bound started traffic none_came plan before moves plan_is_quiet)
    (subst (ArePast started bound) (sym (ran_so until_then before (At 1 source_sends) by_register)) (past_so started (λ q r. refl) bound heard heard_is_past))).contests.0

abbrev links_at : ℕ → List ℕ
links_at q = option_map_or (λ (z : Station). z.links) (station_at heard q) []

second_links : links_at 1 ≡ 1 ∷ 2 ∷ 4 ∷ 5 ∷ []
unfolding machine_on_literals join_packet
second_links = refl

third_links : links_at 2 ≡ 2 ∷ []
unfolding machine_on_literals join_packet
third_links = refl

counted : length (heard).stations ≡ 3
unfolding machine_on_literals join_packet
counted = refl

abbrev its_links : List ℕ
its_links = 1 ∷ 2 ∷ 4 ∷ 5 ∷ []

abbrev other_links : List ℕ
other_links = 2 ∷ []

first_alone : (j : ℕ) → slice_get its_links j ≡ Some 1 → j ≡ 0
first_alone zero e = refl
first_alone (suc zero) e = cc e
first_alone (suc (suc zero)) e = cc e
first_alone (suc (suc (suc zero))) e = cc e
first_alone (suc (suc (suc (suc j)))) e = cc e

none_there : (j : ℕ) → slice_get other_links j ≡ Some 1 → ⊥
none_there zero e = cc e
none_there (suc j) e = cc e

beyond : (xs : List Station) (q : ℕ) (st : Station) → length xs ≡ 3 → slice_get xs (suc (suc (suc q))) ≡ Some st → ⊥
beyond [] q st e got = cc got
beyond (a ∷ []) q st e got = cc got
beyond (a ∷ b ∷ []) q st e got = cc got
beyond (a ∷ b ∷ c ∷ []) q st e got = cc got
beyond (a ∷ b ∷ c ∷ d ∷ xs) q st e got = omega (arith, e)

all_of : AreOfContest (contest_on low_lan claim) heard
unfolding station_at
all_of zero j st at linked = inl refl
all_of (suc zero) j st at linked =
    inr (record {
      loser = farther_on_low;
      among = inl refl;
      router = refl;
      iface = first_alone j (subst (λ (ls : List ℕ). slice_get ls j ≡ Some 1)
          (sym (ap (λ (o : Option Station). option_map_or (λ (z : Station). z.links) o []) at) ∙ second_links) linked);
    })
all_of (suc (suc zero)) j st at linked =
    absurd (none_there j (subst (λ (ls : List ℕ). slice_get ls j ≡ Some 1)
    (sym (ap (λ (o : Option Station). option_map_or (λ (z : Station). z.links) o []) at) ∙ third_links) linked))
all_of (suc (suc (suc q))) j st at linked = absurd (beyond (heard).stations q st counted at)

-- what the second router hears
abbrev hearing : Station
hearing = stand nowhere heard 1

abbrev its_arrival : Event
its_arrival = event_in heard hears_it

abbrev its_packet : Packet
its_packet = packet_of (option_map_or (λ (f : Sent). f.bytes) (frame_at heard 56) [])

arrival_is : event_of heard hears_it ≡ Some (1, its_arrival)
unfolding machine_on_literals join_packet
arrival_is = refl

hearing_there : station_at heard 1 ≡ Some hearing
unfolding machine_on_literals join_packet
hearing_there = stands_there nowhere heard 1 refl

is_taken : done_as (happens (hearing).state its_arrival) ≡ Some (Accepted.Data (record { number = 1 }) its_packet)
unfolding machine_on_literals join_packet
is_taken = refl

is_about : is_about_packet (hearing).state asked_group 0 1 its_packet ≡ true
unfolding machine_on_literals join_packet renewed
is_about = refl

brings : BringsWhatIsLost asked_group source_there (contest_on low_lan claim) heard hears_it
brings y e st p (inr none) ev at brought its = absurd none
brings y e st p (inl same) ev at brought its =
    subst (λ (z : Station). IsAboutIt (contest_on low_lan claim) z e p) here
    (subst (λ (x : Event). IsAboutIt (contest_on low_lan claim) hearing x p) (same_event arrival_is its_event)
    (subst (IsAboutIt (contest_on low_lan claim) hearing its_arrival) the_packet
    (record { iface = record { number = 1 }; data_came = is_taken; about = is_about })))
  where
    its_event : event_of heard hears_it ≡ Some (1, e)
    its_event = ev ∙ ap (λ (z : Member). Some (z.router, e)) (sym same)

    here : hearing ≡ st
    here = same_station hearing_there (ap (λ (z : Member). station_at heard z.router) same ∙ at)

    some_same : {x z : Packet} → (let o : Option Packet = Some x in o) ≡ Some z → x ≡ z
    some_same h = cc h

    the_packet : its_packet ≡ p
    the_packet =
        some_same (sym (ap packet_in is_taken)
        ∙ (ap (λ (x : Event). packet_in (done_as (happens (hearing).state x))) (same_event arrival_is its_event)
        ∙ (ap (λ (z : Station). packet_in (done_as (happens z.state e))) here ∙ brought)))

pub winner_alone_on_plan : WinnerAloneOnPlan
winner_alone_on_plan = (
  one_sender,
  all_of,
  brings,
  winner_is_alone asked_group source_there (contest_on low_lan claim) heard hears_it one_sender all_of brings,
)
