-- In a run of a network each copy has a cause, and what led to each router's state goes on.
use Rattle.std.{proofs.Common.{◌≡◌, ◌∙◌, Bool, true, false, List, [], ◌∷◌, ◌++◌, Option, Some, None, map, Ok, Err, Result, sym, ap, subst, Global, Vec}, specs.Prelude.{IfOk, IfSome, OnOk, if◌then◌else◌}}
use Rattle.pim_ip.{specs.declared.fault.Fault.Fault}
use Rattle.pim_types.specs.declared.{event.Event.Event, outcome.Outcome.Outcome}
use Rattle.law_streams.{specs.Networks.{events_in, outcomes_in}, proofs.Networks.runs_alone}
use Rattle.law_states.{specs.History.{AreAccepted, Given, IsLedTo, past_given}, proofs.{Asked.nothing_flows_unasked_over_reloads, Histories.{calls_lead_on, events_alone_are_a_run}}}
use Rattle.pim_model.{specs.{Cause.OutcomesAreAsked, Network.{Network, Station, network_ran, station_at}, State.{State, opening}, Step.step}}
use Rattle.pim_net.{specs.{Asked.{AreAsked, LeadOn}, Showing.move_of, declared.moves.Move.Move}}

-- what a net that works shows
pub shown_works : (failed : Bool) (n shown : Option Network) → (if failed then None else n) ≡ shown → failed ≡ false
    → n ≡ shown
shown_works false n shown is works = is
shown_works true n shown is works = cc works

pub log_is_asked : (n : Network) (moves : List Move) (r : Result (Vec Outcome Global) Fault)
    → IfOk r (λ log. log.items ≡ (network_ran n (map move_of moves)).0)
    → IfOk r (λ log. AreAsked n (map move_of moves) log.items)
log_is_asked n moves (Err fault) are = tt
log_is_asked n moves (Ok log) are = λ r st there c before led.
    subst (λ (os : List Outcome). OutcomesAreAsked (past_given [] (opening c) before) st.state (events_in r n (map move_of moves))
    (outcomes_in r n (map move_of moves) os)) (sym are)
    (subst (λ (os : List Outcome). OutcomesAreAsked (past_given [] (opening c) before) st.state (events_in r n (map move_of moves)) os)
    (sym ((runs_alone r (map move_of moves) n).is st there))
    (nothing_flows_unasked_over_reloads c before st.state (events_in r n (map move_of moves)) led))

events_accepted : (s : State) (events : List Event) → AreAccepted s (map Given.Happening events)
events_accepted s [] = tt
events_accepted s (e ∷ es) = events_accepted (step s e).state es

same_station : (found : Option Station) (later st : Station) → found ≡ Some later → found ≡ Some st → st ≡ later
same_station found later st e f = cc

ran_leads_on : (n : Network) (moves : List Move) → LeadOn n (map move_of moves) (network_ran n (map move_of moves)).1
ran_leads_on n moves = λ r st later there found c before led.
    let events : List Event = events_in r n (map move_of moves) in
    subst (λ (s : State). IsLedTo c (before ++ map Given.Happening events) s)
    (events_alone_are_a_run st.state events
    ∙ ap (λ (x : Station). x.state)
    (same_station (station_at (network_ran n (map move_of moves)).1 r) later _ found ((runs_alone r (map move_of moves) n).stands st there)))
    (calls_lead_on c before (map Given.Happening events) st.state led (events_accepted st.state events))

-- what a net shows afterwards, whether it has failed or not
pub net_leads_on : (n : Network) (moves : List Move) (r : Result (Vec Outcome Global) Fault) (failed : Bool) (now : Option Network)
    → OnOk r (now ≡ Some (network_ran n (map move_of moves)).1)
    → OnOk r (IfSome (if failed then None else now) (LeadOn n (map move_of moves)))
net_leads_on n moves (Err fault) failed now is = tt
net_leads_on n moves (Ok log) true now is = tt
net_leads_on n moves (Ok log) false now is =
    subst (λ (o : Option Network). IfSome o (LeadOn n (map move_of moves))) (sym is) (ran_leads_on n moves)
