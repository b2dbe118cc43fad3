-- What a run of a network sends is asked for at each router, and what led to each router's state goes on.
use Rattle.std.{specs.Prelude.{List, Some, [], map, ℕ, ◌++◌, ◌≡◌}}
use Rattle.pim_types.{specs.declared.{config.Config.Config, outcome.Outcome.Outcome}}
use Rattle.pim_model.{specs.{Cause.OutcomesAreAsked, Network.{Move, Network, Station, station_at}, State.opening}}
use Rattle.law_streams.{specs.Networks.{events_in, outcomes_in}}
use Rattle.law_states.{specs.History.{Given, IsLedTo, past_given}}

-- Whatever led a router of the network to its state, each copy that the router makes in these moves has its cause in
-- that, or in what comes to it in these moves before.
abbrev pub AreAsked : Network → List Move → List Outcome → Type 0
AreAsked n moves outcomes = (r : ℕ) (st : Station) → station_at n r ≡ Some st → (c : Config) (before : List Given)
    → IsLedTo c before st.state
    → OutcomesAreAsked (past_given [] (opening c) before) st.state (events_in r n moves) (outcomes_in r n moves outcomes)

-- Whatever led a router of the one network to its state leads, with what comes to it in these moves, to its state in the
-- other.
abbrev pub LeadOn : Network → List Move → Network → Type 0
LeadOn n moves after = (r : ℕ) (st later : Station) → station_at n r ≡ Some st → station_at after r ≡ Some later
    → (c : Config) (before : List Given) → IsLedTo c before st.state
    → IsLedTo c (before ++ map Given.Happening (events_in r n moves)) later.state
