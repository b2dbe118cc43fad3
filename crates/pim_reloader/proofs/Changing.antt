-- The parts of another configuration, one after the other, are the state under it.
use Rattle.std.{proofs.Common.{◌≡◌, List, ap, filter, fold, ◌∙◌}, specs.List.Sorted.IsStrictlySortedBy}
use Rattle.pim_types.{specs.{Keys.key_cmp, declared.{config.RpTable.RpTable, fact.{AssertRow.AssertRow, Key.Key}}}}
use Rattle.pim_model.{specs.{State.{State, settings_of}, Step.rps_replaced, Tables.{Table, drop_at, keys_in}, Unicast.{with_candidates, with_ranges}}}
use Rattle.law_states.{specs.{Reload.config_of, Reloading.{asserts_under, is_won_before, queriers_under, under}}}
use Rattle.pim_reloader.{proofs.Dropped.passing_dropped}
use Rattle.pim_mrib.{specs.Routes.RouteTable}

abbrev moved : State → State → State
moved s next = record s { settings = next.settings; configured = next.configured; routes = next.routes }

abbrev pub forgotten : State → Table AssertRow → State
forgotten s t = record s { asserts = t }

pub forgotten_is : (s next gone : State) (keys : List Key) → gone ≡ forgotten s (fold drop_at s.asserts keys)
    → keys ≡ keys_in (filter (is_won_before s next.configured) s.asserts) → IsStrictlySortedBy key_cmp (keys_in s.asserts)
    → gone ≡ forgotten s (asserts_under s next.configured)
unfolding asserts_under
forgotten_is s next gone keys goes gathered rises =
    goes
    ∙ ap (λ (ks : List Key). forgotten s (fold drop_at s.asserts ks)) gathered
    ∙ ap (forgotten s) (passing_dropped (is_won_before s next.configured) s.asserts rises)

-- the table of the other configuration with the candidates that there are
pub given_is : (s next gone first : State) (table given : RouteTable)
    → gone ≡ forgotten s (asserts_under s next.configured) → first ≡ moved gone next → table.ranges ≡ next.ranges
    → given ≡ record table { ranges = with_candidates table.ranges first.ranges.candidates }
    → given.ranges ≡ with_ranges s.ranges next.ranges.static_ranges
given_is s next gone first table given goes moves back is =
    let first_is : first ≡ moved (forgotten s (asserts_under s next.configured)) next =
    moves ∙ ap (λ (x : State). moved x next) goes in
    ap (λ (t : RouteTable). t.ranges) is
    ∙ (λ j. with_candidates (back j) (first_is j).ranges.candidates)

pub under_is : (s next gone first asked last : State) (ranges : RpTable)
    → gone ≡ forgotten s (asserts_under s next.configured) → first ≡ moved gone next
    → asked ≡ record first { queriers = queriers_under first first.settings }
    → ranges ≡ with_ranges s.ranges next.ranges.static_ranges → last ≡ rps_replaced asked ranges → last ≡ under s (config_of next)
unfolding under config_of settings_of queriers_under
under_is s next gone first asked last ranges goes moves asks same is =
    let first_is : first ≡ moved (forgotten s (asserts_under s next.configured)) next =
    moves ∙ ap (λ (x : State). moved x next) goes in
    is ∙ ap (λ (x : State). rps_replaced x ranges) asks
    ∙ (λ j. rps_replaced (record (first_is j) { queriers = queriers_under (first_is j) (first_is j).settings }) (same j))
