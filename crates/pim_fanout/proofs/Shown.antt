-- Where the named rows are made anew all rows are those of the state.
use Rattle.std.{proofs.Common.{◌≡◌, ◌≤◌, ℕ, List, [], cond, length, sym, subst}}
use Rattle.pim_ip.{specs.Ipv4.Packet}
use Rattle.pim_types.{specs.{declared.{config.Config.Config, event.Event.Event, fact.Key.Key}, Keys.source_key}}
use Rattle.pim_model.{specs.{Cache.{Plain, cached}, Clearing.clear, declared.accepted.Accepted.Accepted, Firing.fire_once, Limits.most_ifaces, Reach.own_firing, State.{State, opening}, Step.{change, done, step}, Tables.{Table, row_at}, Timers.Ending}}
use Rattle.law_events.{specs.{Locality.IsQuiet, Rest.IsAtRest, Named.named_by, Decided.IsDecided, Kept.{Cache, IsCached, SameRow, is_listed, no_rows, refreshed}}, proofs.{PlainPackets.plain_keeps_cache, RowsOfEvents.{event_keeps_cache, firing_keeps_cache, present_keeps_cache}, RowsOfSteps.opening_is_cached, CacheSameRows.row_itself}}
use Rattle.pim_macros.{specs.declared.rows.SourceAnswers.SourceAnswers}
use Rattle.pim_mfc.{specs.Laws.{ShowsRow, ShowsRows}, proofs.Shown.{none_shown, refreshed_are_shown}}
use Rattle.pim_state.{specs.declared.touched.Touched.Touched}
use Rattle.pim_fanout.{specs.{Contains.Contains, Named.named_among}, proofs.Listed.names_are_named}

own_rows : (s : State) → IsCached (cached s) s
own_rows s g src = row_itself (cached s g src)

-- what is listed alike is refreshed alike
same_refreshed : (xs ys : List Key) (s : State) (c : Cache) → ((g src : ℕ) → is_listed xs g src ≡ is_listed ys g src)
    → IsCached (refreshed ys s c) s → IsCached (refreshed xs s c) s
unfolding refreshed
same_refreshed xs ys s c same is g src =
    subst (λ l. SameRow (cond l (cached s g src) (c g src)) (cached s g src)) (sym (same g src)) (is g src)

event_cached : (s : State) → IsQuiet s → length s.configured.interfaces ≤ most_ifaces → (w : ℕ) (a : Accepted) (touched : Touched)
    → Contains touched s (change s w a).state → IsCached
    (refreshed (named_among s (clear s (change s w a).state).0 touched) (done s w (change s w a)).state (cached s)) (done s w (change s w a)).state
event_cached s quiet few w a touched covers =
    same_refreshed (named_among s (clear s (change s w a).state).0 touched) (named_by s (change s w a).state)
    (done s w (change s w a)).state (cached s)
    (λ g src. names_are_named s (change s w a).state quiet g src touched covers)
    (event_keeps_cache s w a (cached s) few (own_rows s))

firing_cached : (s : State) → IsQuiet s → length s.configured.interfaces ≤ most_ifaces → (w : ℕ) (e : Ending) (touched : Touched)
    → Contains touched s (own_firing s e) → IsCached (refreshed (named_among s (clear s (own_firing s e)).0 touched)
    (fire_once w s e).0 (cached s)) (fire_once w s e).0
firing_cached s quiet few w e touched covers =
    same_refreshed (named_among s (clear s (own_firing s e)).0 touched) (named_by s (own_firing s e))
    (fire_once w s e).0 (cached s) (λ g src. names_are_named s (own_firing s e) quiet g src touched covers)
    (firing_keeps_cache s w e (cached s) few (own_rows s))

pub event_shows_rows : (s : State) → IsQuiet s → length s.configured.interfaces ≤ most_ifaces → (w : ℕ) (a : Accepted)
    → (touched : Touched) → Contains touched s (change s w a).state → (rows : Table SourceAnswers)
    → ShowsRows rows (refreshed (named_among s (clear s (change s w a).state).0 touched) (done s w (change s w a)).state
    (cached s)) → ShowsRows rows (cached (done s w (change s w a)).state)
event_shows_rows s quiet few w a touched covers rows shows =
    refreshed_are_shown rows (refreshed (named_among s (clear s (change s w a).state).0 touched)
    (done s w (change s w a)).state (cached s)) (done s w (change s w a)).state shows
    (event_cached s quiet few w a touched covers)

pub firing_shows_rows : (s : State) → IsQuiet s → length s.configured.interfaces ≤ most_ifaces → (w : ℕ) (e : Ending)
    → (touched : Touched) → Contains touched s (own_firing s e) → (rows : Table SourceAnswers)
    → ShowsRows rows (refreshed (named_among s (clear s (own_firing s e)).0 touched) (fire_once w s e).0 (cached s))
    → ShowsRows rows (cached (fire_once w s e).0)
firing_shows_rows s quiet few w e touched covers rows shows =
    refreshed_are_shown rows (refreshed (named_among s (clear s (own_firing s e)).0 touched) (fire_once w s e).0
    (cached s)) (fire_once w s e).0 shows (firing_cached s quiet few w e touched covers)

pub present_shows_rows : (s : State) (m : ℕ) → length s.configured.interfaces ≤ most_ifaces → (rows : Table SourceAnswers)
    → ShowsRows rows (cached s) → ShowsRows rows (cached (record s { present = m }))
present_shows_rows s m few rows shows =
    refreshed_are_shown rows (cached s) (record s { present = m }) shows
    (present_keeps_cache s m (cached s) few (own_rows s))

pub opening_shows_rows : (c : Config) → ShowsRows [] (cached (opening c))
opening_shows_rows c = refreshed_are_shown [] no_rows (opening c) none_shown (opening_is_cached c)

pub plain_shows_rows : (s : State) (e : Event) (p : Packet) (how : Plain) → IsAtRest s → IsDecided s e p how
    → (rows : Table SourceAnswers) → ShowsRows rows (cached s) → ShowsRows rows (cached (step s e).state)
plain_shows_rows s e p how rest is rows shows g src =
    subst (ShowsRow (row_at rows (source_key 0 g src))) (sym (plain_keeps_cache s e p how rest is g src)) (shows g src)
