-- Facts stay within the greatest limit, whatever reloads came.
use Rattle.std.{proofs.Common.{◌≡◌, ⊎_elim, ◌+◌, ◌-◌, ◌≤◌, ℕ, map, max, Bool, true, false, List, [], ◌∷◌, length, Some, Ok, Err, refl, sym, ap, subst, ◌∙◌, arith}, specs.List.range_with_len}
use Rattle.pim_types.{specs.{Keys.{iface_in, source_key}, declared.{config.{Config.Config, Settings.Settings}, event.Event.Event, outcome.Stop.Stop}}}
use Rattle.law_events.{specs.Rest.IsAtRest, proofs.Rest.step_is_at_rest}
use Rattle.law_settled.{proofs.{RisingKeys.up_of_sorted, UnchangedLaws.full_or_taken}}
use Rattle.pim_model.{specs.{declared.accepted.Accepted.Accepted, Full.{counted, is_full}, Judging.{Judged, judged}, State.{addressing_of, State, opening, settings_of}, Registers.keepalive_period, Sets.spt_bit, Step.{concluded, ran, rps_replaced, state_after, step, taken, taken_unless_full}, Tables.{Table, has_row, is_among, put}}}
use Rattle.law_streams.{specs.Bounded.{AddsAtMost, AddsNone, counted_beside_asserts, needed_by, needed_of}, proofs.{Bounded.{adds_what_is_needed, has_room}, Counting.{one_more, put_there, shorter_without}, Fewer.settled_none, Within.room}}
use Rattle.law_plane.{specs.Keeping.{keep, keepalive_end, kept_until}, proofs.Keeps.{keep_by, running, running_there}}
use Rattle.law_states.{specs.{Reload.config_of, Reloading.{down_event, hellos_anew, reload, removals, replaced, under}, Placing.{Places, gone_on, in_order, placed_key, moved, placed, placed_under, put_placed, reload_by, resubnetted, to_order, without_neighbours}, History.{AreAccepted, Given, greatest_limit, state_given}, HistoryLaws.FactsStayWithinTheGreatest}, proofs.{Ups.{begun, begun_rests, gone, kept, new, old, order, renewed}, Led.{Led, is_led, keep_led, opening_led, placed_led, reload_led, step_led}}}

-- the facts are within a limit that is no less than the state's own
record IsUnder (limit : ℕ) (s : State) : Type 0 where
  facts : counted_beside_asserts s ≤ limit
  own : s.settings.limit ≤ limit

module _ (limit : ℕ) (s : State) (e : Event) (f : IsUnder limit s) where
  with_none : (n : ℕ) (t : State) → n ≡ 0 → AddsAtMost n s t → counted_beside_asserts t ≤ limit
  with_none n t none adds = let x = adds.together in let y = f.facts in omega (arith, none, x, y)

  with_room : (n : ℕ) (t : State) → counted s + n ≤ s.settings.limit → AddsAtMost n s t → counted_beside_asserts t ≤ limit
  unfolding counted
  with_room n t fits adds = let x = adds.together in let y = f.own in omega (arith, fits, x, y)

  same : (t : State) → AddsAtMost 0 s t → counted_beside_asserts t ≤ limit
  same t adds = with_none 0 t refl adds

  taken_under : (a : Accepted) (t : State) → is_full s a ≡ false → AddsAtMost (needed_by s a) s t
      → counted_beside_asserts t ≤ limit
  taken_under a t is adds =
      ⊎_elim (λ (none : needed_by s a ≡ 0). with_none (needed_by s a) t none adds)
      (λ (fits : counted s + needed_by s a ≤ s.settings.limit). with_room (needed_by s a) t fits adds)
      (room s (needed_by s a) (has_room s a is))

  full_under : (a : Accepted) (b : Bool) → is_full s a ≡ b → AddsAtMost (needed_by s a) s (full_or_taken s e.draw a b).state
      → counted_beside_asserts (full_or_taken s e.draw a b).state ≤ limit
  full_under a true is adds = f.facts
  full_under a false is adds = taken_under a (taken s e.draw a).state is adds

  concluded_under : (j : Judged) → AddsAtMost (needed_of s j) s (concluded s (taken_unless_full s e.draw) j).state
      → counted_beside_asserts (concluded s (taken_unless_full s e.draw) j).state ≤ limit
  unfolding taken_unless_full
  concluded_under (Err (Stop.Refuse refusal)) adds = f.facts
  concluded_under (Err (Stop.Ignore reason)) adds = f.facts
  concluded_under (Ok a) adds = full_under a (is_full s a) refl adds

  step_under : IsAtRest s → IsUnder limit (step s e).state
  unfolding step
  step_under rest =
      let adds : AddsAtMost (needed_of s (judged s e.kind)) s (step s e).state = adds_what_is_needed s e rest.settled in
      record {
        facts = concluded_under (judged s e.kind) adds;
        own = subst (λ (x : Settings). x.limit ≤ limit) (sym adds.settings) f.own;
      }

run_under : (limit : ℕ) (events : List Event) (s : State) → IsUnder limit s → IsAtRest s
    → IsUnder limit (state_after s events)
unfolding state_after ran
run_under limit [] s f rest = f
run_under limit (e ∷ es) s f rest =
    run_under limit es (step s e).state (step_under limit s e f rest) (step_is_at_rest s e rest)

-- ---- a reload

lower : (limit other : ℕ) (s : State) → IsUnder limit s → IsUnder (max limit other) s
lower limit other s f =
    let x = f.facts in
    let y = f.own in
    record { facts = omega (arith, x); own = omega (arith, y) }

-- as long as the longest that they were
no_longer : (limit : ℕ) (s t : State) → AddsNone s t → counted_beside_asserts s ≤ limit → counted_beside_asserts t ≤ limit
no_longer limit s t none le =
    let a = none.neighbours in
    let b = none.groups in
    let c = none.members in
    let d = none.downstream in
    let e = none.sources in
    omega (arith, a, b, c, d, e, le)

moved_facts : (s : State) (c : Config) → counted_beside_asserts (under s c) ≡ counted_beside_asserts s
unfolding under rps_replaced
moved_facts s c = refl

moved_limit : (s : State) (c : Config) → (under s c).settings.limit ≡ c.limit
unfolding under rps_replaced settings_of
moved_limit s c = refl

greater : (a b : ℕ) → b ≤ max a b
greater a b = omega arith

replaced_under : (limit : ℕ) (s : State) (c : Config) (w : ℕ) → IsUnder limit s → IsUnder (max limit c.limit) (replaced s c w).0
unfolding replaced
replaced_under limit s c w f =
    let none : AddsNone (under s c) (replaced s c w).0 = settled_none s (under s c, hellos_anew s (addressing_of c)) w in
    record {
      facts = no_longer (max limit c.limit) (under s c) (replaced s c w).0 none
          (subst (λ (n : ℕ). n ≤ max limit c.limit) (sym (moved_facts s c)) (lower limit c.limit s f).facts);
      own = subst (λ (n : ℕ). n ≤ max limit c.limit)
          (sym (ap (λ (x : Settings). x.limit) none.settings ∙ moved_limit s c)) (greater limit c.limit);
    }

reload_under : (limit : ℕ) (s : State) (c : Config) (w : ℕ) → IsUnder limit s → IsAtRest s
    → IsUnder (max limit c.limit) (reload s c w).0
unfolding reload state_after
reload_under limit s c w f rest =
    replaced_under limit (state_after s (removals s c w)) c w (run_under limit (removals s c w) s f rest)

-- ---- a reload by a map of places

put_long : {R : Type 0} (places : List ℕ) (t rows : Table R) → length (put_placed places t rows) ≤ length t + length rows
put_long places t [] = omega arith
put_long places t (e ∷ rows) =
    let one : length (put t (placed_key places e.0) e.1) ≤ length t + 1 = one_more (placed_key places e.0) e.1 t in
    let rest = put_long places (put t (placed_key places e.0) e.1) rows in
    omega (arith, one, rest)

placed_long : {R : Type 0} (places : List ℕ) (rows : Table R) → length (placed places rows) ≤ length rows
placed_long places rows = let le = put_long places [] rows in omega (arith, le)

module _ (limit : ℕ) (s : State) (places : List ℕ) (c : Config) (apart : List ℕ) (w : ℕ) where
  abbrev there : State
  there = without_neighbours apart (placed_under s places c)

  there_facts : counted_beside_asserts there ≤ counted_beside_asserts s
  unfolding without_neighbours placed_under
  there_facts =
      let fewer : length there.neighbours ≤ length (placed places s.neighbours) =
      shorter_without (λ k. is_among (iface_in k) apart) (placed places s.neighbours) in
      let a = placed_long places s.neighbours in
      let b = placed_long places s.group_records in
      let d = placed_long places s.source_records in
      let e = placed_long places s.downstream in
      omega (arith, fewer, a, b, d, e)

  there_limit : there.settings.limit ≡ c.limit
  unfolding without_neighbours placed_under settings_of
  there_limit = refl

  moved_under : c.limit ≤ limit → IsUnder limit s → IsUnder limit (moved s places c apart w).0
  unfolding moved
  moved_under within f =
      let none : AddsNone there (moved s places c apart w).0 = settled_none (placed_under s places c) (there, []) w in
      let few : counted_beside_asserts there ≤ limit = at_most there_facts f.facts in
      record {
        facts = no_longer limit there (moved s places c apart w).0 none few;
        own = subst (λ (n : ℕ). n ≤ limit) (sym (ap (λ (x : Settings). x.limit) none.settings ∙ there_limit)) within;
      }
    where
      at_most : {a b n : ℕ} → a ≤ b → b ≤ n → a ≤ n
      at_most f g = omega (arith, f, g)

module _ (limit : ℕ) (s : State) (m : Places) (c : Config) (w : ℕ) (f : IsUnder limit s) where
  old_limit : (old s m c w).limit ≤ limit
  unfolding in_order config_of
  old_limit = f.own

  new_limit : (new s m c w).limit ≡ c.limit
  unfolding in_order
  new_limit = refl

  placed_reload_under : Led s → IsUnder (max limit c.limit) (reload_by s m c w).0
  unfolding reload_by gone_on state_after
  placed_reload_under led =
      let first : IsUnder limit (begun s m c w) =
      moved_under limit s (to_order m) (old s m c w)
      (resubnetted (kept s m c w) (old s m c w).interfaces (new s m c w).interfaces) w old_limit f in
      let downed : IsUnder limit (gone s m c w) =
      run_under limit (map (down_event w) (range_with_len (kept s m c w) (length m - kept s m c w))) (begun s m c w) first
      (begun_rests s m c w led.accepted led.rest.settled) in
      let next : IsUnder (max limit c.limit) (renewed s m c w) =
      subst (λ (n : ℕ). IsUnder (max limit n) (renewed s m c w)) new_limit
      (replaced_under limit (gone s m c w) (new s m c w) w downed) in
      moved_under (max limit c.limit) (renewed s m c w) (order s m c w) c [] w (greater limit c.limit) next

-- ---- what a plane reports

kept_facts : (s : State) (g src end before : ℕ) → IsAtRest s → keepalive_end s g src ≡ Some before
    → counted_beside_asserts (kept_until s g src end) ≤ counted_beside_asserts s
unfolding kept_until
kept_facts s g src end before rest runs =
    let there : has_row s.sources (source_key 0 g src) ≡ true = running_there s g src (running s g src before runs) in
    let shorter : length (kept_until s g src end).sources ≤ length s.sources =
    put_there s.sources (source_key 0 g src) (record { keepalive = Some end; spt = spt_bit s g src })
    (up_of_sorted s.sources rest.settled.ordered.sources) there in
    omega (arith, shorter)

kept_settings : (s : State) (g src end : ℕ) → (kept_until s g src end).settings ≡ s.settings
unfolding kept_until
kept_settings s g src end = refl

keep_under : (limit : ℕ) (s : State) (g src m : ℕ) → IsUnder limit s → IsAtRest s → IsUnder limit (keep s g src m)
keep_under limit s g src m f rest =
    keep_by s g src m (IsUnder limit) f
    (λ before runs sooner.
    let later = kept_until s g src (m + keepalive_period) in
    let no_more : counted_beside_asserts later ≤ counted_beside_asserts s =
    kept_facts s g src (m + keepalive_period) before rest runs in
    let facts = f.facts in
    record {
      facts = omega (arith, no_more, facts);
      own = subst (λ (x : Settings). x.limit ≤ limit) (sym (kept_settings s g src (m + keepalive_period))) f.own;
    })

-- ---- one after the other

given_under : (before : List Given) (limit : ℕ) (s : State) → IsUnder limit s → Led s → AreAccepted s before
    → IsUnder (greatest_limit limit before) (state_given s before)
unfolding greatest_limit state_given
given_under [] limit s f led accepted = f
given_under (Given.Happening e ∷ later) limit s f led accepted =
    given_under later limit (step s e).state (step_under limit s e f led.rest) (step_led s e led) accepted
given_under (Given.Reload c w ∷ later) limit s f led accepted =
    given_under later (max limit c.limit) (reload s c w).0 (reload_under limit s c w f led.rest)
    (reload_led s c w accepted.0 led) accepted.1
given_under (Given.Placed m c w ∷ later) limit s f led accepted =
    given_under later (max limit c.limit) (reload_by s m c w).0 (placed_reload_under limit s m c w f led)
    (placed_led s m c w accepted.0 accepted.1 led) accepted.2
given_under (Given.Kept g src m ∷ later) limit s f led accepted =
    given_under later limit (keep s g src m) (keep_under limit s g src m f led.rest) (keep_led s g src m led) accepted

opening_under : (c : Config) → IsUnder c.limit (opening c)
unfolding opening settings_of
opening_under c = record { facts = omega arith; own = omega arith }

pub facts_stay_within_the_greatest : FactsStayWithinTheGreatest
facts_stay_within_the_greatest c before s events led =
    let limit : ℕ = greatest_limit c.limit before in
    let start : Led (opening c) = opening_led c led.accepted in
    (run_under limit events s
    (subst (IsUnder limit) (sym led.led) (given_under before c.limit (opening c) (opening_under c) start led.reloads))
    (is_led c before s led).rest).facts
