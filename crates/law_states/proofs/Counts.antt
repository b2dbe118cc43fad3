-- All facts that count stay few, whatever reloads came and whatever a plane reported.
use Rattle.std.{proofs.{Common.{◌≡◌, ◌∙◌, ⊎_elim, ℕ, ◌+◌, ◌-◌, ◌*◌, ◌<◌, ◌≤◌, cond, get_or, max, nat_lt, List, [], ◌∷◌, length, map, Bool, Ok, true, false, not, refl, sym, ap, subst, arith}, Math.Nat.{mul-add, mul-one, mul_comm}, lemmas.{Bool.{cases_lt, or_left, or_right}, List.length-map}}, specs.List.{list_any, range_with_len}}
use Rattle.pim_types.{specs.{Keys.{group_in, same_key, source_in, source_key}, declared.{config.Config.Config, event.Event.Event, fact.Key.Key}}, proofs.Keys.{equal_keys, same_key_same}}
use Rattle.law_events.{specs.Rest.IsAtRest}
use Rattle.law_settled.{specs.Ready.IsSettled, proofs.{ListLaws.{each_filter, each_more, either}, StepLaws.kept_by_run}}
use Rattle.law_states.{specs.{Reload.config_of, PlacedLaws.AreApart, Placing.{Places, are_places, gone_on, in_order, placed_key, index_of, moved, number_at, old_order, placed_under, reload_by, resubnetted, to_order, without_neighbours}, Reloading.{asserts_under, down_event, hellos_anew, is_won_before, reload, removals, replaced, under}, History.{AreAccepted, Given, greatest_count, greatest_limit, state_given}, HistoryLaws.CountedStayWithinTheGreatest}, proofs.{Apart.{at_high, at_low, places_are_apart, to_at, value_low}, Moved.{moved_is_under, placed_reload_is_under}, Rows.each_placed, Ups.{as_many, begun, begun_count, begun_rests, each_low, each_once, goes_low, gone, kept, new, old, order, renewed}, Ground.reload_is_under, Rest.reload_leaves_rest, Led.{Led, keep_led, opening_led, placed_led, reload_led, step_led}, Limits.facts_stay_within_the_greatest, Onto.{GoesTo, some_goes}}}
use Rattle.pim_model.{specs.{Downstream.is_named, Full.counted, Limits.config_test, Registers.keepalive_period, State.{addressing_of, State, iface_count, opening}, Step.{rps_replaced, state_after, step}, Tables.{has_row}}}
use Rattle.law_streams.{specs.Bounded.counted_beside_asserts, proofs.{Few.{Covered, Holds, Named, Spread, asserts_few, configured_some, holds_on, opening_holds}, Keyed.{Kept, kept_sources, settled_kept, under_put}, KeyedEvents.row_under}}
use Rattle.law_plane.{specs.Keeping.{keep, kept_until}, proofs.Keeps.{keep_by, keep_is_at_rest, running, running_there}}

limit_at_least : (before : List Given) (limit : ℕ) → limit ≤ greatest_limit limit before
unfolding greatest_limit
limit_at_least [] limit = omega arith
limit_at_least (Given.Happening e ∷ later) limit = limit_at_least later limit
limit_at_least (Given.Reload c w ∷ later) limit =
    let le : max limit c.limit ≤ greatest_limit (max limit c.limit) later = limit_at_least later (max limit c.limit) in
    omega (arith, le)
limit_at_least (Given.Placed m c w ∷ later) limit =
    let le : max limit c.limit ≤ greatest_limit (max limit c.limit) later = limit_at_least later (max limit c.limit) in
    omega (arith, le)
limit_at_least (Given.Kept g src m ∷ later) limit = limit_at_least later limit

count_at_least : (before : List Given) (count : ℕ) → count ≤ greatest_count count before
unfolding greatest_count
count_at_least [] count = omega arith
count_at_least (Given.Happening e ∷ later) count = count_at_least later count
count_at_least (Given.Reload c w ∷ later) count =
    let le : max count (length c.interfaces) ≤ greatest_count (max count (length c.interfaces)) later =
    count_at_least later (max count (length c.interfaces)) in
    omega (arith, le)
count_at_least (Given.Placed m c w ∷ later) count =
    let le : max count (length c.interfaces) ≤ greatest_count (max count (length c.interfaces)) later =
    count_at_least later (max count (length c.interfaces)) in
    omega (arith, le)
count_at_least (Given.Kept g src m ∷ later) count = count_at_least later count

-- keys at other places
named_there : (places : List ℕ) (k : Key) (ks : List Key) → is_named ks k ≡ true
    → is_named (map (placed_key places) ks) (placed_key places k) ≡ true
unfolding is_named
named_there places k [] e = cc
named_there places k (q ∷ ks) e =
    either (same_key k q) (list_any (same_key k) ks)
    (λ same. or_left (same_key (placed_key places k) (placed_key places q)) _
    (ap (λ (x : Key). same_key (placed_key places k) (placed_key places x)) (sym (equal_keys k q same))
    ∙ same_key_same (placed_key places k)))
    (λ later. or_right (same_key (placed_key places k) (placed_key places q)) _ (named_there places k ks later)) e

module _ (n limit : ℕ) (some : 1 ≤ n) where
  abbrev Few : State → Type 0
  Few s = Holds n limit some s

  run_few : (events : List Event) (s : State) → Few s → Few (state_after s events)
  run_few events s f = kept_by_run Few (holds_on n limit some) s events f

  -- ---- a reload

  under_few : (s : State) (c : Config) (ks : List Key) → Kept (Named n ks) (Spread n ks) s → Kept (Named n ks) (Spread n ks) (under s c)
  unfolding under rps_replaced asserts_under
  under_few s c ks f = record {
    asserts = each_filter (λ e. Named n ks e.0) (λ e. not (is_won_before s (addressing_of c) e)) s.asserts f.asserts;
    downstream = f.downstream;
    groups = f.groups;
    sources = f.sources;
  }

  of_limit : (t : State) (c : Config) → config_of t ≡ c → c.limit ≤ limit → t.settings.limit ≤ limit
  unfolding config_of
  of_limit t c is within = subst (λ (d : Config). d.limit ≤ limit) (sym is) within

  of_interfaces : (t : State) (c : Config) → config_of t ≡ c → length c.interfaces ≤ n → iface_count t ≤ n
  unfolding config_of
  of_interfaces t c is among = subst (λ (d : Config). length d.interfaces ≤ n) (sym is) among

  replaced_few : (s : State) (c : Config) (w : ℕ) → Covered n limit s → Covered n limit (replaced s c w).0
  unfolding replaced
  replaced_few s c w f = record {
    keys = f.keys;
    short = f.short;
    kept = settled_kept (Named n f.keys) (Spread n f.keys) s (under s c, hellos_anew s (addressing_of c)) w (under_few s c f.keys f.kept);
  }

  reload_covered : (s : State) (c : Config) (w : ℕ) → Few s → Covered n limit (reload s c w).0
  unfolding reload state_after
  reload_covered s c w f =
      replaced_few (state_after s (removals s c w)) c w (run_few (removals s c w) s f).covered

  reload_few : (s : State) (c : Config) (w : ℕ) → config_test c ≡ Ok tt → c.limit ≤ limit → length c.interfaces ≤ n
      → IsAtRest s → Few s → Few (reload s c w).0
  reload_few s c w accepted within among rest f = record {
    settled = (reload_leaves_rest s c w accepted rest).settled;
    bound = of_limit (reload s c w).0 c (reload_is_under s c w) within;
    links = of_interfaces (reload s c w).0 c (reload_is_under s c w) among;
    covered = reload_covered s c w f;
  }

  -- ---- a reload by a map of places

  module _ (places : List ℕ) (apart : AreApart places) (low : (i : ℕ) → i < n → number_at places i < n) where
    spread_there : (ks : List Key) (k : Key) → Spread n ks k → Spread n (map (placed_key places) ks) k
    spread_there ks k h i less =
        let from : GoesTo places n i = some_goes places n apart low i less in
        subst (λ (j : ℕ). is_named (map (placed_key places) ks) (source_key j (group_in k) (source_in k)) ≡ true) from.2
        (named_there places (source_key from.0 (group_in k) (source_in k)) ks (h from.0 from.1))

    there_few : (s : State) (c : Config) (parted : List ℕ) (ks : List Key) → Kept (Named n ks) (Spread n ks) s
        → Kept (Named n (map (placed_key places) ks)) (Spread n (map (placed_key places) ks))
        (without_neighbours parted (placed_under s places c))
    unfolding without_neighbours placed_under
    there_few s c parted ks f = record {
      asserts = each_placed places (λ e. Named n ks e.0) (λ e. Named n (map (placed_key places) ks) e.0)
          (λ e h. named_there places e.0 ks h) s.asserts f.asserts;
      downstream = each_placed places (λ e. Named n ks e.0) (λ e. Named n (map (placed_key places) ks) e.0)
          (λ e h. named_there places e.0 ks h) s.downstream f.downstream;
      groups = each_placed places (λ e. Named n ks e.0) (λ e. Named n (map (placed_key places) ks) e.0)
          (λ e h. named_there places e.0 ks h) s.group_records f.groups;
      sources = each_more (λ e. Spread n ks e.0) (λ e. Spread n (map (placed_key places) ks) e.0) (λ e h. spread_there ks e.0 h)
          s.sources f.sources;
    }

    moved_few : (s : State) (c : Config) (parted : List ℕ) (w : ℕ) → Covered n limit s
        → Covered n limit (moved s places c parted w).0
    unfolding moved
    moved_few s c parted w f =
        let t : State = placed_under s places c in
        let ks : List Key = map (placed_key places) f.keys in
        let long : length ks ≡ length f.keys = length-map f.keys (placed_key places) in
        let short : length f.keys ≤ n * limit = f.short in
        record {
          keys = ks;
          short = omega (arith, long, short);
          kept = settled_kept (Named n ks) (Spread n ks) t (without_neighbours parted t, []) w (there_few s c parted f.keys f.kept);
        }

  module _ (s : State) (m : Places) (c : Config) (w : ℕ) (are : are_places (iface_count s) (length c.interfaces) m ≡ true)
      (is : config_test c ≡ Ok tt) (led : Led s) (within : c.limit ≤ limit) (among : length c.interfaces ≤ n) (f : Few s) where
    many : length m ≤ n
    many =
        let count : length m ≡ iface_count s = as_many (iface_count s) (length c.interfaces) m are in
        let links : iface_count s ≤ n = f.links in
        omega (arith, count, links)

    old_low : (i : ℕ) → i < n → number_at (to_order m) i < n
    old_low i less = by (nat_lt i (length m)) refl
      where
        by : (b : Bool) → nat_lt i (length m) ≡ b → number_at (to_order m) i < n
        by true e = let low : number_at (to_order m) i < length m = goes_low s m c w are i e in
            let few = many in omega (arith, low, few)
        by false e =
            let stays : number_at (to_order m) i ≡ i =
            to_at m i ∙ ap (λ (b : Bool). cond b (index_of (old_order m) (0 + i)) i) e in
            omega (arith, stays, less)

    new_low : (i : ℕ) → i < n → number_at (order s m c w) i < n
    new_low i less =
        ⊎_elim (λ (here : i < length c.interfaces). within_new here) (λ (past : length c.interfaces ≤ i). past_new past)
        (cases_lt i (length c.interfaces))
      where
        within_new : i < length c.interfaces → number_at (order s m c w) i < n
        within_new here =
            let once = each_once (iface_count s) (length c.interfaces) m are in
            let all = each_low (iface_count s) (length c.interfaces) m are in
            let a : number_at (order s m c w) i ≡ get_or (order s m c w) i 0 = at_low m (length c.interfaces) once all i here in
            let b : get_or (order s m c w) i 0 < length c.interfaces = value_low m (length c.interfaces) once all i here in
            omega (arith, a, b, among)

        past_new : length c.interfaces ≤ i → number_at (order s m c w) i < n
        past_new past =
            let once = each_once (iface_count s) (length c.interfaces) m are in
            let all = each_low (iface_count s) (length c.interfaces) m are in
            let a : number_at (order s m c w) i ≡ i = at_high m (length c.interfaces) once all i past in
            omega (arith, a, less)

    old_limit : s.settings.limit ≤ limit → (old s m c w).limit ≤ limit
    unfolding in_order config_of
    old_limit e = e

    placed_covered : Covered n limit (reload_by s m c w).0
    unfolding reload_by gone_on state_after
    placed_covered =
        let apart = places_are_apart (iface_count s) (length c.interfaces) m are in
        let downs : List Event = map (down_event w) (range_with_len (kept s m c w) (length m - kept s m c w)) in
        let first : Covered n limit (begun s m c w) =
        moved_few (to_order m) apart.0 old_low s (old s m c w)
        (resubnetted (kept s m c w) (old s m c w).interfaces (new s m c w).interfaces) w f.covered in
        let rests : IsAtRest (begun s m c w) = begun_rests s m c w led.accepted led.rest.settled in
        let bound : (begun s m c w).settings.limit ≤ limit =
        of_limit (begun s m c w) (old s m c w)
        (moved_is_under s (to_order m) (old s m c w) (resubnetted (kept s m c w) (old s m c w).interfaces (new s m c w).interfaces) w)
        (old_limit f.bound) in
        let links : iface_count (begun s m c w) ≤ n =
        subst (λ (a : ℕ). a ≤ n) (sym (begun_count s m c w are)) many in
        let downed : Few (state_after (begun s m c w) downs) =
        run_few downs (begun s m c w) (record { settled = rests.settled; bound = bound; links = links; covered = first }) in
        let next : Covered n limit (renewed s m c w) = replaced_few (gone s m c w) (new s m c w) w downed.covered in
        moved_few (order s m c w) apart.1 new_low (renewed s m c w) c [] w next

    placed_few : Few (reload_by s m c w).0
    placed_few = record {
      settled = (placed_led s m c w is are led).rest.settled;
      bound = of_limit (reload_by s m c w).0 c (placed_reload_is_under s m c w) within;
      links = of_interfaces (reload_by s m c w).0 c (placed_reload_is_under s m c w) among;
      covered = placed_covered;
    }

  -- ---- what a plane reports

  kept_few : (s : State) (g src end : ℕ) → has_row s.sources (source_key 0 g src) ≡ true → Few s
      → IsSettled (kept_until s g src end) → Few (kept_until s g src end)
  unfolding kept_until
  kept_few s g src end there f settled =
      let P : Key → Type 0 = Named n f.covered.keys in
      let Q : Key → Type 0 = Spread n f.covered.keys in
      record {
        settled = settled;
        bound = f.bound;
        links = f.links;
        covered = record {
          keys = f.covered.keys;
          short = f.covered.short;
          kept = kept_sources P Q s _
              (under_put Q s.sources (source_key 0 g src) _ (row_under Q s.sources (source_key 0 g src) there f.covered.kept.sources) f.covered.kept.sources)
              f.covered.kept;
        };
      }

  keep_few : (s : State) (g src m : ℕ) → IsAtRest s → Few s → Few (keep s g src m)
  keep_few s g src m rest f =
      keep_by s g src m (λ t. IsSettled t → Few t) (λ settled. f)
      (λ end runs sooner settled. kept_few s g src (m + keepalive_period) (running_there s g src (running s g src end runs)) f settled)
      (keep_is_at_rest s g src m rest).settled

  -- ---- one after the other

  given_few : (before : List Given) (l count : ℕ) (s : State) → greatest_limit l before ≤ limit → greatest_count count before ≤ n
      → Led s → AreAccepted s before → Few s → Few (state_given s before)
  unfolding greatest_limit greatest_count state_given
  given_few [] l count s within among led accepted f = f
  given_few (Given.Happening e ∷ later) l count s within among led accepted f =
      given_few later l count (step s e).state within among (step_led s e led) accepted (holds_on n limit some s e f)
  given_few (Given.Reload c w ∷ later) l count s within among led accepted f =
      let a : max l c.limit ≤ greatest_limit (max l c.limit) later = limit_at_least later (max l c.limit) in
      let b : max count (length c.interfaces) ≤ greatest_count (max count (length c.interfaces)) later =
      count_at_least later (max count (length c.interfaces)) in
      given_few later (max l c.limit) (max count (length c.interfaces)) (reload s c w).0 within among
      (reload_led s c w accepted.0 led) accepted.1
      (reload_few s c w accepted.0 (omega (arith, a, within)) (omega (arith, b, among)) led.rest f)
  given_few (Given.Placed m c w ∷ later) l count s within among led accepted f =
      let a : max l c.limit ≤ greatest_limit (max l c.limit) later = limit_at_least later (max l c.limit) in
      let b : max count (length c.interfaces) ≤ greatest_count (max count (length c.interfaces)) later =
      count_at_least later (max count (length c.interfaces)) in
      given_few later (max l c.limit) (max count (length c.interfaces)) (reload_by s m c w).0 within among
      (placed_led s m c w accepted.0 accepted.1 led) accepted.2
      (placed_few s m c w accepted.1 accepted.0 led (omega (arith, a, within)) (omega (arith, b, among)) f)
  given_few (Given.Kept g src m ∷ later) l count s within among led accepted f =
      given_few later l count (keep s g src m) within among (keep_led s g src m led) accepted (keep_few s g src m led.rest f)

all_together : (s : State) (n limit : ℕ) → limit * (n + 1) ≡ limit * n + limit * 1 → limit * 1 ≡ limit → limit * n ≡ n * limit
    → length s.asserts ≤ n * limit → counted_beside_asserts s ≤ limit → counted s ≤ limit * (n + 1)
unfolding counted
all_together s n limit a b c few facts = omega (arith, a, b, c, few, facts)

pub counted_stay_within_the_greatest : CountedStayWithinTheGreatest
counted_stay_within_the_greatest c before s events led =
    let limit : ℕ = greatest_limit c.limit before in
    let n : ℕ = greatest_count (length c.interfaces) before in
    let one : 1 ≤ length c.interfaces = configured_some c led.accepted in
    let more : length c.interfaces ≤ n = count_at_least before (length c.interfaces) in
    let some : 1 ≤ n = omega (arith, one, more) in
    let start : Led (opening c) = opening_led c led.accepted in
    let f : Holds n limit some (state_given (opening c) before) =
    given_few n limit some before c.limit (length c.interfaces) (opening c) (omega arith) (omega arith) start led.reloads
    (opening_holds c n limit some (limit_at_least before c.limit) more start.rest.settled) in
    let g : Holds n limit some (state_after s events) =
    run_few n limit some events s (subst (Holds n limit some) (sym led.led) f) in
    all_together (state_after s events) n limit (mul-add limit n 1) (mul-one limit) (mul_comm limit n)
    (asserts_few n limit some (state_after s events) g) (facts_stay_within_the_greatest c before s events led)
