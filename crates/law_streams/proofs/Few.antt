-- There are at most as many asserts as the limit on each interface.
use Rattle.std.{proofs.{Common.{◌≡◌, ℕ, ◌+◌, ◌*◌, ◌<◌, ◌≤◌, ◌==◌, not, ◌&&◌, ⊎_elim, nat_le, Bool, true, false, cond, List, [], ◌∷◌, ◌++◌, length, Result, Ok, ap, subst, arith, length-append}, Math.Nat.{mul-add, mul-le-mul_left, mul-one, mul_comm, one-mul}, lemmas.{Nat.mul-le, Bool.{or_left, or_right, Decides.nat_tests}, List.Folds.list_any-append}}}
use Rattle.pim_ip.{specs.{declared.refusal.Refusal.Refusal, Tests.{expect, ◌>>◌}}}
use Rattle.pim_types.{specs.{Keys.{group_in, same_key, source_in, source_key, star_key}, declared.{config.{Config.Config, Settings.Settings}, event.Event.Event, fact.Key.Key}}, proofs.Keys.same_key_same}
use Rattle.pim_wire.{specs.{RegisterParts.{registered_group, registered_source}, declared.assert.Assert.Assert as AssertMessage}}
use Rattle.pim_model.{specs.{declared.accepted.Accepted.Accepted, AssertMacros.is_infinite, Asserts.theirs_of, Downstream.{is_named, joined_keys, pruned_keys}, Full.{asserted_keys, counted, is_full, makeable_keys, needed, reported_groups}, Judging.{Judged, judged}, Limits.{config_test, most_ifaces}, State.{Addressing, State, iface_count, opening, settings_of}, Step.{concluded, state_after, step, taken, taken_unless_full}, Tables.{Table, has_row, keys_in}, Unicast.is_rp}}
use Rattle.law_settled.{proofs.{ListLaws.{each_map, each_more}, StepLaws.kept_by_run, UnchangedLaws.full_or_taken, RisingKeys.up_of_sorted, Steps.{opening_is_settled, step_is_settled}}, specs.Ready.IsSettled}
use Rattle.law_events.{proofs.Reached.IsConfigured}
use Rattle.law_streams.{specs.Bounded.{AssertsStayBounded, CountedStayBounded, needed_by}, proofs.{Asserts.asserted, Bounded.{has_room, run_stays_within}, Counting.{no_longer, own, rising_apart}, Covered.{all_widened, all_widened_long, each_named, keys_long, keys_of, missing, missing_long, missing_named, named_left, named_right, none_missing, source_widened, spreads, spreads_long, spreads_named, star_widened}, Keyed.Kept, KeyedChanges.{Names, taken_kept}, KeyedEvents.row_under, Placed.{IsIn, IsPlaced, kind_is_placed}, Settings.step_configured, Within.room}}

asserted_star : (i : ℕ) (a : AssertMessage) → a.rpt ≡ true → is_named (asserted_keys i a) (star_key i a.group.bits) ≡ true
unfolding asserted_keys is_named
asserted_star i a e = grind (arith, list_any-append, or_right, or_left, same_key_same)

-- ---- an event that needs nothing names keys with rows

when_false : (b : Bool) (m : ℕ) → cond b 0 m ≡ 0 → b ≡ false → m ≡ 0
when_false b m e f = grind arith

when_true : (b : Bool) (m : ℕ) → cond b m 0 ≡ 0 → b ≡ true → m ≡ 0
when_true b m e f = grind arith

first_zero : (a b : ℕ) → a + b ≡ 0 → a ≡ 0
first_zero a b e = omega (arith, e)

there_not_absent : (b : Bool) → b ≡ true → b ≡ false → ⊥
there_not_absent b e f = cc (e, f)

itself_named : (k : Key) → is_named (k ∷ []) k ≡ true
unfolding is_named
itself_named k = or_left (same_key k k) false (same_key_same k)

module _ (P Q : Key → Type 0) (n : ℕ) (spread : (g src : ℕ) → Q (source_key 0 g src) → (i : ℕ) → i < n → P (source_key i g src)) where
  names_nothing : (s : State) (a : Accepted) → IsIn n a → needed_by s a ≡ 0 → Kept P Q s → Names P Q n spread s a
  unfolding needed_by
  names_nothing s (Accepted.JoinPruneToMe i m) here e f = λ lasts.
      each_named P _ (λ k h. row_under P s.downstream k (none_missing s.downstream _ k (when_false (m.holdtime == 0) _ e lasts) h) f.downstream)
  names_nothing s (Accepted.Assert i from a) here e f =
      let row : (k : Key) → is_infinite (theirs_of a 0) ≡ false → is_named (asserted_keys i.number a) k ≡ true → has_row s.asserts k ≡ true =
      λ k finite h. none_missing s.asserts (asserted_keys i.number a) k (when_false (is_infinite (theirs_of a 0)) _ e finite) h in
      record {
        here = here;
        source = λ named finite. row_under P s.asserts _ (row _ finite (asserted i.number a (ap not named))) f.asserts;
        moved = λ named none finite. absurd (there_not_absent _ (row _ finite (asserted i.number a (ap not named))) none);
        star = λ rpt finite. row_under P s.asserts _ (row _ finite (asserted_star i.number a rpt)) f.asserts;
      }
  names_nothing s (Accepted.Report i records) here e f =
      each_named P _
      (λ k h. row_under P s.group_records k (none_missing s.group_records (reported_groups i.number records) k (first_zero _ _ e) h) f.groups)
  names_nothing s (Accepted.Data i p) here e f =
      (here, row_under Q s.sources _ (none_missing s.sources _ _ e (itself_named (source_key 0 p.destination p.source))) f.sources)
  names_nothing s (Accepted.Register p r) here e f = λ at.
      row_under Q s.sources _
      (none_missing s.sources _ _ (when_true (is_rp s (registered_group r) p.destination) _ e at)
      (itself_named (source_key 0 (registered_group r) (registered_source r)))) f.sources
  names_nothing s (Accepted.Advance moment) here e f = tt
  names_nothing s (Accepted.Up i) here e f = tt
  names_nothing s (Accepted.Down i) here e f = tt
  names_nothing s (Accepted.Routes routes) here e f = tt
  names_nothing s (Accepted.Rps ranges) here e f = tt
  names_nothing s (Accepted.Hello i from h) here e f = tt
  names_nothing s (Accepted.JoinPruneSeen i m) here e f = tt
  names_nothing s (Accepted.Query i from q) here e f = tt
  names_nothing s (Accepted.RegisterStop from r) here e f = tt

-- ---- an event with room: the keys are taken anew

module _ (n : ℕ) where
  abbrev pub Named : List Key → Key → Type 0
  Named ks k = is_named ks k ≡ true

  abbrev pub Spread : List Key → Key → Type 0
  Spread ks k = (i : ℕ) → i < n → is_named ks (source_key i (group_in k) (source_in k)) ≡ true

  abbrev spreads_over : (ks : List Key) → (g src : ℕ) → Spread ks (source_key 0 g src) → (i : ℕ) → i < n → Named ks (source_key i g src)
  spreads_over ks g src q = q

  abbrev new : State → Accepted → List Key
  new s (Accepted.JoinPruneToMe i m) =
      cond (m.holdtime == 0) [] (missing s.downstream (makeable_keys (joined_keys s i.number m) (pruned_keys i.number m)))
  new s (Accepted.Assert i from a) =
      cond (is_infinite (theirs_of a 0)) [] (all_widened n (missing s.asserts (asserted_keys i.number a)))
  new s (Accepted.Report i records) = missing s.group_records (reported_groups i.number records)
  new s (Accepted.Data i p) = all_widened n (missing s.sources (source_key 0 p.destination p.source ∷ []))
  new s (Accepted.Register p r) =
      cond (is_rp s (registered_group r) p.destination)
      (all_widened n (missing s.sources (source_key 0 (registered_group r) (registered_source r) ∷ []))) []
  new s a = []

  module _ (positive : 1 ≤ n) where
    no_less_times : (m : ℕ) → m ≤ n * m
    no_less_times m = grind (arith, mul-le, one-mul)

    plain_long : {R : Type 0} (t : Table R) (ks : List Key) → length (missing t ks) ≤ n * needed t ks
    plain_long t ks = grind (arith, no_less_times, missing, missing_long)

    wide_long : {R : Type 0} (t : Table R) (ks : List Key) → length (all_widened n (missing t ks)) ≤ n * needed t ks
    wide_long t ks = grind (arith, all_widened, missing, missing_long, all_widened_long)

    none_long : (m : ℕ) → 0 ≤ n * m
    none_long m = omega arith

    either_long : (b : Bool) (xs : List Key) (m : ℕ) → length xs ≤ n * m → length (cond b [] xs) ≤ n * cond b 0 m
    either_long b xs m le = grind (arith, none_long)

    or_long : (b : Bool) (xs : List Key) (m : ℕ) → length xs ≤ n * m → length (cond b xs []) ≤ n * cond b m 0
    or_long b xs m le = grind (arith, none_long)

    new_long : (s : State) (a : Accepted) → length (new s a) ≤ n * needed_by s a
    unfolding needed_by
    new_long s a = grind (arith, either_long, plain_long, wide_long, mul-add, or_long, none_long)

  -- all together
  abbrev anew : State → Accepted → List Key
  anew s a = keys_of n s ++ new s a

  module _ (s : State) (a : Accepted) where
    of_state : (k : Key) → is_named (keys_of n s) k ≡ true → Named (anew s a) k
    of_state k e = named_left (keys_of n s) (new s a) k e

    of_new : (k : Key) → is_named (new s a) k ≡ true → Named (anew s a) k
    of_new k e = named_right (keys_of n s) (new s a) k e

    kept_anew : Kept (Named (anew s a)) (Spread (anew s a)) s
    kept_anew = record {
      asserts = each_more _ (λ e. Named (anew s a) e.0)
          (λ e h. of_state e.0 (named_left (keys_in s.asserts) _ e.0 h)) s.asserts (own s.asserts);
      downstream = each_more _ (λ e. Named (anew s a) e.0)
          (λ e h. of_state e.0 (named_right (keys_in s.asserts) _ e.0 (named_left (keys_in s.downstream) _ e.0 h))) s.downstream (own s.downstream);
      groups = each_more _ (λ e. Named (anew s a) e.0)
          (λ e h. of_state e.0 (named_right (keys_in s.asserts) _ e.0 (named_right (keys_in s.downstream) _ e.0 (named_left (keys_in s.group_records) _ e.0 h))))
          s.group_records (own s.group_records);
      sources = each_more _ (λ e. Spread (anew s a) e.0)
          (λ e h i lt. of_state _ (named_right (keys_in s.asserts) _ _ (named_right (keys_in s.downstream) _ _ (named_right (keys_in s.group_records) _ _ (h i lt)))))
          s.sources (spreads_named n s.sources);
    }

-- a named key has a row, or is one of the new
in_or_new : {R X : Type 0} (t : Table R) (ks : List Key) (k : Key) → is_named ks k ≡ true → (has_row t k ≡ true → X)
    → (is_named (missing t ks) k ≡ true → X) → X
in_or_new = grind (arith, missing_named)

pick_else : (b : Bool) (xs : List Key) (k : Key) → b ≡ false → is_named xs k ≡ true → is_named (cond b [] xs) k ≡ true
pick_else b xs k e f = grind arith

pick_then : (b : Bool) (xs : List Key) (k : Key) → b ≡ true → is_named xs k ≡ true → is_named (cond b xs []) k ≡ true
pick_then b xs k e f = grind arith

module _ (n : ℕ) (s : State) where
  abbrev kept : (a : Accepted) → Kept (Named n (anew n s a)) (Spread n (anew n s a)) s
  kept a = kept_anew n s a

  names_room : (a : Accepted) → IsIn n a
      → Names (Named n (anew n s a)) (Spread n (anew n s a)) n (spreads_over n (anew n s a)) s a
  names_room (Accepted.JoinPruneToMe i m) here = λ lasts.
      let a : Accepted = Accepted.JoinPruneToMe i m in
      let ks : List Key = makeable_keys (joined_keys s i.number m) (pruned_keys i.number m) in
      each_named (Named n (anew n s a)) ks
      (λ k h. in_or_new s.downstream ks k h (λ there. row_under (Named n (anew n s a)) s.downstream k there (kept a).downstream)
      (λ none. of_new n s a k (pick_else (m.holdtime == 0) (missing s.downstream ks) k lasts none)))
  names_room (Accepted.Assert i from x) here =
      let a : Accepted = Accepted.Assert i from x in
      let ks : List Key = asserted_keys i.number x in
      let g : ℕ = x.group.bits in
      let src : ℕ = x.source.bits in
      record {
        here = here;
        source = λ named finite. in_or_new s.asserts ks (source_key i.number g src) (asserted i.number x (ap not named))
            (λ there. row_under (Named n (anew n s a)) s.asserts _ there (kept a).asserts)
            (λ none. of_new n s a _ (pick_else (is_infinite (theirs_of x 0)) _ _ finite (source_widened n _ i.number g src i.number none here)));
        moved = λ named absent finite j lt. of_new n s a _
            (pick_else (is_infinite (theirs_of x 0)) _ _ finite
            (source_widened n _ i.number g src j (missing_named s.asserts ks _ absent (asserted i.number x (ap not named))) lt));
        star = λ rpt finite. in_or_new s.asserts ks (star_key i.number g) (asserted_star i.number x rpt)
            (λ there. row_under (Named n (anew n s a)) s.asserts _ there (kept a).asserts)
            (λ none. of_new n s a _ (pick_else (is_infinite (theirs_of x 0)) _ _ finite (star_widened n _ i.number g none)));
      }
  names_room (Accepted.Report i records) here =
      let a : Accepted = Accepted.Report i records in
      each_named (Named n (anew n s a)) (reported_groups i.number records)
      (λ k h. in_or_new s.group_records (reported_groups i.number records) k h
      (λ there. row_under (Named n (anew n s a)) s.group_records k there (kept a).groups) (λ none. of_new n s a k none))
  names_room (Accepted.Data i p) here =
      let a : Accepted = Accepted.Data i p in (
        here,
        in_or_new s.sources _ (source_key 0 p.destination p.source) (itself_named (source_key 0 p.destination p.source))
            (λ there. row_under (Spread n (anew n s a)) s.sources _ there (kept a).sources)
            (λ none j lt. of_new n s a _ (source_widened n _ 0 p.destination p.source j none lt)),
      )
  names_room (Accepted.Register p r) here = λ at.
      let a : Accepted = Accepted.Register p r in
      let g : ℕ = registered_group r in
      let src : ℕ = registered_source r in
      in_or_new s.sources _ (source_key 0 g src) (itself_named (source_key 0 g src))
      (λ there. row_under (Spread n (anew n s a)) s.sources _ there (kept a).sources)
      (λ none j lt. of_new n s a _ (pick_then (is_rp s g p.destination) _ _ at (source_widened n _ 0 g src j none lt)))
  names_room (Accepted.Advance moment) here = tt
  names_room (Accepted.Up i) here = tt
  names_room (Accepted.Down i) here = tt
  names_room (Accepted.Routes routes) here = tt
  names_room (Accepted.Rps ranges) here = tt
  names_room (Accepted.Hello i from h) here = tt
  names_room (Accepted.JoinPruneSeen i m) here = tt
  names_room (Accepted.Query i from q) here = tt
  names_room (Accepted.RegisterStop from r) here = tt

-- ---- the keys stay few

pub record Covered (n limit : ℕ) (s : State) : Type 0 where
  pub keys : List Key
  pub short : length keys ≤ n * limit
  pub kept : Kept (Named n keys) (Spread n keys) s

module _ (n limit : ℕ) (positive : 1 ≤ n) where
  -- rows that count once, and sources that count on each interface
  added_up : (x sources room' : ℕ) → x + sources + room' ≤ limit → x + n * sources + n * room' ≤ n * limit
  added_up x sources room' le =
      let a : x ≤ n * x = no_less_times n positive x in
      let b : n * (x + sources + room') ≤ n * limit = mul-le-mul_left n le in
      let c : n * (x + sources + room') ≡ n * (x + sources) + n * room' = mul-add n (x + sources) room' in
      let d : n * (x + sources) ≡ n * x + n * sources = mul-add n x sources in
      omega (arith, a, b, c, d)

  anew_short : (s : State) (a : Accepted) → counted s + needed_by s a ≤ limit → length (anew n s a) ≤ n * limit
  unfolding counted
  anew_short s a le =
      let x = length-append (keys_of n s) (new n s a) in
      let y = length-append (keys_in s.asserts) (keys_in s.downstream ++ (keys_in s.group_records ++ spreads n s.sources)) in
      let z = length-append (keys_in s.downstream) (keys_in s.group_records ++ spreads n s.sources) in
      let u = length-append (keys_in s.group_records) (spreads n s.sources) in
      let v = keys_long n s.asserts in
      let w = keys_long n s.downstream in
      let r = keys_long n s.group_records in
      let q = spreads_long n s.sources in
      let m = new_long n positive s a in
      let all : (length s.asserts + length s.downstream + length s.group_records) + n * length s.sources + n * needed_by s a ≤ n * limit =
      added_up (length s.asserts + length s.downstream + length s.group_records) (length s.sources) (needed_by s a) (omega (arith, le)) in
      omega (arith, x, y, z, u, v, w, r, q, m, all)

  module _ (s : State) (settled : IsSettled s) (bound : s.settings.limit ≤ limit) (w : ℕ) (f : Covered n limit s) where
    taken_covered : (a : Accepted) → IsIn n a → is_full s a ≡ false → Covered n limit (taken s w a).state
    taken_covered a here e =
        ⊎_elim
        (λ (none : needed_by s a ≡ 0).
        let c : Covered n limit (taken s w a).state = record {
          keys = f.keys;
          short = f.short;
          kept = taken_kept (Named n f.keys) (Spread n f.keys) n (spreads_over n f.keys) s settled w a
              (names_nothing (Named n f.keys) (Spread n f.keys) n (spreads_over n f.keys) s a here none f.kept) f.kept;
        } in c)
        (λ (le : counted s + needed_by s a ≤ s.settings.limit).
        let c : Covered n limit (taken s w a).state = record {
          keys = anew n s a;
          short = anew_short s a (omega (arith, le, bound));
          kept = taken_kept (Named n (anew n s a)) (Spread n (anew n s a)) n (spreads_over n (anew n s a)) s settled w a
              (names_room n s a here) (kept_anew n s a);
        } in c)
        (room s (needed_by s a) (has_room s a e))

    full_covered : (a : Accepted) → IsIn n a → (b : Bool) → is_full s a ≡ b → Covered n limit (full_or_taken s w a b).state
    full_covered a here b e = grind (arith, taken_covered)

    concluded_covered : (j : Judged) → IsPlaced n j → Covered n limit (concluded s (taken_unless_full s w) j).state
    unfolding taken_unless_full
    concluded_covered j placed = grind (arith, full_covered)

  -- the limit and the interfaces may be fewer, as before a reload
  pub record Holds (s : State) : Type 0 where
    pub settled : IsSettled s
    pub bound : s.settings.limit ≤ limit
    pub links : iface_count s ≤ n
    pub covered : Covered n limit s

  pub holds_on : (s : State) (e : Event) → Holds s → Holds (step s e).state
  unfolding step
  holds_on s e f =
      let same : IsConfigured s (step s e).state = step_configured s e in
      record {
        settled = step_is_settled s e f.settled;
        bound = subst (λ (x : Settings). x.limit ≤ limit) same.settings f.bound;
        links = subst (λ (cs : Addressing). length cs.interfaces ≤ n) same.configured f.links;
        covered = concluded_covered s f.settled f.bound e.draw f.covered (judged s e.kind)
            (kind_is_placed s n f.links e.kind);
      }

  pub asserts_few : (s : State) → Holds s → length s.asserts ≤ n * limit
  unfolding keys_in
  asserts_few s f =
      let le : length (keys_in s.asserts) ≤ length f.covered.keys =
      no_longer (keys_in s.asserts) f.covered.keys
      (rising_apart s.asserts (up_of_sorted s.asserts f.settled.ordered.asserts))
      (each_map (λ e. Named n f.covered.keys e.0) (Named n f.covered.keys) (λ e. e.0) (λ e h. h) s.asserts f.covered.kept.asserts) in
      let short = f.covered.short in
      let long = keys_long n s.asserts in
      omega (arith, le, short, long)

-- ---- from the opening

some_interface : (b : Bool) (refusal : Refusal) (next : Result (Unit {0}) Refusal) → (expect b refusal >> next) ≡ Ok tt → b ≡ true
some_interface b refusal next e = grind arith

at_least_one : (n : ℕ) → (nat_le 1 n && nat_le n most_ifaces) ≡ true → 1 ≤ n
at_least_one n e = grind (arith, nat_tests, e)

pub configured_some : (c : Config) → config_test c ≡ Ok tt → 1 ≤ length c.interfaces
unfolding config_test
configured_some c e = at_least_one (length c.interfaces) (some_interface _ _ _ e)

pub opening_holds : (c : Config) (n limit : ℕ) (some : 1 ≤ n) → c.limit ≤ limit → length c.interfaces ≤ n → IsSettled (opening c)
    → Holds n limit some (opening c)
unfolding opening settings_of
opening_holds c n limit some within among settled = record {
  settled = settled;
  bound = within;
  links = among;
  covered = record { keys = []; short = omega arith; kept = record { asserts = tt; downstream = tt; groups = tt; sources = tt } };
}

pub asserts_stay_bounded : AssertsStayBounded
asserts_stay_bounded c events e =
    let some : 1 ≤ length c.interfaces = configured_some c e in
    let f : Holds (length c.interfaces) c.limit some (state_after (opening c) events) =
    kept_by_run (Holds (length c.interfaces) c.limit some) (holds_on (length c.interfaces) c.limit some) (opening c) events
    (opening_holds c (length c.interfaces) c.limit some (omega arith) (omega arith) (opening_is_settled c e)) in
    let le : length (state_after (opening c) events).asserts ≤ length c.interfaces * c.limit =
    asserts_few (length c.interfaces) c.limit some (state_after (opening c) events) f in
    let swap : length c.interfaces * c.limit ≡ c.limit * length c.interfaces = mul_comm (length c.interfaces) c.limit in
    omega (arith, le, swap)

pub counted_stay_bounded : CountedStayBounded
unfolding counted
counted_stay_bounded c events e = grind (arith, asserts_stay_bounded, run_stays_within, mul-add, mul-one)
