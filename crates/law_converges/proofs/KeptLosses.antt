-- What leaves the row of an assert that was lost.
use Rattle.std.{proofs.{Common.{◌≡◌, ◌∙◌, ℕ, suc, zero, ◌+◌, ◌-◌, ◌<◌, ◌≤◌, ◌⊎◌, inl, inr, ◌&&◌, ◌||◌, ◌==◌, not, nat_le, Bool, true, false, List, filter, length, Option, Some, None, Ok, Result, option_map, refl, sym, ap, subst, arith, eqb-true}, lemmas.{Bool.{both_ways, Decides.nat_tests}}}, specs.{Cmp.{first_so, second_so}, List.{find}, Option.{option_map_or, option_or}}}
use Rattle.pim_types.{specs.{Keys.{same_key}, declared.{event.{Event.Event, EventKind.EventKind}, fact.{AssertMetric.AssertMetric, AssertRow.AssertRow, Key.Key, SourceRow.SourceRow}, outcome.Verdict.Verdict, timer.TimerKind.TimerKind}}, proofs.Keys.{equal_keys}}
use Rattle.pim_ip.{specs.declared.refusal.Refusal.Refusal}
use Rattle.pim_wire.{specs.{declared.{assert.Assert.Assert as AssertMessage}}}
use Rattle.pim_model.{specs.{declared.accepted.Accepted.Accepted, Asserts.{assert_as_loser, assert_at, assert_forgotten, assert_received, theirs_of, without_spt_bit}, Cause.{done_as, if_done}, Clearing.{ClearAssert, ClearSptBit, Cleared, assert_must_go, assert_to_clear, clear, clear_all, clearable_count, cleared, first_by, is_assert_first, loser_must_go, spt_must_go, spt_to_clear, to_clear}, Firing.{fire_all, fire_instant, fire_once, fired, settled}, Judging.{Judged, advance_judged, judged, refuse_if, ◌>>◌}, Messages.Message, Registers.{settle_registers}, Rows.same_metric, Repeat.{after_next, and_then, until_none}, Sets.{is_better}, State.{State, is_up}, Step.{advanced, change, done, step, taken}, Tables.{drop_at, drop_where, row_at, same_option}, Timers.{Ending, next_due, timers}}}
use Rattle.law_settled.{specs.Ready.{IsLawful, IsSettled, Rises}, proofs.{Changes.change_fine, Ends.{Ends, shows}, FineStates.Anyhow, Firing.{any, any_late, at_moment, fired_fine}, Judgements.{IsHere, IsJudged, kind_is_judged}, LawfulFiring.{lawful_is_sound, one_firing_is_lawful}, LawfulStates.its_order, ListLaws.{any_of_filter, each_passes, first_by_member, first_of_all}, RisingKeys.{sorted_of_up, up_filter, up_of_sorted}, RowLaws.{row_drop_away}, SettledStates.settled_is_lawful, TimerLaws.{IsNext, is_next}, Unsettled.{Untold, cleared_in_the_end}}}
use Rattle.law_events.{proofs.SameRows.metrics}
use Rattle.law_streams.{specs.{Copies.happens, Joins.is_time}, proofs.{Lasts.only_row, Taken.apart_keys}}
use Rattle.law_hosts.{proofs.Done.after_event}
use Rattle.law_converges.{specs.{LinkAsserts.{gives_way, is_about, key_about, lost_to}, LinkLosers.{EventKeepsLoss, LosesUntil, ends_loss, lengthens_loss, needs_no_clearing, passes_throughout, reads_assert, survives, survives_instant, survives_timer}}, proofs.{AssertRows.{Stays, assert_by_row, at_another, change_kept, fired_same}, LinkAsserts.row_lost}}

-- ---- a repetition whose steps pass a test

module _ {S D E : Type 0} (next : S → Option D) (once : S → D → S × List E) (test : S → D → Bool) (P : S → Type 0)
    (keeps : (s : S) (d : D) → P s → next s ≡ Some d → test s d ≡ true → P (once s d).0) where
  kept_by_turn : (n : ℕ) → ((t : S) → P t → passes_throughout next once test n t ≡ true → P (until_none next once n t).0)
      → (s : S) (o : Option D) → next s ≡ o → P s
      → option_map_or (λ d. test s d && passes_throughout next once test n (once s d).0) o true ≡ true
      → P (after_next next once (λ t. until_none next once n t) s o).0
  unfolding after_next and_then
  kept_by_turn n later s None is f passes = f
  kept_by_turn n later s (Some d) is f passes =
      later (once s d).0 (keeps s d f is (first_so (test s d) _ passes)) (second_so (test s d) _ passes)

  kept_throughout : (n : ℕ) (s : S) → P s → passes_throughout next once test n s ≡ true → P (until_none next once n s).0
  unfolding until_none passes_throughout
  kept_throughout zero s f passes = f
  kept_throughout (suc n) s f passes = kept_by_turn n (kept_throughout n) s (next s) refl f passes

-- ---- the row of who has lost

module _ (k : Key) (winner : AssertMetric) (until : ℕ) where
  abbrev row : AssertRow
  row = lost_to winner until

  abbrev There : State → Type 0
  There s = Stays k row s

  pub record InOrder (s : State) : Type 0 where
    pub there : There s
    pub rises : Rises s.asserts

  -- ---- clearing

  module _ (o s : State) (f : InOrder s) where
    must_go : loser_must_go o s k row ≡ true → not (loser_must_go o s k (lost_to winner 0)) ≡ true → ⊥
    must_go e off = grind (arith, e, off)

    same_entry : (x : Key × AssertRow) → x.1 ≡ row → same_key k x.0 ≡ true → assert_must_go o s x ≡ true → assert_must_go o s (k, row) ≡ true
    same_entry x is same goes =
        subst (λ (q : Key). assert_must_go o s (q, row) ≡ true) (sym (equal_keys k x.0 same))
        (subst (λ (r : AssertRow). assert_must_go o s (x.0, r) ≡ true) is goes)

    goes_so : (d : Key × AssertRow) → first_by is_assert_first (filter (assert_must_go o s) s.asserts) ≡ Some d → same_key k d.0 ≡ true
        → loser_must_go o s k row ≡ true
    unfolding assert_must_go
    goes_so d was same =
        only_row k (assert_must_go o s) row s.asserts f.rises f.there
        (any_of_filter (assert_must_go o s) (λ e. same_key k e.0 && assert_must_go o s e) s.asserts
        (first_by_member is_assert_first (λ e. same_key k e.0 && assert_must_go o s e) (filter (assert_must_go o s) s.asserts) d
        (rw (
          same,
          first_of_all is_assert_first (λ e. assert_must_go o s e ≡ true) (filter (assert_must_go o s) s.asserts)
              (each_passes (assert_must_go o s) s.asserts) d was,
        ) refl) was))
        same_entry

    no_spt : (j : Key) (r : AssertRow) (o : Option (Key × SourceRow)) → option_map (λ e. ClearSptBit e.0) o ≡ Some (ClearAssert j r) → ⊥
    no_spt j r None e = cc e
    no_spt j r (Some x) e = cc e

    first_goes : (j : Key) (r : AssertRow) (d : Option (Key × AssertRow))
        → first_by is_assert_first (filter (assert_must_go o s) s.asserts) ≡ d
        → option_or (option_map (λ e. ClearAssert e.0 e.1) d) (spt_to_clear s) ≡ Some (ClearAssert j r) → same_key k j ≡ true
        → loser_must_go o s k row ≡ true
    unfolding spt_to_clear
    first_goes j r None was is same = absurd (no_spt j r (find (spt_must_go s) s.sources) is)
    first_goes j r (Some d) was is same =
        let at : d.0 ≡ j = cc in goes_so d was (subst (λ (q : Key). same_key k q ≡ true) (sym at) same)

    its_turn : (j : Key) (r : AssertRow) → to_clear o s ≡ Some (ClearAssert j r) → same_key k j ≡ true → loser_must_go o s k row ≡ true
    unfolding to_clear assert_to_clear
    its_turn j r is same = first_goes j r (first_by is_assert_first (filter (assert_must_go o s) s.asserts)) refl is same

    forgets : (j : Key) → same_key k j ≡ false → InOrder (assert_forgotten s j)
    unfolding assert_forgotten drop_at drop_where
    forgets j off = record {
      there = row_drop_away j k (apart_keys j k off) s.asserts ∙ f.there;
      rises = sorted_of_up (filter (λ e. not (same_key j e.0)) s.asserts) (up_filter (λ e. not (same_key j e.0)) s.asserts (up_of_sorted s.asserts f.rises));
    }

    clears : (c : Cleared) → to_clear o s ≡ Some c → not (loser_must_go o s k (lost_to winner 0)) ≡ true → InOrder (cleared s c).0
    unfolding cleared without_spt_bit
    clears (ClearAssert j r) is off = go (same_key k j) refl
      where
        go : (b : Bool) → same_key k j ≡ b → InOrder (assert_forgotten s j)
        go true same = absurd (must_go (its_turn j r is same) off)
        go false same = forgets j same
    clears (ClearSptBit j) is off = record { there = f.there; rises = f.rises }

  pub stays_settled : (o : State) (c : State × List Message) (w : ℕ) → InOrder c.0 → needs_no_clearing k winner o c.0 ≡ true
      → There (settled o c w).0
  unfolding clear clear_all settle_registers needs_no_clearing
  stays_settled o c w f passes =
      ap (λ (u : Untold). row_at u.asserts k) (cleared_in_the_end o c w)
      ∙ (kept_throughout (to_clear o) cleared (λ u d. not (loser_must_go o u k (lost_to winner 0))) InOrder
      (λ s d g is off. clears o s g d is off) (clearable_count (settle_registers c.0)) (settle_registers c.0)
      (record { there = f.there; rises = f.rises }) passes).there

  -- ---- each event's own change

  module _ (s : State) (theirs : AssertMetric) (f : There s) where
    unmoved : is_better theirs winner ≡ false → (theirs.address.bits == winner.address.bits) ≡ false → assert_as_loser s k row theirs ≡ s
    unfolding assert_as_loser
    unmoved worse other = rw (worse, other) refl

    at_own : is_better theirs winner ≡ false → (theirs.address.bits == winner.address.bits) ≡ false → There (assert_at s k theirs).0
    at_own worse other =
        ap (λ (p : State × List Message). row_at p.0.asserts k) (assert_by_row s k theirs (Some row) f)
        ∙ (ap (λ (t : State). row_at t.asserts k) (unmoved worse other) ∙ f)

    abbrev matters : Bool
    matters = is_better theirs winner || (theirs.address.bits == winner.address.bits)

    neither : (a b : Bool) → (a || b) ≡ false → (a ≡ false) × (b ≡ false)
    neither false false e = (refl, refl)
    neither true b e = cc e
    neither false true e = cc e

    at_any : (j : Key) → (same_key k j && matters) ≡ false → There (assert_at s j theirs).0
    at_any j off = go (same_key k j) refl off
      where
        go : (b : Bool) → same_key k j ≡ b → (b && matters) ≡ false → There (assert_at s j theirs).0
        go false apart e = at_another k s j apart theirs ∙ f
        go true same e =
            let both : (is_better theirs winner ≡ false) × ((theirs.address.bits == winner.address.bits) ≡ false) =
            neither (is_better theirs winner) _ e in
            subst (λ (q : Key). There (assert_at s q theirs).0) (equal_keys k j same) (at_own both.0 both.1)

  received_else : (s : State) (i from : ℕ) (a : AssertMessage) → There s
      → (reads_assert k i a && (is_better (theirs_of a from) winner || (from == winner.address.bits))) ≡ false
      → There (assert_received s i from a).0
  unfolding assert_received
  received_else s i from a f off = grind (arith, at_any)

  -- ---- an Assert by which it loses again

  own_again : (s : State) (end i from : ℕ) (a : AssertMessage) → There s → lengthens_loss s k winner end i from a ≡ true
      → LosesUntil (assert_received s i from a).0 k winner end
  own_again s end i from a f long =
      let first = first_so ((is_about a && same_key (key_about i a) k) && same_metric (theirs_of a from) winner) _ long in
      let second = second_so ((is_about a && same_key (key_about i a) k) && same_metric (theirs_of a from) winner) _ long in
      let about : is_about a ≡ true = first_so (is_about a) _ (first_so (is_about a && same_key (key_about i a) k) _ first) in
      let key : key_about i a ≡ k = equal_keys _ k (second_so (is_about a) _ (first_so (is_about a && same_key (key_about i a) k) _ first)) in
      let theirs : theirs_of a from ≡ winner = metrics _ winner (second_so (is_about a && same_key (key_about i a) k) _ first) in
      let gives : gives_way s k row (theirs_of a from) ≡ true = first_so (gives_way s k row (theirs_of a from)) _ second in
      record {
        until = s.present + 180000;
        found = subst (λ (m : AssertMetric). row_at (assert_received s i from a).0.asserts k ≡ Some (lost_to m (s.present + 180000))) theirs
            (subst (λ (q : Key). row_at (assert_received s i from a).0.asserts q ≡ Some (lost_to (theirs_of a from) (s.present + 180000))) key
            (row_lost s i from a row about (ap (row_at s.asserts) key ∙ f) (ap (λ (q : Key). gives_way s q row (theirs_of a from)) key ∙ gives)));
        lasts = at_most end (s.present + 180000) (second_so (gives_way s k row (theirs_of a from)) _ second);
      }
    where
      at_most : (m n : ℕ) → nat_le m n ≡ true → m ≤ n
      at_most m n e = grind (arith, nat_tests, e)

  -- ---- any other change of an event's own

  module _ (end : ℕ) (low : end ≤ until) where
    abbrev Keeps : State → Type 0
    Keeps s = LosesUntil s k winner end

    stays : (s : State) → There s → Keeps s
    stays s f = record { until = until; found = f; lasts = low }

    unless_long : (b c : Bool) → (b && not c) ≡ false → (c ≡ true) ⊎ (b ≡ false)
    unless_long b true e = inl refl
    unless_long false false e = inr refl
    unless_long true false e = cc e

    assert_kept : (s : State) (j from : ℕ) (a : AssertMessage) → There s
        → ((reads_assert k j a && (is_better (theirs_of a from) winner || (from == winner.address.bits))) && not (lengthens_loss s k winner end j from a)) ≡ false
        → Keeps (assert_received s j from a).0
    assert_kept s j from a f off = go (unless_long _ (lengthens_loss s k winner end j from a) off)
      where
        go : (lengthens_loss s k winner end j from a ≡ true)
            ⊎ ((reads_assert k j a && (is_better (theirs_of a from) winner || (from == winner.address.bits))) ≡ false)
            → Keeps (assert_received s j from a).0
        go (inl long) = own_again s end j from a f long
        go (inr none) = stays _ (received_else s j from a f none)

    change_stays : (s : State) (w : ℕ) (a : Accepted) → There s → ends_loss s k winner end (Some a) ≡ false → Keeps (change s w a).state
    unfolding change
    change_stays s w (Accepted.Assert j from a) f off = assert_kept s j.number from.bits a f off
    change_stays s w a f off = stays (change s w a).state (change_kept k row s w a f off)

  -- ---- time

  module _ (m w : ℕ) (before : m < until) where
    pub record Kept (s : State) : Type 0 where
      pub there : There s
      pub lawful : IsLawful s

    -- its own timer doesn't expire
    isnt_own : (s : State) (d : Ending) → Kept s → d.end ≤ m → d.timer.kind ≡ TimerKind.Assert
        → shows d.timer.kind (Ends d.timer.key d.end) s ≡ true → same_key k d.timer.key ≡ false
    isnt_own s d f low kind shown = go (same_key k d.timer.key) refl
      where
        ends_then : (q : Key) → k ≡ q → shows TimerKind.Assert (Ends q d.end) s ≡ true → same_option (Some until) (Some d.end) ≡ true
        ends_then q same is =
            only_row k (λ e. same_option (Some (e.1).end) (Some d.end)) row s.asserts ((f.lawful).ordered).asserts f.there
            (subst (λ (z : Key). shows TimerKind.Assert (Ends z d.end) s ≡ true) (sym same) is)
            (λ x is at passes. subst (λ (r : AssertRow). same_option (Some r.end) (Some d.end) ≡ true) is passes)

        go : (b : Bool) → same_key k d.timer.key ≡ b → b ≡ false
        go false e = refl
        go true e =
            let is : until ≡ d.end = eqb-true until d.end (ends_then d.timer.key (equal_keys k d.timer.key e)
            (subst (λ (q : TimerKind). shows q (Ends d.timer.key d.end) s ≡ true) kind shown)) in
            absurd (omega (arith, is, low, before))

    abbrev opened : State → Ending → State
    opened s d = record s { present = d.end }

    fired_rises : (s : State) (d : Ending) → IsLawful s → Rises ((fired (opened s d) d.timer.kind d.timer.key).0).asserts
    fired_rises s d f =
        (its_order d.end any (is_up s) (fired (opened s d) d.timer.kind d.timer.key).0
        (fired_fine d.end any (is_up s) (any_late d.end) (opened s d) d.timer.kind d.timer.key
        (at_moment s.present d.end any (is_up s) s (lawful_is_sound s f)))).asserts

    once_keeps : (s : State) (d : Ending) → Kept s → d.end ≤ m → shows d.timer.kind (Ends d.timer.key d.end) s ≡ true
        → survives_timer k winner s d ≡ true → Kept (fire_once w s d).0
    unfolding fire_once survives_timer
    once_keeps s d f low shown passes = record {
      there = stays_settled s (fired (opened s d) d.timer.kind d.timer.key) w (record {
        there = fired_same k (opened s d) d.timer.kind d.timer.key (λ kind. isnt_own s d f low kind shown) ∙ f.there;
        rises = fired_rises s d f.lawful;
      }) passes;
      lawful = one_firing_is_lawful w s d f.lawful;
    }

    instant_keeps : (s : State) (e : Ending) → Kept s → e.end ≤ m → survives_instant k winner w s e ≡ true → Kept (fire_instant w s e).0
    unfolding fire_instant survives_instant
    instant_keeps s e f low passes =
        kept_throughout (next_due e.end) (fire_once w) (survives_timer k winner) Kept
        (λ u d g there ok.
        let next : IsNext e.end u d = is_next e.end u d there in
        let due : d.end ≤ e.end = next.due in once_keeps u d g (omega (arith, due, low)) next.shown ok)
        (length (timers s) + 1) s f passes

    time_keeps : (s : State) → Kept s → survives k winner s w (Some (Accepted.Advance m)) ≡ true → There (advanced s w m).state
    unfolding advanced fire_all survives
    time_keeps s f passes =
        (kept_throughout (next_due m) (fire_instant w) (survives_instant k winner w) Kept
        (λ u d g there ok. instant_keeps u d g (is_next m u d there).due ok) (m + 2 - s.present) s f passes).there

-- ---- any event

judged_as : (answer : Result Verdict Refusal) (j : Judged) (a : Accepted) → if_done answer j ≡ Some a → j ≡ Ok a
judged_as answer j a e = grind arith

advances : (s : State) (m : ℕ) (a : Accepted) (back far : Bool)
    → (refuse_if back Refusal.MomentBack >> refuse_if far Refusal.MomentFar >> Ok (Accepted.Advance m)) ≡ Ok a → is_time a ≡ true
advances s m a back far e = grind arith

here_by_kind : (s : State) (kind : EventKind) (a : Accepted) → judged s kind ≡ Ok a → is_time a ≡ false → IsHere (is_up s) a
unfolding judged advance_judged
here_by_kind s (EventKind.Advance m) a is timeless = absurd (both_ways (is_time a) timeless (advances s m a _ _ is))
here_by_kind s kind a is timeless = (subst (IsJudged (IsHere (is_up s))) is (kind_is_judged s kind tt)).accepts

-- a change leaves the asserts in order
pub changed_rises : (s : State) (e : Event) (a : Accepted) → IsSettled s → done_as (happens s e) ≡ Some a → is_time a ≡ false
    → Rises (change s e.draw a).state.asserts
unfolding done_as
changed_rises s e a rest was timeless =
    let after : Anyhow s.present any (change s e.draw a).state =
    change_fine s.present any (is_up s) (any_late s.present) s (lawful_is_sound s (settled_is_lawful s rest)) e.draw a
    (here_by_kind s e.kind a (judged_as (step s e).answer (judged s e.kind) a was) timeless) in
    (its_order s.present any after.ups (change s e.draw a).state after.fine).asserts

module _ (s : State) (e : Event) (k : Key) (winner : AssertMetric) (end : ℕ) (rest : IsSettled s) (f : LosesUntil s k winner end) where
  abbrev After : Option Accepted → State → Type 0
  After o t = t.present < end → ends_loss s k winner end o ≡ false → survives k winner s e.draw o ≡ true → LosesUntil t k winner end

  by_time : (m : ℕ) → After (Some (Accepted.Advance m)) (advanced s e.draw m).state
  unfolding advanced
  by_time m early own way = record {
    until = f.until;
    found = time_keeps k winner f.until m e.draw (before m end f.until early f.lasts) s
        (record { there = f.found; lawful = settled_is_lawful s rest }) way;
    lasts = f.lasts;
  }
    where
      before : (a b c : ℕ) → a < b → b ≤ c → a < c
      before a b c lt le = omega (arith, lt, le)

  by_change : (a : Accepted) → done_as (happens s e) ≡ Some a → is_time a ≡ false → ends_loss s k winner end (Some a) ≡ false
      → needs_no_clearing k winner s (change s e.draw a).state ≡ true → LosesUntil (done s e.draw (change s e.draw a)).state k winner end
  unfolding done
  by_change a was timeless own way =
      let kept : LosesUntil (change s e.draw a).state k winner end = change_stays k winner f.until end f.lasts s e.draw a f.found own in
      record {
        until = kept.until;
        found = stays_settled k winner kept.until s ((change s e.draw a).state, (change s e.draw a).messages) e.draw
            (record { there = kept.found; rises = changed_rises s e a rest was timeless }) way;
        lasts = kept.lasts;
      }

  takes : (a : Accepted) → done_as (happens s e) ≡ Some a → After (Some a) (taken s e.draw a).state
  unfolding taken survives
  takes (Accepted.Advance m) was = by_time m
  takes a was = λ early own way. by_change a was refl own way

pub event_keeps_loss : EventKeepsLoss
event_keeps_loss s e k winner end rest f early keeps =
    after_event (After s e k winner end rest f) s e (λ low own way. f) (takes s e k winner end rest f) early keeps.own keeps.way
