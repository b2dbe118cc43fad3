-- A keepalive timer that runs and is set to a later end: the state is as quiet as before, and answers the same.
use Rattle.std.{proofs.{Common.{◌≡◌, ◌+◌, ◌<◌, ℕ, Bool, true, false, cond, [], lt-ltb, Option, Some, None, nat_lt, option_and_then, refl, sym, ap, subst, ◌∙◌, ◌||◌, arith}, lemmas.Bool.Decides.nat_tests}}
use Rattle.pim_ip.{specs.Ipv4.Packet}
use Rattle.pim_types.{specs.{declared.fact.{Key.Key, SourceRow.SourceRow}, Keys.{group_in, same_key, source_in, source_key}}, proofs.Keys.equal_keys}
use Rattle.pim_model.{specs.{Cache.{Plain, answers, cached}, Registers.{keepalive_period, with_keepalive}, Sets.{is_kept_alive, spt_bit}, State.{State, is_up}, Step.Answered, Tables.{has_row, row_at}}}
use Rattle.law_settled.{proofs.{Parts.Sources, RowLaws.{has_row_put, row_put}, TableLaws.row_of_each, FineStates.{Good, IsFine, Runs, with_row}, SettledStates.{fine_is_settled, settled_is_fine}}, specs.Ready.IsOrdered}
use Rattle.law_events.{specs.{Locality.{AgreesBut, touching}, Rest.IsAtRest, Decided.{kept_if, plainly_taken}}, proofs.{EndsAgain.keepalive_again, OwnKeys.present_touches_none, QuietStates.quiet_goes_on, SameMacros.join_desired_same, Touches.agrees_then, KeptAlive.{kept_as_it_was, now_kept, sees_kept}, PlainPackets.plain_is_stepped, SameAnswers.answers_same}}
use Rattle.law_plane.{specs.Keeping.{KeepChangesNoAnswer, KeepChangesNoRow, KeepEndsLater, KeepIsAPacket, KeepIsAtRest, KeepStartsNone, keep, keepalive_end, kept_until}, proofs.Times.answers_later}

true_lt : (a b : ℕ) → nat_lt a b ≡ true → a < b
true_lt a b e = grind (arith, nat_tests, e)

-- a timer that runs
pub running : (s : State) (g src end : ℕ) → keepalive_end s g src ≡ Some end → is_kept_alive s g src ≡ true
unfolding keepalive_end is_kept_alive
running s g src end e = grind arith

pub running_there : (s : State) (g src : ℕ) → is_kept_alive s g src ≡ true → has_row s.sources (source_key 0 g src) ≡ true
unfolding is_kept_alive has_row
running_there s g src e = grind arith

-- ---- set to end 210 s after a moment

module _ (s : State) (g src m : ℕ) (runs : is_kept_alive s g src ≡ true) where
  abbrev its_key : Key
  its_key = source_key 0 g src

  abbrev at : State
  at = record s { present = m }

  abbrev then : State
  then = with_keepalive at g src

  abbrev later : State
  later = kept_until s g src (m + keepalive_period)

  -- it is set as a packet at the timestamp would set it
  is_later : later ≡ record then { present = s.present }
  unfolding kept_until with_keepalive spt_bit
  is_later = refl

  runs_at : is_kept_alive at g src ≡ true
  unfolding is_kept_alive
  runs_at = runs

  -- no source's timer is started
  alive_at : (h x : ℕ) → is_kept_alive at h x ≡ is_kept_alive then h x
  alive_at h x = go (same_key its_key (source_key 0 h x)) refl
    where
      go : (b : Bool) → same_key its_key (source_key 0 h x) ≡ b → is_kept_alive at h x ≡ is_kept_alive then h x
      go true e =
          subst (λ (k : Key). is_kept_alive at (group_in k) (source_in k) ≡ is_kept_alive then (group_in k) (source_in k))
          (equal_keys its_key (source_key 0 h x) e) (runs_at ∙ sym (now_kept g src at))
      go false e = kept_as_it_was g src at h x e

  alive_then : (h x : ℕ) → is_kept_alive (record then { present = s.present }) h x ≡ is_kept_alive then h x
  unfolding is_kept_alive
  alive_then h x = refl

  alive_before : (h x : ℕ) → is_kept_alive at h x ≡ is_kept_alive s h x
  unfolding is_kept_alive
  alive_before h x = refl

  pub alive_as_before : (h x : ℕ) → is_kept_alive later h x ≡ is_kept_alive s h x
  alive_as_before h x =
      ap (λ (t : State). is_kept_alive t h x) is_later
      ∙ (alive_then h x ∙ (sym (alive_at h x) ∙ alive_before h x))

  -- no answer changes, its own nor another's
  answers_at : (h x : ℕ) → answers at h x ≡ answers then h x
  unfolding with_keepalive
  answers_at h x =
      answers_same h x at then (sees_kept g src at h x)
      (join_desired_same h x at then (sees_kept g src at h x) (alive_at h x)) refl

  pub answers_as_before : (h x : ℕ) → answers later h x ≡ answers s h x
  answers_as_before h x =
      ap (λ (t : State). answers t h x) is_later
      ∙ (sym (answers_later then s.present h x) ∙ (sym (answers_at h x) ∙ sym (answers_later s m h x)))

  facts_as_before : (h x : ℕ) → has_row later.sources (source_key 0 h x) ≡ has_row s.sources (source_key 0 h x)
  unfolding kept_until
  facts_as_before h x =
      has_row_put (source_key 0 h x) its_key (record { keepalive = Some (m + keepalive_period); spt = spt_bit s g src })
      s.sources
      ∙ go (same_key (source_key 0 h x) its_key) refl
    where
      go : (b : Bool) → same_key (source_key 0 h x) its_key ≡ b
          → (b || has_row s.sources (source_key 0 h x)) ≡ has_row s.sources (source_key 0 h x)
      go true e =
          sym (ap (has_row s.sources) (equal_keys (source_key 0 h x) its_key e) ∙ running_there s g src runs)
      go false e = refl

  pub rows_as_before : (h x : ℕ) → cached later h x ≡ cached s h x
  unfolding cached
  rows_as_before h x = λ j. cond (facts_as_before h x j) (Some (answers_as_before h x j)) None

  -- nothing follows
  touches_none : IsOrdered s → AgreesBut (touching []) s later
  touches_none ordered = grind (arith, is_later, agrees_then, present_touches_none, keepalive_again, runs_at)

  module _ (rests : IsAtRest s) (ahead : s.present < m + keepalive_period) where
    fine : IsFine s.present (nat_lt s.present) (is_up s) later
    unfolding kept_until
    fine =
        with_row s.present (nat_lt s.present) (is_up s) Sources tt s (settled_is_fine s rests.settled) its_key
        (record { keepalive = Some (m + keepalive_period); spt = spt_bit s g src })
        (lt-ltb s.present (m + keepalive_period) ahead, refl)

    pub later_rests : IsAtRest later
    later_rests = record {
      quiet = quiet_goes_on s later (touches_none rests.settled.ordered) rests.quiet;
      settled = fine_is_settled s.present (is_up s) later fine;
    }

-- ---- whether it is set or not

module _ (s : State) (g src m : ℕ) where
  pub keep_by : (P : State → Type 0) → P s
      → ((end : ℕ) → keepalive_end s g src ≡ Some end → end < m + keepalive_period
      → P (kept_until s g src (m + keepalive_period))) → P (keep s g src m)
  unfolding keep
  keep_by P stays set = grind (arith, true_lt)

  -- a timer that runs ends later than the present
  ends_ahead : IsAtRest s → (end : ℕ) → keepalive_end s g src ≡ Some end → s.present < end
  unfolding keepalive_end
  ends_ahead rests end e = go (row_at s.sources (source_key 0 g src)) refl e
    where
      late : (r : SourceRow) → row_at s.sources (source_key 0 g src) ≡ Some r → Runs (nat_lt s.present) r.keepalive
      late r f =
          (row_of_each (Good (nat_lt s.present) (is_up s) Sources) (source_key 0 g src) r s.sources
          ((settled_is_fine s rests.settled).tables Sources).each f).0

      go : (o : Option SourceRow) → row_at s.sources (source_key 0 g src) ≡ o
          → option_and_then (λ (r : SourceRow). r.keepalive) o ≡ Some end → s.present < end
      go None f h = cc
      go (Some r) f h =
          true_lt s.present end (subst (λ (k : Option ℕ). Runs (nat_lt s.present) k) h (late r f))

pub keep_is_at_rest : KeepIsAtRest
keep_is_at_rest s g src m rests =
    keep_by s g src m IsAtRest rests
    (λ end e sooner.
    let after : s.present < end = ends_ahead s g src m rests end e in
    later_rests s g src m (running s g src end e) rests (omega (arith, after, sooner)))

pub keep_changes_no_answer : KeepChangesNoAnswer
keep_changes_no_answer s g src m h x =
    keep_by s g src m (λ t. answers t h x ≡ answers s h x) refl
    (λ end e sooner. answers_as_before s g src m (running s g src end e) h x)

pub keep_changes_no_row : KeepChangesNoRow
keep_changes_no_row s g src m h x =
    keep_by s g src m (λ t. cached t h x ≡ cached s h x) refl
    (λ end e sooner. rows_as_before s g src m (running s g src end e) h x)

pub keep_starts_none : KeepStartsNone
keep_starts_none s g src m h x =
    keep_by s g src m (λ t. is_kept_alive t h x ≡ is_kept_alive s h x) refl
    (λ end e sooner. alive_as_before s g src m (running s g src end e) h x)

-- ---- the end

set_end : (s : State) (g src end : ℕ) → keepalive_end (kept_until s g src end) g src ≡ Some end
unfolding keepalive_end kept_until
set_end s g src end = grind (arith, row_put)

pub keep_ends_later : KeepEndsLater
unfolding keep
keep_ends_later s g src m = grind (arith, set_end, nat_tests)

-- ---- a packet

set_now : (s : State) (g src end : ℕ) → keepalive_end s g src ≡ Some end → end < s.present + keepalive_period
    → keep s g src s.present ≡ with_keepalive s g src
unfolding keep with_keepalive kept_until
set_now s g src end runs sooner = rw (runs, lt-ltb end (s.present + keepalive_period) sooner) refl

taken_alive : (s : State) (p : Packet) (how : Plain) → how.keeps ≡ true
    → (plainly_taken s p how).state ≡ with_keepalive s p.destination p.source
unfolding plainly_taken
taken_alive s p how keeps = ap (λ (b : Bool). kept_if b s p.destination p.source) keeps

pub keep_is_a_packet : KeepIsAPacket
keep_is_a_packet s e p how end rests decides keeps runs sooner =
    set_now s p.destination p.source end runs sooner
    ∙ sym (ap (λ (a : Answered). a.state) (plain_is_stepped s e p how rests decides) ∙ taken_alive s p how keeps)
