-- A cause is an earlier event that asks.
use Rattle.std.{proofs.{Common.{◌≡◌, ◌⊎◌, inl, inr, ◌∙◌, ℕ, ◌+◌, ◌*◌, ◌<◌, nat_lt, ◌==◌, Bool, true, false, not, ◌||◌, List, [], ◌∷◌, Option, None, Some, Result, Ok, Err, refl, sym, ap, arith, eq-eqb, eqb-true, ltb-true}, lemmas.{Bool.not-true, List.Elements.{Contains-append_left, Contains-append_right, Contains-push}}}, specs.{Cmp.{first_so, second_so}, List.{Contains, list_any}, Option.option_map_or}}
use Rattle.pim_ip.{specs.declared.refusal.Refusal.Refusal}
use Rattle.pim_types.{specs.{Keys.{source_key, star_key}, declared.{config.IfaceId.IfaceId, event.EventKind.EventKind, fact.Key.Key, outcome.{Ignored.Ignored, Stop.Stop, Verdict.Verdict}}}, proofs.Keys.equal_keys}
use Rattle.pim_wire.{specs.Values.JoinPrune}
use Rattle.igmp_wire.{specs.{Values.Record, declared.report.RecordType.RecordType}}
use Rattle.pim_model.{specs.{declared.accepted.Accepted.Accepted, Cause.{Happened, Passed, Past, asks_for, done_as, has_cause, if_done, is_down_of, is_including, is_join_for, is_record_for, is_report_for, number_before}, Downstream.{Named, accepted_joins, holdtime_forever, is_named, joined_keys, named_key}, Judging.{Judged, down_judged, ignore_if, judged, refuse_if, ◌>>◌}, Querier.is_excluding, State.State, Step.step, Tables.is_among}}
use Rattle.law_settled.{proofs.{ListLaws.either, TableLaws.any_of_map}}
use Rattle.law_streams.{specs.Told.{AsksByJoin, AsksByReport, CauseIsAnEarlierEvent, HasJoin, HasRecord, IsCause, IsDone}}

-- one of a list that passes
abbrev Passing : {X : Type 0} → (X → Bool) → List X → Type 0
Passing {X} q xs = (x : X) × Contains xs x × (q x ≡ true)

some_passes : {X : Type 0} (q : X → Bool) (xs : List X) → list_any q xs ≡ true → Passing q xs
some_passes q [] e = cc
some_passes q (x ∷ xs) e =
    either (q x) (list_any q xs) (λ here. (x, Contains-append_left (x ∷ []) xs x (Contains-push [] x), here))
    (λ there. let rest : Passing q xs = some_passes q xs there in
    (rest.0, Contains-append_right (x ∷ []) xs rest.0 rest.1, rest.2)) e

-- ---- a Join/Prune

module _ (s : State) (i : ℕ) (m : JoinPrune) (g src : ℕ) where
  -- the entry that a key comes from
  abbrev EntryOf : Key → Type 0
  EntryOf k = (n : Named) × Contains (accepted_joins s m) n × (k ≡ named_key i n)

  entry_of : (k : Key) → is_named (joined_keys s i m) k ≡ true → EntryOf k
  unfolding is_named joined_keys
  entry_of k e = grind (arith, some_passes, any_of_map, equal_keys)

  star_join : EntryOf (star_key i g) → HasJoin s m g src
  star_join n = grind arith

  source_join : EntryOf (source_key i g src) → HasJoin s m g src
  source_join n = grind arith

  has_join : (is_named (joined_keys s i m) (star_key i g) || is_named (joined_keys s i m) (source_key i g src)) ≡ true
      → HasJoin s m g src
  has_join e = grind (arith, either, star_join, entry_of, source_join)

lasts_so : (now moment holdtime : ℕ) → ((holdtime == holdtime_forever) || nat_lt now (moment + 1000 * holdtime)) ≡ true
    → (holdtime ≡ 65535) ⊎ (now < moment + 1000 * holdtime)
lasts_so now moment holdtime e = grind arith

-- ---- a report

excludes : (type : RecordType) → is_excluding type ≡ true
    → (type ≡ RecordType.IsExclude) ⊎ (type ≡ RecordType.ToExclude)
excludes type e = grind (arith, e)

includes : (type : RecordType) → is_including type ≡ true
    → (type ≡ RecordType.IsInclude) ⊎ ((type ≡ RecordType.Allow) ⊎ (type ≡ RecordType.ToInclude))
includes type e = grind (arith, e)

has_record : (records : List Record) (g src : ℕ) → list_any (is_record_for g src) records ≡ true
    → HasRecord records g src
unfolding is_record_for is_among
has_record records g src e = grind (arith, some_passes, not-true, eqb-true, either, excludes, includes)

-- ---- an event

-- of the events of a past
abbrev Caused : Past → ℕ → ℕ → ℕ → ℕ → Type 0
Caused past now i g src = (x : Happened) × IsCause past now i g src x

module _ (h : Happened) where
  if_done_is : (answer : Result Verdict Refusal) (j : Judged) (a : Accepted) → if_done answer j ≡ Some a
      → (answer ≡ Ok Verdict.Done) × (j ≡ Ok a)
  if_done_is answer j a e = grind arith

  was_done : (a : Accepted) → done_as h ≡ Some a → IsDone h × (judged h.before h.event.kind ≡ Ok a)
  unfolding done_as
  was_done a e = if_done_is _ _ a e

  asks_so : (now i g src : ℕ) (o : Option Accepted) → done_as h ≡ o → asks_for now i g src h.before o ≡ true
      → IsDone h × (AsksByJoin h now i g src ⊎ AsksByReport h now i g src)
  unfolding asks_for is_join_for is_report_for
  asks_so now i g src (Some (Accepted.JoinPruneToMe j m)) was e =
      let done : IsDone h × (judged h.before h.event.kind ≡ Ok (Accepted.JoinPruneToMe j m)) = was_done _ was in
      let same : j.number ≡ i = eqb-true _ _ (first_so _ _ e) in (
        done.0,
        inl (record {
          message = m;
          was = done.1 ∙ (λ x. Ok (Accepted.JoinPruneToMe (record { number = same x }) m));
          join = has_join h.before i m g src (first_so _ _ (second_so _ _ e));
          lasts = lasts_so now h.before.present m.holdtime (second_so _ _ (second_so _ _ e));
        }),
      )
  asks_so now i g src (Some (Accepted.Report j records)) was e =
      let done : IsDone h × (judged h.before h.event.kind ≡ Ok (Accepted.Report j records)) = was_done _ was in
      let same : j.number ≡ i = eqb-true _ _ (first_so _ _ e) in (
        done.0,
        inr (record {
          records = records;
          was = done.1 ∙ (λ x. Ok (Accepted.Report (record { number = same x }) records));
          wants = has_record records g src (first_so _ _ (second_so _ _ e));
          lasts = ltb-true now _ (second_so _ _ (second_so _ _ e));
        }),
      )
  asks_so now i g src o was e = cc

  never_stopped : (stop : Stop) → judged h.before h.event.kind ≡ Err stop → IsDone h → ⊥
  unfolding step
  never_stopped stop is done = grind arith

  tests_pass : (i : IfaceId) (j : Judged) (a b : Bool)
      → j ≡ (refuse_if a Refusal.NoInterface >> ignore_if b Ignored.Already >> Ok (Accepted.Down i))
      → ((stop : Stop) → j ≡ Err stop → ⊥) → j ≡ Ok (Accepted.Down i)
  tests_pass i j a b e passes = grind arith

  down_is : (i : ℕ) → h.event.kind ≡ EventKind.Down (record { number = i }) → IsDone h
      → is_down_of i (done_as h) ≡ true
  unfolding done_as judged down_judged
  down_is i kind done = grind (arith, tests_pass, never_stopped, eq-eqb)

  asks_itself : (past : Past) (now i g src : ℕ) → asks_for now i g src h.before (done_as h) ≡ true
      → Caused (Passed.Happening h ∷ past) now i g src
  asks_itself past now i g src e =
      let asks : IsDone h × (AsksByJoin h now i g src ⊎ AsksByReport h now i g src) =
      asks_so now i g src (done_as h) refl e in
      (h, record { later = []; earlier = past; number = i; place = refl; done = asks.0; asks = asks.1; stays_up = refl })

  asked_before : (past : Past) (now i g src : ℕ) → not (is_down_of i (done_as h)) ≡ true → Caused past now i g src
      → Caused (Passed.Happening h ∷ past) now i g src
  asked_before past now i g src up rest = (
    rest.0,
    record {
      later = Passed.Happening h ∷ (rest.1).later;
      earlier = (rest.1).earlier;
      number = (rest.1).number;
      place = ap (λ (p : Past). Passed.Happening h ∷ p) (rest.1).place;
      done = (rest.1).done;
      asks = (rest.1).asks;
      stays_up = (
        λ kind done. let down : true ≡ false = sym (down_is i kind done) ∙ not-true _ up in cc,
        (rest.1).stays_up,
      );
    },
  )

-- before the interfaces got other numbers
renumbered_before : (m : List (Option ℕ)) (past : Past) (now i g src : ℕ) (o : Option ℕ) → number_before 0 m i ≡ o
    → option_map_or (λ old. has_cause past now old g src) o false ≡ true
    → ((old : ℕ) → has_cause past now old g src ≡ true → Caused past now old g src)
    → Caused (Passed.Renumbered m ∷ past) now i g src
renumbered_before m past now i g src None was e later = cc
renumbered_before m past now i g src (Some old) was e later =
    let rest : Caused past now old g src = later old e in (
      rest.0,
      record {
        later = Passed.Renumbered m ∷ (rest.1).later;
        earlier = (rest.1).earlier;
        number = (rest.1).number;
        place = ap (λ (p : Past). Passed.Renumbered m ∷ p) (rest.1).place;
        done = (rest.1).done;
        asks = (rest.1).asks;
        stays_up = (old, was, (rest.1).stays_up);
      },
    )

pub cause_is_an_earlier_event : CauseIsAnEarlierEvent
unfolding has_cause
cause_is_an_earlier_event [] now i g src e = cc
cause_is_an_earlier_event (Passed.Happening h ∷ past) now i g src e =
    either _ _ (asks_itself h past now i g src)
    (λ both. asked_before h past now i g src (first_so _ _ both)
    (cause_is_an_earlier_event past now i g src (second_so _ _ both))) e
cause_is_an_earlier_event (Passed.Renumbered m ∷ past) now i g src e =
    renumbered_before m past now i g src (number_before 0 m i) refl e
    (λ old f. cause_is_an_earlier_event past now old g src f)
