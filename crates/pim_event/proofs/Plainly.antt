-- A packet that a row of the cache decides is plain by the answers of its source, and the other way.
use Rattle.std.{proofs.Common.{◌≡◌, ◌<◌, Bool, true, false, Option, Some, None, Result, Ok, Err, IfOk, OnOk, is_some, option_and_then, refl, ap, sym, subst, ◌∙◌, lt-ltb}, specs.Prelude.if◌then◌else◌}
use Rattle.pim_ip.{specs.Ipv4.Packet}
use Rattle.pim_types.{specs.{Keys.source_key, declared.{config.IfaceId.IfaceId, event.Event.Event, fact.SourceRow.SourceRow, outcome.{Outcome.Outcome, Stop.Stop}}}}
use Rattle.pim_model.{specs.{Cache.{Plain, answers, cached, plain}, declared.accepted.Accepted.Accepted, Judging.judged, Plain.{IsPlainEvent, fact_key}, State.State, Step.{Answered, outcome_of, step}, Tables.{Table, has_row, row_at}}}
use Rattle.law_events.{specs.{Rest.IsAtRest, Decided.{IsDecided, decided_by_answers as answered, plainly_taken}, Kept.SameDecision}, proofs.{PlainEvents.plain_is_decided, PlainPackets.{plain_is_stepped, plain_keeps_cache}}}
use Rattle.pim_macros.{specs.{Rows.answers_of, declared.rows.SourceAnswers.SourceAnswers}}
use Rattle.pim_mfc.{specs.{declared.forward.Forward.Forward, Kept.{ForwardsAs, Kept, decided}, Laws.{ShowsRow, ShowsRows}}, proofs.Shown.shown_decide}
use Rattle.pim_event.{specs.Plainly.Forwards}

row_there : (o : Option SourceAnswers) (f : SourceAnswers → Option Plain) (d : Plain) → option_and_then f o ≡ Some d
    → is_some o ≡ true
row_there None f d e = cc
row_there (Some row) f d e = refl

-- its row stands in the cache, and says what the answers of the state say
pub record IsAnswered (k : Kept) (s : State) (i : IfaceId) (p : Packet) (f : Forward) : Type 0 where
  pub how : Plain
  pub known : has_row s.sources (fact_key p) ≡ true
  pub answered : answered s i p ≡ Some how
  pub forwards : Forwards f how
  pub row : has_row k.rows (fact_key p) ≡ true

module _ (k : Kept) (s : State) (i : IfaceId) (p : Packet) (shows : ShowsRows k.rows (cached s)) (low : i.number < 120) where
  abbrev by_row : Option Plain
  by_row = decided k p.destination p.source i.number p.time_to_live

  abbrev by_fact : Bool → Option Plain
  by_fact known =
      option_and_then (λ a. plain a i.number p.time_to_live)
      (if known then Some (answers s p.destination p.source) else None)

  same : SameDecision by_row (by_fact (has_row s.sources (fact_key p)))
  unfolding cached
  same = shown_decide k s shows p.destination p.source i.number p.time_to_live (lt-ltb i.number 120 low)

  module _ (f : Forward) where
    found : (d : Option Plain) → by_row ≡ d → ForwardsAs (Some f) d → (known : Bool) → has_row s.sources (fact_key p) ≡ known
        → SameDecision d (by_fact known) → IsAnswered k s i p f
    unfolding decided has_row
    found None e forwards known is alike = absurd forwards
    found (Some d) e forwards false is alike = absurd alike
    found (Some d) e forwards true is alike = go (answered s i p) refl alike
      where
        go : (o : Option Plain) → answered s i p ≡ o → SameDecision (Some d) o → IsAnswered k s i p f
        go None g alike = absurd alike
        go (Some how) g alike = record {
          how = how;
          known = is;
          answered = g;
          forwards = record {
            keeps = forwards.keeps ∙ alike.keeps;
            list = λ q below. forwards.list q ∙ alike.list q below;
          };
          row =
              row_there (row_at k.rows (fact_key p)) (λ row. plain (answers_of row) i.number p.time_to_live) d e;
        }

    pub answered_by_row : (r : Option Forward) → r ≡ Some f → ForwardsAs r by_row → IsAnswered k s i p f
    answered_by_row r e forwards =
        found by_row refl (subst (λ (x : Option Forward). ForwardsAs x by_row) e forwards) (has_row s.sources (fact_key p))
        refl same

  -- a row that doesn't decide it shows that the answers don't
  undecided : (d : Option Plain) → by_row ≡ d → ForwardsAs None d → SameDecision d (answered s i p)
      → is_some (answered s i p) ≡ true → ⊥
  undecided (Some d) e forwards alike some = forwards
  undecided None e forwards alike some = go (answered s i p) refl alike some
    where
      go : (o : Option Plain) → answered s i p ≡ o → SameDecision None o → is_some o ≡ true → ⊥
      go None g alike some = cc
      go (Some how) g alike some = alike

  pub not_plain : (r : Option Forward) → r ≡ None → ForwardsAs r by_row → has_row s.sources (fact_key p) ≡ true
      → is_some (answered s i p) ≡ true → ⊥
  not_plain r e forwards known some =
      undecided by_row refl (subst (λ (x : Option Forward). ForwardsAs x by_row) e forwards)
      (subst (λ (b : Bool). SameDecision by_row (by_fact b)) known same) some

-- ---- events

module _ (s : State) (e : Event) (rest : IsAtRest s) where
  known_fact : (k : Option SourceRow) (r : SourceRow) → k ≡ Some r → is_some k ≡ true
  known_fact k r f = ap (λ (o : Option SourceRow). is_some o) f

  -- a plain event brings the packet that was accepted
  pub its_packet : (i : IfaceId) (p : Packet) → judged s e.kind ≡ Ok (Accepted.Data i p) → IsPlainEvent s e
      → (has_row s.sources (fact_key p) ≡ true) × (is_some (answered s i p) ≡ true)
  unfolding has_row
  its_packet i p heard is =
      let both = sym heard ∙ is.heard in
      let iif : i ≡ is.iif = cc both in
      let packet : p ≡ is.packet = cc both in
      rw (iif, packet) (known_fact _ is.fact is.known, plain_is_decided s e rest is)

  pub isnt_plain : (a : Accepted) → judged s e.kind ≡ Ok a → ((i : IfaceId) (p : Packet) → ¬ (a ≡ Accepted.Data i p))
      → IsPlainEvent s e → ⊥
  isnt_plain a heard other is = other is.iif is.packet (cc (sym heard ∙ is.heard))

  pub stop_isnt_plain : (stop : Stop) → judged s e.kind ≡ Err stop → IsPlainEvent s e → ⊥
  stop_isnt_plain stop heard is = cc (heard, is.heard)

  -- a decided packet leaves all rows unchanged
  pub plain_shows_rows : (p : Packet) → (how : Plain) → IsDecided s e p how → (t : State) → t ≡ (step s e).state
      → (rows : Table SourceAnswers) → ShowsRows rows (cached s) → ShowsRows rows (cached t)
  plain_shows_rows p how is t after rows shows g src =
      subst (λ a. ShowsRow (row_at rows (source_key 0 g src)) a)
      (sym (ap (λ (u : State). cached u g src) after ∙ plain_keeps_cache s e p how rest is g src)) (shows g src)

-- ---- what becomes of a packet that a row decides

module _ (k : Kept) (s : State) (e : Event) (i : IfaceId) (p : Packet) (f : Forward) (rest : IsAtRest s)
    (heard : judged s e.kind ≡ Ok (Accepted.Data i p)) (is : IsAnswered k s i p f) where
  decides : IsDecided s e p is.how
  decides = record { iif = i; heard = heard; known = is.known; answered = is.answered }

  stepped : step s e ≡ plainly_taken s p is.how
  stepped = plain_is_stepped s e p is.how rest decides

  pub plain_outcome : {E : Type 0} (r : Result Outcome E)
      → IfOk r (λ (o : Outcome). (how : Plain) → Forwards f how → o ≡ outcome_of (plainly_taken s p how))
      → IfOk r (λ (o : Outcome). o ≡ outcome_of (step s e))
  plain_outcome (Ok o) taken = taken is.how is.forwards ∙ ap (λ (x : Answered). outcome_of x) (sym stepped)
  plain_outcome (Err fault) taken = tt

  pub plain_state : {E : Type 0} (r : Result Outcome E) (t : State)
      → OnOk r ((how : Plain) → Forwards f how → t ≡ (plainly_taken s p how).state) → OnOk r (t ≡ (step s e).state)
  plain_state (Ok o) t taken = taken is.how is.forwards ∙ ap (λ (x : Answered). x.state) (sym stepped)
  plain_state (Err fault) t taken = tt

  pub plain_rows : {E : Type 0} (r : Result Outcome E) (t : State) (rows : Table SourceAnswers)
      → OnOk r ((how : Plain) → Forwards f how → t ≡ (plainly_taken s p how).state) → ShowsRows rows (cached s)
      → OnOk r (ShowsRows rows (cached t))
  plain_rows (Ok o) t rows taken shows =
      plain_shows_rows s e rest p is.how decides t
      (taken is.how is.forwards ∙ ap (λ (x : Answered). x.state) (sym stepped)) rows shows
  plain_rows (Err fault) t rows taken shows = tt
