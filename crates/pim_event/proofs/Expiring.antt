-- What the expiry of a timer touches, and of which groups and sources it leaves facts.
use Rattle.std.{proofs.{Common.{◌≡◌, true, List, [], ◌∷◌, inl, refl, ap, subst, sym}, lemmas.Bool.or_left}, specs.List.list_any}
use Rattle.pim_types.{specs.{declared.{fact.Key.Key, timer.TimerKind.TimerKind}, Keys.names_source}}
use Rattle.pim_model.{specs.{Firing.fired, State.State, Timers.Ending, Upstream.fact_keys, Reach.own_firing}}
use Rattle.law_settled.{proofs.FewerFacts.{IsFewer, ended_fewer, fewer_both, no_other}, specs.Ready.IsLawful}
use Rattle.law_events.{specs.{Locality.{AgreesBut, touching}, Touches.{isnt_neighbour, touched_by}, Adjacent.keys_of_end}, proofs.{OwnKeys.present_touches_none, SilentEvents.timer_touches, Touches.{agrees_then, widened}, Hellos.end_adjoins}}
use Rattle.pim_fanout.{specs.Contains.Contains}
use Rattle.pim_views.{specs.{Covers.Concerns, Openings.has_facts}}
use Rattle.pim_rerouted.{specs.Few.few_or_all}
use Rattle.pim_plan.{proofs.{Sourced.keyed_sourced, Touching.{few_contain, within_so}}}
use Rattle.pim_event.{specs.Ends.{has_other_sources, keeps_group, touched_by_end, touched_by_source}, proofs.SourceEnds.source_end_touches}
use Rattle.pim_store.{specs.PimTables.{AreKeyed, pim_tables}}

module _ (s : State) (lawful : IsLawful s) (keyed : AreKeyed (pim_tables s)) (e : Ending) where
  abbrev opened : State
  opened = record s { present = e.end }

  abbrev ended : State
  ended = (fired opened e.timer.kind e.timer.key).0

  ended_leaves_facts : IsFewer s ended
  unfolding fact_keys
  ended_leaves_facts =
      fewer_both s opened ended (no_other s opened refl)
      (ended_fewer opened lawful.firable.source_records e.timer.kind e.timer.key)

  end_concerns : isnt_neighbour e.timer.kind ≡ true → Concerns (touched_by e.timer.kind e.timer.key) s ended
  end_concerns is =
      let keys : List Key = touched_by e.timer.kind e.timer.key in
      record {
        agrees = agrees_then (touching keys) s opened ended
            (widened [] keys s opened refl (present_touches_none s e.end))
            (timer_touches opened e.timer.key e.timer.kind is);
        named = λ g src there. or_left (has_facts s g src) (list_any (names_source g src) keys)
            (ended_leaves_facts.passed (names_source g src) there);
      }

  -- of a source's timer the source alone, where the row of its group stays
  source_concerns : e.timer.kind ≡ TimerKind.SourceRecord → Concerns (touched_by_source s e.timer.key ∷ []) s ended
  unfolding touched_by_source keeps_group has_other_sources fired
  source_concerns is =
      let keys : List Key = touched_by_source s e.timer.key ∷ [] in
      record {
        agrees = agrees_then (touching keys) s opened ended
            (widened [] keys s opened refl (present_touches_none s e.end))
            (subst (λ (kind : TimerKind). AgreesBut (touching keys) opened (fired opened kind e.timer.key).0) (sym is)
            (source_end_touches opened lawful.ordered.source_records lawful.firable.source_records e.timer.key));
        named = λ g src there. or_left (has_facts s g src) (list_any (names_source g src) keys)
            (ended_leaves_facts.passed (names_source g src) there);
      }

  neighbour_covered : e.timer.kind ≡ TimerKind.Neighbour → Contains (few_or_all (keys_of_end s e.timer.key)) s ended
  unfolding own_firing
  neighbour_covered is =
      few_contain (keys_of_end s e.timer.key) s ended (end_adjoins s e is (keyed_sourced s keyed))
      (within_so s ended ended_leaves_facts) _

  pub end_covered : Contains (touched_by_end s e.timer.kind e.timer.key) s ended
  end_covered = go e.timer.kind refl
    where
      go : (kind : TimerKind) → e.timer.kind ≡ kind → Contains (touched_by_end s kind e.timer.key) s ended
      go TimerKind.Neighbour is = neighbour_covered is
      go TimerKind.SourceRecord is = inl (inl (source_concerns is))
      go _ is = inl (inl (subst (λ (kind : TimerKind). Concerns (touched_by kind e.timer.key) s ended) is
          (end_concerns (ap isnt_neighbour is))))
