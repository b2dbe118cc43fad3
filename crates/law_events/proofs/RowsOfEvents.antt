-- A change with what follows from it keeps the rows: those that are named are the state's, the others had the same
-- answers.
use Rattle.std.{proofs.{Common.{◌≡◌, ℕ, Bool, true, false, cond, List, length, ◌≤◌, Some, None, refl, ap, arith}, lemmas.Bool.or_parts}}
use Rattle.pim_types.{specs.{declared.fact.SourceRow.SourceRow, Keys.source_key}}
use Rattle.pim_model.{specs.{Cache.{Answers, answers, cached}, Clearing.clear, declared.accepted.Accepted.Accepted, Firing.{fire_once, settled}, Limits.most_ifaces, Messages.Message, Reach.own_firing, State.State, Step.{change, done}, Tables.{Table, has_row}, Timers.Ending}}
use Rattle.law_events.{specs.{Locality.touching, Named.{is_source_named, named, named_by}, Kept.{Cache, IsCached, SameRow, is_listed, refreshed}}, proofs.{OwnKeys.present_touches_none, SameRows.flags, Agreed.agreed_is_unnamed, Calm.settled_same, Configured.{change_configured, firing_configured}, KeptSources.unnamed_keeps, Reached.IsConfigured, NamedSameRows.{both_of, not_false}, Settled.{settled_configured, settled_keeps}, Listed.listed, CacheSameRows.{facts_same, kept_is_same, row_itself, row_through}}}

no_facts : (a b : Bool) (x y : Answers) → a ≡ false → b ≡ false → SameRow (cond a (Some x) None) (cond b (Some y) None)
no_facts a b x y e f = grind arith

pub unnamed_fact : (g src : ℕ) (o a : State) → is_source_named g src o a ≡ false
    → has_row o.sources (source_key 0 g src) ≡ has_row a.sources (source_key 0 g src)
unfolding is_source_named
unnamed_fact g src o a e = grind (arith, both_of, not_false, flags)

module _ (o : State) (change : State × List Message) (w : ℕ) (is : IsConfigured o change.0)
    (few : length o.configured.interfaces ≤ most_ifaces) (c : Cache) (held : IsCached c o) where
  abbrev after : State
  after = (clear o change.0).0

  abbrev end : State
  end = (settled o change w).0

  end_fact : (g src : ℕ) → has_row after.sources (source_key 0 g src) ≡ has_row end.sources (source_key 0 g src)
  end_fact g src = ap (λ (t : Table SourceRow). has_row t (source_key 0 g src)) (settled_same o change w).sources_same

  its_row : (g src : ℕ) (l n : Bool) → is_listed (named o after) g src ≡ l → is_source_named g src o after ≡ n
      → SameRow (cond l (cached end g src) (c g src)) (cached end g src)
  unfolding cached
  its_row g src true n e f = row_itself (cached end g src)
  its_row g src false true e f = grind (arith, or_parts, listed, row_through, no_facts, end_fact)
  its_row g src false false e f =
      grind (arith, row_through, facts_same, unnamed_fact, end_fact, kept_is_same, settled_configured, settled_keeps)

  pub settled_cached : IsCached (refreshed (named_by o change.0) end c) end
  unfolding refreshed named_by
  settled_cached g src = its_row g src _ _ refl refl

-- ---- events and firings

pub event_keeps_cache : (s : State) (w : ℕ) (a : Accepted) (c : Cache) → length s.configured.interfaces ≤ most_ifaces → IsCached c s
    → IsCached (refreshed (named_by s (change s w a).state) (done s w (change s w a)).state c)
    (done s w (change s w a)).state
unfolding done
event_keeps_cache s w a c few held =
    settled_cached s ((change s w a).state, (change s w a).messages) w (change_configured s w a) few c held

pub firing_keeps_cache : (s : State) (w : ℕ) (e : Ending) (c : Cache) → length s.configured.interfaces ≤ most_ifaces → IsCached c s
    → IsCached (refreshed (named_by s (own_firing s e)) (fire_once w s e).0 c) (fire_once w s e).0
unfolding fire_once own_firing
firing_keeps_cache s w e c few held = grind (arith, settled_cached, firing_configured)

-- where the present alone moves
pub present_keeps_cache : (s : State) (m : ℕ) (c : Cache) → length s.configured.interfaces ≤ most_ifaces → IsCached c s
    → IsCached c (record s { present = m })
unfolding touching cached
present_keeps_cache s m c few held g src =
    let t : State = record s { present = m } in
    row_through (c g src) (cached s g src) (cached t g src) (held g src)
    (facts_same _ _ (answers s g src) (answers t g src) refl
    (kept_is_same g src s t (record { settings = refl; configured = refl }) few
    (unnamed_keeps g src s t refl refl few
    (agreed_is_unnamed g src s t (present_touches_none s m (source_key 0 g src) refl)))))
