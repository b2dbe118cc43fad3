-- What events cost, one after the other.
use Rattle.std.{proofs.{Common.{◌≡◌, ◌≤◌, ◌<◌, ◌+◌, ◌*◌, ℕ, Bool, true, List, [], ◌∷◌, ◌++◌, Result, Ok, Err, OnOk, length, take, take_all, get_or, refl, ap, subst, sym, ◌∙◌, arith, add-one}, Math.Seq.take-suc}}
use Rattle.pim_types.{specs.{declared.event.Event.Event, Keys.source_key}}
use Rattle.pim_model.{specs.{Plain.IsPlainEvent, Reach.event_reach, State.State, Step.{ran, state_after, step}, Tables.has_row}}
use Rattle.law_events.{specs.{Rest.IsAtRest, Named.event_named}, proofs.Few.event_names_few}
use Rattle.pim_mfc.{specs.Kept.Kept}
use Rattle.pim_trie.{specs.Meter.raised}
use Rattle.pim_fanout.{specs.Refreshing.{CacheValue, touches, uncounted}}
use Rattle.law_settled.{proofs.SettledStates.settled_is_lawful}
use Rattle.pim_event.{specs.Costs.{IsCheap, IsLastCheap, IsWithinPath}}

-- two for each named source are no more than three for each that is reached
pub is_cheap : (s : State) → IsAtRest s → (e : Event) (probes touched : ℕ) → (IsPlainEvent s e → IsWithinPath probes)
    → touched ≤ 2 * length (event_named s e) → IsCheap s e probes touched
is_cheap s rest e probes touched plain costs = record {
  plain = plain;
  calm = λ kept.
      let few : length (event_named s e)
      ≤ length (event_reach s e) = event_names_few s (settled_is_lawful s rest.settled) e kept in
      omega (arith, few, costs);
}

-- a packet that its row decides, and whose source has a fact
pub plain_cheap : {A E : Type 0} (r : Result A E) (s : State) → IsAtRest s → (e : Event) (before after touched : ℕ)
    {known : Bool} → OnOk r (known ≡ true → after ≡ before) → known ≡ true → IsWithinPath before
    → touched ≤ 2 * length (event_named s e) → OnOk r (IsCheap s e after touched)
plain_cheap (Ok x) s rest e before after touched kept known within costs =
    is_cheap s rest e after touched (λ _. subst IsWithinPath (sym (kept known)) within) costs
plain_cheap (Err fault) s rest e before after touched kept known within costs = tt

-- of a source whose row stands in the cache
pub visited_within : (probes before nodes : ℕ) → probes ≡ raised before nodes → before ≡ 0 → 1 ≤ nodes → nodes ≤ 66
    → IsWithinPath probes
unfolding raised
visited_within probes before nodes is none some few =
    let here : probes ≡ raised 0 nodes = is ∙ ap (λ (n : ℕ). raised n nodes) none in
    let all : raised 0 nodes ≡ nodes = grind (arith, few) in
    record { some = omega (arith, here, all, some); few = omega (arith, here, all, few) }

pub row_lent : (k lent : Kept) (g h src x : ℕ) → lent ≡ k → h ≡ g → x ≡ src → has_row k.rows (source_key 0 g src) ≡ true
    → has_row lent.rows (source_key 0 h x) ≡ true
row_lent k lent g h src x is group source row = rw (is, group, source) row

-- where the counts have begun anew
pub none_touched : (old new : CacheValue) → new ≡ uncounted old → touches new ≡ 0
unfolding touches raised
none_touched old new is = ap (λ (k : CacheValue). touches k) is

-- an event that touches nothing
pub untouched : (touched : ℕ) (s : State) (e : Event) → touched ≡ 0 → touched ≤ 2 * length (event_named s e)
untouched touched s e none = omega (arith, none)

-- an event, where the counts have begun anew
pub touched_so : (touched before : ℕ) (s : State) (e : Event) → touched ≤ before + 2 * length (event_named s e)
    → before ≡ 0 → touched ≤ 2 * length (event_named s e)
touched_so touched before s e costs none = omega (arith, costs, none)

-- ---- the last of some events

pub state_then : (s : State) (es : List Event) (e : Event) → state_after s (es ++ e ∷ []) ≡ (step (state_after s es) e).state
unfolding state_after ran
state_then s [] e = refl
state_then s (x ∷ es) e = state_then (step s x).state es e

last_cheap : (s : State) (es : List Event) (e : Event) (probes touched : ℕ)
    → IsCheap (state_after s es) e probes touched → IsLastCheap s (es ++ e ∷ []) probes touched
unfolding state_after ran
last_cheap s [] e probes touched cheap = cheap
last_cheap s (x ∷ []) e probes touched cheap = cheap
last_cheap s (x ∷ y ∷ es) e probes touched cheap = last_cheap (step s x).state (y ∷ es) e probes touched cheap

-- the events so far have left this state, and the last of them has cost this
pub record Counted (first : State) (events : List Event) (i : ℕ) (s : State) (probes touched : ℕ) : Type 0 where
  pub state_is : s ≡ state_after first (take i events)
  pub cheap : IsLastCheap first (take i events) probes touched

module _ (first : State) (events : List Event) where
  pub counts_none : (probes touched : ℕ) → Counted first events 0 first probes touched
  unfolding state_after ran
  counts_none probes touched = record { state_is = refl; cheap = tt }

  pub counts_next : (i : ℕ) (s n : State) (e : Event) (before since probes touched : ℕ) → i < length events
      → e ≡ get_or events i e → n ≡ (step s e).state → IsCheap s e probes touched
      → Counted first events i s before since → Counted first events (i + 1) n probes touched
  counts_next i s n e before since probes touched lt is state cheap counted =
      let next : take (i + 1) events ≡ take i events ++ e ∷ [] =
      ap (λ (k : ℕ). take k events) (add-one i) ∙ take-suc events i e lt
      ∙ ap (λ (x : Event). take i events ++ x ∷ []) (sym is) in
      record {
        state_is = state ∙ ap (λ (x : State). (step x e).state) counted.state_is
            ∙ sym (state_then first (take i events) e)
            ∙ ap (λ (es : List Event). state_after first es) (sym next);
        cheap = subst (λ (es : List Event). IsLastCheap first es probes touched) (sym next)
            (last_cheap first (take i events) e probes touched
            (subst (λ (x : State). IsCheap x e probes touched) counted.state_is cheap));
      }

  pub counts_all : (i : ℕ) (s : State) (probes touched : ℕ) → length events ≤ i
      → Counted first events i s probes touched → IsLastCheap first events probes touched
  counts_all i s probes touched le counted =
      subst (λ (es : List Event). IsLastCheap first es probes touched) (take_all i events le) counted.cheap
