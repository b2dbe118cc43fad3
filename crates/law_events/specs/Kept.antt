-- Answers that are kept with a state, one row for each source with a fact, and how an event leaves them: the named rows
-- are evaluated again, or taken out, and no others.
use Rattle.std.{specs.{List.list_any, Prelude.{Bool, Err, List, None, Ok, Option, Some, [], false, if◌then◌else◌, length, nat_lt, true, ℕ, ◌+◌, ◌-◌, ◌∷◌, ◌≡◌}}}
use Rattle.pim_types.{specs.{declared.{event.Event.Event, fact.Key.Key, outcome.Emission.Emission}, Keys.{same_key, source_key}}}
use Rattle.pim_model.{specs.{Cache.{Answers, Plain, cached}, declared.accepted.Accepted.Accepted, Firing.fire_once, Full.is_full, Judging.{Judged, judged}, Limits.most_ifaces, Reach.own_firing, Repeat.until_none, State.State, Step.{step, taken}, Timers.{Ending, next_due, timers}}}
use Rattle.law_events.{specs.Named.{named_by, named_of}}

-- the row of each (S,G), by group and source
abbrev pub Cache : Type 0
Cache = ℕ → ℕ → Option Answers

-- The cache without rows, which is that of the opening.
abbrev pub no_rows : Cache
no_rows g src = None

-- ---- answers that are the same

-- Two answers are the same for all interfaces that can be configured. Whether SPTbit is reached is compared only where
-- RPF_interface(S) is one of these.
pub record SameAnswers (a b : Answers) : Type 0 where
  pub immediate : (i : ℕ) → nat_lt i most_ifaces ≡ true → a.immediate i ≡ b.immediate i
  pub inherited : (i : ℕ) → nat_lt i most_ifaces ≡ true → a.inherited i ≡ b.inherited i
  pub inherited_rpt : (i : ℕ) → nat_lt i most_ifaces ≡ true → a.inherited_rpt i ≡ b.inherited_rpt i
  pub has_tunnel : a.has_tunnel ≡ b.has_tunnel
  pub rpf : a.rpf ≡ b.rpf
  pub rp_rpf : a.rp_rpf ≡ b.rp_rpf
  pub spt : a.spt ≡ b.spt
  pub connected : a.connected ≡ b.connected
  pub may_register : a.may_register ≡ b.may_register
  pub registered : a.registered ≡ b.registered
  pub desired : a.desired ≡ b.desired
  pub flows : a.flows ≡ b.flows
  pub reaches : (i : ℕ) → nat_lt i most_ifaces ≡ true → a.rpf ≡ Some i → a.reaches ≡ b.reaches
  pub watches : a.watches ≡ b.watches
  pub contested : (i : ℕ) → nat_lt i most_ifaces ≡ true → a.contested i ≡ b.contested i

-- Two rows of a cache answer alike, or neither is there.
abbrev pub SameRow : Option Answers → Option Answers → Type 0
SameRow None None = Unit {0}
SameRow (Some a) (Some b) = SameAnswers a b
SameRow _ _ = ⊥

-- the rows are the answers of the sources with a fact, and of no others
abbrev pub IsCached : Cache → State → Type 0
IsCached c s = (g src : ℕ) → SameRow (c g src) (cached s g src)

-- ---- after an event

-- A source of a group is among the named keys.
unfoldable pub is_listed : List Key → ℕ → ℕ → Bool
is_listed names g src = list_any (same_key (source_key 0 g src)) names

-- The cache with the named rows as the state has them, and the others unchanged.
unfoldable pub refreshed : List Key → State → Cache → Cache
refreshed names s c g src = if is_listed names g src then cached s g src else c g src

pub record Held : Type 0 where
  pub state : State
  pub cache : Cache

-- Timers that expire one by one, each with its rows evaluated again.
module _ (w : ℕ) where
  unfoldable pub held_once : Held → Ending → Held × List Emission
  held_once h e =
      let after : State × List Emission = fire_once w h.state e in
      (record { state = after.0; cache = refreshed (named_by h.state (own_firing h.state e)) after.0 h.cache }, after.1)

  unfoldable pub held_instant : Held → Ending → Held × List Emission
  held_instant h e = until_none (λ (k : Held). next_due e.end k.state) held_once (length (timers h.state) + 1) h

  unfoldable pub held_all : ℕ → Held → Held × List Emission
  held_all moment h =
      until_none (λ (k : Held). next_due moment k.state) held_instant (moment + 2 - (h.state).present) h

-- The cache after an accepted event: the rows that the event names are evaluated again.
unfoldable pub cache_taken : State → ℕ → Accepted → Cache → Cache
cache_taken s w (Accepted.Advance moment) c = ((held_all w moment (record { state = s; cache = c })).0).cache
cache_taken s w a c = refreshed (named_of s w a) (taken s w a).state c

-- The cache after an event that is refused where there is no room.
abbrev pub cache_unless_full : Bool → Cache → Cache → Cache
cache_unless_full true c d = c
cache_unless_full false c d = d

-- The cache after an event as it was judged: one that is refused or ignored changes no row.
abbrev pub cache_concluded : Cache → (Accepted → Cache) → Judged → Cache
cache_concluded c next (Err stop) = c
cache_concluded c next (Ok a) = next a

-- The cache after an event; one that is refused or ignored leaves all rows unchanged.
unfoldable pub cache_after : State → Event → Cache → Cache
cache_after s e c =
    cache_concluded c (λ a. cache_unless_full (is_full s a) c (cache_taken s e.draw a c)) (judged s e.kind)

-- The cache after several events.
unfoldable pub cache_at_end : State → List Event → Cache → Cache
cache_at_end s [] c = c
cache_at_end s (e ∷ es) c = cache_at_end (step s e).state es (cache_after s e c)

-- ---- what rows decide

-- KAT(S,G) is set in both or in neither, and copies leave on the same interfaces.
pub record SamePlain (p q : Plain) : Type 0 where
  pub keeps : p.keeps ≡ q.keeps
  pub list : (i : ℕ) → nat_lt i most_ifaces ≡ true → p.list i ≡ q.list i

-- Two decisions about a packet are the same, or neither decides it.
abbrev pub SameDecision : Option Plain → Option Plain → Type 0
SameDecision None None = Unit {0}
SameDecision (Some p) (Some q) = SamePlain p q
SameDecision _ _ = ⊥
