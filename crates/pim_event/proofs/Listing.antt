-- Which sources are listed as changed: after an event, after the expiry of a timer, and over firings and events in
-- turn.
use Rattle.std.{proofs.{Common.{◌≡◌, ◌≤◌, ◌<◌, ◌+◌, ℕ, Bool, true, false, ◌||◌, List, [], ◌∷◌, ◌++◌, Some, Ok, Err, length, take, take_all, get_or, append_assoc, append-nil, add-one, refl, ap, subst, sym, ◌∙◌}, Math.Seq.take-suc, lemmas.List.Folds.list_any-append}, specs.{Prelude.if◌then◌else◌, List.Sorted.IsStrictlySortedBy}}
use Rattle.pim_ip.{specs.Ipv4.Packet}
use Rattle.pim_types.{specs.{declared.{config.IfaceId.IfaceId, event.Event.Event, fact.Key.Key, outcome.Stop.Stop, name.SourceGroup.SourceGroup}, Keys.{key_cmp, same_key, source_key}}}
use Rattle.pim_model.{specs.{Cache.Plain, Clearing.clear, declared.accepted.Accepted.Accepted, Firing.{fire_instant, fire_once}, Full.is_full, Judging.{Judged, judged}, Plain.fact_key, Reach.{own_firing, told_all, told_instant, where_accepted}, State.State, Step.{change, ran, state_after, step}, Tables.has_row, Timers.{Ending, next_due}}}
use Rattle.law_settled.{specs.Laws.{IsFirable, IsReady, ends_from}}
use Rattle.law_events.{specs.{Locality.IsQuiet, Rest.IsAtRest, Named.{event_named, named_by, named_of}, Decided.decided_by_answers, Kept.is_listed}, proofs.PlainNames.plain_names_none}
use Rattle.pim_state.{specs.declared.touched.Touched.Touched}
use Rattle.pim_fanout.{specs.Named.keys_of, proofs.{Listed.names_are_named, Opened.names_rise}}
use Rattle.pim_settling.{specs.Settling.AreNames}
use Rattle.pim_event.{specs.Listing.{IsLastListed, ListsMore, ListsSame}, proofs.{Firings.{all_told, instant_told}, Rows.named_timeless}}

-- ---- lists

both : (xs ys : List Key) (g src : ℕ) → is_listed (xs ++ ys) g src ≡ (is_listed xs g src || is_listed ys g src)
unfolding is_listed
both xs ys g src = list_any-append (same_key (source_key 0 g src)) xs ys

-- names that are told in another way
pub lists_so : (before names others listed : List Key) → ((g src : ℕ) → is_listed names g src ≡ is_listed others g src)
    → listed ≡ before ++ names → ListsMore before others listed
lists_so before names others listed same is g src =
    ap (λ (ks : List Key). is_listed ks g src) is
    ∙ (both before names g src
    ∙ (ap (λ (b : Bool). is_listed before g src || b) (same g src) ∙ sym (both before others g src)))

-- behind those that were listed come more, and what is left
left : (first whole now names rest more : List Key) → ListsSame (now ++ (names ++ rest)) (first ++ whole)
    → ListsMore now names more → ListsSame (more ++ rest) (first ++ whole)
left first whole now names rest more within lists g src =
    both more rest g src
    ∙ (ap (λ (b : Bool). b || is_listed rest g src) (lists g src)
    ∙ (sym (both (now ++ names) rest g src)
    ∙ (ap (λ (ks : List Key). is_listed ks g src) (append_assoc now names rest) ∙ within g src)))

none_left : (first whole now : List Key) → ListsSame (now ++ []) (first ++ whole) → ListsMore first whole now
none_left first whole now within g src =
    ap (λ (ks : List Key). is_listed ks g src) (sym (append-nil now)) ∙ within g src

pub nothing_more : (before names : List Key) → names ≡ [] → ListsMore before names before
nothing_more before names none g src =
    ap (λ (ks : List Key). is_listed ks g src) (sym (append-nil before) ∙ ap (λ (ks : List Key). before ++ ks) (sym none))

-- where none were listed
pub listed_alone : (before names listed : List Key) → before ≡ [] → ListsMore before names listed → ListsSame listed names
listed_alone before names listed none lists g src =
    lists g src ∙ ap (λ (ks : List Key). is_listed (ks ++ names) g src) none

-- ---- each stands once

pub once_alone : (listed : List Key) → listed ≡ [] → IsStrictlySortedBy key_cmp listed
unfolding IsStrictlySortedBy
once_alone listed none = subst (λ (ks : List Key). IsStrictlySortedBy key_cmp ks) (sym none) tt

pub once_after : (o changed : State) (touched : Touched) (names : List SourceGroup) → AreNames o changed touched (keys_of names)
    → (before listed : List Key) → before ≡ [] → listed ≡ before ++ keys_of names → IsStrictlySortedBy key_cmp listed
once_after o changed touched names are before listed none is =
    subst (λ (ks : List Key). IsStrictlySortedBy key_cmp ks)
    (sym (is ∙ (ap (λ (ks : List Key). ks ++ keys_of names) none ∙ are.are))) (names_rise o (clear o changed).0 touched)

-- ---- an event, and the expiry of a timer

pub listed_after : (s : State) (w : ℕ) (a : Accepted) → ((m : ℕ) → ¬ (a ≡ Accepted.Advance m)) → (touched : Touched)
    (names : List SourceGroup) → AreNames s (change s w a).state touched (keys_of names) → IsQuiet s → (before listed : List Key)
    → listed ≡ before ++ keys_of names → ListsMore before (named_of s w a) listed
listed_after s w a timeless touched names are quiet before listed is =
    lists_so before (keys_of names) (named_of s w a) listed
    (λ g src. ap (λ (ks : List Key). is_listed ks g src) are.are
    ∙ (names_are_named s (change s w a).state quiet g src touched are.covers
    ∙ ap (λ (ks : List Key). is_listed ks g src) (sym (named_timeless s w a timeless)))) is

pub listed_fired : (s : State) (e : Ending) (touched : Touched) (names : List SourceGroup)
    → AreNames s (own_firing s e) touched (keys_of names)
    → IsQuiet s → (before listed : List Key) → listed ≡ before ++ keys_of names
    → ListsMore before (named_by s (own_firing s e)) listed
listed_fired s e touched names are quiet before listed is =
    lists_so before (keys_of names) (named_by s (own_firing s e)) listed
    (λ g src. ap (λ (ks : List Key). is_listed ks g src) are.are
    ∙ names_are_named s (own_firing s e) quiet g src touched are.covers) is

pub named_without_room : (s : State) (w : ℕ) (a : Accepted) → is_full s a ≡ true
    → where_accepted s (named_of s w) (Ok a) ≡ []
named_without_room s w a full = rw full refl

-- what an event names is what is named of what was accepted
pub named_in_turn : (s : State) (e : Event) (a : Accepted) (w : ℕ) → judged s e.kind ≡ Ok a → w ≡ e.draw
    → where_accepted s (named_of s w) (Ok a) ≡ event_named s e
unfolding event_named
named_in_turn s e a w heard draws =
    ap (λ (v : ℕ). where_accepted s (named_of s v) (Ok a)) draws
    ∙ ap (λ (j : Judged). where_accepted s (named_of s e.draw) j) (sym heard)

-- one that is refused or ignored names none, and a plain packet names none
pub stopped_names_none : (s : State) (e : Event) (stop : Stop) → judged s e.kind ≡ Err stop → event_named s e ≡ []
unfolding event_named
stopped_names_none s e stop is = ap (λ (j : Judged). where_accepted s (named_of s e.draw) j) is

pub plain_event_names_none : (s : State) (e : Event) (i : IfaceId) (p : Packet) (how : Plain) → IsAtRest s
    → judged s e.kind ≡ Ok (Accepted.Data i p) → has_row s.sources (fact_key p) ≡ true → decided_by_answers s i p ≡ Some how
    → event_named s e ≡ []
unfolding event_named
plain_event_names_none s e i p how rest heard known answered =
    ap (λ (j : Judged). where_accepted s (named_of s e.draw) j) heard ∙ go (is_full s (Accepted.Data i p))
  where
    go : (b : Bool) → (if b then [] else named_of s e.draw (Accepted.Data i p)) ≡ []
    go true = refl
    go false = plain_names_none s e.draw i p how rest known answered

pub unlisted : (listed : List Key) (s : State) (e : Event) → listed ≡ [] → event_named s e ≡ []
    → ListsSame listed (event_named s e)
unlisted listed s e none unnamed g src = ap (λ (ks : List Key). is_listed ks g src) (none ∙ sym unnamed)

-- ---- how far a loop has come: what is listed so far, with the sources that are still to be named

module _ (w : ℕ) (o : State) (e : Ending) (first : List Key) where
  abbrev pub InstantLists : State → List Key → Type 0
  InstantLists s listed =
      ListsSame (listed ++ (told_instant named_by w s e).1) (first ++ (told_instant named_by w o e).1)

  pub instant_lists_none : InstantLists o first
  instant_lists_none g src = refl

  pub firing_lists : (s : State) (listed : List Key) (d : Ending) → IsFirable s → ends_from e.end s ≡ true
      → next_due e.end s ≡ Some d → (t : State) (more : List Key) → t ≡ (fire_once w s d).0
      → ListsMore listed (named_by s (own_firing s d)) more → InstantLists s listed → InstantLists t more
  firing_lists s listed d firable from there t more is lists within =
      subst (λ (u : State). InstantLists u more) (sym is)
      (left first (told_instant named_by w o e).1 listed (named_by s (own_firing s d))
      (told_instant named_by w (fire_once w s d).0 e).1 more
      (subst (λ (ks : List Key). ListsSame (listed ++ ks) (first ++ (told_instant named_by w o e).1))
      (instant_told named_by w s e d firable from there) within) lists)

  pub instant_listed : (s : State) (listed : List Key) → (told_instant named_by w s e).1 ≡ [] → InstantLists s listed
      → ListsMore first (told_instant named_by w o e).1 listed
  instant_listed s listed none within =
      none_left first (told_instant named_by w o e).1 listed
      (subst (λ (ks : List Key). ListsSame (listed ++ ks) (first ++ (told_instant named_by w o e).1)) none within)

module _ (w m : ℕ) (o : State) (first : List Key) where
  abbrev pub AllLists : State → List Key → Type 0
  AllLists s listed = ListsSame (listed ++ (told_all named_by w m s).1) (first ++ (told_all named_by w m o).1)

  pub all_lists_none : AllLists o first
  all_lists_none g src = refl

  pub instant_lists : (s : State) (listed : List Key) (e : Ending) → IsReady s.present s → next_due m s ≡ Some e
      → (t : State) (more : List Key) → t ≡ (fire_instant w s e).0
      → ListsMore listed (told_instant named_by w s e).1 more → AllLists s listed → AllLists t more
  instant_lists s listed e ready there t more is lists within =
      subst (λ (u : State). AllLists u more) (sym is)
      (left first (told_all named_by w m o).1 listed (told_instant named_by w s e).1
      (told_all named_by w m (fire_instant w s e).0).1 more
      (subst (λ (ks : List Key). ListsSame (listed ++ ks) (first ++ (told_all named_by w m o).1))
      (all_told named_by w m s e ready there) within) lists)

  pub all_listed : (s : State) (listed : List Key) → (told_all named_by w m s).1 ≡ [] → AllLists s listed
      → ListsMore first (told_all named_by w m o).1 listed
  all_listed s listed none within =
      none_left first (told_all named_by w m o).1 listed
      (subst (λ (ks : List Key). ListsSame (listed ++ ks) (first ++ (told_all named_by w m o).1)) none within)

-- ---- the last of some events

last_listed : (s : State) (es : List Event) (e : Event) (listed : List Key)
    → ListsSame listed (event_named (state_after s es) e) → IsLastListed s (es ++ e ∷ []) listed
unfolding state_after ran
last_listed s [] e listed lists = lists
last_listed s (x ∷ []) e listed lists = lists
last_listed s (x ∷ y ∷ es) e listed lists = last_listed (step s x).state (y ∷ es) e listed lists

module _ (first : State) (events : List Event) where
  pub lists_next : (i : ℕ) (s : State) (e : Event) (listed : List Key) → i < length events → e ≡ get_or events i e
      → s ≡ state_after first (take i events) → ListsSame listed (event_named s e)
      → IsLastListed first (take (i + 1) events) listed
  lists_next i s e listed lt is state lists =
      let next : take (i + 1) events ≡ take i events ++ e ∷ [] =
      ap (λ (k : ℕ). take k events) (add-one i) ∙ take-suc events i e lt
      ∙ ap (λ (x : Event). take i events ++ x ∷ []) (sym is) in
      subst (λ (es : List Event). IsLastListed first es listed) (sym next)
      (last_listed first (take i events) e listed
      (subst (λ (x : State). ListsSame listed (event_named x e)) state lists))

  pub lists_all : (i : ℕ) (listed : List Key) → length events ≤ i → IsLastListed first (take i events) listed
      → IsLastListed first events listed
  lists_all i listed le lists =
      subst (λ (es : List Event). IsLastListed first es listed) (take_all i events le) lists
