-- What follows of a change, in numbers.
use Rattle.std.{proofs.{Common.{◌≡◌, ◌∙◌, ℕ, ◌+◌, ◌≤◌, ◌==◌, ◌&&◌, min, Bool, true, false, List, [], ◌∷◌, ◌++◌, fold, length, map, nat_lt, Some, is_some, refl, sym, ap, subst, arith, length-append, eqb-true}, Math.Nat.{le-min, min-le_left}, lemmas.Bool.Decides.nat_tests}, specs.List.{AllByRecursion, filter}}
use Rattle.pim_ip.{specs.declared.addr.Addr.Addr}
use Rattle.pim_types.{specs.{declared.{config.IfaceId.IfaceId, fact.{AssertRow.AssertRow, Key.Key}, outcome.Emission.Emission}, Keys.{is_of_group, source_in, source_key, star_key}}}
use Rattle.pim_wire.{specs.{Values.JoinPrune, declared.hello.Hello.Hello as HelloValue}}
use Rattle.pim_model.{specs.{declared.accepted.Accepted.Accepted, Asserts.{assert_forgotten, without_spt_bit}, Clearing.{Cleared, clear, clearable_count, cleared}, Firing.settled, Hellos.hello_received, Messages.Message, State.State, Step.{Change, change, done, step, taken}, Tables.{Table, ascending, insert_number}, Upstream.{TimerChange, group_upstream, groups_of, moved_join_timer, moved_override_timer, source_upstream, sources_of, with_join_timer, with_override_timer}}}
use Rattle.law_settled.{proofs.{ListLaws.{each_filter, each_map, each_passes}, TurnLaws.{kept_in_turn, kept_to_the_end}}}
use Rattle.law_events.{specs.{Events.touched_by_event, Locality.{AgreesBut, IsQuiet, own_keys, own_settled, own_upstream, touched_clear, touched_registers, touched_to_clear, touching}, Scopes.reads}, proofs.{EventLaws.change_touches, RefreshedNeighbours.hello_again_touches_none, Registers.{registers_agree, registers_of_touched}, Settling.settling_is_own, TouchedClearing.{chosen_is_touched, clear_of_touched, cleared_agrees}, Touches.touching_is_closed, Differing.none_left}}
use Rattle.law_streams.{specs.Answers.{AnswersAreBounded, HelloAgainIsSilent, OneSourceFollows, SeenIsSilent, cancels, follows, is_touched_winner, most_sent, owed, told_of_group, told_of_groups}, proofs.{Cancels.clearing_cancels, Independent.taken_at_once, Made.step_taken, Sent.{writing_costs, writing_doubles}, Told.upstream_told}}

-- ---- the interfaces stay

abbrev Links : State → State → Type 0
Links s t = t.interfaces ≡ s.interfaces

cleared_links : (s : State) (c : Cleared) → Links s (cleared s c).0
unfolding cleared assert_forgotten without_spt_bit
cleared_links s c = grind arith

clear_links : (touches : Key → Bool) (o s : State) → Links s (touched_clear touches o s).0
unfolding touched_clear
clear_links touches o s =
    kept_to_the_end (touched_to_clear touches o) cleared (λ t. Links s t) (λ t c f e. cleared_links t c ∙ f)
    (clearable_count s) s refl

register_links : (touches : Key → Bool) (s : State) → Links s (touched_registers touches s)
unfolding touched_registers
register_links touches s = refl

join_timer_links : (s : State) (k : Key) (change : TimerChange) → Links s (with_join_timer s k change)
unfolding with_join_timer moved_join_timer
join_timer_links s k change = grind arith

override_timer_links : (s : State) (k : Key) (change : TimerChange) → Links s (with_override_timer s k change)
unfolding with_override_timer moved_override_timer
override_timer_links s k change = grind arith

module _ (o a : State) (w : ℕ) where
  source_links : (g : ℕ) (s : State) (src : ℕ) → Links s (source_upstream o a w g s src).0
  unfolding source_upstream
  source_links g s src = override_timer_links _ _ _ ∙ join_timer_links s _ _

  group_links : (keys : List Key) (s : State) (g : ℕ) → Links s (group_upstream o a w keys s g).0
  unfolding group_upstream
  group_links keys s g =
      kept_in_turn (source_upstream o a w g) (λ t. Links s t) (λ t src f. source_links g t src ∙ f) _ _
      (join_timer_links s _ _)

  told_links : (keys : List Key) → Links a (own_upstream keys o a w).0
  unfolding own_upstream
  told_links keys =
      kept_in_turn (λ t g. group_upstream o a w (filter (touching keys) (own_keys g o ++ own_keys g a)) t g) (λ t. Links a t)
      (λ t g f. group_links (filter (touching keys) (own_keys g o ++ own_keys g a)) t g ∙ f) (groups_of keys) a refl

-- ---- a change of some keys

with_hellos : (sent m o : ℕ) → sent ≤ m + o → sent ≤ m + m → sent ≤ m + min m o
with_hellos sent m o f g = grind (arith, le-min)

module _ (keys : List Key) (s : State) (quiet : IsQuiet s) where
  clear_agrees : (t : State) → AgreesBut (touching keys) s t → AgreesBut (touching keys) s (touched_clear (touching keys) s t).0
  unfolding touched_clear
  clear_agrees t agree =
      kept_to_the_end (touched_to_clear (touching keys) s) cleared (AgreesBut (touching keys) s)
      (λ u c kept e. cleared_agrees (touching keys) s (touching_is_closed keys) u c (chosen_is_touched (touching keys) s u c e) kept)
      (clearable_count t) t agree

  module _ (c : State × List Message) (w : ℕ) (agree : AgreesBut (touching keys) s c.0) where
    abbrev registered : State
    registered = touched_registers (touching keys) c.0

    registered_agree : AgreesBut (touching keys) s registered
    registered_agree = registers_agree (touching keys) (touching_is_closed keys) s c.0 agree

    abbrev after : State × List Message
    after = touched_clear (touching keys) s registered

    abbrev told : State × List Message
    told = own_upstream keys s after.0 w

    after_is : (clear s c.0).0 ≡ after.0
    unfolding clear
    after_is = grind (arith, registers_of_touched, touching_is_closed, clear_of_touched, registered_agree)

    cancels_are : cancels keys registered ≡ cancels keys c.0
    unfolding cancels touched_registers
    cancels_are = refl

    messages_few : length (c.1 ++ after.1 ++ told.1) ≤ length c.1 + follows keys s c.0
    unfolding follows
    messages_few =
        grind (arith, clearing_cancels, upstream_told, clear_agrees, registered_agree, after_is, cancels_are, length-append)

    owed_are : owed told.0 ≡ owed c.0
    owed_are = grind (arith, told_links, clear_links, register_links)

    abbrev most : ℕ
    most = length c.1 + follows keys s c.0 + min (length c.1 + follows keys s c.0) (owed c.0)

    own_bound : length (own_settled keys s c w).1 ≤ most
    unfolding own_settled
    own_bound = grind (arith, messages_few, writing_costs, writing_doubles, owed_are, with_hellos)

    pub settled_bound : length (settled s c w).1 ≤ most
    settled_bound = grind (arith, settling_is_own, own_bound)

-- ---- an event

all_counted : (sent m copies registered follow hellos : ℕ) → sent ≤ m + follow + hellos
    → sent + (copies + registered) ≤ m + copies + registered + follow + hellos
all_counted sent m copies registered follow hellos le = omega (arith, le)

pub answers_are_bounded : AnswersAreBounded
unfolding most_sent done
answers_are_bounded s e a keys quiet is touched =
    let w : ℕ = e.draw in
    let c : Change = change s w a in
    let sent : List Emission = (settled s (c.state, c.messages) w).1 in
    let le : length sent
    ≤ length c.messages + follows keys s c.state + min (length c.messages + follows keys s c.state) (owed c.state) =
    settled_bound keys s quiet (c.state, c.messages) w (change_touches s w a keys touched) in
    let at : step s e ≡ done s w c = step_taken s e a is ∙ taken_at_once s w a keys touched in
    let emitted : length (step s e).emissions ≡ length (sent ++ c.copies ++ c.registered) =
    ap (λ t. length t.emissions) at in
    let x = length-append (sent ++ c.copies) c.registered in
    let y = length-append sent c.copies in
    let z = all_counted (length sent) (length c.messages) (length c.copies) (length c.registered) (follows keys s c.state)
    (min (length c.messages + follows keys s c.state) (owed c.state)) le in
    omega (arith, emitted, x, y, z)

-- ---- one source

abbrev Is : ℕ → ℕ → Type 0
Is src n = n ≡ src

-- at most the one number, in order and once
data AtMost (src : ℕ) : List ℕ → Type 0 where
  NoNumber : AtMost src []
  OneNumber : AtMost src (src ∷ [])

inserted : (src : ℕ) (ns : List ℕ) → AtMost src ns → AtMost src (insert_number src ns)
unfolding insert_number
inserted src [] NoNumber = OneNumber
inserted src (n ∷ (m ∷ ms)) none = elim none [ ]
inserted src (n ∷ []) OneNumber = rw (not_below src, its_own src) OneNumber
  where
    not_below : (n : ℕ) → nat_lt n n ≡ false
    not_below n = grind (arith, nat_tests)

    its_own : (n : ℕ) → (n == n) ≡ true
    its_own n = grind (arith, nat_tests)

all_inserted : (src : ℕ) (ns found : List ℕ) → AllByRecursion (Is src) ns → AtMost src found
    → AtMost src (fold (λ sorted n. insert_number n sorted) found ns)
all_inserted src [] found f g = g
all_inserted src (n ∷ ns) found f g =
    all_inserted src ns (insert_number n found) f.1
    (subst (λ (m : ℕ). AtMost src (insert_number m found)) (sym f.0) (inserted src found g))

one_long : (src : ℕ) (ns : List ℕ) → AtMost src ns → length ns ≤ 1
one_long src ns none = grind arith

module _ (g src : ℕ) (named : (src == 0) ≡ false) where
  abbrev key : Key
  key = source_key 0 g src

  read_source : (k : Key) → touching (key ∷ []) k ≡ true → source_in k ≡ src
  unfolding touching reads
  read_source k e = grind (arith, eqb-true)

  star_unread : touching (key ∷ []) (star_key 0 g) ≡ false
  unfolding touching reads
  star_unread = grind arith

  its_source : (ks : List Key) → AtMost src (sources_of g (filter (touching (key ∷ [])) ks))
  unfolding sources_of ascending
  its_source ks =
      all_inserted src (map source_in (filter (λ k. is_of_group g k && is_some k.source) (filter (touching (key ∷ [])) ks))) []
      (each_map (λ k. touching (key ∷ []) k ≡ true) (Is src) source_in read_source
      (filter (λ k. is_of_group g k && is_some k.source) (filter (touching (key ∷ [])) ks))
      (each_filter (λ k. touching (key ∷ []) k ≡ true) (λ k. is_of_group g k && is_some k.source) (filter (touching (key ∷ [])) ks)
      (each_passes (touching (key ∷ [])) ks))) NoNumber

  one_told : (o a : State) → told_of_groups (key ∷ []) o a (groups_of (key ∷ [])) ≤ 2
  unfolding told_of_groups told_of_group groups_of ascending insert_number
  one_told o a =
      let le : length (sources_of g (filter (touching (key ∷ [])) (own_keys g o ++ own_keys g a))) ≤ 1 =
      one_long src _ (its_source (own_keys g o ++ own_keys g a)) in
      rw star_unread (omega (arith, le))

pub one_source_follows : OneSourceFollows
unfolding follows
one_source_follows s t g src named = let le = one_told g src named s (clear s t).0 in omega (arith, le)

-- ---- silence

nothing_sent : {X : Type 0} (xs : List X) → length xs ≤ 0 → xs ≡ []
nothing_sent [] le = refl
nothing_sent (x ∷ xs) le = absurd (omega (arith, le))

nothing_touched : (s : State) → cancels [] s ≡ 0
unfolding cancels touching
nothing_touched s = ap (λ (t : Table AssertRow). length t) (none_left (is_touched_winner []) (λ e. refl) s.asserts)

nothing_follows : (s t : State) → follows [] s t ≡ 0
unfolding follows told_of_groups groups_of ascending
nothing_follows s t = let e = nothing_touched t in omega (arith, e)

silent_settled : (s : State) → IsQuiet s → (t : State) (w : ℕ) → AgreesBut (touching []) s t → (settled s (t, []) w).1 ≡ []
silent_settled s quiet t w agree =
    let le : length (settled s (t, []) w).1 ≤ 0 + follows [] s t + min (0 + follows [] s t) (owed t) =
    settled_bound [] s quiet (t, []) w agree in
    let none : follows [] s t ≡ 0 = nothing_follows s t in
    let few : min (0 + follows [] s t) (owed t) ≤ 0 + follows [] s t = min-le_left (0 + follows [] s t) (owed t) in
    nothing_sent _ (omega (arith, le, none, few))

silent_change : (s : State) (w : ℕ) (t : State) → (settled s (t, []) w).1 ≡ []
    → (done s w (record { state = t; messages = []; copies = []; registered = [] })).emissions ≡ []
unfolding done
silent_change s w t e = rw e refl

touches_none : (s : State) (i : IfaceId) (m : JoinPrune) → touched_by_event s (Accepted.JoinPruneSeen i m) ≡ Some []
unfolding touched_by_event
touches_none s i m = refl

seen_at_once : (s : State) (w : ℕ) (i : IfaceId) (m : JoinPrune)
    → (settled s ((change s w (Accepted.JoinPruneSeen i m)).state, []) w).1 ≡ []
    → (taken s w (Accepted.JoinPruneSeen i m)).emissions ≡ []
unfolding taken change
seen_at_once s w i m f = silent_change s w _ f

pub seen_is_silent : SeenIsSilent
seen_is_silent s e i m quiet is =
    let a : Accepted = Accepted.JoinPruneSeen i m in
    ap (λ t. t.emissions) (step_taken s e a is)
    ∙ seen_at_once s e.draw i m (silent_settled s quiet _ e.draw (change_touches s e.draw a [] (touches_none s i m)))

hello_at_once : (s : State) (w : ℕ) (i : IfaceId) (from : Addr) (h : HelloValue)
    → (settled s (hello_received s i.number from.bits h w, []) w).1 ≡ []
    → (taken s w (Accepted.Hello i from h)).emissions ≡ []
unfolding taken change
hello_at_once s w i from h f = silent_change s w _ f

pub hello_again_is_silent : HelloAgainIsSilent
hello_again_is_silent s e i from h quiet fine is again =
    ap (λ t. t.emissions) (step_taken s e (Accepted.Hello i from h) is)
    ∙ hello_at_once s e.draw i from h
    (silent_settled s quiet (hello_received s i.number from.bits h e.draw) e.draw
    (hello_again_touches_none s i.number from.bits h e.draw again.row fine.ordered.neighbours again.known again.priority
    again.lasts again.generation))
