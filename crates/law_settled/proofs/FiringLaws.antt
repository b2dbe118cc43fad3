-- Firing ends: each firing makes what is due by its instant fewer, each instant is later than the one before.
use Rattle.std.{proofs.{Common.{◌≡◌, ℕ, suc, ◌<◌, ◌≤◌, ◌+◌, ◌-◌, nat_lt, nat_le, Bool, true, false, not, cond, ◌&&◌, ◌||◌, List, [], ◌∷◌, ◌++◌, append_assoc, length, filter, Ok, Option, Some, None, refl, sym, ap, ◌∙◌, subst, arith, leb-false, le-leb, rules}, lemmas.Bool.{or_left, or_right, both_ways, false≢true, true_from_ne_false}}, specs.{Cmp.first_so, List.{list_any, list_all}, Option.option_map_or}}
use Rattle.pim_types.{specs.{declared.{config.Config.Config, fact.{GroupRecordRow.GroupRecordRow, GroupRepeatRow.GroupRepeatRow, Key.Key, QuerierRow.QuerierRow, RegisterRow.RegisterRow, SourceRepeatRow.SourceRepeatRow}, outcome.Emission.Emission, timer.TimerKind.TimerKind}, Keys.{same_key, iface_key, iface_in, group_in, star_key}}, proofs.Keys.equal_keys}
use Rattle.pim_model.{specs.{Asserts.assert_due, Downstream.{downstream_expired, prune_pending_due}, Firing.{fire_all, fire_instant, fire_once, fire_row, fired, keepalive_due, settled, silent, startup_left}, Hellos.{hello_due, neighbour_due}, Limits.{config_test, is_querier_config}, Messages.Message, Querier.{general_query_due, group_record_due, group_repeat_due, other_querier_gone, source_repeat_due}, Registers.register_due, Repeat.{and_then, until_none}, State.{State, opening, settings_of}, Step.advanced, Tables.{Table, row_at}, Timers.{endings, Ending, next_due, next_query, other_querier_end, timers}, Upstream.override_timer_due}}
use Rattle.law_settled.{proofs.{Parts.{Row, end_of, is_sound, part_of, timed_rows}, ListLaws.{any_more, filter_shorter, either}, TableLaws.{any_or, none_passes}, RepeatLaws.none_is_next, TurnLaws.{kept_to_the_end, same_when_none, unrolls_with}, Ends.{Mark, Ends, Faulty, counts, shows_row, shows_in, shows, Keeps, kept, kept_then, absent_row}, DueKept.{Gone, Fires, assert_fires, hello_fires, join_fires, keepalive_fires, prune_pending_fires, register_fires, row_goes}, IgmpKept.{IsSound, still_sound, still_gone, other_querier_fires, general_query_fires, group_repeat_fires, source_repeat_fires}, RecordsKept.{group_record_fires, source_record_fires}, SettledKept.settled_kept, TimerLaws.{first_of_instant, IsNext, is_next, all_later, among_timers, after_is_from, from_shown, shown_from, shown_after}}, specs.Laws.{IsAhead, IsFirable, IsReady, ends_after, ends_from, is_under_star, is_under_source, is_querier_entry}}

-- ---- the key of an end is one of its kind

module _ {R : Type 0} (end_of : R → Option ℕ) (sound : Key × R → Bool) (test : Key → Bool)
    (tests : (e : Key × R) → sound e ≡ true → test e.0 ≡ true) where
  key_or_fault : (k : Key) (x : ℕ) (e : Key × R) → shows_row end_of sound (Ends k x) e ≡ true
      → (test k || not (sound e)) ≡ true
  key_or_fault k x e f = grind (arith, equal_keys, end_of, or_left, or_right)

  key_of_kind : (k : Key) (x : ℕ) (t : Table R) → shows_in end_of sound (Ends k x) t ≡ true
      → (shows_in end_of sound Faulty t ≡ true → ⊥)
      → test k ≡ true
  key_of_kind k x t e faultless = grind (arith, either, any_or, any_more, shows_row, end_of, key_or_fault)

abbrev is_star_key : Key → Bool
is_star_key k = same_key (star_key (iface_in k) (group_in k)) k

abbrev is_iface_key : Key → Bool
is_iface_key k = same_key (iface_key (iface_in k)) k

-- ---- a timer fires

row_fires : (m : ℕ) (s : State) (kind : TimerKind) (k : Key)
    (fire : State → Key → Row (part_of kind) → State × List Message)
    → ((r : Row (part_of kind)) → row_at (timed_rows kind s) k ≡ Some r → Fires m kind k s (fire s k r).0)
    → Fires m kind k s (option_map_or (fire s k) (row_at (timed_rows kind s) k) (s, [])).0
row_fires m s kind k fire there = go (row_at (timed_rows kind s) k) refl
  where
    go : (o : Option (Row (part_of kind))) → row_at (timed_rows kind s) k ≡ o
        → Fires m kind k s (option_map_or (fire s k) o (s, [])).0
    go None e = record {
      keeps = kept m s;
      gone = λ x by f. absent_row (end_of kind) (is_sound (part_of kind)) m k x (timed_rows kind s) e f;
    }
    go (Some r) e = there r e

module _ (m : ℕ) (s : State) (sound : IsSound s) (now : s.present ≡ m) (k : Key) (x : ℕ) where
  star_form : {R : Type 0} (end_of : R → Option ℕ) (t : Table R) → shows_in end_of is_under_star (Ends k x) t ≡ true
      → (shows_in end_of is_under_star Faulty t ≡ true → ⊥) → star_key (iface_in k) (group_in k) ≡ k
  star_form end_of t e faultless =
      equal_keys (star_key (iface_in k) (group_in k)) k
      (key_of_kind end_of is_under_star is_star_key (λ e f. f) k x t e faultless)

  iface_form : (end_of : QuerierRow → Option ℕ) (t : Table QuerierRow)
      → shows_in end_of is_querier_entry (Ends k x) t ≡ true
      → (shows_in end_of is_querier_entry Faulty t ≡ true → ⊥) → iface_key (iface_in k) ≡ k
  iface_form end_of t e faultless =
      equal_keys (iface_key (iface_in k)) k
      (key_of_kind end_of is_querier_entry is_iface_key
      (λ e f. first_so (is_iface_key e.0) (nat_lt 0 (e.1).robustness && nat_lt 0 (e.1).query_interval) f) k x t e
      faultless)

  fires : (kind : TimerKind) → shows kind (Ends k x) s ≡ true → Fires m kind k s (fired s kind k).0
  unfolding fired fire_row neighbour_due downstream_expired override_timer_due
  fires TimerKind.Neighbour e = row_goes m s TimerKind.Neighbour k
  fires TimerKind.PrunePending e =
      row_fires m s TimerKind.PrunePending k prune_pending_due (prune_pending_fires m s now k)
  fires TimerKind.DownstreamExpiry e = row_goes m s TimerKind.DownstreamExpiry k
  fires TimerKind.GroupRecord e =
      subst (λ (q : Key). Fires m TimerKind.GroupRecord q s (group_record_due s (iface_in k) (group_in k)))
      (star_form (λ (r : GroupRecordRow). r.end) s.group_records e (sound.faultless TimerKind.GroupRecord))
      (group_record_fires m s now (iface_in k) (group_in k))
  fires TimerKind.SourceRecord e = source_record_fires m s sound k
  fires TimerKind.Assert e = row_fires m s TimerKind.Assert k assert_due (λ r there. assert_fires m s now k r)
  fires TimerKind.Keepalive e =
      row_fires m s TimerKind.Keepalive k (λ t q r. silent (keepalive_due t q r))
      (λ r there. keepalive_fires m s now k r)
  fires TimerKind.Register e =
      row_fires m s TimerKind.Register k (λ t q (r : RegisterRow). register_due t q r.state)
      (λ r there. register_fires m s now k r.state)
  fires TimerKind.Override e = row_goes m s TimerKind.Override k
  fires TimerKind.Join e = join_fires m s now k
  fires TimerKind.OtherQuerier e =
      subst (λ (q : Key). Fires m TimerKind.OtherQuerier q s (other_querier_gone s (iface_in k)).0)
      (iface_form (λ (r : QuerierRow). other_querier_end r.role) s.queriers e (sound.faultless TimerKind.OtherQuerier))
      (other_querier_fires m s sound now (iface_in k))
  fires TimerKind.GroupRepeat e =
      row_fires m s TimerKind.GroupRepeat k
      (λ t q (r : GroupRepeatRow). group_repeat_due t (iface_in q) (group_in q) r.left)
      (λ r there. subst (λ (q : Key). Fires m TimerKind.GroupRepeat q s
      (group_repeat_due s (iface_in k) (group_in k) r.left).0)
      (star_form (λ (r : GroupRepeatRow). Some r.next) s.group_repeats e (sound.faultless TimerKind.GroupRepeat))
      (group_repeat_fires m s sound now (iface_in k) (group_in k) r.left))
  fires TimerKind.SourceRepeat e =
      subst (λ (q : Key). Fires m TimerKind.SourceRepeat q s (source_repeat_due s (iface_in k) (group_in k)).0)
      (star_form (λ (r : SourceRepeatRow). Some r.next) s.source_repeats e (sound.faultless TimerKind.SourceRepeat))
      (source_repeat_fires m s sound now (iface_in k) (group_in k))
  fires TimerKind.GeneralQuery e =
      row_fires m s TimerKind.GeneralQuery k
      (λ t q (r : QuerierRow). general_query_due t (iface_in q) (startup_left r.role))
      (λ r there. subst (λ (q : Key). Fires m TimerKind.GeneralQuery q s
      (general_query_due s (iface_in k) (startup_left r.role)).0)
      (iface_form (λ (r : QuerierRow). next_query r.role) s.queriers e (sound.faultless TimerKind.GeneralQuery))
      (general_query_fires m s sound now (iface_in k) (startup_left r.role)))
  fires TimerKind.Hello e = row_fires m s TimerKind.Hello k hello_due (λ r there. hello_fires m s now k r)

-- ---- one firing

-- the present is no timer
same_at : (kind : TimerKind) (mark : Mark) (s : State) (p : ℕ)
    → shows kind mark (record s { present = p }) ≡ shows kind mark s
same_at TimerKind.Neighbour mark s p = refl
same_at _ mark s p = refl

pub sound_at : (s : State) (p : ℕ) → IsSound s → IsSound (record s { present = p })
sound_at s p sound =
    record { firm = sound.firm; faultless = λ kind e. sound.faultless kind (sym (same_at kind Faulty s p) ∙ e) }

record FiresOnce (m : ℕ) (e : Ending) (s t : State) : Type 0 where
  sound : IsSound t
  present : t.present ≡ m
  shown : (kind : TimerKind) (mark : Mark) → counts m mark ≡ true → shows kind mark t ≡ true → shows kind mark s ≡ true
  gone : Gone m e.timer.kind e.timer.key t

module _ (w : ℕ) (s : State) (e : Ending) (sound : IsSound s) (there : shows e.timer.kind (Ends e.timer.key e.end) s
    ≡ true) where
  opened : State
  opened = record s { present = e.end }

  its_change : State × List Message
  its_change = fired opened e.timer.kind e.timer.key

  its_fires : Fires e.end e.timer.kind e.timer.key opened its_change.0
  unfolding opened its_change
  its_fires =
      fires e.end opened (sound_at s e.end sound) refl e.timer.key e.end e.timer.kind
      (same_at e.timer.kind (Ends e.timer.key e.end) s e.end ∙ there)

  its_settled : Keeps e.end its_change.0 (settled s its_change w).0
  unfolding opened
  its_settled = settled_kept e.end s its_change w its_fires.keeps.present

  fires_once : FiresOnce e.end e s (fire_once w s e).0
  unfolding fire_once opened its_change
  fires_once =
      let all : Keeps e.end opened (settled s its_change w).0 =
      kept_then e.end opened its_change.0 (settled s its_change w).0 its_fires.keeps its_settled in
      record {
        sound = still_sound e.end opened (settled s its_change w).0 all (sound_at s e.end sound);
        present = all.present;
        shown = λ kind mark by f. sym (same_at kind mark s e.end) ∙ all.shown kind mark by f;
        gone =
            still_gone e.end e.timer.kind e.timer.key its_change.0
            (settled s its_change w).0 its_settled its_fires.gone;
      }

-- ---- an instant

module _ {X : Type 0} (p q : X → Bool) (more : (x : X) → p x ≡ true → q x ≡ true) where
  no_more_step : (x : X) (b c : Bool) → p x ≡ b → q x ≡ c → (xs ys : List X) → length xs ≤ length ys
      → length (cond b (x ∷ xs) xs) ≤ length (cond c (x ∷ ys) ys)
  no_more_step x b c e f xs ys h = grind arith

  no_more_pass : (xs : List X) → length (filter p xs) ≤ length (filter q xs)
  no_more_pass [] = omega arith
  no_more_pass (x ∷ xs) = no_more_step x (p x) (q x) refl refl (filter p xs) (filter q xs) (no_more_pass xs)

  fewer_step : (x : X) (xs : List X) (b c : Bool) → p x ≡ b → q x ≡ c
      → (list_any (λ x. q x && not (p x)) xs ≡ true → length (filter p xs) < length (filter q xs))
      → ((c && not b) || list_any (λ x. q x && not (p x)) xs) ≡ true
      → length (cond b (x ∷ filter p xs) (filter p xs)) < length (cond c (x ∷ filter q xs) (filter q xs))
  fewer_step x xs b c e f ih h = grind (arith, no_more_pass)

  fewer_pass : (xs : List X) → list_any (λ x. q x && not (p x)) xs ≡ true → length (filter p xs) < length (filter q xs)
  fewer_pass [] e = cc
  fewer_pass (x ∷ xs) e = fewer_step x xs (p x) (q x) refl refl (fewer_pass xs) e

at_most : (n : ℕ) → nat_le n n ≡ true
at_most n = le-leb n n (omega arith)

one_and_not : (a b : Bool) → a ≡ true → (b ≡ true → ⊥) → (a && not b) ≡ true
one_and_not a b e f = grind arith

-- s is the state at the beginning of the instant m
pub record InInstant (m : ℕ) (s t : State) : Type 0 where
  pub sound : IsSound t
  pub from : (kind : TimerKind) (k : Key) (x : ℕ) → shows kind (Ends k x) t ≡ true → m ≤ x
  pub shown : (kind : TimerKind) (k : Key) → shows kind (Ends k m) t ≡ true → shows kind (Ends k m) s ≡ true

abbrev pub due_still : ℕ → State → Ending → Bool
due_still m t d = shows d.timer.kind (Ends d.timer.key m) t

-- what is due at the beginning and still is
abbrev pub still_due : ℕ → State → State → ℕ
still_due m s t = length (filter (due_still m t) (timers s))

module _ (w m : ℕ) (s : State) where
  module _ (t : State) (d : Ending) (inside : InInstant m s t) (there : next_due m t ≡ Some d) where
    its_end : d.end ≡ m
    its_end =
        let next : IsNext m t d = is_next m t d there in
        let early : m ≤ d.end = inside.from d.timer.kind d.timer.key d.end next.shown in
        let late : d.end ≤ m = next.due in
        omega arith

    once_inside : FiresOnce m d t (fire_once w t d).0
    once_inside =
        subst (λ (n : ℕ). FiresOnce n d t (fire_once w t d).0) its_end
        (fires_once w t d inside.sound (is_next m t d there).shown)

    from_then : (kind : TimerKind) (k : Key) (x : ℕ) → shows kind (Ends k x) (fire_once w t d).0 ≡ true → m ≤ x
    from_then kind k x e = go (nat_le x m) refl
      where
        go : (b : Bool) → nat_le x m ≡ b → m ≤ x
        go true by = inside.from kind k x (once_inside.shown kind (Ends k x) by e)
        go false late = let after : m < x = leb-false x m late in omega arith

    pub still_inside : InInstant m s (fire_once w t d).0
    still_inside = record {
      sound = once_inside.sound;
      from = from_then;
      shown = λ kind k e. inside.shown kind k (once_inside.shown kind (Ends k m) (at_most m) e);
    }

    pub fewer_due : still_due m s (fire_once w t d).0 < still_due m s t
    fewer_due =
        let due : shows d.timer.kind (Ends d.timer.key m) t ≡ true =
        subst (λ (n : ℕ). shows d.timer.kind (Ends d.timer.key n) t ≡ true) its_end (is_next m t d there).shown in
        fewer_pass (due_still m (fire_once w t d).0) (due_still m t)
        (λ c e. once_inside.shown c.timer.kind (Ends c.timer.key m) (at_most m) e) (timers s)
        (among_timers s (λ c. due_still m t c && not (due_still m (fire_once w t d).0 c)) d.timer.kind d.timer.key m
        (one_and_not (shows d.timer.kind (Ends d.timer.key m) t)
        (shows d.timer.kind (Ends d.timer.key m) (fire_once w t d).0) due
        (once_inside.gone m (at_most m)))
        (inside.shown d.timer.kind d.timer.key due))

abbrev pub EndsFrom : ℕ → State → Type 0
EndsFrom m s = (kind : TimerKind) (k : Key) (x : ℕ) → shows kind (Ends k x) s ≡ true → m ≤ x

module _ (w : ℕ) (s : State) (e : Ending) (sound : IsSound s) (from : EndsFrom e.end s) where
  pub begins : InInstant e.end s s
  begins = record { sound = sound; from = from; shown = λ kind k f. f }

  instant_done : next_due e.end (fire_instant w s e).0 ≡ None
  unfolding fire_instant
  instant_done =
      let most : still_due e.end s s ≤ length (timers s) = filter_shorter (due_still e.end s) (timers s) in
      none_is_next (next_due e.end) (fire_once w) (InInstant e.end s) (still_due e.end s)
      (λ t d inside there. still_inside w e.end s t d inside there)
      (λ t d inside there. fewer_due w e.end s t d inside there)
      (length (timers s) + 1) s begins (omega arith)

  instant_ends : InInstant e.end s (fire_instant w s e).0
  unfolding fire_instant
  instant_ends =
      kept_to_the_end (next_due e.end) (fire_once w) (InInstant e.end s)
      (λ t d inside there. still_inside w e.end s t d inside there) (length (timers s) + 1) s begins

  record AtInstant (t : State) : Type 0 where
    inside : InInstant e.end s t
    present : t.present ≡ e.end

  present_stays : s.present ≡ e.end → ((fire_instant w s e).0).present ≡ e.end
  unfolding fire_instant
  present_stays now =
      (kept_to_the_end (next_due e.end) (fire_once w) AtInstant
      (λ t d at there. let a : AtInstant t = at in
      let b : AtInstant (fire_once w t d).0 = record {
        inside = still_inside w e.end s t d a.inside there;
        present = (once_inside w e.end s t d a.inside there).present;
      } in b)
      (length (timers s) + 1) s (record { inside = begins; present = now })).present

-- the first firing of an instant, and then the rest of it
module _ (w : ℕ) (s : State) (e d : Ending) (sound : IsSound s) (from : EndsFrom e.end s) (there : next_due e.end s
    ≡ Some d) where
  after_one : InInstant e.end s (fire_once w s d).0
  after_one = still_inside w e.end s s d (begins w s e sound from) there

  one_fires : FiresOnce e.end d s (fire_once w s d).0
  one_fires = once_inside w e.end s s d (begins w s e sound from) there

  instant_unrolls : fire_instant w s e
      ≡ and_then (next_due e.end) (fire_once w) (λ t. fire_instant w t e) (fire_once w s d)
  unfolding fire_instant and_then
  instant_unrolls = grind (arith, unrolls_with, instant_done, after_one)

  instant_present : ((fire_instant w s e).0).present ≡ e.end
  unfolding and_then
  instant_present = grind (arith, instant_unrolls, present_stays, after_one, one_fires)

-- ---- instant after instant

-- how far the next instant is from the moment
abbrev pub instants_left : ℕ → Option Ending → ℕ
instants_left m o = option_map_or (λ (e : Ending). suc (m - e.end)) o 0

module _ (w m : ℕ) (s : State) (e : Ending) (sound : IsSound s) (there : next_due m s ≡ Some e) where
  its_next : IsNext m s e
  its_next = is_next m s e there

  after_instant : InInstant e.end s (fire_instant w s e).0
  after_instant = instant_ends w s e sound its_next.least

  later_then : (kind : TimerKind) (k : Key) (x : ℕ) → shows kind (Ends k x) (fire_instant w s e).0 ≡ true → e.end < x
  later_then = all_later e.end (fire_instant w s e).0 (instant_done w s e sound its_next.least)

  instant_is_next : (o : Option Ending) → next_due e.end s ≡ o → ((fire_instant w s e).0).present ≡ e.end
  instant_is_next None none =
      let no : e.end < e.end = all_later e.end s none e.timer.kind e.timer.key e.end its_next.shown in absurd
      (omega arith)
  instant_is_next (Some d) some = instant_present w s e d sound its_next.least some

  present_then : ((fire_instant w s e).0).present ≡ e.end
  present_then = instant_is_next (next_due e.end s) refl

  fewer_left : (o : Option Ending) → next_due m (fire_instant w s e).0 ≡ o → instants_left m o < suc (m - e.end)
  fewer_left None none = omega arith
  fewer_left (Some d) some =
      let next : IsNext m (fire_instant w s e).0 d = is_next m (fire_instant w s e).0 d some in
      let after : e.end < d.end = later_then d.timer.kind d.timer.key d.end next.shown in
      let by : d.end ≤ m = next.due in
      omega arith

  pub fewer_instants : instants_left m (next_due m (fire_instant w s e).0) < instants_left m (next_due m s)
  fewer_instants = grind (arith, fewer_left)

module _ (w m : ℕ) (s : State) (sound : IsSound s) where
  enough : EndsFrom s.present s → (o : Option Ending) → next_due m s ≡ o → instants_left m o ≤ m + 2 - s.present
  enough from None none = omega arith
  enough from (Some e) some =
      let next : IsNext m s e = is_next m s e some in
      let by : e.end ≤ m = next.due in
      let early : s.present ≤ e.end = from e.timer.kind e.timer.key e.end next.shown in
      omega arith

  firing_ends : EndsFrom s.present s → next_due m (fire_all w m s).0 ≡ None
  unfolding fire_all
  firing_ends from =
      none_is_next (next_due m) (fire_instant w) IsSound (λ t. instants_left m (next_due m t))
      (λ t e good there. (after_instant w m t e good there).sound) (λ t e good there. fewer_instants w m t e good there)
      (m + 2 - s.present) s sound (enough from (next_due m s) refl)

  firing_keeps : IsSound (fire_all w m s).0
  unfolding fire_all
  firing_keeps =
      kept_to_the_end (next_due m) (fire_instant w) IsSound
      (λ t e good there. (after_instant w m t e good there).sound) (m + 2 - s.present) s sound

module _ (w m : ℕ) (s : State) (e : Ending) (sound : IsSound s) (from : EndsFrom s.present s) (there : next_due m s
    ≡ Some e) where
  from_present : EndsFrom ((fire_instant w s e).0).present (fire_instant w s e).0
  from_present =
      subst (λ (n : ℕ). EndsFrom n (fire_instant w s e).0) (sym (present_then w m s e sound there))
      (λ kind k x f. let after : e.end < x = later_then w m s e sound there kind k x f in let r : e.end ≤ x = omega
      arith in r)

  firing_unrolls : fire_all w m s ≡ and_then (next_due m) (fire_instant w) (λ t. fire_all w m t) (fire_instant w s e)
  unfolding fire_all and_then
  firing_unrolls =
      unrolls_with (next_due m) (fire_instant w) (m + 2 - s.present)
      (m + 2 - ((fire_instant w s e).0).present) s e there
      (firing_ends w m s sound from)
      (firing_ends w m (fire_instant w s e).0 (after_instant w m s e sound there).sound from_present)

-- ---- firing by firing

-- an instant is that of its end alone
same_instant : (w : ℕ) (s : State) (d e : Ending) → d.end ≡ e.end → fire_instant w s d ≡ fire_instant w s e
unfolding fire_instant
same_instant w s d e same = ap (λ (n : ℕ). until_none (next_due n) (fire_once w) (length (timers s) + 1) s) same

-- a result with what was sent before it
abbrev behind : List Emission → State × List Emission → State × List Emission
behind es p = (p.0, es ++ p.1)

behind_twice : (es fs : List Emission) (p : State × List Emission) → behind (es ++ fs) p ≡ behind es (behind fs p)
behind_twice es fs p = grind (arith, append_assoc)

module _ (w m : ℕ) (s : State) (e : Ending) (sound : IsSound s) (from : EndsFrom s.present s) (there : next_due m s
    ≡ Some e) where
  first : next_due e.end s ≡ Some e
  first = first_of_instant m s e there

  least : EndsFrom e.end s
  least = (is_next m s e there).least

  after_first : InInstant e.end s (fire_once w s e).0
  after_first = after_one w s e e sound least first

  its_time : ((fire_once w s e).0).present ≡ e.end
  its_time = (one_fires w s e e sound least first).present

  -- the rest of the instant, and then all later ones
  rest_and_later : State × List Emission
  rest_and_later =
      let rest : State × List Emission = fire_instant w (fire_once w s e).0 e in behind rest.1 (fire_all w m rest.0)

  when_idle : (u : State) → next_due e.end u ≡ None
      → fire_all w m u ≡ behind (fire_instant w u e).1 (fire_all w m (fire_instant w u e).0)
  unfolding fire_instant
  when_idle u none = grind (arith, same_when_none)

  next_in_instant : (u : State) → IsSound u → u.present ≡ e.end → EndsFrom e.end u → (d : Ending)
      → next_due e.end u ≡ Some d
      → (o : Option Ending) → next_due m u ≡ o
      → fire_all w m u ≡ behind (fire_instant w u e).1 (fire_all w m (fire_instant w u e).0)
  unfolding and_then
  next_in_instant u good now ends d some None none =
      let by : e.end ≤ m = (is_next m s e there).due in
      let due : d.end ≤ e.end = (is_next e.end u d some).due in
      let late : m < d.end = all_later m u none d.timer.kind d.timer.key d.end (is_next e.end u d some).shown in
      absurd (omega arith)
  next_in_instant u good now ends d some (Some c) next =
      let due : d.end ≤ e.end = (is_next e.end u d some).due in
      let below : c.end ≤ d.end = (is_next m u c next).least d.timer.kind d.timer.key d.end
      (is_next e.end u d some).shown in
      let above : e.end ≤ c.end = ends c.timer.kind c.timer.key c.end (is_next m u c next).shown in
      let same : c.end ≡ e.end = omega arith in
      firing_unrolls w m u c good (subst (λ (n : ℕ). EndsFrom n u) (sym now) ends) next
      ∙ ap (λ (p : State × List Emission). behind p.1 (fire_all w m p.0)) (same_instant w u c e same)

  goes_on : (o : Option Ending) → next_due e.end (fire_once w s e).0 ≡ o
      → fire_all w m (fire_once w s e).0 ≡ rest_and_later
  unfolding rest_and_later
  goes_on o none = grind (arith, when_idle, next_in_instant, after_first, its_time)

  firing_unrolls_once : fire_all w m s ≡ and_then (next_due m) (fire_once w) (λ t. fire_all w m t) (fire_once w s e)
  unfolding and_then rest_and_later
  firing_unrolls_once =
      let one : State × List Emission = fire_once w s e in
      let rest : State × List Emission = fire_instant w one.0 e in
      firing_unrolls w m s e sound from there
      ∙ (ap (λ (p : State × List Emission). behind p.1 (fire_all w m p.0)) (instant_unrolls w s e e sound least first)
      ∙ (behind_twice one.1 rest.1 (fire_all w m rest.0)
      ∙ ap (behind one.1) (sym (goes_on (next_due e.end one.0) refl))))

-- ---- what firing asks of a state, as tests of its tables

any_not : {X : Type 0} (p : X → Bool) (xs : List X) → list_any (λ x. not (p x)) xs ≡ not (list_all p xs)
any_not p [] = refl
any_not p (x ∷ xs) = grind (arith, any_not p xs)

no_fault : {X : Type 0} (p : X → Bool) (xs : List X) → list_all p xs ≡ true → list_any (λ x. not (p x)) xs ≡ true → ⊥
no_fault p xs e f = both_ways (list_any (λ x. not (p x)) xs) (any_not p xs ∙ ap not e) f

all_good : {X : Type 0} (p : X → Bool) (xs : List X) → (list_any (λ x. not (p x)) xs ≡ true → ⊥) → list_all p xs ≡ true
all_good p xs none = true_from_ne_false (list_all p xs) (λ e. none (any_not p xs ∙ ap not e))

pub sound_of : (s : State) → IsFirable s → IsSound s
sound_of s f = record {
  firm = record {
    robustness = f.robustness;
    query_interval = f.query_interval;
    last_member_query_interval = f.last_member_query_interval;
  };
  faultless = faultless;
}
  where
    faultless : (kind : TimerKind) → shows kind Faulty s ≡ true → ⊥
    faultless TimerKind.GroupRecord e = no_fault is_under_star s.group_records f.group_records e
    faultless TimerKind.SourceRecord e = no_fault is_under_source s.source_records f.source_records e
    faultless TimerKind.GroupRepeat e = no_fault is_under_star s.group_repeats f.group_repeats e
    faultless TimerKind.SourceRepeat e = no_fault is_under_star s.source_repeats f.source_repeats e
    faultless TimerKind.OtherQuerier e = no_fault is_querier_entry s.queriers f.queriers e
    faultless TimerKind.GeneralQuery e = no_fault is_querier_entry s.queriers f.queriers e
    faultless kind e = none_passes _ (λ x (f : false ≡ true). false≢true f) (timed_rows kind s) e

pub firable_of : (s : State) → IsSound s → IsFirable s
firable_of s f = record {
  robustness = f.firm.robustness;
  query_interval = f.firm.query_interval;
  last_member_query_interval = f.firm.last_member_query_interval;
  queriers = all_good is_querier_entry s.queriers (f.faultless TimerKind.GeneralQuery);
  group_records = all_good is_under_star s.group_records (f.faultless TimerKind.GroupRecord);
  source_records = all_good is_under_source s.source_records (f.faultless TimerKind.SourceRecord);
  group_repeats = all_good is_under_star s.group_repeats (f.faultless TimerKind.GroupRepeat);
  source_repeats = all_good is_under_star s.source_repeats (f.faultless TimerKind.SourceRepeat);
}

-- ---- the laws

pub ahead_is_ready : (m : ℕ) (s : State) → IsAhead m s → IsReady m s
ahead_is_ready m s ahead = grind (arith, after_is_from)

pub ready_at_present : (m : ℕ) (s : State) → IsReady m s → IsReady s.present s
ready_at_present m s ready = grind arith

pub next_is_due : (m : ℕ) (s : State) (e : Ending) → next_due m s ≡ Some e → e.end ≤ m
next_is_due m s e there = (is_next m s e there).due

pub next_is_least : (m : ℕ) (s : State) (e : Ending) → next_due m s ≡ Some e → ends_from e.end s ≡ true
next_is_least m s e there = shown_from e.end s (is_next m s e there).least

pub one_firing_keeps : (w : ℕ) (s : State) (e d : Ending) → IsFirable s → ends_from e.end s ≡ true
    → next_due e.end s ≡ Some d
    → IsReady e.end (fire_once w s d).0
one_firing_keeps w s e d firable from there =
    let sound : IsSound s = sound_of s firable in
    let after : InInstant e.end s (fire_once w s d).0 = after_one w s e d sound (from_shown e.end s from) there in
    record {
      firable = firable_of (fire_once w s d).0 after.sound;
      present = (one_fires w s e d sound (from_shown e.end s from) there).present;
      ends = shown_from e.end (fire_once w s d).0 after.from;
    }

pub instant_goes_on : (w : ℕ) (s : State) (e d : Ending) → IsFirable s → ends_from e.end s ≡ true
    → next_due e.end s ≡ Some d
    → fire_instant w s e ≡ and_then (next_due e.end) (fire_once w) (λ t. fire_instant w t e) (fire_once w s d)
instant_goes_on w s e d firable from there = search (rules, instant_unrolls, sound_of, from_shown)

pub instant_stops : (w : ℕ) (s : State) (e : Ending) → next_due e.end s ≡ None → fire_instant w s e ≡ (s, [])
unfolding fire_instant
instant_stops w s e none = same_when_none (next_due e.end) (fire_once w) (length (timers s) + 1) s none

pub instant_is_complete : (w m : ℕ) (s : State) (e : Ending) → IsFirable s → next_due m s ≡ Some e
    → IsAhead e.end (fire_instant w s e).0
instant_is_complete w m s e firable there =
    let sound : IsSound s = sound_of s firable in
    record {
      firable = firable_of (fire_instant w s e).0 (after_instant w m s e sound there).sound;
      present = present_then w m s e sound there;
      ends = shown_after e.end (fire_instant w s e).0 (later_then w m s e sound there);
    }

pub firing_goes_on : (w m : ℕ) (s : State) (e : Ending) → IsReady s.present s → next_due m s ≡ Some e
    → fire_all w m s ≡ and_then (next_due m) (fire_instant w) (λ t. fire_all w m t) (fire_instant w s e)
firing_goes_on w m s e ready there = search (rules, firing_unrolls, sound_of, from_shown)

pub firing_goes_on_by_one : (w m : ℕ) (s : State) (e : Ending) → IsReady s.present s → next_due m s ≡ Some e
    → fire_all w m s ≡ and_then (next_due m) (fire_once w) (λ t. fire_all w m t) (fire_once w s e)
firing_goes_on_by_one w m s e ready there = search (rules, firing_unrolls_once, sound_of, from_shown)

pub next_is_first : (m : ℕ) (s : State) (e : Ending) → next_due m s ≡ Some e → next_due e.end s ≡ Some e
next_is_first m s e there = first_of_instant m s e there

pub firing_stops : (w m : ℕ) (s : State) → next_due m s ≡ None → fire_all w m s ≡ (s, [])
unfolding fire_all
firing_stops w m s none = same_when_none (next_due m) (fire_instant w) (m + 2 - s.present) s none

pub firing_is_complete : (w m : ℕ) (s : State) → IsReady s.present s → next_due m (fire_all w m s).0 ≡ None
firing_is_complete w m s ready = firing_ends w m s (sound_of s ready.firable) (from_shown s.present s ready.ends)

pub firing_is_ahead : (w m : ℕ) (s : State) → IsReady s.present s → ends_after m (fire_all w m s).0 ≡ true
firing_is_ahead w m s ready = search (rules, shown_after, all_later, firing_is_complete)

pub advanced_is_ahead : (w m : ℕ) (s : State) → IsReady s.present s → IsAhead m (advanced s w m).state
unfolding advanced
advanced_is_ahead w m s ready =
    let fires : State = (fire_all w m s).0 in
    let after : (kind : TimerKind) (k : Key) (x : ℕ) → shows kind (Ends k x) (record fires { present = m }) ≡ true
    → m < x =
    λ kind k x e. all_later m fires (firing_is_complete w m s ready) kind k x (sym (same_at kind (Ends k x) fires m)
    ∙ e) in
    record {
      firable =
          firable_of (record fires { present = m }) (sound_at fires m (firing_keeps w m s (sound_of s ready.firable)));
      present = refl;
      ends = shown_after m (record fires { present = m }) after;
    }

-- ---- the opening

querier_accepted : (c : Config) → config_test c ≡ Ok tt → is_querier_config c ≡ true
unfolding config_test
querier_accepted c e = grind arith

record Intervals (c : Config) : Type 0 where
  robustness : nat_lt 0 c.robustness ≡ true
  query : nat_lt 0 c.query_interval ≡ true
  last_member : nat_lt 0 c.last_member_query_interval ≡ true

intervals : (c : Config) → is_querier_config c ≡ true → Intervals c
unfolding is_querier_config
intervals c e = grind arith

pub opening_is_ahead : (c : Config) → config_test c ≡ Ok tt → IsAhead 0 (opening c)
unfolding opening settings_of timers endings
opening_is_ahead c e =
    let long : Intervals c = intervals c (querier_accepted c e) in
    record {
      firable = record {
        robustness = long.robustness;
        query_interval = long.query;
        last_member_query_interval = long.last_member;
        queriers = refl;
        group_records = refl;
        source_records = refl;
        group_repeats = refl;
        source_repeats = refl;
      };
      present = refl;
      ends = refl;
    }
