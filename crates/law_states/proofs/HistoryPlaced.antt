-- Rows that are asked for stay so in a reload by a map of places: each under the number that its interface has then.
use Rattle.std.{proofs.Common.{◌≡◌, ◌<◌, ◌≤◌, ◌∙◌, ℕ, ◌-◌, nat_le, nat_lt, not, Bool, true, false, List, [], ◌∷◌, length, map, Option, Some, Ok, refl, ap, arith}, specs.{List.{list_all, range_with_len}, Option.option_map_or}}
use Rattle.pim_ip.{specs.declared.refusal.Refusal.Refusal}
use Rattle.pim_types.{specs.{Keys.{group_in, iface_in, source_in, star_key}, declared.{config.Config.Config, fact.{Key.Key, SourceRecordRow.SourceRecordRow}, outcome.Ignored.Ignored}}}
use Rattle.pim_model.{specs.{declared.accepted.Accepted.Accepted, Cause.{Passed, Past, has_cause, number_before}, Full.is_full, Judging.{down_judged, ignore_if, judged, refuse_if, ◌>>◌}, Limits.config_test, State.{addressing_of, State, iface_count, is_up}, Step.{change, concluded, done, iface_down, ran, rps_replaced, step, taken, taken_unless_full}, Tables.{Table, row_at}}}
use Rattle.law_settled.{specs.Ready.{IsSettled}, proofs.{FineTables.Fine, ListLaws.{each_both, each_of_list}}}
use Rattle.law_streams.{proofs.{CausesAsks.{GroupAsked, IsAsked, JoinAsked, SourceAsked, down_more, ends_more, group_more, join_more}, Fired.{all_same, settled_asked}, Flows.is_timed_row, Past.CausedBy, Same.Same}}
use Rattle.law_states.{specs.{Reloading.{down_event, hellos_anew, replaced, under}, PlacedLaws.AreApart, Placing.{Places, are_places, gone_on, kept_places, moved, new_order, number_at, placed, placed_under, reload_by, resubnetted, to_order, without_neighbours}}, proofs.{Apart.places_are_apart, Mapped.{number_was, stays_or_past}, Rows.{fine_placed, row_goes}, Ups.{begun, each_once, gone, kept, new, old, order, renewed, renewed_low, renewed_rests, up_before}, Led.Led}}

-- ---- one move

module _ (A B : ℕ → ℕ → ℕ → ℕ → Type 0) (s : State) (places : List ℕ) (c : Config) (apart : AreApart places) (settled : IsSettled s)
    (goes : (i : ℕ) → is_up s i ≡ true → (g src now : ℕ) → A i g src now → B (number_at places i) g src now) where
  -- on the interface's place
  abbrev There : ℕ → ℕ → ℕ → ℕ → Type 0
  There i = B (number_at places i)

  -- such a row, of an interface that is up
  abbrev UpToo : {R : Type 0} → (Key × R → Type 0) → Key × R → Type 0
  UpToo P e = P e × (is_up s (iface_in e.0) ≡ true)

  up_too : {R : Type 0} (P : Key × R → Type 0) (t : Table R) → Fine P t → list_all (λ (e : Key × R). is_up s (iface_in e.0)) t ≡ true
      → Fine (UpToo P) t
  up_too {R} P t f h = record {
    up = f.up;
    each = each_both P (λ (e : Key × R). is_up s (iface_in e.0) ≡ true) (UpToo P) (λ e a b. (a, b)) t f.each
        (each_of_list (λ (e : Key × R). is_up s (iface_in e.0)) t h);
  }

  timed_there : (e : Key × SourceRecordRow)
      → is_timed_row (row_at (placed places s.group_records) (star_key (number_at places (iface_in e.0)) (group_in e.0)))
      ≡ is_timed_row (row_at s.group_records (star_key (iface_in e.0) (group_in e.0)))
  timed_there e =
      ap is_timed_row (row_goes places s.group_records (star_key (iface_in e.0) (group_in e.0)) apart settled.ordered.group_records)

  pub placed_asked : IsAsked A s → IsAsked B (placed_under s places c)
  unfolding placed_under
  placed_asked f = record {
    joins = fine_placed places (UpToo (JoinAsked A)) (JoinAsked B)
        (λ e g. join_more A There e (goes (iface_in e.0) g.1) g.0) s.downstream
        (up_too (JoinAsked A) s.downstream f.joins settled.tidy.downstream);
    groups = fine_placed places (UpToo (GroupAsked A)) (GroupAsked B)
        (λ e g. group_more A There e (goes (iface_in e.0) g.1) g.0) s.group_records
        (up_too (GroupAsked A) s.group_records f.groups settled.tidy.group_records);
    sources = fine_placed places (UpToo (SourceAsked A s.group_records)) (SourceAsked B (placed places s.group_records))
        (λ e g. ends_more (A (iface_in e.0) (group_in e.0) (source_in e.0)) (There (iface_in e.0) (group_in e.0) (source_in e.0))
        (e.1).end _ _ (λ timed. timed_there e ∙ timed)
        (λ now h. goes (iface_in e.0) g.1 (group_in e.0) (source_in e.0) now h) g.0)
        s.source_records (up_too (SourceAsked A s.group_records) s.source_records f.sources settled.tidy.source_records);
  }

  -- neighbours go, and what follows is done
  parted_same : (t : State) (parted : List ℕ) → Same t (without_neighbours parted t)
  unfolding without_neighbours
  parted_same t parted = refl

  pub moved_asked : (parted : List ℕ) (w : ℕ) → IsAsked A s → IsAsked B (moved s places c parted w).0
  unfolding moved
  moved_asked parted w f =
      let t : State = placed_under s places c in
      settled_asked B t (without_neighbours parted t, []) w
      (all_same B t (without_neighbours parted t) (parted_same t parted) (placed_asked f))

-- ---- interfaces that go down, and the new configuration

module _ (A : ℕ → ℕ → ℕ → ℕ → Type 0) (w : ℕ) where
  judged_asked : (s : State) (i : ℕ) → IsAsked A s → (a u : Bool)
      → IsAsked A (concluded s (taken_unless_full s w) (refuse_if a Refusal.NoInterface >> ignore_if (not u) Ignored.Already
      >> Ok (Accepted.Down (record { number = i })))).state
  unfolding taken_unless_full is_full taken done change
  judged_asked s i f true u = f
  judged_asked s i f false true =
      settled_asked A s (iface_down s i, []) w (down_more A A s i (λ j off g src now h. h) f)
  judged_asked s i f false false = f

  down_asked : (s : State) (i : ℕ) → IsAsked A s → IsAsked A (step s (down_event w i)).state
  unfolding step judged down_judged
  down_asked s i f = judged_asked s i f (nat_le (iface_count s) i) (is_up s i)

  downs_asked : (is : List ℕ) (s : State) → IsAsked A s → IsAsked A (ran s (map (down_event w) is)).1
  unfolding ran
  downs_asked [] s f = f
  downs_asked (i ∷ is) s f = downs_asked is (step s (down_event w i)).state (down_asked s i f)

  under_same : (s : State) (c : Config) → Same s (under s c)
  unfolding under rps_replaced
  under_same s c = refl

  pub replaced_asked : (s : State) (c : Config) → IsAsked A s → IsAsked A (replaced s c w).0
  unfolding replaced
  replaced_asked s c f =
      settled_asked A s (under s c, hellos_anew s (addressing_of c)) w (all_same A s (under s c) (under_same s c) f)

-- ---- a whole reload

module _ (past : Past) (s : State) (m : Places) (c : Config) (w : ℕ)
    (are : are_places (iface_count s) (length c.interfaces) m ≡ true) (is : config_test c ≡ Ok tt) (led : Led s) where
  abbrev after : Past
  after = Passed.Renumbered m ∷ past

  -- in the order between: the old number of a place, under which it is asked for
  abbrev Between : ℕ → ℕ → ℕ → ℕ → Type 0
  Between p g src now =
      (i : ℕ) × (nat_lt i (length m) ≡ true) × (number_at (to_order m) i ≡ p) × CausedBy past i g src now

  renumbered : (i j g src now : ℕ) → number_before 0 m j ≡ Some i → CausedBy past i g src now → CausedBy after j g src now
  unfolding has_cause
  renumbered i j g src now was h =
      ap (λ (o : Option ℕ). option_map_or (λ old. has_cause past now old g src) o false) was ∙ h

  comes : (p : ℕ) → p < length (kept_places m) → (g src now : ℕ) → Between p g src now
      → CausedBy after (number_at (new_order m (length c.interfaces)) p) g src now
  comes p less g src now from =
      let i : ℕ = from.0 in
      let at : number_at (to_order m) i ≡ p = from.2 in
      let stays : length (kept_places m) ≤ number_at (to_order m) i → ⊥ = λ past_all. omega (arith, less, at, past_all) in
      renumbered i (number_at (new_order m (length c.interfaces)) p) g src now
      (number_was m i (number_at (new_order m (length c.interfaces)) p) (each_once (iface_count s) (length c.interfaces) m are)
      (stays_or_past m i (length c.interfaces) from.1 stays
      ∙ ap (λ (q : ℕ). Some (Some (number_at (new_order m (length c.interfaces)) q))) at)) from.3

  pub placed_reload_asked : IsAsked (CausedBy past) s → IsAsked (CausedBy after) (reload_by s m c w).0
  unfolding reload_by gone_on
  placed_reload_asked f =
      let apart = places_are_apart (iface_count s) (length c.interfaces) m are in
      let first : IsAsked Between (begun s m c w) =
      moved_asked (CausedBy past) Between s (to_order m) (old s m c w) apart.0 led.rest.settled
      (λ i up g src now h. (i, up_before s m c w are led.configured i up, refl, h))
      (resubnetted (kept s m c w) (old s m c w).interfaces (new s m c w).interfaces) w f in
      let downed : IsAsked Between (gone s m c w) =
      downs_asked Between w (range_with_len (kept s m c w) (length m - kept s m c w)) (begun s m c w) first in
      let next : IsAsked Between (renewed s m c w) = replaced_asked Between w (gone s m c w) (new s m c w) downed in
      moved_asked Between (CausedBy after) (renewed s m c w) (order s m c w) c apart.1
      (renewed_rests s m c w led.accepted led.rest.settled is).settled
      (λ p up g src now h. comes p (renewed_low s m c w are led.configured p up) g src now h) [] w next
