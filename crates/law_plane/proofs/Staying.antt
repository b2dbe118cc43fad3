-- What is offered of a source that isn't named stays, whether the source has a fact or not.
use Rattle.std.{proofs.{Common.{◌≡◌, ◌+◌, ℕ, Bool, true, false, cond, List, [], ◌∷◌, length, Option, Some, None, is_some, option_map, unwrap_or, refl, sym, ap, subst, ◌∙◌, arith}, lemmas.{List.Sums.sum_by-cons, Map.Entries.{length-values_of, sum_by-insert_entry}}}, specs.{BTreeMap.{insert_entry, is_at}, List.sum_by, Map.{lookup, values_of}}}
use Rattle.pim_types.{specs.{declared.fact.{Key.Key, SourceRow.SourceRow}, Keys.{key_cmp, source_key}}, proofs.Keys.{equal_keys, key_cmp_total}}
use Rattle.pim_model.{specs.{Cache.{Answers, answers}, Clearing.clear, Downstream.is_named as is_named_key, Firing.{fire_once, settled}, Full.{counted, distinct, needed, once_more, passes_limit, source_is_full}, Messages.Message, Reach.own_firing, Registers.{keepalive_period, with_keepalive}, Sets.is_kept_alive, State.State, Step.{Answered, done}, Tables.{Table, has_row, keys_in, put, row_at}}}
use Rattle.law_settled.{proofs.RowLaws.has_row_put, specs.Ready.{IsOrdered, Rises}}
use Rattle.law_events.{specs.{Rest.IsAtRest, Named.is_source_named, Decided.{kept_if, plainly_taken}, Kept.SameAnswers}, proofs.{Calm.settled_same, KeptAlive.no_answer_changed, PlainPackets.plain_is_stepped, CacheSameRows.{answers_itself, row_through}, RowsOfEvents.unnamed_fact}}
use Rattle.law_plane.{specs.{Keeping.kept_until, Offload.offload, Offered.{Offered, offered, unknown_row}, Staying.{FiringSourceStays, KeepOfferStays, OfferStays, OffersAlike, PlainOfferStays, SourceStays, StaysInTurn, TimeSourceStays, UnnamedSourceStays}, ToldLaws.DecideAlike}, proofs.{Keeps.{answers_as_before, keep_by, running, running_there}, OfferedRows.unknown_row_decides, ToldRows.{alike_offload, firing_answers_stay, same_itself, time_answers_stay, unknown_stays, unnamed_answers_stay}}}

-- ---- what is offered

module _ (a b : Answers) (same : SameAnswers a b) where
  unknown_alike : DecideAlike (Some (unknown_row (offload a))) (Some (unknown_row (offload b)))
  unknown_alike i low = grind (arith, unknown_row_decides, unknown_stays)

  abbrev offers : Bool → Bool → Answers → Option Offered
  offers known full r =
      cond known (Some (record { is_known = true; row = offload r }))
      (cond full None (Some (record { is_known = false; row = unknown_row (offload r) })))

  by_fact : (known full : Bool) → OffersAlike (offers known full a) (offers known full b)
  by_fact known full = grind (arith, alike_offload, unknown_alike)

  by_room : (known also full more : Bool) → known ≡ also → (known ≡ false → full ≡ more)
      → OffersAlike (offers known full a) (offers also more b)
  by_room known also full more e f = grind (arith, alike_offload, by_fact)

-- a source without a fact needs room for one
one_needed : (s : State) (g src : ℕ) → has_row s.sources (source_key 0 g src) ≡ false
    → source_is_full s g src ≡ passes_limit s 1
unfolding source_is_full passes_limit needed distinct once_more is_named_key
one_needed s g src none = rw none refl

pub offer_stays : OfferStays
unfolding offered
offer_stays s t g src stays room = grind (arith, by_room, one_needed)

-- ---- what isn't named

fact_at_end : (o : State) (changed : State × List Message) (w g src : ℕ) → is_source_named g src o (clear o changed.0).0 ≡ false
    → has_row o.sources (source_key 0 g src) ≡ has_row (settled o changed w).0.sources (source_key 0 g src)
fact_at_end o changed w g src unnamed =
    unnamed_fact g src o (clear o changed.0).0 unnamed
    ∙ ap (λ (t : Table SourceRow). has_row t (source_key 0 g src)) (settled_same o changed w).sources_same

pub unnamed_source_stays : UnnamedSourceStays
unfolding done
unnamed_source_stays s w a few g src unnamed = grind (arith, fact_at_end, unnamed_answers_stay)

pub firing_source_stays : FiringSourceStays
unfolding fire_once own_firing
firing_source_stays s w e few g src unnamed = grind (arith, fact_at_end, firing_answers_stay)

pub time_source_stays : TimeSourceStays
time_source_stays s m g src = grind (arith, time_answers_stay, answers_itself)

pub stays_in_turn : StaysInTurn
stays_in_turn s t u g src one more = grind (arith, row_through)

pub stays_itself : (s : State) (g src : ℕ) → SourceStays g src s s
stays_itself s g src = record { fact = refl; answers_are = answers_itself (answers s g src) }

-- ---- a row with another end

ones : {X : Type 0} (xs : List X) → sum_by (λ (x : X). 1) xs ≡ length xs
ones [] = refl
ones {X = X} (x ∷ xs) = omega (arith, sum_by-cons (λ (y : X). 1) x xs, ones xs)

-- where there was a row there are as many
put_counts : {R : Type 0} (t : Table R) (k : Key) (row : R) → Rises t → has_row t k ≡ true
    → length (put t k row) ≡ length t
unfolding has_row row_at put keys_in
put_counts {R = R} t k row rises there = go (lookup (is_at (key_cmp k)) t) refl there
  where
    go : (o : Option R) → lookup (is_at (key_cmp k)) t ≡ o → is_some o ≡ true
        → length (insert_entry key_cmp t k row) ≡ length t
    go None e some = cc
    go (Some r) e some =
        let counted : sum_by (λ (x : R). 1) (values_of (insert_entry key_cmp t k row)) + 1
        ≡ sum_by (λ (x : R). 1) (values_of t) + 1 =
        subst (λ (o : Option R). sum_by (λ (x : R). 1) (values_of (insert_entry key_cmp t k row))
        + unwrap_or (option_map (λ (x : R). 1) o) 0 ≡ sum_by (λ (x : R). 1) (values_of t) + 1) e
        (sum_by-insert_entry (λ (x : R). 1) key_cmp_total t k row rises) in
        omega (
          arith,
          counted,
          ones (values_of t),
          ones (values_of (insert_entry key_cmp t k row)),
          length-values_of t,
          length-values_of (insert_entry key_cmp t k row),
        )

module _ (s : State) (g src : ℕ) (row : SourceRow) (ordered : IsOrdered s)
    (there : has_row s.sources (source_key 0 g src) ≡ true) where
  abbrev with_end : State
  with_end = record s { sources = put s.sources (source_key 0 g src) row }

  fact_there : (h x : ℕ) → has_row s.sources (source_key 0 h x) ≡ has_row with_end.sources (source_key 0 h x)
  fact_there h x = grind (arith, has_row_put, equal_keys)

  room_there : passes_limit s 1 ≡ passes_limit with_end 1
  unfolding passes_limit counted
  room_there = grind (arith, put_counts)

  with_end_stays : (h x : ℕ) → answers with_end h x ≡ answers s h x
      → OffersAlike (offered s h x) (offered with_end h x)
  with_end_stays h x same = grind (arith, offer_stays, fact_there, answers_itself, room_there)

offer_itself : (o : Option Offered) → OffersAlike o o
offer_itself o = grind (arith, same_itself)

-- ---- a plain packet, and what a plane tells

kept_offers : (s : State) (g src : ℕ) (keeps : Bool) → IsAtRest s → has_row s.sources (source_key 0 g src) ≡ true
    → (h x : ℕ) → OffersAlike (offered s h x) (offered (kept_if keeps s g src) h x)
unfolding with_keepalive
kept_offers s g src keeps rests there h x = grind (arith, with_end_stays, no_answer_changed, offer_itself)

pub plain_offer_stays : PlainOfferStays
unfolding plainly_taken
plain_offer_stays s e p how rests is g src =
    subst (λ (t : State). OffersAlike (offered s g src) (offered t g src))
    (sym (ap (λ (a : Answered). a.state) (plain_is_stepped s e p how rests is)))
    (kept_offers s p.destination p.source how.keeps rests is.known g src)

later_offers : (s : State) (g src end : ℕ) → IsAtRest s → is_kept_alive s g src ≡ true → (h x : ℕ)
    → answers (kept_until s g src end) h x ≡ answers s h x → OffersAlike (offered s h x) (offered (kept_until s g src end) h x)
unfolding kept_until
later_offers s g src end rests runs h x same = grind (arith, with_end_stays, running_there)

pub keep_offer_stays : KeepOfferStays
keep_offer_stays s g src m rests h x =
    keep_by s g src m (λ t. OffersAlike (offered s h x) (offered t h x)) (offer_itself (offered s h x))
    (λ end e sooner. later_offers s g src (m + keepalive_period) rests (running s g src end e) h x
    (answers_as_before s g src m (running s g src end e) h x))
