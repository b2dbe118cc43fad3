-- The packet, or the Assert, is an event of the assert's machine, which wins by it, and its own Assert leaves with what follows.
use Rattle.std.{proofs.Common.{Bool, List, None, Some, [], ap, append-nil, arith, cond, false, inr, is_some, refl, subst, sym, true, ℕ, ◌&&◌, ◌==◌, ◌||◌, ◌∙◌, ◌∷◌, ◌≡◌, ◌⊎◌}, specs.List.Contains}
use Rattle.pim_wire.{specs.declared.assert.Assert.Assert as AssertMessage}
use Rattle.pim_types.{specs.{Keys.{group_in, iface_in, source_in}, declared.{event.Event.Event, fact.Key.Key, outcome.Emission.Emission}}}
use Rattle.pim_model.{specs.{Asserts.{assert_at, assert_in_no_info, assert_message, assert_received, asserted_metric, data_seen, is_challenge, theirs_of, wins}, Cause.done_as, Firing.settled, Forwarding.{Forwarded, forwarded, list_chosen, stray}, Messages.Message, Sets.{inherited_olist, inherited_olist_rpt, spt_bit}, State.{Addressing, State, address_among, my_address}, Step.{Answered, change, done, step}, Tables.{has_row, row_at}, Writing.on_link, declared.accepted.Accepted.Accepted}}
use Rattle.law_settled.{proofs.RowLaws.row_put}
use Rattle.law_streams.{proofs.{Lasting.{Whole, assert_whole}, Leaves.taken_is_done, Made.{forwarded_configured, step_taken}}, specs.{Copies.happens, Joins.is_time, Served.renewed}}
use Rattle.law_converges.{proofs.{AssertRows.assert_by_row, LinkAsserts.{assert_leaves, done_sends, its_group as group_of, its_iface as its_iface_of, its_source as source_of, settled_row}}, specs.{Asserting.{Asserts, DuplicateIsAnswered, InferiorIsAnswered, IsDuplicate, key_by, won_by}, LinkAsserts.{assert_packet, is_about, key_about}}}

-- ---- a machine that wins by an event's own change

module _ (k : Key) (g src : ℕ) (s u : State) (e : Event) (a : Accepted) (was : done_as (happens s e) ≡ Some a) (timeless : is_time a ≡ false)
    (about : group_in k ≡ g) (of_source : source_in k ≡ src)
    (own : ((change s e.draw a).state, (change s e.draw a).messages) ≡ wins u k) (addressed : ((change s e.draw a).state).configured ≡ s.configured) where
  abbrev changes : State × List Message
  changes = ((change s e.draw a).state, (change s e.draw a).messages)

  is_done : step s e ≡ done s e.draw (change s e.draw a)
  is_done = step_taken s e a was ∙ taken_is_done s e.draw a timeless

  says : (changes).1 ≡ Message.Assert (iface_in k) (group_in k) (source_in k) (asserted_metric u k) ∷ []
  unfolding wins assert_message
  says = ap (λ (c : State × List Message). c.1) own

  leaves : Contains (settled s changes e.draw).1
      (on_link (iface_in k) (assert_packet (address_among s.configured (iface_in k)) (group_in k) (source_in k) (asserted_metric u k)))
  leaves =
      subst (λ (x : Addressing). Contains (settled s changes e.draw).1
      (on_link (iface_in k) (assert_packet (address_among x (iface_in k)) (group_in k) (source_in k) (asserted_metric u k)))) addressed
      (assert_leaves s changes e.draw (iface_in k) (group_in k) (source_in k) (asserted_metric u k) says)

  abbrev answer : (h x : ℕ) → Emission
  answer h x = on_link (iface_in k) (assert_packet (my_address s (iface_in k)) h x (asserted_metric u k))

  sent : Contains (step s e).emissions (answer (group_in k) (source_in k))
  sent =
      subst (λ (y : Answered). Contains y.emissions (answer (group_in k) (source_in k))) (sym is_done)
      (done_sends s e.draw (change s e.draw a) (answer (group_in k) (source_in k)) leaves)

  row_then : row_at ((changes).0).asserts k ≡ Some (won_by u k)
  unfolding wins
  row_then = ap (λ (c : State × List Message). row_at (c.0).asserts k) own ∙ row_put k (won_by u k) u.asserts

  won : (row_at ((step s e).state).asserts k ≡ None) ⊎ (row_at ((step s e).state).asserts k ≡ Some (won_by u k))
  unfolding done
  won =
      subst (λ (y : Answered). (row_at (y.state).asserts k ≡ None) ⊎ (row_at (y.state).asserts k ≡ Some (won_by u k))) (sym is_done)
      (settled_row k (won_by u k) s changes e.draw (inr row_then))

  asserts : Asserts k (iface_in k) g src s u e
  asserts = record {
    sends = subst (λ (h : ℕ). Contains (step s e).emissions (answer h src)) about
        (subst (λ (x : ℕ). Contains (step s e).emissions (answer (group_in k) x)) of_source sent);
    wins = won;
  }

-- ---- a packet

module _ (u : State) (g src i : ℕ) (d : IsDuplicate u g src i) where
  abbrev k : Key
  k = key_by u g src i

  its_iface : iface_in k ≡ i
  its_iface = grind arith

  its_group : group_in k ≡ g
  its_group = grind arith

  strays : list_chosen u g src i ≡ stray u g src i
  unfolding list_chosen
  strays = rw (d.off_source, d.off_group) refl

  seen : data_seen u k ≡ wins u k
  unfolding data_seen has_row
  seen = rw (d.could, d.none) refl

  asserted : ((list_chosen u g src i).state, (list_chosen u g src i).messages) ≡ wins u k
  unfolding stray
  asserted = ap (λ (f : Forwarded). (f.state, f.messages)) strays ∙ go (spt_bit u g src) refl d.listed
    where
      go : (b : Bool) → spt_bit u g src ≡ b → cond b (inherited_olist u g src i) (inherited_olist_rpt u g src i) ≡ true
          → ((stray u g src i).state, (stray u g src i).messages) ≡ wins u k
      go true on listed = grind (arith, seen)
      go false off listed = grind (arith, seen)

pub duplicate_is_answered : DuplicateIsAnswered
unfolding change forwarded renewed
duplicate_is_answered s e i p was d =
    let u : State = renewed s p.destination p.source i.number in
    let k : Key = key_by u p.destination p.source i.number in
    subst (λ (j : ℕ). Asserts k j p.destination (source_in k) s u e) (its_iface u p.destination p.source i.number d)
    (asserts k p.destination (source_in k) s u e (Accepted.Data i p) was refl (its_group u p.destination p.source i.number d) refl
    (asserted u p.destination p.source i.number d) (forwarded_configured s p.destination p.source i.number))

-- ---- an Assert

module _ (s : State) (i from : ℕ) (a : AssertMessage) (about : is_about a ≡ true) (none : row_at s.asserts (key_about i a) ≡ None)
    (challenge : is_challenge s (key_about i a) (theirs_of a from) ≡ true) where
  by_challenge : assert_in_no_info s (key_about i a) (theirs_of a from) ≡ wins s (key_about i a)
  unfolding assert_in_no_info
  by_challenge = grind (arith, challenge)

  its_machine : assert_at s (key_about i a) (theirs_of a from) ≡ wins s (key_about i a)
  its_machine = assert_by_row s (key_about i a) (theirs_of a from) None none ∙ by_challenge

  then_there : has_row ((wins s (key_about i a)).0).asserts (key_about i a) ≡ true
  unfolding wins has_row
  then_there = ap is_some (row_put (key_about i a) (won_by s (key_about i a)) s.asserts)

  received : assert_received s i from a ≡ wins s (key_about i a)
  unfolding assert_received has_row
  received = go (a.source.bits == 0) refl
    where
      go : (b : Bool) → (a.source.bits == 0) ≡ b → assert_received s i from a ≡ wins s (key_about i a)
      go true e = grind (arith, its_machine)
      go false e = grind (arith, its_machine, then_there, append-nil)

pub inferior_is_answered : InferiorIsAnswered
unfolding change
inferior_is_answered s e i from a f =
    subst (λ (j : ℕ). Asserts (key_about i.number a) j a.group.bits a.source.bits s s e) (its_iface_of i.number a)
    (asserts (key_about i.number a) a.group.bits a.source.bits s s e (Accepted.Assert i from a) f.taken refl (group_of i.number a)
    (source_of i.number a) (received s i.number from.bits a f.about f.none (challenged _ _ _ f.could f.inferior))
    (ap (λ (u : Whole). ((u.lasting).still).configured) (assert_whole s i.number from.bits a)))
  where
    challenged : (could star inferior : Bool) → could ≡ true → inferior ≡ true → (could && (star || inferior)) ≡ true
    challenged could star inferior e f = grind arith
