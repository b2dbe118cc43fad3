-- A packet that the answers call plain, with all that follows of it.
use Rattle.std.{proofs.{Common.{◌≡◌, ◌++◌, ℕ, Bool, true, false, not, ◌&&◌, ◌||◌, cond, List, [], Ok, Some, None, nat_lt, length, refl, ap, subst, ◌∙◌, append-nil, arith}, lemmas.Bool.or_parts}}
use Rattle.pim_ip.{specs.Ipv4.Packet}
use Rattle.pim_types.{specs.declared.{config.IfaceId.IfaceId, event.Event.Event, fact.Key.Key, outcome.{Emission.Emission, Verdict.Verdict}}, proofs.Keys.equal_keys}
use Rattle.pim_model.{specs.{Cache.{Plain, answers, away_from, cached, is_contested, opens_tunnel, plain, sets_spt}, declared.accepted.Accepted.Accepted, Downstream.is_named, Forwarding.{Forwarded, forwarded, no_interface}, Full.{distinct, is_full, needed, once_more, passes_limit, source_is_full}, Plain.fact_key, Registers.with_keepalive, Sets.{Set, inherited_olist, inherited_olist_rpt, members, spt_bit, tunnel}, State.State, Step.{Answered, change, done, packet_forwarded, step, taken, taken_unless_full}, Tables.has_row, Unicast.{is_rpf_interface, is_rpf_interface_rp}, Writing.{copies_of, tunnel_of}}}
use Rattle.law_settled.{proofs.{RowLaws.has_row_put, UnchangedLaws.full_or_taken}}
use Rattle.law_events.{specs.{Rest.IsAtRest, Decided.{IsDecided, decided_by_answers, kept_if, plainly_taken}}, proofs.{Forwards.{closed, keeps, on_its_tree, on_neither, on_shared_tree, settled_anyway, watches}, KeptAlive.{its_key, kept_row, no_answer_changed}, NothingFollows.nothing_follows, PlainSteps.{at, opens}}}

module _ (g src : ℕ) (s : State) (rests : IsAtRest s) (there : has_row s.sources (its_key g src s) ≡ true) where
  abbrev pub state_at : Bool → State
  state_at b = at g src s rests there b

  abbrev pub as_forwarded : Plain → Bool → Forwarded
  as_forwarded p to_tunnel =
      record { state = state_at p.keeps; messages = []; list = p.list; to_tunnel = to_tunnel }

  -- forwarded as the answers say, and not by the tunnel
  pub record Forwards (i ttl : ℕ) (p : Plain) : Type 0 where
    pub to_tunnel : Bool
    pub same : forwarded s g src i ≡ as_forwarded p to_tunnel
    pub ends : (to_tunnel && nat_lt 1 ttl) ≡ false
    pub closed : (p.keeps && opens g src s rests there) ≡ false

  module _ (i ttl : ℕ) where
    abbrev plainly : Bool → Set → Plain
    plainly k list = record { keeps = k; list = away_from i list }

    abbrev its_keeps : Bool
    its_keeps = keeps g src i s rests there

    abbrev its_watches : Bool
    its_watches = watches g src i s rests there

    closed_if : (w : Bool) → opens g src s rests there ≡ false → ((its_keeps || w) && opens g src s rests there) ≡ false
    closed_if w e = grind (arith, opens)

    clear_spt : (a b : Bool) → (a && not b) ≡ true → b ≡ false
    clear_spt a b e = grind arith

    or_first : (opens_tunnel (answers s g src) i || sets_spt (answers s g src) i) ≡ false
        → opens_tunnel (answers s g src) i ≡ false
    or_first e = (or_parts (opens_tunnel (answers s g src) i) (sets_spt (answers s g src) i) e).0

    or_second : (opens_tunnel (answers s g src) i || sets_spt (answers s g src) i) ≡ false
        → sets_spt (answers s g src) i ≡ false
    or_second e = (or_parts (opens_tunnel (answers s g src) i) (sets_spt (answers s g src) i) e).1

    found : (p q : Plain) → Some q ≡ Some p → Forwards i ttl q → Forwards i ttl p
    found p q e f = let same : q ≡ p = cc in subst (λ (r : Plain). Forwards i ttl r) same f

    nowhere : (p : Plain) → None ≡ Some p → Forwards i ttl p
    nowhere p e = let none : ⊥ = cc in absurd none

    cases : (a b c d e : Bool)
        → (opens_tunnel (answers s g src) i || sets_spt (answers s g src) i) ≡ a
        → (is_rpf_interface s src i && spt_bit s g src) ≡ b
        → (tunnel s g src && nat_lt 1 ttl) ≡ c
        → (is_rpf_interface_rp s g i && not (spt_bit s g src)) ≡ d
        → is_contested s g src i ≡ e
        → (p : Plain)
        → cond a None (cond b (cond c None (Some (plainly its_keeps (inherited_olist s g src))))
        (cond d (Some (plainly (its_keeps || its_watches) (inherited_olist_rpt s g src)))
        (cond e None (Some (record { keeps = its_keeps; list = no_interface }))))) ≡ Some p
        → Forwards i ttl p
    cases true b c d e fa fb fc fd fe p is = nowhere p is
    cases false true true d e fa fb fc fd fe p is = nowhere p is
    cases false true false d e fa fb fc fd fe p is =
        found p (plainly its_keeps (inherited_olist s g src)) is (record {
          to_tunnel = tunnel s g src;
          same = on_its_tree g src i s rests there (or_first fa) (or_second fa) fb;
          ends = fc;
          closed = closed g src i s rests there (or_first fa);
        })
    cases false false c true e fa fb fc fd fe p is =
        found p (plainly (its_keeps || its_watches) (inherited_olist_rpt s g src)) is (record {
          to_tunnel = false;
          same = on_shared_tree g src i s rests there (or_first fa) (or_second fa) fb fd;
          ends = refl;
          closed = closed_if its_watches (settled_anyway g src i s rests there (or_first fa) (or_second fa)
              (clear_spt (is_rpf_interface_rp s g i) (spt_bit s g src) fd));
        })
    cases false false c false true fa fb fc fd fe p is = nowhere p is
    cases false false c false false fa fb fc fd fe p is =
        found p (record { keeps = its_keeps; list = no_interface }) is (record {
          to_tunnel = false;
          same = on_neither g src i s rests there (or_first fa) (or_second fa) fb fd ∙ rw fe refl;
          ends = refl;
          closed = closed g src i s rests there (or_first fa);
        })

    pub forwards : (p : Plain) → plain (answers s g src) i ttl ≡ Some p → Forwards i ttl p
    unfolding plain answers
    forwards p e = cases _ _ _ _ _ refl refl refl refl refl p e

-- ---- with all that follows

module _ (s : State) (p : Packet) (rests : IsAtRest s) (there : has_row s.sources (fact_key p) ≡ true) where
  abbrev state_after : Bool → State
  state_after b = at p.destination p.source s rests there b

  same_copies : (b : Bool) (list : Set) → copies_of (state_after b) p list ≡ copies_of s p list
  unfolding copies_of members with_keepalive
  same_copies b list = grind arith

  no_register : (to_tunnel : Bool) (t : State) → (to_tunnel && nat_lt 1 p.time_to_live) ≡ false
      → tunnel_of t p to_tunnel ≡ []
  unfolding tunnel_of
  no_register to_tunnel t e = rw e refl

  -- what leaves, and what the state is, where nothing follows
  pub only_leaves : (w : ℕ) (f : Forwarded) (b : Bool) → (b && opens p.destination p.source s rests there) ≡ false
      → (list : Set) (to_tunnel : Bool)
      → f ≡ record { state = state_after b; messages = []; list = list; to_tunnel = to_tunnel }
      → done s w (packet_forwarded p f)
      ≡ record {
        answer = Ok Verdict.Done;
        emissions = copies_of s p list ++ tunnel_of (state_after b) p to_tunnel;
        copies = length (copies_of s p list);
        state = state_after b;
      }
  unfolding done
  only_leaves w f b closed list to_tunnel e =
      ap (λ (f : Forwarded). done s w (packet_forwarded p f)) e
      ∙ (λ j.
      let sent : State × List Emission = nothing_follows p.destination p.source s rests there b closed w j in
      record {
        answer = Ok Verdict.Done;
        emissions = sent.1 ++ same_copies b list j ++ tunnel_of (state_after b) p to_tunnel;
        copies = length (same_copies b list j);
        state = sent.0;
      })

  pub plain_is_taken : (w : ℕ) (i : IfaceId) (how : Plain) → decided_by_answers s i p ≡ Some how
      → taken s w (Accepted.Data i p) ≡ plainly_taken s p how
  unfolding taken change plainly_taken
  plain_is_taken w i how e =
      let f : Forwards p.destination p.source s rests there i.number p.time_to_live how =
      forwards p.destination p.source s rests there i.number p.time_to_live how e in
      only_leaves w _ how.keeps f.closed how.list f.to_tunnel f.same
      ∙ (λ j. record {
        answer = Ok Verdict.Done;
        emissions = (ap (λ es. copies_of s p how.list ++ es) (no_register f.to_tunnel (state_after how.keeps) f.ends)
            ∙ append-nil (copies_of s p how.list)) j;
        copies = length (copies_of s p how.list);
        state = state_after how.keeps;
      })

-- ---- a source with a fact needs no room

pub known_is_not_full : (s : State) (i : IfaceId) (p : Packet) → has_row s.sources (fact_key p) ≡ true
    → is_full s (Accepted.Data i p) ≡ false
unfolding is_full source_is_full passes_limit needed distinct once_more is_named
known_is_not_full s i p there = rw there refl

module _ (s : State) (e : Event) (p : Packet) (how : Plain) (rests : IsAtRest s) (is : IsDecided s e p how) where
  pub plain_is_stepped : step s e ≡ plainly_taken s p how
  unfolding step taken_unless_full
  plain_is_stepped = grind (arith, full_or_taken, known_is_not_full, plain_is_taken)

  state_is : (step s e).state ≡ kept_if how.keeps s p.destination p.source
  unfolding plainly_taken
  state_is = ap (λ (a : Answered). a.state) plain_is_stepped

  plain_changes_no_answer : (g src : ℕ) → answers (step s e).state g src ≡ answers s g src
  plain_changes_no_answer g src = grind (arith, state_is, keeps, no_answer_changed)

  plain_changes_no_fact : (k : Key) → has_row (step s e).state.sources k ≡ has_row s.sources k
  unfolding with_keepalive
  plain_changes_no_fact k = grind (arith, state_is, keeps, equal_keys, has_row_put, kept_row)

  pub plain_keeps_cache : (g src : ℕ) → cached (step s e).state g src ≡ cached s g src
  unfolding cached
  plain_keeps_cache g src = grind (arith, plain_changes_no_fact, plain_changes_no_answer)
