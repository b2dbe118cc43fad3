-- A plain packet names no source.
use Rattle.std.{proofs.Common.{◌≡◌, ℕ, Bool, true, false, not, ◌&&◌, ◌||◌, List, [], Option, Some, sym, ap, ◌∙◌, arith}, specs.Cmp.Derive.both_true}
use Rattle.pim_ip.{specs.Ipv4.Packet}
use Rattle.pim_types.{specs.{declared.{config.IfaceId.IfaceId, fact.{Key.Key, RegisterRow.RegisterRow, RegisterState.RegisterState}}, Keys.{group_in, same_key, source_in, source_key}}, proofs.Keys.equal_keys}
use Rattle.pim_model.{specs.{Cache.Plain, declared.accepted.Accepted.Accepted, Forwarding.Forwarded, Messages.Message, Plain.fact_key, Reach.with_facts, Registers.with_keepalive, Rows.{same_both, same_register_state}, Sets.register_state, State.State, Step.change, Tables.{Table, has_row}}}
use Rattle.law_settled.{proofs.RowLaws.has_row_put}
use Rattle.law_events.{specs.{Rest.IsAtRest, Sees.SeesSource, Named.{is_source_named, is_same_beside, named, named_by, named_of}, Decided.decided_by_answers}, proofs.{SameRows.flags_same, Agreed.register_itself, Sights.{all_pass, source_sight}, KeptAlive.{its_key, kept_row}, NothingFollows.{could_at, no_clearing, none_left, registers_now}, PlainPackets.{Forwards, forwards}, PlainSteps.{at, desired_at, opens, sees_at}, SameAnswers.may_register_same}}

state_itself : (r : Option RegisterState) → same_both same_register_state r r ≡ true
state_itself r = grind (arith, register_itself)

module _ (g src : ℕ) (s : State) (rests : IsAtRest s) (there : has_row s.sources (its_key g src s) ≡ true) where
  abbrev now : Bool → State
  now b = at g src s rests there b

  found : (k : Key) (c : Bool) → same_key k (source_key 0 g src) ≡ c
      → has_row s.sources k ≡ (c || has_row s.sources k)
  found k c e = grind (arith, equal_keys)

  fact_now : (b : Bool) (k : Key) → has_row s.sources k ≡ has_row (now b).sources k
  unfolding with_keepalive
  fact_now b k = grind (arith, found, has_row_put, kept_row)

  module _ (b : Bool) (closed : (b && opens g src s rests there) ≡ false) where
    none_named : (h x : ℕ) → is_source_named h x s (now b) ≡ false
    unfolding is_source_named is_same_beside
    none_named h x =
        let sees : SeesSource h x s (now b) = sees_at g src s rests there b h x in
        ap not (both_true (both_true
        (flags_same _ _ (fact_now b (source_key 0 h x)))
        (source_sight h x s (now b) sees))
        (both_true (both_true (both_true
        (flags_same _ _ (may_register_same h x s (now b) sees))
        (flags_same _ _ (could_at g src s rests there b closed h x)))
        (ap (λ (t : Table RegisterRow). same_both same_register_state (register_state s h x) (register_state (record s { registers = t }) h x)) (sym (registers_now g src s rests there b closed b)) ∙ state_itself (register_state s h x)))
        (flags_same _ _ (desired_at g src s rests there b h x))))

    names_none : named_by s (now b) ≡ []
    unfolding named_by named
    names_none =
        ap (λ (after : State × List Message). named s after.0) (no_clearing g src s rests there b closed)
        ∙ none_left (λ k. is_source_named (group_in k) (source_in k) s (now b)) (with_facts s (now b))
        (all_pass (λ k. not (is_source_named (group_in k) (source_in k) s (now b)))
        (λ k. ap not (none_named (group_in k) (source_in k))) (with_facts s (now b)))

pub plain_names_none : (s : State) (w : ℕ) (i : IfaceId) (p : Packet) (how : Plain) → IsAtRest s
    → has_row s.sources (fact_key p) ≡ true → decided_by_answers s i p ≡ Some how → named_of s w (Accepted.Data i p) ≡ []
unfolding named_of change
plain_names_none s w i p how rests there e =
    let f : Forwards p.destination p.source s rests there i.number p.time_to_live how =
    forwards p.destination p.source s rests there i.number p.time_to_live how e in
    ap (λ (f : Forwarded). named_by s f.state) f.same ∙ names_none p.destination p.source s rests there how.keeps f.closed
