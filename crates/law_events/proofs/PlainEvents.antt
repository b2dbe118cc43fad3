-- The events that the answers decide are the plain ones, and no others.
use Rattle.std.{proofs.{Common.{◌≡◌, ◌+◌, ◌++◌, ℕ, Bool, true, false, ◌&&◌, ◌||◌, cond, List, [], ◌∷◌, map, length, Ok, Option, Some, None, nat_lt, is_some, refl, sym, ap, subst, ◌∙◌, arith}, lemmas.List.Elements.{All-from_recursion, recursion_from_All}}, specs.{List.{All, AllByRecursion}, Option.option_map_or}}
use Rattle.pim_ip.{specs.Ipv4.{Packet, copy_text}}
use Rattle.pim_types.{specs.{declared.{event.Event.Event, fact.SourceRow.SourceRow, outcome.{Emission.Emission, Verdict.Verdict}}, Keys.source_key}}
use Rattle.pim_model.{specs.{Cache.{Plain, answers, away_from, opens_tunnel, plain, sets_spt}, Cause.is_on_link, Clearing.clear_all, declared.accepted.Accepted.Accepted, Forwarding.forwarded, Judging.Judged, Plain.{IsCopy, IsPlainEvent, fact_key}, Registers.{could_register, has_other_rp, keepalive_period, settle_registers, with_keepalive}, Sets.{Set, inherited_olist, members, spt_bit, tunnel}, State.State, Step.{Answered, change, concluded, done, packet_forwarded, step, taken, taken_unless_full}, Tables.{has_row, put, row_at}, Unicast.{is_rpf_interface, rp_of}, Writing.{copies_of, leaves, on_link, pim_to, register_of_packet, tunnel_of}}}
use Rattle.law_settled.{proofs.{ListLaws.{each_map, each_of_all}, UnchangedLaws.full_or_taken}}
use Rattle.law_events.{specs.{Rest.IsAtRest, Decided.{IsDecided, decided_by_answers, kept_if, plainly_taken}}, proofs.{Converse.{makes_no_assert, opens_no_tunnel, sets_no_spt}, FirstCleared.{end_keeps, kept_of}, Forwards.{closed, keeps, on_its_tree}, KeptAlive.{register_is_settled, with_its_row}, PlainPackets.{known_is_not_full, only_leaves, plain_is_stepped}, PlainSteps.{at, sees_at}, Puts.put_same}}

last_of_each : {X : Type 0} (P : X → Type 0) (xs : List X) (x : X) → AllByRecursion P (xs ++ x ∷ []) → P x
last_of_each P [] x e = e.0
last_of_each P (y ∷ ys) x e = last_of_each P ys x e.1

-- ---- a copy of a packet leaves on a link alone

a_register_is_no_copy : (p : Packet) (from to : ℕ) (text : List ℕ) → IsCopy p (pim_to from to text) → ⊥
unfolding pim_to
a_register_is_no_copy p from to text is = let both : false ≡ true = ap is_on_link is.copied in cc

are_copies : (s : State) (p : Packet) (list : Set) → All (IsCopy p) (copies_of s p list)
unfolding copies_of
are_copies s p list = go (leaves p)
  where
    go : (b : Bool) → All (IsCopy p) (cond b (map (λ i. on_link i (copy_text p)) (members s list)) [])
    go true =
        All-from_recursion (IsCopy p) (map (λ i. on_link i (copy_text p)) (members s list))
        (each_map (λ i. Unit {0}) (IsCopy p) (λ i. on_link i (copy_text p)) (λ i f. record { link = i; copied = refl })
        (members s list) (each_of_all (λ i. Unit {0}) (λ i. tt) (members s list)))
    go false = All-from_recursion (IsCopy p) [] tt

-- ---- what is decided is plain

module _ (s : State) (p : Packet) (rests : IsAtRest s) (fact : SourceRow)
    (known : row_at s.sources (fact_key p) ≡ Some fact) where
  spt_is : spt_bit s p.destination p.source ≡ fact.spt
  unfolding spt_bit
  spt_is = ap (λ (o : Option SourceRow). option_map_or (λ (r : SourceRow). r.spt) o false) known

  -- the expiry of its timer afterwards
  end_if : Bool → Option ℕ
  end_if true = Some (s.present + keepalive_period)
  end_if false = fact.keepalive

  only_its_end : (b : Bool) → kept_if b s p.destination p.source
      ≡ record s { sources = put s.sources (fact_key p) (record fact { keepalive = end_if b }) }
  unfolding with_keepalive end_if
  only_its_end b = grind (arith, spt_is, put_same)

pub decided_is_plain : (s : State) (e : Event) (p : Packet) (how : Plain) → IsAtRest s → IsDecided s e p how
    → IsPlainEvent s e
unfolding plainly_taken
decided_is_plain s e p how rests is =
    let stepped : step s e ≡ plainly_taken s p how = plain_is_stepped s e p how rests is in
    with_its_row (fact_key p) s.sources is.known (λ fact known. record {
      iif = is.iif;
      packet = p;
      heard = is.heard;
      done = ap (λ (a : Answered). a.answer) stepped;
      fact = fact;
      known = known;
      end = end_if s p rests fact known how.keeps;
      rest = ap (λ (a : Answered). a.state) stepped ∙ only_its_end s p rests fact known how.keeps;
      copies = subst (λ (es : List Emission). All (IsCopy p) es) (sym (ap (λ (a : Answered). a.emissions) stepped))
          (are_copies s p how.list);
    })

-- ---- what is plain is decided

module _ (s : State) (e : Event) (rests : IsAtRest s) (is : IsPlainEvent s e) where
  abbrev p : Packet
  p = is.packet

  abbrev g : ℕ
  g = p.destination

  abbrev src : ℕ
  src = p.source

  abbrev i : ℕ
  i = is.iif.number

  there : has_row s.sources (fact_key p) ≡ true
  unfolding has_row
  there = ap is_some is.known

  stepped : step s e ≡ done s e.draw (packet_forwarded p (forwarded s g src i))
  unfolding step taken_unless_full taken change
  stepped =
      ap (λ (j : Judged). concluded s (taken_unless_full s e.draw) j) is.heard
      ∙ ap (λ (b : Bool). full_or_taken s e.draw (Accepted.Data is.iif p) b) (known_is_not_full s is.iif p there)

  ends : kept_of (clear_all s (settle_registers (forwarded s g src i).state)).0
      ≡ record {
        asserts = s.asserts;
        sources = put s.sources (fact_key p) (record is.fact { keepalive = is.end });
        registers = s.registers;
      }
  unfolding done
  ends =
      sym (end_keeps s e.draw ((forwarded s g src i).state, (forwarded s g src i).messages))
      ∙ ap kept_of (sym (ap (λ (a : Answered). a.state) stepped) ∙ is.rest)

  shut : opens_tunnel (answers s g src) i ≡ false
  shut = opens_no_tunnel g src i s rests there is.fact is.known is.end ends

  unset : sets_spt (answers s g src) i ≡ false
  unset = sets_no_spt g src i s rests there is.fact is.known is.end shut ends

  -- where the tunnel stands the RP is known
  registered : tunnel s g src ≡ true → has_row s.registers (source_key 0 g src) ≡ true
  unfolding tunnel has_row
  registered t = grind arith

  knows_rp : could_register s g src ≡ true → is_some (rp_of s g) ≡ true
  unfolding could_register has_other_rp
  knows_rp f = grind arith

  abbrev state_at : Bool → State
  state_at b = at g src s rests there b

  -- the last emission is a Register
  register_leaves : (list : List Emission) (t : State) → (nat_lt 1 p.time_to_live) ≡ true → is_some (rp_of t g) ≡ true
      → All (IsCopy p) (list ++ tunnel_of t p true) → ⊥
  unfolding tunnel_of register_of_packet
  register_leaves list t lives knows all = go (rp_of t g) knows (subst (λ (b : Bool). All (IsCopy p) (list ++ cond b
      (option_map_or (register_of_packet t p) (rp_of t g) []) [])) lives all)
    where
      go : (o : Option ℕ) → is_some o ≡ true → All (IsCopy p) (list ++ option_map_or (register_of_packet t p) o []) → ⊥
      go None f all = cc
      go (Some rp) f all = a_register_is_no_copy p _ rp _ (last_of_each (IsCopy p) list _ (recursion_from_All (IsCopy p) _ all))

  no_tunnel : (is_rpf_interface s src i && spt_bit s g src) ≡ true → (tunnel s g src && nat_lt 1 p.time_to_live) ≡ false
  no_tunnel on = go (tunnel s g src) (nat_lt 1 p.time_to_live) refl refl
    where
      go : (t l : Bool) → tunnel s g src ≡ t → nat_lt 1 p.time_to_live ≡ l → (t && l) ≡ false
      go false l f h = refl
      go true false f h = refl
      go true true f h =
          let its_keeps : Bool = keeps g src i s rests there in
          let left : step s e ≡ record {
            answer = Ok Verdict.Done;
            emissions = copies_of s p (away_from i (inherited_olist s g src))
                ++ tunnel_of (state_at its_keeps) p (tunnel s g src);
            copies = length (copies_of s p (away_from i (inherited_olist s g src)));
            state = state_at its_keeps;
          } =
          stepped
          ∙ only_leaves s p rests there e.draw (forwarded s g src i) its_keeps (closed g src i s rests there shut)
          (away_from i (inherited_olist s g src)) (tunnel s g src) (on_its_tree g src i s rests there shut unset on) in
          let knows : is_some (rp_of (state_at its_keeps) g) ≡ true =
          ap is_some (sym ((sees_at g src s rests there its_keeps g src).star.rp))
          ∙ knows_rp (register_is_settled g src s rests there ∙ registered f) in
          let all : All (IsCopy p) (copies_of s p (away_from i (inherited_olist s g src))
          ++ tunnel_of (state_at its_keeps) p true) =
          subst (λ (b : Bool). All (IsCopy p) (copies_of s p (away_from i (inherited_olist s g src))
          ++ tunnel_of (state_at its_keeps) p b)) f
          (subst (λ (es : List Emission). All (IsCopy p) es) (ap (λ (a : Answered). a.emissions) left) is.copies) in
          absurd (register_leaves (copies_of s p (away_from i (inherited_olist s g src))) (state_at its_keeps) h knows all)

  decides : (o c a t b w : Bool) (x y z : Plain) → o ≡ false → c ≡ false → (a ≡ true → t ≡ false)
      → (a ≡ false → b ≡ false → w ≡ false)
      → is_some (cond (o || c) None (cond a (cond t None (Some x)) (cond b (Some y) (cond w None (Some z))))) ≡ true
  decides o c a t b w x y z e f h k = grind arith

  pub plain_is_decided : is_some (decided_by_answers s is.iif p) ≡ true
  unfolding plain answers
  plain_is_decided = grind (arith, decides, shut, unset, no_tunnel, makes_no_assert, there, ends)
