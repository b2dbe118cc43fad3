-- What one router of a set sends another.
use Rattle.std.{proofs.{Common.{◌≡◌, ℕ, ◌+◌, ◌-◌, ◌<◌, ◌≤◌, ◌^◌, Bool, true, false, cond, not, nat_lt, ◌&&◌, ◌==◌, IsTrue, List, [], length, Some, Ok, refl, sym, ap, subst, ◌∙◌, arith, eq-eqb}, lemmas.{Bool.Decides.nat_tests, List.{append-nil}}}}
use Rattle.pim_ip.{specs.{Checksum.with_checksum, Ipv4.{Packet, header_text, ipv4_reading, is_source, is_unicast, packet_limit, pim_packet_text, protocol_pim}, View.written_packet}, proofs.ViewLemmas.written_reads}
use Rattle.pim_wire.{specs.{Messages.pim_reading, RegisterParts.registered_group, Values.Register, declared.view.PimView.PimView}}
use Rattle.pim_model.{specs.{Judging.{pim_to_me_judged, register_judged, unicast_judged, unicast_packet_judged}, State.State}}
use Rattle.pim_anycast.{specs.{Laws.{AreTogether, CopyIsTaken, NoneSentBack, counted_packet, sent_text}, Passed.{bytes_given, copies_of, counted_text, packet_passed, passed, passed_by, register_in, register_of}, Sets.{is_other, set_for, to_others}, declared.{front.Passed.Passed, set.RpSet.RpSet}}}

module _ (time_to_live source destination : ℕ) (message : List ℕ) (host : IsTrue (is_unicast source))
    (to_fits : destination < 2 ^ 32) (short : 20 + length message ≤ packet_limit) where
  abbrev text : List ℕ
  text = pim_packet_text time_to_live source destination message

  may_send : is_source protocol_pim source ≡ true
  may_send = grind (arith, nat_tests, host)

  text_long : length text ≡ 20 + length message
  unfolding pim_packet_text header_text with_checksum
  text_long = omega arith

  pub text_reads : ipv4_reading text ≡ Ok (written_packet [] time_to_live protocol_pim source destination message)
  unfolding pim_packet_text
  text_reads =
      ap ipv4_reading (sym (append-nil text))
      ∙ (written_reads [] time_to_live protocol_pim source destination message refl (omega (arith, short)) to_fits may_send).reading []
      (subst (λ (xs : List ℕ). length xs ≤ packet_limit) (sym (append-nil text)) (omega (arith, text_long, short)))

-- a packet from another of the set, to the own address
by_copy : (set : RpSet) (p : Packet) → p.destination ≡ set.own.bits → is_other set p.source ≡ true
    → passed_by set p ≡ Passed.Counted (counted_text set p)
unfolding passed_by
by_copy set p here known = go (p.destination == set.shared.bits) (rw here (eq-eqb set.own.bits set.own.bits refl))
  where
    go : (b : Bool) → (p.destination == set.own.bits) ≡ true
        → cond (b && (not (is_other set p.source) && nat_lt 1 p.time_to_live)) (Passed.Copied (to_others set (p.time_to_live - 1) p.payload))
        (cond ((p.destination == set.own.bits) && is_other set p.source) (Passed.Counted (counted_text set p)) Passed.AsItCame)
        ≡ Passed.Counted (counted_text set p)
    go true to = rw (to, known) refl
    go false to = rw (to, known) refl

module _ (sets : List RpSet) (t : State) (from to : RpSet) (time_to_live : ℕ) (message : List ℕ) (r : Register)
    (f : AreTogether t from to) (is : pim_reading message ≡ Ok (PimView.Register r))
    (for_it : set_for sets t.ranges (registered_group r) ≡ Some to) (short : 20 + length message ≤ packet_limit) where
  abbrev bytes : List ℕ
  bytes = sent_text from to time_to_live message

  abbrev came : Packet
  came = written_packet [] time_to_live protocol_pim from.own.bits to.own.bits message

  abbrev told : List ℕ
  told = pim_packet_text time_to_live from.own.bits to.shared.bits message

  brings : register_in came ≡ Some r
  unfolding register_in
  brings = ap register_of is

  packet_counts : packet_passed sets t.ranges came ≡ Passed.Counted told
  unfolding packet_passed counted_text
  packet_counts = rw (brings, for_it) (by_copy to came refl f.knows)

  pub counts : passed sets t.ranges bytes ≡ Passed.Counted told
  unfolding passed
  counts = rw (text_reads time_to_live from.own.bits to.own.bits message f.host f.own_fits short) packet_counts

  judged : unicast_judged t told ≡ register_judged (counted_packet from to time_to_live message) r
  unfolding unicast_judged unicast_packet_judged pim_to_me_judged register_judged
  judged = rw (text_reads time_to_live from.own.bits to.shared.bits message f.host f.shared_fits short, is, f.shared) refl

  pub taken : unicast_judged t (bytes_given (passed sets t.ranges bytes) bytes) ≡ register_judged (counted_packet from to time_to_live message) r
  taken = rw counts judged

pub copy_is_taken : CopyIsTaken
copy_is_taken sets t from to time_to_live message r f is for_it short = taken sets t from to time_to_live message r f is for_it short

pub none_sent_back : NoneSentBack
unfolding packet_passed passed_by
none_sent_back sets ranges p r set brings for_it other = rw (brings, for_it) (go (p.destination == set.shared.bits) (p.destination == set.own.bits))
  where
    go : (b c : Bool) → copies_of (cond (b && (not (is_other set p.source) && nat_lt 1 p.time_to_live)) (Passed.Copied (to_others set (p.time_to_live - 1) p.payload))
        (cond (c && is_other set p.source) (Passed.Counted (counted_text set p)) Passed.AsItCame)) ≡ []
    go true true = rw other refl
    go true false = rw other refl
    go false true = rw other refl
    go false false = refl
