-- What the guard lets through it lets through as the sets of RPs give it too: a Register that counts as one to the shared
-- address brings what the copy brought.
use Rattle.std.{specs.Option.option_map_or, proofs.{Common.{◌≡◌, ◌∙◌, ◌+◌, ◌-◌, ◌<◌, ◌^◌, ◌&&◌, ◌==◌, ap, refl, sym, subst, arith, ℕ, Bool, true, false, not, nat_lt, cond, List, [], length, slice_range, take, Option, Some, None, option_map, Result, Ok, Err, if◌then◌else◌}, lemmas.List.{append-nil, take_at}}}
use Rattle.byteorder.{specs.Numbers.big_number-reads_back}
use Rattle.pim_ip.{specs.{Checksum.with_checksum, Ipv4.{Packet, header_text, ipv4_reading, packet_of, pim_packet_text, protocol_pim, total_length_of}, declared.refusal.Refusal.Refusal}}
use Rattle.pim_types.specs.declared.{config.RpTable.RpTable, event.EventKind.EventKind}
use Rattle.pim_wire.{specs.{Messages.pim_reading, RegisterParts.registered_group, declared.view.PimView.PimView}}
use Rattle.pim_model.{specs.State.State}
use Rattle.law_settled.{proofs.ReadPackets.{packet_is, passed as read_passed}}
use Rattle.pim_guard.{specs.Guard.{is_kind_stopped, is_message_stopped, is_packet_stopped, is_reading_stopped, is_unicast_stopped}}
use Rattle.pim_anycast.{specs.{Joined.kind_given, Passed.{bytes_given, counted_text, group_passed, packet_passed, passed, passed_by, reading_passed, register_in, register_of}, Sets.{is_other, set_for, to_others}, declared.{front.Passed.Passed, set.RpSet.RpSet}}}

-- ---- a message as it is read behind a written header

module _ (time_to_live source destination : ℕ) (message : List ℕ) where
  abbrev text : List ℕ
  text = pim_packet_text time_to_live source destination message

  text_long : length text ≡ 20 + length message
  unfolding pim_packet_text header_text with_checksum
  text_long = omega arith

  text_total : 20 + length message < 2 ^ 16 → total_length_of text ≡ 20 + length message
  unfolding pim_packet_text header_text with_checksum
  text_total short = big_number-reads_back 2 (20 + length message) [] short

  text_ends : slice_range text 20 (20 + length message) ≡ message
  unfolding pim_packet_text header_text with_checksum
  text_ends =
      let long : 20 + length message - 20 ≡ length message = omega arith in
      rw long (ap (take (length message)) (sym (append-nil message)) ∙ take_at message [] (length message) refl)

  payload_is : (q : Packet) → ipv4_reading text ≡ Ok q → q.payload ≡ message
  unfolding packet_of pim_packet_text header_text with_checksum
  payload_is q e =
      let fits = (read_passed text q e).measured.within_limit in
      let total : total_length_of text ≡ 20 + length message = text_total (omega (arith, text_long, fits)) in
      ap (λ (p : Packet). p.payload) (packet_is text q e)
      ∙ ap (λ (n : ℕ). slice_range text 20 n) total ∙ text_ends

  by_message : (b : Bool) (m : Result PimView Refusal) → is_message_stopped m ≡ false
      → (if b then is_message_stopped m else false) ≡ false
  by_message true m e = e
  by_message false m e = refl

  packet_plain : is_message_stopped (pim_reading message) ≡ false → (q : Packet) → q.payload ≡ message → is_packet_stopped q ≡ false
  unfolding is_packet_stopped
  packet_plain e q is =
      by_message (q.protocol == protocol_pim) (pim_reading q.payload)
      (subst (λ (xs : List ℕ). is_message_stopped (pim_reading xs) ≡ false) (sym is) e)

  pub text_passes : is_message_stopped (pim_reading message) ≡ false → is_unicast_stopped text ≡ false
  unfolding is_unicast_stopped
  text_passes e = go (ipv4_reading text) refl
    where
      go : (r : Result Packet Refusal) → ipv4_reading text ≡ r → is_reading_stopped r ≡ false
      go (Ok q) is = packet_plain e q (payload_is q is)
      go (Err refusal) is = refl

-- ---- a packet as the sets give it

module _ (sets : List RpSet) (ranges : RpTable) (bytes : List ℕ) (whole : is_unicast_stopped bytes ≡ false) where
  module _ (p : Packet) (plain : is_message_stopped (pim_reading p.payload) ≡ false) where
    set_passes : (set : RpSet) → is_unicast_stopped (bytes_given (passed_by set p) bytes) ≡ false
    unfolding passed_by counted_text
    set_passes set =
        go ((p.destination == set.shared.bits) && (not (is_other set p.source) && nat_lt 1 p.time_to_live))
        ((p.destination == set.own.bits) && is_other set p.source)
      where
        go : (b c : Bool) → is_unicast_stopped (bytes_given (cond b (Passed.Copied (to_others set (p.time_to_live - 1) p.payload))
            (cond c (Passed.Counted (pim_packet_text p.time_to_live p.source set.shared.bits p.payload)) Passed.AsItCame)) bytes) ≡ false
        go true c = whole
        go false true = text_passes p.time_to_live p.source set.shared.bits p.payload plain
        go false false = whole

    some_passes : (o : Option RpSet)
        → is_unicast_stopped (bytes_given (option_map_or (λ set. passed_by set p) o Passed.AsItCame) bytes) ≡ false
    some_passes None = whole
    some_passes (Some set) = set_passes set

    group_passes : (g : Option ℕ) → is_unicast_stopped (bytes_given (group_passed sets ranges p g) bytes) ≡ false
    group_passes None = whole
    group_passes (Some g) = some_passes (set_for sets ranges g)

  packet_passes : (p : Packet) → is_packet_stopped p ≡ false
      → is_unicast_stopped (bytes_given (packet_passed sets ranges p) bytes) ≡ false
  unfolding packet_passed register_in is_packet_stopped
  packet_passes p e = go (p.protocol == protocol_pim) e
    where
      go : (b : Bool) → (if b then is_message_stopped (pim_reading p.payload) else false) ≡ false
          → is_unicast_stopped (bytes_given (group_passed sets ranges p
          (option_map registered_group (cond b (register_of (pim_reading p.payload)) None))) bytes) ≡ false
      go true plain = group_passes p plain (option_map registered_group (register_of (pim_reading p.payload)))
      go false plain = whole

  pub bytes_pass : is_unicast_stopped (bytes_given (passed sets ranges bytes) bytes) ≡ false
  unfolding passed is_unicast_stopped
  bytes_pass = go (ipv4_reading bytes) whole
    where
      go : (r : Result Packet Refusal) → is_reading_stopped r ≡ false
          → is_unicast_stopped (bytes_given (reading_passed sets ranges r) bytes) ≡ false
      go (Ok p) e = packet_passes p e
      go (Err refusal) e = whole

pub kind_passes : (sets : List RpSet) (s : State) (kind : EventKind) → is_kind_stopped kind ≡ false
    → is_kind_stopped (kind_given sets s kind) ≡ false
unfolding kind_given
kind_passes sets s (EventKind.Unicast bytes) passed = bytes_pass sets s.ranges bytes passed
kind_passes sets s (EventKind.Frame i bytes) passed = passed
kind_passes sets s (EventKind.Advance moment) passed = refl
kind_passes sets s (EventKind.Up i) passed = refl
kind_passes sets s (EventKind.Down i) passed = refl
kind_passes sets s (EventKind.Routes routes) passed = refl
kind_passes sets s (EventKind.Rps rps) passed = refl
kind_passes sets s (EventKind.RpCandidates candidates) passed = refl
