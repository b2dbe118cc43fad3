-- The premises, computed.
use Rattle.std.{proofs.Common.{◌≡◌, ◌∙◌, ℕ, zero, suc, ◌+◌, ◌<◌, ◌≤◌, inl, [], ◌∷◌, length, get_or, List, Option, Some, None, Ok, refl, sym, ap, subst, lit≤, lit<, arith}, specs.{List.Contains, Option.option_map_or, Prelude.⊤}}
use Rattle.pim_ip.{specs.{Checksum.with_checksum, Ipv4.{header_text, packet_of, pim_packet_text}}}
use Rattle.pim_wire.{specs.Values.Null}
use Rattle.pim_model.{specs.{Limits.config_test, Network.{DeliverUnicast, Sent, Station, frame_at, station_at}, Registers.keepalive_period, State.opening}}
use Rattle.law_settled.{specs.Ready.IsSettled, proofs.Steps.opening_is_settled}
use Rattle.pim_anycast.{specs.{Announced.{announced, announced_all, announced_due, announced_new, is_announced, is_local, local_keys}, Joined.{event_given, joined, joined_step, kind_given, outcome_with}, Laws.sent_text, Members.{AlwaysBehind, CanLearn, ComesBehind, Hears, IsBetween, IsTakenBy, KnowsBetween, moved_behind, stepped_behind}, Passed.{counted_text, packet_passed, passed, passed_by, register_in}, Sets.{are_rp_sets, is_rp_set, set_for, set_sharing, to_others}}, proofs.MembersLaws.members_know}
use Rattle.pim_runs.{specs.{Anycast.{SecondKnows, first, first_set, heard, later, register, registers, rps, second, second_set, sets, started}, Words.address}, proofs.OnLiterals.machine_on_literals}

-- One name under which the front's definitions compute, beside the machine's.
unfoldable pub front_on_literals : ⊤
unfolding announced announced_all announced_due announced_new is_announced is_local local_keys event_given joined joined_step
    kind_given outcome_with moved_behind stepped_behind counted_text packet_passed passed passed_by register_in are_rp_sets
    is_rp_set set_for set_sharing to_others
front_on_literals = tt

abbrev group : ℕ
group = address 239 1 1 1

abbrev source : ℕ
source = address 10 1 0 50

abbrev first_station : Station
first_station = record { links = 1 ∷ 2 ∷ []; state = opening first }

abbrev second_station : Station
second_station = record { links = 2 ∷ []; state = opening second }

accepted : config_test second ≡ Ok tt
unfolding machine_on_literals
accepted = refl

settled : IsSettled (opening second)
settled = opening_is_settled second accepted

first_there : station_at rps 0 ≡ Some first_station
unfolding machine_on_literals
first_there = refl

hears : Hears (sets 0) (opening first) registers first_set group source
unfolding machine_on_literals front_on_literals
hears = Hears.ByRegister (record {
  bytes = register;
  packet = packet_of register;
  register = Null source group;
  is = refl;
  reads = refl;
  brings = refl;
  group = refl;
  source = refl;
  for_it = refl;
  copied = refl;
})

among : Contains (first_set).others (second_set).own
among = (0, lit< tt, refl)

second_there : station_at heard 1 ≡ Some second_station
unfolding machine_on_literals front_on_literals
second_there = refl

soon : (opening second).present + started 1 ≤ (joined_step (sets 0) (opening first) registers).1.present + started 0 + 100
unfolding machine_on_literals front_on_literals
soon = lit≤ tt

learns : CanLearn (sets 1) (opening second) first_set second_set group source
unfolding machine_on_literals front_on_literals
learns = record {
  together = record { host = refl; own_fits = lit< tt; shared_fits = lit< tt; shared = refl; knows = refl };
  for_it = refl;
  forwarded = refl;
  wanted = refl;
  room = refl;
}

-- ---- the frames that left: the copy, and the Register-Stop to the DR

-- the last byte of a packet's destination
abbrev last_of : Sent → ℕ
last_of f = get_or f.bytes 19 0

stop_to : (f : Sent) → frame_at heard 2 ≡ Some f → last_of f ≡ 1
unfolding machine_on_literals front_on_literals
stop_to f is = ap (λ (o : Option Sent). option_map_or last_of o 1) (sym is)

copy_to : (time_to_live : ℕ) (message : List ℕ)
    → last_of (record { link = None; bytes = sent_text first_set second_set time_to_live message }) ≡ 2
unfolding pim_packet_text header_text with_checksum
copy_to time_to_live message = refl

stop_is_apart : (f : Sent) → frame_at heard 2 ≡ Some f → IsBetween first_set second_set group source f → ⊥
stop_is_apart f is between =
    let same : 1 ≡ 2 = sym (stop_to f is) ∙ (ap last_of between.is ∙ copy_to between.time_to_live between.message) in cc same

none_first : (f : Sent) → frame_at heard 0 ≡ Some f → ⊥
unfolding machine_on_literals
none_first f is = cc is

no_third : (k : ℕ) (f : Sent) → frame_at heard (suc (suc (suc k))) ≡ Some f → ⊥
unfolding machine_on_literals front_on_literals
no_third k f is = cc is

-- ---- the law

abbrev heard_at : ℕ
heard_at = (joined_step (sets 0) (opening first) registers).1.present + started 0

at_once : heard_at ≡ 0
unfolding machine_on_literals front_on_literals
at_once = refl

taken : IsTakenBy sets started 1 first_set second_set group source heard_at 1 heard (DeliverUnicast 1 1 7)
taken = record {
  draw = 7;
  is = refl;
  later = λ st at. omega (arith, at_once);
  learns = λ st at.
      let same : second_station ≡ st = cc (sym second_there ∙ at) in
      subst (λ (x : Station). CanLearn (sets 1) x.state first_set second_set group source) same learns;
}

comes : (number : ℕ) (f : Sent) → length (rps).frames < number → frame_at heard number ≡ Some f
    → IsBetween first_set second_set group source f
    → ComesBehind sets started 1 first_set second_set group source heard_at (heard_at + 100) number heard later
comes zero f more is between = absurd (none_first f is)
comes (suc zero) f more is between = inl taken
comes (suc (suc zero)) f more is between = absurd (stop_is_apart f is between)
comes (suc (suc (suc k))) f more is between = absurd (no_third k f is)

pub second_knows : SecondKnows
second_knows =
    subst (λ (h : ℕ). AlwaysBehind sets (KnowsBetween started 1 group source (h + 100) (h + keepalive_period)) heard later) at_once
    (members_know sets started rps 0 1 first_station second_station registers first_set second_set group source 100 later
    first_there hears among second_there settled soon comes)
