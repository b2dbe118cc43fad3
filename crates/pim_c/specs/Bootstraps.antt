-- What a call does to the handle of a listener for Bootstraps (RFC 5059), and to that of a router, and answers.
use Rattle.std.specs.{Option.option_map_or, Prelude.{[], Bool, Err, List, None, Ok, Option, Result, Some, false, if◌then◌else◌, length, nat_le, option_and_then, true, ℕ, ◌&&◌, ◌==◌, ◌≡◌, ◌⊎◌}}
use Rattle.pim_ip.{specs.{Fault.fault_number, Refusal.refusal_number, declared.refusal.Refusal.Refusal}}
use Rattle.pim_types.{specs.declared.{config.RpRange.RpRange, event.EventKind.EventKind, outcome.Ignored.Ignored}}
use Rattle.pim_model.{specs.Limits.most_rps}
use Rattle.pim_bsr.{specs.{Hearing.{Hearing, is_moved, takes_memory}, Joined.{first_end, is_due, rps_event}, Reading.restored, Refused.listener_refusal_number, Table.{Known, at_time, choosing, configured, given, gives, moves, new_known}, Text.known_text, declared.{choice.Choice.Choice, heard.{Heard.Heard, Why.Why}, learned.{Elected.Elected, Learned.Learned, Part.Part}, refusal.ListenerRefusal.ListenerRefusal}}}
use Rattle.pim_router.{specs.Standing.Standing}
use Rattle.pim_session.{specs.{Heard.heard_at, Session.ShownSession, Untaken.has_untaken, declared.stop.Stop.Stop}}
use Rattle.pim_c.{specs.{Called.Copied, Given.given_event, Returned.{ignored_number, written_into}, Written.{NoBytesWritten, Untouched}, declared.{given.GivenRange.GivenRange, learned.{CElected.CElected, LearnedRow.LearnedRow, PartRow.PartRow}}}}

-- ---- numbers

-- a limit on the RPs that are kept, by a number
abbrev pub limit_of : ℕ → Option ℕ
limit_of number = if nat_le 1 number && nat_le number most_rps then Some number else None

-- The number of why a Bootstrap doesn't count.
abbrev pub why_number : Why → ℕ
why_number Why.NoNeighbour = ignored_number Ignored.NoNeighbour
why_number Why.NoRoom = refusal_number Refusal.Full
why_number Why.OwnBsr = 110
why_number Why.Scoped = 111
why_number Why.LateRefresh = 112
why_number Why.NotFromRpf = 113
why_number Why.NotPreferred = 114

-- The number of what became of a packet.
abbrev pub heard_number : Heard → ℕ
heard_number Heard.Other = ignored_number Ignored.OtherType
heard_number (Heard.Refused refusal) = refusal_number refusal
heard_number (Heard.Ignored why) = why_number why
heard_number (Heard.Taken moved) = 0

-- The number of why a packet wasn't heard.
abbrev pub unheard_number : Stop → ℕ
unheard_number Stop.Untaken = 55
unheard_number Stop.Guarded = 109
unheard_number (Stop.Fault fault) = fault_number fault

-- ---- calls

-- A number that is no limit is refused; else a listener was made, or an allocation failed.
abbrev pub ListenerMade : Option Known → Option ℕ → List RpRange → ℕ → ℕ → Option Known → Type 0
ListenerMade old None static refresh_end answer left = (answer ≡ 54) × (left ≡ old)
ListenerMade old (Some limit) static refresh_end answer left =
    ((answer ≡ 0) × (left ≡ Some (new_known limit static refresh_end))) ⊎ ((answer ≡ 40) × (left ≡ old))

abbrev pub RestoredBy : Result Known ListenerRefusal → Option Known → ℕ → Option Known → Type 0
RestoredBy (Ok k) old answer left = (answer ≡ 0) × (left ≡ Some k)
RestoredBy (Err refusal) old answer left = Untouched (listener_refusal_number refusal) old answer left

-- A listener was made that knows what the bytes say, or the bytes were refused, or an allocation failed.
abbrev pub ListenerRestored : Option Known → List ℕ → ℕ → Option Known → Type 0
ListenerRestored old bytes answer left = RestoredBy (restored bytes) old answer left ⊎ Untouched 40 old answer left

-- The bytes were written, as many as fit, with their length, and a listener is restored of them; or an allocation failed.
abbrev pub ListenerSaved : Option Known → ℕ → ℕ → ℕ → List ℕ → List ℕ → Type 0
ListenerSaved None answer size written room filled = NoBytesWritten 56 answer size written room filled
ListenerSaved (Some k) answer size written room filled =
    ((answer ≡ 0) × (written ≡ length (known_text k)) × (filled ≡ written_into room (known_text k)) × (restored (known_text k) ≡ Ok k))
    ⊎ NoBytesWritten 40 answer size written room filled

-- Nothing changed.
abbrev pub Unheard : ℕ → Known → ShownSession → ℕ → Bool → Option Known → Option ShownSession → Type 0
Unheard number k s answer moved after left = (answer ≡ number) × (moved ≡ false) × (after ≡ Some k) × (left ≡ Some s)

-- The listener heard a packet, or an allocation failed where memory is taken.
abbrev pub HeardAs : Hearing → Known → ShownSession → ℕ → Bool → Option Known → Option ShownSession → Type 0
HeardAs h k s answer moved after left =
    ((answer ≡ heard_number h.answer) × (moved ≡ is_moved h.answer) × (after ≡ Some h.known)
    × (left ≡ Some (record s { sent = h.sent })))
    ⊎ ((takes_memory h.answer ≡ true) × Unheard 40 k s answer moved after left)

-- While packets are untaken a packet is refused.
abbrev pub HeardUnless : Bool → Hearing → Known → ShownSession → ℕ → Bool → Option Known → Option ShownSession → Type 0
HeardUnless true h k s answer moved after left = Unheard 55 k s answer moved after left
HeardUnless false h k s answer moved after left = HeardAs h k s answer moved after left

abbrev pub HeardFrom : Option Standing → Known → ShownSession → ℕ → List ℕ → ℕ → Bool → Option Known → Option ShownSession → Type 0
HeardFrom None k s i bytes answer moved after left = Unheard 41 k s answer moved after left
HeardFrom (Some r) k s i bytes answer moved after left =
    HeardUnless (has_untaken s) (heard_at r.state k i bytes) k s answer moved after left

abbrev pub HeardAt : Known → Option ShownSession → ℕ → List ℕ → ℕ → Bool → Option Known → Option ShownSession → Type 0
HeardAt k None i bytes answer moved after left = (answer ≡ 50) × (moved ≡ false) × (after ≡ Some k) × (left ≡ None)
HeardAt k (Some s) i bytes answer moved after left = HeardFrom s.router.standing k s i bytes answer moved after left

-- Without a listener or a router nothing happens. A router that works, and whose packets are taken, is asked for its
-- neighbours and routes, and nothing of it changes but what is to be sent.
abbrev pub HeardBy : Option Known → Option ShownSession → ℕ → List ℕ → ℕ → Bool → Option Known → Option ShownSession → Type 0
HeardBy None router i bytes answer moved after left = (answer ≡ 56) × (moved ≡ false) × (after ≡ None) × (left ≡ router)
HeardBy (Some k) router i bytes answer moved after left = HeardAt k router i bytes answer moved after left

-- The router took the RPs of the listener, if there is one.
abbrev pub GivenTo : Option Known → Option ShownSession → ℕ → ℕ → Option ShownSession → Type 0
GivenTo None old draw answer left = (answer ≡ 56) × (left ≡ old)
GivenTo (Some k) old draw answer left = Copied old (given_event draw (rps_event k)) answer left

-- when the first of the RPs in force expires
abbrev pub first_end_in : Option Known → Option ℕ
first_end_in listener = option_and_then (λ (k : Known). first_end k.table.rps) listener

-- Time passed, or an allocation failed where an RP in force expired.
abbrev pub PassedBy : Option Known → ℕ → ℕ → Bool → Option Known → Type 0
PassedBy None moment answer moved left = (answer ≡ 56) × (moved ≡ false) × (left ≡ None)
PassedBy (Some k) moment answer moved left =
    ((answer ≡ 0) × (moved ≡ moves k (at_time moment k)) × (left ≡ Some (at_time moment k)))
    ⊎ ((is_due (first_end k.table.rps) moment ≡ true) × (answer ≡ 40) × (moved ≡ false) × (left ≡ Some k))

-- The router took the ranges of a listener with others configured; where that is done the listener has these.
abbrev pub RangesSet : Known → Option ShownSession → ℕ → ℕ → List RpRange → ℕ → Known → Option ShownSession → Type 0
RangesSet k old draw limit static answer after left =
    Copied old (given_event draw (EventKind.Rps (given (configured limit static k)))) answer left
    × (after ≡ (if answer == 0 then configured limit static k else k))

abbrev pub RangesSetAt : Option Known → Option ShownSession → ℕ → ℕ → List RpRange → ℕ → Option Known → Option ShownSession → Type 0
RangesSetAt None old draw limit static answer after left = (answer ≡ 56) × (after ≡ None) × (left ≡ old)
RangesSetAt (Some k) old draw limit static answer (Some after) left = RangesSet k old draw limit static answer after left
RangesSetAt (Some k) old draw limit static answer None left = ⊥

-- A number that is no limit is refused.
abbrev pub RangesSetBy : Option Known → Option ShownSession → ℕ → Option ℕ → List RpRange → ℕ → Option Known → Option ShownSession → Type 0
RangesSetBy k old draw None static answer after left = (answer ≡ 54) × (after ≡ k) × (left ≡ old)
RangesSetBy k old draw (Some limit) static answer after left = RangesSetAt k old draw limit static answer after left

-- ---- what an RP is chosen for

-- by its number
abbrev pub choice_of : ℕ → Option Choice
choice_of number =
    if number == 0 then Some Choice.Range else (if number == 1 then Some Choice.Group else None)

-- the number of what an RP is chosen for; without a listener it is for a range
abbrev pub choice_number : Choice → ℕ
choice_number Choice.Range = 0
choice_number Choice.Group = 1

abbrev pub choice_in : Option Known → ℕ
choice_in listener = option_map_or (λ (k : Known). choice_number k.choice) listener 0

-- A number that is no choice is refused; else the listener has RPs chosen for it.
abbrev pub Chosen : Option Known → Option Choice → ℕ → Option Known → Type 0
Chosen k None answer left = (answer ≡ 54) × (left ≡ k)
Chosen None (Some choice) answer left = (answer ≡ 56) × (left ≡ None)
Chosen (Some k) (Some choice) answer left = (answer ≡ 0) × (left ≡ Some (choosing choice k))

-- ---- what is known

abbrev pub static_in : Option Known → List RpRange
static_in listener = option_map_or (λ (k : Known). k.static) listener []

-- A range, as C reads it.
abbrev pub told_range : RpRange → GivenRange
told_range r = record { prefix = r.prefix.address.bits; length = r.prefix.length; rp = r.rp.bits }

abbrev pub elected_in : Option Known → Option Elected
elected_in listener = option_and_then (λ (k : Known). k.elected) listener

abbrev pub rps_in : Option Known → List Learned
rps_in listener = option_map_or (λ (k : Known). k.table.rps) listener []

abbrev pub parts_in : Option Known → List Part
parts_in listener = option_map_or (λ (k : Known). k.table.parts) listener []

-- The elected BSR, as C reads it.
abbrev pub elected_of : Elected → CElected
elected_of e = record { bsr = e.bsr.bits; priority = e.priority; end = e.end }

-- an RP in force, and whether the router is given it
abbrev pub row_of_learned : Bool → Learned → LearnedRow
row_of_learned is_given l = record {
  prefix = l.prefix.address.bits;
  length = l.prefix.length;
  rp = l.rp.bits;
  priority = l.priority;
  hash_length = l.hash_length;
  is_given = is_given;
  end = l.end;
}

-- An RP in force of what is known, as C reads it.
abbrev pub learned_row_of : Known → Learned → LearnedRow
learned_row_of k l = row_of_learned (gives k l) l

abbrev pub learned_row_in : Option Known → Learned → LearnedRow
learned_row_in listener l = option_map_or (λ (k : Known). learned_row_of k l) listener (row_of_learned false l)

-- A part of a message, as C reads it.
abbrev pub part_row_of : Part → PartRow
part_row_of p = record {
  prefix = p.prefix.address.bits;
  length = p.prefix.length;
  rp = p.rp.address.bits;
  priority = p.rp.priority;
  holdtime = p.rp.holdtime;
  bsr = p.bsr.bits;
  tag = p.tag;
  end = p.until;
}
