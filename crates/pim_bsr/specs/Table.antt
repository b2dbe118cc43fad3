-- What a router knows by Bootstraps (RFC 5059, section 3.1): the elected BSR, and the RPs of ranges with their ends. Sections are those of RFC 5059.
use Rattle.std.{specs.{List.{list_all, list_any}, Prelude.{ℕ, Bool, false, true, ◌+◌, ◌-◌, ◌*◌, ◌==◌, ◌&&◌, ◌||◌, min, nat_le, nat_lt, not, if◌then◌else◌, List, [], ◌∷◌, ◌++◌, filter, fold, length, map, take, Option, Some, None}}}
use Rattle.pim_ip.{specs.{Addr.addr, declared.addr.Prefix.Prefix}}
use Rattle.pim_types.{specs.declared.config.{RpCandidate.RpCandidate, RpRange.RpRange}}
use Rattle.pim_model.specs.{Candidates.masked, Limits.{most_rps, same_prefix}}
use Rattle.pim_bootstrap.{specs.{declared.bootstrap.CandidateRp.CandidateRp, Bootstraps.{Bootstrap, BootstrapRange}}}
use Rattle.pim_bsr.{specs.{Choice.is_chosen, declared.{choice.Choice.Choice, learned.{Elected.Elected, Learned.Learned, Part.Part}}}}

-- The RPs in force, and those of messages whose fragments (4.1.1) haven't all come.
pub record Table : Type 0 where
  pub rps : List Learned
  pub parts : List Part

-- What the front knows, with the configured ranges, a limit on the RPs that are kept, parts too, and what an RP is
-- chosen for.
pub record Known : Type 0 where
  pub static : List RpRange
  pub limit : ℕ
  pub choice : Choice
  pub elected : Option Elected
  -- a Bootstrap was accepted since the start, and until when one with the No-Forward bit may be accepted (3.5.1)
  pub heard : Bool
  pub refresh_end : ℕ
  pub table : Table
  -- the last message that was accepted, and until when the same bytes are a repetition of it
  pub last : List ℕ
  pub last_end : ℕ

-- What is known before the first message, with a limit and configured ranges; until a timestamp one with the No-Forward bit
-- may be accepted. One RP is chosen for a whole range.
abbrev pub new_known : ℕ → List RpRange → ℕ → Known
new_known limit static refresh_end = record {
  static = static;
  limit = limit;
  choice = Choice.Range;
  elected = None;
  heard = false;
  refresh_end = refresh_end;
  table = record { rps = []; parts = [] };
  last = [];
  last_end = 0;
}

-- BS_Timeout (5), in ms
abbrev pub bs_timeout : ℕ
bs_timeout = 130000

-- ---- a range of a message

-- the prefix of a range; bits past its mask don't count
abbrev pub range_prefix : BootstrapRange → Prefix
range_prefix r = record { address = addr (masked r.length r.group); length = r.length }

-- the RP is of the range
abbrev pub has_prefix : Prefix → Learned → Bool
has_prefix p l = same_prefix p l.prefix

-- the part is of the range
abbrev pub is_part_of : Prefix → Part → Bool
is_part_of p q = same_prefix p q.prefix

-- what the fragments of a message have in common: its BSR and its fragment tag
pub record MessageId : Type 0 where
  pub bsr : ℕ
  pub tag : ℕ

abbrev pub message_id : ℕ → ℕ → MessageId
message_id bsr tag = record { bsr = bsr; tag = tag }

-- a part is of the range, and of the message
abbrev pub is_tagged : Prefix → MessageId → Part → Bool
is_tagged p id q = is_part_of p q && ((q.bsr.bits == id.bsr) && (q.tag == id.tag))

-- an RP of a range as a part of a message that came at a timestamp; here: it is forgotten where the others
-- haven't come within BS_Timeout
abbrev pub part_of : ℕ → MessageId → Prefix → CandidateRp → Part
part_of now id p c = record { prefix = p; rp = c; bsr = addr id.bsr; tag = id.tag; until = now + bs_timeout }

-- a part in the place of that of the same RP
abbrev pub with_part : List Part → Part → List Part
with_part parts q = filter (λ (old : Part). not (old.rp.address.bits == q.rp.address.bits)) parts ++ (q ∷ [])

-- The parts of a range after a fragment: those of its message that came before, and the fragment's in the places of the
-- same RPs.
unfoldable pub parts_after : ℕ → MessageId → List Part → BootstrapRange → List Part
parts_after now id parts r =
    fold with_part (filter (is_tagged (range_prefix r) id) parts) (map (part_of now id (range_prefix r)) r.rps)

-- ---- the table after a message

-- the RPs of other ranges
abbrev pub without : Prefix → List Learned → List Learned
without p rps = filter (λ (l : Learned). not (has_prefix p l)) rps

-- the parts of other ranges
abbrev pub without_parts : Prefix → List Part → List Part
without_parts p parts = filter (λ (q : Part). not (is_part_of p q)) parts

-- a part that doesn't take its RP away
abbrev pub has_holdtime : Part → Bool
has_holdtime q = not (q.rp.holdtime == 0)

-- An RP from a timestamp on, with the message's hash mask: the Group-to-RP mapping Expiry Timer (3.1.5) runs for its
-- holdtime.
abbrev pub learned_of : ℕ → ℕ → Part → Learned
learned_of now hash_length q = record {
  prefix = q.prefix;
  hash_length = hash_length;
  rp = q.rp.address;
  priority = q.rp.priority;
  end = now + 1000 * q.rp.holdtime;
}

-- all parts of a range have come: they are in force in the place of the range's RPs; those of holdtime 0 aren't
abbrev pub completed : ℕ → ℕ → Prefix → Table → List Part → Table
completed now hash_length p t parts = record {
  rps = without p t.rps ++ map (learned_of now hash_length) (filter has_holdtime parts);
  parts = without_parts p t.parts;
}

-- other parts of a range haven't come: its RPs stay in force
abbrev pub waiting : Prefix → Table → List Part → Table
waiting p t parts = record { rps = t.rps; parts = without_parts p t.parts ++ parts }

-- no RPs of a range are left
abbrev pub emptied : Prefix → Table → Table
emptied p t = record { rps = without p t.rps; parts = without_parts p t.parts }

-- the table with the parts of a range, of which as many are to come
abbrev pub with_parts : ℕ → ℕ → Prefix → ℕ → Table → List Part → Table
with_parts now hash_length p count t parts =
    if nat_le count (length parts) then completed now hash_length p t parts else waiting p t parts

-- The table after a range of a message. A range for BIDIR (B) isn't taken; one without RPs goes.
unfoldable pub with_range : ℕ → MessageId → ℕ → Table → BootstrapRange → Table
with_range now id hash_length t r =
    if r.bidir then t
    else (if r.rp_count == 0 then emptied (range_prefix r) t
    else with_parts now hash_length (range_prefix r) r.rp_count t (parts_after now id t.parts r))

-- the table after the ranges of a message
unfoldable pub with_ranges : ℕ → MessageId → ℕ → Table → List BootstrapRange → Table
with_ranges now id hash_length t ranges = fold (with_range now id hash_length) t ranges

-- an RP with a hash mask of so many bits
abbrev pub with_mask : ℕ → Learned → Learned
with_mask hash_length l = record l { hash_length = hash_length }

abbrev pub with_masks : ℕ → Table → Table
with_masks hash_length t = record t { rps = map (with_mask hash_length) t.rps }

-- The table in which RPs have the hash mask of a message: those of all ranges do, also of those that it doesn't name (3.1.5).
-- A message without ranges changes nothing.
abbrev pub masks_after : ℕ → List BootstrapRange → Table → Table
masks_after hash_length [] t = t
masks_after hash_length (r ∷ rs) t = with_masks hash_length t

-- the table after a message
unfoldable pub with_message : ℕ → Table → Bootstrap → Table
with_message now t m =
    with_ranges now (message_id m.bsr m.tag) m.hash_length (masks_after m.hash_length m.ranges t) m.ranges

-- how many RPs are kept, in force and in parts
unfoldable pub kept_count : Table → ℕ
kept_count t = length t.rps + length t.parts

-- ---- which messages count

-- The message is preferred (3.1.4): it is of the elected BSR, or its BSR has more weight, by its priority and then its
-- address.
unfoldable pub is_preferred : Elected → Bootstrap → Bool
is_preferred e m =
    (e.bsr.bits == m.bsr) || nat_lt e.priority m.priority || ((e.priority == m.priority) && nat_lt e.bsr.bits m.bsr)

-- any BSR where none is elected (Accept Any), else a preferred one (Accept Preferred)
abbrev pub may_elect : Option Elected → Bootstrap → Bool
may_elect None m = true
may_elect (Some e) m = is_preferred e m

-- ---- what the router is given

-- a configured range has the RP's prefix
unfoldable pub is_configured : List RpRange → Learned → Bool
is_configured static l = list_any (λ (r : RpRange). same_prefix l.prefix r.prefix) static

-- the range of an RP in force, and of a part
abbrev pub range_of : Learned → RpRange
range_of l = record { prefix = l.prefix; rp = l.rp }

abbrev pub part_range : Part → RpRange
part_range q = record { prefix = q.prefix; rp = q.rp.address }

-- the RP is given as that of its whole range: the range isn't configured, and the RP is chosen
abbrev pub is_given : List RpRange → List Learned → Learned → Bool
is_given static rps l = not (is_configured static l) && is_chosen rps l

-- the configured ranges, and for each learned one that isn't configured the RP that is chosen of it
unfoldable pub given_of : List RpRange → List Learned → List RpRange
given_of static rps = static ++ map range_of (filter (is_given static rps) rps)

-- an RP in force as one of which the router itself chooses for each group (RFC 7761, 4.7.1)
abbrev pub candidate_of : Learned → RpCandidate
candidate_of l = record { prefix = l.prefix; rp = l.rp; priority = l.priority; hash_length = l.hash_length }

-- the RP ranges that the router is given: where it chooses for each group, the configured ones alone
abbrev pub ranges_by : Choice → List RpRange → List Learned → List RpRange
ranges_by Choice.Range static rps = given_of static rps
ranges_by Choice.Group static rps = static

-- the candidates that the router is given: where it chooses for each group, all RPs in force
abbrev pub candidates_by : Choice → List Learned → List RpCandidate
candidates_by Choice.Range rps = []
candidates_by Choice.Group rps = map candidate_of rps

abbrev pub given : Known → List RpRange
given k = ranges_by k.choice k.static k.table.rps

abbrev pub candidates : Known → List RpCandidate
candidates k = candidates_by k.choice k.table.rps

-- the router is given an RP in force, for its range or as a candidate
abbrev pub gives_by : Choice → List RpRange → List Learned → Learned → Bool
gives_by Choice.Range static rps l = is_given static rps l
gives_by Choice.Group static rps l = true

abbrev pub gives : Known → Learned → Bool
gives k l = gives_by k.choice k.static k.table.rps l

-- ---- whether the router is to be given something else

-- two ranges have the same prefix and the same RP
abbrev pub same_range : RpRange → RpRange → Bool
same_range a b = same_prefix a.prefix b.prefix && (a.rp.bits == b.rp.bits)

-- a list has the range
unfoldable pub has_range : List RpRange → RpRange → Bool
has_range ranges r = list_any (same_range r) ranges

-- two lists are as long, and the first has each range of the second
unfoldable pub same_ranges : List RpRange → List RpRange → Bool
same_ranges xs ys = (length xs == length ys) && list_all (has_range xs) ys

-- two RPs in force are the same candidate: they differ in their ends alone
abbrev pub same_candidate : Learned → Learned → Bool
same_candidate a b =
    has_prefix a.prefix b && (a.rp.bits == b.rp.bits) && (a.priority == b.priority) && (a.hash_length == b.hash_length)

-- a list has the candidate
unfoldable pub has_candidate : List Learned → Learned → Bool
has_candidate rps l = list_any (same_candidate l) rps

-- two lists are as long, and the first has each candidate of the second
unfoldable pub same_candidates : List Learned → List Learned → Bool
same_candidates xs ys = (length xs == length ys) && list_all (has_candidate xs) ys

-- other RPs in force are others for the router, beside configured ranges
abbrev pub moves_by : Choice → List RpRange → List Learned → List Learned → Bool
moves_by Choice.Range static before after = not (same_ranges (given_of static before) (given_of static after))
moves_by Choice.Group static before after = not (same_candidates before after)

-- The router is to be given other RPs. Only those in force differ.
abbrev pub moves : Known → Known → Bool
moves before after = moves_by after.choice after.static before.table.rps after.table.rps

-- ---- time, and another configuration

-- the timestamp is ahead of the RP's end
abbrev pub runs : ℕ → Learned → Bool
runs now l = nat_lt now l.end

-- the part is kept
abbrev pub waits : ℕ → Part → Bool
waits now q = nat_lt now q.until

-- the elected BSR, until its timer expires
abbrev pub elected_at : ℕ → Option Elected → Option Elected
elected_at now None = None
elected_at now (Some e) = if nat_lt now e.end then Some e else None

-- what is known when time has passed
unfoldable pub at_time : ℕ → Known → Known
at_time now k = record k {
  elected = elected_at now k.elected;
  table = record { rps = filter (runs now) k.table.rps; parts = filter (waits now) k.table.parts };
}

-- for how many RPs there is room beside the configured ranges
abbrev pub room_beside : ℕ → List RpRange → ℕ
room_beside limit static = min limit (most_rps - length static)

abbrev pub room : Known → ℕ
room k = room_beside k.limit k.static

-- the table without those for which there is no room: the newest go first, and parts before RPs in force
abbrev pub fitting : ℕ → Table → Table
fitting room t = record { rps = take room t.rps; parts = take (room - length (take room t.rps)) t.parts }

-- what is known with another limit and other configured ranges
unfoldable pub configured : ℕ → List RpRange → Known → Known
configured limit static k = record k {
  static = static;
  limit = limit;
  table = fitting (room_beside limit static) k.table;
}

-- what is known, where RPs are chosen for whole ranges, or for each group
abbrev pub choosing : Choice → Known → Known
choosing choice k = record k { choice = choice }
