-- The one text of what a listener knows: numbers in network order, a flag before what needn't be there, a count before a
-- list.
use Rattle.std.{specs.Prelude.{ℕ, List}}
use Rattle.pim_types.{specs.declared.config.RpRange.RpRange}
use Rattle.pim_saved.{specs.{Crc.crc32, Fits.{FitsAddress, FitsByte, FitsHalf, FitsList, FitsMoment, FitsOption, FitsPrefix, FitsRange}, Text.{◌then◌, address_text, byte_text, flag_text, half_text, list_text, moment_text, option_text, prefix_text, range_text, word_text}}}
use Rattle.pim_bootstrap.{specs.declared.bootstrap.CandidateRp.CandidateRp}
use Rattle.pim_bsr.{specs.{Table.{Known, Table}, declared.{choice.Choice.Choice, learned.{Elected.Elected, Learned.Learned, Part.Part}, saved.Election.Election}}}

-- ---- rows

unfoldable pub learned_text : Learned → List ℕ
learned_text l =
    prefix_text l.prefix then byte_text l.hash_length then address_text l.rp then byte_text l.priority then moment_text l.end

unfoldable pub candidate_text : CandidateRp → List ℕ
candidate_text c = address_text c.address then half_text c.holdtime then byte_text c.priority

unfoldable pub part_text : Part → List ℕ
part_text q =
    prefix_text q.prefix then candidate_text q.rp then address_text q.bsr then half_text q.tag then moment_text q.until

unfoldable pub elected_text : Elected → List ℕ
elected_text e = address_text e.bsr then byte_text e.priority then moment_text e.end

unfoldable pub election_text : Election → List ℕ
election_text e = option_text elected_text e.elected then flag_text e.heard then moment_text e.refresh_end

-- ---- the parts of what is known, in the order of the text

-- the configured ranges and the limit
abbrev pub ConfiguredParts : Type 0
ConfiguredParts = List RpRange × ℕ

-- what messages said
abbrev pub SaidParts : Type 0
SaidParts = Election × Table

-- the last message, and until when it is repeated
abbrev pub LastParts : Type 0
LastParts = List ℕ × ℕ

abbrev pub configured_of : Known → ConfiguredParts
configured_of k = (k.static, k.limit)

abbrev pub election_of : Known → Election
election_of k = record { elected = k.elected; heard = k.heard; refresh_end = k.refresh_end }

abbrev pub said_of : Known → SaidParts
said_of k = (election_of k, k.table)

abbrev pub last_of : Known → LastParts
last_of k = (k.last, k.last_end)

unfoldable pub configured_text : ConfiguredParts → List ℕ
configured_text p = list_text range_text p.0 then moment_text p.1

unfoldable pub table_text : Table → List ℕ
table_text t = list_text learned_text t.rps then list_text part_text t.parts

unfoldable pub said_text : SaidParts → List ℕ
said_text p = election_text p.0 then table_text p.1

unfoldable pub last_text : LastParts → List ℕ
last_text p = list_text byte_text p.0 then moment_text p.1

-- ---- what is known

-- "VIQB"
abbrev pub tag : ℕ
tag = 0x5649_5142

-- the version: where RPs are chosen for each group another, which tells that
abbrev pub version_of : Choice → ℕ
version_of Choice.Range = 1
version_of Choice.Group = 2

unfoldable pub body_text : Known → List ℕ
body_text k = configured_text (configured_of k) then said_text (said_of k) then last_text (last_of k)

-- all bytes but for their sum
unfoldable pub front_text : Known → List ℕ
front_text k = word_text tag then half_text (version_of k.choice) then body_text k

-- The bytes of what a listener knows: the last four are the CRC-32 of those before them.
unfoldable pub known_text : Known → List ℕ
known_text k = front_text k then word_text (crc32 (front_text k))

-- ---- whether each field fits its width

abbrev pub FitsLearned : Learned → Type 0
FitsLearned l =
    FitsPrefix l.prefix × (FitsByte l.hash_length × (FitsAddress l.rp × (FitsByte l.priority × FitsMoment l.end)))

abbrev pub FitsCandidate : CandidateRp → Type 0
FitsCandidate c = FitsAddress c.address × (FitsHalf c.holdtime × FitsByte c.priority)

abbrev pub FitsPart : Part → Type 0
FitsPart q =
    FitsPrefix q.prefix × (FitsCandidate q.rp × (FitsAddress q.bsr × (FitsHalf q.tag × FitsMoment q.until)))

abbrev pub FitsElected : Elected → Type 0
FitsElected e = FitsAddress e.bsr × (FitsByte e.priority × FitsMoment e.end)

abbrev pub FitsElection : Election → Type 0
FitsElection e = FitsOption FitsElected e.elected × (Unit {0} × FitsMoment e.refresh_end)

abbrev pub FitsConfigured : ConfiguredParts → Type 0
FitsConfigured p = FitsList FitsRange p.0 × FitsMoment p.1

abbrev pub FitsTable : Table → Type 0
FitsTable t = FitsList FitsLearned t.rps × FitsList FitsPart t.parts

abbrev pub FitsSaid : SaidParts → Type 0
FitsSaid p = FitsElection p.0 × FitsTable p.1

abbrev pub FitsLast : LastParts → Type 0
FitsLast p = FitsList FitsByte p.0 × FitsMoment p.1

abbrev pub FitsKnown : Known → Type 0
FitsKnown k = FitsConfigured (configured_of k) × (FitsSaid (said_of k) × FitsLast (last_of k))
