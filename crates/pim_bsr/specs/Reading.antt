-- Bytes read as what a listener knew, and which of them a listener goes on from.
use Rattle.std.{specs.{List.list_all, Prelude.{ℕ, Bool, true, false, ◌&&◌, ◌==◌, nat_le, if◌then◌else◌, List, [], ◌∷◌, map, Option, Result, Ok, Err}}}
use Rattle.pim_ip.{specs.declared.addr.{Addr.Addr, Prefix.Prefix}}
use Rattle.pim_types.{specs.declared.config.RpRange.RpRange}
use Rattle.pim_model.{specs.Limits.is_rp_range}
use Rattle.pim_saved.{specs.{Reading.{◌>>=◌, Reader, address_at, byte_at, flag_at, half_at, in_turn, list_at, made, moment_at, option_at, prefix_at, range_at, undamaged, word_at}, declared.refusal.SavedRefusal.SavedRefusal}}
use Rattle.pim_bootstrap.{specs.declared.bootstrap.CandidateRp.CandidateRp}
use Rattle.pim_bsr.{specs.{Sound.{are_apart, has_mask}, Table.{Known, Table, kept_count, part_range, range_of, room}, Text.{ConfiguredParts, LastParts, SaidParts, tag, version_of}, declared.{choice.Choice.Choice, learned.{Elected.Elected, Learned.Learned, Part.Part}, refusal.ListenerRefusal.ListenerRefusal, saved.Election.Election}}}

-- ---- rows

unfoldable pub learned_at : Reader Learned
learned_at bytes =
    made
    (λ (p : Prefix × (ℕ × (Addr × (ℕ × ℕ)))). record {
      prefix = p.0;
      hash_length = p.1.0;
      rp = p.1.1.0;
      priority = p.1.1.1.0;
      end = p.1.1.1.1;
    })
    (in_turn prefix_at (in_turn byte_at (in_turn address_at (in_turn byte_at moment_at))))
    bytes

unfoldable pub candidate_at : Reader CandidateRp
candidate_at bytes =
    made
    (λ (p : Addr × (ℕ × ℕ)). record { address = p.0; holdtime = p.1.0; priority = p.1.1 })
    (in_turn address_at (in_turn half_at byte_at))
    bytes

unfoldable pub part_at : Reader Part
part_at bytes =
    made
    (λ (p : Prefix × (CandidateRp × (Addr × (ℕ × ℕ)))). record {
      prefix = p.0;
      rp = p.1.0;
      bsr = p.1.1.0;
      tag = p.1.1.1.0;
      until = p.1.1.1.1;
    })
    (in_turn prefix_at (in_turn candidate_at (in_turn address_at (in_turn half_at moment_at))))
    bytes

unfoldable pub elected_at : Reader Elected
elected_at bytes =
    made
    (λ (p : Addr × (ℕ × ℕ)). record { bsr = p.0; priority = p.1.0; end = p.1.1 })
    (in_turn address_at (in_turn byte_at moment_at))
    bytes

unfoldable pub election_at : Reader Election
election_at bytes =
    made
    (λ (p : Option Elected × (Bool × ℕ)). record { elected = p.0; heard = p.1.0; refresh_end = p.1.1 })
    (in_turn (option_at elected_at) (in_turn flag_at moment_at))
    bytes

-- ---- what is known

unfoldable pub configured_at : Reader ConfiguredParts
configured_at bytes = in_turn (list_at range_at) moment_at bytes

unfoldable pub table_at : Reader Table
table_at bytes =
    made (λ (p : List Learned × List Part). record { rps = p.0; parts = p.1 }) (in_turn (list_at learned_at) (list_at part_at)) bytes

unfoldable pub said_at : Reader SaidParts
said_at bytes = in_turn election_at table_at bytes

unfoldable pub last_at : Reader LastParts
last_at bytes = in_turn (list_at byte_at) moment_at bytes

abbrev pub KnownParts : Type 0
KnownParts = ConfiguredParts × (SaidParts × LastParts)

abbrev pub known_of : Choice → KnownParts → Known
known_of choice p = record {
  static = p.0.0;
  limit = p.0.1;
  choice = choice;
  elected = p.1.0.0.elected;
  heard = p.1.0.0.heard;
  refresh_end = p.1.0.0.refresh_end;
  table = p.1.0.1;
  last = p.1.1.0;
  last_end = p.1.1.1;
}

unfoldable pub parts_at : Reader KnownParts
parts_at bytes = in_turn configured_at (in_turn said_at last_at) bytes

-- a number that has to be this one
abbrev pub same_or : SavedRefusal → ℕ → ℕ × List ℕ → Result (ℕ × List ℕ) SavedRefusal
same_or refusal n x = if x.0 == n then Ok x else Err refusal

abbrev pub tag_at : Reader ℕ
tag_at bytes = word_at bytes >>= λ t. same_or SavedRefusal.NotOurs tag t

-- what RPs are chosen for, by the version
abbrev pub choice_of : ℕ × List ℕ → Result (Choice × List ℕ) SavedRefusal
choice_of v =
    if v.0 == version_of Choice.Range then Ok (Choice.Range, v.1)
    else (if v.0 == version_of Choice.Group then Ok (Choice.Group, v.1) else Err SavedRefusal.OtherVersion)

abbrev pub version_at : Reader Choice
version_at bytes = half_at bytes >>= λ v. choice_of v

-- no bytes are left over
abbrev pub at_end : Known → List ℕ → Result Known SavedRefusal
at_end k [] = Ok k
at_end k (b ∷ rest) = Err SavedRefusal.LeftOver

-- The tag and the version come first, so that bytes of another version are told as such. Then the sum of all bytes is
-- compared, before anything else is read.
unfoldable pub known_reading : List ℕ → Result Known SavedRefusal
known_reading bytes =
    tag_at bytes >>= λ t. version_at t.1 >>= λ v. undamaged bytes
    >>= λ u. in_turn (made (known_of v.0) parts_at) word_at v.1 >>= λ x. at_end x.0.0 x.1

-- ---- tests

-- ranges that a router takes, none twice
abbrev pub are_sound : List RpRange → Bool
are_sound rs = list_all is_rp_range rs && are_apart rs

-- There is room for the RPs that are kept, and each is one that a message can say.
unfoldable pub is_sound : Known → Bool
is_sound k =
    nat_le (kept_count k.table) (room k)
    && (list_all has_mask k.table.rps && (are_sound (map range_of k.table.rps) && are_sound (map part_range k.table.parts)))

abbrev pub restored_if : Bool → Known → Result Known ListenerRefusal
restored_if true k = Ok k
restored_if false k = Err ListenerRefusal.RpsNotHeld

abbrev pub restored_of : Result Known SavedRefusal → Result Known ListenerRefusal
restored_of (Ok k) = restored_if (is_sound k) k
restored_of (Err refusal) = Err (ListenerRefusal.Bytes refusal)

-- What a listener knows that is made of bytes, or why none is.
unfoldable pub restored : List ℕ → Result Known ListenerRefusal
restored bytes = restored_of (known_reading bytes)
