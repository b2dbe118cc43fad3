-- What holds of all that is known, and that the router takes what it is given.
use Rattle.std.{specs.{List.{list_all, list_any}, Prelude.{Ok, ◌≡◌, ℕ, ◌≤◌, ◌&&◌, Bool, true, nat_le, not, List, [], ◌∷◌, map}}}
use Rattle.pim_types.{specs.declared.config.RpRange.RpRange}
use Rattle.pim_model.{specs.{Limits.{are_rps, is_rp_range}}}
use Rattle.pim_bootstrap.{specs.Bootstraps.{Bootstrap, bootstrap_reading}}
use Rattle.pim_bsr.{specs.{Hearing.{Around, heard, heard_frame}, Standing.own_taken, Table.{Known, Table, at_time, configured, given, kept_count, part_range, range_of, room_beside, same_range}, declared.learned.{Learned.Learned, Part.Part}}}

-- no RP of a range stands twice
unfoldable pub are_apart : List RpRange → Bool
are_apart [] = true
are_apart (r ∷ rs) = let later : Bool = are_apart rs in not (list_any (same_range r) rs) && later

-- a list of ranges with RPs, each of which the router takes
pub record AreSound (rs : List RpRange) : Type 0 where
  pub each : list_all is_rp_range rs ≡ true
  pub apart : are_apart rs ≡ true

-- a hash mask that an address can have
abbrev pub has_mask : Learned → Bool
has_mask l = nat_le l.hash_length 32

-- a table is sound, beside configured ranges and under a limit
pub record IsSoundTable (static : List RpRange) (limit : ℕ) (t : Table) : Type 0 where
  pub rps : AreSound (map range_of t.rps)
  pub parts : AreSound (map part_range t.parts)
  pub masks : list_all has_mask t.rps ≡ true
  pub kept : kept_count t ≤ room_beside limit static

-- what is known is sound
abbrev pub IsSound : Known → Type 0
IsSound k = IsSoundTable k.static k.limit k.table

-- The router refuses what it is given exactly where it would refuse the configured ranges alone.
abbrev pub GivenIsAccepted : Type 0
GivenIsAccepted = (k : Known) → IsSound k → are_rps (given k) ≡ are_rps k.static

-- what is known stays sound when time passes
abbrev pub SoundInTime : Type 0
SoundInTime = (k : Known) (now : ℕ) → IsSound k → IsSound (at_time now k)

-- what is known stays sound whatever message is read
abbrev pub SoundStays : Type 0
SoundStays =
    (s : Around) (k : Known) (i src : ℕ) (b : List ℕ) (m : Bootstrap) → bootstrap_reading b ≡ Ok m → IsSound k
    → IsSound (heard s k i src b m).known

-- what is known stays sound whatever packet comes
abbrev pub SoundWhateverComes : Type 0
SoundWhateverComes = (s : Around) (k : Known) (i : ℕ) (bytes : List ℕ) → IsSound k → IsSound (heard_frame s k i bytes).known

-- what is known stays sound whatever message of the router's own is taken
abbrev pub OwnSoundStays : Type 0
OwnSoundStays = (now : ℕ) (k : Known) (b : List ℕ) → IsSound k → IsSound (own_taken now k b)

-- what is known stays sound with another limit and other configured ranges
abbrev pub SoundConfigured : Type 0
SoundConfigured = (k : Known) (limit : ℕ) (static : List RpRange) → IsSound k → IsSound (configured limit static k)

-- priorities that are bytes, as those of messages are
pub record HavePriorities (t : Table) : Type 0 where
  pub rps : list_all (λ (l : Learned). nat_le l.priority 255) t.rps ≡ true
  pub parts : list_all (λ (q : Part). nat_le q.rp.priority 255) t.parts ≡ true
