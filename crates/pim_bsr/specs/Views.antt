-- What was read, without where it lies in memory.
use Rattle.std.{specs.Prelude.{◌≡◌, ℕ, ◌+◌, ◌^◌, ◌<◌, List, length, Ok}}
use Rattle.pim_bootstrap.{specs.Bootstraps.{Bootstrap, bootstrap_reading}}
use Rattle.pim_bsr.{specs.{Reading.{KnownParts, known_of}, Table.Known, declared.reading.SavedKnown.SavedKnown}}

abbrev pub parts_view : SavedKnown → KnownParts
parts_view x =
    ((x.configured.ranges.items, x.configured.limit), ((x.learned.election, x.learned.table), (x.last.bytes.items, x.last.end)))

abbrev pub known_view : SavedKnown → Known
known_view x = known_of x.choice (parts_view x)

-- the bytes fit into a packet, and are read as the message
pub record IsArrived (bytes : List ℕ) (m : Bootstrap) : Type 0 where
  pub fits : 20 + length bytes < 2 ^ 16
  pub read : bootstrap_reading bytes ≡ Ok m
