-- What is seen of a collection of timers.
use Rattle.std.{specs.{Prelude.ℕ, Coded.{Coded, coded_ℕ}}}
use Rattle.pim_types.{specs.Timers.timer_cmp}
use Rattle.std.specs.FinMap as map
use Rattle.pim_types.specs.contracts.timer.Timer as timer

-- When each timer that is set expires, in ms.
abbrev pub Contents : Type 0
Contents = map.FinMap timer_cmp ℕ

abbrev pub contents_code : Coded Contents
contents_code = map.code (timer.the_row).coded coded_ℕ
