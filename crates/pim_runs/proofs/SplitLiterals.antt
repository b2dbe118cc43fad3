-- One name under which the definitions of a split data plane compute, with those of the machine.
use Rattle.std.{specs.Prelude.⊤}
use Rattle.pim_runs.{proofs.OnLiterals.machine_on_literals}
use Rattle.law_events.{specs.{Named.{event_named, is_source_named, is_same_beside, is_same_sight, is_same_star, named, named_by, named_of, same_set}, Decided.plainly_taken, Kept.is_listed}}
use Rattle.law_plane.{specs.{Offload.{cache_entry, handling, handling_unknown, offload, unknown_of}, Split.{by_core, handled_by, noted, passes_quietly, replayed, split_ran, split_step, time_goes, with_notice}, ToldLaws.{told_anew, told_at_end}}}

unfoldable pub split_on_literals : ⊤
unfolding machine_on_literals event_named is_source_named is_same_beside is_same_sight is_same_star named named_by named_of same_set plainly_taken is_listed cache_entry handling handling_unknown offload unknown_of by_core handled_by noted passes_quietly replayed split_ran split_step time_goes with_notice told_anew told_at_end
split_on_literals = tt
