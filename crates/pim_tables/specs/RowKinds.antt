-- The kinds of a row's ends differ.
use Rattle.std.{proofs.Common.{◌≢◌, Option, Some, None}}
use Rattle.pim_types.{specs.declared.timer.TimerKind.TimerKind}

pub no_second : (kind : TimerKind) → let none : Option TimerKind = None in none ≢ Some kind
no_second kind e = cc

pub pending_not_expiry : Some TimerKind.DownstreamExpiry ≢ Some TimerKind.PrunePending
pending_not_expiry e = cc

pub general_not_other : Some TimerKind.GeneralQuery ≢ Some TimerKind.OtherQuerier
general_not_other e = cc
