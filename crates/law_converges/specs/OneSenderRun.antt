-- A packet comes to the farther of two routers before it lost the assert, and after; computed by the kernel.
use Rattle.std.{specs.Prelude.{Some, [], ◌++◌, ◌∷◌, ◌≡◌}}
use Rattle.pim_model.{specs.Network.{At, Move, Sent, moved}}
use Rattle.pim_runs.{specs.{Base.group, Packets.packet, Words.{frame, hex}}}
use Rattle.law_streams.{specs.InTimeJoins.Always}
use Rattle.law_converges.{specs.{LinkAssertsRun.{beside, better}, LinkLosers.{AssertsBy, AssertsComeInTime, LosesBeyond}, LinkLosersRun.{has_heard, late_assert, later_bound, started_later, two_of_late}, OneSender.{IsOffTree, IsSilent}}}

-- it comes from the RP's side
abbrev pub data_comes : Move
data_comes = At 1 (frame 1 packet)

-- with its TTL one lower
abbrev pub copied_there : Sent
copied_there = record {
  link = Some 1;
  bytes = hex "45 00 00 1c 00 00 00 00 3f 11 8c ca 0a 00 03 05 e1 01 01 01" ++ hex "00 01 00 02 00 03 00 04";
}

-- The farther one sends it on the link until it has lost, and not then.
abbrev pub FartherSendsNone : Type 0
FartherSendsNone =
    (((moved two_of_late data_comes).1).frames ≡ copied_there ∷ [])
    × (((moved has_heard data_comes).1).frames ≡ has_heard.frames)
    × AssertsComeInTime group 0 better late_assert started_later beside has_heard (data_comes ∷ [])
    × AssertsBy group 0 better late_assert later_bound started_later beside has_heard
    × LosesBeyond group 0 better later_bound started_later beside has_heard
    × Always (IsOffTree group 0 better beside) has_heard (data_comes ∷ [])
    × Always (IsSilent group 0 beside) has_heard (data_comes ∷ [])
