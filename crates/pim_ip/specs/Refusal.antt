-- The numbers by which refusals are known in scenarios and printed lines.
use Rattle.std.{specs.Prelude.ℕ}
use Rattle.pim_ip.{specs.declared.refusal.Refusal.Refusal}

-- the number under which a refusal is printed and told to C
abbrev pub refusal_number : Refusal → ℕ
refusal_number Refusal.Short = 1
refusal_number Refusal.BadVersion = 2
refusal_number Refusal.BadChecksum = 3
refusal_number Refusal.BadLength = 4
refusal_number Refusal.BadAddress = 5
refusal_number Refusal.NotMulticast = 6
refusal_number Refusal.OldVersion = 7
refusal_number Refusal.UnknownType = 8
refusal_number Refusal.Fragment = 9
refusal_number Refusal.MomentBack = 20
refusal_number Refusal.MomentFar = 21
refusal_number Refusal.NoInterface = 22
refusal_number Refusal.InterfaceDown = 23
refusal_number Refusal.Full = 24
refusal_number Refusal.BadRoutes = 25
refusal_number Refusal.BadRps = 26
refusal_number Refusal.BadMove = 27
refusal_number Refusal.InterfaceCount = 30
refusal_number Refusal.InterfaceAddress = 31
refusal_number Refusal.InterfaceLength = 32
refusal_number Refusal.Overlap = 33
refusal_number Refusal.BadLimit = 34
refusal_number Refusal.BadQuerier = 35
refusal_number Refusal.BadDelay = 36
refusal_number Refusal.ConfiguredRoutes = 37
refusal_number Refusal.ConfiguredRps = 38
refusal_number Refusal.BadScenario = 39
refusal_number Refusal.OwnAddresses = 70
refusal_number Refusal.PlacesDontFit = 73
refusal_number Refusal.BadCandidates = 76
