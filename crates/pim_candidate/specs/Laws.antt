-- What a network may count on of candidate BSRs.
use Rattle.std.{specs.Prelude.{◌≡◌, ℕ, true, false, ◌==◌, not}}
use Rattle.pim_candidate.{specs.{Election.{does, heard, is_elected}, declared.election.{Action.Action, Bsr.Bsr, Election.Election, Role.Role}}}

-- A message that says the router's own address as its BSR changes nothing, and isn't sent on.
abbrev pub OwnIsNotHeard : Type 0
OwnIsNotHeard =
    (e : Election) (b : Bsr) (now : ℕ) → (b.address.bits == e.own.address.bits) ≡ true → heard e b now ≡ does Action.Nothing e

-- Of two elected BSRs that hear each other, one stays it.
abbrev pub OneOfTwoStays : Type 0
OneOfTwoStays =
    (e f : Election) (now later : ℕ) → (e.own.address.bits == f.own.address.bits) ≡ false → e.role ≡ Role.Elected → f.role ≡ Role.Elected
    → is_elected (heard e f.own now).left.role ≡ not (is_elected (heard f e.own later).left.role)
