-- Two candidate BSRs that hear each other: each message arrives after some delay, and is sent on to the other.
use Rattle.std.{specs.{Prelude.{ℕ, zero, suc, ◌+◌, Bool, true, false, min, nat_le, if◌then◌else◌, List, [], ◌∷◌, ◌++◌, filter}}}
use Rattle.pim_candidate.{specs.{Election.{expired, heard}, declared.election.{Action.Action, Bsr.Bsr, Election.Election, Outcome.Outcome}}}

-- a Bootstrap on its way to one of them
pub record Frame : Type 0 where
  pub due : ℕ
  pub to_second : Bool
  pub bsr : Bsr

-- both, and what is on its way, in the order of its arrival
pub record Pair : Type 0 where
  pub first : Election
  pub second : Election
  pub frames : List Frame

-- what one does when something happened to it is on its way to the other: its own message, or the one that it passes on
abbrev pub frames_of : ℕ → ℕ → Bool → Bsr → Bsr → Action → List Frame
frames_of delay now to_second own heard Action.Nothing = []
frames_of delay now to_second own heard Action.Take = record { due = now + delay; to_second = to_second; bsr = heard } ∷ []
frames_of delay now to_second own heard Action.PassOn = record { due = now + delay; to_second = to_second; bsr = heard } ∷ []
frames_of delay now to_second own heard Action.Originate = record { due = now + delay; to_second = to_second; bsr = own } ∷ []

abbrev pub after_first : ℕ → ℕ → Pair → List Frame → Bsr → Outcome → Pair
after_first delay now p frames heard o = record {
  first = o.left;
  second = p.second;
  frames = frames ++ frames_of delay now true p.first.own heard o.action;
}

abbrev pub after_second : ℕ → ℕ → Pair → List Frame → Bsr → Outcome → Pair
after_second delay now p frames heard o = record {
  first = p.first;
  second = o.left;
  frames = frames ++ frames_of delay now false p.second.own heard o.action;
}

-- a frame arrives
abbrev pub arrived : ℕ → Pair → Frame → List Frame → Pair
arrived delay p f frames =
    if f.to_second
    then after_second delay f.due p frames f.bsr (heard p.second f.bsr f.due)
    else after_first delay f.due p frames f.bsr (heard p.first f.bsr f.due)

-- the timer that ends first expires
abbrev pub timed : ℕ → Pair → Pair
timed delay p =
    if nat_le p.first.end p.second.end
    then after_first delay p.first.end p p.frames p.first.own (expired p.first)
    else after_second delay p.second.end p p.frames p.second.own (expired p.second)

-- what happens next: the first frame arrives, where no timer ends before that
abbrev pub next : ℕ → Pair → List Frame → Pair
next delay p [] = timed delay p
next delay p (f ∷ frames) =
    if nat_le f.due (min p.first.end p.second.end) then arrived delay p f frames else timed delay p

-- the next so many events
unfoldable pub after_events : ℕ → ℕ → Pair → Pair
after_events delay zero p = p
after_events delay (suc n) p = after_events delay n (next delay p p.frames)

-- the second one falls silent: nothing of it arrives, and it never wakes
abbrev pub without_second : ℕ → Pair → Pair
without_second last p = record {
  first = p.first;
  second = record p.second { end = last };
  frames = filter (λ f. f.to_second) p.frames;
}
