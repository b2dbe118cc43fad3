-- What a router shows: its state, how many copies its last event sent, what that event cost, and the sources whose rows
-- of the forwarding cache it changed.
use Rattle.std.{specs.Prelude.{List, None, Option, Some, [], fold, ℕ}}
use Rattle.pim_types.{specs.declared.{event.Event.Event, fact.Key.Key, outcome.Outcome.Outcome}}
use Rattle.pim_model.{specs.{State.State, Step.{Answered, run, state_after}}}
use Rattle.pim_state.{specs.declared.touched.Touched.Touched}
use Rattle.pim_event.{specs.Replacing.{Disturbance, NoneReplaced}}

pub record Standing : Type 0 where
  pub state : State
  pub copies : ℕ

-- What a router shows: how it stands (none once it has failed), the trie nodes that its last event visited, the rows of
-- the forwarding cache that it evaluated, put in and took out, the sources that it named, and what it disturbed.
pub record Shown : Type 0 where
  pub standing : Option Standing
  pub probes : ℕ
  pub touched : ℕ
  pub changed : List Key
  pub disturbed : Disturbance

-- What a router shows once it has failed for want of memory.
abbrev pub nothing_shown : Shown
nothing_shown = record {
  standing = None;
  probes = 0;
  touched = 0;
  changed = [];
  disturbed = record { touched = Touched.All; replaced = NoneReplaced };
}

-- How a router stands before its first event.
abbrev pub beginning : State → Standing
beginning s = record { state = s; copies = 0 }

abbrev pub begun : State → Shown
begun s = record {
  standing = Some (beginning s);
  probes = 0;
  touched = 0;
  changed = [];
  disturbed = record { touched = Touched.Keys []; replaced = NoneReplaced };
}

-- How a router stands after an event.
abbrev pub standing : Answered → Standing
standing a = record { state = a.state; copies = a.copies }

-- What a router shows in another state, with all else unchanged.
abbrev pub with_state : Shown → Standing → State → Shown
with_state shown r s = record shown { standing = Some (record r { state = s }) }

-- The copies of the last of these outcomes; if there are none, the copies of the event before.
unfoldable pub last_copies : ℕ → List Outcome → ℕ
last_copies before outcomes = fold (λ n (o : Outcome). o.copies) before outcomes

-- How a router stands after a run.
abbrev pub standing_after : Standing → List Event → Standing
standing_after r events = record {
  state = state_after r.state events;
  copies = last_copies r.copies (run r.state events);
}
