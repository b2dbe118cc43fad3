use Rattle.std.{proofs.Common.{refl, ◌∙◌}}
use Rattle.pim_store.{specs.declared.marks.Mark.TheVariants.{Joined, Branched, Pruned, Lost, Won, HasOverrideTimer, HasSource, HasRegister}, proofs.Indexed.{row_lost, row_there, row_won}}
use Rattle.pim_store.proofs.store.Store.marks.Goals as goal

pub returns-clause-joined : goal.returns-clause-joined
returns-clause-joined c = rw (← c.self.view_is) (λ i.
    c.get.ensures.marks Joined i ∙ c.self.invariant.downstream.told Joined refl i _ _ ∙ row_there _ _)

pub returns-clause-branched : goal.returns-clause-branched
returns-clause-branched c = rw (← c.self.view_is) (λ i.
    c.get.ensures.marks Branched i ∙ c.self.invariant.downstream.told Branched refl i _ _ ∙ row_there _ _)

pub returns-clause-pruned : goal.returns-clause-pruned
returns-clause-pruned c = rw (← c.self.view_is) (λ i.
    c.get.ensures.marks Pruned i ∙ c.self.invariant.downstream.told Pruned refl i _ _)

pub returns-clause-lost : goal.returns-clause-lost
returns-clause-lost c = rw (← c.self.view_is) (λ i.
    c.get.ensures.marks Lost i ∙ c.self.invariant.asserts.told Lost refl i _ _ ∙ row_lost _)

pub returns-clause-won : goal.returns-clause-won
returns-clause-won c = rw (← c.self.view_is) (λ i.
    c.get.ensures.marks Won i ∙ c.self.invariant.asserts.told Won refl i _ _ ∙ row_won _)

pub returns-clause-join_timer : goal.returns-clause-join_timer
returns-clause-join_timer c = rw (← c.self.view_is)
    c.get.ensures.row

pub returns-clause-override_timer : goal.returns-clause-override_timer
returns-clause-override_timer c = rw (← c.self.view_is)
    (c.get.ensures.marks HasOverrideTimer 0 ∙ c.self.invariant.override_timers.told HasOverrideTimer refl 0 _ _
    ∙ row_there _ _)

pub returns-clause-source : goal.returns-clause-source
returns-clause-source c = rw (← c.self.view_is)
    (c.get.ensures.marks HasSource 0 ∙ c.self.invariant.sources.told HasSource refl 0 _ _ ∙ row_there _ _)

pub returns-clause-register : goal.returns-clause-register
returns-clause-register c = rw (← c.self.view_is)
    (c.get.ensures.marks HasRegister 0 ∙ c.self.invariant.registers.told HasRegister refl 0 _ _ ∙ row_there _ _)

pub returns-clause-tunnels : goal.returns-clause-tunnels
returns-clause-tunnels c = record {
  joined = c.get.ensures.bare Joined;
  branched = c.get.ensures.bare Branched;
  pruned = c.get.ensures.bare Pruned;
  lost = c.get.ensures.bare Lost;
  won = c.get.ensures.bare Won;
}
