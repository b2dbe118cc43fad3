use Rattle.std.{proofs.Common.◌∙◌}
use Rattle.pim_worlds.{proofs.Tests.{five_tests, fourth_fails, none_there}}
use Rattle.pim_worlds.proofs.world.world_of_rows.Goals as goal

pub returns-in_default-4-clause-none : goal.returns-in_default-4-clause-none
returns-in_default-4-clause-none c =
    fourth_fails _ _ _ _ _
    (rw (c.in-Some.is, c.deref.ensures.value, c.deref-2.ensures.value, c.deref-3.ensures.value) at c.in_ok-interfaces.ensures.none)
    (rw (c.in-Some-2.is, rw (c.in-Some.is, c.deref.ensures.value, c.deref-2.ensures.value) at c.in_ok-interfaces.ensures.shown, c.deref-4.ensures.value, c.deref-5.ensures.value, c.deref-6.ensures.value)
    at c.in_ok-mrib.ensures.none)
    (rw (c.in-Some-3.is, c.deref-8.ensures.value) at c.in_ok-membership.ensures.none)
    (none_there c.in_ok-store.field-0 c.in_default-4.not-Some ∙ c.in_ok-store.ensures.none)

pub returns-clause-none : goal.returns-clause-none
returns-clause-none c =
    five_tests _ _ _ _ _ _
    (rw (c.in-Some.is, c.deref.ensures.value, c.deref-2.ensures.value, c.deref-3.ensures.value) at c.in_ok-interfaces.ensures.none)
    (rw (c.in-Some-2.is, rw (c.in-Some.is, c.deref.ensures.value, c.deref-2.ensures.value) at c.in_ok-interfaces.ensures.shown, c.deref-4.ensures.value, c.deref-5.ensures.value, c.deref-6.ensures.value)
    at c.in_ok-mrib.ensures.none)
    (rw (c.in-Some-3.is, c.deref-8.ensures.value) at c.in_ok-membership.ensures.none)
    (rw c.in-Some-4.is at c.in_ok-store.ensures.none)
    c.of_parts.ensures.none
