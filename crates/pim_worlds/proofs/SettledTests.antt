-- The test of a settled state decides it.
use Rattle.std.{proofs.Common.{◌≡◌, ◌&&◌, Bool, true, false, refl}}
use Rattle.law_settled.{specs.{Laws.ends_after, Ready.{IsOrdered, IsSettled}}}
use Rattle.pim_model.{specs.State.State}
use Rattle.law_states.{specs.Resting.{all_pass, firing_tests, tidy_tests}, proofs.RestTests.{firable_is, firable_so, tidy_is, tidy_so}}
use Rattle.pim_worlds.{specs.Settled.{SettledIsDecided, is_settled}}

first : (a b : Bool) → (a && b) ≡ true → a ≡ true
first true b e = refl
first false b e = cc

second : (a b : Bool) → (a && b) ≡ true → b ≡ true
second true b e = e
second false b e = cc

both : (a b : Bool) → a ≡ true → b ≡ true → (a && b) ≡ true
both true b f g = g
both false b f g = cc

settled_is : (s : State) → IsOrdered s → is_settled s ≡ true → IsSettled s
unfolding is_settled
settled_is s ordered e =
    let later = second (all_pass (firing_tests s)) (ends_after s.present s && all_pass (tidy_tests s)) e in
    record {
      ordered = ordered;
      ahead = record {
        firable = firable_is s (first (all_pass (firing_tests s)) (ends_after s.present s && all_pass (tidy_tests s)) e);
        present = refl;
        ends = first (ends_after s.present s) (all_pass (tidy_tests s)) later;
      };
      tidy = tidy_is s (second (ends_after s.present s) (all_pass (tidy_tests s)) later);
    }

settled_so : (s : State) → IsSettled s → is_settled s ≡ true
unfolding is_settled
settled_so s h =
    both (all_pass (firing_tests s)) (ends_after s.present s && all_pass (tidy_tests s)) (firable_so s h.ahead.firable)
    (both (ends_after s.present s) (all_pass (tidy_tests s)) h.ahead.ends (tidy_so s h.tidy))

pub settled_is_decided : SettledIsDecided
settled_is_decided s ordered = (settled_is s ordered, settled_so s)
