-- What the tests of a state that was read say of its bytes.
use Rattle.std.{proofs.Common.{◌≡◌, ◌∙◌, ℕ, List, Ok, Err, ap, subst, sym}}
use Rattle.pim_model.{specs.State.State}
use Rattle.law_settled.{specs.Ready.IsOrdered}
use Rattle.pim_saved.{specs.{Laws.AreBytes, Reading.reading}}
use Rattle.pim_worlds.{specs.{Resuming.{IsResumable, read_test, restore_test, resume_test}, declared.refusal.RestoreRefusal.RestoreRefusal}, proofs.{RestedOrdered.read_in_order, RestedTests.resumable_is_decided}}

module _ (bytes : List ℕ) (s : State) (are : AreBytes bytes) (read : reading bytes ≡ Ok s) where
  pub refused_read : (refusal : RestoreRefusal) → (IsOrdered s → resume_test s ≡ Err refusal)
      → restore_test bytes ≡ Err refusal
  refused_read refusal tested = ap read_test read ∙ tested (read_in_order bytes s are read)

  module _ (w : State) (tested : IsOrdered s → (w ≡ s) × (resume_test s ≡ Ok tt)) where
    pub world_read : reading bytes ≡ Ok w
    world_read = read ∙ ap Ok (sym (tested (read_in_order bytes s are read)).0)

    pub test_read : restore_test bytes ≡ Ok tt
    test_read = ap read_test read ∙ (tested (read_in_order bytes s are read)).1

    pub resumable_read : IsResumable w
    resumable_read =
        let ordered = read_in_order bytes s are read in
        subst IsResumable (sym (tested ordered).0) ((resumable_is_decided s ordered).0 (tested ordered).1)
