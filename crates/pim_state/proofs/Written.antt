-- Writing changes nothing of what is configured.
use Rattle.std.{proofs.Common.{◌≡◌, ℕ, Bool, true, false, cond, List, [], ◌∷◌, refl, ◌∙◌}}
use Rattle.pim_types.{specs.declared.outcome.Emission.Emission}
use Rattle.pim_model.{specs.{Messages.Message, Querier.each_in_turn, State.InterfaceTable, Writing.{all_written, hello_paid, is_hello_owed, with_owed_hello, written}}}

abbrev either : InterfaceTable → ℕ → List Emission → List Emission → Bool → InterfaceTable × List Emission
either t i before later b = cond b (hello_paid t i, before) (t, later)

owed : (t : InterfaceTable) (i : ℕ) (before later : List Emission) (b : Bool)
    → (either t i before later b).0.configured ≡ t.configured
unfolding hello_paid
owed t i before later true = refl
owed t i before later false = refl

one_keeps : (t : InterfaceTable) (m : Message) → (written t m).0.configured ≡ t.configured
unfolding written with_owed_hello hello_paid
one_keeps t (Message.Hello i) = refl
one_keeps t (Message.JoinPrune i upstream group joins prunes) = owed t i _ _ (is_hello_owed t i)
one_keeps t (Message.Assert i group source m) = owed t i _ _ (is_hello_owed t i)
one_keeps t (Message.Query i q) = refl
one_keeps t (Message.RegisterStop from to group source) = refl
one_keeps t (Message.NullRegister from to source group) = refl

pub keeps_configured : (t : InterfaceTable) (ms : List Message) → (all_written t ms).0.configured ≡ t.configured
unfolding all_written each_in_turn
keeps_configured t [] = refl
keeps_configured t (m ∷ ms) = keeps_configured (written t m).0 ms ∙ one_keeps t m
