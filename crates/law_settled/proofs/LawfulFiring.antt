-- What follows from a change, and each firing, leaves a lawful state, whatever is due.
use Rattle.std.{proofs.Common.{ℕ, List, Option, arith}}
use Rattle.pim_model.{specs.{Firing.{fire_all, fire_instant, fire_once, settled}, Messages.Message, State.{State, is_up}, Timers.Ending}}
use Rattle.law_settled.{proofs.{ListLaws.each_of_all, Parts.{ends_of, rows}, Firing.{IsSound, any, any_late, firing_sound, instant_sound, once_sound}, LawfulStates.{EndsLate, fine_is_lawful, lawful_is_fine}, FineStates.Runs, Upstream.settled_fine}, specs.Ready.IsLawful}

runs_any : (o : Option ℕ) → Runs any o
runs_any o = grind arith

ends_any : (s : State) → EndsLate any s
ends_any s p = each_of_all _ (λ e. each_of_all _ (λ end. runs_any (end e.1)) (ends_of p)) (rows p s)

pub lawful_is_sound : (s : State) → IsLawful s → IsSound (is_up s) s
lawful_is_sound s f = lawful_is_fine s f any (ends_any s)

pub settling_is_lawful : (o : State) (change : State × List Message) (w : ℕ) → IsLawful change.0
    → IsLawful (settled o change w).0
settling_is_lawful o change w f =
    let m : ℕ = (change.0).present in
    fine_is_lawful m any (is_up change.0) (settled o change w).0
    (settled_fine m any (is_up change.0) (any_late m) o change w (lawful_is_sound change.0 f))

pub one_firing_is_lawful : (w : ℕ) (s : State) (e : Ending) → IsLawful s → IsLawful (fire_once w s e).0
one_firing_is_lawful w s e f =
    fine_is_lawful _ any (is_up s) (fire_once w s e).0 (once_sound (is_up s) w s e (lawful_is_sound s f))

pub instant_is_lawful : (w : ℕ) (s : State) (e : Ending) → IsLawful s → IsLawful (fire_instant w s e).0
instant_is_lawful w s e f =
    fine_is_lawful _ any (is_up s) (fire_instant w s e).0 (instant_sound (is_up s) w s e (lawful_is_sound s f))

pub firing_is_lawful : (w m : ℕ) (s : State) → IsLawful s → IsLawful (fire_all w m s).0
firing_is_lawful w m s f =
    fine_is_lawful _ any (is_up s) (fire_all w m s).0 (firing_sound (is_up s) w m s (lawful_is_sound s f))
