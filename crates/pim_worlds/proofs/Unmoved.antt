-- Where nothing has changed, RPF_interface hasn't moved: the other reasons alone decide whether a lost assert must go.
use Rattle.std.{proofs.Common.{◌≡◌, ◌&&◌, ◌||◌, Bool, true, false, not, refl}}
use Rattle.pim_types.{specs.{declared.fact.{AssertRow.AssertRow, Key.Key}, Keys.iface_in}}
use Rattle.pim_model.{specs.{Asserts.{is_tracking_at, my_metric_at}, Clearing.{is_rpf_at, loser_must_go}, Neighbours.is_neighbour, Sets.is_better, State.State}}

never_both : (a b c d : Bool) → (not a || not b || c || (d && not d)) ≡ (not a || not b || c)
never_both false b c d = refl
never_both true false c d = refl
never_both true true true d = refl
never_both true true false true = refl
never_both true true false false = refl

pub goes_unmoved : (s : State) (k : Key) (r : AssertRow) → loser_must_go s s k r
    ≡ (not (is_neighbour s (iface_in k) r.winner.address.bits) || not (is_tracking_at s k)
    || is_better (my_metric_at s k) r.winner)
goes_unmoved s k r =
    never_both (is_neighbour s (iface_in k) r.winner.address.bits) (is_tracking_at s k)
    (is_better (my_metric_at s k) r.winner) (is_rpf_at s k)
