-- Without a set the front says nothing.
use Rattle.std.{proofs.Common.{◌≡◌, ℕ, Bool, true, false, cond, is_some, List, [], ◌∷◌, Option, Some, None, option_and_then, option_map, Result, Ok, Err, refl, ap}}
use Rattle.pim_ip.{specs.{Ipv4.{Packet, ipv4_reading}, declared.refusal.Refusal.Refusal}}
use Rattle.pim_types.{specs.{Keys.{group_in, source_in}, declared.{config.RpTable.RpTable, fact.Key.Key}}}
use Rattle.pim_wire.{specs.RegisterParts.registered_group}
use Rattle.pim_model.{specs.{Tables.is_empty_list, Unicast.rp_among}}
use Rattle.pim_anycast.{specs.{Announced.{announced, announced_all, announced_due, announced_new, is_announced, is_due}, Passed.{group_passed, packet_passed, passed, reading_passed, register_in}, Sets.{set_for, set_sharing}, declared.{front.Passed.Passed, set.RpSet.RpSet}}}

no_set : (ranges : RpTable) (g : ℕ) → set_for [] ranges g ≡ None
unfolding set_for set_sharing
no_set ranges g = go (rp_among ranges g)
  where
    go : (o : Option ℕ) → option_and_then (λ (rp : ℕ). let none : Option RpSet = None in none) o ≡ None
    go None = refl
    go (Some rp) = refl

module _ (ranges : RpTable) where
  none_passed : (p : Packet) (g : Option ℕ) → group_passed [] ranges p g ≡ Passed.AsItCame
  none_passed p None = refl
  none_passed p (Some g) = rw (no_set ranges g) refl

  reading_same : (r : Result Packet Refusal) → reading_passed [] ranges r ≡ Passed.AsItCame
  unfolding packet_passed
  reading_same (Ok p) = none_passed p (option_map registered_group (register_in p))
  reading_same (Err refusal) = refl

  pub bytes_same : (bytes : List ℕ) → passed [] ranges bytes ≡ Passed.AsItCame
  unfolding passed
  bytes_same bytes = reading_same (ipv4_reading bytes)

  none_announced : (g src : ℕ) → announced [] ranges g src ≡ []
  unfolding announced
  none_announced g src = rw (no_set ranges g) refl

  pub none_new : (before here : Bool) (g src : ℕ) → announced_new [] ranges before here g src ≡ []
  unfolding announced_new
  none_new true here g src = refl
  none_new false true g src = none_announced g src
  none_new false false g src = refl

  none_here : (here : Bool) (g : ℕ) → is_announced [] ranges here g ≡ false
  unfolding is_announced
  none_here true g = ap is_some (no_set ranges g)
  none_here false g = refl

  all_none : (keys : List Key) → announced_all [] ranges keys ≡ []
  unfolding announced_all
  all_none [] = refl
  all_none (k ∷ keys) = rw (none_announced (group_in k) (source_in k)) (all_none keys)

  pub none_due : (keys : List Key) (before present : ℕ) → announced_due [] ranges keys before present ≡ []
  unfolding announced_due
  none_due keys before present = go (is_due before present)
    where
      go : (b : Bool) → cond b (announced_all [] ranges keys) [] ≡ []
      go true = all_none keys
      go false = refl

-- ---- for the code, which tests whether there is a set

pub unset_passed : (sets : List RpSet) (ranges : RpTable) (bytes : List ℕ) → is_empty_list sets ≡ true
    → passed sets ranges bytes ≡ Passed.AsItCame
unset_passed [] ranges bytes e = bytes_same ranges bytes
unset_passed (set ∷ sets) ranges bytes e = cc e

pub unset_here : (sets : List RpSet) (ranges : RpTable) (here : Bool) (g : ℕ) → is_empty_list sets ≡ true
    → is_announced sets ranges here g ≡ false
unset_here [] ranges here g e = none_here ranges here g
unset_here (set ∷ sets) ranges here g e = cc e

pub unset_due : (sets : List RpSet) (ranges : RpTable) (keys : List Key) (before present : ℕ) → is_empty_list sets ≡ true
    → announced_due sets ranges keys before present ≡ []
unset_due [] ranges keys before present e = none_due ranges keys before present
unset_due (set ∷ sets) ranges keys before present e = cc e

pub ruleset unset = (unset_passed, unset_here, unset_due)
