-- What the router takes of its own messages.
use Rattle.std.{proofs.{Common.{◌≡◌, ◌≤◌, Bool, true, false, nat_le, Result, Ok, Err, refl, ap, ◌∙◌, arith}, lemmas.Bool.Decides.nat_tests}, specs.Prelude.if◌then◌else◌}
use Rattle.pim_ip.{specs.declared.refusal.Refusal.Refusal}
use Rattle.pim_bootstrap.{specs.Bootstraps.{Bootstrap, bootstrap_reading}}
use Rattle.pim_bsr.{specs.{Sound.{IsSound, IsSoundTable, OwnSoundStays}, Standing.{OwnIsTaken, own_read, own_taken, with_own}, Table.{kept_count, room, room_beside, with_message}}, proofs.Sounder.learned_sound}

pub own_is_taken : OwnIsTaken
unfolding own_taken with_own
own_is_taken now k b m read few =
    let fits : nat_le (kept_count (with_message now k.table m)) (room k) ≡ true = grind (arith, nat_tests, few) in
    ap (λ (r : Result Bootstrap Refusal). (own_read now k r).table) read
    ∙ ap (λ (t : Bool). if t then with_message now k.table m else k.table) fits

pub own_sound_stays : OwnSoundStays
unfolding own_taken with_own
own_sound_stays now k b sound = of_read (bootstrap_reading b) refl
  where
    fits : (m : Bootstrap) → nat_le (kept_count (with_message now k.table m)) (room k) ≡ true
        → kept_count (with_message now k.table m) ≤ room_beside k.limit k.static
    fits m e = grind (arith, nat_tests, e)

    of_room : (m : Bootstrap) → bootstrap_reading b ≡ Ok m → (t : Bool) → nat_le (kept_count (with_message now k.table m)) (room k) ≡ t
        → IsSoundTable k.static k.limit (if t then with_message now k.table m else k.table)
    of_room m read true e = learned_sound now k.static k.limit k.table b m read sound (fits m e)
    of_room m read false e = sound

    of_read : (r : Result Bootstrap Refusal) → bootstrap_reading b ≡ r → IsSound (own_read now k r)
    of_read (Ok m) read = of_room m read (nat_le (kept_count (with_message now k.table m)) (room k)) refl
    of_read (Err refusal) read = sound
