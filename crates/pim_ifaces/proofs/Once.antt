-- The addresses from one place on are listed once.
use Rattle.std.{proofs.{Common.{◌≡◌, ◌==◌, ℕ, ◌+◌, ◌<◌, not, ◌&&◌, List, length, get_or, drop, refl, add-one}, Math.Seq.drop-cons}, specs.List.list_any}
use Rattle.pim_ip.{specs.declared.addr.Addr.Addr}
use Rattle.pim_model.{specs.Limits.are_once}

pub are_once-drop : (xs : List Addr) (n : ℕ) (d : Addr) → n < length xs
    → are_once (drop n xs)
    ≡ (not (list_any (λ (b : Addr). (get_or xs n d).bits == b.bits) (drop (n + 1) xs)) && are_once (drop (n + 1) xs))
unfolding are_once
are_once-drop xs n d within = rw (add-one, drop-cons xs n d within) refl
