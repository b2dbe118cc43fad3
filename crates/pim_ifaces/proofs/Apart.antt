-- The subnets from one interface on are apart.
use Rattle.std.{proofs.{Common.{◌≡◌, ℕ, ◌+◌, ◌<◌, not, ◌&&◌, List, length, get_or, drop, refl, add-one}, Math.Seq.drop-cons}, specs.List.list_any}
use Rattle.pim_types.{specs.declared.config.InterfaceConfig.InterfaceConfig}
use Rattle.pim_model.{specs.Limits.{are_apart, overlaps}}

pub are_apart-drop : (xs : List InterfaceConfig) (n : ℕ) (d : InterfaceConfig) → n < length xs
    → are_apart (drop n xs)
    ≡ (not (list_any (overlaps (get_or xs n d)) (drop (n + 1) xs)) && are_apart (drop (n + 1) xs))
unfolding are_apart
are_apart-drop xs n d within = rw (add-one, drop-cons xs n d within) refl
