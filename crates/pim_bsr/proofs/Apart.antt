-- The ranges from one on are apart.
use Rattle.std.{proofs.{Common.{◌≡◌, ℕ, ◌+◌, ◌<◌, not, ◌&&◌, List, length, get_or, drop, refl, add-one}, Math.Seq.drop-cons}, specs.List.list_any}
use Rattle.pim_types.{specs.declared.config.RpRange.RpRange}
use Rattle.pim_bsr.{specs.{Sound.are_apart, Table.same_range}}

pub apart-drop : (rs : List RpRange) (n : ℕ) (d : RpRange) → n < length rs
    → are_apart (drop n rs) ≡ (not (list_any (same_range (get_or rs n d)) (drop (n + 1) rs)) && are_apart (drop (n + 1) rs))
unfolding are_apart
apart-drop rs n d within = rw (add-one, drop-cons rs n d within) refl
