-- What holds of all that an elected BSR holds, so that routers learn by its messages just what it says.
use Rattle.std.{specs.{List.{list_all, list_any}, Prelude.{◌≡◌, ℕ, ◌^◌, ◌<◌, Bool, true, false, ◌&&◌, ◌==◌, not, List, [], ◌∷◌, flat_map, fold, length, map}}}
use Rattle.pim_model.{specs.{Candidates.masked, Limits.are_distinct}}
use Rattle.pim_bootstrap.{specs.{declared.fragments.BootstrapHead.BootstrapHead, Advertisements.Advertisement, Fragments.{fragments, pieces_of}}}
use Rattle.pim_bsr.{specs.Table.{Table, masks_after, with_message}}
use Rattle.pim_candidate.{specs.{RpSet.{RpSet, advertised, empty, gone_prefix, has_rp, is_mapping, passed, said}, SaySame.{told, waits_under}, declared.rp_set.{Gone.Gone, Held.Held}}}

-- bits past the mask are 0
abbrev pub is_masked : Held → Bool
is_masked h = h.group.bits == masked h.length h.group.bits

abbrev pub is_masked_gone : Gone → Bool
is_masked_gone g = g.group.bits == masked g.length g.group.bits

-- no RP stands twice of a range
unfoldable pub held_apart : List Held → Bool
held_apart [] = true
held_apart (h ∷ hs) =
    let later : Bool = held_apart hs in
    not (list_any (is_mapping h) hs) && later

-- a range that goes has no RP
abbrev pub is_alone : List Held → Gone → Bool
is_alone held g = not (has_rp held (gone_prefix g))

-- what is held is in order
pub record IsSoundSet (s : RpSet) : Type 0 where
  pub few : length s.held < 2 ^ 8
  pub masked : list_all is_masked s.held ≡ true
  pub apart : held_apart s.held ≡ true
  pub gone_masked : list_all is_masked_gone s.gone ≡ true
  pub gone_apart : are_distinct (map gone_prefix s.gone) ≡ true
  pub alone : list_all (is_alone s.held) s.gone ≡ true

-- so it is to begin with
abbrev pub EmptyIsSound : Type 0
EmptyIsSound = IsSoundSet empty

-- and whatever advertisement comes
abbrev pub SoundStays : Type 0
SoundStays =
    (now limit : ℕ) (s : RpSet) (a : Advertisement) → limit < 2 ^ 8 → IsSoundSet s → IsSoundSet (advertised now limit s a)

-- and however time passes
abbrev pub SoundInTime : Type 0
SoundInTime = (now : ℕ) (s : RpSet) → IsSoundSet s → IsSoundSet (passed now s)

-- Any router that takes all fragments of what an elected BSR says has just that, and what it had of other ranges.
abbrev pub AllLearnTheSet : Type 0
AllLearnTheSet =
    (now : ℕ) (h : BootstrapHead) (s : RpSet) (t : Table) → IsSoundSet s → list_any (waits_under h) t.parts ≡ false
    → fold (with_message now) t (fragments h (said s))
    ≡ told now h (said s) (masks_after h.hash_length (flat_map pieces_of (said s)) t)
