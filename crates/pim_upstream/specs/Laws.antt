-- The messages upstream are those by what was opened.
use Rattle.std.{specs.Prelude.{List, ℕ, ◌≡◌}}
use Rattle.pim_types.{specs.declared.fact.Key.Key}
use Rattle.pim_model.{specs.{State.State, Upstream.upstream}}
use Rattle.law_events.{specs.Locality.own_upstream}
use Rattle.pim_state.{specs.declared.touched.Touched.Touched}
use Rattle.pim_views.{specs.{Covers.{Covers, IsWithin, NewAreNamed}, Openings.opening_of}}
use Rattle.pim_upstream.{specs.Told.upstream_by}

-- The messages upstream by the groups of some keys are those by what the keys opened.
abbrev pub UpstreamOfKeysByOpening : Type 0
UpstreamOfKeysByOpening = (keys : List Key) (o a : State) (w : ℕ) → NewAreNamed keys o a
    → own_upstream keys o a w ≡ upstream_by (opening_of o (Touched.Keys keys)) a w

-- Where all is touched, the messages upstream are those by what was opened.
abbrev pub UpstreamOfAllByOpening : Type 0
UpstreamOfAllByOpening =
    (o a : State) (w : ℕ) → IsWithin o a → upstream o a w ≡ upstream_by (opening_of o Touched.All) a w

-- whatever is touched
abbrev pub UpstreamByOpening : Type 0
UpstreamByOpening = (touched : Touched) (o a : State) (w : ℕ) → Covers touched o a
    → upstream o a w ≡ upstream_by (opening_of o touched) a w
