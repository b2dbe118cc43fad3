-- Where all are touched of one of two changes, all are.
use Rattle.std.{proofs.Common.{◌≡◌, refl}}
use Rattle.pim_state.{specs.declared.touched.Touched.Touched}
use Rattle.pim_fanout.{specs.Disturbed.joined}

pub all_joined : (t u : Touched) → u ≡ Touched.All → Touched.All ≡ joined t u
unfolding joined
all_joined Touched.All u e = refl
all_joined (Touched.Keys keys) u e = rw e refl
