-- The list that a packet takes, case by case.
use Rattle.std.{proofs.Common.{◌≡◌, ℕ, Bool, true, false, List, [], refl}, specs.Prelude.{if◌then◌else◌, ◌&&◌}}
use Rattle.pim_types.{specs.Keys.{source_key, star_key}}
use Rattle.pim_model.{specs.{Asserts.data_seen, Forwarding.{Forwarded, list_chosen, no_interface, stray, watched}, Messages.Message, Sets.{inherited_olist, inherited_olist_rpt, spt_bit, tunnel}, State.State, Unicast.{is_rpf_interface, is_rpf_interface_rp}}}

-- what a packet that leaves nowhere changes and sends
abbrev pub nowhere : State × List Message → Forwarded
nowhere p = record { state = p.0; messages = p.1; list = no_interface; to_tunnel = false }

pub stray_is : (s : State) (g src i : ℕ) (on spt : Bool) → spt ≡ spt_bit s g src
    → on ≡ (if spt_bit s g src then inherited_olist s g src else inherited_olist_rpt s g src) i
    → stray s g src i
    ≡ nowhere (if on then data_seen s (if spt then source_key i g src else star_key i g) else (s, []))
unfolding stray
stray_is s g src i on spt a b = rw (a, b) refl

pub on_source_tree : (s : State) (g src i : ℕ) → is_rpf_interface s src i ≡ true → spt_bit s g src ≡ true
    → list_chosen s g src i
    ≡ record { state = s; messages = []; list = inherited_olist s g src; to_tunnel = tunnel s g src }
unfolding list_chosen
on_source_tree s g src i over spt = rw (over, spt) refl

never : (b : Bool) (x y : Forwarded) → (if b && false then x else y) ≡ y
never true x y = refl
never false x y = refl

pub on_shared_tree : (s : State) (g src i : ℕ) → is_rpf_interface_rp s g i ≡ true → spt_bit s g src ≡ false
    → list_chosen s g src i
    ≡ record { state = watched s g src; messages = []; list = inherited_olist_rpt s g src; to_tunnel = false }
unfolding list_chosen
on_shared_tree s g src i over spt = rw (over, spt) (never (is_rpf_interface s src i) _ _)
