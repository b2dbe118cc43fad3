-- What MSDP beside a router asks of it is what a router in its state answers.
use Rattle.std.{specs.{Option.option_map_or, Prelude.{option_and_then, unwrap_or}}, proofs.Common.{◌≡◌, ◌&&◌, ℕ, Bool, true, false, nat_lt, not, List, [], Option, Some, None, option_map, Result, Ok, Err, IfSome, refl}}
use Rattle.pim_ip.{specs.{Ipv4.{Packet, ipv4_reading}, declared.refusal.Refusal.Refusal}}
use Rattle.pim_types.specs.declared.{config.RpTable.RpTable, path.Path.Path}
use Rattle.pim_wire.{specs.{RegisterParts.registered_group, Values.Register}}
use Rattle.pim_model.specs.{State.{Addressing, is_own_among}, Tables.same_option, Unicast.{no_ranges, rp_among}}
use Rattle.pim_anycast.{specs.{Passed.register_in, declared.set.RpSet.RpSet}}
use Rattle.pim_msdp.{specs.{Actives.{active_text, given_active, is_connected}, Own.{is_of_dr, is_of_set, is_own_source, is_rp_here, reading_registered, registered, registered_by}}}
use Rattle.pim_router.{specs.Standing.Standing}
use Rattle.pim_shown.{specs.{TreeMacros.source_tree, declared.source.SourceTree.SourceTree}}
use Rattle.pim_session.{proofs.Sharing.{local_in, ranges_in}}

abbrev pub is_tree_connected : Option SourceTree → Bool
is_tree_connected o = option_map_or (λ (t : SourceTree). option_map_or (λ (p : Path). p.is_connected) t.path false) o false

abbrev pub connected_in : Option Standing → ℕ → Bool
connected_in o src = option_map_or (λ r. is_connected r.state src) o false

pub connected_told : (o : Option Standing) (g src : ℕ)
    → is_tree_connected (option_map (λ r. source_tree r.state g src) o) ≡ connected_in o src
unfolding source_tree is_connected
connected_told None g src = refl
connected_told (Some r) g src = refl

module _ (peer rp g src : ℕ) (bytes items : List ℕ) where
  pub none_given : (o : Option Standing) → connected_in o src ≡ true → items ≡ []
      → IfSome o (λ r. items ≡ unwrap_or (given_active r.state peer rp g src bytes) [])
  unfolding given_active
  none_given None e is = tt
  none_given (Some r) e is = rw e is

  pub some_given : (o : Option Standing) → connected_in o src ≡ false → items ≡ active_text peer rp g src bytes
      → IfSome o (λ r. items ≡ unwrap_or (given_active r.state peer rp g src bytes) [])
  unfolding given_active
  some_given None e is = tt
  some_given (Some r) e is = rw e is

-- ---- own sources

abbrev nowhere : Addressing
nowhere = record { interfaces = []; addresses = [] }

abbrev pub configured_in : Option Standing → Addressing
configured_in o = option_map_or (λ r. r.state.configured) o (record { interfaces = []; addresses = [] })

pub own_told : (o : Option Standing) (g src : ℕ)
    → (local_in o g src && is_rp_here (configured_in o) (ranges_in o) g) ≡ option_map_or (λ r. is_own_source r.state g src) o false
unfolding is_own_source
own_told None g src = refl
own_told (Some r) g src = refl

own_nowhere : (a : ℕ) → is_own_among nowhere a ≡ false
unfolding is_own_among
own_nowhere a = refl

second_false : (a b c d : Bool) → b ≡ false → (a && b && c && d) ≡ false
second_false true true c d e = cc e
second_false true false c d e = refl
second_false false b c d e = refl

module _ (sets : List RpSet) (ranges : RpTable) where
  not_of_dr : (p : Packet) (g : ℕ) → is_of_dr sets nowhere ranges p g ≡ false
  unfolding is_of_dr
  not_of_dr p g =
      second_false (nat_lt 1 p.time_to_live) (is_own_among nowhere p.destination)
      (same_option (rp_among ranges g) (Some p.destination)) (not (is_of_set sets p.destination p.source))
      (own_nowhere p.destination)

  by_register : (p : Packet) (o : Option Register) → registered_by sets nowhere ranges p o ≡ None
  by_register p None = refl
  by_register p (Some r) = rw (not_of_dr p (registered_group r)) refl

  by_reading : (r : Result Packet Refusal) → reading_registered sets nowhere ranges r ≡ None
  by_reading (Ok p) = by_register p (register_in p)
  by_reading (Err refusal) = refl

  none_nowhere : (bytes : List ℕ) → registered sets nowhere ranges bytes ≡ None
  unfolding registered
  none_nowhere bytes = by_reading (ipv4_reading bytes)

pub registered_told : (o : Option Standing) (sets : List RpSet) (bytes : List ℕ)
    → registered sets (configured_in o) (ranges_in o) bytes
    ≡ option_and_then (λ r. registered sets r.state.configured r.state.ranges bytes) o
registered_told None sets bytes = none_nowhere sets no_ranges bytes
registered_told (Some r) sets bytes = refl
