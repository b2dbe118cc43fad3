-- Own addresses of no interface lie on no link.
use Rattle.std.{proofs.{Common.{◌≡◌, ◌∙◌, ◌==◌, ◌&&◌, ◌||◌, ◌+◌, ℕ, zero, suc, Bool, true, false, not, List, [], ◌∷◌, None, Ok, refl, sym, ap, subst, arith, eqb-true}, lemmas.Bool.or_right}, specs.{List.{find, list_all, list_any, range_with_len}, Option.option_map_or, Prelude.slice_get}}
use Rattle.pim_ip.{specs.{Ipv4.is_unicast, Prefixes.contains, Tests.{expect, ◌>>◌}, declared.{addr.Addr.Addr, refusal.Refusal.Refusal}}}
use Rattle.pim_types.{specs.{Keys.iface_key, declared.{config.{Config.Config, InterfaceConfig.InterfaceConfig}, event.Event.Event, fact.InterfaceRow.InterfaceRow}}}
use Rattle.pim_model.{specs.{Limits.{are_once, are_own_addresses, config_test, is_apart, is_in_subnet}, State.{Addressing, State, addressing_of, is_own_among, opening}, Step.state_after, Tables.{Table, has_row}, Unicast.{is_on_link_among, link_among, route, route_among, subnet}}}
use Rattle.law_settled.{proofs.{ListLaws.{any_among_all, each_of_list}, StepLaws.kept_by_run}}
use Rattle.law_streams.{specs.Addresses.{IsLinkless, NoneIsAccepted, OthersAreOfInterfaces, OwnIsOffLink}, proofs.Settings.step_configured}

-- ---- lists in which none passes

module _ (q : InterfaceConfig → Bool) where
  none_first : (b d : Bool) → (b || d) ≡ false → b ≡ false
  none_first b d e = grind arith

  none_behind : (b d : Bool) → (b || d) ≡ false → d ≡ false
  none_behind b d e = grind arith

  none_at : (cs : List InterfaceConfig) → list_any q cs ≡ false → (i : ℕ) → option_map_or q (slice_get cs i) false ≡ false
  none_at [] e i = refl
  none_at (c ∷ cs) e zero = none_first (q c) (list_any q cs) e
  none_at (c ∷ cs) e (suc i) = none_at cs (none_behind (q c) (list_any q cs) e) i

none_found : (p : ℕ → Bool) (k m : ℕ) → ((i : ℕ) → p i ≡ false) → find p (range_with_len k m) ≡ None
none_found p k zero none = refl
none_found p k (suc m) none = rw (none k) (none_found p (k + 1) m none)

-- ---- an address in no subnet

none_passes : (b d : Bool) → d ≡ false → (b && d) ≡ false
none_passes true d e = e
none_passes false d e = refl

beside : (b d : Bool) → (b && not d) ≡ true → d ≡ false
beside true true e = cc
beside true false e = refl
beside false d e = cc

module _ (cs : Addressing) (a : ℕ) (fine : are_own_addresses cs ≡ true)
    (is : list_any (λ (own : Addr). own.bits == a) cs.addresses ≡ true) where
  each_apart : list_all (is_apart cs.interfaces) cs.addresses ≡ true
  unfolding are_own_addresses
  each_apart = grind arith

  outside : is_in_subnet cs.interfaces a ≡ false
  outside =
      any_among_all (λ (x : Addr). is_apart cs.interfaces x ≡ true) (λ (own : Addr). own.bits == a)
      (λ x f g. subst (λ (n : ℕ). is_in_subnet cs.interfaces n ≡ false) (eqb-true x.bits a g)
      (beside (is_unicast x.bits) (is_in_subnet cs.interfaces x.bits) f))
      cs.addresses (each_of_list (is_apart cs.interfaces) cs.addresses each_apart) is

  off_link : (up : Table InterfaceRow) → link_among cs up a ≡ None
  unfolding link_among is_on_link_among
  off_link up =
      none_found (is_on_link_among cs up a) 0 _
      (λ i. none_passes (has_row up (iface_key i)) _ (none_at (λ c. contains (subnet c) a) cs.interfaces outside i))

  is_own_here : is_own_among cs a ≡ true
  unfolding is_own_among
  is_own_here = or_right (list_any (λ c. c.address.bits == a) cs.interfaces) _ is

-- ---- after any events

own_tested : (links addresses lengths apart limit querier delays routes ranges own : Bool)
    → (expect links Refusal.InterfaceCount >> expect addresses Refusal.InterfaceAddress >> expect lengths Refusal.InterfaceLength
    >> expect apart Refusal.Overlap >> expect limit Refusal.BadLimit >> expect querier Refusal.BadQuerier
    >> expect delays Refusal.BadDelay >> expect routes Refusal.ConfiguredRoutes >> expect ranges Refusal.ConfiguredRps
    >> expect own Refusal.OwnAddresses) ≡ Ok tt → own ≡ true
own_tested links addresses lengths apart limit querier delays routes ranges own e = grind arith

config_own : (c : Config) → config_test c ≡ Ok tt → are_own_addresses (addressing_of c) ≡ true
unfolding config_test
config_own c e = grind (arith, own_tested)

run_configured : (c : Config) (events : List Event) → (state_after (opening c) events).configured ≡ addressing_of c
unfolding opening
run_configured c events =
    kept_by_run (λ (s : State). s.configured ≡ addressing_of c) (λ s e f. sym (step_configured s e).configured ∙ f) (opening c) events refl

linkless : (s : State) (a : ℕ) → are_own_addresses s.configured ≡ true
    → list_any (λ (own : Addr). own.bits == a) s.configured.addresses ≡ true → IsLinkless s a
unfolding route route_among
linkless s a fine is = record {
  own = is_own_here s.configured a fine is;
  off = off_link s.configured a fine is s.interfaces;
  nowhere = rw (is_own_here s.configured a fine is) refl;
}

pub own_is_off_link : OwnIsOffLink
unfolding opening
own_is_off_link c events a e is =
    let same = run_configured c events in
    linkless (state_after (opening c) events) a
    (subst (λ (cs : Addressing). are_own_addresses cs ≡ true) (sym same) (config_own c e))
    (subst (λ (cs : Addressing). list_any (λ (own : Addr). own.bits == a) cs.addresses ≡ true) (sym same) is)

-- ---- where there is none

or_none : (b : Bool) → (b || false) ≡ b
or_none true = refl
or_none false = refl

pub others_are_of_interfaces : OthersAreOfInterfaces
unfolding is_own_among
others_are_of_interfaces s a e =
    ap (λ (xs : List Addr). list_any (λ (c : InterfaceConfig). c.address.bits == a) s.configured.interfaces
    || list_any (λ (own : Addr). own.bits == a) xs) e
    ∙ or_none (list_any (λ (c : InterfaceConfig). c.address.bits == a) s.configured.interfaces)

pub none_is_accepted : NoneIsAccepted
unfolding are_own_addresses are_once
none_is_accepted c e = rw e refl
