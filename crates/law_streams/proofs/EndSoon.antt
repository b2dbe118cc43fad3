-- Each override timer ends soon, after any events whose frames are of bytes.
use Rattle.std.{proofs.{Common.{◌≡◌, ◌∙◌, ℕ, ◌+◌, ◌≤◌, nat_le, Bool, true, false, List, [], ◌∷◌, Ok, Result, refl, sym, ap, subst, arith}, lemmas.Bool.Decides.nat_tests}, specs.{Cmp.{first_so, second_so}, List.list_all}}
use Rattle.pim_ip.{specs.{Tests.{expect, ◌>>◌}, declared.refusal.Refusal.Refusal}}
use Rattle.pim_types.{specs.declared.{config.{Config.Config, InterfaceConfig.InterfaceConfig}, event.Event.Event}}
use Rattle.pim_wire.{specs.Values.{Encapsulated, Null}}
use Rattle.pim_model.{specs.{declared.accepted.Accepted.Accepted, Firing.settled, Forwarding.source_here, Messages.Message, Querier.{querier_up, querying}, Registers.{register_stop_seen, settle_register, with_keepalive}, Limits.{config_test, is_delay_config}, State.{State, opening}, Step.{advanced, change, iface_down, iface_up, ran, rps_replaced, state_after, step}}}
use Rattle.law_settled.{proofs.{ListLaws.{each_more, each_of_list, list_of_each}, Unsettled.{Unsettled, settling_leaves}}}
use Rattle.law_streams.{specs.Uncounted.{EachOverrideEndsSoon, is_of_bytes, longest_override}, proofs.{Lasting.{Beside, Lasting, Unhailed, Whole, assert_whole, data_whole, hello_unhailed, query_lasting, register_whole, report_lasting, seen_beside, to_me_whole}, OverrideEnds.{IsBriefly, IsSoon, soon_changes, soon_fires, soon_follows, soon_moves}, Said.{IsSaid, kind_said}, Walks.{event_walks, time_walks}}}

pub no_later : (m : ℕ) → m ≤ m
no_later m = omega arith

later_by : (a b x : ℕ) → a ≤ b → x ≤ a + longest_override → x ≤ b + longest_override
later_by a b x le f = omega (arith, le, f)

-- what ends soon after a moment ends soon after a later one
soon_later : (a b : ℕ) → a ≤ b → (s : State) → IsSoon a s → IsSoon b s
soon_later a b le s f = grind (arith, each_more, later_by)

pub there : (s : State) (w moment : ℕ) → (advanced s w moment).state.present ≡ moment
unfolding advanced
there s w moment = refl

-- at its present
abbrev EndsSoon : State → Type 0
EndsSoon s = IsSoon s.present s

abbrev PresentOf : Whole → ℕ
PresentOf u = ((u.lasting).still).present

here_present : (s : State) (g src iif : ℕ) → (source_here s g src iif).present ≡ s.present
unfolding source_here settle_register with_keepalive
here_present s g src iif = grind arith

pub change_present : (s : State) (w : ℕ) (a : Accepted) → (change s w a).state.present ≡ s.present
unfolding change iface_up querier_up querying rps_replaced register_stop_seen iface_down
change_present s w (Accepted.Hello i from h) = ap (λ (u : Unhailed). u.present) (hello_unhailed s i.number from.bits h w)
change_present s w (Accepted.JoinPruneToMe i m) = ap PresentOf (to_me_whole s i.number m)
change_present s w (Accepted.JoinPruneSeen i m) = ap (λ (u : Beside). (u.still).present) (seen_beside s w i.number m)
change_present s w (Accepted.Assert i from a) = ap PresentOf (assert_whole s i.number from.bits a)
change_present s w (Accepted.Query i from q) = ap (λ (u : Lasting). (u.still).present) (query_lasting s i.number from.bits q)
change_present s w (Accepted.Report i records) = ap (λ (u : Lasting). (u.still).present) (report_lasting s i.number records)
change_present s w (Accepted.Data i p) =
    ap PresentOf (data_whole s p.destination p.source i.number) ∙ here_present s p.destination p.source i.number
change_present s w (Accepted.Register p (Encapsulated inner)) =
    ap PresentOf (register_whole s p inner.destination inner.source false)
change_present s w (Accepted.Register p (Null source group)) = ap PresentOf (register_whole s p group source true)
change_present s w (Accepted.Advance moment) = refl
change_present s w (Accepted.Up i) = refl
change_present s w (Accepted.Down i) = refl
change_present s w (Accepted.Routes routes) = refl
change_present s w (Accepted.Rps ranges) = refl
change_present s w (Accepted.RegisterStop from r) = refl

time_soon : (s : State) (w moment : ℕ) → s.present ≤ moment → EndsSoon s → EndsSoon (advanced s w moment).state
time_soon s w moment le f =
    subst (λ (n : ℕ). IsSoon n (advanced s w moment).state) (sym (there s w moment))
    (time_walks (IsSoon moment) (λ o t. IsSoon moment t) moment (soon_moves moment)
    (λ t m kind k le g. soon_fires moment (record t { present = m }) kind k (soon_moves moment t m le g))
    (λ o c w g h. soon_follows moment o c w h) s w moment (no_later moment) (soon_later s.present moment le s f))

settled_soon : (o : State) (c : State × List Message) (w : ℕ) → EndsSoon c.0 → EndsSoon (settled o c w).0
settled_soon o c w f =
    subst (λ (n : ℕ). IsSoon n (settled o c w).0) (sym (ap (λ (u : Unsettled). u.present) (settling_leaves o c w)))
    (soon_follows (c.0).present o c w f)

changed_soon : (s : State) (w : ℕ) (a : Accepted) → IsBriefly a → EndsSoon s → EndsSoon (change s w a).state
changed_soon s w a said f =
    subst (λ (n : ℕ). IsSoon n (change s w a).state) (sym (change_present s w a)) (soon_changes s.present s w a said f)

step_soon : (s : State) (e : Event) → is_of_bytes e.kind ≡ true → EndsSoon s → EndsSoon (step s e).state
step_soon s e bytes f =
    event_walks EndsSoon (λ o t. EndsSoon t) s e f (λ moment le. time_soon s e.draw moment le f)
    (λ a is. changed_soon s e.draw a (subst IsSaid is (kind_said s e.kind bytes)).accepts f) (λ o c w g h. settled_soon o c w h)

ran_soon : (events : List Event) (s : State) → list_all (λ (e : Event). is_of_bytes e.kind) events ≡ true → EndsSoon s
    → EndsSoon (ran s events).1
unfolding ran
ran_soon [] s bytes f = f
ran_soon (e ∷ es) s bytes f =
    ran_soon es (step s e).state (second_so (is_of_bytes e.kind) _ bytes) (step_soon s e (first_so (is_of_bytes e.kind) _ bytes) f)

-- ---- from the opening

delays_tested : (links : Bool) (addresses lengths apart limit querier delays : Bool) (next : Result (Unit {0}) Refusal)
    → (expect links Refusal.InterfaceCount >> expect addresses Refusal.InterfaceAddress >> expect lengths Refusal.InterfaceLength
    >> expect apart Refusal.Overlap >> expect limit Refusal.BadLimit >> expect querier Refusal.BadQuerier
    >> expect delays Refusal.BadDelay >> next) ≡ Ok tt → delays ≡ true
delays_tested links addresses lengths apart limit querier delays next e = grind arith

config_delays : (c : Config) → config_test c ≡ Ok tt → list_all is_delay_config c.interfaces ≡ true
unfolding config_test
config_delays c e = grind (arith, delays_tested)

delay_short : (i : InterfaceConfig) → is_delay_config i ≡ true → i.override_interval ≤ longest_override
delay_short i e = grind (arith, nat_tests)

opening_soon : (c : Config) → config_test c ≡ Ok tt → EndsSoon (opening c)
unfolding opening
opening_soon c e = record {
  now = no_later 0;
  brief = record {
    mine = each_more (λ i. is_delay_config i ≡ true) (λ i. i.override_interval ≤ longest_override) delay_short c.interfaces
        (each_of_list is_delay_config c.interfaces (config_delays c e));
    theirs = tt;
  };
  ends = tt;
}

at_most : (a b : ℕ) → a ≤ b → nat_le a b ≡ true
at_most a b le = grind (arith, nat_tests, le)

pub each_override_ends_soon : EachOverrideEndsSoon
unfolding state_after
each_override_ends_soon c events e bytes = grind (arith, ran_soon, opening_soon, list_of_each, each_more, at_most)
