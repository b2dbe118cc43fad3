use Rattle.std.proofs.Common.{◌≡◌, Ok, ap, refl, subst, sym, ◌∙◌, false, true}
use Rattle.pim_ip.{specs.declared.refusal.Refusal.Refusal}
use Rattle.pim_model.specs.{Limits.{are_routes, are_rps}, State.settings_of}
use Rattle.pim_ifaces.{specs.Interfaces.interfaces_test}
use Rattle.pim_state.{proofs.Accepted.{addresses_refused, all_accepted, chosen, from_given, interfaces_tested, opens, own_from_given, querier_within, routes_refused, rps_refused, settings_refused, test_failed, test_held}}
use Rattle.pim_state.proofs.world.World.new.Goals as goal

pub returns-in-Err-clause-refused : goal.returns-in-Err-clause-refused
returns-in-Err-clause-refused c =
    settings_refused c.args.config.now c.in-Err.refusal (sym c.test_settings.ensures ∙ c.in-Err.is)

pub new-requires : goal.new-requires
new-requires c =
    subst (λ xs. interfaces_test xs ≡ Ok tt) (sym c.as_slice-given.ensures)
    (interfaces_tested c.args.config.now (sym c.test_settings.ensures ∙ c.in_default.is))

pub returns-then-is_err-clause-refused : goal.returns-then-is_err-clause-refused
returns-then-is_err-clause-refused c =
    let tested = sym c.test_settings.ensures ∙ c.in_default.is in
    let listed = ap (λ t. t.configured)
    (from_given c.args.config.now _ _ _ c.in_ok-interfaces.ensures c.as_slice-given.ensures c.as_slice-own.ensures) in
    routes_refused c.args.config.now tested
    (subst (λ xs. are_routes xs c.args.config.now.routes ≡ false) listed
    (subst (λ rs. are_routes c.in_ok-interfaces.interfaces.configured rs ≡ false) c.as_slice.ensures
    (test_failed _ Refusal.BadRoutes c.in_ok-replace.field-0 c.in_ok-replace.ensures.answer (sym c.is_err.ensures.value
    ∙ c.if-is_err.true))))

pub returns-then-is_err-2-clause-refused : goal.returns-then-is_err-2-clause-refused
returns-then-is_err-2-clause-refused c =
    let tested = sym c.test_settings.ensures ∙ c.in_default.is in
    let listed = ap (λ t. t.configured)
    (from_given c.args.config.now _ _ _ c.in_ok-interfaces.ensures c.as_slice-given.ensures c.as_slice-own.ensures) in
    rps_refused c.args.config.now tested
    (subst (λ xs. are_routes xs c.args.config.now.routes ≡ true) listed
    (subst (λ rs. are_routes c.in_ok-interfaces.interfaces.configured rs ≡ true) c.as_slice.ensures
    (test_held _ Refusal.BadRoutes c.in_ok-replace.field-0 c.in_ok-replace.ensures.answer (sym c.is_err.ensures.value
    ∙ c.if-is_err.false))))
    (subst (λ rs. are_rps rs ≡ false) c.as_slice-2.ensures
    (test_failed _ Refusal.BadRps c.in_ok-replace_rps.field-0 c.in_ok-replace_rps.ensures.answer
    (sym c.is_err-2.ensures.value ∙ c.if-is_err-2.true)))

pub returns-then-not-are_own_addresses-clause-refused : goal.returns-then-not-are_own_addresses-clause-refused
returns-then-not-are_own_addresses-clause-refused c =
    let tested = sym c.test_settings.ensures ∙ c.in_default.is in
    let listed = ap (λ t. t.configured)
    (from_given c.args.config.now _ _ _ c.in_ok-interfaces.ensures c.as_slice-given.ensures c.as_slice-own.ensures) in
    addresses_refused c.args.config.now tested
    (subst (λ xs. are_routes xs c.args.config.now.routes ≡ true) listed
    (subst (λ rs. are_routes c.in_ok-interfaces.interfaces.configured rs ≡ true) c.as_slice.ensures
    (test_held _ Refusal.BadRoutes c.in_ok-replace.field-0 c.in_ok-replace.ensures.answer (sym c.is_err.ensures.value
    ∙ c.if-is_err.false))))
    (subst (λ rs. are_rps rs ≡ true) c.as_slice-2.ensures
    (test_held _ Refusal.BadRps c.in_ok-replace_rps.field-0 c.in_ok-replace_rps.ensures.answer
    (sym c.is_err-2.ensures.value ∙ c.if-is_err-2.false)))
    (own_from_given c.args.config.now _ _ _ false c.are_own_addresses.ensures c.if-not-are_own_addresses.true
    c.as_slice-given.ensures c.as_slice-own.ensures)

pub returns-clause-accepted : goal.returns-clause-accepted
unfolding settings_of
returns-clause-accepted c =
    let tested = sym c.test_settings.ensures ∙ c.in_default.is in
    let made = from_given c.args.config.now _ _ _ c.in_ok-interfaces.ensures c.as_slice-given.ensures c.as_slice-own.ensures in
    let routes = subst (λ rs. are_routes c.in_ok-interfaces.interfaces.configured rs ≡ true) c.as_slice.ensures
    (test_held _ Refusal.BadRoutes c.in_ok-replace.field-0 c.in_ok-replace.ensures.answer (sym c.is_err.ensures.value
    ∙ c.if-is_err.false)) in
    let rps = subst (λ rs. are_rps rs ≡ true) c.as_slice-2.ensures
    (test_held _ Refusal.BadRps c.in_ok-replace_rps.field-0 c.in_ok-replace_rps.ensures.answer
    (sym c.is_err-2.ensures.value ∙ c.if-is_err-2.false)) in
    let own = own_from_given c.args.config.now _ _ _ true c.are_own_addresses.ensures c.if-not-are_own_addresses.false
    c.as_slice-given.ensures c.as_slice-own.ensures in (
      all_accepted c.args.config.now tested
          (subst (λ xs. are_routes xs c.args.config.now.routes ≡ true) (ap (λ t. t.configured) made) routes) rps own,
      c.in_ok-world.ensures
          ∙ opens c.args.config.now c.settings_of.result c.in_ok-interfaces.interfaces c.replace_rps.new.self
          c.settings_of.ensures made
          (chosen _ _ _ _ c.in_ok-replace_rps.ensures.new
          (test_held _ Refusal.BadRps c.in_ok-replace_rps.field-0 c.in_ok-replace_rps.ensures.answer
          (sym c.is_err-2.ensures.value ∙ c.if-is_err-2.false))
          ∙ rw (
            chosen _ _ _ _ c.in_ok-replace.ensures.new
                (test_held _ Refusal.BadRoutes c.in_ok-replace.field-0 c.in_ok-replace.ensures.answer
                (sym c.is_err.ensures.value ∙ c.if-is_err.false)),
            c.as_slice.ensures,
            c.as_slice-2.ensures,
            c.new-mrib.ensures,
          ) refl),
    )

pub without_facts-requires-clause-least : goal.without_facts-requires-clause-least
unfolding settings_of
without_facts-requires-clause-least c =
    rw c.settings_of.ensures (querier_within c.args.config.now (sym c.test_settings.ensures ∙ c.in_default.is)).least

pub without_facts-requires-clause-most : goal.without_facts-requires-clause-most
unfolding settings_of
without_facts-requires-clause-most c =
    rw c.settings_of.ensures (querier_within c.args.config.now (sym c.test_settings.ensures ∙ c.in_default.is)).most

pub without_facts-requires-clause-interval : goal.without_facts-requires-clause-interval
unfolding settings_of
without_facts-requires-clause-interval c =
    rw c.settings_of.ensures (querier_within c.args.config.now (sym c.test_settings.ensures ∙ c.in_default.is)).interval
