-- What follows of another configuration, by what was opened.
use Rattle.std.{proofs.Common.{◌≡◌, ◌++◌, List, [], inl, not, refl, sym, subst, ap, ◌∙◌}}
use Rattle.pim_types.{specs.{declared.config.Config.Config, Keys.{is_of_group, names_source}}}
use Rattle.pim_model.{specs.{Messages.Message, State.{addressing_of, State, settings_of}, Upstream.fact_keys, Unicast.with_ranges}}
use Rattle.law_settled.{proofs.{FewerFacts.{IsFewer, fewer_both, no_other, rows_left, table_fewer}, Parts.Asserts}}
use Rattle.law_events.{specs.Rest.IsAtRest}
use Rattle.pim_store.{specs.PimTables.{AreKeyed, pim_tables}}
use Rattle.pim_state.{specs.{Turns.{Taking, saying}, declared.touched.Touched.Touched}}
use Rattle.pim_views.{specs.{Covers.IsWithin, Openings.opening_of, declared.opening.GroupOpening.GroupOpening}}
use Rattle.pim_settling.{specs.Settling.settled_by, proofs.Settling.settled_as_opened}
use Rattle.pim_plan.{proofs.Tunnelled.rps_leave_facts}
use Rattle.law_states.{specs.{Reload.config_of, Reloading.{asserts_under, hellos_anew, is_won_before, queriers_under, replaced, under}}}

within_so : (s t : State) → IsFewer s t → IsWithin s t
within_so s t fewer = record {
  groups = λ g there. fewer.passed (is_of_group g) there;
  sources = λ g src there. fewer.passed (names_source g src) there;
}

module _ (o : State) (c : Config) where
  abbrev moved : State
  moved = record o {
    settings = settings_of c;
    configured = addressing_of c;
    routes = c.routes;
    queriers = queriers_under o (settings_of c);
    asserts = asserts_under o (addressing_of c);
  }

  forgetful : State
  forgetful = record o { asserts = asserts_under o (addressing_of c) }

  forgetful_leaves_facts : IsFewer o forgetful
  unfolding forgetful asserts_under
  forgetful_leaves_facts =
      table_fewer Asserts o (asserts_under o (addressing_of c))
      (rows_left (λ e. not (is_won_before o (addressing_of c) e)) o.asserts)

  moved_leaves_facts : IsFewer o moved
  unfolding fact_keys forgetful
  moved_leaves_facts = fewer_both o forgetful moved forgetful_leaves_facts (no_other forgetful moved refl)

  pub under_within : IsWithin o (under o c)
  unfolding under
  under_within =
      within_so o (under o c) (fewer_both o moved (under o c) moved_leaves_facts (rps_leave_facts moved (with_ranges o.ranges c.rps)))

-- what follows is what follows of what was opened
pub followed : (o next a : State) (opening : List GroupOpening) (first said : Taking) → IsAtRest o
    → AreKeyed (pim_tables a) → opening ≡ opening_of o Touched.All → a ≡ under o (config_of next)
    → said ≡ saying first (hellos_anew o next.configured) → first.messages ≡ []
    → settled_by opening a said.messages said.draw ≡ replaced o (config_of next) first.draw
unfolding replaced config_of
followed o next a opening first said rest keyed opens is says none =
    let messages : said.messages ≡ hellos_anew o next.configured =
    ap (λ (t : Taking). t.messages) says ∙ ap (λ (ms : List Message). ms ++ hellos_anew o next.configured) none in
    let draw : said.draw ≡ first.draw = ap (λ (t : Taking). t.draw) says in
    (λ j. settled_by (opens j) (is j) (messages j) (draw j))
    ∙ sym (settled_as_opened o (under o (config_of next)) rest.quiet
    (subst (λ (x : State). AreKeyed (pim_tables x)) is keyed) (hellos_anew o next.configured) first.draw Touched.All
    (inl (inl (under_within o (config_of next)))))
