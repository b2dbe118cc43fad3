-- A change that touches nothing: nothing is opened before it, nothing follows of it, and no source is named.
use Rattle.std.{proofs.Common.{◌≡◌, ℕ, List, [], append-nil, ap, refl, sym, ◌∙◌}}
use Rattle.pim_types.{specs.declared.{fact.Key.Key, outcome.Emission.Emission}}
use Rattle.pim_model.{specs.{declared.accepted.Accepted.Accepted, Messages.Message, State.State, Step.{change, taken}, Tables.ascending, Upstream.groups_of, Writing.write_all, Querier.each_in_turn}}
use Rattle.pim_state.{specs.{Turns.Taking, declared.touched.Touched.Touched}}
use Rattle.law_events.{specs.Locality.IsQuiet as IsQuietState}
use Rattle.pim_store.{specs.PimTables.{AreKeyed, pim_tables}}
use Rattle.pim_views.{specs.{Openings.opening_of}}
use Rattle.pim_register.{specs.Settling.{opened_source_keys, registers_by}}
use Rattle.pim_asserts.{specs.Opened.clear_by}
use Rattle.pim_upstream.{specs.Told.upstream_by}
use Rattle.pim_data.{specs.declared.leaving.Leaving.Leaving}
use Rattle.pim_fanout.{specs.{Before.opened_sources, Contains.Contains, Laws.names_of, Named.named_among}}
use Rattle.pim_settling.{specs.Settling.{AreNames, cleared_by, followed_by, settled_by}}
use Rattle.pim_event.{specs.Sending.Sends, proofs.Taking.{answered, taken_in_turn}}

pub none_opened : (s : State) → [] ≡ opening_of s (Touched.Keys [])
unfolding opening_of groups_of ascending
none_opened s = refl

none_named : (o changed : State) → [] ≡ names_of o changed (Touched.Keys [])
unfolding named_among opened_sources groups_of ascending
none_named o changed = refl

pub nothing_follows : (t : State) (messages : List Message) (w : ℕ) → write_all t messages ≡ settled_by [] t messages w
unfolding settled_by followed_by cleared_by clear_by registers_by opened_source_keys upstream_by each_in_turn
nothing_follows t messages w = ap (write_all t) (sym (append-nil messages))

-- what is done where nothing follows
pub taken_quietly : (s t : State) (a : Accepted) (leaving : Leaving) (turn changing : Taking) → IsQuietState s
    → AreKeyed (pim_tables t) → ((m : ℕ) → ¬ (a ≡ Accepted.Advance m))
    → ((w : ℕ) → Contains (Touched.Keys []) s (change s w a).state) → turn.messages ≡ []
    → Sends leaving t turn changing (change s turn.draw a)
    → answered (write_all t changing.messages) leaving.copies.items leaving.registered.items ≡ taken s turn.draw a
taken_quietly s t a leaving turn changing rests keyed timeless covers none sends =
    ap (λ (sent : State × List Emission). answered sent leaving.copies.items leaving.registered.items)
    (nothing_follows t changing.messages changing.draw)
    ∙ taken_in_turn s t a (Touched.Keys []) [] leaving turn turn changing rests keyed timeless covers (none_opened s) none
    refl sends

-- no source is named
pub named_quietly : (o changed : State) (touched : Touched) (names : List Key) → touched ≡ Touched.Keys []
    → Contains touched o changed → names ≡ [] → AreNames o changed touched names
named_quietly o changed touched names nothing covers none = record {
  covers = covers;
  are = none ∙ none_named o changed ∙ ap (names_of o changed) (sym nothing);
}
