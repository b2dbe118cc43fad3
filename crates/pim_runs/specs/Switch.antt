-- A router with a host, to which the RP's tree comes on one interface and the source's on another.
use Rattle.std.{specs.Prelude.{List, [], ◌∷◌, ◌≡◌, true}}
use Rattle.pim_types.{specs.declared.{config.Config.Config, event.Event.Event}}
use Rattle.pim_model.{specs.{State.{State, opening}, Step.{state_after, step}}}
use Rattle.pim_runs.{specs.{Base.{all_groups, base, interface, prefix, route_by, rp_for}, Words.{address, advance, frame, up}, ServedChain.{asked_group, hello_from, report, root, sender, sent_packet}}}
use Rattle.law_streams.{specs.Passing.{NoneEndsPassing, Passes, Receiver, Tree, ends_passing}}

abbrev pub switching : Config
switching = record base {
  interfaces = interface (address 10 0 3 1) ∷ interface (address 10 0 1 1) ∷ interface (address 10 0 4 1) ∷ [];
  routes =
      route_by 1 (address 10 0 1 2) (prefix (address 10 0 2 0) 24)
      ∷ route_by 2 (address 10 0 4 2) (prefix (address 10 9 9 0) 24) ∷ [];
  rps = rp_for all_groups root ∷ [];
}

abbrev pub meets : List Event
meets =
    up 7 0 ∷ up 7 1 ∷ up 7 2 ∷ frame 1 (hello_from (address 10 0 1 2)) ∷ frame 2 (hello_from (address 10 0 4 2))
    ∷ report ∷ []

abbrev pub asked : State
asked = state_after (opening switching) meets

-- packets come by the shared tree
abbrev pub on_shared : List Event
on_shared = frame 1 sent_packet ∷ advance 2000 ∷ frame 1 sent_packet ∷ []

abbrev pub still_shared : State
still_shared = state_after asked on_shared

-- a packet that comes on the source's tree
abbrev pub first_on_source : Event
first_on_source = frame 2 sent_packet

abbrev pub switched : State
switched = (step still_shared first_on_source).state

-- events after the switch, one of them a packet that still comes on the shared tree
abbrev pub on_source : List Event
on_source = frame 2 sent_packet ∷ advance 60000 ∷ frame 1 sent_packet ∷ frame 2 sent_packet ∷ advance 100000 ∷ []

-- until SPTbit the stream passes from the shared tree, which that packet ends, and then from the source's
pub record StreamChangesTree : Type 0 where
  pub shared : Passes Tree.Shared Receiver.Host asked asked_group sender 1 0
  pub stays : NoneEndsPassing Tree.Shared Receiver.Host asked on_shared asked_group sender 1 0
  pub ends : ends_passing Tree.Shared Receiver.Host still_shared first_on_source asked_group sender 1 0 ≡ true
  pub source : Passes Tree.Source Receiver.Host switched asked_group sender 2 0
  pub goes_on : NoneEndsPassing Tree.Source Receiver.Host switched on_source asked_group sender 2 0
