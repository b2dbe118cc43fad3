-- What an event is to do: which event it is of, and what was read for it.
use Rattle.std.{specs.{Box.box_value, Prelude.{List, ◌≡◌, ℕ}}}
use Rattle.pim_types.{specs.declared.fact.Key.Key}
use Rattle.pim_model.{specs.{declared.accepted.Accepted.Accepted, Downstream.{joined_keys, pruned_keys}, State.State}}
use Rattle.pim_downstream.{specs.{Naming.changes_after, declared.named.Named.Named}}
use Rattle.pim_macros.{specs.{Sights.IsSourceSight, declared.sight.SourceSight.SourceSight}}
use Rattle.pim_plan.{specs.declared.act.{Act.Act, Control.Control}}

-- ---- of which event it is

abbrev pub control_event : Control → Accepted
control_event (Control.Up i) = Accepted.Up i
control_event (Control.Down i) = Accepted.Down i
control_event (Control.Routes table) = Accepted.Routes (box_value table).routes
control_event (Control.Ranges table) = Accepted.Rps (box_value table).ranges
control_event (Control.Hello i from h) = Accepted.Hello i from h
control_event (Control.JoinPruneToMe i m named changes) = Accepted.JoinPruneToMe i m
control_event (Control.JoinPruneSeen i m named) = Accepted.JoinPruneSeen i m
control_event (Control.Assert i from a) = Accepted.Assert i from a
control_event (Control.Query i from q) = Accepted.Query i from q
control_event (Control.Report i records) = Accepted.Report i records
control_event (Control.RegisterStop from stop) = Accepted.RegisterStop from stop

abbrev pub act_event : Act → Accepted
act_event (Act.Data i p sight) = Accepted.Data i p
act_event (Act.Register p r) = Accepted.Register p r
act_event (Act.Control control) = control_event control

-- ---- what was read for it

-- The keys that a Join/Prune names.
pub record HasKeys (joined pruned : List Key) (named : Named) : Type 0 where
  pub joins : named.joined.items ≡ joined
  pub prunes : named.pruned.items ≡ pruned

-- What is read for a packet of (S,G): the sight of its source.
pub record IsSightOf (s : State) (g src : ℕ) (sight : SourceSight) : Type 0 where
  pub shown : IsSourceSight s sight
  pub group : sight.star.group.bits ≡ g
  pub source : sight.source.bits ≡ src

-- What is read for a Join/Prune: its keys and, where it is to the router, what becomes of their rows.
abbrev pub HasHeard : State → Control → Type 0
HasHeard s (Control.JoinPruneToMe i m named changes) =
    HasKeys (joined_keys s i.number m) (pruned_keys i.number m) named
    × (changes.items ≡ changes_after s i.number m.holdtime (joined_keys s i.number m) (pruned_keys i.number m))
HasHeard s (Control.JoinPruneSeen i m named) = HasKeys (joined_keys s i.number m) (pruned_keys i.number m) named
HasHeard s _ = Unit {0}

abbrev pub HasRead : State → Act → Type 0
HasRead s (Act.Data i p sight) = IsSightOf s p.destination p.source (box_value sight)
HasRead s (Act.Control control) = HasHeard s control
HasRead s _ = Unit {0}
