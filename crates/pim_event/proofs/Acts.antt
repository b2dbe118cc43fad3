-- What an event is to do: of which event it is, and what was read for it.
use Rattle.std.{proofs.Common.{◌≡◌, ℕ, subst, sym, ◌∙◌}}
use Rattle.pim_types.{specs.declared.config.IfaceId.IfaceId}
use Rattle.pim_wire.{specs.Values.JoinPrune}
use Rattle.pim_model.{specs.{declared.accepted.Accepted.Accepted, Downstream.{joined_keys, pruned_keys}, State.State}}
use Rattle.pim_downstream.{specs.{Naming.changes_after, declared.named.Named.Named}}
use Rattle.pim_plan.{specs.{Acting.{HasHeard, HasKeys, control_event, act_event}, declared.act.{Act.Act, Control.Control}}}

-- none lets time pass
pub control_timeless : (control : Control) (m : ℕ) → ¬ (control_event control ≡ Accepted.Advance m)
control_timeless (Control.Up i) m is = cc is
control_timeless (Control.Down i) m is = cc is
control_timeless (Control.Routes table) m is = cc is
control_timeless (Control.Ranges table) m is = cc is
control_timeless (Control.Hello i from h) m is = cc is
control_timeless (Control.JoinPruneToMe i message named changes) m is = cc is
control_timeless (Control.JoinPruneSeen i message named) m is = cc is
control_timeless (Control.Assert i from a) m is = cc is
control_timeless (Control.Query i from q) m is = cc is
control_timeless (Control.Report i records) m is = cc is
control_timeless (Control.RegisterStop from stop) m is = cc is

pub timeless : (act : Act) (m : ℕ) → ¬ (act_event act ≡ Accepted.Advance m)
timeless (Act.Data i p sight) m is = cc is
timeless (Act.Register p r) m is = cc is
timeless (Act.Control control) m is = control_timeless control m is

-- ---- a Join/Prune

module _ (s : State) (control : Control) (i : IfaceId) (message : JoinPrune) (named : Named) where
  module _ (changes : _) (is : control ≡ Control.JoinPruneToMe i message named changes) (heard : HasHeard s control) where
    pub to_me_heard : HasKeys (joined_keys s i.number message) (pruned_keys i.number message) named
    to_me_heard = (subst (λ (x : Control). HasHeard s x) is heard).0

    pub to_me_changes : (holdtime : ℕ) → holdtime ≡ message.holdtime
        → changes.items ≡ changes_after s i.number holdtime named.joined.items named.pruned.items
    to_me_changes holdtime lasts =
        (subst (λ (x : Control). HasHeard s x) is heard).1
        ∙ sym (λ j. changes_after s i.number (lasts j) (to_me_heard.joins j) (to_me_heard.prunes j))

  pub seen_heard : control ≡ Control.JoinPruneSeen i message named → HasHeard s control
      → HasKeys (joined_keys s i.number message) (pruned_keys i.number message) named
  seen_heard is heard = subst (λ (x : Control). HasHeard s x) is heard
