use Rattle.std.{proofs.Common.{◌≡◌, ◌∙◌, ◌≤◌, ◌+◌, ℕ, cond, IfOk, OnErr, Option, Some, None, Result, Ok, Err, is_some, sym, arith}}
use Rattle.pim_types.{specs.Keys.{addr_cmp, key_cmp}}
use Rattle.pim_model.{specs.Tables.row_at}
use Rattle.igmp_older.{specs.declared.mode.PresentRow.PresentRow, proofs.Quieted.any_quiet}
use Rattle.igmp_older.proofs.presence.Presence.doubt.Goals as goal

-- a row in the place of one is none more
as_many : {E : Type 0} (r : Result (Option PresentRow) E) (found : Option PresentRow) (row : PresentRow) (before after limit : ℕ)
    → IfOk r (λ old. after ≡ before + cond (is_some old) 0 1) → IfOk r (λ old. old ≡ found) → OnErr r (found ≡ None) → found ≡ Some row
    → before ≤ limit → after ≤ limit
as_many (Err e) found row before after limit len old absent there h = cc
as_many (Ok None) found row before after limit len old absent there h = cc
as_many (Ok (Some x)) found row before after limit len old absent there h = omega (arith, len, h)

pub invariant_of-self : goal.invariant_of-self
unfolding row_at key_cmp addr_cmp
invariant_of-self c = (
  as_many c.insert.result _ _ _ _ c.self.inside.limit c.insert.ensures.len c.insert.ensures.old c.insert.ensures.absent
      (rw (← c.self.view_is) at (sym c.row.ensures ∙ c.in-Some.is)) (c.self.invariant).0,
  any_quiet c.insert.new.self.entries,
)
