-- The record of a group whose interface is below 120 where it has sources, and after a timer of it has ended.
use Rattle.std.{proofs.{Common.{◌≡◌, ℕ, ◌<◌, ◌≤◌, List, Result, Ok, Err, IfOk, length, ap, subst, sym, ◌∙◌, arith}, lemmas.List.length-map}}
use Rattle.pim_filters.{specs.{Members.{member_entries, member_entry}, declared.member.Member.Member}}
use Rattle.pim_model.{specs.Records.{GroupRecord, group_expired, Member as Entry}}
use Rattle.law_settled.{proofs.ListLaws.filter_shorter}

-- the interface of this number is below 120 where there is an entry
abbrev pub IsNear : ℕ → List Entry → Type 0
IsNear n es = 0 < length es → n < 120

module _ (n : ℕ) where
  fewer : (a b : ℕ) → a ≤ b → (0 < b → n < 120) → 0 < a → n < 120
  fewer a b le near some = near (omega (arith, le, some))

  pub members_near : (ms : List Member) (es : List Entry) → member_entries ms ≡ es → IsNear n es → 0 < length ms → n < 120
  members_near ms es are near some =
      let as_many : length ms ≡ length es =
      sym (length-map ms member_entry) ∙ ap (λ (xs : List Entry). length xs) are in
      near (omega (arith, as_many, some))

  pub made_near : {E : Type 0} (made : Result GroupRecord E) (r : GroupRecord) → IfOk made (λ known. known ≡ r)
      → IsNear n r.members → IfOk made (λ known. IsNear n known.members)
  made_near (Ok known) r is near = subst (λ (x : GroupRecord). IsNear n x.members) (sym is) near
  made_near (Err refused) r is near = tt

  pub group_near : (now : ℕ) (r after : GroupRecord) → after ≡ group_expired now r → IsNear n r.members
      → IsNear n after.members
  unfolding group_expired
  group_near now r after is near =
      subst (λ (x : GroupRecord). IsNear n x.members) (sym is)
      (fewer (length (group_expired now r).members) (length r.members) (filter_shorter _ r.members) near)
