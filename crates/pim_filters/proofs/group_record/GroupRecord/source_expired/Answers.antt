use Rattle.std.{proofs.Common.{◌≡◌, ℕ, true, false, ap, sym, subst, ◌∙◌, cond, filter, is_some, map, not, ◌==◌}}
use Rattle.pim_filters.{specs.Members.{IsAscending, member_entries, without_end}, proofs.Members.{IsAscending-filter, IsAscending-map, entries_of-filter, entries_of-write, entry_of-without_end, excluded_at, excluded_at-source}}
use Rattle.pim_model.specs.Records as records
use Rattle.pim_filters.proofs.group_record.GroupRecord.source_expired.Goals as goal

pub invariant_of-self : goal.invariant_of-self
invariant_of-self c =
    let src = c.args.source.bits in
    let entries = entries_of-write (without_end src) (excluded_at src) (entry_of-without_end src) c.self.inside.members c.as_mut_slice.result.now c.exclude.new.members c.as_mut_slice.ensures.value c.exclude.ensures in
    subst IsAscending (sym entries) (IsAscending-map (excluded_at src) (excluded_at-source src) _ c.self.invariant)

pub invariant_of-self-else-is_exclude : goal.invariant_of-self-else-is_exclude
invariant_of-self-else-is_exclude c =
    let stays = λ (e : records.Member). not (e.0 == c.args.source.bits) in
    let kept = ap member_entries c.remove.ensures ∙ entries_of-filter stays c.self.inside.members.items in
    subst IsAscending (sym kept) (IsAscending-filter stays _ c.self.invariant)

-- what a source's end leaves in either mode
in_exclude : (src : ℕ) (r : records.GroupRecord) → is_some r.timer ≡ true
    → records.source_expired src r ≡ record r { members = map (excluded_at src) r.members }
unfolding records.source_expired
in_exclude src r mode = ap (λ b. cond b (record r { members = map (excluded_at src) r.members }) (record r { members = filter (λ (e : records.Member). not (e.0 == src)) r.members })) mode

in_include : (src : ℕ) (r : records.GroupRecord) → is_some r.timer ≡ false
    → records.source_expired src r ≡ record r { members = filter (λ (e : records.Member). not (e.0 == src)) r.members }
unfolding records.source_expired
in_include src r mode = ap (λ b. cond b (record r { members = map (excluded_at src) r.members }) (record r { members = filter (λ (e : records.Member). not (e.0 == src)) r.members })) mode

pub returns-then-is_exclude : goal.returns-then-is_exclude
returns-then-is_exclude c =
    let src = c.args.source.bits in
    let entries = entries_of-write (without_end src) (excluded_at src) (entry_of-without_end src) c.self.inside.members c.as_mut_slice.result.now c.exclude.new.members c.as_mut_slice.ensures.value c.exclude.ensures in
    ap (λ es. record { timer = c.self.inside.timer; members = es }) entries
    ∙ ap (λ (r : records.GroupRecord). record r { members = map (excluded_at src) r.members }) c.self.view_is
    ∙ sym (in_exclude src c.args.self.now (sym c.is_exclude.ensures ∙ c.if-is_exclude.true))

pub returns-else-is_exclude : goal.returns-else-is_exclude
returns-else-is_exclude c =
    let src = c.args.source.bits in
    let stays = λ (e : records.Member). not (e.0 == src) in
    let kept = ap member_entries c.remove.ensures ∙ entries_of-filter stays c.self.inside.members.items in
    ap (λ es. record { timer = c.self.inside.timer; members = es }) kept
    ∙ ap (λ (r : records.GroupRecord). record r { members = filter stays r.members }) c.self.view_is
    ∙ sym (in_include src c.args.self.now (sym c.is_exclude.ensures ∙ c.if-is_exclude.false))
