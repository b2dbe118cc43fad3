use Rattle.std.{proofs.{Common.{◌≡◌, ◌++◌, List, ℕ, length, ap, ◌∙◌}, lemmas.{List.length-map, Result.{on_ok_weaker, on_err_weaker}}}}
use Rattle.igmp_wire.{specs.Written.bits_of, proofs.WritingLaws.{appended, begins_longer}}
use Rattle.igmp_wire.proofs.write.append_query.Goals as goal

pub returns-clause-ok : goal.returns-clause-ok
returns-clause-ok c =
    let old = c.args.out.now.items in
    let count : length (bits_of c.args.sources.now) ≡ length c.args.sources.now = length-map c.args.sources.now (λ address. address.bits) in
    let first = c.in_ok-extend_from_slice.ensures.items ∙ ap (λ (xs : List ℕ). old ++ xs) c.fields.ensures in
    on_ok_weaker c.append_addresses.result (λ e. rw count (appended _ _ _ _ _ first e)) c.append_addresses.ensures.ok

pub returns-clause-err : goal.returns-clause-err
returns-clause-err c =
    on_err_weaker c.append_addresses.result (λ h. begins_longer _ _ _ _ c.in_ok-extend_from_slice.ensures.items h) c.append_addresses.ensures.err
