use Rattle.std.{proofs.Common.{ap, not, subst, sym, ◌≡◌, false, ◌∙◌}}
use Rattle.pim_model.{specs.Tables.has_row}
use Rattle.pim_fanout.{specs.{Before.{IsSourceBefore, key_before, seen_key}, declared.before.SourceBefore.SourceBefore}, proofs.Same.{gone_is_changed, known_is_changed}}
use Rattle.pim_fanout.proofs.naming.differs.Goals as goal

pub returns-in-Unknown : goal.returns-in-Unknown
returns-in-Unknown c o a known after key =
    let sight = c.args.known.now.sight in
    let none = subst (λ (b : SourceBefore). IsSourceBefore a b) c.in-Unknown.is after in
    let same = subst (λ (b : SourceBefore). key_before b ≡ seen_key sight) c.in-Unknown.is key in
    sym (gone_is_changed o a sight.star.group.bits sight.source.bits known.fact
    (subst (λ k. has_row a.sources k ≡ false) same none))

pub returns-in-Known : goal.returns-in-Known
returns-in-Known c o a known after key =
    let sight = c.args.known.now.sight in
    let is = subst (λ (b : SourceBefore). IsSourceBefore a b) c.in-Known.is after in
    let same = subst (λ (b : SourceBefore). key_before b ≡ seen_key sight) c.in-Known.is key in
    ap not c.is_same_source.ensures ∙ known_is_changed o a c.args.known.now c.in-Known.after known is same
