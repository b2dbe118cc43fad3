use Rattle.std.{proofs.{Common.{◌≡◌, ℕ, List, ◌≤◌, IfOk, fold, length, map, take, ap, subst, ◌∙◌, arith}, lemmas.List.take_all}}
use Rattle.pim_bootstrap.{specs.{declared.fragments.GroupRange.GroupRange, FragmentTexts.{begun, range_rps, with_texts}}, proofs.Packed.written}
use Rattle.pim_bootstrap.proofs.fragments.write_bootstrap.Goals as goal

pub returns : goal.returns
returns c =
    let ranges : List GroupRange = c.args.ranges.now in
    let l = c.loop-range in
    let over : length ranges ≤ l.range-index = omega arith in
    let all : take l.range-index ranges ≡ ranges = take_all l.range-index ranges over in
    let is = l.invariant ∙ ap (λ (rs : List GroupRange). fold (with_texts c.args.head) (begun c.args.head) (map range_rps rs)) all in
    subst (λ (texts : List (List ℕ)). IfOk c.finished.result (λ messages. map (λ bytes. bytes.items) messages.items ≡ texts))
    (written c.args.head (map range_rps ranges) l.filling is) c.finished.ensures
