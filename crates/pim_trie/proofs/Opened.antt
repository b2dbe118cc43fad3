-- A node that a walk opened, with its key.
use Rattle.std.{proofs.Common.{◌≡◌, ◌∙◌, ℕ, length, Option, Some, None, IfSome, option_map, ap, sym, subst}, specs.Option.option_to_list}
use Rattle.slab.specs.Slab.{Slab, get}
use Rattle.pim_trie.{specs.{declared.node.Node.Node, Meter.raised}, proofs.Walks.raised-none}
use Rattle.std.{specs.Borrow.Bor}

module _ {V : Type 0} where
  -- the key of a node that was opened
  abbrev pub keyed : Option (ℕ × Bor (Node V)) → Option ℕ
  keyed o = option_map (λ f. f.0) o

  -- what was opened is the node at its key
  abbrev pub IsOpened : Slab (Node V) → Option (ℕ × Bor (Node V)) → Type 0
  IsOpened nodes o = IfSome o (λ f. get nodes f.0 ≡ Some (f.1).now)

  pub opened_there : (nodes : Slab (Node V)) (o : Option (ℕ × Bor (Node V))) → IsOpened nodes o
      → {x : ℕ × Bor (Node V)} → o ≡ Some x → get nodes x.0 ≡ Some (x.1).now
  opened_there nodes o opened {x} was = subst (IsOpened nodes) was opened

-- the count of a look-up that opens a node once more where there is a value
pub raised_none_there : {X : Type 0} (count before : ℕ) (o : Option X) → None ≡ o → count ≡ before
    → count ≡ raised before (length (option_to_list o))
raised_none_there count before o none is =
    is ∙ sym (raised-none before) ∙ ap (λ p. raised before (length (option_to_list p))) none

pub raised_one_there : {X : Type 0} (count before : ℕ) (o : Option X) (x : X) → Some x ≡ o → count ≡ before
    → raised count 1 ≡ raised before (length (option_to_list o))
raised_one_there count before o x some is =
    ap (λ n. raised n 1) is ∙ ap (λ p. raised before (length (option_to_list p))) some
