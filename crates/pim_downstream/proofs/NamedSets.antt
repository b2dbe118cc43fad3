-- Keys as a set that grows key by key.
use Rattle.std.{proofs.{Common.{◌≡◌, ◌<◌, ◌+◌, ◌∙◌, ◌||◌, Bool, List, ap, cond, false, get_or, length, refl, sym, take, true, ℕ}, lemmas.List.Folds.list_any_more}}
use Rattle.pim_types.{specs.{declared.fact.Key.Key, Keys.same_key}}
use Rattle.law_settled.{proofs.RowLaws.same_key_swap}
use Rattle.pim_model.{specs.Downstream.is_named}

-- a key that is put into a set of keys was named with those before it
or_last : (b c : Bool) → cond b true c ≡ (c || b)
or_last true true = refl
or_last true false = refl
or_last false true = refl
or_last false false = refl

pub next_named : (keys set more : List Key) (n : ℕ) (d k : Key) → n < length keys → k ≡ get_or keys n d
    → ((q : Key) → is_named more q ≡ cond (same_key k q) true (is_named set q))
    → ((q : Key) → is_named set q ≡ is_named (take n keys) q)
    → (q : Key) → is_named more q ≡ is_named (take (n + 1) keys) q
unfolding is_named
next_named keys set more n d k inside is has same q =
    has q
    ∙ ap (λ (b : Bool). cond (same_key k q) true b) (same q)
    ∙ or_last (same_key k q) (is_named (take n keys) q)
    ∙ ap (λ (b : Bool). is_named (take n keys) q || b) (same_key_swap k q ∙ ap (same_key q) is)
    ∙ sym (list_any_more (same_key q) keys n d inside)
