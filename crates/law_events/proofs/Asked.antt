-- Where no source beside those that are asked is named, it is enough to ask these.
use Rattle.std.{proofs.Common.{◌≡◌, Bool, false, cond, filter, List, [], ◌∷◌, refl, arith}}
use Rattle.pim_types.{specs.{declared.fact.Key.Key, Keys.{group_in, source_in}}}
use Rattle.pim_model.{specs.{Clearing.clear, State.State}}
use Rattle.law_events.{specs.Named.{is_source_named, named, named_by, named_where}}

module _ {X : Type 0} (p q : X → Bool) (none : (x : X) → q x ≡ false → p x ≡ false) where
  filter_step : (x : X) (xs : List X) (b c : Bool) → p x ≡ b → q x ≡ c → filter p xs ≡ filter p (filter q xs)
      → cond b (x ∷ filter p xs) (filter p xs) ≡ filter p (cond c (x ∷ filter q xs) (filter q xs))
  filter_step x xs b c e f ih = grind arith

  filter_first : (xs : List X) → filter p xs ≡ filter p (filter q xs)
  filter_first [] = refl
  filter_first (x ∷ xs) = filter_step x xs (p x) (q x) refl refl (filter_first xs)

pub asked_alone : (o changed : State) (asked : Key → Bool)
    → ((k : Key) → asked k ≡ false → is_source_named (group_in k) (source_in k) o (clear o changed).0 ≡ false)
    → named_by o changed ≡ named_where asked o changed
unfolding named_by named named_where
asked_alone o changed asked none = grind (arith, filter_first)
