-- What is heard, one key after the other.
use Rattle.std.{proofs.{Common.{◌≡◌, ◌<◌, ◌+◌, ◌++◌, ◌∙◌, ◌∷◌, Bool, List, [], None, Option, Some, ap, append_assoc, false, get_or, length, not, sym, take, true, ℕ}, lemmas.List.{flat_map_more, take_more}}, specs.{List.flat_map, Bool.beq, Prelude.{if◌then◌else◌, is_none, is_some}}}
use Rattle.pim_ip.{specs.declared.addr.Addr.Addr}
use Rattle.pim_types.{specs.{declared.{fact.{JoinTimerRow.JoinTimerRow, Key.Key}, path.Hop.Hop}, Keys.is_star}}
use Rattle.pim_model.{specs.{State.State, Tables.{Table, same_bool}}}
use Rattle.pim_upstream.{specs.{Hearing.{heard_in_join, heard_in_joins, heard_of_timer, heard_of_timers}, declared.timer.TimerMove.TimerMove}}

-- the Join timers of a group, one after the other
module _ (s : State) (hop : Hop) (end : ℕ) (group : Addr) where
  pub next_heard_of : (before after : List TimerMove) (k : Key) (row : JoinTimerRow) (left rest : Table JoinTimerRow)
      → left ≡ (k, row) ∷ rest → after ≡ before ++ heard_of_timer s hop end group k
      → after ++ heard_of_timers s hop end group rest ≡ before ++ heard_of_timers s hop end group left
  unfolding heard_of_timers
  next_heard_of before after k row left rest is more =
      ap (λ ms. ms ++ heard_of_timers s hop end group rest) more
      ∙ append_assoc before (heard_of_timer s hop end group k) (heard_of_timers s hop end group rest)
      ∙ ap (λ es. before ++ heard_of_timers s hop end group es) (sym is)

-- a key is of a group, or of a source
pub is_asked : (source : Option Addr) (none star b : Bool) → is_some source ≡ not none → beq none star ≡ b
    → same_bool star (is_none source) ≡ b
is_asked None true true b e f = f
is_asked None true false b e f = f
is_asked (Some a) false true b e f = f
is_asked (Some a) false false b e f = f
is_asked None false star b e f = cc
is_asked (Some a) true star b e f = cc

-- the keys of Joins, one after the other
module _ (s : State) (hop : Hop) (end : ℕ) (star : Bool) (keys : List Key) (i : ℕ) (d k : Key) (within : i < length keys)
    (is : k ≡ get_or keys i d) where
  pub next_in_joins : (others before after : List TimerMove) → before ≡ others ++ heard_in_joins s hop end star (take i keys)
      → after ≡ before ++ (if same_bool star (is_star k) then heard_in_join s hop end k else [])
      → after ≡ others ++ heard_in_joins s hop end star (take (i + 1) keys)
  unfolding heard_in_joins
  next_in_joins others before after so_far more =
      let heard : Key → List TimerMove = λ q. if same_bool star (is_star q) then heard_in_join s hop end q else [] in
      more
      ∙ ap (λ ms. ms ++ heard k) so_far
      ∙ flat_map_more heard others (take i keys) k
      ∙ ap (λ q. others ++ flat_map heard (take i keys ++ q ∷ [])) is
      ∙ ap (λ ks. others ++ flat_map heard ks) (sym (take_more keys i d within))
