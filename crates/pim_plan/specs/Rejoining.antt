-- Which messages change no more than when the rows of their keys expire.
use Rattle.std.{specs.{List.list_all, Prelude.{Bool, List, None, Option, Some, false, filter, fold, is_none, nat_le, not, true, ℕ, ◌&&◌, ◌||◌}}}
use Rattle.pim_types.{specs.{declared.fact.{DownstreamRow.DownstreamRow, Key.Key}, Keys.{group_in, iface_in, is_of_group, is_on, is_star}}}
use Rattle.pim_model.{specs.{Downstream.holdtime_end, Sets.is_loser, State.State, Tables.{is_empty_list, keys_in, put, row_at}}}

-- a timestamp isn't later than another, where `None` is never; both are never, or neither is
abbrev pub is_no_later : Option ℕ → Option ℕ → Bool
is_no_later None None = true
is_no_later (Some a) (Some b) = nat_le a b
is_no_later _ _ = false

-- a Join that expires at this timestamp takes a row to it, and changes nothing else of the row
unfoldable pub is_extended : Option ℕ → Option DownstreamRow → Bool
is_extended end None = false
is_extended end (Some r) = is_none r.pending && is_no_later r.expiry end

-- the (S,G,rpt) rows of the group of a key, on its interface
unfoldable pub rpt_keys_at : State → Key → List Key
rpt_keys_at s k = filter (λ q. is_on (iface_in k) q && q.rpt && is_of_group (group_in k) q) (keys_in s.downstream)

-- a Join of (*,G) ends no row of (S,G,rpt); one of (S,G) never does
abbrev pub ends_none : State → Key → Bool
ends_none s k = not (is_star k) || is_empty_list (rpt_keys_at s k)

-- a Join of the key, of (*,G) or (S,G), that expires at this timestamp changes no more than when its row expires
unfoldable pub is_again : State → Option ℕ → Key → Bool
is_again s end k =
    not k.rpt && is_extended end (row_at s.downstream k) && not (is_loser (row_at s.asserts k)) && ends_none s k

-- a message that joins and prunes these keys prunes none, and changes no more than when the rows expire that it joins
unfoldable pub repeats : State → ℕ → List Key → List Key → Bool
repeats s holdtime joined pruned = is_empty_list pruned && list_all (is_again s (holdtime_end s holdtime)) joined

-- a row of (*,G) or (S,G) after a Join that takes it to this timestamp
abbrev pub row_until : Option ℕ → DownstreamRow
row_until end = record { expiry = end; pending = None }

-- the row put under a key
unfoldable pub row_put : DownstreamRow → State → Key → State
row_put row s k = record s { downstream = put s.downstream k row }

-- the row put under several keys
unfoldable pub rows_put : DownstreamRow → State → List Key → State
rows_put row s keys = fold (row_put row) s keys
