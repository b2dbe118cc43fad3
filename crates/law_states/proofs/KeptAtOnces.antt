-- A plane whose notes are told may have the router go on to the present at once.
use Rattle.std.{proofs.Common.{◌≡◌, ◌≤◌, true, sym, subst}}
use Rattle.pim_model.{specs.{State.{State, opening}, Step.state_after}}
use Rattle.law_settled.{specs.Laws.ends_after}
use Rattle.law_events.{proofs.{Rest.opening_is_at_rest, RowsOfRuns.few_opening}}
use Rattle.law_plane.{specs.{Split.{Split, split_ran, whole}, ToldLaws.no_plane_rows}, proofs.{Ends.{ends_later, no_ends}, Passes.ended_by, Splits.{Follows, opening_is_early, run_goes, whole_follows}, ToldRows.opening_is_told}}
use Rattle.law_states.{specs.{AtOnce.KeptAtOnce, Kept.told_notes}, proofs.{AtOnce.advance_at_once, KeptSplits.ran_near, KeptUp.{ToldBy, told_follows}, NearEnds.{EndsNear, opening_near}}}

pub kept_at_once : KeptAtOnce
kept_at_once c events w v m e on early =
    let x : Split = whole (opening c) no_plane_rows in
    let f : Follows x (opening c) =
    whole_follows (opening c) no_plane_rows (opening_is_at_rest c e) (opening_is_early c) (few_opening c e) (opening_is_told c) in
    let end : Split = (split_ran x events).1 in
    let g : Follows end (state_after (opening c) events) = (run_goes events x (opening c) f).1 in
    let near : EndsNear end.core = ran_near events x (opening_near c) in
    let told : ToldBy end.core g.quiet end.now w g.early g.ahead near.ends (ended_by no_ends end.owed) end.now
    (told_notes w end.core end.owed) =
    told_follows end (state_after (opening c) events) w g near in
    advance_at_once (told_notes w end.core end.owed) v end.now m (told.is).rests
    (subst (λ (t : State). t.present ≤ end.now) (sym (told.is).same) told.within) on early
    (subst (λ (t : State). ends_after end.now t ≡ true) (sym (told.is).same)
    (ends_later end.now (ended_by no_ends end.owed) told.late end.core told.at g.ahead))
