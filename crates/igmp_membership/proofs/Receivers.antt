-- The receivers of a group and its sources, by the interfaces that are listed of each.
use Rattle.std.{proofs.Common.{◌≡◌, ◌&&◌, ℕ, Bool, false, not, Option, Some, None, is_none, is_some, refl, ap}, specs.Option.option_map_or}
use Rattle.pim_types.{specs.{declared.fact.{GroupRecordRow.GroupRecordRow, SourceRecordRow.SourceRecordRow}, Keys.{source_key, star_key}}}
use Rattle.pim_model.{specs.{Receivers.{is_exclude_among, local_receiver_exclude_among, local_receiver_include_among}, Tables.{Table, has_row, row_at}}}

-- a source that is listed without an end
excluded : (o : Option SourceRecordRow)
    → (is_some o && not (option_map_or (λ (r : SourceRecordRow). is_some r.end) o false))
    ≡ option_map_or (λ (r : SourceRecordRow). is_none r.end) o false
excluded None = refl
excluded (Some r) = go r.end
  where
    go : (end : Option ℕ) → not (is_some end) ≡ is_none end
    go None = refl
    go (Some x) = refl

module _ (groups : Table GroupRecordRow) (sources : Table SourceRecordRow) (g src i : ℕ) where
  abbrev pub group_runs : Bool
  group_runs = option_map_or (λ (r : GroupRecordRow). is_some r.end) (row_at groups (star_key i g)) false

  abbrev source_runs : Bool
  source_runs = option_map_or (λ (r : SourceRecordRow). is_some r.end) (row_at sources (source_key i g src)) false

  pub included_is : ((has_row groups (star_key i g) && not group_runs) && has_row sources (source_key i g src))
      ≡ local_receiver_include_among groups sources g src i
  unfolding local_receiver_include_among is_exclude_among has_row
  included_is = refl

  pub excluded_is : (group_runs && (has_row sources (source_key i g src) && not source_runs))
      ≡ local_receiver_exclude_among groups sources g src i
  unfolding local_receiver_exclude_among is_exclude_among has_row
  excluded_is = ap (λ (b : Bool). group_runs && b) (excluded (row_at sources (source_key i g src)))
