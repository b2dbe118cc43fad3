-- What follows of a change leaves most tables alone: registers are settled, asserts and SPTbits cleared, timers moved
-- upstream, and Hellos paid.
use Rattle.std.{proofs.Common.{◌≡◌, ◌∙◌, ℕ, List, refl, ap}}
use Rattle.pim_types.{specs.declared.{config.{Route.Route, RpTable.RpTable, Settings.Settings}, fact.{AssertRow.AssertRow, DownstreamRow.DownstreamRow, GroupRecordRow.GroupRecordRow, GroupRepeatRow.GroupRepeatRow, NeighbourRow.NeighbourRow, RegisterRow.RegisterRow, SendingRow.SendingRow, SourceRecordRow.SourceRecordRow, SourceRepeatRow.SourceRepeatRow, SourceRow.SourceRow}}}
use Rattle.pim_model.{specs.{Asserts.{assert_forgotten, without_spt_bit}, Clearing.clear, Firing.settled, Messages.Message, Registers.settle_registers, State.{Addressing, State}, Tables.Table, Upstream.{moved_join_timer, moved_override_timer, upstream}, Writing.write_all}}
use Rattle.law_settled.{proofs.SettlingLaws.{kept_by_clearing, kept_by_telling}}

pub record Unsettled : Type 0 where
  pub settings : Settings
  pub configured : Addressing
  pub present : ℕ
  pub routes : List Route
  pub ranges : RpTable
  pub neighbours : Table NeighbourRow
  pub group_records : Table GroupRecordRow
  pub source_records : Table SourceRecordRow
  pub group_repeats : Table GroupRepeatRow
  pub source_repeats : Table SourceRepeatRow
  pub sendings : Table SendingRow
  pub downstream : Table DownstreamRow

abbrev pub unsettled : State → Unsettled
unsettled s = record {
  settings = s.settings;
  configured = s.configured;
  present = s.present;
  routes = s.routes;
  ranges = s.ranges;
  neighbours = s.neighbours;
  group_records = s.group_records;
  source_records = s.source_records;
  group_repeats = s.group_repeats;
  source_repeats = s.source_repeats;
  sendings = s.sendings;
  downstream = s.downstream;
}

-- an unsettled state with what is cleared or settled, which no message changes
pub record Untold : Type 0 where
  pub unsettled : Unsettled
  pub asserts : Table AssertRow
  pub sources : Table SourceRow
  pub registers : Table RegisterRow

abbrev pub untold : State → Untold
untold s = record { unsettled = unsettled s; asserts = s.asserts; sources = s.sources; registers = s.registers }

pub clearing_leaves : (o s : State) → unsettled (clear o s).0 ≡ unsettled s
unfolding settle_registers assert_forgotten without_spt_bit
clearing_leaves o s = kept_by_clearing (λ t. unsettled t ≡ unsettled s) (λ t k f. f) (λ t k f. f) o s refl

pub telling_leaves : (o a : State) (w : ℕ) → untold (upstream o a w).0 ≡ untold a
unfolding moved_join_timer moved_override_timer
telling_leaves o a w =
    kept_by_telling (λ n. Unit {0}) a w (λ d some. tt) (λ t. untold t ≡ untold a) (λ s k change fair f. f)
    (λ s k change fair f. f) o refl

writing_leaves : (s : State) (messages : List Message) → untold (write_all s messages).0 ≡ untold s
unfolding write_all
writing_leaves s messages = refl

module _ (o : State) (change : State × List Message) (w : ℕ) where
  pub cleared_in_the_end : untold (settled o change w).0 ≡ untold (clear o change.0).0
  unfolding settled
  cleared_in_the_end = writing_leaves _ _ ∙ telling_leaves o (clear o change.0).0 w

  pub settling_leaves : unsettled (settled o change w).0 ≡ unsettled change.0
  settling_leaves = ap (λ (u : Untold). u.unsettled) cleared_in_the_end ∙ clearing_leaves o change.0
