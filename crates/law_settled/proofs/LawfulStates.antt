-- A lawful state is fine where all that ends ends late, and what is fine is lawful.
use Rattle.std.{proofs.Common.{◌≡◌, ℕ, Bool, true, refl, List, arith}, specs.List.{AllByRecursion, list_all}}
use Rattle.pim_model.{specs.State.{State, is_up}}
use Rattle.law_settled.{proofs.{ListLaws.{each_more, each_both, each_of_list, list_of_each, each_of_all}, Parts.{Asserts, Downstreams, GroupRecords, GroupRepeats, Interfaces, JoinTimers, Neighbours, OverrideTimers, Part, Queriers, Registers, Sendings, SourceRecords, SourceRepeats, Sources, rows, is_sound}, ShownEnds.fine_of, RisingKeys.sorted_of_up, FineStates.{FineAt, Good, IsFine, AreLate, good, good_is_placed, good_is_sound, is_placed, placed_if}}, specs.{Laws.{IsFirable, is_querier_entry, is_under_source, is_under_star}, Ready.{IsLawful, IsOrdered, IsTidy, Rises}}}

-- all that ends in a state ends late
abbrev pub EndsLate : (ℕ → Bool) → State → Type 0
EndsLate late s = (p : Part) → AllByRecursion (AreLate late p) (rows p s)

module _ (s : State) (f : IsLawful s) where
  rising : (p : Part) → Rises (rows p s)
  rising Interfaces = f.ordered.interfaces
  rising Neighbours = f.ordered.neighbours
  rising Queriers = f.ordered.queriers
  rising GroupRecords = f.ordered.group_records
  rising SourceRecords = f.ordered.source_records
  rising GroupRepeats = f.ordered.group_repeats
  rising SourceRepeats = f.ordered.source_repeats
  rising Sendings = f.ordered.sendings
  rising Downstreams = f.ordered.downstream
  rising Asserts = f.ordered.asserts
  rising JoinTimers = f.ordered.join_timers
  rising OverrideTimers = f.ordered.override_timers
  rising Sources = f.ordered.sources
  rising Registers = f.ordered.registers

  -- a test that all pass
  passed : {X : Type 0} (xs : List X) → AllByRecursion (λ (x : X). true ≡ true) xs
  passed xs = each_of_all (λ x. true ≡ true) (λ x. refl) xs

  sound : (p : Part) → AllByRecursion (λ e. is_sound p e ≡ true) (rows p s)
  sound Queriers = each_of_list is_querier_entry s.queriers f.firable.queriers
  sound GroupRecords = each_of_list is_under_star s.group_records f.firable.group_records
  sound SourceRecords = each_of_list is_under_source s.source_records f.firable.source_records
  sound GroupRepeats = each_of_list is_under_star s.group_repeats f.firable.group_repeats
  sound SourceRepeats = each_of_list is_under_star s.source_repeats f.firable.source_repeats
  sound p = passed (rows p s)

  placed : (p : Part) → AllByRecursion (λ e. is_placed (is_up s) p e ≡ true) (rows p s)
  placed Neighbours = each_of_list (is_placed (is_up s) Neighbours) s.neighbours f.tidy.neighbours
  placed Queriers = each_of_list (is_placed (is_up s) Queriers) s.queriers f.tidy.queriers
  placed GroupRecords = each_of_list (is_placed (is_up s) GroupRecords) s.group_records f.tidy.group_records
  placed SourceRecords = each_of_list (is_placed (is_up s) SourceRecords) s.source_records f.tidy.source_records
  placed GroupRepeats = each_of_list (is_placed (is_up s) GroupRepeats) s.group_repeats f.tidy.group_repeats
  placed SourceRepeats = each_of_list (is_placed (is_up s) SourceRepeats) s.source_repeats f.tidy.source_repeats
  placed Sendings = each_of_list (is_placed (is_up s) Sendings) s.sendings f.tidy.sendings
  placed Downstreams = each_of_list (is_placed (is_up s) Downstreams) s.downstream f.tidy.downstream
  placed Asserts = each_of_list (is_placed (is_up s) Asserts) s.asserts f.tidy.asserts
  placed Sources = each_of_list (is_placed (is_up s) Sources) s.sources f.tidy.sources
  placed p = passed (rows p s)

  module _ (late : ℕ → Bool) (ends : EndsLate late s) where
    table : (p : Part) → FineAt s.present late (is_up s) p s
    table p =
        fine_of (Good late (is_up s) p) (rows p s) (rising p)
        (each_both (λ e. (is_sound p e ≡ true) × AreLate late p e) (λ e. is_placed (is_up s) p e ≡ true) _
        (λ e g h. good late (is_up s) p e g.0 g.1 h) (rows p s)
        (each_both (λ e. is_sound p e ≡ true) (AreLate late p) _ (λ e g h. (g, h)) (rows p s) (sound p) (ends p))
        (placed p))

    pub lawful_is_fine : IsFine s.present late (is_up s) s
    lawful_is_fine = grind (arith, table)

-- ---- a fine state is lawful

module _ (m : ℕ) (late up : ℕ → Bool) (s : State) (f : IsFine m late up s) where
  pub its_order : IsOrdered s
  its_order = record {
    interfaces = sorted_of_up s.interfaces (f.tables Interfaces).up;
    neighbours = sorted_of_up s.neighbours (f.tables Neighbours).up;
    queriers = sorted_of_up s.queriers (f.tables Queriers).up;
    group_records = sorted_of_up s.group_records (f.tables GroupRecords).up;
    source_records = sorted_of_up s.source_records (f.tables SourceRecords).up;
    group_repeats = sorted_of_up s.group_repeats (f.tables GroupRepeats).up;
    source_repeats = sorted_of_up s.source_repeats (f.tables SourceRepeats).up;
    sendings = sorted_of_up s.sendings (f.tables Sendings).up;
    downstream = sorted_of_up s.downstream (f.tables Downstreams).up;
    asserts = sorted_of_up s.asserts (f.tables Asserts).up;
    join_timers = sorted_of_up s.join_timers (f.tables JoinTimers).up;
    override_timers = sorted_of_up s.override_timers (f.tables OverrideTimers).up;
    sources = sorted_of_up s.sources (f.tables Sources).up;
    registers = sorted_of_up s.registers (f.tables Registers).up;
  }

  all_placed : (p : Part) → list_all (is_placed (is_up s) p) (rows p s) ≡ true
  all_placed p = grind (arith, list_of_each, is_placed, rows, each_more, placed_if, good_is_placed)

  all_sound : (p : Part) → list_all (is_sound p) (rows p s) ≡ true
  all_sound p = grind (arith, list_of_each, is_sound, rows, each_more, good_is_sound)

  pub its_tidiness : IsTidy s
  its_tidiness = record {
    neighbours = all_placed Neighbours;
    queriers = all_placed Queriers;
    group_records = all_placed GroupRecords;
    source_records = all_placed SourceRecords;
    group_repeats = all_placed GroupRepeats;
    source_repeats = all_placed SourceRepeats;
    sendings = all_placed Sendings;
    downstream = all_placed Downstreams;
    asserts = all_placed Asserts;
    sources = all_placed Sources;
  }

  pub its_firing : IsFirable s
  its_firing = record {
    robustness = f.firm.robustness;
    query_interval = f.firm.query_interval;
    last_member_query_interval = f.firm.last_member_query_interval;
    queriers = all_sound Queriers;
    group_records = all_sound GroupRecords;
    source_records = all_sound SourceRecords;
    group_repeats = all_sound GroupRepeats;
    source_repeats = all_sound SourceRepeats;
  }

  pub fine_is_lawful : IsLawful s
  fine_is_lawful = record { ordered = its_order; firable = its_firing; tidy = its_tidiness }
