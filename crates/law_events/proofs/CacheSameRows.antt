-- Where the macros answer the same, the rows do; and what is the same through a third is the same.
use Rattle.std.{proofs.Common.{◌≡◌, ℕ, ◌≤◌, Bool, true, false, cond, length, Option, Some, None, is_some, option_map, arith}}
use Rattle.pim_types.{specs.{declared.{config.SptSwitch.SptSwitch, fact.RegisterRow.RegisterRow}, Keys.{source_key, star_key}}}
use Rattle.pim_model.{specs.{Cache.{Answers, answers, is_contested}, Forwarding.is_spt_reached, Limits.most_ifaces, Registers.is_spt_wanted, State.State, Tables.has_row}}
use Rattle.law_events.{specs.{Keeps.KeepsAnswers, Kept.{SameAnswers, SameRow}}, proofs.{KeptSources.{empty_same, Low}, Reached.IsConfigured, NamedSameRows.there_alike, SameAnswers.row_has_role}}

-- ---- rows

pub answers_itself : (a : Answers) → SameAnswers a a
answers_itself a = grind arith

answers_through : (a b c : Answers) → SameAnswers a b → SameAnswers b c → SameAnswers a c
answers_through a b c x y = grind arith

pub row_itself : (o : Option Answers) → SameRow o o
row_itself o = grind (arith, answers_itself)

pub row_through : (a b c : Option Answers) → SameRow a b → SameRow b c → SameRow a c
row_through a b c x y = grind (arith, answers_through)

-- the row of a fact, which is in both or in none
pub facts_same : (a b : Bool) (x y : Answers) → a ≡ b → SameAnswers x y
    → SameRow (cond a (Some x) None) (cond b (Some y) None)
facts_same a b x y e same = grind arith

-- ---- answers

module _ (g src : ℕ) (o a : State) (config : IsConfigured o a) (few : length o.configured.interfaces ≤ most_ifaces)
    (kept : KeepsAnswers g src o a) where
  some_state : (r : Option RegisterRow) → is_some (option_map (λ (x : RegisterRow). x.state) r) ≡ is_some r
  some_state r = grind arith

  registered_same : has_row o.registers (source_key 0 g src) ≡ has_row a.registers (source_key 0 g src)
  unfolding has_row
  registered_same = grind (arith, some_state, there_alike)

  watches_same : is_spt_wanted o ≡ is_spt_wanted a
  watches_same = λ j. elim ((config.settings j).spt) [ SptSwitch.Always ↦ true | SptSwitch.Never ↦ false ]

  star_row : (i : ℕ) → Low i → has_row o.asserts (star_key i g) ≡ has_row a.asserts (star_key i g)
  unfolding has_row
  star_row i low = grind (arith, row_has_role)

  source_row : (i : ℕ) → Low i → has_row o.asserts (source_key i g src) ≡ has_row a.asserts (source_key i g src)
  unfolding has_row
  source_row i low = grind (arith, row_has_role)

  contested_at : (i : ℕ) → Low i → is_contested o g src i ≡ is_contested a g src i
  unfolding is_contested
  contested_at i low = grind (arith, source_row, star_row)

  reached_at : (i : ℕ) → Low i → is_spt_reached o g src i ≡ is_spt_reached a g src i
  unfolding is_spt_reached
  reached_at i low = grind (arith, empty_same)

  reaches_at : (i : ℕ) → Low i → (answers o g src).rpf ≡ Some i
      → (answers o g src).reaches ≡ (answers a g src).reaches
  unfolding answers
  reaches_at i low on = grind (arith, reached_at)

  pub kept_is_same : SameAnswers (answers o g src) (answers a g src)
  unfolding answers
  kept_is_same = grind (arith, registered_same, reaches_at, watches_same, contested_at)
