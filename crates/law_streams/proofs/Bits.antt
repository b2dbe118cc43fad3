-- While a router joins the source nothing that follows of a change clears its SPTbit.
use Rattle.std.{proofs.{Common.{◌≡◌, ◌∙◌, ℕ, ◌<◌, not, Bool, true, false, List, [], ◌∷◌, find, length, Option, option_map, Some, refl, sym, ap, subst, arith}, lemmas.Bool.both_ways}}
use Rattle.pim_types.{specs.{Keys.{group_in, same_key, source_in, source_key}, declared.{fact.{AssertRow.AssertRow, DownstreamRow.DownstreamRow, Key.Key}}}, proofs.Keys.equal_keys}
use Rattle.pim_model.{specs.{Asserts.{assert_forgotten, without_spt, without_spt_bit}, Clearing.{ClearAssert, ClearSptBit, Cleared, assert_to_clear, clear, clear_all, clearable_count, cleared, spt_to_clear, to_clear}, Desires.join_desired, Registers.settle_registers, Sets.{assert_source, is_loser, spt_bit}, State.{Addressing, State}, Tables.{Table, change_row, has_row, row_at}}}
use Rattle.law_settled.{proofs.{RowLaws.row_change_away, TurnLaws.kept_to_the_end, Unsettled.{Untold, cleared_in_the_end}}}
use Rattle.law_streams.{specs.Bits.JoinKeepsSptBit, proofs.{Taken.{apart_keys, listed_source, wanted_source}, Rows.dropped_good, Settles.bit_of}}

-- what is found passes
found_passes : {X : Type 0} (p : X → Bool) (xs : List X) (x : X) → find p xs ≡ Some x → p x ≡ true
found_passes p [] x e = cc e
found_passes p (y ∷ ys) x e = grind (arith, found_passes p ys x)

not_true : (b : Bool) → not b ≡ true → b ≡ false
not_true b e = grind arith

-- a source whose SPTbit is to be cleared isn't wanted
bit_is_unwanted : (u : State) (k : Key) → spt_to_clear u ≡ Some (ClearSptBit k) → join_desired u (group_in k) (source_in k) ≡ false
unfolding spt_to_clear
bit_is_unwanted u k e = grind (arith, not_true, found_passes)

no_assert : (k : Key) (p : Option (Key × AssertRow)) → option_map (λ (e : Key × AssertRow). ClearAssert e.0 e.1) p ≡ Some (ClearSptBit k) → ⊥
no_assert k p f = grind arith

pub unwanted : (o u : State) (k : Key) → to_clear o u ≡ Some (ClearSptBit k) → join_desired u (group_in k) (source_in k) ≡ false
unfolding to_clear assert_to_clear
unwanted o u k e = grind (arith, bit_is_unwanted, no_assert)

module _ (g src i : ℕ) (cs : Addressing) (rows : Table DownstreamRow) (within : i < length cs.interfaces)
    (there : has_row rows (source_key i g src) ≡ true) where
  record Kept (u : State) : Type 0 where
    configured : u.configured ≡ cs
    downstream : u.downstream ≡ rows
    unlost : is_loser (assert_source u g src i) ≡ false
    set : bit_of (row_at u.sources (source_key 0 g src)) ≡ true

  wanted : (u : State) → Kept u → join_desired u g src ≡ true
  wanted u f =
      wanted_source u g src i (subst (λ (xs : Addressing). i < length xs.interfaces) (sym f.configured) within)
      (listed_source u g src i (ap (λ (t : Table DownstreamRow). has_row t (source_key i g src)) f.downstream ∙ there) f.unlost)

  one_cleared : (o u : State) (x : Cleared) → Kept u → to_clear o u ≡ Some x → Kept (cleared u x).0
  unfolding cleared assert_forgotten without_spt_bit
  one_cleared o u (ClearAssert k r) f next = record {
    configured = f.configured;
    downstream = f.downstream;
    unlost = dropped_good is_loser refl k (source_key i g src) u.asserts f.unlost;
    set = f.set;
  }
  one_cleared o u (ClearSptBit k) f next = record {
    configured = f.configured;
    downstream = f.downstream;
    unlost = f.unlost;
    set = go (same_key (source_key 0 g src) k) refl;
  }
    where
      go : (b : Bool) → same_key (source_key 0 g src) k ≡ b
          → bit_of (row_at (change_row without_spt k u.sources) (source_key 0 g src)) ≡ true
      go true same =
          let is : source_key 0 g src ≡ k = equal_keys (source_key 0 g src) k same in
          absurd (both_ways (join_desired u g src)
          (subst (λ (q : Key). join_desired u (group_in q) (source_in q) ≡ false) (sym is) (unwanted o u k next)) (wanted u f))
      go false off =
          ap bit_of (row_change_away k (source_key 0 g src) (apart_keys k (source_key 0 g src) off) without_spt u.sources) ∙ f.set

  all_cleared : (o u : State) → Kept u → Kept (clear o u).0
  unfolding clear clear_all settle_registers
  all_cleared o u f =
      kept_to_the_end (to_clear o) cleared Kept (λ v x h next. one_cleared o v x h next) (clearable_count (settle_registers u))
      (settle_registers u) (record { configured = f.configured; downstream = f.downstream; unlost = f.unlost; set = f.set })

pub join_keeps_spt_bit : JoinKeepsSptBit
unfolding spt_bit
join_keeps_spt_bit o c w g src i has set =
    ap (λ (u : Untold). bit_of (row_at u.sources (source_key 0 g src))) (cleared_in_the_end o c w)
    ∙ (all_cleared g src i (c.0).configured (c.0).downstream has.configured has.joined o c.0
    (record { configured = refl; downstream = refl; unlost = has.unlost; set = set })).set
