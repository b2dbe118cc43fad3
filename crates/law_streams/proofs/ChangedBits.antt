-- No change clears an SPTbit by itself.
use Rattle.std.{proofs.Common.{◌≡◌, ◌∙◌, ℕ, Bool, true, refl, ap, arith}}
use Rattle.pim_ip.{specs.Ipv4.Packet}
use Rattle.pim_types.{specs.{Keys.{same_key, source_key}, declared.fact.{AssertMetric.AssertMetric, Key.Key, SourceRow.SourceRow}}, proofs.Keys.equal_keys}
use Rattle.pim_wire.{specs.declared.assert.Assert.Assert as AssertMessage}
use Rattle.pim_model.{specs.{declared.accepted.Accepted.Accepted, Asserts.{assert_as_loser, assert_as_winner, assert_at, assert_forgotten, assert_in_no_info, assert_received, loses, loses_first, wins, wins_again, with_spt_bit}, Forwarding.{Forwarded, forwarded, list_chosen, register_at_rp, register_received, source_here, source_joined, spt_updated, watched, when}, Registers.{settle_register, with_keepalive}, Sets.spt_bit, State.State, Step.change, Tables.{Table, put, row_at}}}
use Rattle.law_settled.{proofs.{ListLaws.by_cond, RowLaws.{row_put, row_put_away}}}
use Rattle.law_streams.{specs.Bits.ChangeKeepsSptBit, proofs.{Taken.apart_keys, Changes.{same_sources, stray_sources}, Settles.bit_of}}

module _ (q : Key) where
  abbrev On : State → Type 0
  On t = bit_of (row_at t.sources q) ≡ true

  by_rows : (t u : Table SourceRow) → u ≡ t → bit_of (row_at t q) ≡ true → bit_of (row_at u q) ≡ true
  by_rows t u same f = ap (λ (x : Table SourceRow). bit_of (row_at x q)) same ∙ f

  put_on : (k : Key) (r : SourceRow) (t : Table SourceRow) → (same_key q k ≡ true → r.spt ≡ true)
      → bit_of (row_at t q) ≡ true → bit_of (row_at (put t k r) q) ≡ true
  put_on k r t set f = grind (arith, bit_of, equal_keys, row_put, row_put_away, apart_keys)

  keepalive_on : (s : State) (g src : ℕ) → On s → On (with_keepalive s g src)
  unfolding with_keepalive spt_bit
  keepalive_on s g src f = grind (arith, put_on, bit_of, equal_keys)

  when_on : (b : Bool) (s : State) (g src : ℕ) → On s → On (when b (λ t. with_keepalive t g src) s)
  when_on b s g src f = grind (arith, keepalive_on)

  bit_on : (s : State) (g src : ℕ) → On s → On (with_spt_bit s g src)
  unfolding with_spt_bit
  bit_on s g src f = put_on (source_key 0 g src) _ s.sources (λ same. refl) f

  -- ---- data, and Registers

  module _ (g src iif : ℕ) where
    here_on : (s : State) → On s → On (source_here s g src iif)
    unfolding source_here settle_register
    here_on s f = by_cond On _ _ _ (keepalive_on s g src f) f

    joined_on : (s : State) → On s → On (source_joined s g src iif)
    unfolding source_joined
    joined_on s f = when_on _ s g src f

    updated_on : (s : State) → On s → On (spt_updated s g src iif)
    unfolding spt_updated
    updated_on s f = grind (arith, bit_on)

    watched_on : (s : State) → On s → On (watched s g src)
    unfolding watched
    watched_on s f = when_on _ s g src f

    chosen_on : (s : State) → On s → On (list_chosen s g src iif).state
    unfolding list_chosen
    chosen_on s f = grind (arith, watched_on, by_rows, stray_sources)

    data_on : (s : State) → On s → On (forwarded s g src iif).state
    unfolding forwarded
    data_on s f = chosen_on _ (updated_on _ (joined_on _ (here_on s f)))

  register_on : (s : State) (p : Packet) (g src : ℕ) (is_null : Bool) → On s → On (register_received s p g src is_null).state
  unfolding register_received register_at_rp
  register_on s p g src is_null f = by_cond (λ (x : Forwarded). On x.state) _ _ _ (when_on _ s g src f) f

  -- ---- an Assert

  assert_on : (s : State) (k : Key) (theirs : AssertMetric) → On s → On (assert_at s k theirs).0
  unfolding assert_at assert_in_no_info assert_as_winner assert_as_loser wins wins_again loses loses_first assert_forgotten
  assert_on s k theirs f = grind (arith, bit_on)

  received_on : (s : State) (i from : ℕ) (a : AssertMessage) → On s → On (assert_received s i from a).0
  unfolding assert_received
  received_on s i from a f = grind (arith, by_cond, assert_on)

  -- ---- any change

  changed_on : (s : State) (w : ℕ) (a : Accepted) → On s → On (change s w a).state
  unfolding change
  changed_on s w a f = grind (arith, received_on, data_on, register_on, by_rows, same_sources)

pub change_keeps_spt_bit : ChangeKeepsSptBit
unfolding spt_bit
change_keeps_spt_bit s w a g src set = changed_on (source_key 0 g src) s w a set
