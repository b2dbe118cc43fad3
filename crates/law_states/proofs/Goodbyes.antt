-- Goodbyes: where no interface has another address none leaves.
use Rattle.std.{proofs.Common.{◌≡◌, ℕ, ◌==◌, ◌&&◌, not, Bool, true, false, [], length, map, refl, ap, eq-eqb}}
use Rattle.pim_ip.{specs.Checksum.{ones, sum16, sum_of_words, with_checksum}}
use Rattle.pim_wire.{specs.{Encoded.pim_text, Hellos.{hello_of, hello_test, is_option_length, option_test, options_test, with_option, with_options}, Messages.{body_reading, is_checksum_right, pim_reading}}}
use Rattle.pim_model.{specs.{State.{Addressing, State, address_among, is_up}, Tables.below}}
use Rattle.law_events.{proofs.Differing.none_left}
use Rattle.law_states.{specs.{ReloadLaws.GoodbyeReads, Reloading.{goodbye, goodbyes, leaves_address}}}

module _ (s : State) (configured : Addressing)
    (same : (i : ℕ) → is_up s i ≡ true → address_among s.configured i ≡ address_among configured i) where
  none_leaves : (i : ℕ) → leaves_address s configured i ≡ false
  unfolding leaves_address
  none_leaves i = by (is_up s i) refl
    where
      by : (b : Bool) → is_up s i ≡ b
          → (b && not (address_among s.configured i == address_among configured i)) ≡ false
      by true up = ap not (eq-eqb _ _ (same i up))
      by false down = refl

  pub none_say : goodbyes s configured ≡ []
  unfolding goodbyes
  none_say = ap (map (goodbye s)) (none_left (leaves_address s configured) none_leaves (below (length configured.interfaces)))

pub goodbye_reads : GoodbyeReads
unfolding pim_reading is_checksum_right body_reading hello_test hello_of options_test option_test is_option_length with_options with_option pim_text with_checksum sum16 sum_of_words ones
goodbye_reads = refl
