-- The packet of a goodbye.
use Rattle.std.{proofs.Common.{◌≡◌, ◌++◌, ℕ, List, [], ◌∷◌, refl, ap, ◌∙◌}}
use Rattle.pim_ip.{specs.{Checksum.{ones, sum16, sum_of_words, with_checksum}, Ipv4.{all_pim_routers, pim_packet_text}}}
use Rattle.pim_wire.{specs.Encoded.pim_text}
use Rattle.pim_model.{specs.{State.{State, my_address}, Writing.{on_link, pim_on_link}}}
use Rattle.law_states.{specs.Reloading.{goodbye, goodbye_text}}

abbrev written : List ℕ
written = 0x20 ∷ 0 ∷ 0xdf ∷ 0xfc ∷ 0 ∷ 1 ∷ 0 ∷ 2 ∷ 0 ∷ 0 ∷ []

goodbye_is : written ≡ goodbye_text
unfolding pim_text with_checksum sum16 sum_of_words ones
goodbye_is = refl

pub goodbye_packet : (s : State) (i n : ℕ) (bytes items before : List ℕ) → bytes ≡ items
    → items ≡ before ++ pim_packet_text 1 n all_pim_routers written → before ≡ [] → n ≡ my_address s i
    → on_link i bytes ≡ goodbye s i
unfolding goodbye pim_on_link
goodbye_packet s i n bytes items before same writes none from =
    ap (on_link i)
    (same ∙ writes ∙ ap (λ (b : List ℕ). b ++ pim_packet_text 1 n all_pim_routers written) none
    ∙ (λ j. pim_packet_text 1 (from j) all_pim_routers (goodbye_is j)))
