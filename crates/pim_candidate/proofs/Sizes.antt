-- Messages that are sent fit into packets.
use Rattle.std.{proofs.{Common.{◌≡◌, ℕ, ◌+◌, ◌*◌, ◌≤◌, ◌<◌, ◌^◌, true, nat_le, nat_lt, List, [], ◌∷◌, length, map, drop, get_or, refl, ap, arith}, lemmas.{Bool.Decides.nat_tests, List.Elements.{All-cons, All-head, All-map, All-nil, All-tail}}}, specs.{Global.Vec, List.{All, flat_map}}}
use Rattle.pim_ip.{specs.Checksum.with_checksum}
use Rattle.pim_wire.{specs.Encoded.pim_text}
use Rattle.pim_bootstrap.{specs.{declared.{advertisement.AdvertisedRange.AdvertisedRange, fragments.{BootstrapHead.BootstrapHead, GroupRange.GroupRange}}, Advertisements.{advertised_text, advertisement_text}, Bootstraps.{Bootstrap, bootstrap_text}, Fragments.{Fits, IsCounted, fragments}, FragmentTexts.{IsWritable, range_rps}}, proofs.Packed.fragments_fit}
use Rattle.pim_bsr.{proofs.Lists.{and_second, length-map_of}}
use Rattle.pim_candidate.{specs.Candidacy.{IsSendable, StandingRp, advertised_range, advertisement_bytes, is_advertised}}

-- ---- Bootstraps

each_sendable : (vs : List (Vec ℕ)) (ms : List Bootstrap) → map (λ (bytes : Vec ℕ). bytes.items) vs ≡ map bootstrap_text ms → All Fits ms
    → All IsSendable vs
each_sendable [] ms is fit = All-nil IsSendable
each_sendable (v ∷ vs) [] is fit = cc
each_sendable (v ∷ vs) (m ∷ ms) is fit =
    let here : v.items ≡ bootstrap_text m = ap (λ (xs : List (List ℕ)). get_or xs 0 []) is in
    All-cons IsSendable v vs (omega (arith, ap length here, All-head Fits m ms fit))
    (each_sendable vs ms (ap (λ (xs : List (List ℕ)). drop 1 xs) is) (All-tail Fits m ms fit))

pub sendable : (h : BootstrapHead) (ranges : List GroupRange) (vs : List (Vec ℕ)) → All IsWritable ranges
    → map (λ (bytes : Vec ℕ). bytes.items) vs ≡ map bootstrap_text (fragments h (map range_rps ranges)) → All IsSendable vs
sendable h ranges vs writable is =
    each_sendable vs (fragments h (map range_rps ranges)) is
    (fragments_fit h (map range_rps ranges) (All-map IsCounted range_rps ranges (λ k d under. (writable k d under).counted)))

-- ---- advertisements

length-ranges : (rs : List AdvertisedRange) → length (flat_map advertised_text rs) ≡ 8 * length rs
length-ranges [] = refl
length-ranges (r ∷ rs) = omega (arith, length-ranges rs)

pub length-advertisement : (seconds : ℕ) (r : StandingRp) → length (advertisement_bytes seconds r) ≡ 14 + 8 * length r.ranges
unfolding advertisement_bytes advertisement_text pim_text with_checksum
length-advertisement seconds r = omega (arith, length-ranges (map advertised_range r.ranges), length-map_of advertised_range r.ranges)

pub fits_packet : (seconds : ℕ) (r : StandingRp) (message : List ℕ) → is_advertised r ≡ true → message ≡ advertisement_bytes seconds r
    → 20 + length message < 2 ^ 16
fits_packet seconds r message advertised is =
    let few : nat_le (length r.ranges) 183 ≡ true = and_second (nat_lt 0 (length r.ranges)) _ advertised in
    let most : length r.ranges ≤ 183 = grind (arith, nat_tests, few) in
    omega (arith, most, ap length is, length-advertisement seconds r)
