-- The packets of the worked runs, byte by byte: a line with the IPv4 header, and one with what it carries.
-- G is 225.1.1.1, the RP 10.9.9.9.
use Rattle.std.{specs.Prelude.{List, [], ℕ, ◌++◌, ◌-◌, ◌∷◌}}
use Rattle.pim_types.{specs.declared.outcome.Emission.Emission}
use Rattle.pim_runs.{specs.Words.{hex, on}}

-- ---- Hellos received: Holdtime 65535 alone, where no other is named

-- A Hello of 10.0.0.1 on 0.
abbrev pub hello_of_10_0_0_1 : List ℕ
hello_of_10_0_0_1 =
    hex "45 c0 00 1e 00 00 00 00 01 67 ce ab 0a 00 00 01 e0 00 00 0d"
    ++ hex "20 00 df fc 00 01 00 02 ff ff"

-- A Hello of 10.0.1.2 on 1.
abbrev pub hello_of_10_0_1_2 : List ℕ
hello_of_10_0_1_2 =
    hex "45 c0 00 1e 00 00 00 00 01 67 cd aa 0a 00 01 02 e0 00 00 0d"
    ++ hex "20 00 df fc 00 01 00 02 ff ff"

-- A Hello of 10.0.1.3 on 1.
abbrev pub hello_of_10_0_1_3 : List ℕ
hello_of_10_0_1_3 =
    hex "45 c0 00 1e 00 00 00 00 01 67 cd a9 0a 00 01 03 e0 00 00 0d"
    ++ hex "20 00 df fc 00 01 00 02 ff ff"

-- A Hello of 10.0.0.9 on 0.
abbrev pub hello_of_10_0_0_9 : List ℕ
hello_of_10_0_0_9 =
    hex "45 c0 00 1e 00 00 00 00 01 67 ce a3 0a 00 00 09 e0 00 00 0d"
    ++ hex "20 00 df fc 00 01 00 02 ff ff"

-- A Hello of 10.0.2.9 on 2.
abbrev pub hello_of_10_0_2_9 : List ℕ
hello_of_10_0_2_9 =
    hex "45 c0 00 1e 00 00 00 00 01 67 cc a3 0a 00 02 09 e0 00 00 0d"
    ++ hex "20 00 df fc 00 01 00 02 ff ff"

-- A Hello of 10.0.0.9 on 0 with Holdtime 105 alone.
abbrev pub hello_for_105_s : List ℕ
hello_for_105_s =
    hex "45 c0 00 1e 00 00 00 00 01 67 ce a3 0a 00 00 09 e0 00 00 0d"
    ++ hex "20 00 df 93 00 01 00 02 00 69"

-- ---- Joins and Prunes received on 1, from 10.0.1.2 to 10.0.1.1 where no other address is named

-- Join(*,G)
abbrev pub join_star : List ℕ
join_star =
    hex "45 c0 00 36 00 00 00 00 01 67 cd 92 0a 00 01 02 e0 00 00 0d"
    ++ hex "23 00 d1 d5 01 00 0a 00 01 01 00 01 00 d2 01 00 00 20 e1 01 01 01 00 01 00 00 01 00 07 20 0a 09 09 09"

-- Prune(*,G)
abbrev pub prune_star : List ℕ
prune_star =
    hex "45 c0 00 36 00 00 00 00 01 67 cd 92 0a 00 01 02 e0 00 00 0d"
    ++ hex "23 00 d1 d5 01 00 0a 00 01 01 00 01 00 d2 01 00 00 20 e1 01 01 01 00 00 00 01 01 00 07 20 0a 09 09 09"

-- Join(*,G) with the RP 10.9.9.8
abbrev pub join_star_of_other_rp : List ℕ
join_star_of_other_rp =
    hex "45 c0 00 36 00 00 00 00 01 67 cd 92 0a 00 01 02 e0 00 00 0d"
    ++ hex "23 00 d1 d6 01 00 0a 00 01 01 00 01 00 d2 01 00 00 20 e1 01 01 01 00 01 00 00 01 00 07 20 0a 09 09 08"

-- Join(10.0.3.5,G)
abbrev pub join_source : List ℕ
join_source =
    hex "45 c0 00 36 00 00 00 00 01 67 cd 92 0a 00 01 02 e0 00 00 0d"
    ++ hex "23 00 da e2 01 00 0a 00 01 01 00 01 00 d2 01 00 00 20 e1 01 01 01 00 01 00 00 01 00 04 20 0a 00 03 05"

-- Join(10.0.3.200,G)
abbrev pub join_source_200 : List ℕ
join_source_200 =
    hex "45 c0 00 36 00 00 00 00 01 67 cd 92 0a 00 01 02 e0 00 00 0d"
    ++ hex "23 00 da 1f 01 00 0a 00 01 01 00 01 00 d2 01 00 00 20 e1 01 01 01 00 01 00 00 01 00 04 20 0a 00 03 c8"

-- Join(10.0.3.k,G), for k up to 231
abbrev pub join_source_of : ℕ → List ℕ
join_source_of k =
    hex "45 c0 00 36 00 00 00 00 01 67 cd 92 0a 00 01 02 e0 00 00 0d" ++ hex "23 00 da" ++ (0xe7 - k)
    ∷ hex "01 00 0a 00 01 01 00 01 00 d2 01 00 00 20 e1 01 01 01 00 01 00 00 01 00 04 20 0a 00 03" ++ k ∷ []

-- Prune(10.0.3.5,G)
abbrev pub prune_source : List ℕ
prune_source =
    hex "45 c0 00 36 00 00 00 00 01 67 cd 92 0a 00 01 02 e0 00 00 0d"
    ++ hex "23 00 da e2 01 00 0a 00 01 01 00 01 00 d2 01 00 00 20 e1 01 01 01 00 00 00 01 01 00 04 20 0a 00 03 05"

-- Join(10.0.2.5,G) with holdtime 65535
abbrev pub join_host_forever : List ℕ
join_host_forever =
    hex "45 c0 00 36 00 00 00 00 01 67 cd 92 0a 00 01 02 e0 00 00 0d"
    ++ hex "23 00 dc b4 01 00 0a 00 01 01 00 01 ff ff 01 00 00 20 e1 01 01 01 00 01 00 00 01 00 04 20 0a 00 02 05"

-- Join(10.0.3.5,G) with holdtime 1
abbrev pub join_source_for_1_s : List ℕ
join_source_for_1_s =
    hex "45 c0 00 36 00 00 00 00 01 67 cd 92 0a 00 01 02 e0 00 00 0d"
    ++ hex "23 00 db b3 01 00 0a 00 01 01 00 01 00 01 01 00 00 20 e1 01 01 01 00 01 00 00 01 00 04 20 0a 00 03 05"

-- Join(10.0.3.5,G) with holdtime 65535
abbrev pub join_source_forever : List ℕ
join_source_forever =
    hex "45 c0 00 36 00 00 00 00 01 67 cd 92 0a 00 01 02 e0 00 00 0d"
    ++ hex "23 00 db b4 01 00 0a 00 01 01 00 01 ff ff 01 00 00 20 e1 01 01 01 00 01 00 00 01 00 04 20 0a 00 03 05"

-- ---- a Join seen on 0, from 10.0.0.9 to 10.0.0.1

-- Join(*,G)
abbrev pub join_star_beside : List ℕ
join_star_beside =
    hex "45 c0 00 36 00 00 00 00 01 67 ce 8b 0a 00 00 09 e0 00 00 0d"
    ++ hex "23 00 d2 d5 01 00 0a 00 00 01 00 01 00 d2 01 00 00 20 e1 01 01 01 00 01 00 00 01 00 07 20 0a 09 09 09"

-- ---- Joins and Prunes sent on 0 to 10.0.0.1

-- Join(10.0.3.5,G)
abbrev pub join_source_up : Emission
join_source_up = on 0 (
    hex "45 c0 00 36 00 00 00 00 01 67 ce 92 0a 00 00 02 e0 00 00 0d"
    ++ hex "23 00 db e2 01 00 0a 00 00 01 00 01 00 d2 01 00 00 20 e1 01 01 01 00 01 00 00 01 00 04 20 0a 00 03 05")

-- Prune(10.0.3.5,G)
abbrev pub prune_source_up : Emission
prune_source_up = on 0 (
    hex "45 c0 00 36 00 00 00 00 01 67 ce 92 0a 00 00 02 e0 00 00 0d"
    ++ hex "23 00 db e2 01 00 0a 00 00 01 00 01 00 d2 01 00 00 20 e1 01 01 01 00 00 00 01 01 00 04 20 0a 00 03 05")

-- ---- reports received on 2, from 10.0.2.7

-- TO_EX({}) for G
abbrev pub to_exclude : List ℕ
to_exclude =
    hex "46 c0 00 28 00 00 00 00 01 02 37 f3 0a 00 02 07 e0 00 00 16 94 04 00 00"
    ++ hex "22 00 f7 fb 00 00 00 01 04 00 00 00 e1 01 01 01"

-- ALLOW({10.0.3.5}) for G
abbrev pub allow_source : List ℕ
allow_source =
    hex "46 c0 00 2c 00 00 00 00 01 02 37 ef 0a 00 02 07 e0 00 00 16 94 04 00 00"
    ++ hex "22 00 e9 f5 00 00 00 01 05 00 00 01 e1 01 01 01 0a 00 03 05"

-- IS_EX({}) for G
abbrev pub is_exclude : List ℕ
is_exclude =
    hex "46 c0 00 28 00 00 00 00 01 02 37 f3 0a 00 02 07 e0 00 00 16 94 04 00 00"
    ++ hex "22 00 f9 fb 00 00 00 01 02 00 00 00 e1 01 01 01"

-- TO_EX({10.0.2.4, 10.0.2.5}) for G
abbrev pub to_exclude_two : List ℕ
to_exclude_two =
    hex "46 c0 00 30 00 00 00 00 01 02 37 eb 0a 00 02 07 e0 00 00 16 94 04 00 00"
    ++ hex "22 00 df f0 00 00 00 01 04 00 00 02 e1 01 01 01 0a 00 02 04 0a 00 02 05"

-- ---- queries

-- a general query received on 0, from 10.0.0.1: QRV 3, QQIC 60
abbrev pub query_of_robustness_3 : List ℕ
query_of_robustness_3 =
    hex "46 c0 00 24 00 00 00 00 01 02 3a 12 0a 00 00 01 e0 00 00 01 94 04 00 00"
    ++ hex "11 64 eb 5f 00 00 00 00 03 3c 00 00"

-- the query of 10.0.2.5 to G, sent on 2
abbrev pub source_query_on_2 : Emission
source_query_on_2 = on 2 (
    hex "46 c0 00 28 00 00 00 00 01 02 36 0d 0a 00 02 01 e1 01 01 01 94 04 00 00"
    ++ hex "11 0a fe 6f e1 01 01 01 02 7d 00 01 0a 00 02 05")

-- ---- data packets received

-- A packet from 10.0.3.5 to G, on 0.
abbrev pub packet : List ℕ
packet =
    hex "45 00 00 1c 00 00 00 00 40 11 8b ca 0a 00 03 05 e1 01 01 01"
    ++ hex "00 01 00 02 00 03 00 04"

-- A packet from 10.0.3.k to G, on 0, for k up to 207.
abbrev pub data_from : ℕ → List ℕ
data_from k =
    hex "45 00 00 1c 00 00 00 00 40 11 8b" ++ (0xcf - k) ∷ hex "0a 00 03" ++ k ∷ hex "e1 01 01 01"
    ++ hex "00 01 00 02 00 03 00 04"

-- A packet from 10.0.2.5 to G, on 2.
abbrev pub host_packet : List ℕ
host_packet =
    hex "45 00 00 1c 00 00 00 00 40 11 8c ca 0a 00 02 05 e1 01 01 01"
    ++ hex "00 01 00 02 00 03 00 04"

-- ---- data packets sent: TTL one lower

-- the packet of 10.0.3.5 on 1
abbrev pub copy_on_1 : Emission
copy_on_1 = on 1 (
    hex "45 00 00 1c 00 00 00 00 3f 11 8c ca 0a 00 03 05 e1 01 01 01"
    ++ hex "00 01 00 02 00 03 00 04")

-- the packet of 10.0.3.5 on 2
abbrev pub copy_on_2 : Emission
copy_on_2 = on 2 (
    hex "45 00 00 1c 00 00 00 00 3f 11 8c ca 0a 00 03 05 e1 01 01 01"
    ++ hex "00 01 00 02 00 03 00 04")

-- ---- Register-Stops received

-- the Register-Stop from the RP to 10.0.2.1
abbrev pub register_stop_received : List ℕ
register_stop_received =
    hex "45 c0 00 26 00 00 00 00 40 67 5a 9f 0a 09 09 09 0a 00 02 01"
    ++ hex "22 00 ed d7 01 00 00 20 e1 01 01 01 01 00 0a 00 02 05"
