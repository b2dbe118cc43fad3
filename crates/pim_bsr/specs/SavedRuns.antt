-- What a listener knows, as bytes, computed by the kernel. The bytes are written by hand from the layout, and their sum is
-- CRC-32 of them by another program.
use Rattle.std.{specs.Prelude.{◌≡◌, ℕ, true, List, [], ◌∷◌, Some, Ok, Err}}
use Rattle.pim_ip.{specs.{Addr.addr, declared.addr.Prefix.Prefix}}
use Rattle.pim_types.{specs.declared.config.RpRange.RpRange}
use Rattle.pim_bsr.{specs.{Reading.restored, Table.{Known, choosing}, Text.known_text, declared.{choice.Choice.Choice, learned.{Learned.Learned, Part.Part}, refusal.ListenerRefusal.ListenerRefusal}}}

abbrev eight : ℕ → Prefix
eight address = record { address = addr address; length = 8 }

-- 10.0.0.1 is configured for 239.9.0.0/16
abbrev static : List RpRange
static = record { prefix = record { address = addr 0xEF09_0000; length = 16 }; rp = addr 0x0A00_0001 } ∷ []

-- 10.0.0.99 of 239.0.0.0/8, in force until 151,000 ms
abbrev in_force : Learned
in_force = record { prefix = eight 0xEF00_0000; hash_length = 30; rp = addr 0x0A00_0063; priority = 3; end = 151000 }

-- one RP of 238.0.0.0/8, of the fragment tag 11
abbrev waiting : Part
waiting = record {
  prefix = eight 0xEE00_0000;
  rp = record { address = addr 0x0A4D_0002; holdtime = 150; priority = 0 };
  bsr = addr 0x0A00_0009;
  tag = 11;
  until = 131000;
}

-- what is known at 1,000 ms, with these RPs in force, of which one is chosen for a whole range
abbrev known : List Learned → Known
known rps = record {
  static = static;
  limit = 256;
  choice = Choice.Range;
  elected = Some (record { bsr = addr 0x0A00_0009; priority = 7; end = 131000 });
  heard = true;
  refresh_end = 60000;
  table = record { rps = rps; parts = waiting ∷ [] };
  last = 0x24 ∷ 0 ∷ [];
  last_end = 2000;
}

-- "VIQB", version 1, one configured range, a limit of 256; the elected BSR, that a message was accepted, and 60,000 ms;
-- one RP, one part, the last message and until when it is a repetition; the sum
abbrev bytes : List ℕ
bytes =
    0x56 ∷ 0x49 ∷ 0x51 ∷ 0x42 ∷ 0 ∷ 1 ∷ 0 ∷ 0 ∷ 0 ∷ 0 ∷ 0 ∷ 0 ∷ 0 ∷ 1 ∷ 0xEF ∷ 9 ∷ 0 ∷ 0 ∷ 0 ∷ 0 ∷ 0 ∷ 0x10 ∷
    0x0A ∷ 0 ∷ 0 ∷ 1 ∷ 0 ∷ 0 ∷ 0 ∷ 0 ∷ 0 ∷ 0 ∷ 1 ∷ 0 ∷ 1 ∷ 0x0A ∷ 0 ∷ 0 ∷ 9 ∷ 7 ∷ 0 ∷ 0 ∷ 0 ∷ 0 ∷ 0 ∷ 1 ∷ 0xFF ∷
    0xB8 ∷ 1 ∷ 0 ∷ 0 ∷ 0 ∷ 0 ∷ 0 ∷ 0 ∷ 0xEA ∷ 0x60 ∷ 0 ∷ 0 ∷ 0 ∷ 0 ∷ 0 ∷ 0 ∷ 0 ∷ 1 ∷ 0xEF ∷ 0 ∷ 0 ∷ 0 ∷ 0 ∷ 0 ∷
    0 ∷ 8 ∷ 0x1E ∷ 0x0A ∷ 0 ∷ 0 ∷ 0x63 ∷ 3 ∷ 0 ∷ 0 ∷ 0 ∷ 0 ∷ 0 ∷ 2 ∷ 0x4D ∷ 0xD8 ∷ 0 ∷ 0 ∷ 0 ∷ 0 ∷ 0 ∷ 0 ∷ 0 ∷
    1 ∷ 0xEE ∷ 0 ∷ 0 ∷ 0 ∷ 0 ∷ 0 ∷ 0 ∷ 8 ∷ 0x0A ∷ 0x4D ∷ 0 ∷ 2 ∷ 0 ∷ 0x96 ∷ 0 ∷ 0x0A ∷ 0 ∷ 0 ∷ 9 ∷ 0 ∷ 0x0B ∷
    0 ∷ 0 ∷ 0 ∷ 0 ∷ 0 ∷ 1 ∷ 0xFF ∷ 0xB8 ∷ 0 ∷ 0 ∷ 0 ∷ 0 ∷ 0 ∷ 0 ∷ 0 ∷ 2 ∷ 0x24 ∷ 0 ∷ 0 ∷ 0 ∷ 0 ∷ 0 ∷ 0 ∷ 0 ∷ 7 ∷
    0xD0 ∷ 0xFE ∷ 0x2B ∷ 0x7A ∷ 0xC1 ∷ []

-- The bytes are those of what is known, and what is known is restored of them.
abbrev pub SavedListenerHasBytes : Type 0
SavedListenerHasBytes = (known_text (known (in_force ∷ [])) ≡ bytes) × (restored bytes ≡ Ok (known (in_force ∷ [])))

-- the same where an RP is chosen for each group: version 2, and another sum
abbrev group_bytes : List ℕ
group_bytes =
    0x56 ∷ 0x49 ∷ 0x51 ∷ 0x42 ∷ 0 ∷ 2 ∷ 0 ∷ 0 ∷ 0 ∷ 0 ∷ 0 ∷ 0 ∷ 0 ∷ 1 ∷ 0xEF ∷ 9 ∷ 0 ∷ 0 ∷ 0 ∷ 0 ∷ 0 ∷ 0x10 ∷ 0x0A ∷
    0 ∷ 0 ∷ 1 ∷ 0 ∷ 0 ∷ 0 ∷ 0 ∷ 0 ∷ 0 ∷ 1 ∷ 0 ∷ 1 ∷ 0x0A ∷ 0 ∷ 0 ∷ 9 ∷ 7 ∷ 0 ∷ 0 ∷ 0 ∷ 0 ∷ 0 ∷ 1 ∷ 0xFF ∷ 0xB8 ∷ 1 ∷
    0 ∷ 0 ∷ 0 ∷ 0 ∷ 0 ∷ 0 ∷ 0xEA ∷ 0x60 ∷ 0 ∷ 0 ∷ 0 ∷ 0 ∷ 0 ∷ 0 ∷ 0 ∷ 1 ∷ 0xEF ∷ 0 ∷ 0 ∷ 0 ∷ 0 ∷ 0 ∷ 0 ∷ 8 ∷ 0x1E ∷
    0x0A ∷ 0 ∷ 0 ∷ 0x63 ∷ 3 ∷ 0 ∷ 0 ∷ 0 ∷ 0 ∷ 0 ∷ 2 ∷ 0x4D ∷ 0xD8 ∷ 0 ∷ 0 ∷ 0 ∷ 0 ∷ 0 ∷ 0 ∷ 0 ∷ 1 ∷ 0xEE ∷ 0 ∷ 0 ∷
    0 ∷ 0 ∷ 0 ∷ 0 ∷ 8 ∷ 0x0A ∷ 0x4D ∷ 0 ∷ 2 ∷ 0 ∷ 0x96 ∷ 0 ∷ 0x0A ∷ 0 ∷ 0 ∷ 9 ∷ 0 ∷ 0x0B ∷ 0 ∷ 0 ∷ 0 ∷ 0 ∷ 0 ∷ 1 ∷
    0xFF ∷ 0xB8 ∷ 0 ∷ 0 ∷ 0 ∷ 0 ∷ 0 ∷ 0 ∷ 0 ∷ 2 ∷ 0x24 ∷ 0 ∷ 0 ∷ 0 ∷ 0 ∷ 0 ∷ 0 ∷ 0 ∷ 7 ∷ 0xD0 ∷ 0xF4 ∷ 0x6A ∷ 0x17 ∷
    0x9E ∷ []

abbrev pub ByGroupHasBytes : Type 0
ByGroupHasBytes =
    (known_text (choosing Choice.Group (known (in_force ∷ []))) ≡ group_bytes)
    × (restored group_bytes ≡ Ok (choosing Choice.Group (known (in_force ∷ []))))

-- No listener is made of bytes in which an RP stands twice, or has a hash mask of 33 bits.
abbrev pub TwiceIsRefused : Type 0
TwiceIsRefused =
    (restored (known_text (known (in_force ∷ in_force ∷ []))) ≡ Err ListenerRefusal.RpsNotHeld)
    × (restored (known_text (known ((record in_force { hash_length = 33 }) ∷ []))) ≡ Err ListenerRefusal.RpsNotHeld)
