-- A key as two numbers that compare as the key does.
use Rattle.std.{specs.{Int.from_bool, Option.option_map_or, Prelude.{Option, ℕ, ◌*◌, ◌+◌, ◌^◌}}}
use Rattle.pim_ip.{specs.declared.addr.Addr.Addr}
use Rattle.pim_types.{specs.declared.fact.Key.Key}

-- The interface and the group, as one number.
unfoldable pub upper : Key → ℕ
upper k = k.iface.number * 2 ^ 32 + k.group.bits

-- A source as a number: 0 where there is none, else above 2 ^ 32.
unfoldable pub source_number : Option Addr → ℕ
source_number source = option_map_or (λ a. 2 ^ 32 + a.bits) source 0

-- The source of a key, and whether it is of (S,G,rpt), as one number.
unfoldable pub lower : Key → ℕ
lower k = source_number k.source * 2 + from_bool k.rpt
