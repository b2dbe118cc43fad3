-- The one text of a router's state with its groups of older hosts.
use Rattle.std.{specs.Prelude.{ℕ, List, [], ◌∷◌}}
use Rattle.pim_model.{specs.{State.State, Tables.Table}}
use Rattle.pim_saved.{specs.{Crc.crc32, Fits.{FitsEnd, FitsState, FitsTable}, Text.{◌then◌, end_text, table_text, text, word_text}}}
use Rattle.igmp_older_saved.{specs.declared.host.HostRow.HostRow}

-- a router's state, and the rows of older hosts that are saved with it
pub record Held : Type 0 where
  pub hosts : Table HostRow
  pub state : State

unfoldable pub host_text : HostRow → List ℕ
host_text r = end_text r.one_end then end_text r.two_end

abbrev pub FitsHost : HostRow → Type 0
FitsHost r = FitsEnd r.one_end × FitsEnd r.two_end

abbrev pub FitsHeld : Held → Type 0
FitsHeld h = FitsTable FitsHost h.hosts × FitsState h.state

-- "VIQF"
abbrev pub tag : ℕ
tag = 0x5649_5146

-- what stands in front of the router's bytes
unfoldable pub hosts_text : Table HostRow → List ℕ
hosts_text hosts = word_text tag then table_text host_text hosts

-- bytes with their sum behind them
abbrev pub summed : List ℕ → List ℕ
summed bytes = bytes then word_text (crc32 bytes)

-- the rows of older hosts, if there are any, and the router's bytes
unfoldable pub text_with : Table HostRow → List ℕ → List ℕ
text_with [] bytes = bytes
text_with (e ∷ more) bytes = summed (hosts_text (e ∷ more) then bytes)

-- The bytes of a router's state with rows of older hosts. Without any they are the router's.
abbrev pub held_text : Held → List ℕ
held_text h = text_with h.hosts (text h.state)
