-- What is left of rows and settings, with the limit that goes by them.
use Rattle.std.{proofs.Common.{◌≡◌, ◌∙◌, ap, length, max, List, ℕ}}
use Rattle.pim_model.{specs.Tables.Table}
use Rattle.igmp_older.{specs.{Presence.Present, declared.{mode.PresentRow.PresentRow, setting.OlderHosts.OlderHosts}}}

abbrev all : Table PresentRow → ℕ → List OlderHosts → Present
all rows limit hosts = record { rows = rows; limit = limit; hosts = hosts }

pub left_same : (rows left : Table PresentRow) (limit n m : ℕ) (hosts settings : List OlderHosts) → rows ≡ left → m ≡ max limit n → n ≡ length rows
    → hosts ≡ settings → all rows m hosts ≡ all left (max limit (length left)) settings
left_same rows left limit n m hosts settings same most count set =
    ap (λ (k : ℕ). all rows k hosts) (most ∙ ap (λ (k : ℕ). max limit k) count)
    ∙ ap (λ (rs : Table PresentRow). all rs (max limit (length rs)) hosts) same
    ∙ ap (λ (hs : List OlderHosts). all left (max limit (length left)) hs) set
