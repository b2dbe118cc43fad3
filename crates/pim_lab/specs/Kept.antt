-- What is saved of a router of a scenario: its bytes, behind those of its listener for Bootstraps, if it has one.
use Rattle.std.{specs.{Borrow.Bor, Prelude.{Err, List, None, Ok, Option, Result, Some, if◌then◌else◌, ℕ, ◌==◌}}}
use Rattle.pim_saved.{specs.{Reading.{byte_at, list_at, word_at}, Text.{◌then◌, byte_text, list_text, word_text}, declared.refusal.SavedRefusal.SavedRefusal}}
use Rattle.pim_bsr.{specs.{Reading.restored, Table.Known, Text.known_text, declared.refusal.ListenerRefusal.ListenerRefusal}}

-- "VIQL"
abbrev pub tag : ℕ
tag = 0x5649_514c

-- the bytes of what a listener knows, behind the tag
unfoldable pub front_text : Known → List ℕ
front_text k = word_text tag then list_text byte_text (known_text k)

-- the same, if there is one, in front of a router's bytes
abbrev pub kept_text : Option Known → List ℕ → List ℕ
kept_text None router = router
kept_text (Some k) router = front_text k then router

-- what is known, and the router's bytes
abbrev pub Kept : Type 0
Kept = Option Known × List ℕ

abbrev pub before : List ℕ → Result Known ListenerRefusal → Result Kept ListenerRefusal
before router (Ok k) = Ok (Some k, router)
before router (Err refusal) = Err refusal

-- the bytes of a listener and of a router, if the former end
abbrev pub restored_from : Result (List ℕ × List ℕ) SavedRefusal → Result Kept ListenerRefusal
restored_from (Ok p) = before p.1 (restored p.0)
restored_from (Err refusal) = Err (ListenerRefusal.Bytes refusal)

-- what stands behind the tag, where bytes begin with it
abbrev pub behind_word : Result (ℕ × List ℕ) SavedRefusal → Option (List ℕ)
behind_word (Ok w) = if w.0 == tag then Some w.1 else None
behind_word (Err refusal) = None

abbrev pub opened_by : List ℕ → Option (List ℕ) → Result Kept ListenerRefusal
opened_by bytes None = Ok (None, bytes)
opened_by bytes (Some rest) = restored_from (list_at byte_at rest)

-- What a listener knew, where the bytes say so, and the router's bytes.
unfoldable pub opened : List ℕ → Result Kept ListenerRefusal
opened bytes = opened_by bytes (behind_word (word_at bytes))

-- the same without where the router's bytes lie
abbrev pub without_place : Result (Option Known × Bor (List ℕ)) ListenerRefusal → Result Kept ListenerRefusal
without_place (Ok p) = Ok (p.0, p.1.now)
without_place (Err refusal) = Err refusal
