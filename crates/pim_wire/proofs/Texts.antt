-- How texts are written one behind the other.
use Rattle.std.{proofs.{Common.{◌≡◌, ℕ, ◌+◌, ◌≤◌, List, ◌++◌, length, take, drop, refl, sym, ap, ◌∙◌, arith}, lemmas.List.{length-append, length-take, take-take, take_at, drop_at}}, specs.List.flat_map}
use Rattle.pim_ip.{specs.Checksum.with_checksum}
use Rattle.pim_wire.{specs.{declared.join_prune.Entry.Entry, Encoded.pim_text, JoinPrunes.{entry_text, join_prune_text}, JoinPruneTexts.join_prune_header_text}}

-- what stands first stays first
pub kept_more : (a b c : List ℕ) → take (length a) b ≡ a → take (length b) c ≡ b → take (length a) c ≡ a
kept_more a b c h k =
    let shorter : length a ≤ length b = omega (arith, ap length h, length-take (length a) b) in
    sym (take-take (length a) (length b) c shorter) ∙ ap (take (length a)) k ∙ h

pub kept_first : (a b c : List ℕ) → b ≡ a ++ c → take (length a) b ≡ a
kept_first a b c e = rw e (take_at a c (length a) refl)

-- the text of a Join/Prune is that with 0 for the checksum, after its checksum is made
pub join_prune_summed : (upstream group : ℕ) (joins prunes : List Entry) (text : List ℕ)
    → text ≡ join_prune_header_text upstream group (length joins) (length prunes) ++ flat_map entry_text joins ++ flat_map entry_text prunes
    → with_checksum (take 2 text) (drop 4 text) ≡ join_prune_text upstream group joins prunes
unfolding join_prune_header_text join_prune_text pim_text
join_prune_summed upstream group joins prunes text e = rw e refl

-- a text behind others has room for its checksum
pub has_checksum : (upstream group joins prunes : ℕ) (old items xs ys : List ℕ)
    → items ≡ old ++ (join_prune_header_text upstream group joins prunes ++ xs ++ ys) → length old + 4 ≤ length items
unfolding join_prune_header_text
has_checksum upstream group joins prunes old items xs ys e =
    omega (arith, ap length e, length-append old (join_prune_header_text upstream group joins prunes ++ xs ++ ys))

-- the checksum is made in the text behind others
pub summed_behind : (old text items new : List ℕ) (start : ℕ) → items ≡ old ++ text → start ≡ length old
    → new ≡ take start items ++ with_checksum (take 2 (drop start items)) (drop 4 (drop start items))
    → new ≡ old ++ with_checksum (take 2 text) (drop 4 text)
summed_behind old text items new start e es en =
    let front : take start items ≡ old = rw e (take_at old text start (sym es)) in
    let back : drop start items ≡ text = rw e (drop_at old text start (sym es)) in
    en ∙ rw (front, back) refl
